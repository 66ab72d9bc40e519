-- The graph round an action by a plan is the one that the laws of order mean.
use Rattle.std.proofs.Common.{◌≡◌, ℕ, suc, Bool, true, false, ◌&&◌, not, nat_eq, nat_lt, length, List, [], ◌∷◌, ◌++◌, Option, Some, None, option_map, ⊎_elim, refl, sym, ap, ◌∙◌, arith, eq-eqb, eqb-true, true≢false}
use Rattle.std.proofs.lemmas.Option.{none-some}
use Rattle.wf_layers.specs.Address.{Address, Table, address, same_at}
use Rattle.wf_layers.specs.Changes.{is_next, owns}
use Rattle.wf_layers.specs.Definition.{Graph, Kind, Leaf, Scope, Choice, Foreach, Until, has, kind_of}
use Rattle.wf_layers.specs.Machine.{has_ended}
use Rattle.wf_layers.proofs.Basics.{not_true, two}
use Rattle.wf_tables.specs.Plan.{PlanTree, shape_of}
use Rattle.wf_tables.specs.PlanOf.{IsPlanOf}
use Rattle.wf_tables.specs.PlanSeen.{at_place}
use Rattle.wf_step_laws.specs.Edits.{HasOneHolder, is_foreach}
use Rattle.wf_events.specs.Round.{but_last, is_finished, is_graph, is_turn, outer_at, outer_or_same, round_at, round_in, turn_or_none}

last_of : (before : List ℕ) (x : ℕ) → but_last (before ++ x ∷ []) ≡ before
last_of [] x = refl
last_of (a ∷ []) x = refl
last_of (a ∷ b ∷ before) x = ap (λ rest. a ∷ rest) (last_of (b ∷ before) x)

pub last_dropped : (at before : List ℕ) (x : ℕ) → at ≡ before ++ x ∷ [] → but_last at ≡ before
last_dropped at before x is = ap but_last is ∙ last_of before x

flipped : (a b : ℕ) → nat_eq a b ≡ nat_eq b a
flipped a b = grind (arith)

some_is : {A : Type 0} {u v : A} → Some u ≡ Some v → u ≡ v
some_is e = cc (e)

and_false : (a : Bool) → false ≡ (a && false)
and_false true = refl
and_false false = refl

pub no_next : (j : List ℕ) → false ≡ is_next j []
no_next [] = refl
no_next (a ∷ j) = refl

some_more : (k : ℕ) → nat_lt 0 (suc k) ≡ true
some_more k = grind (arith)

pub outer_is : (a : ℕ) (i j : List ℕ) → same_at (but_last (a ∷ i)) j ≡ is_next j (a ∷ i)
outer_is a [] [] = refl
outer_is a [] (b ∷ j) = and_false (nat_eq b a) ∙ ap (λ z. nat_eq b a && z) (no_next j)
outer_is a (b ∷ i) [] = refl
outer_is a (b ∷ i) (c ∷ j) =
    ap (λ z. z && same_at (but_last (b ∷ i)) j) (flipped a c) ∙ ap (λ z. nat_eq c a && z) (outer_is b i j)

-- all but the last of the indexes are those of a loop
next_at : (i j : List ℕ) → (nat_lt 0 (length i) && same_at (but_last i) j) ≡ is_next j i
next_at [] j = no_next j
next_at (a ∷ i) j = ap (λ z. z && same_at (but_last (a ∷ i)) j) (some_more (length i)) ∙ outer_is a i j

swap : (a b c : Bool) → ((a && b) && c) ≡ ((a && c) && b)
swap true true true = refl
swap true true false = refl
swap true false true = refl
swap true false false = refl
swap false b c = refl

turn_is : (kind : Kind) (i j : List ℕ) (b : Bool)
    → ((is_turn (shape_of kind) i && b) && same_at (outer_at (shape_of kind) i) j) ≡ (is_foreach (Some kind) && (is_next j i && b))
turn_is Leaf i j b = refl
turn_is (Scope g) i j b = refl
turn_is (Choice bs) i j b = refl
turn_is (Foreach pace g) i j b =
    swap (nat_lt 0 (length i)) b (same_at (but_last i) j) ∙ ap (λ z. z && b) (next_at i j)
turn_is (Until most g) i j b = refl

nowhere : (a b c : Bool) → false ≡ (a && ((false && b) && c))
nowhere true b c = refl
nowhere false b c = refl

elsewhere : (a b : Bool) → (a && (false && b)) ≡ false
elsewhere true b = refl
elsewhere false b = refl

module _ (d : Graph) (p : PlanTree) (plan : IsPlanOf d p) (n : ℕ) (is_in : has d n ≡ true) where
  pub one_holder : HasOneHolder d n
  one_holder a b ta tb = some_is (sym (plan.held n a is_in ta) ∙ plan.held n b is_in tb)

  pub no_holder : at_place p.holders n ≡ None → (x : ℕ) → owns (kind_of d x) n ≡ false
  no_holder e x = not_true (owns (kind_of d x) n) (λ t. none-some x (sym e ∙ plan.held n x is_in t))

  pub holder_is : (c : ℕ) → at_place p.holders n ≡ Some c → (x : ℕ) → nat_eq c x ≡ owns (kind_of d x) n
  holder_is c e x =
      ⊎_elim
      (λ t. eq-eqb c x (some_is (sym e ∙ plan.held n x is_in t)) ∙ sym t)
      (λ u. not_true (nat_eq c x) (λ q. true≢false
      (sym (plan.holder n c e) ∙ ap (λ z. owns (kind_of d z) n) (eqb-true c x q) ∙ u)) ∙ sym u)
      (two (owns (kind_of d x) n))

  module _ (i : List ℕ) where
    -- what lacks one less
    pub graph_is : (x : Address)
        → is_graph (round_at p (record { action = n; at = i })) x ≡ (owns (kind_of d x.name) n && same_at i x.at)
    graph_is x = go (at_place p.holders n) refl
      where
        go : (o : Option ℕ) → at_place p.holders n ≡ o
            → is_graph (option_map (round_in p i) o) x ≡ (owns (kind_of d x.name) n && same_at i x.at)
        go None e = sym (ap (λ b. b && same_at i x.at) (no_holder e x.name))
        go (Some c) e = ap (λ b. b && same_at i x.at) (holder_is c e x.name)

    -- what has one unfinished iteration less
    pub finished_is : (lacks : Table ℕ) (x : Address) → is_finished (round_at p (record { action = n; at = i })) lacks x
        ≡ (is_foreach (kind_of d x.name) && ((owns (kind_of d x.name) n && is_next x.at i) && not (has_ended (lacks (address x.name i)))))
    finished_is lacks x = go (at_place p.holders n) refl
      where
        now : ℕ → Bool
        now z = not (has_ended (lacks (address z i)))

        at_last : ℕ → Bool
        at_last z = is_foreach (kind_of d z) && ((owns (kind_of d z) n && is_next x.at i) && not (has_ended (lacks (address z i))))

        none_there : owns (kind_of d x.name) n ≡ false → false ≡ at_last x.name
        none_there u =
            nowhere (is_foreach (kind_of d x.name)) (is_next x.at i) (not (has_ended (lacks (address x.name i))))
            ∙ ap (λ b. is_foreach (kind_of d x.name) && ((b && is_next x.at i) && not (has_ended (lacks (address x.name i))))) (sym u)

        by_kind : (c : ℕ) → owns (kind_of d c) n ≡ true → (o : Option Kind) → kind_of d c ≡ o
            → ((turn_or_none (at_place p.entries c) i && not (has_ended (lacks (address c i))))
            && same_at (outer_or_same (at_place p.entries c) i) x.at) ≡ at_last c
        by_kind c t None kn = absurd (true≢false (sym t ∙ ap (λ o. owns o n) kn))
        by_kind c t (Some kind) kn =
            let entry = plan.entry c kind kn in
            ap (λ z. (turn_or_none z i && not (has_ended (lacks (address c i)))) && same_at (outer_or_same z i) x.at) entry.1
            ∙ ap (λ z. (is_turn z i && not (has_ended (lacks (address c i)))) && same_at (outer_at z i) x.at) entry.2.shape
            ∙ turn_is kind i x.at (not (has_ended (lacks (address c i))))
            ∙ ap (λ z. is_foreach z && (is_next x.at i && not (has_ended (lacks (address c i))))) (sym kn)
            ∙ ap (λ b. is_foreach (kind_of d c) && ((b && is_next x.at i) && not (has_ended (lacks (address c i))))) (sym t)

        go : (o : Option ℕ) → at_place p.holders n ≡ o → is_finished (option_map (round_in p i) o) lacks x ≡ at_last x.name
        go None e = none_there (no_holder e x.name)
        go (Some c) e =
            ⊎_elim
            (λ t. ap (λ b. (turn_or_none (at_place p.entries c) i && not (has_ended (lacks (address c i))))
            && (b && same_at (outer_or_same (at_place p.entries c) i) x.at)) t
            ∙ by_kind c (plan.holder n c e) (kind_of d c) refl ∙ ap at_last (eqb-true c x.name t))
            (λ u. ap (λ b. (turn_or_none (at_place p.entries c) i && not (has_ended (lacks (address c i))))
            && (b && same_at (outer_or_same (at_place p.entries c) i) x.at)) u
            ∙ elsewhere (turn_or_none (at_place p.entries c) i && not (has_ended (lacks (address c i))))
            (same_at (outer_or_same (at_place p.entries c) i) x.at)
            ∙ none_there (sym (holder_is c e x.name) ∙ u))
            (two (nat_eq c x.name))
