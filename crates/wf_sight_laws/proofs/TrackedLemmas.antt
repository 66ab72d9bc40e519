-- The tracked properties of an action in an accepted definition ask for no variable.
use Rattle.std.proofs.Common.{◌≡◌, ℕ, Bool, true, false, ◌||◌, cond, List, [], ◌∷◌, ◌++◌, map, Option, Some, None, inl, inr, refl, sym, ap}
use Rattle.std.proofs.Common.{◌∙◌, eqb-true, true≢false}
use Rattle.std.specs.Prelude.{bytes_eq, option_map}
use Rattle.std.specs.List.{AllByRecursion, find, list_any}
use Rattle.wf_val.specs.ValueTree.{ValueTree}
use Rattle.wf_template.specs.DataTree.{DataMember, data_members}
use Rattle.wf_layers.proofs.Basics.{two, unless, when}
use Rattle.wf_look.specs.Told.{Told}
use Rattle.wf_meant_laws.specs.Uses.{AgreeAt}
use Rattle.wf_meant_laws.specs.EvalUses.{members_uses}
use Rattle.wf_def.specs.ActionTree.{ActionTree, action, action_number}
use Rattle.wf_def.specs.AllActions.{all_actions, has_number, numbered}
use Rattle.wf_def.specs.DefTree.{DefTree}
use Rattle.wf_meant_laws.specs.UsesTree.{UsesTree, ordered, uses_tree}
use Rattle.wf_meant_laws.specs.Sites.{uses_at_tracked, uses_of}
use Rattle.wf_meant_laws.specs.Site.{Site}
use Rattle.wf_meant_laws.specs.Standing.{StandingTree, number_at, pointer_at, standings_of}
use Rattle.wf_meant_laws.specs.Whole.{whole_of}
use Rattle.wf_meant_laws.specs.Rules.{action_breaks, breaks_at, breaks_if, breaks_itself, is_any}
use Rattle.wf_meant_laws.specs.Rule.{Rule}
use Rattle.wf_meant_laws.specs.Broken.{broken_of, offences, rules_in_order, told}
use Rattle.wf_first.specs.First.{first_broken}
use Rattle.wf_meant_laws.specs.Tracked.{tracked_from, tracked_value}
use Rattle.wf_meant_laws.specs.Source.{tracked_of}
use Rattle.wf_meant_laws.proofs.WriterLemmas.{find_is, some_is}
use Rattle.wf_sight.proofs.FoundLemmas.{all_agree}
use Rattle.wf_sight_laws.proofs.LookLemmas.{AllHold, all_hold, tree_reads, variables_named}

-- ---- truth values and lists

first_off : (b c : Bool) → (b || c) ≡ false → b ≡ false
first_off true c is = is
first_off false c is = refl

second_off : (b c : Bool) → (b || c) ≡ false → c ≡ false
second_off true c is = absurd (true≢false is)
second_off false c is = is

front_none : {X : Type 0} (xs ys : List X) → xs ++ ys ≡ [] → xs ≡ []
front_none [] ys none = refl
front_none (x ∷ xs) ys none = absurd (cc)

back_none : {X : Type 0} (xs ys : List X) → xs ++ ys ≡ [] → ys ≡ []
back_none [] ys none = none
back_none (x ∷ xs) ys none = absurd (cc)

none_told : {X : Type 0} (broken : X → Bool) (pointer : X → List ℕ) (xs : List X) → told broken pointer xs ≡ []
    → AllByRecursion (λ x. broken x ≡ false) xs
none_told broken pointer [] none = tt
none_told broken pointer (x ∷ xs) none = (
  here (broken x) (front_none (cond (broken x) (pointer x ∷ []) []) (told broken pointer xs) none),
  none_told broken pointer xs (back_none (cond (broken x) (pointer x ∷ []) []) (told broken pointer xs) none),
)
  where
    here : (b : Bool) → cond b (pointer x ∷ []) [] ≡ [] → b ≡ false
    here true is = absurd (cc)
    here false is = refl

none_mapped : {X Y : Type 0} (f : X → Y) (o : Option X) → option_map f o ≡ None → o ≡ None
none_mapped f None none = refl
none_mapped f (Some x) none = absurd (cc)

pub none_broken : (d : DefTree) → broken_of d ≡ None → first_broken (offences d) rules_in_order ≡ None
none_broken d none = none_mapped _ (first_broken (offences d) rules_in_order) none

none_among : (k : List ℕ) (xs : List (List ℕ)) → is_any xs ≡ false → list_any (bytes_eq k) xs ≡ false
none_among k [] none = refl
none_among k (x ∷ xs) none = absurd (true≢false none)

-- ---- where an action stands

record Stands (P : StandingTree → Type 0) (a : ActionTree) : Type 0 where
  standing : StandingTree
  is : standing.action ≡ a
  holds : P standing

stands_of : (P : StandingTree → Type 0) (n : ℕ) (ss : List StandingTree) (a : ActionTree) → AllByRecursion P ss
    → find (has_number n) (map (λ s. s.action) ss) ≡ Some a → Stands P a
stands_of P n [] a all is = absurd (cc)
stands_of P n (s ∷ ss) a all is = elim (two (has_number n s.action)) [
  | inl t ↦ record {
    standing = s;
    is = some_is (sym (when (has_number n s.action) (Some s.action) (find (has_number n) (map (λ q. q.action) ss)) t) ∙ is);
    holds = all.0;
  }
  | inr f ↦
      stands_of P n ss a all.1
      (sym (unless (has_number n s.action) (Some s.action) (find (has_number n) (map (λ q. q.action) ss)) f) ∙ is)
]

-- ---- the rule

module _ (d : DefTree) (s : StandingTree) where
  abbrev At : Site → Bool
  At site = breaks_at (whole_of d) Rule.Tracked site (Some s)

  at_tracked : action_breaks (whole_of d) Rule.Tracked s ≡ false → At (Site.Tracked (number_at s)) ≡ false
  at_tracked none =
      let inputs = second_off (breaks_itself Rule.Tracked s)
      (At (Site.Inputs (number_at s)) || (At (Site.Items (number_at s)) || (At (Site.Test (number_at s))
      || At (Site.Tracked (number_at s))))) none in
      let items = second_off (At (Site.Inputs (number_at s)))
      (At (Site.Items (number_at s)) || (At (Site.Test (number_at s)) || At (Site.Tracked (number_at s)))) inputs in
      let test = second_off (At (Site.Items (number_at s))) (At (Site.Test (number_at s)) || At (Site.Tracked (number_at s))) items in
      second_off (At (Site.Test (number_at s))) (At (Site.Tracked (number_at s))) test

module _ (same : (k : List ℕ) (ks : List (List ℕ)) → list_any (bytes_eq k) (ordered ks) ≡ list_any (bytes_eq k) ks) (d : DefTree)
    (actions : map (λ s. s.action) (standings_of d.top) ≡ all_actions d.top) (kept : offences d Rule.Tracked ≡ []) (n : ℕ) (a : ActionTree)
    (found : numbered n d.top ≡ Some a) where
  standing : Stands (λ s. action_breaks (whole_of d) Rule.Tracked s ≡ false) a
  standing =
      stands_of (λ s. action_breaks (whole_of d) Rule.Tracked s ≡ false) n (standings_of d.top) a
      (none_told (action_breaks (whole_of d) Rule.Tracked) pointer_at (standings_of d.top)
      (front_none (told (action_breaks (whole_of d) Rule.Tracked) pointer_at (standings_of d.top)) _ kept))
      (ap (find (has_number n)) actions ∙ found)

  number_is : number_at standing.standing ≡ n
  number_is =
      ap action_number standing.is ∙ sym (eqb-true n (action_number a) (find_is (has_number n) (all_actions d.top) a found).holds)

  there : uses_of d (Site.Tracked (number_at standing.standing)) ≡ Some (uses_at_tracked a)
  there = ap (λ (m : ℕ). option_map uses_at_tracked (numbered m d.top)) number_is ∙ ap (option_map uses_at_tracked) found

  reads_none : is_any (uses_at_tracked a).reads ≡ false
  reads_none =
      first_off (is_any (uses_at_tracked a).reads)
      ((uses_at_tracked a).words || ((uses_at_tracked a).moment || (uses_at_tracked a).run))
      (sym (ap (breaks_if (whole_of d) Rule.Tracked (Site.Tracked (number_at standing.standing)) (Some standing.standing)) there)
      ∙ at_tracked d standing.standing standing.holds)

  tracked_there : (b : ActionTree) → uses_at_tracked b ≡ uses_tree [] (members_uses (data_members (tracked_of b)))
  tracked_there (action name number pointer after kind tracked) = refl

  asks_none : (k : List ℕ) → list_any (bytes_eq k) (variables_named (members_uses (data_members (tracked_of a)))) ≡ true → ⊥
  asks_none k is =
      true≢false (sym (ap (λ (u : UsesTree). list_any (bytes_eq k) u.reads) (tracked_there a)
      ∙ tree_reads same [] (members_uses (data_members (tracked_of a))) k is)
      ∙ none_among k (uses_at_tracked a).reads reads_none)

  -- so whatever is found of variables is what is told of those that are asked for
  pub tracked_hold : (P : List ℕ → Type 0) → AllHold P (members_uses (data_members (tracked_of a)))
  tracked_hold P = all_hold P (members_uses (data_members (tracked_of a))) (λ k is. absurd (asks_none k is))

  -- THE LAW
  pub tracks_same : ((l m : Told) (ms : List DataMember) → AgreeAt l m (members_uses (data_members ms)) → (j : ℕ)
      → tracked_from l ms j ≡ tracked_from m ms j)
      → (l : Told) (f : List ℕ → Option ValueTree)
      → tracked_value (record l { variable = f }) (tracked_of a) ≡ tracked_value l (tracked_of a)
  tracks_same local l f =
      local (record l { variable = f }) l (tracked_of a)
      (all_agree f l (members_uses (data_members (tracked_of a)))
      (tracked_hold (λ k. f k ≡ l.variable k))) 0
