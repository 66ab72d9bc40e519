-- Where no address fails that a record may name, none does of the numbers of the actions.
use Rattle.std.proofs.Common.{◌≡◌, ℕ, Bool, true, false, ◌||◌, cond, List, [], ◌∷◌, Option, Some, None, option_map, inl, inr, refl, sym}
use Rattle.std.proofs.Common.{ap, ap₂, ◌∙◌, subst, nat_eq, eqb-true, true≢false}
use Rattle.std.specs.Prelude.{is_some}
use Rattle.std.specs.List.{AllByRecursion, find}
use Rattle.std.proofs.lemmas.Option.{none-some}
use Rattle.std.proofs.lemmas.Slice.Eq.{bytes_eq-Decides}
use Rattle.wf_layers.specs.Definition.{Kind, Leaf, Scope, Choice, Foreach, Until, Branches, no_branch, branch, Graph, done, add, has}
use Rattle.wf_layers.specs.Definition.{has_any, holds, kind_any, kind_in, kind_of}
use Rattle.wf_layers.specs.Address.{Address, address}
use Rattle.wf_layers.proofs.Basics.{two, unless, when}
use Rattle.wf_val.specs.declared.address.Address as named
use Rattle.wf_def.specs.ActionTree.{ActionTree, action_kind, action_name, action_number}
use Rattle.wf_def.specs.AllActions.{all_actions, has_number, numbered}
use Rattle.wf_def.specs.DefTree.{DefTree}
use Rattle.wf_def.specs.Layered.{layered_kind}
use Rattle.wf_record.specs.Record.{RowTree, find_row}
use Rattle.wf_shaped.specs.Look.{name_in}
use Rattle.wf_shaped.specs.Points.{action_named, graph_of, has_action_name}
use Rattle.wf_shaped.specs.Resubmitted.{rows_by}
use Rattle.wf_shaped.specs.Says.{is_skipped}
use Rattle.wf_shape.specs.Standing.{Standing, fails, fails_as}
use Rattle.wf_ways.proofs.StandLemmas.{stands_along}
use Rattle.wf_shaped.specs.Reading.{reading}
use Rattle.wf_shaped.specs.Fits.{fits_in}
use Rattle.wf_shaped.specs.Failing.{IsLeastFailing}
use Rattle.wf_shaped.specs.Told.{fails_by}
use Rattle.wf_shaped.proofs.ExactLemmas.{AreKnown}
use Rattle.wf_shaped.proofs.ListLemmas.{In}

pub clash : (b : Bool) → b ≡ true → b ≡ false → ⊥
clash b yes' no' = true≢false (sym yes' ∙ no')

pub same_some : {X : Type 0} (x y : X) → Some x ≡ Some y → x ≡ y
same_some x y is = cc

-- ---- what has no kind doesn't stand there

mutual
  holds_none : (kind : Kind) (n : ℕ) → kind_in kind n ≡ None → holds kind n ≡ false
  holds_none Leaf n is = refl
  holds_none (Scope g) n is = has_none g n is
  holds_none (Choice bs) n is = any_none bs n is
  holds_none (Foreach pace g) n is = has_none g n is
  holds_none (Until most g) n is = has_none g n is

  any_none : (bs : Branches) (n : ℕ) → kind_any bs n ≡ None → has_any bs n ≡ false
  any_none no_branch n is = refl
  any_none (branch b bs) n is = elim (two (has b n)) [
    | inl one ↦ absurd (clash (has b n) one (has_none b n (sym (when (has b n) (kind_of b n) (kind_any bs n) one) ∙ is)))
    | inr out ↦
        ap (λ (c : Bool). c || has_any bs n) out
        ∙ any_none bs n (sym (unless (has b n) (kind_of b n) (kind_any bs n) out) ∙ is)
  ]

  pub has_none : (g : Graph) (n : ℕ) → kind_of g n ≡ None → has g n ≡ false
  has_none done n is = refl
  has_none (add m after kind g) n is = elim (two (nat_eq m n)) [
    | inl same ↦
        absurd (none-some kind (sym is
        ∙ when (nat_eq m n) (Some kind) (cond (holds kind n) (kind_in kind n) (kind_of g n)) same))
    | inr other ↦
        let later : cond (holds kind n) (kind_in kind n) (kind_of g n) ≡ None =
        sym (unless (nat_eq m n) (Some kind) (cond (holds kind n) (kind_in kind n) (kind_of g n)) other) ∙ is in
        elim (two (holds kind n)) [
          | inl held ↦
              absurd (clash (holds kind n) held
              (holds_none kind n (sym (when (holds kind n) (kind_in kind n) (kind_of g n) held) ∙ later)))
          | inr out ↦
              ap₂ (λ (b c : Bool). (b || c) || has g n) other out
              ∙ has_none g n (sym (unless (holds kind n) (kind_in kind n) (kind_of g n) out) ∙ later)
        ]
  ]

-- ---- the action of a number

pub all_in : {X : Type 0} (P : X → Type 0) (x : X) (xs : List X) → AllByRecursion P xs → In x xs → P x
all_in P x [] all h = absurd h
all_in P x (y ∷ ys) all (inl here) = subst P here all.0
all_in P x (y ∷ ys) all (inr later) = all_in P x ys all.1 later

pub found_in : {X : Type 0} (p : X → Bool) (xs : List X) (x : X) → find p xs ≡ Some x → In x xs × (p x ≡ true)
found_in p [] x is = absurd (none-some x is)
found_in {X = X} p (y ∷ ys) x is = elim (two (p y)) [
  | inl t ↦
      let it : y ≡ x = same_some y x (sym (when (p y) (Some y) (find p ys) t) ∙ is) in
      (inl it, subst (λ (z : X). p z ≡ true) it t)
  | inr f ↦ let found = found_in p ys x (sym (unless (p y) (Some y) (find p ys) f) ∙ is) in (inr found.0, found.1)
]

none_there : {X : Type 0} (o : Option X) → is_some o ≡ false → o ≡ None
none_there None is = refl
none_there (Some x) is = absurd (true≢false is)

module _ (d : DefTree) (known : AreKnown d) where
  pub of_number : (n : ℕ) (a : ActionTree) → numbered n d.top ≡ Some a → In a (all_actions d.top) × (action_number a ≡ n)
  of_number n a is =
      let found = found_in (has_number n) (all_actions d.top) a is in (found.0, sym (eqb-true n (action_number a) found.1))

  pub named_is : (a : ActionTree) → In a (all_actions d.top) → action_named d (action_name a) ≡ Some a
  named_is a one = all_in (λ (b : ActionTree). action_named d (action_name b) ≡ Some b) a (all_actions d.top) known.names one

  pub numbered_is : (a : ActionTree) → In a (all_actions d.top) → numbered (action_number a) d.top ≡ Some a
  numbered_is a one = all_in (λ (b : ActionTree). numbered (action_number b) d.top ≡ Some b) a (all_actions d.top) known.numbers one

  pub of_name : (k : List ℕ) (a : ActionTree) → action_named d k ≡ Some a → In a (all_actions d.top) × (action_name a ≡ k)
  of_name k a is =
      let found = found_in (has_action_name k) (all_actions d.top) a is in
      (found.0, sym ((bytes_eq-Decides k (action_name a)).0 found.1))

  -- and of a number that no action has
  pub no_action : (n : ℕ) → numbered n d.top ≡ None → has (graph_of d) n ≡ false
  no_action n is =
      has_none (graph_of d) n
      (known.kinds n ∙ ap (option_map (λ (a : ActionTree). layered_kind (action_kind a))) is)

  module _ (unnamed : action_named d [] ≡ None) (rows : List RowTree) (none : IsLeastFailing d rows None) where
    abbrev FailsAt : Address → Bool
    FailsAt y = fails (reading d) is_skipped (fits_in d) (rows_by d rows) (graph_of d) y

    of_none : (y : Address) → numbered y.name d.top ≡ None → FailsAt y ≡ false
    of_none y is =
        let at_none : named.Address = record { name = []; at = y.at } in
        let no_row : find_row at_none rows ≡ None =
        none_there (find_row at_none rows)
        (ap (λ (o : Option ActionTree). fails_by (reading d) is_skipped (fits_in d) d rows o at_none) (sym unnamed) ∙ none at_none) in
        ap₂ (λ (s : Standing) (o : Option _). fails_as (reading d) is_skipped (fits_in d) (rows_by d rows) y.name s o)
        ((stands_along (reading d) is_skipped (fits_in d) (rows_by d rows) (graph_of d) y.name false [] y.at).1
        (no_action y.name is))
        (ap (λ (o : Option ActionTree). option_map (λ (r : RowTree). r.row) (find_row (record { name = name_in o; at = y.at }) rows)) is
        ∙ ap (option_map (λ (r : RowTree). r.row)) no_row)

    of_one : (y : Address) (a : ActionTree) → numbered y.name d.top ≡ Some a → FailsAt y ≡ false
    of_one y a is =
        let (one, number) = of_number y.name a is in
        let spot : named.Address = record { name = action_name a; at = y.at } in
        subst (λ (n : ℕ). FailsAt (address n y.at) ≡ false) number
        (ap (λ (o : Option ActionTree). fails_by (reading d) is_skipped (fits_in d) d rows o spot) (sym (named_is a one)) ∙ none spot)

    -- THE LEMMA
    pub no_number_fails : (y : Address) → FailsAt y ≡ false
    no_number_fails y = at (numbered y.name d.top) refl
      where
        at : (o : Option ActionTree) → numbered y.name d.top ≡ o → FailsAt y ≡ false
        at None is = of_none y is
        at (Some a) is = of_one y a is
