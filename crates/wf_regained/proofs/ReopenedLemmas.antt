-- The containers that are opened one after the other are those that are closed again.
use Rattle.std.proofs.Common.{◌≡◌, ℕ, Bool, true, false, ◌&&◌, cond, List, [], ◌∷◌, Option, Some, None, option_map, inl, inr, refl, sym, ap}
use Rattle.std.proofs.Common.{◌∙◌, subst, eq-eqb, eqb-true, nat_eq, true≢false}
use Rattle.std.specs.List.{AllByRecursion}
use Rattle.std.proofs.lemmas.Option.{none-some}
use Rattle.wf_layers.specs.Address.{Address, Table, is_own, same_at}
use Rattle.wf_layers.specs.Definition.{Kind, kind_of}
use Rattle.wf_layers.specs.Listed.{Among}
use Rattle.wf_layers.specs.Resubmission.{reopened}
use Rattle.wf_layers.proofs.Basics.{and_in, and_of, not_true, two, unless, when}
use Rattle.wf_def.specs.ActionTree.{ActionTree, action_number}
use Rattle.wf_def.specs.AllActions.{all_actions, has_number, numbered}
use Rattle.wf_def.specs.DefTree.{DefTree}
use Rattle.wf_val.specs.declared.address.Address as named
use Rattle.wf_record.specs.Record.{RowTree, find_row}
use Rattle.wf_turns.specs.Look.{name_in}
use Rattle.wf_turns.specs.Points.{graph_of}
use Rattle.wf_turns.specs.Resubmitted.{recalled, said_by}
use Rattle.wf_sight_laws.proofs.WriterLemmas.{find_is}
use Rattle.wf_regained.specs.Reopened.{Opened, recalled_by, reopened_with, with_all_reopened, with_reopened}

each : {X : Type 0} (P Q : X → Type 0) (xs : List X) → ((x : X) → P x → Q x) → AllByRecursion P xs → AllByRecursion Q xs
each P Q [] to all = tt
each P Q (x ∷ xs) to all = (to x all.0, each P Q xs to all.1)

module _ (rows : List RowTree) (again : ℕ → Bool) (x : Address) where
  abbrev hits : ActionTree → Bool
  hits a = again (action_number a) && is_own (action_number a) [] x

  none_opened : (as' : List ActionTree) → AllByRecursion (λ b. hits b ≡ false) as' → (t : Table Opened)
      → with_all_reopened rows again t as' x ≡ t x
  none_opened [] off t = refl
  none_opened (b ∷ rest) off t =
      none_opened rest off.1 (with_reopened rows again t b) ∙ unless (hits b) (Some (reopened_with (recalled_by rows b))) (t x) off.0

  module _ (v : Opened) where
    -- whatever is opened at x is opened so
    abbrev Opens : ActionTree → Type 0
    Opens b = hits b ≡ true → reopened_with (recalled_by rows b) ≡ v

    stays : (as' : List ActionTree) → AllByRecursion Opens as' → (t : Table Opened) → t x ≡ Some v
        → with_all_reopened rows again t as' x ≡ Some v
    stays [] all t there = there
    stays (b ∷ rest) all t there = stays rest all.1 (with_reopened rows again t b) (elim (two (hits b)) [
      | inl h ↦ when (hits b) (Some (reopened_with (recalled_by rows b))) (t x) h ∙ ap (λ (o : Opened). Some o) (all.0 h)
      | inr f ↦ unless (hits b) (Some (reopened_with (recalled_by rows b))) (t x) f ∙ there
    ])

    comes : (as' : List ActionTree) → AllByRecursion Opens as' → (t : Table Opened) (a : ActionTree) → Among as' a → hits a ≡ true
        → with_all_reopened rows again t as' x ≡ Some v
    comes [] all t a i h = absurd i
    comes (b ∷ rest) all t a (inl e) h =
        let own : hits b ≡ true = ap hits e ∙ h in
        stays rest all.1 (with_reopened rows again t b)
        (when (hits b) (Some (reopened_with (recalled_by rows b))) (t x) own ∙ ap (λ (o : Opened). Some o) (all.0 own))
    comes (b ∷ rest) all t a (inr i) h = comes rest all.1 (with_reopened rows again t b) a i h

no_index : (i : List ℕ) → same_at [] i ≡ true → i ≡ []
no_index [] e = refl
no_index (j ∷ i) e = absurd (true≢false (sym e))

module _ (d : DefTree) (rows : List RowTree) (again closed : ℕ → Bool)
    (own : AllByRecursion (λ a. numbered (action_number a) d.top ≡ Some a) (all_actions d.top))
    (kinds : (n : ℕ) (a : ActionTree) → numbered n d.top ≡ Some a → (kind : Kind) × (kind_of (graph_of d) n ≡ Some kind))
    (same : (n : ℕ) (a : ActionTree) → numbered n d.top ≡ Some a → again n ≡ closed n)
    (none : (n : ℕ) → numbered n d.top ≡ None → closed n ≡ false) (x : Address) where
  abbrev Closes : Bool
  Closes = closed x.name && same_at [] x.at

  abbrev Stands : Option Opened
  Stands = reopened (kind_of (graph_of d) x.name) (recalled d rows x)

  abbrev Own : ActionTree → Type 0
  Own a = numbered (action_number a) d.top ≡ Some a

  -- what hits the address is the action of its number
  hit_is : (b : ActionTree) → Own b → hits rows again x b ≡ true → (numbered x.name d.top ≡ Some b) × (again x.name ≡ true)
      × (same_at [] x.at ≡ true)
  hit_is b is h =
      let p = and_in (again (action_number b)) (is_own (action_number b) [] x) h in
      let q = and_in (nat_eq (action_number b) x.name) (same_at [] x.at) p.1 in
      let n : action_number b ≡ x.name = eqb-true (action_number b) x.name q.0 in (
        subst (λ (m : ℕ). numbered m d.top ≡ Some b) n is,
        subst (λ (m : ℕ). again m ≡ true) n p.0,
        q.1,
      )

  off_none : (n : Option ActionTree) → numbered x.name d.top ≡ n → n ≡ None → AllByRecursion (λ b. hits rows again x b ≡ false)
      (all_actions d.top)
  off_none n is gone =
      each Own (λ b. hits rows again x b ≡ false) (all_actions d.top)
      (λ b o. not_true (hits rows again x b) (λ h. none-some b (sym (is ∙ gone) ∙ (hit_is b o h).0))) own

  off_open : (a : ActionTree) → numbered x.name d.top ≡ Some a → Closes ≡ false
      → AllByRecursion (λ b. hits rows again x b ≡ false) (all_actions d.top)
  off_open a is off =
      each Own (λ b. hits rows again x b ≡ false) (all_actions d.top)
      (λ b o. not_true (hits rows again x b) (λ h.
      let k = hit_is b o h in
      true≢false (sym (and_of (closed x.name) (same_at [] x.at) (sym (same x.name a is) ∙ k.1) k.2) ∙ off))) own

  abbrev named_at : List ℕ → List ℕ → named.Address
  named_at n i = record { name = n; at = i }

  -- what is recalled at the address is what the action's row says
  recalled_is : (a : ActionTree) → numbered x.name d.top ≡ Some a → x.at ≡ [] → recalled_by rows a ≡ recalled d rows x
  recalled_is a is nowhere =
      ap (λ (i : List ℕ). said_by (Some a) (option_map (λ (r : RowTree). r.row) (find_row (named_at (name_in (Some a)) i) rows)))
      (sym nowhere)
      ∙ ap (λ (o : Option ActionTree). said_by o (option_map (λ (r : RowTree). r.row) (find_row (named_at (name_in o) x.at) rows))) (sym is)

  on_open : (a : ActionTree) → numbered x.name d.top ≡ Some a → Closes ≡ true
      → with_all_reopened rows again (λ y. None) (all_actions d.top) x ≡ Some (reopened_with (recalled d rows x))
  on_open a is on =
      let p = and_in (closed x.name) (same_at [] x.at) on in
      let f = find_is (has_number x.name) (all_actions d.top) a is in
      let n : x.name ≡ action_number a = eqb-true x.name (action_number a) f.holds in
      let hit : hits rows again x a ≡ true =
      and_of (again (action_number a)) (is_own (action_number a) [] x)
      (subst (λ (m : ℕ). again m ≡ true) n (same x.name a is ∙ p.0))
      (and_of (nat_eq (action_number a) x.name) (same_at [] x.at) (eq-eqb (action_number a) x.name (sym n)) p.1) in
      comes rows again x (reopened_with (recalled d rows x)) (all_actions d.top)
      (each Own (Opens rows again x (reopened_with (recalled d rows x))) (all_actions d.top)
      (λ b o h. ap reopened_with (recalled_is b (hit_is b o h).0 (no_index x.at p.1))) own)
      (λ y. None) a f.among hit

  go : (o : Option ActionTree) → numbered x.name d.top ≡ o
      → with_all_reopened rows again (λ y. None) (all_actions d.top) x ≡ cond Closes Stands None
  go None is =
      none_opened rows again x (all_actions d.top) (off_none None is refl) (λ y. None)
      ∙ sym (unless Closes Stands None (ap (λ (b : Bool). b && same_at [] x.at) (none x.name is)))
  go (Some a) is = elim (two Closes) [
    | inl t ↦ on_open a is t
        ∙ sym (when Closes Stands None t ∙ ap (λ (k : Option Kind). reopened k (recalled d rows x)) (kinds x.name a is).1)
    | inr f ↦ none_opened rows again x (all_actions d.top) (off_open a is f) (λ y. None) ∙ sym (unless Closes Stands None f)
  ]

  -- THE LAW
  pub opens_are : with_all_reopened rows again (λ y. None) (all_actions d.top) x ≡ cond Closes Stands None
  opens_are = go (numbered x.name d.top) refl
