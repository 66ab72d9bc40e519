-- What the open containers of a state cost, by a plan; and lists in order as tables.
use Rattle.std.proofs.Common.{◌≡◌, ℕ, ◌+◌, ◌*◌, Bool, true, false, List, [], ◌∷◌, Option, Some, None, cond, option_map, is_eq, inl, inr, refl, sym, ap, ◌∙◌, subst, arith}
use Rattle.std.specs.List.{AllByRecursion}
use Rattle.std.specs.Ordering.{ordering_reverse}
use Rattle.std.specs.declared.cmp.Ordering.TheVariants.{Less}
use Rattle.std.proofs.lemmas.Cmp.{tied_itself}
use Rattle.std.proofs.lemmas.Option.{none-some}
use Rattle.wf_lists.specs.KeyOrder.{IsInKeyOrder, find_key}
use Rattle.wf_layers.specs.Address.{Address}
use Rattle.wf_layers.specs.Definition.{Graph, Kind, Leaf, Scope, Choice, Foreach, Until}
use Rattle.wf_layers.specs.Listed.{Among, Lists, sum_of}
use Rattle.wf_layers.specs.Machine.{Opening, State}
use Rattle.wf_layers.specs.Source.{Source}
use Rattle.wf_kept.specs.Reached.{IsReached}
use Rattle.wf_kept.proofs.Informed.{kinds_are_known, open_stands}
use Rattle.wf_tables.specs.Instances.{address_of, instance_cmp, instance_of, instance_total, table_of}
use Rattle.wf_tables.specs.Known.{open_tree}
use Rattle.wf_tables.specs.Instance.{Instance}
use Rattle.wf_tables.specs.OpenAt.{OpenAt}
use Rattle.wf_tables.specs.RowAt.{RowAt}
use Rattle.wf_tables.specs.Plan.{PlanTree, shape_of}
use Rattle.wf_tables.specs.PlanOf.{IsPlanOf}
use Rattle.wf_tables.specs.Tables.{state_of}
use Rattle.wf_tables.specs.declared.entries.LeafAt.{LeafAt}
use Rattle.wf_tables.proofs.OpenLemmas.{found_at}
use Rattle.wf_meter.specs.Cost.{iterations, open_cost, opens_cost}
use Rattle.wf_meter.specs.Parts.{iterations_by, shape_iterations, turns_cost}

-- ---- a list in order

sum_same : {E : Type 0} (f g : E → ℕ) (xs : List E) → ((e : E) → Among xs e → f e ≡ g e) → sum_of f xs ≡ sum_of g xs
sum_same f g [] h = refl
sum_same f g (x ∷ xs) h =
    let here = h x (inl refl) in
    let rest = sum_same f g xs (λ e a. h e (inr a)) in
    omega (arith, here, rest)

sum_both : {E : Type 0} (f g : E → ℕ) (xs : List E) → sum_of f xs + sum_of g xs ≡ sum_of (λ e. f e + g e) xs
sum_both f g [] = refl
sum_both f g (x ∷ xs) = let rest = sum_both f g xs in omega (arith, rest)

all_of : {E : Type 0} (P : E → Type 0) (xs : List E) → AllByRecursion P xs → (e : E) → Among xs e → P e
all_of P [] all e a = absurd a
all_of P (x ∷ xs) all e (inl is) = subst P is all.0
all_of P (x ∷ xs) all e (inr a) = all_of P xs all.1 e a

module _ {E : Type 0} (at : E → Instance) where
  -- each is found by its key
  pub found_own : (xs : List E) → IsInKeyOrder instance_cmp at xs → (e : E) → Among xs e → find_key instance_cmp at (at e) xs ≡ Some e
  found_own [] order e a = absurd a
  found_own (x ∷ xs) order e (inl is) =
      subst (λ z. find_key instance_cmp at (at z) (x ∷ xs) ≡ Some z) is
      (ap (λ o. cond (is_eq o) (Some x) (find_key instance_cmp at (at x) xs)) (tied_itself instance_total (at x)))
  found_own (x ∷ xs) order e (inr a) =
      let less = all_of (λ y. instance_cmp (at x) (at y) ≡ Less) xs order.0 e a in
      let greater = instance_total.antisymm (at e) (at x) ∙ ap ordering_reverse less in
      ap (λ o. cond (is_eq o) (Some x) (find_key instance_cmp at (at e) xs)) greater ∙ found_own xs order.1 e a

  -- and what is found is of the list
  found_among : (k : Instance) (xs : List E) (e : E) → find_key instance_cmp at k xs ≡ Some e → Among xs e
  found_among k [] e is = absurd (none-some e is)
  found_among k (x ∷ xs) e is = go (is_eq (instance_cmp k (at x))) is (found_among k xs e)
    where
      go : (b : Bool) → cond b (Some x) (find_key instance_cmp at k xs) ≡ Some e
          → (find_key instance_cmp at k xs ≡ Some e → Among xs e) → Among (x ∷ xs) e
      go true here later = inl (the_same here)
        where
          the_same : Some x ≡ Some e → x ≡ e
          the_same q = cc (q)
      go false there later = inr (later there)

  pub lists_table : {Y : Type 0} (see : E → Y) (xs : List E) → IsInKeyOrder instance_cmp at xs
      → Lists (λ e. address_of (at e)) see (table_of at see xs) xs
  lists_table {Y} see xs order = record {
    each = λ e a. ap (option_map see) (found_own xs order e a);
    all = λ x y is. go x (find_key instance_cmp at (instance_of x) xs) refl is;
  }
    where
      go : (x : Address) (o : Option E) → find_key instance_cmp at (instance_of x) xs ≡ o → {y : Y} → option_map see o ≡ Some y
          → (e : E) × Among xs e × (address_of (at e) ≡ x)
      go x None is {y} e = absurd (none-some y e)
      go x (Some e) is q = (e, found_among (instance_of x) xs e is, ap address_of (found_at at (instance_of x) xs e is))

-- ---- open containers

by_shape : (kind : Kind) (items next : ℕ) → shape_iterations (shape_of kind) items next ≡ iterations (Some kind) items next
by_shape Leaf items next = refl
by_shape (Scope g) items next = refl
by_shape (Choice bs) items next = refl
by_shape (Foreach pace g) items next = refl
by_shape (Until most g) items next = refl

module _ {Row Begun Decision Verdict : Type 0} (d : Graph) (depth : ℕ → ℕ) (m : Source Row Begun Decision Verdict) (p : PlanTree)
    (plan : IsPlanOf d p) (s : State Row Begun Decision Verdict) (reached : IsReached d depth m s) where
  pub priced : (items weight : Decision → ℕ) (x : Address) (w : Opening Decision Verdict) → s.opens x ≡ Some w
      → turns_cost p items x w + weight w.decision ≡ open_cost d items weight x w
  priced items weight x w is =
      let stands = open_stands d depth m s reached x w is in
      let known = (kinds_are_known d depth m s reached x.name x.at stands.0.0 stands.0.1 stands.0.3).0 in
      let entry = plan.entry x.name stands.0.1 known in
      ap (λ c. 64 * (1 + c) + weight w.decision)
      (ap (λ o. iterations_by o (items w.decision) w.next) entry.1
      ∙ ap (λ z. shape_iterations z (items w.decision) w.next) entry.2.shape
      ∙ by_shape stands.0.1 (items w.decision) w.next
      ∙ sym (ap (λ k. iterations k (items w.decision) w.next) known))

pub all_priced : {Row Begun Decision Verdict Kept Started Decided Told : Type 0} (see : Row → Kept) (started : Begun → Started)
    (decided : Decision → Decided) (told : Verdict → Told) (d : Graph) (depth : ℕ → ℕ) (m : Source Kept Started Decided Told) (p : PlanTree)
    → IsPlanOf d p → (rows : List (RowAt Row)) (running : List (LeafAt Begun)) (opens : List (OpenAt Decision Verdict))
    → IsReached d depth m (state_of see started decided told rows running opens)
    → IsInKeyOrder instance_cmp (λ (o : OpenAt Decision Verdict). o.instance) opens → (items weight : Decided → ℕ)
    → sum_of (λ (o : OpenAt Decision Verdict). turns_cost p items (address_of o.instance) (open_tree decided told o)) opens
    + sum_of (λ (o : OpenAt Decision Verdict). weight (decided o.decision)) opens
    ≡ opens_cost decided told d items weight opens
all_priced {Decision = Decision} {Verdict = Verdict} see started decided told d depth m p plan rows running opens reached order items
    weight =
    sum_both _ _ opens
    ∙ sum_same _ _ opens (λ o a.
    priced d depth m p plan (state_of see started decided told rows running opens) reached items weight (address_of o.instance)
    (open_tree decided told o)
    (ap (option_map (open_tree decided told)) (found_own (λ (z : OpenAt Decision Verdict). z.instance) opens order o a)))
