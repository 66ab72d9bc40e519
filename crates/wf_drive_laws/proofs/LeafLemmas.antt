-- The leaves of a list by instances.
use Rattle.std.proofs.Common.{◌≡◌, ◌∙◌, true, true≢false, List, [], ◌∷◌, length, map, Option, Some, None, option_map, inl, inr, refl, sym, ap, subst}
use Rattle.std.proofs.lemmas.List.{length-map}
use Rattle.wf_lists.specs.KeyOrder.{IsInKeyOrder, find_key}
use Rattle.wf_lists.proofs.KeyOrderLemmas.{in_order-map}
use Rattle.wf_layers.specs.Address.{Address}
use Rattle.wf_layers.specs.Listed.{Among}
use Rattle.wf_layers.specs.Machine.{State, has_ended}
use Rattle.wf_scheduled.specs.Counts.{AreRunning}
use Rattle.wf_scheduled.specs.Turns.{address_cmp}
use Rattle.wf_scheduled.proofs.ListLemmas.{among_found, found_among}
use Rattle.wf_asks.specs.Instances.{address_of, instance_cmp, instance_of, instance_total}
use Rattle.wf_steps.specs.Tables.{leaf_tree, running_in}
use Rattle.wf_steps.specs.LeafAt.{LeafAt}
use Rattle.wf_steps.proofs.OpenLemmas.{found_at}

module _ {Begun Started : Type 0} (see : Begun → Started) (leaves : List (LeafAt Begun))
    (order : IsInKeyOrder instance_cmp (λ (l : LeafAt Begun). l.instance) leaves) where
  abbrev at : LeafAt Begun → Address
  at l = address_of l.instance

  -- what is among the addresses is that of a leaf
  of_leaf : (ls : List (LeafAt Begun)) (x : Address) → Among (map at ls) x → (l : LeafAt Begun) × Among ls l × (at l ≡ x)
  of_leaf [] x a = absurd a
  of_leaf (l ∷ ls) x (inl same) = (l, inl refl, same)
  of_leaf (l ∷ ls) x (inr later) = let r = of_leaf ls x later in (r.0, inr r.1, r.2)

  among_map : (ls : List (LeafAt Begun)) (l : LeafAt Begun) → Among ls l → Among (map at ls) (at l)
  among_map [] l a = absurd a
  among_map (q ∷ ls) l (inl same) = inl (ap at same)
  among_map (q ∷ ls) l (inr later) = inr (among_map ls l later)

  each : (x : Address) → Among (map at leaves) x → has_ended (running_in see leaves x) ≡ true
  each x a =
      let r = of_leaf leaves x a in
      let found = among_found instance_total (λ (l : LeafAt Begun). l.instance) leaves order r.0 r.1 in
      subst (λ y. has_ended (running_in see leaves y) ≡ true) r.2 (ap (λ o. has_ended (option_map (leaf_tree see) o)) found)

  all : (x : Address) (o : Option (LeafAt Begun)) → find_key instance_cmp (λ (l : LeafAt Begun). l.instance) (instance_of x) leaves ≡ o
      → has_ended (option_map (leaf_tree see) o) ≡ true → Among (map at leaves) x
  all x None is runs = absurd (true≢false (sym runs))
  all x (Some l) is runs =
      subst (Among (map at leaves)) (ap address_of (found_at (λ (q : LeafAt Begun). q.instance) (instance_of x) leaves l is))
      (among_map leaves l (found_among instance_total (λ (q : LeafAt Begun). q.instance) (instance_of x) leaves l is))

  pub leaves_run : {Row Decision Verdict : Type 0} (s : State Row Started Decision Verdict) → s.running ≡ running_in see leaves
      → (places : List Address) × AreRunning s places × (length leaves ≡ length places)
  leaves_run s is = (
    map at leaves,
    record {
      in_order = in_order-map address_cmp (λ x. x) at leaves order;
      each = λ x a. ap (λ t. has_ended (t x)) is ∙ each x a;
      all = λ x runs. all x (find_key instance_cmp (λ (l : LeafAt Begun). l.instance) (instance_of x) leaves) refl
          (sym (ap (λ t. has_ended (t x)) is) ∙ runs);
    },
    sym (length-map leaves at),
  )
