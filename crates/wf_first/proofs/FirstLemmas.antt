-- The first broken rule, in words of its own, and as a loop over the rules finds it.
use Rattle.std.proofs.Common.{◌≡◌, ◌↔◌, ◌+◌, ◌<◌, ℕ, length, drop, drop-cons, get_or, add-one, List, [], ◌∷◌, Option, Some, None}
use Rattle.std.proofs.Common.{Ordering, Less, Equal, Greater, inl, inr, refl, subst, sym, ap, ◌∙◌, arith}
use Rattle.std.specs.List.{Contains}
use Rattle.std.specs.Ordering.{ordering_reverse}
use Rattle.std.proofs.lemmas.Cmp.{nat_list_cmp_total}
use Rattle.std.proofs.lemmas.List.Elements.{All-contains}
use Rattle.std.proofs.lemmas.Map.Lookups.{exact_bytes}
use Rattle.wf_val.specs.NameOrder.{bytes_cmp}
use Rattle.wf_json.specs.Pointer.{least, IsLeast}
use Rattle.wf_json.proofs.PointerLemmas.{least-none, least-IsLeast}
use Rattle.wf_first.specs.First.{or_later, first_broken, HoldBefore, IsFirstBroken, Hold}

some_alike : {X : Type 0} {p q : X} → Some p ≡ Some q → p ≡ q
some_alike is = cc

pairs_alike : {X Y : Type 0} (p q : X × Y) → Some p ≡ Some q → (p.0 ≡ q.0) × (p.1 ≡ q.1)
pairs_alike p q is = let same = some_alike is in (ap (λ x. x.0) same, ap (λ x. x.1) same)

-- ---- two pointers of which neither is below the other are one

neither_below : (p q : List ℕ) (o : Ordering) → bytes_cmp p q ≡ o → (bytes_cmp p q ≡ Less → ⊥) → (bytes_cmp q p ≡ Less → ⊥) → p ≡ q
neither_below p q Less is not_p not_q = absurd (not_p is)
neither_below p q Equal is not_p not_q = exact_bytes p q is
neither_below p q Greater is not_p not_q = absurd (not_q (nat_list_cmp_total.antisymm q p ∙ ap ordering_reverse is))

IsLeast-least : (ps : List (List ℕ)) (p : List ℕ) → IsLeast ps p → least ps ≡ Some p
IsLeast-least ps p is = elim (least ps) as (λ o. least ps ≡ o → least ps ≡ Some p) [
  | None ↦ λ none.
      let within = (subst (λ qs. Contains qs p) (least-none ps none) is.listed).1 in absurd (omega arith)
  | Some q ↦ λ some.
      let found = least-IsLeast ps q some in
      some ∙ ap Some (neither_below q p (bytes_cmp q p) refl
      (All-contains (λ r. bytes_cmp r p ≡ Less → ⊥) ps q is.lowest found.listed)
      (All-contains (λ r. bytes_cmp r q ≡ Less → ⊥) ps p found.lowest is.listed))
] refl

module _ {Rule : Type 0} (offences : Rule → List (List ℕ)) where
  -- ---- what is told is the first that is broken

  found_at : (rules : List Rule) (rule : Rule) (pointer : List ℕ) → first_broken offences rules ≡ Some (rule, pointer)
      → HoldBefore offences rule rules × IsLeast (offences rule) pointer
  found_at [] rule pointer is = absurd (cc)
  found_at (r ∷ rules) rule pointer is = elim (least (offences r)) as (λ o. least (offences r) ≡ o
      → or_later r o (first_broken offences rules) ≡ Some (rule, pointer)
      → HoldBefore offences rule (r ∷ rules) × IsLeast (offences rule) pointer) [
        | None ↦ λ none later. let rest = found_at rules rule pointer later in (inr (least-none (offences r) none, rest.0), rest.1)
        | Some p ↦ λ some this.
            let both = pairs_alike (r, p) (rule, pointer) this in (
              inl both.0,
              subst (λ (x : Rule). IsLeast (offences x) pointer) both.0 (subst (λ (x : List ℕ). IsLeast
                  (offences r) x) both.1 (least-IsLeast (offences r) p some)),
            )
      ] refl is

  pub some_broken : (rules : List Rule) (rule : Rule) (pointer : List ℕ) → first_broken offences rules ≡ Some (rule, pointer)
      → IsFirstBroken offences rules rule pointer
  some_broken rules rule pointer is = let found = found_at rules rule pointer is in record { before = found.0; least = found.1 }

  pub none_broken : (rules : List Rule) → first_broken offences rules ≡ None → Hold offences rules
  none_broken [] is = tt
  none_broken (r ∷ rules) is = elim (least (offences r)) as (λ o. least (offences r) ≡ o
      → or_later r o (first_broken offences rules) ≡ None → Hold offences (r ∷ rules)) [
        | None ↦ λ none later. (least-none (offences r) none, none_broken rules later)
        | Some p ↦ λ some this. absurd (cc)
      ] refl is

  -- ---- and the first that is broken is told

  passed : (r : Rule) (rules : List Rule) → offences r ≡ [] → first_broken offences (r ∷ rules) ≡ first_broken offences rules
  passed r rules holds = ap (λ (ps : List (List ℕ)). or_later r (least ps) (first_broken offences rules)) holds

  told_at : (rules : List Rule) (rule : Rule) (pointer : List ℕ) → HoldBefore offences rule rules → IsLeast (offences rule) pointer
      → first_broken offences rules ≡ Some (rule, pointer)
  told_at [] rule pointer before lowest = absurd before
  told_at (r ∷ rules) rule pointer before lowest = elim before [
    | inl this ↦
        ap (λ (x : Rule). or_later x (least (offences x)) (first_broken offences rules)) this
        ∙ ap (λ (o : Option (List ℕ)). or_later rule o (first_broken offences rules)) (IsLeast-least (offences rule) pointer lowest)
    | inr later ↦ passed r rules later.0 ∙ told_at rules rule pointer later.1 lowest
  ]

  all_hold : (rules : List Rule) → Hold offences rules → first_broken offences rules ≡ None
  all_hold [] hold = refl
  all_hold (r ∷ rules) hold = passed r rules hold.0 ∙ all_hold rules hold.1

  pub some_iff_first : (rules : List Rule) (rule : Rule) (pointer : List ℕ)
      → (first_broken offences rules ≡ Some (rule, pointer)) ↔ IsFirstBroken offences rules rule pointer
  some_iff_first rules rule pointer = (some_broken rules rule pointer, λ first. told_at rules rule pointer first.before first.least)

  pub none_iff_hold : (rules : List Rule) → (first_broken offences rules ≡ None) ↔ Hold offences rules
  none_iff_hold rules = (none_broken rules, all_hold rules)

  -- ---- a loop over the rules

  pub first_step : (rules : List Rule) (i : ℕ) (rule : Rule) → i < length rules
      → first_broken offences (drop i rules)
      ≡ or_later (get_or rules i rule) (least (offences (get_or rules i rule))) (first_broken offences (drop (i + 1) rules))
  first_step rules i rule within = rw add-one (ap (first_broken offences) (drop-cons rules i rule within))
