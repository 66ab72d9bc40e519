-- The name that is found is the least of which it holds.
use Rattle.std.proofs.Common.{◌≡◌, ℕ, Bool, true, false, List, [], ◌∷◌, Option, Some, None, ◌⊎◌, inl, inr, Ordering, Less, Equal, Greater, cond, refl, sym, ap, ◌∙◌, true≢false}
use Rattle.std.specs.Ordering.{is_lt, ordering_reverse}
use Rattle.std.proofs.lemmas.Cmp.{nat_list_cmp_total, tied_itself}
use Rattle.wf_layers.proofs.Basics.{not_true, two}
use Rattle.wf_val.specs.NameOrder.{bytes_cmp}
use Rattle.wf_resubmit.specs.Least.{AmongNames, Below, IsLeastOf, least_from, least_of, lesser, with_name}

clash : (b : Bool) → b ≡ true → b ≡ false → ⊥
clash b yes' no' = true≢false (sym yes' ∙ no')

less_is : (o : Ordering) → is_lt o ≡ true → o ≡ Less
less_is Less is = refl
less_is Equal is = absurd (cc)
less_is Greater is = absurd (cc)

not_itself : (m : List ℕ) → is_lt (bytes_cmp m m) ≡ false
not_itself m = ap is_lt (tied_itself nat_list_cmp_total m)

-- what isn't below m isn't below what m isn't below
not_below : (k m r : List ℕ) → is_lt (bytes_cmp k m) ≡ false → is_lt (bytes_cmp m r) ≡ false → is_lt (bytes_cmp k r) ≡ false
not_below k m r above over =
    not_true (is_lt (bytes_cmp k r)) (λ less. at_order (bytes_cmp m r) refl (less_is (bytes_cmp k r) less))
  where
    at_order : (o : Ordering) → bytes_cmp m r ≡ o → bytes_cmp k r ≡ Less → ⊥
    at_order Less is less = clash (is_lt (bytes_cmp m r)) (ap is_lt is) over
    at_order Equal is less =
        clash (is_lt (bytes_cmp k m))
        (ap is_lt (nat_list_cmp_total.antisymm k m ∙ ap ordering_reverse (nat_list_cmp_total.congr m r k is)
        ∙ sym (nat_list_cmp_total.antisymm k r) ∙ less)) above
    at_order Greater is less =
        clash (is_lt (bytes_cmp k m))
        (ap is_lt (nat_list_cmp_total.trans k r m less (nat_list_cmp_total.antisymm r m ∙ ap ordering_reverse is))) above

-- what is below m isn't above what isn't above it
not_over : (k m r : List ℕ) → is_lt (bytes_cmp k m) ≡ true → is_lt (bytes_cmp k r) ≡ false → is_lt (bytes_cmp m r) ≡ false
not_over k m r below over =
    not_true (is_lt (bytes_cmp m r))
    (λ less. clash (is_lt (bytes_cmp k r))
    (ap is_lt (nat_list_cmp_total.trans k m r (less_is (bytes_cmp k m) below) (less_is (bytes_cmp m r) less))) over)

module _ (holds : List ℕ → Bool) where
  record FromSome (m : List ℕ) (ks : List (List ℕ)) : Type 0 where
    r : List ℕ
    found : least_from holds (Some m) ks ≡ Some r
    among : (m ≡ r) ⊎ AmongNames holds r ks
    it_holds : holds r ≡ true
    over : is_lt (bytes_cmp m r) ≡ false
    below : Below holds r ks

  passed : (m k : List ℕ) (ks : List (List ℕ)) → with_name holds (Some m) k ≡ Some m → (r : FromSome m ks)
      → (holds k ≡ true → is_lt (bytes_cmp k r.r) ≡ false) → FromSome m (k ∷ ks)
  passed m k ks same f own = record {
    r = f.r;
    found = ap (λ b. least_from holds b ks) same ∙ f.found;
    among = elim f.among [ inl is ↦ inl is | inr later ↦ inr (inr later) ];
    it_holds = f.it_holds;
    over = f.over;
    below = (own, f.below);
  }

  from_some : (m : List ℕ) (ks : List (List ℕ)) → holds m ≡ true → FromSome m ks
  from_some m [] h = record { r = m; found = refl; among = inl refl; it_holds = h; over = not_itself m; below = tt }
  from_some m (k ∷ ks) h = elim (two (holds k)) [
    | inr out ↦
        passed m k ks (ap (λ b. cond b (lesser (Some m) k) (Some m)) out) (from_some m ks h) (λ yes'. absurd (clash (holds k) yes' out))
    | inl yes' ↦ elim (two (is_lt (bytes_cmp k m))) [
      | inr above ↦
          let f : FromSome m ks = from_some m ks h in
          passed m k ks
          (ap (λ b. cond b (lesser (Some m) k) (Some m)) yes' ∙ ap (λ b. cond b (Some k) (Some m)) above) f
          (λ also. not_below k m f.r above f.over)
      | inl less ↦
          let f : FromSome k ks = from_some k ks yes' in record {
            r = f.r;
            found =
                ap (λ b. least_from holds b ks)
                (ap (λ b. cond b (lesser (Some m) k) (Some m)) yes' ∙ ap (λ b. cond b (Some k) (Some m)) less) ∙ f.found;
            among = inr f.among;
            it_holds = f.it_holds;
            over = not_over k m f.r less f.over;
            below = (λ also. f.over, f.below);
          }
    ]
  ]

  pub least_is : (ks : List (List ℕ)) → IsLeastOf holds ks (least_of holds ks)
  least_is [] = tt
  least_is (k ∷ ks) = elim (two (holds k)) [
    | inr out ↦ rw out (more (least_of holds ks) out (least_is ks))
    | inl yes' ↦
        let f : FromSome k ks = from_some k ks yes' in
        rw (yes', f.found) (f.among, f.it_holds, (λ also. f.over, f.below))
  ]
    where
      more : (o : Option (List ℕ)) → holds k ≡ false → IsLeastOf holds ks o → IsLeastOf holds (k ∷ ks) o
      more None out none = (out, none)
      more (Some m) out least = (inr least.0, least.1, (λ yes'. absurd (clash (holds k) yes' out), least.2))
