-- Lists as tables: a list of which each entry is found in another one, and costs no more there, costs no more than that one.
use Rattle.std.proofs.Common.{◌≡◌, ◌≤◌, ℕ, ◌+◌, true, false, List, [], ◌∷◌, Option, Some, None, cond, option_map, is_eq, nat_eq, ⊎_elim, refl, sym, ap, ◌∙◌, subst, arith}
use Rattle.std.specs.Cmp.Lexicographic.{slice_cmp}
use Rattle.std.specs.Ordering.{nat_cmp}
use Rattle.std.proofs.lemmas.Cmp.{tied_itself}
use Rattle.std.proofs.lemmas.Option.{none-some}
use Rattle.wf_lists.specs.KeyOrder.{IsInKeyOrder, find_key, without_key}
use Rattle.wf_lists.proofs.KeyOrderLemmas.{in_order-without}
use Rattle.wf_layers.specs.Address.{Address, Table, is_own, same_at}
use Rattle.wf_layers.specs.Listed.{Lists, sum_of}
use Rattle.wf_layers.specs.Machine.{without}
use Rattle.wf_layers.specs.Record.{key}
use Rattle.wf_layers.proofs.Basics.{two, when, unless}
use Rattle.wf_layers.proofs.Tables.{own_is, own_self}
use Rattle.wf_asks.specs.Instances.{address_of, instance_cmp, instance_of, instance_total, table_of}
use Rattle.wf_asks.specs.declared.instance.Instance.{Instance}
use Rattle.wf_meter.proofs.TableLemmas.{table_take}
use Rattle.wf_meter.specs.Parts.{worth}
use Rattle.wf_meter.proofs.SumLemmas.{sums_differ}
use Rattle.wf_meter.proofs.TouchLemmas.{first_not}

-- a list lists one table at most
pub one_table : {E Y : Type 0} (at : E → Address) (see : E → Y) (t u : Table Y) (xs : List E) → Lists at see t xs → Lists at see u xs
    → (x : Address) → t x ≡ u x
one_table {E} {Y} at see t u xs lt lu x = go (t x) (u x) refl refl
  where
    go : (a b : Option Y) → t x ≡ a → u x ≡ b → t x ≡ u x
    go None None ea eb = ea ∙ sym eb
    go (Some y) b ea eb =
        let found = lt.all x y ea in
        subst (λ z. t z ≡ u z) found.2 (lt.each found.0 found.1 ∙ sym (lu.each found.0 found.1))
    go None (Some y) ea eb =
        let found = lu.all x y eb in
        absurd (none-some (see found.0) (sym ea ∙ subst (λ z. t z ≡ Some (see found.0)) found.2 (lt.each found.0 found.1)))

-- the order of addresses is that of instances
pub in_order : {E : Type 0} (at : E → Address) (xs : List E) → IsInKeyOrder (slice_cmp nat_cmp) (λ e. key (at e)) xs
    → IsInKeyOrder instance_cmp (λ e. instance_of (at e)) xs
in_order at [] o = tt
in_order at (x ∷ xs) o = (o.0, in_order at xs o.1)

pub by_keys : {E : Type 0} (at : E → Instance) (xs : List E) → IsInKeyOrder instance_cmp at xs
    → IsInKeyOrder (slice_cmp nat_cmp) (λ e. key (address_of (at e))) xs
by_keys at [] o = tt
by_keys at (x ∷ xs) o = (o.0, by_keys at xs o.1)

-- a table without one entry
at_own : {A : Type 0} (n : ℕ) (i : List ℕ) (t u : Table A) → t ≡ without n i u → (x : Address) → is_own n i x ≡ true → t x ≡ None
at_own n i t u e x own = ap (λ z. z x) e ∙ when (is_own n i x) None (u x) own

at_other : {A : Type 0} (n : ℕ) (i : List ℕ) (t u : Table A) → t ≡ without n i u → (x : Address) → is_own n i x ≡ false → t x ≡ u x
at_other n i t u e x other = ap (λ z. z x) e ∙ unless (is_own n i x) None (u x) other

module _ {Z B : Type 0} (key_of : Z → Instance) (row : Z → B) (v : B → ℕ) where
  abbrev rest : Instance → List Z → List Z
  rest = without_key instance_cmp key_of

  abbrev there : List Z → Table B
  there = table_of key_of row

  abbrev all_of : List Z → ℕ
  all_of = sum_of (λ z. v (row z))

  -- one that is taken out
  pub less_one : (k : Instance) (zs : List Z) → IsInKeyOrder instance_cmp key_of zs → (b : B) → there zs (address_of k) ≡ Some b
      → all_of zs ≡ all_of (rest k zs) + v b
  less_one k zs order b is =
      let taken : there (rest k zs) ≡ without k.action k.at (there zs) = table_take key_of row k zs order in
      let moved = sums_differ key_of row (λ (x : Address) (r : B). v r) k.at (k.action ∷ []) (refl, tt) zs (rest k zs) order
      (in_order-without instance_total key_of k zs order)
      (λ x u. ap (λ t. t x) taken ∙ unless (is_own k.action k.at x) None (there zs x)
      (first_not (nat_eq k.action x.name) false (same_at k.at x.at) u)) in
      let here : worth (λ (x : Address) (r : B). v r) (address_of k) (there zs (address_of k)) ≡ v b =
      ap (worth (λ (x : Address) (r : B). v r) (address_of k)) is in
      let gone : worth (λ (x : Address) (r : B). v r) (address_of k) (there (rest k zs) (address_of k)) ≡ 0 =
      ap (worth (λ (x : Address) (r : B). v r) (address_of k))
      (ap (λ t. t (address_of k)) taken
      ∙ when (is_own k.action k.at (address_of k)) None (there zs (address_of k)) (own_self k.action k.at)) in
      omega (arith, moved, here, gone)

  module _ {X Y : Type 0} (at : X → Instance) (see : X → Y) (w : Address → Y → ℕ) where
    abbrev table : List X → Table Y
    table = table_of at see

    abbrev part : X → ℕ
    part x = w (address_of (at x)) (see x)

    -- each entry is found there, and costs no more
    abbrev IsCovered : List X → List Z → Type 0
    IsCovered xs zs = (x : Address) (a : Y) → table xs x ≡ Some a → (b : B) × (there zs x ≡ Some b) × (w x a ≤ v b)

    -- what is left there, where these are taken out
    pub record IsLeft (xs : List X) (zs us : List Z) : Type 0 where
      pub ordered : IsInKeyOrder instance_cmp key_of us
      pub fits : sum_of part xs + all_of us ≤ all_of zs
      pub else_same : (x : Address) → table xs x ≡ None → there us x ≡ there zs x

    -- of a list that begins with an entry
    module _ (x : X) (xs : List X) (ox : IsInKeyOrder instance_cmp at (x ∷ xs)) (zs : List Z) (oz : IsInKeyOrder instance_cmp key_of zs)
        (all : IsCovered (x ∷ xs) zs) where
      own : table (x ∷ xs) (address_of (at x)) ≡ Some (see x)
      own = ap (λ o. option_map see (cond (is_eq o) (Some x) (find_key instance_cmp at (at x) xs))) (tied_itself instance_total (at x))

      gone : without_key instance_cmp at (at x) (x ∷ xs) ≡ xs
      gone = ap (λ o. cond (is_eq o) xs (x ∷ without_key instance_cmp at (at x) xs)) (tied_itself instance_total (at x))

      others_found : table xs ≡ without (at x).action (at x).at (table (x ∷ xs))
      others_found = ap (λ ys. table ys) (sym gone) ∙ table_take at see (at x) (x ∷ xs) ox

      others_there : there (rest (at x) zs) ≡ without (at x).action (at x).at (there zs)
      others_there = table_take key_of row (at x) zs oz

      others_covered : IsCovered xs (rest (at x) zs)
      others_covered y a e =
          ⊎_elim
          (λ t. absurd (none-some a (sym (at_own (at x).action (at x).at (table xs) (table (x ∷ xs)) others_found y t) ∙ e)))
          (λ f. let hit = all y a (sym (at_other (at x).action (at x).at (table xs) (table (x ∷ xs)) others_found y f) ∙ e) in
          (hit.0, at_other (at x).action (at x).at (there (rest (at x) zs)) (there zs) others_there y f ∙ hit.1, hit.2))
          (two (is_own (at x).action (at x).at y))

      left_of_all : (us : List Z) → IsLeft xs (rest (at x) zs) us → IsLeft (x ∷ xs) zs us
      left_of_all us more = record {
        ordered = more.ordered;
        fits =
            let hit = all (address_of (at x)) (see x) own in
            let less = less_one (at x) zs oz hit.0 hit.1 in
            let fits = more.fits in
            let cheap = hit.2 in
            omega (arith, less, fits, cheap);
        else_same = λ y e. ⊎_elim
            (λ t. absurd (none-some (see x)
            (sym (subst (λ z. table (x ∷ xs) z ≡ None) (sym (own_is (at x).action (at x).at y t)) e) ∙ own)))
            (λ f. more.else_same y (at_other (at x).action (at x).at (table xs) (table (x ∷ xs)) others_found y f ∙ e)
            ∙ at_other (at x).action (at x).at (there (rest (at x) zs)) (there zs) others_there y f)
            (two (is_own (at x).action (at x).at y));
      }

    pub covered : (xs : List X) → IsInKeyOrder instance_cmp at xs → (zs : List Z) → IsInKeyOrder instance_cmp key_of zs
        → IsCovered xs zs → (us : List Z) × IsLeft xs zs us
    covered [] ox zs oz all = (zs, record { ordered = oz; fits = omega arith; else_same = λ x e. refl })
    covered (x ∷ xs) ox zs oz all =
        let more = covered xs ox.1 (rest (at x) zs) (in_order-without instance_total key_of (at x) zs oz)
        (others_covered x xs ox zs oz all) in
        (more.0, left_of_all x xs ox zs oz all more.0 more.1)
