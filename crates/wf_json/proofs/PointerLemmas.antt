-- The lesser of pointers, and the least of a list of them.
use Rattle.std.proofs.Common.{◌≡◌, ℕ, suc, ◌<◌, List, [], ◌∷◌, ◌++◌, length, get_or, flat_map, map, Option, Some, None, option_map}
use Rattle.std.proofs.Common.{Ordering, Less, Equal, Greater, refl, sym, ap, ap₂, ◌∙◌, subst, arith, append_assoc, append-nil, ne_eqb}
use Rattle.std.specs.Ordering.{match_ordering, ordering_reverse}
use Rattle.std.proofs.lemmas.Str.{inside_one}
use lib.Utf8.{encode}
use Rattle.std.proofs.lemmas.Cmp.{nat_list_cmp_total, nat_cmp_total, tied_itself}
use Rattle.std.proofs.lemmas.Map.Lookups.{exact_bytes}
use Rattle.wf_val.specs.NameOrder.{bytes_cmp}
use Rattle.std.proofs.lemmas.List.Elements.{All-cons}
use Rattle.std.specs.Prelude.{slice_index_or}
use Rattle.wf_json.specs.Pointer.{escaped, lesser, least, IsLeast}

abbrev lower : List ℕ → List ℕ → List ℕ
lower p q = match_ordering (bytes_cmp p q) p p q

reversed : (p q : List ℕ) (o : Ordering) → bytes_cmp p q ≡ o → bytes_cmp q p ≡ ordering_reverse o
reversed p q o is = nat_list_cmp_total.antisymm q p ∙ ap ordering_reverse is

above : (p q r : List ℕ) → bytes_cmp p q ≡ Greater → bytes_cmp q r ≡ Greater → bytes_cmp p r ≡ Greater
above p q r a b = reversed r p Less (nat_list_cmp_total.trans r q p (reversed q r Greater b) (reversed p q Greater a))

lower-assoc : (p q r : List ℕ) (o o' : Ordering) → bytes_cmp p q ≡ o → bytes_cmp q r ≡ o' → lower p (lower q r) ≡ lower (lower p q) r
lower-assoc p q r Less Less a b = rw (b, a, nat_list_cmp_total.trans p q r a b) refl
lower-assoc p q r Less Equal a b = rw (b, a, subst (λ x. bytes_cmp p x ≡ Less) (exact_bytes q r b) a) refl
lower-assoc p q r Less Greater a b = rw (b, a) refl
lower-assoc p q r Equal Less a b = rw (b, a, nat_list_cmp_total.congr p q r a ∙ b) refl
lower-assoc p q r Equal Equal a b = rw (b, a, nat_list_cmp_total.congr p q r a ∙ b) refl
lower-assoc p q r Equal Greater a b = rw (b, a) refl
lower-assoc p q r Greater Less a b = rw (b, a, b) refl
lower-assoc p q r Greater Equal a b = rw (b, a, b) refl
lower-assoc p q r Greater Greater a b = rw (b, a, above p q r a b, b) refl

pub lesser-assoc : (p q r : Option (List ℕ)) → lesser p (lesser q r) ≡ lesser (lesser p q) r
lesser-assoc None q r = refl
lesser-assoc (Some p) None r = refl
lesser-assoc (Some p) (Some q) None = refl
lesser-assoc (Some p) (Some q) (Some r) = ap Some (lower-assoc p q r _ _ refl refl)

pub lesser-none : (p : Option (List ℕ)) → lesser p None ≡ p
lesser-none None = refl
lesser-none (Some p) = refl

pub least-append : (ps qs : List (List ℕ)) → least (ps ++ qs) ≡ lesser (least ps) (least qs)
least-append [] qs = refl
least-append (p ∷ ps) qs = ap (lesser (Some p)) (least-append ps qs) ∙ lesser-assoc (Some p) (least ps) (least qs)

-- nothing is below the empty pointer
pub least-empty : (o : Option (List ℕ)) → lesser (Some []) o ≡ Some []
least-empty None = refl
least-empty (Some []) = refl
least-empty (Some (x ∷ xs)) = refl

bytes_cmp-front : (s p q : List ℕ) → bytes_cmp (s ++ p) (s ++ q) ≡ bytes_cmp p q
bytes_cmp-front [] p q = refl
bytes_cmp-front (x ∷ s) p q = rw (tied_itself nat_cmp_total x) (bytes_cmp-front s p q)

lower-front : (s p q : List ℕ) → lower (s ++ p) (s ++ q) ≡ s ++ lower p q
lower-front s p q =
    ap (λ o. match_ordering o (s ++ p) (s ++ p) (s ++ q)) (bytes_cmp-front s p q)
    ∙ elim (bytes_cmp p q) as (λ o. match_ordering o (s ++ p) (s ++ p)
    (s ++ q) ≡ s ++ match_ordering o p p q) [ Less ↦ refl | Equal ↦ refl | Greater ↦ refl ]

lesser-front : (s p : List ℕ) (o : Option (List ℕ))
    → lesser (Some (s ++ p)) (option_map (λ q. s ++ q) o) ≡ option_map (λ q. s ++ q) (lesser (Some p) o)
lesser-front s p None = refl
lesser-front s p (Some q) = ap Some (lower-front s p q)

-- the least of pointers that begin alike
pub least-front : (s : List ℕ) (ps : List (List ℕ)) → least (map (λ p. s ++ p) ps) ≡ option_map (λ p. s ++ p) (least ps)
least-front s [] = refl
least-front s (p ∷ ps) = ap (lesser (Some (s ++ p))) (least-front s ps) ∙ lesser-front s p (least ps)

-- ---- the least is one of them, and none is below it

pub least-none : (ps : List (List ℕ)) → least ps ≡ None → ps ≡ []
least-none [] is = refl
least-none (p ∷ ps) is = absurd (some_lesser p (least ps) is)
  where
    some_lesser : (p : List ℕ) (o : Option (List ℕ)) → lesser (Some p) o ≡ None → ⊥
    some_lesser p None is = cc
    some_lesser p (Some q) is = cc

not_below_itself : (p : List ℕ) → bytes_cmp p p ≡ Less → ⊥
not_below_itself p below = let tied = tied_itself nat_list_cmp_total p in cc

first_or_rest : (p q : List ℕ) (ps : List (List ℕ)) (o : Ordering) → bytes_cmp p q ≡ o → IsLeast ps q
    → IsLeast (p ∷ ps) (match_ordering o p p q)
first_or_rest p q ps Less is rest = record {
  listed = (0, omega arith, refl);
  lowest =
      All-cons (λ r. bytes_cmp r p ≡ Less → ⊥) p ps (not_below_itself p)
      (λ k d within below. rest.lowest k d within (nat_list_cmp_total.trans (slice_index_or ps k d) p q below is));
}
first_or_rest p q ps Equal is rest = record {
  listed = (0, omega arith, refl);
  lowest =
      All-cons (λ r. bytes_cmp r p ≡ Less → ⊥) p ps (not_below_itself p)
      (λ k d within below. rest.lowest k d within (subst (λ x. bytes_cmp (slice_index_or ps k d) x ≡ Less) (exact_bytes p q is) below));
}
first_or_rest p q ps Greater is rest = record {
  listed = (suc rest.listed.0, omega (arith, rest.listed.1), rest.listed.2);
  lowest = All-cons (λ r. bytes_cmp r q ≡ Less → ⊥) p ps (λ below. cc) rest.lowest;
}

alone : (q p : List ℕ) (ps : List (List ℕ)) → least ps ≡ None → q ≡ p → IsLeast (q ∷ ps) p
alone q p ps none same =
    subst (λ r. IsLeast (q ∷ ps) r) same (subst (λ rs. IsLeast (q ∷ rs) q) (sym (least-none ps none)) (record {
      listed = (0, omega arith, refl);
      lowest = All-cons (λ r. bytes_cmp r q ≡ Less → ⊥) q [] (not_below_itself q) (λ k d within. absurd (omega arith));
    }))

by_rest : (q p : List ℕ) (ps : List (List ℕ)) (o : Option (List ℕ)) → ((r : List ℕ) → least ps ≡ Some r → IsLeast ps r) → least ps ≡ o
    → lesser (Some q) o ≡ Some p → IsLeast (q ∷ ps) p
by_rest q p ps None rest none one = alone q p ps none (cc)
by_rest q p ps (Some r) rest some one =
    let same : match_ordering (bytes_cmp q r) q q r ≡ p = cc in
    subst (λ x. IsLeast (q ∷ ps) x) same (first_or_rest q r ps (bytes_cmp q r) refl (rest r some))

pub least-IsLeast : (ps : List (List ℕ)) (p : List ℕ) → least ps ≡ Some p → IsLeast ps p
least-IsLeast [] p is = absurd (cc)
least-IsLeast (q ∷ ps) p is = by_rest q p ps (least ps) (least-IsLeast ps) refl is

-- ---- escapes

unescaped : (xs : List ℕ) → ((k : ℕ) → k < length xs → (get_or xs k 0 ≡ 126 → ⊥) × (get_or xs k 0 ≡ 47 → ⊥)) → flat_map escaped xs ≡ xs
unescaped [] other = refl
unescaped (x ∷ xs) other =
    let (no_tilde, no_slash) = other 0 (omega arith) in
    let itself : escaped x ≡ x ∷ [] = rw (ne_eqb x 126 no_tilde, ne_eqb x 47 no_slash) refl in
    ap₂ (λ (a b : List ℕ). a ++ b) itself (unescaped xs (λ k within. other (suc k) (omega arith)))

-- no byte of another character is a tilde or a slash
unescaped_char : (c : ℕ) → (c ≡ 126 → ⊥) → (c ≡ 47 → ⊥) → flat_map escaped (encode c) ≡ encode c
unescaped_char c no_tilde no_slash = unescaped (encode c) (λ k within.
    let alike : (get_or (encode c) k 0 < 128 → c ≡ get_or (encode c) k 0) = inside_one c [] (encode c) k
    (sym (append-nil (encode c))) within in (
      λ e. no_tilde (alike (omega arith) ∙ e),
      λ e. no_slash (alike (omega arith) ∙ e),
    ))

flat_map-append : (xs ys : List ℕ) → flat_map escaped (xs ++ ys) ≡ flat_map escaped xs ++ flat_map escaped ys
flat_map-append [] ys = refl
flat_map-append (x ∷ xs) ys =
    ap (λ zs. escaped x ++ zs) (flat_map-append xs ys) ∙ sym (append_assoc (escaped x) (flat_map escaped xs) (flat_map escaped ys))

pub escaped_char_then : (done : List ℕ) (c : ℕ) (rest : List ℕ) → (c ≡ 126 → ⊥) → (c ≡ 47 → ⊥)
    → (done ++ encode c) ++ flat_map escaped rest ≡ done ++ flat_map escaped (encode c ++ rest)
escaped_char_then done c rest no_tilde no_slash =
    append_assoc done (encode c) (flat_map escaped rest)
    ∙ ap (λ cs. done ++ cs) (sym (flat_map-append (encode c) rest ∙ ap (λ cs. cs ++ flat_map escaped rest)
    (unescaped_char c no_tilde no_slash)))
