-- There are no differences exactly where the expectation holds, and each difference is one.
use Rattle.std.proofs.Common.{◌≡◌, ◌↔◌, ℕ, List, [], ◌∷◌, ◌++◌, flat_map, Bool, true, false, ◌&&◌, cond, Option, Some, None, is_eq, Equal}
use Rattle.std.proofs.Common.{inl, inr, refl, sym, ap, ◌∙◌, subst, append_assoc, append-nil}
use Rattle.std.specs.List.{Contains}
use Rattle.std.proofs.lemmas.List.Elements.{Contains-append_cases, Contains-append_right}
use Rattle.wf_json.specs.Pointer.{member_step}
use Rattle.wf_match.specs.Differences.{differences, in_members, one, unless_equal}
use Rattle.wf_match.specs.Holds.{along, Holds, IsMet, IsOne}
use Rattle.wf_match.specs.Told.{Told}
use Rattle.wf_match.proofs.Elements.{none_in_nothing, first_listed, first_or_rest, no_elements, first_nothing, second_nothing, value_own}
use Rattle.wf_val.specs.Get.{is_object, value_of}
use Rattle.wf_val.specs.NameOrder.{bytes_cmp}
use Rattle.wf_val.specs.ValueOrder.{order}
use Rattle.wf_val.specs.ValueOrderLaws.{order-self, same_from_order}
use Rattle.wf_val.specs.ValueTree.{ValueTree, null, boolean, number, text, list}
use Rattle.wf_val.specs.ValueTree.{object, MemberTrees, no_members, member_then, Member, pairs}
use Rattle.wf_val.specs.WellFormed.{IsWellFormed, AllMembersWellFormed}
use Rattle.std.proofs.lemmas.Map.Lookups.{exact_bytes}

-- both are objects
abbrev both : ValueTree → Option ValueTree → Bool
both e None = false
both e (Some t) = is_object e && is_object t

apart_from : (e : ValueTree) → is_object e ≡ false → (found : Option ValueTree) → both e found ≡ false
apart_from e is None = refl
apart_from e is (Some t) = ap (λ b. b && is_object t) is

not_false : (b : Bool) → b ≡ true → b ≡ false → ⊥
not_false b is isnt = cc

-- ---- each difference is one

the_one : (at' : List ℕ) (e : ValueTree) (found : Option ValueTree) (d : Told) → (IsMet e found → ⊥) → Contains (one at' e found) d
    → IsOne at' e found d
the_one at' e found d amiss c = elim (first_or_rest _ [] d c) [
  | inl is ↦ subst (IsOne at' e found) is record {
    names = [];
    spelled = sym (append-nil at');
    asked = refl;
    there = along_nothing found;
    amiss = amiss;
  }
  | inr none ↦ absurd (none_in_nothing d none)
]
  where
    along_nothing : (found : Option ValueTree) → along [] found ≡ found
    along_nothing None = refl
    along_nothing (Some t) = refl

leaf_one : (at' : List ℕ) (e : ValueTree) (found : Option ValueTree) (d : Told) → both e found ≡ false
    → Contains (unless_equal at' e found) d → IsOne at' e found d
leaf_one at' e None d apart c = the_one at' e None d (λ met. met) c
leaf_one at' e (Some t) d apart c = at (is_eq (order e t)) refl c
  where
    unequal : is_eq (order e t) ≡ false → e ≡ t → ⊥
    unequal is same = not_false (is_eq (order e t)) (ap (λ x. is_eq (order e x)) (sym same) ∙ ap is_eq (order-self e)) is

    amiss : is_eq (order e t) ≡ false → IsMet e (Some t) → ⊥
    amiss is met = elim met [ inl same ↦ unequal is same | inr objects ↦ not_false (is_object e && is_object t) objects apart ]

    at : (b : Bool) → is_eq (order e t) ≡ b → Contains (cond b [] (one at' e (Some t))) d → IsOne at' e (Some t) d
    at true is c = absurd (none_in_nothing d c)
    at false is c = the_one at' e (Some t) d (amiss is) c

mutual
  pub one_of : (at' : List ℕ) (e : ValueTree) (found : Option ValueTree) (d : Told) → IsWellFormed e → Contains (differences at' e found) d
      → IsOne at' e found d
  one_of at' null found d formed c = leaf_one at' null found d (apart_from null refl found) c
  one_of at' (boolean b) found d formed c = leaf_one at' (boolean b) found d (apart_from (boolean b) refl found) c
  one_of at' (number n) found d formed c = leaf_one at' (number n) found d (apart_from (number n) refl found) c
  one_of at' (text s) found d formed c = leaf_one at' (text s) found d (apart_from (text s) refl found) c
  one_of at' (list ts) found d formed c = leaf_one at' (list ts) found d (apart_from (list ts) refl found) c
  one_of at' (object es) None d formed c = leaf_one at' (object es) None d refl c
  one_of at' (object es) (Some null) d formed c = leaf_one at' (object es) (Some null) d refl c
  one_of at' (object es) (Some (boolean b)) d formed c = leaf_one at' (object es) (Some (boolean b)) d refl c
  one_of at' (object es) (Some (number n)) d formed c = leaf_one at' (object es) (Some (number n)) d refl c
  one_of at' (object es) (Some (text s)) d formed c = leaf_one at' (object es) (Some (text s)) d refl c
  one_of at' (object es) (Some (list ts)) d formed c = leaf_one at' (object es) (Some (list ts)) d refl c
  one_of at' (object es) (Some (object ms)) d formed c =
      let (k, x, listed, is) = one_of_members at' es (pairs ms) d formed.1 c in
      record {
        names = k ∷ is.names;
        spelled = is.spelled ∙ append_assoc at' (member_step k) (flat_map member_step is.names);
        asked = ap (along is.names) (value_own (pairs es) k x formed.0 listed) ∙ is.asked;
        there = is.there;
        amiss = is.amiss;
      }

  one_of_members : (at' : List ℕ) (es : MemberTrees) (ms : List Member) (d : Told) → AllMembersWellFormed es
      → Contains (in_members at' es ms) d
      → (k : List ℕ) × (x : ValueTree) × Contains (pairs es) (k, x) × IsOne (at' ++ member_step k) x (value_of k ms) d
  one_of_members at' no_members ms d formed c = absurd (none_in_nothing d c)
  one_of_members at' (member_then k e es) ms d formed c =
      elim (Contains-append_cases (differences (at' ++ member_step k) e (value_of k ms)) (in_members at' es ms) d c) [
        | inl here ↦
            (k, e, first_listed (k, e) (pairs es), one_of (at' ++ member_step k) e (value_of k ms) d formed.0.1 here)
        | inr later ↦
            let (l, x, listed, is) = one_of_members at' es ms d formed.1 later in
            (l, x, Contains-append_right ((k, e) ∷ []) (pairs es) (l, x) listed, is)
      ]

-- ---- where there are none, the expectation holds

met_itself : (names : List (List ℕ)) (e u : ValueTree) → along names (Some e) ≡ Some u → IsMet u (along names (Some e))
met_itself names e u asked = subst (IsMet u) (sym asked) (inl refl)

leaf_holds : (names : List (List ℕ)) (at' : List ℕ) (e : ValueTree) (found : Option ValueTree) (u : ValueTree)
    → unless_equal at' e found ≡ [] → along names (Some e) ≡ Some u → IsMet u (along names found)
leaf_holds names at' e None u none asked = absurd (cc)
leaf_holds names at' e (Some t) u none asked = at (order e t) refl none
  where
    at : (o : _) → order e t ≡ o → cond (is_eq o) [] (one at' e (Some t)) ≡ [] → IsMet u (along names (Some t))
    at Equal is none = subst (λ x. IsMet u (along names (Some x))) (same_from_order e t is) (met_itself names e u asked)
    at o is none = absurd (cc)

-- what is left of the differences in the members is that of each
part_nothing : (at' : List ℕ) (es : MemberTrees) (ms : List Member) (k : List ℕ) (x : ValueTree) → in_members at' es ms ≡ []
    → value_of k (pairs es) ≡ Some x → differences (at' ++ member_step k) x (value_of k ms) ≡ []
part_nothing at' no_members ms k x none is = absurd (cc)
part_nothing at' (member_then l e es) ms k x none is =
    at (bytes_cmp k l) refl (part_nothing at' es ms k x (second_nothing (differences (at' ++ member_step l) e (value_of l ms)) _ none))
  where
    here : differences (at' ++ member_step l) e (value_of l ms) ≡ []
    here = first_nothing _ (in_members at' es ms) none

    at : (o : _) → bytes_cmp k l ≡ o
        → (value_of k (pairs es) ≡ Some x → differences (at' ++ member_step k) x (value_of k ms) ≡ [])
        → differences (at' ++ member_step k) x (value_of k ms) ≡ []
    at Equal tie later =
        let name : l ≡ k = sym (exact_bytes k l tie) in
        let value : e ≡ x = cc in
        subst (λ n. differences (at' ++ member_step n) x (value_of n ms) ≡ []) name
        (subst (λ y. differences (at' ++ member_step l) y (value_of l ms) ≡ []) value here)
    at o tie later = later (rw tie at is)

nothing_along : (names : List (List ℕ)) (u : ValueTree) → along names None ≡ Some u → ⊥
nothing_along names u is = cc

-- the names lead into a member
in_part : (names : List (List ℕ)) (es : MemberTrees) (k : List ℕ) (u : ValueTree) (found : Option ValueTree)
    → along names (value_of k (pairs es)) ≡ Some u
    → ((x : ValueTree) → value_of k (pairs es) ≡ Some x → along names (Some x) ≡ Some u → IsMet u (along names found))
    → IsMet u (along names found)
in_part names es k u found asked inside = at (value_of k (pairs es)) refl asked
  where
    at : (o : Option ValueTree) → value_of k (pairs es) ≡ o → along names o ≡ Some u → IsMet u (along names found)
    at None is asked = absurd (nothing_along names u asked)
    at (Some x) is asked = inside x is asked

holds_from_none : (names : List (List ℕ)) (at' : List ℕ) (e : ValueTree) (found : Option ValueTree) (u : ValueTree)
    → differences at' e found ≡ [] → along names (Some e) ≡ Some u → IsMet u (along names found)
holds_from_none names at' null found u none asked = leaf_holds names at' null found u none asked
holds_from_none names at' (boolean b) found u none asked = leaf_holds names at' (boolean b) found u none asked
holds_from_none names at' (number n) found u none asked = leaf_holds names at' (number n) found u none asked
holds_from_none names at' (text s) found u none asked = leaf_holds names at' (text s) found u none asked
holds_from_none names at' (list ts) found u none asked = leaf_holds names at' (list ts) found u none asked
holds_from_none names at' (object es) None u none asked = leaf_holds names at' (object es) None u none asked
holds_from_none names at' (object es) (Some null) u none asked = leaf_holds names at' (object es) (Some null) u none asked
holds_from_none names at' (object es) (Some (boolean b)) u none asked = leaf_holds names at' (object es) (Some (boolean b)) u none asked
holds_from_none names at' (object es) (Some (number n)) u none asked = leaf_holds names at' (object es) (Some (number n)) u none asked
holds_from_none names at' (object es) (Some (text s)) u none asked = leaf_holds names at' (object es) (Some (text s)) u none asked
holds_from_none names at' (object es) (Some (list ts)) u none asked = leaf_holds names at' (object es) (Some (list ts)) u none asked
holds_from_none [] at' (object es) (Some (object ms)) u none asked =
    let same : object es ≡ u = cc in
    subst (λ v. IsMet v (Some (object ms))) same (inr refl)
holds_from_none (k ∷ names) at' (object es) (Some (object ms)) u none asked =
    in_part names es k u (value_of k (pairs ms)) asked
    (λ x is asked. holds_from_none names (at' ++ member_step k) x (value_of k (pairs ms)) u (part_nothing at' es (pairs ms) k x none is)
    asked)

-- ---- both

pub none_iff_holds : (at' : List ℕ) (e : ValueTree) (found : Option ValueTree) → IsWellFormed e
    → (differences at' e found ≡ []) ↔ Holds e found
none_iff_holds at' e found formed = (
  (λ none names u asked. holds_from_none names at' e found u none asked),
  (λ holds. no_elements (differences at' e found) (λ d c.
      let is = one_of at' e found d formed c in
      is.amiss (subst (IsMet d.expected) is.there (holds is.names d.expected is.asked)))),
)

pub as_itself : (t : ValueTree) → IsWellFormed t → differences [] t (Some t) ≡ []
as_itself t formed = (none_iff_holds [] t (Some t) formed).1 (λ names u asked. met_itself names t u asked)
