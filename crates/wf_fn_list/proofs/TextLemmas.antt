-- A text stands in another where the other is cut into what is before it, the text, and what is behind it.
use Rattle.std.proofs.Common.{◌≡◌, ℕ, List, [], ◌∷◌, ◌++◌, length, drop, refl, sym, ◌∙◌, ap, Bool, true, false, ◌||◌, nat_eq, ◌↔◌}
use Rattle.std.proofs.lemmas.Bool.Decides.{Decides-eqb}
use Rattle.std.proofs.lemmas.Slice.Eq.{starts_is}
use Rattle.std.specs.List.{starts_with}
use Rattle.std.specs.Str.Iter.{HasSubslice}
use Rattle.wf_fn_list.specs.Membership.{stands_in}
use Rattle.wf_fn_list.proofs.MembershipLemmas.{or-left, or-true}

starts-has : (part rest : List ℕ) → starts_with nat_eq (part ++ rest) part ≡ true
starts-has part rest = (starts_is Decides-eqb (part ++ rest) part (starts_with nat_eq (part ++ rest) part) refl).1 rest refl

starts-cut : (part bs : List ℕ) → starts_with nat_eq bs part ≡ true → HasSubslice bs part
starts-cut part bs starts = ([], drop (length part) bs, (starts_is Decides-eqb bs part (starts_with nat_eq bs part) refl).0 starts)

stands-front : (part bs : List ℕ) → starts_with nat_eq bs part ≡ true → stands_in part bs ≡ true
stands-front part [] starts = starts
stands-front part (b ∷ bs) starts = or-left (starts_with nat_eq (b ∷ bs) part) (stands_in part bs) starts

stands-behind : (part before behind : List ℕ) → stands_in part (before ++ (part ++ behind)) ≡ true
stands-behind part [] behind = stands-front part (part ++ behind) (starts-has part behind)
stands-behind part (b ∷ before) behind =
    or-true (starts_with nat_eq (b ∷ (before ++ (part ++ behind))) part) (stands_in part (before ++ (part ++ behind)))
    (stands-behind part before behind)

cut-at : (part : List ℕ) (b : ℕ) (bs : List ℕ) (starts : Bool) → starts ≡ starts_with nat_eq (b ∷ bs) part
    → (stands_in part bs ≡ true → HasSubslice bs part)
    → starts || stands_in part bs ≡ true → HasSubslice (b ∷ bs) part
cut-at part b bs true is behind stands = starts-cut part (b ∷ bs) (sym is)
cut-at part b bs false is behind stands = let cut = behind stands in (b ∷ cut.0, cut.1, ap (λ l. b ∷ l) cut.2)

stands-cut : (part bs : List ℕ) → stands_in part bs ≡ true → HasSubslice bs part
stands-cut part [] stands = starts-cut part [] stands
stands-cut part (b ∷ bs) stands = cut-at part b bs (starts_with nat_eq (b ∷ bs) part) refl (stands-cut part bs) stands

pub stands-is_cut : (part bs : List ℕ) → (stands_in part bs ≡ true) ↔ HasSubslice bs part
stands-is_cut part bs = (stands-cut part bs, λ cut. ap (stands_in part) cut.2 ∙ stands-behind part cut.0 cut.1)

pub same-test : (a b : Bool) → (a ≡ true → b ≡ true) → (b ≡ true → a ≡ true) → a ≡ b
same-test true b to from = sym (to refl)
same-test false true to from = from refl
same-test false false to from = refl
