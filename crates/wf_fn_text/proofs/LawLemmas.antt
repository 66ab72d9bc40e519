-- The pieces of a text, with the separator between them, are the text; a place is where a list goes on as another.
use Rattle.std.proofs.Common.{◌≡◌, ℕ, zero, suc, ◌-◌, ◌<◌, ◌≤◌, List, [], ◌∷◌, ◌++◌, length, drop, refl, sym, ◌∙◌, ap, arith, Bool}
use Rattle.std.proofs.Common.{true, false, cond, nat_eq}
use Rattle.std.proofs.Common.{Option, Some, None, option_map, append_assoc}
use Rattle.std.proofs.lemmas.Bool.Decides.{Decides-eqb}
use Rattle.std.proofs.lemmas.Slice.Eq.{starts_is}
use Rattle.std.specs.List.{starts_with, onto_first, join_by, flat_map}
use Rattle.wf_fn_text.specs.Laws.{StandsAt, IsFirst, IsLast}
use Rattle.wf_fn_text.specs.Pieces.{pieces, pieces_past}
use Rattle.wf_fn_text.specs.Places.{first_place, last_place, later}

-- pieces, with a separator between each two
abbrev pub joined : List ℕ → List (List ℕ) → List ℕ
joined separator ps = join_by (λ p. p) separator ps

-- there is a first piece
pub record Some_pieces (ps : List (List ℕ)) : Type 0 where
  pub first : List ℕ
  pub others : List (List ℕ)
  pub are : ps ≡ first ∷ others

some-onto : (b : ℕ) (ps : List (List ℕ)) → Some_pieces (onto_first b ps)
some-onto b [] = record { first = b ∷ []; others = []; are = refl }
some-onto b (p ∷ ps) = record { first = b ∷ p; others = ps; are = refl }

some-either : (t : Bool) (ps qs : List (List ℕ)) → Some_pieces ps → Some_pieces qs → Some_pieces (cond t ps qs)
some-either true ps qs h k = h
some-either false ps qs h k = k

pub some-pieces : (p : List ℕ) (k : ℕ) (bs : List ℕ) → Some_pieces (pieces_past p k bs)
some-pieces p zero [] = record { first = []; others = []; are = refl }
some-pieces p (suc k) [] = record { first = []; others = []; are = refl }
some-pieces p (suc k) (b ∷ bs) = some-pieces p k bs
some-pieces p zero (b ∷ bs) =
    some-either (starts_with nat_eq (b ∷ bs) p) ([] ∷ pieces_past p (length p - 1) bs) (onto_first b (pieces_past p 0 bs))
    (record { first = []; others = pieces_past p (length p - 1) bs; are = refl }) (some-onto b (pieces_past p 0 bs))

-- a first piece, the separator, and the others
pub joined-behind : (p x : List ℕ) (ps : List (List ℕ)) → Some_pieces ps → joined p (x ∷ ps) ≡ x ++ (p ++ joined p ps)
joined-behind p x ps h =
    ap (λ l. joined p (x ∷ l)) h.are ∙ ap (λ l. x ++ l) (append_assoc p h.first (flat_map (λ y. p ++ y) h.others))
    ∙ ap (λ l. x ++ (p ++ joined p l)) (sym h.are)

pub joined-onto : (p : List ℕ) (b : ℕ) (ps : List (List ℕ)) → Some_pieces ps → joined p (onto_first b ps) ≡ b ∷ joined p ps
joined-onto p b ps h = ap (λ l. joined p (onto_first b l)) h.are ∙ ap (λ l. b ∷ joined p l) (sym h.are)

-- a text that begins with the separator is the separator and what is behind it
drop-front : (p : List ℕ) (b : ℕ) (bs : List ℕ) → 0 < length p → drop (length p) (b ∷ bs) ≡ drop (length p - 1) bs
drop-front [] b bs some = absurd (omega (arith, some))
drop-front (c ∷ p) b bs some = let less : length p ≡ length (c ∷ p) - 1 = omega arith in ap (λ n. drop n bs) less

goes_on : (part cs : List ℕ) → starts_with nat_eq cs part ≡ true → cs ≡ part ++ drop (length part) cs
goes_on part cs t = (starts_is Decides-eqb cs part (starts_with nat_eq cs part) refl).0 t

joined-at : (p : List ℕ) (b : ℕ) (bs : List ℕ) (t : Bool) → 0 < length p → starts_with nat_eq (b ∷ bs) p ≡ t
    → joined p (pieces_past p (length p - 1) bs) ≡ drop (length p - 1) bs → joined p (pieces_past p 0 bs) ≡ bs
    → joined p (cond t ([] ∷ pieces_past p (length p - 1) bs) (onto_first b (pieces_past p 0 bs))) ≡ b ∷ bs
joined-at p b bs true some at behind next =
    joined-behind p [] (pieces_past p (length p - 1) bs) (some-pieces p (length p - 1) bs)
    ∙ ap (λ l. p ++ l) (behind ∙ sym (drop-front p b bs some)) ∙ sym (goes_on p (b ∷ bs) at)
joined-at p b bs false some at behind next = joined-onto p b (pieces_past p 0 bs) (some-pieces p 0 bs) ∙ ap (λ l. b ∷ l) next

joined-past : (p : List ℕ) (k : ℕ) (bs : List ℕ) → 0 < length p → joined p (pieces_past p k bs) ≡ drop k bs
joined-past p zero [] some = refl
joined-past p (suc k) [] some = refl
joined-past p (suc k) (b ∷ bs) some = joined-past p k bs some
joined-past p zero (b ∷ bs) some =
    joined-at p b bs (starts_with nat_eq (b ∷ bs) p) some refl (joined-past p (length p - 1) bs some) (joined-past p 0 bs some)

pub joined-pieces : (p s : List ℕ) → 0 < length p → join_by (λ q. q) p (pieces p s) ≡ s
joined-pieces p s some = joined-past p 0 s some

-- whether a text stands at the start
stands : (part cs : List ℕ) → starts_with nat_eq cs part ≡ true → StandsAt part cs 0
stands part cs t = (drop (length part) cs, goes_on part cs t)

stands-not : (part cs : List ℕ) → starts_with nat_eq cs part ≡ false → StandsAt part cs 0 → ⊥
stands-not part cs f h =
    let t : starts_with nat_eq cs part ≡ true = (starts_is Decides-eqb cs part (starts_with nat_eq cs part) refl).1 h.0 h.1 in cc

-- nowhere at the start, and nowhere behind it
nowhere-on : (part : List ℕ) (c : ℕ) (cs : List ℕ) → starts_with nat_eq (c ∷ cs) part ≡ false → ((k : ℕ) → k ≤ length cs
    → StandsAt part cs k → ⊥)
    → (k : ℕ) → k ≤ length (c ∷ cs) → StandsAt part (c ∷ cs) k → ⊥
nowhere-on part c cs f h zero le = stands-not part (c ∷ cs) f
nowhere-on part c cs f h (suc k) le = h k (omega (arith, le))

nowhere-nothing : (part : List ℕ) → starts_with nat_eq [] part ≡ false → (k : ℕ) → k ≤ 0 → StandsAt part [] k → ⊥
nowhere-nothing part f zero le = stands-not part [] f
nowhere-nothing part f (suc k) le = absurd (omega (arith, le))

before-on : (part : List ℕ) (c : ℕ) (cs : List ℕ) (i : ℕ) → starts_with nat_eq (c ∷ cs) part ≡ false → ((k : ℕ) → k < i
    → StandsAt part cs k → ⊥)
    → (k : ℕ) → k < suc i → StandsAt part (c ∷ cs) k → ⊥
before-on part c cs i f h zero lt = stands-not part (c ∷ cs) f
before-on part c cs i f h (suc k) lt = h k (omega (arith, lt))

first-here : (part cs : List ℕ) (t : Bool) (behind : Option ℕ) → starts_with nat_eq cs part ≡ t → (t ≡ false → IsFirst part cs behind)
    → IsFirst part cs (cond t (Some 0) behind)
first-here part cs true behind at h = (stands part cs at, omega arith, λ k lt. absurd (omega (arith, lt)))
first-here part cs false behind at h = h refl

first-on : (part : List ℕ) (c : ℕ) (cs : List ℕ) (o : Option ℕ) → starts_with nat_eq (c ∷ cs) part ≡ false → IsFirst part cs o
    → IsFirst part (c ∷ cs) (option_map suc o)
first-on part c cs None f h = nowhere-on part c cs f h
first-on part c cs (Some i) f h = (h.0, omega (arith, h.1), before-on part c cs i f h.2)

pub is_first : (part cs : List ℕ) → IsFirst part cs (first_place part cs)
is_first part [] = first-here part [] (starts_with nat_eq [] part) None refl (nowhere-nothing part)
is_first part (c ∷ cs) =
    first-here part (c ∷ cs) (starts_with nat_eq (c ∷ cs) part) (option_map suc (first_place part cs)) refl
    (λ f. first-on part c cs (first_place part cs) f (is_first part cs))

behind-on : (part : List ℕ) (c : ℕ) (cs : List ℕ) (i : ℕ) → ((k : ℕ) → i < k → k ≤ length cs → StandsAt part cs k → ⊥)
    → (k : ℕ) → suc i < k → k ≤ length (c ∷ cs) → StandsAt part (c ∷ cs) k → ⊥
behind-on part c cs i h zero lt le = absurd (omega (arith, lt))
behind-on part c cs i h (suc k) lt le = h k (omega (arith, lt)) (omega (arith, le))

behind-start : (part : List ℕ) (c : ℕ) (cs : List ℕ) → ((k : ℕ) → k ≤ length cs → StandsAt part cs k → ⊥)
    → (k : ℕ) → 0 < k → k ≤ length (c ∷ cs) → StandsAt part (c ∷ cs) k → ⊥
behind-start part c cs h zero lt le = absurd (omega (arith, lt))
behind-start part c cs h (suc k) lt le = h k (omega (arith, le))

last-here : (part : List ℕ) (c : ℕ) (cs : List ℕ) (t : Bool) → starts_with nat_eq (c ∷ cs) part ≡ t → ((k : ℕ) → k ≤ length cs
    → StandsAt part cs k → ⊥)
    → IsLast part (c ∷ cs) (cond t (Some 0) None)
last-here part c cs true at h = (stands part (c ∷ cs) at, omega arith, behind-start part c cs h)
last-here part c cs false at h = nowhere-on part c cs at h

last-on : (part : List ℕ) (c : ℕ) (cs : List ℕ) (o : Option ℕ) → IsLast part cs o
    → IsLast part (c ∷ cs) (later o (cond (starts_with nat_eq (c ∷ cs) part) (Some 0) None))
last-on part c cs None h = last-here part c cs (starts_with nat_eq (c ∷ cs) part) refl h
last-on part c cs (Some i) h = (h.0, omega (arith, h.1), behind-on part c cs i h.2)

last-nothing : (part : List ℕ) (t : Bool) → starts_with nat_eq [] part ≡ t → IsLast part [] (cond t (Some 0) None)
last-nothing part true at = (stands part [] at, omega arith, λ k lt le. absurd (omega (arith, lt, le)))
last-nothing part false at = nowhere-nothing part at

pub is_last : (part cs : List ℕ) → IsLast part cs (last_place part cs)
is_last part [] = last-nothing part (starts_with nat_eq [] part) refl
is_last part (c ∷ cs) = last-on part c cs (last_place part cs) (is_last part cs)
