-- Rows that are marked place by place.
use Rattle.std.proofs.Common.{◌≡◌, ℕ, zero, suc, ◌+◌, ◌≤◌, Bool, true, false, ◌||◌, List, [], ◌∷◌, length, replicate, set, nat_eq, refl, sym, ap, ap₂, ◌∙◌, arith}
use Rattle.std.proofs.lemmas.Bool.{eq-eqb, eqb-true}
use Rattle.wf_paths.specs.Table.{from, marked, names}
use Rattle.wf_paths.proofs.TableLemmas.{or_no}

from_agree : {X : Type 0} (i n : ℕ) (f g : ℕ → X) → ((j : ℕ) → i ≤ j → f j ≡ g j) → from i n f ≡ from i n g
from_agree i zero f g same = refl
from_agree i (suc n) f g same =
    ap₂ (λ x xs. x ∷ xs) (same i (omega arith)) (from_agree (suc i) n f g (λ j above. same j (omega (arith, above))))

or_yes : (b : Bool) → true ≡ (b || true)
or_yes true = refl
or_yes false = refl

or_same : (b c : Bool) → c ≡ true → true ≡ (b || c)
or_same true c is = refl
or_same false c is = sym is

or_other : (b c : Bool) → c ≡ false → b ≡ (b || c)
or_other b true is = cc
or_other true false is = refl
or_other false false is = refl

apart : (a b : ℕ) → (a ≡ b → ⊥) → nat_eq a b ≡ false
apart a b out = elim (nat_eq a b) as (λ c. nat_eq a b ≡ c → nat_eq a b ≡ false) [
  | true ↦ λ is. absurd (out (eqb-true a b is))
  | false ↦ λ is. is
] refl

-- one mark more
set-from : (i n k : ℕ) (f : ℕ → Bool) → set (from i n f) k true ≡ from i n (λ p. f p || nat_eq p (i + k))
set-from i zero k f = refl
set-from i (suc n) zero f =
    ap₂ (λ x xs. x ∷ xs) (or_same (f i) (nat_eq i (i + 0)) (eq-eqb i (i + 0) (omega arith)))
    (from_agree (suc i) n f (λ p. f p || nat_eq p (i + 0))
    (λ j above. or_other (f j) (nat_eq j (i + 0)) (apart j (i + 0) (λ same. omega (arith, above, same)))))
set-from i (suc n) (suc k) f =
    ap₂ (λ x xs. x ∷ xs) (or_other (f i) (nat_eq i (i + suc k)) (apart i (i + suc k) (λ same. omega (arith, same))))
    (set-from (suc i) n k f ∙ ap (λ m. from (suc i) n (λ p. f p || nat_eq p m)) (omega arith))

or_assoc : (a b c : Bool) → ((a || b) || c) ≡ (a || (b || c))
or_assoc true b c = refl
or_assoc false b c = refl

marked-from : (n : ℕ) (f : ℕ → Bool) (ps : List ℕ) → marked (from 0 n f) ps ≡ from 0 n (λ p. f p || names ps p)
marked-from n f [] = from_agree 0 n f (λ p. f p || false) (λ j above. or_no (f j))
marked-from n f (q ∷ ps) =
    ap (λ row. marked row ps) (set-from 0 n q f ∙ ap (λ m. from 0 n (λ p. f p || nat_eq p m)) (omega arith))
    ∙ marked-from n (λ p. f p || nat_eq p q) ps
    ∙ from_agree 0 n (λ p. (f p || nat_eq p q) || names ps p) (λ p. f p || names (q ∷ ps) p)
    (λ j above. or_assoc (f j) (nat_eq j q) (names ps j))

none-from : (i n : ℕ) → replicate n false ≡ from i n (λ p. false)
none-from i zero = refl
none-from i (suc n) = ap (λ xs. false ∷ xs) (none-from (suc i) n)

-- marks in an empty row are the row of a node
pub marked_row : (n : ℕ) (ps : List ℕ) → marked (replicate n false) ps ≡ from 0 n (names ps)
marked_row n ps = ap (λ row. marked row ps) (none-from 0 n) ∙ marked-from n (λ p. false) ps

-- a place that isn't in the row changes nothing
pub set_outside : (row : List Bool) (k : ℕ) → length row ≤ k → set row k true ≡ row
set_outside [] k out = refl
set_outside (b ∷ row) zero out = absurd (omega (arith, out))
set_outside (b ∷ row) (suc k) out = ap (λ xs. b ∷ xs) (set_outside row k (omega (arith, out)))
