-- Two rising lists that leave out nothing of one another are one.
use Rattle.std.proofs.Common.{◌≡◌, ◌⊎◌, inl, inr, ℕ, zero, suc, ◌-◌, ◌<◌, ◌≤◌, List, [], ◌∷◌, length, Contains, refl, sym, ap, ◌∙◌}
use Rattle.std.proofs.Common.{arith, get_or}
use Rattle.std.proofs.lemmas.List.Elements.{All-head, All-tail, All-contains, Contains-append_right}
use Rattle.std.specs.List.{All}
use Rattle.wf_recur.specs.Next.{AreNext, IsRising}
use Rattle.wf_recur.specs.declared.recurrence.Recurrence.{Recurrence}

-- a number is in a list, or behind all of a list of n
abbrev IsInOrBehind : ℕ → List ℕ → ℕ → Type 0
IsInOrBehind n ms k = Contains ms k ⊎ ((length ms ≡ n) × All (λ j. j < k) ms)

abbrev AreInOrBehind : ℕ → List ℕ → List ℕ → Type 0
AreInOrBehind n ms ns = (k : ℕ) → Contains ms k → IsInOrBehind n ns k

pub head-in : (m : ℕ) (ms : List ℕ) → Contains (m ∷ ms) m
head-in m ms = (0, omega arith, refl)

pub cons-cases : (m : ℕ) (ms : List ℕ) (k i : ℕ) → i < suc (length ms) → get_or (m ∷ ms) i k ≡ k → (m ≡ k) ⊎ Contains ms k
cons-cases m ms k zero lt is = inl is
cons-cases m ms k (suc i) lt is = inr (i, omega (arith, lt), is)

-- the head of a rising list isn't behind what is in it, or behind it
head-least : (n m : ℕ) (ms : List ℕ) (k : ℕ) → IsRising (m ∷ ms) → IsInOrBehind n (m ∷ ms) k → m ≤ k
head-least n m ms k rising (inl among) =
    elim (cons-cases m ms k among.0 among.1 among.2) [
      | inl same ↦ omega (arith, same)
      | inr later ↦ omega (arith, All-contains (λ j. m < j) ms k rising.0 later)
    ]
head-least n m ms k rising (inr behind) = omega (arith, All-head (λ j. j < k) m ms behind.1)

tail-in : (n m : ℕ) (ms : List ℕ) (k : ℕ) → m < k → IsInOrBehind n (m ∷ ms) k → IsInOrBehind (n - 1) ms k
tail-in n m ms k lt (inl among) =
    elim (cons-cases m ms k among.0 among.1 among.2) [ inl same ↦ absurd (omega (arith, lt, same)) | inr later ↦ inl later ]
tail-in n m ms k lt (inr behind) = inr (omega (arith, behind.0), All-tail (λ j. j < k) m ms behind.1)

-- what is in the tail of one is in the tail of the other
tails-in : (n m : ℕ) (ms : List ℕ) (k : ℕ) (ns : List ℕ) → IsRising (m ∷ ms) → m ≡ k → AreInOrBehind n (m ∷ ms) (k ∷ ns)
    → AreInOrBehind (n - 1) ms ns
tails-in n m ms k ns rising same are j among =
    let later : m < j = All-contains (λ j. m < j) ms j rising.0 among in
    tail-in n k ns j (omega (arith, later, same)) (are j (Contains-append_right (m ∷ []) ms j among))

pub same : (n : ℕ) (ms ns : List ℕ) → IsRising ms → IsRising ns → length ms ≤ n → length ns ≤ n → AreInOrBehind n ms ns
    → AreInOrBehind n ns ms → ms ≡ ns
same n [] [] rising rising' few few' are are' = refl
same n [] (k ∷ ns) rising rising' few few' are are' =
    elim (are' k (head-in k ns)) [ inl among ↦ absurd (omega (arith, among.1)) | inr behind ↦ absurd (omega (arith, behind.0, few')) ]
same n (m ∷ ms) [] rising rising' few few' are are' =
    elim (are m (head-in m ms)) [ inl among ↦ absurd (omega (arith, among.1)) | inr behind ↦ absurd (omega (arith, behind.0, few)) ]
same n (m ∷ ms) (k ∷ ns) rising rising' few few' are are' =
    let up : k ≤ m = head-least n k ns m rising' (are m (head-in m ms)) in
    let down : m ≤ k = head-least n m ms k rising (are' k (head-in k ns)) in
    let heads : m ≡ k = omega (arith, up, down) in
    ap (λ x. x ∷ ms) heads
    ∙ ap (λ xs. k ∷ xs) (same (n - 1) ms ns rising.1 rising'.1 (omega (arith, few)) (omega (arith, few'))
    (tails-in n m ms k ns rising heads are) (tails-in n k ns m ms rising' (sym heads) are'))

pub next-same : (r : Recurrence) (from n : ℕ) (ms ns : List ℕ) → AreNext r from n ms → AreNext r from n ns → ms ≡ ns
next-same r from n ms ns one other =
    same n ms ns one.rising other.rising one.few other.few
    (λ m among. let is = one.each m among in other.whole m is.0 is.1)
    (λ m among. let is = other.each m among in one.whole m is.0 is.1)
