-- Items of a list, and how many of them pass a test.
use Rattle.std.proofs.Common.{◌≡◌, ℕ, zero, suc, ◌+◌, ◌<◌, ◌≤◌, Bool, true, false, List, [], ◌∷◌, cond, count_by, length, refl, ap, arith}
use Rattle.std.specs.List.{AllByRecursion}
use Rattle.std.proofs.lemmas.List.Sums.{count_by-le-length, sum_by-cons}

-- an item is one of a list
pub data Among {A : Type 0} (x : A) : List A → Type 0 where
  first : (xs : List A) → Among x (x ∷ xs)
  later : (y : A) (xs : List A) → Among x xs → Among x (y ∷ xs)

pub of_all : {A : Type 0} (P : A → Type 0) (x : A) (xs : List A) → AllByRecursion P xs → Among x xs → P x
of_all P x xs all (first rest) = all.0
of_all P x xs all (later y rest at') = of_all P x rest all.1 at'

pub all_of : {A : Type 0} (P : A → Type 0) (xs : List A) → ((x : A) → Among x xs → P x) → AllByRecursion P xs
all_of P [] each = tt
all_of P (x ∷ xs) each = (each x (first xs), all_of P xs (λ y at'. each y (later x xs at')))

-- ---- how many pass

pub counted_next : {A : Type 0} (p : A → Bool) (x : A) (xs : List A) → count_by p (x ∷ xs) ≡ cond (p x) 1 0 + count_by p xs
counted_next p x xs = sum_by-cons (λ y. cond (p y) 1 0) x xs

one_le : (b c : Bool) → (b ≡ true → c ≡ true) → cond b 1 0 ≤ cond c 1 0
one_le true true stricter = omega arith
one_le true false stricter = let same : false ≡ true = stricter refl in absurd (cc same)
one_le false true stricter = omega arith
one_le false false stricter = omega arith

-- what an item adds
out : {A : Type 0} (p : A → Bool) (x : A) → p x ≡ false → cond (p x) 1 0 ≡ zero
out p x no' = ap (λ (b : Bool). cond {A = ℕ} b 1 0) no'

within : {A : Type 0} (p : A → Bool) (x : A) → p x ≡ true → cond (p x) 1 0 ≡ suc zero
within p x yes' = ap (λ (b : Bool). cond {A = ℕ} b 1 0) yes'

-- where one test is the stricter
pub count_le : {A : Type 0} (p q : A → Bool) (xs : List A) → ((x : A) → p x ≡ true → q x ≡ true) → count_by p xs ≤ count_by q xs
count_le p q [] stricter = omega arith
count_le p q (x ∷ xs) stricter =
    let rest = count_le p q xs stricter in
    let one = counted_next p x xs in
    let other = counted_next q x xs in
    let here = one_le (p x) (q x) (stricter x) in
    omega (arith, rest, one, other, here)

-- and an item passes the other alone
pub count_less : {A : Type 0} (p q : A → Bool) (x : A) (xs : List A) → ((y : A) → p y ≡ true → q y ≡ true) → Among x xs
    → p x ≡ false → q x ≡ true → count_by p xs < count_by q xs
count_less p q x xs stricter (first rest) no' yes' =
    let le = count_le p q rest stricter in
    let one = counted_next p x rest in
    let other = counted_next q x rest in
    let none = out p x no' in
    let here = within q x yes' in
    omega (arith, le, one, other, none, here)
count_less p q x xs stricter (later y rest at') no' yes' =
    let less = count_less p q x rest stricter at' no' yes' in
    let one = counted_next p y rest in
    let other = counted_next q y rest in
    let here = one_le (p y) (q y) (stricter y) in
    omega (arith, less, one, other, here)

-- and where one doesn't pass
pub count_short : {A : Type 0} (p : A → Bool) (x : A) (xs : List A) → Among x xs → p x ≡ false → count_by p xs < length xs
count_short p x xs (first rest) no' =
    let one = counted_next p x rest in
    let most = count_by-le-length p rest in
    let none = out p x no' in
    omega (arith, one, most, none)
count_short p x xs (later y rest at') no' =
    let one = counted_next p y rest in
    let less = count_short p x rest at' no' in
    let here = one_le (p y) true (λ is. refl) in
    omega (arith, one, less, here)
