-- The lines of a further schedule, one by one.
use Rattle.std.proofs.Common.{◌≡◌, ◌-◌, ◌<◌, ◌++◌, ℕ, zero, suc, List, [], refl, sym, ap, ◌∙◌, arith, subst, append_assoc}
use Rattle.std.proofs.lemmas.List.{append-nil}
use Rattle.wf_tests.specs.Schedules.{line, lines_behind, next}

no_line : (n state : ℕ) → n ≡ 0 → lines_behind n state ≡ []
unfolding lines_behind
no_line zero state is = refl
no_line (suc n) state is = absurd (omega (arith, is))

one_more : (n state : ℕ) → lines_behind (suc n) state ≡ line (next state) ++ lines_behind n (next state)
unfolding lines_behind
one_more n state = refl

counted : (n m state : ℕ) → n ≡ suc m → lines_behind n state ≡ line (next state) ++ lines_behind m (next state)
counted n m state is = ap (λ (k : ℕ). lines_behind k state) is ∙ one_more m state

behind : (n state : ℕ) (bytes bytes' all : List ℕ) → 0 < n → bytes' ≡ bytes ++ line (next state)
    → bytes ++ lines_behind n state ≡ all → bytes' ++ lines_behind (n - 1) (next state) ≡ all
behind n state bytes bytes' all some added is =
    ap (λ (l : List ℕ). l ++ lines_behind (n - 1) (next state)) added
    ∙ append_assoc bytes (line (next state)) (lines_behind (n - 1) (next state))
    ∙ sym (ap (λ (l : List ℕ). bytes ++ l) (counted n (n - 1) state (omega (arith, some))))
    ∙ is

-- one line more
pub one_line : (n state state' : ℕ) (bytes bytes' all : List ℕ) → 0 < n → state' ≡ next state → bytes' ≡ bytes ++ line state'
    → bytes ++ lines_behind n state ≡ all → bytes' ++ lines_behind (n - 1) state' ≡ all
one_line n state state' bytes bytes' all some named added is =
    subst (λ (s : ℕ). bytes' ++ lines_behind (n - 1) s ≡ all) (sym named)
    (behind n state bytes bytes' all some (added ∙ ap (λ (s : ℕ). bytes ++ line s) named) is)

-- no line more
pub no_more : (n state : ℕ) (bytes all : List ℕ) → n ≡ 0 → bytes ++ lines_behind n state ≡ all → bytes ≡ all
no_more n state bytes all none is =
    sym (append-nil bytes) ∙ sym (ap (λ (l : List ℕ). bytes ++ l) (no_line n state none)) ∙ is
