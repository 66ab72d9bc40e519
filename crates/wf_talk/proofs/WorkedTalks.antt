-- Worked talks, over any relation that tells where a run stands.
use Rattle.std.proofs.Common.{◌≡◌, ℕ, List, [], ◌∷◌, ◌++◌, Some, refl, sym, subst, arith}
use Rattle.std.specs.Fmt.{digits}
use Rattle.std.specs.Prelude.{codes}
use Rattle.wf_answers.specs.Added.{with_added}
use Rattle.wf_answers.specs.AnswerTree.{AnswerTree, Key}
use Rattle.wf_answers.specs.Inputs.{InputsTree}
use Rattle.wf_talk.specs.Hearing.{After, Hearing, counting}
use Rattle.wf_talk.specs.Line.{Accepted, Heard, Refused, heard}
use Rattle.wf_talk.specs.Says.{Hears, SaysOf, and_then, at_first}
use Rattle.wf_talk.specs.Standing.{Standing, Ends, Waits}
use Rattle.wf_talk.specs.Talks.{Closes, over, still_open}

abbrev first_of : List ℕ → Key
first_of name = (record { name = name; at = [] }, 1)

abbrev a : Key
a = first_of (codes "A")

abbrev b : Key
b = first_of (codes "B")

abbrev c : Key
c = first_of (codes "C")

abbrev d : Key
d = first_of (codes "D")

-- what a talk knows then
abbrev at : InputsTree → List Key → ℕ → ℕ → Hearing
at inputs wanted number refused = record { inputs = inputs; wanted = wanted; number = number; refused = refused }

-- what is said of a line, by what it comes to
hears : (Stands : InputsTree → Standing → Type 0) (h : Hearing) (line : List ℕ) (comes : Heard) (text : List ℕ) (next : After)
    → heard h.wanted line ≡ comes → SaysOf Stands (counting h) comes text next → Hears Stands h line text next
hears Stands h line comes text next is says = subst (λ x. SaysOf Stands (counting h) x text next) (sym is) says

-- An answer that isn't wanted is refused; the input ends, and what was wanted is still open.
abbrev for_b : List ℕ
for_b = codes "{\"action\":\"B\",\"status\":200}"

unwanted : (Stands : InputsTree → Standing → Type 0) (inputs : InputsTree) → Stands inputs (Waits (a ∷ []))
    → heard (a ∷ []) for_b ≡ Refused (codes "NotWanted \"B\" 1")
    → Closes Stands inputs (for_b ++ 10 ∷ []) (Some []) 9 (codes "# want A 1\n# refused 1 NotWanted \"B\" 1\n# open A 1\ninput ended\n")
unfolding digits
unwanted Stands inputs waits refused =
    still_open {h = at inputs (a ∷ []) 1 1} refl (omega arith)
    (and_then {h = at inputs (a ∷ []) 0 0} for_b (codes "# refused 1 NotWanted \"B\" 1\n") (at_first (Waits (a ∷ []), waits, refl, refl))
    (hears Stands (at inputs (a ∷ []) 0 0) for_b _ _ _ refused (refl, refl)))

-- A, then B and C at the same time, then D: what is wanted is told once, and the line that ends the run ends the talk.
abbrev for_a : List ℕ
for_a = codes "{\"action\":\"A\",\"status\":200,\"body\":\"a\"}"

abbrev for_c : List ℕ
for_c = codes "{\"action\":\"C\",\"status\":200,\"body\":\"c\"}"

abbrev then_b : List ℕ
then_b = codes "{\"action\":\"B\",\"status\":200,\"body\":\"b\"}"

abbrev for_d : List ℕ
for_d = codes "{\"action\":\"D\",\"status\":200,\"body\":\"d\"}"

abbrev all_lines : List ℕ
all_lines = for_a ++ (10 ∷ (for_c ++ (10 ∷ (then_b ++ (10 ∷ (for_d ++ 10 ∷ []))))))

all_wanted : (Stands : InputsTree → Standing → Type 0) (inputs : InputsTree) (a1 b1 c1 d1 : AnswerTree) (line : List ℕ)
    → Stands inputs (Waits (a ∷ []))
    → Stands (with_added inputs a1) (Waits (b ∷ c ∷ []))
    → Stands (with_added (with_added inputs a1) c1) (Waits (b ∷ []))
    → Stands (with_added (with_added (with_added inputs a1) c1) b1) (Waits (d ∷ []))
    → Stands (with_added (with_added (with_added (with_added inputs a1) c1) b1) d1) (Ends line)
    → heard (a ∷ []) for_a ≡ Accepted a1 → heard (b ∷ c ∷ []) for_c ≡ Accepted c1 → heard (b ∷ []) then_b ≡ Accepted b1
    → heard (d ∷ []) for_d ≡ Accepted d1
    → Closes Stands inputs all_lines (Some []) 0
    (codes "# want A 1\n# want B 1\n# want C 1\n# want D 1\n" ++ (line ++ codes "# session lines 4 refused 0\n"))
unfolding digits
all_wanted Stands inputs a1 b1 c1 d1 line s0 s1 s2 s3 s4 ha hc hb hd =
    let i1 = with_added inputs a1 in
    let i2 = with_added i1 c1 in
    let i3 = with_added i2 b1 in
    let h0 : Hearing = at inputs (a ∷ []) 0 0 in
    let h1 : Hearing = at i1 (b ∷ c ∷ []) 1 0 in
    let h2 : Hearing = at i2 (b ∷ []) 2 0 in
    let h3 : Hearing = at i3 (d ∷ []) 3 0 in
    over refl
    (and_then {h = h3} for_d (line ++ codes "# session lines 4 refused 0\n")
    (and_then {h = h2} then_b (codes "# want D 1\n")
    (and_then {h = h1} for_c []
    (and_then {h = h0} for_a (codes "# want B 1\n# want C 1\n") (at_first (Waits (a ∷ []), s0, refl, refl))
    (hears Stands h0 for_a _ _ _ ha (Waits (b ∷ c ∷ []), s1, refl, refl)))
    (hears Stands h1 for_c _ _ _ hc (Waits (b ∷ []), s2, refl, refl)))
    (hears Stands h2 then_b _ _ _ hb (Waits (d ∷ []), s3, refl, refl)))
    (hears Stands h3 for_d _ _ _ hd (Ends line, s4, refl, refl)))
