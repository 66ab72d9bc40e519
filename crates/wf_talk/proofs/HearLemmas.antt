-- What is said of a line, and of where the run stands.
use Rattle.std.proofs.Common.{◌≡◌, ◌<◌, ℕ, Bool, true, false, nat_eq, List, [], ◌∷◌, ◌++◌, length, Option, None, Some, Result, Ok, Err}
use Rattle.std.proofs.Common.{refl, sym, ap, ◌∙◌, subst, arith}
use Rattle.std.proofs.lemmas.Bool.Decides.{nat_tests}
use Rattle.std.specs.Prelude.{IfOk}
use Rattle.std.specs.declared.alloc.AllocError.{AllocError}
use Rattle.wf_answers.specs.AnswerTree.{AnswerTree, Key, key_of}
use Rattle.wf_answers.specs.Inputs.{InputsTree}
use Rattle.wf_talk.specs.Byte.{Finishes, HearsRest}
use Rattle.wf_talk.specs.Hearing.{After, Goes, Hearing, Over, opening, wanting}
use Rattle.wf_talk.specs.Keys.{fresh, is_among, open_lines}
use Rattle.wf_talk.specs.Line.{Refused, heard_answer, if_wanted, not_wanted_words}
use Rattle.wf_talk.specs.Says.{Hears, SaysWhere}
use Rattle.wf_talk.specs.Seen.{after, number}
use Rattle.wf_talk.specs.Standing.{Standing}
use Rattle.wf_talk.specs.Talks.{input_ended}
use Rattle.wf_talk.specs.declared.said.End.{End}
use Rattle.wf_talk.specs.declared.said.Last.{Last}
use Rattle.wf_talk.specs.declared.said.Said.{Said}

-- where nothing was wanted all is fresh
pub fresh_all : (keys : List Key) → keys ≡ fresh [] keys
fresh_all [] = refl
fresh_all (k ∷ keys) = ap (λ rest. k ∷ rest) (fresh_all keys)

-- what a test of emptiness tells
pub none_left : (xs : List ℕ) (b : Bool) → b ≡ nat_eq (length xs) 0 → b ≡ true → xs ≡ []
none_left [] b is holds = refl
none_left (x ∷ xs) b is holds = absurd (grind (arith, nat_tests))

pub some_left : (xs : List ℕ) (b : Bool) → b ≡ nat_eq (length xs) 0 → b ≡ false → 0 < length xs
some_left xs b is fails = grind (arith, nat_tests)

-- an answer that isn't wanted is refused
pub unwanted : (wanted : List Key) (a : AnswerTree) (b : Bool) (words bytes : List ℕ) → b ≡ is_among (key_of a) wanted → b ≡ false
    → bytes ≡ words
    → words ≡ not_wanted_words (key_of a) → Refused bytes ≡ heard_answer wanted (Ok a)
unwanted wanted a b words bytes is fails same are =
    ap Refused (same ∙ are) ∙ ap (λ test. if_wanted test a) (sym fails ∙ is)

module _ (Stands : InputsTree → Standing → Type 0) where
  -- ---- as the input ends

  finishes_at_once : (h : Hearing) (rest text : List ℕ) → rest ≡ [] → text ≡ open_lines h.wanted ++ input_ended
      → Finishes Stands h rest 9 text
  finishes_at_once h rest text none is = subst (λ r. Finishes Stands h r 9 text) (sym none) ([], Goes h, (refl, refl), (refl, is))

  hears_rest : (h : Hearing) (rest text : List ℕ) (next : After) → 0 < length rest → Hears Stands h rest text next
      → HearsRest Stands h rest text next
  hears_rest h [] text next some hears = absurd (omega (arith, some))
  hears_rest h (b ∷ rest) text next some hears = hears

  finishes_over : (h h' : Hearing) (rest text : List ℕ) (by : End) → 0 < length rest → Hears Stands h rest text (after (Some by) h')
      → Finishes Stands h rest (number by) text
  finishes_over h h' rest text by some hears = (text, Over (number by), hears_rest h rest text (Over (number by)) some hears, (refl, refl))

  finishes_open : (h h' : Hearing) (rest said text : List ℕ) → 0 < length rest → Hears Stands h rest said (after None h')
      → text ≡ said ++ (open_lines h'.wanted ++ input_ended) → Finishes Stands h rest 9 text
  finishes_open h h' rest said text some hears all = (said, Goes h', hears_rest h rest said (Goes h') some hears, (refl, all))

  -- a last line with which the talk is over
  pub over_with_line : (h h' : Hearing) (rest text : List ℕ) (ends : Option End) (by : End) → 0 < length rest → ends ≡ Some by
      → Hears Stands h rest text (after ends h') → Finishes Stands h rest (number by) text
  over_with_line h h' rest text ends by some is hears =
      finishes_over h h' rest text by some (subst (λ e. Hears Stands h rest text (after e h')) is hears)

  -- a last line behind which attempts still wait
  pub open_behind_line : (h h' : Hearing) (rest said : List ℕ) (ends : Option End) (r : Result Last AllocError) → 0 < length rest
      → ends ≡ None
      → Hears Stands h rest said (after ends h') → IfOk r (λ last. last.end ≡ End.InputEnded)
      → IfOk r (λ last. last.text.items ≡ said ++ (open_lines h'.wanted ++ input_ended))
      → IfOk r (λ last. Finishes Stands h rest (number last.end) last.text.items)
  open_behind_line h h' rest said ends (Ok last) some is hears ended all =
      subst (λ e. Finishes Stands h rest (number e) last.text.items) (sym ended)
      (finishes_open h h' rest said last.text.items some (subst (λ e. Hears Stands h rest said (after e h')) is hears) all)
  open_behind_line h h' rest said ends (Err e) some is hears ended all = tt

  -- no last line
  pub open_at_once : (h : Hearing) (rest before : List ℕ) (r : Result Last AllocError) → rest ≡ [] → before ≡ []
      → IfOk r (λ last. last.end ≡ End.InputEnded) → IfOk r (λ last. last.text.items ≡ before ++ (open_lines h.wanted ++ input_ended))
      → IfOk r (λ last. Finishes Stands h rest (number last.end) last.text.items)
  open_at_once h rest before (Ok last) none nothing ended all =
      subst (λ e. Finishes Stands h rest (number e) last.text.items) (sym ended)
      (finishes_at_once h rest last.text.items none (all ∙ ap (λ t. t ++ (open_lines h.wanted ++ input_ended)) nothing))
  open_at_once h rest before (Err e) none nothing ended all = tt

  -- before any line is taken: nothing was wanted, so all that is wanted is fresh
  pub opens : (h : Hearing) (keys wants : List Key) (next : Option End → After) (r : Result Said AllocError) → wants ≡ keys → h.number ≡ 0
      → h.refused ≡ 0 → IfOk r (λ said. (earlier : List Key) → wants ≡ fresh earlier keys
      → SaysWhere Stands (wanting h earlier) said.text.items (next said.over))
      → IfOk r (λ said. SaysWhere Stands (opening h.inputs) said.text.items (next said.over))
  opens h keys wants next (Ok said) same none_taken none_refused says =
      subst (λ n. SaysWhere Stands (record { inputs = h.inputs; wanted = []; number = 0; refused = n }) said.text.items
      (next said.over)) none_refused
      (subst (λ n. SaysWhere Stands (record { inputs = h.inputs; wanted = []; number = n; refused = h.refused }) said.text.items
      (next said.over))
      none_taken (says [] (same ∙ fresh_all keys)))
  opens h keys wants next (Err e) same none_taken none_refused says = tt
