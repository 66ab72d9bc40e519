-- A talk as contracts see it.
use Rattle.std.specs.Cmp.{IsTotalOrder}
use Rattle.std.specs.Ordering.{eq_by_cmp}
use Rattle.std.specs.Prelude.{ℕ, Bool, List, Option, None, Some}
use Rattle.std.specs.declared.cmp.Ordering.{Ordering}
use Rattle.std.proofs.lemmas.Cmp.{on_total}
use Rattle.wf_answers.specs.AnswerTree.{Key, key_cmp, key_cmp_total}
use Rattle.wf_answers.specs.Inputs.{InputsTree}
use Rattle.wf_talk.specs.Hearing.{After, Goes, Hearing, Over}
use Rattle.wf_talk.specs.declared.said.End.{End}
use Rattle.wf_talk.specs.declared.said.End.TheVariants.{Ended, TooLarge, InputEnded}
use Rattle.wf_talk.specs.declared.want.Want.{Want}
use Rattle.wf_talk.specs.declared.talk.Talk.{Talk}

abbrev pub want_key : Want → Key
want_key want = (want.address, want.attempt)

-- attempts that want answers are compared by their keys
abbrev pub want_cmp : Want → Want → Ordering
want_cmp a b = key_cmp (want_key a) (want_key b)

abbrev pub want_eq : Want → Want → Bool
want_eq = eq_by_cmp want_cmp

pub want_total : IsTotalOrder want_cmp
want_total = on_total want_key key_cmp_total

-- what the talk knows, by what its run has of inputs and wanted attempts
abbrev pub hearing : {S : Type 0} → (S → InputsTree) → (S → List Key) → Talk S → Hearing
hearing inputs wanted talk = record { inputs = inputs talk.stand; wanted = wanted talk.stand; number = talk.number; refused = talk.refused }

-- the number that the program ends with
abbrev pub number : End → ℕ
number Ended = 0
number TooLarge = 8
number InputEnded = 9

-- whether the talk goes on, and with what, or is over
abbrev pub after : Option End → Hearing → After
after None h = Goes h
after (Some end) h = Over (number end)

-- the status that a text is written with: where the talk goes on it is that of a sink that fails
abbrev pub status_of : Option End → ℕ
status_of None = 4
status_of (Some end) = number end
