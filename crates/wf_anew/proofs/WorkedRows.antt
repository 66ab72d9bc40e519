-- Worked resubmissions beside fresh runs: of a run r1, by the inputs of a run r2.
use Rattle.std.proofs.Common.{◌≡◌, List, [], ◌∷◌, None, inr, refl}
use Rattle.std.specs.Prelude.{true, false, codes, decimal}
use Rattle.wf_val.specs.ValueTree.{null}
use Rattle.wf_template.specs.ExprTree.{member}
use Rattle.wf_retry.specs.declared.policy.Outcome.{Outcome}
use Rattle.wf_retry.specs.declared.policy.Policy.{Policy}
use Rattle.wf_answers.specs.AnswerTree.{AnswerTree}
use Rattle.wf_answers.specs.Inputs.{InputsTree}
use Rattle.wf_def.specs.ActionTree.{KindTree, action_trees, compose, connector, scope}
use Rattle.wf_def.specs.DefTree.{DefTree}
use Rattle.wf_record.specs.Record.{RecordTree, RowTree}
use Rattle.wf_record.specs.declared.attempt.Try.{Try}
use Rattle.wf_record.specs.declared.status.RunStatus.{RunStatus}
use Rattle.wf_record.specs.declared.status.Status.TheVariants.{Failed, Succeeded}
use Rattle.wf_record_form.specs.ReadBack.{untold_row}
use Rattle.wf_environment.specs.Environment.{Environment, facts_of, last_facts, layer_facts}
use Rattle.wf_turns.specs.Record.{meaning}
use Rattle.wf_turns.specs.Resubmitted.{pinned}
use Rattle.wf_turns.proofs.Terms.{act, alone, answered, as_second, called, ended, fields, inputs_again, obj, of, of_actions, ran, record_is}
use Rattle.wf_turns.proofs.Terms.{replied, success_of, txt, value, words}
use Rattle.wf_anew.specs.Asked.{IsAccepted}
use Rattle.wf_anew.specs.Layer.{kept_names, layer_of, redone_names, with_layer}
use Rattle.wf_anew.specs.Same.{GivesTheOld}
use Rattle.wf_anew.specs.Standing.{StandsFor, with_attempts}

-- ---- actions that give out the name of their run

abbrev telling : KindTree
telling = compose (of (member (member (alone "workflow") (codes "run") false) (codes "name") false))

-- A and B tell the run, B after A, and C beside them
abbrev told : DefTree
told = of_actions (
    act "A" 0 [] telling
    ∷ act "B" 1 (success_of 0) telling
    ∷ act "C" 2 [] telling
    ∷ [])

abbrev old-run : Environment
old-run = answered []

told-old : meaning told old-run ≡ record_is RunStatus.Succeeded null null (fields []) (
    ran "A" [] (words "r1") (words "r1") ∷ ran "B" [] (words "r1") (words "r1") ∷ ran "C" [] (words "r1") (words "r1") ∷ [])
unfolding meaning
told-old = refl

-- from A: A and B are redone, and C is kept; from B: B alone is redone
from-first : (redone_names told (0 ∷ []) (codes "A") ≡ true) × (redone_names told (0 ∷ []) (codes "B") ≡ true)
    × (redone_names told (0 ∷ []) (codes "C") ≡ false) × (kept_names told (0 ∷ []) (codes "C") ≡ true)
from-first = (refl, refl, refl, refl)

from-second : (redone_names told (1 ∷ []) (codes "A") ≡ false) × (redone_names told (1 ∷ []) (codes "B") ≡ true)
    × (kept_names told (1 ∷ []) (codes "A") ≡ true) × (kept_names told (1 ∷ []) (codes "B") ≡ false)
from-second = (refl, refl, refl, refl)

-- a name that no action has is neither, nor is one in another case
of-no-action : (redone_names told (0 ∷ []) (codes "a") ≡ false) × (kept_names told (0 ∷ []) (codes "a") ≡ false)
    × (redone_names told (0 ∷ []) [] ≡ false)
of-no-action = (refl, refl, refl)

-- from several, and from none
from-both : (redone_names told (1 ∷ 2 ∷ []) (codes "A") ≡ false) × (redone_names told (1 ∷ 2 ∷ []) (codes "B") ≡ true)
    × (redone_names told (1 ∷ 2 ∷ []) (codes "C") ≡ true)
from-both = (refl, refl, refl)

from-none : (redone_names told [] (codes "A") ≡ false) × (kept_names told [] (codes "A") ≡ true)
from-none = (refl, refl)

-- what each goes by then
abbrev from-b : Environment
from-b = with_layer old-run (layer_of told (1 ∷ []) (inputs_again []))

goes-by : (facts_of from-b (codes "A") ≡ facts_of old-run (codes "A")) × (facts_of from-b (codes "B") ≡ layer_facts (inputs_again []))
    × (last_facts from-b ≡ layer_facts (inputs_again []))
goes-by = (refl, refl, refl)

-- the fresh run sees the old name in what is kept, and the new one in what is redone
abbrev from-b-record : RecordTree
from-b-record = as_second (record_is RunStatus.Succeeded null null (fields []) (
    ran "A" [] (words "r1") (words "r1") ∷ ran "B" [] (words "r2") (words "r2") ∷ ran "C" [] (words "r1") (words "r1") ∷ []))

fresh-from-b : meaning told from-b ≡ from-b-record
unfolding meaning
fresh-from-b = refl

pinned-from-b : pinned told (meaning told old-run) (inputs_again []) (1 ∷ []) ≡ from-b-record
unfolding meaning pinned
pinned-from-b = refl

accepted-from-b : IsAccepted told (meaning told old-run) (codes "B" ∷ [])
unfolding meaning
accepted-from-b = refl

-- Once more, from A, of that record: of the two layers the later counts for A and B, and C has none.
abbrev then-from-a : Environment
then-from-a = with_layer from-b (layer_of told (0 ∷ []) (record (inputs_again []) { run = codes "r3" }))

then-fresh : meaning told then-from-a ≡ record (record_is RunStatus.Succeeded null null (fields []) (
    ran "A" [] (words "r3") (words "r3") ∷ ran "B" [] (words "r3") (words "r3") ∷ ran "C" [] (words "r1") (words "r1") ∷ [])) {
      run = codes "r3";
    }
unfolding meaning
then-fresh = refl

-- From none the record has the new name alone.
renamed : pinned told (meaning told old-run) (inputs_again []) [] ≡ as_second (meaning told old-run)
unfolding meaning pinned
renamed = refl

-- ---- a Scope with a connector that failed, which is closed again, and beside it an action that tells the run

abbrev inside : DefTree
inside = of_actions (
    act "S" 2 [] (scope (action_trees (
    act "A" 0 [] (connector (obj ((codes "method", txt "GET") ∷ (codes "uri", txt "u") ∷ [])) Policy.Never)
    ∷ act "C" 1 [] telling
    ∷ [])))
    ∷ [])

abbrev failing : List AnswerTree
failing = replied "A" [] 1 (Outcome.Code 404) (fields []) null ∷ []

abbrev mending : List AnswerTree
mending = replied "A" [] 1 (Outcome.Code 200) (fields []) (words "ok") ∷ []

abbrev called-a : Try → RowTree → RowTree
called-a try row = called (try ∷ []) row

abbrev failed-a : RowTree
failed-a = ended "A" [] Failed (decimal 404)
    (fields ((codes "method", words "GET") ∷ (codes "uri", words "u") ∷ []))
    (fields ((codes "body", null) ∷ (codes "headers", fields []) ∷ (codes "statusCode", value 404) ∷ []))

abbrev mended-a : RowTree
mended-a = ended "A" [] Succeeded (decimal 200)
    (fields ((codes "method", words "GET") ∷ (codes "uri", words "u") ∷ []))
    (fields ((codes "body", words "ok") ∷ (codes "headers", fields []) ∷ (codes "statusCode", value 200) ∷ []))

inside-old : meaning inside (answered failing) ≡ record_is RunStatus.Failed null null (fields []) (
    called-a (Try.Code 404) failed-a
    ∷ ran "C" [] (words "r1") (words "r1")
    ∷ ended "S" [] Failed (codes "ActionFailed") null null
    ∷ [])
unfolding meaning
inside-old = refl

-- the Scope is neither redone nor kept
around-it : (redone_names inside (0 ∷ []) (codes "S") ≡ false) × (kept_names inside (0 ∷ []) (codes "S") ≡ false)
    × (kept_names inside (0 ∷ []) (codes "C") ≡ true)
around-it = (refl, refl, refl)

-- and where it is chosen itself, all inside it is redone
with-all-inside : (redone_names inside (2 ∷ []) (codes "A") ≡ true) × (redone_names inside (2 ∷ []) (codes "C") ≡ true)
    × (redone_names inside (2 ∷ []) (codes "S") ≡ true)
with-all-inside = (refl, refl, refl)

abbrev inside-again : RecordTree
inside-again = as_second (record_is RunStatus.Succeeded null null (fields []) (
    called-a (Try.Code 200) mended-a ∷ ran "C" [] (words "r1") (words "r1") ∷ ran "S" [] null null ∷ []))

inside-fresh : meaning inside (with_layer (answered failing) (layer_of inside (0 ∷ []) (inputs_again mending))) ≡ inside-again
unfolding meaning
inside-fresh = refl

inside-pinned : pinned inside (meaning inside (answered failing)) (inputs_again mending) (0 ∷ []) ≡ inside-again
unfolding meaning pinned
inside-pinned = refl

inside-accepted : IsAccepted inside (meaning inside (answered failing)) (codes "A" ∷ [])
unfolding meaning
inside-accepted = refl

-- ---- old answers

-- inputs of the same name, seed and moment, with the answers of what is redone alone
abbrev handed : List AnswerTree → InputsTree
handed answers =
    record { run = codes "r1"; seed = []; moment = 0; trigger = None; outputs = null; parameters = []; answers = answers }

inside-the-same : pinned inside (meaning inside (answered failing)) (handed failing) (0 ∷ []) ≡ meaning inside (answered failing)
unfolding meaning pinned
inside-the-same = refl

gives-the-old : GivesTheOld inside (answered failing) (0 ∷ []) (handed failing)
gives-the-old = record {
  words = λ name is. record {
    run = refl;
    seed = refl;
    moment = refl;
  };
  answers = λ name is at attempt. refl;
  last = record { run = refl; seed = refl; moment = refl };
}

-- ---- a record that isn't told of attempts

abbrev two-calls : DefTree
two-calls = of_actions (
    act "A" 0 [] (connector (obj ((codes "method", txt "GET") ∷ (codes "uri", txt "u") ∷ [])) Policy.Never)
    ∷ act "B" 1 (success_of 0) (connector (obj ((codes "method", txt "GET") ∷ (codes "uri", txt "u") ∷ [])) Policy.Never)
    ∷ [])

abbrev both-fine : List AnswerTree
both-fine = replied "A" [] 1 (Outcome.Code 200) (fields []) (words "ok") ∷ replied "B" [] 1 (Outcome.Code 200) (fields []) null ∷ []

abbrev fine-b : RowTree
fine-b = ended "B" [] Succeeded (decimal 200)
    (fields ((codes "method", words "GET") ∷ (codes "uri", words "u") ∷ []))
    (fields ((codes "body", null) ∷ (codes "headers", fields []) ∷ (codes "statusCode", value 200) ∷ []))

abbrev untold-record : RecordTree
untold-record = record_is RunStatus.Succeeded null null (fields []) (
    called-a Try.Unknown mended-a ∷ called-a Try.Unknown fine-b ∷ [])

untold-two : untold_row (called (Try.Code 503 ∷ Try.NoAnswer ∷ []) mended-a) ≡ called (Try.Unknown ∷ Try.Unknown ∷ []) mended-a
untold-two = refl

stands-for : StandsFor untold-record (meaning two-calls (answered both-fine))
unfolding meaning
stands-for = record { rows = (inr refl, (inr refl, tt)); all_else = refl }

-- what is kept stays untold, and what is redone is told
abbrev partly-told : RecordTree
partly-told = as_second (record_is RunStatus.Succeeded null null (fields []) (
    called-a Try.Unknown mended-a ∷ called-a (Try.Code 200) fine-b ∷ []))

pinned-untold : pinned two-calls untold-record (inputs_again both-fine) (1 ∷ []) ≡ partly-told
unfolding pinned
pinned-untold = refl

fresh-untold : with_attempts (kept_names two-calls (1 ∷ [])) untold-record.rows
    (meaning two-calls (with_layer (answered both-fine) (layer_of two-calls (1 ∷ []) (inputs_again both-fine)))) ≡ partly-told
unfolding meaning
fresh-untold = refl
