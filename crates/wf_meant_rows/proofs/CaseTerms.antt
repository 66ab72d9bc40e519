-- Words in which random definitions are written, with the records that they mean.
use Prim.Native.String.{String}
use Rattle.std.specs.Prelude.{ℕ, List, [], ◌∷◌, None, codes}
use Rattle.wf_val.specs.ValueTree.{ValueTree, null}
use Rattle.wf_answers.specs.AnswerTree.{AnswerTree}
use Rattle.wf_trigger.specs.Starts.{StartTree, trigger_value}
use Rattle.wf_record.specs.Record.{RecordTree, RowTree}
use Rattle.wf_record.specs.declared.status.RunStatus.{RunStatus}
use Rattle.wf_record.specs.declared.status.Status.{Status}
use Rattle.wf_environment.specs.Environment.{Environment, fresh}
use Rattle.wf_meant.proofs.Terms.{fields, record_is, row_is}

-- what came in with this body, and the parameters p and t
abbrev pub begun : (body p t : ValueTree) → StartTree
begun body p t = record {
  run = codes "r1";
  seed = [];
  trigger = trigger_value null (fields ((codes "body", body) ∷ []));
  parameters = (codes "p", p) ∷ (codes "t", t) ∷ [];
}

-- a run of the name r1 with these answers
abbrev pub asked : (body p t : ValueTree) → List AnswerTree → Environment
asked body p t answers = fresh (begun body p t)
    (record { run = codes "r1"; seed = []; moment = 0; trigger = None; outputs = null; parameters = []; answers = answers })

-- what it leaves
abbrev pub leaves : (body p t : ValueTree) → RunStatus → (error response outputs : ValueTree) → List RowTree → RecordTree
leaves body p t status error response outputs rows = record (record_is status error response outputs rows) {
  trigger = (begun body p t).trigger;
  parameters = (begun body p t).parameters;
}

-- a row that neither Succeeded by itself nor was Skipped
abbrev pub left : String → List ℕ → Status → (code : List ℕ) → (inputs outputs error : ValueTree) → RowTree
left s at' status code inputs outputs error =
    row_is s at' (record { status = status; code = code; inputs = inputs; outputs = outputs; error = error })
