-- What an action has come to, and the view of it, at worked values.
use Rattle.std.proofs.Common.{◌≡◌, refl, [], ◌∷◌, true}
use Rattle.std.specs.Prelude.{codes}
use Rattle.wf_val.specs.ValueTree.{null, boolean, text}
use Rattle.wf_val.specs.declared.fault.EvalFault.{EvalFault}
use Rattle.wf_val.specs.declared.function.Fun.{Fun}
use Rattle.wf_connect.specs.Status.{Status}
use Rattle.wf_variables.proofs.RowParts.{plus, fields}
use Rattle.wf_done.specs.Done.{faulted, mismatched, skipped, succeeded, view}
use Rattle.wf_done.proofs.RowParts.{done, done_well, done_wrong, in_decimal}

-- ---- what it has come to

succeeded-values : succeeded (record { inputs = plus 1; outputs = plus 2 }) ≡ done_well (plus 1) (plus 2)
succeeded-values = refl

faulted-range : faulted (EvalFault.Range Fun.Div) ≡ done_wrong (codes "Range div")
faulted-range = refl

faulted-type : faulted (EvalFault.WrongType Fun.Terminate 1) ≡ done_wrong (codes "WrongType terminate 1")
unfolding in_decimal
faulted-type = refl

faulted-value : faulted (EvalFault.NoValue (codes "v")) ≡ done_wrong (codes "NoValue \"v\"")
faulted-value = refl

-- a place is told as a JSON text; the value at the top has the empty one
mismatched-top : mismatched (plus 1) [] ≡ done Status.Failed (codes "SchemaMismatch") (plus 1) null (text (codes "Schema \"\""))
mismatched-top = refl

mismatched-member :
    mismatched null (codes "/a~1b") ≡ done Status.Failed (codes "SchemaMismatch") null null (text (codes "Schema \"/a~1b\""))
mismatched-member = refl

mismatched-quote :
    mismatched null (codes "/a\"b") ≡ done Status.Failed (codes "SchemaMismatch") null null (text (codes "Schema \"/a\\\"b\""))
mismatched-quote = refl

skipped-nothing : skipped ≡ done Status.Skipped (codes "ActionSkipped") null null null
skipped-nothing = refl

-- ---- the view

view-succeeded :
    view (codes "A") (done_well (plus 1) (boolean true))
    ≡ fields ((codes "code", text (codes "OK")) ∷ (codes "error", null) ∷ (codes "inputs", plus 1) ∷ (codes "name", text (codes "A"))
    ∷ (codes "outputs", boolean true) ∷ (codes "status", text (codes "Succeeded")) ∷ [])
view-succeeded = refl

view-failed :
    view (codes "B") (done_wrong (codes "Range div"))
    ≡ fields ((codes "code", text (codes "InvalidTemplate")) ∷ (codes "error", text (codes "Range div")) ∷ (codes "inputs", null)
    ∷ (codes "name", text (codes "B")) ∷ (codes "outputs", null) ∷ (codes "status", text (codes "Failed")) ∷ [])
view-failed = refl

view-skipped :
    view (codes "C") skipped
    ≡ fields ((codes "code", text (codes "ActionSkipped")) ∷ (codes "error", null) ∷ (codes "inputs", null)
    ∷ (codes "name", text (codes "C")) ∷ (codes "outputs", null) ∷ (codes "status", text (codes "Skipped")) ∷ [])
view-skipped = refl

view-timed_out :
    view [] (done Status.TimedOut (codes "TimedOut") (plus 1) null null)
    ≡ fields ((codes "code", text (codes "TimedOut")) ∷ (codes "error", null) ∷ (codes "inputs", plus 1)
    ∷ (codes "name", text []) ∷ (codes "outputs", null) ∷ (codes "status", text (codes "TimedOut")) ∷ [])
view-timed_out = refl
