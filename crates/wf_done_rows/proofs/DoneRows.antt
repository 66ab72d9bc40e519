-- What the schema of a ParseJson judges: the value that is given out, and that alone, once there is one. And what a fault comes to.
use Rattle.std.proofs.Common.{◌≡◌, refl, [], ◌∷◌, Some, None, Err}
use Rattle.std.specs.Prelude.{codes}
use Rattle.wf_val.specs.ValueTree.{ValueTree, null, text}
use Rattle.wf_val.specs.declared.fault.EvalFault.{EvalFault}
use Rattle.wf_json.specs.FaultText.{fault_text}
use Rattle.wf_retry.specs.declared.policy.Policy.{Policy}
use Rattle.wf_record.specs.declared.status.Status.{Status}
use Rattle.wf_template.specs.DataTree.{DataTree}
use Rattle.wf_schema.specs.Reading.{SchemaTree}
use Rattle.wf_def.specs.ActionTree.{parse_json}
use Rattle.wf_data.specs.Made.{MadeTree, one_member}
use Rattle.wf_data.proofs.RowParts.{plus, fields}
use Rattle.wf_done.specs.Done.{faulted, mismatched, succeeded}
use Rattle.wf_done.specs.Leaf.{acted, called_with, done_of, judged}

-- a text that spells 5, and the value that was read
abbrev five : MadeTree
five = record { inputs = one_member (codes "content") (text (codes "5")); outputs = one_member (codes "body") (plus 5) }

abbrev typed : ValueTree → SchemaTree
typed t = one_member (codes "type") t

judged-body : judged (Some (typed (text (codes "integer")))) five ≡ succeeded five
judged-body = refl

judged-no_content :
    judged (Some (typed (text (codes "string")))) five ≡ mismatched (one_member (codes "content") (text (codes "5"))) (codes "")
judged-no_content = refl

-- of two places the least by its bytes is told, and not the first by names
abbrev two_nulls : SchemaTree
two_nulls =
    one_member (codes "properties") (fields ((codes "a/", typed (text (codes "null"))) ∷ (codes "a0", typed (text (codes "null"))) ∷ []))

judged-least :
    judged (Some two_nulls)
    (record { inputs = null; outputs = one_member (codes "body") (fields ((codes "a/", plus 1) ∷ (codes "a0", plus 2) ∷ [])) })
    ≡ mismatched null (codes "/a0")
judged-least = refl

-- whatever the schema asks, a fault comes before it
fault-first : (content : DataTree) (schema : SchemaTree) (f : EvalFault) → done_of (parse_json content (Some schema)) (Err f) ≡ faulted f
fault-first content schema f = refl

fault-unjudged : (content : DataTree) (f : EvalFault) → done_of (parse_json content None) (Err f) ≡ faulted f
fault-unjudged content f = refl

-- ---- whatever the fault is, it fails the action with the one code, and no attempt is made

faulted-any :
    (f : EvalFault) → faulted f
    ≡ record { status = Status.Failed; code = codes "InvalidTemplate"; inputs = null; outputs = null; error = text (fault_text f) }
faulted-any f = refl

called-faulty : (policy : Policy) (f : EvalFault) → called_with policy (Err f) ≡ acted (faulted f)
called-faulty policy f = refl
