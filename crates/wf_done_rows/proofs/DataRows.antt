-- What a Select, a Query, a Join, a ParseJson and a Terminate take, by a value of each type, and names that are no status of a run.
use Rattle.std.proofs.Common.{◌≡◌, refl, ap, ℕ, List, [], ◌∷◌, map, true, false, Some, None, Ok, Err}
use Rattle.std.specs.Prelude.{codes, replicate}
use Rattle.wf_val.specs.Arguments.{bounded}
use Rattle.wf_val.specs.ValueTree.{ValueTree, null, boolean, text}
use Rattle.wf_val.specs.declared.fault.EvalFault.{EvalFault}
use Rattle.wf_val.specs.declared.function.Fun.{Fun}
use Rattle.wf_json.specs.Read.{read_value}
use Rattle.wf_json.specs.declared.fault.JsonFault.{JsonFault}
use Rattle.wf_template.specs.ExprTree.{literal}
use Rattle.wf_template.specs.TemplateTree.{whole}
use Rattle.wf_look.proofs.WorkedLook.{nowhere}
use Rattle.wf_record.specs.declared.status.RunStatus.{RunStatus}
use Rattle.wf_data.specs.Lists.{items_from, joined, made_query, made_select, query_truth}
use Rattle.wf_data.specs.Made.{one_member}
use Rattle.wf_data.specs.Parsed.{parsed, read_answer}
use Rattle.wf_data.specs.Simple.{run_status_by, run_status_named, terminated}
use Rattle.wf_data.proofs.RowParts.{plus, items, fields, that, listed, item, makes}

-- ---- a list alone is gone over

from-others : map items_from (null ∷ boolean true ∷ plus 0 ∷ text [] ∷ fields [] ∷ []) ≡ replicate 5 (Err (EvalFault.WrongType Fun.From 1))
from-others = refl

-- ---- an item is kept by a Boolean alone, and no other value stands for one

query-truths : map query_truth (boolean true ∷ boolean false ∷ []) ≡ Ok true ∷ Ok false ∷ []
query-truths = refl

query-others :
    map query_truth (
    null ∷ plus 0 ∷ plus 1 ∷ text [] ∷ text (codes "true") ∷ items [] ∷ items (boolean true ∷ []) ∷ fields [] ∷ [])
    ≡ replicate 8 (Err (EvalFault.WrongType Fun.Query 1))
query-others = refl

-- ---- null is an item as any other, and a value as any other

abbrev nulls : List ValueTree
nulls = null ∷ plus 1 ∷ null ∷ []

select-nulls : made_select nowhere (listed nulls) (that item) 7
    ≡ makes (one_member (codes "from") (items nulls)) (one_member (codes "body") (items nulls))
select-nulls = refl

query-nulls : made_query nowhere (listed nulls) (whole (literal (boolean true))) 7
    ≡ makes (one_member (codes "from") (items nulls)) (one_member (codes "body") (items nulls))
query-nulls = refl

-- ---- a text alone stands between the items of a Join

join-others :
    map (joined (items [])) (null ∷ boolean false ∷ plus 1 ∷ items [] ∷ items (text [] ∷ []) ∷ fields [] ∷ [])
    ≡ replicate 6 (Err (EvalFault.WrongType Fun.JoinWith 1))
join-others = refl

-- ---- what is no text is itself for a ParseJson; a text is what it spells, and bad where it spells nothing

parsed-others :
    map parsed (null ∷ boolean false ∷ plus 0 ∷ items [] ∷ fields [] ∷ [])
    ≡ Ok null ∷ Ok (boolean false) ∷ Ok (plus 0) ∷ Ok (items []) ∷ Ok (fields []) ∷ []
parsed-others = refl

-- whatever the reader of JSON says of a text
parsed-no_json : (s : List ℕ) (f : JsonFault) → read_value s ≡ Err f → parsed (text s) ≡ Err (EvalFault.BadText Fun.ParseJson)
parsed-no_json s f e = ap read_answer e

parsed-json : (s : List ℕ) (t : ValueTree) → read_value s ≡ Ok t → parsed (text s) ≡ bounded t
parsed-json s t e = ap read_answer e

-- ---- how a run ends is said by a text, which is one of three names

status-others :
    map run_status_by (
    None ∷ Some null ∷ Some (boolean true) ∷ Some (plus 0) ∷ Some (items (text (codes "Failed") ∷ []))
    ∷ Some (fields ((codes "runStatus", text (codes "Failed")) ∷ [])) ∷ [])
    ≡ replicate 6 None
status-others = refl

-- however the run ends, a Terminate gives out nothing
terminated-each :
    map (λ s. terminated (plus 7) (Some s)) (RunStatus.Succeeded ∷ RunStatus.Failed ∷ RunStatus.Cancelled ∷ [])
    ≡ replicate 3 (Ok (record { inputs = plus 7; outputs = null }))
terminated-each = refl

status-no_names :
    map run_status_named (
    codes "Canceled" ∷ codes "Success" ∷ codes "Running" ∷ codes "Waiting" ∷ codes "Suspended" ∷ codes "Paused" ∷ codes "Ignored"
    ∷ codes "Faulted" ∷ codes "OK" ∷ codes " Failed" ∷ codes "Faile" ∷ codes "Succeeded." ∷ codes "Cancelle" ∷ [])
    ≡ replicate 13 None
status-no_names = refl
