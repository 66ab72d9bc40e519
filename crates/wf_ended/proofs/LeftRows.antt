-- What is left of runs, at worked values.
use Rattle.std.proofs.Common.{◌≡◌, List, [], ◌∷◌, cond, Option, Some, None, length, refl}
use Rattle.std.specs.Prelude.{codes}
use Rattle.wf_val.specs.ValueTree.{null, object, no_members}
use Rattle.wf_val.specs.declared.val.Val.{Val}
use Rattle.wf_layers.specs.Address.{Address, Table, address, is_own}
use Rattle.wf_def.specs.ActionTree.{compose, foreach, response, scope, terminate, action_trees}
use Rattle.wf_def.specs.AllActions.{all_actions}
use Rattle.wf_def.specs.DefTree.{DefTree}
use Rattle.wf_def.specs.Names.{graph_names}
use Rattle.wf_asks.specs.declared.known.RowAt.{RowAt}
use Rattle.wf_catalog.specs.Done as done
use Rattle.wf_order.specs.Table.{OrderTree, order_of}
use Rattle.wf_record.specs.Record.{Row, RowTree}
use Rattle.wf_record.specs.declared.row.Row as rows
use Rattle.wf_record.specs.declared.status.RunStatus.{RunStatus}
use Rattle.wf_record.specs.declared.status.Status.{Status}
use Rattle.wf_catalog.specs.Starts.{StartTree}
use Rattle.wf_catalog.specs.Containers.{is_terminate}
use Rattle.wf_catalog.specs.Points.{graph_of}
use Rattle.wf_catalog.specs.Record.{is_response}
use Rattle.wf_catalog.specs.Rows.{row_of}
use Rattle.wf_catalog.proofs.Terms.{act, many, nat, of_actions, obj, success_of, value, words}
use Rattle.wf_ended.specs.First.{first_among, places_of, row_of_place}
use Rattle.wf_ended.specs.Found.{as_row, cost_of}
use Rattle.wf_ended.specs.Left.{LeftTree, recorded, first_cost}

-- Three Terminates: A waits for C, and B stands in the Scope S. Of A and C the latter is first, whatever their names.
abbrev ending : DefTree
ending = of_actions (
    act "A" 0 (success_of 2) (terminate (obj []))
    ∷ act "C" 2 [] (terminate (obj []))
    ∷ act "R" 3 [] (response (obj []))
    ∷ act "S" 4 (success_of 0) (scope (action_trees (act "B" 1 [] (terminate (obj [])) ∷ act "Q" 5 [] (response (obj [])) ∷ [])))
    ∷ [])

abbrev order : OrderTree
order = order_of (length (graph_names ending.top)) (graph_of ending)

abbrev ran : Row
ran = row_of (done.succeeded (record { inputs = value 1; outputs = null })) (object no_members) []

abbrev unrun : Row
unrun = row_of done.skipped (object no_members) []

abbrev rows_at : List (Address × Row) → Table Row
rows_at [] x = None
rows_at (r ∷ rs) x = cond (is_own r.0.name r.0.at x) (Some r.1) (rows_at rs x)

abbrev first_of : Table Row → Option Address
first_of known = first_among order known None (places_of is_terminate (all_actions ending.top))

terminates-stand : places_of is_terminate (all_actions ending.top) ≡ address 0 [] ∷ address 2 [] ∷ address 1 [] ∷ []
terminates-stand = refl

responses-stand : places_of is_response (all_actions ending.top) ≡ address 3 [] ∷ address 5 [] ∷ []
responses-stand = refl

the_earlier-is_first : first_of (rows_at ((address 0 [], ran) ∷ (address 2 [], ran) ∷ (address 1 [], ran) ∷ [])) ≡ Some (address 2 [])
the_earlier-is_first = refl

skipped-is_passed_over : first_of (rows_at ((address 0 [], ran) ∷ (address 2 [], unrun) ∷ (address 1 [], ran) ∷ [])) ≡ Some (address 0 [])
skipped-is_passed_over = refl

inner-where_no_other : first_of (rows_at ((address 0 [], unrun) ∷ (address 1 [], ran) ∷ [])) ≡ Some (address 1 [])
inner-where_no_other = refl

none-has_succeeded : first_of (rows_at ((address 0 [], unrun) ∷ [])) ≡ None
none-has_succeeded = refl

none-has_a_row : row_of_place (rows_at ((address 0 [], ran) ∷ [])) None ≡ None
none-has_a_row = refl

its-row : row_of_place (rows_at ((address 0 [], ran) ∷ [])) (Some (address 0 [])) ≡ Some ran
its-row = refl

-- ---- a row stands at the address of its instance, whatever its own is

abbrev looped : DefTree
looped = of_actions (act "L" 1 [] (foreach (many []) 20 (action_trees (act "C" 0 [] (compose (nat 1)) ∷ []))) ∷ [])

abbrev found : RowAt rows.Row
found = record {
  instance = record { action = 0; at = 2 ∷ [] };
  row = record {
    address = record { name = codes "elsewhere"; at = [] };
    status = Status.Failed;
    code = codes "E";
    inputs = Val.Null;
    outputs = Val.Text (codes "ab");
    error = Val.Null;
    tracked = Val.Null;
    attempts = [];
  };
}

abbrev told : RowTree
told = record {
  address = record { name = codes "C"; at = 2 ∷ [] };
  row = record {
    status = Status.Failed;
    code = codes "E";
    inputs = null;
    outputs = words "ab";
    error = null;
    tracked = null;
    attempts = [];
  };
}

at_its_instance : as_row looped found ≡ told
at_its_instance = refl

-- 64, 3 for the text and 1 for each null
costs-the_same : cost_of found ≡ 70
costs-the_same = refl

-- ---- what a record has of each, and what a start costs

abbrev started : StartTree
started = record { run = codes "r"; seed = codes "s"; trigger = words "abc"; parameters = (codes "p", value 1) ∷ [] }

abbrev left : LeftTree
left = record {
  ending = record { status = RunStatus.Failed; error = words "e"; outputs = words "o" };
  response = value 7;
  rows = told ∷ [];
}

parts-are_recorded : recorded (1 ∷ 2 ∷ []) started left ≡ record {
  run = codes "r";
  digest = 1 ∷ 2 ∷ [];
  trigger = words "abc";
  parameters = (codes "p", value 1) ∷ [];
  status = RunStatus.Failed;
  error = words "e";
  response = value 7;
  outputs = words "o";
  rows = told ∷ [];
}
parts-are_recorded = refl

-- 64, 4 for the text, and 4 for the object: 1 for itself, 2 for the name and 1 for the number
a_start-costs : first_cost started ≡ 72
a_start-costs = refl
