-- A fault of evaluation as it is printed: its name and its fields, with one space between. A function has its own name, a name is a
-- JSON text, and numbers are in decimal.
use Rattle.std.specs.Prelude.{ℕ, List, ◌++◌, codes, decimal}
use Rattle.wf_val.specs.Function.{function_name}
use Rattle.wf_val.specs.declared.fault.EvalFault.{EvalFault}
use Rattle.wf_json.specs.Json.{string}

abbrev pub fault_text : EvalFault → List ℕ
fault_text (EvalFault.WrongType function place) = codes "WrongType " ++ function_name function ++ codes " " ++ decimal place
fault_text (EvalFault.Range function) = codes "Range " ++ function_name function
fault_text (EvalFault.NoMember name) = codes "NoMember " ++ string name
fault_text (EvalFault.BadText function) = codes "BadText " ++ function_name function
fault_text (EvalFault.TooBig depth weight) = codes "TooBig " ++ decimal depth ++ codes " " ++ decimal weight
fault_text (EvalFault.NoValue name) = codes "NoValue " ++ string name
fault_text EvalFault.Memory = codes "Memory"
