-- PARSE JSON: the value that its content spells, without what its schema asks of it.
use Rattle.std.specs.Prelude.{Result, Ok, Err, codes}
use Rattle.wf_val.specs.Arguments.{Answer, bounded, given}
use Rattle.wf_val.specs.ValueTree.{ValueTree, text}
use Rattle.wf_val.specs.declared.fault.EvalFault.{EvalFault}
use Rattle.wf_val.specs.declared.function.Fun.{Fun}
use Rattle.wf_json.specs.Read.{read_value}
use Rattle.wf_json.specs.declared.fault.JsonFault.{JsonFault}
use Rattle.wf_template.specs.DataTree.{DataTree}
use Rattle.wf_eval.specs.Told.{Told}
use Rattle.wf_eval.specs.TreeValue.{tree_value}
use Rattle.wf_data.specs.Made.{MadeTree, Making, fitting, followed, one_member}

-- what was read has to fit; a text that spells no value is bad
abbrev pub read_answer : Result ValueTree JsonFault → Answer
read_answer (Ok t) = bounded t
read_answer (Err f) = Err (EvalFault.BadText Fun.ParseJson)

-- a text is read, and any other value, null too, is itself
abbrev pub parsed : ValueTree → Answer
parsed (text s) = read_answer (read_value s)
parsed t = Ok t

-- what is kept
abbrev pub made_of_content : ValueTree → Result MadeTree EvalFault
made_of_content v = given (parsed v) (λ t. fitting (one_member (codes "content") v) (one_member (codes "body") t))

abbrev pub made_parse_json : Told → DataTree → Making
made_parse_json l content n = followed (tree_value l content n) made_of_content
