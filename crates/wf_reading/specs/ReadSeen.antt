-- What a definition that was read stands for, and the fault of a value that is none.
use Rattle.std.specs.Prelude.{ℕ, List, Option, option_map}
use Rattle.wf_val.specs.ValueTree.{ValueTree}
use Rattle.wf_form.specs.Fault.{fault_of}
use Rattle.wf_def.specs.DefTree.{DefTree}
use Rattle.wf_reading.specs.Read.{tree_of_parts}
use Rattle.wf_reading.specs.declared.definition.Def.{Def}
use Rattle.wf_reading.specs.declared.definition.RuleFault.{RuleFault}

abbrev pub def_tree : Def → DefTree
def_tree d = tree_of_parts d.digest d.parameters d.given d.triggers d.top d.outputs

-- the number of a rule and a pointer, as a fault
abbrev pub rule_fault : ℕ × List ℕ → RuleFault
rule_fault f = RuleFault.Rule f.0 f.1

-- the fault of a file: the first rule that its definition breaks, with the least pointer
abbrev pub fault_in : ValueTree → Option RuleFault
fault_in file = option_map rule_fault (fault_of file)
