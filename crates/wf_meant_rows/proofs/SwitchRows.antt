-- Worked definitions. A Switch by a value of each type, and one without a default.
use Rattle.std.proofs.Common.{◌≡◌, [], ◌∷◌, refl}
use Rattle.std.specs.Prelude.{List, codes, negsuc}
use Rattle.wf_val.specs.Arguments.{wrong_type}
use Rattle.wf_val.specs.ValueTree.{null, number}
use Rattle.wf_val.specs.declared.fault.EvalFault.{EvalFault}
use Rattle.wf_val.specs.declared.function.Fun.{Fun}
use Rattle.wf_template.specs.ExprTree.{ExprTree, literal}
use Rattle.wf_template.specs.TemplateTree.{letters, part, parts, TemplateTree, whole}
use Rattle.wf_def.specs.ActionTree.{case_trees, compose, switch, action_trees}
use Rattle.wf_def.specs.DefTree.{DefTree}
use Rattle.wf_record.specs.Record.{RecordTree, RowTree}
use Rattle.wf_record.specs.declared.status.RunStatus.{RunStatus}
use Rattle.wf_meant.specs.Record.{meaning}
use Rattle.wf_meant.proofs.Terms.{act, answered, apply, fell, fields, nat, num, of_actions, ran, record_is, say, unrun, value, words}

-- cases of a text, of a number and of a negative number, and no default
abbrev by_value : TemplateTree → DefTree
by_value on = of_actions (
    act "W" 3 [] (switch on (case_trees (
    (codes "P", (words "a", action_trees (act "A" 0 [] (compose (nat 1)) ∷ [])))
    ∷ (codes "Q", (value 0, action_trees (act "B" 1 [] (compose (nat 2)) ∷ [])))
    ∷ (codes "R", (number (negsuc 0), action_trees (act "C" 2 [] (compose (nat 3)) ∷ [])))
    ∷ [])))
    ∷ [])

abbrev switched : TemplateTree → RecordTree
switched on = meaning (by_value on) (answered [])

abbrev ends_well : List RowTree → RecordTree
ends_well rows = record_is RunStatus.Succeeded null null (fields []) rows

by-text : switched (whole (say "a")) ≡ ends_well (
    ran "A" [] (value 1) (value 1) ∷ unrun "B" [] ∷ unrun "C" [] ∷ ran "W" [] (words "a") null ∷ [])
unfolding meaning
by-text = refl

-- a text that is put together
by-parts : switched (parts (letters (codes "a") ∷ part (literal null) ∷ [])) ≡ ends_well (
    ran "A" [] (value 1) (value 1) ∷ unrun "B" [] ∷ unrun "C" [] ∷ ran "W" [] (words "a") null ∷ [])
unfolding meaning
by-parts = refl

by-number : switched (whole (num 0)) ≡ ends_well (
    unrun "A" [] ∷ ran "B" [] (value 2) (value 2) ∷ unrun "C" [] ∷ ran "W" [] (value 0) null ∷ [])
unfolding meaning
by-number = refl

by-negative : switched (whole (apply "sub" (num 1 ∷ num 2 ∷ []))) ≡ ends_well (
    unrun "A" [] ∷ unrun "B" [] ∷ ran "C" [] (value 3) (value 3) ∷ ran "W" [] (number (negsuc 0)) null ∷ [])
unfolding meaning
by-negative = refl

-- what is no case takes no branch, and the Switch Succeeded: the letters of a text count, and so does an empty one
by-none : switched (whole (say "A")) ≡ ends_well (unrun "A" [] ∷ unrun "B" [] ∷ unrun "C" [] ∷ ran "W" [] (words "A") null ∷ [])
unfolding meaning
by-none = refl

by-empty : switched (whole (say "")) ≡ ends_well (unrun "A" [] ∷ unrun "B" [] ∷ unrun "C" [] ∷ ran "W" [] (words "") null ∷ [])
unfolding meaning
by-empty = refl

by-other-number : switched (whole (num 1)) ≡ ends_well (unrun "A" [] ∷ unrun "B" [] ∷ unrun "C" [] ∷ ran "W" [] (value 1) null ∷ [])
unfolding meaning
by-other-number = refl

-- ---- null, a Boolean, a list and an object are none, and an expression without a value is told by its own fault

abbrev refused_by : EvalFault → RecordTree
refused_by f = record_is RunStatus.Failed null null (fields []) (unrun "A" [] ∷ unrun "B" [] ∷ unrun "C" [] ∷ fell "W" [] f ∷ [])

abbrev refuses : ExprTree → RecordTree
refuses e = switched (whole e)

by-null : refuses (literal null) ≡ refused_by (wrong_type Fun.Switch 0)
unfolding meaning
by-null = refl

by-truth : refuses (apply "equals" (num 1 ∷ num 1 ∷ [])) ≡ refused_by (wrong_type Fun.Switch 0)
unfolding meaning
by-truth = refl

by-list : refuses (apply "createArray" (num 0 ∷ [])) ≡ refused_by (wrong_type Fun.Switch 0)
unfolding meaning
by-list = refl

by-object : refuses (apply "workflow" []) ≡ refused_by (wrong_type Fun.Switch 0)
unfolding meaning
by-object = refl

by-fault : refuses (apply "div" (num 1 ∷ num 0 ∷ [])) ≡ refused_by (EvalFault.Range Fun.Div)
unfolding meaning
by-fault = refl
