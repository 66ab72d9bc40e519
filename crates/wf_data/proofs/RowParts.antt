-- What worked rows on actions are written in.
use Rattle.std.proofs.Common.{ℕ, ◌-◌, ◌^◌, List, [], ◌∷◌, Result, Ok, Err}
use Rattle.std.specs.Prelude.{pos, negsuc, codes}
use Rattle.wf_val.specs.ValueTree.{ValueTree, Member, number, list, object, trees, members}
use Rattle.wf_val.specs.declared.fault.EvalFault.{EvalFault}
use Rattle.wf_template.specs.DataTree as inputs
use Rattle.wf_template.specs.ExprTree.{ExprTree, literal}
use Rattle.wf_template.specs.TemplateTree.{whole}
use Rattle.wf_eval.proofs.WorkedExpressions as expression
use Rattle.wf_data.specs.Made.{MadeTree}

-- ---- values

abbrev pub plus : ℕ → ValueTree
plus n = number (pos n)

-- the greatest and the least number of 64 bits
abbrev pub greatest : ValueTree
greatest = plus (2 ^ 63 - 1)

abbrev pub least : ValueTree
least = number (negsuc (2 ^ 63 - 1))

abbrev pub items : List ValueTree → ValueTree
items ts = list (trees ts)

abbrev pub fields : List Member → ValueTree
fields ms = object (members ms)

-- ---- what is evaluated

-- a text that is one expression
abbrev pub that : ExprTree → inputs.DataTree
that e = inputs.text (whole e)

abbrev pub listed : List ValueTree → inputs.DataTree
listed ts = that (literal (items ts))

abbrev pub tree_items : List inputs.DataTree → inputs.DataTree
tree_items ts = inputs.list (inputs.data_trees ts)

abbrev pub tree_fields : List inputs.DataMember → inputs.DataTree
tree_fields ms = inputs.object (inputs.data_members ms)

abbrev pub item : ExprTree
item = expression.of (codes "item") []

-- it draws a word
abbrev pub random : ExprTree
random = expression.of (codes "rand") (expression.int 1 ∷ expression.int 5 ∷ [])

-- ---- what is made, where seven words were drawn before and none is drawn

abbrev pub Outcome : Type 0
Outcome = Result MadeTree EvalFault × ℕ

abbrev pub makes : ValueTree → ValueTree → Outcome
makes i o = (Ok (record { inputs = i; outputs = o }), 7)

abbrev pub faults : EvalFault → Outcome
faults f = (Err f, 7)
