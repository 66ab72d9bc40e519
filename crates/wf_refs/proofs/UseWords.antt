-- Words for the rows of worked uses.
use Prim.Native.String.{String}
use Rattle.std.specs.Prelude.{ℕ, List, [], ◌∷◌, false, codes}
use Rattle.wf_val.specs.ValueTree as value
use Rattle.wf_template.specs.ExprTree.{ExprTree, literal, call, expr_trees}
use Rattle.wf_template.specs.TemplateTree.{TemplateTree, whole}
use Rattle.wf_template.specs.DataTree.{DataTree, text}
use Rattle.wf_template.specs.CondTree.{CondTree, holds}
use Rattle.wf_uses.specs.Uses.{uses}
use Rattle.wf_eval.specs.Uses.{cond_uses, template_uses, tree_uses}
use Rattle.wf_uses.specs.UsesTree.{UsesTree, uses_tree}

abbrev pub none : UsesTree
none = record {
  names = [];
  results = [];
  reads = [];
  writes = [];
  parameters = [];
  items = [];
  indexes = [];
  item = false;
  own = false;
  words = false;
  moment = false;
  run = false;
}

abbrev pub only : String → List (List ℕ)
only s = codes s ∷ []

abbrev pub quoted : String → ExprTree
quoted s = literal (value.text (codes s))

-- a call, and one with a name
abbrev pub calls : String → List ExprTree → ExprTree
calls f es = call (codes f) (expr_trees es)

abbrev pub asked : String → String → ExprTree
asked f k = calls f (quoted k ∷ [])

abbrev pub out : String → ExprTree
out k = asked "outputs" k

-- what an expression asks for, and what templates, values and conditions do
abbrev pub of : ExprTree → UsesTree
of e = uses_tree [] (uses e)

abbrev pub of_text : TemplateTree → UsesTree
of_text t = uses_tree [] (template_uses t)

abbrev pub of_value : DataTree → UsesTree
of_value t = uses_tree [] (tree_uses t)

abbrev pub of_condition : CondTree → UsesTree
of_condition c = uses_tree [] (cond_uses c)

-- a value, a text and a condition that ask for the outputs of an action
abbrev pub data_of : String → DataTree
data_of k = text (whole (out k))

abbrev pub text_of : String → TemplateTree
text_of k = whole (out k)

abbrev pub test_of : String → CondTree
test_of k = holds (text_of k)
