-- THE VALUE OF A TREE whose texts are templates, in a look.
use Rattle.std.specs.Prelude.{ℕ, List, [], ◌∷◌, Result, Ok}
use Rattle.wf_val.specs.Arguments.{Answer, bounded}
use Rattle.wf_val.specs.Get.{name_of}
use Rattle.wf_val.specs.NameOrder.{put_named}
use Rattle.wf_val.specs.ValueTree as val
use Rattle.wf_val.specs.declared.fault.EvalFault.{EvalFault}
use Rattle.wf_template.specs.DataTree as inputs
use Rattle.wf_eval_expr.specs.Outcomes.{Run, then_run, turned, all_after}
use Rattle.wf_eval.specs.TemplateValue.{template_value}
use Rattle.wf_eval_expr.specs.Told.{Told}

-- the values of members in the order of their names, beside those that are there
abbrev pub members_after : List (List ℕ × Run) → List val.Member → ℕ → Result (List val.Member) EvalFault × ℕ
members_after [] done n = (Ok done, n)
members_after (r ∷ rs) done n = then_run (r.1 n) (λ t m. members_after rs (put_named name_of (r.0, t) done) m)

-- a list and an object, where they fit
abbrev pub list_answer : List val.ValueTree → Answer
list_answer ts = bounded (val.list (val.trees ts))

abbrev pub object_answer : List val.Member → Answer
object_answer ms = bounded (val.object (val.members ms))

-- each list and object is tested once its parts have values, so inner ones come first
abbrev mutual
  pub tree_value : Told → inputs.DataTree → Run
  tree_value l inputs.null n = (Ok val.null, n)
  tree_value l (inputs.boolean b) n = (Ok (val.boolean b), n)
  tree_value l (inputs.number i) n = (Ok (val.number i), n)
  tree_value l (inputs.text t) n = template_value l t n
  tree_value l (inputs.list ts) n = turned list_answer (all_after (tree_runs l ts) [] n)
  tree_value l (inputs.object ms) n = turned object_answer (members_after (member_runs l ms) [] n)

  pub tree_runs : Told → inputs.DataTrees → List Run
  tree_runs l inputs.no_data = []
  tree_runs l (inputs.data_then t ts) = tree_value l t ∷ tree_runs l ts

  pub member_runs : Told → inputs.DataMembers → List (List ℕ × Run)
  member_runs l inputs.no_members = []
  member_runs l (inputs.member_then k t ms) = (k, tree_value l t) ∷ member_runs l ms
