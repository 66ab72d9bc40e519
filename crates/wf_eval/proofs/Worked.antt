-- Values of templates, trees and conditions, where a reader can work them out: each fault with its function and place, and each edge.
use Rattle.std.proofs.Common.{◌≡◌, ℕ, refl, List, [], ◌∷◌, Ok, Err, true, false}
use Rattle.std.specs.Prelude.{pos, codes}
use Rattle.wf_val.specs.ValueTree.{null, boolean, text, object, members}
use Rattle.wf_val.specs.declared.fault.EvalFault.{EvalFault}
use Rattle.wf_val.specs.declared.function.Fun.{Fun}
use Rattle.wf_template.specs.ExprTree.{ExprTree, literal}
use Rattle.wf_template.specs.TemplateTree.{letters, part, plain, whole, parts}
use Rattle.wf_template.specs.DataTree as inputs
use Rattle.wf_template.specs.CondTree.{CondTree, holds, all_of, any_of, not_of, compare_by, cond_trees}
use Rattle.wf_eval_expr.specs.Outcomes.{Outcome}
use Rattle.wf_eval_expr.proofs.WorkedLook.{nested, somewhere}
use Rattle.wf_eval_expr.proofs.WorkedExpressions.{word, truth, untruth, nothing, by_zero, rest_by_zero}
use Rattle.wf_eval.specs.TemplateValue.{template_value}
use Rattle.wf_eval.specs.TreeValue.{tree_value}
use Rattle.wf_eval.specs.Truth.{truth_of}

abbrev that : ExprTree → inputs.DataTree
that e = inputs.text (whole e)

abbrev items_of : List inputs.DataTree → inputs.DataTree
items_of ts = inputs.list (inputs.data_trees ts)

abbrev members_of : List inputs.DataMember → inputs.DataTree
members_of ms = inputs.object (inputs.data_members ms)

abbrev tree_here : inputs.DataTree → Outcome
tree_here t = tree_value somewhere t 7

abbrev truth_here : CondTree → Outcome
truth_here c = truth_of somewhere c 7

-- ---- templates

plain-text : template_value somewhere (plain (codes "@")) 7 ≡ (Ok (text (codes "@")), 7)
plain-text = refl

whole-keeps_type : template_value somewhere (whole truth) 7 ≡ (Ok (boolean true), 7)
whole-keeps_type = refl

parts-null :
    template_value somewhere (parts (part nothing ∷ letters (codes "-") ∷ part (word (codes "x")) ∷ part truth ∷ [])) 7
    ≡ (Ok (text (codes "-xtrue")), 7)
parts-null = refl

parts-one : template_value somewhere (parts (part truth ∷ [])) 7 ≡ (Ok (text (codes "true")), 7)
parts-one = refl

parts-leftmost :
    template_value somewhere (parts (part rest_by_zero ∷ part by_zero ∷ [])) 7
    ≡ (Err (EvalFault.Range Fun.Mod), 7)
parts-leftmost = refl

-- no text in between is tested: any literal text, however long, goes on to the fault behind it
parts-literal_untested : (s : List ℕ) → template_value somewhere (parts (letters s ∷ part by_zero ∷ [])) 7
    ≡ (Err (EvalFault.Range Fun.Div), 7)
parts-literal_untested s = refl

-- ---- trees

tree-object :
    tree_here (members_of ((codes "a", inputs.null) ∷ (codes "b", that truth) ∷ []))
    ≡ (Ok (object (members ((codes "a", null) ∷ (codes "b", boolean true) ∷ []))), 7)
tree-object = refl

tree-leftmost :
    tree_here (members_of ((codes "a", that rest_by_zero) ∷ (codes "b", that by_zero) ∷ []))
    ≡ (Err (EvalFault.Range Fun.Mod), 7)
tree-leftmost = refl

tree-list_fits : tree_here (items_of (that (literal (nested 63)) ∷ [])) ≡ (Ok (nested 64), 7)
tree-list_fits = refl

tree-inner_first :
    tree_here (items_of (items_of (that (literal (nested 64)) ∷ []) ∷ []))
    ≡ (Err (EvalFault.TooBig 65 66), 7)
tree-inner_first = refl

tree-fault_before_size :
    tree_here (items_of (that (literal (nested 64)) ∷ that by_zero ∷ []))
    ≡ (Err (EvalFault.Range Fun.Div), 7)
tree-fault_before_size = refl

-- an object is tested once all its members have values, and not with each of them
tree-object_tested_last :
    tree_here (members_of ((codes "a", that (literal (nested 64))) ∷ (codes "b", that by_zero) ∷ []))
    ≡ (Err (EvalFault.Range Fun.Div), 7)
tree-object_tested_last = refl

tree-object_fits : tree_here (members_of ((codes "a", that (literal (nested 63))) ∷ []))
    ≡ (Ok (object (members ((codes "a", nested 63) ∷ []))), 7)
tree-object_fits = refl

tree-object_too_deep : tree_here (members_of ((codes "a", that (literal (nested 64))) ∷ [])) ≡ (Err (EvalFault.TooBig 65 68), 7)
tree-object_too_deep = refl

-- ---- conditions

holds-truth : truth_here (holds (whole truth)) ≡ (Ok (boolean true), 7)
holds-truth = refl

holds-text : truth_here (holds (parts (part truth ∷ []))) ≡ (Err (EvalFault.WrongType Fun.Condition 1), 7)
holds-text = refl

holds-fault : truth_here (holds (whole by_zero)) ≡ (Err (EvalFault.Range Fun.Div), 7)
holds-fault = refl

all-empty : truth_here (all_of (cond_trees ([]))) ≡ (Ok (boolean true), 7)
all-empty = refl

all-early :
    truth_here (all_of (cond_trees (holds (whole untruth) ∷ holds (whole by_zero) ∷ [])))
    ≡ (Ok (boolean false), 7)
all-early = refl

all-fault :
    truth_here (all_of (cond_trees (holds (whole truth) ∷ holds (whole nothing) ∷ [])))
    ≡ (Err (EvalFault.WrongType Fun.Condition 1), 7)
all-fault = refl

any-empty : truth_here (any_of (cond_trees ([]))) ≡ (Ok (boolean false), 7)
any-empty = refl

any-early :
    truth_here (any_of (cond_trees (holds (whole truth) ∷ holds (whole by_zero) ∷ [])))
    ≡ (Ok (boolean true), 7)
any-early = refl

not-untruth : truth_here (not_of (holds (whole untruth))) ≡ (Ok (boolean true), 7)
not-untruth = refl

compare-equal : truth_here (compare_by Fun.Equals inputs.null inputs.null) ≡ (Ok (boolean true), 7)
compare-equal = refl

compare-left_first :
    truth_here (compare_by Fun.Equals (that rest_by_zero) (that by_zero))
    ≡ (Err (EvalFault.Range Fun.Mod), 7)
compare-left_first = refl

compare-judged_after :
    truth_here (compare_by Fun.Less inputs.null (that by_zero))
    ≡ (Err (EvalFault.Range Fun.Div), 7)
compare-judged_after = refl

compare-wrong : truth_here (compare_by Fun.Less inputs.null inputs.null) ≡ (Err (EvalFault.WrongType Fun.Less 1), 7)
compare-wrong = refl

compare-no_truth :
    truth_here (compare_by Fun.Add (inputs.number (pos 1)) (inputs.number (pos 1)))
    ≡ (Err (EvalFault.WrongType Fun.Condition 1), 7)
compare-no_truth = refl
