use Rattle.std.proofs.Common.{◌+◌, ℕ, Bool, List, Option, Some, None, cond, drop, map, option_map, string_bytes, ap, sym, ◌∙◌, arith}
use Rattle.wf_varorder.proofs.SizeLemmas.{drop_at_place}
use Rattle.wf_varorder.specs.DefSeen.{param_tree}
use Rattle.wf_varorder.specs.DefTree.{ParamTree}
use Rattle.wf_varorder.specs.Param.{Param}
use Rattle.wf_json.specs.Pointer.{lesser, least}
use Rattle.wf_rules.specs.Broken.{parameter_pointer, told}
use Rattle.wf_breaks.specs.Rules.{parameter_breaks}
use Rattle.wf_rules.proofs.ToldLemmas.{told-more}
use Rattle.wf_rules.proofs.fault.least_parameter.Goals as goal

pub loop-param-preserved : goal.loop-param-preserved
loop-param-preserved c =
    let xs : List Param = c.args.params.now in
    let i = c.loop-param.param-index in
    let x : Param = c.param-item.result in
    let broken : ParamTree → Bool = parameter_breaks c.args.given.now c.args.rule in
    let best : Option (List ℕ) = option_map string_bytes c.loop-param.best in
    let rest : List ParamTree = map param_tree (drop (i + 1) xs) in
    let here = drop_at_place xs i x (omega arith) c.param-item.is in
    ap (λ (o : Option (List ℕ)). lesser o (least (told broken parameter_pointer rest)))
    (c.in_ok-best.ensures
    ∙ ap (λ (b : Bool). lesser best (cond b (Some (parameter_pointer (param_tree x))) None)) c.parameter_breaks-broken.ensures)
    ∙ told-more broken parameter_pointer (param_tree x) rest best
    ∙ ap (λ (ys : List Param). lesser best (least (told broken parameter_pointer (map param_tree ys)))) (sym here)
    ∙ c.loop-param.invariant
