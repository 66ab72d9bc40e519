use Rattle.std.proofs.Common.{◌≡◌, ◌+◌, ◌++◌, ◌∷◌, [], ℕ, List, Some, None, drop, map, option_map, ap, sym, ◌∙◌, append_assoc, arith}
use Rattle.std.proofs.lemmas.Result.{IfOk-weaker}
use Rattle.wf_val.specs.Seen.{tree, member}
use Rattle.wf_val.specs.Get.{value_of}
use Rattle.wf_val.specs.ValueTree.{members}
use Rattle.wf_val.specs.declared.val.Val.{Val}
use Rattle.wf_val.proofs.NodeCountLemmas.{member-falls}
use Rattle.wf_form.specs.Pointer.{member_step}
use Rattle.wf_def.specs.ActionTree.{ActionTree}
use Rattle.wf_def.specs.ActionSeen.{action_tree, actions_seen}
use Rattle.wf_reading.specs.Graphs.{action_of, actions_of, branch_of, cases_of, graph_of}
use Rattle.wf_reading.specs.Numbers.{number_among}
use Rattle.wf_reading.proofs.GraphLemmas.{branch_found, branch_in_is, cases_found, cases_in_is, found_smaller, graph_found, graph_in_is}
use Rattle.wf_def.proofs.SizeLemmas.{drop_at_place}
use Rattle.wf_reading.proofs.graphs.+graph.Goals as goal

pub actions_of-action_of-requires : goal.actions_of-action_of-requires
actions_of-action_of-requires t c =
    let here = member-falls c.args.fields.now c.as_slice-key-items.result.now c.loop-key.key-index c.loop-key-item.result c.as_slice-key-items.ensures.members (omega arith) c.loop-key-item.is in
    omega (arith, c.requires, here)

pub each_case-case_of-requires : goal.each_case-case_of-requires
each_case-case_of-requires t c =
    let here = member-falls c.args.fields.now c.as_slice-key-items.result.now c.loop-key.key-index c.loop-key-item.result c.as_slice-key-items.ensures.members (omega arith) c.loop-key-item.is in
    omega (arith, c.requires, here)

pub actions_of-loop-key-preserved : goal.actions_of-loop-key-preserved
actions_of-loop-key-preserved t c =
    let ms : List (List ℕ × Val) = c.as_slice-key-items.result.now in
    let i = c.loop-key.key-index in
    let item : List ℕ × Val = c.loop-key-item.result in
    let number_of : (List ℕ → ℕ) = number_among c.args.numbers.now in
    let prefix : List ℕ = c.args.prefix.now in
    let done : List ActionTree = actions_seen c.loop-key.actions in
    let rest : List ActionTree = actions_of number_of prefix (members (map member (drop (i + 1) ms))) in
    let here = drop_at_place ms i item (omega arith) c.loop-key-item.is in
    let own : action_tree c.in_ok-action_of.field-0 ≡ action_of number_of (prefix ++ member_step item.0) item.0 (tree item.1) =
    c.in_ok-action_of.ensures ∙ ap (λ (p : List ℕ). action_of number_of p item.0 (tree item.1)) (c.in_ok-pointer.ensures ∙ ap (λ (k : List ℕ). prefix ++ member_step k) c.as_str.ensures) in
    ap (λ (xs : List ActionTree). xs ++ rest) c.in_ok-push.ensures.ok
    ∙ append_assoc done (action_tree c.in_ok-action_of.field-0 ∷ []) rest
    ∙ ap (λ (a : ActionTree). done ++ a ∷ rest) own
    ∙ ap (λ (xs : List (List ℕ × Val)). done ++ actions_of number_of prefix (members (map member xs))) (sym here)
    ∙ c.loop-key.invariant

pub graph_in-graph_of-requires : goal.graph_in-graph_of-requires
graph_in-graph_of-requires t c =
    let there : value_of c.args.key.now c.args.fields.now ≡ Some (tree c.in-Some.value.now) = sym c.member.ensures ∙ ap (option_map (λ v. tree v.now)) c.in-Some.is in
    let small = found_smaller c.args.key.now c.args.fields.now (tree c.in-Some.value.now) there in
    omega (arith, c.requires, small)

pub branch_in-branch_of-requires : goal.branch_in-branch_of-requires
branch_in-branch_of-requires t c =
    let there : value_of c.args.key.now c.args.fields.now ≡ Some (tree c.in-Some.value.now) = sym c.member.ensures ∙ ap (option_map (λ v. tree v.now)) c.in-Some.is in
    let small = found_smaller c.args.key.now c.args.fields.now (tree c.in-Some.value.now) there in
    omega (arith, c.requires, small)

pub cases_in-cases_of-requires : goal.cases_in-cases_of-requires
cases_in-cases_of-requires t c =
    let there : value_of c.args.key.now c.args.fields.now ≡ Some (tree c.in-Some.value.now) = sym c.member.ensures ∙ ap (option_map (λ v. tree v.now)) c.in-Some.is in
    let small = found_smaller c.args.key.now c.args.fields.now (tree c.in-Some.value.now) there in
    omega (arith, c.requires, small)

pub graph_in-returns-in_ok-pointer-in-Some : goal.graph_in-returns-in_ok-pointer-in-Some
graph_in-returns-in_ok-pointer-in-Some t c =
    let number_of : (List ℕ → ℕ) = number_among c.args.numbers.now in
    let there : value_of c.args.key.now c.args.fields.now ≡ Some (tree c.in-Some.value.now) = sym c.member.ensures ∙ ap (option_map (λ v. tree v.now)) c.in-Some.is in
    IfOk-weaker c.graph_of.result _ _ (λ g h.
    h ∙ ap (λ (p : List ℕ). graph_of number_of p (tree c.in-Some.value.now)) (c.as_str.ensures ∙ c.in_ok-pointer-in-Some.ensures)
    ∙ sym (graph_in_is number_of c.args.key.now c.args.prefix.now c.args.fields.now ∙ ap (graph_found number_of c.args.key.now c.args.prefix.now) there)) c.graph_of.ensures

pub graph_in-returns-in-None : goal.graph_in-returns-in-None
graph_in-returns-in-None t c =
    let number_of : (List ℕ → ℕ) = number_among c.args.numbers.now in
    let none : value_of c.args.key.now c.args.fields.now ≡ None = sym c.member.ensures ∙ ap (option_map (λ v. tree v.now)) c.in-None.is in
    c.no_actions.ensures ∙ sym (graph_in_is number_of c.args.key.now c.args.prefix.now c.args.fields.now ∙ ap (graph_found number_of c.args.key.now c.args.prefix.now) none)

pub branch_in-returns-in-None : goal.branch_in-returns-in-None
branch_in-returns-in-None t c =
    let number_of : (List ℕ → ℕ) = number_among c.args.numbers.now in
    let none : value_of c.args.key.now c.args.fields.now ≡ None = sym c.member.ensures ∙ ap (option_map (λ v. tree v.now)) c.in-None.is in
    sym (branch_in_is number_of c.args.key.now c.args.prefix.now c.args.fields.now ∙ ap (branch_found number_of c.args.key.now c.args.prefix.now) none)

pub cases_in-returns-in-None : goal.cases_in-returns-in-None
cases_in-returns-in-None t c =
    let number_of : (List ℕ → ℕ) = number_among c.args.numbers.now in
    let none : value_of c.args.key.now c.args.fields.now ≡ None = sym c.member.ensures ∙ ap (option_map (λ v. tree v.now)) c.in-None.is in
    c.new.ensures ∙ sym (cases_in_is number_of c.args.key.now c.args.prefix.now c.args.fields.now ∙ ap (cases_found number_of c.args.key.now c.args.prefix.now) none)

pub cases_in-returns-in_ok-pointer-in-Some : goal.cases_in-returns-in_ok-pointer-in-Some
cases_in-returns-in_ok-pointer-in-Some t c =
    let number_of : (List ℕ → ℕ) = number_among c.args.numbers.now in
    let there : value_of c.args.key.now c.args.fields.now ≡ Some (tree c.in-Some.value.now) = sym c.member.ensures ∙ ap (option_map (λ v. tree v.now)) c.in-Some.is in
    IfOk-weaker c.cases_of.result _ _ (λ g h.
    h ∙ ap (λ (p : List ℕ). cases_of number_of p (tree c.in-Some.value.now)) (c.as_str.ensures ∙ c.in_ok-pointer-in-Some.ensures)
    ∙ sym (cases_in_is number_of c.args.key.now c.args.prefix.now c.args.fields.now ∙ ap (cases_found number_of c.args.key.now c.args.prefix.now) there)) c.cases_of.ensures

pub branch_in-returns-in_ok-graph-in-Some : goal.branch_in-returns-in_ok-graph-in-Some
branch_in-returns-in_ok-graph-in-Some t c =
    let number_of : (List ℕ → ℕ) = number_among c.args.numbers.now in
    let there : value_of c.args.key.now c.args.fields.now ≡ Some (tree c.in-Some.value.now) = sym c.member.ensures ∙ ap (option_map (λ v. tree v.now)) c.in-Some.is in
    ap Some (c.in_ok-graph-in-Some.ensures ∙ ap (λ (p : List ℕ). branch_of number_of p (tree c.in-Some.value.now)) (c.as_str.ensures ∙ c.in_ok-pointer-in-Some.ensures))
    ∙ sym (branch_in_is number_of c.args.key.now c.args.prefix.now c.args.fields.now ∙ ap (branch_found number_of c.args.key.now c.args.prefix.now) there)
