use Rattle.std.proofs.Common.{List, map, option_map, ap, ◌∙◌}
use Rattle.std.specs.List.{find}
use Rattle.wf_def.specs.ActionSeen.{action_tree}
use Rattle.wf_def.specs.ActionTree.{ActionTree}
use Rattle.wf_def.specs.DefSeen.{output_tree, trigger_tree}
use Rattle.wf_refs.specs.ReadSeen.{def_tree}
use Rattle.wf_def.specs.AllActions.{has_number}
use Rattle.wf_refs.specs.Sites.{action_uses, uses_at_output, uses_at_trigger}
use Rattle.wf_use_table.proofs.TableLemmas.{table_of}
use Rattle.wf_use_table.proofs.table.refs.Goals as goal

pub returns : goal.returns
returns c =
    let all = ap (map (λ a. action_tree a.now)) c.deref.ensures.value ∙ c.in_ok-actions.ensures in
    table_of (record {
      actions = c.in_ok-of_actions.field-0;
      outputs = c.in_ok-of_outputs.field-0;
      triggers = c.in_ok-of_triggers.field-0;
    }) (def_tree c.args.def.now)
    (λ n. c.in_ok-of_actions.ensures n ∙ ap (λ (as' : List ActionTree). option_map action_uses (find (has_number n) as')) all)
    (c.in_ok-of_outputs.ensures ∙ ap (λ os. map uses_at_output (map output_tree os)) c.as_slice.ensures)
    (c.in_ok-of_triggers.ensures ∙ ap (λ ts. map uses_at_trigger (map trigger_tree ts)) c.as_slice-2.ensures)
