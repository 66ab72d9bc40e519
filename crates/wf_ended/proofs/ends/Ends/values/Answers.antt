use Rattle.std.proofs.Common.{◌≡◌, ℕ, [], List, map, ap, ◌∙◌}
use Rattle.wf_answers.specs.InputsSeen.{inputs_tree}
use Rattle.wf_def.specs.DefSeen.{output_tree}
use Rattle.wf_def.specs.DefTree.{DefTree, OutputTree}
use Rattle.wf_def.specs.declared.section.Output.{Output}
use Rattle.wf_eval.specs.TreeValue.{members_after}
use Rattle.wf_look.specs.Told.{Told}
use Rattle.wf_catalog.specs.Ending.{output_runs}
use Rattle.wf_catalog.specs.Environment.{Environment, fresh}
use Rattle.wf_catalog.specs.Look.{told_to_outputs}
use Rattle.wf_catalog.specs.ReadSeen.{def_tree}
use Rattle.wf_sight_laws.specs.Seen.{rows_seen}
use Rattle.wf_sight_laws.specs.SightSeen.{known_tree}
use Rattle.wf_sight_laws.specs.Sight.{KnownTree, RunTree, seen_by_outputs}
use Rattle.wf_sight_laws.specs.SightSightSeen.{run_tree, sight_drawn, sight_told}
use Rattle.wf_catalog.specs.StartsSeen.{start_tree}
use Rattle.wf_ended.proofs.ends.Ends.values.Goals as goal

pub returns : goal.returns
returns c =
    let ends = c.args.self.now in
    let d : DefTree = def_tree ends.checked.now.def in
    let e : Environment = fresh (start_tree c.args.start.now) (inputs_tree c.args.inputs.now) in
    let known : KnownTree = known_tree c.args.rows.now.0 c.new-opens.result.0 c.args.store.now.0 in
    let outputs : List OutputTree = map output_tree ends.checked.now.def.outputs in
    let told : sight_told c.in_ok-sight.sight ≡ told_to_outputs d e (rows_seen c.args.rows.now.0) =
    c.in_ok-sight.ensures.told
    ∙ ap (λ (q : DefTree). seen_by_outputs q (run_tree c.run.result) known) (ap def_tree ends.placed)
    ∙ ap (λ (r : RunTree). seen_by_outputs d r known) c.run.ensures
    ∙ c.outputs_see_the_last_writers.ensures d c.always_read.ensures c.always_checked.ensures.holds e c.requires.answers
    c.requires.answered known c.requires.whole c.requires.last in
    c.in_ok-values.ensures
    ∙ ap (λ (os : List Output). (members_after (output_runs (sight_told c.in_ok-sight.sight) (map output_tree os)) []
    (sight_drawn c.in_ok-sight.sight)).0) c.as_slice.ensures
    ∙ ap (λ (n : ℕ). (members_after (output_runs (sight_told c.in_ok-sight.sight) outputs) [] n).0) c.in_ok-sight.ensures.drawn
    ∙ ap (λ (l : Told). (members_after (output_runs l outputs) [] 0).0) told
