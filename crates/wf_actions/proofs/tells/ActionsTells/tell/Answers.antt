use Rattle.std.proofs.Common.{List, Option, ℕ, option_map, subst}
use Rattle.wf_asks.specs.Known.{open_tree}
use Rattle.wf_def.specs.DefTree.{DefTree}
use Rattle.wf_catalog.specs.DoneSeen.{begun_tree}
use Rattle.wf_catalog.specs.Environment.{Environment}
use Rattle.wf_opening.specs.DecisionSeen.{decision_tree, verdict_tree}
use Rattle.wf_record.specs.Record.{Row}
use Rattle.wf_tables.specs.Tables.{event_tree, leaf_tree}
use Rattle.wf_sight_laws.specs.Seen.{row_content}
use Rattle.wf_paying.specs.Seen as setting
use Rattle.wf_telling.specs.Lines.{Container, Leaf}
use Rattle.wf_telling.specs.Telling.{IsTold}
use Rattle.wf_actions.specs.Meant.{environment_of, source}
use Rattle.wf_actions.proofs.tells.ActionsTells.tell.Goals as goal

pub returns : goal.returns
returns c =
    let row : Option Row = option_map (λ r. row_content r.now) c.args.row in
    let leaf : Option Leaf = option_map (λ l. leaf_tree begun_tree l.now) c.args.leaf in
    let container : Option Container = option_map (λ o. open_tree decision_tree verdict_tree o.now) c.args.container in
    let event = event_tree c.args.event.now in
    let line : List ℕ = c.in_ok-line.line.items in
    let told = subst (λ (d : DefTree). IsTold d (environment_of c.args.self.now) row leaf container event line) c.setting.ensures.definition
    (subst (λ (e : Environment). IsTold (setting.definition_of c.setting.result) e row leaf container event line)
    c.setting.ensures.environment c.in_ok-line.ensures) in
    told (source c.args.self.now) c.are_answered.ensures.answers
