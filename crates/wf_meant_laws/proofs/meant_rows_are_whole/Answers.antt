use Rattle.std.proofs.Common.{ap, sym, ◌∙◌}
use Rattle.std.specs.Prelude.{nat_eq}
use Rattle.std.specs.List.{list_any}
use Rattle.wf_seen_laws.specs.AllActions.{all_actions}
use Rattle.wf_layers.proofs.Instances.{rows_at_instances}
use Rattle.wf_layers.proofs.Meaning.{meaning_solves}
use Rattle.wf_instance.proofs.NumberLemmas.{numbers_are}
use Rattle.wf_instance.specs.Points.{graph_of}
use Rattle.wf_instance.specs.Record.{depth_of}
use Rattle.wf_instance.specs.Source.{source, table_of}
use Rattle.wf_seen_laws.proofs.RowLemmas.{had_turn}
use Rattle.wf_meant_laws.proofs.AnswerLemmas.{answers_itself}
use Rattle.wf_meant_laws.proofs.RangeLemmas.{some_found}
use Rattle.wf_meant_laws.proofs.WholeLemmas.{had_tells, stands}
use Rattle.wf_meant_laws.proofs.meant_rows_are_whole.Goals as goal

pub returns : goal.returns
returns c = λ d r none e.
    let once = c.numbers_stand_once.ensures d r in
    let is = c.a_definition_is_an_instance.ensures d r none e in
    let rule = meaning_solves (source d e) (depth_of d) (graph_of d) is.falls is.local in record {
      instances = λ x row there.
          stands d x (rows_at_instances (graph_of d) (source d e) (depth_of d) is.falls is.local is.own x row there);
      loops = λ x row there l outer at turn of.
          had_tells d e (table_of d e (depth_of d)) (source d e) (answers_itself d e) once
          (λ l has'. some_found l (all_actions d.top)
          (ap (list_any (nat_eq l)) (numbers_are d.top) ∙ (sym (c.numbers_are_had.ensures d.top l) ∙ has')))
          l at turn
          (had_turn (graph_of d) (source d e) (table_of d e (depth_of d)) once is.own rule x row there l outer at turn of);
    }
