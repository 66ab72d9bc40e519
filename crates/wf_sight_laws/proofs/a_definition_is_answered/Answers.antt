use Rattle.std.proofs.Common.{true, false, refl}
use Rattle.wf_layers.proofs.Meaning.{meaning_solves}
use Rattle.wf_seen_laws.proofs.RowLemmas.{all_redone}
use Rattle.wf_meant_laws.specs.Answering.{table_by}
use Rattle.wf_meant_laws.specs.Points.{graph_of}
use Rattle.wf_meant_laws.specs.Record.{depth_of}
use Rattle.wf_meant_laws.specs.Source.{source}
use Rattle.wf_meant_laws.proofs.AnswerLemmas.{answers_itself}
use Rattle.wf_sight_laws.proofs.a_definition_is_answered.Goals as goal

-- it keeps nothing, as one that redoes all
pub returns : goal.returns
returns c = λ d r none e.
    let m = source d e in
    let is = c.a_definition_is_an_instance.ensures d r none e in record {
      answers = answers_itself d e;
      whole = c.meant_rows_are_whole.ensures d r none e;
      given = λ k y row there wr done given.
          c.new_rows_give_what_they_write.ensures d r e m (answers_itself d e) (λ q. true) (λ q. false)
          (record { split = all_redone (graph_of d); pinned = λ n. refl }) (table_by d m)
          (meaning_solves m (depth_of d) (graph_of d) is.falls is.local) k y row there refl wr done given;
    }
