use Rattle.std.proofs.Common.{refl, ap, ◌∙◌}
use Rattle.wf_def.specs.AllActions.{numbered}
use Rattle.wf_closing.specs.Environment.{fresh}
use Rattle.wf_closing.specs.Look.{decided_by, told_at, told_in_test}
use Rattle.wf_sight.specs.Variables.{variable_in}
use Rattle.wf_doing.specs.Acting.{begun_by, closed_by, finished_by, tested_by}
use Rattle.wf_doing.proofs.SourceLemmas.{close_is, finish_is, start_is, test_is}
use Rattle.wf_doing.proofs.VariableLemmas.{Laws, begun_same, closed_same, decided_same, finished_same, tested_same}
use Rattle.wf_doing.proofs.laws.what_is_done_is_meant.Goals as goal

pub returns : goal.returns
returns c =
    let laws : Laws = record {
      starts = c.what_an_action_does_is_local.ensures.begun;
      tracks = c.what_an_action_does_is_local.ensures.tracked;
      decides = c.what_a_container_decides_is_local.ensures.decided;
      tests = c.what_a_container_decides_is_local.ensures.tested;
    } in
    record {
      start = λ d e m answers x kind depth known once informed finds.
          ap (begun_by (numbered x.name d.top)) (c.what_is_seen_is_told.ensures.at d e m answers x kind depth known once informed)
          ∙ begun_same laws (λ k. variable_in d known.rows known.store k) (told_at d e x known.rows) (numbered x.name d.top) finds
          ∙ start_is d e x known.rows (numbered x.name d.top);
      decide = λ d e m answers x kind depth known once informed finds.
          ap (decided_by (numbered x.name d.top)) (c.what_is_seen_is_told.ensures.at d e m answers x kind depth known once informed)
          ∙ decided_same laws (λ k. variable_in d known.rows known.store k) (told_at d e x known.rows) (numbered x.name d.top) finds;
      test = λ d e m answers u most g j depth known once informed finds.
          ap (tested_by (numbered u.name d.top)) (c.what_is_seen_is_told.ensures.in_test d e m answers u most g j depth known once informed)
          ∙ tested_same laws (λ k. variable_in d known.rows known.store k) (told_in_test d e u j known.rows) (numbered u.name d.top) finds
          ∙ test_is d e u j known.rows (numbered u.name d.top);
      finish = λ d s i m answers x kind depth known b once informed finds.
          ap (λ l. finished_by (numbered x.name d.top) l i.answers x.at b)
          (c.what_is_seen_is_told.ensures.at d (fresh s i) m answers x kind depth known once informed)
          ∙ finished_same laws (λ k. variable_in d known.rows known.store k) (told_at d (fresh s i) x known.rows) (numbered x.name d.top) finds
          i.answers x.at b
          ∙ finish_is d s i x b known.rows (numbered x.name d.top) refl;
      close = λ d e m answers x kind depth known decision n verdict once informed finds.
          ap (λ l. closed_by (numbered x.name d.top) l x.at decision n verdict known.rows)
          (c.what_is_seen_is_told.ensures.at d e m answers x kind depth known once informed)
          ∙ closed_same laws (λ k. variable_in d known.rows known.store k) (told_at d e x known.rows) (numbered x.name d.top) finds x.at decision n
          verdict known.rows
          ∙ close_is d e x decision n verdict known.rows (numbered x.name d.top);
    }
