use Rattle.std.proofs.Common.{◌≡◌, sym, subst}
use Rattle.wf_answers.specs.InputsSeen.{inputs_tree}
use Rattle.wf_layers.specs.Address.{Table}
use Rattle.wf_catalog.specs.Environment.{Environment, fresh}
use Rattle.wf_catalog.specs.Answering.{table_by}
use Rattle.wf_sight_laws.specs.Tables.{AreWhole}
use Rattle.wf_catalog.specs.ReadSeen.{def_tree}
use Rattle.wf_record.specs.Record as record_of
use Rattle.wf_sight_laws.specs.Seen.{rows_seen}
use Rattle.wf_catalog.specs.StartsSeen.{start_tree}
use Rattle.wf_ended.specs.LeftSeen.{left_tree}
use Rattle.wf_ended.proofs.LeftLemmas.{left_is, left_is_recorded}
use Rattle.wf_ended.proofs.ends.Ends.left.Goals as goal

pub rows-requires : goal.rows-requires
rows-requires c =
    let d = def_tree c.args.self.now.checked.now.def in
    let same : rows_seen c.args.rows.now.0 ≡ table_by d c.requires.answers = λ k y. c.requires.whole y k in
    subst (λ (t : Table record_of.Row). AreWhole d t) (sym same) c.requires.answered.whole

pub returns-clause-left : goal.returns-clause-left
returns-clause-left c =
    let d = def_tree c.args.self.now.checked.now.def in
    let e : Environment = fresh (start_tree c.args.start.now) (inputs_tree c.args.inputs.now) in
    left_is d e (rows_seen c.args.rows.now.0)
    (left_tree (record { ending = c.in_ok-ending.ending; response = c.in_ok-response.response; rows = c.in_ok-there.there }))
    c.in_ok-ending.ensures c.in_ok-response.ensures c.in_ok-there.ensures.rows

pub returns-clause-record : goal.returns-clause-record
returns-clause-record c =
    let d = def_tree c.args.self.now.checked.now.def in
    let s = start_tree c.args.start.now in
    let i = inputs_tree c.args.inputs.now in
    let l = left_tree (record { ending = c.in_ok-ending.ending; response = c.in_ok-response.response; rows = c.in_ok-there.there }) in
    left_is_recorded d s i (rows_seen c.args.rows.now.0) l
    (left_is d (fresh s i) (rows_seen c.args.rows.now.0) l c.in_ok-ending.ensures c.in_ok-response.ensures c.in_ok-there.ensures.rows)
