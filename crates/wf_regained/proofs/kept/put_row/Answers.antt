use Rattle.std.proofs.Common.{ℕ, Some, cond, List, ap, ◌∙◌}
use Rattle.wf_asks.specs.declared.instance.Instance.{Instance}
use Rattle.wf_asks.specs.declared.known.RowAt.{RowAt}
use Rattle.wf_events.proofs.TableLemmas.{put_entry}
use Rattle.wf_layers.specs.Address.{is_own}
use Rattle.wf_record.specs.Record as record_of
use Rattle.wf_record.specs.declared.row.Row.{Row}
use Rattle.wf_sight_laws.specs.Seen.{row_content, rows_seen}
use Rattle.wf_regained.proofs.kept.put_row.Goals as goal

pub returns : goal.returns
returns c x =
    let old = rows_seen c.args.rows.now.0 x in
    ap (λ (rs : List (RowAt Row)). rows_seen rs x) c.put.ensures.items
    ∙ put_entry (λ (r : RowAt Row). r.instance) (λ (r : RowAt Row). row_content r.row) c.in_ok-found.found c.make_room.new.self.0 x
    ∙ ap (λ (rs : List (RowAt Row)). cond
    (is_own c.in_ok-found.found.instance.action c.in_ok-found.found.instance.at x) (Some (row_content c.in_ok-found.found.row))
    (rows_seen rs x)) c.make_room.ensures.items
    ∙ ap (λ (i : Instance). cond (is_own i.action i.at x) (Some (row_content c.in_ok-found.found.row)) old) c.in_ok-found.ensures.place
    ∙ ap (λ (is : List ℕ). cond (is_own c.args.action is x) (Some (row_content c.in_ok-found.found.row)) old) c.in_ok-at.ensures
    ∙ ap (λ (q : record_of.Row). cond (is_own c.args.action c.args.row.now.address.at x) (Some q) old) c.in_ok-found.ensures.row
