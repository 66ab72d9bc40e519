use Rattle.std.proofs.Common.{◌≡◌, sym, subst}
use Rattle.wf_layers.specs.Meaning.{meaning}
use Rattle.wf_actions.specs.Seen.{rows_seen}
use Rattle.wf_actions.specs.Meant.{depth, graph, source}
use Rattle.wf_runnable.proofs.over.given_up.Goals as goal

pub returns : goal.returns
returns c =
    let h = c.args.making in record {
      whole =
          λ y. subst (λ rows. rows_seen rows y ≡ meaning (source h.0) (depth h.0) (graph h.0) y) (sym c.into_parts.ensures.rows)
          (c.is_whole.ensures y);
      last = λ v. rw (c.into_parts.ensures.rows, c.into_parts.ensures.store) (c.is_known.ensures.last v);
    }
