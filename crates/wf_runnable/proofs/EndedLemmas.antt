-- What a run of a definition leaves, whatever it was made from.
use Rattle.std.proofs.Common.{◌≡◌, List, ap, subst, ◌∙◌}
use Rattle.wf_asks.specs.Known.{store_in}
use Rattle.wf_asks.specs.declared.known.RowAt.{RowAt}
use Rattle.wf_asks.specs.declared.known.WriterAt.{WriterAt}
use Rattle.wf_def.specs.DefTree.{DefTree}
use Rattle.wf_ended.specs.Ended.{HasEnded}
use Rattle.wf_environment.specs.Environment.{Environment}
use Rattle.wf_record.specs.declared.row.Row as kept
use Rattle.wf_actions.specs.Acting.{ActFor}
use Rattle.wf_actions.specs.Answering.{RowSource, table_by}
use Rattle.wf_actions.specs.Meant as acting
use Rattle.wf_actions.specs.Meant.{definition_of}
use Rattle.wf_actions.specs.Record.{record_of_table}
use Rattle.wf_actions.specs.Seen.{rows_seen}
use Rattle.wf_actions.specs.declared.actions.Actions.{Actions}
use Rattle.wf_runnable.specs.Over.{AreLeft}

-- by actions that act for a definition in an environment, by some source
module _ (d : DefTree) (e : Environment) (m : RowSource) (a : Actions) (act : ActFor a d e m) where
  -- each row that is meant is there, and the store has the last writers
  pub ended_so : (rows : List (RowAt kept.Row)) (store : List WriterAt) → AreLeft a rows store
      → HasEnded d e (rows_seen rows) (store_in store)
  ended_so rows store are =
      subst (λ q. HasEnded q e (rows_seen rows) (store_in store)) act.definition
      (subst (λ f. HasEnded (definition_of a) f (rows_seen rows) (store_in store)) act.environment
      (record { answers = acting.source a; answered = act.answered; whole = are.whole; last = are.last }))

  -- the table is one, so the record of its rows is that of what is meant
  pub record_is : (rows : List (RowAt kept.Row)) (store : List WriterAt) → AreLeft a rows store
      → record_of_table d e (rows_seen rows) ≡ record_of_table d e (table_by d m)
  record_is rows store are =
      ap (record_of_table d e) (λ k y. are.whole y k)
      ∙ ap (λ q. record_of_table d e (table_by q (acting.source a))) act.definition
      ∙ ap (λ s. record_of_table d e (table_by d s)) act.by_source
