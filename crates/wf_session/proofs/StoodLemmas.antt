-- A run between two answers: what becomes of it as one comes.
use Rattle.std.proofs.Common.{◌≡◌, ◌≢◌, ◌≤◌, ℕ, List, sym, ap, subst, ◌∙◌}
use Rattle.wf_stands.specs.Answered.{answered}
use Rattle.wf_answers.specs.Added.{with_added}
use Rattle.wf_answers.specs.AnswerTree.{AnswerTree, key_cmp, key_of}
use Rattle.wf_answers.specs.Inputs.{InputsTree}
use Rattle.wf_answers.specs.InputsSeen.{inputs_tree}
use Rattle.wf_answers.specs.declared.inputs.Inputs.{Inputs}
use Rattle.wf_asks.specs.Instances.{address_of}
use Rattle.wf_asks.specs.Known.{store_in, writer}
use Rattle.wf_def.specs.DefTree.{DefTree}
use Rattle.wf_environment.specs.Environment.{Environment}
use Rattle.wf_kept.specs.Reached.{begun}
use Rattle.wf_layers.specs.Address.{Address}
use Rattle.wf_layers.specs.Laws.{IsInstance}
use Rattle.wf_layers.specs.Machine.{Run, fresh}
use Rattle.wf_layers.specs.Meaning.{meaning}
use Rattle.wf_layers.specs.Variables.{IsLastWritten, OneOrder}
use Rattle.wf_lists.specs.KeyOrder.{IsInKeyOrder, without_key}
use Rattle.wf_planned.specs.Answering.{RowSource}
use Rattle.wf_planned.specs.Look.{instance}
use Rattle.wf_planned.specs.Record.{depth_of}
use Rattle.wf_quiet.specs.Quiet.{AreAmong, KnowsMore, MadeAreAnswered}
use Rattle.wf_quiet.proofs.Answered.{is_run, made_are_answered}
use Rattle.wf_quiet.proofs.More.{run_goes_on}
use Rattle.wf_quiet.proofs.Ready.{counts_stay, left_stays, ready_stays}
use Rattle.wf_quiet.proofs.Staying.{waits_on}
use Rattle.wf_quiet.proofs.Stored.{told_by_rows}
use Rattle.wf_runnable.specs.Writes.{writes}
use Rattle.wf_stands.specs.Moment.{source_of}
use Rattle.wf_tables.specs.Tables.{count_in, events_in, left_in}
use Rattle.wf_stands.specs.Checked.{Checked}
use Rattle.wf_trigger.specs.Starts.{StartTree}
use Rattle.wf_trigger.specs.StartsSeen.{start_tree}
use Rattle.wf_trigger.specs.declared.starts.Start.{Start}
use Rattle.wf_runnable.specs.Acting.{ActFor, ActForItself, begun_with, ready_definition}
use Rattle.wf_runnable.specs.Meant.{definition_of, environment_of, source}
use Rattle.wf_runnable.specs.Actions.{Actions}
use Rattle.wf_runnable.specs.Ready.{Ready}
use Rattle.wf_runnable.specs.Aside.{Aside, IsAside}
use Rattle.wf_session.specs.Begun.{AreListed, Going, IsStill, Lists, going, graph, moment, price}
use Rattle.wf_session.specs.Stood.{MayGoOn, Stands, run_of, run_with}
use Rattle.wf_waits.specs.Kept.{Kept, waiting_key}
use Rattle.wf_waits.specs.declared.waiting.Waiting.{Waiting}
use Rattle.wf_waits.proofs.ListLemmas.{both_so}
use Rattle.wf_waits.proofs.TakenLemmas.{apart, others_hold}
use Rattle.wf_session.specs.Waiting.{AreAllKept, AreWaiting, IsMissing}

-- the actions are those of the run
pub going_is : (a : Actions) (d : DefTree) (e : Environment) (m : RowSource) → ActFor a d e m
    → going a ≡ record { definition = d; environment = e; by = m }
going_is a d e m act = λ k. record { definition = act.definition k; environment = act.environment k; by = act.by_source k }

-- and they are those of a run that begins so, by what was made ready
pub same_run : (a : Actions) (ready : Ready) (checked : Checked) (start : Start) (inputs : Inputs) → ready.checked.now ≡ checked
    → ActForItself ready start inputs a → going a ≡ run_with checked start inputs
same_run a ready checked start inputs readied acts =
    going_is a (ready_definition ready) (begun_with start inputs) (source_of (ready_definition ready) (start_tree start) (inputs_tree inputs))
    acts.acts
    ∙ ap (λ k. run_with k start inputs) readied

-- a run that was put aside where it stood
pub put_aside : (a : Actions) (h : Lists) (rest : Aside) (ws : List Waiting) → rest.0.0 ≡ h
    → IsAside (definition_of a) (environment_of a) (source a) rest
    → ((v : ℕ) → IsLastWritten (graph (going a)) (source a) (writer (writes (definition_of a)) v) (moment h).rows (store_in h.1.1.1 v))
    → AreListed h → IsStill (going a) h → AreWaiting (going a) (moment h) ws → AreAllKept (going a) (moment h) ws
    → price (going a) h ≤ 67108864
    → Stands (going a) rest ws
put_aside a h rest ws lists aside last listed still waiting all within = record {
  aside = aside;
  last =
      subst
      (λ (l : Lists). (v : ℕ) → IsLastWritten (graph (going a)) (source a) (writer (writes (definition_of a)) v) (moment l).rows
      (store_in l.1.1.1 v))
      (sym lists) last;
  listed = subst AreListed (sym lists) listed;
  still = subst (IsStill (going a)) (sym lists) still;
  waiting = subst (λ (l : Lists). AreWaiting (going a) (moment l) ws) (sym lists) waiting;
  all = subst (λ (l : Lists). AreAllKept (going a) (moment l) ws) (sym lists) all;
  within = subst (λ (l : Lists). price (going a) l ≤ 67108864) (sym lists) within;
}

-- a run that may be gone on from is one that was put aside
pub is_aside : (g : Going) (rest : Aside) → MayGoOn g rest → IsInstance (graph g) g.by (depth_of g.definition)
    → ((v : ℕ) → OneOrder (graph g) g.by (writer (writes g.definition) v) (meaning g.by (depth_of g.definition) (graph g)))
    → IsAside g.definition g.environment g.by rest
is_aside g rest may own order =
    let run : Run (graph g) g.by fresh may.comes.events (moment rest.0.0) =
    is_run (answered g.definition g.environment.inputs) (graph g) g.by fresh may.comes.events (moment rest.0.0) may.comes.run in
    record {
      kept = record {
        reached = begun may.comes.events own run;
        counts = may.counts;
        left = may.left;
        enabled = may.enabled;
        stored =
            λ v. told_by_rows (graph g) (depth_of g.definition) g.by (writer (writes g.definition) v) may.comes.events (moment rest.0.0) own run
            (order v) (store_in rest.0.0.1.1.1 v) (may.last v);
      };
      sums = may.sums;
    }

module _ (d : DefTree) (start : StartTree) (i : InputsTree) (a : AnswerTree)
    (knows : KnowsMore (answered d i) (source_of d start i) (source_of d start (with_added i a)))
    (stay : AreAmong (answered d i) (answered d (with_added i a))) (rest : Aside) (kept : Kept)
    (st : Stands (run_of d start i) rest kept.0) where
  abbrev ws : List Waiting
  ws = kept.0

  abbrev old : Going
  old = run_of d start i

  abbrev new : Going
  new = run_of d start (with_added i a)

  made : MadeAreAnswered (answered d i) old.by (moment rest.0.0)
  made = made_are_answered (answered d i) (graph old) old.by st.still.events (moment rest.0.0) st.still.run

  -- as the answer comes, it may be gone on from by the new inputs
  pub may_go_on : MayGoOn new rest
  may_go_on = record {
    comes = record {
      events = st.still.events;
      run =
          run_goes_on (answered d i) (graph old) old.by new.by knows (answered d (with_added i a)) stay st.still.events (moment rest.0.0)
          st.still.run;
    };
    counts = counts_stay (answered d i) (graph old) old.by new.by knows (moment rest.0.0) made (count_in rest.0.1.0) (count_in rest.0.1.1.0)
        st.aside.kept.counts;
    left = left_stays (answered d i) (graph old) old.by new.by knows (moment rest.0.0) made (left_in rest.0.0.1.1.0)
        st.aside.kept.left;
    enabled = ready_stays (answered d i) (graph old) old.by new.by knows (moment rest.0.0) made (events_in rest.0.1.1.1)
        st.aside.kept.enabled;
    last = st.last;
    sums = st.aside.sums;
  }

  -- and all that waited but the one whose answer has come wait still
  pub wait_still : ((x : Address) (n : ℕ) → ((instance d x, n) ≢ key_of a) → answered d (with_added i a) x n ≡ answered d i x n)
      → IsInKeyOrder key_cmp waiting_key ws → AreWaiting new (moment rest.0.0) (without_key key_cmp waiting_key (key_of a) ws)
  wait_still others order =
      both_so (without_key key_cmp waiting_key (key_of a) ws) one
      (others_hold (key_of a) kept order (λ (w : Waiting). IsMissing old (moment rest.0.0) (address_of w.instance) w.want) st.waiting)
      (apart (key_of a) kept order)
    where
      one : (w : Waiting) → IsMissing old (moment rest.0.0) (address_of w.instance) w.want → waiting_key w ≢ key_of a
          → IsMissing new (moment rest.0.0) (address_of w.instance) w.want
      one w m differs = record {
        key_is = m.key_is;
        waits =
            waits_on (answered d i) (graph old) old.by new.by knows (moment rest.0.0) made (address_of w.instance) w.want.attempt m.waits
            (answered d (with_added i a))
            (others (address_of w.instance) w.want.attempt (λ same. differs (m.key_is ∙ same)) ∙ m.waits.open_still);
      }
