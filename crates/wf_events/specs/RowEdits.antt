-- What is edited beside the rows as an action gets its own: what is made before, and what comes of it.
use Rattle.std.specs.Prelude.{◌≡◌, ℕ, ◌-◌, Bool, ◌&&◌, cond, None}
use Rattle.wf_layers.specs.Address.{Address, Table, is_own, same_at}
use Rattle.wf_layers.specs.Machine as machine
use Rattle.wf_layers.specs.Source.{Source}
use Rattle.wf_tables.specs.Counted.{less}
use Rattle.wf_tables.specs.Known.{is_among}
use Rattle.wf_tables.specs.Instance.{Instance}
use Rattle.wf_tables.specs.Plan.{PlanTree}
use Rattle.wf_tables.specs.PlanSeen.{list_at}
use Rattle.wf_events.specs.Looked.{idle_at, instances_at, open_at}
use Rattle.wf_events.specs.Round.{IsLast, is_finished, is_graph, look_out, round_at}
use Rattle.wf_events.specs.declared.edits.RowEdits.{RowEdits}

-- Made before, by the next indexes of open loops: the instance, those that name its action, the graph round it, and where the graph of the
-- last begun iteration of the container round it goes.
pub record AreRowEdits (p : PlanTree) (next : Address → ℕ) (at : Instance) (edits : RowEdits) : Type 0 where
  pub itself : edits.place ≡ at
  pub named : edits.followers.items ≡ instances_at at.at (list_at p.followers at.action)
  pub graph : edits.round ≡ round_at p at
  pub iteration : IsLast next edits.round edits.last

-- The action at x names that at this instance, at the same indexes.
abbrev pub follows : PlanTree → Instance → Address → Bool
follows p at x = is_among x.name (list_at p.followers at.action) && same_at at.at x.at

-- Where the action at the instance has its row in these tables: each that names it waits for one less, and the graph round it lacks one
-- less; where that lacks none any more and is an iteration of a Foreach, one less is unfinished. Nothing may happen to itself any more, and
-- the container round it and those that name it are looked at anew.
pub record IsSettled {Row Begun Decision Verdict : Type 0} (m : Source Row Begun Decision Verdict) (p : PlanTree) (at : Instance)
    (rows : Table Row) (opens : Table (machine.Opening Decision Verdict)) (waits waits' lacks lacks' : Table ℕ) (left left' : Address → ℕ)
    (ready ready' : Table machine.Event) : Type 0 where
  pub named : (x : Address) → waits' x ≡ cond (follows p at x) (less 1 (waits x)) (waits x)
  pub owned : (x : Address) → lacks' x ≡ cond (is_graph (round_at p at) x) (less 1 (lacks x)) (lacks x)
  pub finished : (x : Address) → left' x ≡ cond (is_finished (round_at p at) lacks' x) (left x - 1) (left x)
  pub looked : (x : Address) → ready' x ≡ cond (follows p at x) (idle_at m rows waits' p x)
      (look_out (open_at m opens lacks' left' p) (round_at p at) (λ y. cond (is_own at.action at.at y) None (ready y)) x)
