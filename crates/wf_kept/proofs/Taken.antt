-- How many events a reached state has taken.
use Rattle.std.proofs.Common.{◌≡◌, ◌≤◌, ◌+◌, ◌*◌, ℕ, suc, List, length, arith, subst}
use Rattle.wf_layers.specs.Definition.{Graph}
use Rattle.wf_layers.specs.Address.{Address}
use Rattle.wf_layers.specs.Source.{Source}
use Rattle.wf_layers.specs.Meaning.{meaning}
use Rattle.wf_layers.specs.Bound.{TellsTurns, Costs}
use Rattle.wf_layers.specs.Laws.{EventsAreFew}
use Rattle.wf_layers.specs.Listed.{Lists, sum_of}
use Rattle.wf_layers.specs.Machine.{Running, Opening, State, Event, Step}
use Rattle.wf_layers.proofs.Bounded.{events_are_counted}
use Rattle.wf_layers.proofs.OldTable.{any_ends, any_few}
use Rattle.wf_layers.proofs.Worth.{events_of_runs_are_few}
use Rattle.wf_kept.specs.Reached.{IsReached, begun, resumed}
use Rattle.wf_kept.specs.Taken.{HasTaken}
use Rattle.wf_kept.proofs.Known.{left_falls}

module _ {Row Begun Decision Verdict : Type 0} (d : Graph) (depth : ℕ → ℕ) where
  pub one_more_taken : (m : Source Row Begun Decision Verdict) (s : State Row Begun Decision Verdict) → IsReached d depth m s → (k : ℕ)
      → HasTaken d depth m s k → (e : Event) (s' : State Row Begun Decision Verdict) → Step d m s e s' → HasTaken d depth m s' (suc k)
  one_more_taken m s reached k taken e s' st = let fall = left_falls d depth m s reached e s' st in omega (arith, taken, fall)

  pub taken_once : (m : Source Row Begun Decision Verdict) (s : State Row Begun Decision Verdict) (k l : ℕ) → HasTaken d depth m s k
      → HasTaken d depth m s l → k ≡ l
  taken_once m s k l first second = omega (arith, first, second)

module _ {Row Begun Decision Verdict RowAt LeafAt OpenAt : Type 0} (d : Graph) (depth : ℕ → ℕ) where
  -- the list of events that leads to the state is as long as the state tells
  few : (m : Source Row Begun Decision Verdict) (s : State Row Begun Decision Verdict) → IsReached d depth m s
      → (es : List Event) × HasTaken d depth m s (length es) × EventsAreFew RowAt LeafAt OpenAt d m (meaning m depth d) s es
  few m s (begun es is run) = (es, events_are_counted d m depth is es s run, events_of_runs_are_few d m depth is es s run)
  few _ s (resumed a b redo again r recall es falls closed sb old run) = (
    es,
    any_ends a b redo again d depth falls sb r recall old closed es s run,
    any_few a b redo again d depth falls sb r recall old closed RowAt LeafAt OpenAt es s run,
  )

  pub taken_are_few : (m : Source Row Begun Decision Verdict) (s : State Row Begun Decision Verdict) → IsReached d depth m s → (k : ℕ)
      → HasTaken d depth m s k → (turns : Row → ℕ) → TellsTurns d m (meaning m depth d) turns
      → (row_at : RowAt → Address) (row : RowAt → Row) (leaf_at : LeafAt → Address) (leaf : LeafAt → Running Begun)
      (open_at : OpenAt → Address) (opening : OpenAt → Opening Decision Verdict)
      (of_row : RowAt → ℕ) (of_leaf : LeafAt → ℕ) (of_open : OpenAt → ℕ) → Costs turns row leaf opening of_row of_leaf of_open
      → (rows : List RowAt) (leaves : List LeafAt) (opens : List OpenAt) → Lists row_at row s.rows rows
      → Lists leaf_at leaf s.running leaves → Lists open_at opening s.opens opens
      → 32 * k ≤ sum_of of_row rows + sum_of of_leaf leaves + sum_of of_open opens
  taken_are_few m s reached k taken turns tells row_at row leaf_at leaf open_at opening of_row of_leaf of_open costs rows leaves opens lr ll
      lo =
      let run = few m s reached in
      let counted = run.1 in
      let same : length run.0 ≡ k = omega (arith, counted, taken) in
      subst (λ z. 32 * z ≤ sum_of of_row rows + sum_of of_leaf leaves + sum_of of_open opens) same
      (run.2 turns tells row_at row leaf_at leaf open_at opening of_row of_leaf of_open costs rows leaves opens lr ll lo)
