-- What is known of a reached state, however its run began.
use Rattle.std.proofs.Common.{◌≡◌, ℕ, suc, List, [], ◌∷◌, ◌++◌, length, ap, refl, arith}
use Rattle.wf_layers.specs.Definition.{Graph, Closed, IsDepth}
use Rattle.wf_layers.specs.Address.{SeenIn}
use Rattle.wf_layers.specs.Source.{Source, Sound}
use Rattle.wf_layers.specs.Rule.{Obeys}
use Rattle.wf_layers.specs.Meaning.{meaning}
use Rattle.wf_layers.specs.Bound.{left}
use Rattle.wf_layers.specs.Laws.{Exact}
use Rattle.wf_layers.specs.Machine.{State, Event, Step}
use Rattle.wf_layers.specs.Machine as machine
use Rattle.wf_layers.specs.Resubmission.{pin}
use Rattle.wf_layers.specs.Resubmission as resubmission
use Rattle.wf_layers.proofs.Bounded.{events_are_counted}
use Rattle.wf_layers.proofs.Busy.{Busy}
use Rattle.wf_layers.proofs.Enabled.{exact, runs_grow}
use Rattle.wf_layers.proofs.Facts.{busy_state, rooted_state}
use Rattle.wf_layers.proofs.Keeps.{Keeps, IsClosed, SpecialOut}
use Rattle.wf_layers.proofs.OldTable.{so as old_sound, sol as old_solves, out as old_out, cl as old_closed, any_keeps, any_busy, any_rooted, any_ends}
use Rattle.wf_layers.proofs.Progress.{closed_is, nothing_special, kept_state, sol as sol_of}
use Rattle.wf_layers.proofs.Rooted.{Rooted}
use Rattle.wf_kept.specs.Reached.{IsReached, begun, resumed}

pub record Known {Row Begun Decision Verdict : Type 0} (d : Graph) (depth : ℕ → ℕ) (m : Source Row Begun Decision Verdict)
    (s : State Row Begun Decision Verdict) : Type 0 where
  pub so : Sound m (SeenIn d) d 0
  pub sol : Obeys m d (meaning m depth d)
  pub own_graph : Closed d d
  pub falls : IsDepth d depth
  pub closed : IsClosed m d so (meaning m depth d) sol
  pub out : SpecialOut m d so (meaning m depth d) sol
  pub keeps : Keeps m d so (meaning m depth d) sol s
  pub busy : Busy m d so (meaning m depth d) sol s
  pub rooted : Rooted m d so (meaning m depth d) sol s

one_longer : (es : List Event) (e : Event) → length (es ++ e ∷ []) ≡ suc (length es)
one_longer [] e = refl
one_longer (x ∷ es) e = ap suc (one_longer es e)

module _ {Row Begun Decision Verdict : Type 0} (d : Graph) (depth : ℕ → ℕ) where
  pub known : (m : Source Row Begun Decision Verdict) (s : State Row Begun Decision Verdict) → IsReached d depth m s → Known d depth m s
  known m s (begun es is run) = record {
    so = is.local;
    sol = sol_of d m depth is;
    own_graph = is.closed;
    falls = is.falls;
    closed = closed_is m d is.local (meaning m depth d) (sol_of d m depth is) is.closed;
    out = nothing_special d m depth is;
    keeps = kept_state d m depth is es s run;
    busy = busy_state d m depth is es s run;
    rooted = rooted_state d m depth is es s run;
  }
  known _ s (resumed a b redo again r recall es falls closed sb old run) = record {
    so = old_sound a b redo again d depth falls sb r recall old;
    sol = old_solves a b redo again d depth falls sb r recall old;
    own_graph = closed;
    falls = falls;
    closed = old_closed a b redo again d depth falls sb r recall old closed;
    out = old_out a b redo again d depth falls sb r recall old;
    keeps = any_keeps a b redo again d depth falls sb r recall old closed es s run;
    busy = any_busy a b redo again d depth falls sb r recall old closed es s run;
    rooted = any_rooted a b redo again d depth falls sb r recall old closed es s run;
  }

  -- a step leads to a reached state
  pub goes_on : (m : Source Row Begun Decision Verdict) (s : State Row Begun Decision Verdict) → IsReached d depth m s
      → (e : Event) (s' : State Row Begun Decision Verdict) → Step d m s e s' → IsReached d depth m s'
  goes_on m s (begun es is run) e s' st = begun (es ++ e ∷ []) is (runs_grow d m machine.fresh s s' es e run st)
  goes_on _ s (resumed a b redo again r recall es falls closed sb old run) e s' st =
      resumed a b redo again r recall (es ++ e ∷ []) falls closed sb old
      (runs_grow d (pin a b redo again r recall) (resubmission.resumed d redo again r recall) s s' es e run st)

  -- the table of events is exact there
  pub exact_there : (m : Source Row Begun Decision Verdict) (s : State Row Begun Decision Verdict) → IsReached d depth m s → Exact d m s
  exact_there m s reached = let k = known m s reached in exact m d k.so (meaning m depth d) k.sol s k.keeps k.busy

  -- what is left falls by one in each event
  pub left_falls : (m : Source Row Begun Decision Verdict) (s : State Row Begun Decision Verdict) → IsReached d depth m s
      → (e : Event) (s' : State Row Begun Decision Verdict) → Step d m s e s'
      → left m (meaning m depth d) s d [] ≡ suc (left m (meaning m depth d) s' d [])
  left_falls m s (begun es is run) e s' st =
      let before = events_are_counted d m depth is es s run in
      let after = events_are_counted d m depth is (es ++ e ∷ []) s' (runs_grow d m machine.fresh s s' es e run st) in
      let longer = one_longer es e in
      omega (arith, before, after, longer)
  left_falls _ s (resumed a b redo again r recall es falls closed sb old run) e s' st =
      let before = any_ends a b redo again d depth falls sb r recall old closed es s run in
      let after = any_ends a b redo again d depth falls sb r recall old closed (es ++ e ∷ []) s'
      (runs_grow d (pin a b redo again r recall) (resubmission.resumed d redo again r recall) s s' es e run st) in
      let longer = one_longer es e in
      omega (arith, before, after, longer)
