-- An open loop as its next iteration begins.
use Rattle.std.specs.Prelude.{ℕ, ◌+◌, ◌<◌, Bool, false, cond, List, Option, Some, None, length, nat_lt}
use Rattle.wf_lists.specs.KeyOrder.{find_key, put_key, without_key}
use Rattle.wf_layers.specs.Machine as machine
use Rattle.wf_layers.specs.Source.{Source}
use Rattle.wf_events.specs.Instances.{instance_cmp}
use Rattle.wf_events.specs.Instance.{Instance}
use Rattle.wf_events.specs.OpenAt.{OpenAt}
use Rattle.wf_events.specs.Plan.{EntryTree, PlanTree, ShapeTree, leaf, scope, choice, foreach, until}
use Rattle.wf_events.specs.PlanSeen.{at_place}

-- An iteration that begins is unfinished: it is one of a Foreach, whose graph has an action.
abbrev pub counts_turns : ShapeTree → Bool
counts_turns leaf = false
counts_turns (scope ns) = false
counts_turns (choice bs) = false
counts_turns (foreach pace ns) = nat_lt 0 (length ns)
counts_turns (until most ns) = false

abbrev pub counts_by : Option EntryTree → Bool
counts_by None = false
counts_by (Some e) = counts_turns e.shape

abbrev pub counts_at : PlanTree → ℕ → Bool
counts_at p n = counts_by (at_place p.entries n)

module _ {Decision Verdict : Type 0} where
  abbrev pub begun : Bool → OpenAt Decision Verdict → OpenAt Decision Verdict
  begun counts o = record {
    instance = o.instance;
    decision = o.decision;
    next = o.next + 1;
    test = None;
    unfinished = cond counts (o.unfinished + 1) o.unfinished;
  }

  abbrev pub place_of : OpenAt Decision Verdict → Instance
  place_of o = o.instance

  abbrev pub begun_by : Instance → Bool → List (OpenAt Decision Verdict) → Option (OpenAt Decision Verdict) → List (OpenAt Decision Verdict)
  begun_by k counts xs None = without_key instance_cmp place_of k xs
  begun_by k counts xs (Some o) = put_key instance_cmp place_of (begun counts o) (without_key instance_cmp place_of k xs)

  -- the open container at an instance has begun another iteration
  abbrev pub begun_in : Instance → Bool → List (OpenAt Decision Verdict) → List (OpenAt Decision Verdict)
  begun_in k counts xs = begun_by k counts xs (find_key instance_cmp place_of k xs)

-- How many iterations a loop has with this decision: an Until at most, and a Foreach.
module _ {Row Begun Decision Verdict : Type 0} (m : Source Row Begun Decision Verdict) where
  abbrev pub limit_of : ShapeTree → Decision → ℕ
  limit_of leaf c = 0
  limit_of (scope ns) c = 0
  limit_of (choice bs) c = 0
  limit_of (foreach pace ns) c = m.items c
  limit_of (until most ns) c = most

  abbrev pub limit_by : Option EntryTree → Decision → ℕ
  limit_by None c = 0
  limit_by (Some e) c = limit_of e.shape c

  abbrev pub limit_at : PlanTree → ℕ → Decision → ℕ
  limit_at p n c = limit_by (at_place p.entries n) c

  -- its next iteration is one of them
  abbrev pub IsBelow : PlanTree → ℕ → Option (machine.Opening Decision Verdict) → Type 0
  IsBelow p n None = Unit {0}
  IsBelow p n (Some w) = w.next < limit_at p n w.decision
