use Rattle.std.proofs.Common.{◌≡◌, ◌≤◌, ◌&&◌, cond, drop}
use Rattle.wf_plan.specs.Address.{Address, same_at}
use Rattle.wf_kept.specs.Counted.{less}
use Rattle.wf_plan.specs.Known.{is_among}
use Rattle.wf_plan.specs.Once.{AreDistinct}
use Rattle.wf_tables.specs.Tables.{count_in}
use Rattle.wf_tables.proofs.counts.lower.Given as goal

-- those that are left to lower, over what is lowered, are all
abbrev pub invariant-loop-action : goal.invariant-loop-action
invariant-loop-action l =
    let rest = drop l.action-index l.followers in record {
      distinct : AreDistinct rest;
      place : l.next.at ≡ l.fn.place.at;
      room : l.fn.counts.1 ≤ l.counts.1;
      counts : (x : Address)
          → cond (is_among x.name rest && same_at l.fn.place.at x.at) (less 1 (count_in l.counts.0 x)) (count_in l.counts.0 x)
          ≡ cond (is_among x.name l.followers && same_at l.fn.place.at x.at) (less 1 (count_in l.fn.counts.0 x)) (count_in l.fn.counts.0 x);
    }
