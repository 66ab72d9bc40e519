use Rattle.std.proofs.Common.{◌≡◌, drop}
use Rattle.wf_html.specs.Html.{written}
use Rattle.wf_drawn.specs.After.{afters}
use Rattle.wf_drawn.proofs.after.afters.Given as goal

-- what is written, and the entries that are left
abbrev pub invariant-loop-entry : goal.invariant-loop-entry
invariant-loop-entry l = written l.bytes.items (afters (drop l.entry-index l.entry-items)) ≡ written l.fn.bytes.items (afters l.entries)
