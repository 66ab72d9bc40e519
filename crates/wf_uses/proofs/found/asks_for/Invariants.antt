use Rattle.std.proofs.Common.{◌≡◌, drop}
use Rattle.std.specs.List.{list_any}
use Rattle.wf_uses.specs.Named.{asks_for}
use Rattle.wf_uses.specs.Seen.{found_uses}
use Rattle.wf_uses.proofs.found.asks_for.Given as goal

-- none so far asks for it
abbrev pub invariant-loop-one : goal.invariant-loop-one
invariant-loop-one l =
    list_any (asks_for l.asked) (found_uses (drop l.one-index l.found)) ≡ list_any (asks_for l.asked) (found_uses l.found)
