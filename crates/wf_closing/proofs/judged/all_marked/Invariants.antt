use Rattle.std.proofs.Common.{◌≡◌, drop, map}
use Rattle.std.specs.List.{list_all}
use Rattle.wf_closing.specs.Steps.{is_marked}
use Rattle.wf_closing.proofs.judged.all_marked.Given as goal

abbrev pub invariant-loop-entry : goal.invariant-loop-entry
invariant-loop-entry l =
    list_all (is_marked l.marks) (map (λ e. e.number) (drop l.entry-index l.entry-items))
    ≡ list_all (is_marked l.marks) (map (λ e. e.number) l.after)
