use Rattle.std.proofs.Common.{◌≡◌, ◌++◌, ℕ, List, IfOk, subst, sym, ◌∙◌, codes}
use Rattle.wf_html.specs.Html.{Piece}
use Rattle.wf_drawn.proofs.DrawnLemmas.{step}
use Rattle.wf_drawn.specs.After.{none_listed, wanted}
use Rattle.wf_drawn.proofs.after.all_wanted.Goals as goal

pub returns : goal.returns
returns c =
    let s = c.args.statuses in
    let last : List Piece = wanted (none_listed s) (codes "never") in
    let fourth : List Piece = wanted s.timed_out (codes "TimedOut") ++ last in
    let third : List Piece = wanted s.skipped (codes "Skipped") ++ fourth in
    let second : List Piece = wanted s.failed (codes "Failed") ++ third in
    let whole =
    step _ _ (wanted s.succeeded (codes "Succeeded")) second c.in_ok-bytes.ensures
    ∙ step _ _ (wanted s.failed (codes "Failed")) third c.in_ok-bytes-2.ensures
    ∙ step _ _ (wanted s.skipped (codes "Skipped")) fourth c.in_ok-bytes-3.ensures
    ∙ step _ _ (wanted s.timed_out (codes "TimedOut")) last c.in_ok-bytes-4.ensures in
    subst (λ (x : List ℕ). IfOk c.wanted-5.result (λ b. b.items ≡ x)) (sym whole) (rw c.none_listed.ensures at c.wanted-5.ensures)
