use Rattle.std.proofs.Common.{◌≡◌, ℕ, ◌*◌, ◌%◌, ◌-◌, ◌^◌, ◌≤◌, min, Option, Some, ap, arith, subst, sym}
use Rattle.wf_fn_time.specs.Moments.{last_tick}
use Rattle.wf_recur.specs.Next.{IsLeastFrom, IsMultipleFrom}
use Rattle.wf_recur.proofs.MultipleLemmas.{capped-least}
use Rattle.wf_recur.proofs.multiples.next_step.Goals as goal

pub returns : goal.returns
returns c =
    let product : c.get.result * c.args.unit ≡ c.args.interval * c.args.unit = ap (λ i. i * c.args.unit) c.get.ensures.value in
    let step : c.min-step.result ≡ min (c.args.interval * c.args.unit) (2 ^ 62) =
    omega (arith, product, c.saturating_mul.ensures, c.min-step.ensures) in
    let P : ℕ → Type 0 = λ start. IsLeastFrom (IsMultipleFrom start c.min-step.result) c.args.at (Some c.next_multiple.result) in
    let multiple : ℕ → Type 0 = λ m. (m ≤ last_tick) × ((m - c.args.start) % (c.args.interval * c.args.unit) ≡ 0) in
    let Q : Option ℕ → Type 0 = λ m. IsLeastFrom multiple c.args.at m in
    subst Q (sym c.of.ensures) (capped-least c.args.start (c.args.interval * c.args.unit) c.min-step.result c.args.at c.next_multiple.result
    step (subst P c.get-2.ensures.value c.next_multiple.ensures.least))
