use Rattle.std.proofs.Common.{◌≡◌, ◌+◌, ◌&&◌, ℕ, Bool, true, false, List, map, drop, sym, ap, ◌∙◌, arith}
use Rattle.wf_def.specs.ActionSeen.{initial_tree}
use Rattle.wf_def.specs.declared.sort.Initial.{Initial}
use Rattle.wf_val.specs.Seen.{tree}
use Rattle.wf_val.specs.declared.val.Val.{Val}
use Rattle.wf_says.specs.Says.{initialized, tells_each}
use Rattle.wf_says.proofs.SaysLemmas.{all_told, lengths_differ, one_told}
use Rattle.wf_says.proofs.variables.tells_each.Goals as goal

pub returns-then-initials-values : goal.returns-then-initials-values
returns-then-initials-values c = sym (lengths_differ c.args.initials.now c.args.values.now c.if-initials-values.true)

pub returns-then-not-tells : goal.returns-then-not-tells
returns-then-not-tells c =
    let xs : List Initial = c.args.initials.now in
    let vs : List Val = c.args.values.now in
    let i : ℕ = c.loop-place.place in
    let rest : Bool = tells_each (map initialized (map initial_tree (drop (i + 1) xs))) (map tree (drop (i + 1) vs)) in
    let step = one_told xs vs i c.index-initials-place.result c.index-values-place.result (omega arith) (omega arith)
    c.index-initials-place.is c.index-values-place.is in
    let fails : c.tells.result ≡ false = first_of (cc, grind arith) in
    sym (sym c.loop-place.invariant ∙ step ∙ ap (λ b. b && rest) (sym c.tells.ensures ∙ fails))

pub loop-place-preserved : goal.loop-place-preserved
loop-place-preserved c =
    let xs : List Initial = c.args.initials.now in
    let vs : List Val = c.args.values.now in
    let i : ℕ = c.loop-place.place in
    let rest : Bool = tells_each (map initialized (map initial_tree (drop (i + 1) xs))) (map tree (drop (i + 1) vs)) in
    let step = one_told xs vs i c.index-initials-place.result c.index-values-place.result (omega arith) (omega arith)
    c.index-initials-place.is c.index-values-place.is in
    let holds : c.tells.result ≡ true = first_of (cc, grind arith) in
    sym (step ∙ ap (λ b. b && rest) (sym c.tells.ensures ∙ holds)) ∙ c.loop-place.invariant

pub returns : goal.returns
returns c =
    let xs : List Initial = c.args.initials.now in
    let vs : List Val = c.args.values.now in
    let i : ℕ = c.loop-place.place in
    sym (all_told xs vs i (omega arith) (omega arith)) ∙ c.loop-place.invariant
