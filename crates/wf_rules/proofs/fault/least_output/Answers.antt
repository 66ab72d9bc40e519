use Rattle.std.proofs.Common.{◌+◌, ◌++◌, ℕ, Bool, List, Option, Some, None, codes, cond, drop, map, option_map, string_bytes, ap, sym, ◌∙◌}
use Rattle.std.proofs.Common.{arith}
use Rattle.wf_varorder.proofs.SizeLemmas.{drop_at_place}
use Rattle.wf_varorder.specs.DefSeen.{output_tree}
use Rattle.wf_varorder.specs.Output.{Output}
use Rattle.wf_json.specs.Pointer.{lesser, least, member_step}
use Rattle.wf_rules.specs.Broken.{told_in}
use Rattle.wf_varorder.specs.KnownSeen.{whole_seen}
use Rattle.wf_breaks.specs.Rules.{output_breaks}
use Rattle.wf_rules.proofs.ToldLemmas.{told_in-more}
use Rattle.wf_rules.proofs.fault.least_output.Goals as goal

pub loop-place-preserved : goal.loop-place-preserved
loop-place-preserved c =
    let xs : List Output = c.args.outputs.now in
    let i = c.loop-place.place in
    let x : Output = c.index-outputs-place.result in
    let broken : ℕ → Bool = output_breaks (whole_seen c.args.known.now) c.args.rule in
    let best : Option (List ℕ) = option_map string_bytes c.loop-place.best in
    let rest : List (List ℕ) = map (λ x. x.name) (map output_tree (drop (i + 1) xs)) in
    let here = drop_at_place xs i x (omega arith) c.index-outputs-place.is in
    ap (λ (o : Option (List ℕ)). lesser o (least (told_in (codes "/outputs") broken (i + 1) rest)))
    (c.in_ok-best.ensures
    ∙ ap (λ (b : Bool). lesser best (cond b (Some (codes "/outputs" ++ member_step x.name)) None))
    (c.output_breaks-broken.ensures ∙ ap broken c.cut.ensures))
    ∙ told_in-more (codes "/outputs") broken i x.name rest best
    ∙ ap (λ (ys : List Output). lesser best (least (told_in (codes "/outputs") broken i (map (λ x. x.name) (map output_tree ys)))))
    (sym here)
    ∙ c.loop-place.invariant
