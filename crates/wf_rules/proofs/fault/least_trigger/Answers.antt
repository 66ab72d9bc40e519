use Rattle.std.proofs.Common.{◌+◌, ◌++◌, ℕ, Bool, List, Option, Some, None, codes, cond, drop, map, option_map, string_bytes, ap, sym, ◌∙◌}
use Rattle.std.proofs.Common.{arith}
use Rattle.wf_varorder.proofs.SizeLemmas.{drop_at_place}
use Rattle.wf_varorder.specs.DefSeen.{trigger_tree}
use Rattle.wf_varorder.specs.Trigger.{Trigger}
use Rattle.wf_json.specs.Pointer.{lesser, least, member_step}
use Rattle.wf_rules.specs.Broken.{told_in}
use Rattle.wf_varorder.specs.KnownSeen.{whole_seen}
use Rattle.wf_breaks.specs.Rules.{trigger_breaks}
use Rattle.wf_rules.proofs.ToldLemmas.{told_in-more}
use Rattle.wf_rules.proofs.fault.least_trigger.Goals as goal

pub loop-place-preserved : goal.loop-place-preserved
loop-place-preserved c =
    let xs : List Trigger = c.args.triggers.now in
    let i = c.loop-place.place in
    let x : Trigger = c.index-triggers-place.result in
    let broken : ℕ → Bool = trigger_breaks (whole_seen c.args.known.now) c.args.rule in
    let best : Option (List ℕ) = option_map string_bytes c.loop-place.best in
    let rest : List (List ℕ) = map (λ x. x.name) (map trigger_tree (drop (i + 1) xs)) in
    let here = drop_at_place xs i x (omega arith) c.index-triggers-place.is in
    ap (λ (o : Option (List ℕ)). lesser o (least (told_in (codes "/triggers") broken (i + 1) rest)))
    (c.in_ok-best.ensures
    ∙ ap (λ (b : Bool). lesser best (cond b (Some (codes "/triggers" ++ member_step x.name)) None))
    (c.trigger_breaks-broken.ensures ∙ ap broken c.cut.ensures))
    ∙ told_in-more (codes "/triggers") broken i x.name rest best
    ∙ ap (λ (ys : List Trigger). lesser best (least (told_in (codes "/triggers") broken i (map (λ x. x.name) (map trigger_tree ys)))))
    (sym here)
    ∙ c.loop-place.invariant
