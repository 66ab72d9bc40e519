use Rattle.std.proofs.Common.{◌≡◌, ◌++◌, option_map, string_bytes, sym, ap, ◌∙◌, subst}
use Rattle.wf_json.specs.Found.{pointer_after}
use Rattle.wf_json.specs.Pointer.{lesser, member_step}
use Rattle.wf_json.proofs.flaws.least_among.Goals as goal

pub loop-name-preserved : goal.loop-name-preserved
loop-name-preserved c =
    let l = c.loop-name in
    let best = option_map string_bytes l.best in
    let named = subst (λ k. option_map string_bytes c.in_ok-best.best ≡ lesser best
    (option_map (λ p. member_step k ++ p) (option_map string_bytes c.in-Some.member.pointer)))
    c.as_str.ensures.value c.in_ok-best.ensures in
    ap (λ b. pointer_after b c.next.new.self) named ∙ ap (pointer_after best) (sym c.in-Some.ensures.steps) ∙ l.invariant
