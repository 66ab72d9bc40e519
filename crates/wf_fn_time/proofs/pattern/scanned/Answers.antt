use Rattle.std.proofs.Common.{◌∙◌, ap, sym, ◌++◌, drop}
use Rattle.std.specs.Prelude.{option_map}
use Rattle.std.proofs.lemmas.List.{take_rest}
use Rattle.wf_fn_time.specs.Pattern.{parts_past}
use Rattle.wf_fn_time.proofs.PatternLemmas.{parts-step}
use Rattle.wf_fn_time.proofs.pattern.scanned.Goals as goal

pub loop-first-preserved : goal.loop-first-preserved
loop-first-preserved c =
    let quoted = c.loop-first.quoted in
    let done = c.loop-first.parts.items in
    let behind = c.in-Some.behind.now in
    let part = c.in-Some-part_of.part in
    let more = c.in-Some-part_of.more in
    ap (λ s. option_map (λ ps. c.push.new.self.items ++ ps) (parts_past 0 quoted s)) (take_rest behind more)
    ∙ ap (λ items. option_map (λ ps. items ++ ps) (parts_past 0 quoted (drop more behind))) c.in_ok-push-in-Some-part_of.ensures.items
    ∙ parts-step quoted c.in-Some.first.now behind done part more c.if-first-eq39.false (sym c.in-Some-part_of.ensures.value)
    ∙ ap (λ s. option_map (λ ps. done ++ ps) (parts_past 0 quoted s)) (sym c.in-Some.ensures.cases.0) ∙ c.loop-first.invariant
