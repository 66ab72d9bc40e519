use Rattle.std.proofs.Common.{◌≡◌, ◌++◌, flat_map, string_bytes, arith, ap, sym, ◌∙◌}
use Rattle.std.specs.Str.Iter.{chars_rest}
use Rattle.wf_json.specs.Pointer.{escaped}
use Rattle.wf_json.proofs.PointerLemmas.{escaped_char_then}
use Rattle.wf_json.proofs.pointer.step_to.Goals as goal

pub loop-c-preserved : goal.loop-c-preserved
loop-c-preserved c =
    let done = string_bytes c.loop-c.step in
    let rest = chars_rest c.next.new.self in
    let no_tilde : c.in-Some.c ≡ 126 → ⊥ = λ e. omega arith in
    let no_slash : c.in-Some.c ≡ 47 → ⊥ = λ e. omega arith in
    ap (λ s. s ++ flat_map escaped rest) c.in_ok-push-in_default.ensures.bytes
    ∙ escaped_char_then done c.in-Some.c rest no_tilde no_slash
    ∙ ap (λ s. done ++ flat_map escaped s) (sym c.in-Some.ensures.steps.0)
    ∙ c.loop-c.invariant
