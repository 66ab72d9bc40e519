use Rattle.std.proofs.Common.{◌++◌, string_bytes, ap, sym, ◌∙◌, append_assoc}
use Rattle.std.proofs.lemmas.Str.{chars_past_char}
use Rattle.std.specs.Str.{chars}
use Rattle.std.specs.Str.Iter.{chars_rest}
use Rattle.wf_tap.specs.Escapes.{all_shown, shown}
use Rattle.wf_tap.proofs.EscapeLemmas.{at_end, rest_utf8}
use Rattle.wf_tap.proofs.escapes.escaped.Goals as goal

pub loop-c-preserved : goal.loop-c-preserved
loop-c-preserved c =
    let place = c.args.place in
    let done = string_bytes c.loop-c.shown in
    let before = chars_rest c.loop-c.c-iterator in
    let rest = chars_rest c.next.new.self in
    let utf8 = c.loop-c.invariant.0 in
    let is = c.in-Some.ensures.steps.0 in (
      rest_utf8 before rest c.in-Some.c utf8 is,
      ap (λ s. s ++ all_shown place (chars rest)) c.in_ok-push_shown.ensures
          ∙ append_assoc done (shown place c.in-Some.c) (all_shown place (chars rest))
          ∙ ap (λ cs. done ++ all_shown place cs) (sym (chars_past_char before rest c.in-Some.c utf8 is))
          ∙ c.loop-c.invariant.1,
    )

pub returns : goal.returns
returns c =
    sym (at_end c.args.place (string_bytes c.loop-c.shown) (chars_rest c.loop-c.c-iterator) c.in-None.ensures.steps.0.0)
    ∙ c.loop-c.invariant.1
