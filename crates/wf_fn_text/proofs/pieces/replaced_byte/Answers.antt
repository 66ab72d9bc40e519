use Rattle.std.proofs.Common.{sym, ap, ◌∙◌, map-id, flat_map}
use Rattle.std.specs.Str.{encode_utf8_all}
use Rattle.std.proofs.lemmas.Str.{encodes-chars}
use Rattle.std.proofs.lemmas.Iterator.{YieldsList-from_chars}
use Rattle.std.proofs.lemmas.Iterator.Consumers.{YieldsList-end}
use Rattle.wf_fn_text.specs.Pieces.{in_place}
use Rattle.wf_fn_text.proofs.ReplaceLemmas.{character-pushed, replaced-bytes}
use Rattle.wf_fn_text.proofs.pieces.replaced_byte.Goals as goal

pub loop-character-preserved : goal.loop-character-preserved
loop-character-preserved c =
    character-pushed c.args.old c.args.new.now _ _ c.loop-character.yielded c.in-Some.character c.loop-character.invariant
    c.in_ok-push_replaced.ensures

pub returns : goal.returns
returns c =
    let text = c.args.text.now in
    let end = YieldsList-end (YieldsList-from_chars text c.utf8.text cc) c.loop-character.yielded _ c.loop-character.yielded_by _ _
    c.in-None.is c.next.ensures.steps in
    c.loop-character.invariant ∙ ap (flat_map (in_place c.args.old c.args.new.now))
    (ap encode_utf8_all (sym (map-id c.loop-character.yielded) ∙ end.0) ∙ encodes-chars text c.utf8.text)
    ∙ sym (replaced-bytes c.args.old c.args.new.now text)
