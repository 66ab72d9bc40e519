use Rattle.std.proofs.Common.{sym, ap, ◌∙◌, map-id}
use Rattle.std.specs.Str.{encode_utf8_all}
use Rattle.std.proofs.lemmas.Str.{encodes-chars}
use Rattle.std.proofs.lemmas.Iterator.{YieldsList-from_chars}
use Rattle.std.proofs.lemmas.Iterator.Consumers.{YieldsList-end}
use Rattle.wf_expr.proofs.QuoteLemmas.{one_more, last_quote}
use Rattle.wf_expr.proofs.print.write_quoted.Goals as goal

pub loop-character-preserved : goal.loop-character-preserved
loop-character-preserved c = one_more _ _ _ c.loop-character.yielded c.in-Some.character c.loop-character.invariant c.in_ok-write_character.ensures

pub returns : goal.returns
returns c =
    let end = YieldsList-end (YieldsList-from_chars c.args.text.now c.utf8.text cc) c.loop-character.yielded _ c.loop-character.yielded_by _ _ c.in-None.is c.next.ensures.steps in
    last_quote _ _ _ c.loop-character.yielded c.args.text.now c.loop-character.invariant c.in_ok-push_str-2.ensures.bytes (ap encode_utf8_all (sym (map-id c.loop-character.yielded) ∙ end.0) ∙ encodes-chars c.args.text.now c.utf8.text)
