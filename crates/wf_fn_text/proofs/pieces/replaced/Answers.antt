use Rattle.std.proofs.Common.{◌≡◌, arith, subst, slice_index_or}
use Rattle.std.proofs.lemmas.Result.{IfOk-weaker}
use Rattle.std.specs.Prelude.{string_bytes}
use Rattle.std.specs.Str.{IsUtf8}
use Rattle.wf_fn_text.specs.Pieces.{replaced}
use Rattle.wf_fn_text.proofs.ReplaceLemmas.{is_replaced, one-byte, alone}
use Rattle.wf_fn_text.proofs.pieces.replaced.Goals as goal

pub replaced_byte-requires : goal.replaced_byte-requires
replaced_byte-requires c =
    let bytes = c.as_bytes.result.now in
    one-byte (slice_index_or bytes 0 0) (subst IsUtf8 (alone bytes (omega (arith, c.in-len1.len_at_least)) (omega (arith, c.in-len1.len_below)))
    c.as_bytes.ensures.utf8)

pub returns : goal.returns
returns c =
    IfOk-weaker c.replace.result _ (λ s. string_bytes s ≡ replaced c.args.old.now c.args.new.now c.args.text.now)
    (λ s h. is_replaced c.args.new.now h.0 c.args.old c.args.text.now (string_bytes s) c.requires h.1) c.replace.ensures.ok
