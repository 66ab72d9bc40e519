use Rattle.std.proofs.Common.{◌≡◌, flat_map, sym, subst}
use Rattle.wf_json.specs.Json.{escaped}
use Rattle.wf_record.proofs.PlainLemmas.{digits_are_plain}
use Rattle.wf_record.proofs.line.put_digest_member.Goals as goal

-- no digit is escaped
pub put_plain-requires : goal.put_plain-requires
put_plain-requires c =
    subst (λ d. flat_map escaped d ≡ d) (sym c.of.ensures) (digits_are_plain c.args.digest.now c.fits-digest)
