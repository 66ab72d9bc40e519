use Rattle.wf_record.proofs.PlainLemmas.{plain_stands}
use Rattle.wf_record.proofs.plain.is_plain.Goals as goal

pub returns-else-text-lt8 : goal.returns-else-text-lt8
returns-else-text-lt8 c = plain_stands c.args.text.now c.is_long_plain.result c.is_long_plain.ensures
