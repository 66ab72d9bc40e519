use Rattle.wf_match.proofs.AddressLemmas.{address_written}
use Rattle.wf_match.proofs.laws.addresses_are_written_as_in_messages.Goals as goal

pub returns : goal.returns
returns c = address_written
