use Rattle.wf_tap.proofs.XmlLemmas.{xml_is_text}
use Rattle.wf_tap.proofs.laws.a_text_in_xml_is_text.Goals as goal

pub returns : goal.returns
returns c = xml_is_text
