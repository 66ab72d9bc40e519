use Rattle.wf_data.proofs.SpelledLemmas.{parsed-json}
use Rattle.wf_data.proofs.laws.json_texts_are_undone.Goals as goal

pub returns : goal.returns
returns c = parsed-json c.reads_back.ensures
