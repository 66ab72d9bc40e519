-- What a resubmission goes by, as contracts see it.
use Rattle.std.specs.Prelude.{option_copied}
use Rattle.wf_top.specs.Words.{AskedTree}
use Rattle.wf_top.specs.declared.words.Asked.{Asked}

abbrev pub asked_tree : Asked → AskedTree
asked_tree a = record {
  history = a.history.now;
  run = a.run.now;
  inputs = a.inputs.now;
  schedule = option_copied a.schedule;
  names = a.names.now;
}
