-- The names of the files, as contracts see them.
use Rattle.std.specs.Prelude.{option_map}
use Rattle.wf_page.specs.Words.{Asked}
use Rattle.wf_page.specs.declared.words.Asked as code

abbrev pub asked_tree : code.Asked → Asked
asked_tree a = record { definition = a.definition.now; log = a.log.now; earlier = option_map (λ name. name.now) a.earlier }
