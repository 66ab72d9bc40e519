-- What is said, as contracts see it.
use Rattle.wf_page.specs.Judged.{SaidTree, say}
use Rattle.wf_page.specs.declared.said.Said.{Said}

abbrev pub said_tree : Said → SaidTree
said_tree s = say s.status s.text.items
