-- That what an action keeps fits: it isn't too deep and doesn't weigh too much.
use Rattle.wf_val.specs.ValueTree.{Fits}
use Rattle.wf_done.specs.Done.{DoneTree}
use Rattle.wf_done.specs.Leaf.{BegunTree, acted, calling}

pub record AreFitting (d : DoneTree) : Type 0 where
  pub inputs : Fits d.inputs
  pub outputs : Fits d.outputs

-- of what it has from its start on
abbrev pub KeepsFitting : BegunTree → Type 0
KeepsFitting (acted d) = AreFitting d
KeepsFitting (calling inputs policy) = Fits inputs
