-- What is kept of a trigger's outputs: a split replaces their body in each run.
use Rattle.std.specs.Prelude.{Bool, codes, if◌then◌else◌}
use Rattle.wf_val.specs.Get.{without}
use Rattle.wf_val.specs.ValueTree.{ValueTree}

abbrev pub kept_outputs : Bool → ValueTree → ValueTree
kept_outputs is_split t = if is_split then without (codes "body") t else t
