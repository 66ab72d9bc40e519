use Rattle.wf_answers.specs.InputsSeen.{inputs_tree}
use Rattle.wf_reading.specs.ReadSeen.{def_tree}
use Rattle.wf_top.proofs.DrillLemmas.{starts_alone}
use Rattle.wf_top.proofs.drilling.say_drill.Goals as goal

pub measured-requires : goal.measured-requires
measured-requires g c =
    starts_alone c.args.size (def_tree c.args.checked.now.def) (inputs_tree c.args.inputs.now) c.requires.accepted c.requires.read
