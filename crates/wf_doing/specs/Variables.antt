-- What an action asks for, by its number's action.
use Rattle.std.specs.Prelude.{List, [], Option, Some, None}
use Rattle.wf_def.specs.ActionTree.{ActionTree, KindTree, action_kind, until}
use Rattle.wf_closing.specs.DoneUses.{kind_uses}
use Rattle.wf_closing.specs.EvalUses.{cond_uses, members_uses}
use Rattle.wf_closing.specs.Uses.{Use}
use Rattle.wf_closing.specs.Source.{tracked_of}
use Rattle.wf_closing.specs.OpeningUses.{opening_uses}
use Rattle.wf_template.specs.DataTree.{data_members}

abbrev pub starting_uses : Option ActionTree → List Use
starting_uses None = []
starting_uses (Some a) = kind_uses (action_kind a)

abbrev pub deciding_uses : Option ActionTree → List Use
deciding_uses None = []
deciding_uses (Some a) = opening_uses (action_kind a)

abbrev pub condition_uses : KindTree → List Use
condition_uses (until test count fails graph) = cond_uses test
condition_uses kind = []

abbrev pub testing_uses : Option ActionTree → List Use
testing_uses None = []
testing_uses (Some a) = condition_uses (action_kind a)

abbrev pub tracking_uses : Option ActionTree → List Use
tracking_uses None = []
tracking_uses (Some a) = members_uses (data_members (tracked_of a))
