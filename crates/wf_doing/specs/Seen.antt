-- What the actions of a run see, as contracts say it.
use Rattle.std.specs.Prelude.{ℕ}
use Rattle.wf_answers.specs.InputsSeen.{inputs_tree}
use Rattle.wf_def.specs.DefTree.{DefTree}
use Rattle.wf_layers.specs.Address.{Address}
use Rattle.wf_closing.specs.Told.{Told}
use Rattle.wf_closing.specs.Environment.{Environment, first_facts, fresh}
use Rattle.wf_closing.specs.ReadSeen.{def_tree}
use Rattle.wf_sight.specs.Laws.{run_of}
use Rattle.wf_sight.specs.Sight.{KnownTree, seen_at, seen_in_test}
use Rattle.wf_closing.specs.StartsSeen.{start_tree}
use Rattle.wf_doing.specs.declared.setting.Setting.{Setting}

abbrev pub definition_of : Setting → DefTree
definition_of s = def_tree s.places.now

-- of what this run does itself, whether or not it keeps rows of an older one
abbrev pub environment_of : Setting → Environment
environment_of s = fresh (start_tree s.start.now) (inputs_tree s.inputs.now)

-- by what is known as the action is asked
abbrev pub seen : Setting → Address → KnownTree → Told
seen s x known = seen_at (definition_of s) (run_of (environment_of s) (first_facts (environment_of s))) x known

abbrev pub seen_by_test : Setting → Address → ℕ → KnownTree → Told
seen_by_test s x k known = seen_in_test (definition_of s) (run_of (environment_of s) (first_facts (environment_of s))) x k known
