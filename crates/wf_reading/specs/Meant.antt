-- Which definition a file means (Workflow Definition Language, "Workflow definition schema"). It is the definition itself, or a wrapper,
-- an object whose member `definition` it is; a wrapper may give values to parameters, and its other members say nothing.
use Rattle.std.specs.Prelude.{ℕ, List, [], map, Option, Some, None, codes}
use Rattle.sha2.specs.Sha256.{sha256}
use Rattle.wf_val.specs.ValueTree.{ValueTree, Member}
use Rattle.wf_val.specs.Get.{get, name_of}
use Rattle.wf_form.specs.Json.{json}
use Rattle.wf_form.specs.Actions.{actions_of}
use Rattle.wf_form.specs.Fault.{inner_of}
use Rattle.wf_def.specs.ActionTree.{ActionTrees, no_actions}
use Rattle.wf_def.specs.DefTree.{DefTree}
use Rattle.wf_reading.specs.Afters.{entries}
use Rattle.wf_reading.specs.Graphs.{graph_of}
use Rattle.wf_reading.specs.Numbers.{number_among}
use Rattle.wf_reading.specs.Sections.{given_in, output_of, parameter_of, trigger_of}

-- the names of all actions of a definition
abbrev pub names_of : ValueTree → List (List ℕ)
names_of t = map name_of (actions_of t)

-- the graph at the top of a definition
abbrev pub top_at : (List ℕ → ℕ) → Option ValueTree → ActionTrees
top_at number_of None = no_actions
top_at number_of (Some t) = graph_of number_of (codes "/actions") t

-- the values that a wrapper gives; a file that is the definition itself gives none
abbrev pub given_at : Option ValueTree → ValueTree → List Member
given_at None file = []
given_at (Some t) file = given_in (entries (get (codes "parameters") file)) []

-- a definition in a file; its digest is the SHA-256 (FIPS 180-4) of its compact text (RFC 8259)
abbrev pub definition_in : ValueTree → ValueTree → DefTree
definition_in file t = record {
  digest = sha256 (json t);
  parameters = map parameter_of (entries (get (codes "parameters") t));
  given = given_at (get (codes "definition") file) file;
  triggers = map trigger_of (entries (get (codes "triggers") t));
  top = top_at (number_among (names_of t)) (get (codes "actions") t);
  outputs = map output_of (entries (get (codes "outputs") t));
}

abbrev pub definition_of : ValueTree → DefTree
definition_of file = definition_in file (inner_of file)
