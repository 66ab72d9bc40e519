-- What an action does, in a word.
use Rattle.std.specs.Prelude.{ℕ, Bool, true, false, List, codes}
use Rattle.wf_def.specs.ActionTree.{KindTree, compose, connector, wait, response, terminate, select, query, join, parse_json, initialize}
use Rattle.wf_def.specs.ActionTree.{set_to, increment, decrement, append_array, append_string, scope, branch, switch, switch_else, foreach}
use Rattle.wf_def.specs.ActionTree.{until}

abbrev pub kind_word : KindTree → List ℕ
kind_word (compose inputs) = codes "Compose"
kind_word (connector inputs policy) = codes "Connector"
kind_word (wait inputs) = codes "Wait"
kind_word (response inputs) = codes "Response"
kind_word (terminate inputs) = codes "Terminate"
kind_word (select from item) = codes "Select"
kind_word (query from filter) = codes "Query"
kind_word (join from with') = codes "Join"
kind_word (parse_json content schema) = codes "ParseJson"
kind_word (initialize variables) = codes "InitializeVariable"
kind_word (set_to name value) = codes "SetVariable"
kind_word (increment name value) = codes "IncrementVariable"
kind_word (decrement name value) = codes "DecrementVariable"
kind_word (append_array name value) = codes "AppendToArrayVariable"
kind_word (append_string name value) = codes "AppendToStringVariable"
kind_word (scope graph) = codes "Scope"
kind_word (branch test yes' no') = codes "If"
kind_word (switch on cases) = codes "Switch"
kind_word (switch_else on cases default) = codes "Switch"
kind_word (foreach items repetitions graph) = codes "Foreach"
kind_word (until test count fails graph) = codes "Until"

-- whether it is a Scope, an If or a Switch, which a resubmission closes again where something inside it is redone
abbrev pub closes : KindTree → Bool
closes (scope graph) = true
closes (branch test yes' no') = true
closes (switch on cases) = true
closes (switch_else on cases default) = true
closes kind = false
