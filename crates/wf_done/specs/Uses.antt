-- WHAT AN ACTION ASKS ITS LOOK FOR as it starts.
use Rattle.std.specs.Prelude.{ℕ, List, [], ◌∷◌, ◌++◌, Option, Some, None}
use Rattle.wf_val.specs.declared.function.Fun.{Fun}
use Rattle.wf_template.specs.DataTree.{DataTree}
use Rattle.wf_def.specs.ActionTree.{InitialTree, KindTree, compose, connector, wait, response, terminate, select, query, join, parse_json}
use Rattle.wf_def.specs.ActionTree.{initialize, set_to, increment, decrement, append_array, append_string}
use Rattle.wf_variables.specs.Uses.{Use, names, asks}
use Rattle.wf_variables.specs.EvalUses.{template_uses, tree_uses}

-- the items of a list stand above an item of the look, which isn't asked for
abbrev pub beneath : List Use → List Use
beneath [] = []
beneath (asks Fun.Item ∷ us) = beneath us
beneath (u ∷ us) = u ∷ beneath us

abbrev pub if_there : Option DataTree → List Use
if_there None = []
if_there (Some t) = tree_uses t

abbrev pub initials_uses : List InitialTree → List Use
initials_uses [] = []
initials_uses (i ∷ is) = if_there i.value ++ initials_uses is

-- a variable that is changed is asked for
abbrev pub with_variable : List ℕ → List Use → List Use
with_variable k us = us ++ names Fun.Variables k ∷ []

-- a container asks for nothing as an action that makes something: what it asks for as it opens is said elsewhere
abbrev pub kind_uses : KindTree → List Use
kind_uses (compose inputs) = tree_uses inputs
kind_uses (connector inputs policy) = tree_uses inputs
kind_uses (wait inputs) = tree_uses inputs
kind_uses (response inputs) = tree_uses inputs
kind_uses (terminate inputs) = tree_uses inputs
kind_uses (select from item) = tree_uses from ++ beneath (tree_uses item)
kind_uses (query from filter) = tree_uses from ++ beneath (template_uses filter)
kind_uses (join from with') = tree_uses from ++ tree_uses with'
kind_uses (parse_json content schema) = tree_uses content
kind_uses (initialize variables) = initials_uses variables
kind_uses (set_to name value) = with_variable name (tree_uses value)
kind_uses (increment name value) = with_variable name (if_there value)
kind_uses (decrement name value) = with_variable name (if_there value)
kind_uses (append_array name value) = with_variable name (tree_uses value)
kind_uses (append_string name value) = with_variable name (tree_uses value)
kind_uses kind = []
