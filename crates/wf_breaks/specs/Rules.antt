-- The rules on what a definition names (Workflow Definition Language, "Reference guide to workflow expression functions" and "Schema
-- reference guide for trigger and action types").
--
-- Each rule is a test of what is asked for at one site; but V17 is one of where an action stands, and V13, V15 and V16 are on two actions
-- (wf_varorder). A site stands at an action, or in the section `outputs`, where there is no action. What breaks a rule is told at the
-- action, the output, the trigger or the parameter (specs/Broken).
use Rattle.std.specs.Prelude.{ℕ, List, [], ◌∷◌, Bool, true, false, not, ◌&&◌, ◌||◌, nat_eq, nat_lt, Option, Some, None}
use Rattle.std.specs.Prelude.{if◌then◌else◌}
use Rattle.std.specs.List.{list_any}
use Rattle.wf_val.specs.ValueTree.{ValueTree, Member, fits}
use Rattle.wf_val.specs.Get.{value_of}
use Rattle.wf_standing.specs.ActionTree.{ActionTree}
use Rattle.wf_standing.specs.DefTree.{ParamTree}
use Rattle.wf_standing.specs.Sorts.{has_sort}
use Rattle.wf_standing.specs.Sort.{Sort}
use Rattle.wf_standing.specs.UsesTree.{UsesTree}
use Rattle.wf_standing.specs.Site.{Site}
use Rattle.wf_standing.specs.Inside.{has_item, is_in_loop, is_outside, is_tracked, loops_left}
use Rattle.wf_standing.specs.Kinds.{ends_or_responds, is_container, is_initialize, is_loop, suits}
use Rattle.wf_standing.specs.Standing.{StandingTree, kind_at, number_at}
use Rattle.wf_standing.specs.Whole.{InitialisedTree, Whole, is_again, is_seen}
use Rattle.wf_standing.specs.declared.kinds.Loop.{Loop}
use Rattle.wf_breaks.specs.declared.rule.Rule.{Rule}

-- ---- V9: each action that is named is there, and is before the one that names it

module _ (whole : Whole) where
  abbrev pub is_found_unseen : Site → Option StandingTree → Option StandingTree → Bool
  is_found_unseen site at None = true
  is_found_unseen site at (Some x) = not (is_seen whole site at x)

  abbrev pub is_unseen : Site → Option StandingTree → List ℕ → Bool
  is_unseen site at k = is_found_unseen site at (whole.named k)

  abbrev pub names_unseen : Site → Option StandingTree → UsesTree → Bool
  names_unseen site at u = list_any (is_unseen site at) u.names || list_any (is_unseen site at) u.results

  -- ---- V10: each parameter that is named is declared; its default, its allowed values and what a wrapper gives it are as they should

  abbrev pub names_undeclared : UsesTree → Bool
  names_undeclared u = list_any (λ k. not (whole.declares k)) u.parameters

-- a value that a definition writes down for a parameter is of its type, and fits
abbrev pub is_misfit : Sort → ValueTree → Bool
is_misfit sort v = not (fits v && has_sort sort v)

abbrev pub has_misfit : Sort → Option (List ValueTree) → Bool
has_misfit sort None = false
has_misfit sort (Some vs) = list_any (is_misfit sort) vs

abbrev pub is_misfit_if : Sort → Option ValueTree → Bool
is_misfit_if sort None = false
is_misfit_if sort (Some v) = is_misfit sort v

abbrev pub is_too_big_if : Option ValueTree → Bool
is_too_big_if None = false
is_too_big_if (Some v) = not (fits v)

-- what a wrapper gives only has to fit, since a run may be given another value
abbrev pub is_misdeclared : List Member → ParamTree → Bool
is_misdeclared given p = is_misfit_if p.sort p.default || (has_misfit p.sort p.allowed || is_too_big_if (value_of p.name given))

-- ---- V11: each variable that is named is initialised exactly once, at the top, and is written by actions that suit its type

abbrev pub is_nested : List ActionTree → Bool
is_nested [] = false
is_nested (c ∷ cs) = true

abbrev pub initialises_again : Option StandingTree → List InitialisedTree → Bool
initialises_again None is = false
initialises_again (Some y) is = is_initialize (kind_at y) && is_again y is

abbrev pub suits_at : Option StandingTree → Sort → Bool
suits_at None sort = true
suits_at (Some y) sort = suits (kind_at y) sort

-- A variable that is initialised so may not be read. Of one that is initialised twice only what does so again is told.
abbrev pub is_misread : List InitialisedTree → Bool
is_misread [] = true
is_misread (i ∷ []) = is_nested i.standing.round
is_misread (i ∷ j ∷ is) = false

-- and may not be written there
abbrev pub is_miswritten : Option StandingTree → List InitialisedTree → Bool
is_miswritten at [] = true
is_miswritten at (i ∷ []) = is_nested i.standing.round || not (suits_at at i.sort)
is_miswritten at (i ∷ j ∷ is) = initialises_again at (i ∷ j ∷ is)

module _ (whole : Whole) where
  abbrev pub misuses : Option StandingTree → UsesTree → Bool
  misuses at u =
      list_any (λ k. is_misread (whole.initialised k)) u.reads || list_any (λ k. is_miswritten at (whole.initialised k)) u.writes

  -- ---- V12: what initialises a variable is before every other action that reads or writes it

  abbrev pub is_early : StandingTree → InitialisedTree → Bool
  is_early y i = not (nat_eq (number_at i.standing) (number_at y)) && not (whole.before (number_at i.standing) (number_at y))

  -- an output comes after all actions
  abbrev pub is_uninitialised : Option StandingTree → List ℕ → Bool
  is_uninitialised None k = false
  is_uninitialised (Some y) k = list_any (is_early y) (whole.initialised k)

  abbrev pub comes_early : Option StandingTree → UsesTree → Bool
  comes_early at u = list_any (is_uninitialised at) u.reads || list_any (is_uninitialised at) u.writes

-- ---- V14: `items` names a Foreach round the site, `iterationIndexes` an Until, and `item` stands in a Foreach or at what a Select or a
-- Query asks of each item

abbrev pub names_outer : Site → Option StandingTree → UsesTree → Bool
names_outer site at u =
    list_any (is_outside Loop.Foreach site at) u.items
    || (list_any (is_outside Loop.Until site at) u.indexes || (u.item && not (has_item site at)))

-- ---- V17: a Terminate and a Response stand in no loop

abbrev pub ends_in_loop : StandingTree → Bool
ends_in_loop y = ends_or_responds (kind_at y) && is_in_loop y

-- ---- V18: a reference leaves at most one loop

abbrev pub leaves_two : Site → Option StandingTree → Option StandingTree → Bool
leaves_two site at None = false
leaves_two site at (Some x) = nat_lt 1 (loops_left site at x)

abbrev pub leaves_two_for : Site → Option StandingTree → Option StandingTree → Bool
leaves_two_for site at None = false
leaves_two_for site at (Some x) = nat_lt 1 (loops_left site at x) || (is_loop (kind_at x) && nat_lt 0 (loops_left site at x))

-- ---- V19: `result` names a container

abbrev pub is_no_container : Option StandingTree → Bool
is_no_container None = true
is_no_container (Some x) = not (is_container (kind_at x))

module _ (whole : Whole) where
  abbrev pub leaves_loops : Site → Option StandingTree → UsesTree → Bool
  leaves_loops site at u =
      list_any (λ k. leaves_two site at (whole.named k)) u.names || list_any (λ k. leaves_two_for site at (whole.named k)) u.results

  abbrev pub asks_leaf : UsesTree → Bool
  asks_leaf u = list_any (λ k. is_no_container (whole.named k)) u.results

-- ---- V20: tracked properties ask for no variable, word, moment or run, and they alone for the action's own row

abbrev pub is_any : List (List ℕ) → Bool
is_any [] = false
is_any (k ∷ ks) = true

abbrev pub asks_elsewhere : Site → UsesTree → Bool
asks_elsewhere site u = if is_tracked site then is_any u.reads || (u.words || (u.moment || u.run)) else u.own

-- ---- V21: a trigger names no action, variable or loop, and asks for no item, own row or word

abbrev pub asks_too_soon : UsesTree → Bool
asks_too_soon u =
    is_any u.names || (is_any u.results || (is_any u.reads || (is_any u.items || (is_any u.indexes || (u.item || (u.own || u.words))))))

-- ---- all of them

abbrev pub breaks_itself : Rule → StandingTree → Bool
breaks_itself Rule.Ends y = ends_in_loop y
breaks_itself rule y = false

module _ (whole : Whole) where
  -- at a site of an action or of the section `outputs`
  abbrev pub breaks_with : Rule → Site → Option StandingTree → UsesTree → Bool
  breaks_with Rule.References site at u = names_unseen whole site at u
  breaks_with Rule.Parameters site at u = names_undeclared whole u
  breaks_with Rule.Variables site at u = misuses whole at u
  breaks_with Rule.Initialised site at u = comes_early whole at u
  breaks_with Rule.Accesses site at u = false
  breaks_with Rule.Items site at u = names_outer site at u
  breaks_with Rule.Terminates site at u = false
  breaks_with Rule.Responses site at u = false
  breaks_with Rule.Ends site at u = false
  breaks_with Rule.LoopsLeft site at u = leaves_loops whole site at u
  breaks_with Rule.Results site at u = asks_leaf whole u
  breaks_with Rule.Tracked site at u = asks_elsewhere site u
  breaks_with Rule.Triggers site at u = false

  abbrev pub breaks_if : Rule → Site → Option StandingTree → Option UsesTree → Bool
  breaks_if rule site at None = false
  breaks_if rule site at (Some u) = breaks_with rule site at u

  abbrev pub breaks_at : Rule → Site → Option StandingTree → Bool
  breaks_at rule site at = breaks_if rule site at (whole.uses site)

  -- an action, at one of its sites or by where it stands
  abbrev pub action_breaks : Rule → StandingTree → Bool
  action_breaks rule y =
      breaks_itself rule y
      || (breaks_at rule (Site.Inputs (number_at y)) (Some y)
      || (breaks_at rule (Site.Items (number_at y)) (Some y)
      || (breaks_at rule (Site.Test (number_at y)) (Some y)
      || breaks_at rule (Site.Tracked (number_at y)) (Some y))))

  -- the output at a place
  abbrev pub output_breaks : Rule → ℕ → Bool
  output_breaks rule i = breaks_at rule (Site.Outputs i) None

  -- a trigger
  abbrev pub trigger_breaks_with : Rule → UsesTree → Bool
  trigger_breaks_with Rule.Parameters u = names_undeclared whole u
  trigger_breaks_with Rule.Triggers u = asks_too_soon u
  trigger_breaks_with rule u = false

  abbrev pub trigger_breaks_if : Rule → Option UsesTree → Bool
  trigger_breaks_if rule None = false
  trigger_breaks_if rule (Some u) = trigger_breaks_with rule u

  abbrev pub trigger_breaks : Rule → ℕ → Bool
  trigger_breaks rule i = trigger_breaks_if rule (whole.uses (Site.Trigger i))

-- a declared parameter, where a wrapper gives these values
abbrev pub parameter_breaks : List Member → Rule → ParamTree → Bool
parameter_breaks given Rule.Parameters p = is_misdeclared given p
parameter_breaks given rule p = false

-- as a definition is told of it, V9 to V21
abbrev pub rule_number : Rule → ℕ
rule_number Rule.References = 9
rule_number Rule.Parameters = 10
rule_number Rule.Variables = 11
rule_number Rule.Initialised = 12
rule_number Rule.Accesses = 13
rule_number Rule.Items = 14
rule_number Rule.Terminates = 15
rule_number Rule.Responses = 16
rule_number Rule.Ends = 17
rule_number Rule.LoopsLeft = 18
rule_number Rule.Results = 19
rule_number Rule.Tracked = 20
rule_number Rule.Triggers = 21
