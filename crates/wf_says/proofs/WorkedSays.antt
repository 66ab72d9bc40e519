-- What rows of containers and of variables may say, at worked values.
use Rattle.std.proofs.Common.{◌≡◌, ℕ, pos, List, [], ◌∷◌, true, false, Some, None, refl}
use Rattle.std.specs.Prelude.{codes}
use Rattle.wf_val.specs.ValueTree.{ValueTree, null, boolean, number, text, list, object, trees, members, Member}
use Rattle.wf_template.specs.CondTree.{CondTree}
use Rattle.wf_template.specs.DataTree.{DataTree}
use Rattle.wf_template.specs.TemplateTree.{TemplateTree}
use Rattle.wf_def.specs.ActionTree.{CaseTrees, KindTree, compose, foreach, increment, initialize, no_actions, no_cases, case_then, branch, scope, set_to, switch, terminate, until}
use Rattle.wf_def.specs.declared.sort.Sort.{Sort}
use Rattle.wf_data.specs.Record.{Row}
use Rattle.wf_data.specs.Status.{Status}
use Rattle.wf_says.specs.Says.{fits_kind}
use Rattle.wf_says.specs.Told.{items_said, rounds_said, taken_by, told_rounds}

abbrev object_of : List Member → ValueTree
object_of ms = object (members ms)

abbrev n : ℕ → ValueTree
n k = number (pos k)

abbrev row : Status → ValueTree → ValueTree → Row
row status i o = record { status = status; code = []; inputs = i; outputs = o; error = null; tracked = null; attempts = [] }

abbrev ran : ValueTree → Row
ran i = row Status.Succeeded i null

abbrev went : ValueTree → Row
went o = row Status.Failed null o

abbrev rounds_of : ℕ → ValueTree
rounds_of k = object_of ((codes "iterations", n k) ∷ [])

abbrev told : List ℕ → ValueTree → ValueTree
told name v = object_of ((codes "name", text name) ∷ (codes "value", v) ∷ [])

abbrev gave : ValueTree → Row
gave body = row Status.Succeeded null (object_of ((codes "body", body) ∷ []))

abbrev cases : CaseTrees
cases = case_then (codes "a") (text (codes "x")) no_actions (case_then (codes "b") (n 2) no_actions no_cases)

module _ (test : CondTree) (on : TemplateTree) (data' : DataTree) where
  abbrev an_if : KindTree
  an_if = branch test no_actions no_actions

  abbrev a_switch : KindTree
  a_switch = switch on cases

  abbrev a_loop : KindTree
  a_loop = foreach data' 20 no_actions

  abbrev an_until : KindTree
  an_until = until test 3 false no_actions

  abbrev two : KindTree
  two = initialize (
      record { name = codes "a"; sort = Sort.Int; value = None }
      ∷ record { name = codes "b"; sort = Sort.Text; value = None }
      ∷ [])

  abbrev one : KindTree
  one = initialize (record { name = codes "a"; sort = Sort.Int; value = None } ∷ [])

  -- which branch a row says
  if-holds : taken_by an_if (ran (boolean true)) ≡ 1
  if-holds = refl

  if-fails : taken_by an_if (ran (boolean false)) ≡ 2
  if-fails = refl

  if-nothing : taken_by an_if (ran null) ≡ 0
  if-nothing = refl

  case-first : taken_by a_switch (ran (text (codes "x"))) ≡ 1
  case-first = refl

  case-second : taken_by a_switch (ran (n 2)) ≡ 2
  case-second = refl

  -- what is no case's is the default's
  case-default : taken_by a_switch (ran (text (codes "y"))) ≡ 3
  case-default = refl

  case-nothing : taken_by a_switch (ran null) ≡ 0
  case-nothing = refl

  scope-nothing : taken_by (scope no_actions) (ran (boolean true)) ≡ 0
  scope-nothing = refl

  -- and whether it may
  if-may_fail : fits_kind None an_if false (row Status.Failed null null) ≡ true
  if-may_fail = refl

  if-text : fits_kind None an_if false (ran (text (codes "true"))) ≡ false
  if-text = refl

  if-skipped_with_a_value : fits_kind None an_if true (row Status.Skipped (boolean true) null) ≡ false
  if-skipped_with_a_value = refl

  if-skipped_of_itself : fits_kind None an_if false (row Status.Skipped null null) ≡ true
  if-skipped_of_itself = refl

  switch-boolean : fits_kind None a_switch false (ran (boolean true)) ≡ false
  switch-boolean = refl

  switch-text : fits_kind None a_switch false (ran (text (codes "y"))) ≡ true
  switch-text = refl

  foreach-items : fits_kind None a_loop false (ran (list (trees (null ∷ null ∷ [])))) ≡ true
  foreach-items = refl

  foreach-skipped : fits_kind None a_loop true (row Status.Skipped (list (trees [])) null) ≡ false
  foreach-skipped = refl

  foreach-object : fits_kind None a_loop false (ran (object_of [])) ≡ false
  foreach-object = refl

  foreach-failed : fits_kind None a_loop false (row Status.Failed null null) ≡ true
  foreach-failed = refl

  until-least : fits_kind None an_until false (went (rounds_of 1)) ≡ true
  until-least = refl

  until-most : fits_kind None an_until false (went (rounds_of 3)) ≡ true
  until-most = refl

  until-above : fits_kind None an_until false (went (rounds_of 4)) ≡ false
  until-above = refl

  until-none : fits_kind None an_until false (went (rounds_of 0)) ≡ false
  until-none = refl

  until-nothing : fits_kind None an_until false (went null) ≡ false
  until-nothing = refl

  until-skipped : fits_kind None an_until true (row Status.Skipped null null) ≡ true
  until-skipped = refl

  until-skipped_with_rounds : fits_kind None an_until true (row Status.Skipped null (rounds_of 2)) ≡ false
  until-skipped_with_rounds = refl

  -- what says nothing else may be Skipped with any outputs
  until-skipped_with_a_text : fits_kind None an_until true (row Status.Skipped null (object_of ((
    codes "iterations",
    text
        (codes "x"),
  ) ∷ []))) ≡ true
  until-skipped_with_a_text = refl

  scope-anything : fits_kind None (scope no_actions) false (row Status.TimedOut (n 5) (n 5)) ≡ true
  scope-anything = refl

  leaf-anything : fits_kind None (compose data') false (row Status.Cancelled (n 5) (n 5)) ≡ true
  leaf-anything = refl

  -- one that ran doesn't stand where a Skipped one has to
  leaf-not_skipped : fits_kind None (compose data') true (ran null) ≡ false
  leaf-not_skipped = refl

  leaf-skipped_with_inputs : fits_kind None (compose data') true (row Status.Skipped (n 5) (n 5)) ≡ true
  leaf-skipped_with_inputs = refl

  -- variables
  initialize-one : fits_kind None one false (gave (told (codes "a") (n 1))) ≡ true
  initialize-one = refl

  initialize-one_in_a_list : fits_kind None one false (gave (list (trees (told (codes "a") (n 1) ∷ [])))) ≡ false
  initialize-one_in_a_list = refl

  initialize-another_type : fits_kind None one false (gave (told (codes "a") null)) ≡ false
  initialize-another_type = refl

  initialize-another_name : fits_kind None one false (gave (told (codes "A") (n 1))) ≡ false
  initialize-another_name = refl

  initialize-failed : fits_kind None one false (went null) ≡ true
  initialize-failed = refl

  initialize-two : fits_kind None two false (gave (list (trees (told (codes "a") (n 1) ∷ told (codes "b") (text []) ∷ [])))) ≡ true
  initialize-two = refl

  -- in their order, and all of them
  initialize-turned : fits_kind None two false (gave (list (trees (told (codes "b") (text []) ∷ told (codes "a") (n 1) ∷ [])))) ≡ false
  initialize-turned = refl

  initialize-one_of_two : fits_kind None two false (gave (told (codes "a") (n 1))) ≡ false
  initialize-one_of_two = refl

  initialize-first_of_two : fits_kind None two false (gave (list (trees (told (codes "a") (n 1) ∷ [])))) ≡ false
  initialize-first_of_two = refl

  initialize-further : fits_kind None two false
      (gave (list (trees (told (codes "a") (n 1) ∷ told (codes "b") (text []) ∷ told (codes "c") null ∷ [])))) ≡ false
  initialize-further = refl

  set-its_type : fits_kind (Some Sort.Text) (set_to (codes "v") data') false (gave (told (codes "v") (text []))) ≡ true
  set-its_type = refl

  set-another_type : fits_kind (Some Sort.Text) (set_to (codes "v") data') false (gave (told (codes "v") (n 1))) ≡ false
  set-another_type = refl

  set-of_no_variable : fits_kind None (set_to (codes "v") data') false (gave (told (codes "v") (n 1))) ≡ false
  set-of_no_variable = refl

  increment-number : fits_kind (Some Sort.Int) (increment (codes "v") None) false (gave (told (codes "v") (n 1))) ≡ true
  increment-number = refl

  set-further_member : fits_kind (Some Sort.Int) (set_to (codes "v") data') false
      (row Status.Succeeded null (object_of ((codes "body", told (codes "v") (n 1)) ∷ (codes "x", null) ∷ []))) ≡ false
  set-further_member = refl

  -- a Terminate that Succeeded has a run status, in whatever case
  terminate-failed : fits_kind None (terminate data') false (ran (object_of ((codes "runStatus", text (codes "failed")) ∷ []))) ≡ true
  terminate-failed = refl

  terminate-skipped : fits_kind None (terminate data') false (ran (object_of ((codes "runStatus", text (codes "Skipped")) ∷ []))) ≡ false
  terminate-skipped = refl

  terminate-none : fits_kind None (terminate data') false (ran null) ≡ false
  terminate-none = refl

  terminate-not_succeeded : fits_kind None (terminate data') false (row Status.Failed null null) ≡ true
  terminate-not_succeeded = refl

-- how many iterations a row says
items-two : items_said (ran (list (trees (null ∷ null ∷ [])))) ≡ 2
items-two = refl

items-none : items_said (ran null) ≡ 0
items-none = refl

rounds-two : rounds_said (went (rounds_of 2)) ≡ 2
rounds-two = refl

rounds-further : told_rounds (object_of ((codes "iterations", n 2) ∷ (codes "x", n 1) ∷ [])) ≡ None
rounds-further = refl

rounds-another_name : told_rounds (object_of ((codes "iteration", n 2) ∷ [])) ≡ None
rounds-another_name = refl
