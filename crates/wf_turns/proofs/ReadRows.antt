-- Worked rows. What is read off the row of a container that stands alone and empty, and what is recalled by it, at the edges.
use Rattle.std.proofs.Common.{◌≡◌, ℕ, List, [], ◌∷◌, map, refl}
use Rattle.std.specs.Prelude.{true, false, codes}
use Rattle.wf_val.specs.Arguments.{wrong_type}
use Rattle.wf_val.specs.declared.function.Fun.{Fun}
use Rattle.wf_template.specs.TemplateTree.{TemplateTree, plain, whole}
use Rattle.wf_template.specs.CondTree.{CondTree, holds}
use Rattle.wf_known_laws.specs.ActionTree.{CaseTrees, KindTree, no_actions, branch, scope, switch, switch_else, foreach, until, case_trees}
use Rattle.wf_meant.specs.Decisions.{DecisionTree, nothing, held, chosen, faulty}
use Rattle.wf_meant.specs.Resubmitted.{said}
use Rattle.wf_meant.proofs.Terms.{act, apply, many, nat, num, of, of_actions, rows_in, say, value, words}
use Rattle.wf_meant.specs.SaysTold.{items_said, rounds_said, taken_by}

-- the branch, the items and the rounds that the row of an action of this kind tells
abbrev told : KindTree → List (List ℕ)
told kind =
    map (λ r. taken_by kind r.row ∷ items_said r.row ∷ rounds_said r.row ∷ []) (rows_in (of_actions (act "A" 0 [] kind ∷ [])) [])

abbrev recalled : KindTree → List DecisionTree
recalled kind = map (λ r. said kind r.row) (rows_in (of_actions (act "A" 0 [] kind ∷ [])) [])

abbrev untold : TemplateTree
untold = whole (apply "div" (num 1 ∷ num 0 ∷ []))

abbrev one-is : ℕ → CondTree
one-is n = holds (whole (apply "equals" (num 1 ∷ num n ∷ [])))

-- ---- an If

abbrev if : CondTree → KindTree
if test = branch test no_actions no_actions

if-true : told (if (one-is 1)) ≡ (1 ∷ 0 ∷ 0 ∷ []) ∷ []
if-true = refl

if-false : told (if (one-is 2)) ≡ (2 ∷ 0 ∷ 0 ∷ []) ∷ []
if-false = refl

if-untold : told (if (holds untold)) ≡ (0 ∷ 0 ∷ 0 ∷ []) ∷ []
if-untold = refl

if-recalled : recalled (if (one-is 2)) ≡ held false ∷ []
if-recalled = refl

-- of one whose condition has no value another fault is recalled: it took no branch
if-unlike : recalled (if (holds untold)) ≡ faulty (wrong_type Fun.Condition 0) ∷ []
if-unlike = refl

-- ---- a Switch: of its cases the first is that of the text 2, and the second that of the number 2

abbrev two : CaseTrees
two = case_trees ((codes "C", (words "2", no_actions)) ∷ (codes "D", (value 2, no_actions)) ∷ [])

switch-text : told (switch (plain (codes "2")) two) ≡ (1 ∷ 0 ∷ 0 ∷ []) ∷ []
switch-text = refl

switch-number : told (switch (whole (num 2)) two) ≡ (2 ∷ 0 ∷ 0 ∷ []) ∷ []
switch-number = refl

switch-none : told (switch (whole (num 3)) two) ≡ (3 ∷ 0 ∷ 0 ∷ []) ∷ []
switch-none = refl

switch-default : told (switch_else (whole (say "x")) two no_actions) ≡ (3 ∷ 0 ∷ 0 ∷ []) ∷ []
switch-default = refl

switch-untold : told (switch untold two) ≡ (0 ∷ 0 ∷ 0 ∷ []) ∷ []
switch-untold = refl

switch-recalled : recalled (switch (whole (num 2)) two) ≡ chosen (value 2) 2 ∷ []
switch-recalled = refl

-- ---- a Scope decides nothing, and says nothing

scope-told : told (scope no_actions) ≡ (0 ∷ 0 ∷ 0 ∷ []) ∷ []
scope-told = refl

scope-recalled : recalled (scope no_actions) ≡ nothing ∷ []
scope-recalled = refl

-- ---- loops

each-two : told (foreach (many (nat 7 ∷ nat 8 ∷ [])) 20 no_actions) ≡ (0 ∷ 2 ∷ 0 ∷ []) ∷ []
each-two = refl

each-none : told (foreach (many []) 20 no_actions) ≡ (0 ∷ 0 ∷ 0 ∷ []) ∷ []
each-none = refl

each-no_list : told (foreach (of (num 1)) 20 no_actions) ≡ (0 ∷ 0 ∷ 0 ∷ []) ∷ []
each-no_list = refl

rounds-met : told (until (one-is 1) 5 false no_actions) ≡ (0 ∷ 0 ∷ 1 ∷ []) ∷ []
rounds-met = refl

rounds-count : told (until (one-is 2) 3 false no_actions) ≡ (0 ∷ 0 ∷ 3 ∷ []) ∷ []
rounds-count = refl

rounds-fail : told (until (one-is 2) 3 true no_actions) ≡ (0 ∷ 0 ∷ 3 ∷ []) ∷ []
rounds-fail = refl

rounds-untold : told (until (holds untold) 3 false no_actions) ≡ (0 ∷ 0 ∷ 1 ∷ []) ∷ []
rounds-untold = refl
