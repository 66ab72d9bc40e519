-- Worked values: what containers come to, by what they decided and the statuses inside them.
use Rattle.std.proofs.Common.{◌≡◌, [], ◌∷◌, refl}
use Rattle.std.specs.Prelude.{ℕ, Bool, true, false, cond, List, Option, None, Some, codes}
use Rattle.wf_val.specs.ValueTree.{boolean, null}
use Rattle.wf_val.specs.declared.fault.EvalFault.{EvalFault}
use Rattle.wf_val.specs.declared.function.Fun.{Fun}
use Rattle.wf_template.specs.CondTree.{CondTree, holds}
use Rattle.wf_template.specs.TemplateTree.{whole}
use Rattle.wf_layers.specs.Address.{Table, same_at}
use Rattle.wf_def.specs.ActionTree.{ActionTrees, KindTree, compose, terminate, scope, branch, switch, switch_else, foreach, until}
use Rattle.wf_def.specs.ActionTree.{action_trees, case_trees, CaseTrees}
use Rattle.wf_record.specs.Record.{Row}
use Rattle.wf_record.specs.declared.status.Status.{Status}
use Rattle.wf_record.specs.declared.status.Status.TheVariants.{Succeeded, Failed, Skipped, TimedOut}
use Rattle.wf_opening.specs.Decisions.{DecisionTree, nothing, held, chosen, each, faulty}
use Rattle.wf_opening.specs.Verdicts.{VerdictTree, met, astray}
use Rattle.wf_done.specs.Done as done
use Rattle.wf_meant.specs.Containers.{closed, closed_as, cut_short, failed_by, iterations_value, tested}
use Rattle.wf_meant.specs.Look.{told_at}
use Rattle.wf_meant.proofs.Terms.{act, answered, nat, num, obj, of_actions, value, values, words}
use Rattle.wf_meant_rows.proofs.StatusRows.{ended_as, statuses_at}

-- a graph of one Compose of this number, and one of a Terminate
abbrev alone_in : ℕ → ActionTrees
alone_in n = action_trees (act "A" n [] (compose (nat 1)) ∷ [])

abbrev ending_in : ℕ → ActionTrees
ending_in n = action_trees (act "T" n [] (terminate (obj [])) ∷ [])

abbrev any : CondTree
any = holds (whole (num 1))

abbrev at_opening : KindTree → DecisionTree → List Status → done.DoneTree
at_opening kind decision statuses = closed kind [] decision 0 None (statuses_at [] statuses)

-- ---- Scope

scope-fine : at_opening (scope (alone_in 0)) nothing (Succeeded ∷ []) ≡ closed_as Succeeded null null
scope-fine = refl

scope-failed : at_opening (scope (alone_in 0)) nothing (TimedOut ∷ []) ≡ closed_as Failed null null
scope-failed = refl

scope-cut : at_opening (scope (ending_in 0)) nothing (Succeeded ∷ []) ≡ cut_short null
scope-cut = refl

scope-not-cut : at_opening (scope (ending_in 0)) nothing (Failed ∷ []) ≡ closed_as Failed null null
scope-not-cut = refl

-- a Compose that Succeeded cuts nothing short, and a Terminate does from any depth, at the indexes of the Scope
scope-cut-deep : at_opening (scope (action_trees (act "S" 1 [] (scope (ending_in 0)) ∷ []))) nothing (Succeeded ∷ Failed ∷ []) ≡
    cut_short null
scope-cut-deep = refl

scope-cut-there : closed (scope (ending_in 0)) (2 ∷ []) nothing 0 None (statuses_at (2 ∷ []) (Succeeded ∷ [])) ≡ cut_short null
scope-cut-there = refl

scope-not-cut-elsewhere : closed (scope (ending_in 0)) (2 ∷ []) nothing 0 None (statuses_at [] (Succeeded ∷ [])) ≡
    closed_as Succeeded null null
scope-not-cut-elsewhere = refl

-- ---- If: only the branch that was taken has a say

abbrev either : KindTree
either = branch any (alone_in 0) (alone_in 1)

if-yes : at_opening either (held true) (Failed ∷ Skipped ∷ []) ≡ closed_as Failed (boolean true) null
if-yes = refl

if-yes-alone : at_opening either (held true) (Succeeded ∷ Failed ∷ []) ≡ closed_as Succeeded (boolean true) null
if-yes-alone = refl

if-no : at_opening either (held false) (Skipped ∷ Failed ∷ []) ≡ closed_as Failed (boolean false) null
if-no = refl

if-no-alone : at_opening either (held false) (Failed ∷ Succeeded ∷ []) ≡ closed_as Succeeded (boolean false) null
if-no-alone = refl

if-faulty : at_opening either (faulty (EvalFault.Range Fun.Div)) (Skipped ∷ Skipped ∷ []) ≡ done.faulted (EvalFault.Range Fun.Div)
if-faulty = refl

-- a Terminate in it cuts it short, and it keeps its truth value
if-cut : at_opening (branch any (alone_in 0) (ending_in 1)) (held false) (Skipped ∷ Succeeded ∷ []) ≡ cut_short (boolean false)
if-cut = refl

-- ---- Switch: its cases are counted from 1, and behind them stands the default, or nothing

abbrev two_cases : CaseTrees
two_cases = case_trees ((codes "P", (value 1, alone_in 0)) ∷ (codes "Q", (value 2, alone_in 1)) ∷ [])

abbrev without_default : KindTree
without_default = switch (whole (num 1)) two_cases

abbrev with_default : KindTree
with_default = switch_else (whole (num 1)) two_cases (alone_in 2)

switch-first : at_opening without_default (chosen (value 1) 1) (Failed ∷ Skipped ∷ []) ≡ closed_as Failed (value 1) null
switch-first = refl

switch-first-alone : at_opening without_default (chosen (value 1) 1) (Succeeded ∷ Failed ∷ []) ≡ closed_as Succeeded (value 1) null
switch-first-alone = refl

switch-second : at_opening without_default (chosen (value 2) 2) (Skipped ∷ Failed ∷ []) ≡ closed_as Failed (value 2) null
switch-second = refl

switch-second-alone : at_opening without_default (chosen (value 2) 2) (Failed ∷ Succeeded ∷ []) ≡ closed_as Succeeded (value 2) null
switch-second-alone = refl

switch-none : at_opening without_default (chosen (words "x") 3) (Failed ∷ Failed ∷ []) ≡ closed_as Succeeded (words "x") null
switch-none = refl

switch-default : at_opening with_default (chosen (words "x") 3) (Skipped ∷ Skipped ∷ Failed ∷ []) ≡ closed_as Failed (words "x") null
switch-default = refl

switch-default-alone : at_opening with_default (chosen (words "x") 3) (Failed ∷ Failed ∷ Succeeded ∷ []) ≡
    closed_as Succeeded (words "x") null
switch-default-alone = refl

switch-not-default : at_opening with_default (chosen (value 2) 2) (Skipped ∷ Succeeded ∷ Failed ∷ []) ≡ closed_as Succeeded (value 2) null
switch-not-default = refl

switch-cut : at_opening (switch_else (whole (num 1)) two_cases (ending_in 2)) (chosen (value 9) 3) (Skipped ∷ Skipped ∷ Succeeded ∷ []) ≡
    cut_short (value 9)
switch-cut = refl

switch-faulty : at_opening with_default (faulty (EvalFault.Range Fun.Div)) [] ≡ done.faulted (EvalFault.Range Fun.Div)
switch-faulty = refl

-- ---- loops: the iterations of these indexes are Failed

abbrev failed_at : List ℕ → Table Row
failed_at [] x = Some (ended_as Succeeded)
failed_at (j ∷ js) x = cond (same_at (j ∷ []) x.at) (Some (ended_as TimedOut)) (failed_at js x)

abbrev foreach_of_two : List ℕ → done.DoneTree
foreach_of_two js = closed (foreach (nat 1) 20 (alone_in 0)) [] (each (value 7 ∷ value 8 ∷ [])) 0 None (failed_at js)

foreach-fine : foreach_of_two [] ≡ closed_as Succeeded (values (value 7 ∷ value 8 ∷ [])) null
foreach-fine = refl

foreach-first : foreach_of_two (0 ∷ []) ≡ closed_as Failed (values (value 7 ∷ value 8 ∷ [])) null
foreach-first = refl

foreach-last : foreach_of_two (1 ∷ []) ≡ closed_as Failed (values (value 7 ∷ value 8 ∷ [])) null
foreach-last = refl

-- iterations that it hasn't have no say
foreach-behind : foreach_of_two (2 ∷ []) ≡ closed_as Succeeded (values (value 7 ∷ value 8 ∷ [])) null
foreach-behind = refl

-- a Terminate in it is none of it
foreach-terminate : closed (foreach (nat 1) 20 (ending_in 0)) [] (each (value 7 ∷ [])) 0 None (failed_at []) ≡
    closed_as Succeeded (values (value 7 ∷ [])) null
foreach-terminate = refl

-- an Until of two iterations
abbrev until_of_two : Bool → Option VerdictTree → List ℕ → done.DoneTree
until_of_two fails verdict js = closed (until any 5 fails (alone_in 0)) [] nothing 2 verdict (failed_at js)

until-met : until_of_two false (Some (met true)) [] ≡ closed_as Succeeded null (iterations_value 2)
until-met = refl

until-met-failed : until_of_two false (Some (met true)) (1 ∷ []) ≡ closed_as Failed null (iterations_value 2)
until-met-failed = refl

-- only its last iteration has a say
until-met-first : until_of_two false (Some (met true)) (0 ∷ []) ≡ closed_as Succeeded null (iterations_value 2)
until-met-first = refl

until-count : until_of_two false (Some (met false)) [] ≡ closed_as Succeeded null (iterations_value 2)
until-count = refl

until-count-failed : until_of_two false (Some (met false)) (1 ∷ []) ≡ closed_as Failed null (iterations_value 2)
until-count-failed = refl

-- with the option its count is a failure, and a test that is met is none
until-limit : until_of_two true (Some (met false)) [] ≡ failed_by (codes "LimitReached") (iterations_value 2)
until-limit = refl

until-limit-met : until_of_two true (Some (met true)) [] ≡ closed_as Succeeded null (iterations_value 2)
until-limit-met = refl

until-limit-met-failed : until_of_two true (Some (met true)) (1 ∷ []) ≡ closed_as Failed null (iterations_value 2)
until-limit-met-failed = refl

-- a test without a value is a fault, whatever the option and the iterations
until-astray : until_of_two true (Some (astray (EvalFault.Range Fun.Div))) (1 ∷ []) ≡
    record (done.faulted (EvalFault.Range Fun.Div)) { outputs = iterations_value 2 }
until-astray = refl

-- one that was never tested had no iteration
until-untested : closed (until any 5 true (alone_in 0)) [] nothing 0 None (failed_at (0 ∷ [])) ≡
    closed_as Succeeded null (iterations_value 0)
until-untested = refl

-- ---- only an Until has a test

tested-scope : tested (told_at (of_actions []) (answered []) (record { name = 0; at = [] }) (failed_at [])) (scope (alone_in 0)) ≡ met true
tested-scope = refl
