-- A row that fits where a Skipped one is called for is Skipped, and a Skipped row that fits a loop says no iteration: at each action of a
-- definition.
use Rattle.std.proofs.Common.{◌≡◌, ℕ, Bool, true, List, [], ◌∷◌, ◌++◌, Option, Some, refl, sym, ap, ◌∙◌, subst}
use Rattle.std.specs.List.{AllByRecursion}
use Rattle.wf_layers.specs.Definition as layers
use Rattle.wf_layers.specs.Definition.{Branches, Graph}
use Rattle.wf_def.specs.ActionTree.{ActionTree, action, action_kind, action_number, KindTree, compose, connector, wait, response}
use Rattle.wf_def.specs.ActionTree.{terminate, select, query, join, parse_json, initialize, set_to, increment, decrement, append_array}
use Rattle.wf_def.specs.ActionTree.{append_string, scope, branch, switch, switch_else, foreach, until, ActionTrees, no_actions}
use Rattle.wf_def.specs.ActionTree.{action_then, CaseTrees, no_cases, case_then}
use Rattle.wf_def.specs.AllActions.{all_actions, cases_actions, kind_actions, numbered}
use Rattle.wf_def.specs.DefTree.{DefTree}
use Rattle.wf_def.specs.Layered.{layered, layered_cases, layered_kind}
use Rattle.wf_def.specs.declared.sort.Sort.{Sort}
use Rattle.wf_record.specs.Record.{Row}
use Rattle.wf_shaped.specs.Laws.{IsForeach, IsUntil, SkippedSaysNothing}
use Rattle.wf_shaped.specs.Says.{is_skipped}
use Rattle.wf_shaped.specs.SaysTold.{items_said, rounds_said}
use Rattle.wf_shape.specs.Law.{Idle, IdleAny, IdleIn}
use Rattle.wf_shaped.specs.Reading.{reading}
use Rattle.wf_shaped.specs.Fits.{fits_as, fits_in}
use Rattle.wf_shaped.specs.Sorts.{sort_at}

left_all : {X : Type 0} (P : X → Type 0) (xs ys : List X) → AllByRecursion P (xs ++ ys) → AllByRecursion P xs
left_all P [] ys all = tt
left_all P (x ∷ xs) ys all = (all.0, left_all P xs ys all.1)

right_all : {X : Type 0} (P : X → Type 0) (xs ys : List X) → AllByRecursion P (xs ++ ys) → AllByRecursion P ys
right_all P [] ys all = all
right_all P (x ∷ xs) ys all = right_all P xs ys all.1

module _ (d : DefTree) (says : (sort : Option Sort) (kind : KindTree) (r : Row) → SkippedSaysNothing sort kind r) where
  abbrev HasNumber : ActionTree → Type 0
  HasNumber a = numbered (action_number a) d.top ≡ Some a

  fits_is : (a : ActionTree) (skipped : Bool) (row : Row) → HasNumber a → fits_in d (action_number a) skipped row ≡ true
      → fits_as (sort_at d (action_number a)) (Some a) skipped row ≡ true
  fits_is a skipped row is fits =
      ap (λ (o : Option ActionTree). fits_as (sort_at d (action_number a)) o skipped row) (sym is) ∙ fits

  skipped_one : (a : ActionTree) (row : Row) → HasNumber a → fits_in d (action_number a) true row ≡ true → is_skipped row ≡ true
  skipped_one a row is fits = (says (sort_at d (action_number a)) (action_kind a) row).is_one (fits_is a true row is fits)

  no_items : (a : ActionTree) → IsForeach (action_kind a) → (skipped : Bool) (row : Row) → HasNumber a
      → fits_in d (action_number a) skipped row ≡ true → is_skipped row ≡ true → items_said row ≡ 0
  no_items a loop skipped row is fits none =
      (says (sort_at d (action_number a)) (action_kind a) row).no_items skipped (fits_is a skipped row is fits) none loop

  no_rounds : (a : ActionTree) → IsUntil (action_kind a) → (skipped : Bool) (row : Row) → HasNumber a
      → fits_in d (action_number a) skipped row ≡ true → is_skipped row ≡ true → rounds_said row ≡ 0
  no_rounds a loop skipped row is fits none =
      (says (sort_at d (action_number a)) (action_kind a) row).no_rounds skipped (fits_is a skipped row is fits) none loop

  mutual
    kind_idle : (a : ActionTree) (n : ℕ) (kind : KindTree) → action_number a ≡ n → action_kind a ≡ kind → HasNumber a
        → AllByRecursion HasNumber (kind_actions kind) → IdleIn (reading d) is_skipped (fits_in d) (layered_kind kind) n
    kind_idle a n (compose inputs) number of is all = tt
    kind_idle a n (connector inputs policy) number of is all = tt
    kind_idle a n (wait inputs) number of is all = tt
    kind_idle a n (response inputs) number of is all = tt
    kind_idle a n (terminate inputs) number of is all = tt
    kind_idle a n (select from item) number of is all = tt
    kind_idle a n (query from filter) number of is all = tt
    kind_idle a n (join from with') number of is all = tt
    kind_idle a n (parse_json content schema) number of is all = tt
    kind_idle a n (initialize variables) number of is all = tt
    kind_idle a n (set_to name value) number of is all = tt
    kind_idle a n (increment name value) number of is all = tt
    kind_idle a n (decrement name value) number of is all = tt
    kind_idle a n (append_array name value) number of is all = tt
    kind_idle a n (append_string name value) number of is all = tt
    kind_idle a n (scope graph) number of is all = graph_idle graph all
    kind_idle a n (branch test yes' no') number of is all = (
      graph_idle yes' (left_all HasNumber (all_actions yes') (all_actions no') all),
      (graph_idle no' (right_all HasNumber (all_actions yes') (all_actions no') all), tt),
    )
    kind_idle a n (switch on cases) number of is all =
        cases_idle cases (layers.branch layers.done layers.no_branch) all (tt, tt)
    kind_idle a n (switch_else on cases default) number of is all =
        cases_idle cases (layers.branch (layered default) layers.no_branch)
        (left_all HasNumber (cases_actions cases) (all_actions default) all)
        (graph_idle default (right_all HasNumber (cases_actions cases) (all_actions default) all), tt)
    kind_idle a n (foreach over repetitions graph) number of is all = (
      λ skipped row fits none.
          no_items a (subst IsForeach (sym of) tt) skipped row is
          (ap (λ (m : ℕ). fits_in d m skipped row) number ∙ fits) none,
      graph_idle graph all,
    )
    kind_idle a n (until test count fails graph) number of is all = (
      λ skipped row fits none.
          no_rounds a (subst IsUntil (sym of) tt) skipped row is
          (ap (λ (m : ℕ). fits_in d m skipped row) number ∙ fits) none,
      graph_idle graph all,
    )

    cases_idle : (cases : CaseTrees) (last : Branches) → AllByRecursion HasNumber (cases_actions cases)
        → IdleAny (reading d) is_skipped (fits_in d) last → IdleAny (reading d) is_skipped (fits_in d) (layered_cases cases last)
    cases_idle no_cases last all idle = idle
    cases_idle (case_then name value graph rest) last all idle = (
      graph_idle graph (left_all HasNumber (all_actions graph) (cases_actions rest) all),
      cases_idle rest last (right_all HasNumber (all_actions graph) (cases_actions rest) all) idle,
    )

    pub graph_idle : (graph : ActionTrees) → AllByRecursion HasNumber (all_actions graph)
        → Idle (reading d) is_skipped (fits_in d) (layered graph)
    graph_idle no_actions all = tt
    graph_idle (action_then (action name number pointer after kind tracked) rest) all = (
      λ row fits. skipped_one (action name number pointer after kind tracked) row all.0 fits,
      kind_idle (action name number pointer after kind tracked) number kind refl refl all.0
          (left_all HasNumber (kind_actions kind) (all_actions rest) all.1),
      graph_idle rest (right_all HasNumber (kind_actions kind) (all_actions rest) all.1),
    )
