-- The row of a container tells what it decided, and only what is skipped is Skipped.
use Rattle.std.proofs.Common.{◌≡◌, ℕ, zero, suc, Bool, true, false, List, length, Option, Some, None, refl, ap}
use Rattle.std.proofs.Common.{[], ◌∷◌, ◌++◌, ◌&&◌, not}
use Rattle.std.specs.Prelude.{Ok, Err, if◌then◌else◌, nat_eq}
use Rattle.std.specs.List.{list_any}
use Rattle.wf_val.specs.Arguments.{Answer}
use Rattle.wf_val.specs.ValueTree.{ValueTree, null, boolean, number, text, list, object}
use Rattle.wf_layers.specs.Definition as layers
use Rattle.wf_layers.specs.Address.{Table}
use Rattle.wf_known_laws.specs.ActionTree.{KindTree, compose, connector, wait, response, terminate}
use Rattle.wf_known_laws.specs.ActionTree.{select, query, join, parse_json, initialize}
use Rattle.wf_known_laws.specs.ActionTree.{set_to, increment, decrement, append_array, append_string, scope}
use Rattle.wf_known_laws.specs.ActionTree.{branch, switch, switch_else, foreach}
use Rattle.wf_known_laws.specs.ActionTree.{action_number, until, ActionTrees, CaseTrees, no_cases, case_then, actions_in}
use Rattle.wf_known_laws.specs.AllActions.{kind_actions}
use Rattle.wf_record.specs.Record.{Row}
use Rattle.wf_record.specs.declared.status.Status.{Status}
use Rattle.wf_meant.specs.Decisions.{DecisionTree, nothing, held, chosen, each, too_many, faulty, chosen_as, held_as, taken}
use Rattle.wf_meant.specs.Decisions.{branch_from}
use Rattle.wf_meant.specs.Verdicts.{VerdictTree, met, astray}
use Rattle.wf_meant.specs.Statuses.{status_tree}
use Rattle.wf_meant.specs.Containers.{any_iteration_failed, any_terminated, case_status, close_branch, close_foreach, close_until, closed}
use Rattle.wf_meant.specs.Containers.{closed_as, cut_short, iterations_value, last_status, status_of, unless_cut}
use Rattle.wf_meant.specs.Status as judging
use Rattle.wf_meant.specs.Status.{is_named}

-- ---- only what is skipped is Skipped

abbrev pub Ran : Status → Type 0
Ran s = s ≡ Status.Skipped → ⊥

pub ran_tree : (s : Status) → Ran s → status_tree s ≡ layers.Skipped → ⊥
ran_tree Status.Succeeded ran is = absurd (cc)
ran_tree Status.Failed ran is = absurd (cc)
ran_tree Status.Skipped ran is = ran refl
ran_tree Status.TimedOut ran is = absurd (cc)
ran_tree Status.Cancelled ran is = absurd (cc)

failed_or : (b : Bool) → Ran (if b then Status.Failed else Status.Succeeded)
failed_or true is = absurd (cc)
failed_or false is = absurd (cc)

cut_or : (b : Bool) (s : Status) (i : ValueTree) → Ran s → Ran (if b then cut_short i else closed_as s i null).status
cut_or true s i ran is = absurd (cc)
cut_or false s i ran is = ran is

module _ (at : List ℕ) (known : Table Row) where
  ran_status : (graph : ActionTrees) → Ran (status_of at known graph)
  ran_status graph = failed_or (list_any (λ a. not (is_named (actions_in graph) at known (action_number a))
      && judging.fails (actions_in graph) at known (length (actions_in graph)) (action_number a)) (actions_in graph))

  ran_case : (cases : CaseTrees) (k : ℕ) (behind : Status) → Ran behind → Ran (case_status at known cases k behind)
  ran_case no_cases k behind ran = ran
  ran_case (case_then name value graph rest) zero behind ran = ran
  ran_case (case_then name value graph rest) (suc zero) behind ran = ran_status graph
  ran_case (case_then name value graph rest) (suc (suc k)) behind ran = ran_case rest (suc k) behind ran

  ran_unless : (kind : KindTree) (i : ValueTree) (s : Status) → Ran s → Ran (unless_cut at known kind i s).status
  ran_unless kind i s ran = cut_or (any_terminated (kind_actions kind) at known) s i ran

  ran_branch : (kind : KindTree) (status : ℕ → Status) (decision : DecisionTree) → ((k : ℕ) → Ran (status k))
      → Ran (close_branch at known kind status decision).status
  ran_branch kind status (held b) ran = ran_unless kind (boolean b) (status (taken (held b))) (ran (taken (held b)))
  ran_branch kind status (chosen v n) ran = ran_unless kind v (status n) (ran n)
  ran_branch kind status (faulty f) ran = λ is. absurd (cc)
  ran_branch kind status nothing ran = ran_unless kind null Status.Succeeded (λ is. absurd (cc))
  ran_branch kind status (each ts) ran = ran_unless kind null Status.Succeeded (λ is. absurd (cc))
  ran_branch kind status too_many ran = ran_unless kind null Status.Succeeded (λ is. absurd (cc))

  ran_if : (yes' no' : ActionTrees) (b : Bool) → Ran (if b then status_of at known yes' else status_of at known no')
  ran_if yes' no' true = ran_status yes'
  ran_if yes' no' false = ran_status no'

ran_foreach : (graph : ActionTrees) (at : List ℕ) (known : Table Row) (decision : DecisionTree)
    → Ran (close_foreach graph at known decision).status
ran_foreach graph at known (each ts) = failed_or (any_iteration_failed graph at known (length ts))
ran_foreach graph at known too_many = λ is. absurd (cc)
ran_foreach graph at known (faulty f) = λ is. absurd (cc)
ran_foreach graph at known nothing = λ is. absurd (cc)
ran_foreach graph at known (held b) = λ is. absurd (cc)
ran_foreach graph at known (chosen v n) = λ is. absurd (cc)

ran_last : (graph : ActionTrees) (at : List ℕ) (known : Table Row) (n : ℕ) → Ran (last_status graph at known n)
ran_last graph at known zero = λ is. absurd (cc)
ran_last graph at known (suc n) = ran_status (at ++ n ∷ []) known graph

ran_until : (fails : Bool) (s : Status) (o : ValueTree) (v : Option VerdictTree) → Ran s → Ran (close_until fails s o v).status
ran_until fails s o (Some (met true)) ran = ran
ran_until false s o (Some (met false)) ran = ran
ran_until true s o (Some (met false)) ran = λ is. absurd (cc)
ran_until fails s o (Some (astray f)) ran = λ is. absurd (cc)
ran_until fails s o None ran = ran

pub ran_closed : (kind : KindTree) (at : List ℕ) (decision : DecisionTree) (n : ℕ) (v : Option VerdictTree) (known : Table Row)
    → Ran (closed kind at decision n v known).status
ran_closed (compose inputs) at decision n v known = λ is. absurd (cc)
ran_closed (connector inputs policy) at decision n v known = λ is. absurd (cc)
ran_closed (wait inputs) at decision n v known = λ is. absurd (cc)
ran_closed (response inputs) at decision n v known = λ is. absurd (cc)
ran_closed (terminate inputs) at decision n v known = λ is. absurd (cc)
ran_closed (select from item) at decision n v known = λ is. absurd (cc)
ran_closed (query from filter) at decision n v known = λ is. absurd (cc)
ran_closed (join from with') at decision n v known = λ is. absurd (cc)
ran_closed (parse_json content schema) at decision n v known = λ is. absurd (cc)
ran_closed (initialize variables) at decision n v known = λ is. absurd (cc)
ran_closed (set_to name value) at decision n v known = λ is. absurd (cc)
ran_closed (increment name value) at decision n v known = λ is. absurd (cc)
ran_closed (decrement name value) at decision n v known = λ is. absurd (cc)
ran_closed (append_array name value) at decision n v known = λ is. absurd (cc)
ran_closed (append_string name value) at decision n v known = λ is. absurd (cc)
ran_closed (scope graph) at decision n v known =
    ran_unless at known (scope graph) null (status_of at known graph) (ran_status at known graph)
ran_closed (branch test yes' no') at decision n v known =
    ran_branch at known (branch test yes' no') (λ k. if nat_eq k 1 then status_of at known yes' else status_of at known no') decision
    (λ k. ran_if at known yes' no' (nat_eq k 1))
ran_closed (switch on cases) at decision n v known =
    ran_branch at known (switch on cases) (λ k. case_status at known cases k Status.Succeeded) decision
    (λ k. ran_case at known cases k Status.Succeeded (λ is. absurd (cc)))
ran_closed (switch_else on cases default) at decision n v known =
    ran_branch at known (switch_else on cases default) (λ k. case_status at known cases k (status_of at known default)) decision
    (λ k. ran_case at known cases k (status_of at known default) (ran_status at known default))
ran_closed (foreach items repetitions graph) at decision n v known = ran_foreach graph at known decision
ran_closed (until test count fails graph) at decision n v known =
    ran_until fails (last_status graph at known n) (iterations_value n) v (ran_last graph at known n)

-- ---- what it decided

cut_inputs : (b : Bool) (s : Status) (i : ValueTree) → (if b then cut_short i else closed_as s i null).inputs ≡ i
cut_inputs true s i = refl
cut_inputs false s i = refl

module _ (kind : KindTree) (at : List ℕ) (known : Table Row) (status : ℕ → Status) where
  kept : (i : ValueTree) (s : Status) → (unless_cut at known kind i s).inputs ≡ i
  kept i s = cut_inputs (any_terminated (kind_actions kind) at known) s i

  pub held_back : (o : Answer) → taken (held_as (Ok (close_branch at known kind status (held_as o)).inputs)) ≡ taken (held_as o)
  held_back (Ok (boolean b)) = ap (λ (i : ValueTree). taken (held_as (Ok i))) (kept (boolean b) (status (taken (held b))))
  held_back (Ok null) = refl
  held_back (Ok (number n)) = refl
  held_back (Ok (text s)) = refl
  held_back (Ok (list ts)) = refl
  held_back (Ok (object ms)) = refl
  held_back (Err f) = refl

  pub chosen_back : (cases : CaseTrees) (o : Answer)
      → taken (chosen_as cases (Ok (close_branch at known kind status (chosen_as cases o)).inputs)) ≡ taken (chosen_as cases o)
  chosen_back cases (Ok (text s)) =
      ap (λ (i : ValueTree). taken (chosen_as cases (Ok i))) (kept (text s) (status (branch_from 1 cases (text s))))
  chosen_back cases (Ok (number n)) =
      ap (λ (i : ValueTree). taken (chosen_as cases (Ok i))) (kept (number n) (status (branch_from 1 cases (number n))))
  chosen_back cases (Ok null) = refl
  chosen_back cases (Ok (boolean b)) = refl
  chosen_back cases (Ok (list ts)) = refl
  chosen_back cases (Ok (object ms)) = refl
  chosen_back cases (Err f) = refl

  -- and it is recalled where a branch was taken
  pub held_again : (o : Answer) → (taken (held_as o) ≡ 0 → ⊥)
      → held_as (Ok (close_branch at known kind status (held_as o)).inputs) ≡ held_as o
  held_again (Ok (boolean b)) some = ap (λ (i : ValueTree). held_as (Ok i)) (kept (boolean b) (status (taken (held b))))
  held_again (Ok null) some = absurd (some refl)
  held_again (Ok (number n)) some = absurd (some refl)
  held_again (Ok (text s)) some = absurd (some refl)
  held_again (Ok (list ts)) some = absurd (some refl)
  held_again (Ok (object ms)) some = absurd (some refl)
  held_again (Err f) some = absurd (some refl)

  pub chosen_again : (cases : CaseTrees) (o : Answer) → (taken (chosen_as cases o) ≡ 0 → ⊥)
      → chosen_as cases (Ok (close_branch at known kind status (chosen_as cases o)).inputs) ≡ chosen_as cases o
  chosen_again cases (Ok (text s)) some =
      ap (λ (i : ValueTree). chosen_as cases (Ok i)) (kept (text s) (status (branch_from 1 cases (text s))))
  chosen_again cases (Ok (number n)) some =
      ap (λ (i : ValueTree). chosen_as cases (Ok i)) (kept (number n) (status (branch_from 1 cases (number n))))
  chosen_again cases (Ok null) some = absurd (some refl)
  chosen_again cases (Ok (boolean b)) some = absurd (some refl)
  chosen_again cases (Ok (list ts)) some = absurd (some refl)
  chosen_again cases (Ok (object ms)) some = absurd (some refl)
  chosen_again cases (Err f) some = absurd (some refl)
