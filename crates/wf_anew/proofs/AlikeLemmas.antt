-- What is told at the points of a definition, what containers end with and what a record says of a run don't tell what attempts came to.
use Rattle.std.proofs.Common.{◌≡◌, ℕ, zero, suc, Bool, not, ◌&&◌, ◌||◌, List, [], ◌∷◌, ◌++◌, length, map, Option, Some, None}
use Rattle.std.proofs.Common.{option_map, inl, inr, refl, sym, ap, ◌∙◌, subst, nat_eq}
use Rattle.std.specs.Prelude.{if◌then◌else◌, flat_map, filter, filter_map}
use Rattle.std.specs.List.{find, list_any}
use Rattle.std.specs.Option.{option_and_then}
use Rattle.wf_val.specs.ValueTree.{ValueTree, null, boolean, list, trees}
use Rattle.wf_layers.specs.Address.{Address, Table, address}
use Rattle.wf_layers.proofs.Basics.{two, unless, when}
use Rattle.wf_alike.specs.Alike.{AreAlike, BothAlike, no_rows, two_rows}
use Rattle.wf_look.specs.Looked.{or_null}
use Rattle.wf_def.specs.ActionTree.{ActionTree, action_after, action_kind, action_name, action_number, KindTree, scope, branch, switch}
use Rattle.wf_def.specs.ActionTree.{switch_else, foreach, until, ActionTrees, CaseTrees, no_cases, case_then, actions_in}
use Rattle.wf_def.specs.AllActions.{all_actions, has_number, kind_actions, numbered}
use Rattle.wf_def.specs.DefTree.{DefTree}
use Rattle.wf_trigger.specs.Starts.{StartTree}
use Rattle.wf_record.specs.Record.{Row}
use Rattle.wf_record.specs.declared.status.Status.{Status}
use Rattle.wf_opening.specs.Decisions.{DecisionTree, nothing, held, chosen, each, too_many, faulty, taken}
use Rattle.wf_opening.specs.Verdicts.{VerdictTree}
use Rattle.wf_environment.specs.Environment.{Facts}
use Rattle.wf_loops.specs.Loops.{loops_of}
use Rattle.wf_turns.specs.Containers.{any_iteration_failed, any_terminated, case_status, close_branch, close_foreach, close_until, closed}
use Rattle.wf_turns.specs.Containers.{closed_as, cut_short, has_succeeded, is_failed, is_succeeded, is_terminate, iterations_value}
use Rattle.wf_turns.specs.Containers.{last_status, status_of, unless_cut}
use Rattle.wf_turns.specs.Look.{Item, told_by}
use Rattle.wf_turns.specs.Points.{Point, action_named, graph_of, sees}
use Rattle.wf_turns.specs.References.{Spots, by_name, every, first_level, latest, one, own_loop, places_in, result_at, result_by, result_in}
use Rattle.wf_turns.specs.References.{shared, spots_by, spots_in, upto, view_at, view_by, view_in, view_there}
use Rattle.wf_turns.specs.Rows.{iterations_of, turns_at, turns_said, view_of}
use Rattle.wf_turns.specs.Status.{fails, graph_status, is_named, judge, judge_found, judge_row}
use Rattle.wf_turns.specs.Variables.{given_by, indexes_from, instances_at, last_from, seen_by, variable_at, writes, written_at}
use Rattle.wf_turns.specs.Variables.{written_before}
use Rattle.wf_turns.specs.Variables.{Written}

-- a row without its attempts
abbrev pub plain : Row → Row
plain row = record row { attempts = [] }

-- ---- of one row

module _ {o p : Option Row} (alike : BothAlike plain o p) where
  pub turns_same : (a : Option ActionTree) → iterations_of a o ≡ iterations_of a p
  turns_same None = refl
  turns_same (Some a) = go alike
    where
      told : (kind : KindTree) (row : Row) → turns_said kind row ≡ turns_said kind (plain row)
      told (foreach items repetitions graph) row = refl
      told (until test count fail graph) row = refl
      told kind row = refl

      go : {q r : Option Row} → BothAlike plain q r → iterations_of (Some a) q ≡ iterations_of (Some a) r
      go no_rows = refl
      go (two_rows {p = q} {q = r} same) =
          told (action_kind a) q ∙ (ap (turns_said (action_kind a)) same ∙ sym (told (action_kind a) r))

  pub judged_same : (b c : Bool) → b ≡ c → judge_row o b ≡ judge_row p c
  judged_same b c e = go alike
    where
      go : {q r : Option Row} → BothAlike plain q r → judge_row q b ≡ judge_row r c
      go no_rows = refl
      go (two_rows same) = λ i. judge (same i).status (e i)

pub row_view_same : {o p : Option Row} (name : List ℕ) → BothAlike plain o p → option_map (view_of name) o ≡ option_map (view_of name) p
row_view_same name no_rows = refl
row_view_same name (two_rows same) = ap (λ (row : Row). Some (view_of name row)) same

pub succeeded_same : {o p : Option Row} → BothAlike plain o p → has_succeeded o ≡ has_succeeded p
succeeded_same no_rows = refl
succeeded_same (two_rows same) = ap (λ (row : Row). is_succeeded row.status) same

pub given_same : {o p : Option Row} (v : List ℕ) → BothAlike plain o p → option_and_then (given_by v) o ≡ option_and_then (given_by v) p
given_same v no_rows = refl
given_same v (two_rows same) = ap (λ (row : Row). given_by v row) same

-- ---- of two tables

-- what a point sees of them is alike, too
pub seen_alike : (p : Point) (t u : Table Row) → AreAlike plain t u → AreAlike plain (seen_by p t) (seen_by p u)
seen_alike p t u alike x = elim (two (sees p x)) [
  | inl is ↦
      subst (λ (o : Option Row). BothAlike plain o (seen_by p u x)) (sym (when (sees p x) (t x) None is))
      (subst (λ (o : Option Row). BothAlike plain (t x) o) (sym (when (sees p x) (u x) None is)) (alike x))
  | inr is ↦
      subst (λ (o : Option Row). BothAlike plain o (seen_by p u x)) (sym (unless (sees p x) (t x) None is))
      (subst (λ (o : Option Row). BothAlike plain None o) (sym (unless (sees p x) (u x) None is)) no_rows)
]

module _ (d : DefTree) (t u : Table Row) (alike : AreAlike plain t u) where
  -- ---- references

  there_same : (a : ActionTree) (at : List ℕ) → view_there a t at ≡ view_there a u at
  there_same a at = row_view_same (action_name a) (alike (address (action_number a) at))

  in_same : (a : ActionTree) (spots : Spots) → view_in a t spots ≡ view_in a u spots
  in_same a (one at) = there_same a at
  in_same a (every ats) = λ i. Some (list (trees (map (λ at. or_null (there_same a at i)) ats)))
  in_same a (latest None) = refl
  in_same a (latest (Some at)) = there_same a at

  turns_there : (l : ℕ) (at : List ℕ) → turns_at d t l at ≡ turns_at d u l at
  turns_there l at = turns_same (alike (address l at)) (numbered l d.top)

  spots_same : (s ls : List ℕ) → spots_by d s ls t ≡ spots_by d s ls u
  spots_same s [] = refl
  spots_same s (l ∷ []) = ap (spots_in (numbered l d.top) s) (turns_there l s)
  spots_same s (l ∷ m ∷ ls) = refl

  view_found : (p : Point) (found : Option ActionTree) → view_by d p t found ≡ view_by d p u found
  view_found p None = refl
  view_found p (Some a) = λ i.
      option_and_then (λ spots. in_same a spots i) (spots_same (shared p (action_number a)) (p.left (action_number a)) i)

  pub view_same : (p : Point) (k : List ℕ) → view_at d p t k ≡ view_at d p u k
  view_same p k = view_found p (action_named d k)

  inner_same : (inner : List ActionTree) (spots : Spots) → result_in t inner spots ≡ result_in u inner spots
  inner_same inner spots = λ i.
      list (trees (flat_map (λ at. map (λ a. or_null (there_same a at i)) (by_name inner)) (places_in spots)))

  result_found : (p : Point) (found : Option ActionTree) → result_by d p t found ≡ result_by d p u found
  result_found p None = refl
  result_found p (Some a) = λ i.
      option_and_then
      (λ inner. option_map (λ spots. inner_same inner spots i)
      (spots_same (shared p (action_number a)) (p.left (action_number a) ++ own_loop a) i))
      (first_level (action_kind a))

  pub result_same : (p : Point) (k : List ℕ) → result_at d p t k ≡ result_at d p u k
  result_same p k = result_found p (action_named d k)

  -- ---- instances

  indexes_same : (ls at ms js : List ℕ) → indexes_from d t ls at ms js ≡ indexes_from d u ls at ms js
  indexes_same [] at ms js = refl
  indexes_same (l ∷ ls) at (m ∷ ms) (j ∷ js) = λ i.
      if nat_eq l m
      then flat_map (λ k. indexes_same ls (at ++ k ∷ []) (if nat_eq k j then ms else []) js i) (upto (suc j))
      else flat_map (λ k. indexes_same ls (at ++ k ∷ []) [] [] i) (upto (turns_there l at i))
  indexes_same (l ∷ ls) at [] js = λ i. flat_map (λ k. indexes_same ls (at ++ k ∷ []) [] [] i) (upto (turns_there l at i))
  indexes_same (l ∷ ls) at (m ∷ ms) [] = λ i. flat_map (λ k. indexes_same ls (at ++ k ∷ []) [] [] i) (upto (turns_there l at i))

  pub written_same : (v : List ℕ) (x : Address) → written_at v t x ≡ written_at v u x
  written_same v x = ap (option_map (λ (value : ValueTree). record { at = x; value = value })) (given_same v (alike x))

  -- ---- how graphs and containers end

  fails_same : (graph : List ActionTree) (at : List ℕ) (far n : ℕ) → fails graph at t far n ≡ fails graph at u far n
  fails_same graph at zero n = refl
  fails_same graph at (suc far) n = go (find (has_number n) graph) (fails_same graph at far)
    where
      go : (found : Option ActionTree) → ((m : ℕ) → fails graph at t far m ≡ fails graph at u far m)
          → judge_found found (t (address n at)) (fails graph at t far) ≡ judge_found found (u (address n at)) (fails graph at u far)
      go None deeper = refl
      go (Some a) deeper =
          judged_same (alike (address n at)) (list_any (λ need. fails graph at t far need.number) (action_after a))
          (list_any (λ need. fails graph at u far need.number) (action_after a))
          (λ i. list_any (λ need. deeper need.number i) (action_after a))

  pub status_same : (graph : List ActionTree) (at : List ℕ) → graph_status graph at t ≡ graph_status graph at u
  status_same graph at = λ i.
      if list_any (λ a. not (is_named graph at t (action_number a)) && fails_same graph at (length graph) (action_number a) i) graph
      then Status.Failed else Status.Succeeded

  terminated_same : (as' : List ActionTree) (at : List ℕ) → any_terminated as' at t ≡ any_terminated as' at u
  terminated_same as' at = λ i.
      list_any (λ a. is_terminate (action_kind a) && succeeded_same (alike (address (action_number a) at)) i) as'

  cut_same : (kind : KindTree) (at : List ℕ) (v : ValueTree) (one' other : Status) → one' ≡ other
      → unless_cut at t kind v one' ≡ unless_cut at u kind v other
  cut_same kind at v one' other same = λ i.
      if terminated_same (kind_actions kind) at i then cut_short v else closed_as (same i) v null

  branch_same : (kind : KindTree) (at : List ℕ) (one' other : ℕ → Status) (decision : DecisionTree) → ((k : ℕ) → one' k ≡ other k)
      → close_branch at t kind one' decision ≡ close_branch at u kind other decision
  branch_same kind at one' other nothing status = cut_same kind at null Status.Succeeded Status.Succeeded refl
  branch_same kind at one' other (held b) status =
      cut_same kind at (boolean b) (one' (taken (held b))) (other (taken (held b))) (status (taken (held b)))
  branch_same kind at one' other (chosen v n) status = cut_same kind at v (one' n) (other n) (status n)
  branch_same kind at one' other (each ts) status = cut_same kind at null Status.Succeeded Status.Succeeded refl
  branch_same kind at one' other too_many status = cut_same kind at null Status.Succeeded Status.Succeeded refl
  branch_same kind at one' other (faulty f) status = refl

  cases_same : (cases : CaseTrees) (at : List ℕ) (one' other : Status) → one' ≡ other → (k : ℕ)
      → case_status at t cases k one' ≡ case_status at u cases k other
  cases_same no_cases at one' other same k = same
  cases_same (case_then name value graph rest) at one' other same zero = same
  cases_same (case_then name value graph rest) at one' other same (suc zero) = status_same (actions_in graph) at
  cases_same (case_then name value graph rest) at one' other same (suc (suc k)) = cases_same rest at one' other same (suc k)

  rounds_same : (graph : ActionTrees) (at : List ℕ) (n : ℕ) → any_iteration_failed graph at t n ≡ any_iteration_failed graph at u n
  rounds_same graph at zero = refl
  rounds_same graph at (suc n) = λ i.
      rounds_same graph at n i || is_failed (status_same (actions_in graph) (at ++ n ∷ []) i)

  foreach_same : (graph : ActionTrees) (at : List ℕ) (decision : DecisionTree)
      → close_foreach graph at t decision ≡ close_foreach graph at u decision
  foreach_same graph at nothing = refl
  foreach_same graph at (held b) = refl
  foreach_same graph at (chosen v n) = refl
  foreach_same graph at (each ts) = λ i.
      closed_as (if rounds_same graph at (length ts) i then Status.Failed else Status.Succeeded) (list (trees ts)) null
  foreach_same graph at too_many = refl
  foreach_same graph at (faulty f) = refl

  last_same : (graph : ActionTrees) (at : List ℕ) (n : ℕ) → last_status graph at t n ≡ last_status graph at u n
  last_same graph at zero = refl
  last_same graph at (suc n) = status_same (actions_in graph) (at ++ n ∷ [])

  pub closed_same : (kind : KindTree) (at : List ℕ) (decision : DecisionTree) (n : ℕ) (v : Option VerdictTree)
      → closed kind at decision n v t ≡ closed kind at decision n v u
  closed_same (scope graph) at decision n v =
      cut_same (scope graph) at null (status_of at t graph) (status_of at u graph) (status_same (actions_in graph) at)
  closed_same (branch test yes' no') at decision n v =
      branch_same (branch test yes' no') at (λ k. if nat_eq k 1 then status_of at t yes' else status_of at t no')
      (λ k. if nat_eq k 1 then status_of at u yes' else status_of at u no') decision
      (λ k i. if nat_eq k 1 then status_same (actions_in yes') at i else status_same (actions_in no') at i)
  closed_same (switch on cases) at decision n v =
      branch_same (switch on cases) at (λ k. case_status at t cases k Status.Succeeded) (λ k. case_status at u cases k Status.Succeeded)
      decision (cases_same cases at Status.Succeeded Status.Succeeded refl)
  closed_same (switch_else on cases default) at decision n v =
      branch_same (switch_else on cases default) at (λ k. case_status at t cases k (status_of at t default))
      (λ k. case_status at u cases k (status_of at u default)) decision
      (cases_same cases at (status_of at t default) (status_of at u default) (status_same (actions_in default) at))
  closed_same (foreach items repetitions graph) at decision n v = foreach_same graph at decision
  closed_same (until test count fail graph) at decision n v =
      ap (λ (s : Status). close_until fail s (iterations_value n) v) (last_same graph at n)
  closed_same kind at decision n v = refl

-- ---- what a point is told

pub instances_same : (d : DefTree) (p : Point) (t u : Table Row) → AreAlike plain t u → (x : ℕ)
    → instances_at d p t x ≡ instances_at d p u x
instances_same d p t u alike x =
    ap (map (address x)) (indexes_same d (seen_by p t) (seen_by p u) (seen_alike p t u alike) (loops_of (graph_of d) x) [] p.loops p.at)

variable_same : (d : DefTree) (p : Point) (t u : Table Row) → AreAlike plain t u → (v : List ℕ) → variable_at d p t v ≡ variable_at d p u v
variable_same d p t u alike v = ap (λ (ws : List Written). option_map (λ w. w.value) (last_from d None ws)) before
  where
    before : written_before d p t v ≡ written_before d p u v
    before = λ i.
        flat_map
        (λ a. filter_map (λ x. written_same d (seen_by p t) (seen_by p u) (seen_alike p t u alike) v x i)
        (instances_same d p t u alike (action_number a) i))
        (filter (writes v) (all_actions d.top))

pub told_alike : (d : DefTree) (s : StartTree) (f : Facts) (place : List ℕ) (p : Point) (held' : List Item) (own : Option ValueTree)
    (t u : Table Row) → AreAlike plain t u → told_by d s f place p held' own t ≡ told_by d s f place p held' own u
told_alike d s f place p held' own t u alike = λ i. record (told_by d s f place p held' own t) {
  variable = λ k. variable_same d p t u alike k i;
  view = λ k. view_same d t u alike p k i;
  result = λ k. result_same d t u alike p k i;
}
