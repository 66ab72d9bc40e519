-- Each row that the source of a definition gives is one that a record of the form may have.
use Rattle.std.proofs.Common.{◌≡◌, ℕ, zero, suc, pos, ◌≤◌, ◌^◌, Bool, true, false, List, [], ◌∷◌, length, Option, Some}
use Rattle.std.proofs.Common.{None, Result, Ok, Err, refl, arith, nat_eq}
use Rattle.std.specs.Prelude.{if◌then◌else◌}
use Rattle.std.specs.List.{AllByRecursion}
use Rattle.std.specs.Ordering.{is_eq}
use Rattle.wf_val.specs.Arguments.{Answer, wrong_type}
use Rattle.wf_val.specs.ValueTree.{ValueTree, null, boolean, number, text, list, object, no_members, trees, Fits, fits}
use Rattle.wf_val.specs.ValueTree.{weight, trees_weight}
use Rattle.wf_val.specs.declared.address.Address as named
use Rattle.wf_val.specs.declared.fault.EvalFault.{EvalFault}
use Rattle.wf_val.specs.declared.function.Fun.{Fun}
use Rattle.wf_layers.specs.Address.{Address, Table}
use Rattle.wf_retry.specs.Again.{again}
use Rattle.wf_retry.specs.declared.policy.Outcome.{Outcome}
use Rattle.wf_retry.specs.declared.policy.Policy.{Policy}
use Rattle.wf_schema.specs.Reading.{SchemaTree}
use Rattle.wf_def.specs.ActionTree.{ActionTree, action_kind, action_name, ActionTrees, KindTree, connector}
use Rattle.wf_def.specs.ActionTree.{parse_json}
use Rattle.wf_def.specs.ActionTree.{scope, branch, switch, switch_else, foreach, until}
use Rattle.wf_def.specs.AllActions.{kind_actions}
use Rattle.wf_def.specs.DefTree.{DefTree}
use Rattle.wf_look.specs.Told.{Told}
use Rattle.wf_answers.specs.AnswerTree.{AnswerTree, find_answer, key_cmp, key_of}
use Rattle.wf_record.specs.Record.{Row}
use Rattle.wf_record.specs.declared.attempt.Try.{Try}
use Rattle.wf_record.specs.declared.status.Status.{Status}
use Rattle.wf_record_form.specs.Fitting.{IsMeasured, IsTextOrNull, IsTracked, IsTry}
use Rattle.wf_data.specs.Made.{MadeTree}
use Rattle.wf_connect.specs.Attempts.{TriedTree, repeated, final, ends, outputs_by, tried, try_by, try_of}
use Rattle.wf_connect.specs.Last.{answered_at, ending, last_attempt, tries_from}
use Rattle.wf_opening.specs.Decisions.{DecisionTree, nothing, held, chosen, each, too_many, faulty, decided}
use Rattle.wf_opening.specs.Decisions.{items_of, taken}
use Rattle.wf_opening.specs.Verdicts.{VerdictTree, met, astray}
use Rattle.wf_done.specs.Done as done
use Rattle.wf_done.specs.Done.{DoneTree, faulted, succeeded}
use Rattle.wf_done.specs.Kept.{KeepsFitting}
use Rattle.wf_done.specs.Leaf as leaf
use Rattle.wf_done.specs.Leaf.{BegunTree, acted, begun_from, called_with, calling, done_by, done_of, ended, judged, made_by, tries_in}
use Rattle.wf_done.specs.Leaf.{unless_at}
use Rattle.wf_done.specs.Tracked.{tracked_value}
use Rattle.wf_eval.specs.TreeValue.{tree_value}
use Rattle.wf_environment.specs.Environment.{Environment, facts_of}
use Rattle.wf_pinned.specs.Containers.{any_terminated, case_status, close_branch, close_foreach, close_until, closed}
use Rattle.wf_pinned.specs.Containers.{closed_as, cut_short, failed_by, iterations_value, last_status, status_of, unless_cut}
use Rattle.wf_pinned.specs.Look.{decided_by, instance, told_at, told_ending}
use Rattle.wf_pinned.specs.Rows.{row_of, skipped, view_of}
use Rattle.wf_pinned.specs.Source as meant
use Rattle.wf_pinned.specs.Source.{begun, close_of, finished, source, tries_of, unknown, with_tracked}
use Rattle.wf_formed.specs.Formed.{IsFormedRow}
use Rattle.wf_formed.specs.Known.{Promised}
use Rattle.wf_formed.proofs.AnswerLemmas.{AreFormedAnswers, IsFormedAnswer, IsOutcome}
use Rattle.wf_formed.proofs.FitLemmas.{measured, null_fits, passes, tested}
use Rattle.wf_formed.proofs.SectionLemmas.{tracked_formed}

-- ---- of what an action has come to

pub record IsFormedDone (d : DoneTree) : Type 0 where
  pub inputs : fits d.inputs ≡ true
  pub outputs : IsMeasured d.outputs
  pub error : IsTextOrNull d.error

faulted_formed : (f : EvalFault) → IsFormedDone (faulted f)
faulted_formed f = record { inputs = null_fits; outputs = null_fits; error = tt }

skipped_formed : IsFormedDone done.skipped
skipped_formed = record { inputs = null_fits; outputs = null_fits; error = tt }

row_formed : (d : DoneTree) (tracked : ValueTree) (attempts : List Try) → IsFormedDone d → IsTracked tracked → length attempts ≤ 91
    → AllByRecursion IsTry attempts → IsFormedRow (row_of d tracked attempts)
row_formed d tracked attempts formed fine few all = record {
  inputs = formed.inputs;
  outputs = formed.outputs;
  error = formed.error;
  tracked = fine;
  few = few;
  attempts = all;
}

plain_row : (d : DoneTree) → IsFormedDone d → IsFormedRow (row_of d (object no_members) [])
plain_row d formed = row_formed d (object no_members) [] formed tt (omega arith) tt

pub skipped_row : IsFormedRow skipped
skipped_row = plain_row done.skipped skipped_formed

-- ---- answers

abbrev IsFormedIf : Option AnswerTree → Type 0
IsFormedIf None = Unit {0}
IsFormedIf (Some a) = IsFormedAnswer a

answer_formed : (x : named.Address) (k : ℕ) (answers : List AnswerTree) → AreFormedAnswers answers → IsFormedIf (answered_at answers x k)
answer_formed x k [] all = tt
answer_formed x k (a ∷ rest) all = by (is_eq (key_cmp (x, k) (key_of a))) (answer_formed x k rest all.1)
  where
    by : (b : Bool) → IsFormedIf (find_answer (x, k) rest) → IsFormedIf (if b then Some a else find_answer (x, k) rest)
    by true later = all.0
    by false later = later

outcome_try : (o : Outcome) → IsOutcome o → IsTry (try_by o)
outcome_try (Outcome.Code n) is = is
outcome_try Outcome.NoConnection is = tt
outcome_try Outcome.TimedOut is = tt

try_formed : (o : Option AnswerTree) → IsFormedIf o → IsTry (try_of o)
try_formed None formed = tt
try_formed (Some a) formed = outcome_try a.outcome formed.outcome

tries_formed : (x : named.Address) (answers : List AnswerTree) → AreFormedAnswers answers → (n k : ℕ)
    → AllByRecursion IsTry (tries_from (answered_at answers x) n k)
tries_formed x answers all zero k = tt
tries_formed x answers all (suc n) k =
    (try_formed (answered_at answers x k) (answer_formed x k answers all), tries_formed x answers all n (suc k))

small_number : (n : ℕ) → fits (number (pos n)) ≡ true
small_number n = passes (number (pos n)) (omega arith, omega arith)

outputs_formed : (o : Outcome) (headers body : ValueTree) → fits headers ≡ true → fits body ≡ true → IsMeasured (outputs_by o headers body)
outputs_formed (Outcome.Code n) headers body one other = (other, (one, (small_number n, tt)))
outputs_formed Outcome.NoConnection headers body one other = null_fits
outputs_formed Outcome.TimedOut headers body one other = null_fits

abbrev IsFormedTried : TriedTree → Type 0
IsFormedTried repeated = Unit {0}
IsFormedTried (final status code outputs) = IsMeasured outputs

tried_formed : (policy : Policy) (k : ℕ) (o : Option AnswerTree) → IsFormedIf o → IsFormedTried (tried policy k o)
tried_formed policy k None formed = null_fits
tried_formed policy k (Some a) formed = by (again policy k a.outcome)
  where
    by : (b : Bool) → IsFormedTried (if b then repeated else ends a)
    by true = tt
    by false = outputs_formed a.outcome a.headers a.body formed.headers formed.body

done_by_formed : (inputs : ValueTree) (t : TriedTree) → fits inputs ≡ true → IsFormedTried t → IsFormedDone (done_by inputs t)
done_by_formed inputs (final status code outputs) fit formed = record { inputs = fit; outputs = formed; error = tt }
done_by_formed inputs repeated fit formed = skipped_formed

-- ---- actions that hold no others

unless_told : (m : MadeTree) (o : Option (List ℕ)) → IsTextOrNull (unless_at m o).error
unless_told m None = tt
unless_told m (Some pointer) = tt

judged_told : (schema : Option SchemaTree) (m : MadeTree) → IsTextOrNull (judged schema m).error
judged_told None m = tt
judged_told (Some schema) m = unless_told m _

done_told : (kind : KindTree) (r : Result MadeTree EvalFault) → IsTextOrNull (done_of kind r).error
done_told kind (Err f) = tt
done_told (parse_json content schema) (Ok m) = judged_told schema m
done_told kind (Ok m) = tt

abbrev IsTold : BegunTree → Type 0
IsTold (acted d) = IsTextOrNull d.error
IsTold (calling inputs policy) = Unit {0}

called_told : (policy : Policy) (a : Answer) → IsTold (called_with policy a)
called_told policy (Ok v) = tt
called_told policy (Err f) = tt

begun_told : (l : Told) (kind : KindTree) (n : ℕ) → IsTold (begun_from l kind n)
begun_told l (connector inputs policy) n = called_told policy (tree_value l inputs n).0
begun_told l kind n = done_told kind (made_by l kind n).0

ended_formed : (answers : List AnswerTree) (x : named.Address) (b : BegunTree) → AreFormedAnswers answers → KeepsFitting b → IsTold b
    → IsFormedDone (ended answers x b)
ended_formed answers x (acted d) all keeps told =
    record { inputs = passes d.inputs keeps.inputs; outputs = measured d.outputs (passes d.outputs keeps.outputs); error = told }
ended_formed answers x (calling inputs policy) all keeps told =
    let k = last_attempt policy (answered_at answers x) in
    done_by_formed inputs (ending policy (answered_at answers x)) (passes inputs keeps)
    (tried_formed policy k (answered_at answers x k) (answer_formed x k answers all))

begun_tries : (answers : List AnswerTree) (x : named.Address) (b : BegunTree) → AreFormedAnswers answers
    → AllByRecursion IsTry (tries_in answers x b)
begun_tries answers x (acted d) all = tt
begun_tries answers x (calling inputs policy) all =
    tries_formed x answers all (last_attempt policy (answered_at answers x)) 1

-- ---- containers

-- what a container has decided fits
abbrev pub KeepsFit : DecisionTree → Type 0
KeepsFit nothing = Unit {0}
KeepsFit (held b) = Unit {0}
KeepsFit (chosen v n) = fits v ≡ true
KeepsFit (each ts) = fits (list (trees ts)) ≡ true
KeepsFit too_many = Unit {0}
KeepsFit (faulty f) = Unit {0}

pub decision_fits : (p : DecisionTree) → ((v : ValueTree) (n : ℕ) → p ≡ chosen v n → Fits v)
    → ((ts : List ValueTree) → p ≡ each ts → Fits (list (trees ts))) → KeepsFit p
decision_fits nothing one other = tt
decision_fits (held b) one other = tt
decision_fits (chosen v n) one other = passes v (one v n refl)
decision_fits (each ts) one other = passes (list (trees ts)) (other ts refl)
decision_fits too_many one other = tt
decision_fits (faulty f) one other = tt

some_weight : (t : ValueTree) → 1 ≤ weight t
some_weight null = omega arith
some_weight (boolean b) = omega arith
some_weight (number n) = omega arith
some_weight (text s) = omega arith
some_weight (list ts) = omega arith
some_weight (object ms) = omega arith

few_items : (ts : List ValueTree) → length ts ≤ trees_weight (trees ts)
few_items [] = omega arith
few_items (t ∷ ts) = omega (arith, some_weight t, few_items ts)

closed_formed_as : (s : Status) (i o : ValueTree) → fits i ≡ true → IsMeasured o → IsFormedDone (closed_as s i o)
closed_formed_as s i o one other = record { inputs = one; outputs = other; error = tt }

failed_formed : (code : List ℕ) (o : ValueTree) → IsMeasured o → IsFormedDone (failed_by code o)
failed_formed code o other = record { inputs = null_fits; outputs = other; error = tt }

cut_formed : (b : Bool) (s : Status) (i : ValueTree) → fits i ≡ true → IsFormedDone (if b then cut_short i else closed_as s i null)
cut_formed true s i fit = record { inputs = fit; outputs = null_fits; error = tt }
cut_formed false s i fit = closed_formed_as s i null fit null_fits

truth_fits : (b : Bool) → fits (boolean b) ≡ true
truth_fits b = passes (boolean b) (omega arith, omega arith)

module _ (at : List ℕ) (known : Table Row) where
  unless_formed : (kind : KindTree) (i : ValueTree) (s : Status) → fits i ≡ true → IsFormedDone (unless_cut at known kind i s)
  unless_formed kind i s fit = cut_formed (any_terminated (kind_actions kind) at known) s i fit

  branch_formed : (kind : KindTree) (status : ℕ → Status) (p : DecisionTree) → KeepsFit p
      → IsFormedDone (close_branch at known kind status p)
  branch_formed kind status (held b) keeps = unless_formed kind (boolean b) (status (taken (held b))) (truth_fits b)
  branch_formed kind status (chosen v n) keeps = unless_formed kind v (status n) keeps
  branch_formed kind status (faulty f) keeps = faulted_formed f
  branch_formed kind status nothing keeps = unless_formed kind null Status.Succeeded null_fits
  branch_formed kind status (each ts) keeps = unless_formed kind null Status.Succeeded null_fits
  branch_formed kind status too_many keeps = unless_formed kind null Status.Succeeded null_fits

foreach_formed : (graph : ActionTrees) (at : List ℕ) (known : Table Row) (p : DecisionTree) → KeepsFit p
    → IsFormedDone (close_foreach graph at known p)
foreach_formed graph at known (each ts) keeps = closed_formed_as _ (list (trees ts)) null keeps null_fits
foreach_formed graph at known too_many keeps = failed_formed _ null null_fits
foreach_formed graph at known (faulty f) keeps = faulted_formed f
foreach_formed graph at known nothing keeps = faulted_formed (wrong_type Fun.Foreach 0)
foreach_formed graph at known (held b) keeps = faulted_formed (wrong_type Fun.Foreach 0)
foreach_formed graph at known (chosen v n) keeps = faulted_formed (wrong_type Fun.Foreach 0)

until_formed : (fails : Bool) (s : Status) (o : ValueTree) (v : Option VerdictTree) → IsMeasured o → IsFormedDone (close_until fails s o v)
until_formed fails s o (Some (met true)) fine = closed_formed_as s null o null_fits fine
until_formed false s o (Some (met false)) fine = closed_formed_as s null o null_fits fine
until_formed true s o (Some (met false)) fine = failed_formed _ o fine
until_formed fails s o (Some (astray f)) fine = record { inputs = null_fits; outputs = fine; error = tt }
until_formed fails s o None fine = closed_formed_as s null o null_fits fine

rounds_formed : (n : ℕ) → IsMeasured (iterations_value n)
rounds_formed n = (small_number n, tt)

closed_formed : (kind : KindTree) (at : List ℕ) (p : DecisionTree) → KeepsFit p → (n : ℕ) (v : Option VerdictTree) (known : Table Row)
    → IsFormedDone (closed kind at p n v known)
closed_formed (scope graph) at p keeps n v known =
    unless_formed at known (scope graph) null (status_of at known graph) null_fits
closed_formed (branch test yes' no') at p keeps n v known =
    branch_formed at known (branch test yes' no') (λ k. if nat_eq k 1 then status_of at known yes' else status_of at known no') p keeps
closed_formed (switch on cases) at p keeps n v known =
    branch_formed at known (switch on cases) (λ k. case_status at known cases k Status.Succeeded) p keeps
closed_formed (switch_else on cases default) at p keeps n v known =
    branch_formed at known (switch_else on cases default) (λ k. case_status at known cases k (status_of at known default)) p keeps
closed_formed (foreach items repetitions graph) at p keeps n v known = foreach_formed graph at known p keeps
closed_formed (until test count fails graph) at p keeps n v known =
    until_formed fails (last_status graph at known n) (iterations_value n) v (rounds_formed n)
closed_formed kind at p keeps n v known = closed_formed_as Status.Succeeded null null null_fits null_fits

-- ---- of a definition

module _ (promised : Promised) (d : DefTree) (e : Environment)
    (answers : (name : List ℕ) → AreFormedAnswers (facts_of e name).answers) where
  tracked_row : (a : ActionTree) (x : Address) (result : DoneTree) (attempts : List Try) (known : Table Row) → IsFormedDone result
      → length attempts ≤ 91 → AllByRecursion IsTry attempts → IsFormedRow (with_tracked d e a x result attempts known)
  tracked_row a x result attempts known formed few all =
      let view = view_of (action_name a) (row_of result (object no_members) attempts) in
      row_formed result (tracked_value (told_ending d e x view known) (meant.tracked_of a)) attempts formed
      (tracked_formed promised.values (told_ending d e x view known) (meant.tracked_of a)) few all

  pub leaf_row : (o : Option ActionTree) (x : Address) (known : Table Row) → length (tries_of d e o x (begun d e o x known)) ≤ 91
      → IsFormedRow (finished d e o x (begun d e o x known) known)
  leaf_row None x known few = plain_row unknown (faulted_formed (EvalFault.NoValue []))
  leaf_row (Some a) x known few =
      let b = leaf.begun (told_at d e x known) (action_kind a) in
      let all = answers (action_name a) in
      tracked_row a x (ended (facts_of e (action_name a)).answers (instance d x) b) (tries_of d e (Some a) x b) known
      (ended_formed (facts_of e (action_name a)).answers (instance d x) b all (promised.kept (told_at d e x known) (action_kind a) 0)
      (begun_told (told_at d e x known) (action_kind a) 0))
      few (begun_tries (facts_of e (action_name a)).answers (instance d x) b all)

  pub closed_row : (o : Option ActionTree) (x : Address) (p : DecisionTree) → KeepsFit p → (n : ℕ) (v : Option VerdictTree)
      (known : Table Row) → IsFormedRow (close_of d e o x p n v known)
  closed_row None x p keeps n v known = plain_row unknown (faulted_formed (EvalFault.NoValue []))
  closed_row (Some a) x p keeps n v known =
      tracked_row a x (closed (action_kind a) x.at p n v known) [] known (closed_formed (action_kind a) x.at p keeps n v known)
      (omega arith) tt

  pub decided_fits : (o : Option ActionTree) (l : Told) → KeepsFit (decided_by o l)
  decided_fits None l = tt
  decided_fits (Some a) l =
      decision_fits (decided l (action_kind a)) (promised.value l (action_kind a) 0) (promised.items l (action_kind a) 0)

pub few_of : (p : DecisionTree) → KeepsFit p → items_of p ≤ 2 ^ 63
few_of nothing keeps = omega arith
few_of (held b) keeps = omega arith
few_of (chosen v n) keeps = omega arith
few_of (each ts) keeps = few_in ts keeps
  where
    few_in : (ts : List ValueTree) → fits (list (trees ts)) ≡ true → length ts ≤ 2 ^ 63
    few_in ts fit = omega (arith, few_items ts, (tested (list (trees ts)) fit).1)
few_of too_many keeps = omega arith
few_of (faulty f) keeps = omega arith
