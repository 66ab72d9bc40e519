-- What a run keeps of what isn't finished is what its row has as inputs.
use Rattle.std.proofs.Common.{◌≡◌, ℕ, Bool, true, false, not, List, length, Option, Some, None, inl, inr, refl, sym, ap, ◌∙◌, true≢false}
use Rattle.std.specs.Prelude.{Ok, Err, if◌then◌else◌, nat_eq, nat_le}
use Rattle.wf_val.specs.Arguments.{Answer}
use Rattle.wf_val.specs.ValueTree.{ValueTree, null, boolean, number, text, list, object, items}
use Rattle.wf_val.specs.declared.address.Address as named
use Rattle.wf_retry.specs.Again.{again}
use Rattle.wf_retry.specs.declared.policy.Policy.{Policy}
use Rattle.wf_answers.specs.AnswerTree.{AnswerTree}
use Rattle.wf_layers.specs.Address.{Table}
use Rattle.wf_layers.proofs.Basics.{two}
use Rattle.wf_def.specs.ActionTree.{KindTree, compose, connector, wait, response, terminate, select, query, join, parse_json, initialize}
use Rattle.wf_def.specs.ActionTree.{set_to, increment, decrement, append_array, append_string, scope, branch, switch, switch_else, foreach}
use Rattle.wf_def.specs.ActionTree.{until, ActionTrees, CaseTrees}
use Rattle.wf_def.specs.AllActions.{kind_actions}
use Rattle.wf_look.specs.Told.{Told}
use Rattle.wf_turns.specs.TemplateValue.{template_value}
use Rattle.wf_turns.specs.TreeValue.{tree_value}
use Rattle.wf_turns.specs.Truth.{truth_of}
use Rattle.wf_record.specs.Record.{Row}
use Rattle.wf_record.specs.declared.status.Status.{Status}
use Rattle.wf_connect.specs.Attempts.{ends, repeated, tried}
use Rattle.wf_connect.specs.Last.{Answered, IsLast, answered_at, is_final, last_attempt}
use Rattle.wf_turns.specs.Decisions.{nothing, held, branch_from, chosen_as, decided, each, each_as, held_as, taken, too_many}
use Rattle.wf_turns.specs.Verdicts.{VerdictTree, astray, met}
use Rattle.wf_turns.specs.Leaf.{BegunTree, acted, calling, done_by, ended}
use Rattle.wf_doing.specs.Weights.{begun_inputs, decided_by}
use Rattle.wf_turns.specs.Containers.{any_terminated, case_status, close_branch, close_foreach, close_until, closed, closed_as, cut_short}
use Rattle.wf_turns.specs.Containers.{iterations_value, last_status, status_of, unless_cut}
use Rattle.wf_turns.specs.Resubmitted.{said}

-- ---- of a leaf

-- a connector keeps its inputs once its last attempt is made
final_keeps : (inputs : ValueTree) (policy : Policy) (k : ℕ) (answer : Option AnswerTree) → is_final policy k answer ≡ true
    → (done_by inputs (tried policy k answer)).inputs ≡ inputs
final_keeps inputs policy k None final = refl
final_keeps inputs policy k (Some a) final = elim (two (again policy k a.outcome)) [
  | inl t ↦ absurd (true≢false (sym final ∙ ap not t))
  | inr f ↦ ap (λ (b : Bool). (done_by inputs (if b then repeated else ends a)).inputs) f
]

pub ended_keeps : ((policy : Policy) (answers : Answered) → IsLast policy answers (last_attempt policy answers))
    → (answers : List AnswerTree) (x : named.Address) (b : BegunTree) → (ended answers x b).inputs ≡ begun_inputs b
ended_keeps last answers x (acted d) = refl
ended_keeps last answers x (calling inputs policy) =
    let at : Answered = answered_at answers x in
    final_keeps inputs policy (last_attempt policy at) (at (last_attempt policy at)) (last policy at).final

-- ---- of a container

cut_keeps : (b : Bool) (s : Status) (i : ValueTree) → (if b then cut_short i else closed_as s i null).inputs ≡ i
cut_keeps true s i = refl
cut_keeps false s i = refl

module _ (at : List ℕ) (known : Table Row) where
  unless_keeps : (kind : KindTree) (i : ValueTree) (s : Status) → (unless_cut at known kind i s).inputs ≡ i
  unless_keeps kind i s = cut_keeps (any_terminated (kind_actions kind) at known) s i

  module _ (kind : KindTree) (status : ℕ → Status) where
    held_keeps : (o : Answer) → (close_branch at known kind status (held_as o)).inputs ≡ decided_by (held_as o)
    held_keeps (Ok (boolean b)) = unless_keeps kind (boolean b) (status (taken (held b)))
    held_keeps (Ok null) = refl
    held_keeps (Ok (number n)) = refl
    held_keeps (Ok (text s)) = refl
    held_keeps (Ok (list ts)) = refl
    held_keeps (Ok (object ms)) = refl
    held_keeps (Err f) = refl

    chosen_keeps : (cases : CaseTrees) (o : Answer)
        → (close_branch at known kind status (chosen_as cases o)).inputs ≡ decided_by (chosen_as cases o)
    chosen_keeps cases (Ok (text s)) = unless_keeps kind (text s) (status (branch_from 1 cases (text s)))
    chosen_keeps cases (Ok (number n)) = unless_keeps kind (number n) (status (branch_from 1 cases (number n)))
    chosen_keeps cases (Ok null) = refl
    chosen_keeps cases (Ok (boolean b)) = refl
    chosen_keeps cases (Ok (list ts)) = refl
    chosen_keeps cases (Ok (object ms)) = refl
    chosen_keeps cases (Err f) = refl

-- a Foreach its items, where there aren't too many
foreach_keeps : (graph : ActionTrees) (at : List ℕ) (known : Table Row) (o : Answer)
    → (close_foreach graph at known (each_as o)).inputs ≡ decided_by (each_as o)
foreach_keeps graph at known (Ok (list ts)) = go (nat_le (length (items ts)) 100000)
  where
    go : (b : Bool) → (close_foreach graph at known (if b then each (items ts) else too_many)).inputs
        ≡ decided_by (if b then each (items ts) else too_many)
    go true = refl
    go false = refl
foreach_keeps graph at known (Ok null) = refl
foreach_keeps graph at known (Ok (boolean b)) = refl
foreach_keeps graph at known (Ok (number n)) = refl
foreach_keeps graph at known (Ok (text s)) = refl
foreach_keeps graph at known (Ok (object ms)) = refl
foreach_keeps graph at known (Err f) = refl

until_keeps : (fails : Bool) (s : Status) (o : ValueTree) (v : Option VerdictTree) → (close_until fails s o v).inputs ≡ null
until_keeps fails s o (Some (met true)) = refl
until_keeps false s o (Some (met false)) = refl
until_keeps true s o (Some (met false)) = refl
until_keeps fails s o (Some (astray f)) = refl
until_keeps fails s o None = refl

pub closed_keeps : (kind : KindTree) (l : Told) (at : List ℕ) (n : ℕ) (v : Option VerdictTree) (known : Table Row)
    → (closed kind at (decided l kind) n v known).inputs ≡ decided_by (decided l kind)
closed_keeps (compose inputs) l at n v known = refl
closed_keeps (connector inputs policy) l at n v known = refl
closed_keeps (wait inputs) l at n v known = refl
closed_keeps (response inputs) l at n v known = refl
closed_keeps (terminate inputs) l at n v known = refl
closed_keeps (select from item) l at n v known = refl
closed_keeps (query from filter) l at n v known = refl
closed_keeps (join from with') l at n v known = refl
closed_keeps (parse_json content schema) l at n v known = refl
closed_keeps (initialize variables) l at n v known = refl
closed_keeps (set_to name value) l at n v known = refl
closed_keeps (increment name value) l at n v known = refl
closed_keeps (decrement name value) l at n v known = refl
closed_keeps (append_array name value) l at n v known = refl
closed_keeps (append_string name value) l at n v known = refl
closed_keeps (scope graph) l at n v known = unless_keeps at known (scope graph) null (status_of at known graph)
closed_keeps (branch test yes' no') l at n v known =
    held_keeps at known (branch test yes' no') (λ k. if nat_eq k 1 then status_of at known yes' else status_of at known no')
    (truth_of l test 0).0
closed_keeps (switch on cases) l at n v known =
    chosen_keeps at known (switch on cases) (λ k. case_status at known cases k Status.Succeeded) cases (template_value l on 0).0
closed_keeps (switch_else on cases default) l at n v known =
    chosen_keeps at known (switch_else on cases default) (λ k. case_status at known cases k (status_of at known default)) cases
    (template_value l on 0).0
closed_keeps (foreach items repetitions graph) l at n v known = foreach_keeps graph at known (tree_value l items 0).0
closed_keeps (until test count fails graph) l at n v known =
    until_keeps fails (last_status graph at known n) (iterations_value n) v

-- ---- of a container that is closed again, by what a row of it says

-- one of which nothing is said keeps null
pub nothing_keeps : (kind : KindTree) (at : List ℕ) (n : ℕ) (v : Option VerdictTree) (known : Table Row)
    → (closed kind at nothing n v known).inputs ≡ null
nothing_keeps (compose inputs) at n v known = refl
nothing_keeps (connector inputs policy) at n v known = refl
nothing_keeps (wait inputs) at n v known = refl
nothing_keeps (response inputs) at n v known = refl
nothing_keeps (terminate inputs) at n v known = refl
nothing_keeps (select from item) at n v known = refl
nothing_keeps (query from filter) at n v known = refl
nothing_keeps (join from with') at n v known = refl
nothing_keeps (parse_json content schema) at n v known = refl
nothing_keeps (initialize variables) at n v known = refl
nothing_keeps (set_to name value) at n v known = refl
nothing_keeps (increment name value) at n v known = refl
nothing_keeps (decrement name value) at n v known = refl
nothing_keeps (append_array name value) at n v known = refl
nothing_keeps (append_string name value) at n v known = refl
nothing_keeps (scope graph) at n v known = unless_keeps at known (scope graph) null (status_of at known graph)
nothing_keeps (branch test yes' no') at n v known = unless_keeps at known (branch test yes' no') null Status.Succeeded
nothing_keeps (switch on cases) at n v known = unless_keeps at known (switch on cases) null Status.Succeeded
nothing_keeps (switch_else on cases default) at n v known = unless_keeps at known (switch_else on cases default) null Status.Succeeded
nothing_keeps (foreach items repetitions graph) at n v known = refl
nothing_keeps (until test count fails graph) at n v known =
    until_keeps fails (last_status graph at known n) (iterations_value n) v

pub said_keeps : (kind : KindTree) (row : Row) (at : List ℕ) (n : ℕ) (v : Option VerdictTree) (known : Table Row)
    → (closed kind at (said kind row) n v known).inputs ≡ decided_by (said kind row)
said_keeps (compose inputs) row at n v known = refl
said_keeps (connector inputs policy) row at n v known = refl
said_keeps (wait inputs) row at n v known = refl
said_keeps (response inputs) row at n v known = refl
said_keeps (terminate inputs) row at n v known = refl
said_keeps (select from item) row at n v known = refl
said_keeps (query from filter) row at n v known = refl
said_keeps (join from with') row at n v known = refl
said_keeps (parse_json content schema) row at n v known = refl
said_keeps (initialize variables) row at n v known = refl
said_keeps (set_to name value) row at n v known = refl
said_keeps (increment name value) row at n v known = refl
said_keeps (decrement name value) row at n v known = refl
said_keeps (append_array name value) row at n v known = refl
said_keeps (append_string name value) row at n v known = refl
said_keeps (scope graph) row at n v known = nothing_keeps (scope graph) at n v known
said_keeps (branch test yes' no') row at n v known =
    held_keeps at known (branch test yes' no') (λ k. if nat_eq k 1 then status_of at known yes' else status_of at known no') (Ok row.inputs)
said_keeps (switch on cases) row at n v known =
    chosen_keeps at known (switch on cases) (λ k. case_status at known cases k Status.Succeeded) cases (Ok row.inputs)
said_keeps (switch_else on cases default) row at n v known =
    chosen_keeps at known (switch_else on cases default) (λ k. case_status at known cases k (status_of at known default)) cases
    (Ok row.inputs)
said_keeps (foreach items repetitions graph) row at n v known = refl
said_keeps (until test count fails graph) row at n v known = nothing_keeps (until test count fails graph) at n v known
