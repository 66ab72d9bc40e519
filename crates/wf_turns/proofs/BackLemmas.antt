-- The rows of a definition tell what they are asked for.
use Rattle.std.proofs.Common.{◌≡◌, ℕ, List, [], Option, Some, None, refl, sym, subst}
use Rattle.std.specs.Prelude.{if◌then◌else◌, nat_eq}
use Rattle.wf_val.specs.ValueTree.{ValueTree}
use Rattle.wf_val.specs.declared.address.Address as named
use Rattle.wf_layers.specs.Definition.{Pace, Scope, Choice, Foreach, Until, Branches, Graph}
use Rattle.wf_layers.specs.Definition as layers
use Rattle.wf_layers.specs.Address.{Address, Table}
use Rattle.wf_layers.specs.Called.{iterations}
use Rattle.wf_layers.specs.Meaning.{last}
use Rattle.wf_layers.specs.Shape.{ReadsBack}
use Rattle.wf_answers.specs.AnswerTree.{AnswerTree}
use Rattle.wf_known_laws.specs.ActionTree.{ActionTree, action_kind, action_name, KindTree, compose, connector}
use Rattle.wf_known_laws.specs.ActionTree.{wait, response, terminate, select}
use Rattle.wf_known_laws.specs.ActionTree.{query, join, parse_json, initialize, set_to, increment}
use Rattle.wf_known_laws.specs.ActionTree.{decrement, append_array, append_string, scope}
use Rattle.wf_known_laws.specs.ActionTree.{branch, switch, switch_else, foreach, until}
use Rattle.wf_known_laws.specs.AllActions.{numbered}
use Rattle.wf_known_laws.specs.DefTree.{DefTree}
use Rattle.wf_known_laws.specs.Layered.{layered_kind}
use Rattle.wf_record.specs.Record.{Row}
use Rattle.wf_record.specs.declared.status.Status.{Status}
use Rattle.wf_meant.specs.Told.{Told}
use Rattle.wf_meant.specs.TemplateValue.{template_value}
use Rattle.wf_meant.specs.Truth.{truth_of}
use Rattle.wf_meant.specs.Decisions.{DecisionTree, decided, items_of, taken}
use Rattle.wf_meant.specs.Verdicts.{VerdictTree}
use Rattle.wf_meant.specs.Leaf.{begun_from, ended}
use Rattle.wf_meant.specs.Environment.{Environment, facts_of}
use Rattle.wf_meant.specs.Statuses.{status_tree}
use Rattle.wf_meant.specs.Containers.{case_status, closed, last_status, status_of}
use Rattle.wf_meant.specs.Look.{decided_by, instance, told_at}
use Rattle.wf_meant.specs.Points.{graph_of}
use Rattle.wf_meant.specs.Resubmitted.{said, said_by}
use Rattle.wf_meant.specs.Rows.{row_of}
use Rattle.wf_meant.specs.Source.{begun, close_of, finished, source}
use Rattle.wf_meant.specs.SaysTold.{count_items, count_told, items_said, rounds_said, taken_by, told_rounds}
use Rattle.wf_turns.specs.Reading.{RecallsWithin, reading, taken_in}
use Rattle.wf_turns.proofs.FoundLemmas.{of_kind}
use Rattle.wf_meant.proofs.TellLemmas.{items_back, rounds_back}
use Rattle.wf_turns.proofs.ReadLemmas.{chosen_again, chosen_back, held_again, held_back, ran_closed, ran_tree}

-- ---- by kind

taken_back : (bs : Branches) (kind : KindTree) (l : Told) (at : List ℕ) (f : Table Row) (tracked : ValueTree)
    → layered_kind kind ≡ Choice bs → taken_by kind (row_of (closed kind at (decided l kind) 0 None f) tracked []) ≡ taken (decided l kind)
taken_back bs (compose inputs) l at f tracked is = absurd (cc)
taken_back bs (connector inputs policy) l at f tracked is = absurd (cc)
taken_back bs (wait inputs) l at f tracked is = absurd (cc)
taken_back bs (response inputs) l at f tracked is = absurd (cc)
taken_back bs (terminate inputs) l at f tracked is = absurd (cc)
taken_back bs (select from item) l at f tracked is = absurd (cc)
taken_back bs (query from filter) l at f tracked is = absurd (cc)
taken_back bs (join from with') l at f tracked is = absurd (cc)
taken_back bs (parse_json content schema) l at f tracked is = absurd (cc)
taken_back bs (initialize variables) l at f tracked is = absurd (cc)
taken_back bs (set_to name value) l at f tracked is = absurd (cc)
taken_back bs (increment name value) l at f tracked is = absurd (cc)
taken_back bs (decrement name value) l at f tracked is = absurd (cc)
taken_back bs (append_array name value) l at f tracked is = absurd (cc)
taken_back bs (append_string name value) l at f tracked is = absurd (cc)
taken_back bs (scope graph) l at f tracked is = absurd (cc)
taken_back bs (branch test yes' no') l at f tracked is =
    held_back (branch test yes' no') at f (λ k. if nat_eq k 1 then status_of at f yes' else status_of at f no') (truth_of l test 0).0
taken_back bs (switch on cases) l at f tracked is =
    chosen_back (switch on cases) at f (λ k. case_status at f cases k Status.Succeeded) cases (template_value l on 0).0
taken_back bs (switch_else on cases default) l at f tracked is =
    chosen_back (switch_else on cases default) at f (λ k. case_status at f cases k (status_of at f default)) cases
    (template_value l on 0).0
taken_back bs (foreach items repetitions graph) l at f tracked is = absurd (cc)
taken_back bs (until test count fails graph) l at f tracked is = absurd (cc)

scope_again : (g : Graph) (kind : KindTree) (l : Told) (row : Row) → layered_kind kind ≡ Scope g → said kind row ≡ decided l kind
scope_again g (compose inputs) l row is = absurd (cc)
scope_again g (connector inputs policy) l row is = absurd (cc)
scope_again g (wait inputs) l row is = absurd (cc)
scope_again g (response inputs) l row is = absurd (cc)
scope_again g (terminate inputs) l row is = absurd (cc)
scope_again g (select from item) l row is = absurd (cc)
scope_again g (query from filter) l row is = absurd (cc)
scope_again g (join from with') l row is = absurd (cc)
scope_again g (parse_json content schema) l row is = absurd (cc)
scope_again g (initialize variables) l row is = absurd (cc)
scope_again g (set_to name value) l row is = absurd (cc)
scope_again g (increment name value) l row is = absurd (cc)
scope_again g (decrement name value) l row is = absurd (cc)
scope_again g (append_array name value) l row is = absurd (cc)
scope_again g (append_string name value) l row is = absurd (cc)
scope_again g (scope graph) l row is =
    refl
scope_again g (branch test yes' no') l row is = absurd (cc)
scope_again g (switch on cases) l row is = absurd (cc)
scope_again g (switch_else on cases default) l row is = absurd (cc)
scope_again g (foreach items repetitions graph) l row is = absurd (cc)
scope_again g (until test count fails graph) l row is = absurd (cc)

taken_again : (bs : Branches) (kind : KindTree) (l : Told) (at : List ℕ) (f : Table Row) (tracked : ValueTree)
    → (taken (decided l kind) ≡ 0 → ⊥) → layered_kind kind ≡ Choice bs
    → said kind (row_of (closed kind at (decided l kind) 0 None f) tracked []) ≡ decided l kind
taken_again bs (compose inputs) l at f tracked some is = absurd (cc)
taken_again bs (connector inputs policy) l at f tracked some is = absurd (cc)
taken_again bs (wait inputs) l at f tracked some is = absurd (cc)
taken_again bs (response inputs) l at f tracked some is = absurd (cc)
taken_again bs (terminate inputs) l at f tracked some is = absurd (cc)
taken_again bs (select from item) l at f tracked some is = absurd (cc)
taken_again bs (query from filter) l at f tracked some is = absurd (cc)
taken_again bs (join from with') l at f tracked some is = absurd (cc)
taken_again bs (parse_json content schema) l at f tracked some is = absurd (cc)
taken_again bs (initialize variables) l at f tracked some is = absurd (cc)
taken_again bs (set_to name value) l at f tracked some is = absurd (cc)
taken_again bs (increment name value) l at f tracked some is = absurd (cc)
taken_again bs (decrement name value) l at f tracked some is = absurd (cc)
taken_again bs (append_array name value) l at f tracked some is = absurd (cc)
taken_again bs (append_string name value) l at f tracked some is = absurd (cc)
taken_again bs (scope graph) l at f tracked some is = absurd (cc)
taken_again bs (branch test yes' no') l at f tracked some is =
    held_again (branch test yes' no') at f (λ k. if nat_eq k 1 then status_of at f yes' else status_of at f no')
    (truth_of l test 0).0 some
taken_again bs (switch on cases) l at f tracked some is =
    chosen_again (switch on cases) at f (λ k. case_status at f cases k Status.Succeeded) cases (template_value l on 0).0 some
taken_again bs (switch_else on cases default) l at f tracked some is =
    chosen_again (switch_else on cases default) at f (λ k. case_status at f cases k (status_of at f default)) cases
    (template_value l on 0).0 some
taken_again bs (foreach items repetitions graph) l at f tracked some is = absurd (cc)
taken_again bs (until test count fails graph) l at f tracked some is = absurd (cc)

items_kept : (pace : Pace) (g : Graph) (kind : KindTree) (at : List ℕ) (f : Table Row) (decision : DecisionTree)
    → layered_kind kind ≡ Foreach pace g → count_items (closed kind at decision 0 None f).inputs ≡ items_of decision
items_kept pace g (compose inputs) at f decision is = absurd (cc)
items_kept pace g (connector inputs policy) at f decision is = absurd (cc)
items_kept pace g (wait inputs) at f decision is = absurd (cc)
items_kept pace g (response inputs) at f decision is = absurd (cc)
items_kept pace g (terminate inputs) at f decision is = absurd (cc)
items_kept pace g (select from item) at f decision is = absurd (cc)
items_kept pace g (query from filter) at f decision is = absurd (cc)
items_kept pace g (join from with') at f decision is = absurd (cc)
items_kept pace g (parse_json content schema) at f decision is = absurd (cc)
items_kept pace g (initialize variables) at f decision is = absurd (cc)
items_kept pace g (set_to name value) at f decision is = absurd (cc)
items_kept pace g (increment name value) at f decision is = absurd (cc)
items_kept pace g (decrement name value) at f decision is = absurd (cc)
items_kept pace g (append_array name value) at f decision is = absurd (cc)
items_kept pace g (append_string name value) at f decision is = absurd (cc)
items_kept pace g (scope graph) at f decision is = absurd (cc)
items_kept pace g (branch test yes' no') at f decision is = absurd (cc)
items_kept pace g (switch on cases) at f decision is = absurd (cc)
items_kept pace g (switch_else on cases default) at f decision is = absurd (cc)
items_kept pace g (foreach items repetitions graph) at f decision is =
    items_back graph at f decision
items_kept pace g (until test count fails graph) at f decision is = absurd (cc)

rounds_kept : (most : ℕ) (g : Graph) (kind : KindTree) (at : List ℕ) (f : Table Row) (decision : DecisionTree) (n : ℕ)
    (v : Option VerdictTree) → layered_kind kind ≡ Until most g
    → count_told (told_rounds (closed kind at decision n v f).outputs) ≡ n
rounds_kept most g (compose inputs) at f decision n v is = absurd (cc)
rounds_kept most g (connector inputs policy) at f decision n v is = absurd (cc)
rounds_kept most g (wait inputs) at f decision n v is = absurd (cc)
rounds_kept most g (response inputs) at f decision n v is = absurd (cc)
rounds_kept most g (terminate inputs) at f decision n v is = absurd (cc)
rounds_kept most g (select from item) at f decision n v is = absurd (cc)
rounds_kept most g (query from filter) at f decision n v is = absurd (cc)
rounds_kept most g (join from with') at f decision n v is = absurd (cc)
rounds_kept most g (parse_json content schema) at f decision n v is = absurd (cc)
rounds_kept most g (initialize variables) at f decision n v is = absurd (cc)
rounds_kept most g (set_to name value) at f decision n v is = absurd (cc)
rounds_kept most g (increment name value) at f decision n v is = absurd (cc)
rounds_kept most g (decrement name value) at f decision n v is = absurd (cc)
rounds_kept most g (append_array name value) at f decision n v is = absurd (cc)
rounds_kept most g (append_string name value) at f decision n v is = absurd (cc)
rounds_kept most g (scope graph) at f decision n v is = absurd (cc)
rounds_kept most g (branch test yes' no') at f decision n v is = absurd (cc)
rounds_kept most g (switch on cases) at f decision n v is = absurd (cc)
rounds_kept most g (switch_else on cases default) at f decision n v is = absurd (cc)
rounds_kept most g (foreach items repetitions graph) at f decision n v is = absurd (cc)
rounds_kept most g (until test count fails graph) at f decision n v is =
    rounds_back fails (last_status graph at f n) n v

-- ---- of a definition

-- what the row of a container keeps of its tracked properties
abbrev row_tracked : DefTree → Environment → ActionTree → Address → Table Row → ValueTree
row_tracked d e a x f = (close_of d e (Some a) x (decided (told_at d e x f) (action_kind a)) 0 None f).tracked

-- THE LAW of what is recalled
pub recalls : (d : DefTree) (e : Environment) (f : Table Row) → RecallsWithin d e f
recalls d e f = record {
  scopes = λ x g is.
      let found = of_kind x.name d.top (Scope g) is in
      subst (λ (o : Option ActionTree). said_by o (Some (close_of d e o x (decided_by o (told_at d e x f)) 0 None f))
      ≡ decided_by o (told_at d e x f))
      (sym found.1) (scope_again g (action_kind found.0) (told_at d e x f)
      (close_of d e (Some found.0) x (decided (told_at d e x f) (action_kind found.0)) 0 None f) found.2);
  choices = λ x bs is some.
      let found = of_kind x.name d.top (Choice bs) is in
      subst (λ (o : Option ActionTree). (taken (decided_by o (told_at d e x f)) ≡ 0 → ⊥)
      → said_by o (Some (close_of d e o x (decided_by o (told_at d e x f)) 0 None f)) ≡ decided_by o (told_at d e x f))
      (sym found.1) (λ more. taken_again bs (action_kind found.0) (told_at d e x f) x.at f (row_tracked d e found.0 x f) more found.2) some;
}

module _ (ran : (l : Told) (kind : KindTree) (n : ℕ) (answers : List AnswerTree) (x : named.Address)
    → (ended answers x (begun_from l kind n)).status ≡ Status.Skipped → ⊥)
    (d : DefTree) (e : Environment) (f : Table Row) where
  left_ran : (o : Option ActionTree) (x : Address) → status_tree (finished d e o x (begun d e o x f) f).status ≡ layers.Skipped → ⊥
  left_ran None x = λ is. absurd (cc)
  left_ran (Some a) x =
      ran_tree (ended (facts_of e (action_name a)).answers (instance d x) (begun_from (told_at d e x f) (action_kind a) 0)).status
      (ran (told_at d e x f) (action_kind a) 0 (facts_of e (action_name a)).answers (instance d x))

  closed_ran : (o : Option ActionTree) (x : Address) (decision : DecisionTree) (n : ℕ) (v : Option VerdictTree)
      → status_tree (close_of d e o x decision n v f).status ≡ layers.Skipped → ⊥
  closed_ran None x decision n v = λ is. absurd (cc)
  closed_ran (Some a) x decision n v =
      ran_tree (closed (action_kind a) x.at decision n v f).status (ran_closed (action_kind a) x.at decision n v f)

  -- THE LAW of what is read
  pub reads_back : ReadsBack (graph_of d) (source d e) f (reading d)
  reads_back = record {
    skipped = refl;
    leaves = λ x. left_ran (numbered x.name d.top) x;
    closed = λ x n v. closed_ran (numbered x.name d.top) x ((source d e).decide x f) n v;
    taken = λ x bs is.
        let found = of_kind x.name d.top (Choice bs) is in
        subst (λ (o : Option ActionTree). taken_in o (close_of d e o x (decided_by o (told_at d e x f)) 0 None f)
        ≡ taken (decided_by o (told_at d e x f)))
        (sym found.1) (taken_back bs (action_kind found.0) (told_at d e x f) x.at f (row_tracked d e found.0 x f) found.2);
    items = λ x pace g is.
        let found = of_kind x.name d.top (Foreach pace g) is in
        let decision = (source d e).decide x f in
        subst (λ (o : Option ActionTree). items_said (close_of d e o x decision 0 None f) ≡ items_of decision) (sym found.1)
        (items_kept pace g (action_kind found.0) x.at f decision found.2);
    rounds = λ x most g is.
        let found = of_kind x.name d.top (Until most g) is in
        let decision = (source d e).decide x f in
        let n = iterations (source d e) (Until most g) x f in
        let v = last n (λ j. (source d e).test x j f) in
        subst (λ (o : Option ActionTree). rounds_said (close_of d e o x decision n v f) ≡ n) (sym found.1)
        (rounds_kept most g (action_kind found.0) x.at f decision n v found.2);
  }
