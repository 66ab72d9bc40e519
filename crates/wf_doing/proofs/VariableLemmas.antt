-- Where the values found of variables are those told, an action does what it does by what it is told.
use Rattle.std.proofs.Common.{◌≡◌, ℕ, List, [], Option, Some, None, refl, ap}
use Rattle.wf_answers.specs.AnswerTree.{AnswerTree}
use Rattle.wf_def.specs.ActionTree.{ActionTree, KindTree, compose, connector, wait, response, terminate, select, query, join, parse_json}
use Rattle.wf_def.specs.ActionTree.{initialize, set_to, increment, decrement, append_array}
use Rattle.wf_def.specs.ActionTree.{append_string, scope, branch, switch, switch_else}
use Rattle.wf_def.specs.ActionTree.{foreach, until, action_kind, action_name}
use Rattle.wf_closing.specs.Done.{DoneTree}
use Rattle.wf_closing.specs.Leaf as leaf
use Rattle.wf_closing.specs.Leaf.{BegunTree, begun_from, tries_in}
use Rattle.wf_closing.specs.Tracked.{tracked_from, with_own}
use Rattle.wf_closing.specs.DoneUses.{kind_uses}
use Rattle.wf_closing.specs.EvalUses.{cond_uses, members_uses}
use Rattle.wf_closing.specs.Uses.{AgreeAt}
use Rattle.wf_layers.specs.Address.{Table}
use Rattle.wf_closing.specs.Told.{Told}
use Rattle.wf_closing.specs.Containers.{closed, tested}
use Rattle.wf_closing.specs.Look.{decided_by}
use Rattle.wf_closing.specs.Rows.{row_of, view_of}
use Rattle.wf_closing.specs.Source.{tracked_of}
use Rattle.wf_closing.specs.Decisions.{DecisionTree, decided}
use Rattle.wf_closing.specs.OpeningUses.{opening_uses}
use Rattle.wf_closing.specs.Verdicts.{VerdictTree, tested_from}
use Rattle.wf_record.specs.Record.{Row}
use Rattle.wf_record.specs.declared.attempt.Try.{Try}
use Rattle.wf_template.specs.CondTree.{CondTree}
use Rattle.wf_template.specs.DataTree.{DataMember, data_members}
use Rattle.wf_val.specs.ValueTree.{ValueTree, object, no_members}
use Rattle.wf_doing.specs.Acting.{begun_by, closed_by, finished_by, tested_by, tracked_row}
use Rattle.wf_doing.specs.Places.{named}
use Rattle.wf_sight.specs.Found.{FindsTold}
use Rattle.wf_sight.proofs.FoundLemmas.{all_agree, by_found}
use Rattle.wf_doing.specs.Variables.{condition_uses, deciding_uses, starting_uses, testing_uses, tracking_uses}

pub record Laws : Type 0 where
  pub starts : (l m : Told) (kind : KindTree) → AgreeAt l m (kind_uses kind) → (n : ℕ) → begun_from l kind n ≡ begun_from m kind n
  pub tracks : (l m : Told) (ms : List DataMember) → AgreeAt l m (members_uses (data_members ms)) → (n : ℕ)
      → tracked_from l ms n ≡ tracked_from m ms n
  pub decides : (l m : Told) (kind : KindTree) → AgreeAt l m (opening_uses kind) → decided l kind ≡ decided m kind
  pub tests : (l m : Told) (c : CondTree) → AgreeAt l m (cond_uses c) → tested_from l c ≡ tested_from m c

module _ (laws : Laws) (found : List ℕ → Option ValueTree) (l : Told) where
  abbrev as_found : Told
  as_found = by_found found l

  pub begun_same : (o : Option ActionTree) → FindsTold found l (starting_uses o) → begun_by o as_found ≡ begun_by o l
  begun_same None finds = refl
  begun_same (Some a) finds = laws.starts as_found l (action_kind a) (all_agree found l (kind_uses (action_kind a)) finds) 0

  pub decided_same : (o : Option ActionTree) → FindsTold found l (deciding_uses o) → decided_by o as_found ≡ decided_by o l
  decided_same None finds = refl
  decided_same (Some a) finds = laws.decides as_found l (action_kind a) (all_agree found l (opening_uses (action_kind a)) finds)

  condition_same : (kind : KindTree) → FindsTold found l (condition_uses kind) → tested as_found kind ≡ tested l kind
  condition_same (compose inputs) finds = refl
  condition_same (connector inputs policy) finds = refl
  condition_same (wait inputs) finds = refl
  condition_same (response inputs) finds = refl
  condition_same (terminate inputs) finds = refl
  condition_same (select from item) finds = refl
  condition_same (query from filter) finds = refl
  condition_same (join from with') finds = refl
  condition_same (parse_json content schema) finds = refl
  condition_same (initialize variables) finds = refl
  condition_same (set_to name value) finds = refl
  condition_same (increment name value) finds = refl
  condition_same (decrement name value) finds = refl
  condition_same (append_array name value) finds = refl
  condition_same (append_string name value) finds = refl
  condition_same (scope graph) finds = refl
  condition_same (branch test yes' no') finds = refl
  condition_same (switch on cases) finds = refl
  condition_same (switch_else on cases default) finds = refl
  condition_same (foreach items repetitions graph) finds = refl
  condition_same (until test count fails graph) finds = ap (λ run. run 0) (laws.tests as_found l test (all_agree found l (cond_uses test) finds))

  pub tested_same : (o : Option ActionTree) → FindsTold found l (testing_uses o) → tested_by o as_found ≡ tested_by o l
  tested_same None finds = refl
  tested_same (Some a) finds = condition_same (action_kind a) finds

  row_same : (a : ActionTree) → FindsTold found l (tracking_uses (Some a)) → (done : DoneTree) (attempts : List Try)
      → tracked_row as_found a done attempts ≡ tracked_row l a done attempts
  row_same a finds done attempts =
      let own = view_of (action_name a) (row_of done (object no_members) attempts) in
      ap (λ (v : ValueTree). row_of done v attempts)
      (laws.tracks (with_own own as_found) (with_own own l) (tracked_of a)
      (all_agree found (with_own own l) (members_uses (data_members (tracked_of a))) finds) 0)

  pub finished_same : (o : Option ActionTree) → FindsTold found l (tracking_uses o) → (answers : List AnswerTree) (at : List ℕ) (b : BegunTree)
      → finished_by o as_found answers at b ≡ finished_by o l answers at b
  finished_same None finds answers at b = refl
  finished_same (Some a) finds answers at b =
      row_same a finds (leaf.ended answers (named (action_name a) at) b) (tries_in answers (named (action_name a) at) b)

  pub closed_same : (o : Option ActionTree) → FindsTold found l (tracking_uses o) → (at : List ℕ) (decision : DecisionTree) (n : ℕ)
      (verdict : Option VerdictTree) (known : Table Row)
      → closed_by o as_found at decision n verdict known ≡ closed_by o l at decision n verdict known
  closed_same None finds at decision n verdict known = refl
  closed_same (Some a) finds at decision n verdict known = row_same a finds (closed (action_kind a) at decision n verdict known) []
