-- EACH ANSWER of an instance is told by the rows that it sees.
use Rattle.std.proofs.Common.{◌≡◌, ℕ, Bool, true, false, ◌&&◌, ◌||◌, List, [], ◌∷◌, Option, Some, None, refl, ap, ◌∙◌}
use Rattle.std.specs.List.{AllByRecursion, list_any}
use Rattle.wf_val.specs.ValueTree.{ValueTree, object, no_members}
use Rattle.wf_val.specs.declared.function.Fun.{Fun}
use Rattle.wf_template.specs.CondTree.{CondTree}
use Rattle.wf_template.specs.DataTree.{DataMember, data_members}
use Rattle.wf_layers.specs.Address.{Address, Table, address, SeenIn}
use Rattle.wf_layers.specs.Source.{AgreesInside}
use Rattle.wf_meant.specs.Told.{Told}
use Rattle.wf_meant.specs.Uses.{Use, names, asks, asks_moment, asks_words, Agree, AgreeAt}
use Rattle.wf_meant.specs.EvalUses.{cond_uses, members_uses}
use Rattle.wf_meant.specs.ActionTree.{ActionTree, action_kind, action_name, action_number, KindTree}
use Rattle.wf_meant.specs.AllActions.{all_actions, numbered}
use Rattle.wf_meant.specs.DefTree.{DefTree}
use Rattle.wf_meant.specs.Layered.{layered_kind}
use Rattle.wf_record.specs.Record.{Row}
use Rattle.wf_record.specs.declared.attempt.Try.{Try}
use Rattle.wf_meant.specs.Decisions.{DecisionTree}
use Rattle.wf_meant.specs.OpeningUses.{opening_uses}
use Rattle.wf_meant.specs.Verdicts.{VerdictTree, tested_from}
use Rattle.wf_meant.specs.Done.{DoneTree}
use Rattle.wf_meant.specs.Leaf.{BegunTree, begun_from, ended}
use Rattle.wf_meant.specs.Tracked.{tracked_from, tracked_value}
use Rattle.wf_meant.specs.DoneUses.{kind_uses}
use Rattle.wf_meant.specs.Environment.{Environment, facts_of}
use Rattle.wf_meant.specs.Loops.{loops_of}
use Rattle.wf_meant.specs.Containers.{closed, has_succeeded, is_terminate}
use Rattle.wf_meant.specs.Look.{decided_by, instance, told_at, told_ending}
use Rattle.wf_meant.specs.Points.{graph_of, is_before}
use Rattle.wf_meant.specs.Rows.{row_of, view_of}
use Rattle.wf_meant.specs.Source.{begun, close_of, finished, source, tracked_of, tries_of, with_tracked}
use Rattle.wf_instance.proofs.CloseLemmas.{closed_same}
use Rattle.wf_instance.proofs.ItemLemmas.{Alike, DecisionsAreLocal, Kept, Opened, told_agrees}
use Rattle.wf_instance.proofs.LookLemmas.{AllRead}

-- ---- the laws of what actions do and containers decide that this takes

pub record Laws : Type 0 where
  pub starts : (l m : Told) (kind : KindTree) → AgreeAt l m (kind_uses kind) → (n : ℕ) → begun_from l kind n ≡ begun_from m kind n
  pub tracks : (l m : Told) (ms : List DataMember) → AgreeAt l m (members_uses (data_members ms)) → (n : ℕ)
      → tracked_from l ms n ≡ tracked_from m ms n
  pub decides : DecisionsAreLocal
  pub tests : (l m : Told) (c : CondTree) → AgreeAt l m (cond_uses c) → tested_from l c ≡ tested_from m c

pub record Rules (d : DefTree) : Type 0 where
  pub kept : Kept d
  pub starts : (n : ℕ) (a : ActionTree) → numbered n d.top ≡ Some a → AllRead d n (kind_uses (action_kind a))
  pub tracked : (n : ℕ) (a : ActionTree) → numbered n d.top ≡ Some a → AllRead d n (members_uses (data_members (tracked_of a)))
  -- Terminates stand in no loop, so that those before an action are seen
  pub halts : AllByRecursion (λ a. is_terminate (action_kind a) ≡ true → (y : Address) → is_before d (action_number a) y.name ≡ true
      → SeenIn (graph_of d) y (address (action_number a) [])) (all_actions d.top)

-- a view of its own changes nothing else
own_one : (l m : Told) (own : Option ValueTree) (asked : Use) → Agree l m asked → Agree (record l { own = own })
    (record m { own = own }) asked
own_one l m own (names Fun.Actions k) e = e
own_one l m own (names Fun.Outputs k) e = e
own_one l m own (names Fun.Body k) e = e
own_one l m own (names Fun.Result k) e = e
own_one l m own (names Fun.Items k) e = e
own_one l m own (names Fun.IterationIndexes k) e = e
own_one l m own (names Fun.Parameters k) e = e
own_one l m own (names Fun.Variables k) e = e
own_one l m own (names f k) e = tt
own_one l m own (asks Fun.Action) e = refl
own_one l m own (asks Fun.Item) e = e
own_one l m own (asks Fun.Trigger) e = e
own_one l m own (asks Fun.TriggerOutputs) e = e
own_one l m own (asks Fun.TriggerBody) e = e
own_one l m own (asks Fun.Workflow) e = e
own_one l m own (asks f) e = tt
own_one l m own asks_moment e = e
own_one l m own asks_words e = e

own_too : (l m : Told) (own : Option ValueTree) (us : List Use) → AgreeAt l m us → AgreeAt (record l { own = own })
    (record m { own = own }) us
own_too l m own [] same = tt
own_too l m own (asked ∷ us) same = (own_one l m own asked same.0, own_too l m own us same.1)

module _ (d : DefTree) (e : Environment) (rules : Rules d) (laws : Laws) (t u : Table Row) (y : Address)
    (alike : Alike d e rules.kept laws.decides t u y) (open_loops : Opened d e rules.kept laws.decides t u
    (loops_of (graph_of d) y.name) y.at []) where
  abbrev one : Told
  one = told_at d e y t

  abbrev other : Told
  other = told_at d e y u

  agrees : (us : List Use) → AllRead d y.name us → AgreeAt one other us
  agrees us reads = told_agrees d e rules.kept laws.decides t u y alike open_loops us reads

  begun_same : (found : Option ActionTree) → numbered y.name d.top ≡ found → begun d e found y t ≡ begun d e found y u
  begun_same None is = refl
  begun_same (Some a) is = laws.starts one other (action_kind a) (agrees (kind_uses (action_kind a)) (rules.starts y.name a is)) 0

  pub start_same : (source d e).start y t ≡ (source d e).start y u
  start_same = begun_same (numbered y.name d.top) refl

  -- tracked properties see the row of their own, too
  tracked_same : (a : ActionTree) → numbered y.name d.top ≡ Some a → (own : ValueTree)
      → tracked_value (told_ending d e y own t) (tracked_of a) ≡ tracked_value (told_ending d e y own u) (tracked_of a)
  tracked_same a is own =
      laws.tracks (told_ending d e y own t) (told_ending d e y own u) (tracked_of a)
      (own_too one other (Some own) (members_uses (data_members (tracked_of a)))
      (agrees (members_uses (data_members (tracked_of a))) (rules.tracked y.name a is))) 0

  row_same : (a : ActionTree) → numbered y.name d.top ≡ Some a → (done : DoneTree) (attempts : List Try)
      → with_tracked d e a y done attempts t ≡ with_tracked d e a y done attempts u
  row_same a is done attempts =
      ap (λ (v : ValueTree). row_of done v attempts) (tracked_same a is
      (view_of (action_name a) (row_of done (object no_members) attempts)))

  finished_same : (found : Option ActionTree) → numbered y.name d.top ≡ found → (b : BegunTree)
      → finished d e found y b t ≡ finished d e found y b u
  finished_same None is b = refl
  finished_same (Some a) is b =
      row_same a is (ended (facts_of e (action_name a)).answers (instance d y) b) (tries_of d e (Some a) y b)

  pub finish_same : (b : BegunTree) → (source d e).finish y b t ≡ (source d e).finish y b u
  finish_same b = finished_same (numbered y.name d.top) refl b

  opened_same : (found : Option ActionTree) → numbered y.name d.top ≡ found → decided_by found one ≡ decided_by found other
  opened_same None is = refl
  opened_same (Some a) is =
      laws.decides one other (action_kind a) (agrees (opening_uses (action_kind a)) (rules.kept.opening y.name a is))

  pub decide_same : (source d e).decide y t ≡ (source d e).decide y u
  decide_same = opened_same (numbered y.name d.top) refl

  -- a container also looks at the rows inside it
  pub close_same : (a : ActionTree) → numbered y.name d.top ≡ Some a → AgreesInside (layered_kind (action_kind a)) y.at t u
      → (decision : DecisionTree) (n : ℕ) (v : Option VerdictTree)
      → close_of d e (Some a) y decision n v t ≡ close_of d e (Some a) y decision n v u
  close_same a is inside decision n v =
      row_same a is (closed (action_kind a) y.at decision n v t) []
      ∙ ap (λ (done : DoneTree). with_tracked d e a y done [] u) (closed_same t u (action_kind a) y.at decision n v inside)

  pub halts_same : (source d e).halts y t ≡ (source d e).halts y u
  halts_same = all_same (all_actions d.top) rules.halts
    where
      pick : (b c : Bool) (r q : Option Row) → (b ≡ true → c ≡ true → r ≡ q) → (b && c && has_succeeded r) ≡ (b && c && has_succeeded q)
      pick true true r q same = ap has_succeeded (same refl refl)
      pick true false r q same = refl
      pick false c r q same = refl

      halted : Table Row → ActionTree → Bool
      halted rows a =
          is_terminate (action_kind a) && is_before d (action_number a) y.name && has_succeeded (rows (address (action_number a) []))

      all_same : (as' : List ActionTree)
          → AllByRecursion (λ a. is_terminate (action_kind a) ≡ true → (z : Address) → is_before d (action_number a) z.name ≡ true
          → SeenIn (graph_of d) z (address (action_number a) [])) as'
          → list_any (halted t) as' ≡ list_any (halted u) as'
      all_same [] seen = refl
      all_same (a ∷ as') seen = λ i.
          pick (is_terminate (action_kind a)) (is_before d (action_number a) y.name) (t (address (action_number a) []))
          (u (address (action_number a) [])) (λ is before. alike.agree (address (action_number a) []) (seen.0 is y before)) i
          || all_same as' seen.1 i
