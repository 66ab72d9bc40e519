-- No answer of a definition's source tells what attempts came to.
use Rattle.std.proofs.Common.{◌≡◌, ℕ, ◌&&◌, List, [], ◌∷◌, ◌++◌, Option, Some, None, refl, ap, ◌∙◌}
use Rattle.std.specs.List.{list_any}
use Rattle.wf_val.specs.Address.{address_text}
use Rattle.wf_val.specs.ValueTree.{object, no_members}
use Rattle.wf_layers.specs.Address.{Address, Table, address}
use Rattle.wf_alike.specs.Alike.{AreAlike, ReadsAlike}
use Rattle.wf_look.specs.Told.{Told}
use Rattle.wf_def.specs.ActionTree.{ActionTree, action_kind, action_name, action_number}
use Rattle.wf_def.specs.AllActions.{all_actions, numbered}
use Rattle.wf_def.specs.DefTree.{DefTree}
use Rattle.wf_record.specs.Record.{Row}
use Rattle.wf_record.specs.declared.attempt.Try.{Try}
use Rattle.wf_opening.specs.Decisions.{DecisionTree}
use Rattle.wf_opening.specs.Verdicts.{VerdictTree}
use Rattle.wf_done.specs.Done.{DoneTree}
use Rattle.wf_done.specs.Leaf as leaf
use Rattle.wf_done.specs.Leaf.{BegunTree, ended}
use Rattle.wf_done.specs.Tracked.{tracked_value, with_own}
use Rattle.wf_environment.specs.Environment.{Environment, facts_of}
use Rattle.wf_environment.specs.Statuses.{status_tree}
use Rattle.wf_turns.specs.Containers.{closed, is_terminate, tested}
use Rattle.wf_turns.specs.Look.{Item, decided_by, decided_within, instance, item_in, items_at, items_from, name_of, told_at, told_by}
use Rattle.wf_turns.specs.Look.{told_in_test, told_within}
use Rattle.wf_turns.specs.Points.{Point, is_before, point_of, point_of_test}
use Rattle.wf_turns.specs.Rows.{row_of, view_of}
use Rattle.wf_turns.specs.Source.{begun, close_of, finished, is_halted, source, test_of, tracked_of, tries_of, with_tracked}
use Rattle.wf_anew.proofs.AlikeLemmas.{closed_same, plain, succeeded_same, told_alike}

module _ (d : DefTree) (e : Environment) (t u : Table Row) (alike : AreAlike plain t u) where
  within_same : (x : Address) (held : List Item) → told_within d e x held t ≡ told_within d e x held u
  within_same x held =
      told_alike d e.start (facts_of e (name_of d x.name)) (address_text (instance d x)) (point_of d x) held None t u alike

  items_same : (ls js at : List ℕ) (held : List Item) → items_from d e ls js at held t ≡ items_from d e ls js at held u
  items_same [] js at held = refl
  items_same (l ∷ ls) [] at held = refl
  items_same (l ∷ ls) (j ∷ js) at held =
      ap (λ (told : Told). items_from d e ls js (at ++ j ∷ [])
      (held ++ item_in d e (name_of d l) j (decided_by (numbered l d.top) told)) t) (within_same (address l at) held)
      ∙ items_same ls js (at ++ j ∷ []) (held ++ item_in d e (name_of d l) j (decided_within d e (address l at) held u))

  items_there : (p : Point) → items_at d e p t ≡ items_at d e p u
  items_there p = items_same p.loops p.at [] []

  at_same : (x : Address) → told_at d e x t ≡ told_at d e x u
  at_same x = ap (λ (held : List Item). told_within d e x held t) (items_there (point_of d x))
      ∙ within_same x (items_at d e (point_of d x) u)

  in_test_same : (x : Address) (k : ℕ) → told_in_test d e x k t ≡ told_in_test d e x k u
  in_test_same x k =
      ap (λ (held : List Item). told_by d e.start (facts_of e (name_of d x.name))
      (address_text (instance d (address x.name (x.at ++ k ∷ [])))) (point_of_test d x k) held None t) (items_there (point_of_test d x k))
      ∙ told_alike d e.start (facts_of e (name_of d x.name)) (address_text (instance d (address x.name (x.at ++ k ∷ []))))
      (point_of_test d x k) (items_at d e (point_of_test d x k) u) None t u alike

  -- ---- by the action, if there is one

  tracked_same : (a : ActionTree) (x : Address) (done : DoneTree) (attempts : List Try)
      → with_tracked d e a x done attempts t ≡ with_tracked d e a x done attempts u
  tracked_same a x done attempts =
      ap (λ (told : Told). row_of done (tracked_value (with_own (view_of (action_name a) (row_of done (object no_members) attempts)) told)
      (tracked_of a)) attempts) (at_same x)

  begun_same : (found : Option ActionTree) (x : Address) → begun d e found x t ≡ begun d e found x u
  begun_same None x = refl
  begun_same (Some a) x = ap (λ (told : Told). leaf.begun told (action_kind a)) (at_same x)

  finished_same : (found : Option ActionTree) (x : Address) (b : BegunTree) → finished d e found x b t ≡ finished d e found x b u
  finished_same None x b = refl
  finished_same (Some a) x b =
      tracked_same a x (ended (facts_of e (action_name a)).answers (instance d x) b) (tries_of d e (Some a) x b)

  decided_same : (found : Option ActionTree) (x : Address) → decided_by found (told_at d e x t) ≡ decided_by found (told_at d e x u)
  decided_same found x = ap (decided_by found) (at_same x)

  tested_same : (found : Option ActionTree) (x : Address) (k : ℕ) → test_of d e found x k t ≡ test_of d e found x k u
  tested_same None x k = refl
  tested_same (Some a) x k = ap (λ (told : Told). tested told (action_kind a)) (in_test_same x k)

  closes_same : (found : Option ActionTree) (x : Address) (decision : DecisionTree) (n : ℕ) (v : Option VerdictTree)
      → close_of d e found x decision n v t ≡ close_of d e found x decision n v u
  closes_same None x decision n v = refl
  closes_same (Some a) x decision n v =
      tracked_same a x (closed (action_kind a) x.at decision n v t) []
      ∙ ap (λ (done : DoneTree). with_tracked d e a x done [] u) (closed_same d t u alike (action_kind a) x.at decision n v)

  halted_same : (n : ℕ) → is_halted d e n t ≡ is_halted d e n u
  halted_same n = λ i.
      list_any (λ a. is_terminate (action_kind a) && is_before d (action_number a) n
      && succeeded_same (alike (address (action_number a) [])) i)
      (all_actions d.top)

-- THE LAW
pub reads_alike : (d : DefTree) (e : Environment) → ReadsAlike (source d e) (source d e) plain
reads_alike d e = record {
  status = λ p q same. ap (λ (row : Row). status_tree row.status) same;
  start = λ x t u alike. begun_same d e t u alike (numbered x.name d.top) x;
  finish = λ x b t u alike. finished_same d e t u alike (numbered x.name d.top) x b;
  decide = λ x t u alike. decided_same d e t u alike (numbered x.name d.top) x;
  test = λ x j t u alike. tested_same d e t u alike (numbered x.name d.top) x j;
  close = λ x p c v t u alike. closes_same d e t u alike (numbered x.name d.top) x p c v;
  halts = λ x t u alike. halted_same d e t u alike x.name;
}
