-- Each action that is chosen by a name has run.
use Rattle.std.proofs.Common.{◌≡◌, ℕ, Bool, true, false, not, List, [], ◌∷◌, ◌++◌, Option, Some, None, is_none, option_map, ◌⊎◌, inl, inr}
use Rattle.std.proofs.Common.{refl, sym, ap, ◌∙◌, subst, nat_eq, eqb-true, true≢false}
use Rattle.std.specs.Prelude.{bytes_eq, if◌then◌else◌}
use Rattle.std.proofs.lemmas.Option.{none-some}
use Rattle.std.proofs.lemmas.Slice.Eq.{bytes_eq-Decides}
use Rattle.wf_layers.specs.Address.{address}
use Rattle.wf_layers.specs.Definition as layers
use Rattle.wf_layers.specs.Variables.{IsIdle}
use Rattle.wf_layers.proofs.Basics.{either, two, unless, when}
use Rattle.wf_def.specs.ActionTree.{ActionTree, action, action_name, KindTree, scope, branch, switch, switch_else, foreach, until}
use Rattle.wf_def.specs.ActionTree.{ActionTrees, no_actions, action_then, CaseTrees, no_cases, case_then}
use Rattle.wf_def.specs.AllActions.{all_actions, cases_actions, kind_actions, numbered}
use Rattle.wf_def.specs.DefTree.{DefTree}
use Rattle.wf_def.specs.Names.{find_cases, find_in, find_inside, first_of}
use Rattle.wf_record.specs.Record.{Row, RowTree, find_row}
use Rattle.wf_record.specs.declared.status.Status.{Status}
use Rattle.wf_shaped.specs.Environment.{Environment}
use Rattle.wf_shaped.specs.Statuses.{status_tree}
use Rattle.wf_shaped.specs.Look.{name_in}
use Rattle.wf_shaped.specs.Resubmitted.{rows_by}
use Rattle.wf_shaped.specs.Source.{source}
use Rattle.wf_redo.specs.Sets.{is_chosen}
use Rattle.wf_resubmit.specs.Least.{IsLeastOf, NoneHolds, least_of}
use Rattle.wf_resubmit.specs.Refused.{has_run, is_idle, is_missing, no_action, not_run, number_of, numbers_of, ran_as, refused_by_loops}
use Rattle.wf_resubmit.specs.Refused.{refused_by_rows, other_definition}
use Rattle.wf_resubmit.specs.Refused as refusals
use Rattle.wf_resubmit.specs.declared.fault.ResubmitFault.{ResubmitFault}
use Rattle.wf_resubmit.proofs.LeastLemmas.{least_is}
use Rattle.wf_shaped.proofs.ExactLemmas.{AreKnown}
use Rattle.wf_shaped.proofs.ListLemmas.{In, in_left, in_right}
use Rattle.wf_prepare.specs.Prepared.{digest_of}
use Rattle.wf_meant_laws.specs.Whole.{order_in}
use Rattle.wf_prepare.proofs.FailingLemmas.{numbered_is, same_some}

-- ---- the action of a name is among all, and has that name

pub record FoundAs (k : List ℕ) (all : List ActionTree) (a : ActionTree) : Type 0 where
  pub among : In a all
  pub name : action_name a ≡ k

first_split : (p q : Option ActionTree) (a : ActionTree) → first_of p q ≡ Some a → (p ≡ Some a) ⊎ (q ≡ Some a)
first_split None q a is = inr is
first_split (Some b) q a is = inl is

on_left : (k : List ℕ) (xs ys : List ActionTree) (a : ActionTree) → FoundAs k xs a → FoundAs k (xs ++ ys) a
on_left k xs ys a f = record { among = in_left a xs ys f.among; name = f.name }

on_right : (k : List ℕ) (xs ys : List ActionTree) (a : ActionTree) → FoundAs k ys a → FoundAs k (xs ++ ys) a
on_right k xs ys a f = record { among = in_right a xs ys f.among; name = f.name }

mutual
  pub found_as : (k : List ℕ) (t : ActionTrees) (a : ActionTree) → find_in k t ≡ Some a → FoundAs k (all_actions t) a
  found_as k no_actions a is = absurd (none-some a is)
  found_as k (action_then (action name number pointer after kind tracked) rest) a is =
      let here : ActionTree = action name number pointer after kind tracked in
      let own : Option ActionTree = if bytes_eq k name then Some here else find_inside k kind in
      elim (first_split own (find_in k rest) a is) [
        | inl one ↦ elim (two (bytes_eq k name)) [
          | inl same ↦
              let it : here ≡ a = same_some here a (sym (when (bytes_eq k name) (Some here) (find_inside k kind) same) ∙ one) in
              record { among = inl it; name = ap action_name (sym it) ∙ sym ((bytes_eq-Decides k name).0 same) }
          | inr other ↦
              let f : FoundAs k (kind_actions kind) a =
              found_inside k kind a (sym (unless (bytes_eq k name) (Some here) (find_inside k kind) other) ∙ one) in
              record { among = inr (in_left a (kind_actions kind) (all_actions rest) f.among); name = f.name }
        ]
        | inr later ↦
            let f : FoundAs k (all_actions rest) a = found_as k rest a later in
            record { among = inr (in_right a (kind_actions kind) (all_actions rest) f.among); name = f.name }
      ]

  found_inside : (k : List ℕ) (kind : KindTree) (a : ActionTree) → find_inside k kind ≡ Some a → FoundAs k (kind_actions kind) a
  found_inside k (scope graph) a is = found_as k graph a is
  found_inside k (branch test yes' no') a is = elim (first_split (find_in k yes') (find_in k no') a is) [
    | inl one ↦ on_left k (all_actions yes') (all_actions no') a (found_as k yes' a one)
    | inr other ↦ on_right k (all_actions yes') (all_actions no') a (found_as k no' a other)
  ]
  found_inside k (switch on cases) a is = found_cases k cases a is
  found_inside k (switch_else on cases default) a is = elim (first_split (find_cases k cases) (find_in k default) a is) [
    | inl one ↦ on_left k (cases_actions cases) (all_actions default) a (found_cases k cases a one)
    | inr other ↦ on_right k (cases_actions cases) (all_actions default) a (found_as k default a other)
  ]
  found_inside k (foreach items repetitions graph) a is = found_as k graph a is
  found_inside k (until test count fails graph) a is = found_as k graph a is
  found_inside k kind a is = absurd (none-some a is)

  found_cases : (k : List ℕ) (cases : CaseTrees) (a : ActionTree) → find_cases k cases ≡ Some a → FoundAs k (cases_actions cases) a
  found_cases k no_cases a is = absurd (none-some a is)
  found_cases k (case_then name value graph rest) a is = elim (first_split (find_in k graph) (find_cases k rest) a is) [
    | inl one ↦ on_left k (all_actions graph) (cases_actions rest) a (found_as k graph a one)
    | inr other ↦ on_right k (all_actions graph) (cases_actions rest) a (found_cases k rest a other)
  ]

-- ---- no name is of what didn't run

none_first : (a b : Option ResubmitFault) → refusals.first_of a b ≡ None → (a ≡ None) × (b ≡ None)
none_first None b is = (refl, is)
none_first (Some f) b is = absurd (cc)

none_named : (o : Option (List ℕ)) → no_action o ≡ None → o ≡ None
none_named None is = refl
none_named (Some k) is = absurd (cc)

none_idle : (o : Option (List ℕ)) → not_run o ≡ None → o ≡ None
none_idle None is = refl
none_idle (Some k) is = absurd (cc)

holds_nowhere : (test : List ℕ → Bool) (names : List (List ℕ)) → least_of test names ≡ None → NoneHolds test names
holds_nowhere test names is = subst (λ (o : Option (List ℕ)). IsLeastOf test names o) is (least_is test names)

-- a chosen number is that of a name's action, of which both questions are answered no
record ChosenBy (graph : ActionTrees) (rows : List RowTree) (x : ℕ) : Type 0 where
  k : List ℕ
  number : x ≡ number_of (find_in k graph)
  missing : is_missing graph k ≡ false
  idle : is_idle rows k ≡ false

chosen_by : (graph : ActionTrees) (rows : List RowTree) (names : List (List ℕ)) (x : ℕ) → NoneHolds (is_missing graph) names
    → NoneHolds (is_idle rows) names → is_chosen (numbers_of graph names) x ≡ true → ChosenBy graph rows x
chosen_by graph rows [] x there ran is = absurd (true≢false (sym is))
chosen_by graph rows (k ∷ ks) x there ran is =
    elim (either (nat_eq x (number_of (find_in k graph))) (is_chosen (numbers_of graph ks) x) is) [
      | inl own ↦ record { k = k; number = eqb-true x (number_of (find_in k graph)) own; missing = there.0; idle = ran.0 }
      | inr later ↦ chosen_by graph rows ks x there.1 ran.1 later
    ]

run_where : (b : Bool) → not b ≡ false → b ≡ true
run_where true is = refl
run_where false is = absurd (true≢false is)

-- a row of what ran isn't idle
ran_not_idle : (d : DefTree) (e : Environment) (row : Row) → ran_as row.status ≡ true → IsIdle (source d e) row → ⊥
ran_not_idle d e row ran (inl is) = true≢false (sym ran ∙ ap (λ (r : Row). ran_as r.status) is)
ran_not_idle d e row ran (inr is) = at row.status ran is
  where
    at : (s : Status) → ran_as s ≡ true → status_tree s ≡ layers.Skipped → ⊥
    at Status.Succeeded t is' = absurd (cc)
    at Status.Failed t is' = absurd (cc)
    at Status.Skipped t is' = true≢false (sym t)
    at Status.TimedOut t is' = absurd (cc)
    at Status.Cancelled t is' = absurd (cc)

row_ran : (o : Option RowTree) (row : Row) → option_map (λ (r : RowTree). r.row) o ≡ Some row → has_run o ≡ true
    → ran_as row.status ≡ true
row_ran None row is ran = absurd (none-some row is)
row_ran (Some r) row is ran = subst (λ (q : Row). ran_as q.status ≡ true) (same_some r.row row is) ran

module _ (d : DefTree) (known : AreKnown d) (rows : List RowTree) where
  at_found : (e : Environment) (x : ℕ) (k : List ℕ) (o : Option ActionTree) → find_in k d.top ≡ o → x ≡ number_of o → is_none o ≡ false
      → is_idle rows k ≡ false → (row : Row) → rows_by d rows (address x []) ≡ Some row → IsIdle (source d e) row → ⊥
  at_found e x k None is number missing ran row there = absurd (true≢false missing)
  at_found e x k (Some a) is number missing ran row there =
      let f : FoundAs k (all_actions d.top) a = found_as k d.top a is in
      let found : numbered x d.top ≡ Some a = ap (λ (n : ℕ). numbered n d.top) number ∙ numbered_is d known a f.among in
      ran_not_idle d e row
      (row_ran (find_row (record { name = k; at = [] }) rows) row
      (ap (λ (n : List ℕ). option_map (λ (r : RowTree). r.row) (find_row (record { name = n; at = [] }) rows)) (sym f.name)
      ∙ (ap (λ (p : Option ActionTree). option_map (λ (r : RowTree). r.row) (find_row (record { name = name_in p; at = [] }) rows))
      (sym found) ∙ there))
      (run_where (has_run (find_row (record { name = k; at = [] }) rows)) ran))

  -- THE LEMMA
  pub chosen_ran : (names : List (List ℕ)) → NoneHolds (is_missing d.top) names → NoneHolds (is_idle rows) names → (e : Environment)
      → (x : ℕ) (row : Row) → is_chosen (numbers_of d.top names) x ≡ true → rows_by d rows (address x []) ≡ Some row
      → IsIdle (source d e) row → ⊥
  chosen_ran names there ran e x row is at_row =
      let c : ChosenBy d.top rows x = chosen_by d.top rows names x there ran is in
      at_found e x c.k (find_in c.k d.top) refl c.number c.missing c.idle row at_row

-- where the names aren't refused
pub record Asked (d : DefTree) (rows : List RowTree) (names : List (List ℕ)) : Type 0 where
  pub there : NoneHolds (is_missing d.top) names
  pub ran : NoneHolds (is_idle rows) names

pub asked : (d : DefTree) (digest : List ℕ) (rows : List RowTree) (names : List (List ℕ))
    → refusals.refused d.top (order_in d) (digest_of d.digest) (digest_of digest) rows names ≡ None → Asked d rows names
asked d digest rows names is =
    let given = digest_of d.digest in
    let kept = digest_of digest in
    let o = order_in d in
    let first = none_first (no_action (least_of (is_missing d.top) names))
    (refusals.first_of (refused_by_loops d.top o names) (refused_by_rows given kept rows names)) is in
    let next = none_first (refused_by_loops d.top o names) (refused_by_rows given kept rows names) first.1 in
    let last = none_first (not_run (least_of (is_idle rows) names)) (other_definition kept given) next.1 in record {
      there = holds_nowhere (is_missing d.top) names (none_named (least_of (is_missing d.top) names) first.0);
      ran = holds_nowhere (is_idle rows) names (none_idle (least_of (is_idle rows) names) last.0);
    }
