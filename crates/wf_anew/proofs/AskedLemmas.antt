-- What isn't refused is asked of: the chosen actions are there, stand in no loop, and each has a row that isn't Skipped.
use Rattle.std.proofs.Common.{◌≡◌, ℕ, Bool, true, false, not, List, [], ◌∷◌, Option, Some, None, is_none, nat_eq, refl, ap, ◌∙◌}
use Rattle.std.proofs.Common.{subst, inl, inr, eqb-true, true≢false}
use Rattle.wf_val.specs.declared.digest.Digest.{Digest}
use Rattle.wf_layers.specs.Address.{address}
use Rattle.wf_layers.proofs.Basics.{either}
use Rattle.wf_def.specs.ActionTree.{ActionTree, action_number, ActionTrees}
use Rattle.wf_def.specs.AllActions.{numbered}
use Rattle.wf_def.specs.DefTree.{DefTree}
use Rattle.wf_def.specs.Names.{find_in}
use Rattle.wf_record.specs.Record.{RecordTree, RowTree, find_row}
use Rattle.wf_standing.specs.Whole.{order_in}
use Rattle.wf_turns.specs.Look.{instance, name_in, name_of}
use Rattle.wf_turns.specs.Resubmitted.{is_chosen}
use Rattle.wf_resubmit.specs.Chosen.{MayBeRedone}
use Rattle.wf_resubmit.specs.Least.{IsLeastOf, NoneHolds, least_of}
use Rattle.wf_resubmit.specs.Refused as refusals
use Rattle.wf_resubmit.specs.Refused.{has_run, is_idle, is_missing, no_action, not_run, number_of, numbers_of, other_definition, refused}
use Rattle.wf_resubmit.specs.Refused.{refused_by_loops, refused_by_rows}
use Rattle.wf_resubmit.specs.declared.fault.ResubmitFault.{ResubmitFault}
use Rattle.wf_resubmit.proofs.LeastLemmas.{least_is}
use Rattle.wf_order.specs.Table.{OrderTree}
use Rattle.wf_turns.specs.Points.{graph_of}
use Rattle.wf_anew.specs.Asked.{IsAccepted, IsAskedOf}
use Rattle.wf_anew.specs.Known.{AreNamed}
use Rattle.wf_anew.proofs.NameLemmas.{found_in}

none_first : (a b : Option ResubmitFault) → refusals.first_of a b ≡ None → (a ≡ None) × (b ≡ None)
none_first None b is = (refl, is)
none_first (Some f) b is = absurd (cc)

none_missing : (o : Option (List ℕ)) → no_action o ≡ None → o ≡ None
none_missing None is = refl
none_missing (Some k) is = absurd (cc)

none_idle : (o : Option (List ℕ)) → not_run o ≡ None → o ≡ None
none_idle None is = refl
none_idle (Some k) is = absurd (cc)

holds_nowhere : (test : List ℕ → Bool) (names : List (List ℕ)) → least_of test names ≡ None → NoneHolds test names
holds_nowhere test names is = subst (λ (o : Option (List ℕ)). IsLeastOf test names o) is (least_is test names)

-- where nothing is refused, no name is missing, and none hasn't run
record Fine (graph : ActionTrees) (rows : List RowTree) (names : List (List ℕ)) : Type 0 where
  there : NoneHolds (is_missing graph) names
  ran : NoneHolds (is_idle rows) names

fine : (graph : ActionTrees) (o : OrderTree) (given kept : Digest) (rows : List RowTree) (names : List (List ℕ))
    → refused graph o given kept rows names ≡ None → Fine graph rows names
fine graph o given kept rows names is =
    let first = none_first (no_action (least_of (is_missing graph) names))
    (refusals.first_of (refused_by_loops graph o names) (refused_by_rows given kept rows names)) is in
    let next = none_first (refused_by_loops graph o names) (refused_by_rows given kept rows names) first.1 in
    let last = none_first (not_run (least_of (is_idle rows) names)) (other_definition kept given) next.1 in record {
      there = holds_nowhere (is_missing graph) names (none_missing (least_of (is_missing graph) names) first.0);
      ran = holds_nowhere (is_idle rows) names (none_idle (least_of (is_idle rows) names) last.0);
    }

not_false : (b : Bool) → not b ≡ false → b ≡ true
not_false true is = refl
not_false false is = absurd (true≢false is)

-- a chosen number is that of a name's action
record Picked (graph : ActionTrees) (rows : List RowTree) (names : List (List ℕ)) (n : ℕ) : Type 0 where
  name : List ℕ
  number : n ≡ number_of (find_in name graph)
  missing : is_missing graph name ≡ false
  idle : is_idle rows name ≡ false

picked : (graph : ActionTrees) (rows : List RowTree) (names : List (List ℕ)) (n : ℕ) → NoneHolds (is_missing graph) names
    → NoneHolds (is_idle rows) names → is_chosen (numbers_of graph names) n ≡ true → Picked graph rows names n
picked graph rows [] n there ran is = absurd (cc)
picked graph rows (k ∷ ks) n there ran is =
    elim (either (nat_eq n (number_of (find_in k graph))) (is_chosen (numbers_of graph ks) n) is) [
      | inl own ↦ record {
        name = k;
        number = eqb-true n (number_of (find_in k graph)) own;
        missing = there.0;
        idle = ran.0;
      }
      | inr later ↦
          let p : Picked graph rows ks n = picked graph rows ks n there.1 ran.1 later in
          record { name = p.name; number = p.number; missing = p.missing; idle = p.idle }
    ]

module _ (d : DefTree) (known : AreNamed d) (r : RecordTree) where
  ran_at : (n : ℕ) (k : List ℕ) (o : Option ActionTree) → find_in k d.top ≡ o → n ≡ number_of o → is_none o ≡ false
      → is_idle r.rows k ≡ false → has_run (find_row (instance d (address n [])) r.rows) ≡ true
  ran_at n k None is number missing idle = absurd (true≢false missing)
  ran_at n k (Some a) is number missing idle =
      let found = found_in (λ b. numbered (action_number b) d.top ≡ Some b) k d.top a known.numbers is in
      let name : name_of d n ≡ k = ap (name_of d) number ∙ (ap name_in found.0 ∙ found.1) in
      ap (λ (q : List ℕ). has_run (find_row (record { name = q; at = [] }) r.rows)) name
      ∙ not_false (has_run (find_row (record { name = k; at = [] }) r.rows)) idle

  pub asked_of : (names : List (List ℕ)) → (IsAccepted d r names → MayBeRedone (graph_of d) (numbers_of d.top names))
      → IsAccepted d r names → IsAskedOf d r (numbers_of d.top names)
  asked_of names may is =
      let all = fine d.top (order_in d) (record { bytes = d.digest }) (record { bytes = r.digest }) r.rows names is in record {
        may = may is;
        ran = λ n chosen.
            let p = picked d.top r.rows names n all.there all.ran chosen in
            ran_at n p.name (find_in p.name d.top) refl p.number p.missing p.idle;
      }
