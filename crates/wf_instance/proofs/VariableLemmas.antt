-- The value of a variable at a point is told by the rows that the point sees alone.
use Rattle.std.proofs.Common.{◌≡◌, ℕ, true, List, Option, None, inl, inr, sym, ap, ◌∙◌}
use Rattle.wf_val.specs.ValueTree.{ValueTree}
use Rattle.wf_layers.specs.Address.{Address, Table}
use Rattle.wf_layers.proofs.Basics.{two, when, unless}
use Rattle.wf_meant.specs.DefTree.{DefTree}
use Rattle.wf_meant.specs.Points.{Point, sees}
use Rattle.wf_record.specs.Record.{Row}
use Rattle.wf_meant.specs.Variables.{seen_by, variable_at, last_from, written_at, writes, indexes_from}
use Rattle.wf_meant.specs.Points.{graph_of}
use Rattle.wf_meant.specs.Loops.{loops_of}
use Rattle.wf_layers.specs.Address.{address}
use Rattle.std.specs.Prelude.{[], map, flat_map, filter, filter_map, option_map}
use Rattle.wf_meant.specs.ActionTree.{action_number}
use Rattle.wf_meant.specs.AllActions.{all_actions}

module _ (d : DefTree) (p : Point) (t u : Table Row) (same : (x : Address) → sees p x ≡ true → t x ≡ u x) where
  seen_one : (x : Address) → seen_by p t x ≡ seen_by p u x
  seen_one x = elim (two (sees p x)) [
    | inl s ↦ when (sees p x) (t x) None s ∙ (same x s ∙ sym (when (sees p x) (u x) None s))
    | inr f ↦ unless (sees p x) (t x) None f ∙ sym (unless (sees p x) (u x) None f)
  ]

  pub seen_same : seen_by p t ≡ seen_by p u
  seen_same k x = seen_one x k

  -- of all that is seen
  abbrev told : Table Row → List ℕ → Option ValueTree
  told rows v =
      option_map (λ w. w.value) (last_from d None (flat_map
      (λ a. filter_map (written_at v rows) (map (address (action_number a))
      (indexes_from d rows (loops_of (graph_of d) (action_number a)) [] p.loops p.at)))
      (filter (writes v) (all_actions d.top))))

  pub variable_same : (v : List ℕ) → variable_at d p t v ≡ variable_at d p u v
  variable_same v = ap (λ (rows : Table Row). told rows v) seen_same
