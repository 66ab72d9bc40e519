-- Of each two rows of a record of the right shape that write a variable one sees the other.
use Rattle.std.proofs.Common.{◌≡◌, ℕ, Bool, true, false, cond, Some, None, ◌⊎◌, inl, inr, sym, ◌∙◌}
use Rattle.std.proofs.lemmas.Option.{none-some}
use Rattle.wf_layers.specs.Address.{Address, SeenIn, Table}
use Rattle.wf_layers.specs.Definition.{Skipped}
use Rattle.wf_layers.specs.Shape.{HasShape}
use Rattle.wf_layers.specs.Variables.{IsOrdered, OneOrder}
use Rattle.wf_layers.proofs.Basics.{when}
use Rattle.wf_asks.specs.Known.{writer}
use Rattle.wf_def.specs.DefTree.{DefTree}
use Rattle.wf_record.specs.Record.{Row}
use Rattle.wf_turns.specs.Environment.{Environment}
use Rattle.wf_turns.specs.Statuses.{status_tree}
use Rattle.wf_turns.specs.Points.{graph_of}
use Rattle.wf_turns.specs.Source.{source}
use Rattle.wf_turns.specs.Reading.{reading}
use Rattle.wf_sight_laws.specs.Writes.{writes}
use Rattle.wf_regained.specs.Last.{AreInLine}
use Rattle.wf_regained.proofs.ApartLemmas.{one_is_idle}

module _ (d : DefTree) (e : Environment) (rows : Table Row) (shape : HasShape (graph_of d) (source d e) (reading d) rows)
    (order : (v : ℕ) → OneOrder (graph_of d) (source d e) (writer (writes d) v) rows) where
  some_written : (v : ℕ) (y : Address) (row : Row) → writes d v y row ≡ true → writer (writes d) v y row ≡ None → ⊥
  some_written v y row is none = none-some y (sym none ∙ when (writes d v y row) (Some y) None is)

  -- what writes isn't Skipped
  ran : (v : ℕ) (y : Address) (row : Row) → writes d v y row ≡ true → status_tree row.status ≡ Skipped → ⊥
  ran v y row is skipped = some_written v y row is ((order v).idle y row (inr skipped))

  abbrev OneSees : Address → Address → Type 0
  OneSees x y = (x ≡ y) ⊎ (SeenIn (graph_of d) x y ⊎ SeenIn (graph_of d) y x)

  line : AreInLine d rows
  line v x y q r of_x of_y wx wy =
      go ((order v).ordered x y q r of_x of_y (some_written v x q wx) (some_written v y r wy))
    where
      go : (x ≡ y) ⊎ IsOrdered (graph_of d) x y → OneSees x y
      go (inl same) = inl same
      go (inr (inl s)) = inr s
      go (inr (inr apart)) =
          elim (one_is_idle (graph_of d) (source d e) (reading d) rows shape x y q r of_x of_y apart.1) [
            | inl idle ↦ absurd (ran v x q wx idle)
            | inr idle ↦ absurd (ran v y r wy idle)
          ]

  had : (x : Address) (q : Row) (b : Bool) → cond b (rows x) None ≡ Some q → rows x ≡ Some q
  had x q true is = is
  had x q false is = absurd (none-some q is)

  -- THE LAW: nor do those differ that are kept
  pub kept_line : (keeps : ℕ → Bool) (kept : Table Row) → ((x : Address) → kept x ≡ cond (keeps x.name) (rows x) None) → AreInLine d kept
  kept_line keeps kept are v x y q r of_x of_y wx wy =
      line v x y q r (had x q (keeps x.name) (sym (are x) ∙ of_x)) (had y r (keeps y.name) (sym (are y) ∙ of_y)) wx wy
