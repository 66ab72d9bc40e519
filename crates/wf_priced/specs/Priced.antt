-- WHAT ROWS COST AT LEAST: what their actions cost before they had them.
use Rattle.std.specs.Prelude.{◌≡◌, ◌≤◌, ℕ, ◌+◌, ◌*◌, List, Some, None}
use Rattle.std.specs.Cmp.Lexicographic.{slice_cmp}
use Rattle.std.specs.Ordering.{nat_cmp}
use Rattle.wf_lists.specs.KeyOrder.{IsInKeyOrder}
use Rattle.wf_layers.specs.Address.{Address, Table}
use Rattle.wf_layers.specs.Called.{iterations}
use Rattle.wf_layers.specs.Definition.{Kind, Leaf, Scope, Choice, Foreach, Until, Graph, kind_of}
use Rattle.wf_layers.specs.Listed.{Lists}
use Rattle.wf_layers.specs.Machine.{IsContainer}
use Rattle.wf_layers.specs.Meaning.{last}
use Rattle.wf_layers.specs.Record.{key}
use Rattle.wf_layers.specs.Source.{Source, leaf}

module _ {Row Begun Decision Verdict : Type 0} (m : Source Row Begun Decision Verdict) where
  -- the row with which a container closes, by the rows f: of an Until, after all of its iterations and by its last test
  abbrev pub closing_row : Kind → Address → Table Row → Row
  closing_row Leaf x f = m.close x (m.decide x f) 0 None f
  closing_row (Scope g) x f = m.close x (m.decide x f) 0 None f
  closing_row (Choice bs) x f = m.close x (m.decide x f) 0 None f
  closing_row (Foreach pace g) x f = m.close x (m.decide x f) 0 None f
  closing_row (Until most g) x f =
      m.close x (m.decide x f) (iterations m (Until most g) x f) (last (iterations m (Until most g) x f) (λ j. m.test x j f)) f

  -- THE PREMISE, of the rows f: the row of a leaf that ran costs at least 64 for the leaf and for each of its attempts, and what it kept of
  -- its inputs; the row of a container that ran at least 64 for the container and for each of its iterations, and what it kept of what it
  -- decided by.
  pub record PaysItsParts (d : Graph) (f : Table Row) (cost : Row → ℕ) (begun_weight : Begun → ℕ) (weight : Decision → ℕ) : Type 0 where
    pub of_leaf : (x : Address) → kind_of d x.name ≡ Some Leaf → f x ≡ Some (leaf m x f)
        → 64 * (1 + m.tries x (m.start x f)) + begun_weight (m.start x f) ≤ cost (leaf m x f)
    pub of_container : (x : Address) (kind : Kind) → IsContainer kind → kind_of d x.name ≡ Some kind → f x ≡ Some (closing_row kind x f)
        → 64 * (1 + iterations m kind x f) + weight (m.decide x f) ≤ cost (closing_row kind x f)

-- The entries are the rows of the table, each once, in ascending order of names and then of indexes.
pub record TellsRows {Entry Row : Type 0} (at : Entry → Address) (row : Entry → Row) (f : Table Row) (entries : List Entry) : Type 0 where
  pub all : Lists at row f entries
  pub ordered : IsInKeyOrder (slice_cmp nat_cmp) (λ e. key (at e)) entries
