-- What the loops round an instance are to who sees it.
use Rattle.std.specs.Prelude.{◌≡◌, ◌<◌, ◌≤◌, ℕ, Bool, List, ◌∷◌, ◌++◌, length, Some, None}
use Rattle.wf_layers.specs.Address.{Address, Table, address}
use Rattle.wf_layers.specs.Called.{iterations}
use Rattle.wf_layers.specs.Definition.{Graph, Kind, Foreach, Until, kind_of}
use Rattle.wf_layers.specs.Meaning.{last}
use Rattle.wf_layers.specs.Resubmission.{Split, kept}
use Rattle.wf_layers.specs.Source.{Source}
use Rattle.wf_loops.specs.Loops.{loops_of}

-- x stands in the loop l, round which are the loops `outer`: in the iteration `turn` of the instance of l at the indexes `at`
pub record IsInTurnOf (g : Graph) (x : Address) (l : ℕ) (outer at : List ℕ) (turn : ℕ) : Type 0 where
  pub inner : List ℕ
  pub loops : loops_of g x.name ≡ outer ++ l ∷ inner
  pub behind : List ℕ
  pub indexes : x.at ≡ at ++ turn ∷ behind
  pub each_loop : length at ≡ length outer

-- z stands in that instance of l, too, in an iteration that isn't before this one
pub record IsInTurnFrom (g : Graph) (z : Address) (l : ℕ) (outer at : List ℕ) (turn : ℕ) : Type 0 where
  pub own : ℕ
  pub stands : IsInTurnOf g z l outer at own
  pub from : turn ≤ own

-- By the rows f, a loop of this kind at x was closed with more than `turn` iterations: a Foreach with more items, an Until with more
-- rounds.
module _ {Row Begun Decision Verdict : Type 0} (m : Source Row Begun Decision Verdict) (f : Table Row) where
  abbrev pub HadMore : Kind → Address → ℕ → Type 0
  HadMore (Foreach pace g) x turn = (f x ≡ Some (m.close x (m.decide x f) 0 None f)) × (turn < m.items (m.decide x f))
  HadMore (Until most g) x turn =
      (f x ≡ Some (m.close x (m.decide x f) (iterations m (Until most g) x f)
      (last (iterations m (Until most g) x f) (λ j. m.test x j f)) f)) × (turn < iterations m (Until most g) x f)
  HadMore kind x turn = ⊥

-- the action l is a loop, and at these indexes it was
pub record HadTurn {Row Begun Decision Verdict : Type 0} (g : Graph) (m : Source Row Begun Decision Verdict) (f : Table Row) (l : ℕ)
    (at : List ℕ) (turn : ℕ) : Type 0 where
  pub kind : Kind
  pub is : kind_of g l ≡ Some kind
  pub had : HadMore m f kind (address l at) turn

-- the source keeps the rows of what is neither redone nor closed again, in this division of the graph
pub record IsKept {Row Begun Decision Verdict : Type 0} (g : Graph) (m : Source Row Begun Decision Verdict) (redo again : ℕ → Bool)
    : Type 0 where
  pub split : Split redo again g
  pub pinned : (n : ℕ) → m.pinned n ≡ kept redo again n
