-- WHAT IS CALLED FOR: the actions of the definition's own graph, and what stands in a container whose row is called for and fits, in each
-- iteration that the row says.
use Rattle.std.specs.Prelude.{◌≡◌, ◌↔◌, ℕ, Bool, true, false, List, [], ◌∷◌, ◌++◌, Some}
use Rattle.wf_layers.specs.Definition.{Graph, Kind, has, has_own, kind_of}
use Rattle.wf_layers.specs.Address.{Address, Table, address}
use Rattle.wf_layers.specs.Seen.{Once}
use Rattle.wf_layers.specs.Shape.{Reading}
use Rattle.wf_shape.specs.Standing.{called, stand, standing, uncalled}
use Rattle.wf_ways.specs.Along.{along, calls}
use Rattle.wf_ways.specs.Way.{Into, enters, step, way}

module _ {Row : Type 0} (read : Reading Row) (is_skipped : Row → Bool) (fits : ℕ → Bool → Row → Bool) (r : Table Row) (d : Graph) where
  -- by the row of the container c at the indexes z
  pub record CalledInside (y : Address) : Type 0 where
    pub c : ℕ
    pub z : List ℕ
    pub more : List ℕ
    pub row : Row
    pub skipped : Bool
    pub kind : Kind
    pub into : Into
    pub is_called : standing read is_skipped fits r d (address c z) ≡ called skipped
    pub there : r (address c z) ≡ Some row
    pub row_fits : fits c skipped row ≡ true
    pub of_kind : kind_of d c ≡ Some kind
    pub stands_in : enters kind into y.name ≡ true
    pub is_meant : calls read is_skipped fits r into row more ≡ true
    pub indexes : y.at ≡ z ++ more

  pub data CalledBy (y : Address) : Type 0 where
    at_top : has_own d y.name ≡ true → y.at ≡ [] → CalledBy y
    inside : CalledInside y → CalledBy y

  -- an address is called for exactly there
  abbrev pub CalledByARow : Type 0
  CalledByARow = Once d → (y : Address) → ((s : Bool) × (standing read is_skipped fits r d y ≡ called s)) ↔ CalledBy y

  -- an address stands as it does along the way to its action; of what is no action, none is called for
  abbrev pub StandsAlong : Type 0
  StandsAlong =
      (x : ℕ) (skipped : Bool) (i rest : List ℕ)
      → (has d x ≡ true → stand read is_skipped fits r d x skipped i rest ≡ along read is_skipped fits r (way d x) skipped i rest)
      × (has d x ≡ false → stand read is_skipped fits r d x skipped i rest ≡ uncalled)

-- the way to what stands in a container is the way to the container, and into it
abbrev pub IsBehind : Graph → Type 0
IsBehind d =
    Once d → (c x : ℕ) (kind : Kind) (into : Into) → kind_of d c ≡ Some kind → enters kind into x ≡ true
    → way d x ≡ way d c ++ step c into ∷ []
