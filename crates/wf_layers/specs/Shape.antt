-- The right shape of a table of rows: rows stand at exactly the addresses that its own rows call for.
use Rattle.std.specs.Prelude.{◌≡◌, ℕ, ◌<◌, true, false, List, [], ◌∷◌, ◌++◌, Option, Some, None, nat_eq}
use Rattle.wf_layers.specs.Definition.{Skipped, Pace, Kind, Leaf, Scope, Choice, Foreach, Until, Branches, no_branch, branch, Graph, done, add, is_one, less_one, kind_of}
use Rattle.wf_layers.specs.Address.{Address, address, Table, starts, is_own, is_in, is_within}
use Rattle.wf_layers.specs.Source.{Source, leaf}
use Rattle.wf_layers.specs.Meaning.{last, skip, skip_all}
use Rattle.wf_layers.specs.Called.{iterations}

-- What is read from the row of a container that ran: of an If or Switch the branch, counted from 1, which depends on the action's cases; of
-- a Foreach and of an Until how many iterations it had.
pub record Reading (Row : Type 0) : Type 0 where
  pub taken : (action : ℕ) → Row → ℕ
  pub items : Row → ℕ
  pub rounds : Row → ℕ

-- Where what is skipped has a row, a row with the status Skipped, whatever else it says; where it has none, none.
abbrev pub SkippedAs : {Row Begun Decision Verdict : Type 0} → Source Row Begun Decision Verdict → Option Row → Option Row → Type 0
SkippedAs m None o = o ≡ None
SkippedAs {Row} m (Some p) o = (q : Row) × (o ≡ Some q) × (m.status q ≡ Skipped)

module _ {Row Begun Decision Verdict : Type 0} (m : Source Row Begun Decision Verdict) (read : Reading Row) (r : Table Row) where
  abbrev mutual
    -- Inside a container that ran with this row: in a Choice, the branch of its decision has the shape and the others have Skipped rows; a
    -- loop has as many iterations as its row says.
    pub ShapeIn : Kind → ℕ → List ℕ → Row → Type 0
    ShapeIn Leaf n i row = Unit {0}
    ShapeIn (Scope g) n i row = Shape g i
    ShapeIn (Choice bs) n i row = ShapeAny bs (read.taken n row) i
    ShapeIn (Foreach pace g) n i row =
        ((j : ℕ) → j < read.items row → Shape g (i ++ j ∷ []))
        × ((y : Address) → is_within g i y ≡ true → ((j : ℕ) → j < read.items row → starts (i ++ j ∷ []) y.at ≡ false) → r y ≡ None)
    ShapeIn (Until most g) n i row =
        ((j : ℕ) → j < read.rounds row → Shape g (i ++ j ∷ []))
        × ((y : Address) → is_within g i y ≡ true → ((j : ℕ) → j < read.rounds row → starts (i ++ j ∷ []) y.at ≡ false) → r y ≡ None)

    pub ShapeAny : Branches → ℕ → List ℕ → Type 0
    ShapeAny no_branch c i = Unit {0}
    ShapeAny (branch b rest) c i =
        (is_one c ≡ true → Shape b i) × (is_one c ≡ false → (y : Address) → is_within b i y ≡ true → SkippedAs m (skip_all m b i y) (r y))
        × ShapeAny rest (less_one c) i

    -- Each action has a row. Where that is Skipped, so are those inside it that are in no loop of it; else what is inside has the shape.
    pub Shape : Graph → List ℕ → Type 0
    Shape done i = Unit {0}
    Shape (add n after kind rest) i =
        ((row : Row) × (r (address n i) ≡ Some row)
        × (m.status row ≡ Skipped → (y : Address) → is_in n kind i y ≡ true → SkippedAs m (skip m n kind i y) (r y))
        × ((m.status row ≡ Skipped → ⊥) → ShapeIn kind n i row)
        × ((y : Address) → is_in n kind i y ≡ true → nat_eq n y.name ≡ true → is_own n i y ≡ false → r y ≡ None))
        × Shape rest i

-- The table has the right shape for the definition.
pub record HasShape {Row Begun Decision Verdict : Type 0} (d : Graph) (m : Source Row Begun Decision Verdict) (read : Reading Row)
    (r : Table Row) : Type 0 where
  pub within : Shape m read r d []
  pub outside : (y : Address) → is_within d [] y ≡ false → r y ≡ None

-- The premise on the reading, of the rows f: only what is skipped is Skipped, and the row of a container that ran tells, by its kind, what
-- is read from it.
pub record ReadsBack {Row Begun Decision Verdict : Type 0} (d : Graph) (m : Source Row Begun Decision Verdict) (f : Table Row)
    (read : Reading Row) : Type 0 where
  pub skipped : m.status m.skipped ≡ Skipped
  pub leaves : (x : Address) → m.status (leaf m x f) ≡ Skipped → ⊥
  pub closed : (x : Address) (c : ℕ) (v : Option Verdict) → m.status (m.close x (m.decide x f) c v f) ≡ Skipped → ⊥
  pub taken : (x : Address) (bs : Branches) → kind_of d x.name ≡ Some (Choice bs)
      → read.taken x.name (m.close x (m.decide x f) 0 None f) ≡ m.taken (m.decide x f)
  pub items : (x : Address) (pace : Pace) (g : Graph) → kind_of d x.name ≡ Some (Foreach pace g)
      → read.items (m.close x (m.decide x f) 0 None f) ≡ m.items (m.decide x f)
  pub rounds : (x : Address) (most : ℕ) (g : Graph) → kind_of d x.name ≡ Some (Until most g)
      → read.rounds (m.close x (m.decide x f) (iterations m (Until most g) x f)
      (last (iterations m (Until most g) x f) (λ j. m.test x j f)) f) ≡ iterations m (Until most g) x f
