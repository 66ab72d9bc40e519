-- Cells that may hold an item each, and lists of cells in chunks of one size.
use Rattle.std.specs.Prelude.{◌≡◌, ◌<◌, ◌≤◌, ◌+◌, ℕ, zero, suc, List, [], ◌∷◌, ◌++◌, length, map, Option, Some, None, ⊤, replicate}

module _ {X : Type 0} where
  -- the items of the cells that hold one
  abbrev pub held : List (Option X) → List X
  held [] = []
  held (None ∷ cells) = held cells
  held (Some x ∷ cells) = x ∷ held cells

  -- cells that hold these items, and so many empty ones behind them
  abbrev pub laid : List X → ℕ → List (Option X)
  laid xs n = map Some xs ++ replicate n None

module _ {X : Type 0} where
  -- all cells of the chunks, of which each tells beside its cells for how many more it has room
  abbrev pub all_cells : List (List X × ℕ) → List X
  all_cells [] = []
  all_cells (chunk ∷ chunks) = chunk.0 ++ all_cells chunks

  -- each chunk has 1,024 cells
  abbrev pub AreFull : List (List X × ℕ) → Type 0
  AreFull [] = ⊤
  AreFull (chunk ∷ chunks) = (length chunk.0 ≡ 1024) × AreFull chunks

  -- each but the last one, which has some, and at most as many
  abbrev pub AreEven : List (List X × ℕ) → Type 0
  AreEven [] = ⊤
  AreEven (chunk ∷ []) = (0 < length chunk.0) × (length chunk.0 ≤ 1024)
  AreEven (chunk ∷ next ∷ chunks) = (length chunk.0 ≡ 1024) × AreEven (next ∷ chunks)

  -- they are even, and the last one isn't full
  abbrev pub IsLastShort : List (List X × ℕ) → Type 0
  IsLastShort [] = ⊥
  IsLastShort (chunk ∷ []) = (0 < length chunk.0) × (length chunk.0 < 1024)
  IsLastShort (chunk ∷ next ∷ chunks) = (length chunk.0 ≡ 1024) × IsLastShort (next ∷ chunks)

  -- they would be even with one cell more in the chunk at a place, which has room for it
  abbrev pub HasHole : ℕ → List (List X × ℕ) → Type 0
  HasHole hole [] = ⊥
  HasHole zero (chunk ∷ []) = (length chunk.0 < 1024) × (0 < chunk.1)
  HasHole zero (chunk ∷ next ∷ chunks) = (length chunk.0 + 1 ≡ 1024) × (0 < chunk.1) × AreEven (next ∷ chunks)
  HasHole (suc hole) (chunk ∷ []) = ⊥
  HasHole (suc hole) (chunk ∷ next ∷ chunks) = (length chunk.0 ≡ 1024) × HasHole hole (next ∷ chunks)
