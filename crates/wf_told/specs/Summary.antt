-- The line below a run's record: how the run went.
use Rattle.std.specs.Prelude.{ℕ, List, [], ◌∷◌, ◌++◌, codes, decimal}

-- of a run of this name: how many steps it took, and how many actions were running at a time at most
unfoldable pub summary_line : List ℕ → ℕ → ℕ → List ℕ
summary_line run steps peak = codes "# run " ++ run ++ codes " steps " ++ decimal steps ++ codes " peak " ++ decimal peak ++ 10 ∷ []
