-- THE BRANCH OF A SWITCH in other words: that of the first case which is its value, or the one behind all cases where none is.
use Rattle.std.specs.Prelude.{◌≡◌, ◌≢◌, ℕ, suc, ◌<◌, List, length, Some, slice_get}
use Rattle.wf_val.specs.ValueTree.{ValueTree}
use Rattle.wf_def.specs.ActionTree.{CaseTree}

-- the case at place k, from 0, has another value
abbrev pub IsOther : List CaseTree → ValueTree → ℕ → Type 0
IsOther cases value k = (case : CaseTree) → slice_get cases k ≡ Some case → case.1.0 ≢ value

-- branch number n, counted from 1, is that of the value
pub data IsBranchOf (cases : List CaseTree) (value : ValueTree) : ℕ → Type 0 where
  -- of a case: it has the value, and all before it have others
  first : (k : ℕ) (case : CaseTree) → slice_get cases k ≡ Some case → case.1.0 ≡ value → ((j : ℕ) → j < k → IsOther cases value j)
      → IsBranchOf cases value (suc k)
  -- the one behind all cases: each has another value
  behind : ((j : ℕ) → IsOther cases value j) → IsBranchOf cases value (suc (length cases))
