-- Worked values of what is kept.
use Rattle.std.proofs.Common.{◌≡◌, ℕ, List, [], ◌∷◌, refl}
use Rattle.wf_talk.specs.declared.want.Want.{Want}
use Rattle.wf_waits.specs.Kept.{kept_with, kept_without, waiting_key}
use Rattle.wf_waits.specs.declared.waiting.Fresh.{Fresh}
use Rattle.wf_waits.specs.declared.waiting.Waiting.{Waiting}

-- the attempt of a number at the action whose name is one letter
abbrev want : ℕ → ℕ → Want
want letter attempt = record { address = record { name = letter ∷ []; at = [] }; attempt = attempt }

abbrev waiting : ℕ → ℕ → Waiting
waiting letter attempt = record { want = want letter attempt; instance = record { action = letter; at = [] } }

abbrev fresh : ℕ → ℕ → Fresh
fresh letter attempt = record { want = want letter attempt }

-- B waits: it alone is kept, and it is new
first : kept_with (waiting 66 1) ([], []) ≡ (waiting 66 1 ∷ [], fresh 66 1 ∷ [])
first = refl

-- A goes before it, whichever of them came first
in_order : kept_with (waiting 65 1) (waiting 66 1 ∷ [], fresh 66 1 ∷ []) ≡ (waiting 65 1 ∷ waiting 66 1 ∷ [], fresh 65 1 ∷ fresh 66 1 ∷ [])
in_order = refl

-- what waited earlier isn't new
beside_an_old_one : kept_with (waiting 65 1) (waiting 66 1 ∷ [], []) ≡ (waiting 65 1 ∷ waiting 66 1 ∷ [], fresh 65 1 ∷ [])
beside_an_old_one = refl

-- and is kept once
once : kept_with (waiting 66 1) (waiting 66 1 ∷ [], []) ≡ (waiting 66 1 ∷ [], [])
once = refl

-- another attempt of the same action has a key of its own
next_attempt : kept_with (waiting 66 2) (waiting 66 1 ∷ [], []) ≡ (waiting 66 1 ∷ waiting 66 2 ∷ [], fresh 66 2 ∷ [])
next_attempt = refl

-- the answer of B comes: A waits on, and isn't new
taken : kept_without (waiting_key (waiting 66 1)) (waiting 65 1 ∷ waiting 66 1 ∷ [], fresh 65 1 ∷ []) ≡ (waiting 65 1 ∷ [], [])
taken = refl
