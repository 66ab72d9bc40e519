-- What the calls of the outside do, and when they may fail.
use Rattle.std.specs.Prelude.{◌≡◌, ℕ, ◌+◌, ◌-◌, ◌^◌, ◌<◌, ◌≤◌, min, List, [], ◌∷◌, ◌++◌, length, Option, None, Some, Result, Ok, Err, Vec}
use Rattle.std.specs.Prelude.{IsSomeAnd, OnOk, OnErr}
use Rattle.std.specs.declared.alloc.Global.{Global}
use Rattle.wf_outside.specs.declared.faults.FileFault.{FileFault}
use Rattle.wf_outside.specs.declared.faults.FileFault.TheVariants.{Failed, TooLong, Memory}

-- What an object of files holds: the bytes of each name that it has, where it tells.
abbrev pub Held : Type 0
Held = Option (List ℕ → Option (List ℕ))

-- a count has risen, or stands at its last value
abbrev pub Rose : ℕ → ℕ → Type 0
Rose before now = min (before + 1) (2 ^ 64 - 1) ≤ now

-- a count hasn't risen, and doesn't stand at its last value
abbrev pub IsCalm : ℕ → ℕ → Type 0
IsCalm before now = now < min (before + 1) (2 ^ 64 - 1)

-- a count never falls, and rises where the call failed and nowhere else
pub record HasCause {T E : Type 0} (before now : ℕ) (result : Result T E) : Type 0 where
  pub later : before ≤ now
  pub calm : OnOk result (now ≡ before)
  pub failed : OnErr result (Rose before now)

-- What a read may answer, where the file is there or not. Any read may fail or want memory. Bytes that it gives are
-- the file's, all of them, and only a file over the limit is too long.
abbrev pub ReadsFrom : Option (List ℕ) → ℕ → Result (Vec ℕ Global) FileFault → Type 0
ReadsFrom file limit (Ok bytes) = file ≡ Some bytes.items
ReadsFrom file limit (Err Failed) = Unit {0}
ReadsFrom file limit (Err TooLong) = IsSomeAnd file (λ bytes. limit < length bytes)
ReadsFrom file limit (Err Memory) = Unit {0}

-- what a read may answer, where the object tells; of one that doesn't nothing is said
abbrev pub Tells : Held → List ℕ → ℕ → Result (Vec ℕ Global) FileFault → Type 0
Tells None name limit result = Unit {0}
Tells (Some bytes_of) name limit result = ReadsFrom (bytes_of name) limit result

-- A failed read puts its name at the end of the list, and no other read changes it.
abbrev pub failed_after : {T : Type 0} → List (List ℕ) → List ℕ → Result T FileFault → List (List ℕ)
failed_after names name (Ok bytes) = names
failed_after names name (Err Failed) = names ++ name ∷ []
failed_after names name (Err TooLong) = names
failed_after names name (Err Memory) = names
