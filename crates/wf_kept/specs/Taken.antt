-- HOW MANY EVENTS a state has taken, told by the state alone: with those that are left they are all that the meaning's rows give the
-- definition. So an engine that counts its events needs no list of them.
use Rattle.std.specs.Prelude.{◌≡◌, ℕ, ◌+◌, []}
use Rattle.wf_layers.specs.Definition.{Graph}
use Rattle.wf_layers.specs.Source.{Source}
use Rattle.wf_layers.specs.Meaning.{meaning}
use Rattle.wf_layers.specs.Bound.{total, left}
use Rattle.wf_layers.specs.Machine.{State}

abbrev pub HasTaken : {Row Begun Decision Verdict : Type 0} → Graph → (ℕ → ℕ) → Source Row Begun Decision Verdict
    → State Row Begun Decision Verdict → ℕ → Type 0
HasTaken d depth m s k = k + left m (meaning m depth d) s d [] ≡ total m (meaning m depth d) d []
