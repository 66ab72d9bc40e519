-- The text that values make, measured as it is put together.
use Rattle.std.specs.Prelude.{ℕ, List, [], ◌∷◌, Result, Ok}
use Rattle.wf_val.specs.declared.fault.EvalFault.{EvalFault}
use Rattle.wf_look.specs.Json as json_text
use Rattle.wf_look.specs.Measured.{Measured, with_more}
use Rattle.wf_look.specs.Outcomes.{Run, then_run}

-- the text that values make, behind what is there
abbrev pub measured : List Run → Measured → ℕ → Result Measured EvalFault × ℕ
measured [] m n = (Ok m, n)
measured (r ∷ rs) m n = then_run (r n) (λ t k. measured rs (with_more (json_text.text t) m) k)
