-- The text that values make.
use Rattle.std.specs.Prelude.{ℕ, List, [], ◌∷◌, ◌++◌, Result, Ok}
use Rattle.wf_val.specs.Arguments.{Answer, bounded}
use Rattle.wf_val.specs.ValueTree.{text}
use Rattle.wf_val.specs.declared.fault.EvalFault.{EvalFault}
use Rattle.wf_look.specs.Json as json_text
use Rattle.wf_look.specs.Outcomes.{Run, then_run}

-- the text that values make, behind what is there: each joins it as text
abbrev pub joined : List Run → List ℕ → ℕ → Result (List ℕ) EvalFault × ℕ
joined [] done n = (Ok done, n)
joined (r ∷ rs) done n = then_run (r n) (λ t m. joined rs (done ++ json_text.text t) m)

-- a text, where it fits
abbrev pub text_answer : List ℕ → Answer
text_answer s = bounded (text s)
