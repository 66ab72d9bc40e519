-- Each function is found under its own name: no two names are the same without letter case.
use Rattle.std.proofs.Common.{◌≡◌, map, Some, refl}
use Rattle.wf_val.specs.Function.{function_name, functions, function_of}

pub function_of-function_name : map (λ f. function_of (function_name f)) functions ≡ map Some functions
function_of-function_name = refl
