-- What the functions on time share: the moment and the pattern that stand among the arguments, and a moment printed. The
-- types of all arguments are judged first, then the timestamp, then the pattern, then what the function itself refuses.
use Rattle.std.specs.Prelude.{ℕ, List, Option, Some, None, Result, Ok, Err}
use Rattle.wf_val.specs.Arguments.{Answer, given, text_at, optional_text_at, bounded}
use Rattle.wf_val.specs.ValueTree.{ValueTree, text}
use Rattle.wf_val.specs.declared.fault.EvalFault.{EvalFault}
use Rattle.wf_val.specs.declared.function.Fun.{Fun}
use Rattle.wf_fn_time.specs.Clock.{clock_at}
use Rattle.wf_fn_time.specs.Pattern.{default_pattern, parts_of}
use Rattle.wf_fn_time.specs.Printing.{printed}
use Rattle.wf_fn_time.specs.Reading.{read_time}
use Rattle.wf_fn_time.specs.declared.pattern.Part.{Part}

abbrev pub or_bad_text : {X : Type 0} → Fun → Option X → Result X EvalFault
or_bad_text f (Some x) = Ok x
or_bad_text f None = Err (EvalFault.BadText f)

abbrev pub or_range : {X : Type 0} → Fun → Option X → Result X EvalFault
or_range f (Some x) = Ok x
or_range f None = Err (EvalFault.Range f)

-- the moment of a timestamp
abbrev pub moment_of : Fun → List ℕ → Result ℕ EvalFault
moment_of f s = or_bad_text f (read_time s)

-- the pattern, by default that of round trips
abbrev pub pattern_or_default : Option (List ℕ) → List ℕ
pattern_or_default (Some p) = p
pattern_or_default None = default_pattern

abbrev pub pattern_of : Fun → Option (List ℕ) → Result (List Part) EvalFault
pattern_of f p = or_bad_text f (parts_of (pattern_or_default p))

-- a moment printed
abbrev pub printed_value : ℕ → List Part → Answer
printed_value t ps = bounded (text (printed (clock_at t) ps))

abbrev pub print_time_row : ℕ → Option (List ℕ) → Fun → Answer
print_time_row t p f = given (pattern_of f p) (λ ps. printed_value t ps)

-- the moment that is the first argument, and the pattern that may be the second
abbrev pub moment_and_pattern : Fun → List ValueTree → Result (ℕ × List Part) EvalFault
moment_and_pattern f ts =
    given (text_at f ts 0) (λ s. given (optional_text_at f ts 1) (λ p. given (moment_of f s) (λ t. given (pattern_of f p) (λ ps.
    Ok (t, ps)))))

-- the moment that is the first argument
abbrev pub moment_at : Fun → List ValueTree → Result ℕ EvalFault
moment_at f ts = given (text_at f ts 0) (λ s. moment_of f s)
