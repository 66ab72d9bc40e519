-- The next moments of a trigger, and why it has none that can be told, as they are printed.
use Rattle.std.specs.Prelude.{ℕ, List, [], ◌∷◌, ◌++◌, Option, None, Ok, codes}
use Rattle.std.specs.List.{flat_map}
use Rattle.std.specs.Option.{option_and_then}
use Rattle.wf_fn_time.specs.Times.{print_time_row}
use Rattle.wf_form.specs.Fault.{inner_of}
use Rattle.wf_json.specs.Json.{string}
use Rattle.wf_recur.specs.declared.fault.RecurrenceFault.{RecurrenceFault}
use Rattle.wf_val.specs.Arguments.{Answer}
use Rattle.wf_val.specs.Get.{get}
use Rattle.wf_val.specs.ValueTree.{ValueTree, text}
use Rattle.wf_val.specs.declared.function.Fun.{Fun}

-- the trigger of a name in the file of a definition
abbrev pub trigger_in : List ℕ → ValueTree → Option ValueTree
trigger_in name file = option_and_then (get name) (get (codes "triggers") (inner_of file))

-- A refusal. Want of memory is none, and has a line of its own.
abbrev pub recurrence_words : RecurrenceFault → List ℕ
recurrence_words RecurrenceFault.NotRecurrence = codes "NotRecurrence"
recurrence_words (RecurrenceFault.Form pointer) = codes "Form " ++ string pointer
recurrence_words (RecurrenceFault.Zone name) = codes "Zone " ++ string name
recurrence_words RecurrenceFault.Memory = []

-- its line
unfoldable pub recurrence_line : List ℕ → List ℕ
recurrence_line words = codes "recurrence " ++ words ++ 10 ∷ []

abbrev pub text_in : Answer → List ℕ
text_in (Ok (text s)) = s
text_in answer = []

-- a moment as `formatDateTime` prints it where no pattern is given
abbrev pub moment_line : ℕ → List ℕ
moment_line m = text_in (print_time_row m None Fun.FormatDateTime) ++ 10 ∷ []

-- a moment a line
unfoldable pub moments_text : List ℕ → List ℕ
moments_text [] = codes "# none\n"
moments_text (m ∷ ms) = flat_map moment_line (m ∷ ms)
