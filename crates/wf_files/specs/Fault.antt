-- Why a file isn't of its form, and the line that says so.
use Rattle.std.specs.Prelude.{ℕ, List, [], ◌∷◌, ◌++◌, codes, decimal}
use Rattle.wf_answers.specs.declared.fault.InputsFault.{InputsFault}
use Rattle.wf_json.specs.Json.{string}
use Rattle.wf_json.specs.declared.fault.JsonFault.{JsonFault}
use Rattle.wf_reading.specs.declared.definition.RuleFault.{RuleFault}
use Rattle.wf_schedule.specs.declared.fault.ScheduleFault.{ScheduleFault}
use Rattle.wf_files.specs.declared.fault.FormFault.{FormFault}

-- a fault of the JSON text, as a fault of the file
abbrev pub json_fault : JsonFault → FormFault
json_fault JsonFault.NotJson = FormFault.NotJson
json_fault (JsonFault.NotWhole pointer) = FormFault.NotWhole pointer
json_fault (JsonFault.TooDeep pointer) = FormFault.TooDeep pointer
json_fault JsonFault.Memory = FormFault.Memory

-- a rule that is broken
abbrev pub rule_fault : RuleFault → FormFault
rule_fault (RuleFault.Rule rule pointer) = FormFault.Rule rule pointer
rule_fault RuleFault.Memory = FormFault.Memory

-- a fault of inputs
abbrev pub inputs_fault : InputsFault → FormFault
inputs_fault (InputsFault.Form pointer) = FormFault.Form pointer
inputs_fault (InputsFault.Twice address attempt) = FormFault.Twice address attempt
inputs_fault InputsFault.Moment = FormFault.Moment
inputs_fault InputsFault.Memory = FormFault.Memory

-- a fault of a schedule
abbrev pub schedule_fault : ScheduleFault → FormFault
schedule_fault (ScheduleFault.Line number) = FormFault.Line number
schedule_fault ScheduleFault.Memory = FormFault.Memory

-- A fault of a file, as it is printed. Want of memory is none, and has a line of its own.
abbrev pub form_words : FormFault → List ℕ
form_words FormFault.TooLong = codes "too long"
form_words FormFault.NotJson = codes "NotJson"
form_words (FormFault.NotWhole pointer) = codes "NotWhole " ++ string pointer
form_words (FormFault.TooDeep pointer) = codes "TooDeep " ++ string pointer
form_words (FormFault.Rule rule pointer) = codes "V" ++ (decimal rule ++ (32 ∷ string pointer))
form_words (FormFault.Form pointer) = codes "Form " ++ string pointer
form_words (FormFault.Twice address attempt) = codes "Twice " ++ (string address ++ (32 ∷ decimal attempt))
form_words FormFault.Moment = codes "Moment"
form_words (FormFault.Line number) = codes "Line " ++ decimal number
form_words FormFault.Memory = []

-- the line of a fault of a file, which names the file by its part in the command
unfoldable pub fault_line : List ℕ → FormFault → List ℕ
fault_line part fault = part ++ form_words fault ++ 10 ∷ []
