-- Why a run isn't resubmitted, as it is printed: its record isn't found, or it can't be resubmitted from the actions that are named.
use Rattle.std.specs.Prelude.{ℕ, List, [], ◌∷◌, ◌++◌, codes, decimal}
use Rattle.hex.specs.Hex.{encode_lower}
use Rattle.wf_files.specs.declared.fault.FindFault.{FindFault}
use Rattle.wf_json.specs.Json.{string}
use Rattle.wf_resubmit.specs.declared.fault.ResubmitFault.{ResubmitFault}
use Rattle.wf_val.specs.Address.{address_text}

abbrev pub find_words : FindFault → List ℕ
find_words FindFault.NoRun = codes "NoRun"
find_words (FindFault.Twice first second) = codes "Twice " ++ decimal first ++ 32 ∷ decimal second

-- it is told as a fault of the history
unfoldable pub find_line : FindFault → List ℕ
find_line fault = codes "history " ++ find_words fault ++ 10 ∷ []

-- Names and addresses are printed as JSON texts, digests as bare hexadecimal digits. Want of memory is no refusal, and has a line of its
-- own.
abbrev pub refusal_words : ResubmitFault → List ℕ
refusal_words (ResubmitFault.NoAction name) = codes "NoAction " ++ string name
refusal_words (ResubmitFault.InLoop name around) = codes "InLoop " ++ string name ++ 32 ∷ string around
refusal_words (ResubmitFault.NotRun name) = codes "NotRun " ++ string name
refusal_words (ResubmitFault.OtherDefinition kept given) =
    codes "OtherDefinition " ++ encode_lower kept.bytes ++ 32 ∷ encode_lower given.bytes
refusal_words (ResubmitFault.Shape address) = codes "Shape " ++ string (address_text address)
refusal_words ResubmitFault.Memory = []

-- its line
unfoldable pub refusal_line : ResubmitFault → List ℕ
refusal_line fault = codes "resubmit " ++ refusal_words fault ++ 10 ∷ []
