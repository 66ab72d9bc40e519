-- What an answer came to.
use Rattle.std.specs.Prelude.{◌⊎◌, ℕ, List, Option, Result, Ok, Err}
use Rattle.wf_talk.specs.Written.{Writes}
use Rattle.wf_page.specs.Served.{Outcome, Says, Spent, Unread, out_of_memory, status_of, text_of}
use Rattle.wf_page.specs.declared.said.Said.{Said}
use Rattle.wf_page.specs.declared.loading.Stop as code

abbrev pub outcome_of : Result Said code.Stop → Outcome
outcome_of (Ok said) = Says said.status said.text.items
outcome_of (Err (code.TheVariants.CannotRead name)) = Unread name
outcome_of (Err code.TheVariants.Memory) = Spent

-- its text was written, or there was no memory for that
abbrev pub Tells : Result Said code.Stop → Option (List ℕ) → Option (List ℕ) → ℕ → Type 0
Tells answered before after result =
    Writes before after (status_of (outcome_of answered)) (text_of (outcome_of answered)) result
    ⊎ Writes before after 5 out_of_memory result
