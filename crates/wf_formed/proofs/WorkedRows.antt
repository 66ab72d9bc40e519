-- What the laws ask of a run's surroundings is met: inputs of the two members that must be there, and the run that they start of a
-- definition without a trigger.
use Rattle.std.proofs.Common.{◌≡◌, [], ◌∷◌, None, Ok, inl, refl}
use Rattle.std.specs.Char.{encode_utf8}
use Rattle.std.specs.Fmt.{digits}
use Rattle.std.specs.Prelude.{codes}
use Rattle.std.specs.Str.{chars, is_utf8}
use Rattle.std.proofs.lemmas.Str.{IsUtf8-from_is_utf8}
use Rattle.jiff_core.specs.Calendar.{days_of_months}
use Rattle.wf_fn_time.specs.Calendar.{days_of_first_years}
use Rattle.wf_val.specs.ValueTree.{ValueTree, null, text, object, members}
use Rattle.wf_val.specs.WellFormed.{IsWellFormed}
use Rattle.wf_def.specs.ActionTree.{no_actions}
use Rattle.wf_def.specs.DefTree.{DefTree}
use Rattle.wf_answers.specs.Inputs.{InputsTree, inputs_of}
use Rattle.wf_trigger.specs.Runs.{runs_of}
use Rattle.wf_trigger.specs.Starts.{StartTree, trigger_value}
use Rattle.wf_environment.specs.Environment.{fresh}
use Rattle.wf_formed.specs.Surroundings.{AreHandedIn, IsSurroundedBy}

abbrev handed : ValueTree
handed = object (members ((codes "moment", text (codes "0001-01-01T00:01")) ∷ (codes "run", text (codes "r")) ∷ []))

abbrev read : InputsTree
read = record { run = codes "r"; seed = []; moment = 600000000; trigger = None; outputs = null; parameters = []; answers = [] }

abbrev empty : DefTree
empty = record { digest = []; parameters = []; given = []; triggers = []; top = no_actions; outputs = [] }

abbrev start : StartTree
start = record { run = codes "r"; seed = []; trigger = trigger_value null null; parameters = [] }

are_read : inputs_of handed ≡ Ok read
unfolding chars is_utf8 digits days_of_first_years days_of_months
are_read = refl

starts : runs_of empty.parameters empty.given empty.triggers read ≡ Ok (start ∷ [])
starts = refl

well_formed : IsWellFormed handed
unfolding chars is_utf8 encode_utf8
well_formed = (
  ((refl, tt), (tt, tt)),
  (
    (IsUtf8-from_is_utf8 (codes "moment") refl, IsUtf8-from_is_utf8 (codes "0001-01-01T00:01") refl),
    ((IsUtf8-from_is_utf8 (codes "run") refl, IsUtf8-from_is_utf8 (codes "r") refl), tt),
  ),
)

are_handed_in : AreHandedIn read
are_handed_in = record { value = handed; well_formed = well_formed; means = are_read }

surrounded : IsSurroundedBy empty (fresh start read)
surrounded = record {
  inputs = are_handed_in;
  start = record { starts = start ∷ []; are = starts; among = inl refl };
  layers = tt;
}
