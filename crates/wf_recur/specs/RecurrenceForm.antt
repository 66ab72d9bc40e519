-- The form of a trigger's recurrence, as a table: what each value in it has to be.
use Rattle.std.specs.Prelude.{ℕ, List, [], ◌∷◌, Bool, true, false, ◌||◌, Option, Some, None, is_some, if◌then◌else◌, bytes_eq, codes}
use Rattle.wf_places.specs.Form.{Form}
use Rattle.wf_val.specs.Get.{is_object}
use Rattle.wf_val.specs.ValueTree.{ValueTree}
use Rattle.wf_recur.specs.Asked.{frequency_in, interval_in, is_list, is_text, moment_in, place_in}
use Rattle.wf_recur.specs.declared.part.Part.{Part}

-- one value, or a list
abbrev pub is_one_or_list : Part → ValueTree → Bool
is_one_or_list part t = is_list t || is_some (place_in part t)

abbrev pub is_right : Part → ValueTree → Bool
is_right Part.Trigger t = true
is_right Part.Recurrence t = is_object t
is_right Part.Frequency t = is_some (frequency_in t)
is_right Part.Interval t = is_some (interval_in t)
is_right Part.StartTime t = is_some (moment_in t)
is_right Part.TimeZone t = is_text t
is_right Part.Schedule t = is_object t
is_right Part.Hours t = is_one_or_list Part.Hour t
is_right Part.Hour t = is_some (place_in Part.Hour t)
is_right Part.Minutes t = is_one_or_list Part.Minute t
is_right Part.Minute t = is_some (place_in Part.Minute t)
is_right Part.WeekDays t = is_one_or_list Part.WeekDay t
is_right Part.WeekDay t = is_some (place_in Part.WeekDay t)

abbrev pub needed : Part → List (List ℕ)
needed Part.Trigger = codes "recurrence" ∷ []
needed Part.Recurrence = codes "frequency" ∷ codes "interval" ∷ []
needed part = []

abbrev pub recurrence_member : List ℕ → Option Part
recurrence_member name =
    if bytes_eq name (codes "frequency") then Some Part.Frequency else
    (if bytes_eq name (codes "interval") then Some Part.Interval else
    (if bytes_eq name (codes "schedule") then Some Part.Schedule else
    (if bytes_eq name (codes "startTime") then Some Part.StartTime else
    (if bytes_eq name (codes "timeZone") then Some Part.TimeZone else None))))

abbrev pub schedule_member : List ℕ → Option Part
schedule_member name =
    if bytes_eq name (codes "hours") then Some Part.Hours else
    (if bytes_eq name (codes "minutes") then Some Part.Minutes else
    (if bytes_eq name (codes "weekDays") then Some Part.WeekDays else None))

abbrev pub part_member : Part → List ℕ → Option Part
part_member Part.Trigger name = if bytes_eq name (codes "recurrence") then Some Part.Recurrence else None
part_member Part.Recurrence name = recurrence_member name
part_member Part.Schedule name = schedule_member name
part_member part name = None

abbrev pub part_item : Part → Option Part
part_item Part.Hours = Some Part.Hour
part_item Part.Minutes = Some Part.Minute
part_item Part.WeekDays = Some Part.WeekDay
part_item part = None

-- further members are ignored, and nothing else is asked
abbrev pub recurrence_form : Form Part
recurrence_form = record {
  is_right = is_right;
  needed = needed;
  is_closed = λ part. false;
  member = part_member;
  item = part_item;
  beside = λ part t. [];
}
