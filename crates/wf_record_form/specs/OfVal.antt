-- The record that a value is, or why it is none: its form has another number, or it isn't of its form.
use Rattle.std.specs.Prelude.{ℕ, ℤ, pos, ◌==◌, ◌||◌, Bool, false, List, Option, Some, None, Result, Ok, Err, if◌then◌else◌, codes}
use Rattle.wf_json.specs.Pointer.{least}
use Rattle.wf_places.specs.Form.{places}
use Rattle.wf_val.specs.Get.{get}
use Rattle.wf_val.specs.ValueTree.{ValueTree, number}
use Rattle.wf_record_form.specs.Reading.{record_of}
use Rattle.wf_record.specs.Record.{RecordTree}
use Rattle.wf_record_form.specs.RecordForm.{record_form}
use Rattle.wf_record_form.specs.declared.fault.RecordFault.{RecordFault}
use Rattle.wf_record_form.specs.declared.part.Part.{Part}
use Rattle.wf_record_form.specs.declared.part.Version.{Version}

-- the forms are 1 and 2
abbrev pub is_form : ℤ → Bool
is_form (pos n) = n == 1 || n == 2
is_form n = false

-- the form that a member `form` says; what has none is judged by form 2
abbrev pub version_in : Option ValueTree → Version
version_in (Some (number (pos n))) = if n == 1 then Version.One else Version.Two
version_in o = Version.Two

-- a whole number that is the number of no form
abbrev pub other_form : Option ValueTree → Option ℤ
other_form (Some (number n)) = if is_form n then None else Some n
other_form o = None

-- the places at which a value isn't of its form
abbrev pub record_places : ValueTree → List (List ℕ)
record_places t = places record_form (Part.Record (version_in (get (codes "form") t))) t

abbrev pub if_of_form : ValueTree → Option (List ℕ) → Result RecordTree RecordFault
if_of_form t (Some pointer) = Err (RecordFault.Form pointer)
if_of_form t None = Ok (record_of t)

abbrev pub if_known : ValueTree → Option ℤ → Result RecordTree RecordFault
if_known t (Some n) = Err (RecordFault.Version n)
if_known t None = if_of_form t (least (record_places t))

abbrev pub of_val : ValueTree → Result RecordTree RecordFault
of_val t = if_known t (other_form (get (codes "form") t))
