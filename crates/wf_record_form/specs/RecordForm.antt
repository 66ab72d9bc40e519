-- The form of records as a table: what each value in them has to be. In form 1 a row has the number of its attempts, in form 2 their list.
use Rattle.std.specs.Prelude.{ℕ, suc, pos, ◌==◌, List, [], ◌∷◌, ◌++◌, length, Bool, true, false, not, ◌&&◌, ◌||◌, nat_le, Option, Some}
use Rattle.std.specs.Prelude.{None, if◌then◌else◌, bytes_eq, codes}
use Rattle.std.specs.List.{list_all}
use Rattle.std.specs.Ordering.{is_lt}
use Rattle.wf_asked.specs.Asked.{is_index, is_list, is_name, is_null, is_number, is_text, is_within}
use Rattle.wf_json.specs.Pointer.{item_step}
use Rattle.wf_places.specs.Form.{Form}
use Rattle.wf_val.specs.Address.{address_cmp}
use Rattle.wf_val.specs.Get.{get, is_object}
use Rattle.wf_val.specs.ValueTree.{ValueTree, number, text, list, items, fits}
use Rattle.wf_val.specs.declared.address.Address.{Address}
use Rattle.wf_record_form.specs.declared.part.Part.{Part}
use Rattle.wf_record_form.specs.declared.part.Version.{Version}

-- a lower-case hexadecimal digit
abbrev pub is_digit : ℕ → Bool
is_digit b = (nat_le 48 b && nat_le b 57) || (nat_le 97 b && nat_le b 102)

abbrev pub is_digest : ValueTree → Bool
is_digest (text s) = length s == 64 && list_all is_digit s
is_digest t = false

abbrev pub is_one_of : List (List ℕ) → List ℕ → Bool
is_one_of [] s = false
is_one_of (w ∷ ws) s = bytes_eq s w || is_one_of ws s

abbrev pub is_word_of : List (List ℕ) → ValueTree → Bool
is_word_of ws (text s) = is_one_of ws s
is_word_of ws t = false

abbrev pub run_statuses : List (List ℕ)
run_statuses = codes "Succeeded" ∷ codes "Failed" ∷ codes "Cancelled" ∷ []

abbrev pub statuses : List (List ℕ)
statuses = codes "Succeeded" ∷ codes "Failed" ∷ codes "Skipped" ∷ codes "TimedOut" ∷ codes "Cancelled" ∷ []

abbrev pub try_words : List (List ℕ)
try_words = codes "noConnection" ∷ codes "timedOut" ∷ codes "noAnswer" ∷ codes "unknown" ∷ []

-- a number of so many attempts at the most, or a list of no more
abbrev pub are_attempts : Version → ValueTree → Bool
are_attempts Version.One t = is_within 0 91 t
are_attempts Version.Two (list ts) = nat_le (length (items ts)) 91
are_attempts Version.Two t = false

abbrev pub is_right : Part → ValueTree → Bool
is_right (Part.Record v) = is_object
is_right Part.Digest = is_digest
is_right Part.Any = λ t. true
is_right Part.Number = is_number
is_right Part.Measured = λ t. is_object t || fits t
is_right Part.Fitting = fits
is_right Part.Parameters = is_object
is_right (Part.Rows v) = is_list
is_right (Part.Row v) = is_object
is_right Part.At = is_list
is_right Part.Index = is_index
is_right (Part.Attempts v) = are_attempts v
is_right Part.Attempt = λ t. is_within 100 599 t || is_word_of try_words t
is_right Part.Text = is_text
is_right Part.TextOrNull = λ t. is_text t || is_null t
is_right Part.Name = is_name 80
is_right Part.Status = is_word_of statuses
is_right Part.RunStatus = is_word_of run_statuses
is_right Part.Tracked = λ t. is_object t || is_null t
is_right Part.Trigger = is_object

abbrev pub needed : Part → List (List ℕ)
needed (Part.Record v) =
    codes "definition" ∷ codes "error" ∷ codes "form" ∷ codes "outputs" ∷ codes "parameters" ∷ codes "response" ∷ codes "rows"
    ∷ codes "run" ∷ codes "status" ∷ codes "trigger" ∷ []
needed (Part.Row v) =
    codes "at" ∷ codes "attempts" ∷ codes "code" ∷ codes "error" ∷ codes "inputs" ∷ codes "name" ∷ codes "outputs" ∷ codes "status"
    ∷ codes "tracked" ∷ []
needed Part.Trigger = codes "name" ∷ codes "outputs" ∷ []
needed part = []

abbrev pub is_closed : Part → Bool
is_closed (Part.Record v) = true
is_closed (Part.Row v) = true
is_closed Part.Trigger = true
is_closed part = false

abbrev pub record_member : Version → List ℕ → Option Part
record_member v name =
    if bytes_eq name (codes "definition") then Some Part.Digest else
    (if bytes_eq name (codes "error") then Some Part.Any else
    (if bytes_eq name (codes "form") then Some Part.Number else
    (if bytes_eq name (codes "outputs") then Some Part.Measured else
    (if bytes_eq name (codes "parameters") then Some Part.Parameters else
    (if bytes_eq name (codes "response") then Some Part.Measured else
    (if bytes_eq name (codes "rows") then Some (Part.Rows v) else
    (if bytes_eq name (codes "run") then Some Part.Name else
    (if bytes_eq name (codes "status") then Some Part.RunStatus else
    (if bytes_eq name (codes "trigger") then Some Part.Trigger else None)))))))))

abbrev pub row_member : Version → List ℕ → Option Part
row_member v name =
    if bytes_eq name (codes "at") then Some Part.At else
    (if bytes_eq name (codes "attempts") then Some (Part.Attempts v) else
    (if bytes_eq name (codes "code") then Some Part.Text else
    (if bytes_eq name (codes "error") then Some Part.TextOrNull else
    (if bytes_eq name (codes "inputs") then Some Part.Fitting else
    (if bytes_eq name (codes "name") then Some Part.Name else
    (if bytes_eq name (codes "outputs") then Some Part.Measured else
    (if bytes_eq name (codes "status") then Some Part.Status else
    (if bytes_eq name (codes "tracked") then Some Part.Tracked else None))))))))

abbrev pub trigger_member : List ℕ → Option Part
trigger_member name =
    if bytes_eq name (codes "name") then Some Part.TextOrNull else
    (if bytes_eq name (codes "outputs") then Some Part.Measured else None)

abbrev pub part_member : Part → List ℕ → Option Part
part_member (Part.Record v) name = record_member v name
part_member (Part.Row v) name = row_member v name
part_member Part.Trigger name = trigger_member name
part_member Part.Measured name = Some Part.Fitting
part_member Part.Tracked name = Some Part.Fitting
part_member Part.Parameters name = Some Part.Fitting
part_member part name = None

abbrev pub part_item : Part → Option Part
part_item (Part.Rows v) = Some (Part.Row v)
part_item Part.At = Some Part.Index
part_item (Part.Attempts Version.Two) = Some Part.Attempt
part_item part = None

-- ---- neighbours among the rows

-- numbers from 0, behind those that are there
abbrev pub indexes_after : List ℕ → List ValueTree → Option (List ℕ)
indexes_after done [] = Some done
indexes_after done (number (pos n) ∷ ts) = indexes_after (done ++ n ∷ []) ts
indexes_after done (t ∷ ts) = None

abbrev pub indexes_of : List ValueTree → Option (List ℕ)
indexes_of ts = indexes_after [] ts

abbrev pub named_at : List ℕ → Option (List ℕ) → Option Address
named_at name None = None
named_at name (Some at') = Some (record { name = name; at = at' })

-- the address that a row's value names, if it names one
abbrev pub address_in : Option ValueTree → Option ValueTree → Option Address
address_in (Some (text name)) (Some (list ts)) = named_at name (indexes_of (items ts))
address_in name at' = None

abbrev pub row_address : ValueTree → Option Address
row_address t = address_in (get (codes "name") t) (get (codes "at") t)

-- both name an address, and the first isn't below the second
abbrev pub are_unordered : Option Address → Option Address → Bool
are_unordered (Some a) (Some b) = not (is_lt (address_cmp a b))
are_unordered a b = false

abbrev pub flagged_item : Bool → ℕ → List (List ℕ)
flagged_item flawed place = if flawed then item_step place ∷ [] else []

-- those of the rows from a place on that aren't above the one before them
abbrev pub unordered_after : Option Address → ℕ → List ValueTree → List (List ℕ)
unordered_after before place [] = []
unordered_after before place (t ∷ ts) =
    flagged_item (are_unordered before (row_address t)) place ++ unordered_after (row_address t) (suc place) ts

abbrev pub unordered : List ValueTree → List (List ℕ)
unordered ts = unordered_after None 0 ts

abbrev pub beside : Part → ValueTree → List (List ℕ)
beside (Part.Rows v) (list ts) = unordered (items ts)
beside part t = []

abbrev pub record_form : Form Part
record_form = record {
  is_right = is_right;
  needed = needed;
  is_closed = is_closed;
  member = part_member;
  item = part_item;
  beside = beside;
}
