-- What a record says of answers that a test left out: a line for each row whose code is `NoAnswer`. The last of the attempts of such a row
-- is the one that no answer was for. A row says nothing whose name is no text, or whose numbers or attempts are no list of them; the rows
-- that `wflow` writes have all three.
use Rattle.std.specs.Prelude.{ℕ, pos, List, [], ◌∷◌, ◌++◌, length, flat_map, Bool, false, if◌then◌else◌, bytes_eq, codes, decimal}
use Rattle.std.specs.Prelude.{Option, Some, None}
use Rattle.wf_json.specs.Json.{string}
use Rattle.wf_match.specs.Rows.{rows_of}
use Rattle.wf_val.specs.Address.{address_text}
use Rattle.wf_val.specs.Get.{get}
use Rattle.wf_val.specs.ValueTree.{ValueTree, number, text, list, items}
use Rattle.wf_val.specs.declared.address.Address.{Address}
use Rattle.wf_judged.specs.Why.{Why, Says}

abbrev pub is_no_answer : Option ValueTree → Bool
is_no_answer (Some (text code)) = bytes_eq code (codes "NoAnswer")
is_no_answer t = false

abbrev pub text_in : Option ValueTree → Option (List ℕ)
text_in (Some (text s)) = Some s
text_in t = None

abbrev pub items_in : Option ValueTree → Option (List ValueTree)
items_in (Some (list ts)) = Some (items ts)
items_in t = None

-- a whole number that isn't negative
abbrev pub index_in : ValueTree → Option ℕ
index_in (number (pos n)) = Some n
index_in t = None

abbrev pub one_more : Option ℕ → Option (List ℕ) → Option (List ℕ)
one_more (Some n) (Some ns) = Some (n ∷ ns)
one_more n ns = None

-- the numbers that values are, if each is one
abbrev pub indexes_in : List ValueTree → Option (List ℕ)
indexes_in [] = Some []
indexes_in (t ∷ ts) = one_more (index_in t) (indexes_in ts)

abbrev pub indexes_of : Option (List ValueTree) → Option (List ℕ)
indexes_of (Some ts) = indexes_in ts
indexes_of None = None

abbrev pub address_from : Option (List ℕ) → Option (List ℕ) → Option Address
address_from (Some name) (Some at') = Some (record { name = name; at = at' })
address_from name at' = None

-- the address of a row
abbrev pub address_in : ValueTree → Option Address
address_in row = address_from (text_in (get (codes "name") row)) (indexes_of (items_in (get (codes "at") row)))

unfoldable pub unanswered_words : Address → ℕ → List ℕ
unanswered_words address attempt = string (address_text address) ++ (codes " had no answer to attempt " ++ decimal attempt)

abbrev pub last_attempt : Option Address → Option (List ValueTree) → List Why
last_attempt (Some address) (Some attempts) = Says (unanswered_words address (length attempts)) ∷ []
last_attempt address attempts = []

abbrev pub unanswered_in : ValueTree → List Why
unanswered_in row =
    if is_no_answer (get (codes "code") row) then last_attempt (address_in row) (items_in (get (codes "attempts") row)) else []

-- in the order of the rows
abbrev pub unanswered : ValueTree → List Why
unanswered record' = flat_map unanswered_in (rows_of record')
