-- The rows of a record as a value, and the one of an address.
use Rattle.std.specs.Prelude.{ℕ, suc, List, [], ◌∷◌, ◌++◌, flat_map, codes, Option, Some, None, if◌then◌else◌}
use Rattle.std.specs.Ordering.{is_eq}
use Rattle.wf_json.specs.Json.{text}
use Rattle.wf_val.specs.Get.{get}
use Rattle.wf_val.specs.NameOrder.{bytes_cmp}
use Rattle.wf_val.specs.Joined.{text_bytes}
use Rattle.wf_val.specs.ValueTree.{ValueTree, list, items}

abbrev pub items_of : Option ValueTree → List ValueTree
items_of (Some (list ts)) = items ts
items_of found = []

abbrev pub name_text : Option ValueTree → List ℕ
name_text None = []
name_text (Some t) = text_bytes t

-- the rows of a record
abbrev pub rows_of : ValueTree → List ValueTree
rows_of r = items_of (get (codes "rows") r)

-- the address of a row as messages write it: its name, and behind a slash each number of its `at`
abbrev pub address_of : ValueTree → List ℕ
address_of row = name_text (get (codes "name") row) ++ flat_map (λ n. 47 ∷ text n) (items_of (get (codes "at") row))

-- the place of the first row of an address, in rows that begin with place i
abbrev pub place_from : ℕ → List ℕ → List ValueTree → Option ℕ
place_from i address [] = None
place_from i address (row ∷ rows) = if is_eq (bytes_cmp (address_of row) address) then Some i else place_from (suc i) address rows

abbrev pub place_of : List ℕ → List ValueTree → Option ℕ
place_of address rows = place_from 0 address rows

-- the first row of an address, found without places
abbrev pub row_of : List ℕ → List ValueTree → Option ValueTree
row_of address [] = None
row_of address (row ∷ rows) = if is_eq (bytes_cmp (address_of row) address) then Some row else row_of address rows
