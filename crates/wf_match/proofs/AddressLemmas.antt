-- The address of a row that has a name and numbers.
use Rattle.std.proofs.Common.{◌≡◌, ℕ, List, [], ◌∷◌, ◌++◌, map, flat_map, pos, Some, refl, ap}
use Rattle.std.specs.Prelude.{codes, decimal}
use Rattle.wf_json.specs.Json.{text as text_of}
use Rattle.wf_match.specs.Rows.{address_of}
use Rattle.wf_val.specs.Address.{address_text, indexes_text}
use Rattle.wf_val.specs.Get.{get}
use Rattle.wf_val.specs.ValueTree.{ValueTree, list, number, text, trees, items}
use Rattle.wf_val.specs.declared.address.Address.{Address}

numbers_written : (at' : List ℕ)
    → flat_map (λ n. 47 ∷ text_of n) (items (trees (map (λ n. number (pos n)) at'))) ≡ indexes_text at'
numbers_written [] = refl
numbers_written (n ∷ at') = ap (λ s. (47 ∷ decimal n) ++ s) (numbers_written at')

pub address_written : (row : ValueTree) (a : Address) → get (codes "name") row ≡ Some (text a.name)
    → get (codes "at") row ≡ Some (list (trees (map (λ n. number (pos n)) a.at))) → address_of row ≡ address_text a
address_written row a name at' = rw (name, at') (ap (λ s. a.name ++ s) (numbers_written a.at))
