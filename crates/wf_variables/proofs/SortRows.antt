-- Types of variables at a value of each kind.
use Rattle.std.proofs.Common.{◌≡◌, refl, List, [], ◌∷◌, map, Bool, true, false, Ok, Err}
use Rattle.std.specs.Prelude.{codes}
use Rattle.wf_val.specs.ValueTree.{ValueTree, null, boolean, text}
use Rattle.wf_val.specs.declared.fault.EvalFault.{EvalFault}
use Rattle.wf_val.specs.declared.function.Fun.{Fun}
use Rattle.wf_def.specs.Sorts.{has_sort}
use Rattle.wf_def.specs.declared.sort.Sort.{Sort}
use Rattle.wf_data.specs.Made.{one_member}
use Rattle.wf_data.proofs.RowParts.{plus, least, items, fields}
use Rattle.wf_variables.specs.Sorts.{are_alike, empty_of, of_sort, sort_name}

abbrev sorts : List Sort
sorts = Sort.Bool ∷ Sort.Int ∷ Sort.Text ∷ Sort.List ∷ Sort.Obj ∷ []

-- two of each kind
abbrev samples : List ValueTree
samples =
    null ∷ boolean false ∷ boolean true ∷ plus 0 ∷ least ∷ text [] ∷ text (codes "true") ∷ items [] ∷ items (null ∷ []) ∷
    fields [] ∷ one_member (codes "a") null ∷ []

abbrev is_boolean : List Bool
is_boolean = false ∷ true ∷ true ∷ false ∷ false ∷ false ∷ false ∷ false ∷ false ∷ false ∷ false ∷ []

abbrev is_integer : List Bool
is_integer = false ∷ false ∷ false ∷ true ∷ true ∷ false ∷ false ∷ false ∷ false ∷ false ∷ false ∷ []

abbrev is_string : List Bool
is_string = false ∷ false ∷ false ∷ false ∷ false ∷ true ∷ true ∷ false ∷ false ∷ false ∷ false ∷ []

abbrev is_array : List Bool
is_array = false ∷ false ∷ false ∷ false ∷ false ∷ false ∷ false ∷ true ∷ true ∷ false ∷ false ∷ []

abbrev is_object : List Bool
is_object = false ∷ false ∷ false ∷ false ∷ false ∷ false ∷ false ∷ false ∷ false ∷ true ∷ true ∷ []

abbrev is_none : List Bool
is_none = false ∷ false ∷ false ∷ false ∷ false ∷ false ∷ false ∷ false ∷ false ∷ false ∷ false ∷ []

sort-has : map (λ s. map (has_sort s) samples) sorts ≡ is_boolean ∷ is_integer ∷ is_string ∷ is_array ∷ is_object ∷ []
sort-has = refl

sort-alike :
    map (λ t. map (are_alike t) samples) samples
    ≡ is_none ∷ is_boolean ∷ is_boolean ∷ is_integer ∷ is_integer ∷ is_string ∷ is_string ∷ is_array ∷ is_array ∷ is_object ∷ is_object ∷ []
sort-alike = refl

sort-names : map sort_name sorts ≡ codes "boolean" ∷ codes "integer" ∷ codes "string" ∷ codes "array" ∷ codes "object" ∷ []
sort-names = refl

sort-empty : map empty_of sorts ≡ boolean false ∷ plus 0 ∷ text [] ∷ items [] ∷ fields [] ∷ []
sort-empty = refl

sort-kept : of_sort Sort.Text (text (codes "1")) ≡ Ok (text (codes "1"))
sort-kept = refl

sort-refused : of_sort Sort.Int (text (codes "1")) ≡ Err (EvalFault.WrongType Fun.Variable 1)
sort-refused = refl
