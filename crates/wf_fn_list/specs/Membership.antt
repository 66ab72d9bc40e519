-- What a text, a list or an object has in it (Workflow Definition Language, collection functions contains and empty).
use Rattle.std.specs.Prelude.{ℕ, Bool, ◌||◌, List, [], ◌∷◌, Option, Some, Ok, Err, is_some, length, ◌==◌, nat_eq, true, slice_get}
use Rattle.std.specs.List.{starts_with, list_any}
use Rattle.std.specs.Ordering.{is_eq}
use Rattle.wf_val.specs.Arguments.{Answer, given, text_at, value_at, wrong_type}
use Rattle.wf_val.specs.Get.{value_of}
use Rattle.wf_val.specs.ValueOrder.{order}
use Rattle.wf_val.specs.ValueTree.{ValueTree, null, boolean, text, list, object, items, pairs}
use Rattle.wf_val.specs.declared.function.Fun.{Fun}

-- whether a list stands in another, from some place on
abbrev pub stands_in : List ℕ → List ℕ → Bool
stands_in part [] = starts_with nat_eq [] part
stands_in part (b ∷ bs) = starts_with nat_eq (b ∷ bs) part || stands_in part bs

-- whether a value is among others
abbrev pub is_among : List ValueTree → ValueTree → Bool
is_among xs x = list_any (λ y. is_eq (order x y)) xs

-- a part of a text, its case counted; the same value among the items; the name of a member
abbrev pub contains_of : List ValueTree → Option ValueTree → Answer
contains_of ts (Some (text s)) = given (text_at Fun.Contains ts 1) (λ part. Ok (boolean (stands_in part s)))
contains_of ts (Some (list xs)) = given (value_at Fun.Contains ts 1) (λ x. Ok (boolean (is_among (items xs) x)))
contains_of ts (Some (object ms)) = given (text_at Fun.Contains ts 1) (λ name. Ok (boolean (is_some (value_of name (pairs ms)))))
contains_of ts t = Err (wrong_type Fun.Contains 0)

abbrev pub contains_row : List ValueTree → Answer
contains_row ts = contains_of ts (slice_get ts 0)

-- whether there is nothing in it; in null there is nothing
abbrev pub empty_of : Option ValueTree → Answer
empty_of (Some null) = Ok (boolean true)
empty_of (Some (text s)) = Ok (boolean (length s == 0))
empty_of (Some (list xs)) = Ok (boolean (length (items xs) == 0))
empty_of (Some (object ms)) = Ok (boolean (length (pairs ms) == 0))
empty_of t = Err (wrong_type Fun.Empty 0)

abbrev pub empty_row : List ValueTree → Answer
empty_row ts = empty_of (slice_get ts 0)
