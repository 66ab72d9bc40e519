-- The definitions on names of functions and on addresses at worked values.
use Rattle.std.proofs.Common.{◌≡◌, ℕ, List, [], ◌∷◌, Some, None, Less, Equal, Greater, true, false, refl}
use Rattle.std.specs.Fmt.{digits}
use Rattle.std.specs.Prelude.{codes}
use Rattle.std.specs.Str.{str_eq_ignore_ascii_case}
use Rattle.wf_val.specs.Address.{address_cmp, address_text}
use Rattle.wf_val.specs.Function.{function_name, function_of}
use Rattle.wf_val.specs.declared.address.Address.{Address}
use Rattle.wf_val.specs.declared.function.Fun.{Fun}

-- a function is found without letter case
found :
    (function_of (codes "add") ≡ Some Fun.Add)
    × (function_of (codes "ADD") ≡ Some Fun.Add)
    × (function_of (codes "toLOWER") ≡ Some Fun.ToLower)
    × (function_of (codes "Base64ToString") ≡ Some Fun.Base64ToString)
found = (refl, refl, refl, refl)

-- the two whose names begin alike are told apart
found-whole_names :
    (function_of (codes "less") ≡ Some Fun.Less)
    × (function_of (codes "lessOrEquals") ≡ Some Fun.LessOrEquals)
    × (function_of (codes "item") ≡ Some Fun.Item)
    × (function_of (codes "items") ≡ Some Fun.Items)
found-whole_names = (refl, refl, refl, refl)

not_found :
    (function_of [] ≡ None)
    × (function_of (codes "add ") ≡ None)
    × (function_of (codes "$add") ≡ None)
    × (function_of (codes "a$dd") ≡ None)
    × (function_of (codes "ad") ≡ None)
    × (function_of (codes "xpath") ≡ None)
not_found = (refl, refl, refl, refl, refl, refl)

-- no expression calls a part by the name that a fault gives it
parts-not_found :
    (function_of (function_name Fun.Condition) ≡ None)
    × (function_of (function_name Fun.Index) ≡ None)
    × (function_of (function_name Fun.From) ≡ None)
    × (function_of (function_name Fun.JoinWith) ≡ None)
    × (function_of (function_name Fun.Foreach) ≡ None)
parts-not_found = (refl, refl, refl, refl, refl)

parts-not_found' :
    (function_of (function_name Fun.Switch) ≡ None)
    × (function_of (function_name Fun.Query) ≡ None)
    × (function_of (function_name Fun.ParseJson) ≡ None)
    × (function_of (function_name Fun.Variable) ≡ None)
    × (function_of (function_name Fun.Terminate) ≡ None)
parts-not_found' = (refl, refl, refl, refl, refl)

-- the case that doesn't count is that of ASCII letters, from the first to the last; what stands beside them is no letter
letters :
    (str_eq_ignore_ascii_case (codes "AZaz") (codes "azAZ") ≡ true)
    × (str_eq_ignore_ascii_case (codes "@") (codes "`") ≡ false)
    × (str_eq_ignore_ascii_case (codes "[") (codes "{") ≡ false)
letters = (refl, refl, refl)

-- an E and an e with an acute accent
other_letters : str_eq_ignore_ascii_case (195 ∷ 137 ∷ []) (195 ∷ 169 ∷ []) ≡ false
other_letters = refl

abbrev address : List ℕ → List ℕ → Address
address name at = record { name = name; at = at }

-- names go by bytes, upwards, and a front of a name is below it
by_name :
    (address_cmp (address (codes "A") []) (address (codes "B") []) ≡ Less)
    × (address_cmp (address (codes "Send") (9 ∷ [])) (address (codes "Send2") []) ≡ Less)
    × (address_cmp (address (codes "a") []) (address (codes "Z") []) ≡ Greater)
by_name = (refl, refl, refl)

-- of one name by numbers, which go by size, upwards, and a front of a list is below it
by_number :
    (address_cmp (address (codes "Send") (2 ∷ [])) (address (codes "Send") (10 ∷ [])) ≡ Less)
    × (address_cmp (address (codes "Send") []) (address (codes "Send") (0 ∷ [])) ≡ Less)
    × (address_cmp (address (codes "Send") (2 ∷ 10 ∷ [])) (address (codes "Send") (10 ∷ [])) ≡ Less)
by_number = (refl, refl, refl)

-- the outermost loop's number counts first
outermost-first :
    (address_cmp (address (codes "Send") (1 ∷ 5 ∷ [])) (address (codes "Send") (2 ∷ 0 ∷ [])) ≡ Less)
    × (address_cmp (address (codes "Send") (2 ∷ 0 ∷ [])) (address (codes "Send") (2 ∷ 0 ∷ [])) ≡ Equal)
outermost-first = (refl, refl)

text-without_numbers : address_text (address (codes "Send it") []) ≡ codes "Send it"
text-without_numbers = refl

text-with_numbers : address_text (address (codes "Send") (0 ∷ 12 ∷ 4999 ∷ [])) ≡ codes "Send/0/12/4999"
unfolding digits
text-with_numbers = refl
