-- The form of conditions at worked values.
use Rattle.std.proofs.Common.{◌≡◌, List, [], ◌∷◌, map, Some, None, true, false, refl}
use Rattle.std.specs.Prelude.{codes, pos}
use Rattle.wf_val.specs.ValueTree.{ValueTree, null, boolean, number, text, list, object, trees, Member, members}
use Rattle.wf_kinds.specs.Conditions.{comparison_named, is_condition}
use Rattle.wf_val.specs.declared.function.Fun.{Fun}

abbrev list_of : List ValueTree → ValueTree
list_of ts = list (trees ts)

abbrev object_of : List Member → ValueTree
object_of ms = object (members ms)

-- a text, whatever it spells
text-accepted : map is_condition (
    text [] ∷
    text (codes "@x") ∷
    text (codes "x") ∷
    [])
    ≡ true ∷ true ∷ true ∷ []
text-accepted = refl

text-refused : map is_condition (
    null ∷
    boolean true ∷
    boolean false ∷
    number (pos 0) ∷
    number (pos 5) ∷
    list_of [] ∷
    list_of (text (codes "@x") ∷ []) ∷
    [])
    ≡ false ∷ false ∷ false ∷ false ∷ false ∷ false ∷ false ∷ []
text-refused = refl

-- `and` and `or` take lists of conditions, also empty ones
list-accepted : map is_condition (
    object_of ((codes "and", list_of []) ∷ []) ∷
    object_of ((codes "or", list_of []) ∷ []) ∷
    object_of ((codes "and", list_of (text (codes "@x") ∷ [])) ∷ []) ∷
    object_of ((
      codes "or",
      list_of (text (codes "@x") ∷ object_of ((
        codes "and",
        list_of (text (codes "@y") ∷
            object_of ((codes "or", list_of []) ∷ []) ∷ []),
      ) ∷ []) ∷ []),
    ) ∷ []) ∷
    [])
    ≡ true ∷ true ∷ true ∷ true ∷ []
list-accepted = refl

list-refused : map is_condition (
    object_of ((codes "and", text (codes "@x")) ∷ []) ∷
    object_of ((codes "or", object_of []) ∷ []) ∷
    object_of ((codes "and", null) ∷ []) ∷
    object_of ((codes "and", object_of ((codes "not", text (codes "@x")) ∷ [])) ∷ []) ∷
    object_of ((codes "and", list_of (boolean true ∷ [])) ∷ []) ∷
    object_of ((codes "or", list_of (text (codes "@x") ∷ number (pos 5) ∷ [])) ∷ []) ∷
    object_of ((codes "and", list_of (list_of (text (codes "@x") ∷ []) ∷ [])) ∷ []) ∷
    object_of ((codes "or", list_of (text (codes "@x") ∷ object_of ((codes "and", list_of (null ∷ [])) ∷ []) ∷ [])) ∷ []) ∷
    object_of ((codes "And", list_of []) ∷ []) ∷
    object_of ((codes "OR", list_of []) ∷ []) ∷
    [])
    ≡ false ∷ false ∷ false ∷ false ∷ false ∷ false ∷ false ∷ false ∷ false ∷ false ∷ []
list-refused = refl

-- `not` takes one condition
negation-accepted : map is_condition (
    object_of ((codes "not", text (codes "@x")) ∷ []) ∷
    object_of ((
      codes "not",
      object_of ((
        codes "not",
        object_of ((codes "equals", list_of (number (pos 1) ∷ number (pos 2) ∷ [])) ∷
            []),
      ) ∷ []),
    ) ∷ []) ∷
    object_of ((codes "not", object_of ((codes "and", list_of []) ∷ [])) ∷ []) ∷
    [])
    ≡ true ∷ true ∷ true ∷ []
negation-accepted = refl

negation-refused : map is_condition (
    object_of ((codes "not", list_of (text (codes "@x") ∷ [])) ∷ []) ∷
    object_of ((codes "not", list_of []) ∷ []) ∷
    object_of ((codes "not", boolean true) ∷ []) ∷
    object_of ((codes "not", object_of []) ∷ []) ∷
    object_of ((codes "not", object_of ((codes "not", number (pos 5)) ∷ [])) ∷ []) ∷
    object_of ((codes "Not", text (codes "@x")) ∷ []) ∷
    [])
    ≡ false ∷ false ∷ false ∷ false ∷ false ∷ false ∷ []
negation-refused = refl

-- a comparison takes two values of any form
comparison-accepted : map is_condition (
    object_of ((codes "equals", list_of (number (pos 1) ∷ text (codes "@x") ∷ [])) ∷ []) ∷
    object_of ((codes "greater", list_of (number (pos 1) ∷ text (codes "@x") ∷ [])) ∷ []) ∷
    object_of ((codes "greaterOrEquals", list_of (number (pos 1) ∷ text (codes "@x") ∷ [])) ∷ []) ∷
    object_of ((codes "less", list_of (number (pos 1) ∷ text (codes "@x") ∷ [])) ∷ []) ∷
    object_of ((codes "lessOrEquals", list_of (number (pos 1) ∷ text (codes "@x") ∷ [])) ∷ []) ∷
    object_of ((codes "contains", list_of (number (pos 1) ∷ text (codes "@x") ∷ [])) ∷ []) ∷
    object_of ((codes "startsWith", list_of (number (pos 1) ∷ text (codes "@x") ∷ [])) ∷ []) ∷
    object_of ((codes "endsWith", list_of (number (pos 1) ∷ text (codes "@x") ∷ [])) ∷ []) ∷
    object_of ((codes "equals", list_of (null ∷ object_of [] ∷ [])) ∷ []) ∷
    object_of ((codes "equals", list_of (list_of (text (codes "@x") ∷ []) ∷ boolean true ∷ [])) ∷ []) ∷
    [])
    ≡ true ∷ true ∷ true ∷ true ∷ true ∷ true ∷ true ∷ true ∷ true ∷ true ∷ []
comparison-accepted = refl

comparison-refused : map is_condition (
    object_of ((codes "equals", list_of []) ∷ []) ∷
    object_of ((codes "equals", list_of (number (pos 1) ∷ [])) ∷ []) ∷
    object_of ((codes "equals", list_of (number (pos 1) ∷ number (pos 2) ∷ number (pos 3) ∷ [])) ∷ []) ∷
    object_of ((codes "equals", text (codes "@x")) ∷ []) ∷
    object_of ((codes "equals", object_of ((codes "a", number (pos 1)) ∷ (codes "b", number (pos 2)) ∷ [])) ∷ []) ∷
    object_of ((codes "less", null) ∷ []) ∷
    object_of ((codes "Equals", list_of (number (pos 1) ∷ number (pos 2) ∷ [])) ∷ []) ∷
    object_of ((codes "startswith", list_of (number (pos 1) ∷ number (pos 2) ∷ [])) ∷ []) ∷
    object_of ((codes "concat", list_of (number (pos 1) ∷ number (pos 2) ∷ [])) ∷ []) ∷
    object_of ((codes "notEquals", list_of (number (pos 1) ∷ number (pos 2) ∷ [])) ∷ []) ∷
    object_of (([], list_of (number (pos 1) ∷ number (pos 2) ∷ [])) ∷ []) ∷
    [])
    ≡ false ∷ false ∷ false ∷ false ∷ false ∷ false ∷ false ∷ false ∷ false ∷ false ∷ false ∷ []
comparison-refused = refl

-- an object has one member
members-refused : map is_condition (
    object_of [] ∷
    object_of ((codes "and", list_of []) ∷ (codes "or", list_of []) ∷ []) ∷
    object_of ((codes "equals", list_of (number (pos 1) ∷ number (pos 1) ∷ [])) ∷ (codes "not", text (codes "@x")) ∷ []) ∷
    object_of ((codes "equals", list_of (number (pos 1) ∷ number (pos 1) ∷ [])) ∷ (codes "x", number (pos 1)) ∷ []) ∷
    [])
    ≡ false ∷ false ∷ false ∷ false ∷ []
members-refused = refl

-- names of comparisons compare exactly, and name the functions of the same names
comparisons-named : map comparison_named (
    codes "equals" ∷ codes "greater" ∷ codes "greaterOrEquals" ∷ codes "less" ∷
    codes "lessOrEquals" ∷ codes "contains" ∷ codes "startsWith" ∷ codes "endsWith" ∷ [])
    ≡ map Some (Fun.Equals ∷ Fun.Greater ∷ Fun.GreaterOrEquals ∷ Fun.Less ∷ Fun.LessOrEquals ∷ Fun.Contains ∷ Fun.StartsWith ∷
    Fun.EndsWith ∷ [])
comparisons-named = refl

comparisons-unknown : map comparison_named (codes "Equals" ∷ codes "and" ∷ codes "not" ∷ codes "concat" ∷ [] ∷ [])
    ≡ None ∷ None ∷ None ∷ None ∷ None ∷ []
comparisons-unknown = refl
