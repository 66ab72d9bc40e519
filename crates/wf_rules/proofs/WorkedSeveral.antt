-- Worked definitions for V11 and V12 where one action makes several variables.
use Prim.Native.String.{String}
use Rattle.std.proofs.Common.{◌≡◌, List, [], ◌∷◌, Some, None, refl}
use Rattle.std.specs.Prelude.{codes}
use Rattle.wf_varorder.specs.ActionTree.{InitialTree, KindTree, initialize, increment, append_array}
use Rattle.wf_template.specs.DataTree.{null}
use Rattle.wf_varorder.specs.Sort.{Sort}
use Rattle.wf_rules.specs.Broken.{broken_of}
use Rattle.wf_rules.proofs.RowWords.{after, asked, at, both, composes, data_of, fault, in_scope, of, variable}

abbrev makes : List InitialTree → KindTree
makes is = initialize is

abbrev counted : String → InitialTree
counted s = record { name = codes s; sort = Sort.Int; value = None }

-- one whose value reads another
abbrev reading : String → String → InitialTree
reading s k = record { name = codes s; sort = Sort.List; value = Some (data_of (asked "variables" k)) }

-- each is initialised once: all are read, and each is written as its own type asks
several : broken_of (of (
    at "A" 0 "/actions/A" (after 1) (composes (both (asked "variables" "v") (asked "variables" "w")))
    ∷ at "V" 1 "/actions/V" [] (makes (variable "v" ∷ counted "w" ∷ variable "x" ∷ [])) ∷ [])) ≡ None
several = refl

suited_last : broken_of (of (
    at "A" 0 "/actions/A" (after 1) (increment (codes "w") None)
    ∷ at "V" 1 "/actions/V" [] (makes (variable "v" ∷ counted "w" ∷ [])) ∷ [])) ≡ None
suited_last = refl

unsuited_first : broken_of (of (
    at "A" 0 "/actions/A" (after 1) (increment (codes "v") None)
    ∷ at "V" 1 "/actions/V" [] (makes (variable "v" ∷ counted "w" ∷ [])) ∷ [])) ≡ fault 11 "/actions/A"
unsuited_first = refl

unsuited_last : broken_of (of (
    at "A" 0 "/actions/A" (after 1) (append_array (codes "w") null)
    ∷ at "V" 1 "/actions/V" [] (makes (variable "v" ∷ counted "w" ∷ [])) ∷ [])) ≡ fault 11 "/actions/A"
unsuited_last = refl

-- a name that stands twice in one action is told there, wherever in the list it stands and of whatever type
twice_at_the_ends : broken_of (of (
    at "V" 0 "/actions/V" [] (makes (variable "v" ∷ variable "w" ∷ counted "v" ∷ [])) ∷ [])) ≡ fault 11 "/actions/V"
twice_at_the_ends = refl

-- and not at what reads or writes it
twice_read : broken_of (of (
    at "A" 0 "/actions/A" (after 1) (composes (asked "variables" "v"))
    ∷ at "V" 1 "/actions/V" [] (makes (variable "v" ∷ variable "v" ∷ [])) ∷ [])) ≡ fault 11 "/actions/V"
twice_read = refl

-- names are the same by letter case too
twice_in_other_case : broken_of (of (at "V" 0 "/actions/V" [] (makes (variable "v" ∷ variable "V" ∷ [])) ∷ [])) ≡ None
twice_in_other_case = refl

-- the action that has the least pointer is told where it has the name twice
twice_and_again : broken_of (of (
    at "V" 0 "/actions/V" [] (makes (variable "v" ∷ variable "v" ∷ [])) ∷ at "W" 1 "/actions/W" [] (makes (variable "v" ∷ [])) ∷ []))
    ≡ fault 11 "/actions/V"
twice_and_again = refl

-- of two actions that share one name the later is told, though all other names are its own
shared_last : broken_of (of (
    at "V" 0 "/actions/V" [] (makes (variable "v" ∷ variable "w" ∷ []))
    ∷ at "W" 1 "/actions/W" (after 0) (makes (variable "x" ∷ variable "w" ∷ [])) ∷ [])) ≡ fault 11 "/actions/W"
shared_last = refl

-- one action may read what it makes itself, and not what is made beside it
own_read : broken_of (of (
    at "V" 0 "/actions/V" [] (makes (variable "v" ∷ reading "w" "v" ∷ []))
    ∷ [])) ≡ None
own_read = refl

other_read : broken_of (of (
    at "V" 0 "/actions/V" [] (makes (variable "v" ∷ reading "w" "x" ∷ []))
    ∷ at "X" 1 "/actions/X" [] (makes (variable "x" ∷ [])) ∷ [])) ≡ fault 12 "/actions/V"
other_read = refl

-- not at the top: each is told where it is made, if nothing else names it before
nested : broken_of (of (
    at "S" 0 "/actions/S" [] (in_scope (at "V" 1 "/actions/S/actions/V" [] (makes (variable "v" ∷ variable "w" ∷ [])) ∷ [])) ∷ []))
    ≡ fault 11 "/actions/S/actions/V"
nested = refl
