-- Worked definitions for the rules on variables, V11 and V12: at each place that reads one, by each way to write one, and of variables that
-- are initialised more than once.
use Rattle.std.proofs.Common.{◌≡◌, List, [], ◌∷◌, map, Option, Some, None, refl}
use Rattle.std.specs.Prelude.{codes}
use Rattle.wf_template.specs.ExprTree.{ExprTree}
use Rattle.wf_template.specs.DataTree.{null}
use Rattle.wf_varorder.specs.ActionTree.{ActionTree, KindTree, initialize, set_to, increment, decrement, append_array, append_string}
use Rattle.wf_varorder.specs.DefTree.{DefTree}
use Rattle.wf_varorder.specs.Sort.{Sort}
use Rattle.wf_varorder.specs.RuleFault.{RuleFault}
use Rattle.wf_rules.specs.Broken.{broken_of}
use Rattle.wf_rules.proofs.RowWords.{after, asked, at, data_of, each_is, everywhere, fault, in_scope, in_tracked, init, of}
use Rattle.wf_rules.proofs.RowWords.{of_kinds, at_inputs, at_items, at_test, output, reads, set_first, told_of, turns}
use Rattle.wf_rules.proofs.RowWords.{variable, yes}

-- ---- each place that reads v: where nothing initialises it, where V does, but not before, and where V is before

abbrev v_read : ExprTree
v_read = asked "variables" "v"

abbrev with_v : ActionTree → DefTree
with_v a = of (a ∷ at "V" 1 "/actions/V" [] (init Sort.List) ∷ [])

read_unknown : told_of (λ a. of (a ∷ [])) (everywhere "/actions/A" [] v_read)
    ≡ each_is (fault 11 "/actions/A") (everywhere "/actions/A" [] v_read)
read_unknown = refl

read_early : told_of with_v (everywhere "/actions/A" [] v_read) ≡ each_is (fault 12 "/actions/A") (everywhere "/actions/A" [] v_read)
read_early = refl

read_behind : told_of with_v (of_kinds "/actions/A" (after 1) (at_inputs v_read))
    ≡ each_is None (of_kinds "/actions/A" (after 1) (at_inputs v_read))
read_behind = refl

read_behind_of_items : told_of with_v (of_kinds "/actions/A" (after 1) (at_items v_read))
    ≡ each_is None (of_kinds "/actions/A" (after 1) (at_items v_read))
read_behind_of_items = refl

read_behind_in_a_test : told_of with_v (of_kinds "/actions/A" (after 1) (at_test v_read))
    ≡ each_is None (of_kinds "/actions/A" (after 1) (at_test v_read))
read_behind_in_a_test = refl

-- tracked properties read none at all, which a later rule says
read_behind_in_tracked : told_of with_v (in_tracked "/actions/A" (after 1) v_read)
    ≡ each_is (fault 20 "/actions/A") (in_tracked "/actions/A" (after 1) v_read)
read_behind_in_tracked = refl

-- V before A by nothing but what waits the other way round
read_before : told_of (λ a. of (a ∷ at "V" 1 "/actions/V" (after 0) (init Sort.List) ∷ [])) (everywhere "/actions/A" [] v_read)
    ≡ each_is (fault 12 "/actions/A") (everywhere "/actions/A" [] v_read)
read_before = refl

-- what initialises another variable is none of those that may come early, whichever pointer is less
initialised_by_another : broken_of (of (
    at "V" 0 "/actions/V" [] (init Sort.List) ∷ at "W" 1 "/actions/W" [] (set_first v_read) ∷ [])) ≡ fault 12 "/actions/W"
initialised_by_another = refl

initialised_by_another_behind : broken_of (of (
    at "V" 0 "/actions/V" [] (init Sort.List) ∷ at "W" 1 "/actions/W" (after 0) (set_first v_read) ∷ [])) ≡ None
initialised_by_another_behind = refl

-- ---- each way to write v with each type of it

abbrev sorts : List Sort
sorts = Sort.Bool ∷ Sort.Int ∷ Sort.Text ∷ Sort.List ∷ Sort.Obj ∷ []

-- A, which writes v, behind V, which initialises it, by the type of v
abbrev by_type : KindTree → List (Option RuleFault)
by_type kind = map (λ sort. broken_of (of (at "A" 0 "/actions/A" (after 1) kind ∷ at "V" 1 "/actions/V" [] (init sort) ∷ []))) sorts

abbrev no : Option RuleFault
no = fault 11 "/actions/A"

set_by_type : by_type (set_to (codes "v") null) ≡ None ∷ None ∷ None ∷ None ∷ None ∷ []
set_by_type = refl

counted_up_by_type : by_type (increment (codes "v") None) ≡ no ∷ None ∷ no ∷ no ∷ no ∷ []
counted_up_by_type = refl

counted_up_by_more_by_type : by_type (increment (codes "v") (Some null)) ≡ no ∷ None ∷ no ∷ no ∷ no ∷ []
counted_up_by_more_by_type = refl

counted_down_by_type : by_type (decrement (codes "v") None) ≡ no ∷ None ∷ no ∷ no ∷ no ∷ []
counted_down_by_type = refl

appended_by_type : by_type (append_array (codes "v") null) ≡ no ∷ no ∷ no ∷ None ∷ no ∷ []
appended_by_type = refl

text_appended_by_type : by_type (append_string (codes "v") null) ≡ no ∷ no ∷ None ∷ no ∷ no ∷ []
text_appended_by_type = refl

-- each of them where nothing initialises v, and where V does, but not before

abbrev writers : List KindTree
writers =
    set_to (codes "v") null ∷ increment (codes "v") None ∷ decrement (codes "v") None ∷ append_array (codes "v") null
    ∷ append_string (codes "v") null ∷ []

abbrev writing : List ActionTree
writing = of_kinds "/actions/A" [] writers

written_unknown : told_of (λ a. of (a ∷ [])) writing ≡ each_is (fault 11 "/actions/A") writing
written_unknown = refl

abbrev early : Sort → KindTree → Option RuleFault
early sort kind = broken_of (of (at "A" 0 "/actions/A" [] kind ∷ at "V" 1 "/actions/V" [] (init sort) ∷ []))

written_early : early Sort.Obj (set_to (codes "v") null) ∷ early Sort.Int (increment (codes "v") None)
    ∷ early Sort.Int (decrement (codes "v") None) ∷ early Sort.List (append_array (codes "v") null)
    ∷ early Sort.Text (append_string (codes "v") null) ∷ []
    ≡ fault 12 "/actions/A" ∷ fault 12 "/actions/A" ∷ fault 12 "/actions/A" ∷ fault 12 "/actions/A" ∷ fault 12 "/actions/A" ∷ []
written_early = refl

-- the value that is written is read as well
written_and_read : told_of with_v (of_kinds "/actions/A" (after 1) (
    set_to (codes "v") (data_of (asked "variables" "w")) ∷ append_array (codes "v") (data_of (asked "variables" "w")) ∷ []))
    ≡ fault 11 "/actions/A" ∷ fault 11 "/actions/A" ∷ []
written_and_read = refl

-- ---- initialised twice: the later pointer is told, and nothing else of that variable, of whatever types it is

-- V and W initialise v as these types, and A is of a kind
abbrev twice_beside : Sort → Sort → KindTree → Option RuleFault
twice_beside first second kind = broken_of (of (
    at "A" 0 "/actions/A" (after 2) kind ∷ at "V" 1 "/actions/V" [] (init first) ∷ at "W" 2 "/actions/W" (after 1) (init second) ∷ []))

twice_beside_a_writer : map (twice_beside Sort.List Sort.List) writers ≡ map (λ (kind : KindTree). fault 11 "/actions/W") writers
twice_beside_a_writer = refl

twice_of_two_types : map (twice_beside Sort.Int Sort.Text) writers ≡ map (λ (kind : KindTree). fault 11 "/actions/W") writers
twice_of_two_types = refl

twice_beside_a_reader : twice_beside Sort.List Sort.List reads ≡ fault 11 "/actions/W"
twice_beside_a_reader = refl

twice_beside_an_output : broken_of (record (of (
    at "V" 1 "/actions/V" [] (init Sort.List) ∷ at "W" 2 "/actions/W" (after 1) (init Sort.List) ∷ [])) { outputs = output v_read })
    ≡ fault 11 "/actions/W"
twice_beside_an_output = refl

-- the one that is nested is told where its pointer is the later, and isn't where it is the lesser; what reads v never is

abbrev nested_first : KindTree → Option RuleFault
nested_first kind = broken_of (of (
    at "A" 0 "/actions/A" (after 3) kind
    ∷ at "S" 1 "/actions/S" [] (in_scope (at "Z" 2 "/actions/S/actions/Z" [] (init Sort.List) ∷ []))
    ∷ at "V" 3 "/actions/V" (after 1) (init Sort.List) ∷ []))

twice_nested_first : map nested_first (reads ∷ writers) ≡ map (λ (kind : KindTree). fault 11 "/actions/V") (reads ∷ writers)
twice_nested_first = refl

twice_nested_later : broken_of (of (
    at "A" 0 "/actions/A" (after 1) reads ∷ at "B" 1 "/actions/B" [] (init Sort.List)
    ∷ at "S" 2 "/actions/S" (after 1) (in_scope (at "Z" 3 "/actions/S/actions/Z" [] (init Sort.List) ∷ [])) ∷ []))
    ≡ fault 11 "/actions/S/actions/Z"
twice_nested_later = refl

twice_nested_both : broken_of (of (
    at "A" 0 "/actions/A" (after 3) reads
    ∷ at "S" 1 "/actions/S" [] (in_scope (at "Z" 2 "/actions/S/actions/Z" [] (init Sort.List) ∷ []))
    ∷ at "T" 3 "/actions/T" (after 1) (in_scope (at "B" 4 "/actions/T/actions/B" [] (init Sort.List) ∷ [])) ∷ []))
    ≡ fault 11 "/actions/T/actions/B"
twice_nested_both = refl

-- three times: all but the first by their pointers, so the second is told
thrice : broken_of (of (
    at "U" 0 "/actions/U" [] (init Sort.List) ∷ at "V" 1 "/actions/V" [] (init Sort.List) ∷ at "W" 2 "/actions/W" [] (init Sort.List) ∷ []))
    ≡ fault 11 "/actions/V"
thrice = refl

thrice_in_another_order : broken_of (of (
    at "W" 2 "/actions/W" [] (init Sort.List) ∷ at "V" 1 "/actions/V" (after 2) (init Sort.List)
    ∷ at "U" 0 "/actions/U" (after 1) (init Sort.List) ∷ [])) ≡ fault 11 "/actions/V"
thrice_in_another_order = refl

-- two of them by one action: that is told, also where its pointer is the first
thrice_by_two : broken_of (of (
    at "U" 0 "/actions/U" [] (initialize (variable "v" ∷ variable "w" ∷ variable "v" ∷ []))
    ∷ at "V" 1 "/actions/V" [] (init Sort.List) ∷ [])) ≡ fault 11 "/actions/U"
thrice_by_two = refl

thrice_by_two_later : broken_of (of (
    at "U" 0 "/actions/U" [] (init Sort.List) ∷ at "V" 1 "/actions/V" [] (initialize (variable "v" ∷ variable "v" ∷ [])) ∷ []))
    ≡ fault 11 "/actions/V"
thrice_by_two_later = refl

-- of two variables, each of which is initialised twice, the least pointer
two_twice : broken_of (of (
    at "A" 0 "/actions/A" [] (initialize (variable "w" ∷ [])) ∷ at "B" 1 "/actions/B" [] (initialize (variable "w" ∷ []))
    ∷ at "V" 2 "/actions/V" [] (init Sort.List) ∷ at "W" 3 "/actions/W" [] (init Sort.List) ∷ [])) ≡ fault 11 "/actions/B"
two_twice = refl

-- ---- initialised once, but not at the top: whatever names it is told, of each kind

abbrev nested_beside : ActionTree → DefTree
nested_beside a = of (a ∷ at "S" 1 "/actions/S" [] (in_scope (at "V" 2 "/actions/S/actions/V" [] (init Sort.Int) ∷ [])) ∷ [])

nested_read_everywhere : told_of nested_beside (everywhere "/actions/A" (after 1) v_read)
    ≡ each_is (fault 11 "/actions/A") (everywhere "/actions/A" (after 1) v_read)
nested_read_everywhere = refl

nested_written_by_each : told_of nested_beside (of_kinds "/actions/A" (after 1) writers)
    ≡ each_is (fault 11 "/actions/A") (of_kinds "/actions/A" (after 1) writers)
nested_written_by_each = refl

-- also what stands beside it, and in an Until
nested_read_beside : broken_of (of (at "U" 2 "/actions/U" [] (turns yes (
    at "A" 0 "/actions/U/actions/A" (after 1) reads ∷ at "V" 1 "/actions/U/actions/V" [] (init Sort.List) ∷ [])) ∷ []))
    ≡ fault 11 "/actions/U/actions/A"
nested_read_beside = refl
