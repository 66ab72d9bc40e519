-- Worked definitions for the rules on two actions, V13, V15 and V16, among the others: where each is told, and before which other rule.
use Rattle.std.proofs.Common.{◌≡◌, List, [], ◌∷◌, Option, Some, None, refl}
use Rattle.std.specs.Prelude.{codes}
use Rattle.wf_template.specs.DataTree.{null}
use Rattle.wf_varorder.specs.ActionTree.{ActionTree, KindTree, response, set_to, terminate}
use Rattle.wf_varorder.specs.Sort.{Sort}
use Rattle.wf_varorder.specs.RuleFault.{RuleFault}
use Rattle.wf_rules.specs.Broken.{broken_of}
use Rattle.wf_rules.proofs.RowWords.{after, asked, asks, at, composes, each, fault, in_scope, init, of, one, output, reads, some, tracking}
use Rattle.wf_rules.proofs.RowWords.{truth, turns}

abbrev sets : KindTree
sets = set_to (codes "v") null

abbrev stop : KindTree
stop = terminate null

abbrev answer : KindTree
answer = response null

-- where V initialises v
abbrev with_v : List ActionTree → Option RuleFault
with_v as' = broken_of (of (at "V" 0 "/actions/V" [] (init Sort.List) ∷ as'))

abbrev within : List ActionTree → Option RuleFault
within as' = broken_of (of as')

-- ---- V13

in_two_scopes : with_v (at "S" 1 "/actions/S" (after 0) (in_scope (at "X" 2 "/actions/S/actions/X" [] sets ∷ []))
    ∷ at "T" 3 "/actions/T" (after 0) (in_scope (at "Y" 4 "/actions/T/actions/Y" [] sets ∷ [])) ∷ []) ≡ fault 13 "/actions/S/actions/X"
in_two_scopes = refl

test_beside : with_v (at "W" 1 "/actions/W" (after 0) sets
    ∷ at "U" 2 "/actions/U" (after 0) (turns (truth (asked "variables" "v")) []) ∷ []) ≡ fault 13 "/actions/U"
test_beside = refl

side_by_side : with_v (at "L" 1 "/actions/L" (after 0) (each some (at "P" 2 "/actions/L/actions/P" [] sets ∷ [])) ∷ [])
    ≡ fault 13 "/actions/L/actions/P"
side_by_side = refl

in_order : with_v (at "A" 1 "/actions/A" (after 0) sets ∷ at "B" 2 "/actions/B" (after 1) sets ∷ []) ≡ None
in_order = refl

-- an output reads after all
read_by_an_output : broken_of (record (of (
    at "V" 0 "/actions/V" [] (init Sort.List) ∷ at "A" 1 "/actions/A" (after 0) sets ∷ [])) { outputs = output (asked "variables" "v") })
    ≡ None
read_by_an_output = refl

-- behind V12, and before V14 and V20
late : with_v (at "Z" 1 "/actions/Z" [] reads ∷ at "A" 2 "/actions/A" (after 0) sets ∷ at "B" 3 "/actions/B" (after 0) sets ∷ [])
    ≡ fault 12 "/actions/Z"
late = refl

before_items : with_v (at "A" 1 "/actions/A" [] (composes (asks "item")) ∷ at "B" 2 "/actions/B" (after 0) sets
    ∷ at "C" 3 "/actions/C" (after 0) sets ∷ []) ≡ fault 13 "/actions/B"
before_items = refl

before_tracked : with_v (tracking "S" 1 "/actions/S" (after 0) (in_scope (at "X" 2 "/actions/S/actions/X" [] sets ∷ []))
    (asked "variables" "v") ∷ []) ≡ fault 13 "/actions/S"
before_tracked = refl

-- ---- V15: behind V14, and before V16 and V17

end_beside : within (at "A" 0 "/actions/A" [] one ∷ at "T" 1 "/actions/T" [] stop ∷ []) ≡ fault 15 "/actions/T"
end_beside = refl

end_in_order : within (at "A" 0 "/actions/A" [] one ∷ at "T" 1 "/actions/T" (after 0) stop ∷ []) ≡ None
end_in_order = refl

end_behind_items : within (at "T" 0 "/actions/T" [] stop ∷ at "X" 1 "/actions/X" [] (composes (asks "item")) ∷ []) ≡ fault 14 "/actions/X"
end_behind_items = refl

end_before_answers : within (at "P" 0 "/actions/P" [] answer ∷ at "Q" 1 "/actions/Q" [] answer ∷ at "T" 2 "/actions/T" [] stop ∷ [])
    ≡ fault 15 "/actions/T"
end_before_answers = refl

end_before_loops : within (at "L" 0 "/actions/L" [] (each some (
    at "A" 1 "/actions/L/actions/A" [] one ∷ at "T" 2 "/actions/L/actions/T" [] stop ∷ [])) ∷ []) ≡ fault 15 "/actions/L/actions/T"
end_before_loops = refl

-- ---- V16, before V17

answers_beside : within (at "Q" 0 "/actions/Q" [] answer ∷ at "P" 1 "/actions/P" [] answer ∷ []) ≡ fault 16 "/actions/P"
answers_beside = refl

answers_in_order : within (at "P" 0 "/actions/P" [] answer ∷ at "Q" 1 "/actions/Q" (after 0) answer ∷ []) ≡ None
answers_in_order = refl

answers_before_loops : within (at "L" 0 "/actions/L" [] (each some (
    at "P" 1 "/actions/L/actions/P" [] answer ∷ at "Q" 2 "/actions/L/actions/Q" [] answer ∷ [])) ∷ []) ≡ fault 16 "/actions/L/actions/P"
answers_before_loops = refl
