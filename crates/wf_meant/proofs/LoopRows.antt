-- Worked definitions. Foreach and Until, and what expressions see of iterations.
use Rattle.std.proofs.Common.{◌≡◌, [], ◌∷◌, refl}
use Rattle.std.specs.Prelude.{true, false, None, codes}
use Rattle.wf_val.specs.Arguments.{wrong_type}
use Rattle.wf_val.specs.ValueTree.{null}
use Rattle.wf_val.specs.declared.fault.EvalFault.{EvalFault}
use Rattle.wf_val.specs.declared.function.Fun.{Fun}
use Rattle.wf_template.specs.ExprTree.{index}
use Rattle.wf_template.specs.TemplateTree.{whole}
use Rattle.wf_template.specs.CondTree.{holds}
use Rattle.wf_refs.specs.ActionTree.{compose, initialize, increment, scope, foreach, until, action_trees}
use Rattle.wf_refs.specs.DefTree.{DefTree}
use Rattle.wf_refs.specs.Sort.{Sort}
use Rattle.wf_environment.specs.Status.TheVariants.{Failed}
use Rattle.wf_meant.proofs.Terms.{act, after, alone, astray, apply, ask, ended, failure_of, fell, fields, initial, many, nat, num, of}
use Rattle.wf_meant.proofs.Terms.{of_actions, ran, rows_in, say, success_of, unrun, value, values, words}

-- A Foreach, and what asks for the outputs of all its iterations.
abbrev rounds : DefTree
rounds = of_actions (
    act "A" 0 (success_of 2) (compose (of (ask "outputs" (say "C"))))
    ∷ act "L" 2 [] (foreach (many (nat 1 ∷ nat 2 ∷ nat 3 ∷ [])) 20 (action_trees (act "C" 1 [] (compose (of (alone "item"))) ∷ [])))
    ∷ [])

rounds-means : rows_in rounds [] ≡
    ran "A" [] (values (value 1 ∷ value 2 ∷ value 3 ∷ [])) (values (value 1 ∷ value 2 ∷ value 3 ∷ []))
    ∷ ran "C" (0 ∷ []) (value 1) (value 1)
    ∷ ran "C" (1 ∷ []) (value 2) (value 2)
    ∷ ran "C" (2 ∷ []) (value 3) (value 3)
    ∷ ran "L" [] (values (value 1 ∷ value 2 ∷ value 3 ∷ [])) null
    ∷ []
rounds-means = refl

-- A Foreach over the empty list: the outputs are the empty list, as is the result.
abbrev no-rounds : DefTree
no-rounds = of_actions (
    act "A" 0 (success_of 2) (compose (of (apply "createArray" (ask "outputs" (say "C") ∷ ask "result" (say "L") ∷ []))))
    ∷ act "L" 2 [] (foreach (many []) 20 (action_trees (act "C" 1 [] (compose (of (alone "item"))) ∷ [])))
    ∷ [])

no-rounds-means : rows_in no-rounds [] ≡
    ran "A" [] (values (values [] ∷ values [] ∷ [])) (values (values [] ∷ values [] ∷ [])) ∷ ran "L" [] (values []) null ∷ []
no-rounds-means = refl

-- A Foreach over what is no list.
abbrev no-list : DefTree
no-list = of_actions (act "L" 1 [] (foreach (of (num 1)) 20 (action_trees (act "C" 0 [] (compose (of (alone "item"))) ∷ []))) ∷ [])

no-list-means : rows_in no-list [] ≡
    fell "L" [] (wrong_type Fun.Foreach 0) ∷ []
no-list-means = refl

-- A Foreach over what has no value; what asks for outputs from outside gets the empty list.
abbrev no-items : DefTree
no-items = of_actions (
    act "A" 0 (failure_of 2) (compose (of (ask "outputs" (say "C"))))
    ∷ act "L" 2 [] (foreach (of (apply "div" (num 1 ∷ num 0 ∷ []))) 20 (action_trees (act "C" 1 [] (compose (of (alone "item"))) ∷ [])))
    ∷ [])

no-items-means : rows_in no-items [] ≡
    ran "A" [] (values []) (values []) ∷ fell "L" [] (EvalFault.Range Fun.Div) ∷ []
no-items-means = refl

-- A Foreach is Failed where an iteration is, and the others go on.
abbrev failing-round : DefTree
failing-round = of_actions (
    act "L" 1 [] (foreach (many (nat 0 ∷ nat 1 ∷ [])) 20 (action_trees (
    act "C" 0 [] (compose (of (apply "div" (num 1 ∷ alone "item" ∷ [])))) ∷ [])))
    ∷ [])

failing-round-means : rows_in failing-round [] ≡
    fell "C" (0 ∷ []) (EvalFault.Range Fun.Div)
    ∷ ran "C" (1 ∷ []) (value 1) (value 1)
    ∷ ended "L" [] Failed (codes "ActionFailed") (values (value 0 ∷ value 1 ∷ [])) null
    ∷ []
failing-round-means = refl

-- The result of a Foreach is one list, by iteration and then by name, Skipped rows too.
abbrev result-of-rounds : DefTree
result-of-rounds = of_actions (
    act "L" 2 [] (foreach (many (nat 1 ∷ nat 0 ∷ [])) 20 (action_trees (
    act "C" 0 (failure_of 1) (compose (nat 7)) ∷ act "D" 1 [] (compose (of (apply "div" (num 1 ∷ alone "item" ∷ [])))) ∷ [])))
    ∷ act "R" 3 (after 2 true true false false ∷ []) (compose (of (apply "createArray" (
    index (index (ask "result" (say "L")) (num 0) false) (say "status") false
    ∷ index (index (ask "result" (say "L")) (num 1) false) (say "status") false
    ∷ index (index (ask "result" (say "L")) (num 2) false) (say "status") false
    ∷ index (index (ask "result" (say "L")) (num 3) false) (say "status") false
    ∷ ask "length" (ask "result" (say "L"))
    ∷ []))))
    ∷ [])

result-of-rounds-means : rows_in result-of-rounds [] ≡
    unrun "C" (0 ∷ [])
    ∷ ran "C" (1 ∷ []) (value 7) (value 7)
    ∷ ran "D" (0 ∷ []) (value 1) (value 1)
    ∷ fell "D" (1 ∷ []) (EvalFault.Range Fun.Div)
    ∷ ran "L" [] (values (value 1 ∷ value 0 ∷ [])) null
    ∷ ran "R" [] (values (words "Skipped" ∷ words "Succeeded" ∷ words "Succeeded" ∷ words "Failed" ∷ value 4 ∷ [])) (values
    (words "Skipped" ∷ words "Succeeded" ∷ words "Succeeded" ∷ words "Failed" ∷ value 4 ∷ []))
    ∷ []
result-of-rounds-means = refl

-- A loop in a loop: the nearest item, and that of the outer one.
abbrev crossed : DefTree
crossed = of_actions (
    act "L" 1 [] (foreach (many (nat 1 ∷ nat 2 ∷ [])) 20 (action_trees (
    act "M" 2 [] (foreach (many (of (alone "item") ∷ nat 9 ∷ [])) 20 (action_trees (
    act "C" 0 [] (compose (many (of (alone "item") ∷ of (ask "items" (say "L")) ∷ []))) ∷ [])))
    ∷ [])))
    ∷ [])

crossed-means : rows_in crossed [] ≡
    ran "C" (0 ∷ 0 ∷ []) (values (value 1 ∷ value 1 ∷ [])) (values (value 1 ∷ value 1 ∷ []))
    ∷ ran "C" (0 ∷ 1 ∷ []) (values (value 9 ∷ value 1 ∷ [])) (values (value 9 ∷ value 1 ∷ []))
    ∷ ran "C" (1 ∷ 0 ∷ []) (values (value 2 ∷ value 2 ∷ [])) (values (value 2 ∷ value 2 ∷ []))
    ∷ ran "C" (1 ∷ 1 ∷ []) (values (value 9 ∷ value 2 ∷ [])) (values (value 9 ∷ value 2 ∷ []))
    ∷ ran "L" [] (values (value 1 ∷ value 2 ∷ [])) null
    ∷ ran "M" (0 ∷ []) (values (value 1 ∷ value 9 ∷ [])) null
    ∷ ran "M" (1 ∷ []) (values (value 2 ∷ value 9 ∷ [])) null
    ∷ []
crossed-means = refl

-- From inside a loop what is before it is seen as it is, and what stands in the same iteration as that iteration has it.
abbrev reached-out : DefTree
reached-out = of_actions (
    act "B" 0 [] (compose (nat 5))
    ∷ act "L" 3 (success_of 0) (foreach (many (nat 1 ∷ nat 2 ∷ [])) 20 (action_trees (
    act "C" 1 [] (compose (of (alone "item")))
    ∷ act "D" 2 (success_of 1) (compose (of (apply "createArray" (ask "outputs" (say "B") ∷ ask "outputs" (say "C") ∷ []))))
    ∷ [])))
    ∷ [])

reached-out-means : rows_in reached-out [] ≡
    ran "B" [] (value 5) (value 5)
    ∷ ran "C" (0 ∷ []) (value 1) (value 1)
    ∷ ran "C" (1 ∷ []) (value 2) (value 2)
    ∷ ran "D" (0 ∷ []) (values (value 5 ∷ value 1 ∷ [])) (values (value 5 ∷ value 1 ∷ []))
    ∷ ran "D" (1 ∷ []) (values (value 5 ∷ value 2 ∷ [])) (values (value 5 ∷ value 2 ∷ []))
    ∷ ran "L" [] (values (value 1 ∷ value 2 ∷ [])) null
    ∷ []
reached-out-means = refl

-- A reference between two loops in a loop leaves the one that it names inside, in its own iteration of the outer one.
abbrev between : DefTree
between = of_actions (
    act "L" 2 [] (foreach (many (nat 1 ∷ nat 2 ∷ [])) 20 (action_trees (
    act "D" 1 (success_of 3) (compose (of (ask "outputs" (say "C"))))
    ∷ act "M" 3 [] (foreach (many (nat 10 ∷ nat 20 ∷ [])) 20 (action_trees (
    act "C" 0 [] (compose (of (apply "add" (alone "item" ∷ ask "items" (say "L") ∷ [])))) ∷ [])))
    ∷ [])))
    ∷ [])

between-means : rows_in between [] ≡
    ran "C" (0 ∷ 0 ∷ []) (value 11) (value 11)
    ∷ ran "C" (0 ∷ 1 ∷ []) (value 21) (value 21)
    ∷ ran "C" (1 ∷ 0 ∷ []) (value 12) (value 12)
    ∷ ran "C" (1 ∷ 1 ∷ []) (value 22) (value 22)
    ∷ ran "D" (0 ∷ []) (values (value 11 ∷ value 21 ∷ [])) (values (value 11 ∷ value 21 ∷ []))
    ∷ ran "D" (1 ∷ []) (values (value 12 ∷ value 22 ∷ [])) (values (value 12 ∷ value 22 ∷ []))
    ∷ ran "L" [] (values (value 1 ∷ value 2 ∷ [])) null
    ∷ ran "M" (0 ∷ []) (values (value 10 ∷ value 20 ∷ [])) null
    ∷ ran "M" (1 ∷ []) (values (value 10 ∷ value 20 ∷ [])) null
    ∷ []
between-means = refl

-- The result of a Scope in a loop, asked for in the same iteration.
abbrev inner-result : DefTree
inner-result = of_actions (
    act "L" 2 [] (foreach (many (nat 1 ∷ nat 2 ∷ [])) 20 (action_trees (
    act "D" 1 (success_of 3) (compose (of (index (index (ask "result" (say "S")) (num 0) false) (say "outputs") false)))
    ∷ act "S" 3 [] (scope (action_trees (act "C" 0 [] (compose (of (alone "item"))) ∷ [])))
    ∷ [])))
    ∷ [])

inner-result-means : rows_in inner-result [] ≡
    ran "C" (0 ∷ []) (value 1) (value 1)
    ∷ ran "C" (1 ∷ []) (value 2) (value 2)
    ∷ ran "D" (0 ∷ []) (value 1) (value 1)
    ∷ ran "D" (1 ∷ []) (value 2) (value 2)
    ∷ ran "L" [] (values (value 1 ∷ value 2 ∷ [])) null
    ∷ ran "S" (0 ∷ []) null null
    ∷ ran "S" (1 ∷ []) null null
    ∷ []
inner-result-means = refl

-- An Until that counts to 2: its test sees the iteration that it follows, and a view from outside is that of the last one.
abbrev counts : DefTree
counts = of_actions (
    act "B" 0 (success_of 2) (compose (of (ask "outputs" (say "I"))))
    ∷ act "U" 2 (success_of 3) (until
    (holds (whole (apply "equals" (ask "variables" (say "n") ∷ num 2 ∷ [])))) 5 false
    (action_trees (act "I" 1 [] (increment (codes "n") None) ∷ [])))
    ∷ act "V" 3 [] (initialize (initial "n" Sort.Int None ∷ []))
    ∷ [])

counts-means : rows_in counts [] ≡
    ran "B" [] (fields ((codes "body", fields ((codes "name", words "n") ∷ (codes "value", value 2) ∷ [])) ∷ [])) (fields
    ((codes "body", fields ((codes "name", words "n") ∷ (codes "value", value 2) ∷ [])) ∷ []))
    ∷ ran "I" (0 ∷ []) (fields ((codes "name", words "n") ∷ (codes "value", value 1) ∷ [])) (fields (
    (codes "body", fields ((codes "name", words "n") ∷ (codes "value", value 1) ∷ [])) ∷ []))
    ∷ ran "I" (1 ∷ []) (fields ((codes "name", words "n") ∷ (codes "value", value 1) ∷ [])) (fields (
    (codes "body", fields ((codes "name", words "n") ∷ (codes "value", value 2) ∷ [])) ∷ []))
    ∷ ran "U" [] null (fields ((codes "iterations", value 2) ∷ []))
    ∷ ran "V" []
    (fields ((
      codes "variables",
      values (
          fields ((codes "name", words "n") ∷ (codes "type", words "integer") ∷ (codes "value", value 0) ∷ [])
          ∷ []),
    )
    ∷ []))
    (fields ((codes "body", fields ((codes "name", words "n") ∷ (codes "value", value 0) ∷ [])) ∷ []))
    ∷ []
counts-means = refl

-- The test sees the views of its own iteration, and a word that it draws isn't that of an action.
abbrev tested-by-view : DefTree
tested-by-view = of_actions (
    act "U" 1 [] (until (holds (whole (apply "equals" (ask "outputs" (say "C") ∷ num 1 ∷ [])))) 5 false (action_trees
    (act "C" 0 [] (compose (of (ask "iterationIndexes" (say "U")))) ∷ [])))
    ∷ [])

tested-by-view-means : rows_in tested-by-view [] ≡
    ran "C" (0 ∷ []) (value 0) (value 0)
    ∷ ran "C" (1 ∷ []) (value 1) (value 1)
    ∷ ran "U" [] null (fields ((codes "iterations", value 2) ∷ []))
    ∷ []
tested-by-view-means = refl

-- An Until that reaches its count, whose status is that of its last iteration.
abbrev reaches : DefTree
reaches = of_actions (
    act "U" 1 [] (until (holds (whole (apply "equals" (num 1 ∷ num 2 ∷ [])))) 2 false (action_trees (
    act "C" 0 [] (compose (of (ask "iterationIndexes" (say "U")))) ∷ [])))
    ∷ [])

reaches-means : rows_in reaches [] ≡
    ran "C" (0 ∷ []) (value 0) (value 0)
    ∷ ran "C" (1 ∷ []) (value 1) (value 1)
    ∷ ran "U" [] null (fields ((codes "iterations", value 2) ∷ []))
    ∷ []
reaches-means = refl

-- With the option it Failed.
abbrev reaches-fails : DefTree
reaches-fails = of_actions (
    act "U" 1 [] (until (holds (whole (apply "equals" (num 1 ∷ num 2 ∷ [])))) 2 true (action_trees (act "C" 0 [] (compose (nat 1)) ∷ [])))
    ∷ [])

reaches-fails-means : rows_in reaches-fails [] ≡
    ran "C" (0 ∷ []) (value 1) (value 1)
    ∷ ran "C" (1 ∷ []) (value 1) (value 1)
    ∷ ended "U" [] Failed (codes "LimitReached") null (fields ((codes "iterations", value 2) ∷ []))
    ∷ []
reaches-fails-means = refl

-- An Until whose test has no value Failed after one iteration, and gives out how many there were.
abbrev untold : DefTree
untold = of_actions (
    act "U" 1 [] (until (holds (whole (apply "div" (num 1 ∷ num 0 ∷ [])))) 3 false (action_trees (act "C" 0 [] (compose (nat 1)) ∷ [])))
    ∷ [])

untold-means : rows_in untold [] ≡
    ran "C" (0 ∷ []) (value 1) (value 1) ∷ astray "U" [] (EvalFault.Range Fun.Div) (fields ((codes "iterations", value 1) ∷ [])) ∷ []
untold-means = refl

-- And one whose test is no truth value.
abbrev no-truth : DefTree
no-truth = of_actions (act "U" 1 [] (until (holds (whole (num 1))) 3 false (action_trees (act "C" 0 [] (compose (nat 1)) ∷ []))) ∷ [])

no-truth-means : rows_in no-truth [] ≡
    ran "C" (0 ∷ []) (value 1) (value 1) ∷ astray "U" [] (wrong_type Fun.Condition 0) (fields ((codes "iterations", value 1) ∷ [])) ∷ []
no-truth-means = refl

-- An Until that ends with a Failed iteration is Failed; one before it doesn't count.
abbrev failing-last : DefTree
failing-last = of_actions (
    act "U" 2 (success_of 3) (until
    (holds (whole (apply "equals" (ask "variables" (say "n") ∷ num 2 ∷ [])))) 5 false
    (action_trees (
    act "C" 0 (success_of 1) (compose (of (apply "div" (
    num 1 ∷ apply "sub" (num 2 ∷ ask "variables" (say "n") ∷ []) ∷ []))))
    ∷ act "I" 1 [] (increment (codes "n") None)
    ∷ [])))
    ∷ act "V" 3 [] (initialize (initial "n" Sort.Int None ∷ []))
    ∷ [])

failing-last-means : rows_in failing-last [] ≡
    ran "C" (0 ∷ []) (value 1) (value 1)
    ∷ fell "C" (1 ∷ []) (EvalFault.Range Fun.Div)
    ∷ ran "I" (0 ∷ []) (fields ((codes "name", words "n") ∷ (codes "value", value 1) ∷ [])) (fields (
    (codes "body", fields ((codes "name", words "n") ∷ (codes "value", value 1) ∷ [])) ∷ []))
    ∷ ran "I" (1 ∷ []) (fields ((codes "name", words "n") ∷ (codes "value", value 1) ∷ [])) (fields (
    (codes "body", fields ((codes "name", words "n") ∷ (codes "value", value 2) ∷ [])) ∷ []))
    ∷ ended "U" [] Failed (codes "ActionFailed") null (fields ((codes "iterations", value 2) ∷ []))
    ∷ ran "V" []
    (fields ((
      codes "variables",
      values (
          fields ((codes "name", words "n") ∷ (codes "type", words "integer") ∷ (codes "value", value 0) ∷ [])
          ∷ []),
    )
    ∷ []))
    (fields ((codes "body", fields ((codes "name", words "n") ∷ (codes "value", value 0) ∷ [])) ∷ []))
    ∷ []
failing-last-means = refl

-- The result of an Until is that of its last iteration; one that was Skipped had none, and gives null and the empty list.
abbrev left-until : DefTree
left-until = of_actions (
    act "A" 0 (after 5 false false true false ∷ []) (compose (of (apply "createArray" (
    ask "outputs" (say "C") ∷ ask "result" (say "U") ∷ []))))
    ∷ act "B" 1 (success_of 6) (compose (of (index (index (ask "result" (say "W")) (num 0) false) (say "outputs") false)))
    ∷ act "F" 4 [] (compose (nat 1))
    ∷ act "U" 5 (failure_of 4) (until (holds (whole (apply "equals" (num 1 ∷ num 2 ∷ [])))) 1 false (action_trees (
    act "C" 2 [] (compose (nat 1)) ∷ [])))
    ∷ act "W" 6 [] (until (holds (whole (apply "equals" (num 1 ∷ num 2 ∷ [])))) 2 false (action_trees (
    act "D" 3 [] (compose (of (ask "iterationIndexes" (say "W")))) ∷ [])))
    ∷ [])

left-until-means : rows_in left-until [] ≡
    ran "A" [] (values (null ∷ values [] ∷ [])) (values (null ∷ values [] ∷ []))
    ∷ ran "B" [] (value 1) (value 1)
    ∷ ran "D" (0 ∷ []) (value 0) (value 0)
    ∷ ran "D" (1 ∷ []) (value 1) (value 1)
    ∷ ran "F" [] (value 1) (value 1)
    ∷ unrun "U" []
    ∷ ran "W" [] null (fields ((codes "iterations", value 2) ∷ []))
    ∷ []
left-until-means = refl

-- An Until in a Foreach counts by itself in each iteration, and its index goes by its name.
abbrev until-in-foreach : DefTree
until-in-foreach = of_actions (
    act "L" 1 [] (foreach (many (nat 1 ∷ nat 2 ∷ [])) 20 (action_trees (
    act "U" 2 [] (until
    (holds (whole (apply "equals" (
    ask "iterationIndexes" (say "U") ∷ apply "sub" (ask "items" (say "L") ∷ num 1 ∷ []) ∷ [])))) 5 false
    (action_trees (
    act "C" 0 [] (compose (of (apply "add" (alone "item" ∷ ask "iterationIndexes" (say "U") ∷ [])))) ∷ [])))
    ∷ [])))
    ∷ [])

until-in-foreach-means : rows_in until-in-foreach [] ≡
    ran "C" (0 ∷ 0 ∷ []) (value 1) (value 1)
    ∷ ran "C" (1 ∷ 0 ∷ []) (value 2) (value 2)
    ∷ ran "C" (1 ∷ 1 ∷ []) (value 3) (value 3)
    ∷ ran "L" [] (values (value 1 ∷ value 2 ∷ [])) null
    ∷ ran "U" (0 ∷ []) null (fields ((codes "iterations", value 1) ∷ []))
    ∷ ran "U" (1 ∷ []) null (fields ((codes "iterations", value 2) ∷ []))
    ∷ []
until-in-foreach-means = refl
