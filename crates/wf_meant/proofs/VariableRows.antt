-- Worked definitions. Variables: which writer is the last before a point.
use Rattle.std.proofs.Common.{◌≡◌, [], ◌∷◌, refl}
use Rattle.std.specs.Prelude.{true, false, None, Some, codes}
use Rattle.wf_val.specs.Arguments.{wrong_type}
use Rattle.wf_val.specs.ValueTree.{null, boolean}
use Rattle.wf_val.specs.declared.fault.EvalFault.{EvalFault}
use Rattle.wf_val.specs.declared.function.Fun.{Fun}
use Rattle.wf_template.specs.TemplateTree.{plain}
use Rattle.wf_template.specs.CondTree.{compare_by}
use Rattle.wf_refs.specs.ActionTree.{compose, initialize, set_to, increment, append_array, append_string, branch, switch, foreach}
use Rattle.wf_refs.specs.ActionTree.{action_trees, case_trees}
use Rattle.wf_refs.specs.DefTree.{DefTree}
use Rattle.wf_refs.specs.Sort.{Sort}
use Rattle.wf_meant.proofs.Terms.{act, alone, ask, failure_of, fell, fields, initial, many, nat, of, of_actions, ran, rows_in, say}
use Rattle.wf_meant.proofs.Terms.{success_of, txt, unrun, value, values, words}

-- An append after another.
abbrev adds : DefTree
adds = of_actions (
    act "A" 0 (success_of 2) (append_array (codes "v") (nat 1))
    ∷ act "B" 1 (success_of 0) (append_array (codes "v") (nat 2))
    ∷ act "V" 2 [] (initialize (initial "v" Sort.List None ∷ []))
    ∷ [])

adds-means : rows_in adds [] ≡
    ran "A" [] (fields ((codes "name", words "v") ∷ (codes "value", value 1) ∷ [])) (fields (
    (codes "body", fields ((codes "name", words "v") ∷ (codes "value", values (value 1 ∷ [])) ∷ [])) ∷ []))
    ∷ ran "B" [] (fields ((codes "name", words "v") ∷ (codes "value", value 2) ∷ [])) (fields (
    (codes "body", fields ((codes "name", words "v") ∷ (codes "value", values (value 1 ∷ value 2 ∷ [])) ∷ [])) ∷ []))
    ∷ ran "V" []
    (fields ((
      codes "variables",
      values (
          fields ((codes "name", words "v") ∷ (codes "type", words "array") ∷ (codes "value", values []) ∷ [])
          ∷ []),
    )
    ∷ []))
    (fields ((codes "body", fields ((codes "name", words "v") ∷ (codes "value", values []) ∷ [])) ∷ []))
    ∷ []
adds-means = refl

-- A list that grows in a sequential Foreach: each iteration sees the ones before it.
abbrev grows : DefTree
grows = of_actions (
    act "L" 0 (success_of 2) (foreach (many (nat 1 ∷ nat 2 ∷ nat 3 ∷ [])) 1 (action_trees (
    act "P" 1 [] (append_array (codes "v") (of (alone "item"))) ∷ [])))
    ∷ act "V" 2 [] (initialize (initial "v" Sort.List None ∷ []))
    ∷ [])

grows-means : rows_in grows [] ≡
    ran "L" [] (values (value 1 ∷ value 2 ∷ value 3 ∷ [])) null
    ∷ ran "P" (0 ∷ []) (fields ((codes "name", words "v") ∷ (codes "value", value 1) ∷ [])) (fields (
    (codes "body", fields ((codes "name", words "v") ∷ (codes "value", values (value 1 ∷ [])) ∷ [])) ∷ []))
    ∷ ran "P" (1 ∷ []) (fields ((codes "name", words "v") ∷ (codes "value", value 2) ∷ [])) (fields (
    (codes "body", fields ((codes "name", words "v") ∷ (codes "value", values (value 1 ∷ value 2 ∷ [])) ∷ [])) ∷ []))
    ∷ ran "P" (2 ∷ []) (fields ((codes "name", words "v") ∷ (codes "value", value 3) ∷ [])) (fields (
    (codes "body", fields ((codes "name", words "v") ∷ (codes "value", values (value 1 ∷ value 2 ∷ value 3 ∷ [])) ∷ [])) ∷ []))
    ∷ ran "V" []
    (fields ((
      codes "variables",
      values (
          fields ((codes "name", words "v") ∷ (codes "type", words "array") ∷ (codes "value", values []) ∷ [])
          ∷ []),
    )
    ∷ []))
    (fields ((codes "body", fields ((codes "name", words "v") ∷ (codes "value", values []) ∷ [])) ∷ []))
    ∷ []
grows-means = refl

-- In a sequential Foreach a writer that stands in an If is seen by the next iteration, where its branch was taken.
abbrev grows-in-branch : DefTree
grows-in-branch = of_actions (
    act "L" 1 (success_of 4) (foreach (many (nat 1 ∷ nat 2 ∷ nat 3 ∷ [])) 1 (action_trees (
    act "C" 0 [] (branch
    (compare_by Fun.Equals (of (alone "item")) (nat 2))
    (action_trees (act "P" 2 [] (increment (codes "n") (Some (nat 5))) ∷ [])) (action_trees []))
    ∷ act "R" 3 (success_of 0) (compose (of (ask "variables" (say "n"))))
    ∷ [])))
    ∷ act "V" 4 [] (initialize (initial "n" Sort.Int None ∷ []))
    ∷ [])

grows-in-branch-means : rows_in grows-in-branch [] ≡
    ran "C" (0 ∷ []) (boolean false) null
    ∷ ran "C" (1 ∷ []) (boolean true) null
    ∷ ran "C" (2 ∷ []) (boolean false) null
    ∷ ran "L" [] (values (value 1 ∷ value 2 ∷ value 3 ∷ [])) null
    ∷ unrun "P" (0 ∷ [])
    ∷ ran "P" (1 ∷ []) (fields ((codes "name", words "n") ∷ (codes "value", value 5) ∷ [])) (fields (
    (codes "body", fields ((codes "name", words "n") ∷ (codes "value", value 5) ∷ [])) ∷ []))
    ∷ unrun "P" (2 ∷ [])
    ∷ ran "R" (0 ∷ []) (value 0) (value 0)
    ∷ ran "R" (1 ∷ []) (value 5) (value 5)
    ∷ ran "R" (2 ∷ []) (value 5) (value 5)
    ∷ ran "V" []
    (fields ((
      codes "variables",
      values (
          fields ((codes "name", words "n") ∷ (codes "type", words "integer") ∷ (codes "value", value 0) ∷ [])
          ∷ []),
    )
    ∷ []))
    (fields ((codes "body", fields ((codes "name", words "n") ∷ (codes "value", value 0) ∷ [])) ∷ []))
    ∷ []
grows-in-branch-means = refl

-- A writer that Failed writes nothing, and a later reader sees the value before.
abbrev failed-writer : DefTree
failed-writer = of_actions (
    act "A" 0 (success_of 2) (set_to (codes "n") (txt "x"))
    ∷ act "B" 1 (failure_of 0) (compose (of (ask "variables" (say "n"))))
    ∷ act "V" 2 [] (initialize (initial "n" Sort.Int None ∷ []))
    ∷ [])

failed-writer-means : rows_in failed-writer [] ≡
    fell "A" [] (wrong_type Fun.Variable 0)
    ∷ ran "B" [] (value 0) (value 0)
    ∷ ran "V" []
    (fields ((
      codes "variables",
      values (
          fields ((codes "name", words "n") ∷ (codes "type", words "integer") ∷ (codes "value", value 0) ∷ [])
          ∷ []),
    )
    ∷ []))
    (fields ((codes "body", fields ((codes "name", words "n") ∷ (codes "value", value 0) ∷ [])) ∷ []))
    ∷ []
failed-writer-means = refl

-- Two variables of one action, one without a value: what reads one of them afterwards.
abbrev sets : DefTree
sets = of_actions (
    act "A" 0 (success_of 1) (compose (of (ask "variables" (say "a"))))
    ∷ act "V" 1 [] (initialize (initial "a" Sort.Int (Some (nat 1)) ∷ initial "b" Sort.Text None ∷ []))
    ∷ [])

sets-means : rows_in sets [] ≡
    ran "A" [] (value 1) (value 1)
    ∷ ran "V" []
    (fields ((
      codes "variables",
      values (
          fields ((codes "name", words "a") ∷ (codes "type", words "integer") ∷ (codes "value", value 1) ∷ [])
          ∷ fields ((codes "name", words "b") ∷ (codes "type", words "string") ∷ (codes "value", words "") ∷ [])
          ∷ []),
    )
    ∷ []))
    (fields ((
      codes "body",
      values (
          fields ((codes "name", words "a") ∷ (codes "value", value 1) ∷ [])
          ∷ fields ((codes "name", words "b") ∷ (codes "value", words "") ∷ [])
          ∷ []),
    )
    ∷ []))
    ∷ []
sets-means = refl

-- A value that reads a variable of the same action finds none, and the action makes none.
abbrev sets-itself : DefTree
sets-itself = of_actions (
    act "A" 0 (failure_of 1) (compose (of (ask "variables" (say "a"))))
    ∷ act "V" 1 [] (initialize (
    initial "a" Sort.Int (Some (nat 1)) ∷ initial "b" Sort.Text (Some (of (ask "variables" (say "a")))) ∷ []))
    ∷ [])

sets-itself-means : rows_in sets-itself [] ≡
    fell "A" [] (EvalFault.NoValue (codes "a")) ∷ fell "V" [] (EvalFault.NoValue (codes "a")) ∷ []
sets-itself-means = refl

-- The items of a Foreach stay, whatever is written inside it: the list is that of its opening.
abbrev list-is-old : DefTree
list-is-old = of_actions (
    act "A" 0 (success_of 1) (compose (of (ask "variables" (say "v"))))
    ∷ act "L" 1 (success_of 3) (foreach (of (ask "variables" (say "v"))) 1 (action_trees (
    act "P" 2 [] (append_array (codes "v") (of (alone "item"))) ∷ [])))
    ∷ act "V" 3 [] (initialize (initial "v" Sort.List (Some (many (nat 1 ∷ nat 2 ∷ []))) ∷ []))
    ∷ [])

list-is-old-means : rows_in list-is-old [] ≡
    ran "A" [] (values (value 1 ∷ value 2 ∷ value 1 ∷ value 2 ∷ [])) (values (value 1 ∷ value 2 ∷ value 1 ∷ value 2 ∷ []))
    ∷ ran "L" [] (values (value 1 ∷ value 2 ∷ [])) null
    ∷ ran "P" (0 ∷ []) (fields ((codes "name", words "v") ∷ (codes "value", value 1) ∷ [])) (fields (
    (codes "body", fields ((codes "name", words "v") ∷ (codes "value", values (value 1 ∷ value 2 ∷ value 1 ∷ [])) ∷ [])) ∷ []))
    ∷ ran "P" (1 ∷ []) (fields ((codes "name", words "v") ∷ (codes "value", value 2) ∷ [])) (fields ((
      codes "body",
      fields ((codes "name", words "v") ∷ (codes "value", values (value 1 ∷ value 2 ∷ value 1 ∷ value 2 ∷ [])) ∷ []),
    )
    ∷ []))
    ∷ ran "V" []
    (fields ((
      codes "variables",
      values (
          fields (
          (codes "name", words "v")
          ∷ (codes "type", words "array")
          ∷ (codes "value", values (value 1 ∷ value 2 ∷ []))
          ∷ [])
          ∷ []),
    )
    ∷ []))
    (fields ((codes "body", fields ((codes "name", words "v") ∷ (codes "value", values (value 1 ∷ value 2 ∷ [])) ∷ [])) ∷ []))
    ∷ []
list-is-old-means = refl

-- What reads a variable behind a Switch sees the writer of the branch that was taken.
abbrev by-branch : DefTree
by-branch = of_actions (
    act "A" 0 (success_of 2) (compose (of (ask "variables" (say "s"))))
    ∷ act "V" 1 [] (initialize (initial "s" Sort.Text None ∷ []))
    ∷ act "W" 2 (success_of 1) (switch (plain (codes "b")) (case_trees (
    (codes "P", (words "a", action_trees (act "X" 3 [] (set_to (codes "s") (txt "x")) ∷ [])))
    ∷ (codes "Q", (words "b", action_trees (act "Y" 4 [] (append_string (codes "s") (txt "y")) ∷ [])))
    ∷ [])))
    ∷ [])

by-branch-means : rows_in by-branch [] ≡
    ran "A" [] (words "y") (words "y")
    ∷ ran "V" []
    (fields ((
      codes "variables",
      values (
          fields ((codes "name", words "s") ∷ (codes "type", words "string") ∷ (codes "value", words "") ∷ [])
          ∷ []),
    )
    ∷ []))
    (fields ((codes "body", fields ((codes "name", words "s") ∷ (codes "value", words "") ∷ [])) ∷ []))
    ∷ ran "W" [] (words "b") null
    ∷ unrun "X" []
    ∷ ran "Y" [] (fields ((codes "name", words "s") ∷ (codes "value", words "y") ∷ [])) (fields (
    (codes "body", fields ((codes "name", words "s") ∷ (codes "value", words "y") ∷ [])) ∷ []))
    ∷ []
by-branch-means = refl
