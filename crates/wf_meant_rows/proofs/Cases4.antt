-- Random definitions, with the records that they mean. The records are what a reading of the rules in Python gives, which was written apart
-- from these definitions and isn't in this repository. Names and values are of the kind that computes: no number becomes a text.
use Rattle.std.proofs.Common.{◌≡◌, [], ◌∷◌, refl}
use Rattle.std.specs.Prelude.{true, false, None, Some, codes, decimal}
use Rattle.wf_val.specs.Arguments.{wrong_type}
use Rattle.wf_val.specs.ValueTree.{boolean, null}
use Rattle.wf_val.specs.declared.function.Fun.{Fun}
use Rattle.wf_template.specs.CondTree.{any_of, cond_trees, holds, not_of}
use Rattle.wf_template.specs.DataTree as data_of
use Rattle.wf_template.specs.ExprTree.{index, literal, member}
use Rattle.wf_template.specs.TemplateTree.{letters, part, parts, plain, whole}
use Rattle.wf_retry.specs.declared.policy.Outcome.{Outcome}
use Rattle.wf_retry.specs.declared.policy.Policy.{Policy}
use Rattle.wf_def.specs.ActionTree.{action_trees, append_string, branch, case_trees, compose, connector, decrement, foreach}
use Rattle.wf_def.specs.ActionTree.{increment, initialize, join, query, response, scope, select, set_to, switch, terminate}
use Rattle.wf_def.specs.ActionTree.{until, wait}
use Rattle.wf_def.specs.DefTree.{DefTree}
use Rattle.wf_def.specs.declared.sort.Sort.{Sort}
use Rattle.wf_record.specs.declared.attempt.Try.{Try}
use Rattle.wf_record.specs.declared.status.RunStatus.{RunStatus}
use Rattle.wf_record.specs.declared.status.Status.{Status}
use Rattle.wf_meant.specs.Record.{meaning}
use Rattle.wf_meant.proofs.Terms.{act, after, alone, apply, ask, called, fell, fields, initial, many, nat, num, obj, of}
use Rattle.wf_meant.proofs.Terms.{of_actions, ran, replied, say, tracked_as, tracking, txt, unrun, value, values, words}
use Rattle.wf_meant_rows.proofs.CaseTerms.{asked, leaves, left}

abbrev case-60 : DefTree
case-60 = of_actions
    (act "D" 0 [] (initialize (initial "va" Sort.Int (Some (of (ask "parameters" (say "p")))) ∷ []))
    ∷ act "X" 3 (after 0 true false false false ∷ []) (until (holds (whole (ask "not" (apply "equals" (ask "variables" (say "va") ∷ num
    1 ∷ []))))) 3 true (action_trees (act "F" 1 [] (decrement (codes "va") (Some (nat 2))) ∷ act "V" 2 (after 1 false false true false ∷
    []) (query (many (nat 1 ∷ nat 2 ∷ nat 3 ∷ [])) (whole (apply "equals" (alone "item" ∷ ask "iterationIndexes" (say "X") ∷ [])))) ∷
    [])))
    ∷ act "Z" 4 [] (initialize (initial "vb" Sort.Int None ∷ []))
    ∷ [])

case-60-means :
    meaning case-60 (asked (boolean true) (value 2) (words "t") []) ≡
    leaves (boolean true) (value 2) (words "t") RunStatus.Succeeded null null (fields [])
    (ran "D" [] (fields ((
      codes "variables",
      values (fields ((codes "name", words "va") ∷ (codes "type", words "integer") ∷ (
        codes
            "value",
        value 2,
      ) ∷ []) ∷ []),
    ) ∷ [])) (fields ((codes "body", fields ((codes "name", words "va") ∷ (codes "value", value 2) ∷ [])) ∷
    []))
    ∷ ran "F" (0 ∷ []) (fields ((codes "name", words "va") ∷ (codes "value", value 2) ∷ [])) (fields ((
      codes "body",
      fields ((
        codes
            "name",
        words "va",
      ) ∷ (codes "value", value 0) ∷ []),
    ) ∷ []))
    ∷ unrun "V" (0 ∷ [])
    ∷ ran "X" [] null (fields ((codes "iterations", value 1) ∷ []))
    ∷ ran "Z" [] (fields ((
      codes "variables",
      values (fields ((codes "name", words "vb") ∷ (codes "type", words "integer") ∷ (
        codes
            "value",
        value 0,
      ) ∷ []) ∷ []),
    ) ∷ [])) (fields ((codes "body", fields ((codes "name", words "vb") ∷ (codes "value", value 0) ∷ [])) ∷
    []))
    ∷ [])
unfolding meaning
case-60-means = refl

abbrev case-61 : DefTree
case-61 = of_actions
    (act "F" 0 [] (initialize (initial "va" Sort.Int None ∷ []))
    ∷ act "U" 2 (after 0 true false false false ∷ []) (branch (holds (whole (apply "greater" (ask "variables" (say "va") ∷ num 0 ∷
    [])))) (action_trees (act "T" 1 [] (query (of (apply "createArray" (ask "body" (say "F") ∷ num 2 ∷ []))) (whole (alone "item"))) ∷
    [])) (action_trees []))
    ∷ [])

case-61-means :
    meaning case-61 (asked (value 1) (fields ((codes "x", value 1) ∷ [])) (words "t") []) ≡
    leaves (value 1) (fields ((codes "x", value 1) ∷ [])) (words "t") RunStatus.Succeeded null null (fields [])
    (ran "F" [] (fields ((
      codes "variables",
      values (fields ((codes "name", words "va") ∷ (codes "type", words "integer") ∷ (
        codes
            "value",
        value 0,
      ) ∷ []) ∷ []),
    ) ∷ [])) (fields ((codes "body", fields ((codes "name", words "va") ∷ (codes "value", value 0) ∷ [])) ∷
    []))
    ∷ unrun "T" []
    ∷ ran "U" [] (boolean false) null
    ∷ [])
unfolding meaning
case-61-means = refl

abbrev case-62 : DefTree
case-62 = of_actions
    (act "C" 0 (after 1 true false false false ∷ []) (branch (any_of (cond_trees (holds (whole (ask "not" (apply "equals" (ask "body"
    (say "L") ∷ num 1 ∷ [])))) ∷ not_of (holds (whole (apply "equals" (num 0 ∷ num 1 ∷ [])))) ∷ []))) (action_trees (tracking ((
      codes
          "t",
      of (alone "triggerBody"),
    ) ∷ []) (act "Y" 2 [] (scope (action_trees []))) ∷ [])) (action_trees []))
    ∷ tracking ((codes "t", of (alone "triggerBody")) ∷ []) (act "L" 1 [] (initialize (initial "va" Sort.Text (Some (txt "s")) ∷ [])))
    ∷ [])

case-62-means :
    meaning case-62 (asked (values (value 1 ∷ value 2 ∷ [])) (value 1) (words "a") []) ≡
    leaves (values (value 1 ∷ value 2 ∷ [])) (value 1) (words "a") RunStatus.Succeeded null null (fields [])
    (ran "C" [] (boolean true) null
    ∷ tracked_as (fields ((codes "t", values (value 1 ∷ value 2 ∷ [])) ∷ [])) (ran "L" [] (fields ((
      codes "variables",
      values (fields
          ((codes "name", words "va") ∷ (codes "type", words "string") ∷ (codes "value", words "s") ∷ []) ∷ []),
    ) ∷ [])) (fields ((
      codes
          "body",
      fields ((codes "name", words "va") ∷ (codes "value", words "s") ∷ []),
    ) ∷ [])))
    ∷ tracked_as (fields ((codes "t", values (value 1 ∷ value 2 ∷ [])) ∷ [])) (ran "Y" [] null null)
    ∷ [])
unfolding meaning
case-62-means = refl

abbrev case-63 : DefTree
case-63 = of_actions
    (act "B" 0 (after 2 true false false false ∷ []) (compose (many (of (index (ask "actions" (say "G")) (say "status") true) ∷ nat 1 ∷
    [])))
    ∷ tracking ((codes "t", of (index (alone "action") (say "outputs") true)) ∷ []) (act "G" 1 (after 3 true false true true ∷ []) (join
    (many (txt "a" ∷ of (ask "parameters" (say "t")) ∷ txt "b" ∷ [])) (txt ",")))
    ∷ act "W" 2 (after 1 false true false false ∷ []) (connector (obj ((
      codes "body",
      of (apply "sub" (ask "outputs" (say "X") ∷ ask
          "first" (num 1) ∷ [])),
    ) ∷ (codes "method", txt "GET") ∷ (codes "uri", txt "u") ∷ [])) Policy.Standard)
    ∷ act "X" 3 [] (initialize (initial "va" Sort.Obj None ∷ []))
    ∷ [])

case-63-means :
    meaning case-63 (asked (value 2) (value 1) (words "t") []) ≡
    leaves (value 2) (value 1) (words "t") RunStatus.Succeeded null null (fields [])
    (unrun "B" []
    ∷ tracked_as (fields ((codes "t", fields ((codes "body", words "a,t,b") ∷ [])) ∷ [])) (ran "G" [] (fields ((
      codes "from",
      values
          (words "a" ∷ words "t" ∷ words "b" ∷ []),
    ) ∷ (codes "joinWith", words ",") ∷ [])) (fields ((codes "body", words "a,t,b") ∷ [])))
    ∷ unrun "W" []
    ∷ ran "X" [] (fields ((
      codes "variables",
      values (fields ((codes "name", words "va") ∷ (codes "type", words "object") ∷ (
        codes
            "value",
        fields [],
      ) ∷ []) ∷ []),
    ) ∷ [])) (fields ((
      codes "body",
      fields ((codes "name", words "va") ∷ (codes "value", fields []) ∷
          []),
    ) ∷ []))
    ∷ [])
unfolding meaning
case-63-means = refl

abbrev case-64 : DefTree
case-64 = of_actions
    (act "E" 1 [] (initialize (initial "va" Sort.Obj None ∷ []))
    ∷ act "V" 3 (after 1 true false true true ∷ []) (until (holds (whole (apply "equals" (ask "iterationIndexes" (say "V") ∷ num 1 ∷
    [])))) 1 true (action_trees (act "R" 2 [] (foreach (many []) 1 (action_trees (act "C" 0 [] (set_to (codes "va") (data_of.text (parts
    (letters (codes "x-") ∷ part (say "q") ∷ [])))) ∷ []))) ∷ [])))
    ∷ [])

case-64-means :
    meaning case-64 (asked (fields ((codes "x", value 1) ∷ [])) (value 1) (words "a") []) ≡
    leaves (fields ((codes "x", value 1) ∷ [])) (value 1) (words "a") RunStatus.Failed null null (fields [])
    (ran "E" [] (fields ((
      codes "variables",
      values (fields ((codes "name", words "va") ∷ (codes "type", words "object") ∷ (
        codes
            "value",
        fields [],
      ) ∷ []) ∷ []),
    ) ∷ [])) (fields ((
      codes "body",
      fields ((codes "name", words "va") ∷ (codes "value", fields []) ∷
          []),
    ) ∷ []))
    ∷ ran "R" (0 ∷ []) (values []) null
    ∷ left "V" [] Status.Failed (codes "LimitReached") null (fields ((codes "iterations", value 1) ∷ [])) null
    ∷ [])
unfolding meaning
case-64-means = refl

abbrev case-65 : DefTree
case-65 = of_actions
    (act "A" 0 [] (connector (obj ((codes "body", of (apply "coalesce" (alone "triggerBody" ∷ num 3 ∷ []))) ∷ (
      codes "method",
      txt
          "GET",
    ) ∷ (codes "uri", txt "u") ∷ [])) Policy.Standard)
    ∷ act "C" 1 (after 2 true false true true ∷ []) (compose (many (of (apply "createArray" (ask "outputs" (say "Y") ∷ ask "body" (say
    "A") ∷ [])) ∷ nat 1 ∷ [])))
    ∷ act "Y" 2 (after 0 true false true true ∷ []) (select (of (apply "createArray" (ask "body" (say "A") ∷ num 2 ∷ []))) (of (alone
    "item")))
    ∷ [])

case-65-means :
    meaning case-65 (asked (words "a") (fields ((codes "x", value 1) ∷ [])) (words "t") (replied "A" [] 1 (Outcome.Code 200) (fields [])
    (fields ((codes "x", value 1) ∷ [])) ∷ replied "A" [] 2 (Outcome.Code 200) (fields []) (value 1) ∷ [])) ≡
    leaves (words "a") (fields ((codes "x", value 1) ∷ [])) (words "t") RunStatus.Succeeded null null (fields [])
    (called (Try.Code 200 ∷ []) (left "A" [] Status.Succeeded (decimal 200) (fields ((codes "body", words "a") ∷ (
      codes "method",
      words
          "GET",
    ) ∷ (codes "uri", words "u") ∷ [])) (fields ((codes "body", fields ((codes "x", value 1) ∷ [])) ∷ (codes "headers", fields [])
    ∷ (codes "statusCode", value 200) ∷ [])) null)
    ∷ ran "C" [] (values (values (fields ((codes "body", values (fields ((codes "x", value 1) ∷ []) ∷ value 2 ∷ [])) ∷ []) ∷ fields
    ((codes "x", value 1) ∷ []) ∷ []) ∷ value 1 ∷ [])) (values (values (fields ((
      codes "body",
      values (fields ((codes "x", value 1) ∷
          []) ∷ value 2 ∷ []),
    ) ∷ []) ∷ fields ((codes "x", value 1) ∷ []) ∷ []) ∷ value 1 ∷ []))
    ∷ ran "Y" [] (fields ((codes "from", values (fields ((codes "x", value 1) ∷ []) ∷ value 2 ∷ [])) ∷ [])) (fields ((
      codes "body",
      values (fields ((codes "x", value 1) ∷ []) ∷ value 2 ∷ []),
    ) ∷ []))
    ∷ [])
unfolding meaning
case-65-means = refl

abbrev case-66 : DefTree
case-66 = of_actions
    (act "E" 0 (after 1 true false false false ∷ []) (increment (codes "va") None)
    ∷ act "F" 1 [] (initialize (initial "va" Sort.Int (Some (nat 1)) ∷ []))
    ∷ act "H" 2 (after 0 true true true true ∷ []) (decrement (codes "va") (Some (of (alone "triggerBody"))))
    ∷ [])

case-66-means :
    meaning case-66 (asked (fields ((codes "x", value 1) ∷ [])) (fields ((codes "x", value 1) ∷ [])) (words "t") []) ≡
    leaves (fields ((codes "x", value 1) ∷ [])) (fields ((codes "x", value 1) ∷ [])) (words "t") RunStatus.Failed null null (fields [])
    (ran "E" [] (fields ((codes "name", words "va") ∷ (codes "value", value 1) ∷ [])) (fields ((
      codes "body",
      fields ((
        codes "name",
        words "va",
      ) ∷ (codes "value", value 2) ∷ []),
    ) ∷ []))
    ∷ ran "F" [] (fields ((
      codes "variables",
      values (fields ((codes "name", words "va") ∷ (codes "type", words "integer") ∷ (
        codes
            "value",
        value 1,
      ) ∷ []) ∷ []),
    ) ∷ [])) (fields ((codes "body", fields ((codes "name", words "va") ∷ (codes "value", value 1) ∷ [])) ∷
    []))
    ∷ fell "H" [] (wrong_type Fun.Variable 0)
    ∷ [])
unfolding meaning
case-66-means = refl

abbrev case-67 : DefTree
case-67 = of_actions
    (act "I" 0 (after 1 true true true true ∷ []) (scope (action_trees (act "N" 2 [] (switch (plain (codes "a")) (case_trees ((
      codes
          "one",
      (value 1, action_trees []),
    ) ∷ (codes "two", (words "a", action_trees [])) ∷ []))) ∷ [])))
    ∷ act "K" 1 [] (initialize (initial "va" Sort.Int (Some (of (apply "coalesce" (alone "triggerBody" ∷ alone "triggerBody" ∷ [])))) ∷
    []))
    ∷ [])

case-67-means :
    meaning case-67 (asked (value 1) (value 2) (words "t") []) ≡
    leaves (value 1) (value 2) (words "t") RunStatus.Succeeded null null (fields [])
    (ran "I" [] null null
    ∷ ran "K" [] (fields ((
      codes "variables",
      values (fields ((codes "name", words "va") ∷ (codes "type", words "integer") ∷ (
        codes
            "value",
        value 1,
      ) ∷ []) ∷ []),
    ) ∷ [])) (fields ((codes "body", fields ((codes "name", words "va") ∷ (codes "value", value 1) ∷ [])) ∷
    []))
    ∷ ran "N" [] (words "a") null
    ∷ [])
unfolding meaning
case-67-means = refl

abbrev case-68 : DefTree
case-68 = of_actions
    (act "C" 0 [] (initialize (initial "va" Sort.Int None ∷ []))
    ∷ act "E" 2 (after 0 true true false false ∷ []) (increment (codes "va") None)
    ∷ act "Q" 3 (after 2 true false false false ∷ []) (foreach (many (nat 1 ∷ txt "a" ∷ [])) 1 (action_trees (act "D" 1 [] (scope
    (action_trees [])) ∷ [])))
    ∷ [])

case-68-means :
    meaning case-68 (asked (fields ((codes "x", value 1) ∷ [])) (value 1) (words "t") []) ≡
    leaves (fields ((codes "x", value 1) ∷ [])) (value 1) (words "t") RunStatus.Succeeded null null (fields [])
    (ran "C" [] (fields ((
      codes "variables",
      values (fields ((codes "name", words "va") ∷ (codes "type", words "integer") ∷ (
        codes
            "value",
        value 0,
      ) ∷ []) ∷ []),
    ) ∷ [])) (fields ((codes "body", fields ((codes "name", words "va") ∷ (codes "value", value 0) ∷ [])) ∷
    []))
    ∷ ran "D" (0 ∷ []) null null
    ∷ ran "D" (1 ∷ []) null null
    ∷ ran "E" [] (fields ((codes "name", words "va") ∷ (codes "value", value 1) ∷ [])) (fields ((
      codes "body",
      fields ((
        codes "name",
        words "va",
      ) ∷ (codes "value", value 1) ∷ []),
    ) ∷ []))
    ∷ ran "Q" [] (values (value 1 ∷ words "a" ∷ [])) null
    ∷ [])
unfolding meaning
case-68-means = refl

abbrev case-69 : DefTree
case-69 = of_actions
    (act "F" 0 [] (initialize (initial "va" Sort.Text None ∷ []))
    ∷ act "U" 2 (after 0 true false false false ∷ []) (switch (plain (codes "a")) (case_trees ((
      codes "one",
      (
        words "t",
        action_trees
            (act "G" 1 [] (compose (obj ((codes "k", of (ask "variables" (say "va"))) ∷ []))) ∷ []),
      ),
    ) ∷ (
      codes "two",
      (
        words "a",
        action_trees
            [],
      ),
    ) ∷ [])))
    ∷ [])

case-69-means :
    meaning case-69 (asked (values (value 1 ∷ value 2 ∷ [])) (fields ((codes "x", value 1) ∷ [])) (words "a") []) ≡
    leaves (values (value 1 ∷ value 2 ∷ [])) (fields ((codes "x", value 1) ∷ [])) (words "a") RunStatus.Succeeded null null (fields [])
    (ran "F" [] (fields ((
      codes "variables",
      values (fields ((codes "name", words "va") ∷ (codes "type", words "string") ∷ (
        codes
            "value",
        words "",
      ) ∷ []) ∷ []),
    ) ∷ [])) (fields ((codes "body", fields ((codes "name", words "va") ∷ (codes "value", words "") ∷ []))
    ∷ []))
    ∷ unrun "G" []
    ∷ ran "U" [] (words "a") null
    ∷ [])
unfolding meaning
case-69-means = refl

abbrev case-70 : DefTree
case-70 = of_actions
    (act "B" 0 [] (initialize (initial "va" Sort.Int (Some (of (num 1))) ∷ []))
    ∷ act "O" 1 (after 2 false false true false ∷ []) (decrement (codes "va") (Some (nat 2)))
    ∷ act "U" 2 (after 0 true false false false ∷ []) (select (many (nat 1 ∷ nat 2 ∷ [])) (data_of.text (parts (letters (codes "x-") ∷
    part (say "q") ∷ []))))
    ∷ act "W" 3 (after 1 false true false false ∷ []) (wait (obj ((
      codes "interval",
      obj ((
        codes "count",
        of (index (ask "actions" (say
            "O")) (say "status") true),
      ) ∷ (codes "unit", txt "Second") ∷ []),
    ) ∷ [])))
    ∷ [])

case-70-means :
    meaning case-70 (asked (value 2) (value 0) (words "a") []) ≡
    leaves (value 2) (value 0) (words "a") RunStatus.Succeeded null null (fields [])
    (ran "B" [] (fields ((
      codes "variables",
      values (fields ((codes "name", words "va") ∷ (codes "type", words "integer") ∷ (
        codes
            "value",
        value 1,
      ) ∷ []) ∷ []),
    ) ∷ [])) (fields ((codes "body", fields ((codes "name", words "va") ∷ (codes "value", value 1) ∷ [])) ∷
    []))
    ∷ unrun "O" []
    ∷ ran "U" [] (fields ((codes "from", values (value 1 ∷ value 2 ∷ [])) ∷ [])) (fields ((
      codes "body",
      values (words "x-q" ∷ words
          "x-q" ∷ []),
    ) ∷ []))
    ∷ unrun "W" []
    ∷ [])
unfolding meaning
case-70-means = refl

abbrev case-71 : DefTree
case-71 = of_actions
    (act "E" 2 [] (until (holds (whole (apply "equals" (num 1 ∷ num 2 ∷ [])))) 2 false (action_trees (act "B" 0 [] (connector (obj
    ((codes "body", obj ((codes "k", of (ask "iterationIndexes" (say "E"))) ∷ [])) ∷ (codes "method", txt "GET") ∷ (
      codes "uri",
      txt
          "u",
    ) ∷ [])) (Policy.Count 2)) ∷ act "C" 1 (after 0 true false false false ∷ []) (query (many (nat 1 ∷ nat 2 ∷ nat 3 ∷ [])) (whole
    (apply "greater" (alone "item" ∷ num 1 ∷ [])))) ∷ [])))
    ∷ act "P" 3 (after 2 true false false false ∷ []) (query (of (apply "createArray" (num 0 ∷ num 2 ∷ []))) (whole (apply "equals"
    (alone "item" ∷ ask "outputs" (say "C") ∷ []))))
    ∷ [])

case-71-means :
    meaning case-71 (asked (words "a") (fields ((codes "x", value 1) ∷ [])) (words "a") (replied "B" (0 ∷ []) 1 Outcome.TimedOut (fields
    []) null ∷ replied "B" (0 ∷ []) 2 (Outcome.Code 200) (fields []) (values (value 1 ∷ value 2 ∷ [])) ∷ replied "B" (1 ∷ []) 1
    (Outcome.Code 200) (fields []) (values (value 1 ∷ value 2 ∷ [])) ∷ [])) ≡
    leaves (words "a") (fields ((codes "x", value 1) ∷ [])) (words "a") RunStatus.Succeeded null null (fields [])
    (called (Try.TimedOut ∷ []) (left "B" (0 ∷ []) Status.TimedOut (codes "TimedOut") (fields ((
      codes "body",
      fields ((
        codes "k",
        value
            0,
      ) ∷ []),
    ) ∷ (codes "method", words "GET") ∷ (codes "uri", words "u") ∷ [])) null null)
    ∷ called (Try.Code 200 ∷ []) (left "B" (1 ∷ []) Status.Succeeded (decimal 200) (fields ((
      codes "body",
      fields ((codes "k", value 1)
          ∷ []),
    ) ∷ (codes "method", words "GET") ∷ (codes "uri", words "u") ∷ [])) (fields ((codes "body", values (value 1 ∷ value 2 ∷ [])) ∷
    (codes "headers", fields []) ∷ (codes "statusCode", value 200) ∷ [])) null)
    ∷ unrun "C" (0 ∷ [])
    ∷ ran "C" (1 ∷ []) (fields ((codes "from", values (value 1 ∷ value 2 ∷ value 3 ∷ [])) ∷ [])) (fields ((
      codes "body",
      values (value 2
          ∷ value 3 ∷ []),
    ) ∷ []))
    ∷ ran "E" [] null (fields ((codes "iterations", value 2) ∷ []))
    ∷ ran "P" [] (fields ((codes "from", values (value 0 ∷ value 2 ∷ [])) ∷ [])) (fields ((codes "body", values []) ∷ []))
    ∷ [])
unfolding meaning
case-71-means = refl

abbrev case-72 : DefTree
case-72 = of_actions
    (tracking ((codes "t", of (member (alone "action") (codes "status") false)) ∷ []) (act "D" 0 (after 1 true false false false ∷ [])
    (compose (of (ask "body" (say "E")))))
    ∷ act "E" 1 [] (connector (obj ((codes "body", data_of.text (parts (letters (codes "x-") ∷ part (ask "parameters" (say "t")) ∷ [])))
    ∷ (codes "method", txt "GET") ∷ (codes "uri", txt "u") ∷ [])) Policy.Standard)
    ∷ act "R" 2 (after 0 false false true false ∷ []) (response (obj ((
      codes "body",
      of (apply "if" (apply "equals" (ask "outputs" (say
          "D") ∷ num 1 ∷ []) ∷ apply "if" (apply "greater" (ask "body" (say "E") ∷ num 0 ∷ []) ∷ ask "body" (say "E") ∷ literal null ∷ []) ∷
          num 0 ∷ [])),
    ) ∷ (codes "statusCode", nat 200) ∷ [])))
    ∷ [])

case-72-means :
    meaning case-72 (asked (value 1) (value 2) (words "t") (replied "E" [] 1 (Outcome.Code 200) (fields []) null ∷ replied "E" [] 2
    Outcome.TimedOut (fields []) null ∷ [])) ≡
    leaves (value 1) (value 2) (words "t") RunStatus.Succeeded null null (fields [])
    (tracked_as (fields ((codes "t", words "Succeeded") ∷ [])) (ran "D" [] null null)
    ∷ called (Try.Code 200 ∷ []) (left "E" [] Status.Succeeded (decimal 200) (fields ((codes "body", words "x-t") ∷ (
      codes "method",
      words "GET",
    ) ∷ (codes "uri", words "u") ∷ [])) (fields ((codes "body", null) ∷ (codes "headers", fields []) ∷ (
      codes "statusCode",
      value 200,
    ) ∷ [])) null)
    ∷ unrun "R" []
    ∷ [])
unfolding meaning
case-72-means = refl

abbrev case-73 : DefTree
case-73 = of_actions
    (act "C" 0 (after 3 true false false false ∷ []) (until (holds (whole (apply "equals" (num 1 ∷ num 1 ∷ [])))) 3 true (action_trees
    (tracking ((codes "t", of (alone "triggerBody")) ∷ []) (act "G" 1 [] (append_string (codes "va") (of (alone "triggerBody")))) ∷ act
    "H" 2 (after 1 true false true true ∷ []) (append_string (codes "va") (txt "z")) ∷ act "Z" 4 (after 2 true true true true ∷ [])
    (append_string (codes "va") (of (index (ask "actions" (say "H")) (say "status") true))) ∷ [])))
    ∷ act "P" 3 [] (initialize (initial "va" Sort.Text None ∷ []))
    ∷ [])

case-73-means :
    meaning case-73 (asked null (value 0) (words "a") []) ≡
    leaves null (value 0) (words "a") RunStatus.Succeeded null null (fields [])
    (ran "C" [] null (fields ((codes "iterations", value 1) ∷ []))
    ∷ tracked_as (fields ((codes "t", null) ∷ [])) (ran "G" (0 ∷ []) (fields ((codes "name", words "va") ∷ (codes "value", null) ∷ []))
    (fields ((codes "body", fields ((codes "name", words "va") ∷ (codes "value", words "") ∷ [])) ∷ [])))
    ∷ ran "H" (0 ∷ []) (fields ((codes "name", words "va") ∷ (codes "value", words "z") ∷ [])) (fields ((
      codes "body",
      fields ((
        codes
            "name",
        words "va",
      ) ∷ (codes "value", words "z") ∷ []),
    ) ∷ []))
    ∷ ran "P" [] (fields ((
      codes "variables",
      values (fields ((codes "name", words "va") ∷ (codes "type", words "string") ∷ (
        codes
            "value",
        words "",
      ) ∷ []) ∷ []),
    ) ∷ [])) (fields ((codes "body", fields ((codes "name", words "va") ∷ (codes "value", words "") ∷ []))
    ∷ []))
    ∷ ran "Z" (0 ∷ []) (fields ((codes "name", words "va") ∷ (codes "value", words "Succeeded") ∷ [])) (fields ((
      codes "body",
      fields
          ((codes "name", words "va") ∷ (codes "value", words "zSucceeded") ∷ []),
    ) ∷ []))
    ∷ [])
unfolding meaning
case-73-means = refl

abbrev case-74 : DefTree
case-74 = of_actions
    (act "D" 0 [] (initialize (initial "va" Sort.Int (Some (nat 1)) ∷ []))
    ∷ act "E" 1 (after 0 true false false false ∷ []) (decrement (codes "va") (Some (of (num 1))))
    ∷ act "W" 2 (after 1 true true false false ∷ []) (connector (obj ((
      codes "body",
      data_of.text (parts (letters (codes "x-") ∷ part
          (ask "parameters" (say "t")) ∷ [])),
    ) ∷ (codes "method", txt "GET") ∷ (codes "uri", txt "u") ∷ [])) Policy.Never)
    ∷ [])

case-74-means :
    meaning case-74 (asked null (fields ((codes "x", value 1) ∷ [])) (words "t") (replied "W" [] 1 (Outcome.Code 500) (fields [])
    (fields ((codes "x", value 1) ∷ [])) ∷ [])) ≡
    leaves null (fields ((codes "x", value 1) ∷ [])) (words "t") RunStatus.Failed null null (fields [])
    (ran "D" [] (fields ((
      codes "variables",
      values (fields ((codes "name", words "va") ∷ (codes "type", words "integer") ∷ (
        codes
            "value",
        value 1,
      ) ∷ []) ∷ []),
    ) ∷ [])) (fields ((codes "body", fields ((codes "name", words "va") ∷ (codes "value", value 1) ∷ [])) ∷
    []))
    ∷ ran "E" [] (fields ((codes "name", words "va") ∷ (codes "value", value 1) ∷ [])) (fields ((
      codes "body",
      fields ((
        codes "name",
        words "va",
      ) ∷ (codes "value", value 0) ∷ []),
    ) ∷ []))
    ∷ called (Try.Code 500 ∷ []) (left "W" [] Status.Failed (decimal 500) (fields ((codes "body", words "x-t") ∷ (
      codes "method",
      words
          "GET",
    ) ∷ (codes "uri", words "u") ∷ [])) (fields ((codes "body", fields ((codes "x", value 1) ∷ [])) ∷ (codes "headers", fields [])
    ∷ (codes "statusCode", value 500) ∷ [])) null)
    ∷ [])
unfolding meaning
case-74-means = refl

abbrev case-75 : DefTree
case-75 = of_actions
    (act "H" 1 (after 2 false false true false ∷ []) (query (many (nat 1 ∷ nat 2 ∷ nat 3 ∷ [])) (whole (apply "equals" (alone "item" ∷
    ask "outputs" (say "E") ∷ []))))
    ∷ act "M" 2 [] (foreach (many (nat 1 ∷ txt "a" ∷ [])) 1 (action_trees (act "E" 0 [] (foreach (many (nat 1 ∷ txt "a" ∷ [])) 20
    (action_trees (act "V" 3 [] (compose (many (of (apply "createArray" (alone "triggerBody" ∷ ask "items" (say "E") ∷ [])) ∷ nat 1 ∷
    []))) ∷ []))) ∷ [])))
    ∷ [])

case-75-means :
    meaning case-75 (asked (boolean true) (value 0) (words "t") []) ≡
    leaves (boolean true) (value 0) (words "t") RunStatus.Succeeded null null (fields [])
    (ran "E" (0 ∷ []) (values (value 1 ∷ words "a" ∷ [])) null
    ∷ ran "E" (1 ∷ []) (values (value 1 ∷ words "a" ∷ [])) null
    ∷ unrun "H" []
    ∷ ran "M" [] (values (value 1 ∷ words "a" ∷ [])) null
    ∷ ran "V" (0 ∷ 0 ∷ []) (values (values (boolean true ∷ value 1 ∷ []) ∷ value 1 ∷ [])) (values (values (boolean true ∷ value 1 ∷ [])
    ∷ value 1 ∷ []))
    ∷ ran "V" (0 ∷ 1 ∷ []) (values (values (boolean true ∷ words "a" ∷ []) ∷ value 1 ∷ [])) (values (values (boolean true ∷ words "a" ∷
    []) ∷ value 1 ∷ []))
    ∷ ran "V" (1 ∷ 0 ∷ []) (values (values (boolean true ∷ value 1 ∷ []) ∷ value 1 ∷ [])) (values (values (boolean true ∷ value 1 ∷ [])
    ∷ value 1 ∷ []))
    ∷ ran "V" (1 ∷ 1 ∷ []) (values (values (boolean true ∷ words "a" ∷ []) ∷ value 1 ∷ [])) (values (values (boolean true ∷ words "a" ∷
    []) ∷ value 1 ∷ []))
    ∷ [])
unfolding meaning
case-75-means = refl

abbrev case-76 : DefTree
case-76 = of_actions
    (act "G" 0 [] (initialize (initial "va" Sort.Int (Some (nat 1)) ∷ []))
    ∷ act "V" 1 (after 0 true true true true ∷ []) (decrement (codes "va") (Some (of (num 1))))
    ∷ [])

case-76-means :
    meaning case-76 (asked null (fields ((codes "x", value 1) ∷ [])) (words "t") []) ≡
    leaves null (fields ((codes "x", value 1) ∷ [])) (words "t") RunStatus.Succeeded null null (fields [])
    (ran "G" [] (fields ((
      codes "variables",
      values (fields ((codes "name", words "va") ∷ (codes "type", words "integer") ∷ (
        codes
            "value",
        value 1,
      ) ∷ []) ∷ []),
    ) ∷ [])) (fields ((codes "body", fields ((codes "name", words "va") ∷ (codes "value", value 1) ∷ [])) ∷
    []))
    ∷ ran "V" [] (fields ((codes "name", words "va") ∷ (codes "value", value 1) ∷ [])) (fields ((
      codes "body",
      fields ((
        codes "name",
        words "va",
      ) ∷ (codes "value", value 0) ∷ []),
    ) ∷ []))
    ∷ [])
unfolding meaning
case-76-means = refl

abbrev case-77 : DefTree
case-77 = of_actions
    (act "D" 0 (after 2 true false false false ∷ []) (scope (action_trees (act "F" 1 [] (terminate (obj ((
      codes "runStatus",
      txt
          "Cancelled",
    ) ∷ []))) ∷ [])))
    ∷ tracking ((codes "t", of (member (alone "action") (codes "status") false)) ∷ []) (act "I" 2 (after 3 true true false false ∷ [])
    (wait (obj ((codes "interval", obj ((codes "count", of (num 1)) ∷ (codes "unit", txt "Second") ∷ [])) ∷ []))))
    ∷ act "Y" 3 [] (initialize (initial "va" Sort.Bool None ∷ []))
    ∷ [])

case-77-means :
    meaning case-77 (asked (words "a") (fields ((codes "x", value 1) ∷ [])) (words "a") []) ≡
    leaves (words "a") (fields ((codes "x", value 1) ∷ [])) (words "a") RunStatus.Cancelled null null (fields [])
    (left "D" [] Status.Cancelled (codes "Terminated") null null null
    ∷ ran "F" [] (fields ((codes "runStatus", words "Cancelled") ∷ [])) null
    ∷ tracked_as (fields ((codes "t", words "Succeeded") ∷ [])) (ran "I" [] (fields ((
      codes "interval",
      fields ((codes "count", value 1)
          ∷ (codes "unit", words "Second") ∷ []),
    ) ∷ [])) null)
    ∷ ran "Y" [] (fields ((
      codes "variables",
      values (fields ((codes "name", words "va") ∷ (codes "type", words "boolean") ∷ (
        codes
            "value",
        boolean false,
      ) ∷ []) ∷ []),
    ) ∷ [])) (fields ((
      codes "body",
      fields ((codes "name", words "va") ∷ (
        codes "value",
        boolean
            false,
      ) ∷ []),
    ) ∷ []))
    ∷ [])
unfolding meaning
case-77-means = refl

abbrev case-78 : DefTree
case-78 = of_actions
    (act "M" 0 (after 1 true false true true ∷ []) (decrement (codes "va") (Some (of (ask "variables" (say "va")))))
    ∷ act "R" 1 [] (initialize (initial "va" Sort.Int None ∷ []))
    ∷ [])

case-78-means :
    meaning case-78 (asked (boolean true) (value 0) (words "t") []) ≡
    leaves (boolean true) (value 0) (words "t") RunStatus.Succeeded null null (fields [])
    (ran "M" [] (fields ((codes "name", words "va") ∷ (codes "value", value 0) ∷ [])) (fields ((
      codes "body",
      fields ((
        codes "name",
        words "va",
      ) ∷ (codes "value", value 0) ∷ []),
    ) ∷ []))
    ∷ ran "R" [] (fields ((
      codes "variables",
      values (fields ((codes "name", words "va") ∷ (codes "type", words "integer") ∷ (
        codes
            "value",
        value 0,
      ) ∷ []) ∷ []),
    ) ∷ [])) (fields ((codes "body", fields ((codes "name", words "va") ∷ (codes "value", value 0) ∷ [])) ∷
    []))
    ∷ [])
unfolding meaning
case-78-means = refl

abbrev case-79 : DefTree
case-79 = of_actions
    (act "C" 0 (after 1 true false false false ∷ []) (switch (whole (index (ask "actions" (say "G")) (say "status") true)) (case_trees
    ((
      codes "one",
      (
        words "t",
        action_trees (act "X" 2 [] (until (holds (whole (apply "equals" (num 1 ∷ num 2 ∷ [])))) 2 false
            (action_trees [])) ∷ []),
      ),
    ) ∷ (codes "two", (value 1, action_trees [])) ∷ [])))
    ∷ act "G" 1 [] (initialize (initial "va" Sort.List (Some (many (nat 1 ∷ []))) ∷ []))
    ∷ [])

case-79-means :
    meaning case-79 (asked (value 1) (value 0) (words "t") []) ≡
    leaves (value 1) (value 0) (words "t") RunStatus.Succeeded null null (fields [])
    (ran "C" [] (words "Succeeded") null
    ∷ ran "G" [] (fields ((
      codes "variables",
      values (fields ((codes "name", words "va") ∷ (codes "type", words "array") ∷ (
        codes
            "value",
        values (value 1 ∷ []),
      ) ∷ []) ∷ []),
    ) ∷ [])) (fields ((
      codes "body",
      fields ((codes "name", words "va") ∷ (
        codes "value",
        values (value 1 ∷ []),
      ) ∷ []),
    ) ∷ []))
    ∷ unrun "X" []
    ∷ [])
unfolding meaning
case-79-means = refl
