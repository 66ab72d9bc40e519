-- Random definitions, with the records that they mean. The records are what a reading of the rules in Python gives, which was written apart
-- from these definitions and isn't in this repository. Names and values are of the kind that computes: no number becomes a text.
use Rattle.std.proofs.Common.{◌≡◌, [], ◌∷◌, refl}
use Rattle.std.specs.Prelude.{true, false, None, Some, codes, decimal, negsuc}
use Rattle.wf_val.specs.Arguments.{wrong_type}
use Rattle.wf_val.specs.ValueTree.{boolean, null, number}
use Rattle.wf_val.specs.declared.function.Fun.{Fun}
use Rattle.wf_template.specs.CondTree.{all_of, compare_by, cond_trees, holds}
use Rattle.wf_template.specs.DataTree as data_of
use Rattle.wf_template.specs.ExprTree.{index, member}
use Rattle.wf_template.specs.TemplateTree.{letters, part, parts, plain, whole}
use Rattle.wf_retry.specs.declared.policy.Outcome.{Outcome}
use Rattle.wf_retry.specs.declared.policy.Policy.{Policy}
use Rattle.wf_def.specs.ActionTree.{action_trees, branch, case_trees, compose, connector, decrement, foreach}
use Rattle.wf_def.specs.ActionTree.{initialize, join, query, response, scope, select, switch, switch_else}
use Rattle.wf_def.specs.ActionTree.{until, wait}
use Rattle.wf_def.specs.DefTree.{DefTree}
use Rattle.wf_def.specs.declared.sort.Sort.{Sort}
use Rattle.wf_record.specs.declared.attempt.Try.{Try}
use Rattle.wf_record.specs.declared.status.RunStatus.{RunStatus}
use Rattle.wf_record.specs.declared.status.Status.{Status}
use Rattle.wf_meant.specs.Record.{meaning}
use Rattle.wf_meant.proofs.Terms.{act, after, alone, apply, ask, called, fell, fields, giving, initial, many, nat, num, obj, of}
use Rattle.wf_meant.proofs.Terms.{of_actions, ran, replied, say, tracked_as, tracking, txt, unrun, value, values, words}
use Rattle.wf_meant_rows.proofs.CaseTerms.{asked, leaves, left}

abbrev case-80 : DefTree
case-80 = of_actions
    (act "V" 3 [] (branch (all_of (cond_trees (holds (whole (apply "equals" (num 3 ∷ say "b" ∷ []))) ∷ compare_by Fun.Equals (of (alone
    "triggerBody")) (nat 1) ∷ []))) (action_trees (act "C" 1 (after 2 true false false false ∷ []) (compose (data_of.text (parts
    (letters (codes "x-") ∷ part (ask "parameters" (say "t")) ∷ [])))) ∷ act "U" 2 [] (compose (of (apply "coalesce" (alone
    "triggerBody" ∷ alone "triggerBody" ∷ [])))) ∷ [])) (action_trees (act "A" 0 [] (wait (obj ((
      codes "interval",
      obj ((
        codes "count",
        of (ask "parameters" (say "p")),
      ) ∷ (codes "unit", txt "Second") ∷ []),
    ) ∷ []))) ∷ [])))
    ∷ [])

case-80-means :
    meaning case-80 (asked null (fields ((codes "x", value 1) ∷ [])) (words "a") []) ≡
    leaves null (fields ((codes "x", value 1) ∷ [])) (words "a") RunStatus.Succeeded null null (fields [])
    (ran "A" [] (fields ((
      codes "interval",
      fields ((codes "count", fields ((codes "x", value 1) ∷ [])) ∷ (codes "unit", words "Second")
          ∷ []),
    ) ∷ [])) null
    ∷ unrun "C" []
    ∷ unrun "U" []
    ∷ ran "V" [] (boolean false) null
    ∷ [])
unfolding meaning
case-80-means = refl

abbrev case-81 : DefTree
case-81 = of_actions
    (act "H" 0 [] (wait (obj ((codes "interval", obj ((codes "count", of (alone "triggerBody")) ∷ (codes "unit", txt "Second") ∷ [])) ∷
    [])))
    ∷ act "V" 3 (after 0 true true false false ∷ []) (scope (action_trees (act "Q" 2 [] (foreach (many []) 20 (action_trees (act "M" 1
    [] (compose (of (apply "add" (say "b" ∷ index (ask "parameters" (say "p")) (say "x") false ∷ [])))) ∷ []))) ∷ [])))
    ∷ [])

case-81-means :
    meaning case-81 (asked (values (value 1 ∷ value 2 ∷ [])) (value 0) (words "a") []) ≡
    leaves (values (value 1 ∷ value 2 ∷ [])) (value 0) (words "a") RunStatus.Succeeded null null (fields [])
    (ran "H" [] (fields ((
      codes "interval",
      fields ((codes "count", values (value 1 ∷ value 2 ∷ [])) ∷ (codes "unit", words "Second") ∷
          []),
    ) ∷ [])) null
    ∷ ran "Q" [] (values []) null
    ∷ ran "V" [] null null
    ∷ [])
unfolding meaning
case-81-means = refl

abbrev case-82 : DefTree
case-82 = giving ((codes "a", of (index (ask "actions" (say "P")) (say "status") true)) ∷ []) (of_actions
    (act "H" 2 [] (scope (action_trees (act "C" 1 (after 4 true true false false ∷ []) (foreach (many (of (apply "equals" (ask
    "parameters" (say "p") ∷ ask "outputs" (say "O") ∷ [])) ∷ nat 0 ∷ nat 2 ∷ [])) 20 (action_trees [])) ∷ act "P" 4 [] (foreach (of
    (apply "createArray" (alone "triggerBody" ∷ num 2 ∷ []))) 1 (action_trees (tracking ((
      codes "t",
      of (index (alone "action") (say
          "outputs") true),
    ) ∷ []) (act "B" 0 (after 3 false true false false ∷ []) (compose (of (ask "parameters" (say "p"))))) ∷ tracking
    ((codes "t", of (alone "triggerBody")) ∷ []) (act "O" 3 [] (compose (of (ask "items" (say "P"))))) ∷ []))) ∷ [])))
    ∷ []))

case-82-means :
    meaning case-82 (asked (value 1) (value 2) (words "a") []) ≡
    leaves (value 1) (value 2) (words "a") RunStatus.Succeeded null null (fields ((codes "a", words "Succeeded") ∷ []))
    (unrun "B" (0 ∷ [])
    ∷ unrun "B" (1 ∷ [])
    ∷ ran "C" [] (values (boolean false ∷ value 0 ∷ value 2 ∷ [])) null
    ∷ ran "H" [] null null
    ∷ tracked_as (fields ((codes "t", value 1) ∷ [])) (ran "O" (0 ∷ []) (value 1) (value 1))
    ∷ tracked_as (fields ((codes "t", value 1) ∷ [])) (ran "O" (1 ∷ []) (value 2) (value 2))
    ∷ ran "P" [] (values (value 1 ∷ value 2 ∷ [])) null
    ∷ [])
unfolding meaning
case-82-means = refl

abbrev case-83 : DefTree
case-83 = of_actions
    (act "T" 0 [] (initialize (initial "va" Sort.Text None ∷ []))
    ∷ act "Z" 2 (after 0 true true true true ∷ []) (foreach (of (apply "createArray" (ask "outputs" (say "T") ∷ num 2 ∷ []))) 1
    (action_trees (act "V" 1 [] (switch (whole (apply "if" (apply "equals" (ask "body" (say "T") ∷ num 1 ∷ []) ∷ apply "sub" (index (ask
    "actions" (say "T")) (say "status") true ∷ index (ask "actions" (say "T")) (say "status") true ∷ []) ∷ num 0 ∷ []))) (case_trees
    ((codes "one", (words "a", action_trees [])) ∷ (codes "two", (value 2, action_trees [])) ∷ []))) ∷ [])))
    ∷ [])

case-83-means :
    meaning case-83 (asked (value 1) (value 0) (words "t") []) ≡
    leaves (value 1) (value 0) (words "t") RunStatus.Succeeded null null (fields [])
    (ran "T" [] (fields ((
      codes "variables",
      values (fields ((codes "name", words "va") ∷ (codes "type", words "string") ∷ (
        codes
            "value",
        words "",
      ) ∷ []) ∷ []),
    ) ∷ [])) (fields ((codes "body", fields ((codes "name", words "va") ∷ (codes "value", words "") ∷ []))
    ∷ []))
    ∷ ran "V" (0 ∷ []) (value 0) null
    ∷ ran "V" (1 ∷ []) (value 0) null
    ∷ ran "Z" [] (values (fields ((codes "body", fields ((codes "name", words "va") ∷ (codes "value", words "") ∷ [])) ∷ []) ∷ value 2 ∷
    [])) null
    ∷ [])
unfolding meaning
case-83-means = refl

abbrev case-84 : DefTree
case-84 = of_actions
    (act "N" 1 (after 2 true true false false ∷ []) (scope (action_trees (act "A" 0 [] (until (holds (whole (apply "equals" (num 1 ∷ num
    2 ∷ [])))) 1 false (action_trees [])) ∷ [])))
    ∷ act "P" 2 [] (connector (obj ((codes "body", obj ((codes "k", of (apply "createArray" (num 3 ∷ say "a" ∷ []))) ∷ [])) ∷ (
      codes
          "method",
      txt "GET",
    ) ∷ (codes "uri", txt "u") ∷ [])) Policy.Never)
    ∷ [])

case-84-means :
    meaning case-84 (asked null (value 1) (words "a") (replied "P" [] 1 (Outcome.Code 200) (fields []) (value 1) ∷ [])) ≡
    leaves null (value 1) (words "a") RunStatus.Succeeded null null (fields [])
    (ran "A" [] null (fields ((codes "iterations", value 1) ∷ []))
    ∷ ran "N" [] null null
    ∷ called (Try.Code 200 ∷ []) (left "P" [] Status.Succeeded (decimal 200) (fields ((
      codes "body",
      fields ((
        codes "k",
        values (value 3
            ∷ words "a" ∷ []),
      ) ∷ []),
    ) ∷ (codes "method", words "GET") ∷ (codes "uri", words "u") ∷ [])) (fields ((codes "body", value 1) ∷
    (codes "headers", fields []) ∷ (codes "statusCode", value 200) ∷ [])) null)
    ∷ [])
unfolding meaning
case-84-means = refl

abbrev case-85 : DefTree
case-85 = of_actions
    (act "C" 0 [] (initialize (initial "va" Sort.Int None ∷ []))
    ∷ tracking ((codes "t", of (index (alone "action") (say "outputs") true)) ∷ []) (act "I" 1 (after 2 true false false false ∷ [])
    (initialize (initial "vb" Sort.Int None ∷ [])))
    ∷ act "T" 2 (after 3 false false true false ∷ []) (query (many (nat 1 ∷ nat 2 ∷ nat 3 ∷ [])) (whole (apply "greater" (alone "item" ∷
    num 1 ∷ []))))
    ∷ act "X" 3 (after 0 false true false false ∷ []) (decrement (codes "va") (Some (nat 2)))
    ∷ [])

case-85-means :
    meaning case-85 (asked (values (value 1 ∷ value 2 ∷ [])) (value 0) (words "t") []) ≡
    leaves (values (value 1 ∷ value 2 ∷ [])) (value 0) (words "t") RunStatus.Succeeded null null (fields [])
    (ran "C" [] (fields ((
      codes "variables",
      values (fields ((codes "name", words "va") ∷ (codes "type", words "integer") ∷ (
        codes
            "value",
        value 0,
      ) ∷ []) ∷ []),
    ) ∷ [])) (fields ((codes "body", fields ((codes "name", words "va") ∷ (codes "value", value 0) ∷ [])) ∷
    []))
    ∷ tracked_as (fields ((codes "t", fields ((codes "body", fields ((codes "name", words "vb") ∷ (codes "value", value 0) ∷ [])) ∷ []))
    ∷ [])) (ran "I" [] (fields ((
      codes "variables",
      values (fields ((codes "name", words "vb") ∷ (codes "type", words "integer") ∷
          (codes "value", value 0) ∷ []) ∷ []),
    ) ∷ [])) (fields ((
      codes "body",
      fields ((codes "name", words "vb") ∷ (codes "value", value 0) ∷
          []),
    ) ∷ [])))
    ∷ ran "T" [] (fields ((codes "from", values (value 1 ∷ value 2 ∷ value 3 ∷ [])) ∷ [])) (fields ((
      codes "body",
      values (value 2 ∷
          value 3 ∷ []),
    ) ∷ []))
    ∷ unrun "X" []
    ∷ [])
unfolding meaning
case-85-means = refl

abbrev case-86 : DefTree
case-86 = giving ((codes "a", data_of.boolean true) ∷ (
  codes "b",
  of (apply "equals" (ask "outputs" (say "X") ∷ ask "body" (say "D") ∷
      [])),
) ∷ []) (of_actions
    (act "D" 0 [] (initialize (initial "va" Sort.Text (Some (txt "s")) ∷ []))
    ∷ act "Y" 3 (after 0 true false false false ∷ []) (foreach (many []) 1 (action_trees (act "M" 1 (after 2 true false false false ∷
    []) (connector (obj ((
      codes "body",
      of (apply "add" (index (ask "actions" (say "X")) (say "status") true ∷ apply "add" (ask
          "variables" (say "va") ∷ ask "items" (say "Y") ∷ []) ∷ [])),
    ) ∷ (codes "method", txt "GET") ∷ (codes "uri", txt "u") ∷ []))
    Policy.Standard) ∷ tracking ((codes "t", of (alone "triggerBody")) ∷ []) (act "X" 2 [] (compose (obj ((codes "k", of (alone "item"))
    ∷ [])))) ∷ [])))
    ∷ []))

case-86-means :
    meaning case-86 (asked (value 2) (value 1) (words "a") []) ≡
    leaves (value 2) (value 1) (words "a") RunStatus.Succeeded null null (fields ((codes "a", boolean true) ∷ (codes "b", boolean false)
    ∷ []))
    (ran "D" [] (fields ((
      codes "variables",
      values (fields ((codes "name", words "va") ∷ (codes "type", words "string") ∷ (
        codes
            "value",
        words "s",
      ) ∷ []) ∷ []),
    ) ∷ [])) (fields ((
      codes "body",
      fields ((codes "name", words "va") ∷ (codes "value", words "s") ∷
          []),
    ) ∷ []))
    ∷ ran "Y" [] (values []) null
    ∷ [])
unfolding meaning
case-86-means = refl

abbrev case-87 : DefTree
case-87 = of_actions
    (act "A" 0 (after 1 true false false false ∷ []) (wait (obj ((
      codes "interval",
      obj ((codes "count", nat 1) ∷ (
        codes "unit",
        txt
            "Second",
      ) ∷ []),
    ) ∷ [])))
    ∷ act "Q" 1 [] (initialize (initial "va" Sort.Text (Some (txt "s")) ∷ []))
    ∷ act "Z" 2 (after 0 false true false false ∷ []) (connector (obj ((codes "body", of (ask "parameters" (say "p"))) ∷ (
      codes
          "method",
      txt "GET",
    ) ∷ (codes "uri", txt "u") ∷ [])) Policy.Never)
    ∷ [])

case-87-means :
    meaning case-87 (asked (value 1) (fields ((codes "x", value 1) ∷ [])) (words "a") []) ≡
    leaves (value 1) (fields ((codes "x", value 1) ∷ [])) (words "a") RunStatus.Succeeded null null (fields [])
    (ran "A" [] (fields ((codes "interval", fields ((codes "count", value 1) ∷ (codes "unit", words "Second") ∷ [])) ∷ [])) null
    ∷ ran "Q" [] (fields ((
      codes "variables",
      values (fields ((codes "name", words "va") ∷ (codes "type", words "string") ∷ (
        codes
            "value",
        words "s",
      ) ∷ []) ∷ []),
    ) ∷ [])) (fields ((
      codes "body",
      fields ((codes "name", words "va") ∷ (codes "value", words "s") ∷
          []),
    ) ∷ []))
    ∷ unrun "Z" []
    ∷ [])
unfolding meaning
case-87-means = refl

abbrev case-88 : DefTree
case-88 = of_actions
    (act "Z" 3 [] (branch (holds (whole (apply "equals" (num 1 ∷ num 1 ∷ [])))) (action_trees (act "I" 0 (after 2 true false true true ∷
    []) (response (obj ((codes "body", of (num 3)) ∷ (codes "statusCode", nat 200) ∷ []))) ∷ act "O" 2 [] (response (obj ((
      codes "body",
      data_of.text (parts (letters (codes "x-") ∷ part (say "q") ∷ [])),
    ) ∷ (codes "statusCode", nat 200) ∷ []))) ∷ [])) (action_trees (act
    "N" 1 [] (connector (obj ((codes "body", data_of.text (parts (letters (codes "x-") ∷ part (say "q") ∷ []))) ∷ (
      codes "method",
      txt
          "GET",
    ) ∷ (codes "uri", txt "u") ∷ [])) Policy.Standard) ∷ [])))
    ∷ [])

case-88-means :
    meaning case-88 (asked (value 1) (value 0) (words "t") []) ≡
    leaves (value 1) (value 0) (words "t") RunStatus.Succeeded null (fields ((codes "body", words "x-q") ∷ (
      codes "statusCode",
      value
          200,
    ) ∷ [])) (fields [])
    (ran "I" [] (fields ((codes "body", value 3) ∷ (codes "statusCode", value 200) ∷ [])) (fields ((codes "body", value 3) ∷ (
      codes
          "statusCode",
      value 200,
    ) ∷ []))
    ∷ unrun "N" []
    ∷ ran "O" [] (fields ((codes "body", words "x-q") ∷ (codes "statusCode", value 200) ∷ [])) (fields ((codes "body", words "x-q") ∷
    (codes "statusCode", value 200) ∷ []))
    ∷ ran "Z" [] (boolean true) null
    ∷ [])
unfolding meaning
case-88-means = refl

abbrev case-89 : DefTree
case-89 = of_actions
    (act "P" 1 (after 2 true false false false ∷ []) (foreach (many (nat 1 ∷ txt "a" ∷ [])) 1 (action_trees (act "L" 0 [] (compose (of
    (ask "parameters" (say "p")))) ∷ [])))
    ∷ act "Q" 2 [] (initialize (initial "va" Sort.List (Some (many (nat 1 ∷ []))) ∷ []))
    ∷ act "R" 3 (after 1 true false false false ∷ []) (join (many (txt "a" ∷ of (ask "parameters" (say "t")) ∷ txt "b" ∷ [])) (of (index
    (ask "actions" (say "Q")) (say "status") true)))
    ∷ [])

case-89-means :
    meaning case-89 (asked null (fields ((codes "x", value 1) ∷ [])) (words "t") []) ≡
    leaves null (fields ((codes "x", value 1) ∷ [])) (words "t") RunStatus.Succeeded null null (fields [])
    (ran "L" (0 ∷ []) (fields ((codes "x", value 1) ∷ [])) (fields ((codes "x", value 1) ∷ []))
    ∷ ran "L" (1 ∷ []) (fields ((codes "x", value 1) ∷ [])) (fields ((codes "x", value 1) ∷ []))
    ∷ ran "P" [] (values (value 1 ∷ words "a" ∷ [])) null
    ∷ ran "Q" [] (fields ((
      codes "variables",
      values (fields ((codes "name", words "va") ∷ (codes "type", words "array") ∷ (
        codes
            "value",
        values (value 1 ∷ []),
      ) ∷ []) ∷ []),
    ) ∷ [])) (fields ((
      codes "body",
      fields ((codes "name", words "va") ∷ (
        codes "value",
        values (value 1 ∷ []),
      ) ∷ []),
    ) ∷ []))
    ∷ ran "R" [] (fields ((codes "from", values (words "a" ∷ words "t" ∷ words "b" ∷ [])) ∷ (codes "joinWith", words "Succeeded") ∷ []))
    (fields ((codes "body", words "aSucceededtSucceededb") ∷ []))
    ∷ [])
unfolding meaning
case-89-means = refl

abbrev case-90 : DefTree
case-90 = of_actions
    (act "A" 0 (after 2 true true false false ∷ []) (foreach (many []) 1 (action_trees []))
    ∷ act "P" 1 [] (response (obj ((codes "body", of (ask "parameters" (say "p"))) ∷ (codes "statusCode", nat 200) ∷ [])))
    ∷ act "S" 2 (after 1 true false false false ∷ []) (connector (obj ((codes "body", of (num 1)) ∷ (codes "method", txt "GET") ∷ (
      codes
          "uri",
      txt "u",
    ) ∷ [])) Policy.Never)
    ∷ [])

case-90-means :
    meaning case-90 (asked (words "a") (value 0) (words "a") (replied "S" [] 1 (Outcome.Code 200) (fields []) (values (value 1 ∷ value 2
    ∷ [])) ∷ replied "S" [] 2 (Outcome.Code 200) (fields []) (fields ((codes "x", value 1) ∷ [])) ∷ [])) ≡
    leaves (words "a") (value 0) (words "a") RunStatus.Succeeded null (fields ((codes "body", value 0) ∷ (codes "statusCode", value 200)
    ∷ [])) (fields [])
    (ran "A" [] (values []) null
    ∷ ran "P" [] (fields ((codes "body", value 0) ∷ (codes "statusCode", value 200) ∷ [])) (fields ((codes "body", value 0) ∷ (
      codes
          "statusCode",
      value 200,
    ) ∷ []))
    ∷ called (Try.Code 200 ∷ []) (left "S" [] Status.Succeeded (decimal 200) (fields ((codes "body", value 1) ∷ (
      codes "method",
      words
          "GET",
    ) ∷ (codes "uri", words "u") ∷ [])) (fields ((codes "body", values (value 1 ∷ value 2 ∷ [])) ∷ (codes "headers", fields []) ∷
    (codes "statusCode", value 200) ∷ [])) null)
    ∷ [])
unfolding meaning
case-90-means = refl

abbrev case-91 : DefTree
case-91 = of_actions
    (act "R" 1 [] (initialize (initial "va" Sort.Int (Some (nat 1)) ∷ []))
    ∷ act "U" 2 (after 1 true true true true ∷ []) (until (holds (whole (apply "equals" (ask "iterationIndexes" (say "U") ∷ num 1 ∷
    [])))) 1 true (action_trees (act "N" 0 [] (compose (data_of.text (parts (letters (codes "x-") ∷ part (ask "parameters" (say "t")) ∷
    [])))) ∷ tracking ((codes "t", of (member (alone "action") (codes "nope") false)) ∷ []) (act "X" 3 (after 0 false true false false ∷
    []) (wait (obj ((codes "interval", obj ((codes "count", nat 1) ∷ (codes "unit", txt "Second") ∷ [])) ∷ [])))) ∷ tracking ((
      codes
          "t",
      of (member (alone "action") (codes "nope") false),
    ) ∷ []) (act "Z" 4 (after 3 false false true false ∷ []) (switch (plain (codes
    "a")) (case_trees ((codes "one", (value 1, action_trees [])) ∷ (codes "two", (value 2, action_trees [])) ∷ [])))) ∷ [])))
    ∷ [])

case-91-means :
    meaning case-91 (asked (values (value 1 ∷ value 2 ∷ [])) (value 2) (words "t") []) ≡
    leaves (values (value 1 ∷ value 2 ∷ [])) (value 2) (words "t") RunStatus.Failed null null (fields [])
    (ran "N" (0 ∷ []) (words "x-t") (words "x-t")
    ∷ ran "R" [] (fields ((
      codes "variables",
      values (fields ((codes "name", words "va") ∷ (codes "type", words "integer") ∷ (
        codes
            "value",
        value 1,
      ) ∷ []) ∷ []),
    ) ∷ [])) (fields ((codes "body", fields ((codes "name", words "va") ∷ (codes "value", value 1) ∷ [])) ∷
    []))
    ∷ left "U" [] Status.Failed (codes "LimitReached") null (fields ((codes "iterations", value 1) ∷ [])) null
    ∷ unrun "X" (0 ∷ [])
    ∷ tracked_as null (ran "Z" (0 ∷ []) (words "a") null)
    ∷ [])
unfolding meaning
case-91-means = refl

abbrev case-92 : DefTree
case-92 = of_actions
    (tracking ((codes "t", of (alone "triggerBody")) ∷ []) (act "A" 0 [] (select (many (nat 1 ∷ nat 2 ∷ [])) (of (alone "item"))))
    ∷ act "B" 1 (after 0 true false false false ∷ []) (join (many (txt "a" ∷ of (ask "parameters" (say "t")) ∷ txt "b" ∷ [])) (txt ","))
    ∷ [])

case-92-means :
    meaning case-92 (asked (value 1) (value 2) (words "t") []) ≡
    leaves (value 1) (value 2) (words "t") RunStatus.Succeeded null null (fields [])
    (tracked_as (fields ((codes "t", value 1) ∷ [])) (ran "A" [] (fields ((codes "from", values (value 1 ∷ value 2 ∷ [])) ∷ [])) (fields
    ((codes "body", values (value 1 ∷ value 2 ∷ [])) ∷ [])))
    ∷ ran "B" [] (fields ((codes "from", values (words "a" ∷ words "t" ∷ words "b" ∷ [])) ∷ (codes "joinWith", words ",") ∷ [])) (fields
    ((codes "body", words "a,t,b") ∷ []))
    ∷ [])
unfolding meaning
case-92-means = refl

abbrev case-93 : DefTree
case-93 = of_actions
    (act "A" 0 (after 2 true false false false ∷ []) (query (of (apply "createArray" (ask "length" (ask "result" (say "P")) ∷ num 2 ∷
    []))) (whole (alone "item")))
    ∷ act "P" 2 (after 4 true false false false ∷ []) (until (holds (whole (apply "equals" (num 1 ∷ num 2 ∷ [])))) 1 true (action_trees
    (act "L" 1 [] (wait (obj ((codes "interval", obj ((codes "count", nat 1) ∷ (codes "unit", txt "Second") ∷ [])) ∷ []))) ∷ act "X" 3
    (after 1 true false false false ∷ []) (decrement (codes "va") (Some (nat 2))) ∷ [])))
    ∷ act "Z" 4 [] (initialize (initial "va" Sort.Int None ∷ []))
    ∷ [])

case-93-means :
    meaning case-93 (asked (fields ((codes "x", value 1) ∷ [])) (value 2) (words "a") []) ≡
    leaves (fields ((codes "x", value 1) ∷ [])) (value 2) (words "a") RunStatus.Failed null null (fields [])
    (unrun "A" []
    ∷ ran "L" (0 ∷ []) (fields ((codes "interval", fields ((codes "count", value 1) ∷ (codes "unit", words "Second") ∷ [])) ∷ [])) null
    ∷ left "P" [] Status.Failed (codes "LimitReached") null (fields ((codes "iterations", value 1) ∷ [])) null
    ∷ ran "X" (0 ∷ []) (fields ((codes "name", words "va") ∷ (codes "value", value 2) ∷ [])) (fields ((
      codes "body",
      fields ((
        codes
            "name",
        words "va",
      ) ∷ (codes "value", number (negsuc 1)) ∷ []),
    ) ∷ []))
    ∷ ran "Z" [] (fields ((
      codes "variables",
      values (fields ((codes "name", words "va") ∷ (codes "type", words "integer") ∷ (
        codes
            "value",
        value 0,
      ) ∷ []) ∷ []),
    ) ∷ [])) (fields ((codes "body", fields ((codes "name", words "va") ∷ (codes "value", value 0) ∷ [])) ∷
    []))
    ∷ [])
unfolding meaning
case-93-means = refl

abbrev case-94 : DefTree
case-94 = of_actions
    (tracking ((codes "t", of (alone "triggerBody")) ∷ []) (act "N" 0 [] (query (of (apply "createArray" (num 1 ∷ num 2 ∷ []))) (whole
    (apply "equals" (alone "item" ∷ num 2 ∷ [])))))
    ∷ act "P" 1 (after 2 false true false false ∷ []) (connector (obj ((
      codes "body",
      many (of (index (ask "actions" (say "R")) (say
          "status") true) ∷ nat 1 ∷ []),
    ) ∷ (codes "method", txt "GET") ∷ (codes "uri", txt "u") ∷ [])) Policy.Standard)
    ∷ tracking ((codes "t", of (member (alone "action") (codes "nope") false)) ∷ []) (act "R" 2 (after 0 true false false false ∷ [])
    (initialize (initial "va" Sort.Int (Some (of (num 1))) ∷ [])))
    ∷ [])

case-94-means :
    meaning case-94 (asked (words "a") (value 0) (words "a") []) ≡
    leaves (words "a") (value 0) (words "a") RunStatus.Succeeded null null (fields [])
    (tracked_as (fields ((codes "t", words "a") ∷ [])) (ran "N" [] (fields ((codes "from", values (value 1 ∷ value 2 ∷ [])) ∷ []))
    (fields ((codes "body", values (value 2 ∷ [])) ∷ [])))
    ∷ unrun "P" []
    ∷ tracked_as null (ran "R" [] (fields ((
      codes "variables",
      values (fields ((codes "name", words "va") ∷ (
        codes "type",
        words
            "integer",
      ) ∷ (codes "value", value 1) ∷ []) ∷ []),
    ) ∷ [])) (fields ((
      codes "body",
      fields ((codes "name", words "va") ∷ (
        codes
            "value",
        value 1,
      ) ∷ []),
    ) ∷ [])))
    ∷ [])
unfolding meaning
case-94-means = refl

abbrev case-95 : DefTree
case-95 = of_actions
    (act "D" 0 (after 2 true false false false ∷ []) (foreach (many (nat 1 ∷ txt "a" ∷ [])) 20 (action_trees (act "K" 1 [] (until (holds
    (whole (apply "equals" (ask "iterationIndexes" (say "K") ∷ num 1 ∷ [])))) 3 true (action_trees [])) ∷ [])))
    ∷ act "Q" 2 [] (compose (txt "t"))
    ∷ [])

case-95-means :
    meaning case-95 (asked (value 2) (value 1) (words "a") []) ≡
    leaves (value 2) (value 1) (words "a") RunStatus.Succeeded null null (fields [])
    (ran "D" [] (values (value 1 ∷ words "a" ∷ [])) null
    ∷ ran "K" (0 ∷ []) null (fields ((codes "iterations", value 2) ∷ []))
    ∷ ran "K" (1 ∷ []) null (fields ((codes "iterations", value 2) ∷ []))
    ∷ ran "Q" [] (words "t") (words "t")
    ∷ [])
unfolding meaning
case-95-means = refl

abbrev case-96 : DefTree
case-96 = of_actions
    (act "F" 0 (after 2 true false false false ∷ []) (query (many (nat 1 ∷ nat 2 ∷ nat 3 ∷ [])) (whole (alone "item")))
    ∷ act "P" 1 (after 0 false true false false ∷ []) (until (holds (whole (ask "not" (apply "equals" (ask "outputs" (say "S") ∷ num 3 ∷
    []))))) 2 false (action_trees (act "S" 3 [] (branch (holds (whole (apply "equals" (ask "variables" (say "va") ∷ ask "outputs" (say
    "F") ∷ [])))) (action_trees []) (action_trees [])) ∷ [])))
    ∷ act "Q" 2 [] (initialize (initial "va" Sort.Bool (Some (data_of.boolean true)) ∷ []))
    ∷ [])

case-96-means :
    meaning case-96 (asked (fields ((codes "x", value 1) ∷ [])) (value 2) (words "a") []) ≡
    leaves (fields ((codes "x", value 1) ∷ [])) (value 2) (words "a") RunStatus.Succeeded null null (fields [])
    (fell "F" [] (wrong_type Fun.Query 0)
    ∷ ran "P" [] null (fields ((codes "iterations", value 1) ∷ []))
    ∷ ran "Q" [] (fields ((
      codes "variables",
      values (fields ((codes "name", words "va") ∷ (codes "type", words "boolean") ∷ (
        codes
            "value",
        boolean true,
      ) ∷ []) ∷ []),
    ) ∷ [])) (fields ((
      codes "body",
      fields ((codes "name", words "va") ∷ (
        codes "value",
        boolean
            true,
      ) ∷ []),
    ) ∷ []))
    ∷ ran "S" (0 ∷ []) (boolean false) null
    ∷ [])
unfolding meaning
case-96-means = refl

abbrev case-97 : DefTree
case-97 = of_actions
    (act "H" 0 [] (initialize (initial "va" Sort.Bool (Some (data_of.boolean true)) ∷ []))
    ∷ act "U" 2 (after 0 true false false false ∷ []) (branch (all_of (cond_trees (holds (whole (apply "equals" (ask "outputs" (say "H")
    ∷ ask "body" (say "H") ∷ []))) ∷ compare_by Fun.Equals (of (ask "body" (say "H"))) (nat 1) ∷ []))) (action_trees (act "K" 1 []
    (compose (of (ask "variables" (say "va")))) ∷ [])) (action_trees []))
    ∷ [])

case-97-means :
    meaning case-97 (asked (boolean true) (value 2) (words "a") []) ≡
    leaves (boolean true) (value 2) (words "a") RunStatus.Succeeded null null (fields [])
    (ran "H" [] (fields ((
      codes "variables",
      values (fields ((codes "name", words "va") ∷ (codes "type", words "boolean") ∷ (
        codes
            "value",
        boolean true,
      ) ∷ []) ∷ []),
    ) ∷ [])) (fields ((
      codes "body",
      fields ((codes "name", words "va") ∷ (
        codes "value",
        boolean
            true,
      ) ∷ []),
    ) ∷ []))
    ∷ unrun "K" []
    ∷ ran "U" [] (boolean false) null
    ∷ [])
unfolding meaning
case-97-means = refl

abbrev case-98 : DefTree
case-98 = of_actions
    (act "I" 0 [] (compose (nat 1))
    ∷ act "P" 1 (after 2 true false false false ∷ []) (query (many (nat 1 ∷ nat 2 ∷ nat 3 ∷ [])) (whole (apply "equals" (alone "item" ∷
    ask "parameters" (say "p") ∷ []))))
    ∷ act "X" 2 [] (connector (obj ((codes "body", of (apply "coalesce" (alone "triggerBody" ∷ alone "triggerBody" ∷ []))) ∷ (
      codes
          "method",
      txt "GET",
    ) ∷ (codes "uri", txt "u") ∷ [])) (Policy.Count 2))
    ∷ [])

case-98-means :
    meaning case-98 (asked (boolean true) (value 1) (words "t") (replied "X" [] 1 (Outcome.Code 200) (fields []) (words "b") ∷ [])) ≡
    leaves (boolean true) (value 1) (words "t") RunStatus.Succeeded null null (fields [])
    (ran "I" [] (value 1) (value 1)
    ∷ ran "P" [] (fields ((codes "from", values (value 1 ∷ value 2 ∷ value 3 ∷ [])) ∷ [])) (fields ((
      codes "body",
      values (value 1 ∷
          []),
    ) ∷ []))
    ∷ called (Try.Code 200 ∷ []) (left "X" [] Status.Succeeded (decimal 200) (fields ((codes "body", boolean true) ∷ (
      codes "method",
      words "GET",
    ) ∷ (codes "uri", words "u") ∷ [])) (fields ((codes "body", words "b") ∷ (codes "headers", fields []) ∷ (
      codes
          "statusCode",
      value 200,
    ) ∷ [])) null)
    ∷ [])
unfolding meaning
case-98-means = refl

abbrev case-99 : DefTree
case-99 = giving ((codes "a", obj ((codes "k", of (ask "body" (say "L"))) ∷ [])) ∷ (codes "b", of (alone "triggerBody")) ∷ [])
    (of_actions
    (tracking ((codes "t", of (member (alone "action") (codes "nope") false)) ∷ []) (act "E" 0 (after 1 true false false false ∷ [])
    (switch_else (plain (codes "a")) (case_trees ((
      codes "one",
      (
        value 2,
        action_trees (act "P" 2 [] (branch (holds (whole (apply
            "greater" (ask "variables" (say "vb") ∷ num 0 ∷ [])))) (action_trees []) (action_trees [])) ∷ []),
      ),
    ) ∷ (
      codes "two",
      (
        words "a",
        action_trees [],
      ),
    ) ∷ [])) (action_trees [])))
    ∷ act "L" 1 (after 3 true true false false ∷ []) (initialize (initial "vb" Sort.Int (Some (nat 1)) ∷ []))
    ∷ act "Q" 3 [] (initialize (initial "va" Sort.Bool None ∷ []))
    ∷ []))

case-99-means :
    meaning case-99 (asked (boolean true) (fields ((codes "x", value 1) ∷ [])) (words "t") []) ≡
    leaves (boolean true) (fields ((codes "x", value 1) ∷ [])) (words "t") RunStatus.Succeeded null null (fields ((
      codes "a",
      fields
          ((codes "k", fields ((codes "name", words "vb") ∷ (codes "value", value 1) ∷ [])) ∷ []),
    ) ∷ (codes "b", boolean true) ∷ []))
    (tracked_as null (ran "E" [] (words "a") null)
    ∷ ran "L" [] (fields ((
      codes "variables",
      values (fields ((codes "name", words "vb") ∷ (codes "type", words "integer") ∷ (
        codes
            "value",
        value 1,
      ) ∷ []) ∷ []),
    ) ∷ [])) (fields ((codes "body", fields ((codes "name", words "vb") ∷ (codes "value", value 1) ∷ [])) ∷
    []))
    ∷ unrun "P" []
    ∷ ran "Q" [] (fields ((
      codes "variables",
      values (fields ((codes "name", words "va") ∷ (codes "type", words "boolean") ∷ (
        codes
            "value",
        boolean false,
      ) ∷ []) ∷ []),
    ) ∷ [])) (fields ((
      codes "body",
      fields ((codes "name", words "va") ∷ (
        codes "value",
        boolean
            false,
      ) ∷ []),
    ) ∷ []))
    ∷ [])
unfolding meaning
case-99-means = refl
