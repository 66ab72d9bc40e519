-- Random definitions, with the records that they mean. The records are what a reading of the rules in Python gives, which was written apart
-- from these definitions and isn't in this repository. Names and values are of the kind that computes: no number becomes a text.
use Rattle.std.proofs.Common.{◌≡◌, [], ◌∷◌, refl}
use Rattle.std.specs.Prelude.{true, false, None, Some, codes, decimal}
use Rattle.wf_val.specs.ValueTree.{boolean, null}
use Rattle.wf_val.specs.declared.function.Fun.{Fun}
use Rattle.wf_template.specs.CondTree.{any_of, compare_by, cond_trees, holds, not_of}
use Rattle.wf_template.specs.DataTree as data_of
use Rattle.wf_template.specs.ExprTree.{index, literal, member}
use Rattle.wf_template.specs.TemplateTree.{letters, part, parts, plain, whole}
use Rattle.wf_retry.specs.declared.policy.Outcome.{Outcome}
use Rattle.wf_retry.specs.declared.policy.Policy.{Policy}
use Rattle.wf_def.specs.ActionTree.{action_trees, append_array, append_string, branch, case_trees, compose, connector, decrement, foreach}
use Rattle.wf_def.specs.ActionTree.{initialize, join, query, response, scope, select, set_to, switch, switch_else}
use Rattle.wf_def.specs.ActionTree.{until, wait}
use Rattle.wf_def.specs.DefTree.{DefTree}
use Rattle.wf_def.specs.declared.sort.Sort.{Sort}
use Rattle.wf_record.specs.declared.attempt.Try.{Try}
use Rattle.wf_record.specs.declared.status.RunStatus.{RunStatus}
use Rattle.wf_record.specs.declared.status.Status.{Status}
use Rattle.wf_meant.specs.Record.{meaning}
use Rattle.wf_meant.proofs.Terms.{act, after, alone, apply, ask, called, fields, giving, initial, many, nat, num, obj, of}
use Rattle.wf_meant.proofs.Terms.{of_actions, ran, replied, say, tracked_as, tracking, txt, unrun, value, values, words}
use Rattle.wf_meant_rows.proofs.CaseTerms.{asked, leaves, left}

abbrev case-40 : DefTree
case-40 = of_actions
    (act "C" 0 [] (branch (holds (whole (apply "equals" (num 1 ∷ num 1 ∷ [])))) (action_trees (tracking ((
      codes "t",
      of (alone
          "triggerBody"),
    ) ∷ []) (act "Q" 3 [] (foreach (many (of (ask "parameters" (say "p")) ∷ nat 0 ∷ nat 2 ∷ [])) 20 (action_trees
    (tracking ((codes "t", of (index (alone "action") (say "outputs") true)) ∷ []) (act "H" 1 [] (compose (obj ((
      codes "k",
      of (say
          "a"),
    ) ∷ [])))) ∷ [])))) ∷ [])) (action_trees (act "N" 2 [] (compose (obj ((codes "k", of (alone "triggerBody")) ∷ []))) ∷ [])))
    ∷ [])

case-40-means :
    meaning case-40 (asked (values (value 1 ∷ value 2 ∷ [])) (value 1) (words "t") []) ≡
    leaves (values (value 1 ∷ value 2 ∷ [])) (value 1) (words "t") RunStatus.Succeeded null null (fields [])
    (ran "C" [] (boolean true) null
    ∷ tracked_as (fields ((codes "t", fields ((codes "k", words "a") ∷ [])) ∷ [])) (ran "H" (0 ∷ []) (fields ((codes "k", words "a") ∷
    [])) (fields ((codes "k", words "a") ∷ [])))
    ∷ tracked_as (fields ((codes "t", fields ((codes "k", words "a") ∷ [])) ∷ [])) (ran "H" (1 ∷ []) (fields ((codes "k", words "a") ∷
    [])) (fields ((codes "k", words "a") ∷ [])))
    ∷ tracked_as (fields ((codes "t", fields ((codes "k", words "a") ∷ [])) ∷ [])) (ran "H" (2 ∷ []) (fields ((codes "k", words "a") ∷
    [])) (fields ((codes "k", words "a") ∷ [])))
    ∷ unrun "N" []
    ∷ tracked_as (fields ((codes "t", values (value 1 ∷ value 2 ∷ [])) ∷ [])) (ran "Q" [] (values (value 1 ∷ value 0 ∷ value 2 ∷ []))
    null)
    ∷ [])
unfolding meaning
case-40-means = refl

abbrev case-41 : DefTree
case-41 = giving ((
  codes "a",
  obj ((
    codes "k",
    of (apply "coalesce" (ask "body" (say "D") ∷ apply "equals" (ask "outputs" (say "U") ∷
        index (ask "actions" (say "D")) (say "status") true ∷ []) ∷ [])),
  ) ∷ []),
) ∷ []) (of_actions
    (act "D" 1 [] (initialize (initial "va" Sort.List None ∷ []))
    ∷ act "E" 2 (after 1 true false false false ∷ []) (until (holds (whole (apply "equals" (ask "iterationIndexes" (say "E") ∷ num 1 ∷
    [])))) 1 false (action_trees (act "M" 3 [] (scope (action_trees (act "B" 0 [] (query (many (nat 1 ∷ nat 2 ∷ nat 3 ∷ [])) (whole
    (apply "equals" (alone "item" ∷ num 1 ∷ [])))) ∷ act "U" 4 (after 0 true false false false ∷ []) (append_array (codes "va") (obj
    ((codes "k", of (index (ask "actions" (say "D")) (say "status") true)) ∷ []))) ∷ []))) ∷ [])))
    ∷ []))

case-41-means :
    meaning case-41 (asked (fields ((codes "x", value 1) ∷ [])) (value 2) (words "t") []) ≡
    leaves (fields ((codes "x", value 1) ∷ [])) (value 2) (words "t") RunStatus.Succeeded null null (fields ((
      codes "a",
      fields ((
        codes
            "k",
        fields ((codes "name", words "va") ∷ (codes "value", values []) ∷ []),
      ) ∷ []),
    ) ∷ []))
    (ran "B" (0 ∷ []) (fields ((codes "from", values (value 1 ∷ value 2 ∷ value 3 ∷ [])) ∷ [])) (fields ((
      codes "body",
      values (value 1
          ∷ []),
    ) ∷ []))
    ∷ ran "D" [] (fields ((
      codes "variables",
      values (fields ((codes "name", words "va") ∷ (codes "type", words "array") ∷ (
        codes
            "value",
        values [],
      ) ∷ []) ∷ []),
    ) ∷ [])) (fields ((
      codes "body",
      fields ((codes "name", words "va") ∷ (codes "value", values []) ∷
          []),
    ) ∷ []))
    ∷ ran "E" [] null (fields ((codes "iterations", value 1) ∷ []))
    ∷ ran "M" (0 ∷ []) null null
    ∷ ran "U" (0 ∷ []) (fields ((codes "name", words "va") ∷ (codes "value", fields ((codes "k", words "Succeeded") ∷ [])) ∷ []))
    (fields ((
      codes "body",
      fields ((codes "name", words "va") ∷ (
        codes "value",
        values (fields ((codes "k", words "Succeeded") ∷ []) ∷
            []),
      ) ∷ []),
    ) ∷ []))
    ∷ [])
unfolding meaning
case-41-means = refl

abbrev case-42 : DefTree
case-42 = giving ((codes "a", of (ask "body" (say "T"))) ∷ []) (of_actions
    (act "B" 0 (after 2 false false true false ∷ []) (set_to (codes "va") (data_of.text (parts (letters (codes "x-") ∷ part (ask
    "parameters" (say "t")) ∷ []))))
    ∷ act "E" 1 [] (initialize (initial "va" Sort.Obj (Some (obj ((codes "k", nat 1) ∷ []))) ∷ []))
    ∷ act "T" 2 (after 1 true false false false ∷ []) (initialize (initial "vb" Sort.Bool None ∷ []))
    ∷ []))

case-42-means :
    meaning case-42 (asked null (fields ((codes "x", value 1) ∷ [])) (words "t") []) ≡
    leaves null (fields ((codes "x", value 1) ∷ [])) (words "t") RunStatus.Succeeded null null (fields ((
      codes "a",
      fields ((
        codes
            "name",
        words "vb",
      ) ∷ (codes "value", boolean false) ∷ []),
    ) ∷ []))
    (unrun "B" []
    ∷ ran "E" [] (fields ((
      codes "variables",
      values (fields ((codes "name", words "va") ∷ (codes "type", words "object") ∷ (
        codes
            "value",
        fields ((codes "k", value 1) ∷ []),
      ) ∷ []) ∷ []),
    ) ∷ [])) (fields ((
      codes "body",
      fields ((codes "name", words "va") ∷ (
        codes
            "value",
        fields ((codes "k", value 1) ∷ []),
      ) ∷ []),
    ) ∷ []))
    ∷ ran "T" [] (fields ((
      codes "variables",
      values (fields ((codes "name", words "vb") ∷ (codes "type", words "boolean") ∷ (
        codes
            "value",
        boolean false,
      ) ∷ []) ∷ []),
    ) ∷ [])) (fields ((
      codes "body",
      fields ((codes "name", words "vb") ∷ (
        codes "value",
        boolean
            false,
      ) ∷ []),
    ) ∷ []))
    ∷ [])
unfolding meaning
case-42-means = refl

abbrev case-43 : DefTree
case-43 = of_actions
    (act "G" 0 (after 2 true true false false ∷ []) (response (obj ((codes "body", nat 1) ∷ (codes "statusCode", nat 200) ∷ [])))
    ∷ act "N" 1 (after 0 true false false false ∷ []) (foreach (many (nat 1 ∷ nat 2 ∷ [])) 1 (action_trees []))
    ∷ act "P" 2 [] (initialize (initial "va" Sort.Obj (Some (obj ((codes "k", nat 1) ∷ []))) ∷ []))
    ∷ [])

case-43-means :
    meaning case-43 (asked (value 1) (value 1) (words "t") []) ≡
    leaves (value 1) (value 1) (words "t") RunStatus.Succeeded null (fields ((codes "body", value 1) ∷ (codes "statusCode", value 200) ∷
    [])) (fields [])
    (ran "G" [] (fields ((codes "body", value 1) ∷ (codes "statusCode", value 200) ∷ [])) (fields ((codes "body", value 1) ∷ (
      codes
          "statusCode",
      value 200,
    ) ∷ []))
    ∷ ran "N" [] (values (value 1 ∷ value 2 ∷ [])) null
    ∷ ran "P" [] (fields ((
      codes "variables",
      values (fields ((codes "name", words "va") ∷ (codes "type", words "object") ∷ (
        codes
            "value",
        fields ((codes "k", value 1) ∷ []),
      ) ∷ []) ∷ []),
    ) ∷ [])) (fields ((
      codes "body",
      fields ((codes "name", words "va") ∷ (
        codes
            "value",
        fields ((codes "k", value 1) ∷ []),
      ) ∷ []),
    ) ∷ []))
    ∷ [])
unfolding meaning
case-43-means = refl

abbrev case-44 : DefTree
case-44 = giving ((codes "a", data_of.text (parts (letters (codes "x-") ∷ part (ask "parameters" (say "t")) ∷ []))) ∷ (
  codes "b",
  obj
      ((codes "k", of (ask "outputs" (say "S"))) ∷ []),
) ∷ []) (of_actions
    (tracking ((codes "t", of (member (alone "action") (codes "status") false)) ∷ []) (act "G" 0 [] (initialize (initial "va" Sort.Int
    (Some (of (num 0))) ∷ [])))
    ∷ act "L" 1 (after 0 true true true true ∷ []) (compose (txt "t"))
    ∷ act "S" 2 (after 1 true true false false ∷ []) (decrement (codes "va") (Some (of (ask "variables" (say "va")))))
    ∷ []))

case-44-means :
    meaning case-44 (asked (value 2) (value 0) (words "a") []) ≡
    leaves (value 2) (value 0) (words "a") RunStatus.Succeeded null null (fields ((codes "a", words "x-a") ∷ (
      codes "b",
      fields ((
        codes
            "k",
        fields ((codes "body", fields ((codes "name", words "va") ∷ (codes "value", value 0) ∷ [])) ∷ []),
      ) ∷ []),
    ) ∷ []))
    (tracked_as (fields ((codes "t", words "Succeeded") ∷ [])) (ran "G" [] (fields ((
      codes "variables",
      values (fields ((
        codes "name",
        words "va",
      ) ∷ (codes "type", words "integer") ∷ (codes "value", value 0) ∷ []) ∷ []),
    ) ∷ [])) (fields ((
      codes "body",
      fields ((
        codes
            "name",
        words "va",
      ) ∷ (codes "value", value 0) ∷ []),
    ) ∷ [])))
    ∷ ran "L" [] (words "t") (words "t")
    ∷ ran "S" [] (fields ((codes "name", words "va") ∷ (codes "value", value 0) ∷ [])) (fields ((
      codes "body",
      fields ((
        codes "name",
        words "va",
      ) ∷ (codes "value", value 0) ∷ []),
    ) ∷ []))
    ∷ [])
unfolding meaning
case-44-means = refl

abbrev case-45 : DefTree
case-45 = of_actions
    (act "G" 1 [] (connector (obj ((codes "body", data_of.text (parts (letters (codes "x-") ∷ part (say "q") ∷ []))) ∷ (
      codes "method",
      txt "GET",
    ) ∷ (codes "uri", txt "u") ∷ [])) Policy.Standard)
    ∷ act "P" 2 (after 3 true false true true ∷ []) (scope (action_trees []))
    ∷ act "T" 3 (after 1 false true false false ∷ []) (scope (action_trees (tracking ((
      codes "t",
      of (member (alone "action") (codes
          "nope") false),
    ) ∷ []) (act "F" 0 [] (compose (of (apply "add" (ask "body" (say "G") ∷ ask "parameters" (say "p") ∷ []))))) ∷ [])))
    ∷ [])

case-45-means :
    meaning case-45 (asked (value 2) (fields ((codes "x", value 1) ∷ [])) (words "a") (replied "G" [] 1 (Outcome.Code 200) (fields [])
    (values (value 1 ∷ value 2 ∷ [])) ∷ [])) ≡
    leaves (value 2) (fields ((codes "x", value 1) ∷ [])) (words "a") RunStatus.Succeeded null null (fields [])
    (unrun "F" []
    ∷ called (Try.Code 200 ∷ []) (left "G" [] Status.Succeeded (decimal 200) (fields ((codes "body", words "x-q") ∷ (
      codes "method",
      words "GET",
    ) ∷ (codes "uri", words "u") ∷ [])) (fields ((codes "body", values (value 1 ∷ value 2 ∷ [])) ∷ (
      codes "headers",
      fields
          [],
    ) ∷ (codes "statusCode", value 200) ∷ [])) null)
    ∷ ran "P" [] null null
    ∷ unrun "T" []
    ∷ [])
unfolding meaning
case-45-means = refl

abbrev case-46 : DefTree
case-46 = of_actions
    (tracking ((codes "t", of (member (alone "action") (codes "nope") false)) ∷ []) (act "L" 1 [] (scope (action_trees (act "G" 0 []
    (switch_else (whole (num 3)) (case_trees ((
      codes "one",
      (
        words "t",
        action_trees (act "W" 2 [] (compose (of (alone "triggerBody")))
            ∷ []),
      ),
    ) ∷ (codes "two", (value 1, action_trees [])) ∷ [])) (action_trees [])) ∷ []))))
    ∷ [])

case-46-means :
    meaning case-46 (asked null (value 0) (words "t") []) ≡
    leaves null (value 0) (words "t") RunStatus.Succeeded null null (fields [])
    (ran "G" [] (value 3) null
    ∷ tracked_as null (ran "L" [] null null)
    ∷ unrun "W" []
    ∷ [])
unfolding meaning
case-46-means = refl

abbrev case-47 : DefTree
case-47 = of_actions
    (act "U" 3 (after 4 true true false false ∷ []) (connector (obj ((codes "body", of (ask "outputs" (say "N"))) ∷ (
      codes "method",
      txt
          "GET",
    ) ∷ (codes "uri", txt "u") ∷ [])) (Policy.Count 2))
    ∷ act "V" 4 [] (foreach (many (nat 1 ∷ txt "a" ∷ [])) 20 (action_trees (act "N" 0 (after 2 false true false false ∷ []) (join (many
    (txt "a" ∷ of (ask "parameters" (say "t")) ∷ txt "b" ∷ [])) (txt ",")) ∷ tracking ((
      codes "t",
      of (member (alone "action") (codes
          "status") false),
    ) ∷ []) (act "O" 1 [] (compose (nat 1))) ∷ act "P" 2 (after 1 true false true true ∷ []) (compose (of (ask "items"
    (say "V")))) ∷ [])))
    ∷ [])

case-47-means :
    meaning case-47 (asked (fields ((codes "x", value 1) ∷ [])) (value 1) (words "t") (replied "U" [] 1 Outcome.NoConnection (fields [])
    null ∷ [])) ≡
    leaves (fields ((codes "x", value 1) ∷ [])) (value 1) (words "t") RunStatus.Failed null null (fields [])
    (unrun "N" (0 ∷ [])
    ∷ unrun "N" (1 ∷ [])
    ∷ tracked_as (fields ((codes "t", words "Succeeded") ∷ [])) (ran "O" (0 ∷ []) (value 1) (value 1))
    ∷ tracked_as (fields ((codes "t", words "Succeeded") ∷ [])) (ran "O" (1 ∷ []) (value 1) (value 1))
    ∷ ran "P" (0 ∷ []) (value 1) (value 1)
    ∷ ran "P" (1 ∷ []) (words "a") (words "a")
    ∷ called (Try.NoConnection ∷ Try.NoAnswer ∷ []) (left "U" [] Status.Failed (codes "NoAnswer") (fields ((
      codes "body",
      values (null ∷
          null ∷ []),
    ) ∷ (codes "method", words "GET") ∷ (codes "uri", words "u") ∷ [])) null null)
    ∷ ran "V" [] (values (value 1 ∷ words "a" ∷ [])) null
    ∷ [])
unfolding meaning
case-47-means = refl

abbrev case-48 : DefTree
case-48 = of_actions
    (act "N" 2 [] (initialize (initial "va" Sort.Int (Some (nat 1)) ∷ []))
    ∷ act "P" 3 (after 2 true false false false ∷ []) (scope (action_trees (tracking ((codes "t", of (alone "triggerBody")) ∷ []) (act
    "G" 0 [] (branch (any_of (cond_trees (holds (whole (ask "not" (apply "equals" (ask "outputs" (say "N") ∷ num 3 ∷ [])))) ∷ not_of
    (holds (whole (apply "equals" (num 2 ∷ num 1 ∷ [])))) ∷ []))) (action_trees (act "X" 4 [] (response (obj ((
      codes "body",
      of (ask
          "parameters" (say "p")),
    ) ∷ (codes "statusCode", nat 200) ∷ []))) ∷ [])) (action_trees (tracking ((
      codes "t",
      of (member (alone
          "action") (codes "nope") false),
    ) ∷ []) (act "K" 1 [] (set_to (codes "va") (of (apply "createArray" (ask "outputs" (say "N") ∷ apply
    "if" (apply "equals" (ask "body" (say "N") ∷ num 1 ∷ []) ∷ ask "body" (say "N") ∷ num 0 ∷ []) ∷ []))))) ∷ [])))) ∷ [])))
    ∷ [])

case-48-means :
    meaning case-48 (asked (fields ((codes "x", value 1) ∷ [])) (value 2) (words "t") []) ≡
    leaves (fields ((codes "x", value 1) ∷ [])) (value 2) (words "t") RunStatus.Succeeded null (fields ((codes "body", value 2) ∷ (
      codes
          "statusCode",
      value 200,
    ) ∷ [])) (fields [])
    (tracked_as (fields ((codes "t", fields ((codes "x", value 1) ∷ [])) ∷ [])) (ran "G" [] (boolean true) null)
    ∷ unrun "K" []
    ∷ ran "N" [] (fields ((
      codes "variables",
      values (fields ((codes "name", words "va") ∷ (codes "type", words "integer") ∷ (
        codes
            "value",
        value 1,
      ) ∷ []) ∷ []),
    ) ∷ [])) (fields ((codes "body", fields ((codes "name", words "va") ∷ (codes "value", value 1) ∷ [])) ∷
    []))
    ∷ ran "P" [] null null
    ∷ ran "X" [] (fields ((codes "body", value 2) ∷ (codes "statusCode", value 200) ∷ [])) (fields ((codes "body", value 2) ∷ (
      codes
          "statusCode",
      value 200,
    ) ∷ []))
    ∷ [])
unfolding meaning
case-48-means = refl

abbrev case-49 : DefTree
case-49 = giving ((codes "a", many (of (index (ask "actions" (say "K")) (say "status") true) ∷ nat 1 ∷ [])) ∷ (
  codes "b",
  obj ((
    codes
        "k",
    of (apply "createArray" (index (ask "actions" (say "K")) (say "status") true ∷ index (ask "actions" (say "Z")) (say "status")
        true ∷ [])),
  ) ∷ []),
) ∷ []) (of_actions
    (act "K" 0 (after 2 true false false false ∷ []) (switch (plain (codes "a")) (case_trees ((
      codes "one",
      (
        words "t",
        action_trees
            (act "W" 1 [] (compose (data_of.text (parts (letters (codes "x-") ∷ part (say "q") ∷ [])))) ∷ []),
      ),
    ) ∷ (
      codes "two",
      (
        value 2,
        action_trees [],
      ),
    ) ∷ [])))
    ∷ act "Z" 2 [] (wait (obj ((codes "interval", obj ((codes "count", of (say "b")) ∷ (codes "unit", txt "Second") ∷ [])) ∷ [])))
    ∷ []))

case-49-means :
    meaning case-49 (asked (value 2) (value 0) (words "a") []) ≡
    leaves (value 2) (value 0) (words "a") RunStatus.Succeeded null null (fields ((codes "a", values (words "Succeeded" ∷ value 1 ∷ []))
    ∷ (codes "b", fields ((codes "k", values (words "Succeeded" ∷ words "Succeeded" ∷ [])) ∷ [])) ∷ []))
    (ran "K" [] (words "a") null
    ∷ unrun "W" []
    ∷ ran "Z" [] (fields ((codes "interval", fields ((codes "count", words "b") ∷ (codes "unit", words "Second") ∷ [])) ∷ [])) null
    ∷ [])
unfolding meaning
case-49-means = refl

abbrev case-50 : DefTree
case-50 = of_actions
    (tracking ((codes "t", of (index (alone "action") (say "outputs") true)) ∷ []) (act "L" 0 [] (select (of (apply "createArray" (ask
    "parameters" (say "p") ∷ num 2 ∷ []))) (data_of.text (parts (letters (codes "x-") ∷ part (ask "parameters" (say "t")) ∷ [])))))
    ∷ act "M" 1 (after 2 true false false false ∷ []) (response (obj ((
      codes "body",
      of (apply "createArray" (ask "outputs" (say "L") ∷
          apply "coalesce" (ask "body" (say "L") ∷ index (ask "actions" (say "L")) (say "status") true ∷ []) ∷ [])),
    ) ∷ (
      codes "statusCode",
      nat 200,
    ) ∷ [])))
    ∷ act "T" 2 (after 0 true false false false ∷ []) (foreach (many (nat 1 ∷ nat 2 ∷ [])) 20 (action_trees (act "Z" 3 [] (compose
    (data_of.null)) ∷ [])))
    ∷ [])

case-50-means :
    meaning case-50 (asked (value 1) (value 0) (words "t") []) ≡
    leaves (value 1) (value 0) (words "t") RunStatus.Succeeded null (fields ((
      codes "body",
      values (fields ((
        codes "body",
        values (words
            "x-t" ∷ words "x-t" ∷ []),
      ) ∷ []) ∷ values (words "x-t" ∷ words "x-t" ∷ []) ∷ []),
    ) ∷ (codes "statusCode", value 200) ∷ [])) (fields
    [])
    (tracked_as (fields ((codes "t", fields ((codes "body", values (words "x-t" ∷ words "x-t" ∷ [])) ∷ [])) ∷ [])) (ran "L" [] (fields
    ((codes "from", values (value 0 ∷ value 2 ∷ [])) ∷ [])) (fields ((codes "body", values (words "x-t" ∷ words "x-t" ∷ [])) ∷ [])))
    ∷ ran "M" [] (fields ((
      codes "body",
      values (fields ((codes "body", values (words "x-t" ∷ words "x-t" ∷ [])) ∷ []) ∷ values (words
          "x-t" ∷ words "x-t" ∷ []) ∷ []),
    ) ∷ (codes "statusCode", value 200) ∷ [])) (fields ((
      codes "body",
      values (fields ((
        codes "body",
        values (words "x-t" ∷ words "x-t" ∷ []),
      ) ∷ []) ∷ values (words "x-t" ∷ words "x-t" ∷ []) ∷ []),
    ) ∷ (codes "statusCode", value 200) ∷
    []))
    ∷ ran "T" [] (values (value 1 ∷ value 2 ∷ [])) null
    ∷ ran "Z" (0 ∷ []) null null
    ∷ ran "Z" (1 ∷ []) null null
    ∷ [])
unfolding meaning
case-50-means = refl

abbrev case-51 : DefTree
case-51 = of_actions
    (act "D" 0 (after 4 false true false false ∷ []) (initialize (initial "va" Sort.Bool (Some (data_of.boolean true)) ∷ []))
    ∷ act "M" 3 (after 0 true false false false ∷ []) (set_to (codes "va") (of (apply "equals" (ask "outputs" (say "I") ∷ ask "body"
    (say "D") ∷ []))))
    ∷ tracking ((codes "t", of (index (alone "action") (say "outputs") true)) ∷ []) (act "Z" 4 [] (until (holds (whole (apply "equals"
    (num 0 ∷ num 0 ∷ [])))) 2 false (action_trees (act "I" 2 [] (until (compare_by Fun.GreaterOrEquals (of (ask "iterationIndexes" (say
    "I"))) (nat 1)) 1 false (action_trees (act "F" 1 [] (query (many (nat 1 ∷ nat 2 ∷ nat 3 ∷ [])) (whole (apply "greater" (alone "item"
    ∷ num 1 ∷ [])))) ∷ []))) ∷ []))))
    ∷ [])

case-51-means :
    meaning case-51 (asked (words "a") (value 0) (words "t") []) ≡
    leaves (words "a") (value 0) (words "t") RunStatus.Succeeded null null (fields [])
    (unrun "D" []
    ∷ ran "F" (0 ∷ 0 ∷ []) (fields ((codes "from", values (value 1 ∷ value 2 ∷ value 3 ∷ [])) ∷ [])) (fields ((
      codes "body",
      values
          (value 2 ∷ value 3 ∷ []),
    ) ∷ []))
    ∷ ran "I" (0 ∷ []) null (fields ((codes "iterations", value 1) ∷ []))
    ∷ unrun "M" []
    ∷ tracked_as (fields ((codes "t", fields ((codes "iterations", value 1) ∷ [])) ∷ [])) (ran "Z" [] null (fields ((
      codes "iterations",
      value 1,
    ) ∷ [])))
    ∷ [])
unfolding meaning
case-51-means = refl

abbrev case-52 : DefTree
case-52 = of_actions
    (act "V" 3 [] (scope (action_trees (tracking ((codes "t", of (member (alone "action") (codes "status") false)) ∷ []) (act "D" 0
    (after 2 false false true false ∷ []) (compose (obj ((codes "k", of (ask "outputs" (say "K"))) ∷ [])))) ∷ act "K" 2 [] (foreach (of
    (apply "createArray" (num 3 ∷ num 2 ∷ []))) 20 (action_trees (act "I" 1 [] (compose (obj ((codes "k", of (num 2)) ∷ []))) ∷ []))) ∷
    [])))
    ∷ [])

case-52-means :
    meaning case-52 (asked (words "a") (fields ((codes "x", value 1) ∷ [])) (words "a") []) ≡
    leaves (words "a") (fields ((codes "x", value 1) ∷ [])) (words "a") RunStatus.Succeeded null null (fields [])
    (unrun "D" []
    ∷ ran "I" (0 ∷ []) (fields ((codes "k", value 2) ∷ [])) (fields ((codes "k", value 2) ∷ []))
    ∷ ran "I" (1 ∷ []) (fields ((codes "k", value 2) ∷ [])) (fields ((codes "k", value 2) ∷ []))
    ∷ ran "K" [] (values (value 3 ∷ value 2 ∷ [])) null
    ∷ ran "V" [] null null
    ∷ [])
unfolding meaning
case-52-means = refl

abbrev case-53 : DefTree
case-53 = of_actions
    (act "M" 0 (after 1 true false false false ∷ []) (append_string (codes "va") (of (ask "variables" (say "va"))))
    ∷ act "N" 1 [] (initialize (initial "va" Sort.Text (Some (txt "s")) ∷ []))
    ∷ [])

case-53-means :
    meaning case-53 (asked (values (value 1 ∷ value 2 ∷ [])) (value 0) (words "a") []) ≡
    leaves (values (value 1 ∷ value 2 ∷ [])) (value 0) (words "a") RunStatus.Succeeded null null (fields [])
    (ran "M" [] (fields ((codes "name", words "va") ∷ (codes "value", words "s") ∷ [])) (fields ((
      codes "body",
      fields ((
        codes "name",
        words "va",
      ) ∷ (codes "value", words "ss") ∷ []),
    ) ∷ []))
    ∷ ran "N" [] (fields ((
      codes "variables",
      values (fields ((codes "name", words "va") ∷ (codes "type", words "string") ∷ (
        codes
            "value",
        words "s",
      ) ∷ []) ∷ []),
    ) ∷ [])) (fields ((
      codes "body",
      fields ((codes "name", words "va") ∷ (codes "value", words "s") ∷
          []),
    ) ∷ []))
    ∷ [])
unfolding meaning
case-53-means = refl

abbrev case-54 : DefTree
case-54 = giving ((codes "a", of (ask "outputs" (say "E"))) ∷ []) (of_actions
    (act "P" 1 (after 2 true false false false ∷ []) (switch_else (whole (ask "variables" (say "va"))) (case_trees ((
      codes "one",
      (
        words
            "t",
        action_trees (act "E" 0 [] (compose (of (apply "concat" (ask "variables" (say "va") ∷ apply "sub" (say "a" ∷ ask "body" (say
            "S") ∷ []) ∷ [])))) ∷ []),
      ),
    ) ∷ (codes "two", (value 2, action_trees [])) ∷ [])) (action_trees []))
    ∷ act "S" 2 [] (initialize (initial "va" Sort.Int None ∷ []))
    ∷ []))

case-54-means :
    meaning case-54 (asked (values (value 1 ∷ value 2 ∷ [])) (value 0) (words "a") []) ≡
    leaves (values (value 1 ∷ value 2 ∷ [])) (value 0) (words "a") RunStatus.Succeeded null null (fields ((codes "a", null) ∷ []))
    (unrun "E" []
    ∷ ran "P" [] (value 0) null
    ∷ ran "S" [] (fields ((
      codes "variables",
      values (fields ((codes "name", words "va") ∷ (codes "type", words "integer") ∷ (
        codes
            "value",
        value 0,
      ) ∷ []) ∷ []),
    ) ∷ [])) (fields ((codes "body", fields ((codes "name", words "va") ∷ (codes "value", value 0) ∷ [])) ∷
    []))
    ∷ [])
unfolding meaning
case-54-means = refl

abbrev case-55 : DefTree
case-55 = of_actions
    (act "G" 0 (after 1 true false false false ∷ []) (append_string (codes "va") (txt "z"))
    ∷ tracking ((codes "t", of (index (alone "action") (say "outputs") true)) ∷ []) (act "V" 1 [] (initialize (initial "va" Sort.Text
    (Some (txt "s")) ∷ [])))
    ∷ [])

case-55-means :
    meaning case-55 (asked (fields ((codes "x", value 1) ∷ [])) (value 2) (words "t") []) ≡
    leaves (fields ((codes "x", value 1) ∷ [])) (value 2) (words "t") RunStatus.Succeeded null null (fields [])
    (ran "G" [] (fields ((codes "name", words "va") ∷ (codes "value", words "z") ∷ [])) (fields ((
      codes "body",
      fields ((
        codes "name",
        words "va",
      ) ∷ (codes "value", words "sz") ∷ []),
    ) ∷ []))
    ∷ tracked_as (fields ((
      codes "t",
      fields ((codes "body", fields ((codes "name", words "va") ∷ (codes "value", words "s") ∷ [])) ∷
          []),
    ) ∷ [])) (ran "V" [] (fields ((
      codes "variables",
      values (fields ((codes "name", words "va") ∷ (codes "type", words "string") ∷
          (codes "value", words "s") ∷ []) ∷ []),
    ) ∷ [])) (fields ((
      codes "body",
      fields ((codes "name", words "va") ∷ (
        codes "value",
        words
            "s",
      ) ∷ []),
    ) ∷ [])))
    ∷ [])
unfolding meaning
case-55-means = refl

abbrev case-56 : DefTree
case-56 = of_actions
    (act "L" 0 (after 1 true false false false ∷ []) (append_array (codes "va") (of (ask "variables" (say "va"))))
    ∷ act "P" 1 (after 2 true false false false ∷ []) (compose (many (of (ask "body" (say "X")) ∷ nat 1 ∷ [])))
    ∷ act "X" 2 [] (initialize (initial "va" Sort.List (Some (many (nat 1 ∷ []))) ∷ []))
    ∷ [])

case-56-means :
    meaning case-56 (asked (values (value 1 ∷ value 2 ∷ [])) (value 1) (words "a") []) ≡
    leaves (values (value 1 ∷ value 2 ∷ [])) (value 1) (words "a") RunStatus.Succeeded null null (fields [])
    (ran "L" [] (fields ((codes "name", words "va") ∷ (codes "value", values (value 1 ∷ [])) ∷ [])) (fields ((
      codes "body",
      fields
          ((codes "name", words "va") ∷ (codes "value", values (value 1 ∷ values (value 1 ∷ []) ∷ [])) ∷ []),
    ) ∷ []))
    ∷ ran "P" [] (values (fields ((codes "name", words "va") ∷ (codes "value", values (value 1 ∷ [])) ∷ []) ∷ value 1 ∷ [])) (values
    (fields ((codes "name", words "va") ∷ (codes "value", values (value 1 ∷ [])) ∷ []) ∷ value 1 ∷ []))
    ∷ ran "X" [] (fields ((
      codes "variables",
      values (fields ((codes "name", words "va") ∷ (codes "type", words "array") ∷ (
        codes
            "value",
        values (value 1 ∷ []),
      ) ∷ []) ∷ []),
    ) ∷ [])) (fields ((
      codes "body",
      fields ((codes "name", words "va") ∷ (
        codes "value",
        values (value 1 ∷ []),
      ) ∷ []),
    ) ∷ []))
    ∷ [])
unfolding meaning
case-56-means = refl

abbrev case-57 : DefTree
case-57 = of_actions
    (act "D" 0 [] (initialize (initial "va" Sort.List None ∷ []))
    ∷ tracking ((codes "t", of (member (alone "action") (codes "nope") false)) ∷ []) (act "E" 1 (after 0 true false false false ∷ [])
    (foreach (of (apply "createArray" (ask "variables" (say "va") ∷ num 2 ∷ []))) 1 (action_trees (act "P" 2 [] (compose (many (of (ask
    "variables" (say "va")) ∷ nat 1 ∷ []))) ∷ []))))
    ∷ act "V" 3 (after 1 false false true false ∷ []) (append_array (codes "va") (many (of (index (ask "parameters" (say "p")) (say "x")
    false) ∷ nat 1 ∷ [])))
    ∷ [])

case-57-means :
    meaning case-57 (asked (value 2) (fields ((codes "x", value 1) ∷ [])) (words "a") []) ≡
    leaves (value 2) (fields ((codes "x", value 1) ∷ [])) (words "a") RunStatus.Succeeded null null (fields [])
    (ran "D" [] (fields ((
      codes "variables",
      values (fields ((codes "name", words "va") ∷ (codes "type", words "array") ∷ (
        codes
            "value",
        values [],
      ) ∷ []) ∷ []),
    ) ∷ [])) (fields ((
      codes "body",
      fields ((codes "name", words "va") ∷ (codes "value", values []) ∷
          []),
    ) ∷ []))
    ∷ tracked_as null (ran "E" [] (values (values [] ∷ value 2 ∷ [])) null)
    ∷ ran "P" (0 ∷ []) (values (values [] ∷ value 1 ∷ [])) (values (values [] ∷ value 1 ∷ []))
    ∷ ran "P" (1 ∷ []) (values (values [] ∷ value 1 ∷ [])) (values (values [] ∷ value 1 ∷ []))
    ∷ unrun "V" []
    ∷ [])
unfolding meaning
case-57-means = refl

abbrev case-58 : DefTree
case-58 = giving ((
  codes "a",
  of (apply "if" (apply "greater" (ask "parameters" (say "p") ∷ num 0 ∷ []) ∷ apply "coalesce" (ask
      "outputs" (say "L") ∷ ask "parameters" (say "p") ∷ []) ∷ literal null ∷ [])),
) ∷ []) (of_actions
    (act "I" 1 [] (foreach (many (nat 1 ∷ nat 2 ∷ [])) 1 (action_trees (act "P" 3 [] (foreach (of (apply "createArray" (ask "parameters"
    (say "p") ∷ num 2 ∷ []))) 1 (action_trees (act "G" 0 [] (select (of (apply "createArray" (num 3 ∷ num 2 ∷ []))) (of (apply "if"
    (apply "greater" (ask "items" (say "I") ∷ num 0 ∷ []) ∷ apply "if" (apply "greater" (ask "items" (say "P") ∷ num 0 ∷ []) ∷ num 1 ∷
    literal null ∷ []) ∷ literal null ∷ [])))) ∷ []))) ∷ [])))
    ∷ act "L" 2 (after 1 true false false false ∷ []) (compose (data_of.text (parts (letters (codes "x-") ∷ part (say "q") ∷ []))))
    ∷ []))

case-58-means :
    meaning case-58 (asked (value 2) (value 1) (words "a") []) ≡
    leaves (value 2) (value 1) (words "a") RunStatus.Succeeded null null (fields ((codes "a", words "x-q") ∷ []))
    (ran "G" (0 ∷ 0 ∷ []) (fields ((codes "from", values (value 3 ∷ value 2 ∷ [])) ∷ [])) (fields ((
      codes "body",
      values (value 1 ∷
          value 1 ∷ []),
    ) ∷ []))
    ∷ ran "G" (0 ∷ 1 ∷ []) (fields ((codes "from", values (value 3 ∷ value 2 ∷ [])) ∷ [])) (fields ((
      codes "body",
      values (value 1 ∷
          value 1 ∷ []),
    ) ∷ []))
    ∷ ran "G" (1 ∷ 0 ∷ []) (fields ((codes "from", values (value 3 ∷ value 2 ∷ [])) ∷ [])) (fields ((
      codes "body",
      values (value 1 ∷
          value 1 ∷ []),
    ) ∷ []))
    ∷ ran "G" (1 ∷ 1 ∷ []) (fields ((codes "from", values (value 3 ∷ value 2 ∷ [])) ∷ [])) (fields ((
      codes "body",
      values (value 1 ∷
          value 1 ∷ []),
    ) ∷ []))
    ∷ ran "I" [] (values (value 1 ∷ value 2 ∷ [])) null
    ∷ ran "L" [] (words "x-q") (words "x-q")
    ∷ ran "P" (0 ∷ []) (values (value 1 ∷ value 2 ∷ [])) null
    ∷ ran "P" (1 ∷ []) (values (value 1 ∷ value 2 ∷ [])) null
    ∷ [])
unfolding meaning
case-58-means = refl

abbrev case-59 : DefTree
case-59 = giving ((codes "a", of (num 3)) ∷ (codes "b", nat 1) ∷ []) (of_actions
    (act "L" 1 (after 2 true false false false ∷ []) (branch (holds (whole (apply "equals" (num 1 ∷ num 2 ∷ [])))) (action_trees (act
    "C" 0 [] (until (any_of (cond_trees (holds (whole (apply "greater" (num 3 ∷ num 0 ∷ []))) ∷ not_of (holds (whole (ask "not" (apply
    "equals" (ask "iterationIndexes" (say "C") ∷ say "a" ∷ []))))) ∷ []))) 3 false (action_trees (act "S" 3 [] (compose (obj ((
      codes
          "k",
      of (apply "sub" (ask "outputs" (say "M") ∷ apply "add" (num 1 ∷ ask "variables" (say "va") ∷ []) ∷ [])),
    ) ∷ []))) ∷ []))) ∷ []))
    (action_trees []))
    ∷ tracking ((codes "t", of (index (alone "action") (say "outputs") true)) ∷ []) (act "M" 2 [] (initialize (initial "va" Sort.Obj
    (Some (obj ((codes "k", nat 1) ∷ []))) ∷ [])))
    ∷ []))

case-59-means :
    meaning case-59 (asked (values (value 1 ∷ value 2 ∷ [])) (fields ((codes "x", value 1) ∷ [])) (words "t") []) ≡
    leaves (values (value 1 ∷ value 2 ∷ [])) (fields ((codes "x", value 1) ∷ [])) (words "t") RunStatus.Succeeded null null (fields
    ((codes "a", value 3) ∷ (codes "b", value 1) ∷ []))
    (unrun "C" []
    ∷ ran "L" [] (boolean false) null
    ∷ tracked_as (fields ((
      codes "t",
      fields ((
        codes "body",
        fields ((codes "name", words "va") ∷ (
          codes "value",
          fields ((
            codes "k",
            value 1,
          ) ∷ []),
        ) ∷ []),
      ) ∷ []),
    ) ∷ [])) (ran "M" [] (fields ((
      codes "variables",
      values (fields ((codes "name", words "va") ∷ (
        codes
            "type",
        words "object",
      ) ∷ (codes "value", fields ((codes "k", value 1) ∷ [])) ∷ []) ∷ []),
    ) ∷ [])) (fields ((
      codes "body",
      fields
          ((codes "name", words "va") ∷ (codes "value", fields ((codes "k", value 1) ∷ [])) ∷ []),
    ) ∷ [])))
    ∷ [])
unfolding meaning
case-59-means = refl
