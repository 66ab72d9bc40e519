-- Random definitions, with the records that they mean. The records are what a reading of the rules in Python gives, which was written apart
-- from these definitions and isn't in this repository. Names and values are of the kind that computes: no number becomes a text.
use Rattle.std.proofs.Common.{◌≡◌, [], ◌∷◌, refl}
use Rattle.std.specs.Prelude.{true, false, None, Some, codes, decimal}
use Rattle.wf_val.specs.Arguments.{wrong_type}
use Rattle.wf_val.specs.ValueTree.{boolean, null}
use Rattle.wf_val.specs.declared.fault.EvalFault.{EvalFault}
use Rattle.wf_val.specs.declared.function.Fun.{Fun}
use Rattle.wf_template.specs.CondTree.{any_of, compare_by, cond_trees, holds, not_of}
use Rattle.wf_template.specs.DataTree as data_of
use Rattle.wf_template.specs.ExprTree.{index, literal, member}
use Rattle.wf_template.specs.TemplateTree.{letters, part, parts, plain, whole}
use Rattle.wf_retry.specs.declared.policy.Outcome.{Outcome}
use Rattle.wf_retry.specs.declared.policy.Policy.{Policy}
use Rattle.wf_def.specs.ActionTree.{action_trees, append_array, append_string, branch, case_trees, compose, connector, foreach}
use Rattle.wf_def.specs.ActionTree.{initialize, join, query, response, scope, select, set_to, switch, switch_else, terminate}
use Rattle.wf_def.specs.ActionTree.{until, wait}
use Rattle.wf_def.specs.DefTree.{DefTree}
use Rattle.wf_def.specs.declared.sort.Sort.{Sort}
use Rattle.wf_record.specs.declared.attempt.Try.{Try}
use Rattle.wf_record.specs.declared.status.RunStatus.{RunStatus}
use Rattle.wf_record.specs.declared.status.Status.{Status}
use Rattle.wf_meant.specs.Record.{meaning}
use Rattle.wf_meant.proofs.Terms.{act, after, alone, apply, ask, called, fell, fields, giving, initial, many, nat, num, obj, of}
use Rattle.wf_meant.proofs.Terms.{of_actions, ran, replied, say, tracked_as, tracking, txt, unrun, value, values, words}
use Rattle.wf_meant_rows.proofs.CaseTerms.{asked, leaves, left}

abbrev case-0 : DefTree
case-0 = of_actions
    (act "A" 0 (after 3 true true true true ∷ []) (compose (of (num 0)))
    ∷ act "F" 1 (after 2 false true false false ∷ []) (append_array (codes "va") (many (of (apply "equals" (ask "variables" (say "va") ∷
    num 3 ∷ [])) ∷ nat 1 ∷ [])))
    ∷ act "T" 2 (after 0 true false false false ∷ []) (compose (of (apply "if" (apply "greater" (alone "triggerBody" ∷ num 0 ∷ []) ∷ ask
    "parameters" (say "p") ∷ literal null ∷ []))))
    ∷ act "U" 3 [] (initialize (initial "va" Sort.List (Some (many (nat 1 ∷ []))) ∷ []))
    ∷ [])

case-0-means :
    meaning case-0 (asked (values (value 1 ∷ value 2 ∷ [])) (value 1) (words "a") []) ≡
    leaves (values (value 1 ∷ value 2 ∷ [])) (value 1) (words "a") RunStatus.Succeeded null null (fields [])
    (ran "A" [] (value 0) (value 0)
    ∷ ran "F" [] (fields ((codes "name", words "va") ∷ (codes "value", values (boolean false ∷ value 1 ∷ [])) ∷ [])) (fields ((
      codes
          "body",
      fields ((codes "name", words "va") ∷ (codes "value", values (value 1 ∷ values (boolean false ∷ value 1 ∷ []) ∷ [])) ∷ []),
    ) ∷
    []))
    ∷ fell "T" [] (wrong_type Fun.Greater 0)
    ∷ ran "U" [] (fields ((
      codes "variables",
      values (fields ((codes "name", words "va") ∷ (codes "type", words "array") ∷ (
        codes
            "value",
        values (value 1 ∷ []),
      ) ∷ []) ∷ []),
    ) ∷ [])) (fields ((
      codes "body",
      fields ((codes "name", words "va") ∷ (
        codes "value",
        values (value 1 ∷ []),
      ) ∷ []),
    ) ∷ []))
    ∷ [])
unfolding meaning
case-0-means = refl

abbrev case-1 : DefTree
case-1 = of_actions
    (act "X" 1 [] (scope (action_trees (act "M" 0 [] (join (many (txt "a" ∷ of (ask "parameters" (say "t")) ∷ txt "b" ∷ [])) (txt ","))
    ∷ [])))
    ∷ [])

case-1-means :
    meaning case-1 (asked (value 2) (value 1) (words "a") []) ≡
    leaves (value 2) (value 1) (words "a") RunStatus.Succeeded null null (fields [])
    (ran "M" [] (fields ((codes "from", values (words "a" ∷ words "a" ∷ words "b" ∷ [])) ∷ (codes "joinWith", words ",") ∷ [])) (fields
    ((codes "body", words "a,a,b") ∷ []))
    ∷ ran "X" [] null null
    ∷ [])
unfolding meaning
case-1-means = refl

abbrev case-2 : DefTree
case-2 = giving ((codes "a", many (of (ask "outputs" (say "L")) ∷ nat 1 ∷ [])) ∷ (
  codes "b",
  of (apply "coalesce" (ask "parameters" (say
      "p") ∷ apply "if" (apply "equals" (say "a" ∷ num 1 ∷ []) ∷ index (ask "actions" (say "M")) (say "status") true ∷ num 0 ∷ []) ∷ [])),
)
    ∷ []) (of_actions
    (act "L" 0 (after 2 true false false false ∷ []) (until (holds (whole (apply "equals" (num 1 ∷ num 2 ∷ [])))) 3 false (action_trees
    (tracking ((codes "t", of (member (alone "action") (codes "status") false)) ∷ []) (act "M" 1 [] (query (many (nat 1 ∷ nat 2 ∷ nat 3
    ∷ [])) (whole (apply "greater" (alone "item" ∷ num 1 ∷ []))))) ∷ [])))
    ∷ act "S" 2 [] (response (obj ((codes "body", many (of (num 0) ∷ nat 1 ∷ [])) ∷ (codes "statusCode", nat 200) ∷ [])))
    ∷ []))

case-2-means :
    meaning case-2 (asked (fields ((codes "x", value 1) ∷ [])) (value 1) (words "a") []) ≡
    leaves (fields ((codes "x", value 1) ∷ [])) (value 1) (words "a") RunStatus.Succeeded null (fields ((
      codes "body",
      values (value 0 ∷
          value 1 ∷ []),
    ) ∷ (codes "statusCode", value 200) ∷ [])) (fields ((
      codes "a",
      values (fields ((codes "iterations", value 3) ∷ []) ∷
          value 1 ∷ []),
    ) ∷ (codes "b", value 1) ∷ []))
    (ran "L" [] null (fields ((codes "iterations", value 3) ∷ []))
    ∷ tracked_as (fields ((codes "t", words "Succeeded") ∷ [])) (ran "M" (0 ∷ []) (fields ((
      codes "from",
      values (value 1 ∷ value 2 ∷
          value 3 ∷ []),
    ) ∷ [])) (fields ((codes "body", values (value 2 ∷ value 3 ∷ [])) ∷ [])))
    ∷ tracked_as (fields ((codes "t", words "Succeeded") ∷ [])) (ran "M" (1 ∷ []) (fields ((
      codes "from",
      values (value 1 ∷ value 2 ∷
          value 3 ∷ []),
    ) ∷ [])) (fields ((codes "body", values (value 2 ∷ value 3 ∷ [])) ∷ [])))
    ∷ tracked_as (fields ((codes "t", words "Succeeded") ∷ [])) (ran "M" (2 ∷ []) (fields ((
      codes "from",
      values (value 1 ∷ value 2 ∷
          value 3 ∷ []),
    ) ∷ [])) (fields ((codes "body", values (value 2 ∷ value 3 ∷ [])) ∷ [])))
    ∷ ran "S" [] (fields ((codes "body", values (value 0 ∷ value 1 ∷ [])) ∷ (codes "statusCode", value 200) ∷ [])) (fields ((
      codes
          "body",
      values (value 0 ∷ value 1 ∷ []),
    ) ∷ (codes "statusCode", value 200) ∷ []))
    ∷ [])
unfolding meaning
case-2-means = refl

abbrev case-3 : DefTree
case-3 = of_actions
    (act "N" 2 [] (until (holds (whole (apply "equals" (num 1 ∷ num 1 ∷ [])))) 3 true (action_trees (act "L" 1 (after 4 true true true
    true ∷ []) (compose (data_of.text (parts (letters (codes "x-") ∷ part (ask "parameters" (say "t")) ∷ [])))) ∷ act "Q" 4 [] (foreach
    (many []) 20 (action_trees (act "I" 0 [] (connector (obj ((codes "body", nat 1) ∷ (codes "method", txt "GET") ∷ (
      codes "uri",
      txt
          "u",
    ) ∷ [])) Policy.Never) ∷ act "O" 3 (after 0 true false false false ∷ []) (query (many (nat 1 ∷ nat 2 ∷ nat 3 ∷ [])) (whole (alone
    "item"))) ∷ []))) ∷ [])))
    ∷ [])

case-3-means :
    meaning case-3 (asked (boolean true) (value 0) (words "a") []) ≡
    leaves (boolean true) (value 0) (words "a") RunStatus.Succeeded null null (fields [])
    (ran "L" (0 ∷ []) (words "x-a") (words "x-a")
    ∷ ran "N" [] null (fields ((codes "iterations", value 1) ∷ []))
    ∷ ran "Q" (0 ∷ []) (values []) null
    ∷ [])
unfolding meaning
case-3-means = refl

abbrev case-4 : DefTree
case-4 = of_actions
    (act "L" 0 (after 2 true false false false ∷ []) (wait (obj ((
      codes "interval",
      obj ((codes "count", nat 1) ∷ (
        codes "unit",
        txt
            "Second",
      ) ∷ []),
    ) ∷ [])))
    ∷ act "O" 1 (after 0 true false false false ∷ []) (join (many (txt "a" ∷ of (ask "parameters" (say "t")) ∷ txt "b" ∷ [])) (txt ","))
    ∷ act "X" 2 [] (initialize (initial "va" Sort.Obj (Some (obj ((codes "k", nat 1) ∷ []))) ∷ []))
    ∷ [])

case-4-means :
    meaning case-4 (asked (values (value 1 ∷ value 2 ∷ [])) (value 0) (words "t") []) ≡
    leaves (values (value 1 ∷ value 2 ∷ [])) (value 0) (words "t") RunStatus.Succeeded null null (fields [])
    (ran "L" [] (fields ((codes "interval", fields ((codes "count", value 1) ∷ (codes "unit", words "Second") ∷ [])) ∷ [])) null
    ∷ ran "O" [] (fields ((codes "from", values (words "a" ∷ words "t" ∷ words "b" ∷ [])) ∷ (codes "joinWith", words ",") ∷ [])) (fields
    ((codes "body", words "a,t,b") ∷ []))
    ∷ ran "X" [] (fields ((
      codes "variables",
      values (fields ((codes "name", words "va") ∷ (codes "type", words "object") ∷ (
        codes
            "value",
        fields ((codes "k", value 1) ∷ []),
      ) ∷ []) ∷ []),
    ) ∷ [])) (fields ((
      codes "body",
      fields ((codes "name", words "va") ∷ (
        codes
            "value",
        fields ((codes "k", value 1) ∷ []),
      ) ∷ []),
    ) ∷ []))
    ∷ [])
unfolding meaning
case-4-means = refl

abbrev case-5 : DefTree
case-5 = of_actions
    (act "A" 0 (after 2 true false true true ∷ []) (foreach (many (nat 1 ∷ nat 2 ∷ [])) 1 (action_trees []))
    ∷ act "G" 1 [] (compose (of (apply "createArray" (ask "parameters" (say "p") ∷ apply "if" (apply "greater" (alone "triggerBody" ∷
    num 0 ∷ []) ∷ ask "parameters" (say "p") ∷ literal null ∷ []) ∷ []))))
    ∷ act "P" 2 (after 1 true false false false ∷ []) (initialize (initial "va" Sort.Bool None ∷ []))
    ∷ [])

case-5-means :
    meaning case-5 (asked (value 2) (value 1) (words "t") []) ≡
    leaves (value 2) (value 1) (words "t") RunStatus.Succeeded null null (fields [])
    (ran "A" [] (values (value 1 ∷ value 2 ∷ [])) null
    ∷ ran "G" [] (values (value 1 ∷ value 1 ∷ [])) (values (value 1 ∷ value 1 ∷ []))
    ∷ ran "P" [] (fields ((
      codes "variables",
      values (fields ((codes "name", words "va") ∷ (codes "type", words "boolean") ∷ (
        codes
            "value",
        boolean false,
      ) ∷ []) ∷ []),
    ) ∷ [])) (fields ((
      codes "body",
      fields ((codes "name", words "va") ∷ (
        codes "value",
        boolean
            false,
      ) ∷ []),
    ) ∷ []))
    ∷ [])
unfolding meaning
case-5-means = refl

abbrev case-6 : DefTree
case-6 = of_actions
    (act "A" 0 (after 1 false false true false ∷ []) (foreach (many (nat 1 ∷ nat 2 ∷ [])) 1 (action_trees (act "V" 3 [] (set_to (codes
    "va") (txt "t")) ∷ [])))
    ∷ act "O" 1 (after 2 true false true true ∷ []) (compose (of (ask "body" (say "R"))))
    ∷ act "R" 2 [] (initialize (initial "va" Sort.Obj None ∷ []))
    ∷ [])

case-6-means :
    meaning case-6 (asked (words "a") (fields ((codes "x", value 1) ∷ [])) (words "t") []) ≡
    leaves (words "a") (fields ((codes "x", value 1) ∷ [])) (words "t") RunStatus.Succeeded null null (fields [])
    (unrun "A" []
    ∷ ran "O" [] (fields ((codes "name", words "va") ∷ (codes "value", fields []) ∷ [])) (fields ((codes "name", words "va") ∷ (
      codes
          "value",
      fields [],
    ) ∷ []))
    ∷ ran "R" [] (fields ((
      codes "variables",
      values (fields ((codes "name", words "va") ∷ (codes "type", words "object") ∷ (
        codes
            "value",
        fields [],
      ) ∷ []) ∷ []),
    ) ∷ [])) (fields ((
      codes "body",
      fields ((codes "name", words "va") ∷ (codes "value", fields []) ∷
          []),
    ) ∷ []))
    ∷ [])
unfolding meaning
case-6-means = refl

abbrev case-7 : DefTree
case-7 = of_actions
    (act "K" 1 (after 2 true true true true ∷ []) (switch (plain (codes "a")) (case_trees ((
      codes "one",
      (
        value 1,
        action_trees (act "G"
            0 [] (switch_else (plain (codes "a")) (case_trees ((
              codes "one",
              (
                value 2,
                action_trees (act "Z" 3 [] (append_array (codes "va") (of
                    (apply "createArray" (ask "parameters" (say "p") ∷ index (ask "actions" (say "Y")) (say "status") true ∷ [])))) ∷ []),
              ),
            ) ∷ (
              codes
                  "two",
              (words "t", action_trees []),
            ) ∷ [])) (action_trees [])) ∷ []),
      ),
    ) ∷ (codes "two", (words "a", action_trees [])) ∷ [])))
    ∷ act "Y" 2 [] (initialize (initial "va" Sort.List (Some (many (nat 1 ∷ []))) ∷ []))
    ∷ [])

case-7-means :
    meaning case-7 (asked (boolean true) (value 0) (words "t") []) ≡
    leaves (boolean true) (value 0) (words "t") RunStatus.Succeeded null null (fields [])
    (unrun "G" []
    ∷ ran "K" [] (words "a") null
    ∷ ran "Y" [] (fields ((
      codes "variables",
      values (fields ((codes "name", words "va") ∷ (codes "type", words "array") ∷ (
        codes
            "value",
        values (value 1 ∷ []),
      ) ∷ []) ∷ []),
    ) ∷ [])) (fields ((
      codes "body",
      fields ((codes "name", words "va") ∷ (
        codes "value",
        values (value 1 ∷ []),
      ) ∷ []),
    ) ∷ []))
    ∷ unrun "Z" []
    ∷ [])
unfolding meaning
case-7-means = refl

abbrev case-8 : DefTree
case-8 = of_actions
    (act "O" 0 (after 1 true false false false ∷ []) (append_string (codes "va") (txt "z"))
    ∷ act "R" 1 [] (initialize (initial "va" Sort.Text None ∷ []))
    ∷ [])

case-8-means :
    meaning case-8 (asked (words "a") (value 0) (words "a") []) ≡
    leaves (words "a") (value 0) (words "a") RunStatus.Succeeded null null (fields [])
    (ran "O" [] (fields ((codes "name", words "va") ∷ (codes "value", words "z") ∷ [])) (fields ((
      codes "body",
      fields ((
        codes "name",
        words "va",
      ) ∷ (codes "value", words "z") ∷ []),
    ) ∷ []))
    ∷ ran "R" [] (fields ((
      codes "variables",
      values (fields ((codes "name", words "va") ∷ (codes "type", words "string") ∷ (
        codes
            "value",
        words "",
      ) ∷ []) ∷ []),
    ) ∷ [])) (fields ((codes "body", fields ((codes "name", words "va") ∷ (codes "value", words "") ∷ []))
    ∷ []))
    ∷ [])
unfolding meaning
case-8-means = refl

abbrev case-9 : DefTree
case-9 = of_actions
    (tracking ((codes "t", of (alone "triggerBody")) ∷ []) (act "D" 0 [] (connector (obj ((
      codes "body",
      obj ((
        codes "k",
        of (apply
            "createArray" (say "b" ∷ apply "createArray" (ask "parameters" (say "p") ∷ num 0 ∷ []) ∷ [])),
      ) ∷ []),
    ) ∷ (codes "method", txt "GET")
    ∷ (codes "uri", txt "u") ∷ [])) (Policy.Count 2)))
    ∷ act "E" 1 (after 2 true false false false ∷ []) (terminate (obj ((
      codes "runError",
      obj ((codes "code", txt "E") ∷ (
        codes
            "message",
        many (of (ask "outputs" (say "D")) ∷ nat 1 ∷ []),
      ) ∷ []),
    ) ∷ (codes "runStatus", txt "Succeeded") ∷ [])))
    ∷ act "W" 2 (after 0 true true false false ∷ []) (compose (obj ((
      codes "k",
      of (apply "createArray" (num 2 ∷ alone "triggerBody" ∷
          [])),
    ) ∷ [])))
    ∷ [])

case-9-means :
    meaning case-9 (asked (values (value 1 ∷ value 2 ∷ [])) (value 0) (words "a") (replied "D" [] 1 (Outcome.Code 200) (fields [])
    (words "b") ∷ replied "D" [] 2 (Outcome.Code 200) (fields []) null ∷ [])) ≡
    leaves (values (value 1 ∷ value 2 ∷ [])) (value 0) (words "a") RunStatus.Succeeded null null (fields [])
    (tracked_as (fields ((codes "t", values (value 1 ∷ value 2 ∷ [])) ∷ [])) (called (Try.Code 200 ∷ []) (left "D" [] Status.Succeeded
    (decimal 200) (fields ((codes "body", fields ((codes "k", values (words "b" ∷ values (value 0 ∷ value 0 ∷ []) ∷ [])) ∷ [])) ∷ (
      codes
          "method",
      words "GET",
    ) ∷ (codes "uri", words "u") ∷ [])) (fields ((codes "body", words "b") ∷ (codes "headers", fields []) ∷ (
      codes
          "statusCode",
      value 200,
    ) ∷ [])) null))
    ∷ ran "E" [] (fields ((
      codes "runError",
      fields ((codes "code", words "E") ∷ (
        codes "message",
        values (fields ((
          codes "body",
          words
              "b",
        ) ∷ (codes "headers", fields []) ∷ (codes "statusCode", value 200) ∷ []) ∷ value 1 ∷ []),
      ) ∷ []),
    ) ∷ (
      codes "runStatus",
      words
          "Succeeded",
    ) ∷ [])) null
    ∷ ran "W" [] (fields ((codes "k", values (value 2 ∷ values (value 1 ∷ value 2 ∷ []) ∷ [])) ∷ [])) (fields ((
      codes "k",
      values (value
          2 ∷ values (value 1 ∷ value 2 ∷ []) ∷ []),
    ) ∷ []))
    ∷ [])
unfolding meaning
case-9-means = refl

abbrev case-10 : DefTree
case-10 = of_actions
    (act "A" 0 [] (initialize (initial "va" Sort.List None ∷ []))
    ∷ act "P" 1 (after 3 true false false false ∷ []) (select (of (ask "variables" (say "va"))) (obj ((
      codes "k",
      of (ask "parameters"
          (say "p")),
    ) ∷ [])))
    ∷ act "R" 2 (after 0 true true true true ∷ []) (initialize (initial "vb" Sort.Text (Some (txt "s")) ∷ []))
    ∷ act "T" 3 (after 2 true false false false ∷ []) (compose (txt "t"))
    ∷ [])

case-10-means :
    meaning case-10 (asked (value 2) (value 1) (words "t") []) ≡
    leaves (value 2) (value 1) (words "t") RunStatus.Succeeded null null (fields [])
    (ran "A" [] (fields ((
      codes "variables",
      values (fields ((codes "name", words "va") ∷ (codes "type", words "array") ∷ (
        codes
            "value",
        values [],
      ) ∷ []) ∷ []),
    ) ∷ [])) (fields ((
      codes "body",
      fields ((codes "name", words "va") ∷ (codes "value", values []) ∷
          []),
    ) ∷ []))
    ∷ ran "P" [] (fields ((codes "from", values []) ∷ [])) (fields ((codes "body", values []) ∷ []))
    ∷ ran "R" [] (fields ((
      codes "variables",
      values (fields ((codes "name", words "vb") ∷ (codes "type", words "string") ∷ (
        codes
            "value",
        words "s",
      ) ∷ []) ∷ []),
    ) ∷ [])) (fields ((
      codes "body",
      fields ((codes "name", words "vb") ∷ (codes "value", words "s") ∷
          []),
    ) ∷ []))
    ∷ ran "T" [] (words "t") (words "t")
    ∷ [])
unfolding meaning
case-10-means = refl

abbrev case-11 : DefTree
case-11 = of_actions
    (act "C" 0 [] (response (obj ((codes "body", txt "t") ∷ (codes "statusCode", nat 200) ∷ [])))
    ∷ act "E" 1 (after 3 true false false false ∷ []) (response (obj ((
      codes "body",
      data_of.text (parts (letters (codes "x-") ∷ part
          (ask "parameters" (say "t")) ∷ [])),
    ) ∷ (codes "statusCode", nat 200) ∷ [])))
    ∷ act "T" 2 [] (wait (obj ((
      codes "interval",
      obj ((codes "count", of (ask "parameters" (say "p"))) ∷ (codes "unit", txt "Second") ∷
          []),
    ) ∷ [])))
    ∷ act "Z" 3 (after 0 true false false false ∷ []) (wait (obj ((
      codes "interval",
      obj ((codes "count", nat 1) ∷ (
        codes "unit",
        txt
            "Second",
      ) ∷ []),
    ) ∷ [])))
    ∷ [])

case-11-means :
    meaning case-11 (asked (value 2) (value 1) (words "a") []) ≡
    leaves (value 2) (value 1) (words "a") RunStatus.Succeeded null (fields ((codes "body", words "t") ∷ (codes "statusCode", value 200)
    ∷ [])) (fields [])
    (ran "C" [] (fields ((codes "body", words "t") ∷ (codes "statusCode", value 200) ∷ [])) (fields ((codes "body", words "t") ∷ (
      codes
          "statusCode",
      value 200,
    ) ∷ []))
    ∷ ran "E" [] (fields ((codes "body", words "x-a") ∷ (codes "statusCode", value 200) ∷ [])) (fields ((codes "body", words "x-a") ∷
    (codes "statusCode", value 200) ∷ []))
    ∷ ran "T" [] (fields ((codes "interval", fields ((codes "count", value 1) ∷ (codes "unit", words "Second") ∷ [])) ∷ [])) null
    ∷ ran "Z" [] (fields ((codes "interval", fields ((codes "count", value 1) ∷ (codes "unit", words "Second") ∷ [])) ∷ [])) null
    ∷ [])
unfolding meaning
case-11-means = refl

abbrev case-12 : DefTree
case-12 = of_actions
    (act "A" 0 (after 2 true false false false ∷ []) (until (holds (whole (apply "equals" (ask "iterationIndexes" (say "A") ∷ num 1 ∷
    [])))) 1 true (action_trees (act "N" 3 [] (until (holds (whole (apply "equals" (ask "iterationIndexes" (say "N") ∷ num 1 ∷ [])))) 2
    false (action_trees (act "E" 1 (after 4 true true true true ∷ []) (set_to (codes "va") (obj ((
      codes "k",
      of (ask "iterationIndexes"
          (say "A")),
    ) ∷ []))) ∷ act "P" 4 [] (compose (data_of.text (parts (letters (codes "x-") ∷ part (ask "parameters" (say "t")) ∷ []))))
    ∷ []))) ∷ act "Q" 5 (after 3 true false false false ∷ []) (until (holds (whole (apply "equals" (ask "iterationIndexes" (say "Q") ∷
    num 1 ∷ [])))) 2 false (action_trees [])) ∷ [])))
    ∷ act "F" 2 [] (initialize (initial "va" Sort.Obj None ∷ []))
    ∷ [])

case-12-means :
    meaning case-12 (asked (words "a") (fields ((codes "x", value 1) ∷ [])) (words "t") []) ≡
    leaves (words "a") (fields ((codes "x", value 1) ∷ [])) (words "t") RunStatus.Failed null null (fields [])
    (left "A" [] Status.Failed (codes "LimitReached") null (fields ((codes "iterations", value 1) ∷ [])) null
    ∷ ran "E" (0 ∷ 0 ∷ []) (fields ((codes "name", words "va") ∷ (codes "value", fields ((codes "k", value 0) ∷ [])) ∷ [])) (fields
    ((codes "body", fields ((codes "name", words "va") ∷ (codes "value", fields ((codes "k", value 0) ∷ [])) ∷ [])) ∷ []))
    ∷ ran "E" (0 ∷ 1 ∷ []) (fields ((codes "name", words "va") ∷ (codes "value", fields ((codes "k", value 0) ∷ [])) ∷ [])) (fields
    ((codes "body", fields ((codes "name", words "va") ∷ (codes "value", fields ((codes "k", value 0) ∷ [])) ∷ [])) ∷ []))
    ∷ ran "F" [] (fields ((
      codes "variables",
      values (fields ((codes "name", words "va") ∷ (codes "type", words "object") ∷ (
        codes
            "value",
        fields [],
      ) ∷ []) ∷ []),
    ) ∷ [])) (fields ((
      codes "body",
      fields ((codes "name", words "va") ∷ (codes "value", fields []) ∷
          []),
    ) ∷ []))
    ∷ ran "N" (0 ∷ []) null (fields ((codes "iterations", value 2) ∷ []))
    ∷ ran "P" (0 ∷ 0 ∷ []) (words "x-t") (words "x-t")
    ∷ ran "P" (0 ∷ 1 ∷ []) (words "x-t") (words "x-t")
    ∷ ran "Q" (0 ∷ []) null (fields ((codes "iterations", value 2) ∷ []))
    ∷ [])
unfolding meaning
case-12-means = refl

abbrev case-13 : DefTree
case-13 = giving ((codes "a", of (apply "coalesce" (num 3 ∷ index (ask "parameters" (say "p")) (say "x") false ∷ []))) ∷ (
  codes "b",
  of
      (say "b"),
) ∷ []) (of_actions
    (act "B" 0 [] (response (obj ((codes "body", of (apply "createArray" (alone "triggerBody" ∷ alone "triggerBody" ∷ []))) ∷ (
      codes
          "statusCode",
      nat 200,
    ) ∷ [])))
    ∷ act "E" 1 (after 0 true true true true ∷ []) (connector (obj ((
      codes "body",
      many (of (index (ask "actions" (say "B")) (say
          "status") true) ∷ nat 1 ∷ []),
    ) ∷ (codes "method", txt "GET") ∷ (codes "uri", txt "u") ∷ [])) Policy.Standard)
    ∷ act "K" 2 (after 1 false true false false ∷ []) (compose (obj ((
      codes "k",
      of (index (ask "actions" (say "B")) (say "status")
          true),
    ) ∷ [])))
    ∷ []))

case-13-means :
    meaning case-13 (asked (words "a") (value 0) (words "t") (replied "E" [] 1 (Outcome.Code 404) (fields []) (fields ((
      codes "x",
      value
          1,
    ) ∷ [])) ∷ replied "E" [] 2 (Outcome.Code 503) (fields []) (words "b") ∷ [])) ≡
    leaves (words "a") (value 0) (words "t") RunStatus.Succeeded null (fields ((codes "body", values (words "a" ∷ words "a" ∷ [])) ∷
    (codes "statusCode", value 200) ∷ [])) (fields ((codes "a", value 3) ∷ (codes "b", words "b") ∷ []))
    (ran "B" [] (fields ((codes "body", values (words "a" ∷ words "a" ∷ [])) ∷ (codes "statusCode", value 200) ∷ [])) (fields ((
      codes
          "body",
      values (words "a" ∷ words "a" ∷ []),
    ) ∷ (codes "statusCode", value 200) ∷ []))
    ∷ called (Try.Code 404 ∷ []) (left "E" [] Status.Failed (decimal 404) (fields ((
      codes "body",
      values (words "Succeeded" ∷ value 1 ∷
          []),
    ) ∷ (codes "method", words "GET") ∷ (codes "uri", words "u") ∷ [])) (fields ((codes "body", fields ((codes "x", value 1) ∷ [])) ∷
    (codes "headers", fields []) ∷ (codes "statusCode", value 404) ∷ [])) null)
    ∷ ran "K" [] (fields ((codes "k", words "Succeeded") ∷ [])) (fields ((codes "k", words "Succeeded") ∷ []))
    ∷ [])
unfolding meaning
case-13-means = refl

abbrev case-14 : DefTree
case-14 = giving ((codes "a", of (index (ask "last" (ask "result" (say "C"))) (say "status") true)) ∷ []) (of_actions
    (act "C" 1 [] (until (any_of (cond_trees (holds (whole (apply "greater" (ask "length" (ask "result" (say "X")) ∷ num 0 ∷ []))) ∷
    not_of (holds (whole (apply "equals" (num 1 ∷ num 2 ∷ [])))) ∷ []))) 3 true (action_trees (act "I" 3 [] (until (compare_by
    Fun.GreaterOrEquals (of (num 2)) (nat 1)) 3 true (action_trees (act "D" 2 [] (join (many (txt "a" ∷ of (ask "parameters" (say "t"))
    ∷ txt "b" ∷ [])) (txt ",")) ∷ act "T" 4 (after 2 true false false false ∷ []) (query (many (nat 1 ∷ nat 2 ∷ nat 3 ∷ [])) (whole
    (apply "greater" (alone "item" ∷ num 1 ∷ [])))) ∷ []))) ∷ act "X" 5 (after 3 true false false false ∷ []) (foreach (of (apply
    "createArray" (index (ask "last" (ask "result" (say "I"))) (say "status") true ∷ num 2 ∷ []))) 1 (action_trees (act "A" 0 []
    (compose (data_of.text (parts (letters (codes "x-") ∷ part (ask "parameters" (say "t")) ∷ [])))) ∷ []))) ∷ [])))
    ∷ []))

case-14-means :
    meaning case-14 (asked (value 2) (value 2) (words "a") []) ≡
    leaves (value 2) (value 2) (words "a") RunStatus.Succeeded null null (fields ((codes "a", words "Succeeded") ∷ []))
    (ran "A" (0 ∷ 0 ∷ []) (words "x-a") (words "x-a")
    ∷ ran "A" (0 ∷ 1 ∷ []) (words "x-a") (words "x-a")
    ∷ ran "C" [] null (fields ((codes "iterations", value 1) ∷ []))
    ∷ ran "D" (0 ∷ 0 ∷ []) (fields ((codes "from", values (words "a" ∷ words "a" ∷ words "b" ∷ [])) ∷ (codes "joinWith", words ",") ∷
    [])) (fields ((codes "body", words "a,a,b") ∷ []))
    ∷ ran "I" (0 ∷ []) null (fields ((codes "iterations", value 1) ∷ []))
    ∷ ran "T" (0 ∷ 0 ∷ []) (fields ((codes "from", values (value 1 ∷ value 2 ∷ value 3 ∷ [])) ∷ [])) (fields ((
      codes "body",
      values
          (value 2 ∷ value 3 ∷ []),
    ) ∷ []))
    ∷ ran "X" (0 ∷ []) (values (words "Succeeded" ∷ value 2 ∷ [])) null
    ∷ [])
unfolding meaning
case-14-means = refl

abbrev case-15 : DefTree
case-15 = of_actions
    (act "N" 0 (after 2 false true false false ∷ []) (foreach (many (nat 1 ∷ txt "a" ∷ [])) 20 (action_trees (act "P" 1 [] (switch_else
    (whole (alone "item")) (case_trees ((codes "one", (words "a", action_trees [])) ∷ (codes "two", (value 1, action_trees [])) ∷ []))
    (action_trees [])) ∷ [])))
    ∷ tracking ((codes "t", of (alone "triggerBody")) ∷ []) (act "X" 2 [] (compose (of (apply "add" (num 9223372036854775807 ∷ num 1 ∷
    [])))))
    ∷ [])

case-15-means :
    meaning case-15 (asked (words "a") (value 1) (words "t") []) ≡
    leaves (words "a") (value 1) (words "t") RunStatus.Succeeded null null (fields [])
    (ran "N" [] (values (value 1 ∷ words "a" ∷ [])) null
    ∷ ran "P" (0 ∷ []) (value 1) null
    ∷ ran "P" (1 ∷ []) (words "a") null
    ∷ tracked_as (fields ((codes "t", words "a") ∷ [])) (fell "X" [] (EvalFault.Range Fun.Add))
    ∷ [])
unfolding meaning
case-15-means = refl

abbrev case-16 : DefTree
case-16 = of_actions
    (act "N" 0 [] (branch (any_of (cond_trees (holds (whole (apply "greater" (num 1 ∷ num 0 ∷ []))) ∷ not_of (holds (whole (ask "not"
    (apply "equals" (ask "parameters" (say "p") ∷ say "b" ∷ []))))) ∷ []))) (action_trees []) (action_trees []))
    ∷ act "P" 1 (after 2 false true false false ∷ []) (connector (obj ((
      codes "body",
      obj ((
        codes "k",
        of (apply "equals" (alone
            "triggerBody" ∷ apply "coalesce" (ask "body" (say "Z") ∷ ask "outputs" (say "Z") ∷ []) ∷ [])),
      ) ∷ []),
    ) ∷ (codes "method", txt "GET")
    ∷ (codes "uri", txt "u") ∷ [])) Policy.Standard)
    ∷ act "Z" 2 [] (select (many (nat 1 ∷ nat 2 ∷ [])) (obj ((codes "k", of (apply "equals" (alone "item" ∷ alone "item" ∷ []))) ∷ [])))
    ∷ [])

case-16-means :
    meaning case-16 (asked (value 1) (value 1) (words "t") []) ≡
    leaves (value 1) (value 1) (words "t") RunStatus.Succeeded null null (fields [])
    (ran "N" [] (boolean true) null
    ∷ unrun "P" []
    ∷ ran "Z" [] (fields ((codes "from", values (value 1 ∷ value 2 ∷ [])) ∷ [])) (fields ((
      codes "body",
      values (fields ((
        codes "k",
        boolean true,
      ) ∷ []) ∷ fields ((codes "k", boolean true) ∷ []) ∷ []),
    ) ∷ []))
    ∷ [])
unfolding meaning
case-16-means = refl

abbrev case-17 : DefTree
case-17 = giving ((codes "a", obj ((codes "k", of (ask "length" (ask "result" (say "O")))) ∷ [])) ∷ []) (of_actions
    (act "U" 2 [] (until (holds (whole (apply "equals" (num 1 ∷ num 2 ∷ [])))) 1 false (action_trees (act "O" 1 [] (switch_else (whole
    (num 0)) (case_trees ((
      codes "one",
      (
        words "t",
        action_trees (act "I" 0 (after 3 true false false false ∷ []) (compose (of (ask
            "body" (say "W")))) ∷ act "W" 3 [] (connector (obj ((
              codes "body",
              of (apply "equals" (ask "iterationIndexes" (say "U") ∷ num 0 ∷
                  [])),
            ) ∷ (codes "method", txt "GET") ∷ (codes "uri", txt "u") ∷ [])) Policy.Standard) ∷ []),
      ),
    ) ∷ (
      codes "two",
      (
        value 2,
        action_trees
            [],
      ),
    ) ∷ [])) (action_trees [])) ∷ [])))
    ∷ []))

case-17-means :
    meaning case-17 (asked null (value 2) (words "t") []) ≡
    leaves null (value 2) (words "t") RunStatus.Succeeded null null (fields ((codes "a", fields ((codes "k", value 2) ∷ [])) ∷ []))
    (unrun "I" (0 ∷ [])
    ∷ ran "O" (0 ∷ []) (value 0) null
    ∷ ran "U" [] null (fields ((codes "iterations", value 1) ∷ []))
    ∷ unrun "W" (0 ∷ [])
    ∷ [])
unfolding meaning
case-17-means = refl

abbrev case-18 : DefTree
case-18 = of_actions
    (act "A" 0 [] (foreach (many (nat 1 ∷ txt "a" ∷ [])) 1 (action_trees (act "H" 1 [] (wait (obj ((
      codes "interval",
      obj ((
        codes
            "count",
        of (alone "triggerBody"),
      ) ∷ (codes "unit", txt "Second") ∷ []),
    ) ∷ []))) ∷ [])))
    ∷ act "X" 2 (after 0 true false false false ∷ []) (select (of (index (ask "actions" (say "A")) (say "status") true)) (of (ask
    "outputs" (say "A"))))
    ∷ [])

case-18-means :
    meaning case-18 (asked (boolean true) (value 1) (words "a") []) ≡
    leaves (boolean true) (value 1) (words "a") RunStatus.Failed null null (fields [])
    (ran "A" [] (values (value 1 ∷ words "a" ∷ [])) null
    ∷ ran "H" (0 ∷ []) (fields ((codes "interval", fields ((codes "count", boolean true) ∷ (codes "unit", words "Second") ∷ [])) ∷ []))
    null
    ∷ ran "H" (1 ∷ []) (fields ((codes "interval", fields ((codes "count", boolean true) ∷ (codes "unit", words "Second") ∷ [])) ∷ []))
    null
    ∷ fell "X" [] (wrong_type Fun.From 0)
    ∷ [])
unfolding meaning
case-18-means = refl

abbrev case-19 : DefTree
case-19 = of_actions
    (act "S" 0 [] (initialize (initial "va" Sort.Text None ∷ []))
    ∷ tracking ((codes "t", of (index (alone "action") (say "outputs") true)) ∷ []) (act "V" 1 (after 0 true false false false ∷ [])
    (append_string (codes "va") (txt "z")))
    ∷ [])

case-19-means :
    meaning case-19 (asked (values (value 1 ∷ value 2 ∷ [])) (value 2) (words "t") []) ≡
    leaves (values (value 1 ∷ value 2 ∷ [])) (value 2) (words "t") RunStatus.Succeeded null null (fields [])
    (ran "S" [] (fields ((
      codes "variables",
      values (fields ((codes "name", words "va") ∷ (codes "type", words "string") ∷ (
        codes
            "value",
        words "",
      ) ∷ []) ∷ []),
    ) ∷ [])) (fields ((codes "body", fields ((codes "name", words "va") ∷ (codes "value", words "") ∷ []))
    ∷ []))
    ∷ tracked_as (fields ((
      codes "t",
      fields ((codes "body", fields ((codes "name", words "va") ∷ (codes "value", words "z") ∷ [])) ∷
          []),
    ) ∷ [])) (ran "V" [] (fields ((codes "name", words "va") ∷ (codes "value", words "z") ∷ [])) (fields ((
      codes "body",
      fields
          ((codes "name", words "va") ∷ (codes "value", words "z") ∷ []),
    ) ∷ [])))
    ∷ [])
unfolding meaning
case-19-means = refl
