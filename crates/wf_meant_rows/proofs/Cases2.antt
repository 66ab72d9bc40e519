-- Random definitions, with the records that they mean. The records are what a reading of the rules in Python gives, which was written apart
-- from these definitions and isn't in this repository. Names and values are of the kind that computes: no number becomes a text.
use Rattle.std.proofs.Common.{◌≡◌, [], ◌∷◌, refl}
use Rattle.std.specs.Prelude.{true, false, None, Some, codes, decimal, negsuc}
use Rattle.wf_val.specs.ValueTree.{boolean, null, number}
use Rattle.wf_val.specs.declared.function.Fun.{Fun}
use Rattle.wf_template.specs.CondTree.{all_of, any_of, compare_by, cond_trees, holds, not_of}
use Rattle.wf_template.specs.DataTree as data_of
use Rattle.wf_template.specs.ExprTree.{index}
use Rattle.wf_template.specs.TemplateTree.{letters, part, parts, plain, whole}
use Rattle.wf_retry.specs.declared.policy.Outcome.{Outcome}
use Rattle.wf_retry.specs.declared.policy.Policy.{Policy}
use Rattle.wf_def.specs.ActionTree.{action_trees, append_array, append_string, branch, case_trees, compose, connector, decrement, foreach}
use Rattle.wf_def.specs.ActionTree.{initialize, join, query, response, scope, select, set_to, switch, terminate}
use Rattle.wf_def.specs.ActionTree.{until, wait}
use Rattle.wf_def.specs.DefTree.{DefTree}
use Rattle.wf_def.specs.declared.sort.Sort.{Sort}
use Rattle.wf_record.specs.declared.attempt.Try.{Try}
use Rattle.wf_record.specs.declared.status.RunStatus.{RunStatus}
use Rattle.wf_record.specs.declared.status.Status.{Status}
use Rattle.wf_meant.specs.Record.{meaning}
use Rattle.wf_meant.proofs.Terms.{act, after, alone, apply, ask, called, fields, giving, initial, many, nat, num, obj, of}
use Rattle.wf_meant.proofs.Terms.{of_actions, ran, replied, say, tracked_as, tracking, txt, unrun, value, values, words}
use Rattle.wf_meant_rows.proofs.CaseTerms.{asked, leaves, left}

abbrev case-20 : DefTree
case-20 = of_actions
    (act "N" 1 [] (scope (action_trees (act "V" 2 [] (scope (action_trees (act "L" 0 [] (select (many (nat 1 ∷ nat 2 ∷ [])) (obj ((
      codes
          "k",
      of (apply "coalesce" (alone "triggerBody" ∷ apply "equals" (alone "triggerBody" ∷ ask "parameters" (say "p") ∷ []) ∷ [])),
    ) ∷
    []))) ∷ []))) ∷ [])))
    ∷ [])

case-20-means :
    meaning case-20 (asked (value 1) (fields ((codes "x", value 1) ∷ [])) (words "t") []) ≡
    leaves (value 1) (fields ((codes "x", value 1) ∷ [])) (words "t") RunStatus.Succeeded null null (fields [])
    (ran "L" [] (fields ((codes "from", values (value 1 ∷ value 2 ∷ [])) ∷ [])) (fields ((
      codes "body",
      values (fields ((
        codes "k",
        value 1,
      ) ∷ []) ∷ fields ((codes "k", value 1) ∷ []) ∷ []),
    ) ∷ []))
    ∷ ran "N" [] null null
    ∷ ran "V" [] null null
    ∷ [])
unfolding meaning
case-20-means = refl

abbrev case-21 : DefTree
case-21 = of_actions
    (act "G" 1 [] (initialize (initial "va" Sort.Int None ∷ []))
    ∷ act "R" 2 (after 1 true true true true ∷ []) (branch (holds (whole (apply "equals" (ask "outputs" (say "G") ∷ num 1 ∷ []))))
    (action_trees (act "Z" 3 [] (join (many (txt "a" ∷ of (ask "parameters" (say "t")) ∷ txt "b" ∷ [])) (of (ask "outputs" (say "G"))))
    ∷ [])) (action_trees (act "C" 0 [] (until (holds (whole (apply "equals" (num 1 ∷ num 2 ∷ [])))) 3 false (action_trees [])) ∷ [])))
    ∷ [])

case-21-means :
    meaning case-21 (asked (fields ((codes "x", value 1) ∷ [])) (value 1) (words "t") []) ≡
    leaves (fields ((codes "x", value 1) ∷ [])) (value 1) (words "t") RunStatus.Succeeded null null (fields [])
    (ran "C" [] null (fields ((codes "iterations", value 3) ∷ []))
    ∷ ran "G" [] (fields ((
      codes "variables",
      values (fields ((codes "name", words "va") ∷ (codes "type", words "integer") ∷ (
        codes
            "value",
        value 0,
      ) ∷ []) ∷ []),
    ) ∷ [])) (fields ((codes "body", fields ((codes "name", words "va") ∷ (codes "value", value 0) ∷ [])) ∷
    []))
    ∷ ran "R" [] (boolean false) null
    ∷ unrun "Z" []
    ∷ [])
unfolding meaning
case-21-means = refl

abbrev case-22 : DefTree
case-22 = of_actions
    (act "A" 0 (after 2 true false false false ∷ []) (response (obj ((codes "body", of (ask "body" (say "T"))) ∷ (
      codes "statusCode",
      nat 200,
    ) ∷ [])))
    ∷ act "R" 1 (after 0 true false false false ∷ []) (initialize (initial "vb" Sort.Int None ∷ []))
    ∷ act "T" 2 (after 3 true false true true ∷ []) (set_to (codes "va") (of (num 1)))
    ∷ act "Y" 3 [] (initialize (initial "va" Sort.Int (Some (nat 1)) ∷ []))
    ∷ [])

case-22-means :
    meaning case-22 (asked (values (value 1 ∷ value 2 ∷ [])) (fields ((codes "x", value 1) ∷ [])) (words "a") []) ≡
    leaves (values (value 1 ∷ value 2 ∷ [])) (fields ((codes "x", value 1) ∷ [])) (words "a") RunStatus.Succeeded null (fields ((
      codes
          "body",
      fields ((codes "name", words "va") ∷ (codes "value", value 1) ∷ []),
    ) ∷ (codes "statusCode", value 200) ∷ [])) (fields [])
    (ran "A" [] (fields ((codes "body", fields ((codes "name", words "va") ∷ (codes "value", value 1) ∷ [])) ∷ (
      codes "statusCode",
      value 200,
    ) ∷ [])) (fields ((codes "body", fields ((codes "name", words "va") ∷ (codes "value", value 1) ∷ [])) ∷ (
      codes
          "statusCode",
      value 200,
    ) ∷ []))
    ∷ ran "R" [] (fields ((
      codes "variables",
      values (fields ((codes "name", words "vb") ∷ (codes "type", words "integer") ∷ (
        codes
            "value",
        value 0,
      ) ∷ []) ∷ []),
    ) ∷ [])) (fields ((codes "body", fields ((codes "name", words "vb") ∷ (codes "value", value 0) ∷ [])) ∷
    []))
    ∷ ran "T" [] (fields ((codes "name", words "va") ∷ (codes "value", value 1) ∷ [])) (fields ((
      codes "body",
      fields ((
        codes "name",
        words "va",
      ) ∷ (codes "value", value 1) ∷ []),
    ) ∷ []))
    ∷ ran "Y" [] (fields ((
      codes "variables",
      values (fields ((codes "name", words "va") ∷ (codes "type", words "integer") ∷ (
        codes
            "value",
        value 1,
      ) ∷ []) ∷ []),
    ) ∷ [])) (fields ((codes "body", fields ((codes "name", words "va") ∷ (codes "value", value 1) ∷ [])) ∷
    []))
    ∷ [])
unfolding meaning
case-22-means = refl

abbrev case-23 : DefTree
case-23 = of_actions
    (act "O" 0 (after 2 false false true false ∷ []) (append_string (codes "va") (txt "z"))
    ∷ act "P" 1 [] (initialize (initial "va" Sort.Text None ∷ []))
    ∷ act "Y" 2 (after 1 true true false false ∷ []) (compose (data_of.text (parts (letters (codes "x-") ∷ part (say "q") ∷ []))))
    ∷ [])

case-23-means :
    meaning case-23 (asked (value 1) (fields ((codes "x", value 1) ∷ [])) (words "t") []) ≡
    leaves (value 1) (fields ((codes "x", value 1) ∷ [])) (words "t") RunStatus.Succeeded null null (fields [])
    (unrun "O" []
    ∷ ran "P" [] (fields ((
      codes "variables",
      values (fields ((codes "name", words "va") ∷ (codes "type", words "string") ∷ (
        codes
            "value",
        words "",
      ) ∷ []) ∷ []),
    ) ∷ [])) (fields ((codes "body", fields ((codes "name", words "va") ∷ (codes "value", words "") ∷ []))
    ∷ []))
    ∷ ran "Y" [] (words "x-q") (words "x-q")
    ∷ [])
unfolding meaning
case-23-means = refl

abbrev case-24 : DefTree
case-24 = of_actions
    (act "F" 0 (after 1 true true true true ∷ []) (compose (data_of.text (parts (letters (codes "x-") ∷ part (say "q") ∷ []))))
    ∷ act "I" 1 [] (scope (action_trees (act "O" 2 [] (connector (obj ((codes "body", txt "t") ∷ (codes "method", txt "GET") ∷ (
      codes
          "uri",
      txt "u",
    ) ∷ [])) Policy.Standard) ∷ [])))
    ∷ [])

case-24-means :
    meaning case-24 (asked (words "a") (value 1) (words "t") (replied "O" [] 1 (Outcome.Code 200) (fields []) (fields ((
      codes "x",
      value
          1,
    ) ∷ [])) ∷ [])) ≡
    leaves (words "a") (value 1) (words "t") RunStatus.Succeeded null null (fields [])
    (ran "F" [] (words "x-q") (words "x-q")
    ∷ ran "I" [] null null
    ∷ called (Try.Code 200 ∷ []) (left "O" [] Status.Succeeded (decimal 200) (fields ((codes "body", words "t") ∷ (
      codes "method",
      words
          "GET",
    ) ∷ (codes "uri", words "u") ∷ [])) (fields ((codes "body", fields ((codes "x", value 1) ∷ [])) ∷ (codes "headers", fields [])
    ∷ (codes "statusCode", value 200) ∷ [])) null)
    ∷ [])
unfolding meaning
case-24-means = refl

abbrev case-25 : DefTree
case-25 = of_actions
    (act "I" 1 [] (branch (any_of (cond_trees (holds (whole (ask "not" (apply "equals" (say "b" ∷ num 0 ∷ [])))) ∷ not_of (holds (whole
    (ask "not" (apply "equals" (ask "parameters" (say "p") ∷ num 3 ∷ []))))) ∷ []))) (action_trees (act "G" 0 [] (branch (compare_by
    Fun.GreaterOrEquals (of (num 1)) (nat 1)) (action_trees (act "K" 2 [] (query (of (apply "createArray" (num 2 ∷ num 2 ∷ []))) (whole
    (apply "greater" (alone "item" ∷ num 1 ∷ [])))) ∷ [])) (action_trees [])) ∷ [])) (action_trees []))
    ∷ [])

case-25-means :
    meaning case-25 (asked (values (value 1 ∷ value 2 ∷ [])) (fields ((codes "x", value 1) ∷ [])) (words "t") []) ≡
    leaves (values (value 1 ∷ value 2 ∷ [])) (fields ((codes "x", value 1) ∷ [])) (words "t") RunStatus.Succeeded null null (fields [])
    (ran "G" [] (boolean true) null
    ∷ ran "I" [] (boolean true) null
    ∷ ran "K" [] (fields ((codes "from", values (value 2 ∷ value 2 ∷ [])) ∷ [])) (fields ((
      codes "body",
      values (value 2 ∷ value 2 ∷
          []),
    ) ∷ []))
    ∷ [])
unfolding meaning
case-25-means = refl

abbrev case-26 : DefTree
case-26 = of_actions
    (tracking ((codes "t", of (alone "triggerBody")) ∷ []) (act "A" 0 [] (initialize (initial "va" Sort.Int None ∷ [])))
    ∷ act "T" 3 (after 0 true false false false ∷ []) (switch (whole (apply "add" (ask "parameters" (say "p") ∷ ask "parameters" (say
    "p") ∷ []))) (case_trees ((
      codes "one",
      (
        value 2,
        action_trees (act "G" 1 [] (until (holds (whole (apply "equals" (ask
            "iterationIndexes" (say "G") ∷ num 1 ∷ [])))) 2 false (action_trees (act "I" 2 [] (wait (obj ((
              codes "interval",
              obj ((
                codes
                    "count",
                of (ask "variables" (say "va")),
              ) ∷ (codes "unit", txt "Second") ∷ []),
            ) ∷ []))) ∷ []))) ∷ []),
      ),
    ) ∷ (
      codes "two",
      (
        words "t",
        action_trees [],
      ),
    ) ∷ [])))
    ∷ [])

case-26-means :
    meaning case-26 (asked (words "a") (value 0) (words "a") []) ≡
    leaves (words "a") (value 0) (words "a") RunStatus.Succeeded null null (fields [])
    (tracked_as (fields ((codes "t", words "a") ∷ [])) (ran "A" [] (fields ((
      codes "variables",
      values (fields ((
        codes "name",
        words
            "va",
      ) ∷ (codes "type", words "integer") ∷ (codes "value", value 0) ∷ []) ∷ []),
    ) ∷ [])) (fields ((
      codes "body",
      fields ((
        codes
            "name",
        words "va",
      ) ∷ (codes "value", value 0) ∷ []),
    ) ∷ [])))
    ∷ unrun "G" []
    ∷ ran "T" [] (value 0) null
    ∷ [])
unfolding meaning
case-26-means = refl

abbrev case-27 : DefTree
case-27 = of_actions
    (act "B" 0 (after 1 true false false false ∷ []) (branch (all_of (cond_trees (holds (whole (ask "not" (apply "equals" (ask
    "variables" (say "va") ∷ num 2 ∷ [])))) ∷ compare_by Fun.Equals (of (ask "parameters" (say "p"))) (nat 1) ∷ []))) (action_trees (act
    "U" 2 [] (join (many (txt "a" ∷ of (ask "parameters" (say "t")) ∷ txt "b" ∷ [])) (txt ",")) ∷ [])) (action_trees []))
    ∷ act "I" 1 [] (initialize (initial "va" Sort.Obj (Some (obj ((codes "k", nat 1) ∷ []))) ∷ []))
    ∷ [])

case-27-means :
    meaning case-27 (asked null (value 0) (words "t") []) ≡
    leaves null (value 0) (words "t") RunStatus.Succeeded null null (fields [])
    (ran "B" [] (boolean false) null
    ∷ ran "I" [] (fields ((
      codes "variables",
      values (fields ((codes "name", words "va") ∷ (codes "type", words "object") ∷ (
        codes
            "value",
        fields ((codes "k", value 1) ∷ []),
      ) ∷ []) ∷ []),
    ) ∷ [])) (fields ((
      codes "body",
      fields ((codes "name", words "va") ∷ (
        codes
            "value",
        fields ((codes "k", value 1) ∷ []),
      ) ∷ []),
    ) ∷ []))
    ∷ unrun "U" []
    ∷ [])
unfolding meaning
case-27-means = refl

abbrev case-28 : DefTree
case-28 = of_actions
    (act "E" 0 (after 2 true true false false ∷ []) (initialize (initial "va" Sort.Int (Some (nat 1)) ∷ []))
    ∷ act "P" 1 [] (response (obj ((codes "body", txt "t") ∷ (codes "statusCode", nat 200) ∷ [])))
    ∷ act "U" 2 (after 1 true false false false ∷ []) (connector (obj ((
      codes "body",
      obj ((
        codes "k",
        of (apply "createArray" (alone
            "triggerBody" ∷ apply "coalesce" (num 3 ∷ index (ask "actions" (say "P")) (say "status") true ∷ []) ∷ [])),
      ) ∷ []),
    ) ∷ (
      codes
          "method",
      txt "GET",
    ) ∷ (codes "uri", txt "u") ∷ [])) Policy.Standard)
    ∷ [])

case-28-means :
    meaning case-28 (asked (words "a") (value 0) (words "t") []) ≡
    leaves (words "a") (value 0) (words "t") RunStatus.Succeeded null (fields ((codes "body", words "t") ∷ (
      codes "statusCode",
      value
          200,
    ) ∷ [])) (fields [])
    (ran "E" [] (fields ((
      codes "variables",
      values (fields ((codes "name", words "va") ∷ (codes "type", words "integer") ∷ (
        codes
            "value",
        value 1,
      ) ∷ []) ∷ []),
    ) ∷ [])) (fields ((codes "body", fields ((codes "name", words "va") ∷ (codes "value", value 1) ∷ [])) ∷
    []))
    ∷ ran "P" [] (fields ((codes "body", words "t") ∷ (codes "statusCode", value 200) ∷ [])) (fields ((codes "body", words "t") ∷ (
      codes
          "statusCode",
      value 200,
    ) ∷ []))
    ∷ called (Try.NoAnswer ∷ []) (left "U" [] Status.Failed (codes "NoAnswer") (fields ((
      codes "body",
      fields ((
        codes "k",
        values (words
            "a" ∷ value 3 ∷ []),
      ) ∷ []),
    ) ∷ (codes "method", words "GET") ∷ (codes "uri", words "u") ∷ [])) null null)
    ∷ [])
unfolding meaning
case-28-means = refl

abbrev case-29 : DefTree
case-29 = of_actions
    (act "P" 0 (after 1 true true true true ∷ []) (decrement (codes "va") (Some (nat 2)))
    ∷ act "Z" 1 [] (initialize (initial "va" Sort.Int None ∷ []))
    ∷ [])

case-29-means :
    meaning case-29 (asked (value 1) (value 0) (words "t") []) ≡
    leaves (value 1) (value 0) (words "t") RunStatus.Succeeded null null (fields [])
    (ran "P" [] (fields ((codes "name", words "va") ∷ (codes "value", value 2) ∷ [])) (fields ((
      codes "body",
      fields ((
        codes "name",
        words "va",
      ) ∷ (codes "value", number (negsuc 1)) ∷ []),
    ) ∷ []))
    ∷ ran "Z" [] (fields ((
      codes "variables",
      values (fields ((codes "name", words "va") ∷ (codes "type", words "integer") ∷ (
        codes
            "value",
        value 0,
      ) ∷ []) ∷ []),
    ) ∷ [])) (fields ((codes "body", fields ((codes "name", words "va") ∷ (codes "value", value 0) ∷ [])) ∷
    []))
    ∷ [])
unfolding meaning
case-29-means = refl

abbrev case-30 : DefTree
case-30 = of_actions
    (act "Y" 2 [] (scope (action_trees (act "L" 0 (after 1 false true false false ∷ []) (until (holds (whole (apply "equals" (num 1 ∷
    num 1 ∷ [])))) 1 false (action_trees [])) ∷ act "R" 1 [] (connector (obj ((codes "body", obj ((codes "k", of (num 3)) ∷ [])) ∷
    (codes "method", txt "GET") ∷ (codes "uri", txt "u") ∷ [])) Policy.Standard) ∷ [])))
    ∷ [])

case-30-means :
    meaning case-30 (asked (values (value 1 ∷ value 2 ∷ [])) (value 2) (words "t") (replied "R" [] 1 Outcome.NoConnection (fields [])
    null ∷ replied "R" [] 2 (Outcome.Code 503) (fields []) (fields ((codes "x", value 1) ∷ [])) ∷ [])) ≡
    leaves (values (value 1 ∷ value 2 ∷ [])) (value 2) (words "t") RunStatus.Succeeded null null (fields [])
    (ran "L" [] null (fields ((codes "iterations", value 1) ∷ []))
    ∷ called (Try.NoConnection ∷ Try.Code 503 ∷ Try.NoAnswer ∷ []) (left "R" [] Status.Failed (codes "NoAnswer") (fields ((
      codes "body",
      fields ((codes "k", value 3) ∷ []),
    ) ∷ (codes "method", words "GET") ∷ (codes "uri", words "u") ∷ [])) null null)
    ∷ ran "Y" [] null null
    ∷ [])
unfolding meaning
case-30-means = refl

abbrev case-31 : DefTree
case-31 = of_actions
    (act "K" 0 (after 2 true false false false ∷ []) (initialize (initial "va" Sort.List None ∷ []))
    ∷ act "O" 1 (after 0 true false false false ∷ []) (append_array (codes "va") (of (ask "body" (say "T"))))
    ∷ act "T" 2 [] (query (of (apply "createArray" (ask "parameters" (say "p") ∷ num 2 ∷ []))) (whole (apply "greater" (alone "item" ∷
    num 1 ∷ []))))
    ∷ [])

case-31-means :
    meaning case-31 (asked null (value 1) (words "t") []) ≡
    leaves null (value 1) (words "t") RunStatus.Succeeded null null (fields [])
    (ran "K" [] (fields ((
      codes "variables",
      values (fields ((codes "name", words "va") ∷ (codes "type", words "array") ∷ (
        codes
            "value",
        values [],
      ) ∷ []) ∷ []),
    ) ∷ [])) (fields ((
      codes "body",
      fields ((codes "name", words "va") ∷ (codes "value", values []) ∷
          []),
    ) ∷ []))
    ∷ ran "O" [] (fields ((codes "name", words "va") ∷ (codes "value", values (value 2 ∷ [])) ∷ [])) (fields ((
      codes "body",
      fields
          ((codes "name", words "va") ∷ (codes "value", values (values (value 2 ∷ []) ∷ [])) ∷ []),
    ) ∷ []))
    ∷ ran "T" [] (fields ((codes "from", values (value 1 ∷ value 2 ∷ [])) ∷ [])) (fields ((codes "body", values (value 2 ∷ [])) ∷ []))
    ∷ [])
unfolding meaning
case-31-means = refl

abbrev case-32 : DefTree
case-32 = of_actions
    (act "N" 1 (after 2 true false false false ∷ []) (switch (plain (codes "a")) (case_trees ((
      codes "one",
      (
        words "t",
        action_trees
            [],
      ),
    ) ∷ (codes "two", (words "a", action_trees [])) ∷ [])))
    ∷ act "T" 2 [] (scope (action_trees (act "I" 0 [] (join (many (txt "a" ∷ of (ask "parameters" (say "t")) ∷ txt "b" ∷ [])) (txt ","))
    ∷ [])))
    ∷ [])

case-32-means :
    meaning case-32 (asked (value 1) (value 1) (words "t") []) ≡
    leaves (value 1) (value 1) (words "t") RunStatus.Succeeded null null (fields [])
    (ran "I" [] (fields ((codes "from", values (words "a" ∷ words "t" ∷ words "b" ∷ [])) ∷ (codes "joinWith", words ",") ∷ [])) (fields
    ((codes "body", words "a,t,b") ∷ []))
    ∷ ran "N" [] (words "a") null
    ∷ ran "T" [] null null
    ∷ [])
unfolding meaning
case-32-means = refl

abbrev case-33 : DefTree
case-33 = giving ((codes "a", of (ask "outputs" (say "H"))) ∷ []) (of_actions
    (act "H" 1 [] (scope (action_trees (act "L" 2 [] (foreach (many []) 20 (action_trees (act "B" 0 [] (wait (obj ((
      codes "interval",
      obj ((codes "count", of (num 1)) ∷ (codes "unit", txt "Second") ∷ []),
    ) ∷ []))) ∷ act "Z" 3 [] (compose (of (alone "item"))) ∷ [])))
    ∷ [])))
    ∷ []))

case-33-means :
    meaning case-33 (asked (value 1) (value 1) (words "a") []) ≡
    leaves (value 1) (value 1) (words "a") RunStatus.Succeeded null null (fields ((codes "a", null) ∷ []))
    (ran "H" [] null null
    ∷ ran "L" [] (values []) null
    ∷ [])
unfolding meaning
case-33-means = refl

abbrev case-34 : DefTree
case-34 = of_actions
    (act "P" 0 (after 1 true false false false ∷ []) (terminate (obj ((codes "runStatus", txt "failed") ∷ [])))
    ∷ act "V" 1 [] (initialize (initial "va" Sort.Text None ∷ []))
    ∷ [])

case-34-means :
    meaning case-34 (asked null (value 0) (words "t") []) ≡
    leaves null (value 0) (words "t") RunStatus.Failed null null (fields [])
    (ran "P" [] (fields ((codes "runStatus", words "failed") ∷ [])) null
    ∷ ran "V" [] (fields ((
      codes "variables",
      values (fields ((codes "name", words "va") ∷ (codes "type", words "string") ∷ (
        codes
            "value",
        words "",
      ) ∷ []) ∷ []),
    ) ∷ [])) (fields ((codes "body", fields ((codes "name", words "va") ∷ (codes "value", words "") ∷ []))
    ∷ []))
    ∷ [])
unfolding meaning
case-34-means = refl

abbrev case-35 : DefTree
case-35 = giving ((codes "a", many (of (ask "outputs" (say "S")) ∷ nat 1 ∷ [])) ∷ (codes "b", data_of.boolean true) ∷ []) (of_actions
    (act "O" 0 [] (connector (obj ((codes "body", data_of.text (parts (letters (codes "x-") ∷ part (ask "parameters" (say "t")) ∷ [])))
    ∷ (codes "method", txt "GET") ∷ (codes "uri", txt "u") ∷ [])) Policy.Standard)
    ∷ act "R" 1 [] (wait (obj ((codes "interval", obj ((codes "count", nat 1) ∷ (codes "unit", txt "Second") ∷ [])) ∷ [])))
    ∷ act "S" 2 [] (compose (of (apply "equals" (num 3 ∷ apply "sub" (num 3 ∷ ask "parameters" (say "p") ∷ []) ∷ []))))
    ∷ []))

case-35-means :
    meaning case-35 (asked (value 2) (value 0) (words "t") (replied "O" [] 1 (Outcome.Code 503) (fields []) null ∷ replied "O" [] 2
    Outcome.TimedOut (fields []) null ∷ [])) ≡
    leaves (value 2) (value 0) (words "t") RunStatus.Failed null null (fields ((codes "a", values (boolean true ∷ value 1 ∷ [])) ∷
    (codes "b", boolean true) ∷ []))
    (called (Try.Code 503 ∷ Try.TimedOut ∷ []) (left "O" [] Status.TimedOut (codes "TimedOut") (fields ((codes "body", words "x-t") ∷
    (codes "method", words "GET") ∷ (codes "uri", words "u") ∷ [])) null null)
    ∷ ran "R" [] (fields ((codes "interval", fields ((codes "count", value 1) ∷ (codes "unit", words "Second") ∷ [])) ∷ [])) null
    ∷ ran "S" [] (boolean true) (boolean true)
    ∷ [])
unfolding meaning
case-35-means = refl

abbrev case-36 : DefTree
case-36 = of_actions
    (act "F" 0 [] (connector (obj ((codes "body", nat 1) ∷ (codes "method", txt "GET") ∷ (codes "uri", txt "u") ∷ [])) Policy.Never)
    ∷ act "H" 1 [] (foreach (many (nat 1 ∷ txt "a" ∷ [])) 1 (action_trees (act "W" 2 [] (until (holds (whole (apply "equals" (num 0 ∷
    ask "iterationIndexes" (say "W") ∷ [])))) 1 false (action_trees [])) ∷ [])))
    ∷ [])

case-36-means :
    meaning case-36 (asked (boolean true) (value 0) (words "t") (replied "F" [] 1 (Outcome.Code 200) (fields []) (fields ((
      codes "x",
      value 1,
    ) ∷ [])) ∷ replied "F" [] 2 (Outcome.Code 200) (fields []) (values (value 1 ∷ value 2 ∷ [])) ∷ [])) ≡
    leaves (boolean true) (value 0) (words "t") RunStatus.Succeeded null null (fields [])
    (called (Try.Code 200 ∷ []) (left "F" [] Status.Succeeded (decimal 200) (fields ((codes "body", value 1) ∷ (
      codes "method",
      words
          "GET",
    ) ∷ (codes "uri", words "u") ∷ [])) (fields ((codes "body", fields ((codes "x", value 1) ∷ [])) ∷ (codes "headers", fields [])
    ∷ (codes "statusCode", value 200) ∷ [])) null)
    ∷ ran "H" [] (values (value 1 ∷ words "a" ∷ [])) null
    ∷ ran "W" (0 ∷ []) null (fields ((codes "iterations", value 1) ∷ []))
    ∷ ran "W" (1 ∷ []) null (fields ((codes "iterations", value 1) ∷ []))
    ∷ [])
unfolding meaning
case-36-means = refl

abbrev case-37 : DefTree
case-37 = of_actions
    (act "N" 1 (after 2 true false true true ∷ []) (branch (all_of (cond_trees (holds (whole (ask "not" (apply "equals" (alone
    "triggerBody" ∷ num 3 ∷ [])))) ∷ compare_by Fun.Equals (of (ask "body" (say "P"))) (nat 1) ∷ []))) (action_trees (act "A" 0 []
    (compose (of (ask "body" (say "P")))) ∷ [])) (action_trees []))
    ∷ act "P" 2 [] (query (many (nat 1 ∷ nat 2 ∷ nat 3 ∷ [])) (whole (apply "greater" (alone "item" ∷ num 1 ∷ []))))
    ∷ [])

case-37-means :
    meaning case-37 (asked null (value 1) (words "t") []) ≡
    leaves null (value 1) (words "t") RunStatus.Succeeded null null (fields [])
    (unrun "A" []
    ∷ ran "N" [] (boolean false) null
    ∷ ran "P" [] (fields ((codes "from", values (value 1 ∷ value 2 ∷ value 3 ∷ [])) ∷ [])) (fields ((
      codes "body",
      values (value 2 ∷
          value 3 ∷ []),
    ) ∷ []))
    ∷ [])
unfolding meaning
case-37-means = refl

abbrev case-38 : DefTree
case-38 = of_actions
    (tracking ((codes "t", of (alone "triggerBody")) ∷ []) (act "D" 0 [] (initialize (initial "va" Sort.Int None ∷ [])))
    ∷ act "Z" 2 (after 0 true false false false ∷ []) (branch (all_of (cond_trees (holds (whole (apply "equals" (num 1 ∷ num 1 ∷ []))) ∷
    compare_by Fun.Equals (of (ask "parameters" (say "p"))) (nat 1) ∷ []))) (action_trees (act "M" 1 [] (select (many (nat 1 ∷ nat 2 ∷
    [])) (data_of.null)) ∷ [])) (action_trees []))
    ∷ [])

case-38-means :
    meaning case-38 (asked (fields ((codes "x", value 1) ∷ [])) (value 1) (words "t") []) ≡
    leaves (fields ((codes "x", value 1) ∷ [])) (value 1) (words "t") RunStatus.Succeeded null null (fields [])
    (tracked_as (fields ((codes "t", fields ((codes "x", value 1) ∷ [])) ∷ [])) (ran "D" [] (fields ((
      codes "variables",
      values (fields
          ((codes "name", words "va") ∷ (codes "type", words "integer") ∷ (codes "value", value 0) ∷ []) ∷ []),
    ) ∷ [])) (fields ((
      codes "body",
      fields ((codes "name", words "va") ∷ (codes "value", value 0) ∷ []),
    ) ∷ [])))
    ∷ ran "M" [] (fields ((codes "from", values (value 1 ∷ value 2 ∷ [])) ∷ [])) (fields ((codes "body", values (null ∷ null ∷ [])) ∷
    []))
    ∷ ran "Z" [] (boolean true) null
    ∷ [])
unfolding meaning
case-38-means = refl

abbrev case-39 : DefTree
case-39 = of_actions
    (act "B" 0 [] (initialize (initial "va" Sort.List (Some (many (nat 1 ∷ []))) ∷ []))
    ∷ act "H" 1 (after 2 true false true true ∷ []) (append_array (codes "va") (obj ((
      codes "k",
      of (index (ask "actions" (say "B"))
          (say "status") true),
    ) ∷ [])))
    ∷ act "R" 2 (after 0 true false false false ∷ []) (until (holds (whole (apply "equals" (ask "iterationIndexes" (say "R") ∷ num 1 ∷
    [])))) 2 true (action_trees (act "Y" 3 (after 4 true false false false ∷ []) (compose (of (ask "parameters" (say "p")))) ∷ act "Z" 4
    [] (compose (of (ask "parameters" (say "p")))) ∷ [])))
    ∷ [])

case-39-means :
    meaning case-39 (asked (value 2) (fields ((codes "x", value 1) ∷ [])) (words "a") []) ≡
    leaves (value 2) (fields ((codes "x", value 1) ∷ [])) (words "a") RunStatus.Succeeded null null (fields [])
    (ran "B" [] (fields ((
      codes "variables",
      values (fields ((codes "name", words "va") ∷ (codes "type", words "array") ∷ (
        codes
            "value",
        values (value 1 ∷ []),
      ) ∷ []) ∷ []),
    ) ∷ [])) (fields ((
      codes "body",
      fields ((codes "name", words "va") ∷ (
        codes "value",
        values (value 1 ∷ []),
      ) ∷ []),
    ) ∷ []))
    ∷ ran "H" [] (fields ((codes "name", words "va") ∷ (codes "value", fields ((codes "k", words "Succeeded") ∷ [])) ∷ [])) (fields
    ((
      codes "body",
      fields ((codes "name", words "va") ∷ (
        codes "value",
        values (value 1 ∷ fields ((codes "k", words "Succeeded") ∷ [])
            ∷ []),
      ) ∷ []),
    ) ∷ []))
    ∷ ran "R" [] null (fields ((codes "iterations", value 2) ∷ []))
    ∷ ran "Y" (0 ∷ []) (fields ((codes "x", value 1) ∷ [])) (fields ((codes "x", value 1) ∷ []))
    ∷ ran "Y" (1 ∷ []) (fields ((codes "x", value 1) ∷ [])) (fields ((codes "x", value 1) ∷ []))
    ∷ ran "Z" (0 ∷ []) (fields ((codes "x", value 1) ∷ [])) (fields ((codes "x", value 1) ∷ []))
    ∷ ran "Z" (1 ∷ []) (fields ((codes "x", value 1) ∷ [])) (fields ((codes "x", value 1) ∷ []))
    ∷ [])
unfolding meaning
case-39-means = refl
