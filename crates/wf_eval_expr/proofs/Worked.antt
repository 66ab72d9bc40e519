-- Values of accesses and literals, where a reader can work them out: each fault with its function and place, and each edge; and where
-- two looks have to tell alike.
use Rattle.std.proofs.Common.{◌≡◌, ℕ, List, refl, Ok, Err, true, false}
use Rattle.std.specs.Prelude.{pos, negsuc, codes}
use Rattle.wf_val.specs.ValueTree.{ValueTree, null, number}
use Rattle.wf_val.specs.declared.fault.EvalFault.{EvalFault}
use Rattle.wf_val.specs.declared.function.Fun.{Fun}
use Rattle.wf_template.specs.ExprTree.{literal, member, index}
use Rattle.wf_look.proofs.WorkedLook.{nested}
use Rattle.wf_look.specs.Told.{Told, over}
use Rattle.wf_eval_expr.specs.Uses.{Agree, names, asks, asks_moment, asks_words}
use Rattle.wf_eval_expr.proofs.WorkedExpressions.{int, word, nothing, two_items, five, by_zero, rest_by_zero, here}

-- ---- accesses: hard and by `?`, by names and by places, from left to right

member-there : here (member five (codes "a") false) ≡ (Ok (number (pos 5)), 7)
member-there = refl

member-absent_soft : here (member five (codes "A") true) ≡ (Ok null, 7)
member-absent_soft = refl

member-of_fault : here (member by_zero (codes "x") true) ≡ (Err (EvalFault.Range Fun.Div), 7)
member-of_fault = refl

index-name : here (index five (word (codes "a")) false) ≡ (Ok (number (pos 5)), 7)
index-name = refl

index-below_soft : here (index two_items (literal (number (negsuc 0))) true) ≡ (Ok null, 7)
index-below_soft = refl

index-of_text_soft : here (index (word (codes "abc")) (int 0) true) ≡ (Ok null, 7)
index-of_text_soft = refl

index-base_first : here (index by_zero (rest_by_zero) true) ≡ (Err (EvalFault.Range Fun.Div), 7)
index-base_first = refl

index-key_next : here (index nothing (rest_by_zero) true) ≡ (Err (EvalFault.Range Fun.Mod), 7)
index-key_next = refl

-- ---- a literal has to fit

literal-deep : here (literal (nested 64)) ≡ (Ok (nested 64), 7)
literal-deep = refl

literal-too_deep : here (literal (nested 65)) ≡ (Err (EvalFault.TooBig 65 66), 7)
literal-too_deep = refl

-- ---- what two looks have to tell alike: just what is asked for, whatever else they tell

agree-view : (l : Told) (k : List ℕ) → Agree l (record l { view = λ j. l.view k }) (names Fun.Actions k)
agree-view l k = refl

agree-outputs : (l : Told) (k : List ℕ) → Agree l (record l { view = λ j. l.view k }) (names Fun.Outputs k)
agree-outputs l k = refl

agree-body : (l : Told) (k : List ℕ) → Agree l (record l { view = λ j. l.view k }) (names Fun.Body k)
agree-body l k = refl

agree-result : (l : Told) (k : List ℕ) → Agree l (record l { result = λ j. l.result k }) (names Fun.Result k)
agree-result l k = refl

agree-item_of_a_loop : (l : Told) (k : List ℕ) → Agree l (record l { item_of = λ j. l.item_of k }) (names Fun.Items k)
agree-item_of_a_loop l k = refl

agree-index_of_a_loop : (l : Told) (k : List ℕ) → Agree l (record l { index_of = λ j. l.index_of k }) (names Fun.IterationIndexes k)
agree-index_of_a_loop l k = refl

agree-parameter : (l : Told) (k : List ℕ) → Agree l (record l { parameter = λ j. l.parameter k }) (names Fun.Parameters k)
agree-parameter l k = refl

agree-variable : (l : Told) (k : List ℕ) → Agree l (record l { variable = λ j. l.variable k }) (names Fun.Variables k)
agree-variable l k = refl

-- the nearest item alone
agree-item : (l m : Told) (t : ValueTree) → Agree (over t l) (over t m) (asks Fun.Item)
agree-item l m t = refl

agree-own : (l m : Told) → Agree l (record m { own = l.own }) (asks Fun.Action)
agree-own l m = refl

agree-trigger : (l m : Told) → Agree l (record m { trigger = l.trigger }) (asks Fun.Trigger)
agree-trigger l m = refl

agree-trigger_outputs : (l m : Told) → Agree l (record m { trigger = l.trigger }) (asks Fun.TriggerOutputs)
agree-trigger_outputs l m = refl

agree-trigger_body : (l m : Told) → Agree l (record m { trigger = l.trigger }) (asks Fun.TriggerBody)
agree-trigger_body l m = refl

agree-run_name : (l m : Told) → Agree l (record m { run_name = l.run_name }) (asks Fun.Workflow)
agree-run_name l m = refl

agree-moment : (l m : Told) → Agree l (record m { moment = l.moment }) asks_moment
agree-moment l m = refl

agree-words : (l m : Told) → Agree l (record m { seed = l.seed; place = l.place }) asks_words
agree-words l m = (refl, refl)
