-- Worked lines of each kind of event, each by computing. They are those that an independent model of the engine writes.
use Rattle.std.proofs.Common.{◌≡◌, ℕ, true, false, cond, List, [], ◌∷◌, None, Some, codes, nat_eq, refl}
use Rattle.std.specs.Fmt.{digits}
use Rattle.std.specs.Prelude.{pos}
use Rattle.wf_val.specs.ValueTree.{ValueTree, null, number, text, list, object, trees, members, no_members}
use Rattle.wf_val.specs.declared.fault.EvalFault.{EvalFault}
use Rattle.wf_val.specs.declared.function.Fun.{Fun}
use Rattle.wf_template.specs.CondTree.{holds}
use Rattle.wf_template.specs.DataTree as plain_data
use Rattle.wf_template.specs.TemplateTree.{plain}
use Rattle.wf_retry.specs.declared.policy.Policy.{Policy}
use Rattle.wf_layers.specs.Address.{Table}
use Rattle.wf_layers.specs.Definition as layers
use Rattle.wf_layers.specs.Machine.{Start, Try, End, Skip, Open, Begin, Test, Close}
use Rattle.wf_layers.specs.Source.{Source}
use Rattle.wf_def.specs.ActionTree.{ActionTree, action, KindTree, compose, connector, parse_json, scope, branch, switch, switch_else}
use Rattle.wf_def.specs.ActionTree.{foreach, until, ActionTrees, no_actions, action_then, CaseTrees, no_cases, case_then}
use Rattle.wf_def.specs.DefTree.{DefTree}
use Rattle.wf_record.specs.Record.{Row}
use Rattle.wf_record.specs.declared.attempt.Try as attempt
use Rattle.wf_record.specs.declared.status.Status.{Status}
use Rattle.wf_done.specs.Done.{DoneTree, faulted, mismatched}
use Rattle.wf_done.specs.Leaf.{BegunTree, acted, calling}
use Rattle.wf_opening.specs.Decisions.{DecisionTree, nothing, held, chosen, each, too_many, faulty}
use Rattle.wf_opening.specs.Verdicts.{VerdictTree, met, astray, ends}
use Rattle.wf_trace.specs.Texts.{case_text, open_text, start_text, try_text, verdict_text}
use Rattle.wf_trace.specs.Told.{told}

abbrev one : List ℕ → ℕ → KindTree → ActionTree
one name n kind = action name n [] [] kind []

abbrev cases : CaseTrees
cases =
    case_then (codes "one \"x\"") (text (codes "a")) no_actions (case_then (codes "two") (text (codes "b")) no_actions no_cases)

abbrev call : KindTree
call = connector plain_data.null Policy.Never

-- A is a Scope with B in it, C an If, F a Switch, L a Foreach with M in it, N an Until with O in it, P a Switch without a default
abbrev top : ActionTrees
top =
    action_then (one (codes "A") 0 (scope (action_then (one (codes "B") 1 (compose plain_data.null)) no_actions)))
    (action_then (one (codes "C") 2 (branch (holds (plain [])) no_actions no_actions))
    (action_then (one (codes "F") 3 (switch_else (plain []) cases no_actions))
    (action_then (one (codes "L") 4 (foreach plain_data.null 2 (action_then (one (codes "M") 5 (compose plain_data.null)) no_actions)))
    (action_then (one (codes "N") 6 (until (holds (plain [])) 3 false (action_then (one (codes "O") 7 call) no_actions)))
    (action_then (one (codes "P") 8 (switch (plain []) cases))
    (action_then (one (codes "R") 9 (parse_json plain_data.null None)) no_actions))))))

abbrev d : DefTree
d = record { digest = []; parameters = []; given = []; triggers = []; top = top; outputs = [] }

abbrev range : EvalFault
range = EvalFault.Range Fun.Div

abbrev made : ValueTree → DoneTree
made v = record { status = Status.Succeeded; code = codes "OK"; inputs = v; outputs = v; error = null }

abbrev request : ValueTree
request = object (members ((codes "method", text (codes "GET")) ∷ (codes "uri", text (codes "https://x.y")) ∷ []))

abbrev row : Status → ValueTree → List attempt.Try → Row
row status outputs attempts = record {
  status = status;
  code = [];
  inputs = null;
  outputs = outputs;
  error = null;
  tracked = object no_members;
  attempts = attempts;
}

abbrev quoted : ValueTree
quoted = object (members ((codes "x", list (trees (number (pos 1) ∷ text (codes "a\"b") ∷ []))) ∷ []))

abbrev three : List attempt.Try
three = attempt.Try.Code 500 ∷ attempt.Try.NoConnection ∷ attempt.Try.TimedOut ∷ []

-- the rows that are meant
abbrev f : Table Row
f x =
    cond (nat_eq x.name 1) (Some (row Status.Failed null []))
    (cond (nat_eq x.name 5) (Some (row Status.Succeeded quoted []))
    (cond (nat_eq x.name 6) (Some (row Status.TimedOut null []))
    (cond (nat_eq x.name 7) (Some (row Status.TimedOut null three)) None)))

-- what is decided where the Foreach has three items, and the Switch means its second case
abbrev decisions : ℕ → DecisionTree
decisions n =
    cond (nat_eq n 2) (held true)
    (cond (nat_eq n 3) (chosen (text (codes "b")) 2)
    (cond (nat_eq n 4) (each (null ∷ null ∷ null ∷ [])) (cond (nat_eq n 8) (chosen (text (codes "zz")) 3) nothing)))

abbrev starts : ℕ → BegunTree
starts n =
    cond (nat_eq n 1) (acted (faulted range))
    (cond (nat_eq n 7) (calling request Policy.Never)
    (cond (nat_eq n 9) (acted (mismatched (object (members ((codes "content", null) ∷ []))) (codes "/a"))) (acted (made quoted))))

abbrev m : Source Row BegunTree DecisionTree VerdictTree
m = record {
  status = λ r. layers.Succeeded;
  skipped = row Status.Skipped null [];
  start = λ x t. starts x.name;
  tries = λ x b. 3;
  finish = λ x b t. row Status.Succeeded null [];
  decide = λ x t. decisions x.name;
  taken = λ q. 0;
  items = λ q. 3;
  test = λ x j t. cond (nat_eq j 0) (met false) (cond (nat_eq j 1) (met true) (astray range));
  ends = ends;
  close = λ x q c v t. row Status.Succeeded null [];
  halts = λ x t. false;
  pinned = λ n. false;
  old = λ x. None;
  reclosed = λ n. false;
}

-- ---- whole lines, behind their numbers

leaves : told d m f (Start 1 []) 0 ∷ told d m f (End 1 []) 0 ∷ told d m f (Skip 1 []) 0 ∷ told d m f (Start 5 (12 ∷ [])) 0
    ∷ told d m f (End 5 (12 ∷ [])) 0 ∷ told d m f (Start 9 []) 0 ∷ []
    ≡ codes "Start B !Range div" ∷ codes "End B Failed null" ∷ codes "Skip B" ∷ codes "Start M/12 {\"x\":[1,\"a\\\"b\"]}"
    ∷ codes "End M/12 Succeeded {\"x\":[1,\"a\\\"b\"]}" ∷ codes "Start R {\"content\":null}" ∷ []
unfolding digits
leaves = refl

connectors : told d m f (Start 7 (0 ∷ [])) 0 ∷ told d m f (Try 7 (0 ∷ [])) 1 ∷ told d m f (Try 7 (0 ∷ [])) 2 ∷ told d m f (Try 7 (0 ∷ [])) 3
    ∷ told d m f (End 7 (0 ∷ [])) 0 ∷ []
    ≡ codes "Start O/0 {\"method\":\"GET\",\"uri\":\"https://x.y\"}" ∷ codes "Try O/0 1 500" ∷ codes "Try O/0 2 noConnection"
    ∷ codes "Try O/0 3 timedOut" ∷ codes "End O/0 TimedOut null" ∷ []
unfolding digits
connectors = refl

containers : told d m f (Open 0 []) 0 ∷ told d m f (Open 2 []) 0 ∷ told d m f (Open 3 []) 0 ∷ told d m f (Open 4 []) 0
    ∷ told d m f (Open 6 []) 0 ∷ told d m f (Open 8 []) 0 ∷ []
    ≡ codes "Open A" ∷ codes "Open C true" ∷ codes "Open F \"two\"" ∷ codes "Open L 3" ∷ codes "Open N" ∷ codes "Open P default" ∷ []
unfolding digits
containers = refl

loops : told d m f (Begin 4 []) 0 ∷ told d m f (Begin 4 []) 2 ∷ told d m f (Begin 4 (3 ∷ 1 ∷ [])) 10 ∷ told d m f (Test 6 []) 0
    ∷ told d m f (Test 6 []) 1 ∷ told d m f (Test 6 []) 2 ∷ told d m f (Close 6 []) 0 ∷ []
    ≡ codes "Begin L 0" ∷ codes "Begin L 2" ∷ codes "Begin L/3/1 10" ∷ codes "Test N 0 false" ∷ codes "Test N 1 true"
    ∷ codes "Test N 2 !Range div" ∷ codes "Close N TimedOut" ∷ []
unfolding digits
loops = refl

-- no action has the number, and the row or the attempt isn't there
nothing_told : told d m f (Skip 10 []) 0 ∷ told d m f (Close 0 []) 0 ∷ told d m f (Try 7 []) 4 ∷ []
    ≡ [] ∷ codes "Close A" ∷ codes "Try O" ∷ []
nothing_told = refl

-- ---- what is decided

of_cases : case_text cases 0 ∷ case_text cases 1 ∷ case_text cases 2 ∷ case_text cases 3 ∷ case_text no_cases 1 ∷ []
    ≡ codes "default" ∷ codes "\"one \\\"x\\\"\"" ∷ codes "\"two\"" ∷ codes "default" ∷ codes "default" ∷ []
of_cases = refl

of_decisions : open_text (compose plain_data.null) (held false) ∷ open_text (compose plain_data.null) too_many
    ∷ open_text (compose plain_data.null) (faulty (EvalFault.WrongType Fun.Switch 1)) ∷ open_text (compose plain_data.null) (each [])
    ∷ open_text (compose plain_data.null) nothing ∷ []
    ≡ codes " false" ∷ codes " !LimitExceeded" ∷ codes " !WrongType switch 1" ∷ codes " 0" ∷ [] ∷ []
unfolding digits
of_decisions = refl

of_verdicts : verdict_text (met true) ∷ verdict_text (met false) ∷ verdict_text (astray range) ∷ []
    ≡ codes "true" ∷ codes "false" ∷ codes "!Range div" ∷ []
of_verdicts = refl

of_tries : try_text (attempt.Try.Code 404) ∷ try_text attempt.Try.NoConnection ∷ try_text attempt.Try.TimedOut
    ∷ try_text attempt.Try.NoAnswer ∷ try_text attempt.Try.Unknown ∷ []
    ≡ codes "404" ∷ codes "noConnection" ∷ codes "timedOut" ∷ codes "noAnswer" ∷ codes "unknown" ∷ []
unfolding digits
of_tries = refl

of_starts : start_text (acted (made null)) ∷ start_text (acted (faulted (EvalFault.NoMember (codes "x")))) ∷ start_text
    (calling (number (pos 7)) Policy.Never) ∷ []
    ≡ codes "null" ∷ codes "!NoMember \"x\"" ∷ codes "7" ∷ []
unfolding digits
of_starts = refl
