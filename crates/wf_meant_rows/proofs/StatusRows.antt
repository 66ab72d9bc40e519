-- Worked values: how a graph ends, by the statuses of its actions, which are numbered from 0 on.
use Rattle.std.proofs.Common.{◌≡◌, refl}
use Rattle.std.specs.Prelude.{ℕ, suc, true, cond, List, [], ◌∷◌, ◌++◌, None, slice_get, option_map}
use Rattle.wf_val.specs.ValueTree.{null}
use Rattle.wf_val.specs.declared.fault.EvalFault.{EvalFault}
use Rattle.wf_val.specs.declared.function.Fun.{Fun}
use Rattle.wf_layers.specs.Address.{Table, same_at}
use Rattle.wf_def.specs.ActionTree.{ActionTree, action, compose}
use Rattle.wf_def.specs.DefTree.{DefTree}
use Rattle.wf_def.specs.declared.after.After.{After}
use Rattle.wf_record.specs.Record.{Row}
use Rattle.wf_record.specs.declared.status.RunStatus.{RunStatus}
use Rattle.wf_record.specs.declared.status.Status.{Status}
use Rattle.wf_record.specs.declared.status.Status.TheVariants.{Succeeded, Failed, Skipped, TimedOut, Cancelled}
use Rattle.wf_meant.specs.Record.{meaning}
use Rattle.wf_meant.specs.Rows.{row_of}
use Rattle.wf_meant.specs.Status.{graph_status}
use Rattle.wf_meant.proofs.Terms.{act, after, answered, apply, failure_of, fell, fields, nat, num, of, of_actions, ran, record_is}
use Rattle.wf_meant.proofs.Terms.{success_of, txt, unrun, words}

abbrev pub ended_as : Status → Row
ended_as status = row_of (record { status = status; code = []; inputs = null; outputs = null; error = null }) null []

-- the actions of these numbers ended so at these indexes
abbrev pub statuses_at : List ℕ → List Status → Table Row
statuses_at at' statuses x = cond (same_at at' x.at) (option_map ended_as (slice_get statuses x.name)) None

-- what an action waits for: one, whatever it came to
abbrev behind : ℕ → After
behind n = after n true true true true

-- actions from this number on that wait for these
abbrev waiting : ℕ → List (List After) → List ActionTree
waiting n [] = []
waiting n (needs ∷ rest) = action [] n [] needs (compose (nat 1)) [] ∷ waiting (suc n) rest

abbrev ends_as : List (List After) → List Status → Status
ends_as needs statuses = graph_status (waiting 0 needs) [] (statuses_at [] statuses)

-- an action that Failed is answered for by the one that waits for it and has run
answered-for : ends_as ([] ∷ (behind 0 ∷ []) ∷ []) (Failed ∷ Succeeded ∷ []) ≡ Succeeded
answered-for = refl

-- but not where another that waits for it was Skipped
answered-for-by-one : ends_as ([] ∷ (behind 0 ∷ []) ∷ (behind 0 ∷ []) ∷ []) (Failed ∷ Succeeded ∷ Skipped ∷ []) ≡ Failed
answered-for-by-one = refl

answered-for-by-other : ends_as ([] ∷ (behind 0 ∷ []) ∷ (behind 0 ∷ []) ∷ []) (Failed ∷ Skipped ∷ Succeeded ∷ []) ≡ Failed
answered-for-by-other = refl

-- one of those side by side is enough
first-side : ends_as ([] ∷ [] ∷ []) (TimedOut ∷ Succeeded ∷ []) ≡ Failed
first-side = refl

second-side : ends_as ([] ∷ [] ∷ []) (Succeeded ∷ Cancelled ∷ []) ≡ Failed
second-side = refl

-- a Skipped action hands the judgement on to all that it waits for
handed-to-first : ends_as ([] ∷ [] ∷ (behind 0 ∷ behind 1 ∷ []) ∷ []) (Failed ∷ Succeeded ∷ Skipped ∷ []) ≡ Failed
handed-to-first = refl

handed-to-second : ends_as ([] ∷ [] ∷ (behind 0 ∷ behind 1 ∷ []) ∷ []) (Succeeded ∷ TimedOut ∷ Skipped ∷ []) ≡ Failed
handed-to-second = refl

handed-to-neither : ends_as ([] ∷ [] ∷ (behind 0 ∷ behind 1 ∷ []) ∷ []) (Succeeded ∷ Succeeded ∷ Skipped ∷ []) ≡ Succeeded
handed-to-neither = refl

-- and through as many Skipped ones as there are
handed-far : ends_as ([] ∷ (behind 0 ∷ []) ∷ (behind 1 ∷ []) ∷ (behind 2 ∷ []) ∷ []) (Failed ∷ Skipped ∷ Skipped ∷ Skipped ∷ []) ≡ Failed
handed-far = refl

-- but not past one that ran
stopped-by-run : ends_as ([] ∷ (behind 0 ∷ []) ∷ (behind 1 ∷ []) ∷ []) (Failed ∷ Succeeded ∷ Skipped ∷ []) ≡ Succeeded
stopped-by-run = refl

-- the order of the numbers says nothing
handed-up : ends_as ((behind 1 ∷ []) ∷ (behind 2 ∷ []) ∷ [] ∷ []) (Skipped ∷ Skipped ∷ Failed ∷ []) ≡ Failed
handed-up = refl

-- one that is Skipped and waits for nothing hands it on to none
handed-to-none : ends_as ([] ∷ []) (Skipped ∷ []) ≡ Succeeded
handed-to-none = refl

-- what isn't of the graph isn't judged, also where one of the graph names it
not-of-it : ends_as ([] ∷ []) (Succeeded ∷ Failed ∷ []) ≡ Succeeded
not-of-it = refl

named-out-of-it : ends_as ((behind 2 ∷ []) ∷ [] ∷ []) (Skipped ∷ Succeeded ∷ Failed ∷ []) ≡ Succeeded
named-out-of-it = refl

-- one without a row fails nothing
without-row : ends_as ([] ∷ []) [] ≡ Succeeded
without-row = refl

-- each iteration has a status of its own
in-iteration : graph_status (waiting 0 ([] ∷ [])) (3 ∷ []) (statuses_at (3 ∷ []) (Failed ∷ [])) ≡ Failed
in-iteration = refl

in-other-iteration : graph_status (waiting 0 ([] ∷ [])) (2 ∷ []) (statuses_at (3 ∷ []) (Failed ∷ [])) ≡ Succeeded
in-other-iteration = refl

-- ---- a whole definition: T fails and H answers for it, and where L waits for its success, too, the run is Failed

abbrev answering : ℕ → List ActionTree → DefTree
answering n others = of_actions (
    act "H" 0 (failure_of n) (compose (txt "caught")) ∷ others
    ++ act "T" n [] (compose (of (apply "div" (num 1 ∷ num 0 ∷ [])))) ∷ [])

answered-run : meaning (answering 1 []) (answered []) ≡ record_is RunStatus.Succeeded null null (fields []) (
    ran "H" [] (words "caught") (words "caught") ∷ fell "T" [] (EvalFault.Range Fun.Div) ∷ [])
unfolding meaning
answered-run = refl

unanswered-run : meaning (answering 2 (act "L" 1 (success_of 2) (compose (nat 1)) ∷ [])) (answered []) ≡
    record_is RunStatus.Failed null null (fields []) (
    ran "H" [] (words "caught") (words "caught") ∷ unrun "L" [] ∷ fell "T" [] (EvalFault.Range Fun.Div) ∷ [])
unfolding meaning
unanswered-run = refl
