-- Words are only ever drawn, and a fault is handed on.
use Rattle.std.proofs.Common.{ℕ, suc, ◌+◌, ◌-◌, ◌^◌, ◌≤◌, arith, Bool, true, false, List, [], ◌∷◌, ◌++◌, Option, Some, None, Result, Ok}
use Rattle.std.proofs.Common.{Err, refl, le_refl, le_trans}
use Rattle.wf_val.specs.ValueTree.{ValueTree, boolean}
use Rattle.std.specs.Prelude.{nat_lt, if◌then◌else◌}
use Rattle.wf_val.specs.Arguments.{Answer, given}
use Rattle.wf_val.specs.Function.{function_of}
use Rattle.wf_val.specs.declared.function.Fun.{Fun}
use Rattle.wf_val.specs.declared.fault.EvalFault.{EvalFault}
use Rattle.wf_template.specs.ExprTree.{ExprTree, ExprTrees, literal, call, member, index, no_exprs, expr_then}
use Rattle.wf_look.specs.Draw.{Draw}
use Rattle.wf_eval_expr.specs.declared.way.Way.{Way}
use Rattle.wf_look.specs.Draws.{draw_of}
use Rattle.wf_look.specs.Told.{Told, raised}
use Rattle.wf_eval_expr.specs.Ways.{way_of}
use Rattle.wf_look.specs.Accesses.{index_row}
use Rattle.wf_look.specs.Meets.{MeetsFault}
use Rattle.wf_look.specs.Outcomes.{Outcome, Run, go_on, then_run, turned, all_after}
use Rattle.wf_look.specs.Early.{stop}
use Rattle.wf_look.specs.Drawn.{drawn}
use Rattle.wf_eval_expr.specs.Value.{chosen, if_run, or_go_on, early, drawn_run, called, called_by, value, runs}

abbrev pub IsGrowing : Run → Type 0
IsGrowing r = (n : ℕ) → n ≤ (r n).1

abbrev pub AreGrowing : List Run → Type 0
AreGrowing [] = Unit {0}
AreGrowing (r ∷ rs) = IsGrowing r × AreGrowing rs

pub go_on-grows : {Y : Type 0} (a : Answer) (n : ℕ) (next : ValueTree → ℕ → Result Y EvalFault × ℕ) →
    ((t : ValueTree) (m : ℕ) → m ≤ (next t m).1) → n ≤ (go_on a n next).1
go_on-grows (Ok t) n next grows = grows t n
go_on-grows (Err f) n next grows = le_refl n

pub then_run-grows : {Y : Type 0} (n : ℕ) (o : Outcome) (next : ValueTree → ℕ → Result Y EvalFault × ℕ) → n ≤ o.1 →
    ((t : ValueTree) (m : ℕ) → m ≤ (next t m).1) → n ≤ (then_run o next).1
then_run-grows n o next le grows = le_trans le (go_on-grows o.0 o.1 next grows)

pub all_after-grows : (rs : List Run) → AreGrowing rs → (done : List ValueTree) (n : ℕ) → n ≤ (all_after rs done n).1
all_after-grows [] grow done n = le_refl n
all_after-grows (r ∷ rs) grow done n = then_run-grows n (r n) (λ t m. all_after rs (done ++ t ∷ []) m) (grow.0 n)
    (λ t m. all_after-grows rs grow.1 (done ++ t ∷ []) m)

pub chosen-grows : (first second : Run) → IsGrowing first → IsGrowing second → (t : ValueTree) (n : ℕ) → n ≤ (chosen first second t n).1
chosen-grows first second one two (boolean true) n = one n
chosen-grows first second one two (boolean false) n = two n
chosen-grows first second one two t n = le_refl n

pub if_run-grows : (rs : List Run) → AreGrowing rs → IsGrowing (if_run rs)
if_run-grows [] grow n = le_refl n
if_run-grows (r ∷ []) grow n = le_refl n
if_run-grows (r ∷ s ∷ []) grow n = le_refl n
if_run-grows (r ∷ first ∷ second ∷ rs) grow n =
    then_run-grows n (r n) (chosen first second) (grow.0 n) (chosen-grows first second grow.1.0 grow.1.1.0)

pub or_go_on-grows : (a : Option Answer) (rest : Run) → IsGrowing rest → IsGrowing (or_go_on a rest)
or_go_on-grows (Some a) rest grows n = le_refl n
or_go_on-grows None rest grows n = grows n

pub early-grows : (f : Fun) (rs : List Run) → AreGrowing rs → (i : ℕ) → IsGrowing (early f rs i)
early-grows f [] grow i n = le_refl n
early-grows f (r ∷ rs) grow i n =
    then_run-grows n (r n) (λ t m. or_go_on (stop f i t) (λ k. early f rs (suc i) k) m) (grow.0 n)
    (λ t m. or_go_on-grows (stop f i t) (λ k. early f rs (suc i) k) (early-grows f rs grow.1 (suc i)) m)

pub raised-grows : (n : ℕ) → n ≤ raised n
raised-grows n = go (nat_lt n (2 ^ 64 - 1))
  where
    go : (b : Bool) → n ≤ (if b then n + 1 else n)
    go true = omega arith
    go false = le_refl n

pub drawn-grows : (l : Told) (d : Result Draw EvalFault) → IsGrowing (drawn l d)
drawn-grows l (Ok d) n = raised-grows n
drawn-grows l (Err f) n = le_refl n

pub drawn_run-grows : (l : Told) (f : Fun) (rs : List Run) → AreGrowing rs → IsGrowing (drawn_run l f rs)
drawn_run-grows l f rs grow n =
    let all = all_after rs [] n in
    le_trans (all_after-grows rs grow [] n) (drawn-grows l (given all.0 (draw_of f)) all.1)

pub called-grows : (l : Told) (f : Fun) (es : ExprTrees) (rs : List Run) → AreGrowing rs → (w : Way) → IsGrowing (called l f es rs w)
called-grows l f es rs grow Way.Chosen n = if_run-grows rs grow n
called-grows l f es rs grow Way.Early n = early-grows f rs grow 0 n
called-grows l f es rs grow Way.Joined n = all_after-grows rs grow [] n
called-grows l f es rs grow Way.Collected n = all_after-grows rs grow [] n
called-grows l f es rs grow Way.Paired n = all_after-grows rs grow [] n
called-grows l f es rs grow Way.United n = all_after-grows rs grow [] n
called-grows l f es rs grow Way.Named n = le_refl n
called-grows l f es rs grow Way.Told n = le_refl n
called-grows l f es rs grow Way.Timed n = all_after-grows rs grow [] n
called-grows l f es rs grow Way.Drawn n = drawn_run-grows l f rs grow n
called-grows l f es rs grow Way.Strict n = all_after-grows rs grow [] n

pub called_by-grows : (l : Told) (name : List ℕ) (es : ExprTrees) (rs : List Run) → AreGrowing rs → (f : Option Fun) →
    IsGrowing (called_by l name es rs f)
called_by-grows l name es rs grow (Some f) n = called-grows l f es rs grow (way_of f) n
called_by-grows l name es rs grow None n = all_after-grows rs grow [] n

mutual
  pub value-grows : (l : Told) (e : ExprTree) → IsGrowing (value l e)
  value-grows l (literal t) n = le_refl n
  value-grows l (call name es) n = called_by-grows l name es (runs l es) (runs-grow l es) (function_of name) n
  value-grows l (member e k soft) n = value-grows l e n
  value-grows l (index e k soft) n = then_run-grows n (value l e n) (λ t m. turned (index_row soft t) (value l k m)) (value-grows l e n)
      (λ t m. value-grows l k m)

  pub runs-grow : (l : Told) (es : ExprTrees) → AreGrowing (runs l es)
  runs-grow l no_exprs = tt
  runs-grow l (expr_then e es) = (value-grows l e, runs-grow l es)

-- a fault, and want of memory, is that of all that was to follow
pub handed : {Y : Type 0} (o : Outcome) (next : ValueTree → ℕ → Result Y EvalFault × ℕ) → ((t : ValueTree) (m : ℕ) → m ≤ (next t m).1) →
    (f : EvalFault) (n : ℕ) → MeetsFault f o n → MeetsFault f (then_run o next) n
handed o next grows f n met = record {
  fault = λ not. rw (met.fault not) refl;
  words = λ not. rw (met.fault not) (met.words not);
  memory = λ yes. le_trans (met.memory yes) (go_on-grows o.0 o.1 next grows);
}

pub turned_fault : {X : Type 0} (row : X → Answer) (o : Result X EvalFault × ℕ) (f : EvalFault) (n : ℕ) → MeetsFault f o n →
    MeetsFault f (turned row o) n
turned_fault row o f n met = record {
  fault = λ not. rw (met.fault not) refl;
  words = λ not. met.words not;
  memory = λ yes. met.memory yes;
}

pub handed_all : (l : Told) (e : ExprTree) (es : ExprTrees) (done : List ValueTree) (n : ℕ) (f : EvalFault) (k : ℕ) →
    MeetsFault f (value l e n) k → MeetsFault f (all_after (runs l (expr_then e es)) done n) k
handed_all l e es done n f k met = handed (value l e n) (λ t m. all_after (runs l es) (done ++ t ∷ []) m)
    (λ t m. all_after-grows (runs l es) (runs-grow l es) (done ++ t ∷ []) m) f k met

pub handed_early : (g : Fun) (l : Told) (e : ExprTree) (es : ExprTrees) (i n : ℕ) (f : EvalFault) (k : ℕ) →
    MeetsFault f (value l e n) k → MeetsFault f (early g (runs l (expr_then e es)) i n) k
handed_early g l e es i n f k met =
    handed (value l e n) (λ t m. or_go_on (stop g i t) (λ q. early g (runs l es) (suc i) q) m)
    (λ t m. or_go_on-grows (stop g i t) (λ q. early g (runs l es) (suc i) q) (early-grows g (runs l es) (runs-grow l es) (suc i)) m) f k met

pub handed_if : (l : Told) (e first second : ExprTree) (es : ExprTrees) (n : ℕ) (f : EvalFault) (k : ℕ) → MeetsFault f (value l e n) k →
    MeetsFault f (if_run (runs l (expr_then e (expr_then first (expr_then second es)))) n) k
handed_if l e first second es n f k met =
    handed (value l e n) (chosen (value l first) (value l second))
    (chosen-grows (value l first) (value l second) (value-grows l first) (value-grows l second)) f k met

-- a fault among the arguments of what draws a word
pub handed_draw : (l : Told) (g : Fun) (rs : List Run) (n : ℕ) (f : EvalFault) (k : ℕ) → MeetsFault f (all_after rs [] n) k →
    MeetsFault f (drawn_run l g rs n) k
handed_draw l g rs n f k met = record {
  fault = λ not. rw (met.fault not) refl;
  words = λ not. rw (met.fault not) (met.words not);
  memory = λ yes. le_trans (met.memory yes)
      (drawn-grows l (given (all_after rs [] n).0 (draw_of g)) (all_after rs [] n).1);
}
