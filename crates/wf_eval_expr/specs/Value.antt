-- THE VALUE OF AN EXPRESSION in a look (Workflow Definition Language, "Expressions"): its value, or the first fault from left to
-- right, and the number of words drawn. Each value fits, or is `TooBig`.
use Rattle.std.specs.Prelude.{ℕ, suc, Bool, true, false, List, [], ◌∷◌, length, Option, Some, None, Ok, Err}
use Rattle.wf_val.specs.Arguments.{Answer, given, wrong_type, bounded}
use Rattle.wf_val.specs.Function.{function_of}
use Rattle.wf_val.specs.ValueTree.{ValueTree, boolean}
use Rattle.wf_val.specs.declared.fault.EvalFault.{EvalFault}
use Rattle.wf_val.specs.declared.function.Fun.{Fun}
use Rattle.wf_template.specs.ExprTree.{ExprTree, ExprTrees, literal, call, member, index, no_exprs, expr_then}
use Rattle.wf_eval_expr.specs.declared.way.Way.{Way}
use Rattle.wf_look.specs.Accesses.{member_row, index_row}
use Rattle.wf_look.specs.Draws.{draw_of}
use Rattle.wf_look.specs.Args.{literal_name}
use Rattle.wf_look.specs.Drawn.{drawn}
use Rattle.wf_look.specs.Early.{stop, at_end}
use Rattle.wf_look.specs.Looked.{named_by, told_row}
use Rattle.wf_look.specs.Outcomes.{Run, then_run, turned, all_after, strictly}
use Rattle.wf_look.specs.Rows.{fitted, strict_row, joined_row}
use Rattle.wf_look.specs.Timed.{timed_row}
use Rattle.wf_look.specs.Told.{Told}
use Rattle.wf_eval_expr.specs.Ways.{way_of}

-- ---- functions that leave an argument without a value

-- the truth that a value is; none where it is no Boolean
abbrev pub truth_in : ValueTree → Option Bool
truth_in (boolean b) = Some b
truth_in t = None

-- only the chosen arm
abbrev pub arm : Run → Run → Option Bool → Run
arm first second (Some true) n = first n
arm first second (Some false) n = second n
arm first second None n = (Err (wrong_type Fun.If 0), n)

abbrev pub chosen : Run → Run → ValueTree → Run
chosen first second t = arm first second (truth_in t)

abbrev pub if_run : List Run → Run
if_run (test ∷ first ∷ second ∷ rs) n = then_run (test n) (chosen first second)
if_run rs n = (Err (wrong_type Fun.If (length rs)), n)

-- where it doesn't stop, the rest follows
abbrev pub or_go_on : Option Answer → Run → Run
or_go_on (Some a) rest n = (a, n)
or_go_on None rest n = rest n

-- a function that stops early, from the argument of that place on
abbrev pub early : Fun → List Run → ℕ → Run
early f [] i n = (Ok (at_end f), n)
early f (r ∷ rs) i n = then_run (r n) (λ t m. or_go_on (stop f i t) (λ k. early f rs (suc i) k) m)

-- ---- functions that draw a word

-- the arguments come first, and so do the words that they draw
abbrev pub drawn_run : Told → Fun → List Run → Run
drawn_run l f rs n = let all = all_after rs [] n in drawn l (given all.0 (draw_of f)) all.1

-- ---- calls

-- a call of a function, by the way in which it comes to its value; what an arm gives fits already
abbrev pub called : Told → Fun → ExprTrees → List Run → Way → Run
called l f es rs Way.Chosen n = if_run rs n
called l f es rs Way.Early n = early f rs 0 n
called l f es rs Way.Joined n = strictly joined_row rs n
called l f es rs Way.Collected n = strictly (λ ts. fitted (strict_row Fun.CreateArray ts)) rs n
called l f es rs Way.Paired n = strictly (λ ts. fitted (strict_row f ts)) rs n
called l f es rs Way.United n = strictly (λ ts. fitted (strict_row Fun.Union ts)) rs n
called l f es rs Way.Named n = (fitted (named_by l f (literal_name es)), n)
called l f es rs Way.Told n = (fitted (told_row l f), n)
called l f es rs Way.Timed n = strictly (λ ts. fitted (timed_row f l.moment ts)) rs n
called l f es rs Way.Drawn n = drawn_run l f rs n
called l f es rs Way.Strict n = strictly (λ ts. fitted (strict_row f ts)) rs n

-- a call by name, which is without letter case; of no function the arguments still come first
abbrev pub called_by : Told → List ℕ → ExprTrees → List Run → Option Fun → Run
called_by l name es rs (Some f) n = called l f es rs (way_of f) n
called_by l name es rs None n = strictly (λ ts. Err (EvalFault.NoValue name)) rs n

-- ---- expressions

abbrev mutual
  pub value : Told → ExprTree → Run
  value l (literal t) n = (bounded t, n)
  value l (call name es) n = called_by l name es (runs l es) (function_of name) n
  value l (member b k soft) n = turned (member_row k soft) (value l b n)
  value l (index b k soft) n = then_run (value l b n) (λ t m. turned (index_row soft t) (value l k m))

  pub runs : Told → ExprTrees → List Run
  runs l no_exprs = []
  runs l (expr_then e es) = value l e ∷ runs l es
