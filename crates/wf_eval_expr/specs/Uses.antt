-- WHAT AN EXPRESSION ASKS A LOOK FOR, and when two looks tell the same there.
use Rattle.std.specs.Prelude.{ℕ, ◌≡◌, List, [], ◌∷◌, ◌++◌, Option, Some, None, slice_get}
use Rattle.wf_val.specs.Function.{function_of}
use Rattle.wf_val.specs.declared.function.Fun.{Fun}
use Rattle.wf_template.specs.ExprTree.{ExprTree, ExprTrees, literal, call, member, index, no_exprs, expr_then}
use Rattle.wf_look.specs.Told.{Told}
use Rattle.wf_look.specs.Args.{literal_name}
use Rattle.wf_eval_expr.specs.declared.way.Way.{Way}
use Rattle.wf_eval_expr.specs.Ways.{way_of}

-- a naming function with its name, a function of the look alone, the moment, or the seed and the place of words
pub data Use : Type 0 where
  names : Fun → List ℕ → Use
  asks : Fun → Use
  asks_moment : Use
  asks_words : Use

abbrev pub named_use : Fun → Option (List ℕ) → List Use
named_use f None = []
named_use f (Some k) = names f k ∷ []

-- what a function asks for, beside its arguments
abbrev pub used_by : ExprTrees → Fun → Way → List Use
used_by es f Way.Named = named_use f (literal_name es)
used_by es f Way.Told = asks f ∷ []
used_by es f Way.Timed = asks_moment ∷ []
used_by es f Way.Drawn = asks_words ∷ []
used_by es f w = []

abbrev pub used_by_name : ExprTrees → Option Fun → List Use
used_by_name es (Some f) = used_by es f (way_of f)
used_by_name es None = []

abbrev mutual
  pub uses : ExprTree → List Use
  uses (literal t) = []
  uses (call name es) = used_by_name es (function_of name) ++ all_uses es
  uses (member e k soft) = uses e
  uses (index e k soft) = uses e ++ uses k

  pub all_uses : ExprTrees → List Use
  all_uses no_exprs = []
  all_uses (expr_then e es) = uses e ++ all_uses es

-- ---- where two looks tell the same

-- where this is asked for
abbrev pub Agree : Told → Told → Use → Type 0
Agree l m (names Fun.Actions k) = l.view k ≡ m.view k
Agree l m (names Fun.Outputs k) = l.view k ≡ m.view k
Agree l m (names Fun.Body k) = l.view k ≡ m.view k
Agree l m (names Fun.Result k) = l.result k ≡ m.result k
Agree l m (names Fun.Items k) = l.item_of k ≡ m.item_of k
Agree l m (names Fun.IterationIndexes k) = l.index_of k ≡ m.index_of k
Agree l m (names Fun.Parameters k) = l.parameter k ≡ m.parameter k
Agree l m (names Fun.Variables k) = l.variable k ≡ m.variable k
Agree l m (names f k) = Unit {0}
Agree l m (asks Fun.Action) = l.own ≡ m.own
Agree l m (asks Fun.Item) = slice_get l.items 0 ≡ slice_get m.items 0
Agree l m (asks Fun.Trigger) = l.trigger ≡ m.trigger
Agree l m (asks Fun.TriggerOutputs) = l.trigger ≡ m.trigger
Agree l m (asks Fun.TriggerBody) = l.trigger ≡ m.trigger
Agree l m (asks Fun.Workflow) = l.run_name ≡ m.run_name
Agree l m (asks f) = Unit {0}
Agree l m asks_moment = l.moment ≡ m.moment
Agree l m asks_words = (l.seed ≡ m.seed) × (l.place ≡ m.place)

-- where all of these are asked for
abbrev pub AgreeAt : Told → Told → List Use → Type 0
AgreeAt l m [] = Unit {0}
AgreeAt l m (u ∷ us) = Agree l m u × AgreeAt l m us
