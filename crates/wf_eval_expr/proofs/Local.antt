-- Two looks that tell the same where an expression asks give it one value, and draw the same words.
use Rattle.std.proofs.Common.{◌≡◌, ℕ, List, [], ◌∷◌, ◌++◌, Option, Some, None, Ok, option_map, Result, Err, refl, sym, ap, ◌∙◌}
use Rattle.wf_val.specs.Arguments.{given}
use Rattle.wf_val.specs.Function.{function_of, function_name}
use Rattle.wf_val.specs.declared.fault.EvalFault.{EvalFault}
use Rattle.wf_val.specs.declared.function.Fun.{Fun}
use Rattle.wf_template.specs.ExprTree.{ExprTree, ExprTrees, literal, call, member, index, no_exprs, expr_then}
use Rattle.wf_look.specs.Draw.{Draw}
use Rattle.wf_eval_expr.specs.declared.way.Way.{Way}
use Rattle.wf_look.specs.Draws.{draw_of, made}
use Rattle.wf_look.specs.Timed.{timed_row}
use Rattle.wf_look.specs.Words.{word_of}
use Rattle.wf_look.specs.Told.{Told, raised}
use Rattle.wf_eval_expr.specs.Ways.{way_of}
use Rattle.wf_look.specs.Outcomes.{Run, then_run, turned, all_after, strictly}
use Rattle.wf_look.specs.Accesses.{member_row, index_row}
use Rattle.wf_look.specs.Looked.{or_no_value, over_view, part_in, as_number, outputs_in, body_in, workflow_value, named_row, named_by}
use Rattle.wf_look.specs.Looked.{told_row}
use Rattle.wf_look.specs.Rows.{fitted}
use Rattle.wf_look.specs.Args.{literal_name}
use Rattle.wf_look.specs.Drawn.{drawn}
use Rattle.wf_eval_expr.specs.Value.{drawn_run, called, called_by, value, runs}
use Rattle.wf_eval_expr.specs.Uses.{Use, names, asks, asks_words, named_use, used_by, used_by_name, uses, all_uses, Agree, AgreeAt}

pub agree-front : (l m : Told) (us vs : List Use) → AgreeAt l m (us ++ vs) → AgreeAt l m us
agree-front l m [] vs a = tt
agree-front l m (u ∷ us) vs a = (a.0, agree-front l m us vs a.1)

pub agree-rest : (l m : Told) (us vs : List Use) → AgreeAt l m (us ++ vs) → AgreeAt l m vs
agree-rest l m [] vs a = a
agree-rest l m (u ∷ us) vs a = agree-rest l m us vs a.1

named_row-local : (l m : Told) (f : Fun) (k : List ℕ) → Agree l m (names f k) → named_row l f k ≡ named_row m f k
named_row-local l m Fun.Actions k a = ap (or_no_value k) a
named_row-local l m Fun.Outputs k a = ap (λ o. or_no_value k (option_map (over_view (part_in Fun.Outputs)) o)) a
named_row-local l m Fun.Body k a = ap (λ o. or_no_value k (option_map (over_view (part_in Fun.Body)) o)) a
named_row-local l m Fun.Result k a = ap (or_no_value k) a
named_row-local l m Fun.Items k a = ap (or_no_value k) a
named_row-local l m Fun.IterationIndexes k a = ap (λ o. or_no_value k (option_map as_number o)) a
named_row-local l m Fun.Parameters k a = ap (or_no_value k) a
named_row-local l m Fun.Variables k a = ap (or_no_value k) a
named_row-local l m f k a = refl

told_row-local : (l m : Told) (f : Fun) → Agree l m (asks f) → told_row l f ≡ told_row m f
told_row-local l m Fun.Action a = ap (or_no_value (function_name Fun.Action)) a
told_row-local l m Fun.Item a = ap (or_no_value (function_name Fun.Item)) a
told_row-local l m Fun.Trigger a = ap (λ t. Ok t) a
told_row-local l m Fun.TriggerOutputs a = ap (λ t. Ok (outputs_in t)) a
told_row-local l m Fun.TriggerBody a = ap (λ t. Ok (body_in t)) a
told_row-local l m Fun.Workflow a = ap (λ s. Ok (workflow_value s)) a
told_row-local l m f a = refl

named_by-local : (l m : Told) (f : Fun) (k : Option (List ℕ)) → AgreeAt l m (named_use f k) → named_by l f k ≡ named_by m f k
named_by-local l m f None a = refl
named_by-local l m f (Some k) a = named_row-local l m f k a.0

-- the same of the seed and the place of its words
abbrev drawn_from : List ℕ → List ℕ → Result Draw EvalFault → Run
drawn_from seed place (Ok d) n = (fitted (Ok (made d (word_of seed place n))), raised n)
drawn_from seed place (Err f) n = (Err f, n)

drawn_is : (l : Told) (d : Result Draw EvalFault) (n : ℕ) → drawn l d n ≡ drawn_from l.seed l.place d n
drawn_is l (Ok d) n = refl
drawn_is l (Err f) n = refl

drawn-local : (l m : Told) (d : Result Draw EvalFault) (n : ℕ) → Agree l m asks_words → drawn l d n ≡ drawn m d n
drawn-local l m d n a =
    drawn_is l d n ∙ (ap (λ s. drawn_from s l.place d n) a.0 ∙ (ap (λ p. drawn_from m.seed p d n) a.1 ∙ sym (drawn_is m d n)))

drawn_run-local : (l m : Told) (f : Fun) (rs : List Run) → Agree l m asks_words → drawn_run l f rs ≡ drawn_run m f rs
drawn_run-local l m f rs a = λ i n. drawn-local l m (given (all_after rs [] n).0 (draw_of f)) (all_after rs [] n).1 a i

called-local : (l m : Told) (f : Fun) (es : ExprTrees) (rs : List Run) (w : Way) → AgreeAt l m (used_by es f w) →
    called l f es rs w ≡ called m f es rs w
called-local l m f es rs Way.Named a = ap (λ o n. (fitted o, n)) (named_by-local l m f (literal_name es) a)
called-local l m f es rs Way.Told a = ap (λ o n. (fitted o, n)) (told_row-local l m f a.0)
called-local l m f es rs Way.Timed a = ap (λ t. strictly (λ ts. fitted (timed_row f t ts)) rs) a.0
called-local l m f es rs Way.Drawn a = drawn_run-local l m f rs a.0
called-local l m f es rs w a = refl

called_by-local : (l m : Told) (name : List ℕ) (es : ExprTrees) (rs : List Run) (f : Option Fun) → AgreeAt l m (used_by_name es f) →
    called_by l name es rs f ≡ called_by m name es rs f
called_by-local l m name es rs (Some f) a = called-local l m f es rs (way_of f) a
called_by-local l m name es rs None a = refl

mutual
  pub value-local : (l m : Told) (e : ExprTree) → AgreeAt l m (uses e) → value l e ≡ value m e
  value-local l m (literal t) a = refl
  value-local l m (call name es) a =
      let inside : runs l es ≡ runs m es = runs-local l m es (agree-rest l m (used_by_name es (function_of name)) (all_uses es) a) in
      let outside = called_by-local l m name es (runs m es) (function_of name)
      (agree-front l m (used_by_name es (function_of name)) (all_uses es) a) in
      ap (λ rs. called_by l name es rs (function_of name)) inside ∙ outside
  value-local l m (member e k soft) a = ap (λ r n. turned (member_row k soft) (r n)) (value-local l m e a)
  value-local l m (index e k soft) a =
      let base : value l e ≡ value m e = value-local l m e (agree-front l m (uses e) (uses k) a) in
      let key : value l k ≡ value m k = value-local l m k (agree-rest l m (uses e) (uses k) a) in
      ap (λ r n. then_run (r n) (λ t p. turned (index_row soft t) (value l k p))) base
      ∙ ap (λ r n. then_run (value m e n) (λ t p. turned (index_row soft t) (r p))) key

  runs-local : (l m : Told) (es : ExprTrees) → AgreeAt l m (all_uses es) → runs l es ≡ runs m es
  runs-local l m no_exprs a = refl
  runs-local l m (expr_then e es) a =
      ap (λ r. r ∷ runs l es) (value-local l m e (agree-front l m (uses e) (all_uses es) a))
      ∙ ap (λ rs. value m e ∷ rs) (runs-local l m es (agree-rest l m (uses e) (all_uses es) a))
