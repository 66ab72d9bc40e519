-- What a container keeps of what it decides is a value that was given, so it fits.
use Rattle.std.proofs.Common.{◌≡◌, ℕ, true, false, List, length, Option, Some, None, Ok, Err, refl, sym, ap, ◌∙◌}
use Rattle.std.specs.Prelude.{nat_le, if◌then◌else◌}
use Rattle.wf_val.specs.Arguments.{Answer}
use Rattle.wf_val.specs.ValueTree.{ValueTree, ValueTrees, null, boolean, number, text, list, object, trees, items, no_values, value_then}
use Rattle.wf_val.specs.ValueTree.{Fits}
use Rattle.wf_template.specs.DataTree.{DataTree}
use Rattle.wf_template.specs.TemplateTree.{TemplateTree}
use Rattle.wf_def.specs.ActionTree.{KindTree, CaseTrees, branch, switch, switch_else, foreach}
use Rattle.wf_eval.specs.Told.{Told}
use Rattle.wf_eval.specs.TemplateValue.{template_value}
use Rattle.wf_eval.specs.TreeValue.{tree_value}
use Rattle.wf_eval.specs.Truth.{truth_of}
use Rattle.wf_opening.specs.Decisions.{DecisionTree, chosen, each, too_many, held_as, chosen_as, each_as, decided_from}

none≢some : {v : ValueTree} → None ≡ Some v → ⊥
none≢some e = cc

inner : {v w : ValueTree} → Some v ≡ Some w → v ≡ w
inner e = cc

-- the value that a Switch and a Foreach keep
abbrev pub kept : DecisionTree → Option ValueTree
kept (chosen v n) = Some v
kept (each ts) = Some (list (trees ts))
kept d = None

trees-items : (ts : ValueTrees) → trees (items ts) ≡ ts
trees-items no_values = refl
trees-items (value_then t ts) = ap (value_then t) (trees-items ts)

-- an If keeps none; the others keep what they were given
none_held : (a : Answer) → kept (held_as a) ≡ None
none_held (Ok null) = refl
none_held (Ok (boolean b)) = refl
none_held (Ok (number n)) = refl
none_held (Ok (text s)) = refl
none_held (Ok (list ts)) = refl
none_held (Ok (object ms)) = refl
none_held (Err f) = refl

given_chosen : (cases : CaseTrees) (a : Answer) (v : ValueTree) → kept (chosen_as cases a) ≡ Some v → a ≡ Ok v
given_chosen cases (Ok null) v e = cc
given_chosen cases (Ok (boolean b)) v e = cc
given_chosen cases (Ok (number n)) v e = cc
given_chosen cases (Ok (text s)) v e = cc
given_chosen cases (Ok (list ts)) v e = cc
given_chosen cases (Ok (object ms)) v e = cc
given_chosen cases (Err f) v e = cc

given_each : (a : Answer) (v : ValueTree) → kept (each_as a) ≡ Some v → a ≡ Ok v
given_each (Ok null) v e = cc
given_each (Ok (boolean b)) v e = cc
given_each (Ok (number n)) v e = cc
given_each (Ok (text s)) v e = cc
given_each (Ok (list ts)) v e = ap Ok (elim (nat_le (length (items ts)) 100000) as (λ b.
    kept (if b then each (items ts) else too_many) ≡ Some v → list ts ≡ v) [
      | true ↦ λ e. ap list (sym (trees-items ts)) ∙ inner e
      | false ↦ λ e. cc
    ] e)
given_each (Ok (object ms)) v e = cc
given_each (Err f) v e = cc

module _ (template : (l : Told) (t : TemplateTree) (n : ℕ) (v : ValueTree) → (template_value l t n).0 ≡ Ok v → Fits v)
    (tree : (l : Told) (t : DataTree) (n : ℕ) (v : ValueTree) → (tree_value l t n).0 ≡ Ok v → Fits v) where
  fits : (l : Told) (kind : KindTree) (n : ℕ) (v : ValueTree) → kept (decided_from l kind n) ≡ Some v → Fits v
  fits l (branch test yes' no') n v e = absurd (none≢some (sym (none_held (truth_of l test n).0) ∙ e))
  fits l (switch on cases) n v e = template l on n v (given_chosen cases (template_value l on n).0 v e)
  fits l (switch_else on cases default) n v e = template l on n v (given_chosen cases (template_value l on n).0 v e)
  fits l (foreach each' repetitions graph) n v e = tree l each' n v (given_each (tree_value l each' n).0 v e)
  fits l kind n v e = cc

  pub chosen-fits : (l : Told) (kind : KindTree) (n : ℕ) (v : ValueTree) (k : ℕ) → decided_from l kind n ≡ chosen v k → Fits v
  chosen-fits l kind n v k e = fits l kind n v (ap kept e)

  pub each-fits : (l : Told) (kind : KindTree) (n : ℕ) (ts : List ValueTree) → decided_from l kind n ≡ each ts → Fits (list (trees ts))
  each-fits l kind n ts e = fits l kind n (list (trees ts)) (ap kept e)
