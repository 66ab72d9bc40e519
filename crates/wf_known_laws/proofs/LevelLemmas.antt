-- Actions of a definition that breaks no rule stand at most 8 levels deep.
use Rattle.std.proofs.Common.{◌≡◌, ◌+◌, ◌≤◌, ℕ, Bool, true, false, List, [], refl, arith}
use Rattle.std.specs.Prelude.{nat_lt}
use Rattle.std.proofs.lemmas.Bool.{ltb-false}
use Rattle.wf_val.specs.ValueTree.{ValueTree, null, boolean, number, text, list, object}
use Rattle.wf_json.specs.Pointer.{here}
use Rattle.wf_reading.specs.KindsActionType.{ActionType}
use Rattle.wf_reading.specs.Limits.{limits}
use Rattle.wf_reading.specs.Places.{in_members}
use Rattle.wf_reading.specs.Role.{deeper, holder_of}
use Rattle.wf_reading.specs.Whole.{Whole}
use Rattle.wf_reading.specs.FormRole.{Role}
use Rattle.wf_reading.specs.Rule.{Rule}
use Rattle.wf_reading.specs.ActionTree.{ActionTrees, KindTree, CaseTrees}
use Rattle.wf_reading.specs.Leaves.{leaf_of}
use Rattle.wf_reading.proofs.RunAfterLemmas.{append-first}
use Rattle.wf_known_laws.specs.Held.{levels, levels_among, levels_in}
use Rattle.wf_known_laws.proofs.WalkLemmas.{Fine, Steps}

here-none : (b : Bool) → here b ≡ [] → b ≡ false
here-none true is = absurd (cc)
here-none false is = refl

-- the level of an action
module _ (whole : Whole) where
  own-limits : (l : ℕ) (key : List ℕ) (t : ValueTree) → Fine Rule.Limits whole (Role.Action l) key t → limits whole (Role.Action l) t ≡ []
  own-limits l key null is = is
  own-limits l key (boolean b) is = is
  own-limits l key (number n) is = is
  own-limits l key (text s) is = is
  own-limits l key (list ts) is = is
  own-limits l key (object ms) is =
      append-first (limits whole (Role.Action l) (object ms)) (in_members Rule.Limits whole (Role.Action l) (holder_of (object ms)) ms) is

  level-few : (l : ℕ) (t : ValueTree) → limits whole (Role.Action l) t ≡ [] → l ≤ 8
  unfolding limits
  level-few l t is = ltb-false 8 l (here-none (nat_lt 8 l) is)

deeper-next : (l : ℕ) → l ≤ 8 → deeper l ≡ l + 1
deeper-next l few = elim (nat_lt l 9) as (λ b. nat_lt l 9 ≡ b → deeper l ≡ l + 1) [
  | true ↦ λ is. rw is refl
  | false ↦ λ is. absurd (omega (arith, few, ltb-false l 9 is))
] refl

-- a graph at a level, and what stands in an action at one
abbrev pub Graph : ℕ → ActionTrees → Type 0
Graph l g = l ≤ 9 → levels g + l ≤ 9

abbrev pub Kind : ℕ → KindTree → Type 0
Kind l kind = l ≤ 8 → levels_in kind + l ≤ 8

abbrev pub Cases : ℕ → CaseTrees → Type 0
Cases l cs = l ≤ 8 → levels_among cs + l ≤ 8

leaf-level : (l : ℕ) (type' : ActionType) (t : ValueTree) → Kind l (leaf_of type' t)
leaf-level l ActionType.Compose t few = omega (arith, few)
leaf-level l ActionType.Connector t few = omega (arith, few)
leaf-level l ActionType.Wait t few = omega (arith, few)
leaf-level l ActionType.Response t few = omega (arith, few)
leaf-level l ActionType.Terminate t few = omega (arith, few)
leaf-level l ActionType.Select t few = omega (arith, few)
leaf-level l ActionType.Query t few = omega (arith, few)
leaf-level l ActionType.Join t few = omega (arith, few)
leaf-level l ActionType.ParseJson t few = omega (arith, few)
leaf-level l ActionType.InitializeVariable t few = omega (arith, few)
leaf-level l ActionType.SetVariable t few = omega (arith, few)
leaf-level l ActionType.IncrementVariable t few = omega (arith, few)
leaf-level l ActionType.DecrementVariable t few = omega (arith, few)
leaf-level l ActionType.AppendToArrayVariable t few = omega (arith, few)
leaf-level l ActionType.AppendToStringVariable t few = omega (arith, few)
leaf-level l ActionType.Scope t few = omega (arith, few)
leaf-level l ActionType.If t few = omega (arith, few)
leaf-level l ActionType.Switch t few = omega (arith, few)
leaf-level l ActionType.Foreach t few = omega (arith, few)
leaf-level l ActionType.Until t few = omega (arith, few)

-- a graph in an action
inner : (l : ℕ) (g : ActionTrees) → Graph (deeper l) g → l ≤ 8 → levels g + l ≤ 8
inner l g is few = let next = deeper-next l few in let within : deeper l ≤ 9 = omega (arith, few, next) in let all = is within in
    omega (arith, all, next)

pub level_steps : (whole : Whole) (number_of : List ℕ → ℕ) → Steps Rule.Limits whole number_of Graph Graph Kind Cases
level_steps whole number_of = record {
  no_graph = λ l few. omega (arith, few);
  graph = λ l key p ms order fine is. is;
  none = λ l few. omega (arith, few);
  more = λ l k q t rest fine kind later few.
      let low = level-few whole l t (own-limits whole l k t fine) in
      let one = kind low in
      let two = later few in
      omega (arith, one, two);
  leaf = leaf-level;
  in_scope = λ l g is few. inner l g is few;
  in_branch = λ l test yes' no' one other few. let a = inner l yes' one few in let b = inner l no' other few in omega (arith, a, b);
  in_switch = λ l on cs is few. is few;
  in_default = λ l on cs g is other few. let a = is few in let b = inner l g other few in omega (arith, a, b);
  in_foreach = λ l items n g is few. inner l g is few;
  in_until = λ l test n fails g is few. inner l g is few;
  no_case = λ l few. omega (arith, few);
  case = λ l n v g rest is later few. let a = inner l g is few in let b = later few in omega (arith, a, b);
}
