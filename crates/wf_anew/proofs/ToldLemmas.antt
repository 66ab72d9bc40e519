-- What is told at the points of a definition in two environments in which a run was started alike, where an action and the loops round it
-- are told the same of the run.
use Rattle.std.proofs.Common.{◌≡◌, ℕ, pos, List, [], ◌∷◌, ◌++◌, Option, None, Some, refl, sym, ap, ◌∙◌, subst}
use Rattle.std.specs.List.{AllByRecursion}
use Rattle.wf_val.specs.Address.{address_text}
use Rattle.wf_val.specs.Get.{value_of}
use Rattle.wf_val.specs.ValueTree.{ValueTree}
use Rattle.wf_layers.specs.Address.{Address, Table, address}
use Rattle.wf_look.specs.Told.{Told}
use Rattle.wf_def.specs.ActionTree.{ActionTree, action_kind, action_name}
use Rattle.wf_def.specs.AllActions.{numbered}
use Rattle.wf_def.specs.DefTree.{DefTree}
use Rattle.wf_record.specs.Record.{Row}
use Rattle.wf_trigger.specs.Starts.{StartTree}
use Rattle.wf_opening.specs.Decisions.{DecisionTree, decided}
use Rattle.wf_done.specs.Tracked.{with_own}
use Rattle.wf_environment.specs.Environment.{Environment, Facts, facts_of}
use Rattle.wf_loops.specs.Loops.{loops_of}
use Rattle.wf_turns.specs.Look.{Item, decided_by, decided_within, instance, item_in, items_at, items_from, name_in, name_of, told_at}
use Rattle.wf_turns.specs.Look.{told_by}
use Rattle.wf_turns.specs.Look.{told_ending, told_in_test, told_within}
use Rattle.wf_turns.specs.Points.{Point, graph_of, point_of, point_of_test}
use Rattle.wf_anew.specs.Same.{SameWords}

-- a run was started alike, but for its name and its seed
pub record SameStart (s t : StartTree) : Type 0 where
  pub trigger : s.trigger ≡ t.trigger
  pub parameters : s.parameters ≡ t.parameters

-- what is told to a point of loops and indexes
pub told_same : (d : DefTree) (s t : StartTree) (f g : Facts) → SameStart s t → SameWords f g → (place : List ℕ) (p : Point)
    (held : List Item) (own : Option ValueTree) (known : Table Row)
    → told_by d s f place p held own known ≡ told_by d t g place p held own known
told_same d s t f g start words place p held own known = λ i. record (told_by d s f place p held own known) {
  parameter = λ k. value_of k (start.parameters i);
  trigger = start.trigger i;
  moment = pos (words.moment i);
  run_name = words.run i;
  seed = words.seed i;
}

module _ (d : DefTree) (e e' : Environment) (start : SameStart e.start e'.start) where
  -- the action of this number, if there is one, is told the same of the run
  abbrev pub WordsAt : ℕ → Type 0
  WordsAt n = (a : ActionTree) → numbered n d.top ≡ Some a → SameWords (facts_of e (action_name a)) (facts_of e' (action_name a))

  abbrev pub WordsRound : ℕ → Type 0
  WordsRound n = AllByRecursion WordsAt (loops_of (graph_of d) n)

  words_of : (n : ℕ) (a : ActionTree) → numbered n d.top ≡ Some a → WordsAt n
      → SameWords (facts_of e (name_of d n)) (facts_of e' (name_of d n))
  words_of n a is words =
      subst (λ (k : List ℕ). SameWords (facts_of e k) (facts_of e' k)) (sym (ap name_in is)) (words a is)

  module _ (known : Table Row) where
    within_same : (x : Address) (held : List Item) (a : ActionTree) → numbered x.name d.top ≡ Some a → WordsAt x.name
        → told_within d e x held known ≡ told_within d e' x held known
    within_same x held a is words =
        told_same d e.start e'.start (facts_of e (name_of d x.name)) (facts_of e' (name_of d x.name)) start (words_of x.name a is words)
        (address_text (instance d x)) (point_of d x) held None known

    decided_same : (x : Address) (held : List Item) (found : Option ActionTree) → numbered x.name d.top ≡ found → WordsAt x.name
        → decided_by found (told_within d e x held known) ≡ decided_by found (told_within d e' x held known)
    decided_same x held None is words = refl
    decided_same x held (Some a) is words = ap (λ (l : Told). decided l (action_kind a)) (within_same x held a is words)

    items_same : (ls js at : List ℕ) (held : List Item) → AllByRecursion WordsAt ls
        → items_from d e ls js at held known ≡ items_from d e' ls js at held known
    items_same [] js at held words = refl
    items_same (l ∷ ls) [] at held words = refl
    items_same (l ∷ ls) (j ∷ js) at held words =
        ap (λ (o : DecisionTree). items_from d e ls js (at ++ j ∷ []) (held ++ item_in d e (name_of d l) j o) known)
        (decided_same (address l at) held (numbered l d.top) refl words.0)
        ∙ items_same ls js (at ++ j ∷ []) (held ++ item_in d e (name_of d l) j (decided_within d e' (address l at) held known)) words.1

    -- at an instance
    pub told_at_same : (x : Address) (a : ActionTree) → numbered x.name d.top ≡ Some a → WordsAt x.name → WordsRound x.name
        → told_at d e x known ≡ told_at d e' x known
    told_at_same x a is words round =
        ap (λ (held : List Item). told_within d e x held known) (items_same (loops_of (graph_of d) x.name) x.at [] [] round)
        ∙ within_same x (items_at d e' (point_of d x) known) a is words

    pub told_ending_same : (x : Address) (a : ActionTree) → numbered x.name d.top ≡ Some a → WordsAt x.name → WordsRound x.name
        → (view : ValueTree) → told_ending d e x view known ≡ told_ending d e' x view known
    told_ending_same x a is words round view = ap (with_own view) (told_at_same x a is words round)

    -- in a test, which stands inside its Until
    all_last : (P : ℕ → Type 0) (ns : List ℕ) (n : ℕ) → AllByRecursion P ns → P n → AllByRecursion P (ns ++ n ∷ [])
    all_last P [] n all own = (own, tt)
    all_last P (m ∷ ns) n all own = (all.0, all_last P ns n all.1 own)

    pub told_in_test_same : (u : Address) (k : ℕ) (a : ActionTree) → numbered u.name d.top ≡ Some a → WordsAt u.name → WordsRound u.name
        → told_in_test d e u k known ≡ told_in_test d e' u k known
    told_in_test_same u k a is words round =
        ap (λ (held : List Item). told_by d e.start (facts_of e (name_of d u.name))
        (address_text (instance d (address u.name (u.at ++ k ∷ [])))) (point_of_test d u k) held None known)
        (items_same (loops_of (graph_of d) u.name ++ u.name ∷ []) (u.at ++ k ∷ []) [] []
        (all_last WordsAt (loops_of (graph_of d) u.name) u.name round words))
        ∙ told_same d e.start e'.start (facts_of e (name_of d u.name)) (facts_of e' (name_of d u.name)) start (words_of u.name a is words)
        (address_text (instance d (address u.name (u.at ++ k ∷ [])))) (point_of_test d u k) (items_at d e' (point_of_test d u k) known) None
        known
