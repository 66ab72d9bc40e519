-- A PLAN OF A GRAPH, in the words of the laws of order: what an engine may take from the plan in place of the graph.
use Rattle.std.specs.Prelude.{◌≡◌, ℕ, Bool, true, false, ◌||◌, cond, Some, nat_eq}
use Rattle.wf_def.specs.Changes.{is_named, owns}
use Rattle.wf_def.specs.Definition.{Kind, Leaf, Scope, Choice, Foreach, Until, Branches, no_branch, branch, Graph, has, is_one, less_one, kind_of, needs_of, plain, shows}
use Rattle.wf_asks.specs.Known.{is_among}
use Rattle.wf_plan.specs.Once.{AreDistinct}
use Rattle.wf_plan.specs.Plan.{EntryTree, PlanTree, own_numbers, passed_over, shape_of}
use Rattle.wf_plan.specs.PlanSeen.{at_place, list_at}

-- The action stands in another branch than this one, counted from 1, and in no loop there.
abbrev pub in_other : Branches → ℕ → ℕ → Bool
in_other no_branch c x = false
in_other (branch b rest) c x = cond (has b x) (cond (is_one c) false (plain b x)) (in_other rest (less_one c) x)

abbrev pub passes : Kind → ℕ → ℕ → Bool
passes (Choice bs) c x = in_other bs c x
passes Leaf c x = false
passes (Scope g) c x = false
passes (Foreach pace g) c x = false
passes (Until most g) c x = false

module _ (d : Graph) where
  -- What the plan has of an action of this kind.
  pub record IsEntryOf (n : ℕ) (kind : Kind) (e : EntryTree) : Type 0 where
    pub after : e.after ≡ needs_of d n
    pub shape : e.shape ≡ shape_of kind
    -- the action and all inside it that stand in no loop there, each once
    pub block : (x : ℕ) → is_among x e.block ≡ (nat_eq n x || shows kind x)
    pub each_once : AreDistinct e.block
    -- where the branch of a number is taken, all that stand in the others and in no loop there, each once
    pub passed : (taken x : ℕ) → is_among x (passed_over e.shape taken) ≡ passes kind taken x
    pub passed_once : (taken : ℕ) → AreDistinct (passed_over e.shape taken)

  pub record IsPlanOf (p : PlanTree) : Type 0 where
    pub top : p.top ≡ own_numbers d
    pub entry : (n : ℕ) (kind : Kind) → kind_of d n ≡ Some kind → (e : EntryTree) × (at_place p.entries n ≡ Some e) × IsEntryOf n kind e
    -- those that follow an action are those that wait for it, each once
    pub follow : (n q : ℕ) → has d n ≡ true → is_among q (list_at p.followers n) ≡ is_named (needs_of d q) n
    pub follow_once : (n : ℕ) → AreDistinct (list_at p.followers n)
    -- the holder is the container in a graph of which the action stands; an action of the definition's own graph has none
    pub holder : (n c : ℕ) → at_place p.holders n ≡ Some c → owns (kind_of d c) n ≡ true
    pub held : (n c : ℕ) → has d n ≡ true → owns (kind_of d c) n ≡ true → at_place p.holders n ≡ Some c
