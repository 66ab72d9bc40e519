-- What a resubmission from a set of actions redoes, and what it closes again.
use Rattle.std.specs.Prelude.{◌≡◌, ℕ, zero, suc, Bool, true, false, ◌&&◌, ◌||◌, not, cond, List, [], ◌∷◌, Option, Some, None, nat_eq, ◌⊎◌}
use Rattle.wf_layers.specs.Definition.{Need, Kind, Leaf, Scope, Choice, Foreach, Until, Branches, no_branch, branch, Graph, done, add, holds, has, needs_of, kind_of, IsBefore}
use Rattle.wf_layers.specs.Machine.{In}

module _ (d : Graph) (chosen : ℕ → Bool) where
  -- The action holds a chosen one inside; or it is chosen itself.
  abbrev pub HoldsChosen : Kind → Type 0
  HoldsChosen kind = (a : ℕ) × (holds kind a ≡ true) × (chosen a ≡ true)

  abbrev pub Touched : ℕ → Kind → Type 0
  Touched n kind = (chosen n ≡ true) ⊎ HoldsChosen kind

  -- The action n of the graph w is redone: its container is (`up`); or it is chosen; or it stands, by `runAfter`, after an action of its
  -- graph that is chosen or holds a chosen one.
  abbrev pub IsHit : Bool → Graph → ℕ → Type 0
  IsHit up w n =
      (up ≡ true) ⊎ ((chosen n ≡ true)
      ⊎ ((c : ℕ) × (before : List Need) × (kind : Kind) × In w c before kind × IsBefore d c n × Touched c kind))

  module _ (redo again : ℕ → Bool) where
    -- `redo` are exactly those; `again`, what is closed again, are the containers of chosen actions that aren't redone. No action of a loop
    -- is chosen.
    abbrev mutual
      pub RedoIn : Kind → ℕ → Type 0
      RedoIn Leaf n = Unit {0}
      RedoIn (Scope g) n = RedoOf (redo n) g g
      RedoIn (Choice bs) n = RedoAny (redo n) bs
      RedoIn (Foreach pace g) n = ((q : ℕ) → has g q ≡ true → chosen q ≡ false) × RedoOf (redo n) g g
      RedoIn (Until most g) n = ((q : ℕ) → has g q ≡ true → chosen q ≡ false) × RedoOf (redo n) g g

      pub RedoAny : Bool → Branches → Type 0
      RedoAny up no_branch = Unit {0}
      RedoAny up (branch b rest) = RedoOf up b b × RedoAny up rest

      pub RedoOf : Bool → Graph → Graph → Type 0
      RedoOf up done w = Unit {0}
      RedoOf up (add n after kind rest) w =
          (redo n ≡ true → IsHit up w n) × (IsHit up w n → redo n ≡ true)
          × (again n ≡ true → (redo n ≡ false) × HoldsChosen kind) × (redo n ≡ false → HoldsChosen kind → again n ≡ true)
          × RedoIn kind n × RedoOf up rest w

-- The set `chosen` of a resubmission, with what is redone and closed again.
pub record IsRedo (d : Graph) (chosen redo again : ℕ → Bool) : Type 0 where
  pub tree : RedoOf d chosen redo again false d d
  pub outside : (n : ℕ) → has d n ≡ false → again n ≡ false

-- No action of a loop is in the set.
module _ (chosen : ℕ → Bool) where
  abbrev mutual
    pub OutOfLoopsIn : Kind → Type 0
    OutOfLoopsIn Leaf = Unit {0}
    OutOfLoopsIn (Scope g) = OutOfLoops g
    OutOfLoopsIn (Choice bs) = OutOfLoopsAny bs
    OutOfLoopsIn (Foreach pace g) = ((q : ℕ) → has g q ≡ true → chosen q ≡ false) × OutOfLoops g
    OutOfLoopsIn (Until most g) = ((q : ℕ) → has g q ≡ true → chosen q ≡ false) × OutOfLoops g

    pub OutOfLoopsAny : Branches → Type 0
    OutOfLoopsAny no_branch = Unit {0}
    OutOfLoopsAny (branch b rest) = OutOfLoops b × OutOfLoopsAny rest

    pub OutOfLoops : Graph → Type 0
    OutOfLoops done = Unit {0}
    OutOfLoops (add n after kind rest) = OutOfLoopsIn kind × OutOfLoops rest

  -- Whether the container has a chosen action inside.
  abbrev mutual
    pub any_in : Kind → Bool
    any_in Leaf = false
    any_in (Scope g) = any_of g
    any_in (Choice bs) = any_branch bs
    any_in (Foreach pace g) = any_of g
    any_in (Until most g) = any_of g

    pub any_branch : Branches → Bool
    any_branch no_branch = false
    any_branch (branch b rest) = any_of b || any_branch rest

    pub any_of : Graph → Bool
    any_of done = false
    any_of (add n after kind rest) = chosen n || any_in kind || any_of rest

  abbrev pub any_kind : Option Kind → Bool
  any_kind None = false
  any_kind (Some kind) = any_in kind

abbrev pub some_need : (ℕ → Bool) → List Need → Bool
some_need p [] = false
some_need p (n ∷ ns) = p n.name || some_need p ns

-- WHAT A SET REDOES, by computing. `depth` is a number for each action that is greater than those of all that it waits for.
module _ (d : Graph) (depth : ℕ → ℕ) (chosen : ℕ → Bool) where
  abbrev pub is_touched : ℕ → Bool
  is_touched n = chosen n || any_kind chosen (kind_of d n)

  -- A touched action stands before n, in at most so many steps along `runAfter`.
  abbrev pub is_behind : ℕ → ℕ → Bool
  is_behind zero n = false
  is_behind (suc k) n = some_need (λ p. is_touched p || is_behind k p) (needs_of d n)

  abbrev pub is_hit : Bool → ℕ → Bool
  is_hit up n = up || (chosen n || is_behind (depth n) n)

  abbrev mutual
    pub redone_in : Bool → Kind → ℕ → Bool
    redone_in up Leaf q = false
    redone_in up (Scope g) q = redone_of up g q
    redone_in up (Choice bs) q = redone_any up bs q
    redone_in up (Foreach pace g) q = redone_of up g q
    redone_in up (Until most g) q = redone_of up g q

    pub redone_any : Bool → Branches → ℕ → Bool
    redone_any up no_branch q = false
    redone_any up (branch b rest) q = cond (has b q) (redone_of up b q) (redone_any up rest q)

    pub redone_of : Bool → Graph → ℕ → Bool
    redone_of up done q = false
    redone_of up (add n after kind rest) q =
        cond (nat_eq n q) (is_hit up n) (cond (holds kind q) (redone_in (is_hit up n) kind q) (redone_of up rest q))

  abbrev pub redone : ℕ → Bool
  redone q = redone_of false d q

  -- And what it closes again.
  abbrev pub closed_again : ℕ → Bool
  closed_again q = has d q && (not (redone q) && any_kind chosen (kind_of d q))
