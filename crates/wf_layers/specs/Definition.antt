-- What a definition is to the laws: graphs of named actions, containers and loops, and what each action waits for.
use Rattle.std.specs.Prelude.{◌≡◌, ℕ, zero, suc, ◌<◌, Bool, true, false, ◌||◌, cond, List, [], ◌∷◌, Option, Some, None, nat_eq, ◌⊎◌}

-- How an action ended.
pub data Status : Type 0 where
  Succeeded : Status
  Failed : Status
  Skipped : Status
  TimedOut : Status
  Cancelled : Status

-- An entry of `runAfter`: an action of the same graph that has to have ended, and the statuses that are listed for it.
pub record Need : Type 0 where
  pub name : ℕ
  pub listed : List Status

-- The iterations of a Foreach: one after the other, or side by side with a greatest number of unfinished ones.
pub data Pace : Type 0 where
  InTurn : Pace
  AtMost : (unfinished : ℕ) → Pace

mutual
  -- What an action is: a leaf, or a container of graphs. An If is a Choice of two branches, a Switch one of a branch a
  -- case, and a last one for its default. A Foreach decides how many iterations it has, an Until ends after
  -- `most` of them at the latest.
  pub data Kind : Type 0 where
    Leaf : Kind
    Scope : Graph → Kind
    Choice : Branches → Kind
    Foreach : (pace : Pace) → Graph → Kind
    Until : (most : ℕ) → Graph → Kind

  pub data Branches : Type 0 where
    no_branch : Branches
    branch : Graph → Branches → Branches

  -- The actions of one graph, in any order. An action is named by a number.
  pub data Graph : Type 0 where
    done : Graph
    add : (name : ℕ) (after : List Need) (kind : Kind) (rest : Graph) → Graph

-- The list names the action p.
abbrev pub Names : List Need → ℕ → Type 0
Names [] p = ⊥
Names (n ∷ ns) p = (n.name ≡ p) ⊎ Names ns p

-- Branches are counted from 1: this one is meant, or the number for those behind it. Number 0 means none of them.
abbrev pub is_one : ℕ → Bool
is_one zero = false
is_one (suc zero) = true
is_one (suc (suc c)) = false

abbrev pub less_one : ℕ → ℕ
less_one zero = zero
less_one (suc c) = c

abbrev pub branch_at : Branches → ℕ → Option Graph
branch_at no_branch c = None
branch_at (branch b rest) c = cond (is_one c) (Some b) (branch_at rest (less_one c))

-- The action m stands in the container or graph, at any depth.
abbrev mutual
  pub holds : Kind → ℕ → Bool
  holds Leaf m = false
  holds (Scope g) m = has g m
  holds (Choice bs) m = has_any bs m
  holds (Foreach pace g) m = has g m
  holds (Until most g) m = has g m

  pub has_any : Branches → ℕ → Bool
  has_any no_branch m = false
  has_any (branch b rest) m = has b m || has_any rest m

  pub has : Graph → ℕ → Bool
  has done m = false
  has (add n after kind rest) m = nat_eq n m || holds kind m || has rest m

-- And in no loop of it.
abbrev mutual
  pub shows : Kind → ℕ → Bool
  shows Leaf m = false
  shows (Scope g) m = plain g m
  shows (Choice bs) m = plain_any bs m
  shows (Foreach pace g) m = false
  shows (Until most g) m = false

  pub plain_any : Branches → ℕ → Bool
  plain_any no_branch m = false
  plain_any (branch b rest) m = plain b m || plain_any rest m

  pub plain : Graph → ℕ → Bool
  plain done m = false
  plain (add n after kind rest) m = nat_eq n m || shows kind m || plain rest m

-- The graph itself has an action of this name.
abbrev pub has_own : Graph → ℕ → Bool
has_own done p = false
has_own (add n after kind rest) p = nat_eq n p || has_own rest p

-- What an action waits for, by its name.
abbrev mutual
  pub needs_in : Kind → ℕ → List Need
  needs_in Leaf m = []
  needs_in (Scope g) m = needs_of g m
  needs_in (Choice bs) m = needs_any bs m
  needs_in (Foreach pace g) m = needs_of g m
  needs_in (Until most g) m = needs_of g m

  pub needs_any : Branches → ℕ → List Need
  needs_any no_branch m = []
  needs_any (branch b rest) m = cond (has b m) (needs_of b m) (needs_any rest m)

  pub needs_of : Graph → ℕ → List Need
  needs_of done m = []
  needs_of (add n after kind rest) m = cond (nat_eq n m) after (cond (holds kind m) (needs_in kind m) (needs_of rest m))

-- And its kind.
abbrev mutual
  pub kind_in : Kind → ℕ → Option Kind
  kind_in Leaf m = None
  kind_in (Scope g) m = kind_of g m
  kind_in (Choice bs) m = kind_any bs m
  kind_in (Foreach pace g) m = kind_of g m
  kind_in (Until most g) m = kind_of g m

  pub kind_any : Branches → ℕ → Option Kind
  kind_any no_branch m = None
  kind_any (branch b rest) m = cond (has b m) (kind_of b m) (kind_any rest m)

  pub kind_of : Graph → ℕ → Option Kind
  kind_of done m = None
  kind_of (add n after kind rest) m = cond (nat_eq n m) (Some kind) (cond (holds kind m) (kind_in kind m) (kind_of rest m))

-- p is an ancestor of a by `runAfter`: there is a path of entries from a to p.
pub data IsBefore (g : Graph) : ℕ → ℕ → Type 0 where
  next : {p a : ℕ} → Names (needs_of g a) p → IsBefore g p a
  more : {p q a : ℕ} → IsBefore g p q → Names (needs_of g a) q → IsBefore g p a

-- A number for each action that is greater than those of all that it waits for. There is one exactly where no action is
-- its own ancestor; the meaning doesn't depend on which is taken.
abbrev pub IsDepth : Graph → (ℕ → ℕ) → Type 0
IsDepth g depth = (p a : ℕ) → Names (needs_of g a) p → depth p < depth a

-- Each action waits only for actions of its own graph (w is the whole of it).
abbrev mutual
  pub ClosedIn : Kind → Type 0
  ClosedIn Leaf = Unit {0}
  ClosedIn (Scope g) = Closed g g
  ClosedIn (Choice bs) = ClosedAny bs
  ClosedIn (Foreach pace g) = Closed g g
  ClosedIn (Until most g) = Closed g g

  pub ClosedAny : Branches → Type 0
  ClosedAny no_branch = Unit {0}
  ClosedAny (branch b rest) = Closed b b × ClosedAny rest

  pub Closed : Graph → Graph → Type 0
  Closed done w = Unit {0}
  Closed (add n after kind rest) w = ((p : ℕ) → Names after p → has_own w p ≡ true) × ClosedIn kind × Closed rest w

-- An Until may have an iteration, and a Foreach may begin one.
abbrev pub Goes : Pace → Type 0
Goes InTurn = Unit {0}
Goes (AtMost unfinished) = 0 < unfinished

abbrev mutual
  pub TurnsIn : Kind → Type 0
  TurnsIn Leaf = Unit {0}
  TurnsIn (Scope g) = Turns g
  TurnsIn (Choice bs) = TurnsAny bs
  TurnsIn (Foreach pace g) = Goes pace × Turns g
  TurnsIn (Until most g) = (0 < most) × Turns g

  pub TurnsAny : Branches → Type 0
  TurnsAny no_branch = Unit {0}
  TurnsAny (branch b rest) = Turns b × TurnsAny rest

  pub Turns : Graph → Type 0
  Turns done = Unit {0}
  Turns (add n after kind rest) = TurnsIn kind × Turns rest
