-- What may happen next to an action, by the counts and by what a plan tells of it.
use Rattle.std.specs.Prelude.{ℕ, zero, suc, Bool, true, false, ◌||◌, cond, List, [], ◌∷◌, ◌++◌, Option, Some, None, nat_eq, nat_lt}
use Rattle.wf_layers.specs.Definition.{Need, is_one, less_one}
use Rattle.wf_layers.specs.Address.{Table, address}
use Rattle.wf_layers.specs.Enabled.{most_of}
use Rattle.wf_layers.specs.Machine.{Opening, has_ended}
use Rattle.wf_layers.specs.Source.{Source, gate}
use Rattle.wf_tables.specs.Plan.{BranchTree, EntryTree, ShapeTree, leaf, scope, choice, foreach, until}
use Rattle.wf_tables.specs.declared.entries.EventKind.{EventKind}
use Rattle.wf_tables.specs.declared.entries.EventKind.TheVariants.{Start, Skip, Open, Begin, Test, Close}

-- there is a branch of this number, counted from 1
abbrev pub is_branch : List BranchTree → ℕ → Bool
is_branch [] c = false
is_branch (b ∷ bs) c = cond (is_one c) true (is_branch bs (less_one c))

-- an action that runs
abbrev pub begin_kind : ShapeTree → EventKind
begin_kind leaf = Start
begin_kind (scope g) = Open
begin_kind (choice bs) = Open
begin_kind (foreach pace g) = Open
begin_kind (until most g) = Open

-- closed once nothing is lacking
abbrev pub close_kind : Option ℕ → Option EventKind
close_kind None = Some Close
close_kind (Some c) = None

-- an open Foreach, of which so many iterations are unfinished
abbrev pub foreach_kind : ℕ → ℕ → ℕ → ℕ → Option EventKind
foreach_kind most left next items =
    cond (nat_lt next items) (cond (nat_lt left most) (Some Begin) None) (cond (nat_eq left 0) (Some Close) None)

-- an Until that isn't tested after its last iteration
abbrev pub begun_kind : Table ℕ → ℕ → ℕ → List ℕ → ℕ → Option EventKind
begun_kind lacks most n i zero = cond (nat_lt 0 most) (Some Begin) None
begun_kind lacks most n i (suc j) = cond (has_ended (lacks (address n (i ++ j ∷ [])))) None (Some Test)

module _ {Row Begun Decision Verdict : Type 0} (m : Source Row Begun Decision Verdict) where
  -- an Until that is tested
  abbrev pub tested_kind : ℕ → ℕ → Verdict → Option EventKind
  tested_kind most next v = cond (m.ends v || nat_eq next most) (Some Close) (cond (nat_lt next most) (Some Begin) None)

  abbrev pub until_kind : Table ℕ → ℕ → ℕ → List ℕ → ℕ → Option Verdict → Option EventKind
  until_kind lacks most n i next None = begun_kind lacks most n i next
  until_kind lacks most n i next (Some v) = tested_kind most next v

  -- an open container
  abbrev pub open_kind : Table ℕ → ℕ → ShapeTree → ℕ → List ℕ → Opening Decision Verdict → Option EventKind
  open_kind lacks left leaf n i w = None
  open_kind lacks left (scope g) n i w = close_kind (lacks (address n i))
  open_kind lacks left (choice bs) n i w = cond (is_branch bs (m.taken w.decision)) (close_kind (lacks (address n i))) (Some Close)
  open_kind lacks left (foreach pace g) n i w = foreach_kind (most_of pace) left w.next (m.items w.decision)
  open_kind lacks left (until most g) n i w = until_kind lacks most n i w.next w.test

  -- what neither has a row nor runs nor is open: decided once nothing is waited for any more
  abbrev pub idle_kind : Table Row → Table ℕ → List Need → ShapeTree → ℕ → List ℕ → Option EventKind
  idle_kind rows waits after shape n i =
      cond (has_ended (waits (address n i))) None (Some (cond (gate m after n i rows) (begin_kind shape) Skip))

-- how many iterations an Until has at most, by what a plan has of it
abbrev pub count_of : ShapeTree → ℕ
count_of (until most g) = most
count_of leaf = 0
count_of (scope g) = 0
count_of (choice bs) = 0
count_of (foreach pace g) = 0

abbrev pub count_or_zero : Option EntryTree → ℕ
count_or_zero None = 0
count_or_zero (Some e) = count_of e.shape
