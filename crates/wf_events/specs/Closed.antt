-- What the row of a container tells of its loop.
use Rattle.std.specs.Prelude.{ℕ, cond, nat_lt, Option, None, Some}
use Rattle.wf_tables.specs.Plan.{EntryTree, ShapeTree, leaf, scope, choice, foreach, until}

-- the iterations of an Until, at most as many as it may have; of any other container 0
abbrev pub iterations_of : ShapeTree → ℕ → ℕ
iterations_of (until most g) next = cond (nat_lt next most) next most
iterations_of leaf next = 0
iterations_of (scope g) next = 0
iterations_of (choice bs) next = 0
iterations_of (foreach pace g) next = 0

-- the last test of an Until; of any other container none
abbrev pub last_of : {Verdict : Type 0} → ShapeTree → Option Verdict → Option Verdict
last_of (until most g) test = test
last_of leaf test = None
last_of (scope g) test = None
last_of (choice bs) test = None
last_of (foreach pace g) test = None

-- by what a plan has of it
abbrev pub iterations_by : Option EntryTree → ℕ → ℕ
iterations_by None next = 0
iterations_by (Some e) next = iterations_of e.shape next

abbrev pub last_by : {Verdict : Type 0} → Option EntryTree → Option Verdict → Option Verdict
last_by None test = None
last_by (Some e) test = last_of e.shape test
