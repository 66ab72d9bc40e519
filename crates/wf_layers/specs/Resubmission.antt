-- Resubmission: rows kept from an old table, what is redone and what is closed again, and an environment with one layer more.
use Rattle.std.specs.Prelude.{◌≡◌, ℕ, Bool, true, false, ◌&&◌, ◌||◌, cond, not, List, [], Option, Some, None, ◌+◌, length}
use Rattle.wf_layers.specs.Definition.{Need, Kind, Leaf, Scope, Choice, Foreach, Until, Branches, no_branch, branch, Graph, done, add, has, holds, kind_of}
use Rattle.wf_layers.specs.Address.{Address, address, Table, same_at, is_within, SeenIn}
use Rattle.wf_layers.specs.Source.{Source, Sound, gate}
use Rattle.wf_layers.specs.Meaning.{meaning}
use Rattle.wf_layers.specs.Bound.{total, left}
use Rattle.wf_layers.specs.Redo.{IsRedo}
use Rattle.wf_layers.specs.Machine.{Opening, State, In, IsOpen, Event, place_of, Step, Run, IsOver, in_others, skip_others}
use Rattle.wf_layers.specs.Facts.{Facts}
use Rattle.wf_layers.specs.Laws.{ChangesOnlyThere, EventsAreFew, Exact}
use Rattle.wf_layers.specs.Variables.{IsIdle, SeesFinished, SeenAreThere, TestSees, Stores, OneOrder, IsLastWritten, StoreHolds, StoreHoldsAtTests, StoreHoldsAtEnds}

-- What is neither redone nor closed again is kept.
abbrev pub kept : (ℕ → Bool) → (ℕ → Bool) → ℕ → Bool
kept redo again n = not (redo n || again n)

-- THE ORDER OF A RESUBMISSION. `redo` are the actions that are redone, `again` the containers that are closed again.
abbrev mutual
  pub SplitIn : (ℕ → Bool) → (ℕ → Bool) → Kind → ℕ → Type 0
  SplitIn redo again Leaf n = again n ≡ false
  SplitIn redo again (Scope g) n = Split redo again g
  SplitIn redo again (Choice bs) n = SplitAny redo again bs
  -- a loop isn't closed again, and nothing in it is
  SplitIn redo again (Foreach pace g) n = (again n ≡ false) × ((q : ℕ) → has g q ≡ true → again q ≡ false) × Split redo again g
  SplitIn redo again (Until most g) n = (again n ≡ false) × ((q : ℕ) → has g q ≡ true → again q ≡ false) × Split redo again g

  pub SplitAny : (ℕ → Bool) → (ℕ → Bool) → Branches → Type 0
  SplitAny redo again no_branch = Unit {0}
  SplitAny redo again (branch b rest) = Split redo again b × SplitAny redo again rest

  pub Split : (ℕ → Bool) → (ℕ → Bool) → Graph → Type 0
  Split redo again done = Unit {0}
  Split redo again (add n after kind rest) =
      -- all inside a redone action is redone, and all inside a kept one is kept
      (redo n ≡ true → (q : ℕ) → holds kind q ≡ true → redo q ≡ true)
      × (kept redo again n ≡ true → (q : ℕ) → holds kind q ≡ true → kept redo again q ≡ true)
      × SplitIn redo again kind n × Split redo again rest

pub record IsSplit (d : Graph) (redo again : ℕ → Bool) : Type 0 where
  pub tree : Split redo again d
  pub apart : (n : ℕ) → again n ≡ true → redo n ≡ false
  -- what isn't redone sees only what is kept: nothing kept or closed again stands after a redone action or one that is closed again
  pub after : (z y : Address) → redo z.name ≡ false → SeenIn d z y → kept redo again y.name ≡ true

abbrev pub reopened : {Decision Verdict : Type 0} → Option Kind → Decision → Option (Opening Decision Verdict)
reopened None p = None
reopened (Some kind) p = Some (record { decision = p; next = 0; test = None })

module _ {Row Begun Decision Verdict : Type 0} where
  -- The environment a with the layer (redo, b): what is redone has the answers of b, and all else those of a.
  abbrev pub layered : Source Row Begun Decision Verdict → Source Row Begun Decision Verdict → (ℕ → Bool)
      → Source Row Begun Decision Verdict
  layered a b redo = record {
    status = a.status;
    skipped = a.skipped;
    start = λ x t. cond (redo x.name) (b.start x t) (a.start x t);
    tries = λ x p. cond (redo x.name) (b.tries x p) (a.tries x p);
    finish = λ x p t. cond (redo x.name) (b.finish x p t) (a.finish x p t);
    decide = λ x t. cond (redo x.name) (b.decide x t) (a.decide x t);
    taken = a.taken;
    items = a.items;
    test = λ x j t. cond (redo x.name) (b.test x j t) (a.test x j t);
    ends = a.ends;
    close = λ x d c v t. cond (redo x.name) (b.close x d c v t) (a.close x d c v t);
    halts = λ x t. cond (redo x.name) (b.halts x t) (a.halts x t);
    pinned = λ n. false;
    old = λ x. None;
    reclosed = λ n. false;
  }

  -- Pinned: kept actions have their rows of the old table r; a container that is closed again isn't asked for its gate, keeps its old
  -- decision, and its row is closed anew; all answers are those of b. Of a, the environment of old, only how rows, decisions and tests are
  -- read is used.
  abbrev pub pin : Source Row Begun Decision Verdict → Source Row Begun Decision Verdict → (ℕ → Bool) → (ℕ → Bool) → Table Row
      → (Address → Decision) → Source Row Begun Decision Verdict
  pin a b redo again r recall = record {
    status = a.status;
    skipped = a.skipped;
    start = b.start;
    tries = b.tries;
    finish = b.finish;
    decide = λ x t. cond (again x.name) (recall x) (b.decide x t);
    taken = a.taken;
    items = a.items;
    test = b.test;
    ends = a.ends;
    close = b.close;
    halts = b.halts;
    pinned = kept redo again;
    old = r;
    reclosed = again;
  }

  -- The containers that are closed again passed their gates in the old table.
  abbrev mutual
    pub PassedIn : Source Row Begun Decision Verdict → (ℕ → Bool) → Table Row → Kind → Type 0
    PassedIn a again r Leaf = Unit {0}
    PassedIn a again r (Scope g) = Passed a again r g
    PassedIn a again r (Choice bs) = PassedAny a again r bs
    PassedIn a again r (Foreach pace g) = Passed a again r g
    PassedIn a again r (Until most g) = Passed a again r g

    pub PassedAny : Source Row Begun Decision Verdict → (ℕ → Bool) → Table Row → Branches → Type 0
    PassedAny a again r no_branch = Unit {0}
    PassedAny a again r (branch b rest) = Passed a again r b × PassedAny a again r rest

    pub Passed : Source Row Begun Decision Verdict → (ℕ → Bool) → Table Row → Graph → Type 0
    Passed a again r done = Unit {0}
    Passed a again r (add n after kind rest) =
        (again n ≡ true → gate a after n [] r ≡ true) × PassedIn a again r kind × Passed a again r rest

  -- What an instance shows of a resubmission of the meaning of a: the split; that what is closed again ran there, and its decision is
  -- recalled as it was; and that a container's row, from its decision and the rows inside it, is the same in both environments.
  pub record IsResubmission (d : Graph) (depth : ℕ → ℕ) (a b : Source Row Begun Decision Verdict) (redo again : ℕ → Bool)
      (recall : Address → Decision) : Type 0 where
    pub split : IsSplit d redo again
    pub passed : Passed a again (meaning a depth d) d
    pub recalls : (n : ℕ) → again n ≡ true → recall (address n []) ≡ a.decide (address n []) (meaning a depth d)
    pub closes : (x : Address) (p : Decision) (c : ℕ) (v : Option Verdict) (t : Table Row) → again x.name ≡ true
        → b.close x p c v t ≡ a.close x p c v t

  -- The same from a set of chosen actions: what is redone and closed again is theirs, and each of them ran, that is, its row in the old
  -- table isn't a Skipped one.
  pub record IsSetResubmission (d : Graph) (depth : ℕ → ℕ) (a b : Source Row Begun Decision Verdict) (chosen redo again : ℕ → Bool)
      (recall : Address → Decision) : Type 0 where
    pub redone : IsRedo d chosen redo again
    pub ran : (n : ℕ) → chosen n ≡ true → meaning a depth d (address n []) ≡ Some a.skipped → ⊥
    pub recalls : (n : ℕ) → again n ≡ true → recall (address n []) ≡ a.decide (address n []) (meaning a depth d)
    pub closes : (x : Address) (p : Decision) (c : ℕ) (v : Option Verdict) (t : Table Row) → again x.name ≡ true
        → b.close x p c v t ≡ a.close x p c v t

  -- The resubmitted record is that of a fresh run in the environment with one layer more, at every address.
  abbrev pub ResubmissionIsFresh : Graph → (ℕ → ℕ) → Source Row Begun Decision Verdict → Source Row Begun Decision Verdict → (ℕ → Bool)
      → (ℕ → Bool) → (Address → Decision) → Type 0
  ResubmissionIsFresh d depth a b redo again recall =
      (x : Address) → is_within d [] x ≡ true → meaning (pin a b redo again (meaning a depth d) recall) depth d x ≡ meaning
      (layered a b redo) depth d x

  -- Old tables that agree on what the definition has give the same rows: a record stands for one table, however it is kept.
  abbrev pub OldTablesAgree : Graph → (ℕ → ℕ) → Source Row Begun Decision Verdict → Source Row Begun Decision Verdict → (ℕ → Bool)
      → (ℕ → Bool) → (Address → Decision) → Type 0
  OldTablesAgree d depth a b redo again recall =
      (t u : Table Row) → ((x : Address) → is_within d [] x ≡ true → t x ≡ u x)
      → (x : Address) → is_within d [] x ≡ true → meaning (pin a b redo again t recall) depth d x ≡ meaning
      (pin a b redo again u recall) depth d x

  -- THE STATE of a resubmission: kept rows are finished, and what is closed again is open with its old decision.
  abbrev pub resumed : Graph → (ℕ → Bool) → (ℕ → Bool) → Table Row → (Address → Decision) → State Row Begun Decision Verdict
  resumed d redo again r recall = record {
    rows = λ x. cond (kept redo again x.name) (r x) None;
    running = λ x. None;
    opens = λ x. cond (again x.name && same_at [] x.at) (reopened (kind_of d x.name) (recall x)) None;
  }

  -- In a choice that is closed again, all that is in branches that weren't taken is kept, and has Skipped rows in the old table r.
  abbrev pub OthersKept : Graph → Source Row Begun Decision Verdict → (ℕ → Bool) → (ℕ → Bool) → Table Row → (Address → Decision) → Type 0
  OthersKept d a redo again r recall =
      (n : ℕ) (bs : Branches) → again n ≡ true → kind_of d n ≡ Some (Choice bs) → (y : Address)
      → in_others bs (a.taken (recall (address n []))) [] y ≡ true
      → (kept redo again y.name ≡ true) × (r y ≡ skip_others a bs (a.taken (recall (address n []))) [] y)

  -- Or at least rows that say that nothing ran there.
  abbrev pub OthersIdle : Graph → Source Row Begun Decision Verdict → (ℕ → Bool) → (ℕ → Bool) → Table Row → (Address → Decision) → Type 0
  OthersIdle d a redo again r recall =
      (n : ℕ) (bs : Branches) → again n ≡ true → kind_of d n ≡ Some (Choice bs) → (y : Address)
      → in_others bs (a.taken (recall (address n []))) [] y ≡ true
      → (kept redo again y.name ≡ true) × ((q : Row) → r y ≡ Some q → IsIdle a q)

  -- What an old table has to hold, whether a run gave it or not: no rows outside the definition, a row at each kept action of a graph that
  -- is open from the start, and in the branches that weren't taken of what is closed again, all of it kept, only rows that say that nothing
  -- ran.
  pub record IsOldTable (d : Graph) (a : Source Row Begun Decision Verdict) (redo again : ℕ → Bool) (r : Table Row)
      (recall : Address → Decision) : Type 0 where
    pub split : IsSplit d redo again
    pub inside : (y : Address) → is_within d [] y ≡ false → r y ≡ None
    pub rows : (g : Graph) (n : ℕ) (after : List Need) (kind : Kind) → IsOpen {Decision = Decision} {Verdict = Verdict} a.taken d
        (λ x. cond (again x.name && same_at [] x.at) (reopened (kind_of d x.name) (recall x)) None) g [] → In g n after kind
        → kept redo again n ≡ true → r (address n []) ≡ None → ⊥
    pub others : OthersIdle d a redo again r recall

  -- From that state, whatever order events are taken in, each row is the resubmitted record's,
  abbrev pub ResumedRows : Graph → (ℕ → ℕ) → Source Row Begun Decision Verdict → Source Row Begun Decision Verdict → (ℕ → Bool) → (ℕ → Bool)
      → Table Row → (Address → Decision) → Type 0
  ResumedRows d depth a b redo again r recall =
      (es : List Event) (s : State Row Begun Decision Verdict) → Run d (pin a b redo again r recall) (resumed d redo again r recall) es s
      → (x : Address) (q : Row) → s.rows x ≡ Some q → meaning (pin a b redo again r recall) depth d x ≡ Some q

  -- and where nothing is enabled, all of its rows are there, and there were as many events as the resubmitted rows give the definition:
  -- none for what is kept, all but an Open for what is closed again.
  abbrev pub ResumedAtTheEnd : Graph → (ℕ → ℕ) → Source Row Begun Decision Verdict → Source Row Begun Decision Verdict → (ℕ → Bool)
      → (ℕ → Bool) → Table Row → (Address → Decision) → Type 0
  ResumedAtTheEnd d depth a b redo again r recall =
      (es : List Event) (s : State Row Begun Decision Verdict) → Run d (pin a b redo again r recall) (resumed d redo again r recall) es s
      → IsOver d (pin a b redo again r recall) s
      → ((x : Address) → is_within d [] x ≡ true → s.rows x ≡ meaning (pin a b redo again r recall) depth d x)
      × (length es ≡ total (pin a b redo again r recall) (meaning (pin a b redo again r recall) depth d) d [])

  -- At each moment the events of such a run so far and those that are left are that many.
  abbrev pub ResumedEnds : Graph → (ℕ → ℕ) → Source Row Begun Decision Verdict → Source Row Begun Decision Verdict → (ℕ → Bool) → (ℕ → Bool)
      → Table Row → (Address → Decision) → Type 0
  ResumedEnds d depth a b redo again r recall =
      (es : List Event) (s : State Row Begun Decision Verdict) → Run d (pin a b redo again r recall) (resumed d redo again r recall) es s
      → length es + left (pin a b redo again r recall) (meaning (pin a b redo again r recall) depth d) s d []
      ≡ total (pin a b redo again r recall) (meaning (pin a b redo again r recall) depth d) d []

  -- And 32 times their number is at most the cost of the entries of the state.
  abbrev pub ResumedFew : (RowAt LeafAt OpenAt : Type 0) → Graph → (ℕ → ℕ) → Source Row Begun Decision Verdict
      → Source Row Begun Decision Verdict → (ℕ → Bool) → (ℕ → Bool) → Table Row → (Address → Decision) → Type 0
  ResumedFew RowAt LeafAt OpenAt d depth a b redo again r recall =
      (es : List Event) (s : State Row Begun Decision Verdict) → Run d (pin a b redo again r recall) (resumed d redo again r recall) es s
      → EventsAreFew RowAt LeafAt OpenAt d (pin a b redo again r recall)
      (meaning (pin a b redo again r recall) depth d) s es

  -- Each state that such a run reaches has the facts, with the resubmitted rows; at most one event is enabled at an address; and decided
  -- actions and tests see what they have an order with.
  abbrev pub ResumedFacts : Graph → (ℕ → ℕ) → Source Row Begun Decision Verdict → Source Row Begun Decision Verdict → (ℕ → Bool)
      → (ℕ → Bool) → Table Row → (Address → Decision) → Type 0
  ResumedFacts d depth a b redo again r recall =
      (es : List Event) (s : State Row Begun Decision Verdict) → Run d (pin a b redo again r recall) (resumed d redo again r recall) es s
      → Facts d (pin a b redo again r recall) (meaning (pin a b redo again r recall) depth d) s

  abbrev pub ResumedOneEvent : Graph → (ℕ → ℕ) → Source Row Begun Decision Verdict → Source Row Begun Decision Verdict → (ℕ → Bool)
      → (ℕ → Bool) → Table Row → (Address → Decision) → Type 0
  ResumedOneEvent d depth a b redo again r recall =
      (es : List Event) (s : State Row Begun Decision Verdict) → Run d (pin a b redo again r recall) (resumed d redo again r recall) es s
      → (e e' : Event) (s1 s2 : State Row Begun Decision Verdict) → Step d (pin a b redo again r recall) s e s1
      → Step d (pin a b redo again r recall) s e' s2 → place_of e ≡ place_of e' → e ≡ e'

  -- and the table of events is exact
  abbrev pub ResumedExact : Graph → Source Row Begun Decision Verdict → Source Row Begun Decision Verdict → (ℕ → Bool) → (ℕ → Bool)
      → Table Row → (Address → Decision) → Type 0
  ResumedExact d a b redo again r recall =
      (es : List Event) (s : State Row Begun Decision Verdict) → Run d (pin a b redo again r recall) (resumed d redo again r recall) es s
      → Exact d (pin a b redo again r recall) s

  -- and changes only where it may
  abbrev pub ResumedChanges : Graph → Source Row Begun Decision Verdict → Source Row Begun Decision Verdict → (ℕ → Bool) → (ℕ → Bool)
      → Table Row → (Address → Decision) → Type 0
  ResumedChanges d a b redo again r recall =
      (es : List Event) (s : State Row Begun Decision Verdict) → Run d (pin a b redo again r recall) (resumed d redo again r recall) es s
      → ChangesOnlyThere d (pin a b redo again r recall) s

  abbrev pub ResumedInOrder : Graph → (ℕ → ℕ) → Source Row Begun Decision Verdict → Source Row Begun Decision Verdict → (ℕ → Bool)
      → (ℕ → Bool) → Table Row → (Address → Decision) → Type 0
  ResumedInOrder d depth a b redo again r recall =
      (es : List Event) (s : State Row Begun Decision Verdict) → Run d (pin a b redo again r recall) (resumed d redo again r recall) es s
      → SeesFinished d (pin a b redo again r recall) s × SeenAreThere d (pin a b redo again r recall)
      (meaning (pin a b redo again r recall) depth d) s
      × TestSees d (pin a b redo again r recall) (meaning (pin a b redo again r recall) depth d) s

  -- A store that begins with the value of the last kept writer, or none, goes on as that of a run from a fresh state.
  abbrev pub ResumedStore : {Value : Type 0} → Graph → (ℕ → ℕ) → Source Row Begun Decision Verdict → Source Row Begun Decision Verdict
      → (ℕ → Bool) → (ℕ → Bool) → Table Row → (Address → Decision) → (Address → Row → Option Value) → Type 0
  ResumedStore {Value} d depth a b redo again r recall writes =
      OneOrder d (pin a b redo again r recall) writes (meaning (pin a b redo again r recall) depth d)
      → (v0 : Option Value) → IsLastWritten d (pin a b redo again r recall) writes (λ x. cond (kept redo again x.name) (r x) None) v0
      → (es : List Event) (s : State Row Begun Decision Verdict) (v : Option Value)
      → Stores d (pin a b redo again r recall) writes (resumed d redo again r recall) es s v0 v
      → IsLastWritten d (pin a b redo again r recall) writes s.rows v
      × StoreHolds d (pin a b redo again r recall) writes (meaning (pin a b redo again r recall) depth d) s v
      × StoreHoldsAtTests d (pin a b redo again r recall) writes (meaning (pin a b redo again r recall) depth d) s v
      × StoreHoldsAtEnds d (pin a b redo again r recall) writes (meaning (pin a b redo again r recall) depth d) s v

  -- What is redone has the same answers in both environments.
  pub record SameAnswers (a b : Source Row Begun Decision Verdict) (redo : ℕ → Bool) : Type 0 where
    pub start : (x : Address) (t : Table Row) → redo x.name ≡ true → b.start x t ≡ a.start x t
    pub tries : (x : Address) (p : Begun) → redo x.name ≡ true → b.tries x p ≡ a.tries x p
    pub finish : (x : Address) (p : Begun) (t : Table Row) → redo x.name ≡ true → b.finish x p t ≡ a.finish x p t
    pub decide : (x : Address) (t : Table Row) → redo x.name ≡ true → b.decide x t ≡ a.decide x t
    pub test : (x : Address) (j : ℕ) (t : Table Row) → redo x.name ≡ true → b.test x j t ≡ a.test x j t
    pub close : (x : Address) (p : Decision) (c : ℕ) (v : Option Verdict) (t : Table Row) → redo x.name ≡ true
        → b.close x p c v t ≡ a.close x p c v t
    pub halts : (x : Address) (t : Table Row) → redo x.name ≡ true → b.halts x t ≡ a.halts x t

  -- With the old answers everywhere, the resubmitted record is the old one.
  abbrev pub OldAnswersGiveTheOldRows : Graph → (ℕ → ℕ) → Source Row Begun Decision Verdict → Source Row Begun Decision Verdict → (ℕ → Bool)
      → (ℕ → Bool) → (Address → Decision) → Type 0
  OldAnswersGiveTheOldRows d depth a b redo again recall =
      SameAnswers a b redo → (x : Address) → is_within d [] x ≡ true
      → meaning (pin a b redo again (meaning a depth d) recall) depth d x ≡ meaning a depth d x

  -- A resubmitted record may be resubmitted again: to it as the old table the law applies once more, with two layers.
  abbrev pub MayBeResubmittedAgain : Graph → (ℕ → ℕ) → Source Row Begun Decision Verdict → Source Row Begun Decision Verdict → (ℕ → Bool)
      → (ℕ → Bool) → (Address → Decision) → Type 0
  MayBeResubmittedAgain d depth a b redo again recall =
      (c : Source Row Begun Decision Verdict) (redo' again' : ℕ → Bool) (recall' : Address → Decision) → Sound c (SeenIn d) d 0
      → IsResubmission d depth (layered a b redo) c redo' again' recall'
      → (x : Address) → is_within d [] x ≡ true
      → meaning (pin (layered a b redo) c redo' again' (meaning (pin a b redo again (meaning a depth d) recall) depth d) recall') depth d x
      ≡ meaning (layered (layered a b redo) c redo') depth d x
