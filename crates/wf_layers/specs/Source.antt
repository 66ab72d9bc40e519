-- Where answers come from: what each point gives in the rows that it sees. An instance of the laws supplies a source.
use Rattle.std.specs.Prelude.{◌≡◌, ℕ, suc, ◌<◌, Bool, true, false, ◌&&◌, ◌||◌, not, List, [], ◌∷◌, ◌++◌, length, Option, Some, None, nat_eq}
use Rattle.wf_layers.specs.Definition.{Status, Succeeded, Failed, Skipped, TimedOut, Cancelled, Need, Kind, Leaf, Scope, Choice, Foreach, Until, Branches, no_branch, branch, Graph, done, add, holds, has, has_any, Names}
use Rattle.wf_layers.specs.Address.{Address, address, Table, starts, is_within}

-- Row: what is kept of an ended action. Begun: what a leaf's Start gives, as its inputs. Decision: what a container finds as
-- it opens, a value, a fault or an excess. Verdict: what an Until's test gives, true, false or a fault.
pub record Source (Row Begun Decision Verdict : Type 0) : Type 0 where
  pub status : Row → Status
  -- the row of what is skipped
  pub skipped : Row
  -- a leaf: what its Start gives, how many attempts it then makes, and the row that it ends with
  pub start : Address → Table Row → Begun
  pub tries : Address → Begun → ℕ
  pub finish : Address → Begun → Table Row → Row
  -- a container: what it decides, which branch that means (from 1; any other number means none) and how many iterations
  pub decide : Address → Table Row → Decision
  pub taken : Decision → ℕ
  pub items : Decision → ℕ
  -- an Until: its test after the iteration of this index, and whether it ends the loop
  pub test : Address → ℕ → Table Row → Verdict
  pub ends : Verdict → Bool
  -- the row of a container, from its decision, the number of an Until's iterations and its last test
  pub close : Address → Decision → ℕ → Option Verdict → Table Row → Row
  -- what keeps an action from running beside its `runAfter`: a Terminate before it that Succeeded
  pub halts : Address → Table Row → Bool
  -- actions whose rows are kept from an old table, and containers that are closed again: these aren't asked for their gates
  pub pinned : ℕ → Bool
  pub old : Table Row
  pub reclosed : ℕ → Bool

abbrev pub same_status : Status → Status → Bool
same_status Succeeded Succeeded = true
same_status Failed Failed = true
same_status Skipped Skipped = true
same_status TimedOut TimedOut = true
same_status Cancelled Cancelled = true
same_status a b = false

abbrev pub is_listed : List Status → Status → Bool
is_listed [] s = false
is_listed (x ∷ xs) s = same_status x s || is_listed xs s

module _ {Row Begun Decision Verdict : Type 0} (s : Source Row Begun Decision Verdict) where
  -- An action that is waited for has a row with a listed status.
  abbrev pub is_met : List Status → Option Row → Bool
  is_met listed None = false
  is_met listed (Some r) = is_listed listed (s.status r)

  abbrev pub all_met : List Need → List ℕ → Table Row → Bool
  all_met [] i t = true
  all_met (n ∷ ns) i t = is_met n.listed (t (address n.name i)) && all_met ns i t

  -- The gate: whether the action n is to run.
  abbrev pub gate : List Need → ℕ → List ℕ → Table Row → Bool
  gate after n i t = all_met after i t && not (s.halts (address n i) t)

  -- The row of a leaf that runs.
  abbrev pub leaf : Address → Table Row → Row
  leaf x t = s.finish x (s.start x t) t

-- Tables that agree on all that a point sees.
abbrev pub Agrees : {A : Type 0} → (Address → Address → Type 0) → Address → Table A → Table A → Type 0
Agrees Sees z t u = (y : Address) → Sees z y → t y ≡ u y

-- In a graph at these indexes.
abbrev pub AgreesIn : {A : Type 0} → Graph → List ℕ → Table A → Table A → Type 0
AgreesIn g i t u = (y : Address) → is_within g i y ≡ true → t y ≡ u y

-- Inside a container.
abbrev pub AgreesInside : {A : Type 0} → Kind → List ℕ → Table A → Table A → Type 0
AgreesInside kind i t u = (y : Address) → (holds kind y.name && starts i y.at) ≡ true → t y ≡ u y

-- THE PREMISE OF THE LAWS: names stand once, and each answer is local, that is, a point looks only at what it sees. An action
-- that stands in l loops is asked at l indexes.
module _ {Row Begun Decision Verdict : Type 0} (s : Source Row Begun Decision Verdict) (Sees : Address → Address → Type 0) where
  -- what it waits for is seen, and what halts it is local
  abbrev pub GateLocal : List Need → ℕ → ℕ → Type 0
  GateLocal after n l =
      ((i : List ℕ) → length i ≡ l → (p : ℕ) → Names after p → Sees (address n i) (address p i))
      × ((i : List ℕ) → length i ≡ l → (t u : Table Row) → Agrees Sees (address n i) t u
      → s.halts (address n i) t ≡ s.halts (address n i) u)

  abbrev pub StartLocal : ℕ → ℕ → Type 0
  StartLocal n l =
      (i : List ℕ) → length i ≡ l → (t u : Table Row) → Agrees Sees (address n i) t u → s.start (address n i) t ≡ s.start (address n i) u

  abbrev pub FinishLocal : ℕ → ℕ → Type 0
  FinishLocal n l =
      (i : List ℕ) → length i ≡ l → (t u : Table Row) (b : Begun) → Agrees Sees (address n i) t u
      → s.finish (address n i) b t ≡ s.finish (address n i) b u

  -- the row of a container also looks at what is inside it
  abbrev pub CloseLocal : Kind → ℕ → ℕ → Type 0
  CloseLocal kind n l =
      (i : List ℕ) → length i ≡ l → (t u : Table Row) (d : Decision) (c : ℕ) (v : Option Verdict) → Agrees Sees (address n i) t u
      → AgreesInside kind i t u → s.close (address n i) d c v t ≡ s.close (address n i) d c v u

  abbrev pub DecideLocal : ℕ → ℕ → Type 0
  DecideLocal n l =
      (i : List ℕ) → length i ≡ l → (t u : Table Row) → Agrees Sees (address n i) t u → s.decide (address n i) t ≡ s.decide (address n i) u

  -- a test looks at the iterations so far, too
  abbrev pub TestLocal : Graph → ℕ → ℕ → Type 0
  TestLocal g n l =
      (i : List ℕ) → length i ≡ l → (t u : Table Row) (j : ℕ) → Agrees Sees (address n i) t u
      → ((m : ℕ) → m < suc j → AgreesIn g (i ++ m ∷ []) t u) → s.test (address n i) j t ≡ s.test (address n i) j u

  abbrev mutual
    pub SoundIn : Kind → ℕ → ℕ → Type 0
    SoundIn Leaf n l = StartLocal n l × FinishLocal n l
    SoundIn (Scope g) n l = CloseLocal (Scope g) n l × DecideLocal n l × Sound g l
    SoundIn (Choice bs) n l = CloseLocal (Choice bs) n l × DecideLocal n l × SoundAny bs l
    SoundIn (Foreach pace g) n l = CloseLocal (Foreach pace g) n l × DecideLocal n l × Sound g (suc l)
    SoundIn (Until most g) n l = CloseLocal (Until most g) n l × DecideLocal n l × TestLocal g n l × Sound g (suc l)

    pub SoundAny : Branches → ℕ → Type 0
    SoundAny no_branch l = Unit {0}
    SoundAny (branch b rest) l = ((m : ℕ) → has b m ≡ true → has_any rest m ≡ false) × Sound b l × SoundAny rest l

    pub Sound : Graph → ℕ → Type 0
    Sound done l = Unit {0}
    Sound (add n after kind rest) l =
        GateLocal after n l
        × (holds kind n ≡ false)
        × ((m : ℕ) → (nat_eq n m || holds kind m) ≡ true → has rest m ≡ false)
        × SoundIn kind n l × Sound rest l
