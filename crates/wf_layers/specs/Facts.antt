-- What is known of each reached state of the machine: a table f of rows that obeys the rule, as the meaning, is what it comes to.
use Rattle.std.specs.Prelude.{◌≡◌, ℕ, suc, ◌<◌, ◌≤◌, true, false, ◌||◌, List, [], ◌∷◌, ◌++◌, Some, None, ◌⊎◌}
use Rattle.wf_layers.specs.Definition.{Need, Pace, InTurn, AtMost, Kind, Leaf, Scope, Choice, Foreach, Until, Branches, Graph, branch_at, kind_of}
use Rattle.wf_layers.specs.Address.{Address, address, Table, is_in, is_within, SeenIn}
use Rattle.wf_layers.specs.Source.{Source, gate, leaf}
use Rattle.wf_layers.specs.Meaning.{skip}
use Rattle.wf_layers.specs.Machine.{Running, Opening, State, in_others, skip_others, unfinished, In, IsThere, IsDecided}

module _ {Row Begun Decision Verdict : Type 0} (m : Source Row Begun Decision Verdict) (f : Table Row) where
  -- All that f has in the graph at these indexes is there.
  abbrev pub Settled : Table Row → Graph → List ℕ → Type 0
  Settled t g i = (y : Address) → is_within g i y ≡ true → t y ≡ f y

  -- And in the branches that aren't taken.
  abbrev pub SettledOthers : Table Row → Branches → ℕ → List ℕ → Type 0
  SettledOthers t bs c i = (y : Address) → in_others bs c i y ≡ true → t y ≡ f y

  -- What is known of an open container: its decision is that of f. A loop has begun at most as many iterations as f has; of a sequential
  -- one all but the last are finished. Of an Until, also the tests so far are those of f, and all before the last iteration were to go on.
  abbrev pub OpenFact : Table Row → Kind → ℕ → List ℕ → Opening Decision Verdict → Type 0
  OpenFact t Leaf n i w = ⊥
  OpenFact t (Scope h) n i w = w.decision ≡ m.decide (address n i) f
  OpenFact t (Choice bs) n i w = (w.decision ≡ m.decide (address n i) f) × SettledOthers t bs (m.taken w.decision) i
  OpenFact t (Foreach pace h) n i w =
      (w.decision ≡ m.decide (address n i) f) × (w.next ≤ m.items w.decision)
      × (pace ≡ InTurn → (j : ℕ) → suc j < w.next → Settled t h (i ++ j ∷ []))
      × (m.reclosed n ≡ false)
  OpenFact t (Until most h) n i w =
      (w.next ≤ most)
      × ((j : ℕ) → suc j < w.next → (m.ends (m.test (address n i) j f) ≡ false) × Settled t h (i ++ j ∷ []))
      × ((v : Verdict) → w.test ≡ Some v → (j : ℕ) × (w.next ≡ suc j) × (m.test (address n i) j f ≡ v) × Settled t h (i ++ j ∷ []))
      × (m.reclosed n ≡ false)
      × (w.decision ≡ m.decide (address n i) f)

-- The instance is running or open.
abbrev pub IsBusy : {Row Begun Decision Verdict : Type 0} → State Row Begun Decision Verdict → Address → Type 0
IsBusy {Row} {Begun} {Decision} {Verdict} s x =
    ((w : Running Begun) × (s.running x ≡ Some w)) ⊎ ((w : Opening Decision Verdict) × (s.opens x ≡ Some w))

-- WHERE A ROW MAY STAND, from a graph on: at or in a finished action; in a branch that isn't taken of an open If or Switch; or, again so,
-- in the graph of an open Scope, in the taken branch, or in a begun iteration. So what is round a finished row is open or finished, and a
-- loop has rows in begun iterations alone.
pub data IsRooted {Row Decision Verdict : Type 0} (taken : Decision → ℕ) (t : Table Row) (o : Table (Opening Decision Verdict))
    (y : Address) : Graph → List ℕ → Type 0 where
  finished : {g : Graph} {i : List ℕ} {n : ℕ} {after : List Need} {kind : Kind} {r : Row}
      → In g n after kind → t (address n i) ≡ Some r → is_in n kind i y ≡ true → IsRooted taken t o y g i
  passed : {g : Graph} {i : List ℕ} {n : ℕ} {after : List Need} {bs : Branches} {w : Opening Decision Verdict}
      → In g n after (Choice bs) → o (address n i) ≡ Some w → in_others bs (taken w.decision) i y ≡ true → IsRooted taken t o y g i
  in_scope : {g h : Graph} {i : List ℕ} {n : ℕ} {after : List Need} {w : Opening Decision Verdict}
      → In g n after (Scope h) → o (address n i) ≡ Some w → IsRooted taken t o y h i → IsRooted taken t o y g i
  in_branch : {g b : Graph} {i : List ℕ} {n : ℕ} {after : List Need} {bs : Branches} {w : Opening Decision Verdict}
      → In g n after (Choice bs) → o (address n i) ≡ Some w → branch_at bs (taken w.decision) ≡ Some b → IsRooted taken t o y b i
      → IsRooted taken t o y g i
  in_turn : {g h : Graph} {i : List ℕ} {n : ℕ} {after : List Need} {pace : Pace} {w : Opening Decision Verdict} (j : ℕ)
      → In g n after (Foreach pace h) → o (address n i) ≡ Some w → j < w.next → IsRooted taken t o y h (i ++ j ∷ [])
      → IsRooted taken t o y g i
  in_round : {g h : Graph} {i : List ℕ} {n most : ℕ} {after : List Need} {w : Opening Decision Verdict} (j : ℕ)
      → In g n after (Until most h) → o (address n i) ≡ Some w → j < w.next → IsRooted taken t o y h (i ++ j ∷ [])
      → IsRooted taken t o y g i

-- THE FACTS OF A STATE
pub record Facts {Row Begun Decision Verdict : Type 0} (d : Graph) (m : Source Row Begun Decision Verdict) (f : Table Row)
    (s : State Row Begun Decision Verdict) : Type 0 where
  -- each row is that of f
  pub rows : (x : Address) (r : Row) → s.rows x ≡ Some r → f x ≡ Some r
  -- a running leaf has begun as it does in f, has made the first of its attempts there, and f has its row
  pub running : (x : Address) (w : Running Begun) → s.running x ≡ Some w → (w.begun ≡ m.start x f) × (w.tries ≤ m.tries x w.begun)
      × (f x ≡ Some (leaf m x f))
  -- a running leaf and an open container stand in an open graph, and have no row yet
  pub stands : (x : Address) → IsBusy s x → (after : List Need) × (kind : Kind) × IsThere d m s x.name x.at after kind
  pub no_row : (x : Address) → IsBusy s x → s.rows x ≡ None
  -- all that is earlier than a finished, running or open instance is there as f has it
  pub before_row : (x : Address) (r : Row) → s.rows x ≡ Some r → (y : Address) → SeenIn d x y → s.rows y ≡ f y
  pub before_running : (x : Address) (w : Running Begun) → s.running x ≡ Some w → (y : Address) → SeenIn d x y → s.rows y ≡ f y
  pub before_open : (x : Address) (w : Opening Decision Verdict) → s.opens x ≡ Some w → (y : Address) → SeenIn d x y → s.rows y ≡ f y
  -- a finished container is whole
  pub whole : (n : ℕ) (i : List ℕ) (r : Row) (kind : Kind) → s.rows (address n i) ≡ Some r → kind_of d n ≡ Some kind → (y : Address)
      → is_in n kind i y ≡ true → s.rows y ≡ f y
  -- decisions, begun iterations and tests of open containers
  pub opens : (n : ℕ) (i : List ℕ) (w : Opening Decision Verdict) (kind : Kind) → s.opens (address n i) ≡ Some w → kind_of d n ≡ Some kind
      → OpenFact m f s.rows kind n i w
  -- a concurrent loop has at most as many unfinished iterations as its limit
  pub limit : (n : ℕ) (i : List ℕ) (w : Opening Decision Verdict) (most : ℕ) (h : Graph) → s.opens (address n i) ≡ Some w
      → kind_of d n ≡ Some (Foreach (AtMost most) h) → unfinished h i s.rows w.next ≤ most
  -- rows in branches that aren't taken are Skipped
  pub others : (n : ℕ) (i : List ℕ) (after : List Need) (bs : Branches) (w : Opening Decision Verdict) → IsThere d m s n i after (Choice bs)
      → s.opens (address n i) ≡ Some w → (y : Address) → in_others bs (m.taken w.decision) i y ≡ true
      → s.rows y ≡ skip_others m bs (m.taken w.decision) i y
  -- and so are all rows in a container that didn't run
  pub skipped : (n : ℕ) (i : List ℕ) (after : List Need) (kind : Kind) (r : Row)
      → IsThere d m s n i after kind → m.pinned n ≡ false → m.reclosed n ≡ false → s.rows (address n i) ≡ Some r
      → gate m after n i f ≡ false → (y : Address) → is_in n kind i y ≡ true → s.rows y ≡ skip m n kind i y
  -- what is round a finished row is open or finished, and a loop has rows in begun iterations alone
  pub rooted : (y : Address) (r : Row) → s.rows y ≡ Some r → IsRooted m.taken s.rows s.opens y d []
  -- so nothing in an action that is only now decided has a row
  pub untouched : (n : ℕ) (i : List ℕ) (after : List Need) (kind : Kind) → IsDecided d m s n i after kind → (y : Address)
      → is_in n kind i y ≡ true → s.rows y ≡ None
  -- and in an open Until rows stand in begun iterations
  pub begun : (n : ℕ) (i : List ℕ) (after : List Need) (most : ℕ) (h : Graph) (w : Opening Decision Verdict)
      → IsThere d m s n i after (Until most h) → s.opens (address n i) ≡ Some w
      → (y : Address) (r : Row) → s.rows y ≡ Some r → is_in n (Until most h) i y ≡ true
      → (j : ℕ) × (j < w.next) × (is_within h (i ++ j ∷ []) y ≡ true)
  -- the gate of an open container held, but for one that is closed again, which isn't asked
  pub gates : (n : ℕ) (i : List ℕ) (after : List Need) (kind : Kind) (w : Opening Decision Verdict) → IsThere d m s n i after kind
      → s.opens (address n i) ≡ Some w → (m.reclosed n || gate m after n i f) ≡ true
