-- The addresses that a table of rows calls for by its own decisions.
use Rattle.std.specs.Prelude.{◌≡◌, ℕ, true, false, cond, List, Option, Some, None}
use Rattle.wf_layers.specs.Definition.{Need, Kind, Leaf, Scope, Choice, Foreach, Until, Branches, Graph, shows, plain_any, needs_of, kind_of}
use Rattle.wf_layers.specs.Address.{Address, address, Table}
use Rattle.wf_layers.specs.Source.{Source, gate}
use Rattle.wf_layers.specs.Meaning.{rounds}
use Rattle.wf_layers.specs.Machine.{Opening, In, IsOpen, in_others}

module _ {Row Begun Decision Verdict : Type 0} (m : Source Row Begun Decision Verdict) where
  -- How many iterations the rows give a loop.
  abbrev pub iterations : Kind → Address → Table Row → ℕ
  iterations Leaf x f = 0
  iterations (Scope g) x f = 0
  iterations (Choice bs) x f = 0
  iterations (Foreach pace g) x f = m.items (m.decide x f)
  iterations (Until most g) x f = rounds most 0 (λ j. m.ends (m.test x j f))

  abbrev pub entry : Option Kind → Address → Table Row → Option (Opening Decision Verdict)
  entry None x f = None
  entry (Some Leaf) x f = None
  entry (Some (Scope g)) x f = Some (record { decision = m.decide x f; next = 0; test = None })
  entry (Some (Choice bs)) x f = Some (record { decision = m.decide x f; next = 0; test = None })
  entry (Some (Foreach pace g)) x f = Some (record { decision = m.decide x f; next = iterations (Foreach pace g) x f; test = None })
  entry (Some (Until most g)) x f = Some (record { decision = m.decide x f; next = iterations (Until most g) x f; test = None })

  -- The containers that run by these rows, each with its decision and all of its iterations.
  abbrev pub entries : Graph → Table Row → Table (Opening Decision Verdict)
  entries d f x = cond (gate m (needs_of d x.name) x.name x.at f) (entry (kind_of d x.name) x f) None

-- An address is called for: it is that of an action of a graph that is entered; or its action is in no loop of a container that is skipped
-- there, or of a branch that isn't taken.
pub data IsCalled {Row Begun Decision Verdict : Type 0} (m : Source Row Begun Decision Verdict) (d : Graph) (f : Table Row) : Address
    → Type 0 where
  runs : {g : Graph} {i : List ℕ} {n : ℕ} {after : List Need} {kind : Kind} → IsOpen m.taken d (entries m d f) g i → In g n after kind
      → IsCalled m d f (address n i)
  in_skipped : {g : Graph} {i : List ℕ} {n : ℕ} {after : List Need} {kind : Kind} (q : ℕ) → IsOpen m.taken d (entries m d f) g i
      → In g n after kind → gate m after n i f ≡ false → shows kind q ≡ true → IsCalled m d f (address q i)
  not_taken : {g : Graph} {i : List ℕ} {n : ℕ} {after : List Need} {bs : Branches} (q : ℕ) → IsOpen m.taken d (entries m d f) g i
      → In g n after (Choice bs) → gate m after n i f ≡ true → in_others bs (m.taken (m.decide (address n i) f)) i (address q i) ≡ true
      → plain_any bs q ≡ true → IsCalled m d f (address q i)
