-- What an engine counts of a state beside its tables: of each action of an open graph, how much it still waits for; of each graph in an
-- open container, how many of its actions lack a row. A count of 0 isn't kept.
use Rattle.std.specs.Prelude.{◌≡◌, ℕ, zero, suc, ◌<◌, ◌-◌, ◌&&◌, true, false, cond, List, [], ◌∷◌, ◌++◌, Option, Some, None, length}
use Rattle.wf_layers.specs.Definition.{Need, Pace, Kind, Scope, Choice, Foreach, Until, Branches, Graph, done, add, branch_at, has_own, needs_of, kind_of}
use Rattle.wf_layers.specs.Address.{address, Table, same_at}
use Rattle.wf_layers.specs.Source.{Source}
use Rattle.wf_layers.specs.Machine.{Opening, State, Event, Begin, Open, place_of, IsThere}
use Rattle.wf_layers.specs.Waiting.{waiting, lacking, times}
use Rattle.wf_layers.specs.Changes.{places, is_named, enters}

abbrev pub nonzero : ℕ → Option ℕ
nonzero zero = None
nonzero (suc c) = Some (suc c)

-- a count that falls by c
abbrev pub less : ℕ → Option ℕ → Option ℕ
less c None = None
less c (Some k) = nonzero (k - c)

-- how many actions a graph has
abbrev pub size : Graph → ℕ
size done = 0
size (add n after kind rest) = suc (size rest)

-- An open graph in an open container: that of a Scope, the taken one of a Choice, that of a begun iteration.
pub data IsInner {Decision Verdict : Type 0} (taken : Decision → ℕ) (w : Opening Decision Verdict) (i : List ℕ) : Kind → Graph → List ℕ
    → Type 0 where
  in_scope : {h : Graph} → IsInner taken w i (Scope h) h i
  in_taken : {bs : Branches} {b : Graph} → branch_at bs (taken w.decision) ≡ Some b → IsInner taken w i (Choice bs) b i
  in_turn : {pace : Pace} {h : Graph} (j : ℕ) → j < w.next → IsInner taken w i (Foreach pace h) h (i ++ j ∷ [])
  in_round : {most : ℕ} {h : Graph} (j : ℕ) → j < w.next → IsInner taken w i (Until most h) h (i ++ j ∷ [])

module _ {Row Begun Decision Verdict : Type 0} (d : Graph) (m : Source Row Begun Decision Verdict) where
  -- THE COUNTS OF A STATE. A graph in a container goes by the container and the graph's indexes.
  pub record AreCounts (s : State Row Begun Decision Verdict) (waits lacks : Table ℕ) : Type 0 where
    pub waited : (n : ℕ) (i : List ℕ) (after : List Need) (kind : Kind) → IsThere d m s n i after kind
        → waits (address n i) ≡ nonzero (waiting after i s.rows)
    pub lacked : (n : ℕ) (i : List ℕ) (after : List Need) (kind : Kind) (w : Opening Decision Verdict) (h : Graph) (k : List ℕ)
        → IsThere d m s n i after kind → s.opens (address n i) ≡ Some w → IsInner m.taken w i kind h k
        → lacks (address n k) ≡ nonzero (lacking h k s.rows)

  -- WHAT AN EVENT MAKES OF THEM. In a graph that is entered an action waits for all that it names; where an action gets its row, each that
  -- names it waits for less.
  abbrev pub waits_after : State Row Begun Decision Verdict → Event → Table ℕ → Table ℕ
  waits_after s e waits x =
      cond (enters d s e x) (nonzero (length (needs_of d x.name)))
      (cond (places e && (is_named (needs_of d x.name) (place_of e).name && same_at (place_of e).at x.at))
      (less (times (needs_of d x.name) (place_of e).name) (waits x)) (waits x))

  -- Of a graph that is entered all actions lack a row; where an action gets its row, the graph that has it lacks one less.
  pub record AreLacksAfter (s : State Row Begun Decision Verdict) (e : Event) (s' : State Row Begun Decision Verdict)
      (lacks new : Table ℕ) : Type 0 where
    pub opened : (n : ℕ) (i : List ℕ) (kind : Kind) (w : Opening Decision Verdict) (h : Graph) (k : List ℕ) → e ≡ Open n i
        → kind_of d n ≡ Some kind → s'.opens (address n i) ≡ Some w → IsInner m.taken w i kind h k
        → new (address n k) ≡ nonzero (size h)
    pub begun : (n : ℕ) (i : List ℕ) (kind : Kind) (u w : Opening Decision Verdict) (h : Graph) → e ≡ Begin n i
        → kind_of d n ≡ Some kind → s.opens (address n i) ≡ Some u → s'.opens (address n i) ≡ Some w
        → IsInner m.taken w i kind h (i ++ u.next ∷ []) → new (address n (i ++ u.next ∷ [])) ≡ nonzero (size h)
    pub placed : (n : ℕ) (i : List ℕ) (kind : Kind) (u : Opening Decision Verdict) (h : Graph) (k : List ℕ) → kind_of d n ≡ Some kind
        → s.opens (address n i) ≡ Some u → IsInner m.taken u i kind h k
        → (places e && (has_own h (place_of e).name && same_at (place_of e).at k)) ≡ true
        → new (address n k) ≡ less 1 (lacks (address n k))
    pub others : (n : ℕ) (i : List ℕ) (kind : Kind) (u : Opening Decision Verdict) (h : Graph) (k : List ℕ) → kind_of d n ≡ Some kind
        → s.opens (address n i) ≡ Some u → IsInner m.taken u i kind h k
        → (places e && (has_own h (place_of e).name && same_at (place_of e).at k)) ≡ false
        → new (address n k) ≡ lacks (address n k)
