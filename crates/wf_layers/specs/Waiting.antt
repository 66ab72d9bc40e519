-- How much is waited for: how many entries of an action's `runAfter` have no row yet, and how many actions of a graph.
use Rattle.std.specs.Prelude.{◌≡◌, ℕ, suc, ◌+◌, true, false, cond, List, [], ◌∷◌, nat_eq}
use Rattle.wf_layers.specs.Definition.{Need, Names, Graph, done, add, has_own}
use Rattle.wf_layers.specs.Address.{address, Table}
use Rattle.wf_layers.specs.Seen.{Once}
use Rattle.wf_layers.specs.Machine.{has_ended, is_ended, all_ended}

-- how many of these actions haven't ended
abbrev pub waiting : {A : Type 0} → List Need → List ℕ → Table A → ℕ
waiting [] i t = 0
waiting (n ∷ ns) i t = cond (has_ended (t (address n.name i))) (waiting ns i t) (suc (waiting ns i t))

abbrev pub lacking : {A : Type 0} → Graph → List ℕ → Table A → ℕ
lacking done i t = 0
lacking (add n after kind rest) i t = cond (has_ended (t (address n i))) (lacking rest i t) (suc (lacking rest i t))

-- How many of the entries name the action: 1 at most, where each is named once.
abbrev pub times : List Need → ℕ → ℕ
times [] p = 0
times (n ∷ ns) p = cond (nat_eq n.name p) (suc (times ns p)) (times ns p)

-- From t to u the action p ends at these indexes, and of those that are looked at no other one does.
pub record Ends {A : Type 0} (Looks : ℕ → Type 0) (i : List ℕ) (p : ℕ) (t u : Table A) : Type 0 where
  pub before : has_ended (t (address p i)) ≡ false
  pub after : has_ended (u (address p i)) ≡ true
  pub others : (q : ℕ) → Looks q → nat_eq q p ≡ false → has_ended (t (address q i)) ≡ has_ended (u (address q i))

-- THE LAWS OF COUNTING. Nothing is waited for exactly where all have ended; as one action ends, each that names it waits for one less, and
-- the graph that has it lacks one less.
pub record Counts (A : Type 0) : Type 0 where
  pub waits_for_none : (after : List Need) (i : List ℕ) (t : Table A)
      → (waiting after i t ≡ 0 → all_ended after i t ≡ true) × (all_ended after i t ≡ true → waiting after i t ≡ 0)
  pub lacks_none : (g : Graph) (i : List ℕ) (t : Table A)
      → (lacking g i t ≡ 0 → is_ended g i t ≡ true) × (is_ended g i t ≡ true → lacking g i t ≡ 0)
  pub waits_for_less : (after : List Need) (i : List ℕ) (p : ℕ) (t u : Table A) → Ends (Names after) i p t u
      → waiting after i t ≡ waiting after i u + times after p
  pub lacks_less : (g : Graph) (i : List ℕ) (p : ℕ) (t u : Table A) → Once g → has_own g p ≡ true → Ends (λ q. has_own g q ≡ true) i p t u
      → lacking g i t ≡ suc (lacking g i u)
