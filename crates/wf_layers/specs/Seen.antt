-- What an action waits for is earlier than it: so a gate looks only at what is earlier, in each definition whose names stand once.
use Rattle.std.specs.Prelude.{◌≡◌, ℕ, suc, true, false, ◌||◌, List, length, nat_eq}
use Rattle.wf_layers.specs.Definition.{Names, Kind, Leaf, Scope, Choice, Foreach, Until, Branches, no_branch, branch, Graph, done, add, holds, has, has_any}
use Rattle.wf_layers.specs.Address.{Table, address, SeenIn}
use Rattle.wf_layers.specs.Source.{Source, Agrees, StartLocal, FinishLocal, CloseLocal, DecideLocal, TestLocal}

-- Each name stands once.
abbrev mutual
  pub OnceIn : Kind → Type 0
  OnceIn Leaf = Unit {0}
  OnceIn (Scope g) = Once g
  OnceIn (Choice bs) = OnceAny bs
  OnceIn (Foreach pace g) = Once g
  OnceIn (Until most g) = Once g

  pub OnceAny : Branches → Type 0
  OnceAny no_branch = Unit {0}
  OnceAny (branch b rest) = ((m : ℕ) → has b m ≡ true → has_any rest m ≡ false) × Once b × OnceAny rest

  pub Once : Graph → Type 0
  Once done = Unit {0}
  Once (add n after kind rest) =
      (holds kind n ≡ false) × ((m : ℕ) → (nat_eq n m || holds kind m) ≡ true → has rest m ≡ false) × OnceIn kind × Once rest

-- In l loops, each action of the graph sees what it waits for.
module _ (d : Graph) where
  abbrev mutual
    pub WaitsIn : Kind → ℕ → Type 0
    WaitsIn Leaf l = Unit {0}
    WaitsIn (Scope g) l = Waits g l
    WaitsIn (Choice bs) l = WaitsAny bs l
    WaitsIn (Foreach pace g) l = Waits g (suc l)
    WaitsIn (Until most g) l = Waits g (suc l)

    pub WaitsAny : Branches → ℕ → Type 0
    WaitsAny no_branch l = Unit {0}
    WaitsAny (branch b rest) l = Waits b l × WaitsAny rest l

    pub Waits : Graph → ℕ → Type 0
    Waits done l = Unit {0}
    Waits (add n after kind rest) l =
        ((i : List ℕ) → length i ≡ l → (p : ℕ) → Names after p → SeenIn d (address n i) (address p i)) × WaitsIn kind l × Waits rest l

-- In l loops, each answer of the source looks only at what is earlier: the premise of the laws, but for the names and for what is waited
-- for.
module _ {Row Begun Decision Verdict : Type 0} (d : Graph) (m : Source Row Begun Decision Verdict) where
  abbrev mutual
    pub AnswersIn : Kind → ℕ → ℕ → Type 0
    AnswersIn Leaf n l = StartLocal m (SeenIn d) n l × FinishLocal m (SeenIn d) n l
    AnswersIn (Scope g) n l = CloseLocal m (SeenIn d) (Scope g) n l × DecideLocal m (SeenIn d) n l × Answers g l
    AnswersIn (Choice bs) n l = CloseLocal m (SeenIn d) (Choice bs) n l × DecideLocal m (SeenIn d) n l × AnswersAny bs l
    AnswersIn (Foreach pace g) n l = CloseLocal m (SeenIn d) (Foreach pace g) n l × DecideLocal m (SeenIn d) n l × Answers g (suc l)
    AnswersIn (Until most g) n l =
        CloseLocal m (SeenIn d) (Until most g) n l × DecideLocal m (SeenIn d) n l × TestLocal m (SeenIn d) g n l × Answers g (suc l)

    pub AnswersAny : Branches → ℕ → Type 0
    AnswersAny no_branch l = Unit {0}
    AnswersAny (branch b rest) l = Answers b l × AnswersAny rest l

    pub Answers : Graph → ℕ → Type 0
    Answers done l = Unit {0}
    Answers (add n after kind rest) l =
        ((i : List ℕ) → length i ≡ l → (t u : Table Row) → Agrees (SeenIn d) (address n i) t u
        → m.halts (address n i) t ≡ m.halts (address n i) u) × AnswersIn kind n l × Answers rest l
