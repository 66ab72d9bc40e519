-- Where rows stand: an action's name, and one index for each loop round it, outermost first; and which addresses a point may look at.
use Rattle.std.specs.Prelude.{◌≡◌, ℕ, ◌<◌, Bool, true, false, ◌&&◌, ◌||◌, cond, List, [], ◌∷◌, ◌++◌, Option, Some, None, nat_eq, ◌⊎◌}
use Rattle.wf_layers.specs.Definition.{InTurn, Kind, Leaf, Scope, Choice, Foreach, Until, Branches, no_branch, branch, Graph, done, add, holds, has, has_any, IsBefore}

pub record Address : Type 0 where
  pub name : ℕ
  pub at : List ℕ

abbrev pub address : ℕ → List ℕ → Address
address n i = record { name = n; at = i }

-- Rows, or other entries, by address.
abbrev pub Table : Type 0 → Type 0
Table A = Address → Option A

-- Equal lists of indexes, and one that begins with the other.
abbrev pub same_at : List ℕ → List ℕ → Bool
same_at [] [] = true
same_at [] (b ∷ bs) = false
same_at (a ∷ as') [] = false
same_at (a ∷ as') (b ∷ bs) = nat_eq a b && same_at as' bs

abbrev pub starts : List ℕ → List ℕ → Bool
starts [] bs = true
starts (a ∷ as') [] = false
starts (a ∷ as') (b ∷ bs) = nat_eq a b && starts as' bs

-- The address is that of the action n at the indexes i.
abbrev pub is_own : ℕ → List ℕ → Address → Bool
is_own n i x = nat_eq n x.name && same_at i x.at

-- The address is the action's or one inside it, at indexes that begin with i.
abbrev pub is_in : ℕ → Kind → List ℕ → Address → Bool
is_in n kind i x = (nat_eq n x.name || holds kind x.name) && starts i x.at

abbrev pub is_within : Graph → List ℕ → Address → Bool
is_within g i x = has g x.name && starts i x.at

abbrev pub is_among : Branches → List ℕ → Address → Bool
is_among bs i x = has_any bs x.name && starts i x.at

-- The action of this graph whose address it is or in which it lies.
abbrev pub owner : Graph → List ℕ → Address → Option ℕ
owner done i y = None
owner (add n after kind rest) i y = cond (is_in n kind i y) (Some n) (owner rest i y)

abbrev pub Lower : (ℕ → ℕ → Type 0) → Option ℕ → Option ℕ → Type 0
Lower low None b = ⊥
Lower low (Some a) None = ⊥
Lower low (Some a) (Some b) = low a b

module _ (low : ℕ → ℕ → Type 0) where
  -- The instance y is earlier than z inside a container: in one graph there y is in an action that is lower than the one in
  -- which z is; or both are in one action, and y is earlier in it; or y is in an earlier iteration of a loop that goes one after the other.
  abbrev mutual
    pub earlier_in : Kind → List ℕ → Address → Address → Type 0
    earlier_in Leaf i y z = ⊥
    earlier_in (Scope g) i y z =
        (is_within g i y ≡ true) × (is_within g i z ≡ true) × (Lower low (owner g i y) (owner g i z) ⊎ together g i y z)
    earlier_in (Choice bs) i y z = earlier_any bs i y z
    earlier_in (Foreach pace g) i y z =
        ((j : ℕ) × (is_within g (i ++ j ∷ []) y ≡ true) × (is_within g (i ++ j ∷ []) z ≡ true)
        × (Lower low (owner g (i ++ j ∷ []) y) (owner g (i ++ j ∷ []) z) ⊎ together g (i ++ j ∷ []) y z))
        ⊎ ((j : ℕ) × (m : ℕ) × (pace ≡ InTurn) × (j < m) × (is_within g (i ++ j ∷ []) y ≡ true) × (is_within g (i ++ m ∷ []) z ≡ true))
    earlier_in (Until most g) i y z =
        ((j : ℕ) × (is_within g (i ++ j ∷ []) y ≡ true) × (is_within g (i ++ j ∷ []) z ≡ true)
        × (Lower low (owner g (i ++ j ∷ []) y) (owner g (i ++ j ∷ []) z) ⊎ together g (i ++ j ∷ []) y z))
        ⊎ ((j : ℕ) × (m : ℕ) × (j < m) × (is_within g (i ++ j ∷ []) y ≡ true) × (is_within g (i ++ m ∷ []) z ≡ true))

    -- In one and the same branch.
    pub earlier_any : Branches → List ℕ → Address → Address → Type 0
    earlier_any no_branch i y z = ⊥
    earlier_any (branch b rest) i y z =
        ((is_within b i y ≡ true) × (is_within b i z ≡ true) × (Lower low (owner b i y) (owner b i z) ⊎ together b i y z))
        ⊎ earlier_any rest i y z

    -- Both in one action of the graph, and y is earlier in it.
    pub together : Graph → List ℕ → Address → Address → Type 0
    together done i y z = ⊥
    together (add n after kind rest) i y z =
        ((is_in n kind i z ≡ true) × (is_in n kind i y ≡ true) × earlier_in kind i y z) ⊎ ((is_in n kind i z ≡ false) × together rest i y z)

  abbrev pub IsEarlier : Graph → List ℕ → Address → Address → Type 0
  IsEarlier g i y z = Lower low (owner g i y) (owner g i z) ⊎ together g i y z

-- What a point at z may look at in the definition g: the instances that are earlier.
abbrev pub SeenIn : Graph → Address → Address → Type 0
SeenIn g z y = (is_within g [] y ≡ true) × IsEarlier (IsBefore g) g [] y z
