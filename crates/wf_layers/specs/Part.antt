-- A part of a definition: actions of which each looks only at actions of the part.
use Rattle.std.specs.Prelude.{◌≡◌, ℕ, Bool, true}
use Rattle.wf_layers.specs.Definition.{Kind, Leaf, Scope, Choice, Foreach, Until, Branches, no_branch, branch, Graph, done, add, holds}
use Rattle.wf_layers.specs.Address.{Address, SeenIn}

-- `part` are the actions of the part, `near` these and the containers round them.
module _ (part near : ℕ → Bool) where
  abbrev mutual
    pub RegionIn : Kind → ℕ → Type 0
    RegionIn Leaf n = Unit {0}
    RegionIn (Scope g) n = Region g
    RegionIn (Choice bs) n = RegionAny bs
    -- a loop round an action of the part is in the part
    RegionIn (Foreach pace g) n = (near n ≡ true → part n ≡ true) × Region g
    RegionIn (Until most g) n = (near n ≡ true → part n ≡ true) × Region g

    pub RegionAny : Branches → Type 0
    RegionAny no_branch = Unit {0}
    RegionAny (branch b rest) = Region b × RegionAny rest

    pub Region : Graph → Type 0
    Region done = Unit {0}
    Region (add n after kind rest) =
        -- with an action all inside it is in the part, and what is round an action of the part is near
        (part n ≡ true → (q : ℕ) → holds kind q ≡ true → part q ≡ true)
        × ((q : ℕ) → holds kind q ≡ true → part q ≡ true → near n ≡ true)
        × RegionIn kind n × Region rest

pub record IsPart (d : Graph) (part near : ℕ → Bool) : Type 0 where
  pub within : (n : ℕ) → part n ≡ true → near n ≡ true
  pub sees : (z y : Address) → near z.name ≡ true → SeenIn d z y → part y.name ≡ true
  pub tree : Region part near d
