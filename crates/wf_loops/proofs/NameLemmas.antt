-- Which actions are named where something is earlier.
use Rattle.std.proofs.Common.{◌≡◌, ℕ, Bool, true, false, ◌&&◌, ◌||◌, List, [], ◌∷◌, ◌++◌, inl, inr, sym, ap, ◌∙◌, true≢false, nat_eq}
use Rattle.wf_order.specs.Definition.{Kind, Leaf, Scope, Choice, Foreach, Until, Branches, no_branch, branch, Graph, done, add, holds, has}
use Rattle.wf_order.specs.Definition.{has_any}
use Rattle.wf_order.specs.Address.{Address, starts, is_in, is_within, earlier_in, earlier_any, together}
use Rattle.wf_order.proofs.Basics.{two, and_in, or_first, or_second}

pub not_in : (n : ℕ) (kind : Kind) (rest : Graph) (i : List ℕ) (y : Address)
    → ((m : ℕ) → (nat_eq n m || holds kind m) ≡ true → has rest m ≡ false) → has rest y.name ≡ true → is_in n kind i y ≡ false
not_in n kind rest i y apart h = elim (two (nat_eq n y.name || holds kind y.name)) [
  | inl t ↦ absurd (true≢false (sym h ∙ apart y.name t))
  | inr f ↦ ap (λ (b : Bool). b && starts i y.at) f
]

pub within_has : (g : Graph) (i : List ℕ) (y : Address) → is_within g i y ≡ true → has g y.name ≡ true
within_has g i y w = (and_in (has g y.name) (starts i y.at) w).0

pub within_starts : (g : Graph) (i : List ℕ) (y : Address) → is_within g i y ≡ true → starts i y.at ≡ true
within_starts g i y w = (and_in (has g y.name) (starts i y.at) w).1

module _ (low : ℕ → ℕ → Type 0) where
  pub earlier_has_any : (bs : Branches) (i : List ℕ) (y z : Address) → earlier_any low bs i y z
      → (has_any bs y.name ≡ true) × (has_any bs z.name ≡ true)
  earlier_has_any no_branch i y z e = absurd e
  earlier_has_any (branch b rest) i y z (inl h) = (
    or_first (has b y.name) (has_any rest y.name) (within_has b i y h.0),
    or_first (has b z.name) (has_any rest z.name) (within_has b i z h.1),
  )
  earlier_has_any (branch b rest) i y z (inr h) =
      let r = earlier_has_any rest i y z h in
      (or_second (has b y.name) (has_any rest y.name) r.0, or_second (has b z.name) (has_any rest z.name) r.1)

  pub earlier_has : (kind : Kind) (i : List ℕ) (y z : Address) → earlier_in low kind i y z
      → (holds kind y.name ≡ true) × (holds kind z.name ≡ true)
  earlier_has Leaf i y z e = absurd e
  earlier_has (Scope g) i y z e = (within_has g i y e.0, within_has g i z e.1)
  earlier_has (Choice bs) i y z e = earlier_has_any bs i y z e
  earlier_has (Foreach pace g) i y z (inl h) = (within_has g (i ++ h.0 ∷ []) y h.1, within_has g (i ++ h.0 ∷ []) z h.2)
  earlier_has (Foreach pace g) i y z (inr h) = (within_has g (i ++ h.0 ∷ []) y h.4, within_has g (i ++ h.1 ∷ []) z h.5)
  earlier_has (Until most g) i y z (inl h) = (within_has g (i ++ h.0 ∷ []) y h.1, within_has g (i ++ h.0 ∷ []) z h.2)
  earlier_has (Until most g) i y z (inr h) = (within_has g (i ++ h.0 ∷ []) y h.3, within_has g (i ++ h.1 ∷ []) z h.4)

  pub together_has : (g : Graph) (i : List ℕ) (y z : Address) → together low g i y z → has g y.name ≡ true
  together_has done i y z t = absurd t
  together_has (add n after kind rest) i y z (inl h) =
      or_first (nat_eq n y.name || holds kind y.name) (has rest y.name)
      (and_in (nat_eq n y.name || holds kind y.name) (starts i y.at) h.1).0
  together_has (add n after kind rest) i y z (inr h) =
      or_second (nat_eq n y.name || holds kind y.name) (has rest y.name) (together_has rest i y z h.1)
