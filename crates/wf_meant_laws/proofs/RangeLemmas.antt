-- Each number that a graph has is that of an action.
use Rattle.std.proofs.Common.{◌≡◌, ℕ, Bool, true, false, List, [], ◌∷◌, map, Some, inl, inr, ◌∙◌, sym, true≢false, nat_eq}
use Rattle.std.specs.Prelude.{◌||◌}
use Rattle.std.specs.List.{find, list_any}
use Rattle.wf_layers.proofs.Basics.{two, when, unless}
use Rattle.wf_seen_laws.specs.ActionTree.{ActionTree, action_number}
use Rattle.wf_seen_laws.specs.AllActions.{has_number}

pub some_found : (n : ℕ) (as' : List ActionTree) → list_any (nat_eq n) (map action_number as') ≡ true
    → (a : ActionTree) × (find (has_number n) as' ≡ Some a)
some_found n [] any = absurd (true≢false (sym any))
some_found n (a ∷ as') any = elim (two (nat_eq n (action_number a))) [
  | inl t ↦ (a, when (has_number n a) (Some a) (find (has_number n) as') t)
  | inr f ↦
      let further = some_found n as' (behind (nat_eq n (action_number a)) (list_any (nat_eq n) (map action_number as')) f any) in
      (further.0, unless (has_number n a) (Some a) (find (has_number n) as') f ∙ further.1)
]
  where
    behind : (b c : Bool) → b ≡ false → (b || c) ≡ true → c ≡ true
    behind true c off is = absurd (true≢false off)
    behind false c off is = is
