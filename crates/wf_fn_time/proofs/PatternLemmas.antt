-- The parts of a pattern, one at a time from the left.
use Rattle.std.proofs.Common.{◌≡◌, ℕ, zero, suc, List, [], ◌∷◌, ◌++◌, drop, refl, ap, sym, ◌∙◌, Bool, true, false, Option, Some, None}
use Rattle.std.proofs.Common.{append_assoc, arith, ◌≢◌}
use Rattle.std.proofs.lemmas.Bool.Decides.{nat_tests}
use Rattle.std.specs.Prelude.{◌==◌, option_map}
use Rattle.std.proofs.lemmas.Bool.{cond-false}
use Rattle.wf_fn_time.specs.Pattern.{part_of, parts_past, then_parts}
use Rattle.wf_fn_time.specs.declared.pattern.Part.{Part}

-- characters that are still to pass are dropped
pub parts-dropped : (k : ℕ) (quoted : Bool) (cs : List ℕ) → parts_past k quoted cs ≡ parts_past 0 quoted (drop k cs)
parts-dropped zero quoted cs = refl
parts-dropped (suc k) true [] = refl
parts-dropped (suc k) false [] = refl
parts-dropped (suc k) quoted (c ∷ cs) = parts-dropped k quoted cs

-- the part that a character begins, and then those behind it
parts-first : (quoted : Bool) (c : ℕ) (cs : List ℕ) (p : Part) (more : ℕ) → (c == 39) ≡ false → part_of quoted c cs ≡ Some (p, more)
    → parts_past 0 quoted (c ∷ cs) ≡ option_map (λ ps. p ∷ ps) (parts_past 0 quoted (drop more cs))
parts-first quoted c cs p more quote is =
    cond-false (c == 39) _ _ quote ∙ ap (λ o. then_parts o (λ k. parts_past k quoted cs)) is
    ∙ ap (option_map (λ ps. p ∷ ps)) (parts-dropped more quoted cs)

one-more : (o : Option (List Part)) (done : List Part) (p : Part)
    → option_map (λ ps. (done ++ p ∷ []) ++ ps) o ≡ option_map (λ ps. done ++ ps) (option_map (λ ps. p ∷ ps) o)
one-more None done p = refl
one-more (Some ps) done p = ap Some (append_assoc done (p ∷ []) ps)

-- with one part more before those that are left, the whole stays the same
pub parts-step : (quoted : Bool) (c : ℕ) (cs : List ℕ) (done : List Part) (p : Part) (more : ℕ) → c ≢ 39 → part_of quoted c cs
    ≡ Some (p, more)
    → option_map (λ ps. (done ++ p ∷ []) ++ ps) (parts_past 0 quoted (drop more cs))
    ≡ option_map (λ ps. done ++ ps) (parts_past 0 quoted (c ∷ cs))
parts-step quoted c cs done p more other is =
    let quote : (c == 39) ≡ false = grind (arith, nat_tests) in
    one-more (parts_past 0 quoted (drop more cs)) done p
    ∙ ap (option_map (λ ps. done ++ ps)) (sym (parts-first quoted c cs p more quote is))
