-- The characters of a text, one after the other.
use Rattle.std.proofs.Common.{◌≡◌, ℕ, List, [], ◌∷◌, ◌++◌, length, Bool, true, ◌&&◌, refl, ◌∙◌, ap, subst, append-nil, arith}
use Rattle.std.proofs.lemmas.Str.{cons_from_encodes, chars-nil}
use Rattle.std.specs.Char.{encode_utf8}
use Rattle.std.specs.Str.{chars, IsUtf8}
use Rattle.wf_tap.specs.Escapes.{all_shown}
use Rattle.wf_tap.specs.declared.escapes.Place.{Place}
use lib.Utf8.{scalars}

second_true : (b d : Bool) → (b && d) ≡ true → d ≡ true
second_true true d is = is
second_true b d is = absurd (cc)

-- what is left behind a character
pub rest_utf8 : (bs rest : List ℕ) (c : ℕ) → IsUtf8 bs → bs ≡ encode_utf8 c ++ rest → IsUtf8 rest
rest_utf8 bs rest c utf8 is =
    let (cs, both) = utf8 in
    let (es, same, left) = cons_from_encodes cs rest c (both.1 ∙ is) in
    (es, (second_true _ (scalars es) (subst (λ l. scalars l ≡ true) same both.0), left))

nothing_left : (rest : List ℕ) → length rest ≡ 0 → rest ≡ []
nothing_left [] none = refl
nothing_left (x ∷ xs) none = absurd (omega (arith, none))

-- nothing is left
pub at_end : (place : Place) (done rest : List ℕ) → length rest ≡ 0 → done ++ all_shown place (chars rest) ≡ done
at_end place done rest none =
    ap (λ l. done ++ all_shown place (chars l)) (nothing_left rest none) ∙ ap (λ cs. done ++ all_shown place cs) chars-nil ∙ append-nil done
