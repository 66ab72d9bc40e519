-- What stands for a text in XML is text.
use Rattle.std.proofs.Common.{◌≡◌, ℕ, List, [], ◌∷◌, ◌++◌, Bool, true, false, cond, ◌==◌, Option, Some, None, unwrap_or, refl, arith}
use Rattle.std.specs.Prelude.{codes}
use Rattle.std.specs.Char.{encode_utf8}
use Rattle.std.specs.Str.{chars}
use Rattle.wf_tap.specs.Escapes.{all_shown, is_forbidden, not_forbidden, shown}
use Rattle.wf_tap.specs.Junit.{xml}
use Rattle.wf_tap.specs.Laws.{IsXmlText, ended, reference, character}
use Rattle.wf_tap.specs.declared.escapes.Place.{Place}

-- one character in front of text, test by test
module _ (c : ℕ) (s : List ℕ) (text : IsXmlText s) where
  abbrev Stands : Option (List ℕ) → Type 0
  Stands o = IsXmlText (unwrap_or o (encode_utf8 c) ++ s)

  at_forbidden : (b : Bool) → is_forbidden c ≡ b → (c == 60) ≡ false → (c == 62) ≡ false → (c == 38) ≡ false → (c == 34) ≡ false
      → Stands (cond b (Some (239 ∷ 191 ∷ 189 ∷ [])) None)
  unfolding encode_utf8
  at_forbidden true is lt gt amp quot = character 65533 s refl refl refl refl refl text
  at_forbidden false is lt gt amp quot = character c s is lt gt amp quot text

  at_return : (b : Bool) → Stands (not_forbidden c) → Stands (cond b (Some (codes "&#13;")) (not_forbidden c))
  at_return true rest = reference (codes "&#13;") s (6, omega arith, refl) text
  at_return false rest = rest

  at_feed : (b : Bool) (o : Option (List ℕ)) → Stands o → Stands (cond b (Some (codes "&#10;")) o)
  at_feed true o rest = reference (codes "&#10;") s (5, omega arith, refl) text
  at_feed false o rest = rest

  at_tab : (b : Bool) (o : Option (List ℕ)) → Stands o → Stands (cond b (Some (codes "&#9;")) o)
  at_tab true o rest = reference (codes "&#9;") s (4, omega arith, refl) text
  at_tab false o rest = rest

  at_quot : (b : Bool) (o : Option (List ℕ)) → (b ≡ false → Stands o) → Stands (cond b (Some (codes "&quot;")) o)
  at_quot true o rest = reference (codes "&quot;") s (3, omega arith, refl) text
  at_quot false o rest = rest refl

  at_amp : (b : Bool) (o : Option (List ℕ)) → (b ≡ false → Stands o) → Stands (cond b (Some (codes "&amp;")) o)
  at_amp true o rest = reference (codes "&amp;") s (2, omega arith, refl) text
  at_amp false o rest = rest refl

  at_gt : (b : Bool) (o : Option (List ℕ)) → (b ≡ false → Stands o) → Stands (cond b (Some (codes "&gt;")) o)
  at_gt true o rest = reference (codes "&gt;") s (1, omega arith, refl) text
  at_gt false o rest = rest refl

  at_lt : (b : Bool) (o : Option (List ℕ)) → (b ≡ false → Stands o) → Stands (cond b (Some (codes "&lt;")) o)
  at_lt true o rest = reference (codes "&lt;") s (0, omega arith, refl) text
  at_lt false o rest = rest refl

  one_shown : IsXmlText (shown Place.Xml c ++ s)
  one_shown =
      at_lt (c == 60) _ (λ lt. at_gt (c == 62) _ (λ gt. at_amp (c == 38) _ (λ amp. at_quot (c == 34) _ (λ quot.
      at_tab (c == 9) _ (at_feed (c == 10) _ (at_return (c == 13) (at_forbidden (is_forbidden c) refl lt gt amp quot)))))))

all_text : (cs : List ℕ) → IsXmlText (all_shown Place.Xml cs)
all_text [] = ended
all_text (c ∷ cs) = one_shown c (all_shown Place.Xml cs) (all_text cs)

pub xml_is_text : (s : List ℕ) → IsXmlText (xml s)
xml_is_text s = all_text (chars s)
