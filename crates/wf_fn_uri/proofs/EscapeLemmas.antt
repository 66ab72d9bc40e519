-- The table of escapes is the rule in the subject's words; what is UTF-8, as a test.
use Rattle.std.proofs.Common.{◌≡◌, ℕ, ◌<◌, List, [], ◌∷◌, refl, Bool, true, false, not, cond, get_or, suc}
use Rattle.std.proofs.lemmas.Bool.{agree_below_at, false_from_ne_true}
use Rattle.std.proofs.lemmas.List.Elements.{All-head, All-tail}
use Rattle.std.specs.List.{All}
use Rattle.std.proofs.lemmas.Str.{IsUtf8-from_is_utf8, is_utf8-from_IsUtf8}
use Rattle.std.specs.Str.{IsUtf8, is_utf8}
use Rattle.percent_encoding.specs.AsciiSet.{should_percent_encode}
use Rattle.percent_encoding.specs.Percent.{percent_encode, percent_encode_byte}
use Rattle.wf_fn_uri.specs.declared.escapes.TheConstants.{UNRESERVED}
use Rattle.wf_fn_uri.specs.Escapes.{is_unreserved, escaped}

in_table : (b : ℕ) → b < 256 → should_percent_encode UNRESERVED b ≡ not (is_unreserved b)
unfolding should_percent_encode
in_table b h = agree_below_at (should_percent_encode UNRESERVED) (λ b. not (is_unreserved b)) 256 b refl h

of_not : (b : ℕ) (t : Bool) → cond (not t) (percent_encode_byte b) (b ∷ []) ≡ cond t (b ∷ []) (percent_encode_byte b)
of_not b true = refl
of_not b false = refl

pub as_table : (bs : List ℕ) → ((i : ℕ) → get_or bs i 0 < 256) → percent_encode UNRESERVED bs ≡ escaped bs
unfolding percent_encode
as_table [] h = refl
as_table (b ∷ bs) h = rw (in_table b (h 0), of_not b (is_unreserved b), as_table bs (λ i. h (suc i)))

pub is_utf8_text : (bs : List ℕ) → IsUtf8 bs → is_utf8 bs ≡ true
is_utf8_text bs h = is_utf8-from_IsUtf8 bs h

pub no_utf8_text : (bs : List ℕ) → (IsUtf8 bs → ⊥) → is_utf8 bs ≡ false
no_utf8_text bs h = false_from_ne_true (is_utf8 bs) (λ t. h (IsUtf8-from_is_utf8 bs t))

pub as_table_all : (bs : List ℕ) → All (λ b. b < 256) bs → percent_encode UNRESERVED bs ≡ escaped bs
unfolding percent_encode
as_table_all [] h = refl
as_table_all (b ∷ bs) h = rw (
  in_table b (All-head (λ b. b < 256) b bs h),
  of_not b (is_unreserved b),
  as_table_all bs (All-tail
      (λ b. b < 256) b bs h),
) refl
