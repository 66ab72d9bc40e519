-- When bytes have no reading.
use Rattle.std.proofs.Common.{◌≡◌, ℕ, List, true, false, Option, None, IsUtf8, cond, refl}
use Rattle.std.specs.Str.{is_utf8}
use Rattle.std.proofs.lemmas.Str.{IsUtf8-from_is_utf8}

pub none_unless_utf8 : {X : Type 0} (bytes : List ℕ) (reading : Option X) → (IsUtf8 bytes → reading ≡ None)
    → cond (is_utf8 bytes) reading None ≡ None
none_unless_utf8 bytes reading none =
    elim (is_utf8 bytes) as (λ b. is_utf8 bytes ≡ b → cond b reading None ≡ None) [
      | true ↦ λ is. none (IsUtf8-from_is_utf8 bytes is)
      | false ↦ λ is. refl
    ] refl
