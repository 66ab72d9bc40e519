-- Files by their names, with one more.
use Rattle.std.proofs.Common.{◌≡◌, ℕ, List, Bool, true, false, cond, Option, Some, option_map, ap, ◌∙◌}
use Rattle.std.proofs.lemmas.Map.Text.{is_eq-slice_cmp}
use Rattle.std.specs.BTreeMap.{is_at}
use Rattle.std.specs.Str.{bytes_eq}
use Rattle.wf_val.specs.NameOrder.{bytes_cmp}

put-at : {V : Type 0} (items : V → List ℕ) (b c : Bool) (v : V) (old : Option V) → b ≡ c
    → option_map items (cond b (Some v) old) ≡ cond c (Some (items v)) (option_map items old)
put-at items true c v old is = ap (λ (b : Bool). cond b (Some (items v)) (option_map items old)) is
put-at items false c v old is = ap (λ (b : Bool). cond b (Some (items v)) (option_map items old)) is

-- a file that is put among others is found, and the others as before
pub source_put : {V : Type 0} (items : V → List ℕ) (v : V) (k name other : List ℕ) (old new : Option V) → k ≡ name
    → new ≡ cond (is_at (bytes_cmp k) other) (Some v) old
    → option_map items new ≡ cond (bytes_eq name other) (Some (items v)) (option_map items old)
source_put items v k name other old new named is =
    ap (option_map items) is
    ∙ put-at items (is_at (bytes_cmp k) other) (bytes_eq name other) v old
    (is_eq-slice_cmp k other ∙ ap (λ (n : List ℕ). bytes_eq n other) named)
