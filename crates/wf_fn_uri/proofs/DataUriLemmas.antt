-- Where a text doesn't end as another, no encoding stands behind its comma.
use Rattle.std.proofs.Common.{◌≡◌, ℕ, List, refl, sym, ◌∙◌, ap, cond, Bool, true, false, nat_eq, Option, None, ◌&&◌}
use Rattle.std.proofs.lemmas.Str.Pattern.{ends_text}
use Rattle.std.specs.List.{ends_with}
use Rattle.std.specs.Str.Pattern.{FindsTextSuffix}

none_of : (a b : Bool) (x : Option (List ℕ)) → b ≡ false → None ≡ cond (a && b) x None
none_of true b x f = ap (λ t. cond t x None) (sym f)
none_of false b x f = refl

pub no_ending : (a : Bool) (n s front : List ℕ) (x : Option (List ℕ)) → s ≡ front → FindsTextSuffix n s None
    → None ≡ cond (a && ends_with nat_eq front n) x None
no_ending a n s front x is none = none_of a (ends_with nat_eq front n) x (ap (λ l. ends_with nat_eq l n) (sym is)
    ∙ sym (ends_text false n s none))
