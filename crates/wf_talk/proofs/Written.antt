-- What several puts append together.
use Rattle.std.proofs.Common.{ℕ, ◌+◌, List, [], ◌++◌, take, drop, Option, None, Some, ◌∙◌, ap, append_assoc, rules}
use Rattle.std.proofs.Math.Seq.{take-add}
use Rattle.std.specs.Io.KnownBytes.{Appends, Keeps}

-- nothing is appended where nothing is written
pub appends_nothing : (o : Option (List ℕ)) → Appends o o []
appends_nothing None = tt
appends_nothing (Some xs) = search rules

-- two parts, one after the other
appends_both : (a b c : Option (List ℕ)) (xs ys : List ℕ) → Appends a b xs → Appends b c ys → Appends a c (xs ++ ys)
appends_both None b c xs ys p q = tt
appends_both (Some x) None c xs ys p q = absurd p
appends_both (Some x) (Some y) None xs ys p q = absurd q
appends_both (Some x) (Some y) (Some z) xs ys p q = q ∙ (ap (λ w. w ++ ys) p ∙ append_assoc x xs ys)

-- a prefix of a text, and then a prefix of the rest
pub appends_more : (a b c : Option (List ℕ)) (text : List ℕ) (done n : ℕ) →
    Appends a b (take done text) → Appends b c (take n (drop done text)) → Appends a c (take (done + n) text)
appends_more a b c text done n p q =
    rw (take-add done n text) (appends_both a b c (take done text) (take n (drop done text)) p q)

-- what was appended stays
pub appends_kept : (a b c : Option (List ℕ)) (xs : List ℕ) → Appends a b xs → Keeps b c → Appends a c xs
appends_kept None b c xs p q = tt
appends_kept (Some x) None c xs p q = absurd p
appends_kept (Some x) (Some y) None xs p q = absurd q
appends_kept (Some x) (Some y) (Some z) xs p q = q ∙ p
