-- Tables that are the same at each address are equal.
use Rattle.std.proofs.Common.{◌≡◌, true, false, [], None, ⊎_elim, sym, ◌∙◌}
use Rattle.wf_layers.specs.Definition.{Graph}
use Rattle.wf_layers.specs.Address.{Address, Table, is_within}
use Rattle.wf_layers.proofs.Basics.{two}

pub tables_are_one : {Row : Type 0} (d : Graph) (t u : Table Row) → ((x : Address) → is_within d [] x ≡ false → (t x ≡ None) × (u x ≡ None))
    → ((x : Address) → is_within d [] x ≡ true → t x ≡ u x) → t ≡ u
tables_are_one d t u out same = λ k x. at x k
  where
    at : (x : Address) → t x ≡ u x
    at x = ⊎_elim (λ w. same x w) (λ w. let o = out x w in o.0 ∙ sym o.1) (two (is_within d [] x))
