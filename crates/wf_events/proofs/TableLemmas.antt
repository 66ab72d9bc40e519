-- What a put makes of a table, at each address.
use Rattle.std.proofs.Common.{◌≡◌, Bool, true, false, cond, List, Some, refl, ap, ◌∙◌}
use Rattle.wf_lists.specs.KeyOrder.{put_key}
use Rattle.wf_layers.specs.Address.{Address, is_own}
use Rattle.wf_layers.specs.Machine.{or_else}
use Rattle.wf_layers.specs.Meaning.{only}
use Rattle.wf_tables.specs.Instances.{instance_cmp, table_of}
use Rattle.wf_tables.specs.Instance.{Instance}
use Rattle.wf_tables.proofs.TableLemmas.{table_put}

pub put_entry : {X Y : Type 0} (at : X → Instance) (see : X → Y) (y : X) (xs : List X) (x : Address)
    → table_of at see (put_key instance_cmp at y xs) x ≡ cond (is_own (at y).action (at y).at x) (Some (see y)) (table_of at see xs x)
put_entry at see y xs x = ap (λ t. t x) (table_put at see y xs) ∙ go (is_own (at y).action (at y).at x)
  where
    go : (b : Bool) → or_else (only b (Some (see y))) (table_of at see xs x) ≡ cond b (Some (see y)) (table_of at see xs x)
    go true = refl
    go false = refl
