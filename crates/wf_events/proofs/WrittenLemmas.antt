-- What a row makes of a store.
use Rattle.std.proofs.Common.{◌≡◌, ℕ, Bool, true, false, ◌||◌, cond, List, [], ◌∷◌, Option, Some, option_map, is_eq, nat_eq, refl, ap, ◌∙◌, arith}
use Rattle.std.specs.Ordering.{nat_cmp}
use Rattle.std.proofs.lemmas.Cmp.{nat_cmp_total}
use Rattle.wf_lists.specs.KeyOrder.{find_key, put_key}
use Rattle.wf_lists.proofs.KeyOrderLemmas.{find-put}
use Rattle.wf_layers.specs.Address.{Address}
use Rattle.wf_tables.specs.Instances.{address_of}
use Rattle.wf_tables.specs.Known.{is_among, store_in}
use Rattle.wf_tables.specs.Instance.{Instance}
use Rattle.wf_tables.specs.WriterAt.{WriterAt}
use Rattle.wf_events.specs.Written.{put_each, writers_of}

key_is : (a b : ℕ) → is_eq (nat_cmp b a) ≡ nat_eq a b
key_is a b = grind (arith)

pub writer_put : (w : WriterAt) (xs : List WriterAt) (v : ℕ)
    → store_in (put_key nat_cmp (λ (x : WriterAt). x.variable) w xs) v
    ≡ cond (nat_eq w.variable v) (Some (address_of w.instance)) (store_in xs v)
writer_put w xs v =
    ap (option_map (λ (x : WriterAt). address_of x.instance)) (find-put nat_cmp_total (λ (x : WriterAt). x.variable) v w xs)
    ∙ ap (λ b. option_map (λ (x : WriterAt). address_of x.instance)
    (cond b (Some w) (find_key nat_cmp (λ (x : WriterAt). x.variable) v xs))) (key_is w.variable v)
    ∙ go (nat_eq w.variable v)
  where
    go : (b : Bool) → option_map (λ (x : WriterAt). address_of x.instance)
        (cond b (Some w) (find_key nat_cmp (λ (x : WriterAt). x.variable) v xs))
        ≡ cond b (Some (address_of w.instance)) (store_in xs v)
    go true = refl
    go false = refl

-- of all variables that are written the writer is the last, and the others are as before
pub written_all : (place : Instance) (vs : List ℕ) (t : ℕ → Option Address) (v : ℕ)
    → put_each (writers_of place vs) t v ≡ cond (is_among v vs) (Some (address_of place)) (t v)
written_all place [] t v = refl
written_all place (u ∷ vs) t v =
    written_all place vs (λ x. cond (nat_eq u x) (Some (address_of place)) (t x)) v ∙ go (nat_eq u v) (is_among v vs)
  where
    go : (a b : Bool) → cond b (Some (address_of place)) (cond a (Some (address_of place)) (t v))
        ≡ cond (a || b) (Some (address_of place)) (t v)
    go true true = refl
    go true false = refl
    go false b = refl
