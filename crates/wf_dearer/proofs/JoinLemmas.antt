-- Lists of entries that are put together in one list of what each costs.
use Rattle.std.proofs.Common.{◌≡◌, ℕ, ◌+◌, Bool, true, false, List, [], ◌∷◌, Some, None, cond, option_map, is_eq, nat_eq, ⊎_elim}
use Rattle.std.proofs.Common.{refl, sym, ap, ◌∙◌, subst, arith}
use Rattle.std.proofs.lemmas.Cmp.{tied_itself}
use Rattle.std.proofs.lemmas.Option.{none-some}
use Rattle.wf_lists.specs.KeyOrder.{IsInKeyOrder, find_key, put_key, without_key}
use Rattle.wf_lists.proofs.KeyOrderLemmas.{in_order-put}
use Rattle.wf_layers.specs.Address.{Address, Table, is_own, same_at}
use Rattle.wf_layers.specs.Listed.{sum_of}
use Rattle.wf_layers.specs.Machine.{or_else, place, one}
use Rattle.wf_layers.specs.Meaning.{only}
use Rattle.wf_layers.proofs.Basics.{two, unless, when}
use Rattle.wf_layers.proofs.Tables.{own_is, own_self}
use Rattle.wf_asks.specs.Instances.{instance_cmp, instance_of, instance_total, table_of}
use Rattle.wf_tables.proofs.TableLemmas.{own_place, table_put, table_take}
use Rattle.wf_meter.specs.Parts.{worth}
use Rattle.wf_meter.proofs.SumLemmas.{sums_differ}
use Rattle.wf_meter.proofs.TouchLemmas.{first_not}
use Rattle.wf_dearer.specs.StateCosts.{Entry}

abbrev pub table : {A : Type 0} → List (Entry A) → Table A
table {A} = table_of (λ (e : Entry A). instance_of e.0) (λ (e : Entry A). e.1)

abbrev pub InOrder : {A : Type 0} → List (Entry A) → Type 0
InOrder {A} xs = IsInKeyOrder instance_cmp (λ (e : Entry A). instance_of e.0) xs

abbrev pub total : List (Entry ℕ) → ℕ
total = sum_of (λ (e : Entry ℕ). e.1)

-- a list that begins with an entry, as a table
begins : {A : Type 0} (e : Entry A) (xs : List (Entry A)) (y : Address)
    → table (e ∷ xs) y ≡ or_else (one e.0.name e.0.at e.1 y) (table xs y)
begins {A} e xs y = go (is_eq (instance_cmp (instance_of y) (instance_of e.0))) (is_own e.0.name e.0.at y) (own_place (instance_of e.0) y)
  where
    go : (a b : Bool) → a ≡ b
        → option_map (λ (z : Entry A). z.1) (cond a (Some e) (find_key instance_cmp (λ (z : Entry A). instance_of z.0) (instance_of y) xs))
        ≡ or_else (only b (Some e.1)) (table xs y)
    go true true q = refl
    go false false q = refl
    go true false q = cc (q)
    go false true q = cc (q)

-- and what follows in it is elsewhere
follows : {A : Type 0} (e : Entry A) (xs : List (Entry A)) → InOrder (e ∷ xs) → table xs e.0 ≡ None
follows {A} e xs order =
    let gone : without_key instance_cmp (λ (z : Entry A). instance_of z.0) (instance_of e.0) (e ∷ xs) ≡ xs =
    ap (λ o. cond (is_eq o) xs (e ∷ without_key instance_cmp (λ (z : Entry A). instance_of z.0) (instance_of e.0) xs))
    (tied_itself instance_total (instance_of e.0)) in
    ap (λ ys. table ys e.0) (sym gone)
    ∙ ap (λ t. t e.0) (table_take (λ (z : Entry A). instance_of z.0) (λ (z : Entry A). z.1) (instance_of e.0) (e ∷ xs) order)
    ∙ when (is_own e.0.name e.0.at e.0) None (table (e ∷ xs) e.0) (own_self e.0.name e.0.at)

-- an entry of costs that is put where none was
abbrev put : Entry ℕ → List (Entry ℕ) → List (Entry ℕ)
put = put_key instance_cmp (λ (e : Entry ℕ). instance_of e.0)

put_adds : (e : Entry ℕ) (zs : List (Entry ℕ)) → InOrder zs → table zs e.0 ≡ None → total (put e zs) ≡ e.1 + total zs
put_adds e zs order none =
    let there : table (put e zs) ≡ place (one e.0.name e.0.at e.1) (table zs) =
    table_put (λ (z : Entry ℕ). instance_of z.0) (λ (z : Entry ℕ). z.1) e zs in
    let moved = sums_differ (λ (z : Entry ℕ). instance_of z.0) (λ (z : Entry ℕ). z.1) (λ (x : Address) (c : ℕ). c) e.0.at
    (e.0.name ∷ []) (refl, tt) zs (put e zs) order
    (in_order-put instance_total (λ (z : Entry ℕ). instance_of z.0) e zs order)
    (λ x u. ap (λ t. t x) there ∙ ap (λ o. or_else o (table zs x)) (unless (is_own e.0.name e.0.at x) (Some e.1) None
    (first_not (nat_eq e.0.name x.name) false (same_at e.0.at x.at) u))) in
    let before : worth (λ (x : Address) (c : ℕ). c) e.0 (table zs e.0) ≡ 0 = ap (worth (λ (x : Address) (c : ℕ). c) e.0) none in
    let after : worth (λ (x : Address) (c : ℕ). c) e.0 (table (put e zs) e.0) ≡ e.1 =
    ap (worth (λ (x : Address) (c : ℕ). c) e.0)
    (ap (λ t. t e.0) there
    ∙ ap (λ o. or_else o (table zs e.0)) (when (is_own e.0.name e.0.at e.0) (Some e.1) None (own_self e.0.name e.0.at))) in
    omega (arith, moved, before, after)

module _ {A : Type 0} (w : Address → A → ℕ) where
  -- what the entries cost, put to what is there
  abbrev pub join : List (Entry A) → List (Entry ℕ) → List (Entry ℕ)
  join [] zs = zs
  join (e ∷ xs) zs = put (e.0, w e.0 e.1) (join xs zs)

  pub record Joined (xs : List (Entry A)) (zs : List (Entry ℕ)) : Type 0 where
    pub ordered : InOrder (join xs zs)
    pub adds : total (join xs zs) ≡ sum_of (λ (e : Entry A). w e.0 e.1) xs + total zs
    pub has : (y : Address) → table (join xs zs) y ≡ or_else (option_map (w y) (table xs y)) (table zs y)

  -- a list that begins with an entry
  module _ (e : Entry A) (xs : List (Entry A)) (ox : InOrder (e ∷ xs)) (zs : List (Entry ℕ)) where
    abbrev AreApart : List (Entry A) → Type 0
    AreApart ys = (y : Address) (a : A) → table ys y ≡ Some a → table zs y ≡ None

    first : table (e ∷ xs) e.0 ≡ Some e.1
    first = begins e xs e.0 ∙ ap (λ b. or_else (only b (Some e.1)) (table xs e.0)) (own_self e.0.name e.0.at)

    others_apart : AreApart (e ∷ xs) → AreApart xs
    others_apart apart y a is =
        ⊎_elim
        (λ own. absurd (none-some a (sym (subst (λ z. table xs z ≡ None) (own_is e.0.name e.0.at y own) (follows e xs ox)) ∙ is)))
        (λ other. apart y a (begins e xs y ∙ ap (λ b. or_else (only b (Some e.1)) (table xs y)) other ∙ is))
        (two (is_own e.0.name e.0.at y))

    at_once : (y : Address) (b : Bool) → is_own e.0.name e.0.at y ≡ b
        → or_else (only b (Some (w e.0 e.1))) (or_else (option_map (w y) (table xs y)) (table zs y))
        ≡ or_else (option_map (w y) (or_else (only b (Some e.1)) (table xs y))) (table zs y)
    at_once y true own = ap (λ z. Some (w z e.1)) (own_is e.0.name e.0.at y own)
    at_once y false other = refl

    one_more : AreApart (e ∷ xs) → Joined xs zs → Joined (e ∷ xs) zs
    one_more apart rest =
        let free : table (join xs zs) e.0 ≡ None =
        rest.has e.0 ∙ ap (λ o. or_else (option_map (w e.0) o) (table zs e.0)) (follows e xs ox) ∙ apart e.0 e.1 first in
        record {
          ordered = in_order-put instance_total (λ (z : Entry ℕ). instance_of z.0) (e.0, w e.0 e.1) (join xs zs) rest.ordered;
          adds = let those = rest.adds in
              let here = put_adds (e.0, w e.0 e.1) (join xs zs) rest.ordered free in omega (arith, those, here);
          has = λ y. ap (λ t. t y) (table_put (λ (z : Entry ℕ). instance_of z.0) (λ (z : Entry ℕ). z.1) (e.0, w e.0 e.1) (join xs zs))
              ∙ ap (λ o. or_else (one e.0.name e.0.at (w e.0 e.1) y) o) (rest.has y)
              ∙ at_once y (is_own e.0.name e.0.at y) refl
              ∙ ap (λ o. or_else (option_map (w y) o) (table zs y)) (sym (begins e xs y));
        }

  pub joined : (xs : List (Entry A)) → InOrder xs → (zs : List (Entry ℕ)) → InOrder zs
      → ((y : Address) (a : A) → table xs y ≡ Some a → table zs y ≡ None) → Joined xs zs
  joined [] ox zs oz apart = record { ordered = oz; adds = omega arith; has = λ y. refl }
  joined (e ∷ xs) ox zs oz apart = one_more e xs ox zs apart (joined xs ox.1 zs oz (others_apart e xs ox zs apart))
