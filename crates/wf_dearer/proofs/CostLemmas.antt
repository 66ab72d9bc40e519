-- What states cost, by what stands at each address.
use Rattle.std.proofs.Common.{◌≡◌, ◌≤◌, ℕ, ◌+◌, List, [], ◌∷◌, Option, Some, None, option_map, ⊎_elim, refl, sym, ap, ◌∙◌, subst, arith}
use Rattle.std.proofs.lemmas.Option.{none-some}
use Rattle.wf_lists.specs.KeyOrder.{IsInKeyOrder}
use Rattle.wf_layers.specs.Address.{Address, Table}
use Rattle.wf_layers.specs.Definition.{Kind, Leaf, Scope, Choice, Foreach, Until, Graph, kind_of}
use Rattle.wf_layers.specs.Listed.{sum_of}
use Rattle.wf_layers.specs.Machine.{Event, Opening, Run, Running, State, or_else}
use Rattle.wf_layers.specs.Meaning.{meaning}
use Rattle.wf_layers.specs.Source.{Source}
use Rattle.wf_kept.specs.Reached.{IsReached}
use Rattle.wf_kept.proofs.Informed.{open_stands, reached_facts, running_stands}
use Rattle.wf_kept.proofs.Known.{goes_on}
use Rattle.wf_asks.specs.Instances.{instance_cmp, instance_of, table_of}
use Rattle.wf_asks.specs.declared.instance.Instance.{Instance}
use Rattle.wf_meter.specs.Cost.{iterations, leaf_cost, open_cost}
use Rattle.wf_meter.proofs.SumLemmas.{sums_differ}
use Rattle.wf_priced.specs.Priced.{PaysItsParts, TellsRows}
use Rattle.wf_priced.proofs.ListedLemmas.{covered}
use Rattle.wf_priced.proofs.PaidLemmas.{leaf_paid, open_paid}
use Rattle.wf_priced.proofs.TellsLemmas.{told_order, told_table}
use Rattle.wf_dearer.specs.StateCosts.{Entry, StateCosts}
use Rattle.wf_dearer.proofs.GoesOnLemmas.{GoesOn, run_goes_on}
use Rattle.wf_dearer.proofs.JoinLemmas.{InOrder, Joined, join, joined, table, total}

abbrev Tells : {A : Type 0} → Table A → List (Entry A) → Type 0
Tells {A} t xs = TellsRows (λ (e : Entry A). e.0) (λ (e : Entry A). e.1) t xs

in_order : {A : Type 0} (t : Table A) (xs : List (Entry A)) → Tells t xs → InOrder xs
in_order {A} t xs tells = told_order t (λ (e : Entry A). e.0) (λ (e : Entry A). e.1) xs tells

is_table : {A : Type 0} (t : Table A) (xs : List (Entry A)) → Tells t xs → (x : Address) → table xs x ≡ t x
is_table {A} t xs tells = told_table t (λ (e : Entry A). e.0) (λ (e : Entry A). e.1) xs tells

-- lists that tell one table cost the same
same_total : {A : Type 0} (w : Address → A → ℕ) (t u : Table A) → ((x : Address) → t x ≡ u x) → (xs ys : List (Entry A)) → Tells t xs
    → Tells u ys → sum_of (λ (e : Entry A). w e.0 e.1) xs ≡ sum_of (λ (e : Entry A). w e.0 e.1) ys
same_total {A} w t u same xs ys tells tells' =
    let moved : sum_of (λ (e : Entry A). w e.0 e.1) ys + 0 ≡ sum_of (λ (e : Entry A). w e.0 e.1) xs + 0 =
    sums_differ (λ (e : Entry A). instance_of e.0) (λ (e : Entry A). e.1) w [] [] tt xs ys (in_order t xs tells) (in_order u ys tells')
    (λ x other. is_table u ys tells' x ∙ sym (same x) ∙ sym (is_table t xs tells x)) in
    omega (arith, moved)

-- a container that has begun more iterations counts no fewer
more_iterations : (kind : Option Kind) (c c' j j' : ℕ) → c ≡ c' → j ≤ j' → iterations kind c j ≤ iterations kind c' j'
more_iterations None c c' j j' same more = more
more_iterations (Some Leaf) c c' j j' same more = more
more_iterations (Some (Scope g)) c c' j j' same more = more
more_iterations (Some (Choice bs)) c c' j j' same more = more
more_iterations (Some (Foreach pace g)) c c' j j' same more = omega (arith, same)
more_iterations (Some (Until most g)) c c' j j' same more = more

-- the entry at an address is in the list, and costs no less
abbrev Pays : {Z B : Type 0} → (Z → Instance) → (Z → B) → (B → ℕ) → List Z → Address → ℕ → Type 0
Pays {Z} {B} key_of row v zs x c = (b : B) × (table_of key_of row zs x ≡ Some b) × (c ≤ v b)

module _ {Row Begun Decision Verdict : Type 0} where
  -- What runs or is open has no row yet, and is only one of both.
  pub record Apart (s : State Row Begun Decision Verdict) : Type 0 where
    pub leaves : (x : Address) (w : Running Begun) → s.running x ≡ Some w → s.rows x ≡ None
    pub opens : (x : Address) (w : Opening Decision Verdict) → s.opens x ≡ Some w → (s.rows x ≡ None) × (s.running x ≡ None)

  module _ (d : Graph) (depth : ℕ → ℕ) (m : Source Row Begun Decision Verdict) where
    apart : (s : State Row Begun Decision Verdict) → IsReached d depth m s → Apart s
    apart s reached = record {
      leaves = λ x w e. (running_stands d depth m s reached x w e).1;
      opens = λ x w e. let stands = open_stands d depth m s reached x w e in (stands.1, stands.2);
    }

    on_reached : (s : State Row Begun Decision Verdict) → IsReached d depth m s → (es : List Event)
        (q : State Row Begun Decision Verdict) → Run d m s es q → IsReached d depth m q
    on_reached s reached [] q run = subst (λ (z : State Row Begun Decision Verdict). IsReached d depth m z) (sym run) reached
    on_reached s reached (e ∷ es) q (mid, st, more) = on_reached mid (goes_on d depth m s reached e mid st) es q more

  module _ (d : Graph) (items : Decision → ℕ) (cost : Row → ℕ) (begun_weight : Begun → ℕ) (weight : Decision → ℕ) where
    abbrev Costs : State Row Begun Decision Verdict → ℕ → Type 0
    Costs s c = StateCosts d items cost begun_weight weight s c

    pub same_costs : (s q : State Row Begun Decision Verdict)
        → ((x : Address) → (s.rows x ≡ q.rows x) × (s.running x ≡ q.running x) × (s.opens x ≡ q.opens x)) → (a b : ℕ)
        → Costs s a → Costs q b → a ≡ b
    same_costs s q same a b ca cb =
        let rows = same_total (λ x r. cost r) s.rows q.rows (λ x. (same x).0) ca.rows cb.rows ca.rows_are cb.rows_are in
        let leaves = same_total (λ x (w : Running Begun). leaf_cost begun_weight w) s.running q.running (λ x. (same x).1) ca.leaves
        cb.leaves ca.leaves_are cb.leaves_are in
        let opens = same_total (open_cost d items weight) s.opens q.opens (λ x. (same x).2) ca.opens cb.opens ca.opens_are cb.opens_are in
        let one = ca.total_is in
        let other = cb.total_is in
        omega (arith, rows, leaves, opens, one, other)

    -- ---- in a list where each of what a state has is found, and costs no more

    module _ {Z B : Type 0} (key_of : Z → Instance) (row : Z → B) (v : B → ℕ) (zs : List Z)
        (order : IsInKeyOrder instance_cmp key_of zs) where
      within : (s : State Row Begun Decision Verdict) → Apart s → (c : ℕ) → Costs s c
          → ((x : Address) (r : Row) → s.rows x ≡ Some r → Pays key_of row v zs x (cost r))
          → ((x : Address) (w : Running Begun) → s.running x ≡ Some w → Pays key_of row v zs x (leaf_cost begun_weight w))
          → ((x : Address) (w : Opening Decision Verdict) → s.opens x ≡ Some w → Pays key_of row v zs x (open_cost d items weight x w))
          → c ≤ sum_of (λ z. v (row z)) zs
      within s apart c costs of_row of_leaf of_open =
          let rows = is_table s.rows costs.rows costs.rows_are in
          let leaves = is_table s.running costs.leaves costs.leaves_are in
          let opens = is_table s.opens costs.opens costs.opens_are in
          let after_rows = covered key_of row v (λ (e : Entry Row). instance_of e.0) (λ (e : Entry Row). e.1)
          (λ (x : Address) (r : Row). cost r) costs.rows (in_order s.rows costs.rows costs.rows_are) zs order
          (λ x r e. of_row x r (sym (rows x) ∙ e)) in
          let after_leaves = covered key_of row v (λ (e : Entry (Running Begun)). instance_of e.0) (λ (e : Entry (Running Begun)). e.1)
          (λ (x : Address) (w : Running Begun). leaf_cost begun_weight w) costs.leaves
          (in_order s.running costs.leaves costs.leaves_are) after_rows.0 after_rows.1.ordered
          (λ x w e. let it = sym (leaves x) ∙ e in let paid = of_leaf x w it in
          (paid.0, after_rows.1.else_same x (rows x ∙ apart.leaves x w it) ∙ paid.1, paid.2)) in
          let after_opens = covered key_of row v (λ (e : Entry (Opening Decision Verdict)). instance_of e.0)
          (λ (e : Entry (Opening Decision Verdict)). e.1) (open_cost d items weight) costs.opens
          (in_order s.opens costs.opens costs.opens_are) after_leaves.0 after_leaves.1.ordered
          (λ x w e. let it = sym (opens x) ∙ e in let paid = of_open x w it in let no = apart.opens x w it in
          (paid.0, after_leaves.1.else_same x (leaves x ∙ no.1) ∙ after_rows.1.else_same x (rows x ∙ no.0) ∙ paid.1, paid.2)) in
          let of_rows : sum_of (λ (e : Entry Row). cost e.1) costs.rows + sum_of (λ z. v (row z)) after_rows.0
          ≤ sum_of (λ z. v (row z)) zs = after_rows.1.fits in
          let of_leaves : sum_of (λ (e : Entry (Running Begun)). leaf_cost begun_weight e.1) costs.leaves
          + sum_of (λ z. v (row z)) after_leaves.0 ≤ sum_of (λ z. v (row z)) after_rows.0 = after_leaves.1.fits in
          let of_opens : sum_of (λ (e : Entry (Opening Decision Verdict)). open_cost d items weight e.0 e.1) costs.opens
          + sum_of (λ z. v (row z)) after_opens.0 ≤ sum_of (λ z. v (row z)) after_leaves.0 = after_opens.1.fits in
          let all = costs.total_is in
          omega (arith, of_rows, of_leaves, of_opens, all)

    -- ---- what a state costs, as one list

    abbrev at_address : State Row Begun Decision Verdict → Address → Option ℕ
    at_address q y =
        or_else (option_map (open_cost d items weight y) (q.opens y))
        (or_else (option_map (leaf_cost begun_weight) (q.running y)) (or_else (option_map cost (q.rows y)) None))

    record Listed (q : State Row Begun Decision Verdict) (c : ℕ) : Type 0 where
      all : List (Entry ℕ)
      ordered : InOrder all
      adds : total all ≡ c
      has : (y : Address) → table all y ≡ at_address q y

    listed : (q : State Row Begun Decision Verdict) → Apart q → (c : ℕ) → Costs q c → Listed q c
    listed q apart c costs = record {
      all = join container costs.opens (join leaf costs.leaves (join of_row costs.rows []));
      ordered = third.ordered;
      adds = let a = first.adds in let b = second.adds in let e = third.adds in let all = costs.total_is in omega (arith, a, b, e, all);
      has = λ y. third.has y
          ∙ ap (λ o. or_else (option_map (container y) o) (table (join leaf costs.leaves (join of_row costs.rows [])) y)) (opens y)
          ∙ ap (λ o. or_else (option_map (container y) (q.opens y)) o) (with_leaves y);
    }
      where
        of_row : Address → Row → ℕ
        of_row x r = cost r

        leaf : Address → Running Begun → ℕ
        leaf x w = leaf_cost begun_weight w

        container : Address → Opening Decision Verdict → ℕ
        container = open_cost d items weight

        rows : (x : Address) → table costs.rows x ≡ q.rows x
        rows = is_table q.rows costs.rows costs.rows_are

        leaves : (x : Address) → table costs.leaves x ≡ q.running x
        leaves = is_table q.running costs.leaves costs.leaves_are

        opens : (x : Address) → table costs.opens x ≡ q.opens x
        opens = is_table q.opens costs.opens costs.opens_are

        first : Joined of_row costs.rows []
        first = joined of_row costs.rows (in_order q.rows costs.rows costs.rows_are) [] tt (λ y a e. refl)

        with_rows : (y : Address) → table (join of_row costs.rows []) y ≡ or_else (option_map cost (q.rows y)) None
        with_rows y = first.has y ∙ ap (λ o. or_else (option_map cost o) None) (rows y)

        second : Joined leaf costs.leaves (join of_row costs.rows [])
        second = joined leaf costs.leaves (in_order q.running costs.leaves costs.leaves_are) (join of_row costs.rows []) first.ordered
            (λ y w e. with_rows y ∙ ap (λ o. or_else (option_map cost o) None) (apart.leaves y w (sym (leaves y) ∙ e)))

        with_leaves : (y : Address) → table (join leaf costs.leaves (join of_row costs.rows [])) y
            ≡ or_else (option_map (leaf_cost begun_weight) (q.running y)) (or_else (option_map cost (q.rows y)) None)
        with_leaves y =
            second.has y ∙ ap (λ o. or_else (option_map (leaf y) o) (table (join of_row costs.rows []) y)) (leaves y)
            ∙ ap (λ o. or_else (option_map (leaf y) (q.running y)) o) (with_rows y)

        third : Joined container costs.opens (join leaf costs.leaves (join of_row costs.rows []))
        third = joined container costs.opens (in_order q.opens costs.opens costs.opens_are)
            (join leaf costs.leaves (join of_row costs.rows [])) second.ordered
            (λ y w e. let no = apart.opens y w (sym (opens y) ∙ e) in
            with_leaves y
            ∙ ap (λ o. or_else (option_map (leaf_cost begun_weight) o) (or_else (option_map cost (q.rows y)) None)) no.1
            ∙ ap (λ o. or_else (option_map cost o) None) no.0)

    -- and what stands at an address there
    module _ (q : State Row Begun Decision Verdict) (apart : Apart q) (y : Address) where
      open_at : (w : Opening Decision Verdict) → q.opens y ≡ Some w → at_address q y ≡ Some (open_cost d items weight y w)
      open_at w e =
          ap (λ o. or_else (option_map (open_cost d items weight y) o)
          (or_else (option_map (leaf_cost begun_weight) (q.running y)) (or_else (option_map cost (q.rows y)) None))) e

      not_open : (o : Option (Opening Decision Verdict)) → q.opens y ≡ o
          → ((w : Opening Decision Verdict) → q.opens y ≡ Some w → ⊥) → q.opens y ≡ None
      not_open None e never = e
      not_open (Some w) e never = absurd (never w e)

      not_running : (o : Option (Running Begun)) → q.running y ≡ o → ((w : Running Begun) → q.running y ≡ Some w → ⊥)
          → q.running y ≡ None
      not_running None e never = e
      not_running (Some w) e never = absurd (never w e)

      leaf_at : (w : Running Begun) → q.running y ≡ Some w → at_address q y ≡ Some (leaf_cost begun_weight w)
      leaf_at w e =
          let no = not_open (q.opens y) refl (λ v h. none-some w (sym (apart.opens y v h).1 ∙ e)) in
          ap (λ o. or_else (option_map (open_cost d items weight y) o)
          (or_else (option_map (leaf_cost begun_weight) (q.running y)) (or_else (option_map cost (q.rows y)) None))) no
          ∙ ap (λ o. or_else (option_map (leaf_cost begun_weight) o) (or_else (option_map cost (q.rows y)) None)) e

      row_at : (r : Row) → q.rows y ≡ Some r → at_address q y ≡ Some (cost r)
      row_at r e =
          let no = not_open (q.opens y) refl (λ v h. none-some r (sym (apart.opens y v h).0 ∙ e)) in
          let idle = not_running (q.running y) refl (λ w h. none-some r (sym (apart.leaves y w h) ∙ e)) in
          ap (λ o. or_else (option_map (open_cost d items weight y) o)
          (or_else (option_map (leaf_cost begun_weight) (q.running y)) (or_else (option_map cost (q.rows y)) None))) no
          ∙ ap (λ o. or_else (option_map (leaf_cost begun_weight) o) (or_else (option_map cost (q.rows y)) None)) idle
          ∙ ap (λ o. or_else (option_map cost o) None) e

  -- ---- the laws

  module _ (d : Graph) (depth : ℕ → ℕ) (m : Source Row Begun Decision Verdict) (s : State Row Begun Decision Verdict)
      (reached : IsReached d depth m s)
      (cost : Row → ℕ) (begun_weight : Begun → ℕ) (weight : Decision → ℕ)
      (pays : PaysItsParts m d (meaning m depth d) cost begun_weight weight) where
    pub under_its_meaning : {E : Type 0} (c : ℕ) → StateCosts d m.items cost begun_weight weight s c
        → (at : E → Address) (row : E → Row) (entries : List E) → TellsRows at row (meaning m depth d) entries
        → c ≤ sum_of (λ e. cost (row e)) entries
    under_its_meaning {E} c costs at row entries tells =
        let meant = told_table (meaning m depth d) at row entries tells in
        within d m.items cost begun_weight weight (λ (e : E). instance_of (at e)) row cost entries
        (told_order (meaning m depth d) at row entries tells) s (apart d depth m s reached) c costs
        (λ x r e. (r, meant x ∙ (reached_facts d depth m s reached).rows x r e, omega arith))
        (λ x w e. let paid = leaf_paid d depth m s reached cost begun_weight weight pays x w e in (paid.0, meant x ∙ paid.1, paid.2))
        (λ x w e. let paid = open_paid d depth m s reached cost begun_weight weight pays x w e in (paid.0, meant x ∙ paid.1, paid.2))

    module _ (es : List Event) (q : State Row Begun Decision Verdict) (run : Run d m s es q) where
      later : IsReached d depth m q
      later = on_reached d depth m s reached es q run

      on : GoesOn s q
      on = run_goes_on d m s es q run

      -- the row that comes to be is the meaning's
      the_meant : (x : Address) (r t : Row) → meaning m depth d x ≡ Some r → q.rows x ≡ Some t → r ≡ t
      the_meant x r t meant is =
          let both : Some r ≡ Some t = sym meant ∙ (reached_facts d depth m q later).rows x t is in cc (both)

      module _ (b : ℕ) (after : StateCosts d m.items cost begun_weight weight q b) where
        all : Listed d m.items cost begun_weight weight q b
        all = listed d m.items cost begun_weight weight q (apart d depth m q later) b after

        abbrev Paid : Address → ℕ → Type 0
        Paid x c = (v : ℕ) × (table all.all x ≡ Some v) × (c ≤ v)

        by_row : (x : Address) (r t : Row) (c : ℕ) → meaning m depth d x ≡ Some r → c ≤ cost r → q.rows x ≡ Some t → Paid x c
        by_row x r t c meant pay is =
            let same = ap cost (the_meant x r t meant is) in (
              cost t,
              all.has x ∙ row_at d m.items cost begun_weight weight q (apart d depth m q later) x t is,
              omega (arith, pay, same),
            )

        of_row : (x : Address) (r : Row) → s.rows x ≡ Some r → Paid x (cost r)
        of_row x r e =
            let there = on.rows x (r, e) in
            by_row x r there.0 (cost r) ((reached_facts d depth m s reached).rows x r e) (omega arith) there.1

        of_leaf : (x : Address) (w : Running Begun) → s.running x ≡ Some w → Paid x (leaf_cost begun_weight w)
        of_leaf x w e =
            ⊎_elim
            (λ u. let weighs = ap begun_weight u.2.0 in let tries = u.2.1 in (
              leaf_cost begun_weight u.0,
              all.has x ∙ leaf_at d m.items cost begun_weight weight q (apart d depth m q later) x u.0 u.1,
              omega (arith, weighs, tries),
            ))
            (λ r. let paid = leaf_paid d depth m s reached cost begun_weight weight pays x w e in
            by_row x paid.0 r.0 (leaf_cost begun_weight w) paid.1 paid.2 r.1)
            (on.leaves x w e)

        of_open : (x : Address) (w : Opening Decision Verdict) → s.opens x ≡ Some w → Paid x (open_cost d m.items weight x w)
        of_open x w e =
            ⊎_elim
            (λ u. (
              open_cost d m.items weight x u.0,
              all.has x ∙ open_at d m.items cost begun_weight weight q (apart d depth m q later) x u.0 u.1,
              no_less x w u.0 u.2.0 u.2.1,
            ))
            (λ r. let paid = open_paid d depth m s reached cost begun_weight weight pays x w e in
            by_row x paid.0 r.0 (open_cost d m.items weight x w) paid.1 paid.2 r.1)
            (on.opens x w e)
          where
            no_less : (x : Address) (w v : Opening Decision Verdict) → v.decision ≡ w.decision → w.next ≤ v.next
                → open_cost d m.items weight x w ≤ open_cost d m.items weight x v
            no_less x w v decides more =
                let weighs = ap weight decides in
                let items = ap m.items decides in
                let counts = more_iterations (kind_of d x.name) (m.items w.decision) (m.items v.decision) w.next v.next (sym items) more in
                omega (arith, weighs, counts)

        pub under_what_follows : (a : ℕ) → StateCosts d m.items cost begun_weight weight s a → a ≤ b
        under_what_follows a before =
            let fits = within d m.items cost begun_weight weight (λ (e : Entry ℕ). instance_of e.0) (λ (e : Entry ℕ). e.1) (λ c. c) all.all
            all.ordered s (apart d depth m s reached) a before of_row of_leaf of_open in
            let adds = all.adds in
            omega (arith, fits, adds)
