-- That events taken are few by what a state costs.
use Rattle.std.proofs.Common.{◌≡◌, ◌≤◌, ℕ, suc, ◌+◌, ◌*◌, List, [], ◌∷◌, Some, inl, inr, refl, ap, ◌∙◌, sym, subst, arith, option_map}
use Rattle.wf_lists.specs.KeyOrder.{IsInKeyOrder}
use Rattle.wf_layers.specs.Address.{Address, Table}
use Rattle.wf_layers.specs.Bound.{TellsTurns}
use Rattle.wf_layers.specs.Definition.{Graph, Kind, Leaf, Scope, Choice, Foreach, Until}
use Rattle.wf_layers.specs.Facts.{OpenFact}
use Rattle.wf_layers.specs.Listed.{Among, Lists, sum_of}
use Rattle.wf_layers.specs.Machine.{Opening, Running, State}
use Rattle.wf_layers.specs.Meaning.{meaning}
use Rattle.wf_layers.specs.Source.{Source}
use Rattle.wf_kept.specs.Reached.{IsReached}
use Rattle.wf_kept.specs.Taken.{HasTaken}
use Rattle.wf_kept.proofs.Informed.{kinds_are_known, open_stands, reached_facts}
use Rattle.wf_kept.proofs.Taken.{taken_are_few}
use Rattle.wf_tables.specs.Instances.{address_of, instance_cmp}
use Rattle.wf_tables.specs.Known.{open_tree}
use Rattle.wf_tables.specs.OpenAt.{OpenAt}
use Rattle.wf_tables.specs.RowAt.{RowAt}
use Rattle.wf_tables.specs.Tables.{leaf_tree, state_of}
use Rattle.wf_tables.specs.declared.entries.LeafAt.{LeafAt}
use Rattle.wf_meter.specs.Cost.{iterations, leaf_cost, open_cost, opens_cost, rows_cost, running_cost}
use Rattle.wf_meter.proofs.PriceLemmas.{found_own, lists_table}

-- ---- a list whose entries are known to be priced

module _ {E : Type 0} (P : E → Type 0) where
  abbrev priced_list : (xs : List E) → ((e : E) → Among xs e → P e) → List ((e : E) × P e)
  priced_list [] h = []
  priced_list (x ∷ xs) h = (x, h x (inl refl)) ∷ priced_list xs (λ e a. h e (inr a))

  same_sum : (f : E → ℕ) (xs : List E) (h : (e : E) → Among xs e → P e)
      → sum_of (λ (z : (e : E) × P e). f z.0) (priced_list xs h) ≡ sum_of f xs
  same_sum f [] h = refl
  same_sum f (x ∷ xs) h = let rest = same_sum f xs (λ e a. h e (inr a)) in omega (arith, rest)

  among_first : (xs : List E) (h : (e : E) → Among xs e → P e) (z : (e : E) × P e) → Among (priced_list xs h) z → Among xs z.0
  among_first [] h z a = absurd a
  among_first (x ∷ xs) h z (inl is) = inl (ap (λ (y : (e : E) × P e). y.0) is)
  among_first (x ∷ xs) h z (inr a) = inr (among_first xs (λ e b. h e (inr b)) z a)

  among_priced : (xs : List E) (h : (e : E) → Among xs e → P e) (e : E) → Among xs e
      → (z : (e : E) × P e) × Among (priced_list xs h) z × (z.0 ≡ e)
  among_priced [] h e a = absurd a
  among_priced (x ∷ xs) h e (inl is) = ((x, h x (inl refl)), inl refl, is)
  among_priced (x ∷ xs) h e (inr a) =
      let found = among_priced xs (λ e b. h e (inr b)) e a in
      (found.0, inr found.1, found.2)

  lists_priced : {Y : Type 0} (at : E → Address) (see : E → Y) (t : Table Y) (xs : List E) (h : (e : E) → Among xs e → P e)
      → Lists at see t xs → Lists (λ (z : (e : E) × P e). at z.0) (λ (z : (e : E) × P e). see z.0) t (priced_list xs h)
  lists_priced at see t xs h lists = record {
    each = λ z a. lists.each z.0 (among_first xs h z a);
    all = λ x y is.
        let found = lists.all x y is in
        let priced = among_priced xs h found.0 found.1 in
        (priced.0, priced.1, ap at priced.2 ∙ found.2);
  }

module _ {Row Begun Decision Verdict : Type 0} (d : Graph) (depth : ℕ → ℕ) (m : Source Row Begun Decision Verdict)
    (s : State Row Begun Decision Verdict) (reached : IsReached d depth m s) where
  -- what is begun is counted
  begun_counted : (kind : Kind) (n : ℕ) (i : List ℕ) (w : Opening Decision Verdict)
      → OpenFact m (meaning m depth d) s.rows kind n i w → w.next ≤ iterations (Some kind) (m.items w.decision) w.next
  begun_counted Leaf n i w fact = absurd fact
  begun_counted (Scope g) n i w fact = omega arith
  begun_counted (Choice bs) n i w fact = omega arith
  begun_counted (Foreach pace g) n i w fact = fact.1
  begun_counted (Until most g) n i w fact = omega arith

  open_paid : (weight : Decision → ℕ) (x : Address) (w : Opening Decision Verdict) → s.opens x ≡ Some w
      → 64 * suc w.next ≤ open_cost d m.items weight x w
  open_paid weight x w is =
      let stands = open_stands d depth m s reached x w is in
      let known = (kinds_are_known d depth m s reached x.name x.at stands.0.0 stands.0.1 stands.0.3).0 in
      let fact = (reached_facts d depth m s reached).opens x.name x.at w stands.0.1 is known in
      let counted = subst (λ k. w.next ≤ iterations k (m.items w.decision) w.next) (sym known)
      (begun_counted stands.0.1 x.name x.at w fact) in
      omega (arith, counted)

leaf_paid : {Begun : Type 0} (weight : Begun → ℕ) (w : Running Begun) → 64 * suc w.tries ≤ leaf_cost weight w
leaf_paid weight w = omega arith

module _ {Row Begun Decision Verdict Kept Started Decided Told : Type 0} (see : Row → Kept) (started : Begun → Started)
    (decided : Decision → Decided) (told : Verdict → Told) (d : Graph) (depth : ℕ → ℕ) (m : Source Kept Started Decided Told)
    (rows : List (RowAt Row)) (running : List (LeafAt Begun)) (opens : List (OpenAt Decision Verdict))
    (reached : IsReached d depth m (state_of see started decided told rows running opens))
    (by_rows : IsInKeyOrder instance_cmp (λ (r : RowAt Row). r.instance) rows)
    (by_running : IsInKeyOrder instance_cmp (λ (l : LeafAt Begun). l.instance) running)
    (by_opens : IsInKeyOrder instance_cmp (λ (o : OpenAt Decision Verdict). o.instance) opens) (weight : Decided → ℕ) where
  abbrev s : State Kept Started Decided Told
  s = state_of see started decided told rows running opens

  abbrev price : OpenAt Decision Verdict → ℕ
  price o = open_cost d m.items weight (address_of o.instance) (open_tree decided told o)

  abbrev IsPaid : OpenAt Decision Verdict → Type 0
  IsPaid o = 64 * suc o.next ≤ price o

  all_paid : (o : OpenAt Decision Verdict) → Among opens o → 64 * suc o.next ≤ open_cost d m.items weight (address_of o.instance)
      (open_tree decided told o)
  all_paid o a =
      open_paid d depth m s reached weight (address_of o.instance) (open_tree decided told o)
      (ap (option_map (open_tree decided told)) (found_own (λ (z : OpenAt Decision Verdict). z.instance) opens by_opens o a))

  pub taken_paid : (turns : Kept → ℕ) → TellsTurns d m (meaning m depth d) turns → (cost : Kept → ℕ)
      → ((r : Kept) → 64 * suc (turns r) ≤ cost r) → (begun_weight : Started → ℕ) → (k : ℕ) → HasTaken d depth m s k
      → 32 * k ≤ rows_cost see cost rows + running_cost started begun_weight running + opens_cost decided told d m.items weight opens
  taken_paid turns tells cost priced begun_weight k taken =
      let few = taken_are_few d depth m s reached k taken turns tells
      (λ (r : RowAt Row). address_of r.instance) (λ (r : RowAt Row). see r.row)
      (λ (l : LeafAt Begun). address_of l.instance) (leaf_tree started)
      (λ (z : (o : OpenAt Decision Verdict) × IsPaid o). address_of z.0.instance)
      (λ (z : (o : OpenAt Decision Verdict) × IsPaid o). open_tree decided told z.0)
      (λ (r : RowAt Row). cost (see r.row)) (λ (l : LeafAt Begun). leaf_cost begun_weight (leaf_tree started l))
      (λ (z : (o : OpenAt Decision Verdict) × IsPaid o). price z.0)
      (record {
        rows = λ r. priced (see r.row);
        leaves = λ l. leaf_paid begun_weight (leaf_tree started l);
        opens = λ z. z.1;
      })
      rows running (priced_list IsPaid opens all_paid)
      (lists_table (λ (r : RowAt Row). r.instance) (λ (r : RowAt Row). see r.row) rows by_rows)
      (lists_table (λ (l : LeafAt Begun). l.instance) (leaf_tree started) running by_running)
      (lists_priced IsPaid (λ (o : OpenAt Decision Verdict). address_of o.instance) (open_tree decided told) s.opens opens all_paid
      (lists_table (λ (o : OpenAt Decision Verdict). o.instance) (open_tree decided told) opens by_opens)) in
      let same = same_sum IsPaid price opens all_paid in
      omega (arith, few, same)
