-- Writers of a variable, by its number, are in one order with each other and with who reads it.
use Rattle.std.proofs.Common.{◌≡◌, ℕ, Bool, true, false, cond, List, [], length, Option, Some, None, ◌⊎◌, inl, inr, refl, sym, ap, ◌∙◌}
use Rattle.std.proofs.Common.{subst, eqb-true, true≢false}
use Rattle.std.specs.Prelude.{bytes_eq, option_map}
use Rattle.std.specs.List.{list_any}
use Rattle.wf_layers.specs.Address.{Address, Table, address, is_in, is_within}
use Rattle.wf_layers.specs.Definition.{Kind, Skipped, has, kind_of}
use Rattle.wf_layers.specs.Seen.{Once}
use Rattle.wf_layers.specs.Variables.{HasOrder, IsIdle, IsOrdered, OneOrder}
use Rattle.wf_layers.proofs.Basics.{and_in, own_in, two, unless}
use Rattle.wf_asks.specs.Known.{MayRead, is_among, writer}
use Rattle.wf_def.specs.ActionTree.{ActionTree, action}
use Rattle.wf_def.specs.AllActions.{numbered}
use Rattle.wf_def.specs.DefTree.{DefTree}
use Rattle.wf_order.specs.Turns.{IsInstance}
use Rattle.wf_loops.specs.Loops.{loops_of}
use Rattle.wf_meant_laws.specs.Sites.{uses_at_inputs, writes_of}
use Rattle.wf_meant_laws.specs.UsesTree.{ordered}
use Rattle.wf_meant_laws.specs.Pairs as pairs
use Rattle.wf_meant_laws.specs.AcceptedLawsVariables.{ReadsIt, VariablesAreInOneOrder, WritesIt}
use Rattle.wf_record.specs.Record.{Row}
use Rattle.wf_record.specs.declared.status.Status.{Status}
use Rattle.wf_meant_laws.specs.Environment.{Environment}
use Rattle.wf_meant_laws.specs.Statuses.{status_tree}
use Rattle.wf_meant_laws.specs.Answering.{AnswersAs, RowSource}
use Rattle.wf_meant_laws.specs.Points.{graph_of}
use Rattle.wf_meant_laws.specs.Record.{depth_of}
use Rattle.wf_meant_laws.specs.Store.{Accesses}
use Rattle.wf_meant_laws.specs.Tables.{StandAtInstances}
use Rattle.wf_meant_laws.specs.Writers.{is_writer, writes_if}
use Rattle.wf_meant_laws.proofs.AccessLemmas.{writer_is_leaf}
use Rattle.wf_meant_laws.proofs.WholeLemmas.{round_of}
use Rattle.wf_sight.specs.CatalogVariables.{variable_number, written}
use Rattle.wf_sight_laws.specs.Writes.{if_succeeded, is_full, writes}
use Rattle.wf_sight_laws.proofs.NumberLemmas.{one_number, writer_of}

-- ---- what a row has that writes

module _ (v : ℕ) (ns : List ℕ) where
  idle_writes : (full : Bool) (s : Status) (y : Address) → status_tree s ≡ Skipped
      → cond (is_among v (cond full (if_succeeded s ns) [])) (Some y) None ≡ None
  idle_writes false s y idle = refl
  idle_writes true Status.Succeeded y idle = absurd (cc)
  idle_writes true Status.Failed y idle = refl
  idle_writes true Status.Skipped y idle = refl
  idle_writes true Status.TimedOut y idle = refl
  idle_writes true Status.Cancelled y idle = refl

  written_there : (full : Bool) (s : Status) → is_among v (cond full (if_succeeded s ns) []) ≡ true
      → (full ≡ true) × (is_among v ns ≡ true)
  written_there false s is = absurd (true≢false (sym is))
  written_there true Status.Succeeded is = (refl, is)
  written_there true Status.Failed is = absurd (true≢false (sym is))
  written_there true Status.Skipped is = absurd (true≢false (sym is))
  written_there true Status.TimedOut is = absurd (true≢false (sym is))
  written_there true Status.Cancelled is = absurd (true≢false (sym is))

module _ (d : DefTree) (v : ℕ) where
  writing : (y : Address) (row : Row) → (writer (writes d) v y row ≡ None → ⊥) → writes d v y row ≡ true
  writing y row some = elim (two (writes d v y row)) [
    | inl t ↦ t
    | inr f ↦ absurd (some (unless (writes d v y row) (Some y) None f))
  ]

  wrote : (y : Address) (row : Row) → writes d v y row ≡ true → (is_full d y ≡ true) × (is_among v (written d y.name) ≡ true)
  wrote y row is = written_there v (written d y.name) (is_full d y) row.status is

-- ---- in the words of the rules

writes_same : (same : (k : List ℕ) (ks : List (List ℕ)) → list_any (bytes_eq k) (ordered ks) ≡ list_any (bytes_eq k) ks) (k : List ℕ)
    (o : Option ActionTree) → writes_if k o ≡ true → list_any (bytes_eq k) (pairs.writes_if (option_map uses_at_inputs o)) ≡ true
writes_same same k None wr = absurd (true≢false (sym wr))
writes_same same k (Some (action name number pointer after kind tracked)) wr = same k (writes_of kind) ∙ wr

module _ (d : DefTree) (m : RowSource) (once : Once (graph_of d)) (all : VariablesAreInOneOrder d)
    (same : (k : List ℕ) (ks : List (List ℕ)) → list_any (bytes_eq k) (ordered ks) ≡ list_any (bytes_eq k) ks) where
  writes_it : (k : List ℕ) (n : ℕ) → is_writer d k n ≡ true → WritesIt d k n
  writes_it k n wr = writes_same same k (numbered n d.top) wr

  -- ---- two writers

  pub one_order : (e : Environment) → AnswersAs d e m → (rows : Table Row) → StandAtInstances d rows → (v : ℕ)
      → OneOrder (graph_of d) m (writer (writes d) v) rows
  one_order e answers rows stand v = record {
    idle = λ y r is. idle y r is;
    leaves = λ y r some.
        let w = writer_of d v y.name (wrote d v y r (writing d v y r some)).1 in
        writer_is_leaf d once w.name y.name (numbered y.name d.top) refl w.is;
    ordered = λ x y q r of_x of_y one other.
        let w = writer_of d v x.name (wrote d v x q (writing d v x q one)).1 in
        let u = writer_of d v y.name (wrote d v y r (writing d v y r other)).1 in
        all.writers w.name x y (stand x q of_x) (stand y r of_y) (writes_it w.name x.name w.is)
        (writes_it w.name y.name (subst (λ (k : List ℕ). is_writer d k y.name ≡ true) (one_number d u.name w.name v u.number w.number)
        u.is));
  }
    where
      idle : (y : Address) (r : Row) → IsIdle m r → writer (writes d) v y r ≡ None
      idle y r (inl skipped) =
          idle_writes v (written d y.name) (is_full d y) r.status y (ap (λ (q : Row). status_tree q.status) (skipped ∙ answers.skipped))
      idle y r (inr status) =
          idle_writes v (written d y.name) (is_full d y) r.status y (sym (ap (λ told. told r) answers.status) ∙ status)

  -- ---- a writer, and who reads

  own_or_ordered : (n : ℕ) (i : List ℕ) (kind : Kind) (y : Address) → (address n i ≡ y) ⊎ IsOrdered (graph_of d) (address n i) y
      → HasOrder (graph_of d) n kind i y
  own_or_ordered n i kind y (inl own) = inl (subst (λ (z : Address). is_in n kind i z ≡ true) own (own_in n kind i))
  own_or_ordered n i kind y (inr o) = inr o

  has_order : (k : List ℕ) (n : ℕ) (i : List ℕ) (kind : Kind) → kind_of (graph_of d) n ≡ Some kind
      → IsInstance (graph_of d) (address n i) → (y : Address) → IsInstance (graph_of d) y → WritesIt d k y.name
      → ReadsIt d k n ⊎ WritesIt d k n → HasOrder (graph_of d) n kind i y
  has_order k n i kind is of_n y of_y wr (inl reads) = all.readers k n i kind y is of_n of_y reads wr
  has_order k n i kind is of_n y of_y wr (inr own) =
      own_or_ordered n i kind y (all.writers k (address n i) y of_n of_y own wr)

  stands_full : (y : Address) → is_within (graph_of d) [] y ≡ true → is_full d y ≡ true → IsInstance (graph_of d) y
  stands_full y within full = (
    (and_in (has (graph_of d) y.name) true within).0,
    round_of (graph_of d) y.name ∙ sym (eqb-true (length y.at) (length (loops_of (graph_of d) y.name)) full),
  )

  pub may_read : (k : List ℕ) (v : ℕ) → variable_number d k ≡ Some v → (n : ℕ) (i : List ℕ) (kind : Kind) → Accesses d k n i kind
      → MayRead (graph_of d) (depth_of d) m (writes d) v n kind i
  may_read k v number n i kind a = λ y r within is.
      let h = wrote d v y r is in
      let w = writer_of d v y.name h.1 in
      has_order k n i kind a.is a.instance y (stands_full y within h.0)
      (writes_it k y.name (subst (λ (m : List ℕ). is_writer d m y.name ≡ true) (one_number d w.name k v w.number number) w.is))
      a.accesses
