-- Writers of a variable are in one order with each other, and with who reads it.
use Rattle.std.proofs.Common.{◌≡◌, ℕ, Bool, true, false, cond, List, Option, Some, None, ◌⊎◌, inl, inr, refl, sym, ap, ◌∙◌, subst}
use Rattle.std.proofs.Common.{true≢false}
use Rattle.std.specs.Prelude.{option_map, bytes_eq}
use Rattle.std.specs.List.{list_any}
use Rattle.wf_val.specs.ValueTree.{ValueTree}
use Rattle.wf_layers.specs.Address.{Address, Table, address, is_in}
use Rattle.wf_layers.specs.Definition.{Kind, Leaf, Skipped, kind_of}
use Rattle.wf_layers.specs.Seen.{Once}
use Rattle.wf_layers.specs.Variables.{HasOrder, IsIdle, IsOrdered, OneOrder}
use Rattle.wf_layers.proofs.Basics.{own_in, two, unless}
use Rattle.wf_seen_laws.specs.ActionTree.{ActionTree, action, action_kind, KindTree, initialize, set_to, increment, decrement, append_array}
use Rattle.wf_seen_laws.specs.ActionTree.{append_string}
use Rattle.wf_seen_laws.specs.AllActions.{numbered}
use Rattle.wf_seen_laws.specs.DefTree.{DefTree}
use Rattle.wf_seen_laws.specs.Layered.{layered_kind}
use Rattle.wf_instance.specs.Sites.{uses_at_inputs, writes_of}
use Rattle.wf_instance.specs.UsesTree.{ordered}
use Rattle.wf_instance.specs.Pairs.{writes_if}
use Rattle.wf_instance.specs.Variables.{VariablesAreInOneOrder, WritesIt}
use Rattle.wf_record.specs.Record.{Row}
use Rattle.wf_record.specs.declared.status.Status.{Status}
use Rattle.wf_instance.specs.Environment.{Environment}
use Rattle.wf_instance.specs.Statuses.{status_tree}
use Rattle.wf_instance.specs.Answering.{AnswersAs, RowSource}
use Rattle.wf_instance.specs.Points.{graph_of}
use Rattle.wf_instance.specs.MeantVariables.{given_as, given_by}
use Rattle.wf_instance.proofs.KindLemmas.{kinds}
use Rattle.wf_meant_laws.specs.Last.{AccessesHaveOrder}
use Rattle.wf_meant_laws.specs.Tables.{StandAtInstances}
use Rattle.wf_meant_laws.specs.Writers as writers
use Rattle.wf_meant_laws.specs.Writers.{is_writer, writes_to}

-- ---- what is Skipped gives nothing

skipped_gives : (v : List ℕ) (s : Status) (outputs : ValueTree) → status_tree s ≡ Skipped → given_as v s outputs ≡ None
skipped_gives v Status.Succeeded outputs e = absurd (cc)
skipped_gives v Status.Failed outputs e = refl
skipped_gives v Status.Skipped outputs e = refl
skipped_gives v Status.TimedOut outputs e = refl
skipped_gives v Status.Cancelled outputs e = refl

idle_gives : (d : DefTree) (e : Environment) (m : RowSource) → AnswersAs d e m → (v : List ℕ) (row : Row) → IsIdle m row
    → given_by v row ≡ None
idle_gives d e m answers v row (inl same) = ap (λ (r : Row). given_by v r) (same ∙ answers.skipped)
idle_gives d e m answers v row (inr status) =
    skipped_gives v row.status row.outputs (sym (ap (λ told. told row) answers.status) ∙ status)

nothing_written : (b : Bool) (y : Address) (o : Option ValueTree) → o ≡ None
    → cond b (option_map (λ (value : ValueTree). y) o) None ≡ None
nothing_written true y o e = ap (λ (q : Option ValueTree). option_map (λ (value : ValueTree). y) q) e
nothing_written false y o e = refl

-- ---- writers are leaves

leaf_of : (v : List ℕ) (kind : KindTree) → list_any (bytes_eq v) (writes_of kind) ≡ true → layered_kind kind ≡ Leaf
leaf_of v (initialize variables) is = refl
leaf_of v (set_to name value) is = refl
leaf_of v (increment name value) is = refl
leaf_of v (decrement name value) is = refl
leaf_of v (append_array name value) is = refl
leaf_of v (append_string name value) is = refl
leaf_of v kind is = absurd (true≢false (sym is))

pub writer_is_leaf : (d : DefTree) → Once (graph_of d) → (v : List ℕ) (n : ℕ) (o : Option ActionTree) → numbered n d.top ≡ o
    → writers.writes_if v o ≡ true → kind_of (graph_of d) n ≡ Some Leaf
writer_is_leaf d once v n None is wr = absurd (true≢false (sym wr))
writer_is_leaf d once v n (Some a) is wr = kinds d once n a is ∙ ap (λ (k : Kind). Some k) (leaf_of v (action_kind a) wr)

writes_same : (same : (k : List ℕ) (ks : List (List ℕ)) → list_any (bytes_eq k) (ordered ks) ≡ list_any (bytes_eq k) ks) (v : List ℕ)
    (o : Option ActionTree) → writers.writes_if v o ≡ true → list_any (bytes_eq v) (writes_if (option_map uses_at_inputs o)) ≡ true
writes_same same v None wr = absurd (true≢false (sym wr))
writes_same same v (Some (action name number pointer after kind tracked)) wr = same v (writes_of kind) ∙ wr

module _ (d : DefTree) (m : RowSource) (once : Once (graph_of d)) (all : VariablesAreInOneOrder d)
    (same : (k : List ℕ) (ks : List (List ℕ)) → list_any (bytes_eq k) (ordered ks) ≡ list_any (bytes_eq k) ks) (rows : Table Row)
    (stand : StandAtInstances d rows) where
  is_writing : (v : List ℕ) (y : Address) (row : Row) → (writes_to d v y row ≡ None → ⊥) → is_writer d v y.name ≡ true
  is_writing v y row some = elim (two (is_writer d v y.name)) [
    | inl t ↦ t
    | inr f ↦ absurd (some (unless (is_writer d v y.name) (option_map (λ (value : ValueTree). y) (given_by v row)) None f))
  ]

  writing : (v : List ℕ) (y : Address) (row : Row) → (writes_to d v y row ≡ None → ⊥) → WritesIt d v y.name
  writing v y row some = writes_same same v (numbered y.name d.top) (is_writing v y row some)

  pub one_order : (e : Environment) → AnswersAs d e m → (v : List ℕ) → OneOrder (graph_of d) m (writes_to d v) rows
  one_order e answers v = record {
    idle = λ y r is. nothing_written (is_writer d v y.name) y (given_by v r) (idle_gives d e m answers v r is);
    leaves = λ y r some. writer_is_leaf d once v y.name (numbered y.name d.top) refl (is_writing v y r some);
    ordered = λ x y q r of_x of_y one other.
        all.writers v x y (stand x q of_x) (stand y r of_y) (writing v x q one) (writing v y r other);
  }

  own_or_ordered : (n : ℕ) (i : List ℕ) (kind : Kind) (y : Address) → (address n i ≡ y) ⊎ IsOrdered (graph_of d) (address n i) y
      → HasOrder (graph_of d) n kind i y
  own_or_ordered n i kind y (inl own) = inl (subst (λ (z : Address). is_in n kind i z ≡ true) own (own_in n kind i))
  own_or_ordered n i kind y (inr o) = inr o

  pub have_order : AccessesHaveOrder d m rows
  have_order v n i kind is of_n (inl reads) = λ y row there some.
      all.readers v n i kind y is of_n (stand y row there) reads (writing v y row some)
  have_order v n i kind is of_n (inr writes') = λ y row there some.
      own_or_ordered n i kind y (all.writers v (address n i) y of_n (stand y row there) writes' (writing v y row some))
