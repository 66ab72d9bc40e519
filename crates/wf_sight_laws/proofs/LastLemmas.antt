-- The last writer that a store has, by the number of a variable, gave the value that a point finds, by its name.
use Rattle.std.proofs.Common.{◌≡◌, ℕ, List, Option, Some, None, inl, inr, refl, sym, ap, ◌∙◌}
use Rattle.std.specs.Prelude.{option_map}
use Rattle.std.specs.Option.{option_and_then}
use Rattle.std.proofs.lemmas.Option.{none-some}
use Rattle.wf_val.specs.ValueTree.{ValueTree}
use Rattle.wf_layers.specs.Address.{Address, Table}
use Rattle.wf_layers.specs.Variables.{IsLastSeen, write_at}
use Rattle.wf_layers.proofs.Basics.{two, unless}
use Rattle.wf_asks.specs.Known.{writer}
use Rattle.wf_def.specs.DefTree.{DefTree}
use Rattle.wf_record.specs.Record.{Row}
use Rattle.wf_meant_laws.specs.Answering.{RowSource}
use Rattle.wf_meant_laws.specs.Points.{Point, graph_of}
use Rattle.wf_meant_laws.specs.Variables.{given_by, variable_at}
use Rattle.wf_meant_laws.specs.Last.{LastIsRead}
use Rattle.wf_meant_laws.specs.Writers.{is_writer, value_at, writes_to}
use Rattle.wf_sight.specs.CatalogVariables.{variable_number}
use Rattle.wf_sight.specs.Variables.{variable_in}
use Rattle.wf_sight_laws.specs.Writes.{writes}
use Rattle.wf_sight_laws.proofs.NumberLemmas.{written_has_number}

module _ (d : DefTree) (m : RowSource) (meant : Table Row)
    (give : (k : List ℕ) (v : ℕ) → variable_number d k ≡ Some v → (y : Address) (row : Row) → meant y ≡ Some row
    → writer (writes d) v y row ≡ writes_to d k y row)
    (Sees : Address → Type 0) (rows : Table Row) (there : (y : Address) → Sees y → rows y ≡ meant y) where
  abbrev by_number : ℕ → Address → Option Row → Option Address
  by_number v y o = write_at (graph_of d) m (writer (writes d) v) y o

  abbrev by_name : List ℕ → Address → Option Row → Option Address
  by_name k y o = write_at (graph_of d) m (writes_to d k) y o

  same_write : (k : List ℕ) (v : ℕ) → variable_number d k ≡ Some v → (y : Address) (o : Option Row) → meant y ≡ o
      → by_number v y o ≡ by_name k y o
  same_write k v number y None is = refl
  same_write k v number y (Some row) is = give k v number y row is

  same_there : (k : List ℕ) (v : ℕ) → variable_number d k ≡ Some v → (y : Address) → Sees y → by_number v y (rows y) ≡ by_name k y (meant y)
  same_there k v number y s = ap (λ (o : Option Row). by_number v y o) (there y s) ∙ same_write k v number y (meant y) refl

  last_named : (k : List ℕ) (v : ℕ) → variable_number d k ≡ Some v → (w : Option Address)
      → IsLastSeen (graph_of d) m (writer (writes d) v) rows Sees w
      → IsLastSeen (graph_of d) m (writes_to d k) meant Sees w
  last_named k v number w (inl none) = inl (none.0, λ y s. sym (same_there k v number y s) ∙ none.1 y s)
  last_named k v number w (inr one) =
      inr (
        one.0,
        one.1,
        sym (same_there k v number one.0 one.1) ∙ one.2,
        one.3,
        λ z s some. one.4 z s (λ no. some (sym (same_there k v number z s) ∙ no)),
      )

  -- nobody writes what has no number
  unwritten : (k : List ℕ) → variable_number d k ≡ None → (y : Address) (o : Option Row) → by_name k y o ≡ None
  unwritten k none y None = refl
  unwritten k none y (Some row) = elim (two (is_writer d k y.name)) [
    | inl t ↦ let h = written_has_number d k y.name t in absurd (none-some h.0 (sym none ∙ h.1))
    | inr f ↦ unless (is_writer d k y.name) (option_map (λ (value : ValueTree). y) (given_by k row)) None f
  ]

  -- THE LAW
  pub told_by_number : (p : Point) → LastIsRead d m meant p Sees → (store : ℕ → Option Address) (k : List ℕ)
      → ((v : ℕ) → variable_number d k ≡ Some v → IsLastSeen (graph_of d) m (writer (writes d) v) rows Sees (store v))
      → variable_in d rows store k ≡ variable_at d p rows k
  told_by_number p read store k last = go (variable_number d k) refl
    where
      go : (o : Option ℕ) → variable_number d k ≡ o → variable_in d rows store k ≡ variable_at d p rows k
      go None is =
          ap (option_and_then (λ (v : ℕ). value_at k rows (store v))) is
          ∙ sym (read k None (inl (refl, λ y s. unwritten k is y (meant y))) rows there)
      go (Some v) is =
          ap (option_and_then (λ (v : ℕ). value_at k rows (store v))) is
          ∙ sym (read k (store v) (last_named k v is (store v) (last v is)) rows there)
