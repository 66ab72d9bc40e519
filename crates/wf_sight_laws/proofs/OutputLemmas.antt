-- The section `outputs` sees all rows, so that of each variable the last writer of all gave the value.
use Rattle.std.proofs.Common.{◌≡◌, ◌⊎◌, ℕ, List, Option, Some, None, length, inl, inr, refl, ap, ◌∙◌}
use Rattle.wf_val.specs.ValueTree.{ValueTree}
use Rattle.wf_layers.specs.Address.{Address, SeenIn, Table}
use Rattle.wf_layers.specs.Variables.{IsLastSeen, IsLastWritten, write_at}
use Rattle.wf_asks.specs.Known.{writer}
use Rattle.wf_def.specs.DefTree.{DefTree}
use Rattle.wf_loops.specs.Loops.{loops_of}
use Rattle.wf_record.specs.Record.{Row}
use Rattle.wf_meant_laws.specs.Environment.{Environment}
use Rattle.wf_seen_laws.proofs.RoundLemmas.{none_split}
use Rattle.wf_meant_laws.specs.Answering.{RowSource}
use Rattle.wf_meant_laws.specs.Look.{told_to_outputs}
use Rattle.wf_meant_laws.specs.Points.{graph_of, point_of_outputs}
use Rattle.wf_meant_laws.specs.Last.{LastIsRead}
use Rattle.wf_meant_laws.specs.Tables.{LoopsTell}
use Rattle.wf_meant_laws.proofs.PointLemmas.{Seeing}
use Rattle.wf_meant_laws.proofs.SeeingLemmas.{Known}
use Rattle.wf_meant_laws.proofs.WriterLemmas.{last_is_read}
use Rattle.wf_meant_laws.specs.Writers.{writes_to}
use Rattle.wf_sight.specs.Laws.{with_variables}
use Rattle.wf_sight.specs.Sight.{KnownTree}
use Rattle.wf_sight.specs.CatalogVariables.{variable_number}
use Rattle.wf_sight_laws.specs.Writes.{writes}
use Rattle.wf_sight_laws.proofs.LastLemmas.{told_by_number}

abbrev Any : Address → Type 0
Any y = Unit {0}

sees_all : (d : DefTree) → Seeing d (point_of_outputs d) Any
sees_all d = record {
  told = λ x s. refl;
  only = λ x s. tt;
  round = λ x l outer at turn of s. inl tt;
  apart = λ l outer at turn st s. absurd (none_split outer l st.inner st.loops);
}

pub read_by_outputs : (d : DefTree) → Known d → (m : RowSource) (rows : Table Row) → LoopsTell d rows
    → ((x : Address) (row : Row) → rows x ≡ Some row → length x.at ≡ length (loops_of (graph_of d) x.name))
    → LastIsRead d m rows (point_of_outputs d) Any
read_by_outputs d known m rows loops full v writer last others agree =
    last_is_read d known m (point_of_outputs d) Any (sees_all d) rows loops full v writer last others agree

module _ (d : DefTree) (m : RowSource) where
  -- the last of all is the last that is seen
  all_seen : (rows : Table Row) (v : ℕ) (w : Option Address) → IsLastWritten (graph_of d) m (writer (writes d) v) rows w
      → IsLastSeen (graph_of d) m (writer (writes d) v) rows Any w
  all_seen rows v w (inl none) = inl (none.0, λ y s. nothing y (rows y) refl)
    where
      nothing : (y : Address) (o : Option Row) → rows y ≡ o → write_at (graph_of d) m (writer (writes d) v) y o ≡ None
      nothing y None is = refl
      nothing y (Some r) is = none.1 y r is
  all_seen rows v w (inr one) =
      inr (
        one.0,
        tt,
        ap (λ (o : Option Row). write_at (graph_of d) m (writer (writes d) v) one.0 o) one.2 ∙ one.3,
        one.4,
        λ z s some. later z (rows z) refl some,
      )
    where
      later : (z : Address) (o : Option Row) → rows z ≡ o
          → (write_at (graph_of d) m (writer (writes d) v) z o ≡ None → ⊥) → (z ≡ one.0) ⊎ SeenIn (graph_of d) one.0 z
      later z None is some = absurd (some refl)
      later z (Some q) is some = one.5 z q is some

  -- THE LAW
  pub outputs_told : (e : Environment) (meant : Table Row)
      → ((k : List ℕ) (v : ℕ) → variable_number d k ≡ Some v → (y : Address) (row : Row) → meant y ≡ Some row
      → writer (writes d) v y row ≡ writes_to d k y row)
      → LastIsRead d m meant (point_of_outputs d) Any → (known : KnownTree) → ((y : Address) → known.rows y ≡ meant y)
      → ((v : ℕ) → IsLastWritten (graph_of d) m (writer (writes d) v) known.rows (known.store v))
      → with_variables d known (told_to_outputs d e known.rows) ≡ told_to_outputs d e known.rows
  outputs_told e meant give read known there last =
      ap (λ (f : List ℕ → Option ValueTree). record (told_to_outputs d e known.rows) { variable = f })
      (λ i k. told_by_number d m meant give Any known.rows (λ y s. there y) (point_of_outputs d) read known.store k
      (λ v number. all_seen known.rows v (known.store v) (last v)) i)
