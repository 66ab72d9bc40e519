-- Rows that give what they write write, by numbers, what they give, by names.
use Rattle.std.proofs.Common.{◌≡◌, ℕ, Bool, true, false, cond, List, [], length, Option, Some, None, refl, sym, ap, ◌∙◌, eq-eqb}
use Rattle.std.specs.Prelude.{option_map}
use Rattle.wf_val.specs.ValueTree.{ValueTree}
use Rattle.wf_layers.specs.Address.{Address, Table}
use Rattle.wf_layers.proofs.Basics.{unless, when}
use Rattle.wf_asks.specs.Known.{is_among, writer}
use Rattle.wf_def.specs.DefTree.{DefTree}
use Rattle.wf_loops.specs.Loops.{loops_of}
use Rattle.wf_record.specs.Record.{Row}
use Rattle.wf_record.specs.declared.status.Status.{Status}
use Rattle.wf_meant_laws.specs.Points.{graph_of}
use Rattle.wf_meant_laws.specs.Variables.{given_as, given_by}
use Rattle.wf_meant_laws.specs.Answered.{GiveWhatTheyWrite}
use Rattle.wf_meant_laws.specs.Tables.{StandAtInstances}
use Rattle.wf_meant_laws.specs.Writers.{is_writer, writes_to}
use Rattle.wf_meant_laws.proofs.WholeLemmas.{full_of}
use Rattle.wf_sight.specs.CatalogVariables.{variable_number, written}
use Rattle.wf_sight_laws.specs.Writes.{if_succeeded, is_full, writes}
use Rattle.wf_sight_laws.proofs.NumberLemmas.{writer_same}

-- ---- by what is written and what is given

nothing : (b : Bool) (y : Address) → None ≡ cond b (option_map (λ (value : ValueTree). y) None) None
nothing true y = refl
nothing false y = refl

by_status : (s : Status) (outputs : ValueTree) (k : List ℕ) (v : ℕ) (y : Address) (ns : List ℕ) (w : Bool) → is_among v ns ≡ w
    → (w ≡ true → s ≡ Status.Succeeded → (u : ValueTree) × (given_as k s outputs ≡ Some u))
    → cond (is_among v (if_succeeded s ns)) (Some y) None ≡ cond w (option_map (λ (value : ValueTree). y) (given_as k s outputs)) None
by_status Status.Succeeded outputs k v y ns true is given =
    when (is_among v ns) (Some y) None is
    ∙ sym (ap (λ (o : Option ValueTree). option_map (λ (value : ValueTree). y) o) (given refl refl).1)
by_status Status.Succeeded outputs k v y ns false is given = unless (is_among v ns) (Some y) None is
by_status Status.Failed outputs k v y ns w is given = nothing w y
by_status Status.Skipped outputs k v y ns w is given = nothing w y
by_status Status.TimedOut outputs k v y ns w is given = nothing w y
by_status Status.Cancelled outputs k v y ns w is given = nothing w y

some_of : (o : Option ValueTree) → (o ≡ None → ⊥) → (v : ValueTree) × (o ≡ Some v)
some_of None some = absurd (some refl)
some_of (Some v) some = (v, refl)

module _ (d : DefTree) (rows : Table Row) (stand : StandAtInstances d rows) (give : GiveWhatTheyWrite d rows) where
  full : (y : Address) (row : Row) → rows y ≡ Some row → is_full d y ≡ true
  full y row there = eq-eqb (length y.at) (length (loops_of (graph_of d) y.name)) (full_of d rows stand y row there)

  -- THE LAW
  pub writes_what_it_gives : (k : List ℕ) (v : ℕ) → variable_number d k ≡ Some v → (y : Address) (row : Row) → rows y ≡ Some row
      → writer (writes d) v y row ≡ writes_to d k y row
  writes_what_it_gives k v number y row there =
      ap (λ (ns : List ℕ). cond (is_among v ns) (Some y) None)
      (when (is_full d y) (if_succeeded row.status (written d y.name)) [] (full y row there))
      ∙ by_status row.status row.outputs k v y (written d y.name) (is_writer d k y.name) (writer_same d k v y.name number)
      (λ wr is. some_of (given_by k row) (give k y row there wr is))
