-- The store of a variable is told by the rows.
use Rattle.std.proofs.Common.{List, [], ◌∷◌, Option, None, ℕ, refl, subst}
use Rattle.wf_layers.specs.Definition.{Graph}
use Rattle.wf_layers.specs.Address.{Address}
use Rattle.wf_layers.specs.Source.{Source}
use Rattle.wf_layers.specs.Meaning.{meaning}
use Rattle.wf_layers.specs.Laws.{IsInstance}
use Rattle.wf_layers.specs.Machine.{State, Event, Run, fresh}
use Rattle.wf_layers.specs.Variables.{written, Stores, OneOrder, IsLastWritten}
use Rattle.wf_kept.specs.Stored.{IsStored, begun}
use Rattle.wf_kept.proofs.Followers.{once_sound}
use Rattle.wf_kept.proofs.OneWay.{last_is_one}
use Rattle.wf_kept.proofs.Stored.{store_is_written}

module _ {Row Begun Decision Verdict Value : Type 0} (d : Graph) (depth : ℕ → ℕ) (m : Source Row Begun Decision Verdict)
    (writes : Address → Row → Option Value) where
  abbrev St : Type 0
  St = State Row Begun Decision Verdict

  -- each run has a store
  store_of : (s : St) (es : List Event) (s' : St) (v : Option Value) → Run d m s es s'
      → (u : Option Value) × Stores d m writes s es s' v u
  store_of s [] s' v run = (v, (run, refl))
  store_of s (e ∷ es) s' v run =
      let rest = store_of run.0 es s' (written d m writes e run.0 v) run.2 in (rest.0, (run.0, run.1, rest.1))

  pub told_by_rows : (es : List Event) (s : St) → IsInstance d m depth → Run d m fresh es s → OneOrder d m writes (meaning m depth d)
      → (v : Option Value) → IsLastWritten d m writes s.rows v → IsStored d depth m writes s v
  told_by_rows es s is run order v last =
      let there = store_of fresh es s None run in
      let stored : IsStored d depth m writes s there.0 = begun es is there.1 in
      subst (λ z. IsStored d depth m writes s z)
      (last_is_one d depth m writes (once_sound m d d 0 is.local) is.falls s.rows there.0 v
      (store_is_written d depth m writes order s there.0 stored) last)
      stored
