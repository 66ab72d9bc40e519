-- A definition keeps only that a proof of this exists. An entailment is a proposition, so the proof may be opened in front of the walk.
use mathlib.Core.Logic.{∥∥₁_elim}
use seplogic.Bi.Basic.{Entails, Entails-prop}
use seplogic.Ra.Ura.{Ura}
use base.Logic.{via, mono_r, sep}
use types.Logic.{Logic}
use prog.Wp.{Tables, WpFn}
use denote.Triple.Bound.{Bound}
use denote.Triple.Entry.{on_entry}
use borrow.Fn.Function.{fn_of, plain_of}
use borrow.Fn.Kinds.{sig_of}
use contract.Fact.{fact}
use contract.Monad.{fact_mono}
use Rattle.wf_reading.specs.Read.{IsRead}
use Rattle.wf_reading.specs.ReadSeen.{def_tree}
use Rattle.wf_reading.proofs.definition.Def.always_read.Statement.{statement}
use Rattle.wf_reading.proofs.definition.Def.always_read.Lts as lts
use Rattle.wf_reading.proofs.definition.Def.always_read.Reads as reads
use Rattle.wf_reading.proofs.definition.Def.always_read.Tie as tie

module _ {M : Type 1} (𝓤 : Ura M) (𝓛 : Logic {M = M} 𝓤) (𝓣 : Tables {M = M} 𝓤 𝓛.H) (y : Bound 𝓛 (sig_of 1 lts.ps lts.r) × Unit {0}) where
  abbrev at_entry : Type 1
  at_entry =
      Entails {M = M} {op = 𝓤.op}
      (sep 𝓤 (on_entry 𝓛 (sig_of 1 lts.ps lts.r) y.0.0 y.0.1 y.0.3 y.0.4) (fact 𝓤 (Unit {0})))
      (WpFn 𝓤 𝓛.H 𝓣.C 𝓣.Λ (fn_of 1 lts.ps lts.r lts.xs lts.m lts.hs lts.body)
      ((plain_of 𝓛 1 lts.ps lts.r reads.Pre reads.Post).args y)
      ((plain_of 𝓛 1 lts.ps lts.r reads.Pre reads.Post).post y))

  opened : IsRead (def_tree y.0.3.0.now) → at_entry
  opened read =
      via 𝓤 _ (mono_r 𝓤 (on_entry 𝓛 (sig_of 1 lts.ps lts.r) y.0.0 y.0.1 y.0.3 y.0.4)
      (fact_mono 𝓤 (Unit {0}) (IsRead (def_tree y.0.3.0.now)) (λ _. read)))
      (lts.spec (λ κs a. IsRead (def_tree a.0.now)) reads.Post (λ c. c.requires) 𝓤 𝓛 𝓣 y)

pub always_read_spec : {M : Type 1} → statement M
always_read_spec {M} =
    tie.close (λ 𝓤 𝓛 𝓣 y. ∥∥₁_elim y.0.3.0.now.read (Entails-prop {M = M} 𝓤.op _ _) (opened 𝓤 𝓛 𝓣 y))
