-- Rows that are read alike: they differ in something that nothing looks at, as in what the attempts of a connector came to. `plain` is a
-- row without that. Where two old tables are read alike, a resubmission of either makes the same rows of all that it doesn't keep.
use Rattle.std.specs.Prelude.{◌≡◌, ℕ, Bool, true, false, [], Option, Some, None}
use Rattle.wf_layers.specs.Address.{Address, Table, is_within}
use Rattle.wf_layers.specs.Definition.{Graph}
use Rattle.wf_layers.specs.Meaning.{meaning}
use Rattle.wf_layers.specs.Resubmission.{kept, pin}
use Rattle.wf_layers.specs.Source.{Source}

abbrev pub alike : {Row : Type 0} → (Row → Row) → Row → Row → Type 0
alike plain p q = plain p ≡ plain q

-- no row on either side, or two that are alike
pub data BothAlike {Row : Type 0} (plain : Row → Row) : Option Row → Option Row → Type 0 where
  no_rows : BothAlike plain None None
  two_rows : {p q : Row} → alike plain p q → BothAlike plain (Some p) (Some q)

abbrev pub AreAlike : {Row : Type 0} → (Row → Row) → Table Row → Table Row → Type 0
AreAlike plain t u = (y : Address) → BothAlike plain (t y) (u y)

-- No answer of b tells tables apart that are alike, and a reads the same status from rows that are.
pub record ReadsAlike {Row Begun Decision Verdict : Type 0} (a b : Source Row Begun Decision Verdict) (plain : Row → Row) : Type 0 where
  pub status : (p q : Row) → alike plain p q → a.status p ≡ a.status q
  pub start : (x : Address) (t u : Table Row) → AreAlike plain t u → b.start x t ≡ b.start x u
  pub finish : (x : Address) (p : Begun) (t u : Table Row) → AreAlike plain t u → b.finish x p t ≡ b.finish x p u
  pub decide : (x : Address) (t u : Table Row) → AreAlike plain t u → b.decide x t ≡ b.decide x u
  pub test : (x : Address) (j : ℕ) (t u : Table Row) → AreAlike plain t u → b.test x j t ≡ b.test x j u
  pub close : (x : Address) (p : Decision) (c : ℕ) (v : Option Verdict) (t u : Table Row) → AreAlike plain t u
      → b.close x p c v t ≡ b.close x p c v u
  pub halts : (x : Address) (t u : Table Row) → AreAlike plain t u → b.halts x t ≡ b.halts x u

abbrev pub OldTablesReadAlike : {Row Begun Decision Verdict : Type 0} → Graph → (ℕ → ℕ) → Source Row Begun Decision Verdict
    → Source Row Begun Decision Verdict → (ℕ → Bool) → (ℕ → Bool) → (Address → Decision) → (Row → Row) → Type 0
OldTablesReadAlike {Row} d depth a b redo again recall plain =
    (t u : Table Row) → AreAlike plain t u → (x : Address) → is_within d [] x ≡ true → kept redo again x.name ≡ false
    → meaning (pin a b redo again t recall) depth d x ≡ meaning (pin a b redo again u recall) depth d x
