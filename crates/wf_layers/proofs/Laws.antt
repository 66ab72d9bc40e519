-- The laws, from what was proved of the meaning, of tables that obey the rule, and of runs.
use Rattle.std.proofs.Common.{◌≡◌, ℕ, true, Option, Some, None, refl, sym, ap, ◌∙◌, true≢false}
use Rattle.wf_layers.specs.Definition.{Graph, IsDepth}
use Rattle.wf_layers.specs.Address.{Table, SeenIn}
use Rattle.wf_layers.specs.Source.{Source, Sound}
use Rattle.wf_layers.specs.Meaning.{meaning}
use Rattle.wf_layers.specs.Rule.{Obeys}
use Rattle.wf_layers.specs.Machine.{has_ended}
use Rattle.wf_layers.specs.Called.{IsCalled}
use Rattle.wf_layers.specs.Laws.{IsFresh, MeaningObeysTheRule, RowsWhereCalledFor, RowsAreUnique, PartIsUnique}
use Rattle.wf_layers.proofs.Meaning.{meaning_solves}
use Rattle.wf_layers.proofs.Unique.{all_unique, part_unique}
use Rattle.wf_layers.proofs.Called.{called_has, row_called}

module _ {Row Begun Decision Verdict : Type 0} (d : Graph) (m : Source Row Begun Decision Verdict) (depth : ℕ → ℕ) (falls : IsDepth d depth)
    (local : Sound m (SeenIn d) d 0) where
  pub meaning_obeys_the_rule : MeaningObeysTheRule d m depth
  meaning_obeys_the_rule = meaning_solves m depth d falls local

  pub rows_where_called_for : IsFresh m → RowsWhereCalledFor d m depth
  rows_where_called_for own x w = (λ c. called_has m d local f sol own x c, λ e. go (f x) refl e)
    where
      f : Table Row
      f = meaning m depth d

      sol : Obeys m d (meaning m depth d)
      sol = meaning_solves m depth d falls local

      go : (o : Option Row) → f x ≡ o → has_ended (f x) ≡ true → IsCalled m d (meaning m depth d) x
      go None h e = absurd (true≢false (sym e ∙ ap has_ended h))
      go (Some r) h e = row_called m d local f sol own x r w h

  pub rows_are_unique : RowsAreUnique d m
  rows_are_unique t u t_obeys u_obeys x w =
      sym (all_unique m depth d falls local t t_obeys x w) ∙ all_unique m depth d falls local u u_obeys x w

  pub part_is_unique : PartIsUnique d m
  part_is_unique part near is t u t_obeys u_obeys x w p =
      sym (part_unique m depth d falls local part near is t t_obeys x w p) ∙ part_unique m depth d falls local part near is u u_obeys x w p
