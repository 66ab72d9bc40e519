-- What the laws know of all that is evaluated, and of an accepted definition: facts that others promise, in one place.
use Rattle.std.specs.Prelude.{◌≡◌, ◌≤◌, ℕ, List, [], Ok}
use Rattle.std.specs.List.{list_any}
use Rattle.std.specs.Prelude.{nat_eq}
use Rattle.wf_val.specs.ValueTree.{ValueTree, Fits, list, trees}
use Rattle.wf_layers.specs.Address.{Address, Table}
use Rattle.wf_layers.specs.Definition.{has}
use Rattle.wf_template.specs.DataTree.{DataTree}
use Rattle.wf_template.specs.TemplateTree.{TemplateTree}
use Rattle.wf_look.specs.Told.{Told}
use Rattle.wf_eval.specs.TemplateValue.{template_value}
use Rattle.wf_eval.specs.TreeValue.{tree_value}
use Rattle.wf_form.specs.Fault as form
use Rattle.wf_form.specs.Fault.{inner_of}
use Rattle.wf_form.specs.declared.rule.Rule as form_rule
use Rattle.wf_def.specs.ActionTree.{KindTree}
use Rattle.wf_def.specs.DefTree.{DefTree}
use Rattle.wf_reading.specs.Facts.{AreNumbered, graph_numbers}
use Rattle.wf_reading.specs.Read.{IsRead}
use Rattle.wf_known_laws.specs.Each.{EachGraph}
use Rattle.wf_known_laws.specs.Held.{AreInRange}
use Rattle.wf_breaks.specs.declared.rule.Rule.{Rule}
use Rattle.wf_pinned.specs.Broken.{offences}
use Rattle.wf_record.specs.Record.{Row}
use Rattle.wf_opening.specs.Decisions.{chosen, decided_from, each}
use Rattle.wf_done.specs.Kept.{KeepsFitting}
use Rattle.wf_done.specs.Leaf.{begun_from}
use Rattle.wf_environment.specs.Environment.{Environment}
use Rattle.wf_pinned.specs.Points.{graph_of}
use Rattle.wf_pinned.specs.Source.{source}
use Rattle.wf_pinned.specs.Listed.{StandFor}
use Rattle.wf_pinned.specs.Tables.{AreWhole}

abbrev pub TreesFit : Type 0
TreesFit = (l : Told) (t : DataTree) (n : ℕ) (v : ValueTree) → (tree_value l t n).0 ≡ Ok v → Fits v

abbrev pub TemplatesFit : Type 0
TemplatesFit = (l : Told) (t : TemplateTree) (n : ℕ) (v : ValueTree) → (template_value l t n).0 ≡ Ok v → Fits v

-- what is given fits, and what an action and a container keep of it
pub record Promised : Type 0 where
  pub templates : TemplatesFit
  pub values : TreesFit
  pub kept : (l : Told) (kind : KindTree) (n : ℕ) → KeepsFitting (begun_from l kind n)
  pub value : (l : Told) (kind : KindTree) (n : ℕ) (v : ValueTree) (b : ℕ) → decided_from l kind n ≡ chosen v b → Fits v
  pub items : (l : Told) (kind : KindTree) (n : ℕ) (ts : List ValueTree) → decided_from l kind n ≡ each ts → Fits (list (trees ts))

-- no action is tried more than 91 times
abbrev pub FewTries : DefTree → Environment → Type 0
FewTries d e = (x : Address) (known : Table Row) → (source d e).tries x ((source d e).start x known) ≤ 91

pub record IsKnown (d : DefTree) : Type 0 where
  pub read : IsRead d
  -- its names and its parameters break no rule
  pub named : form.offences (inner_of read.value) form_rule.Rule.Names ≡ []
  pub parameters : offences d Rule.Parameters ≡ []
  -- its numbers
  pub placed : AreNumbered d.top
  pub had : (n : ℕ) → has (graph_of d) n ≡ list_any (nat_eq n) (graph_numbers d.top)
  pub ranges : EachGraph AreInRange d.top
  -- its attempts, and the rows of its record
  pub few : (e : Environment) → FewTries d e
  pub listed : (known : Table Row) → AreWhole d known → StandFor d known
