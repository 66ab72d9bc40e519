-- What a call returned, by what the machine gave.
use Rattle.std.specs.Prelude.{◌≡◌, ℕ, List, Option, Some, None, Result, Ok, Err}
use Rattle.wf_val.specs.Cut.{cut_u32}
use Rattle.wf_expr.specs.Machine.{scan, start}
use Rattle.wf_expr.specs.ReadSeen.{Refused}
use Rattle.wf_expr.specs.Reading.{Reading, template_of}
use Rattle.wf_expr.specs.Spells.{too_long}
use Rattle.wf_template.specs.TemplateSeen.{template_tree}
use Rattle.wf_template.specs.TemplateTree.{TemplateTree}
use Rattle.wf_expr.specs.declared.fault.ParseFault.{ParseFault}
use Rattle.wf_template.specs.declared.template.Template.{Template}

-- the length that is told is that of an expression that is too long, cut
pub record IsOver (o : Option ℕ) (length : ℕ) : Type 0 where
  pub characters : ℕ
  pub first : o ≡ Some characters
  pub told : length ≡ cut_u32 characters

-- the template is what was read, or an expression in it is too long
abbrev pub Concluded : Result Template ParseFault → Option ℕ → TemplateTree → Type 0
Concluded (Ok t) o v = (o ≡ None) × (template_tree t ≡ v)
Concluded (Err (ParseFault.Syntax at)) o v = ⊥
Concluded (Err (ParseFault.TooLong length)) o v = IsOver o length
Concluded (Err ParseFault.Memory) o v = Unit {0}

abbrev pub Concludes : Result Template ParseFault → List ℕ → Reading → Type 0
Concludes r s w = Concluded r (too_long s w) (template_of w)

-- the machine read w, and that was the outcome
pub record WasRead (r : Result Template ParseFault) (s : List ℕ) : Type 0 where
  pub reading : Reading
  pub read : scan start 0 s ≡ Ok reading
  pub concludes : Concludes r s reading

-- what a call returned is what the machine gave, unless memory ran out
abbrev pub Parses : Result Template ParseFault → List ℕ → Type 0
Parses (Ok t) s = WasRead (Ok t) s
Parses (Err (ParseFault.Syntax at)) s = Refused (scan start 0 s) at
Parses (Err (ParseFault.TooLong length)) s = WasRead (Err (ParseFault.TooLong length)) s
Parses (Err ParseFault.Memory) s = Unit {0}
