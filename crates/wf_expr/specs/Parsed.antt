-- What `parse_template` gives.
use Rattle.std.specs.Prelude.{◌≡◌, ℕ, List, Result, Ok, Err}
use Rattle.wf_val.specs.Cut.{cut_u32}
use Rattle.wf_expr.specs.Spells.{IsFault, IsTooLong}
use Rattle.wf_template.specs.TemplateSeen.{template_tree}
use Rattle.wf_template.specs.TemplateTree.{TemplateTree}
use Rattle.wf_expr.specs.declared.fault.ParseFault.{ParseFault}
use Rattle.wf_template.specs.declared.template.Template.{Template}

-- the template t is given, unless memory ran out
abbrev pub IsTemplate : Result Template ParseFault → TemplateTree → Type 0
IsTemplate (Ok x) t = template_tree x ≡ t
IsTemplate (Err (ParseFault.Syntax at)) t = ⊥
IsTemplate (Err (ParseFault.TooLong length)) t = ⊥
IsTemplate (Err ParseFault.Memory) t = Unit {0}

-- the text is refused at this place, unless memory ran out
abbrev pub IsSyntaxAt : Result Template ParseFault → ℕ → Type 0
IsSyntaxAt (Ok x) place = ⊥
IsSyntaxAt (Err (ParseFault.Syntax at)) place = at ≡ cut_u32 place
IsSyntaxAt (Err (ParseFault.TooLong length)) place = ⊥
IsSyntaxAt (Err ParseFault.Memory) place = Unit {0}

-- the text is refused for an expression of so many characters, unless memory ran out
abbrev pub IsTooLongBy : Result Template ParseFault → ℕ → Type 0
IsTooLongBy (Ok x) n = ⊥
IsTooLongBy (Err (ParseFault.Syntax at)) n = ⊥
IsTooLongBy (Err (ParseFault.TooLong length)) n = length ≡ cut_u32 n
IsTooLongBy (Err ParseFault.Memory) n = Unit {0}

-- the text goes wrong at the place that is told, cut
pub record GoesWrong (s : List ℕ) (at : ℕ) : Type 0 where
  pub place : ℕ
  pub wrong : IsFault s place
  pub told : at ≡ cut_u32 place

-- its first expression that is too long has the length that is told, cut
pub record HasTooLong (s : List ℕ) (length : ℕ) : Type 0 where
  pub characters : ℕ
  pub first : IsTooLong s characters
  pub told : length ≡ cut_u32 characters

-- the fault is the text's; want of memory may always be
abbrev pub HasFault : List ℕ → ParseFault → Type 0
HasFault s (ParseFault.Syntax at) = GoesWrong s at
HasFault s (ParseFault.TooLong length) = HasTooLong s length
HasFault s ParseFault.Memory = Unit {0}
