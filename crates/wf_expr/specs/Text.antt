-- The template that a text spells, as a function of the text: what the machine reads, unless an expression is too long.
use Rattle.std.specs.Prelude.{ℕ, List, Option, Some, None, Result, Ok, Err, chars}
use Rattle.wf_template.specs.TemplateTree.{TemplateTree}
use Rattle.wf_expr.specs.Machine.{scan, start}
use Rattle.wf_expr.specs.Reading.{Reading, template_of}
use Rattle.wf_expr.specs.Spells.{too_long}

abbrev pub unless_long : Option ℕ → TemplateTree → Option TemplateTree
unless_long None t = Some t
unless_long (Some n) t = None

-- from what the machine gave for the characters s
abbrev pub template_read : List ℕ → Result Reading ℕ → Option TemplateTree
template_read s (Ok w) = unless_long (too_long s w) (template_of w)
template_read s (Err at) = None

-- by the text's bytes; none where the text spells no template, or an expression in it is too long
unfoldable pub template_in : List ℕ → Option TemplateTree
template_in text = template_read (chars text) (scan start 0 (chars text))
