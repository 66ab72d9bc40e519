-- Which texts are sound where a template is asked: those that spell one, in which every call is sound.
use Rattle.std.specs.Prelude.{ℕ, List, Bool, true, not, ◌&&◌, Option, Some, None}
use Rattle.std.specs.List.{list_all}
use Rattle.wf_template.specs.ExprTree.{ExprTree, ExprTrees, literal, call, member, index, no_exprs, expr_then}
use Rattle.wf_template.specs.TemplateTree.{PieceTree, letters, part, TemplateTree, plain, whole, parts}
use Rattle.wf_expr.specs.Text.{template_in}
use Rattle.wf_texts.specs.Calls.{is_sound_call}

-- each call in it, also in arguments and behind `if`, whether or not it will be made
abbrev mutual
  pub is_sound : ExprTree → Bool
  is_sound (literal t) = true
  is_sound (call name es) = is_sound_call name es && are_sound es
  is_sound (member e name soft) = is_sound e
  is_sound (index e key soft) = is_sound e && is_sound key

  pub are_sound : ExprTrees → Bool
  are_sound no_exprs = true
  are_sound (expr_then e es) = is_sound e && are_sound es

abbrev pub is_sound_piece : PieceTree → Bool
is_sound_piece (letters s) = true
is_sound_piece (part e) = is_sound e

abbrev pub is_sound_template : TemplateTree → Bool
is_sound_template (plain s) = true
is_sound_template (whole e) = is_sound e
is_sound_template (parts ps) = list_all is_sound_piece ps

abbrev pub is_bad_reading : Option TemplateTree → Bool
is_bad_reading None = true
is_bad_reading (Some t) = not (is_sound_template t)

-- the text spells no template, or one with a call that isn't sound
unfoldable pub is_bad : List ℕ → Bool
is_bad s = is_bad_reading (template_in s)
