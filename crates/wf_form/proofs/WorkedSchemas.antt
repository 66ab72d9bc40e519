-- Worked definitions for what the schema of a ParseJson means to V6 and V7.
use Rattle.std.proofs.Common.{◌≡◌, pos, List, [], ◌∷◌, codes, map, Some, None, refl}
use Rattle.std.specs.Str.{chars}
use Rattle.wf_texts.specs.ActionType.{type_of}
use Rattle.wf_texts.specs.KindsMembers.{action_has_members, trigger_has_members, output_has_members}
use Rattle.wf_texts.specs.Kinds.{kind}
use Rattle.wf_texts.specs.Text.{template_in}
use Rattle.wf_texts.specs.WordTests.{word_of, word_front}
use Rattle.wf_texts.specs.Members.{bad_texts_of_action, bad_texts_of_trigger, bad_texts_of_output}
use Rattle.wf_texts.specs.Sound.{is_bad}
use Rattle.wf_val.specs.ValueTree.{ValueTree, number, text, list, object, trees, members, Member}
use Rattle.wf_form.specs.Fault.{first_fault}
use Rattle.wf_form.specs.Form.{form}
use Rattle.wf_form.specs.Judge.{lacking, expressions, run_after}
use Rattle.wf_form.specs.Limits.{limits}
use Rattle.wf_form.specs.Naming.{naming}
use Rattle.wf_form.specs.Schema.{schema}
use Rattle.wf_form.specs.Types.{types}
use Rattle.wf_form.specs.declared.rule.Rule.{Rule}

abbrev of : List Member → ValueTree
of ms = object (members ms)

abbrev parsing : ValueTree → Member
parsing t = (
  codes "P",
  of (
      (codes "inputs", of ((codes "content", text (codes "{}")) ∷ (codes "schema", t) ∷ []))
      ∷ (codes "type", text (codes "ParseJson")) ∷ []),
)

-- a schema that is none breaks V6 at the action, whatever is amiss in it; its texts are no templates
schemas : map (λ as'. first_fault (of ((codes "actions", of as') ∷ []))) (
    (parsing (of ((codes "items", number (pos 5)) ∷ [])) ∷ []) ∷
    (parsing (of ((codes "properties", of ((codes "a", of ((codes "type", text (codes "@bad(")) ∷ [])) ∷ [])) ∷ [])) ∷ []) ∷
    (parsing (of ((codes "required", list (trees (text (codes "@bad(") ∷ []))) ∷ (codes "title", text (codes "@{")) ∷ [])) ∷ []) ∷
    [])
    ≡ Some (Rule.Members, codes "/actions/P") ∷ Some (Rule.Members, codes "/actions/P") ∷ None ∷ []
unfolding type_of form schema limits naming types lacking expressions run_after chars action_has_members trigger_has_members
    output_has_members bad_texts_of_action bad_texts_of_trigger bad_texts_of_output is_bad template_in kind word_of word_front
schemas = refl
