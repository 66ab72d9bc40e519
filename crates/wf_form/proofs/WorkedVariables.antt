-- Worked definitions for what several variables in one action mean to V3, V6 and V7.
use Rattle.std.proofs.Common.{◌≡◌, ℕ, zero, suc, pos, List, [], ◌∷◌, ◌++◌, codes, map, true, false, Bool, Option, Some, None, refl}
use Rattle.std.specs.Fmt.{digits}
use Rattle.std.specs.Str.{chars}
use Rattle.wf_texts.specs.ActionType.{type_of}
use Rattle.wf_texts.specs.KindsMembers.{action_has_members, trigger_has_members, output_has_members}
use Rattle.wf_texts.specs.Kinds.{kind}
use Rattle.wf_texts.specs.Text.{template_in}
use Rattle.wf_texts.specs.WordTests.{word_of, word_front}
use Rattle.wf_texts.specs.Members.{bad_texts_of_action, bad_texts_of_trigger, bad_texts_of_output}
use Rattle.wf_texts.specs.Sound.{is_bad}
use Rattle.wf_val.specs.ValueTree.{ValueTree, null, number, text, list, object, trees, members, Member}
use Rattle.wf_form.specs.Fault.{first_fault}
use Rattle.wf_form.specs.Form.{form}
use Rattle.wf_form.specs.Judge.{lacking, expressions, run_after}
use Rattle.wf_form.specs.Limits.{limits}
use Rattle.wf_form.specs.Naming.{naming}
use Rattle.wf_form.specs.Schema.{schema}
use Rattle.wf_form.specs.Types.{types}
use Rattle.wf_form.specs.Whole.{count_variables, whole_of}
use Rattle.wf_form.specs.declared.role.Role.{Role}
use Rattle.wf_form.specs.declared.rule.Rule.{Rule}

abbrev of : List Member → ValueTree
of ms = object (members ms)

abbrev graph : List Member → ValueTree
graph as' = of ((codes "actions", of as') ∷ [])

abbrev times : {X : Type 0} → ℕ → X → List X
times zero x = []
times (suc n) x = x ∷ times n x

-- an action of a type with these inputs
abbrev given : List ℕ → List ℕ → ValueTree → Member
given name type' inputs = (name, of ((codes "inputs", inputs) ∷ (codes "type", text type') ∷ []))

abbrev listing : ValueTree → ValueTree
listing variables = of ((codes "variables", variables) ∷ [])

abbrev variable : List ℕ → ValueTree
variable name = of ((codes "name", text name) ∷ (codes "type", text (codes "integer")) ∷ [])

-- an action that makes so many
abbrev making : List ℕ → ℕ → Member
making name n = given name (codes "InitializeVariable") (listing (list (trees (times n (variable (codes "v"))))))

abbrev in_scope : List ℕ → List Member → Member
in_scope name as' = (name, of ((codes "actions", of as') ∷ (codes "type", text (codes "Scope")) ∷ []))

-- ---- V3 counts the items of each list

counts : map count_variables (
    [] ∷
    (making (codes "A") 0 ∷ []) ∷
    (making (codes "A") 1 ∷ []) ∷
    (making (codes "A") 20 ∷ making (codes "B") 3 ∷ []) ∷
    -- whatever they are, and of whatever letter case the type is
    (given (codes "A") (codes "INITIALIZEvariable") (listing (list (trees (null ∷ number (pos 5) ∷ variable [] ∷ [])))) ∷ []) ∷
    -- what is no list makes none
    (given (codes "A") (codes "InitializeVariable") (listing (variable (codes "v"))) ∷ []) ∷
    (given (codes "A") (codes "InitializeVariable") (listing null) ∷ []) ∷
    (given (codes "A") (codes "InitializeVariable") (of []) ∷ []) ∷
    (given (codes "A") (codes "InitializeVariable") (list (trees (variable (codes "v") ∷ []))) ∷ []) ∷
    ((codes "A", of ((codes "type", text (codes "InitializeVariable")) ∷ [])) ∷ []) ∷
    -- nor does an action of another type
    (given (codes "A") (codes "SetVariable") (listing (list (trees (variable (codes "v") ∷ [])))) ∷ []) ∷
    (given (codes "A") (codes "Compose") (listing (list (trees (variable (codes "v") ∷ [])))) ∷ []) ∷
    (given (codes "A") (codes "Initialize") (listing (list (trees (variable (codes "v") ∷ [])))) ∷ []) ∷
    [])
    ≡ 0 ∷ 0 ∷ 1 ∷ 23 ∷ 3 ∷ 0 ∷ 0 ∷ 0 ∷ 0 ∷ 0 ∷ 0 ∷ 0 ∷ 0 ∷ []
unfolding type_of
counts = refl

abbrev has_too_many : List Member → Bool
has_too_many as' = (whole_of (graph as')).has_too_many_variables

-- at any depth; 250 and no more
at_the_limit : map has_too_many (
    [] ∷
    (making (codes "A") 250 ∷ []) ∷
    (making (codes "A") 251 ∷ []) ∷
    (in_scope (codes "S") (making (codes "A") 125 ∷ []) ∷ making (codes "T") 125 ∷ []) ∷
    (in_scope (codes "S") (making (codes "A") 125 ∷ []) ∷ making (codes "T") 126 ∷ []) ∷
    (times 12 (making (codes "A") 20) ++ making (codes "Z") 10 ∷ []) ∷
    (times 12 (making (codes "A") 20) ++ making (codes "Z") 11 ∷ []) ∷
    -- 251 actions, of which each but one makes none
    (making (codes "A") 1 ∷ times 250 (making (codes "B") 0)) ∷
    [])
    ≡ false ∷ false ∷ true ∷ false ∷ true ∷ false ∷ true ∷ false ∷ []
unfolding type_of
at_the_limit = refl

told_at_the_top : map (λ as'. limits (whole_of (graph as')) Role.Definition (graph as')) (
    (making (codes "A") 250 ∷ []) ∷
    (making (codes "A") 251 ∷ []) ∷
    (in_scope (codes "S") (making (codes "A") 251 ∷ []) ∷ []) ∷
    [])
    ≡ [] ∷ (codes "/actions" ∷ []) ∷ (codes "/actions" ∷ []) ∷ []
unfolding type_of limits
told_at_the_top = refl

-- ---- which rule comes first

abbrev faults : List (List Member) → List (Option (Rule × List ℕ))
faults ds = map (λ as'. first_fault (graph as')) ds

-- 20 are fine and 21 break V6; 251 break V3 before that; a list that isn't there breaks V6 alone
which_rule : faults (
    (making (codes "V") 20 ∷ []) ∷
    (making (codes "V") 21 ∷ []) ∷
    (making (codes "V") 0 ∷ []) ∷
    (making (codes "V") 251 ∷ []) ∷
    ((codes "V", of ((codes "type", text (codes "InitializeVariable")) ∷ [])) ∷ []) ∷
    [])
    ≡ None ∷ Some (Rule.Members, codes "/actions/V") ∷ Some (Rule.Members, codes "/actions/V") ∷ Some (Rule.Limits, codes "/actions")
    ∷ Some (Rule.Members, codes "/actions/V") ∷ []
unfolding type_of form schema limits naming types lacking expressions run_after chars action_has_members trigger_has_members
    output_has_members bad_texts_of_action bad_texts_of_trigger bad_texts_of_output is_bad template_in kind word_of word_front
which_rule = refl

abbrev valued : List ℕ → List ℕ → ValueTree
valued name value = of ((codes "name", text name) ∷ (codes "type", text (codes "string")) ∷ (codes "value", text value) ∷ [])

-- each value is a template, and no name is one
values : faults (
    (given (codes "V") (codes "InitializeVariable")
    (listing (list (trees (valued (codes "@bad(") (codes "a") ∷ valued (codes "b") (codes "@bad(") ∷ [])))) ∷ []) ∷
    (given (codes "V") (codes "InitializeVariable")
    (listing (list (trees (valued (codes "@bad(") (codes "a") ∷ valued (codes "b") (codes "c") ∷ [])))) ∷ []) ∷
    [])
    ≡ Some (Rule.Expressions, codes "/actions/V/inputs/variables/1/value") ∷ None ∷ []
unfolding type_of form schema limits naming types lacking expressions run_after chars action_has_members trigger_has_members
    output_has_members bad_texts_of_action bad_texts_of_trigger bad_texts_of_output is_bad template_in kind word_of word_front digits
values = refl
