-- What breaks a rule where it stands: pointers from the value on. Each rule is a list of them.
use Rattle.std.specs.Prelude.{ℕ, List, [], Bool, false, not}
use Rattle.wf_after.specs.Waits.{bad_run_after}
use Rattle.wf_after.specs.Pointer.{here}
use Rattle.wf_texts.specs.KindsMembers.{action_has_members, trigger_has_members, output_has_members}
use Rattle.wf_texts.specs.Members.{bad_texts_of_action, bad_texts_of_trigger, bad_texts_of_output}
use Rattle.wf_val.specs.ValueTree.{ValueTree, object, pairs}
use Rattle.wf_form.specs.Form.{form}
use Rattle.wf_form.specs.Limits.{limits}
use Rattle.wf_form.specs.Naming.{naming}
use Rattle.wf_form.specs.Schema.{schema}
use Rattle.wf_form.specs.Types.{types}
use Rattle.wf_form.specs.Whole.{Whole}
use Rattle.wf_form.specs.declared.role.Role.{Role}
use Rattle.wf_form.specs.declared.rule.Rule.{Rule}

-- V6: what lacks a member that its type asks for, or has one of another form or range
abbrev pub lacks_members : Role → ValueTree → Bool
lacks_members (Role.Action level) t = not (action_has_members t)
lacks_members Role.Trigger t = not (trigger_has_members t)
lacks_members Role.Output t = not (output_has_members t)
lacks_members role t = false

unfoldable pub lacking : Role → ValueTree → List (List ℕ)
lacking role t = here (lacks_members role t)

-- V7: the texts that are templates, and spell none or call what they may not
abbrev pub bad_texts_at : Role → ValueTree → List (List ℕ)
bad_texts_at (Role.Action level) t = bad_texts_of_action t
bad_texts_at Role.Trigger t = bad_texts_of_trigger t
bad_texts_at Role.Output t = bad_texts_of_output t
bad_texts_at role t = []

unfoldable pub expressions : Role → ValueTree → List (List ℕ)
expressions role t = bad_texts_at role t

-- V8 is judged at a graph, over all its actions
abbrev pub run_after_in : ValueTree → List (List ℕ)
run_after_in (object ms) = bad_run_after (pairs ms)
run_after_in t = []

abbrev pub run_after_at : Role → ValueTree → List (List ℕ)
run_after_at (Role.Graph level) t = run_after_in t
run_after_at role t = []

unfoldable pub run_after : Role → ValueTree → List (List ℕ)
run_after role t = run_after_at role t

abbrev pub judge : Rule → Whole → Role → List ℕ → ValueTree → List (List ℕ)
judge Rule.Form whole role key t = form role t
judge Rule.Schema whole role key t = schema role t
judge Rule.Limits whole role key t = limits whole role t
judge Rule.Names whole role key t = naming whole role key
judge Rule.Types whole role key t = types role t
judge Rule.Members whole role key t = lacking role t
judge Rule.Expressions whole role key t = expressions role t
judge Rule.RunAfter whole role key t = run_after role t
