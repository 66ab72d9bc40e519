-- Where a definition breaks a rule: one walk for all rules over what they look at.
use Rattle.std.specs.Prelude.{ℕ, List, [], ◌++◌, map}
use Rattle.wf_after.specs.Pointer.{member_step}
use Rattle.wf_val.specs.ValueTree.{ValueTree, object, MemberTrees, no_members, member_then}
use Rattle.wf_form.specs.Actions.{in_part}
use Rattle.wf_form.specs.Judge.{judge}
use Rattle.wf_form.specs.Role.{child, holder_of}
use Rattle.wf_form.specs.Whole.{Whole}
use Rattle.wf_form.specs.declared.role.Role.{Role}
use Rattle.wf_form.specs.declared.role.Holder.{Holder}
use Rattle.wf_form.specs.declared.rule.Rule.{Rule}

-- the pointers, from a value on, of all places in it that break the rule
module _ (rule : Rule) (whole : Whole) where
  abbrev mutual
    pub places : Role → List ℕ → ValueTree → List (List ℕ)
    places role key (object ms) = judge rule whole role key (object ms) ++ in_members role (holder_of (object ms)) ms
    places role key t = judge rule whole role key t

    pub in_members : Role → Holder → MemberTrees → List (List ℕ)
    in_members role holder no_members = []
    in_members role holder (member_then k t ms) =
        map (λ p. member_step k ++ p) (in_part (child role holder k) (λ part. places part k t)) ++ in_members role holder ms
