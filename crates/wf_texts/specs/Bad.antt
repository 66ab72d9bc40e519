-- Where a value has bad texts: pointers (RFC 6901) from the value on.
use Rattle.std.specs.Prelude.{ℕ, suc, List, [], ◌++◌, map}
use Rattle.wf_val.specs.ValueTree.{ValueTree, null, boolean, number, text, list, object, ValueTrees, no_values, value_then, MemberTrees, no_members, member_then}
use Rattle.wf_kinds.specs.Pointer.{here, item_step, member_step}
use Rattle.wf_texts.specs.Sound.{is_bad}

-- names of members are no templates
abbrev mutual
  pub bad_texts : ValueTree → List (List ℕ)
  bad_texts null = []
  bad_texts (boolean b) = []
  bad_texts (number n) = []
  bad_texts (text s) = here (is_bad s)
  bad_texts (list ts) = bad_items 0 ts
  bad_texts (object ms) = bad_members ms

  pub bad_items : ℕ → ValueTrees → List (List ℕ)
  bad_items place no_values = []
  bad_items place (value_then t ts) = map (λ p. item_step place ++ p) (bad_texts t) ++ bad_items (suc place) ts

  pub bad_members : MemberTrees → List (List ℕ)
  bad_members no_members = []
  bad_members (member_then name t ms) = map (λ p. member_step name ++ p) (bad_texts t) ++ bad_members ms
