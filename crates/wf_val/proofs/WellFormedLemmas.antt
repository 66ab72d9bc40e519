-- Items and members that are well formed stay so when one is put, added behind the others or taken out.
use Rattle.std.proofs.Common.{ℕ, List, [], ◌∷◌, ◌++◌, map, IsUtf8}
use Rattle.std.specs.List.{AllByRecursion}
use Rattle.wf_val.specs.Get.{name_of}
use Rattle.wf_val.specs.NameOrder.{IsAboveAll, put_named, without_named}
use Rattle.wf_val.specs.ValueTree.{ValueTree, Member, members}
use Rattle.wf_val.specs.WellFormed.{IsWellFormed, AllMembersWellFormed, AreValues, AreMembers}
use Rattle.wf_val.specs.Seen.{tree}
use Rattle.wf_val.specs.declared.val.Val.{Val}
use Rattle.wf_val.proofs.NameOrderLemmas.{all-put, all-append, all-without, in_order-put, in_order-append, in_order-without}

abbrev MemberIsWellFormed : Member → Type 0
MemberIsWellFormed m = IsUtf8 m.0 × IsWellFormed m.1

each_member : (ms : List Member) → AllMembersWellFormed (members ms) → AllByRecursion MemberIsWellFormed ms
each_member [] all = tt
each_member (m ∷ ms) all = (all.0, each_member ms all.1)

all_members : (ms : List Member) → AllByRecursion MemberIsWellFormed ms → AllMembersWellFormed (members ms)
all_members [] each = tt
all_members (m ∷ ms) each = (each.0, all_members ms each.1)

pub AreMembers-put : (m : Member) (ms : List Member) → IsUtf8 m.0 → IsWellFormed m.1 → AreMembers ms → AreMembers (put_named name_of m ms)
AreMembers-put m ms name value are = record {
  in_order = in_order-put name_of m ms are.in_order;
  well_formed = all_members _ (all-put name_of MemberIsWellFormed m ms (name, value) (each_member ms are.well_formed));
}

pub AreMembers-append : (m : Member) (ms : List Member) → IsUtf8 m.0 → IsWellFormed m.1 → AreMembers ms → IsAboveAll name_of m.0 ms → AreMembers (ms ++ m ∷ [])
AreMembers-append m ms name value are above = record {
  in_order = in_order-append name_of m ms are.in_order above;
  well_formed = all_members _ (all-append name_of MemberIsWellFormed m ms (name, value) (each_member ms are.well_formed));
}

pub AreMembers-without : (k : List ℕ) (ms : List Member) → AreMembers ms → AreMembers (without_named name_of k ms)
AreMembers-without k ms are = record {
  in_order = in_order-without name_of k ms are.in_order;
  well_formed = all_members _ (all-without name_of MemberIsWellFormed k ms (each_member ms are.well_formed));
}

pub AreValues-append : (t : ValueTree) (ts : List ValueTree) → IsWellFormed t → AreValues ts → AreValues (ts ++ t ∷ [])
AreValues-append t [] value are = (value, tt)
AreValues-append t (x ∷ ts) value are = (are.0, AreValues-append t ts value are.1)

pub AreValues-push : (v : Val) (vs : List Val) → IsWellFormed (tree v) → AreValues (map tree vs) → AreValues (map tree (vs ++ v ∷ []))
AreValues-push v [] value are = (value, tt)
AreValues-push v (x ∷ vs) value are = (are.0, AreValues-push v vs value are.1)
