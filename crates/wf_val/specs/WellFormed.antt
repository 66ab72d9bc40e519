-- What holds of every value, at every level of it: a number fits 64 bits with a sign, a text or a name is UTF-8, and
-- the members of an object stand in byte order of their names, each name once (RFC 8259, section 4, only asks that
-- names be unique).
use Rattle.std.specs.Prelude.{List, ⊤, FitsSigned, IsUtf8}
use Rattle.std.specs.Int.{w64}
use Rattle.wf_val.specs.Get.{name_of}
use Rattle.wf_val.specs.NameOrder.{IsInNameOrder}
use Rattle.wf_val.specs.ValueTree.{ValueTree, null, boolean, number, text, list, object, ValueTrees, no_values, value_then, MemberTrees, no_members, member_then, Member, trees, members, pairs}

abbrev mutual
  pub IsWellFormed : ValueTree → Type 0
  IsWellFormed null = ⊤
  IsWellFormed (boolean b) = ⊤
  IsWellFormed (number n) = FitsSigned w64 n
  IsWellFormed (text s) = IsUtf8 s
  IsWellFormed (list ts) = AllWellFormed ts
  IsWellFormed (object ms) = IsInNameOrder name_of (pairs ms) × AllMembersWellFormed ms

  pub AllWellFormed : ValueTrees → Type 0
  AllWellFormed no_values = ⊤
  AllWellFormed (value_then t ts) = IsWellFormed t × AllWellFormed ts

  pub AllMembersWellFormed : MemberTrees → Type 0
  AllMembersWellFormed no_members = ⊤
  AllMembersWellFormed (member_then k t ms) = (IsUtf8 k × IsWellFormed t) × AllMembersWellFormed ms

-- the items of a list
abbrev pub AreValues : List ValueTree → Type 0
AreValues ts = AllWellFormed (trees ts)

-- the members of an object
pub record AreMembers (ms : List Member) : Type 0 where
  pub in_order : IsInNameOrder name_of ms
  pub well_formed : AllMembersWellFormed (members ms)
