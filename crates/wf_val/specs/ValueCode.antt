-- A code of trees, by which a proof tells two of them apart. Nothing else rests on it.
use Rattle.std.specs.Prelude.{◌≡◌, refl}
use Rattle.std.specs.Coded.{Coded, coded_ℕ, coded_ℤ, coded_bool, coded_list, coded×}
use Rattle.std.proofs.Common.{ap}
use base.Stored.{Gv, gnil, gnum, gcons}
use Rattle.wf_val.specs.ValueTree.{ValueTree, null, boolean, number, text, list, object, ValueTrees, no_values, value_then, MemberTrees, no_members, member_then, Member}

abbrev mutual
  pub code : ValueTree → Gv
  code null = gnil
  code (boolean b) = gcons (gnum 0) (coded_bool.code b)
  code (number n) = gcons (gnum 1) (coded_ℤ.code n)
  code (text s) = gcons (gnum 2) ((coded_list coded_ℕ).code s)
  code (list ts) = gcons (gnum 3) (trees_code ts)
  code (object ms) = gcons (gnum 4) (members_code ms)

  pub trees_code : ValueTrees → Gv
  trees_code no_values = gnil
  trees_code (value_then t ts) = gcons (code t) (trees_code ts)

  pub members_code : MemberTrees → Gv
  members_code no_members = gnil
  members_code (member_then k t ms) = gcons (gcons ((coded_list coded_ℕ).code k) (code t)) (members_code ms)

mutual
  pub inj : (x y : ValueTree) → code x ≡ code y → x ≡ y
  inj null null p = refl
  inj (boolean a) (boolean b) p = ap boolean (coded_bool.inj a b (cc))
  inj (number a) (number b) p = ap number (coded_ℤ.inj a b (cc))
  inj (text a) (text b) p = ap text ((coded_list coded_ℕ).inj a b (cc))
  inj (list a) (list b) p = ap list (trees_inj a b (cc))
  inj (object a) (object b) p = ap object (members_inj a b (cc))
  inj x y p = cc

  trees_inj : (x y : ValueTrees) → trees_code x ≡ trees_code y → x ≡ y
  trees_inj no_values no_values p = refl
  trees_inj (value_then a more) (value_then b rest) p = let first = inj a b (cc) in let others = trees_inj more rest (cc) in cc
  trees_inj x y p = cc

  members_inj : (x y : MemberTrees) → members_code x ≡ members_code y → x ≡ y
  members_inj no_members no_members p = refl
  members_inj (member_then k a more) (member_then l b rest) p =
      let name = (coded_list coded_ℕ).inj k l (cc) in
      let first = inj a b (cc) in
      let others = members_inj more rest (cc) in cc
  members_inj x y p = cc

abbrev pub coded_value : Coded ValueTree
coded_value = record { code = code; inj = inj }

abbrev pub coded_member : Coded Member
coded_member = coded× (coded_list coded_ℕ) coded_value
