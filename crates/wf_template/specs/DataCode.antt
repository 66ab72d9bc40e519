-- A code of trees, by which a proof tells two of them apart. Nothing else rests on it.
use Rattle.std.specs.Prelude.{◌≡◌, refl}
use Rattle.std.specs.Coded.{Coded, coded_ℕ, coded_ℤ, coded_bool, coded_list, coded×}
use Rattle.std.proofs.Common.{ap}
use base.Stored.{Gv, gnil, gnum, gcons}
use Rattle.wf_val.specs.ValueCode.{coded_value}
use Rattle.wf_template.specs.ExprTree.{ExprTree, literal, call, member, index, ExprTrees, no_exprs, expr_then}
use Rattle.wf_template.specs.TemplateTree.{PieceTree, letters, part, TemplateTree, plain, whole, parts}
use Rattle.wf_template.specs.DataTree.{DataTree, null, boolean, number, text, list, object, DataTrees, no_data, data_then, DataMembers, no_members, member_then, DataMember}

abbrev mutual
  pub expr_code : ExprTree → Gv
  expr_code (literal v) = gcons (gnum 0) (coded_value.code v)
  expr_code (call f es) = gcons (gnum 1) (gcons ((coded_list coded_ℕ).code f) (exprs_code es))
  expr_code (member b f soft) = gcons (gnum 2) (gcons (expr_code b) (gcons ((coded_list coded_ℕ).code f) (coded_bool.code soft)))
  expr_code (index b k soft) = gcons (gnum 3) (gcons (expr_code b) (gcons (expr_code k) (coded_bool.code soft)))

  pub exprs_code : ExprTrees → Gv
  exprs_code no_exprs = gnil
  exprs_code (expr_then e es) = gcons (expr_code e) (exprs_code es)

mutual
  pub expr_inj : (x y : ExprTree) → expr_code x ≡ expr_code y → x ≡ y
  expr_inj (literal a) (literal b) p = ap literal (coded_value.inj a b (cc))
  expr_inj (call f es) (call g es') p = let names = (coded_list coded_ℕ).inj f g (cc) in let args = exprs_inj es es' (cc) in cc
  expr_inj (member a f soft) (member b g soft') p =
      let bases = expr_inj a b (cc) in
      let names = (coded_list coded_ℕ).inj f g (cc) in
      let softs = coded_bool.inj soft soft' (cc) in cc
  expr_inj (index a k soft) (index b l soft') p =
      let bases = expr_inj a b (cc) in
      let keys = expr_inj k l (cc) in
      let softs = coded_bool.inj soft soft' (cc) in cc
  expr_inj x y p = cc

  exprs_inj : (x y : ExprTrees) → exprs_code x ≡ exprs_code y → x ≡ y
  exprs_inj no_exprs no_exprs p = refl
  exprs_inj (expr_then a more) (expr_then b rest) p = let first = expr_inj a b (cc) in let others = exprs_inj more rest (cc) in cc
  exprs_inj x y p = cc

abbrev pub coded_expr : Coded ExprTree
coded_expr = record { code = expr_code; inj = expr_inj }

abbrev pub piece_code : PieceTree → Gv
piece_code (letters s) = gcons (gnum 0) ((coded_list coded_ℕ).code s)
piece_code (part e) = gcons (gnum 1) (coded_expr.code e)

pub piece_inj : (x y : PieceTree) → piece_code x ≡ piece_code y → x ≡ y
piece_inj (letters a) (letters b) p = ap letters ((coded_list coded_ℕ).inj a b (cc))
piece_inj (part a) (part b) p = ap part (coded_expr.inj a b (cc))
piece_inj x y p = cc

abbrev pub coded_piece : Coded PieceTree
coded_piece = record { code = piece_code; inj = piece_inj }

abbrev pub template_code : TemplateTree → Gv
template_code (plain s) = gcons (gnum 0) ((coded_list coded_ℕ).code s)
template_code (whole e) = gcons (gnum 1) (coded_expr.code e)
template_code (parts ps) = gcons (gnum 2) ((coded_list coded_piece).code ps)

pub template_inj : (x y : TemplateTree) → template_code x ≡ template_code y → x ≡ y
template_inj (plain a) (plain b) p = ap plain ((coded_list coded_ℕ).inj a b (cc))
template_inj (whole a) (whole b) p = ap whole (coded_expr.inj a b (cc))
template_inj (parts a) (parts b) p = ap parts ((coded_list coded_piece).inj a b (cc))
template_inj x y p = cc

abbrev pub coded_template : Coded TemplateTree
coded_template = record { code = template_code; inj = template_inj }

abbrev mutual
  pub data_code : DataTree → Gv
  data_code null = gnil
  data_code (boolean b) = gcons (gnum 0) (coded_bool.code b)
  data_code (number n) = gcons (gnum 1) (coded_ℤ.code n)
  data_code (text t) = gcons (gnum 2) (coded_template.code t)
  data_code (list ts) = gcons (gnum 3) (trees_code ts)
  data_code (object ms) = gcons (gnum 4) (members_code ms)

  pub trees_code : DataTrees → Gv
  trees_code no_data = gnil
  trees_code (data_then t ts) = gcons (data_code t) (trees_code ts)

  pub members_code : DataMembers → Gv
  members_code no_members = gnil
  members_code (member_then k t ms) = gcons (gcons ((coded_list coded_ℕ).code k) (data_code t)) (members_code ms)

mutual
  pub data_inj : (x y : DataTree) → data_code x ≡ data_code y → x ≡ y
  data_inj null null p = refl
  data_inj (boolean a) (boolean b) p = ap boolean (coded_bool.inj a b (cc))
  data_inj (number a) (number b) p = ap number (coded_ℤ.inj a b (cc))
  data_inj (text a) (text b) p = ap text (coded_template.inj a b (cc))
  data_inj (list a) (list b) p = ap list (trees_inj a b (cc))
  data_inj (object a) (object b) p = ap object (members_inj a b (cc))
  data_inj x y p = cc

  trees_inj : (x y : DataTrees) → trees_code x ≡ trees_code y → x ≡ y
  trees_inj no_data no_data p = refl
  trees_inj (data_then a more) (data_then b rest) p = let first = data_inj a b (cc) in let others = trees_inj more rest (cc) in cc
  trees_inj x y p = cc

  members_inj : (x y : DataMembers) → members_code x ≡ members_code y → x ≡ y
  members_inj no_members no_members p = refl
  members_inj (member_then k a more) (member_then l b rest) p =
      let name = (coded_list coded_ℕ).inj k l (cc) in
      let first = data_inj a b (cc) in
      let others = members_inj more rest (cc) in cc
  members_inj x y p = cc

abbrev pub coded_data : Coded DataTree
coded_data = record { code = data_code; inj = data_inj }

abbrev pub coded_data_member : Coded DataMember
coded_data_member = coded× (coded_list coded_ℕ) coded_data
