-- What any text derives can be printed.
use Rattle.std.proofs.Common.{◌≡◌, ℕ, Bool, List, ◌++◌, All, inl, inr, sym, subst, arith}
use Rattle.std.proofs.lemmas.List.Elements.{All-cons}
use Rattle.std.specs.Char.{encode_utf8}
use Rattle.wf_expr.specs.Kinds.{kind}
use Rattle.wf_expr.specs.declared.kind.Kind.TheVariants.{Letter}
use Rattle.wf_expr.specs.Words.{Word, is_true, is_false, is_null}
use Rattle.wf_template.specs.ExprTree.{ExprTree, ExprTrees}
use Rattle.wf_expr.specs.Grammar.{IsMore, Tail, no_more, more, MemberTail, no_more_member, more_digit_member, more_member, MemberName, blank_member, member_name, Expr, blank, begins, Primary, int, minus_int, quoted, word, calls, Args, blank_args, no_args, args, More, close, comma, Accesses, no_access, blank_access, access, soft_access, Access, name_access, key_access}
use Rattle.wf_expr.specs.Printable.{IsFunctionName, IsMemberMore, IsMemberName, IsPrintable, ArePrintable}
use Rattle.wf_expr.proofs.Derivation.{own, low_letter, low_more, low_first, low_member}

all_more : {s t r : List ℕ} → Tail s t r → All IsMore t
all_more no_more = λ k d l. absurd (omega arith)
all_more (more {c = c} {t = t} h rest) = let P : List ℕ → Type 0 = All IsMore in subst P (sym (own c t (low_more c h))) (All-cons IsMore c t h (all_more rest))

all_member : {s t r : List ℕ} → MemberTail s t r → All IsMemberMore t
all_member no_more_member = λ k d l. absurd (omega arith)
all_member (more_digit_member {c = c} {t = t} h rest) = let P : List ℕ → Type 0 = All IsMemberMore in subst P (sym (own c t (low_member c (inr h)))) (All-cons IsMemberMore c t (inr h) (all_member rest))
all_member (more_member {c = c} {t = t} h rest) = let P : List ℕ → Type 0 = All IsMemberMore in subst P (sym (own c t (low_member c (inl h)))) (All-cons IsMemberMore c t (inl h) (all_member rest))

function_named : (c : ℕ) {s t r : List ℕ} → kind c ≡ Letter → Tail s t r → IsFunctionName (encode_utf8 c ++ t)
function_named c {t = t} h rest = subst IsFunctionName (sym (own c t (low_letter c h))) (h, all_more rest)

member_named : {s x r : List ℕ} → MemberName s x r → IsMemberName x
member_named (blank_member h rest) = member_named rest
member_named (member_name {c = c} {t = t} h rest) = subst IsMemberName (sym (own c t (low_first c h))) (h, all_member rest)

word_printable : (n : ℕ) {t : List ℕ} {v : ExprTree} → Word t v → IsPrintable n v
word_printable n (is_true h) = tt
word_printable n (is_false h) = tt
word_printable n (is_null h) = tt

mutual
  pub expr_printable : {n : ℕ} {s : List ℕ} {e : ExprTree} {r : List ℕ} → Expr n s e r → IsPrintable n e
  expr_printable (blank h x) = expr_printable x
  expr_printable (begins p xs) = accesses_printable (primary_printable p) xs

  primary_printable : {n : ℕ} {s : List ℕ} {e : ExprTree} {r : List ℕ} → Primary n s e r → IsPrintable n e
  primary_printable (int h ds l) = tt
  primary_printable (minus_int h h' ds l) = tt
  primary_printable (quoted h q) = tt
  primary_printable {n = n} (word h t w) = word_printable n w
  primary_printable (calls {c = c} h t o l a) = (function_named c h t, l, args_printable a)

  args_printable : {n : ℕ} {s : List ℕ} {es : ExprTrees} {r : List ℕ} → Args n s es r → ArePrintable n es
  args_printable (blank_args h a) = tt
  args_printable (no_args h) = tt
  args_printable (args x xs) = (expr_printable x, more_printable xs)

  more_printable : {n : ℕ} {s : List ℕ} {es : ExprTrees} {r : List ℕ} → More n s es r → ArePrintable n es
  more_printable (close h) = tt
  more_printable (comma h x xs) = (expr_printable x, more_printable xs)

  accesses_printable : {n : ℕ} {s : List ℕ} {b e : ExprTree} {r : List ℕ} → IsPrintable n b → Accesses n s b e r → IsPrintable n e
  accesses_printable p no_access = p
  accesses_printable p (blank_access h xs) = accesses_printable p xs
  accesses_printable p (access a xs) = accesses_printable (access_printable p a) xs
  accesses_printable p (soft_access h a xs) = accesses_printable (access_printable p a) xs

  access_printable : {n : ℕ} {soft : Bool} {s : List ℕ} {b x : ExprTree} {r : List ℕ} → IsPrintable n b → Access n soft s b x r → IsPrintable n x
  access_printable p (name_access h name) = (p, member_named name)
  access_printable p (key_access h l x h') = (p, l, expr_printable x)
