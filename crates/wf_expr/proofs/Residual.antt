-- What may still be read in each state, as a relation: the rest of the text and the tree of the whole.
use Rattle.std.proofs.Common.{length, ◌≡◌, ℕ, suc, ◌-◌, ◌<◌, Bool, true, false, List, [], ◌∷◌, ◌++◌, Option, Some, None, nat_lt, ◌||◌, refl, ap, arith}
use Rattle.std.specs.Char.{encode_utf8}
use Rattle.wf_expr.specs.declared.kind.Kind.TheVariants.{Digit, Quote, Unbracket, Unbrace}
use Rattle.wf_expr.specs.Kinds.{kind}
use Rattle.wf_template.specs.ExprTree.{ExprTree, call, member, index, ExprTrees, expr_then}
use Rattle.wf_expr.specs.Reading.{number_literal, text_literal, joined, Item, embedded, Reading, whole_of, items_of, signed, limit}
use Rattle.wf_expr.specs.Words.{Word}
use Rattle.wf_expr.specs.WordTests.{word_front}
use Rattle.wf_expr.proofs.WordLemmas.{front-Word}
use Rattle.wf_expr.specs.Grammar.{place, Digits, Quoted, MemberTail, MemberName, Tail, Expr, Opens, Args, More, Accesses, Access, Items, Reads}
use Rattle.wf_expr.specs.Machine.{Stack, whole, in_part, depth, call_of, key_of, Mode, at_start, at_sign, plain, one_at, two_at, at_first, at_args, at_minus, in_int, in_quoted, at_quote, in_name, at_named, after, at_soft, at_dot, in_member, State, opens, named}

mutual
  -- e is read whole, and s follows
  pub data Up (T : ℕ) : Stack → ExprTree → List ℕ → Reading → Type 0 where
    done : {e : ExprTree} → Up T whole e [] (whole_of e)
    part_done : {front items : List Item} {p : ℕ} {e : ExprTree} {u : ℕ} {m : List ℕ} → kind u ≡ Unbrace → Items T m items → Up T (in_part front p) e (u ∷ m) (items_of (front ++ embedded e (place T (u ∷ m) - suc p) ∷ items))
    key : {k : Stack} {b e : ExprTree} {soft : Bool} {u : ℕ} {m : List ℕ} {w : Reading} → kind u ≡ Unbracket → After T k (index b e soft) m w → Up T (key_of b soft k) e (u ∷ m) w
    arg : {k : Stack} {f : List ℕ} {front : List ExprTree} {e : ExprTree} {es : ExprTrees} {s m : List ℕ} {w : Reading} → More (suc (depth k)) s es m → After T k (call f (joined front (expr_then e es))) m w → Up T (call_of f front k) e s w

  -- b is a base, and accesses may follow
  pub data After (T : ℕ) : Stack → ExprTree → List ℕ → Reading → Type 0 where
    accessed : {k : Stack} {b e : ExprTree} {s r : List ℕ} {w : Reading} → Accesses (depth k) s b e r → Up T k e r w → After T k b s w

pub data Rest (T : ℕ) : Mode → Stack → List ℕ → Reading → Type 0 where
  r_start : {k : Stack} {s : List ℕ} {w : Reading} → Reads T s w → Rest T at_start k s w
  r_sign : {a : ℕ} {k : Stack} {s : List ℕ} {w : Reading} → Reads T (a ∷ s) w → Rest T (at_sign a) k s w
  r_plain : {front items : List Item} {k : Stack} {s : List ℕ} → Items T s items → Rest T (plain front) k s (items_of (front ++ items))
  r_one : {front items : List Item} {a : ℕ} {k : Stack} {s : List ℕ} → Items T (a ∷ s) items → Rest T (one_at front a) k s (items_of (front ++ items))
  r_two : {front items : List Item} {a b : ℕ} {k : Stack} {s : List ℕ} → Items T (a ∷ b ∷ s) items → Rest T (two_at front a b) k s (items_of (front ++ items))
  r_first : {k : Stack} {e : ExprTree} {s r : List ℕ} {w : Reading} → Expr (depth k) s e r → Up T k e r w → Rest T at_first k s w
  r_args : {k : Stack} {f : List ℕ} {es : ExprTrees} {s r : List ℕ} {w : Reading} → Args (suc (depth k)) s es r → After T k (call f es) r w → Rest T (at_args f) k s w
  r_int : {neg : Bool} {v z : ℕ} {k : Stack} {s r : List ℕ} {w : Reading} → Digits v s z r → z < limit neg → After T k (number_literal (signed neg z)) r w → Rest T (in_int neg v) k s w
  r_minus : {k : Stack} {c z : ℕ} {s r : List ℕ} {w : Reading} → kind c ≡ Digit → Digits (c - 48) s z r → z < limit true → After T k (number_literal (signed true z)) r w → Rest T at_minus k (c ∷ s) w
  r_quoted : {t : List ℕ} {k : Stack} {s a r : List ℕ} {w : Reading} → Quoted s a r → After T k (text_literal (t ++ a)) r w → Rest T (in_quoted t) k s w
  r_ended : {t : List ℕ} {k : Stack} {s : List ℕ} {w : Reading} → After T k (text_literal t) s w → Rest T (at_quote t) k s w
  r_twice : {t : List ℕ} {k : Stack} {c : ℕ} {s a r : List ℕ} {w : Reading} → kind c ≡ Quote → Quoted s a r → After T k (text_literal (t ++ (encode_utf8 c ++ a))) r w → Rest T (at_quote t) k (c ∷ s) w
  r_call : {t : List ℕ} {k : Stack} {s a m m' : List ℕ} {es : ExprTrees} {r : List ℕ} {w : Reading} → Tail s a m → Opens m m' → depth k < 64 → Args (suc (depth k)) m' es r → After T k (call (t ++ a) es) r w → Rest T (in_name t) k s w
  r_word : {t : List ℕ} {k : Stack} {s a m : List ℕ} {v : ExprTree} {w : Reading} → Tail s a m → Word (t ++ a) v → After T k v m w → Rest T (in_name t) k s w
  r_named_call : {t : List ℕ} {k : Stack} {s m : List ℕ} {es : ExprTrees} {r : List ℕ} {w : Reading} → Opens s m → depth k < 64 → Args (suc (depth k)) m es r → After T k (call t es) r w → Rest T (at_named t) k s w
  r_named_word : {t : List ℕ} {k : Stack} {s : List ℕ} {v : ExprTree} {w : Reading} → Word t v → After T k v s w → Rest T (at_named t) k s w
  r_after : {b : ExprTree} {k : Stack} {s : List ℕ} {w : Reading} → After T k b s w → Rest T (after b) k s w
  r_soft : {b x : ExprTree} {k : Stack} {s m : List ℕ} {w : Reading} → Access (depth k) true s b x m → After T k x m w → Rest T (at_soft b) k s w
  r_dot : {b : ExprTree} {soft : Bool} {k : Stack} {s t r : List ℕ} {w : Reading} → MemberName s t r → After T k (member b t soft) r w → Rest T (at_dot b soft) k s w
  r_member : {b : ExprTree} {soft : Bool} {t : List ℕ} {k : Stack} {s a r : List ℕ} {w : Reading} → MemberTail s a r → After T k (member b (t ++ a) soft) r w → Rest T (in_member b soft t) k s w

-- what may be read after a step that may have been refused; the step is told the place of the character that it takes
abbrev pub ResumesAt : ℕ → Option State → List ℕ → Reading → Type 0
ResumesAt T None s w = ⊥
ResumesAt T (Some st) s w = Rest T st.0 st.1 s w

abbrev pub Resumes : ℕ → (ℕ → Option State) → List ℕ → Reading → Type 0
Resumes T f s w = ResumesAt T (f (T - suc (length s))) s w

pub joined-snoc : (xs : List ExprTree) (b : ExprTree) (es : ExprTrees) → joined (xs ++ b ∷ []) es ≡ joined xs (expr_then b es)
joined-snoc [] b es = refl
joined-snoc (x ∷ xs) b es = ap (λ t. expr_then x t) (joined-snoc xs b es)

pub opened : {T : ℕ} (k : Stack) (st : State) {s : List ℕ} {w : Reading} → depth k < 64 → Rest T st.0 st.1 s w → ResumesAt T (opens k st) s w
opened k st lt r = let e : nat_lt (depth k) 64 ≡ true = grind arith in rw e r

pub or_left : (a b : Bool) → a ≡ true → (a || b) ≡ true
or_left true b h = refl
or_left false b h = absurd (cc)

pub or_right : (a b : Bool) → b ≡ true → (a || b) ≡ true
or_right true b h = refl
or_right false b h = h

pub can_open : (k : Stack) → depth k < 64 → nat_lt (depth k) 64 ≡ true
can_open k lt = grind arith

pub named_call : {T : ℕ} (t : List ℕ) (k : Stack) (s : List ℕ) (w : Reading) → depth k < 64 → Rest T (in_name t) k s w → ResumesAt T (named t k) s w
named_call t k s w lt r = let e = or_left (nat_lt (depth k) 64) (word_front t) (can_open k lt) in rw e r

pub named_word : {T : ℕ} (t a : List ℕ) (v : ExprTree) (k : Stack) (s : List ℕ) (w : Reading) → Word (t ++ a) v → Rest T (in_name t) k s w → ResumesAt T (named t k) s w
named_word t a v k s w wd r = let e = or_right (nat_lt (depth k) 64) (word_front t) (front-Word t a wd) in rw e r
