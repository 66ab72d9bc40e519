-- Each state that is reached can be completed.
use Rattle.std.proofs.Common.{suc, ◌-◌, ◌≡◌, ℕ, ◌<◌, Bool, true, false, List, [], ◌∷◌, ◌++◌, Option, Some, None, nat_lt, ◌||◌, refl, arith, ◌⊎◌, inl, inr}
use Rattle.std.specs.Char.{encode_utf8, IsScalar}
use Rattle.std.specs.List.{AllByRecursion}
use Rattle.wf_expr.specs.declared.kind.Kind.TheVariants.{At}
use Rattle.wf_expr.specs.Kinds.{kind}
use Rattle.wf_template.specs.ExprTree.{ExprTree, call, member, index, no_exprs, expr_then}
use Rattle.wf_expr.specs.Reading.{number_literal, text_literal, joined, character, embedded, Reading, whole_of, items_of, signed}
use Rattle.wf_expr.specs.WordTests.{word_of, word_front}
use Rattle.wf_expr.proofs.WordLemmas.{Word-of, goes_on}
use Rattle.wf_expr.specs.Grammar.{place, Digits, no_digit, digit, Quoted, closed, twice, itself, IsMore, more_letter, more_digit, more_under, IsFirst, first_letter, first_under, first_dollar, MemberTail, no_more_member, more_digit_member, more_member, MemberName, blank_member, member_name, Tail, no_more, more, Expr, blank, begins, Primary, int, minus_int, quoted, word, calls, Opens, blank_open, open_now, Args, blank_args, no_args, args, More, close, comma, Accesses, no_access, blank_access, access, soft_access, Access, name_access, key_access, Unmarked, no_mark, at_at_end, at_no_mark, Items, no_items, escape, part, itself_char, itself_at, Reads, expression, two_ats, empty, no_at, part_first}
use Rattle.wf_expr.specs.Machine.{Stack, whole, in_part, depth, call_of, key_of, Mode, at_start, at_sign, plain, one_at, two_at, at_first, at_args, at_minus, in_int, in_quoted, at_quote, in_name, at_named, after, at_soft, at_dot, in_member, is_word}
use Rattle.wf_expr.proofs.Residual.{done, part_done, key, arg, After, accessed, Rest, r_start, r_sign, r_plain, r_one, r_two, r_first, r_args, r_int, r_minus, r_quoted, r_ended, r_call, r_word, r_named_call, r_named_word, r_after, r_soft, r_dot, r_member}
use Rattle.wf_expr.proofs.Forward.{Good}

abbrev pub Completes : Mode → Stack → Type 0
Completes m k = (s : List ℕ) × AllByRecursion IsScalar s × ((T : ℕ) → (w : Reading) × Rest T m k s w)

pub ending : (k : Stack) (b : ExprTree) → (s : List ℕ) × AllByRecursion IsScalar s × ((T : ℕ) → (w : Reading) × After T k b s w)
unfolding kind
ending whole b = ([], tt, λ T. (whole_of b, accessed no_access done))
ending (in_part items p) b = (125 ∷ [], (refl, tt), λ T. (items_of (items ++ embedded b (place T (125 ∷ []) - suc p) ∷ []), accessed no_access (part_done refl no_items)))
ending (key_of x soft k) b = let e = ending k (index x b soft) in (93 ∷ e.0, (refl, e.1), λ T. ((e.2 T).0, accessed no_access (key refl (e.2 T).1)))
ending (call_of f front k) b = let e = ending k (call f (joined front (expr_then b no_exprs))) in (41 ∷ e.0, (refl, e.1), λ T. ((e.2 T).0, accessed no_access (arg (close refl) (e.2 T).1)))

pub alive_dot : (b : ExprTree) (soft : Bool) (k : Stack) → Completes (at_dot b soft) k
unfolding kind
alive_dot b soft k = let e = ending k (member b (encode_utf8 97 ++ []) soft) in (97 ∷ e.0, (refl, e.1), λ T. ((e.2 T).0, r_dot (member_name (first_letter refl) no_more_member) (e.2 T).1))

pub alive_soft : (b : ExprTree) (k : Stack) → Completes (at_soft b) k
unfolding kind
alive_soft b k = let e = ending k (member b (encode_utf8 97 ++ []) true) in (46 ∷ (97 ∷ e.0), (refl, (refl, e.1)), λ T. ((e.2 T).0, r_soft (name_access refl (member_name (first_letter refl) no_more_member)) (e.2 T).1))

pub first_after : {T : ℕ} {k : Stack} {s : List ℕ} {w : Reading} → After T k (number_literal (signed false 1)) s w → Rest T at_first k (49 ∷ s) w
unfolding kind
first_after (accessed xs up) = r_first (begins (int refl no_digit (omega arith)) xs) up

pub alive_first : (k : Stack) → Completes at_first k
unfolding kind
alive_first k = let e = ending k (number_literal (signed false 1)) in (49 ∷ e.0, (refl, e.1), λ T. ((e.2 T).0, first_after (e.2 T).1))

pub alive_quoted : (t : List ℕ) (k : Stack) → Completes (in_quoted t) k
unfolding kind
alive_quoted t k = let e = ending k (text_literal (t ++ [])) in (39 ∷ e.0, (refl, e.1), λ T. ((e.2 T).0, r_quoted (closed refl) (e.2 T).1))

pub alive_args : (f : List ℕ) (k : Stack) → Completes (at_args f) k
unfolding kind
alive_args f k = let e = ending k (call f no_exprs) in (41 ∷ e.0, (refl, e.1), λ T. ((e.2 T).0, r_args (no_args refl) (e.2 T).1))

pub either : (a b : Bool) → (a || b) ≡ true → (a ≡ true) ⊎ (b ≡ true)
either true b h = inl refl
either false b h = inr h

pub alive_call : (t : List ℕ) (k : Stack) → nat_lt (depth k) 64 ≡ true → Completes (in_name t) k
unfolding kind
alive_call t k h = let lt : depth k < 64 = grind arith in let e = ending k (call (t ++ []) no_exprs) in (40 ∷ (41 ∷ e.0), (refl, (refl, e.1)), λ T. ((e.2 T).0, r_call no_more (open_now refl) lt (no_args refl) (e.2 T).1))

both_scalars : (s r : List ℕ) → AllByRecursion IsScalar s → AllByRecursion IsScalar r → AllByRecursion IsScalar (s ++ r)
both_scalars [] r a b = b
both_scalars (c ∷ s) r a b = (a.0, both_scalars s r a.1 b)

pub alive_word : (t : List ℕ) (k : Stack) → word_front t ≡ true → Completes (in_name t) k
alive_word t k h = let g = goes_on t h in let e = ending k g.2 in (g.0 ++ e.0, both_scalars g.0 e.0 g.1 e.1, λ T. ((e.2 T).0, r_word (g.4 e.0) g.3 (e.2 T).1))

pub alive_name : (t : List ℕ) (k : Stack) → (nat_lt (depth k) 64 || word_front t) ≡ true → Completes (in_name t) k
alive_name t k g = elim (either (nat_lt (depth k) 64) _ g) [ inl h ↦ alive_call t k h | inr h ↦ alive_word t k h ]

pub alive_named_call : (t : List ℕ) (k : Stack) → nat_lt (depth k) 64 ≡ true → Completes (at_named t) k
unfolding kind
alive_named_call t k h = let lt : depth k < 64 = grind arith in let e = ending k (call t no_exprs) in (40 ∷ (41 ∷ e.0), (refl, (refl, e.1)), λ T. ((e.2 T).0, r_named_call (open_now refl) lt (no_args refl) (e.2 T).1))

pub alive_named_word : (t : List ℕ) (k : Stack) (o : Option ExprTree) → word_of t ≡ o → is_word o ≡ true → Completes (at_named t) k
alive_named_word t k None e h = absurd (cc)
alive_named_word t k (Some v) e h = let x = ending k v in (x.0, x.1, λ T. ((x.2 T).0, r_named_word (Word-of t v e) (x.2 T).1))

pub alive_named : (t : List ℕ) (k : Stack) → (nat_lt (depth k) 64 || is_word (word_of t)) ≡ true → Completes (at_named t) k
alive_named t k g = elim (either (nat_lt (depth k) 64) _ g) [ inl h ↦ alive_named_call t k h | inr h ↦ alive_named_word t k (word_of t) refl h ]

pub alive_sign : (a : ℕ) (k : Stack) → kind a ≡ At → Completes (at_sign a) k
unfolding kind
alive_sign a k ha = (49 ∷ [], (refl, tt), λ T. (whole_of (number_literal (signed false 1)), r_sign (expression ha (begins (int refl no_digit (omega arith)) no_access))))

pub alive_minus : (k : Stack) → Completes at_minus k
unfolding kind
alive_minus k = let e = ending k (number_literal (signed true 1)) in (49 ∷ e.0, (refl, e.1), λ T. ((e.2 T).0, r_minus refl no_digit (omega arith) (e.2 T).1))

pub alive : (m : Mode) (k : Stack) → Good m k → Completes m k
alive at_start k g = ([], tt, λ T. (items_of [], r_start empty))
alive (at_sign a) k g = alive_sign a k g
alive (plain front) k g = ([], tt, λ T. (items_of (front ++ []), r_plain no_items))
alive (one_at front a) k g = ([], tt, λ T. (items_of (front ++ character a ∷ []), r_one (itself_at g Rattle.wf_expr.specs.Grammar.at_end no_items)))
alive (two_at front a b) k g = ([], tt, λ T. (items_of (front ++ character a ∷ character b ∷ []), r_two (itself_at g.0 (at_at_end g.1) (itself_at g.1 Rattle.wf_expr.specs.Grammar.at_end no_items))))
alive at_first k g = alive_first k
alive (at_args f) k g = alive_args f k
alive at_minus k g = alive_minus k
alive (in_int neg v) k g = let e = ending k (number_literal (signed neg v)) in (e.0, e.1, λ T. ((e.2 T).0, r_int {neg = neg} no_digit g (e.2 T).1))
alive (in_quoted t) k g = alive_quoted t k
alive (at_quote t) k g = let e = ending k (text_literal t) in (e.0, e.1, λ T. ((e.2 T).0, r_ended (e.2 T).1))
alive (in_name t) k g = alive_name t k g
alive (at_named t) k g = alive_named t k g
alive (after b) k g = let e = ending k b in (e.0, e.1, λ T. ((e.2 T).0, r_after (e.2 T).1))
alive (at_soft b) k g = alive_soft b k
alive (at_dot b soft) k g = alive_dot b soft k
alive (in_member b soft t) k g = let e = ending k (member b (t ++ []) soft) in (e.0, e.1, λ T. ((e.2 T).0, r_member no_more_member (e.2 T).1))
