-- Whatever the grammar lets follow in a state, the machine takes.
use Rattle.std.proofs.Common.{◌-◌, ◌≡◌, ℕ, suc, ◌<◌, ◌≤◌, Bool, true, List, [], ◌∷◌, ◌++◌, Some, nat_lt, ◌||◌, refl, sym, subst, arith, append_assoc, append-nil}
use Rattle.std.specs.Char.{encode_utf8}
use Rattle.wf_expr.specs.declared.kind.Kind.{Kind}
use Rattle.wf_expr.specs.declared.kind.Kind.TheVariants.{Blank, Digit, Letter, Quote, Open, Under, Dollar, At, Brace}
use Rattle.wf_expr.specs.Kinds.{kind}
use Rattle.wf_template.specs.ExprTree.{ExprTree, call, member, ExprTrees, no_exprs, expr_then}
use Rattle.wf_expr.specs.Reading.{number_literal, text_literal, Item, character, embedded, Reading, whole_of, items_of, signed, limit}
use Rattle.wf_expr.specs.Words.{Word}
use Rattle.wf_expr.specs.WordTests.{word_of, word_front}
use Rattle.wf_expr.proofs.WordLemmas.{of-Word}
use Rattle.wf_expr.specs.Grammar.{place, Digits, no_digit, digit, Quoted, closed, twice, itself, more_letter, more_digit, more_under, IsFirst, first_letter, first_under, first_dollar, MemberTail, no_more_member, more_digit_member, more_member, MemberName, blank_member, member_name, Tail, no_more, more, Expr, blank, begins, int, minus_int, quoted, word, calls, Opens, blank_open, open_now, Args, blank_args, no_args, args, close, comma, no_access, blank_access, access, soft_access, Access, name_access, key_access, no_mark, at_at_end, at_no_mark, Items, escape, part, itself_char, itself_at, Reads, expression, two_ats, no_at, part_first}
use Rattle.wf_expr.specs.Machine.{Stack, whole, in_part, depth, call_of, Mode, at_start, at_sign, plain, one_at, two_at, at_first, at_args, in_int, in_quoted, at_quote, in_name, at_named, after, at_soft, at_dot, in_member, plain_step, is_word, follow, begun, step_at, step}
use Rattle.wf_expr.proofs.Residual.{Up, done, part_done, key, arg, After, accessed, Rest, r_start, r_sign, r_plain, r_one, r_two, r_first, r_args, r_int, r_minus, r_quoted, r_ended, r_twice, r_call, r_word, r_named_call, r_named_word, r_after, r_soft, r_dot, r_member, ResumesAt, Resumes, joined-snoc, opened, or_left, or_right, can_open, named_call, named_word}

abbrev pub Takes : ℕ → Mode → Stack → ℕ → List ℕ → Reading → Type 0
Takes T m k c s w = Resumes T (step_at m k c (kind c)) s w

pub forward_up : {T : ℕ} {k : Stack} {b : ExprTree} {c : ℕ} {s : List ℕ} {w : Reading} → Up T k b (c ∷ s) w → Resumes T (follow b k (kind c)) s w
forward_up {T = T} (part_done {front = front} {items = items} {p = p} {e = e} {u = u} {m = m} h i) = rw h (let P : List Item → Type 0 = λ l. Rest T (plain (front ++ embedded e (place T (u ∷ m) - suc p) ∷ [])) whole m (items_of l) in subst P (append_assoc front (embedded e (place T (u ∷ m) - suc p) ∷ []) items) (r_plain i))
forward_up (key h a) = rw h (r_after a)
forward_up {T = T} {b = b} (arg {k = k} {f = f} {front = front} {w = w} (close {s = s} h) a) = rw h (r_after (let P : ExprTrees → Type 0 = λ es. After T k (call f es) s w in subst P (sym (joined-snoc front b no_exprs)) a))
forward_up {T = T} {b = b} (arg {k = k} {f = f} {front = front} {m = m'} {w = w} (comma {s = s} {m = m} {e = e} {es = es} h x xs) a) = rw h (r_first x (arg xs (let P : ExprTrees → Type 0 = λ es'. After T k (call f es') m' w in subst P (sym (joined-snoc front b (expr_then e es))) a)))

pub forward_after : {T : ℕ} {k : Stack} {b : ExprTree} {c : ℕ} {s : List ℕ} {w : Reading} → After T k b (c ∷ s) w → Resumes T (follow b k (kind c)) s w
forward_after (accessed no_access up) = forward_up up
forward_after (accessed (blank_access h xs) up) = rw h (r_after (accessed xs up))
forward_after (accessed (access (name_access h t) xs) up) = rw h (r_dot t (accessed xs up))
forward_after {k = k} {b = b} (accessed (access (key_access h lt x hu) xs) up) = rw h (opened k _ lt (r_first x (key hu (accessed xs up))))
forward_after (accessed (soft_access h x xs) up) = rw h (r_soft x (accessed xs up))

-- letters and digits
pub forward_begun : {T : ℕ} {k : Stack} {c : ℕ} {e : ExprTree} {s r : List ℕ} {w : Reading} → Expr (depth k) (c ∷ s) e r → Up T k e r w → ResumesAt T (begun k c (kind c)) s w
forward_begun (blank h x) up = rw h (r_first x up)
forward_begun (begins (int h ds lt) xs) up = rw h (r_int ds lt (accessed xs up))
forward_begun (begins (minus_int h h' ds lt) xs) up = rw h (r_minus h' ds lt (accessed xs up))
forward_begun (begins (quoted h q) xs) up = rw h (r_quoted q (accessed xs up))
forward_begun {k = k} (begins (calls h t op lt es) xs) up = rw h (named_call _ k _ _ lt (r_call t op lt es (accessed xs up)))
forward_begun {k = k} (begins (word {c = c} {t = t} {v = v} h tail wd) xs) up = rw h (named_word (encode_utf8 c) t v k _ _ wd (r_word tail wd (accessed xs up)))

-- where blanks may not be lost, ( stays open for an empty list
pub forward_args : {T : ℕ} {k : Stack} {f : List ℕ} {c : ℕ} {es : ExprTrees} {s r : List ℕ} {w : Reading} → Args (suc (depth k)) (c ∷ s) es r → After T k (call f es) r w → Takes T (at_args f) k c s w
forward_args (blank_args h x) a = rw h (r_args x a)
forward_args (no_args h) a = rw h (r_after a)
forward_args (args (blank h x) xs) a = rw h (r_args (args x xs) a)
forward_args (args (begins (int h ds lt) ys) xs) a = rw h (r_int ds lt (accessed ys (arg xs a)))
forward_args (args (begins (minus_int h h' ds lt) ys) xs) a = rw h (r_minus h' ds lt (accessed ys (arg xs a)))
forward_args (args (begins (quoted h q) ys) xs) a = rw h (r_quoted q (accessed ys (arg xs a)))
forward_args {k = k} {f = f} (args (begins (calls h t op lt es) ys) xs) a = rw h (named_call _ (call_of f [] k) _ _ lt (r_call t op lt es (accessed ys (arg xs a))))
forward_args {k = k} {f = f} (args (begins (word {c = c} {t = t} {v = v} h tail wd) ys) xs) a = rw h (named_word (encode_utf8 c) t v (call_of f [] k) _ _ wd (r_word tail wd (accessed ys (arg xs a))))

-- digits only grow the number
pub digits_grow : {v : ℕ} {s : List ℕ} {z : ℕ} {r : List ℕ} → Digits v s z r → v ≤ z
digits_grow no_digit = omega arith
digits_grow (digit {v = v} {c = c} h ds) = omega (arith, digits_grow ds)

-- what no expression goes on with, no follow takes
pub ends_int : (T : ℕ) (neg : Bool) (v : ℕ) (k : Stack) (c : ℕ) (x : Kind) (s : List ℕ) (w : Reading) → Resumes T (follow (number_literal (signed neg v)) k x) s w → Resumes T (step_at (in_int neg v) k c x) s w
ends_int T neg v k c Digit s w r = absurd r
ends_int T neg v k c x s w r = r

pub ends_quote : (T : ℕ) (t : List ℕ) (k : Stack) (c : ℕ) (x : Kind) (s : List ℕ) (w : Reading) → Resumes T (follow (text_literal t) k x) s w → Resumes T (step_at (at_quote t) k c x) s w
ends_quote T t k c Quote s w r = absurd r
ends_quote T t k c x s w r = r

pub ends_member : (T : ℕ) (b : ExprTree) (soft : Bool) (t : List ℕ) (k : Stack) (c : ℕ) (x : Kind) (s : List ℕ) (w : Reading) → Resumes T (follow (member b t soft) k x) s w → Resumes T (step_at (in_member b soft t) k c x) s w
ends_member T b soft t k c Letter s w r = absurd r
ends_member T b soft t k c Digit s w r = absurd r
ends_member T b soft t k c Under s w r = absurd r
ends_member T b soft t k c Dollar s w r = absurd r
ends_member T b soft t k c x s w r = r

pub stays_quoted : {T : ℕ} (t : List ℕ) (k : Stack) (c : ℕ) (x : Kind) (s : List ℕ) (w : Reading) → (x ≡ Quote → ⊥) → Rest T (in_quoted (t ++ encode_utf8 c)) k s w → Resumes T (step_at (in_quoted t) k c x) s w
stays_quoted t k c Quote s w h r = absurd (h refl)
stays_quoted t k c x s w h r = r

pub below : (a b n : ℕ) → a ≤ b → b < n → nat_lt a n ≡ true
below a b n le lt = grind arith

pub forward_int : {T : ℕ} (neg : Bool) (v : ℕ) {z : ℕ} {k : Stack} {c : ℕ} {s r : List ℕ} {w : Reading} → Digits v (c ∷ s) z r → z < limit neg → After T k (number_literal (signed neg z)) r w → Takes T (in_int neg v) k c s w
forward_int neg v {k = k} {c = c} no_digit lt a = ends_int _ neg v k c (kind c) _ _ (forward_after a)
forward_int neg v {c = c} (digit h ds) lt a = let le = digits_grow ds in let e = below _ _ (limit neg) le lt in rw (h, e) (r_int {neg = neg} ds lt a)

-- one more at the end
pub moved : (t : List ℕ) (c : ℕ) (a : List ℕ) → t ++ (encode_utf8 c ++ a) ≡ (t ++ (encode_utf8 c)) ++ a
moved t c a = sym (append_assoc t (encode_utf8 c) a)

pub move : {T : ℕ} (g : List ℕ → ExprTree) {k : Stack} {s : List ℕ} {w : Reading} (t : List ℕ) (c : ℕ) (a : List ℕ) → After T k (g (t ++ (encode_utf8 c ++ a))) s w → After T k (g ((t ++ (encode_utf8 c)) ++ a)) s w
move {T = T} g {k = k} {s = s} {w = w} t c a r = let P : List ℕ → Type 0 = λ l. After T k (g l) s w in subst P (moved t c a) r

pub at_end : {T : ℕ} (g : List ℕ → ExprTree) {k : Stack} {s : List ℕ} {w : Reading} (t : List ℕ) → After T k (g (t ++ [])) s w → After T k (g t) s w
at_end {T = T} g {k = k} {s = s} {w = w} t r = let P : List ℕ → Type 0 = λ l. After T k (g l) s w in subst P (append-nil t) r

pub forward_quoted : {T : ℕ} (t : List ℕ) {k : Stack} {c : ℕ} {s a r : List ℕ} {w : Reading} → Quoted (c ∷ s) a r → After T k (text_literal (t ++ a)) r w → Takes T (in_quoted t) k c s w
forward_quoted t (closed h) x = rw h (r_ended (at_end text_literal t x))
forward_quoted t (twice {d = d} {t = a} h h' q) x = rw h (r_twice h' q x)
forward_quoted t {k = k} (itself {c = c} {t = a} h q) x = stays_quoted t k c (kind c) _ _ h (r_quoted q (move text_literal t c a x))

pub forward_open : {T : ℕ} (t : List ℕ) {k : Stack} {c : ℕ} {s m : List ℕ} {es : ExprTrees} {r : List ℕ} {w : Reading} → Opens (c ∷ s) m → depth k < 64 → Args (suc (depth k)) m es r → After T k (call t es) r w → Takes T (in_name t) k c s w
forward_open t {k = k} (blank_open h op) lt es x = let e = or_left (nat_lt (depth k) 64) (is_word (word_of t)) (can_open k lt) in rw (h, e) (r_named_call op lt es x)
forward_open t {k = k} (open_now h) lt es x = rw h (opened k _ lt (r_args es x))

pub forward_call : {T : ℕ} (t : List ℕ) {k : Stack} {c : ℕ} {s a m m' : List ℕ} {es : ExprTrees} {r : List ℕ} {w : Reading} → Tail (c ∷ s) a m → Opens m m' → depth k < 64 → Args (suc (depth k)) m' es r → After T k (call (t ++ a) es) r w → Takes T (in_name t) k c s w
forward_call t {k = k} {es = es'} no_more op lt es x = forward_open t op lt es (at_end (λ l. call l es') t x)
forward_call t {k = k} {es = es'} (more {c = c} {t = a} (more_letter h) tail) op lt es x = rw h (named_call _ k _ _ lt (r_call tail op lt es (move (λ l. call l es') t c a x)))
forward_call t {k = k} {es = es'} (more {c = c} {t = a} (more_digit h) tail) op lt es x = rw h (named_call _ k _ _ lt (r_call tail op lt es (move (λ l. call l es') t c a x)))
forward_call t {k = k} {es = es'} (more {c = c} {t = a} (more_under h) tail) op lt es x = rw h (named_call _ k _ _ lt (r_call tail op lt es (move (λ l. call l es') t c a x)))

pub rest_after : {T : ℕ} {b : ExprTree} {k : Stack} {s : List ℕ} {w : Reading} → Rest T (after b) k s w → After T k b s w
rest_after (r_after a) = a

pub word_ends : (T : ℕ) (t : List ℕ) (v : ExprTree) (k : Stack) (c : ℕ) (x : Kind) (s : List ℕ) (w : Reading) → Word t v → word_of t ≡ Some v → Resumes T (follow v k x) s w → Resumes T (step_at (in_name t) k c x) s w
word_ends T t v k c Letter s w wd e r = absurd r
word_ends T t v k c Digit s w wd e r = absurd r
word_ends T t v k c Under s w wd e r = absurd r
word_ends T t v k c Blank s w wd e r = let e' : (nat_lt (depth k) 64 || is_word (word_of t)) ≡ true = or_right (nat_lt (depth k) 64) (is_word (word_of t)) (rw e refl) in rw e' (r_named_word wd (rest_after r))
word_ends T t v k c Open s w wd e r = absurd r
word_ends T t v k c x s w wd e r = rw e r

pub named_ends : (T : ℕ) (t : List ℕ) (v : ExprTree) (k : Stack) (c : ℕ) (x : Kind) (s : List ℕ) (w : Reading) → Word t v → word_of t ≡ Some v → Resumes T (follow v k x) s w → Resumes T (step_at (at_named t) k c x) s w
named_ends T t v k c Blank s w wd e r = r_named_word wd (rest_after r)
named_ends T t v k c Open s w wd e r = absurd r
named_ends T t v k c x s w wd e r = rw e r

pub end_word : (t : List ℕ) {v : ExprTree} → Word (t ++ []) v → Word t v
end_word t {v = v} wd = let P : List ℕ → Type 0 = λ l. Word l v in subst P (append-nil t) wd

pub un_end_word : (t : List ℕ) {v : ExprTree} → Word t v → Word (t ++ []) v
un_end_word t {v = v} wd = let P : List ℕ → Type 0 = λ l. Word l v in subst P (sym (append-nil t)) wd

pub move_word : (t : List ℕ) (c : ℕ) (a : List ℕ) {v : ExprTree} → Word (t ++ (encode_utf8 c ++ a)) v → Word ((t ++ encode_utf8 c) ++ a) v
move_word t c a {v = v} wd = let P : List ℕ → Type 0 = λ l. Word l v in subst P (moved t c a) wd

pub unmove_word : (t : List ℕ) (c : ℕ) (a : List ℕ) {v : ExprTree} → Word ((t ++ encode_utf8 c) ++ a) v → Word (t ++ (encode_utf8 c ++ a)) v
unmove_word t c a {v = v} wd = let P : List ℕ → Type 0 = λ l. Word l v in subst P (sym (moved t c a)) wd

pub forward_word : {T : ℕ} (t : List ℕ) {k : Stack} {c : ℕ} {s a m : List ℕ} {v : ExprTree} {w : Reading} → Tail (c ∷ s) a m → Word (t ++ a) v → After T k v m w → Takes T (in_name t) k c s w
forward_word t {k = k} {c = c} {v = v} no_more wd x = let wd' = end_word t wd in word_ends _ t v k c (kind c) _ _ wd' (of-Word wd') (forward_after x)
forward_word t {k = k} {v = v} (more {c = c} {t = a} (more_letter h) tail) wd x = let wd' = move_word t c a wd in rw h (named_word (t ++ encode_utf8 c) a v k _ _ wd' (r_word tail wd' x))
forward_word t {k = k} {v = v} (more {c = c} {t = a} (more_under h) tail) wd x = let wd' = move_word t c a wd in rw h (named_word (t ++ encode_utf8 c) a v k _ _ wd' (r_word tail wd' x))
forward_word t {k = k} {v = v} (more {c = c} {t = a} (more_digit h) tail) wd x = let wd' = move_word t c a wd in rw h (named_word (t ++ encode_utf8 c) a v k _ _ wd' (r_word tail wd' x))

pub forward_named : {T : ℕ} {t : List ℕ} {k : Stack} {c : ℕ} {s m : List ℕ} {es : ExprTrees} {r : List ℕ} {w : Reading} → Opens (c ∷ s) m → depth k < 64 → Args (suc (depth k)) m es r → After T k (call t es) r w → Takes T (at_named t) k c s w
forward_named (blank_open h op) lt es x = rw h (r_named_call op lt es x)
forward_named {k = k} (open_now h) lt es x = rw h (opened k _ lt (r_args es x))

pub forward_soft : {T : ℕ} {b x : ExprTree} {k : Stack} {c : ℕ} {s m : List ℕ} {w : Reading} → Access (depth k) true (c ∷ s) b x m → After T k x m w → Takes T (at_soft b) k c s w
forward_soft (name_access h t) a = rw h (r_dot t a)
forward_soft {k = k} (key_access h lt x hu) a = rw h (opened k _ lt (r_first x (key hu a)))

pub dot_first : {T : ℕ} {b : ExprTree} {soft : Bool} {k : Stack} {c : ℕ} {s : List ℕ} {w : Reading} → IsFirst c → Rest T (in_member b soft (encode_utf8 c)) k s w → Takes T (at_dot b soft) k c s w
dot_first (first_letter h) r = rw h r
dot_first (first_under h) r = rw h r
dot_first (first_dollar h) r = rw h r

pub forward_dot : {T : ℕ} {b : ExprTree} {soft : Bool} {k : Stack} {c : ℕ} {s a r : List ℕ} {w : Reading} → MemberName (c ∷ s) a r → After T k (member b a soft) r w → Takes T (at_dot b soft) k c s w
forward_dot (blank_member h t) x = rw h (r_dot t x)
forward_dot (member_name h t) x = dot_first h (r_member t x)

pub member_more : {T : ℕ} {b : ExprTree} {soft : Bool} (t : List ℕ) {k : Stack} {c : ℕ} {s : List ℕ} {w : Reading} → IsFirst c → Rest T (in_member b soft (t ++ encode_utf8 c)) k s w → Takes T (in_member b soft t) k c s w
member_more t (first_letter h) r = rw h r
member_more t (first_under h) r = rw h r
member_more t (first_dollar h) r = rw h r

pub forward_member : {T : ℕ} {b : ExprTree} {soft : Bool} (t : List ℕ) {k : Stack} {c : ℕ} {s a r : List ℕ} {w : Reading} → MemberTail (c ∷ s) a r → After T k (member b (t ++ a) soft) r w → Takes T (in_member b soft t) k c s w
forward_member {b = b} {soft = soft} t {k = k} {c = c} no_more_member x = ends_member _ b soft t k c (kind c) _ _ (forward_after (at_end (λ l. member b l soft) t x))
forward_member {b = b} {soft = soft} t (more_digit_member {c = c} {t = a} h tail) x = rw h (r_member tail (move (λ l. member b l soft) t c a x))
forward_member {b = b} {soft = soft} t (more_member {c = c} {t = a} h tail) x = member_more t h (r_member tail (move (λ l. member b l soft) t c a x))

pub forward_ended : {T : ℕ} {t : List ℕ} {k : Stack} {c : ℕ} {s : List ℕ} {w : Reading} → After T k (text_literal t) (c ∷ s) w → Takes T (at_quote t) k c s w
forward_ended {t = t} {k = k} {c = c} a = ends_quote _ t k c (kind c) _ _ (forward_after a)

-- the text around the parts

pub data Past (T : ℕ) (c : ℕ) (s : List ℕ) : List Item → Type 0 where
  past : {items : List Item} → Items T s items → Past T c s (character c ∷ items)

pub past_char : {T : ℕ} {c : ℕ} {s : List ℕ} {items : List Item} → (kind c ≡ At → ⊥) → Items T (c ∷ s) items → Past T c s items
past_char no_sign (escape h h' h'' i) = absurd (no_sign h)
past_char no_sign (part h h' x hu i) = absurd (no_sign h)
past_char no_sign (itself_char h i) = past i
past_char no_sign (itself_at h um i) = absurd (no_sign h)

pub regroup : {T : ℕ} {k : Stack} (m : List Item → Mode) {s : List ℕ} (front own items : List Item) → Rest T (plain (front ++ own)) k s (items_of ((front ++ own) ++ items)) → Rest T (plain (front ++ own)) k s (items_of (front ++ (own ++ items)))
regroup {T = T} {k = k} m {s = s} front own items r = let P : List Item → Type 0 = λ l. Rest T (plain (front ++ own)) k s (items_of l) in subst P (append_assoc front own items) r

pub plain_past : {T : ℕ} {k : Stack} (front : List Item) (c : ℕ) {s : List ℕ} {items : List Item} → Past T c s items → Rest T (plain (front ++ character c ∷ [])) k s (items_of (front ++ items))
plain_past front c (past {items = items} i) = regroup plain front (character c ∷ []) items (r_plain i)

pub forward_text : {T : ℕ} (front : List Item) (k : Stack) (c : ℕ) (x : Kind) (s : List ℕ) (items : List Item) → kind c ≡ x → Items T (c ∷ s) items → ResumesAt T (plain_step front k c x) s (items_of (front ++ items))
forward_text front k c At s items h i = r_one i
forward_text front k c x s items h i = plain_past front c (past_char (λ h'. cc) i)

pub one_brace : {T : ℕ} {a c : ℕ} {s : List ℕ} {front items : List Item} → kind a ≡ At → kind c ≡ Brace → Items T (a ∷ c ∷ s) items → Rest T at_first (in_part front (place T (c ∷ s))) s (items_of (front ++ items))
one_brace ha h (escape h1 h2 h3 i) = absurd (cc)
one_brace ha h (part h1 h2 x hu i) = r_first x (part_done hu i)
one_brace ha h (itself_char h1 i) = absurd (h1 ha)
one_brace ha h (itself_at h1 (no_mark n n') i) = absurd (n' h)
one_brace ha h (itself_at h1 (at_at_end n) i) = absurd (cc)
one_brace ha h (itself_at h1 (at_no_mark n n') i) = absurd (cc)

pub data Past2 (T : ℕ) (a c : ℕ) (s : List ℕ) : List Item → Type 0 where
  past2 : {items : List Item} → Items T s items → Past2 T a c s (character a ∷ character c ∷ items)

pub past2_of : {T : ℕ} (a : ℕ) {c : ℕ} {s : List ℕ} {items : List Item} → Past T c s items → Past2 T a c s (character a ∷ items)
past2_of a (past i) = past2 i

pub one_other : {T : ℕ} {a c : ℕ} {s : List ℕ} {items : List Item} → kind a ≡ At → (kind c ≡ At → ⊥) → (kind c ≡ Brace → ⊥) → Items T (a ∷ c ∷ s) items → Past2 T a c s items
one_other ha n n' (escape h1 h2 h3 i) = absurd (n h2)
one_other ha n n' (part h1 h2 x hu i) = absurd (n' h2)
one_other ha n n' (itself_char h1 i) = absurd (h1 ha)
one_other {a = a} ha n n' (itself_at h1 um i) = past2_of a (past_char n i)

pub plain_past2 : {T : ℕ} {k : Stack} (front : List Item) (a c : ℕ) {s : List ℕ} {items : List Item} → Past2 T a c s items → Rest T (plain (front ++ character a ∷ character c ∷ [])) k s (items_of (front ++ items))
plain_past2 front a c (past2 {items = items} i) = regroup plain front (character a ∷ character c ∷ []) items (r_plain i)

pub forward_one : {T : ℕ} (front : List Item) (a : ℕ) (k : Stack) (c : ℕ) (x : Kind) (s : List ℕ) (items : List Item) → kind a ≡ At → kind c ≡ x → Items T (a ∷ c ∷ s) items → Resumes T (step_at (one_at front a) k c x) s (items_of (front ++ items))
forward_one front a k c At s items ha h i = r_two i
forward_one front a k c Brace s items ha h i = one_brace ha h i
forward_one front a k c x s items ha h i = plain_past2 front a c (one_other ha (λ h'. cc) (λ h'. cc) i)

pub two_at_at : {T : ℕ} {k : Stack} (front : List Item) {a b c : ℕ} {s : List ℕ} {items : List Item} → kind a ≡ At → kind b ≡ At → kind c ≡ At → Items T (a ∷ b ∷ c ∷ s) items → Rest T (two_at (front ++ character a ∷ []) b c) k s (items_of (front ++ items))
two_at_at front ha hb hc (escape h1 h2 h3 i) = absurd (cc)
two_at_at front ha hb hc (part h1 h2 x hu i) = absurd (cc)
two_at_at front ha hb hc (itself_char h1 i) = absurd (h1 ha)
two_at_at {T = T} {k = k} front {a = a} {b = b} {c = c} {s = s} ha hb hc (itself_at {items = items} h1 um i) = let P : List Item → Type 0 = λ l. Rest T (two_at (front ++ character a ∷ []) b c) k s (items_of l) in subst P (append_assoc front (character a ∷ []) items) (r_two i)

pub two_brace : {T : ℕ} {a b c : ℕ} {s : List ℕ} {items : List Item} → kind a ≡ At → kind b ≡ At → kind c ≡ Brace → Items T (a ∷ b ∷ c ∷ s) items → Past2 T b c s items
two_brace ha hb hc (escape h1 h2 h3 i) = past2 i
two_brace ha hb hc (part h1 h2 x hu i) = absurd (cc)
two_brace ha hb hc (itself_char h1 i) = absurd (h1 ha)
two_brace ha hb hc (itself_at h1 (no_mark n n') i) = absurd (n hb)
two_brace ha hb hc (itself_at h1 (at_no_mark n n') i) = absurd (n' hc)

pub data Past3 (T : ℕ) (a b c : ℕ) (s : List ℕ) : List Item → Type 0 where
  past3 : {items : List Item} → Items T s items → Past3 T a b c s (character a ∷ character b ∷ character c ∷ items)

pub past3_of : {T : ℕ} (a : ℕ) {b c : ℕ} {s : List ℕ} {items : List Item} → Past2 T b c s items → Past3 T a b c s (character a ∷ items)
past3_of a (past2 i) = past3 i

pub two_other : {T : ℕ} {a b c : ℕ} {s : List ℕ} {items : List Item} → kind a ≡ At → kind b ≡ At → (kind c ≡ At → ⊥) → (kind c ≡ Brace → ⊥) → Items T (a ∷ b ∷ c ∷ s) items → Past3 T a b c s items
two_other ha hb n n' (escape h1 h2 h3 i) = absurd (n' h3)
two_other ha hb n n' (part h1 h2 x hu i) = absurd (cc)
two_other ha hb n n' (itself_char h1 i) = absurd (h1 ha)
two_other {a = a} ha hb n n' (itself_at h1 um i) = past3_of a (one_other hb n n' i)

pub plain_past3 : {T : ℕ} {k : Stack} (front : List Item) (a b c : ℕ) {s : List ℕ} {items : List Item} → Past3 T a b c s items → Rest T (plain (front ++ character a ∷ character b ∷ character c ∷ [])) k s (items_of (front ++ items))
plain_past3 front a b c (past3 {items = items} i) = regroup plain front (character a ∷ character b ∷ character c ∷ []) items (r_plain i)

pub forward_two : {T : ℕ} (front : List Item) (a b : ℕ) (k : Stack) (c : ℕ) (x : Kind) (s : List ℕ) (items : List Item) → kind a ≡ At → kind b ≡ At → kind c ≡ x → Items T (a ∷ b ∷ c ∷ s) items → Resumes T (step_at (two_at front a b) k c x) s (items_of (front ++ items))
forward_two front a b k c At s items ha hb h i = two_at_at front ha hb h i
forward_two front a b k c Brace s items ha hb h i = plain_past2 front b c (two_brace ha hb h i)
forward_two front a b k c x s items ha hb h i = plain_past3 front a b c (two_other ha hb (λ h'. cc) (λ h'. cc) i)

-- no expression begins with what no expression begins with
pub forward_whole : (T : ℕ) {c : ℕ} {e : ExprTree} {s : List ℕ} → (x : Kind) → kind c ≡ x → Expr 0 (c ∷ s) e [] → ResumesAt T (begun whole c x) s (whole_of e)
forward_whole T {c = c} {e = e} {s = s} x h ex = let P : Kind → Type 0 = λ x. ResumesAt T (begun whole c x) s (whole_of e) in subst P h (forward_begun ex done)

pub start_other : {T : ℕ} (k : Stack) {c : ℕ} {s : List ℕ} {w : Reading} → (x : Kind) → kind c ≡ x → (kind c ≡ At → ⊥) → Reads T (c ∷ s) w → ResumesAt T (plain_step [] k c x) s w
start_other k x h n (expression ha ex) = absurd (n ha)
start_other k x h n (two_ats ha hb i) = absurd (n ha)
start_other k {c = c} {s = s} x h n (no_at {items = items} h' i) = forward_text [] k c x s items h i
start_other k x h n (part_first ha hb i) = absurd (n ha)

pub forward_start : {T : ℕ} (k : Stack) (c : ℕ) (x : Kind) (s : List ℕ) (w : Reading) → kind c ≡ x → Reads T (c ∷ s) w → Resumes T (step_at at_start k c x) s w
forward_start k c At s w h r = r_sign r
forward_start k c x s w h r = start_other k x h (λ h'. cc) r

pub sign_at : {T : ℕ} {k : Stack} {a c : ℕ} {s : List ℕ} {w : Reading} → kind a ≡ At → kind c ≡ At → Reads T (a ∷ c ∷ s) w → Rest T (plain (character a ∷ [])) k s w
sign_at ha h (expression h1 ex) = absurd (forward_whole 0 At h ex)
sign_at ha h (two_ats h1 h2 i) = r_plain i
sign_at ha h (no_at h1 i) = absurd (h1 ha)
sign_at ha h (part_first h1 h2 i) = absurd (cc)

pub sign_brace : {T : ℕ} {a c : ℕ} {s : List ℕ} {w : Reading} → kind a ≡ At → kind c ≡ Brace → Reads T (a ∷ c ∷ s) w → Rest T at_first (in_part [] (place T (c ∷ s))) s w
sign_brace ha h (expression h1 ex) = absurd (forward_whole 0 Brace h ex)
sign_brace ha h (two_ats h1 h2 i) = absurd (cc)
sign_brace ha h (no_at h1 i) = absurd (h1 ha)
sign_brace ha h (part_first h1 h2 i) = one_brace ha h i

pub sign_other : {T : ℕ} {a c : ℕ} {s : List ℕ} {w : Reading} → (x : Kind) → kind a ≡ At → kind c ≡ x → (kind c ≡ At → ⊥) → (kind c ≡ Brace → ⊥) → Reads T (a ∷ c ∷ s) w → ResumesAt T (begun whole c x) s w
sign_other x ha h n n' (expression h1 ex) = forward_whole _ x h ex
sign_other x ha h n n' (two_ats h1 h2 i) = absurd (n h2)
sign_other x ha h n n' (no_at h1 i) = absurd (h1 ha)
sign_other x ha h n n' (part_first h1 h2 i) = absurd (n' h2)

pub forward_sign : {T : ℕ} (a : ℕ) (k : Stack) (c : ℕ) (x : Kind) (s : List ℕ) (w : Reading) → kind a ≡ At → kind c ≡ x → Reads T (a ∷ c ∷ s) w → Resumes T (step_at (at_sign a) k c x) s w
forward_sign a k c At s w ha h r = sign_at ha h r
forward_sign a k c Brace s w ha h r = sign_brace ha h r
forward_sign a k c x s w ha h r = sign_other x ha h (λ h'. cc) (λ h'. cc) r

-- what holds in each state that is reached
abbrev pub Good : Mode → Stack → Type 0
Good (at_sign a) k = kind a ≡ At
Good (one_at front a) k = kind a ≡ At
Good (two_at front a b) k = (kind a ≡ At) × (kind b ≡ At)
Good (in_int neg v) k = v < limit neg
Good (in_name t) k = (nat_lt (depth k) 64 || word_front t) ≡ true
Good (at_named t) k = (nat_lt (depth k) 64 || is_word (word_of t)) ≡ true
Good m k = Unit {0}

pub forward : {T : ℕ} {m : Mode} {k : Stack} {c : ℕ} {s : List ℕ} {w : Reading} → Good m k → Rest T m k (c ∷ s) w → Resumes T (step (m, k) c) s w
forward {k = k} {c = c} {s = s} {w = w} g (r_start r) = forward_start k c (kind c) s w refl r
forward {k = k} {c = c} {s = s} {w = w} g (r_sign {a = a} r) = forward_sign a k c (kind c) s w g refl r
forward {k = k} {c = c} {s = s} g (r_plain {front = front} {items = items} i) = forward_text front k c (kind c) s items refl i
forward {k = k} {c = c} {s = s} g (r_one {front = front} {items = items} {a = a} i) = forward_one front a k c (kind c) s items g refl i
forward {k = k} {c = c} {s = s} g (r_two {front = front} {items = items} {a = a} {b = b} i) = forward_two front a b k c (kind c) s items g.0 g.1 refl i
forward g (r_first x up) = forward_begun x up
forward g (r_args x a) = forward_args x a
forward g (r_int {neg = neg} {v = v} ds lt a) = forward_int neg v ds lt a
forward g (r_minus h ds lt a) = rw h (r_int {neg = true} ds lt a)
forward g (r_quoted q a) = forward_quoted _ q a
forward g (r_ended {t = t} {k = k} {s = s'} a) = forward_ended a
forward g (r_twice h q a) = rw h (r_quoted q (move text_literal _ _ _ a))
forward g (r_call {t = t} tail op lt es a) = forward_call t tail op lt es a
forward g (r_word {t = t} tail wd a) = forward_word t tail wd a
forward g (r_named_call op lt es a) = forward_named op lt es a
forward {k = k} {c = c} g (r_named_word {t = t} {v = v} wd a) = named_ends _ t v k c (kind c) _ _ wd (of-Word wd) (forward_after a)
forward g (r_after a) = forward_after a
forward g (r_soft x a) = forward_soft x a
forward g (r_dot t a) = forward_dot t a
forward g (r_member t a) = forward_member _ t a
