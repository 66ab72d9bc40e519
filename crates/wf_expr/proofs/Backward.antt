-- Whatever the machine takes in a state, the grammar lets follow.
use Rattle.std.proofs.Common.{suc, ◌≡◌, ℕ, ◌+◌, ◌*◌, ◌-◌, ◌<◌, Bool, true, false, List, [], ◌∷◌, ◌++◌, Option, Some, None, nat_lt, ◌||◌, refl, sym, subst, arith, append_assoc, append-nil}
use Rattle.std.specs.Char.{encode_utf8}
use Rattle.wf_expr.specs.declared.kind.Kind.{Kind}
use Rattle.wf_expr.specs.declared.kind.Kind.TheVariants.{Blank, Digit, Letter, Quote, Open, Close, Bracket, Unbracket, Comma, Dot, Soft, Under, Dollar, Minus, At, Brace, Unbrace}
use Rattle.wf_expr.specs.Kinds.{kind}
use Rattle.wf_template.specs.ExprTree.{ExprTree, call, member, ExprTrees, no_exprs, expr_then}
use Rattle.wf_expr.specs.Reading.{number_literal, text_literal, Item, character, embedded, Reading, items_of, signed, limit}
use Rattle.wf_expr.specs.Words.{Word}
use Rattle.wf_expr.specs.WordTests.{word_of, word_front}
use Rattle.wf_expr.proofs.WordLemmas.{Word-of}
use Rattle.wf_expr.specs.Grammar.{place, no_digit, digit, closed, twice, itself, IsMore, more_letter, more_digit, more_under, IsFirst, first_letter, first_under, first_dollar, no_more_member, more_digit_member, more_member, blank_member, member_name, no_more, more, blank, begins, int, minus_int, quoted, word, calls, blank_open, open_now, Args, blank_args, no_args, args, close, comma, no_access, blank_access, access, soft_access, name_access, key_access, no_mark, at_no_mark, escape, part, itself_char, itself_at, expression, two_ats, no_at, part_first}
use Rattle.wf_expr.specs.Machine.{Stack, whole, in_part, depth, call_of, key_of, Mode, at_start, at_sign, plain, one_at, two_at, at_first, at_args, at_minus, in_int, in_quoted, at_quote, in_name, at_named, after, at_soft, at_dot, in_member, State, allowed, opens, closes, separates, ends_key, ends_part, plain_step, is_word, after_word, follow, begun, step_at}
use Rattle.wf_expr.proofs.Residual.{done, part_done, key, arg, After, accessed, Rest, r_start, r_sign, r_plain, r_one, r_two, r_first, r_args, r_int, r_minus, r_quoted, r_ended, r_twice, r_call, r_word, r_named_call, r_named_word, r_after, r_soft, r_dot, r_member, ResumesAt, Resumes, joined-snoc}
use Rattle.wf_expr.proofs.Forward.{moved, un_end_word, unmove_word, Good}

pub back_blank : {T : ℕ} {b : ExprTree} {k : Stack} {c : ℕ} {s : List ℕ} {w : Reading} → kind c ≡ Blank → Rest T (after b) k s w → After T k b (c ∷ s) w
back_blank h (r_after (accessed xs up)) = accessed (blank_access h xs) up

pub back_dot : {T : ℕ} {b : ExprTree} {k : Stack} {c : ℕ} {s : List ℕ} {w : Reading} → kind c ≡ Dot → Rest T (at_dot b false) k s w → After T k b (c ∷ s) w
back_dot h (r_dot t (accessed xs up)) = accessed (access (name_access h t) xs) up

pub back_soft : {T : ℕ} {b : ExprTree} {k : Stack} {c : ℕ} {s : List ℕ} {w : Reading} → kind c ≡ Soft → Rest T (at_soft b) k s w → After T k b (c ∷ s) w
back_soft h (r_soft x (accessed xs up)) = accessed (soft_access h x xs) up

pub back_key : {T : ℕ} {b : ExprTree} {k : Stack} {c : ℕ} {s : List ℕ} {w : Reading} → kind c ≡ Bracket → depth k < 64 → Rest T at_first (key_of b false k) s w → After T k b (c ∷ s) w
back_key h lt (r_first x (key hu (accessed xs up))) = accessed (access (key_access h lt x hu) xs) up

-- what an opening that was not refused says
pub guarded : {T : ℕ} {P : Type 0} (k : Stack) (st : State) (s : List ℕ) (w : Reading) → (depth k < 64 → Rest T st.0 st.1 s w → P) → ResumesAt T (opens k st) s w → P
guarded {T = T} {P = P} k st s w f =
    let go : (b : Bool) → (b ≡ true → depth k < 64) → ResumesAt T (allowed b st) s w → P = λ b. elim b as (λ b. (b ≡ true → depth k < 64) → ResumesAt T (allowed b st) s w → P) [ true ↦ λ g r. f (g refl) r | false ↦ λ g r. absurd r ] in
    go (nat_lt (depth k) 64) (λ e. grind arith)

pub r_after-out : {T : ℕ} {b : ExprTree} {k : Stack} {s : List ℕ} {w : Reading} → Rest T (after b) k s w → After T k b s w
r_after-out (r_after a) = a

pub back_comma_call : {T : ℕ} (b : ExprTree) (f : List ℕ) (front : List ExprTree) (k : Stack) (c : ℕ) (s : List ℕ) (w : Reading) → kind c ≡ Comma → Rest T at_first (call_of f (front ++ b ∷ []) k) s w → After T (call_of f front k) b (c ∷ s) w
back_comma_call {T = T} b f front k c s w h (r_first {e = e} x (arg {es = es} {m = m} xs a)) = accessed no_access (arg (comma h x xs) (let P : ExprTrees → Type 0 = λ es'. After T k (call f es') m w in subst P (joined-snoc front b (expr_then e es)) a))

pub back_comma : {T : ℕ} (b : ExprTree) (k : Stack) (c : ℕ) (s : List ℕ) (w : Reading) → kind c ≡ Comma → ResumesAt T (separates b k) s w → After T k b (c ∷ s) w
back_comma b whole c s w h r = absurd r
back_comma b (in_part items p) c s w h r = absurd r
back_comma b (key_of x soft k) c s w h r = absurd r
back_comma b (call_of f front k) c s w h r = back_comma_call b f front k c s w h r

pub back_close : {T : ℕ} (b : ExprTree) (k : Stack) (c : ℕ) (s : List ℕ) (w : Reading) → kind c ≡ Close → ResumesAt T (closes b k) s w → After T k b (c ∷ s) w
back_close b whole c s w h r = absurd r
back_close b (in_part items p) c s w h r = absurd r
back_close b (key_of x soft k) c s w h r = absurd r
back_close {T = T} b (call_of f front k) c s w h r = accessed no_access (arg (close h) (let P : ExprTrees → Type 0 = λ es. After T k (call f es) s w in subst P (joined-snoc front b no_exprs) (r_after-out r)))

pub back_unkey : {T : ℕ} (b : ExprTree) (k : Stack) (c : ℕ) (s : List ℕ) (w : Reading) → kind c ≡ Unbracket → ResumesAt T (ends_key b k) s w → After T k b (c ∷ s) w
back_unkey b whole c s w h r = absurd r
back_unkey b (in_part items p) c s w h r = absurd r
back_unkey b (key_of x soft k) c s w h r = accessed no_access (key h (r_after-out r))
back_unkey b (call_of f front k) c s w h r = absurd r

pub back_part_of : {T : ℕ} (b : ExprTree) (front : List Item) (p : ℕ) (c : ℕ) (s : List ℕ) (w : Reading) → kind c ≡ Unbrace → Rest T (plain (front ++ embedded b (place T (c ∷ s) - suc p) ∷ [])) whole s w → After T (in_part front p) b (c ∷ s) w
back_part_of {T = T} b front p c s w h (r_plain {items = items} i) = let P : List Item → Type 0 = λ l. After T (in_part front p) b (c ∷ s) (items_of l) in subst P (sym (append_assoc front (embedded b (place T (c ∷ s) - suc p) ∷ []) items)) (accessed no_access (part_done h i))

pub back_part : {T : ℕ} (b : ExprTree) (k : Stack) (c : ℕ) (s : List ℕ) (w : Reading) → kind c ≡ Unbrace → Resumes T (ends_part b k) s w → After T k b (c ∷ s) w
back_part b whole c s w h r = absurd r
back_part b (in_part front p) c s w h r = back_part_of b front p c s w h r
back_part b (key_of x soft k) c s w h r = absurd r
back_part b (call_of f front k) c s w h r = absurd r

pub back_follow : {T : ℕ} (b : ExprTree) (k : Stack) (c : ℕ) (x : Kind) (s : List ℕ) (w : Reading) → kind c ≡ x → Resumes T (follow b k x) s w → After T k b (c ∷ s) w
back_follow b k c Blank s w h r = back_blank h r
back_follow b k c Dot s w h r = back_dot h r
back_follow b k c Soft s w h r = back_soft h r
back_follow b k c Bracket s w h r = guarded k _ s w (back_key h) r
back_follow b k c Comma s w h r = back_comma b k c s w h r
back_follow b k c Close s w h r = back_close b k c s w h r
back_follow b k c Unbracket s w h r = back_unkey b k c s w h r
back_follow b k c Unbrace s w h r = back_part b k c s w h r
back_follow b k c x s w h r = absurd r

pub back_int : {T : ℕ} (neg : Bool) {v : ℕ} {k : Stack} {c : ℕ} {s : List ℕ} {w : Reading} → kind c ≡ Digit → Rest T (in_int neg (10 * v + (c - 48))) k s w → Rest T (in_int neg v) k (c ∷ s) w
back_int neg h (r_int ds lt a) = r_int {neg = neg} (digit h ds) lt a

pub back_int_first : {T : ℕ} {k : Stack} {c : ℕ} {s : List ℕ} {w : Reading} → kind c ≡ Digit → Rest T (in_int false (c - 48)) k s w → Rest T at_first k (c ∷ s) w
back_int_first h (r_int ds lt (accessed xs up)) = r_first (begins (int h ds lt) xs) up

pub back_minus_first : {T : ℕ} {k : Stack} {c : ℕ} {s : List ℕ} {w : Reading} → kind c ≡ Minus → Rest T at_minus k s w → Rest T at_first k (c ∷ s) w
back_minus_first h (r_minus h' ds lt (accessed xs up)) = r_first (begins (minus_int h h' ds lt) xs) up

pub back_minus_digit : {T : ℕ} {k : Stack} {c : ℕ} {s : List ℕ} {w : Reading} → kind c ≡ Digit → Rest T (in_int true (c - 48)) k s w → Rest T at_minus k (c ∷ s) w
back_minus_digit h (r_int ds lt a) = r_minus h ds lt a

pub back_minus : {T : ℕ} (k : Stack) (c : ℕ) (x : Kind) (s : List ℕ) (w : Reading) → kind c ≡ x → Resumes T (step_at at_minus k c x) s w → Rest T at_minus k (c ∷ s) w
back_minus k c Digit s w h r = back_minus_digit h r
back_minus k c x s w h r = absurd r

pub back_quote_first : {T : ℕ} {k : Stack} {c : ℕ} {s : List ℕ} {w : Reading} → kind c ≡ Quote → Rest T (in_quoted []) k s w → Rest T at_first k (c ∷ s) w
back_quote_first h (r_quoted q (accessed xs up)) = r_first (begins (quoted h q) xs) up

pub back_blank_first : {T : ℕ} {k : Stack} {c : ℕ} {s : List ℕ} {w : Reading} → kind c ≡ Blank → Rest T at_first k s w → Rest T at_first k (c ∷ s) w
back_blank_first h (r_first x up) = r_first (blank h x) up

pub back_name_first : {T : ℕ} {k : Stack} {c : ℕ} {s : List ℕ} {w : Reading} → kind c ≡ Letter → Rest T (in_name (encode_utf8 c)) k s w → Rest T at_first k (c ∷ s) w
back_name_first h (r_call t op lt es (accessed xs up)) = r_first (begins (calls h t op lt es) xs) up
back_name_first h (r_word t wd (accessed xs up)) = r_first (begins (word h t wd) xs) up

pub if_allowed : {T : ℕ} (b : Bool) (st : State) (s : List ℕ) (w : Reading) → ResumesAt T (allowed b st) s w → Rest T st.0 st.1 s w
if_allowed true st s w r = r
if_allowed false st s w r = absurd r

pub back_begun : {T : ℕ} (k : Stack) (c : ℕ) (x : Kind) (s : List ℕ) (w : Reading) → kind c ≡ x → ResumesAt T (begun k c x) s w → Rest T at_first k (c ∷ s) w
back_begun k c Blank s w h r = back_blank_first h r
back_begun k c Digit s w h r = back_int_first h r
back_begun k c Minus s w h r = back_minus_first h r
back_begun k c Quote s w h r = back_quote_first h r
back_begun k c Letter s w h r = back_name_first h (if_allowed (nat_lt (depth k) 64 || word_front (encode_utf8 c)) (in_name (encode_utf8 c), k) s w r)
back_begun k c x s w h r = absurd r

pub as_args : {T : ℕ} {f : List ℕ} {k : Stack} {s : List ℕ} {w : Reading} → Rest T at_first (call_of f [] k) s w → Rest T (at_args f) k s w
as_args (r_first x (arg xs a)) = r_args (args x xs) a

-- white space before the arguments
pub blank_before : {n c : ℕ} {s : List ℕ} {es : ExprTrees} {r : List ℕ} → kind c ≡ Blank → Args n s es r → Args n (c ∷ s) es r
blank_before h (blank_args h' x) = blank_args h (blank_args h' x)
blank_before h (no_args h') = blank_args h (no_args h')
blank_before h (args x xs) = args (blank h x) xs

pub back_blank_args : {T : ℕ} {f : List ℕ} {k : Stack} {c : ℕ} {s : List ℕ} {w : Reading} → kind c ≡ Blank → Rest T (at_args f) k s w → Rest T (at_args f) k (c ∷ s) w
back_blank_args h (r_args x a) = r_args (blank_before h x) a

pub back_args : {T : ℕ} (f : List ℕ) (k : Stack) (c : ℕ) (x : Kind) (s : List ℕ) (w : Reading) → kind c ≡ x → Resumes T (step_at (at_args f) k c x) s w → Rest T (at_args f) k (c ∷ s) w
back_args f k c Blank s w h r = back_blank_args h r
back_args f k c Close s w h r = r_args (no_args h) (r_after-out r)
back_args f k c x s w h r = as_args (back_begun (call_of f [] k) c x s w h r)

-- one back from the end
pub unmove : {T : ℕ} (g : List ℕ → ExprTree) {k : Stack} {s : List ℕ} {w : Reading} (t : List ℕ) (c : ℕ) (a : List ℕ) → After T k (g ((t ++ (encode_utf8 c)) ++ a)) s w → After T k (g (t ++ (encode_utf8 c ++ a))) s w
unmove {T = T} g {k = k} {s = s} {w = w} t c a r = let P : List ℕ → Type 0 = λ l. After T k (g l) s w in subst P (sym (moved t c a)) r

pub un_end : {T : ℕ} (g : List ℕ → ExprTree) {k : Stack} {s : List ℕ} {w : Reading} (t : List ℕ) → After T k (g t) s w → After T k (g (t ++ [])) s w
un_end {T = T} g {k = k} {s = s} {w = w} t r = let P : List ℕ → Type 0 = λ l. After T k (g l) s w in subst P (sym (append-nil t)) r

pub back_twice : {T : ℕ} (t : List ℕ) {k : Stack} {c : ℕ} {s : List ℕ} {w : Reading} → kind c ≡ Quote → Rest T (in_quoted (t ++ encode_utf8 c)) k s w → Rest T (at_quote t) k (c ∷ s) w
back_twice t {c = c} h (r_quoted {a = a} q x) = r_twice h q (unmove text_literal t c a x)

pub back_in_quoted : {T : ℕ} (t : List ℕ) {k : Stack} {c : ℕ} {s : List ℕ} {w : Reading} → (kind c ≡ Quote → ⊥) → Rest T (in_quoted (t ++ encode_utf8 c)) k s w → Rest T (in_quoted t) k (c ∷ s) w
back_in_quoted t {c = c} h (r_quoted {a = a} q x) = r_quoted (itself h q) (unmove text_literal t c a x)

pub back_quote : {T : ℕ} (t : List ℕ) {k : Stack} {c : ℕ} {s : List ℕ} {w : Reading} → kind c ≡ Quote → Rest T (at_quote t) k s w → Rest T (in_quoted t) k (c ∷ s) w
back_quote t h (r_ended x) = r_quoted (closed h) (un_end text_literal t x)
back_quote t h (r_twice h' q x) = r_quoted (twice h h' q) x

pub back_quoted : {T : ℕ} (t : List ℕ) (k : Stack) (c : ℕ) (x : Kind) (s : List ℕ) (w : Reading) → kind c ≡ x → Resumes T (step_at (in_quoted t) k c x) s w → Rest T (in_quoted t) k (c ∷ s) w
back_quoted t k c Quote s w h r = back_quote t h r
back_quoted t k c x s w h r = back_in_quoted t (λ h'. cc) r

pub back_at_quote : {T : ℕ} (t : List ℕ) (k : Stack) (c : ℕ) (x : Kind) (s : List ℕ) (w : Reading) → kind c ≡ x → Resumes T (step_at (at_quote t) k c x) s w → Rest T (at_quote t) k (c ∷ s) w
back_at_quote t k c Quote s w h r = back_twice t h r
back_at_quote t k c x s w h r = r_ended (back_follow (text_literal t) k c x s w h r)

pub back_more : {T : ℕ} (t : List ℕ) {k : Stack} {c : ℕ} {s : List ℕ} {w : Reading} → IsMore c → Rest T (in_name (t ++ encode_utf8 c)) k s w → Rest T (in_name t) k (c ∷ s) w
back_more t {c = c} h (r_call {a = a} {es = es} tail op lt xs x) = r_call (more h tail) op lt xs (unmove (λ l. call l es) t c a x)
back_more t {c = c} h (r_word {a = a} tail wd x) = r_word (more h tail) (unmove_word t c a wd) x

pub back_open : {T : ℕ} (t : List ℕ) {k : Stack} {c : ℕ} {s : List ℕ} {w : Reading} → kind c ≡ Open → depth k < 64 → Rest T (at_args t) k s w → Rest T (in_name t) k (c ∷ s) w
back_open t h lt (r_args {es = es} xs x) = r_call no_more (open_now h) lt xs (un_end (λ l. call l es) t x)

pub back_name_blank : {T : ℕ} (t : List ℕ) {k : Stack} {c : ℕ} {s : List ℕ} {w : Reading} → kind c ≡ Blank → Rest T (at_named t) k s w → Rest T (in_name t) k (c ∷ s) w
back_name_blank t h (r_named_call {es = es} op lt xs x) = r_call no_more (blank_open h op) lt xs (un_end (λ l. call l es) t x)
back_name_blank t h (r_named_word wd (accessed xs up)) = r_word no_more (un_end_word t wd) (accessed (blank_access h xs) up)

pub back_after_word : {T : ℕ} (t : List ℕ) (k : Stack) (c : ℕ) (x : Kind) (s : List ℕ) (w : Reading) → kind c ≡ x → Resumes T (after_word (word_of t) k x) s w → (v : ExprTree) × Word t v × After T k v (c ∷ s) w
back_after_word {T = T} t k c x s w h =
    elim (word_of t) as (λ o. ((v : ExprTree) → o ≡ Some v → Word t v) → Resumes T (after_word o k x) s w → (v : ExprTree) × Word t v × After T k v (c ∷ s) w)
    [ None ↦ λ g r. absurd r | Some v ↦ λ g r. (v, g v refl, back_follow v k c x s w h r) ] (Word-of t)

pub back_name_other : {T : ℕ} (t : List ℕ) (k : Stack) (c : ℕ) (x : Kind) (s : List ℕ) (w : Reading) → kind c ≡ x → Resumes T (after_word (word_of t) k x) s w → Rest T (in_name t) k (c ∷ s) w
back_name_other t k c x s w h r = let q = back_after_word t k c x s w h r in r_word no_more (un_end_word t q.1) q.2

pub back_name : {T : ℕ} (t : List ℕ) (k : Stack) (c : ℕ) (x : Kind) (s : List ℕ) (w : Reading) → kind c ≡ x → Resumes T (step_at (in_name t) k c x) s w → Rest T (in_name t) k (c ∷ s) w
back_name t k c Letter s w h r = back_more t (more_letter h) (if_allowed (nat_lt (depth k) 64 || word_front (t ++ encode_utf8 c)) (in_name (t ++ encode_utf8 c), k) s w r)
back_name t k c Digit s w h r = back_more t (more_digit h) (if_allowed (nat_lt (depth k) 64 || word_front (t ++ encode_utf8 c)) (in_name (t ++ encode_utf8 c), k) s w r)
back_name t k c Under s w h r = back_more t (more_under h) (if_allowed (nat_lt (depth k) 64 || word_front (t ++ encode_utf8 c)) (in_name (t ++ encode_utf8 c), k) s w r)
back_name t k c Blank s w h r = back_name_blank t h (if_allowed (nat_lt (depth k) 64 || is_word (word_of t)) (at_named t, k) s w r)
back_name t k c Open s w h r = guarded k _ s w (back_open t h) r
back_name t k c x s w h r = back_name_other t k c x s w h r

pub back_named_blank : {T : ℕ} {t : List ℕ} {k : Stack} {c : ℕ} {s : List ℕ} {w : Reading} → kind c ≡ Blank → Rest T (at_named t) k s w → Rest T (at_named t) k (c ∷ s) w
back_named_blank h (r_named_call op lt xs x) = r_named_call (blank_open h op) lt xs x
back_named_blank h (r_named_word wd (accessed xs up)) = r_named_word wd (accessed (blank_access h xs) up)

pub back_named_open : {T : ℕ} {t : List ℕ} {k : Stack} {c : ℕ} {s : List ℕ} {w : Reading} → kind c ≡ Open → depth k < 64 → Rest T (at_args t) k s w → Rest T (at_named t) k (c ∷ s) w
back_named_open h lt (r_args xs x) = r_named_call (open_now h) lt xs x

pub back_named : {T : ℕ} (t : List ℕ) (k : Stack) (c : ℕ) (x : Kind) (s : List ℕ) (w : Reading) → kind c ≡ x → Resumes T (step_at (at_named t) k c x) s w → Rest T (at_named t) k (c ∷ s) w
back_named t k c Blank s w h r = back_named_blank h r
back_named t k c Open s w h r = guarded k _ s w (back_named_open h) r
back_named t k c x s w h r = let q = back_after_word t k c x s w h r in r_named_word q.1 q.2

pub back_soft_dot : {T : ℕ} {b : ExprTree} {k : Stack} {c : ℕ} {s : List ℕ} {w : Reading} → kind c ≡ Dot → Rest T (at_dot b true) k s w → Rest T (at_soft b) k (c ∷ s) w
back_soft_dot h (r_dot t a) = r_soft (name_access h t) a

pub back_soft_key : {T : ℕ} {b : ExprTree} {k : Stack} {c : ℕ} {s : List ℕ} {w : Reading} → kind c ≡ Bracket → depth k < 64 → Rest T at_first (key_of b true k) s w → Rest T (at_soft b) k (c ∷ s) w
back_soft_key h lt (r_first x (key hu a)) = r_soft (key_access h lt x hu) a

pub back_at_soft : {T : ℕ} (b : ExprTree) (k : Stack) (c : ℕ) (x : Kind) (s : List ℕ) (w : Reading) → kind c ≡ x → Resumes T (step_at (at_soft b) k c x) s w → Rest T (at_soft b) k (c ∷ s) w
back_at_soft b k c Dot s w h r = back_soft_dot h r
back_at_soft b k c Bracket s w h r = guarded k _ s w (back_soft_key h) r
back_at_soft b k c x s w h r = absurd r

pub back_first : {T : ℕ} {b : ExprTree} {soft : Bool} {k : Stack} {c : ℕ} {s : List ℕ} {w : Reading} → IsFirst c → Rest T (in_member b soft (encode_utf8 c)) k s w → Rest T (at_dot b soft) k (c ∷ s) w
back_first h (r_member t a) = r_dot (member_name h t) a

pub back_dot_blank : {T : ℕ} {b : ExprTree} {soft : Bool} {k : Stack} {c : ℕ} {s : List ℕ} {w : Reading} → kind c ≡ Blank → Rest T (at_dot b soft) k s w → Rest T (at_dot b soft) k (c ∷ s) w
back_dot_blank h (r_dot t a) = r_dot (blank_member h t) a

pub back_at_dot : {T : ℕ} (b : ExprTree) (soft : Bool) (k : Stack) (c : ℕ) (x : Kind) (s : List ℕ) (w : Reading) → kind c ≡ x → Resumes T (step_at (at_dot b soft) k c x) s w → Rest T (at_dot b soft) k (c ∷ s) w
back_at_dot b soft k c Blank s w h r = back_dot_blank h r
back_at_dot b soft k c Letter s w h r = back_first (first_letter h) r
back_at_dot b soft k c Under s w h r = back_first (first_under h) r
back_at_dot b soft k c Dollar s w h r = back_first (first_dollar h) r
back_at_dot b soft k c x s w h r = absurd r

pub back_member_more : {T : ℕ} (b : ExprTree) (soft : Bool) (t : List ℕ) {k : Stack} {c : ℕ} {s : List ℕ} {w : Reading} → IsFirst c → Rest T (in_member b soft (t ++ encode_utf8 c)) k s w → Rest T (in_member b soft t) k (c ∷ s) w
back_member_more b soft t {c = c} h (r_member {a = a} tail x) = r_member (more_member h tail) (unmove (λ l. member b l soft) t c a x)

pub back_member_digit : {T : ℕ} (b : ExprTree) (soft : Bool) (t : List ℕ) {k : Stack} {c : ℕ} {s : List ℕ} {w : Reading} → kind c ≡ Digit → Rest T (in_member b soft (t ++ encode_utf8 c)) k s w → Rest T (in_member b soft t) k (c ∷ s) w
back_member_digit b soft t {c = c} h (r_member {a = a} tail x) = r_member (more_digit_member h tail) (unmove (λ l. member b l soft) t c a x)

pub back_member : {T : ℕ} (b : ExprTree) (soft : Bool) (t : List ℕ) (k : Stack) (c : ℕ) (x : Kind) (s : List ℕ) (w : Reading) → kind c ≡ x → Resumes T (step_at (in_member b soft t) k c x) s w → Rest T (in_member b soft t) k (c ∷ s) w
back_member b soft t k c Letter s w h r = back_member_more b soft t (first_letter h) r
back_member b soft t k c Under s w h r = back_member_more b soft t (first_under h) r
back_member b soft t k c Dollar s w h r = back_member_more b soft t (first_dollar h) r
back_member b soft t k c Digit s w h r = back_member_digit b soft t h r
back_member b soft t k c x s w h r = r_member no_more_member (un_end (λ l. member b l soft) t (back_follow (member b t soft) k c x s w h r))

pub back_in_int : {T : ℕ} (neg : Bool) (v : ℕ) (k : Stack) (c : ℕ) (x : Kind) (s : List ℕ) (w : Reading) → v < limit neg → kind c ≡ x → Resumes T (step_at (in_int neg v) k c x) s w → Rest T (in_int neg v) k (c ∷ s) w
back_in_int neg v k c Digit s w lt h r = back_int neg h (if_allowed (nat_lt (10 * v + (c - 48)) (limit neg)) (in_int neg (10 * v + (c - 48)), k) s w r)
back_in_int neg v k c x s w lt h r = r_int {neg = neg} no_digit lt (back_follow (number_literal (signed neg v)) k c x s w h r)

-- the text around the parts

pub ungroup : {T : ℕ} (m : Mode) (k : Stack) (s : List ℕ) (front own items : List Item) → Rest T m k s (items_of (front ++ (own ++ items))) → Rest T m k s (items_of ((front ++ own) ++ items))
ungroup {T = T} m k s front own items r = let P : List Item → Type 0 = λ l. Rest T m k s (items_of l) in subst P (sym (append_assoc front own items)) r

pub back_one_at : {T : ℕ} {front : List Item} {k : Stack} {c : ℕ} {s : List ℕ} {w : Reading} → Rest T (one_at front c) k s w → Rest T (plain front) k (c ∷ s) w
back_one_at (r_one i) = r_plain i

pub back_plain : {T : ℕ} (front : List Item) (k : Stack) (c : ℕ) (s : List ℕ) (w : Reading) → (kind c ≡ At → ⊥) → Rest T (plain (front ++ character c ∷ [])) k s w → Rest T (plain front) k (c ∷ s) w
back_plain front k c s w n (r_plain {items = items} i) = ungroup (plain front) k (c ∷ s) front (character c ∷ []) items (r_plain (itself_char n i))

pub back_text : {T : ℕ} (front : List Item) (k : Stack) (c : ℕ) (x : Kind) (s : List ℕ) (w : Reading) → kind c ≡ x → ResumesAt T (plain_step front k c x) s w → Rest T (plain front) k (c ∷ s) w
back_text front k c At s w h r = back_one_at r
back_text front k c x s w h r = back_plain front k c s w (λ h'. cc) r

pub back_one_two : {T : ℕ} {front : List Item} {a : ℕ} {k : Stack} {c : ℕ} {s : List ℕ} {w : Reading} → Rest T (two_at front a c) k s w → Rest T (one_at front a) k (c ∷ s) w
back_one_two (r_two i) = r_one i

pub back_one_part : {T : ℕ} {front : List Item} {a : ℕ} {k : Stack} {c : ℕ} {s : List ℕ} {w : Reading} → kind a ≡ At → kind c ≡ Brace → Rest T at_first (in_part front (place T (c ∷ s))) s w → Rest T (one_at front a) k (c ∷ s) w
back_one_part ha h (r_first x (part_done hu i)) = r_one (part ha h x hu i)

pub back_one_plain : {T : ℕ} (front : List Item) (a : ℕ) (k : Stack) (c : ℕ) (s : List ℕ) (w : Reading) → kind a ≡ At → (kind c ≡ At → ⊥) → (kind c ≡ Brace → ⊥) → Rest T (plain (front ++ character a ∷ character c ∷ [])) k s w → Rest T (one_at front a) k (c ∷ s) w
back_one_plain front a k c s w ha n n' (r_plain {items = items} i) = ungroup (one_at front a) k (c ∷ s) front (character a ∷ character c ∷ []) items (r_one (itself_at ha (no_mark n n') (itself_char n i)))

pub back_one : {T : ℕ} (front : List Item) (a : ℕ) (k : Stack) (c : ℕ) (x : Kind) (s : List ℕ) (w : Reading) → kind a ≡ At → kind c ≡ x → Resumes T (step_at (one_at front a) k c x) s w → Rest T (one_at front a) k (c ∷ s) w
back_one front a k c At s w ha h r = back_one_two r
back_one front a k c Brace s w ha h r = back_one_part ha h r
back_one front a k c x s w ha h r = back_one_plain front a k c s w ha (λ h'. cc) (λ h'. cc) r

pub back_two_at : {T : ℕ} (front : List Item) (a b : ℕ) (k : Stack) (c : ℕ) (s : List ℕ) (w : Reading) → kind a ≡ At → kind b ≡ At → (kind c ≡ Brace → ⊥) → Rest T (two_at (front ++ character a ∷ []) b c) k s w → Rest T (two_at front a b) k (c ∷ s) w
back_two_at front a b k c s w ha hb n' (r_two {items = items} i) = ungroup (two_at front a b) k (c ∷ s) front (character a ∷ []) items (r_two (itself_at ha (at_no_mark hb n') i))

pub back_two_brace : {T : ℕ} (front : List Item) (a b : ℕ) (k : Stack) (c : ℕ) (s : List ℕ) (w : Reading) → kind a ≡ At → kind b ≡ At → kind c ≡ Brace → Rest T (plain (front ++ character b ∷ character c ∷ [])) k s w → Rest T (two_at front a b) k (c ∷ s) w
back_two_brace front a b k c s w ha hb h (r_plain {items = items} i) = ungroup (two_at front a b) k (c ∷ s) front (character b ∷ character c ∷ []) items (r_two (escape ha hb h i))

pub back_two_plain : {T : ℕ} (front : List Item) (a b : ℕ) (k : Stack) (c : ℕ) (s : List ℕ) (w : Reading) → kind a ≡ At → kind b ≡ At → (kind c ≡ At → ⊥) → (kind c ≡ Brace → ⊥) → Rest T (plain (front ++ character a ∷ character b ∷ character c ∷ [])) k s w → Rest T (two_at front a b) k (c ∷ s) w
back_two_plain front a b k c s w ha hb n n' (r_plain {items = items} i) = ungroup (two_at front a b) k (c ∷ s) front (character a ∷ character b ∷ character c ∷ []) items (r_two (itself_at ha (at_no_mark hb n') (itself_at hb (no_mark n n') (itself_char n i))))

pub back_two : {T : ℕ} (front : List Item) (a b : ℕ) (k : Stack) (c : ℕ) (x : Kind) (s : List ℕ) (w : Reading) → kind a ≡ At → kind b ≡ At → kind c ≡ x → Resumes T (step_at (two_at front a b) k c x) s w → Rest T (two_at front a b) k (c ∷ s) w
back_two front a b k c At s w ha hb h r = back_two_at front a b k c s w ha hb (λ h'. cc) r
back_two front a b k c Brace s w ha hb h r = back_two_brace front a b k c s w ha hb h r
back_two front a b k c x s w ha hb h r = back_two_plain front a b k c s w ha hb (λ h'. cc) (λ h'. cc) r

pub back_start_at : {T : ℕ} {k : Stack} {c : ℕ} {s : List ℕ} {w : Reading} → Rest T (at_sign c) k s w → Rest T at_start k (c ∷ s) w
back_start_at (r_sign r) = r_start r

pub back_start_text : {T : ℕ} {k : Stack} {c : ℕ} {s : List ℕ} {w : Reading} → (kind c ≡ At → ⊥) → Rest T (plain []) k (c ∷ s) w → Rest T at_start k (c ∷ s) w
back_start_text n (r_plain i) = r_start (no_at n i)

pub back_start : {T : ℕ} (k : Stack) (c : ℕ) (x : Kind) (s : List ℕ) (w : Reading) → kind c ≡ x → Resumes T (step_at at_start k c x) s w → Rest T at_start k (c ∷ s) w
back_start k c At s w h r = back_start_at r
back_start k c x s w h r = back_start_text (λ h'. cc) (back_plain [] k c s w (λ h'. cc) r)

pub back_sign_two : {T : ℕ} {a : ℕ} {k : Stack} {c : ℕ} {s : List ℕ} {w : Reading} → kind a ≡ At → kind c ≡ At → Rest T (plain (character a ∷ [])) k s w → Rest T (at_sign a) k (c ∷ s) w
back_sign_two ha h (r_plain i) = r_sign (two_ats ha h i)

pub back_sign_part : {T : ℕ} {a : ℕ} {k : Stack} {c : ℕ} {s : List ℕ} {w : Reading} → kind a ≡ At → kind c ≡ Brace → Rest T at_first (in_part [] (place T (c ∷ s))) s w → Rest T (at_sign a) k (c ∷ s) w
back_sign_part ha h (r_first x (part_done hu i)) = r_sign (part_first ha h (part ha h x hu i))

pub back_sign_expr : {T : ℕ} {a : ℕ} {k : Stack} {c : ℕ} {s : List ℕ} {w : Reading} → kind a ≡ At → Rest T at_first whole (c ∷ s) w → Rest T (at_sign a) k (c ∷ s) w
back_sign_expr ha (r_first x done) = r_sign (expression ha x)

pub back_sign : {T : ℕ} (a : ℕ) (k : Stack) (c : ℕ) (x : Kind) (s : List ℕ) (w : Reading) → kind a ≡ At → kind c ≡ x → Resumes T (step_at (at_sign a) k c x) s w → Rest T (at_sign a) k (c ∷ s) w
back_sign a k c At s w ha h r = back_sign_two ha h r
back_sign a k c Brace s w ha h r = back_sign_part ha h r
back_sign a k c x s w ha h r = back_sign_expr ha (back_begun whole c x s w h r)

abbrev pub GoodIf : Option State → Type 0
GoodIf None = Unit {0}
GoodIf (Some st) = Good st.0 st.1

pub back : {T : ℕ} (m : Mode) (k : Stack) (c : ℕ) (x : Kind) (s : List ℕ) (w : Reading) → Good m k → kind c ≡ x → Resumes T (step_at m k c x) s w → Rest T m k (c ∷ s) w
back at_start k c x s w g h r = back_start k c x s w h r
back (at_sign a) k c x s w g h r = back_sign a k c x s w g h r
back (plain front) k c x s w g h r = back_text front k c x s w h r
back (one_at front a) k c x s w g h r = back_one front a k c x s w g h r
back (two_at front a b) k c x s w g h r = back_two front a b k c x s w g.0 g.1 h r
back at_first k c x s w g h r = back_begun k c x s w h r
back (at_args f) k c x s w g h r = back_args f k c x s w h r
back at_minus k c x s w g h r = back_minus k c x s w h r
back (in_int neg v) k c x s w g h r = back_in_int neg v k c x s w g h r
back (in_quoted t) k c x s w g h r = back_quoted t k c x s w h r
back (at_quote t) k c x s w g h r = back_at_quote t k c x s w h r
back (in_name t) k c x s w g h r = back_name t k c x s w h r
back (at_named t) k c x s w g h r = back_named t k c x s w h r
back (after b) k c x s w g h r = r_after (back_follow b k c x s w h r)
back (at_soft b) k c x s w g h r = back_at_soft b k c x s w h r
back (at_dot b soft) k c x s w g h r = back_at_dot b soft k c x s w h r
back (in_member b soft t) k c x s w g h r = back_member b soft t k c x s w h r
