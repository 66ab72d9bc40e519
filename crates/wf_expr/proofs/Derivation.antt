-- What is printed of an expression derives it: by the constructors of the grammar alone.
use Rattle.std.proofs.Common.{rules, length, None, ◌≡◌, ℕ, suc, pos, negsuc, ℤ, ◌+◌, ◌-◌, ◌*◌, ◌/◌, ◌%◌, ◌<◌, ◌≤◌, ◌^◌, Bool, true, false, if◌then◌else◌, nat_eq, nat_lt, List, [], ◌∷◌, ◌++◌, All, flat_map, ◌⊎◌, inl, inr, refl, sym, ap, ◌∙◌, subst, arith, append_assoc, append-nil, lit<}
use Rattle.std.specs.Char.{encode_utf8}
use Rattle.std.specs.Str.{chars, IsUtf8, IsAscii, encode_utf8_all}
use Rattle.std.specs.Fmt.{decimal, signed_decimal}
use Rattle.std.specs.Prelude.{FitsSigned}
use Rattle.std.specs.Int.{w64}
use Rattle.std.proofs.lemmas.Fmt.{decimal_by_steps, IsAscii-signed}
use Rattle.std.proofs.lemmas.Str.{chars-append, IsUtf8-append, IsUtf8-from_ascii, chars-IsAscii, IsAscii-append, encode_ascii, encodes-chars}
use Rattle.std.proofs.lemmas.Str.Ascii.{IsAscii-nil, IsAscii-cons}
use Rattle.wf_val.specs.ValueTree.{ValueTree, null, boolean, number, text, list, object}
use Rattle.wf_val.specs.WellFormed.{IsWellFormed}
use Rattle.wf_expr.specs.Kinds.{kind, is_blank, is_digit, is_letter}
use Rattle.wf_expr.specs.declared.kind.Kind.{Kind}
use Rattle.wf_expr.specs.declared.kind.Kind.TheVariants.{Blank, Digit, Letter, Quote, Open, Close, Bracket, Unbracket, Comma, Dot, Soft, Under, Dollar, Minus, At, Brace, Unbrace, Other}
use Rattle.wf_template.specs.TemplateTree.{whole}
use Rattle.wf_expr.specs.Spells.{over, Derives, Spells}
use Rattle.wf_expr.specs.Words.{is_true, is_false, is_null, true_text, false_text, null_text}
use Rattle.wf_expr.specs.Reading.{whole_of, number_literal, text_literal, null_literal, boolean_literal}
use Rattle.wf_template.specs.ExprTree.{ExprTree, literal, call, member, index, ExprTrees, no_exprs, expr_then}
use Rattle.wf_expr.specs.Grammar.{expression, Digits, no_digit, digit, Quoted, closed, twice, itself, IsMore, more_letter, more_digit, more_under, Tail, no_more, more, IsFirst, first_letter, first_under, first_dollar, MemberTail, no_more_member, more_digit_member, more_member, MemberName, member_name, Opens, open_now, Expr, blank, begins, Primary, int, minus_int, quoted, word, calls, Args, no_args, args, More, close, comma, Accesses, no_access, blank_access, access, soft_access, name_access, key_access}
use Rattle.wf_expr.specs.Printed.{quoted_byte, printed_value, dot, bracket, printed, printed_args, printed_more}
use Rattle.wf_expr.specs.Printable.{IsPrintableValue, IsFunctionName, IsMemberMore, IsMemberName, IsPrintable, ArePrintable}
use Rattle.wf_expr.specs.Unwritten.{HasWellFormedLiterals, HaveWellFormedLiterals}
use Rattle.wf_expr.proofs.QuoteLemmas.{is_quote, IsUtf8-quoted, chars-quoted}

-- the bytes are UTF-8, and R relates their characters, whatever comes after them, to what comes after them
pub record Stands (R : List ℕ → List ℕ → Type 0) (bs : List ℕ) : Type 0 where
  pub utf8 : IsUtf8 bs
  pub reads : (r : List ℕ) → R (chars bs ++ r) r

joins : {R S T : List ℕ → List ℕ → Type 0} (xs ys : List ℕ) → Stands R xs → Stands S ys → ((s m r : List ℕ) → R s m → S m r → T s r) → Stands T (xs ++ ys)
joins {T = T} xs ys a b f = record {
  utf8 = IsUtf8-append xs ys a.utf8 b.utf8;
  reads = λ r.
      let P : List ℕ → Type 0 = λ l. T l r in
      subst P (sym (ap (λ l. l ++ r) (chars-append xs ys a.utf8) ∙ append_assoc (chars xs) (chars ys) r)) (f _ _ r (a.reads (chars ys ++ r)) (b.reads r));
}

from_ascii : {R : List ℕ → List ℕ → Type 0} (bs : List ℕ) → IsAscii bs → ((r : List ℕ) → R (bs ++ r) r) → Stands R bs
from_ascii {R = R} bs h f = record {
  utf8 = IsUtf8-from_ascii bs h;
  reads = λ r. let P : List ℕ → Type 0 = λ l. R (l ++ r) r in subst P (sym (chars-IsAscii bs h)) (f r);
}

-- ---- kinds
passed : (b : Bool) (v x : Kind) → b ≡ false → (if b then v else x) ≡ x
passed true v x h = absurd (cc)
passed false v x h = refl

taken : (b : Bool) (v x : Kind) → b ≡ true → (if b then v else x) ≡ v
taken true v x h = refl
taken false v x h = absurd (cc)

digit_of : (k : ℕ) → k < 10 → kind (48 + k) ≡ Digit
unfolding kind
digit_of k h =
    let no_blank : is_blank (48 + k) ≡ false = grind arith in
    let is : is_digit (48 + k) ≡ true = grind arith in
    passed _ Blank _ no_blank ∙ taken _ Digit _ is

-- no character beyond ASCII has a kind of its own
pub high : (c : ℕ) → 128 ≤ c → kind c ≡ Other
unfolding kind
high c h =
    let e1 : is_blank c ≡ false = grind arith in
    let e2 : is_digit c ≡ false = grind arith in
    let e3 : is_letter c ≡ false = grind arith in
    passed _ Blank _ e1 ∙ passed _ Digit _ e2 ∙ passed _ Letter _ e3
    ∙ passed _ Quote _ (other c 39 (omega arith)) ∙ passed _ Open _ (other c 40 (omega arith)) ∙ passed _ Close _ (other c 41 (omega arith))
    ∙ passed _ Bracket _ (other c 91 (omega arith)) ∙ passed _ Unbracket _ (other c 93 (omega arith)) ∙ passed _ Comma _ (other c 44 (omega arith))
    ∙ passed _ Dot _ (other c 46 (omega arith)) ∙ passed _ Soft _ (other c 63 (omega arith)) ∙ passed _ Under _ (other c 95 (omega arith))
    ∙ passed _ Dollar _ (other c 36 (omega arith)) ∙ passed _ Minus _ (other c 45 (omega arith)) ∙ passed _ At _ (other c 64 (omega arith))
    ∙ passed _ Brace _ (other c 123 (omega arith)) ∙ passed _ Unbrace _ (other c 125 (omega arith))
  where
    other : (c k : ℕ) → k < c → nat_eq c k ≡ false
    other c k h = grind arith

-- a character of any other kind is ASCII
pub low : (c : ℕ) (x : Kind) → kind c ≡ x → (x ≡ Other → ⊥) → c < 128
low c x h differs = by (order c 128)
  where
    order : (a b : ℕ) → (a < b) ⊎ (b ≤ a)
    order a b = elim (nat_lt a b) as (λ t. nat_lt a b ≡ t → (a < b) ⊎ (b ≤ a)) [ true ↦ (λ e. inl (grind arith)) | false ↦ (λ e. inr (grind arith)) ] refl

    by : (c < 128) ⊎ (128 ≤ c) → c < 128
    by (inl l) = l
    by (inr l) = let e = high c l in absurd (differs (sym h ∙ e))

pub low_letter : (c : ℕ) → kind c ≡ Letter → c < 128
low_letter c h = low c Letter h (λ e. cc)

low_digit : (c : ℕ) → kind c ≡ Digit → c < 128
low_digit c h = low c Digit h (λ e. cc)

low_under : (c : ℕ) → kind c ≡ Under → c < 128
low_under c h = low c Under h (λ e. cc)

low_dollar : (c : ℕ) → kind c ≡ Dollar → c < 128
low_dollar c h = low c Dollar h (λ e. cc)

-- ---- names
pub low_more : (c : ℕ) → IsMore c → c < 128
low_more c (more_letter h) = low_letter c h
low_more c (more_digit h) = low_digit c h
low_more c (more_under h) = low_under c h

pub low_first : (c : ℕ) → IsFirst c → c < 128
low_first c (first_letter h) = low_letter c h
low_first c (first_under h) = low_under c h
low_first c (first_dollar h) = low_dollar c h

-- a name in ASCII is its own bytes
pub own : (c : ℕ) (t : List ℕ) → c < 128 → encode_utf8 c ++ t ≡ c ∷ t
own c t h = ap (λ l. l ++ t) (encode_ascii c h)

head_of : (P : ℕ → Type 0) (c : ℕ) (t : List ℕ) → All P (c ∷ t) → P c
head_of P c t h = h 0 c (omega arith)

tail_of : (P : ℕ → Type 0) (c : ℕ) (t : List ℕ) → All P (c ∷ t) → All P t
tail_of P c t h = λ k d l. h (suc k) d (omega arith)

tail : (t r : List ℕ) → All IsMore t → Tail (t ++ r) t r
tail [] r h = no_more
tail (c ∷ t) r h =
    let P : List ℕ → Type 0 = λ l. Tail (c ∷ (t ++ r)) l r in
    let first : IsMore c = head_of IsMore c t h in
    subst P (own c t (low_more c first)) (more first (tail t r (tail_of IsMore c t h)))

pub low_member : (c : ℕ) → IsMemberMore c → c < 128
low_member c (inl f) = low_first c f
low_member c (inr d) = low_digit c d

member_more : (c : ℕ) (t s r : List ℕ) → IsMemberMore c → MemberTail s t r → MemberTail (c ∷ s) (encode_utf8 c ++ t) r
member_more c t s r (inl f) m = more_member f m
member_more c t s r (inr d) m = more_digit_member d m

member_tail : (t r : List ℕ) → All IsMemberMore t → MemberTail (t ++ r) t r
member_tail [] r h = no_more_member
member_tail (c ∷ t) r h =
    let P : List ℕ → Type 0 = λ l. MemberTail (c ∷ (t ++ r)) l r in
    let first : IsMemberMore c = head_of IsMemberMore c t h in
    subst P (own c t (low_member c first)) (member_more c t (t ++ r) r first (member_tail t r (tail_of IsMemberMore c t h)))

ascii : (P : ℕ → Type 0) → ((c : ℕ) → P c → c < 128) → (t : List ℕ) → All P t → IsAscii t
ascii P below [] h = IsAscii-nil
ascii P below (c ∷ t) h = IsAscii-cons c t (below c (head_of P c t h)) (ascii P below t (tail_of P c t h))

-- a function's name before its `(`
abbrev Called : ℕ → List ℕ → List ℕ → List ℕ → Type 0
Called n f s m = (m' : List ℕ) (es : ExprTrees) (r : List ℕ) → Opens m m' → n < 64 → Args (suc n) m' es r → Primary n s (call f es) r

function_name : (n : ℕ) (f : List ℕ) → IsFunctionName f → Stands (Called n f) f
function_name n [] h = absurd h
function_name n (c ∷ t) h = from_ascii (c ∷ t) (IsAscii-cons c t (low_letter c h.0) (ascii IsMore low_more t h.1)) (λ m m' es r o l a.
    let P : List ℕ → Type 0 = λ f. Primary n (c ∷ (t ++ m)) (call f es) r in
    subst P (own c t (low_letter c h.0)) (calls h.0 (tail t m h.1) o l a))

ascii_member : (x : List ℕ) → IsMemberName x → IsAscii x
ascii_member [] h = absurd h
ascii_member (c ∷ t) h = IsAscii-cons c t (low_first c h.0) (ascii IsMemberMore low_member t h.1)

named : (x r : List ℕ) → IsMemberName x → MemberName (x ++ r) x r
named [] r h = absurd h
named (c ∷ t) r h = let P : List ℕ → Type 0 = λ l. MemberName (c ∷ (t ++ r)) l r in subst P (own c t (low_first c h.0)) (member_name h.0 (member_tail t r h.1))

-- ---- literals
-- digits, and then further ones
digits_then : {v : ℕ} {s : List ℕ} {z : ℕ} {m : List ℕ} {y : ℕ} {r : List ℕ} → Digits v s z m → Digits z m y r → Digits v s y r
digits_then no_digit ds = ds
digits_then (digit h others) ds = digit h (digits_then others ds)

record Numeral (n : ℕ) (ds : List ℕ) : Type 0 where
  first : ℕ
  others : List ℕ
  is : ds ≡ first ∷ others
  leads : kind first ≡ Digit
  reads : (r : List ℕ) → Digits (first - 48) (others ++ r) n r

one_digit : (n : ℕ) → n < 10 → Numeral n ((48 + n) ∷ [])
one_digit n h = record {
  first = 48 + n;
  others = [];
  is = refl;
  leads = digit_of n h;
  reads = λ r. let P : ℕ → Type 0 = λ v. Digits ((48 + n) - 48) r v r in let e : (48 + n) - 48 ≡ n = omega arith in subst P e no_digit;
}

last_digit : (n : ℕ) (r : List ℕ) → Digits (n / 10) ((48 + n % 10) ∷ r) n r
last_digit n r =
    let P : ℕ → Type 0 = λ v. Digits (10 * (n / 10) + ((48 + n % 10) - 48)) r v r in
    let e : 10 * (n / 10) + ((48 + n % 10) - 48) ≡ n = omega arith in
    digit (digit_of (n % 10) (omega arith)) (subst P e no_digit)

more_digits : (n : ℕ) (ds : List ℕ) → 10 ≤ n → Numeral (n / 10) ds → Numeral n (ds ++ ((48 + n % 10) ∷ []))
more_digits n ds h d = record {
  first = d.first;
  others = d.others ++ (48 + n % 10) ∷ [];
  is = ap (λ l. l ++ (48 + n % 10) ∷ []) d.is;
  leads = d.leads;
  reads = λ r.
      let P : List ℕ → Type 0 = λ l. Digits (d.first - 48) l n r in
      subst P (sym (append_assoc d.others ((48 + n % 10) ∷ []) r)) (digits_then (d.reads ((48 + n % 10) ∷ r)) (last_digit n r));
}

numeral : (n : ℕ) → n < 2 ^ 64 → Numeral n (decimal n)
numeral = decimal_by_steps Numeral one_digit more_digits

whole_number : (n k : ℕ) (r : List ℕ) → k < 2 ^ 63 → Primary n (decimal k ++ r) (number_literal (pos k)) r
whole_number n k r h =
    let d = numeral k (omega arith) in
    let P : List ℕ → Type 0 = λ l. Primary n (l ++ r) (number_literal (pos k)) r in
    subst P (sym d.is) (int d.leads (d.reads r) h)

negative_number : (n k : ℕ) (r : List ℕ) → k < 2 ^ 63 → Primary n (45 ∷ (decimal (suc k) ++ r)) (number_literal (negsuc k)) r
unfolding kind
negative_number n k r h =
    let d = numeral (suc k) (omega arith) in
    let P : List ℕ → Type 0 = λ l. Primary n (45 ∷ (l ++ r)) (number_literal (negsuc k)) r in
    subst P (sym d.is) (minus_int refl d.leads (d.reads r) (omega arith))

number_stands : (n : ℕ) (z : ℤ) → FitsSigned w64 z → Stands (λ s r. Primary n s (number_literal z) r) (signed_decimal z)
number_stands n (pos k) f = from_ascii (decimal k) (IsAscii-signed (pos k) f.sfits) (λ r. whole_number n k r f.sfits)
number_stands n (negsuc k) f = from_ascii (45 ∷ decimal (suc k)) (IsAscii-signed (negsuc k) f.sfits) (λ r. negative_number n k r f.sfits)

-- no other character is a quote
skip : (b : Bool) (v x : Kind) → (v ≡ Quote → ⊥) → (if b then v else x) ≡ Quote → x ≡ Quote
skip true v x differs h = absurd (differs h)
skip false v x differs h = h

beyond : (b : Bool) (x : Kind) → b ≡ false → (if b then Quote else x) ≡ Quote → x ≡ Quote
beyond b x e h = sym (passed b Quote x e) ∙ h

no_other : Other ≡ Quote → ⊥
no_other h = cc

no_quote : (c : ℕ) → nat_eq c 39 ≡ false → kind c ≡ Quote → ⊥
unfolding kind
no_quote c e h =
    no_other (skip _ Unbrace _ (λ e. cc) (skip _ Brace _ (λ e. cc) (skip _ At _ (λ e. cc) (skip _ Minus _ (λ e. cc) (skip _ Dollar _ (λ e. cc) (skip _ Under _ (λ e. cc) (skip _ Soft _ (λ e. cc) (skip _ Dot _ (λ e. cc) (skip _ Comma _ (λ e. cc) (skip _ Unbracket _ (λ e. cc) (skip _ Bracket _ (λ e. cc) (skip _ Close _ (λ e. cc) (skip _ Open _ (λ e. cc) (beyond (nat_eq c 39) _ e (skip _ Letter _ (λ e. cc) (skip _ Digit _ (λ e. cc) (skip (is_blank c) Blank _ (λ e. cc) h)))))))))))))))))

-- what stands in quotes, and the last quote
quoted_rest : (cs r : List ℕ) → Quoted (flat_map quoted_byte cs ++ 39 ∷ r) (encode_utf8_all cs) r
unfolding kind
quoted_rest [] r = closed refl
quoted_rest (c ∷ cs) r = go (nat_eq c 39) refl (quoted_rest cs r)
  where
    go : (b : Bool) → nat_eq c 39 ≡ b → Quoted (flat_map quoted_byte cs ++ 39 ∷ r) (encode_utf8_all cs) r → Quoted (((if b then 39 ∷ 39 ∷ [] else c ∷ []) ++ flat_map quoted_byte cs) ++ 39 ∷ r) (encode_utf8 c ++ encode_utf8_all cs) r
    go true e q = let P : ℕ → Type 0 = λ d. Quoted (39 ∷ 39 ∷ (flat_map quoted_byte cs ++ 39 ∷ r)) (encode_utf8 d ++ encode_utf8_all cs) r in subst P (sym (is_quote c e)) (twice refl refl q)
    go false e q = itself (no_quote c e) q

-- one character of ASCII
one : (c : ℕ) → c < 128 → Stands (λ s r. s ≡ c ∷ r) (c ∷ [])
one c h = from_ascii (c ∷ []) (IsAscii-cons c [] h IsAscii-nil) (λ r. refl)

in_quotes : (s : List ℕ) → IsUtf8 s → Stands (λ m r. Quoted m s r) (flat_map quoted_byte s ++ 39 ∷ [])
in_quotes s u =
    let inner : Stands (λ m r. m ≡ flat_map quoted_byte (chars s) ++ r) (flat_map quoted_byte s) = record { utf8 = IsUtf8-quoted s u; reads = λ r. ap (λ l. l ++ r) (chars-quoted s u) } in
    joins (flat_map quoted_byte s) (39 ∷ []) inner (one 39 (lit< tt)) (λ a m r p q.
    let P : List ℕ → Type 0 = λ l. Quoted l s r in
    let Q : List ℕ → Type 0 = λ l. Quoted (flat_map quoted_byte (chars s) ++ 39 ∷ r) l r in
    subst P (sym (p ∙ ap (λ l. flat_map quoted_byte (chars s) ++ l) q)) (subst Q (encodes-chars s u) (quoted_rest (chars s) r)))

text_stands : (n : ℕ) (s : List ℕ) → IsUtf8 s → Stands (λ m r. Primary n m (text_literal s) r) (39 ∷ flat_map quoted_byte s ++ 39 ∷ [])
unfolding kind
text_stands n s u =
    joins (39 ∷ []) (flat_map quoted_byte s ++ 39 ∷ []) (one 39 (lit< tt)) (in_quotes s u) (λ a m r p q.
    let P : List ℕ → Type 0 = λ l. Primary n l (text_literal s) r in
    subst P (sym p) (quoted refl q))

null_stands : (n : ℕ) → Stands (λ s r. Primary n s null_literal r) null_text
unfolding kind encode_utf8
null_stands n = from_ascii null_text (ascii (λ c. c < 128) (λ c h. h) null_text (search rules)) (λ r.
    word refl (more (more_letter refl) (more (more_letter refl) (more (more_letter refl) no_more))) (is_null refl))

true_stands : (n : ℕ) → Stands (λ s r. Primary n s (boolean_literal true) r) true_text
unfolding kind encode_utf8
true_stands n = from_ascii true_text (ascii (λ c. c < 128) (λ c h. h) true_text (search rules)) (λ r.
    word refl (more (more_letter refl) (more (more_letter refl) (more (more_letter refl) no_more))) (is_true refl))

false_stands : (n : ℕ) → Stands (λ s r. Primary n s (boolean_literal false) r) false_text
unfolding kind encode_utf8
false_stands n = from_ascii false_text (ascii (λ c. c < 128) (λ c h. h) false_text (search rules)) (λ r.
    word refl (more (more_letter refl) (more (more_letter refl) (more (more_letter refl) (more (more_letter refl) no_more)))) (is_false refl))

value_stands : (n : ℕ) (v : ValueTree) → IsPrintableValue v → IsWellFormed v → Stands (λ s r. Primary n s (literal v) r) (printed_value v)
value_stands n null p f = null_stands n
value_stands n (boolean true) p f = true_stands n
value_stands n (boolean false) p f = false_stands n
value_stands n (number z) p f = number_stands n z f
value_stands n (text s) p f = text_stands n s f
value_stands n (list ts) p f = absurd p
value_stands n (object ms) p f = absurd p

-- ---- accesses
accesses_then : {n : ℕ} {s : List ℕ} {b x : ExprTree} {m : List ℕ} {e : ExprTree} {r : List ℕ} → Accesses n s b x m → Accesses n m x e r → Accesses n s b e r
accesses_then no_access others = others
accesses_then (blank_access h first) others = blank_access h (accesses_then first others)
accesses_then (access a first) others = access a (accesses_then first others)
accesses_then (soft_access h a first) others = soft_access h a (accesses_then first others)

-- an expression may be the base of further accesses
goes_on : {n : ℕ} {s : List ℕ} {b : ExprTree} {m : List ℕ} {e : ExprTree} {r : List ℕ} → Expr n s b m → Accesses n m b e r → Expr n s e r
goes_on (blank h x) a = blank h (goes_on x a)
goes_on (begins p first) a = begins p (accesses_then first a)

member_access : (n : ℕ) (b : ExprTree) (x r : List ℕ) (soft : Bool) → IsMemberName x → Accesses n ((dot soft ++ x) ++ r) b (member b x soft) r
unfolding kind
member_access n b x r true h = soft_access refl (name_access refl (named x r h)) no_access
member_access n b x r false h = access (name_access refl (named x r h)) no_access

ascii_dot : (soft : Bool) → IsAscii (dot soft)
ascii_dot true = ascii (λ c. c < 128) (λ c h. h) (63 ∷ 46 ∷ []) (search rules)
ascii_dot false = ascii (λ c. c < 128) (λ c h. h) (46 ∷ []) (search rules)

ascii_bracket : (soft : Bool) → IsAscii (bracket soft)
ascii_bracket true = ascii (λ c. c < 128) (λ c h. h) (63 ∷ 91 ∷ []) (search rules)
ascii_bracket false = ascii (λ c. c < 128) (λ c h. h) (91 ∷ []) (search rules)

member_stands : (n : ℕ) (b : ExprTree) (x : List ℕ) (soft : Bool) → IsMemberName x → Stands (λ s r. Accesses n s b (member b x soft) r) (dot soft ++ x)
member_stands n b x soft h = from_ascii (dot soft ++ x) (IsAscii-append (dot soft) x (ascii_dot soft) (ascii_member x h)) (λ r. member_access n b x r soft h)

key_behind : (n : ℕ) (b k : ExprTree) (s r : List ℕ) (soft : Bool) → n < 64 → Expr (suc n) s k (93 ∷ r) → Accesses n (bracket soft ++ s) b (index b k soft) r
unfolding kind
key_behind n b k s r true l x = soft_access refl (key_access refl l x refl) no_access
key_behind n b k s r false l x = access (key_access refl l x refl) no_access

key_stands : (n : ℕ) (b k : ExprTree) (soft : Bool) → n < 64 → Stands (λ s r. Expr (suc n) s k r) (printed k) → Stands (λ s r. Accesses n s b (index b k soft) r) (bracket soft ++ (printed k ++ 93 ∷ []))
key_stands n b k soft l x =
    let closed_key : Stands (λ s r. Expr (suc n) s k (93 ∷ r)) (printed k ++ 93 ∷ []) =
    joins (printed k) (93 ∷ []) x (one 93 (lit< tt)) (λ s m r a q. let P : List ℕ → Type 0 = λ l. Expr (suc n) s k l in subst P q a) in
    let opened : Stands (λ s r. s ≡ bracket soft ++ r) (bracket soft) = from_ascii (bracket soft) (ascii_bracket soft) (λ r. refl) in
    joins (bracket soft) (printed k ++ 93 ∷ []) opened closed_key (λ s m r q a.
    let P : List ℕ → Type 0 = λ l. Accesses n l b (index b k soft) r in
    subst P (sym q) (key_behind n b k m r soft l a))

-- ---- expressions
mutual
  unfolding kind

  pub expr_stands : (n : ℕ) (e : ExprTree) → IsPrintable n e → HasWellFormedLiterals e → Stands (λ s r. Expr n s e r) (printed e)
  expr_stands n (literal v) p f = let a = value_stands n v p f in record { utf8 = a.utf8; reads = λ r. begins (a.reads r) no_access }
  expr_stands n (call f es) p w =
      let arguments : Stands (λ s r. (s' : List ℕ) × (s ≡ 40 ∷ s') × Args (suc n) s' es r) (40 ∷ printed_args es) =
      joins (40 ∷ []) (printed_args es) (one 40 (lit< tt)) (args_stand (suc n) es p.2 w) (λ s m r q a. (m, q, a)) in
      joins f (40 ∷ printed_args es) (function_name n f p.0) arguments (λ s m r c a.
      let P : List ℕ → Type 0 = λ l. Opens l a.0 in
      begins (c a.0 es r (subst P (sym a.1) (open_now refl)) p.1 a.2) no_access)
  expr_stands n (member b x soft) p f = joins (printed b) (dot soft ++ x) (expr_stands n b p.0 f) (member_stands n b x soft p.1) (λ s m r e a. goes_on e a)
  expr_stands n (index b k soft) p f =
      joins (printed b) (bracket soft ++ (printed k ++ 93 ∷ [])) (expr_stands n b p.0 f.0) (key_stands n b k soft p.1 (expr_stands (suc n) k p.2 f.1)) (λ s m r e a. goes_on e a)

  args_stand : (n : ℕ) (es : ExprTrees) → ArePrintable n es → HaveWellFormedLiterals es → Stands (λ s r. Args n s es r) (printed_args es)
  args_stand n no_exprs p f = from_ascii (41 ∷ []) (IsAscii-cons 41 [] (lit< tt) IsAscii-nil) (λ r. no_args refl)
  args_stand n (expr_then e es) p f = joins (printed e) (printed_more es) (expr_stands n e p.0 f.0) (more_stand n es p.1 f.1) (λ s m r x xs. args x xs)

  more_stand : (n : ℕ) (es : ExprTrees) → ArePrintable n es → HaveWellFormedLiterals es → Stands (λ s r. More n s es r) (printed_more es)
  more_stand n no_exprs p f = from_ascii (41 ∷ []) (IsAscii-cons 41 [] (lit< tt) IsAscii-nil) (λ r. close refl)
  more_stand n (expr_then e es) p f =
      joins (44 ∷ []) (printed e ++ printed_more es) (one 44 (lit< tt))
      (joins {T = λ s r. (m : List ℕ) × Expr n s e m × More n m es r} (printed e) (printed_more es) (expr_stands n e p.0 f.0) (more_stand n es p.1 f.1) (λ s m r x xs. (m, x, xs)))
      (λ s m r q a. let P : List ℕ → Type 0 = λ l. More n l (expr_then e es) r in subst P (sym q) (comma refl a.1 a.2))

-- the text of an expression, all of it
pub derived : (e : ExprTree) (t : List ℕ) → t ≡ printed e → HasWellFormedLiterals e → IsPrintable 0 e → Expr 0 (chars t) e []
derived e t is f p =
    let a = expr_stands 0 e p f in
    let P : List ℕ → Type 0 = λ l. Expr 0 l e [] in
    subst P (append-nil (chars (printed e)) ∙ ap chars (sym is)) (a.reads [])

-- and with `@` before it, as a text of a definition
pub derives : (e : ExprTree) (t : List ℕ) → Expr 0 (chars t) e [] → Derives (64 ∷ chars t) (whole e)
unfolding kind
derives e t x = record { reading = whole_of e; reads = expression refl x; gives = refl }

within : (n : ℕ) → n ≤ 8192 → over n None ≡ None
within n h = let e : nat_lt 8192 n ≡ false = grind arith in rw e refl

pub spells : (e : ExprTree) (t : List ℕ) → Expr 0 (chars t) e [] → length (chars t) ≤ 8192 → Spells (64 ∷ chars t) (whole e)
unfolding kind
spells e t x h = record { reading = whole_of e; reads = expression refl x; fits = within (suc (length (chars t)) - 1) (omega arith); gives = refl }
