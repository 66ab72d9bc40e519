-- What holds of a state that is reached holds of the next one.
use Rattle.std.proofs.Common.{◌≡◌, ℕ, ◌+◌, ◌*◌, ◌-◌, ◌<◌, Bool, true, false, [], ◌++◌, Option, Some, None, nat_lt, nat_le, ◌&&◌, ◌||◌, if◌then◌else◌, refl, arith}
use Rattle.std.specs.Char.{encode_utf8}
use Rattle.wf_expr.specs.declared.kind.Kind.{Kind}
use Rattle.wf_expr.specs.declared.kind.Kind.TheVariants.{Blank, Digit, Letter, Quote, Open, Close, Bracket, Unbracket, Comma, Dot, Soft, Under, Dollar, Minus, At, Brace, Unbrace, Other}
use Rattle.wf_expr.specs.Kinds.{kind, is_digit, is_blank}
use Rattle.wf_template.specs.ExprTree.{ExprTree, member}
use Rattle.wf_expr.specs.Reading.{number_literal, text_literal, signed, limit}
use Rattle.wf_expr.specs.WordTests.{word_of, word_front}
use Rattle.wf_expr.specs.Machine.{Stack, whole, in_part, depth, call_of, key_of, Mode, at_start, at_sign, plain, one_at, two_at, at_first, at_args, at_minus, in_int, in_quoted, at_quote, in_name, at_named, after, at_soft, at_dot, in_member, State, allowed, closes, separates, ends_key, ends_part, is_word, after_word, follow, begun, step_at}
use Rattle.wf_expr.proofs.Forward.{Good}
use Rattle.wf_expr.proofs.Backward.{GoodIf}

pub good_allowed : (b : Bool) (st : State) → (b ≡ true → Good st.0 st.1) → GoodIf (allowed b st)
good_allowed true st f = f refl
good_allowed false st f = tt

pub good_closes : (b : ExprTree) (k : Stack) → GoodIf (closes b k)
good_closes b whole = tt
good_closes b (in_part items p) = tt
good_closes b (call_of f front k) = tt
good_closes b (key_of x soft k) = tt

pub good_separates : (b : ExprTree) (k : Stack) → GoodIf (separates b k)
good_separates b whole = tt
good_separates b (in_part items p) = tt
good_separates b (call_of f front k) = tt
good_separates b (key_of x soft k) = tt

pub good_ends_key : (b : ExprTree) (k : Stack) → GoodIf (ends_key b k)
good_ends_key b whole = tt
good_ends_key b (in_part items p) = tt
good_ends_key b (call_of f front k) = tt
good_ends_key b (key_of x soft k) = tt

pub good_ends_part : (at : ℕ) (b : ExprTree) (k : Stack) → GoodIf (ends_part b k at)
good_ends_part at b whole = tt
good_ends_part at b (in_part items p) = tt
good_ends_part at b (call_of f front k) = tt
good_ends_part at b (key_of x soft k) = tt

pub good_follow : (at : ℕ) (b : ExprTree) (k : Stack) (x : Kind) → GoodIf (follow b k x at)
good_follow at b k Bracket = good_allowed (nat_lt (depth k) 64) _ (λ e. tt)
good_follow at b k Comma = good_separates b k
good_follow at b k Close = good_closes b k
good_follow at b k Unbracket = good_ends_key b k
good_follow at b k Unbrace = good_ends_part at b k
good_follow at b k x = tt

pub skip : (b : Bool) (v x : Kind) → (v ≡ Digit → ⊥) → (if b then v else x) ≡ Digit → x ≡ Digit
skip true v x differs h = absurd (differs h)
skip false v x differs h = h

pub chosen : (b : Bool) (x : Kind) → (x ≡ Digit → ⊥) → (if b then Digit else x) ≡ Digit → b ≡ true
chosen true x differs h = refl
chosen false x differs h = absurd (differs h)

pub not_digit : Other ≡ Digit → ⊥
not_digit h = cc

pub digit_is : (c : ℕ) → kind c ≡ Digit → is_digit c ≡ true
unfolding kind
digit_is c h = chosen (is_digit c) _ (λ h. not_digit (skip _ Unbrace _ (λ e. cc) (skip _ Brace _ (λ e. cc) (skip _ At _ (λ e. cc) (skip _ Minus _ (λ e. cc) (skip _ Dollar _ (λ e. cc) (skip _ Under _ (λ e. cc) (skip _ Soft _ (λ e. cc) (skip _ Dot _ (λ e. cc) (skip _ Comma _ (λ e. cc) (skip _ Unbracket _ (λ e. cc) (skip _ Bracket _ (λ e. cc) (skip _ Close _ (λ e. cc) (skip _ Open _ (λ e. cc) (skip _ Quote _ (λ e. cc) (skip _ Letter _ (λ e. cc) h)))))))))))))))) (skip (is_blank c) Blank _ (λ e. cc) h)

pub digit_limit : (c : ℕ) (neg : Bool) → c - 48 < 10 → c - 48 < limit neg
digit_limit c false h = omega arith
digit_limit c true h = omega arith

pub digit_small : (c : ℕ) → kind c ≡ Digit → (neg : Bool) → c - 48 < limit neg
digit_small c h neg = digit_limit c neg (let e : (nat_le 48 c && nat_le c 57) ≡ true = digit_is c h in grind arith)

pub good_after_word : (at : ℕ) (o : Option ExprTree) (k : Stack) (x : Kind) → GoodIf (after_word o k x at)
good_after_word at None k x = tt
good_after_word at (Some v) k x = good_follow at v k x

pub good_begun : (k : Stack) (c : ℕ) (x : Kind) → kind c ≡ x → GoodIf (begun k c x)
good_begun k c Digit h = digit_small c h false
good_begun k c Letter h = good_allowed (nat_lt (depth k) 64 || word_front (encode_utf8 c)) (in_name (encode_utf8 c), k) (λ e. e)
good_begun k c x h = tt

pub is_below : (a n : ℕ) → nat_lt a n ≡ true → a < n
is_below a n e = grind arith

pub keeps : (at : ℕ) (m : Mode) (k : Stack) (c : ℕ) (x : Kind) → Good m k → kind c ≡ x → GoodIf (step_at m k c x at)
keeps at at_start k c At g h = h
keeps at at_start k c x g h = tt
keeps at (at_sign a) k c At g h = tt
keeps at (at_sign a) k c Brace g h = tt
keeps at (at_sign a) k c x g h = good_begun whole c x h
keeps at (plain front) k c At g h = h
keeps at (plain front) k c x g h = tt
keeps at (one_at front a) k c At g h = (g, h)
keeps at (one_at front a) k c Brace g h = tt
keeps at (one_at front a) k c x g h = tt
keeps at (two_at front a b) k c At g h = (g.1, h)
keeps at (two_at front a b) k c Brace g h = tt
keeps at (two_at front a b) k c x g h = tt
keeps at at_first k c x g h = good_begun k c x h
keeps at (at_args f) k c Blank g h = tt
keeps at (at_args f) k c Close g h = tt
keeps at (at_args f) k c x g h = good_begun (call_of f [] k) c x h
keeps at at_minus k c Digit g h = digit_small c h true
keeps at at_minus k c x g h = tt
keeps at (in_int neg v) k c Digit g h = good_allowed (nat_lt (10 * v + (c - 48)) (limit neg)) (in_int neg (10 * v + (c - 48)), k) (λ e. is_below _ _ e)
keeps at (in_int neg v) k c x g h = good_follow at (number_literal (signed neg v)) k x
keeps at (in_quoted t) k c Quote g h = tt
keeps at (in_quoted t) k c x g h = tt
keeps at (at_quote t) k c Quote g h = tt
keeps at (at_quote t) k c x g h = good_follow at (text_literal t) k x
keeps at (in_name t) k c Letter g h = good_allowed (nat_lt (depth k) 64 || word_front (t ++ encode_utf8 c)) (in_name (t ++ encode_utf8 c), k) (λ e. e)
keeps at (in_name t) k c Digit g h = good_allowed (nat_lt (depth k) 64 || word_front (t ++ encode_utf8 c)) (in_name (t ++ encode_utf8 c), k) (λ e. e)
keeps at (in_name t) k c Under g h = good_allowed (nat_lt (depth k) 64 || word_front (t ++ encode_utf8 c)) (in_name (t ++ encode_utf8 c), k) (λ e. e)
keeps at (in_name t) k c Blank g h = good_allowed (nat_lt (depth k) 64 || is_word (word_of t)) (at_named t, k) (λ e. e)
keeps at (in_name t) k c Open g h = good_allowed (nat_lt (depth k) 64) (at_args t, k) (λ e. tt)
keeps at (in_name t) k c x g h = good_after_word at (word_of t) k x
keeps at (at_named t) k c Blank g h = g
keeps at (at_named t) k c Open g h = good_allowed (nat_lt (depth k) 64) (at_args t, k) (λ e. tt)
keeps at (at_named t) k c x g h = good_after_word at (word_of t) k x
keeps at (after b) k c x g h = good_follow at b k x
keeps at (at_soft b) k c Dot g h = tt
keeps at (at_soft b) k c Bracket g h = good_allowed (nat_lt (depth k) 64) (at_first, key_of b true k) (λ e. tt)
keeps at (at_soft b) k c x g h = tt
keeps at (at_dot b soft) k c Letter g h = tt
keeps at (at_dot b soft) k c Blank g h = tt
keeps at (at_dot b soft) k c Under g h = tt
keeps at (at_dot b soft) k c Dollar g h = tt
keeps at (at_dot b soft) k c x g h = tt
keeps at (in_member b soft t) k c Letter g h = tt
keeps at (in_member b soft t) k c Under g h = tt
keeps at (in_member b soft t) k c Dollar g h = tt
keeps at (in_member b soft t) k c Digit g h = tt
keeps at (in_member b soft t) k c x g h = good_follow at (member b t soft) k x
