-- What reading the next character does.
use Rattle.std.specs.Prelude.{ℕ, suc, if◌then◌else◌, ◌+◌, ◌*◌, ◌-◌, Bool, true, false, List, [], ◌∷◌, ◌++◌, Option, Some, None, Result, Ok, Err, nat_lt, ◌||◌}
use Rattle.std.specs.Char.{encode_utf8}
use Rattle.wf_expr.specs.declared.kind.Kind.{Kind}
use Rattle.wf_expr.specs.declared.kind.Kind.TheVariants.{Blank, Digit, Letter, Quote, Open, Close, Bracket, Unbracket, Comma, Dot, Soft, Under, Dollar, Minus, At, Brace, Unbrace}
use Rattle.wf_expr.specs.Kinds.{kind}
use Rattle.wf_expr.specs.WordTests.{word_of, word_front}
use Rattle.wf_template.specs.ExprTree.{ExprTree, call, member, index, no_exprs}
use Rattle.wf_expr.specs.Reading.{number_literal, text_literal, joined, Item, character, embedded, Reading, whole_of, items_of, signed, limit}

-- what is open: a call with the arguments so far, or a base whose key is read
pub data Stack : Type 0 where
  whole : Stack
  in_part : List Item → ℕ → Stack
  call_of : List ℕ → List ExprTree → Stack → Stack
  key_of : ExprTree → Bool → Stack → Stack

-- how many brackets are open
abbrev pub depth : Stack → ℕ
depth whole = 0
depth (in_part items p) = 0
depth (call_of f front k) = suc (depth k)
depth (key_of b soft k) = suc (depth k)

pub data Mode : Type 0 where
  at_start : Mode
  at_sign : ℕ → Mode
  plain : List Item → Mode
  one_at : List Item → ℕ → Mode
  two_at : List Item → ℕ → ℕ → Mode
  at_first : Mode
  at_args : List ℕ → Mode
  at_minus : Mode
  in_int : Bool → ℕ → Mode
  in_quoted : List ℕ → Mode
  at_quote : List ℕ → Mode
  in_name : List ℕ → Mode
  at_named : List ℕ → Mode
  after : ExprTree → Mode
  at_soft : ExprTree → Mode
  at_dot : ExprTree → Bool → Mode
  in_member : ExprTree → Bool → List ℕ → Mode

abbrev pub State : Type 0
State = Mode × Stack

abbrev pub allowed : Bool → State → Option State
allowed true s = Some s
allowed false s = None

-- another bracket opens only below 64
abbrev pub opens : Stack → State → Option State
opens k s = allowed (nat_lt (depth k) 64) s

-- the innermost part that a bracket opened
pub data Opened : Type 0 where
  open_call : List ℕ → List ExprTree → Opened
  open_key : ExprTree → Bool → Opened

abbrev pub top : Stack → Option Opened
top whole = None
top (in_part items p) = None
top (call_of f front k) = Some (open_call f front)
top (key_of b soft k) = Some (open_key b soft)

-- what is open around it
abbrev pub below : Stack → Stack
below whole = whole
below (in_part items p) = in_part items p
below (call_of f front k) = k
below (key_of b soft k) = k

abbrev pub framed : Opened → Stack → Stack
framed (open_call f front) k = call_of f front k
framed (open_key b soft) k = key_of b soft k

-- the text before an expression and the place of its `{`, where no bracket of the expression is open
abbrev pub part_of : Stack → Option (List Item × ℕ)
part_of whole = None
part_of (in_part items p) = Some (items, p)
part_of (call_of f front k) = None
part_of (key_of b soft k) = None

abbrev pub is_whole : Stack → Bool
is_whole whole = true
is_whole (in_part items p) = false
is_whole (call_of f front k) = false
is_whole (key_of b soft k) = false

-- a `)` after the expression b
abbrev pub closed : ExprTree → Option Opened → Stack → Option State
closed b (Some (open_call f front)) k = Some (after (call f (joined (front ++ b ∷ []) no_exprs)), k)
closed b (Some (open_key x soft)) k = None
closed b None k = None

abbrev pub closes : ExprTree → Stack → Option State
closes b k = closed b (top k) (below k)

-- a `,` after it
abbrev pub separated : ExprTree → Option Opened → Stack → Option State
separated b (Some (open_call f front)) k = Some (at_first, call_of f (front ++ b ∷ []) k)
separated b (Some (open_key x soft)) k = None
separated b None k = None

abbrev pub separates : ExprTree → Stack → Option State
separates b k = separated b (top k) (below k)

-- a `]` after it
abbrev pub key_ended : ExprTree → Option Opened → Stack → Option State
key_ended b (Some (open_key x soft)) k = Some (after (index x b soft), k)
key_ended b (Some (open_call f front)) k = None
key_ended b None k = None

abbrev pub ends_key : ExprTree → Stack → Option State
ends_key b k = key_ended b (top k) (below k)

-- a `}` after it
abbrev pub part_ended : ExprTree → Option (List Item × ℕ) → ℕ → Option State
part_ended b (Some part) at = Some (plain (part.0 ++ embedded b (at - suc part.1) ∷ []), whole)
part_ended b None at = None

abbrev pub ends_part : ExprTree → Stack → ℕ → Option State
ends_part b k at = part_ended b (part_of k) at

-- after the expression b
abbrev pub follow : ExprTree → Stack → Kind → ℕ → Option State
follow b k Blank at = Some (after b, k)
follow b k Dot at = Some (at_dot b false, k)
follow b k Soft at = Some (at_soft b, k)
follow b k Bracket at = opens k (at_first, key_of b false k)
follow b k Comma at = separates b k
follow b k Close at = closes b k
follow b k Unbracket at = ends_key b k
follow b k Unbrace at = ends_part b k at
follow b k _ at = None

abbrev pub is_word : Option ExprTree → Bool
is_word None = false
is_word (Some v) = true

-- a name that can still be a call's, or a word
abbrev pub named : List ℕ → Stack → Option State
named t k = allowed (nat_lt (depth k) 64 || word_front t) (in_name t, k)

-- after a word
abbrev pub after_word : Option ExprTree → Stack → Kind → ℕ → Option State
after_word None k x at = None
after_word (Some v) k x at = follow v k x at

-- where an expression begins
abbrev pub begun : Stack → ℕ → Kind → Option State
begun k c Blank = Some (at_first, k)
begun k c Digit = Some (in_int false (c - 48), k)
begun k c Minus = Some (at_minus, k)
begun k c Quote = Some (in_quoted [], k)
begun k c Letter = named (encode_utf8 c) k
begun k c _ = None

-- where arguments may begin
abbrev pub args_step : List ℕ → Stack → ℕ → Kind → Option State
args_step f k c Blank = Some (at_args f, k)
args_step f k c Close = Some (after (call f no_exprs), k)
args_step f k c x = begun (call_of f [] k) c x

-- after the minus of a number
abbrev pub minus_step : Stack → ℕ → Kind → Option State
minus_step k c Digit = Some (in_int true (c - 48), k)
minus_step k c x = None

-- in a quoted text
abbrev pub quoted_step : List ℕ → Stack → ℕ → Kind → Option State
quoted_step t k c Quote = Some (at_quote t, k)
quoted_step t k c x = Some (in_quoted (t ++ encode_utf8 c), k)

-- after a `?`
abbrev pub soft_step : ExprTree → Stack → Kind → Option State
soft_step b k Dot = Some (at_dot b true, k)
soft_step b k Bracket = opens k (at_first, key_of b true k)
soft_step b k x = None

-- after a `.`
abbrev pub dot_step : ExprTree → Bool → Stack → ℕ → Kind → Option State
dot_step b soft k c Blank = Some (at_dot b soft, k)
dot_step b soft k c Letter = Some (in_member b soft (encode_utf8 c), k)
dot_step b soft k c Under = Some (in_member b soft (encode_utf8 c), k)
dot_step b soft k c Dollar = Some (in_member b soft (encode_utf8 c), k)
dot_step b soft k c x = None

-- outside every expression
abbrev pub plain_step : List Item → Stack → ℕ → Kind → Option State
plain_step items k c At = Some (one_at items c, k)
plain_step items k c x = Some (plain (items ++ character c ∷ []), k)

-- at the start of the text
abbrev pub start_step : Stack → ℕ → Kind → Option State
start_step k c At = Some (at_sign c, k)
start_step k c x = plain_step [] k c x

abbrev pub step_at : Mode → Stack → ℕ → Kind → ℕ → Option State
step_at at_start k c x at = start_step k c x
step_at (at_sign a) k c At at = Some (plain (character a ∷ []), k)
step_at (at_sign a) k c Brace at = Some (at_first, in_part [] at)
step_at (at_sign a) k c x at = begun whole c x
step_at (plain items) k c x at = plain_step items k c x
step_at (one_at items a) k c At at = Some (two_at items a c, k)
step_at (one_at items a) k c Brace at = Some (at_first, in_part items at)
step_at (one_at items a) k c x at = Some (plain (items ++ character a ∷ character c ∷ []), k)
step_at (two_at items a b) k c At at = Some (two_at (items ++ character a ∷ []) b c, k)
step_at (two_at items a b) k c Brace at = Some (plain (items ++ character b ∷ character c ∷ []), k)
step_at (two_at items a b) k c x at = Some (plain (items ++ character a ∷ character b ∷ character c ∷ []), k)
step_at at_first k c x at = begun k c x
step_at (at_args f) k c x at = args_step f k c x
step_at at_minus k c x at = minus_step k c x
step_at (in_int neg v) k c Digit at = let z = 10 * v + (c - 48) in allowed (nat_lt z (limit neg)) (in_int neg z, k)
step_at (in_int neg v) k c x at = follow (number_literal (signed neg v)) k x at
step_at (in_quoted t) k c x at = quoted_step t k c x
step_at (at_quote t) k c Quote at = Some (in_quoted (t ++ encode_utf8 c), k)
step_at (at_quote t) k c x at = follow (text_literal t) k x at
step_at (in_name t) k c Letter at = named (t ++ encode_utf8 c) k
step_at (in_name t) k c Digit at = named (t ++ encode_utf8 c) k
step_at (in_name t) k c Under at = named (t ++ encode_utf8 c) k
step_at (in_name t) k c Blank at = allowed (nat_lt (depth k) 64 || is_word (word_of t)) (at_named t, k)
step_at (in_name t) k c Open at = opens k (at_args t, k)
step_at (in_name t) k c x at = after_word (word_of t) k x at
step_at (at_named t) k c Blank at = Some (at_named t, k)
step_at (at_named t) k c Open at = opens k (at_args t, k)
step_at (at_named t) k c x at = after_word (word_of t) k x at
step_at (after b) k c x at = follow b k x at
step_at (at_soft b) k c x at = soft_step b k x
step_at (at_dot b soft) k c x at = dot_step b soft k c x
step_at (in_member b soft t) k c Letter at = Some (in_member b soft (t ++ encode_utf8 c), k)
step_at (in_member b soft t) k c Under at = Some (in_member b soft (t ++ encode_utf8 c), k)
step_at (in_member b soft t) k c Dollar at = Some (in_member b soft (t ++ encode_utf8 c), k)
step_at (in_member b soft t) k c Digit at = Some (in_member b soft (t ++ encode_utf8 c), k)
step_at (in_member b soft t) k c x at = follow (member b t soft) k x at

abbrev pub step : State → ℕ → ℕ → Option State
step s c at = step_at s.0 s.1 c (kind c) at

abbrev pub word_end : Option ExprTree → Option Reading
word_end None = None
word_end (Some v) = Some (whole_of v)

-- an expression may end the text where it is the whole of it
abbrev pub in_whole : Stack → Option Reading → Option Reading
in_whole k r = if is_whole k then r else None

-- what the text is read as, where it may end
abbrev pub finish_at : Mode → Stack → Option Reading
finish_at at_start k = Some (items_of [])
finish_at (at_sign a) k = None
finish_at (plain items) k = Some (items_of items)
finish_at (one_at items a) k = Some (items_of (items ++ character a ∷ []))
finish_at (two_at items a b) k = Some (items_of (items ++ character a ∷ character b ∷ []))
finish_at at_first k = None
finish_at (at_args f) k = None
finish_at at_minus k = None
finish_at (in_int neg v) k = in_whole k (Some (whole_of (number_literal (signed neg v))))
finish_at (in_quoted t) k = None
finish_at (at_quote t) k = in_whole k (Some (whole_of (text_literal t)))
finish_at (in_name t) k = in_whole k (word_end (word_of t))
finish_at (at_named t) k = in_whole k (word_end (word_of t))
finish_at (after b) k = in_whole k (Some (whole_of b))
finish_at (at_soft b) k = None
finish_at (at_dot b soft) k = None
finish_at (in_member b soft t) k = in_whole k (Some (whole_of (member b t soft)))

abbrev pub finish : State → Option Reading
finish st = finish_at st.0 st.1

abbrev pub went : Option State → ℕ → (State → Result Reading ℕ) → Result Reading ℕ
went None at f = Err at
went (Some st) at f = f st

abbrev pub ended : Option Reading → ℕ → Result Reading ℕ
ended None at = Err at
ended (Some w) at = Ok w

-- what the characters are read as, or how many were taken before one was refused, all where the text can't end so
abbrev pub scan : State → ℕ → List ℕ → Result Reading ℕ
scan st at [] = ended (finish st) at
scan st at (c ∷ s) = went (step st c at) at (λ next. scan next (at + 1) s)

abbrev pub start : State
start = (at_start, whole)
