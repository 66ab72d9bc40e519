-- The grammar of templates (Workflow Definition Language, "Expressions" and "Functions"), on characters: each relation
-- says of a text s that something stands at its front, and that r comes after it. Nothing in it takes as much as it
-- can: a relation may stop early, and then what comes after has to go on.
use Rattle.std.specs.Prelude.{◌≡◌, ℕ, suc, ◌+◌, ◌*◌, ◌-◌, ◌<◌, Bool, true, false, List, [], ◌∷◌, ◌++◌, length}
use Rattle.std.specs.Char.{encode_utf8}
use Rattle.wf_expr.specs.Kinds.{kind}
use Rattle.wf_expr.specs.declared.kind.Kind.TheVariants.{Blank, Digit, Letter, Quote, Open, Close, Bracket, Unbracket, Comma, Dot, Soft, Under, Dollar, Minus, At, Brace, Unbrace}
use Rattle.wf_expr.specs.Words.{Word}
use Rattle.wf_template.specs.ExprTree.{ExprTree, call, member, index, ExprTrees, no_exprs, expr_then}
use Rattle.wf_expr.specs.Reading.{number_literal, text_literal, Item, character, embedded, Reading, whole_of, items_of, signed, limit}

-- Digits go on from the number so far to the whole number.
pub data Digits : ℕ → List ℕ → ℕ → List ℕ → Type 0 where
  no_digit : {v : ℕ} {s : List ℕ} → Digits v s v s
  digit : {v c : ℕ} {s : List ℕ} {z : ℕ} {r : List ℕ} → kind c ≡ Digit → Digits (10 * v + (c - 48)) s z r → Digits v (c ∷ s) z r

-- The rest of a quoted text: a quote closes it, two quotes stand for one, and every other character for itself.
pub data Quoted : List ℕ → List ℕ → List ℕ → Type 0 where
  closed : {c : ℕ} {s : List ℕ} → kind c ≡ Quote → Quoted (c ∷ s) [] s
  twice : {c d : ℕ} {s t r : List ℕ} → kind c ≡ Quote → kind d ≡ Quote → Quoted s t r → Quoted (c ∷ d ∷ s) (encode_utf8 d ++ t) r
  itself : {c : ℕ} {s t r : List ℕ} → (kind c ≡ Quote → ⊥) → Quoted s t r → Quoted (c ∷ s) (encode_utf8 c ++ t) r

-- The name of a function goes on with letters, digits and `_`.
pub data IsMore : ℕ → Type 0 where
  more_letter : {c : ℕ} → kind c ≡ Letter → IsMore c
  more_digit : {c : ℕ} → kind c ≡ Digit → IsMore c
  more_under : {c : ℕ} → kind c ≡ Under → IsMore c

-- What follows the first letter of a function's name, or of a word.
pub data Tail : List ℕ → List ℕ → List ℕ → Type 0 where
  no_more : {s : List ℕ} → Tail s [] s
  more : {c : ℕ} {s t r : List ℕ} → IsMore c → Tail s t r → Tail (c ∷ s) (encode_utf8 c ++ t) r

-- The name of a member begins with a letter, `_` or `$`, and goes on with these and digits.
pub data IsFirst : ℕ → Type 0 where
  first_letter : {c : ℕ} → kind c ≡ Letter → IsFirst c
  first_under : {c : ℕ} → kind c ≡ Under → IsFirst c
  first_dollar : {c : ℕ} → kind c ≡ Dollar → IsFirst c

pub data MemberTail : List ℕ → List ℕ → List ℕ → Type 0 where
  no_more_member : {s : List ℕ} → MemberTail s [] s
  more_digit_member : {c : ℕ} {s t r : List ℕ} → kind c ≡ Digit → MemberTail s t r → MemberTail (c ∷ s) (encode_utf8 c ++ t) r
  more_member : {c : ℕ} {s t r : List ℕ} → IsFirst c → MemberTail s t r → MemberTail (c ∷ s) (encode_utf8 c ++ t) r

-- White space, and then the name of a member.
pub data MemberName : List ℕ → List ℕ → List ℕ → Type 0 where
  blank_member : {c : ℕ} {s t r : List ℕ} → kind c ≡ Blank → MemberName s t r → MemberName (c ∷ s) t r
  member_name : {c : ℕ} {s t r : List ℕ} → IsFirst c → MemberTail s t r → MemberName (c ∷ s) (encode_utf8 c ++ t) r

-- White space, and then the `(` of a call.
pub data Opens : List ℕ → List ℕ → Type 0 where
  blank_open : {c : ℕ} {s m : List ℕ} → kind c ≡ Blank → Opens s m → Opens (c ∷ s) m
  open_now : {c : ℕ} {s : List ℕ} → kind c ≡ Open → Opens (c ∷ s) s

-- In all that follows, n counts the `(` and `[` that are open: another one opens only below 64.
mutual
  -- An expression: white space, a primary, and accesses to what it gives.
  pub data Expr : ℕ → List ℕ → ExprTree → List ℕ → Type 0 where
    blank : {n c : ℕ} {s : List ℕ} {e : ExprTree} {r : List ℕ} → kind c ≡ Blank → Expr n s e r → Expr n (c ∷ s) e r
    begins : {n : ℕ} {s m : List ℕ} {b e : ExprTree} {r : List ℕ} → Primary n s b m → Accesses n m b e r → Expr n s e r

  pub data Primary : ℕ → List ℕ → ExprTree → List ℕ → Type 0 where
    -- a whole number of 64 bits with a sign
    int : {n c : ℕ} {s : List ℕ} {z : ℕ} {r : List ℕ} → kind c ≡ Digit → Digits (c - 48) s z r → z < limit false → Primary n (c ∷ s) (number_literal (signed false z)) r
    minus_int : {n d c : ℕ} {s : List ℕ} {z : ℕ} {r : List ℕ} → kind d ≡ Minus → kind c ≡ Digit → Digits (c - 48) s z r → z < limit true → Primary n (d ∷ c ∷ s) (number_literal (signed true z)) r
    -- a text in quotes
    quoted : {n c : ℕ} {s t r : List ℕ} → kind c ≡ Quote → Quoted s t r → Primary n (c ∷ s) (text_literal t) r
    -- true, false or null
    word : {n c : ℕ} {s t r : List ℕ} {v : ExprTree} → kind c ≡ Letter → Tail s t r → Word (encode_utf8 c ++ t) v → Primary n (c ∷ s) v r
    -- a function's name with its arguments
    calls : {n c : ℕ} {s t m m' : List ℕ} {es : ExprTrees} {r : List ℕ} → kind c ≡ Letter → Tail s t m → Opens m m' → n < 64 → Args (suc n) m' es r → Primary n (c ∷ s) (call (encode_utf8 c ++ t) es) r

  -- Arguments, and the `)` that closes them: white space alone for none.
  pub data Args : ℕ → List ℕ → ExprTrees → List ℕ → Type 0 where
    blank_args : {n c : ℕ} {s r : List ℕ} → kind c ≡ Blank → Args n s no_exprs r → Args n (c ∷ s) no_exprs r
    no_args : {n c : ℕ} {s : List ℕ} → kind c ≡ Close → Args n (c ∷ s) no_exprs s
    args : {n : ℕ} {s m : List ℕ} {e : ExprTree} {es : ExprTrees} {r : List ℕ} → Expr n s e m → More n m es r → Args n s (expr_then e es) r

  -- Further arguments, each behind a comma, and the `)`.
  pub data More : ℕ → List ℕ → ExprTrees → List ℕ → Type 0 where
    close : {n c : ℕ} {s : List ℕ} → kind c ≡ Close → More n (c ∷ s) no_exprs s
    comma : {n c : ℕ} {s m : List ℕ} {e : ExprTree} {es : ExprTrees} {r : List ℕ} → kind c ≡ Comma → Expr n s e m → More n m es r → More n (c ∷ s) (expr_then e es) r

  -- Accesses that make the expression e of the base b, with white space before and after each; `?` makes one soft.
  pub data Accesses : ℕ → List ℕ → ExprTree → ExprTree → List ℕ → Type 0 where
    no_access : {n : ℕ} {s : List ℕ} {b : ExprTree} → Accesses n s b b s
    blank_access : {n c : ℕ} {s : List ℕ} {b e : ExprTree} {r : List ℕ} → kind c ≡ Blank → Accesses n s b e r → Accesses n (c ∷ s) b e r
    access : {n : ℕ} {s m : List ℕ} {b x e : ExprTree} {r : List ℕ} → Access n false s b x m → Accesses n m x e r → Accesses n s b e r
    soft_access : {n c : ℕ} {s m : List ℕ} {b x e : ExprTree} {r : List ℕ} → kind c ≡ Soft → Access n true s b x m → Accesses n m x e r → Accesses n (c ∷ s) b e r

  -- One access: `.` and a member's name, or a key in `[` and `]`.
  pub data Access : ℕ → Bool → List ℕ → ExprTree → ExprTree → List ℕ → Type 0 where
    name_access : {n d : ℕ} {soft : Bool} {s t : List ℕ} {b : ExprTree} {r : List ℕ} → kind d ≡ Dot → MemberName s t r → Access n soft (d ∷ s) b (member b t soft) r
    key_access : {n c u : ℕ} {soft : Bool} {s : List ℕ} {b e : ExprTree} {r : List ℕ} → kind c ≡ Bracket → n < 64 → Expr (suc n) s e (u ∷ r) → kind u ≡ Unbracket → Access n soft (c ∷ s) b (index b e soft) r

-- What may follow an `@` that stands for itself: neither `{` nor `@{`.
pub data Unmarked : List ℕ → Type 0 where
  at_end : Unmarked []
  no_mark : {c : ℕ} {s : List ℕ} → (kind c ≡ At → ⊥) → (kind c ≡ Brace → ⊥) → Unmarked (c ∷ s)
  at_at_end : {a : ℕ} → kind a ≡ At → Unmarked (a ∷ [])
  at_no_mark : {a c : ℕ} {s : List ℕ} → kind a ≡ At → (kind c ≡ Brace → ⊥) → Unmarked (a ∷ c ∷ s)

-- Where the remainder r of a text of T characters begins, counted from 0.
abbrev pub place : ℕ → List ℕ → ℕ
place T r = T - length r

-- A text with expressions in it: `@@{` stands for `@{`, `@{` and `}` hold an expression, and every other character
-- stands for itself.
pub data Items (T : ℕ) : List ℕ → List Item → Type 0 where
  no_items : Items T [] []
  escape : {a b c : ℕ} {s : List ℕ} {items : List Item} → kind a ≡ At → kind b ≡ At → kind c ≡ Brace → Items T s items → Items T (a ∷ b ∷ c ∷ s) (character b ∷ character c ∷ items)
  part : {a b u : ℕ} {s m : List ℕ} {e : ExprTree} {items : List Item} → kind a ≡ At → kind b ≡ Brace → Expr 0 s e (u ∷ m) → kind u ≡ Unbrace → Items T m items → Items T (a ∷ b ∷ s) (embedded e (place T (u ∷ m) - suc (place T (b ∷ s))) ∷ items)
  itself_char : {c : ℕ} {s : List ℕ} {items : List Item} → (kind c ≡ At → ⊥) → Items T s items → Items T (c ∷ s) (character c ∷ items)
  itself_at : {a : ℕ} {s : List ℕ} {items : List Item} → kind a ≡ At → Unmarked s → Items T s items → Items T (a ∷ s) (character a ∷ items)

-- A text of a definition: `@` and one expression; or, where `@@` or `@{` stands at the start or no `@` does, a text
-- with expressions in it. `@@` at the start stands for `@`.
pub data Reads (T : ℕ) : List ℕ → Reading → Type 0 where
  expression : {a : ℕ} {s : List ℕ} {e : ExprTree} → kind a ≡ At → Expr 0 s e [] → Reads T (a ∷ s) (whole_of e)
  two_ats : {a b : ℕ} {s : List ℕ} {items : List Item} → kind a ≡ At → kind b ≡ At → Items T s items → Reads T (a ∷ b ∷ s) (items_of (character a ∷ items))
  empty : Reads T [] (items_of [])
  no_at : {c : ℕ} {s : List ℕ} {items : List Item} → (kind c ≡ At → ⊥) → Items T (c ∷ s) items → Reads T (c ∷ s) (items_of items)
  part_first : {a b : ℕ} {s : List ℕ} {items : List Item} → kind a ≡ At → kind b ≡ Brace → Items T (a ∷ b ∷ s) items → Reads T (a ∷ b ∷ s) (items_of items)
