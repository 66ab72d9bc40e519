-- The tests of words are the relation, and every front of a word can be completed.
use Rattle.std.proofs.Common.{◌≡◌, ℕ, Bool, true, false, List, [], ◌∷◌, ◌++◌, nat_eq, ◌&&◌, ◌||◌, if◌then◌else◌, Some, None, refl, sym, ap, subst, arith, ◌∙◌, ◌⊎◌, inl, inr}
use Rattle.std.specs.Str.{bytes_eq, str_eq_ignore_ascii_case}
use Rattle.std.specs.Char.{to_ascii_lowercase, encode_utf8, IsScalar}
use Rattle.std.specs.List.{AllByRecursion}
use Rattle.wf_expr.specs.declared.kind.Kind.TheVariants.{Letter}
use Rattle.wf_expr.specs.Kinds.{kind}
use Rattle.wf_template.specs.ExprTree.{ExprTree}
use Rattle.wf_expr.specs.Reading.{boolean_literal, null_literal}
use Rattle.wf_expr.specs.Grammar.{Tail, no_more, more, more_letter}
use Rattle.wf_expr.specs.Words.{lower, true_text, false_text, null_text, Word, is_true, is_false, is_null}
use Rattle.wf_expr.specs.WordTests.{is_front, word_of, word_front}

eq_self : (x : ℕ) → nat_eq x x ≡ true
eq_self x = grind arith

eq_of : (x y : ℕ) → nat_eq x y ≡ true → x ≡ y
eq_of x y h = grind arith

both : (a b : Bool) → (a && b) ≡ true → (a ≡ true) × (b ≡ true)
both true b h = (refl, h)
both false b h = absurd (cc)

bytes_same_self : (xs : List ℕ) → bytes_eq xs xs ≡ true
bytes_same_self [] = refl
bytes_same_self (x ∷ xs) = rw (eq_self x) (bytes_same_self xs)

bytes_same : (xs ys : List ℕ) → bytes_eq xs ys ≡ true → xs ≡ ys
bytes_same [] [] h = refl
bytes_same (x ∷ xs) (y ∷ ys) h = let b = both (nat_eq x y) (bytes_eq xs ys) h in let e = eq_of x y b.0 in let e' = bytes_same xs ys b.1 in cc
bytes_same [] (y ∷ ys) h = absurd (cc)
bytes_same (x ∷ xs) [] h = absurd (cc)

front_self : (xs ys : List ℕ) → is_front xs (xs ++ ys) ≡ true
front_self [] ys = refl
front_self (x ∷ xs) ys = rw (eq_self x) (front_self xs ys)

pub Word-of : (t : List ℕ) (v : ExprTree) → word_of t ≡ Some v → Word t v
unfolding word_of
Word-of t v = go (str_eq_ignore_ascii_case t true_text) (str_eq_ignore_ascii_case t false_text) (str_eq_ignore_ascii_case t null_text) (bytes_same (lower t) true_text) (bytes_same (lower t) false_text) (bytes_same (lower t) null_text)
  where
    go : (a b c : Bool) → (a ≡ true → lower t ≡ true_text) → (b ≡ true → lower t ≡ false_text) → (c ≡ true → lower t ≡ null_text) → (if a then Some (boolean_literal true) else if b then Some (boolean_literal false) else if c then Some null_literal else None) ≡ Some v → Word t v
    go true b c f g h e = let P : ExprTree → Type 0 = Word t in let e' : boolean_literal true ≡ v = cc in subst P e' (is_true (f refl))
    go false true c f g h e = let P : ExprTree → Type 0 = Word t in let e' : boolean_literal false ≡ v = cc in subst P e' (is_false (g refl))
    go false false true f g h e = let P : ExprTree → Type 0 = Word t in let e' : null_literal ≡ v = cc in subst P e' (is_null (h refl))
    go false false false f g h e = absurd (cc)

pub of-Word : {t : List ℕ} {v : ExprTree} → Word t v → word_of t ≡ Some v
unfolding word_of
of-Word (is_true h) = rw h refl
of-Word (is_false h) = rw h refl
of-Word (is_null h) = rw h refl

lower_append : (t a : List ℕ) → lower (t ++ a) ≡ lower t ++ lower a
lower_append [] a = refl
lower_append (x ∷ t) a = ap (λ l. to_ascii_lowercase x ∷ l) (lower_append t a)

front_of : (t a w : List ℕ) → lower (t ++ a) ≡ w → is_front (lower t) w ≡ true
front_of t a w h = let P : List ℕ → Type 0 = λ w. is_front (lower t) w ≡ true in subst P (sym (lower_append t a) ∙ h) (front_self (lower t) (lower a))

or_left : (a b : Bool) → a ≡ true → (a || b) ≡ true
or_left true b h = refl
or_left false b h = absurd (cc)

or_right : (a b : Bool) → b ≡ true → (a || b) ≡ true
or_right true b h = refl
or_right false b h = h

either : (a b : Bool) → (a || b) ≡ true → (a ≡ true) ⊎ (b ≡ true)
either true b h = inl refl
either false b h = inr h

pub front-Word : (t a : List ℕ) {v : ExprTree} → Word (t ++ a) v → word_front t ≡ true
unfolding word_front
front-Word t a (is_true h) = or_left _ _ (front_of t a true_text h)
front-Word t a (is_false h) = or_right _ _ (or_left _ _ (front_of t a false_text h))
front-Word t a (is_null h) = or_right _ _ (or_right _ _ (front_of t a null_text h))

-- small letters
data Small : List ℕ → Type 0 where
  none : Small []
  small : {c : ℕ} {s : List ℕ} → kind c ≡ Letter → to_ascii_lowercase c ≡ c → encode_utf8 c ≡ c ∷ [] → IsScalar c → Small s → Small (c ∷ s)

small_lower : {s : List ℕ} → Small s → lower s ≡ s
small_lower none = refl
small_lower (small h e e' scalar s) = let i = small_lower s in cc

small_tail : {s : List ℕ} (r : List ℕ) → Small s → Tail (s ++ r) s r
small_tail r none = no_more
small_tail r (small {c = c} {s = s} h e e' scalar x) = let P : List ℕ → Type 0 = λ l. Tail (c ∷ (s ++ r)) (l ++ s) r in subst P e' (more (more_letter h) (small_tail r x))

small_true : Small true_text
unfolding kind encode_utf8
small_true = small refl refl refl refl (small refl refl refl refl (small refl refl refl refl (small refl refl refl refl none)))

small_false : Small false_text
unfolding kind encode_utf8
small_false = small refl refl refl refl (small refl refl refl refl (small refl refl refl refl (small refl refl refl refl (small refl refl refl refl none))))

small_null : Small null_text
unfolding kind encode_utf8
small_null = small refl refl refl refl (small refl refl refl refl (small refl refl refl refl (small refl refl refl refl none)))

completed : (xs : List ℕ) {w : List ℕ} → Small w → is_front xs w ≡ true → (a : List ℕ) × (xs ++ a ≡ w) × Small a
completed [] {w = w} s h = (w, refl, s)
completed (x ∷ xs) none h = absurd (cc)
completed (x ∷ xs) (small {c = c} {s = w} h1 h2 h3 scalar s) h = let b = both (nat_eq x c) (is_front xs w) h in let r = completed xs s b.1 in let e = eq_of x c b.0 in let e' = r.1 in (r.0, (cc), r.2)

to_word : (t w : List ℕ) → Small w → is_front (lower t) w ≡ true → (a : List ℕ) × (lower (t ++ a) ≡ w) × Small a
to_word t w s h = let r = completed (lower t) s h in let e = lower_append t r.0 in let e' = small_lower r.2 in let e'' = r.1 in (r.0, (cc), r.2)

small_scalars : {s : List ℕ} → Small s → AllByRecursion IsScalar s
small_scalars none = tt
small_scalars (small h e e' scalar x) = (scalar, small_scalars x)

-- a front of a word goes on to a word
pub goes_on : (t : List ℕ) → word_front t ≡ true → (a : List ℕ) × AllByRecursion IsScalar a × (v : ExprTree) × Word (t ++ a) v × ((r : List ℕ) → Tail (a ++ r) a r)
unfolding word_front
goes_on t h = elim (either (is_front (lower t) true_text) _ h) [
  | inl p ↦ (let r = to_word t true_text small_true p in (r.0, small_scalars r.2, boolean_literal true, is_true r.1, λ x. small_tail x r.2))
  | inr q ↦ elim (either (is_front (lower t) false_text) _ q) [
    | inl p ↦ (let r = to_word t false_text small_false p in (r.0, small_scalars r.2, boolean_literal false, is_false r.1, λ x. small_tail x r.2))
    | inr p ↦ (let r = to_word t null_text small_null p in (r.0, small_scalars r.2, null_literal, is_null r.1, λ x. small_tail x r.2))
  ]
]
