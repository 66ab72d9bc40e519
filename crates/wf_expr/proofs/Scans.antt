-- What the machine answers is what the grammar says.
use Rattle.std.proofs.Common.{◌-◌, zero-add, ◌≡◌, ℕ, suc, ◌+◌, ◌<◌, ◌≤◌, Bool, zero, List, [], ◌∷◌, ◌++◌, length, take, Option, Some, None, Result, Ok, Err, refl, sym, ap, subst, arith, append-nil, ◌∙◌, inl, inr}
use Rattle.std.specs.Char.{IsScalar}
use Rattle.std.specs.List.{AllByRecursion}
use Rattle.wf_expr.specs.declared.kind.Kind.TheVariants.{At}
use Rattle.wf_expr.specs.Kinds.{kind}
use Rattle.wf_template.specs.ExprTree.{ExprTree, member}
use Rattle.wf_expr.specs.Reading.{template_of, number_literal, text_literal, Item, character, Reading, whole_of, items_of, signed}
use Rattle.wf_expr.specs.Words.{Word}
use Rattle.wf_expr.specs.WordTests.{word_of}
use Rattle.wf_expr.proofs.WordLemmas.{Word-of, of-Word}
use Rattle.wf_expr.specs.Grammar.{Digits, no_digit, digit, Quoted, Tail, no_more, more, MemberTail, no_more_member, Expr, begins, blank, Accesses, no_access, access, Access, Unmarked, no_mark, at_at_end, at_no_mark, Items, no_items, escape, part, itself_char, itself_at, Reads, expression, two_ats, empty, no_at, part_first}
use Rattle.wf_expr.specs.Spells.{Derives, Spells, IsFault, IsTooLong, too_long, Outcome}
use Rattle.wf_template.specs.TemplateTree.{TemplateTree}
use Rattle.wf_expr.specs.Machine.{step_at, Stack, whole, Mode, at_start, at_sign, plain, one_at, two_at, in_int, at_quote, in_name, at_named, after, in_member, State, step, word_end, finish, went, ended, scan, start}
use Rattle.wf_expr.proofs.Residual.{ResumesAt, Up, done, part_done, After, accessed, Rest, r_start, r_sign, r_plain, r_one, r_two, r_first, r_args, r_int, r_quoted, r_ended, r_twice, r_call, r_word, r_named_call, r_named_word, r_after, r_soft, r_dot, r_member, Resumes}
use Rattle.wf_expr.proofs.Forward.{forward, Good}
use Rattle.wf_expr.proofs.Backward.{back, GoodIf}
use Rattle.wf_expr.proofs.Keeps.{keeps}
use Rattle.wf_expr.proofs.Alive.{alive}

data Ends : Stack → ExprTree → Reading → Type 0 where
  ends : {b : ExprTree} → Ends whole b (whole_of b)

no_access_at_end : {n : ℕ} {soft : Bool} {b x : ExprTree} {m : List ℕ} → Access n soft [] b x m → ⊥
no_access_at_end a = elim a [ ]

after_end : {T : ℕ} {k : Stack} {b : ExprTree} {w : Reading} → After T k b [] w → Ends k b w
after_end (accessed no_access done) = ends
after_end (accessed no_access (Rattle.wf_expr.proofs.Residual.arg xs a)) = elim xs [ ]
after_end (accessed (access a xs) up) = absurd (no_access_at_end a)

finish_int : (neg : Bool) (v : ℕ) {k : Stack} {w : Reading} → Ends k (number_literal (signed neg v)) w → finish (in_int neg v, k) ≡ Some w
finish_int neg v ends = refl

finish_text : {t : List ℕ} {k : Stack} {w : Reading} → Ends k (text_literal t) w → finish (at_quote t, k) ≡ Some w
finish_text ends = refl

finish_after : {b : ExprTree} {k : Stack} {w : Reading} → Ends k b w → finish (after b, k) ≡ Some w
finish_after ends = refl

finish_member : {b : ExprTree} {soft : Bool} (t : List ℕ) {k : Stack} {w : Reading} → Ends k (member b (t ++ []) soft) w → finish (in_member b soft t, k) ≡ Some w
finish_member {b = b} {soft = soft} t ends = ap (λ l. Some (whole_of (member b l soft))) (sym (append-nil t))

finish_word : (t : List ℕ) {v : ExprTree} {k : Stack} {w : Reading} → Word t v → Ends k v w → finish (in_name t, k) ≡ Some w
finish_word t wd ends = ap word_end (of-Word wd)

finish_named : (t : List ℕ) {v : ExprTree} {k : Stack} {w : Reading} → Word t v → Ends k v w → finish (at_named t, k) ≡ Some w
finish_named t wd ends = ap word_end (of-Word wd)

word_back : (t : List ℕ) (o : Option ExprTree) (w : Reading) → word_of t ≡ o → word_end o ≡ Some w → (v : ExprTree) × Word t v × (whole_of v ≡ w)
word_back t None w e h = absurd (cc)
word_back t (Some v) w e h = (v, Word-of t v e, (cc))

no_expr_at_end : {n : ℕ} {e : ExprTree} {r : List ℕ} → Expr n [] e r → ⊥
no_expr_at_end (begins p a) = elim p [ ]

finish_sign : {T : ℕ} {a : ℕ} (k : Stack) {w : Reading} → kind a ≡ At → Reads T (a ∷ []) w → finish (at_sign a, k) ≡ Some w
finish_sign k ha (expression h x) = absurd (no_expr_at_end x)
finish_sign k ha (no_at h i) = absurd (h ha)

nil_end : {T : ℕ} {items : List Item} → Items T [] items → items ≡ []
nil_end no_items = refl

one_end : {T : ℕ} {items : List Item} {a : ℕ} → kind a ≡ At → Items T (a ∷ []) items → items ≡ character a ∷ []
one_end ha (itself_char h i) = absurd (h ha)
one_end {a = a} ha (itself_at h um i) = ap (λ l. character a ∷ l) (nil_end i)

two_end : {T : ℕ} {items : List Item} {a b : ℕ} → kind a ≡ At → kind b ≡ At → Items T (a ∷ b ∷ []) items → items ≡ character a ∷ character b ∷ []
two_end ha hb (part h h' x hu i) = absurd (no_expr_at_end x)
two_end ha hb (itself_char h i) = absurd (h ha)
two_end {a = a} ha hb (itself_at h um i) = ap (λ l. character a ∷ l) (one_end hb i)

finish_from : {T : ℕ} {m : Mode} {k : Stack} {w : Reading} → Good m k → Rest T m k [] w → finish (m, k) ≡ Some w
finish_from g (r_start empty) = refl
finish_from {k = k} g (r_sign r) = finish_sign k g r
finish_from g (r_plain {front = front} no_items) = ap (λ l. Some (items_of l)) (sym (append-nil front))
finish_from g (r_one {front = front} i) = ap (λ l. Some (items_of (front ++ l))) (sym (one_end g i))
finish_from g (r_two {front = front} i) = ap (λ l. Some (items_of (front ++ l))) (sym (two_end g.0 g.1 i))
finish_from g (r_first x up) = absurd (no_expr_at_end x)
finish_from g (r_args (Rattle.wf_expr.specs.Grammar.args x xs) a) = absurd (no_expr_at_end x)
finish_from g (r_int {neg = neg} {v = v} no_digit lt a) = finish_int neg v (after_end a)
finish_from g (r_quoted q a) = elim q [ ]
finish_from g (r_ended a) = finish_text (after_end a)
finish_from g (r_call no_more op lt es a) = elim op [ ]
finish_from g (r_word {t = t} {v = v} no_more wd a) = finish_word t (let P : List ℕ → Type 0 = λ l. Word l v in subst P (append-nil t) wd) (after_end a)
finish_from g (r_named_call op lt es a) = elim op [ ]
finish_from g (r_named_word {t = t} wd a) = finish_named t wd (after_end a)
finish_from g (r_after a) = finish_after (after_end a)
finish_from g (r_soft x a) = absurd (no_access_at_end x)
finish_from g (r_dot d a) = elim d [ ]
finish_from g (r_member {t = t} no_more_member a) = finish_member t (after_end a)

at_once : {T : ℕ} (b : ExprTree) → After T whole b [] (whole_of b)
at_once b = accessed no_access done

finish_back : {T : ℕ} (m : Mode) (k : Stack) (w : Reading) → Good m k → finish (m, k) ≡ Some w → Rest T m k [] w
finish_back {T = T} (in_int neg v) whole w g e = let P : Reading → Type 0 = λ w. Rest T (in_int neg v) whole [] w in let e' : whole_of (number_literal (signed neg v)) ≡ w = cc in subst P e' (r_int {neg = neg} no_digit g (at_once (number_literal (signed neg v))))
finish_back {T = T} (at_quote t) whole w g e = let P : Reading → Type 0 = λ w. Rest T (at_quote t) whole [] w in let e' : whole_of (text_literal t) ≡ w = cc in subst P e' (r_ended (at_once (text_literal t)))
finish_back {T = T} (in_name t) whole w g e = let q = word_back t (word_of t) w refl e in let P : Reading → Type 0 = λ w. Rest T (in_name t) whole [] w in let P' : List ℕ → Type 0 = λ l. Word l q.0 in subst P q.2 (r_word no_more (subst P' (sym (append-nil t)) q.1) (at_once q.0))
finish_back {T = T} (at_named t) whole w g e = let q = word_back t (word_of t) w refl e in let P : Reading → Type 0 = λ w. Rest T (at_named t) whole [] w in subst P q.2 (r_named_word q.1 (at_once q.0))
finish_back {T = T} (after b) whole w g e = let P : Reading → Type 0 = λ w. Rest T (after b) whole [] w in let e' : whole_of b ≡ w = cc in subst P e' (r_after (at_once b))
finish_back {T = T} (in_member b soft t) whole w g e = let P : Reading → Type 0 = λ w. Rest T (in_member b soft t) whole [] w in let e' : whole_of (member b (t ++ []) soft) ≡ w = ap (λ l. whole_of (member b l soft)) (append-nil t) ∙ (cc) in subst P e' (r_member no_more_member (at_once _))
finish_back {T = T} at_start k w g e = let P : Reading → Type 0 = λ w. Rest T at_start k [] w in let e' : items_of [] ≡ w = cc in subst P e' (r_start empty)
finish_back {T = T} (plain front) k w g e = let P : Reading → Type 0 = λ w. Rest T (plain front) k [] w in let e' : items_of (front ++ []) ≡ w = ap (λ l. items_of l) (append-nil front) ∙ (cc) in subst P e' (r_plain no_items)
finish_back {T = T} (one_at front a) k w g e = let P : Reading → Type 0 = λ w. Rest T (one_at front a) k [] w in let e' : items_of (front ++ character a ∷ []) ≡ w = cc in subst P e' (r_one (itself_at g Rattle.wf_expr.specs.Grammar.at_end no_items))
finish_back {T = T} (two_at front a b) k w g e = let P : Reading → Type 0 = λ w. Rest T (two_at front a b) k [] w in let e' : items_of (front ++ character a ∷ character b ∷ []) ≡ w = cc in subst P e' (r_two (itself_at g.0 (at_at_end g.1) (itself_at g.1 Rattle.wf_expr.specs.Grammar.at_end no_items)))
finish_back m k w g e = absurd (cc)

-- one step on, behind `at` characters

taken : (at : ℕ) (m : Mode) (k : Stack) (c : ℕ) (s : List ℕ) (w : Reading) → Good m k → Rest (at + suc (length s)) m k (c ∷ s) w → ResumesAt (at + 1 + length s) (step (m, k) c at) s w
taken at m k c s w g r =
    let total : at + suc (length s) ≡ at + 1 + length s = omega arith in
    let place : (at + suc (length s)) - suc (length s) ≡ at = omega arith in
    let P : ℕ → Type 0 = λ T. ResumesAt T (step_at m k c (kind c) at) s w in
    let Q : ℕ → Type 0 = λ p. ResumesAt (at + suc (length s)) (step_at m k c (kind c) p) s w in
    subst P total (subst Q place (forward g r))

given : (at : ℕ) (m : Mode) (k : Stack) (c : ℕ) (s : List ℕ) (w : Reading) → Good m k → ResumesAt (at + 1 + length s) (step (m, k) c at) s w → Rest (at + suc (length s)) m k (c ∷ s) w
given at m k c s w g r =
    let total : at + suc (length s) ≡ at + 1 + length s = omega arith in
    let place : (at + suc (length s)) - suc (length s) ≡ at = omega arith in
    let P : ℕ → Type 0 = λ T. ResumesAt T (step_at m k c (kind c) at) s w in
    let Q : ℕ → Type 0 = λ p. ResumesAt (at + suc (length s)) (step_at m k c (kind c) p) s w in
    back m k c (kind c) s w g refl (subst Q (sym place) (subst P (sym total) r))

-- the reading

pub scan_only : (s : List ℕ) (m : Mode) (k : Stack) (at : ℕ) (w : Reading) → Good m k → Rest (at + length s) m k s w → scan (m, k) at s ≡ Ok w
scan_only [] m k at w g r = ap (λ o. ended o at) (finish_from g r)
scan_only (c ∷ s) m k at w g r =
    elim (step (m, k) c at) as (λ o. GoodIf o → ResumesAt (at + 1 + length s) o s w → went o at (λ next. scan next (at + 1) s) ≡ Ok w)
    [ None ↦ λ g' q. absurd q | Some st ↦ λ g' q. scan_only s st.0 st.1 (at + 1) w g' q ] (keeps at m k c (kind c) g refl) (taken at m k c s w g r)

is_ended : (o : Option Reading) (at : ℕ) (w : Reading) → ended o at ≡ Ok w → o ≡ Some w
is_ended None at w e = absurd (cc)
is_ended (Some v) at w e = cc

pub scan_ok : (s : List ℕ) (m : Mode) (k : Stack) (at : ℕ) (w : Reading) → Good m k → scan (m, k) at s ≡ Ok w → Rest (at + length s) m k s w
scan_ok [] m k at w g e = finish_back m k w g (is_ended (finish (m, k)) at w e)
scan_ok (c ∷ s) m k at w g e =
    given at m k c s w g (
    elim (step (m, k) c at) as (λ o. GoodIf o → went o at (λ next. scan next (at + 1) s) ≡ Ok w → ResumesAt (at + 1 + length s) o s w)
    [ None ↦ λ g' e'. absurd (cc) | Some st ↦ λ g' e'. scan_ok s st.0 st.1 (at + 1) w g' e' ] (keeps at m k c (kind c) g refl) e)

-- the fault, behind a state and `at` characters
pub record Stops (at : ℕ) (m : Mode) (k : Stack) (s : List ℕ) (d : ℕ) : Type 0 where
  pub within : d ≤ length s
  pub viable : (rest : List ℕ) × AllByRecursion IsScalar rest × (w : Reading) × Rest (at + length (take d s ++ rest)) m k (take d s ++ rest) w
  pub longest : (j : ℕ) → d < j → j ≤ length s → (rest : List ℕ) (w : Reading) → Rest (at + length (take j s ++ rest)) m k (take j s ++ rest) w → ⊥

completed : (at : ℕ) (m : Mode) (k : Stack) → Good m k → (rest : List ℕ) × AllByRecursion IsScalar rest × (w : Reading) × Rest (at + length rest) m k rest w
completed at m k g = let a = alive m k g in let r = a.2 (at + length a.0) in (a.0, a.1, r.0, r.1)

stops_here : (at : ℕ) (m : Mode) (k : Stack) (c : ℕ) (s : List ℕ) → Good m k → step (m, k) c at ≡ None → Stops at m k (c ∷ s) 0
stops_here at m k c s g e = record {
  within = omega arith;
  viable = completed at m k g;
  longest = λ j lt le rest w r. refuses j lt rest w r;
}
  where
    refuses : (j : ℕ) → 0 < j → (rest : List ℕ) (w : Reading) → Rest (at + length (take j (c ∷ s) ++ rest)) m k (take j (c ∷ s) ++ rest) w → ⊥
    refuses zero lt rest w r = absurd (omega arith)
    refuses (suc j) lt rest w r = let q = taken at m k c (take j s ++ rest) w g r in let P : Option State → Type 0 = λ o. ResumesAt (at + 1 + length (take j s ++ rest)) o (take j s ++ rest) w in subst P e q

stops_after : (at : ℕ) (m : Mode) (k : Stack) (c : ℕ) (s : List ℕ) (st : State) (d : ℕ) → Good m k → step (m, k) c at ≡ Some st → Stops (at + 1) st.0 st.1 s d → Stops at m k (c ∷ s) (suc d)
stops_after at m k c s st d g e x = record {
  within = omega (arith, x.within);
  viable = let v = x.viable in (v.0, v.1, v.2, given at m k c _ _ g (let P : Option State → Type 0 = λ o. ResumesAt (at + 1 + length (take d s ++ v.0)) o (take d s ++ v.0) v.2 in subst P (sym e) v.3));
  longest = λ j lt le rest w r. refuses j lt le rest w r;
}
  where
    refuses : (j : ℕ) → suc d < j → j ≤ suc (length s) → (rest : List ℕ) (w : Reading) → Rest (at + length (take j (c ∷ s) ++ rest)) m k (take j (c ∷ s) ++ rest) w → ⊥
    refuses zero lt le rest w r = absurd (omega arith)
    refuses (suc j) lt le rest w r = let q = taken at m k c (take j s ++ rest) w g r in let P : Option State → Type 0 = λ o. ResumesAt (at + 1 + length (take j s ++ rest)) o (take j s ++ rest) w in x.longest j (omega arith) (omega arith) rest w (subst P e q)

is_at : (o : Option Reading) (at z : ℕ) → ended o at ≡ Err z → z ≡ at + 0
is_at None at z e = let h : at ≡ z = cc in omega arith
is_at (Some v) at z e = absurd (cc)

err_at : (at z : ℕ) → (let r : Result Reading ℕ = Err at in r ≡ Err z) → z ≡ at + 0
err_at at z e = let h : at ≡ z = cc in omega arith

further : (m : Mode) (k : Stack) (c : ℕ) (s : List ℕ) (st : State) (at z : ℕ) → Good m k → step (m, k) c at ≡ Some st → (d : ℕ) × (z ≡ (at + 1) + d) × Stops (at + 1) st.0 st.1 s d → (d : ℕ) × (z ≡ at + d) × Stops at m k (c ∷ s) d
further m k c s st at z g e x = (suc x.0, omega (arith, x.1), stops_after at m k c s st x.0 g e x.2)

pub scan_err : (s : List ℕ) (m : Mode) (k : Stack) (at z : ℕ) → Good m k → scan (m, k) at s ≡ Err z → (d : ℕ) × (z ≡ at + d) × Stops at m k s d
scan_err [] m k at z g e = (
  0,
  is_at (finish (m, k)) at z e,
  record {
    within = omega arith;
    viable = completed at m k g;
    longest = λ j lt le rest w r. absurd (omega arith);
  },
)
scan_err (c ∷ s) m k at z g e =
    elim (step (m, k) c at) as (λ o. step (m, k) c at ≡ o → GoodIf o → went o at (λ next. scan next (at + 1) s) ≡ Err z → (d : ℕ) × (z ≡ at + d) × Stops at m k (c ∷ s) d) [
      | None ↦ λ h g' e'. (0, err_at at z e', stops_here at m k c s g h)
      | Some st ↦ λ h g' e'. further m k c s st at z g h (scan_err s st.0 st.1 (at + 1) z g' e')
    ] refl (keeps at m k c (kind c) g refl) e

-- the whole text

enters : {s : List ℕ} {w : Reading} → Reads (length s) s w → Rest (0 + length s) at_start whole s w
enters {s = s} {w = w} x = let P : ℕ → Type 0 = λ T. Rest T at_start whole s w in subst P (sym (zero-add (length s))) (r_start x)

leaves_at : {T : ℕ} {s : List ℕ} {w : Reading} → Rest T at_start whole s w → Reads T s w
leaves_at (r_start x) = x

leaves : {s : List ℕ} {w : Reading} → Rest (0 + length s) at_start whole s w → Reads (length s) s w
leaves {s = s} {w = w} x = let P : ℕ → Type 0 = λ T. Reads T s w in subst P (zero-add (length s)) (leaves_at x)

pub found : (s : List ℕ) (w : Reading) → scan start 0 s ≡ Ok w → Reads (length s) s w
found s w h = leaves (scan_ok s at_start whole 0 w tt h)

pub only : (s : List ℕ) (w : Reading) → Reads (length s) s w → scan start 0 s ≡ Ok w
only s w x = scan_only s at_start whole 0 w tt (enters x)

-- two readings are both the machine's answer
one_reading : (s : List ℕ) (x y : Reading) → Reads (length s) s x → Reads (length s) s y → x ≡ y
one_reading s x y p q = let a = only s x p in let b = only s y q in cc

derived : {s : List ℕ} (w : Reading) → Reads (length s) s w → Derives s (template_of w)
derived w r = record { reading = w; reads = r; gives = refl }

pub derives_one : (s : List ℕ) (x y : TemplateTree) → Derives s x → Derives s y → x ≡ y
derives_one s x y p q = sym p.gives ∙ ap (λ w. template_of w) (one_reading s p.reading q.reading p.reads q.reads) ∙ q.gives

pub one_length : (s : List ℕ) (m n : ℕ) → IsTooLong s m → IsTooLong s n → m ≡ n
one_length s m n p q =
    let same = one_reading s p.reading q.reading p.reads q.reads in
    let P : Reading → Type 0 = λ w. too_long s w ≡ Some m in
    let first = subst P same p.first in
    let second = q.first in cc

pub fits_or_not : (s : List ℕ) (t : TemplateTree) (n : ℕ) → Spells s t → IsTooLong s n → ⊥
fits_or_not s t n p q =
    let same = one_reading s p.reading q.reading p.reads q.reads in
    let P : Reading → Type 0 = λ w. too_long s w ≡ None in
    let none = subst P same p.fits in
    let first = q.first in cc

pub fault : (s : List ℕ) (at : ℕ) → scan start 0 s ≡ Err at → IsFault s at
fault s at h = let x = scan_err s at_start whole 0 at tt h in let e : x.0 ≡ at = omega (arith, x.1) in
    let P : ℕ → Type 0 = IsFault s in subst P e (record {
      none = λ t d. let o = only s d.reading d.reads in cc;
      within = x.2.within;
      viable = let v = x.2.viable in (v.0, v.1, template_of v.2, derived v.2 (leaves v.3));
      longest = λ j lt le y. x.2.longest j lt le y.0 y.3.reading (enters y.3.reads);
    })

-- every text is read, is read but for its length, or is refused

measured : (s : List ℕ) (w : Reading) (o : Option ℕ) → Reads (length s) s w → too_long s w ≡ o → Outcome s
measured s w None r is = inl (template_of w, record { reading = w; reads = r; fits = is; gives = refl })
measured s w (Some n) r is = inr (inr (n, record { reading = w; reads = r; first = is }))

pub decided : (s : List ℕ) → Outcome s
decided s = elim (scan start 0 s) as (λ r. scan start 0 s ≡ r → Outcome s) [
  | Ok w ↦ λ h. measured s w (too_long s w) (found s w h) refl
  | Err at ↦ λ h. inr (inl (at, fault s at h))
] refl
