-- What is kept of answers: they stand in order, and the first for an attempt is found.
use Rattle.std.proofs.Common.{◌≡◌, List, [], ◌∷◌, Bool, true, false, is_eq, ◌||◌, Option, Some, None, is_some, cond, Ordering, Less, Equal, Greater, refl, sym, ap, ◌∙◌}
use Rattle.std.specs.BTreeSet.{insert_key}
use Rattle.std.specs.List.{list_any}
use Rattle.std.specs.Ordering.{match_ordering}
use Rattle.wf_lists.specs.KeyOrder.{IsInKeyOrder, put_key}
use Rattle.wf_lists.proofs.KeyOrderLemmas.{find-put, in_order-insert}
use Rattle.wf_answers.specs.AnswerTree.{AnswerTree, Key, answer_cmp, find_answer, key_cmp, key_cmp_total, key_of}
use Rattle.wf_answers.specs.Gathered.{Gathered, gathered, gathered_onto, lesser_twice, nothing_gathered, with_answer}

-- ---- in order

abbrev IsOrdered : Gathered → Type 0
IsOrdered g = IsInKeyOrder key_cmp key_of g.kept

with-ordered : (g : Gathered) (a : AnswerTree) → IsOrdered g → IsOrdered (with_answer g a)
with-ordered g a order =
    elim (list_any (λ b. is_eq (answer_cmp a b)) g.kept) as (λ (b : Bool). IsOrdered (cond b
    (record { kept = g.kept; twice = Some (lesser_twice g.twice a) })
    (record { kept = insert_key answer_cmp g.kept a; twice = g.twice }))) [
      | true ↦ order
      | false ↦ in_order-insert key_cmp_total key_of a g.kept order
    ]

onto-ordered : (g : Gathered) (answers : List AnswerTree) → IsOrdered g → IsOrdered (gathered_onto g answers)
onto-ordered g [] order = order
onto-ordered g (a ∷ answers) order = onto-ordered (with_answer g a) answers (with-ordered g a order)

pub kept-in_order : (answers : List AnswerTree) → IsOrdered (gathered answers)
kept-in_order answers = onto-ordered nothing_gathered answers tt

-- ---- found

-- what is known of an attempt is what is found for it
pub known-is_found : (a : AnswerTree) (kept : List AnswerTree)
    → list_any (λ b. is_eq (answer_cmp a b)) kept ≡ is_some (find_answer (key_of a) kept)
known-is_found a [] = refl
known-is_found a (b ∷ kept) =
    elim (is_eq (answer_cmp a b)) as (λ e. (e || list_any (λ b. is_eq (answer_cmp a b)) kept)
    ≡ is_some (cond e (Some b) (find_answer (key_of a) kept))) [
      | true ↦ refl
      | false ↦ known-is_found a kept
    ]

-- one attempt is found as the other with which it ties
pub tied-found : (j k : Key) (kept : List AnswerTree) → key_cmp j k ≡ Equal → find_answer j kept ≡ find_answer k kept
tied-found j k [] tie = refl
tied-found j k (b ∷ kept) tie =
    ap (λ o. cond (is_eq o) (Some b) (find_answer j kept)) (key_cmp_total.congr j k (key_of b) tie)
    ∙ ap (cond (is_eq (key_cmp k (key_of b))) (Some b)) (tied-found j k kept tie)

pub is_tie : (o : Ordering) → is_eq o ≡ true → o ≡ Equal
is_tie Equal is = refl
is_tie Less is = cc
is_tie Greater is = cc

-- a new answer is put where it belongs
insert_at : (a b : AnswerTree) (kept : List AnswerTree) (o : Ordering) → answer_cmp a b ≡ o → is_eq o ≡ false
    → insert_key answer_cmp kept a ≡ put_key key_cmp key_of a kept
    → match_ordering o (a ∷ b ∷ kept) (b ∷ kept) (b ∷ insert_key answer_cmp kept a)
    ≡ match_ordering o (a ∷ b ∷ kept) (a ∷ kept) (b ∷ put_key key_cmp key_of a kept)
insert_at a b kept Less is new later = refl
insert_at a b kept Equal is new later = cc
insert_at a b kept Greater is new later = ap (λ bs. b ∷ bs) later

or_false : (x y : Bool) → (x || y) ≡ false → (x ≡ false) × (y ≡ false)
or_false true y is = cc
or_false false y is = (refl, is)

new-is_put : (a : AnswerTree) (kept : List AnswerTree) → list_any (λ b. is_eq (answer_cmp a b)) kept ≡ false
    → insert_key answer_cmp kept a ≡ put_key key_cmp key_of a kept
new-is_put a [] new = refl
new-is_put a (b ∷ kept) new =
    let (first, others) = or_false (is_eq (answer_cmp a b)) (list_any (λ b. is_eq (answer_cmp a b)) kept) new in
    insert_at a b kept (answer_cmp a b) refl first (new-is_put a kept others)

abbrev pub first_of : Option AnswerTree → Option AnswerTree → Option AnswerTree
first_of None o = o
first_of (Some x) o = Some x

first_of-none : (o : Option AnswerTree) → first_of o None ≡ o
first_of-none None = refl
first_of-none (Some x) = refl

first_of-assoc : (o p q : Option AnswerTree) → first_of (first_of o p) q ≡ first_of o (first_of p q)
first_of-assoc None p q = refl
first_of-assoc (Some x) p q = refl

-- a known answer changes nothing of what is found
known_at : (o : Option AnswerTree) (a : AnswerTree) → is_some o ≡ true → o ≡ first_of o (Some a)
known_at None a known = cc
known_at (Some x) a known = refl

known-found : (k : Key) (kept : List AnswerTree) (a : AnswerTree) (tie : Bool) → is_eq (key_cmp k (key_of a)) ≡ tie
    → is_some (find_answer (key_of a) kept) ≡ true
    → find_answer k kept ≡ first_of (find_answer k kept) (cond tie (Some a) None)
known-found k kept a false is known = sym (first_of-none (find_answer k kept))
known-found k kept a true is known =
    known_at (find_answer k kept) a (ap is_some (tied-found k (key_of a) kept (is_tie (key_cmp k (key_of a)) is)) ∙ known)

-- a new one is found where nothing was
none_at : (o : Option AnswerTree) (a : AnswerTree) → is_some o ≡ false → Some a ≡ first_of o (Some a)
none_at None a new = refl
none_at (Some x) a new = cc

new-found : (k : Key) (kept : List AnswerTree) (a : AnswerTree) (tie : Bool) → is_eq (key_cmp k (key_of a)) ≡ tie
    → is_some (find_answer (key_of a) kept) ≡ false
    → cond tie (Some a) (find_answer k kept) ≡ first_of (find_answer k kept) (cond tie (Some a) None)
new-found k kept a false is new = sym (first_of-none (find_answer k kept))
new-found k kept a true is new =
    none_at (find_answer k kept) a (ap is_some (tied-found k (key_of a) kept (is_tie (key_cmp k (key_of a)) is)) ∙ new)

with_by : (k : Key) (g : Gathered) (a : AnswerTree) (known : Bool) → list_any (λ b. is_eq (answer_cmp a b)) g.kept ≡ known
    → find_answer k (cond {A = Gathered} known (record { kept = g.kept; twice = Some (lesser_twice g.twice a) })
    (record { kept = insert_key answer_cmp g.kept a; twice = g.twice })).kept
    ≡ first_of (find_answer k g.kept) (find_answer k (a ∷ []))
with_by k g a true is = known-found k g.kept a (is_eq (key_cmp k (key_of a))) refl (sym (known-is_found a g.kept) ∙ is)
with_by k g a false is =
    ap (find_answer k) (new-is_put a g.kept is) ∙ find-put key_cmp_total key_of k a g.kept
    ∙ new-found k g.kept a (is_eq (key_cmp k (key_of a))) refl (sym (known-is_found a g.kept) ∙ is)

find-more : (k : Key) (a : AnswerTree) (answers : List AnswerTree) (tie : Bool)
    → first_of (cond tie (Some a) None) (find_answer k answers) ≡ cond tie (Some a) (find_answer k answers)
find-more k a answers true = refl
find-more k a answers false = refl

onto-found : (k : Key) (g : Gathered) (answers : List AnswerTree)
    → find_answer k (gathered_onto g answers).kept ≡ first_of (find_answer k g.kept) (find_answer k answers)
onto-found k g [] = sym (first_of-none (find_answer k g.kept))
onto-found k g (a ∷ answers) =
    onto-found k (with_answer g a) answers
    ∙ ap (λ o. first_of o (find_answer k answers)) (with_by k g a (list_any (λ b. is_eq (answer_cmp a b)) g.kept) refl)
    ∙ first_of-assoc (find_answer k g.kept) (find_answer k (a ∷ [])) (find_answer k answers)
    ∙ ap (first_of (find_answer k g.kept)) (find-more k a answers (is_eq (key_cmp k (key_of a))))

pub kept-found : (answers : List AnswerTree) (k : Key) → find_answer k (gathered answers).kept ≡ find_answer k answers
kept-found answers k = onto-found k nothing_gathered answers

-- what is found after one answer more
pub with-found : (k : Key) (g : Gathered) (a : AnswerTree)
    → find_answer k (with_answer g a).kept ≡ first_of (find_answer k g.kept) (find_answer k (a ∷ []))
with-found k g a = with_by k g a (list_any (λ b. is_eq (answer_cmp a b)) g.kept) refl
