-- The attempt that is told is the least for which there are two answers.
use Rattle.std.proofs.Common.{◌≡◌, ℕ, zero, suc, ◌+◌, ◌≤◌, List, [], ◌∷◌, Bool, true, false, is_eq, Option, Some, None, is_some, cond, Ordering, Less, Equal, Greater, refl, sym, ap, ◌∙◌, subst, arith}
use Rattle.std.specs.BTreeSet.{insert_key}
use Rattle.std.specs.List.{list_any}
use Rattle.std.specs.Ordering.{match_ordering, ordering_reverse}
use Rattle.std.proofs.lemmas.Cmp.{tied_itself}
use Rattle.wf_answers.specs.AnswerTree.{AnswerTree, Key, answer_cmp, find_answer, key_cmp, key_cmp_total, key_of}
use Rattle.wf_answers.specs.Doubles.{count_for, IsLeastDouble}
use Rattle.wf_answers.specs.Gathered.{Gathered, gathered, gathered_onto, lesser_twice, nothing_gathered, with_answer}
use Rattle.wf_answers.proofs.KeptLemmas.{first_of, is_tie, known-is_found, with-found}

-- ---- counts

tied-count : (j k : Key) (answers : List AnswerTree) → key_cmp j k ≡ Equal → count_for j answers ≡ count_for k answers
tied-count j k [] tie = refl
tied-count j k (b ∷ answers) tie =
    ap (λ o. cond (is_eq o) (suc (count_for j answers)) (count_for j answers)) (key_cmp_total.congr j k (key_of b) tie)
    ∙ ap (λ n. cond (is_eq (key_cmp k (key_of b))) (suc n) n) (tied-count j k answers tie)

-- the answers in front of others, the last of them first
abbrev before : List AnswerTree → List AnswerTree → List AnswerTree
before done [] = done
before done (a ∷ answers) = before (a ∷ done) answers

more : (tie : Bool) (n m : ℕ) → cond tie (suc n) n + m ≡ n + cond tie (suc m) m
more true n m = omega arith
more false n m = refl

count-before : (k : Key) (done answers : List AnswerTree) → count_for k (before done answers) ≡ count_for k done + count_for k answers
count-before k done [] = omega arith
count-before k done (a ∷ answers) =
    count-before k (a ∷ done) answers ∙ more (is_eq (key_cmp k (key_of a))) (count_for k done) (count_for k answers)

count-all : (k : Key) (answers : List AnswerTree) → count_for k (before [] answers) ≡ count_for k answers
count-all k answers = let all = count-before k [] answers in omega (arith, all)

-- ---- what is told of the answers so far

-- whether there is one at all
abbrev is_there : ℕ → Bool
is_there zero = false
is_there (suc n) = true

record Told (g : Gathered) (done : List AnswerTree) : Type 0 where
  kept : (k : Key) → is_some (find_answer k g.kept) ≡ is_there (count_for k done)
  told : (a : AnswerTree) → g.twice ≡ Some a → IsLeastDouble done (key_of a)
  none : g.twice ≡ None → (k : Key) → count_for k done ≤ 1

kept_by : (o : Option AnswerTree) (a : AnswerTree) (n : ℕ) (tie : Bool) → is_some o ≡ is_there n
    → is_some (first_of o (cond tie (Some a) None)) ≡ is_there (cond tie (suc n) n)
kept_by None a n true is = refl
kept_by None a n false is = is
kept_by (Some x) a n true is = refl
kept_by (Some x) a n false is = is

with-kept : (g : Gathered) (done : List AnswerTree) (a : AnswerTree) → Told g done
    → (k : Key) → is_some (find_answer k (with_answer g a).kept) ≡ is_there (count_for k (a ∷ done))
with-kept g done a so_far k =
    ap is_some (with-found k g a)
    ∙ kept_by (find_answer k g.kept) a (count_for k done) (is_eq (key_cmp k (key_of a))) (so_far.kept k)

-- a count is no less with one answer more, and greater where the answer is for the attempt
no_less : (n : ℕ) (tie : Bool) → 2 ≤ n → 2 ≤ cond tie (suc n) n
no_less n true le = omega (arith, le)
no_less n false le = le

at_least_one : (n : ℕ) → true ≡ is_there n → 1 ≤ n
at_least_one zero is = cc
at_least_one (suc n) is = omega arith

itself : (a : AnswerTree) (done : List AnswerTree) → 1 ≤ count_for (key_of a) done → 2 ≤ count_for (key_of a) (a ∷ done)
itself a done le = rw (tied_itself key_cmp_total (key_of a)) (omega (arith, le))

-- an attempt with two answers is the new one's, or had two before
double_before : (j : Key) (a : AnswerTree) (done : List AnswerTree) (o : Ordering) → key_cmp j (key_of a) ≡ o → 2 ≤ count_for j (a ∷ done)
    → (P : Type 0) → (key_cmp j (key_of a) ≡ Equal → P) → (2 ≤ count_for j done → P) → P
double_before j a done Equal is le P tied others = tied is
double_before j a done Less is le P tied others = others (rw is at le)
double_before j a done Greater is le P tied others = others (rw is at le)

reversed : (j k : Key) (o : Ordering) → key_cmp j k ≡ o → key_cmp k j ≡ ordering_reverse o
reversed j k o is = key_cmp_total.antisymm k j ∙ ap ordering_reverse is

-- ---- one more answer for an attempt that has one

first_double : (a : AnswerTree) (done : List AnswerTree) → 1 ≤ count_for (key_of a) done → ((k : Key) → count_for k done ≤ 1)
    → IsLeastDouble (a ∷ done) (key_of a)
first_double a done known none = record {
  double = itself a done known;
  least = λ j le less. double_before j a done (key_cmp j (key_of a)) refl le ⊥
      (λ tie. cc)
      (λ two. let one = none j in omega (arith, two, one));
}

lesser_double : (a b : AnswerTree) (done : List AnswerTree) (o : Ordering) → answer_cmp b a ≡ o → 1 ≤ count_for (key_of a) done
    → IsLeastDouble done (key_of b) → IsLeastDouble (a ∷ done) (key_of (match_ordering o b b a))
lesser_double a b done Less is known old = record {
  double = no_less (count_for (key_of b) done) (is_eq (key_cmp (key_of b) (key_of a))) old.double;
  least = λ j le less. double_before j a done (key_cmp j (key_of a)) refl le ⊥
      (λ tie. let turned = reversed (key_of b) (key_of a) Less is in
      let same = key_cmp_total.congr j (key_of a) (key_of b) tie in cc)
      (λ two. old.least j two less);
}
lesser_double a b done Equal is known old = record {
  double = no_less (count_for (key_of b) done) (is_eq (key_cmp (key_of b) (key_of a))) old.double;
  least = λ j le less. double_before j a done (key_cmp j (key_of a)) refl le ⊥
      (λ tie. let turned = reversed (key_of b) (key_of a) Equal is in
      let same = key_cmp_total.congr j (key_of a) (key_of b) tie in cc)
      (λ two. old.least j two less);
}
lesser_double a b done Greater is known old = record {
  double = itself a done known;
  least = λ j le less. double_before j a done (key_cmp j (key_of a)) refl le ⊥
      (λ tie. cc)
      (λ two. old.least j two (key_cmp_total.trans j (key_of a) (key_of b) less (reversed (key_of b) (key_of a) Greater is)));
}

known-told : (g : Gathered) (done : List AnswerTree) (a : AnswerTree) (twice : Option AnswerTree) → g.twice ≡ twice → Told g done
    → 1 ≤ count_for (key_of a) done → IsLeastDouble (a ∷ done) (key_of (lesser_twice twice a))
known-told g done a None is so_far known = first_double a done known (so_far.none is)
known-told g done a (Some b) is so_far known = lesser_double a b done (answer_cmp b a) refl known (so_far.told b is)

-- ---- one for an attempt that has none

new-told : (g : Gathered) (done : List AnswerTree) (a b : AnswerTree) → count_for (key_of a) done ≡ 0 → IsLeastDouble done (key_of b)
    → IsLeastDouble (a ∷ done) (key_of b)
new-told g done a b new old = record {
  double = no_less (count_for (key_of b) done) (is_eq (key_cmp (key_of b) (key_of a))) old.double;
  least = λ j le less. double_before j a done (key_cmp j (key_of a)) refl le ⊥
      (λ tie. let same = tied-count j (key_of a) done tie in let two : 2 ≤ suc (count_for j done) = rw tie at le
      in omega (arith, two, same, new))
      (λ two. old.least j two less);
}

new_none : (n : ℕ) (tie : Bool) → (tie ≡ true → n ≡ 0) → n ≤ 1 → cond tie (suc n) n ≤ 1
new_none n true zero_there le = let none = zero_there refl in omega (arith, none)
new_none n false zero_there le = le

with-none : (done : List AnswerTree) (a : AnswerTree) → count_for (key_of a) done ≡ 0 → ((k : Key) → count_for k done ≤ 1)
    → (k : Key) → count_for k (a ∷ done) ≤ 1
with-none done a new none k =
    new_none (count_for k done) (is_eq (key_cmp k (key_of a)))
    (λ tie. tied-count k (key_of a) done (is_tie (key_cmp k (key_of a)) tie) ∙ new) (none k)

-- ---- together

none_there : (n : ℕ) → false ≡ is_there n → n ≡ 0
none_there zero is = refl
none_there (suc n) is = cc

abbrev Step : Bool → Gathered → AnswerTree → Gathered
Step known g a =
    cond known (record { kept = g.kept; twice = Some (lesser_twice g.twice a) })
    (record { kept = insert_key answer_cmp g.kept a; twice = g.twice })

step_told : (g : Gathered) (done : List AnswerTree) (a : AnswerTree) (known : Bool) → is_some (find_answer (key_of a) g.kept) ≡ known
    → Told g done
    → (b : AnswerTree) → (Step known g a).twice ≡ Some b → IsLeastDouble (a ∷ done) (key_of b)
step_told g done a true is so_far b told =
    let there = at_least_one (count_for (key_of a) done) (sym is ∙ so_far.kept (key_of a)) in
    let same : lesser_twice g.twice a ≡ b = cc in
    subst (λ (c : AnswerTree). IsLeastDouble (a ∷ done) (key_of c)) same (known-told g done a g.twice refl so_far there)
step_told g done a false is so_far b told =
    new-told g done a b (none_there (count_for (key_of a) done) (sym is ∙ so_far.kept (key_of a))) (so_far.told b told)

step_none : (g : Gathered) (done : List AnswerTree) (a : AnswerTree) (known : Bool) → is_some (find_answer (key_of a) g.kept) ≡ known
    → Told g done
    → (Step known g a).twice ≡ None → (k : Key) → count_for k (a ∷ done) ≤ 1
step_none g done a true is so_far none k = absurd (cc)
step_none g done a false is so_far none k =
    with-none done a (none_there (count_for (key_of a) done) (sym is ∙ so_far.kept (key_of a))) (so_far.none none) k

with-told : (g : Gathered) (done : List AnswerTree) (a : AnswerTree) → Told g done → Told (with_answer g a) (a ∷ done)
with-told g done a so_far =
    let known = list_any (λ b. is_eq (answer_cmp a b)) g.kept in
    let found = sym (known-is_found a g.kept) in
    record {
      kept = with-kept g done a so_far;
      told = λ b told. step_told g done a known found so_far b told;
      none = λ none. step_none g done a known found so_far none;
    }

onto-told : (g : Gathered) (done answers : List AnswerTree) → Told g done → Told (gathered_onto g answers) (before done answers)
onto-told g done [] so_far = so_far
onto-told g done (a ∷ answers) so_far = onto-told (with_answer g a) (a ∷ done) answers (with-told g done a so_far)

nothing-told : Told nothing_gathered []
nothing-told = record { kept = λ k. refl; told = λ a told. absurd (cc); none = λ none k. omega arith }

all-told : (answers : List AnswerTree) → Told (gathered answers) (before [] answers)
all-told answers = onto-told nothing_gathered [] answers nothing-told

pub told-least : (answers : List AnswerTree) (a : AnswerTree) → (gathered answers).twice ≡ Some a → IsLeastDouble answers (key_of a)
told-least answers a told =
    let all = (all-told answers).told a told in
    record {
      double = let same = count-all (key_of a) answers in let two = all.double in omega (arith, two, same);
      least = λ j le. all.least j (let same = count-all j answers in omega (arith, le, same));
    }

pub told-none : (answers : List AnswerTree) → (gathered answers).twice ≡ None → (k : Key) → count_for k answers ≤ 1
told-none answers none k = let same = count-all k answers in let one = (all-told answers).none none k in omega (arith, one, same)
