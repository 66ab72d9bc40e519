-- What is found once an answer was added, and that the order in which answers are added makes no difference.
use Rattle.std.proofs.Common.{◌≡◌, ◌≢◌, ℕ, List, [], ◌∷◌, map, Option, Some, cond, is_eq, Ordering, Less, Equal, Greater, refl, sym, ap, ◌∙◌}
use Rattle.std.proofs.lemmas.Cmp.{tied_itself}
use Rattle.std.proofs.lemmas.Map.Lookups.{exact_bytes, exact_pairs, exact_unsigned}
use Rattle.std.specs.Cmp.Lexicographic.{slice_cmp}
use Rattle.std.specs.Ordering.{match_ordering, nat_cmp}
use Rattle.wf_lists.specs.KeyOrder.{IsInKeyOrder, put_key}
use Rattle.wf_lists.proofs.KeyOrderLemmas.{find-put, in_order-put, same_entries}
use Rattle.wf_val.specs.Address.{address_cmp}
use Rattle.wf_val.specs.NameOrder.{bytes_cmp}
use Rattle.wf_val.specs.declared.address.Address.{Address}
use Rattle.wf_answers.specs.Added.{with_added}
use Rattle.wf_answers.specs.AnswerSeen.{answer_order, answer_tree}
use Rattle.wf_answers.specs.AnswerTree.{AnswerTree, Key, find_answer, key_cmp, key_cmp_total, key_of}
use Rattle.wf_answers.specs.Inputs.{InputsTree}
use Rattle.wf_answers.specs.declared.answer.Answer.{Answer}

-- what is put among answers as they are held is seen as put among those seen
pub put_seen : (a : Answer) (held : List Answer)
    → map answer_tree (put_key answer_order (λ b. b) a held) ≡ put_key key_cmp key_of (answer_tree a) (map answer_tree held)
put_seen a [] = refl
put_seen a (b ∷ held) =
    elim (answer_order a b) as (λ o. map answer_tree (match_ordering o (a ∷ b ∷ held) (a ∷ held) (b ∷ put_key answer_order (λ b. b) a held))
    ≡ match_ordering o (answer_tree a ∷ answer_tree b ∷ map answer_tree held) (answer_tree a ∷ map answer_tree held)
    (answer_tree b ∷ put_key key_cmp key_of (answer_tree a) (map answer_tree held))) [
      | Less ↦ refl
      | Equal ↦ refl
      | Greater ↦ ap (λ bs. answer_tree b ∷ bs) (put_seen a held)
    ]

-- ---- attempts that tie are one

exact_address : (a b : Address) → address_cmp a b ≡ Equal → a ≡ b
exact_address a b tie =
    ap (λ (p : List ℕ × List ℕ). record { name = p.0; at = p.1 })
    (exact_pairs bytes_cmp (slice_cmp nat_cmp) exact_bytes exact_bytes (a.name, a.at) (b.name, b.at) tie)

exact_key : (j k : Key) → key_cmp j k ≡ Equal → j ≡ k
exact_key = exact_pairs address_cmp nat_cmp exact_address exact_unsigned

-- ---- what is found

pub added-found : (i : InputsTree) (a : AnswerTree) → find_answer (key_of a) (with_added i a).answers ≡ Some a
added-found i a = find-put key_cmp_total key_of (key_of a) a i.answers ∙ rw (tied_itself key_cmp_total (key_of a)) refl

passed : (o : Ordering) (a : AnswerTree) (found : Option AnswerTree) → o ≢ Equal → cond (is_eq o) (Some a) found ≡ found
passed Less a found apart = refl
passed Equal a found apart = absurd (apart refl)
passed Greater a found apart = refl

pub added-untied : (i : InputsTree) (a : AnswerTree) (k : Key) → key_cmp k (key_of a) ≢ Equal
    → find_answer k (with_added i a).answers ≡ find_answer k i.answers
added-untied i a k apart =
    find-put key_cmp_total key_of k a i.answers ∙ passed (key_cmp k (key_of a)) a (find_answer k i.answers) apart

pub added-others : (i : InputsTree) (a : AnswerTree) (k : Key) → k ≢ key_of a
    → find_answer k (with_added i a).answers ≡ find_answer k i.answers
added-others i a k other = added-untied i a k (λ tie. other (exact_key k (key_of a) tie))

-- ---- in order, and in any order

pub added-in_order : (i : InputsTree) (a : AnswerTree) → IsInKeyOrder key_cmp key_of i.answers
    → IsInKeyOrder key_cmp key_of (with_added i a).answers
added-in_order i a order = in_order-put key_cmp_total key_of a i.answers order

-- of two answers for different attempts one at most is for the attempt k
swapped : (k : Key) (a b : AnswerTree) (found : Option AnswerTree) → key_of a ≢ key_of b
    → (o p : Ordering) → key_cmp k (key_of a) ≡ o → key_cmp k (key_of b) ≡ p
    → cond (is_eq p) (Some b) (cond (is_eq o) (Some a) found) ≡ cond (is_eq o) (Some a) (cond (is_eq p) (Some b) found)
swapped k a b found other Equal Equal is_a is_b = absurd (other (sym (exact_key k (key_of a) is_a) ∙ exact_key k (key_of b) is_b))
swapped k a b found other Equal Less is_a is_b = refl
swapped k a b found other Equal Greater is_a is_b = refl
swapped k a b found other Less p is_a is_b = refl
swapped k a b found other Greater p is_a is_b = refl

module _ (kept : List AnswerTree) where
  abbrev both : AnswerTree → AnswerTree → List AnswerTree
  both a b = put_key key_cmp key_of b (put_key key_cmp key_of a kept)

  both-found : (k : Key) (a b : AnswerTree)
      → find_answer k (both a b)
      ≡ cond (is_eq (key_cmp k (key_of b))) (Some b) (cond (is_eq (key_cmp k (key_of a))) (Some a) (find_answer k kept))
  both-found k a b =
      find-put key_cmp_total key_of k b (put_key key_cmp key_of a kept)
      ∙ ap (cond (is_eq (key_cmp k (key_of b))) (Some b)) (find-put key_cmp_total key_of k a kept)

  both-in_order : (a b : AnswerTree) → IsInKeyOrder key_cmp key_of kept → IsInKeyOrder key_cmp key_of (both a b)
  both-in_order a b order =
      in_order-put key_cmp_total key_of b (put_key key_cmp key_of a kept) (in_order-put key_cmp_total key_of a kept order)

  both-same : (a b : AnswerTree) → IsInKeyOrder key_cmp key_of kept → key_of a ≢ key_of b → both a b ≡ both b a
  both-same a b order other =
      same_entries key_cmp_total key_of (both a b) (both b a) (both-in_order a b order) (both-in_order b a order)
      (λ k. both-found k a b
      ∙ swapped k a b (find_answer k kept) other (key_cmp k (key_of a)) (key_cmp k (key_of b)) refl refl
      ∙ sym (both-found k b a))

abbrev answered : InputsTree → List AnswerTree → InputsTree
answered i answers = record {
  run = i.run;
  seed = i.seed;
  moment = i.moment;
  trigger = i.trigger;
  outputs = i.outputs;
  parameters = i.parameters;
  answers = answers;
}

pub added-in_any_order : (i : InputsTree) (a b : AnswerTree) → IsInKeyOrder key_cmp key_of i.answers → key_of a ≢ key_of b
    → with_added (with_added i a) b ≡ with_added (with_added i b) a
added-in_any_order i a b order other = ap (answered i) (both-same i.answers a b order other)
