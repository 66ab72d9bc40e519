-- One answer more, over what a set holds.
use Rattle.std.proofs.Common.{◌≡◌, List, true, false, is_eq, map, Option, Some, ap, sym, ◌∙◌, refl}
use Rattle.std.specs.BTreeSet.{insert_key}
use Rattle.std.specs.List.{list_any}
use Rattle.wf_lists.proofs.KeyOrderLemmas.{insert_key-map, list_any-map}
use Rattle.wf_answers.specs.AnswerSeen.{answer_tree, answer_order}
use Rattle.wf_answers.specs.AnswerTree.{AnswerTree, answer_cmp}
use Rattle.wf_answers.specs.Gathered.{Gathered, with_answer, lesser_twice}
use Rattle.wf_answers.specs.declared.answer.Answer.{Answer}

module _ (held : List Answer) (twice : Option AnswerTree) where
  pub with_known : (a : AnswerTree) → list_any (λ b. is_eq (answer_cmp a (answer_tree b))) held ≡ true
      → record { kept = map answer_tree held; twice = Some (lesser_twice twice a) }
      ≡ with_answer (record { kept = map answer_tree held; twice = twice }) a
  with_known a known = rw (sym (list_any-map answer_cmp answer_tree (λ b. is_eq (answer_cmp a b)) held) ∙ known) refl

  pub with_new : (a : Answer) → list_any (λ b. is_eq (answer_cmp (answer_tree a) (answer_tree b))) held ≡ false
      → record { kept = map answer_tree (insert_key answer_order held a); twice = twice }
      ≡ with_answer (record { kept = map answer_tree held; twice = twice }) (answer_tree a)
  with_new a new =
      rw (sym (list_any-map answer_cmp answer_tree (λ b. is_eq (answer_cmp (answer_tree a) b)) held) ∙ new)
      (ap (λ (bs : List AnswerTree). record { kept = bs; twice = twice }) (insert_key-map answer_cmp answer_tree held a))

abbrev pub noted : List AnswerTree → AnswerTree → Gathered
noted kept a = record { kept = kept; twice = Some a }

abbrev pub holding : Option AnswerTree → List Answer → Gathered
holding twice held = record { kept = map answer_tree held; twice = twice }
