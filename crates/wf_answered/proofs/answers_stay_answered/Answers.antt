use Rattle.std.proofs.Common.{◌≡◌, Bool, true, false, cond, is_eq, Option, Some, refl, ap, ◌∙◌}
use Rattle.wf_lists.proofs.KeyOrderLemmas.{find-put}
use Rattle.wf_layers.specs.Machine.{has_ended}
use Rattle.wf_answers.specs.Added.{with_added}
use Rattle.wf_answers.specs.AnswerTree.{AnswerTree, Key, find_answer, key_cmp, key_cmp_total, key_of}
use Rattle.wf_meant.specs.Look.{instance}
use Rattle.wf_answered.proofs.answers_stay_answered.Goals as goal

-- what is found is what was, or the added one
either : (tied : Bool) (a : AnswerTree) (found : Option AnswerTree) → has_ended found ≡ true → has_ended (cond tied (Some a) found) ≡ true
either true a found is = refl
either false a found is = is

pub returns-clause-stay : goal.returns-clause-stay
returns-clause-stay c = λ d inputs a x attempt is.
    let k : Key = (instance d x, attempt) in
    ap has_ended (find-put key_cmp_total key_of k a inputs.answers)
    ∙ either (is_eq (key_cmp k (key_of a))) a (find_answer k inputs.answers) is

pub returns-clause-added : goal.returns-clause-added
returns-clause-added c = λ d inputs a x attempt same.
    ap (λ k. has_ended (find_answer k (with_added inputs a).answers)) same
    ∙ ap has_ended (c.an_added_answer_is_found.ensures.found inputs a)

pub returns-clause-others : goal.returns-clause-others
returns-clause-others c = λ d inputs a x attempt apart.
    ap has_ended (c.an_added_answer_is_found.ensures.others inputs a (instance d x, attempt) apart)
