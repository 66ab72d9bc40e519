-- WHAT AN ADDED ANSWER LEAVES AS IT IS: all but what attempts come to that had no answer.
use Rattle.std.proofs.Common.{◌≡◌, ◌≢◌, ℕ, zero, suc, ◌≤◌, true, List, [], ◌∷◌, ◌++◌, length, Option, Some, None, nat_eq, nat_lt}
use Rattle.std.proofs.Common.{refl, sym, ap, ◌∙◌, subst, arith, true≢false}
use Rattle.wf_val.specs.Address.{address_text}
use Rattle.wf_val.specs.ValueTree.{object, no_members}
use Rattle.wf_look.specs.Told.{Told}
use Rattle.wf_layers.specs.Address.{Address, Table, address}
use Rattle.wf_layers.specs.Answered.{with_leaves}
use Rattle.wf_layers.specs.Machine.{has_ended}
use Rattle.wf_retry.specs.declared.policy.Policy.{Policy}
use Rattle.wf_def.specs.ActionTree.{ActionTree, action_kind, action_name}
use Rattle.wf_def.specs.AllActions.{numbered}
use Rattle.wf_def.specs.DefTree.{DefTree}
use Rattle.wf_answers.specs.Added.{with_added}
use Rattle.wf_answers.specs.AnswerTree.{AnswerTree, Key, find_answer, key_of}
use Rattle.wf_answers.specs.Inputs.{InputsTree}
use Rattle.wf_meant.specs.Starts.{StartTree}
use Rattle.wf_record.specs.Record.{Row}
use Rattle.wf_record.specs.declared.attempt.Try.{Try}
use Rattle.wf_connect.specs.Last as attempts
use Rattle.wf_connect.specs.Last.{Answered, IsLast, answered_at, last_attempt}
use Rattle.wf_meant.specs.Decisions.{DecisionTree}
use Rattle.wf_meant.specs.Verdicts.{VerdictTree}
use Rattle.wf_meant.specs.Done.{DoneTree}
use Rattle.wf_meant.specs.Leaf as leaf
use Rattle.wf_meant.specs.Leaf.{BegunTree, acted, calling, done_by}
use Rattle.wf_meant.specs.Tracked.{tracked_value, with_own}
use Rattle.wf_meant.specs.Environment.{Environment, facts_of, fresh}
use Rattle.wf_meant.specs.Containers.{closed, tested}
use Rattle.wf_meant.specs.Look.{Item, decided_by, instance, item_in, items_from, name_of, told_at, told_by, told_in_test, told_within}
use Rattle.wf_meant.specs.Points.{point_of, point_of_test}
use Rattle.wf_meant.specs.Rows.{row_of, view_of}
use Rattle.wf_meant.specs.Source.{begun, close_of, finished, source, test_of, tracked_of, tries_of, with_tracked}
use Rattle.wf_quiet.specs.Quiet.{KnowsMore, came}
use Rattle.wf_answered.specs.Answered.{answered}
use Rattle.wf_answered.proofs.LastLemmas.{known_so_far, same_ending, same_tries}

-- what the laws below say
pub record Laws : Type 0 where
  pub others : (i : InputsTree) (a : AnswerTree) (k : Key) → k ≢ key_of a
      → find_answer k (with_added i a).answers ≡ find_answer k i.answers
  pub last : (policy : Policy) (answers : Answered) → IsLast policy answers (last_attempt policy answers)
  pub kept : (policy : Policy) (answers : Answered) → length (attempts.tries_of policy answers) ≡ last_attempt policy answers

module _ (d : DefTree) (start : StartTree) (inputs : InputsTree) (a : AnswerTree) where
  abbrev few : Environment
  few = fresh start inputs

  abbrev more : Environment
  more = fresh start (with_added inputs a)

  -- ---- what is told is of the start and of the moment alone

  items_same : (known : Table Row) (ls js at : List ℕ) (held : List Item)
      → items_from d few ls js at held known ≡ items_from d more ls js at held known
  items_same known [] js at held = refl
  items_same known (l ∷ ls) [] at held = refl
  items_same known (l ∷ ls) (j ∷ js) at held =
      items_same known ls js (at ++ j ∷ [])
      (held ++ item_in d few (name_of d l) j (decided_by (numbered l d.top) (told_within d few (address l at) held known)))

  told_at_same : (x : Address) (known : Table Row) → told_at d few x known ≡ told_at d more x known
  told_at_same x known =
      let p = point_of d x in ap (λ (held : List Item). told_within d few x held known) (items_same known p.loops p.at [] [])

  told_in_test_same : (u : Address) (k : ℕ) (known : Table Row) → told_in_test d few u k known ≡ told_in_test d more u k known
  told_in_test_same u k known =
      let p = point_of_test d u k in
      ap (λ (held : List Item). told_by d start (facts_of few (name_of d u.name))
      (address_text (instance d (address u.name (u.at ++ k ∷ [])))) p held None known)
      (items_same known p.loops p.at [] [])

  -- ---- so it is the same what is begun, decided and tested, and with which row a container closes

  begun_same : (found : Option ActionTree) (x : Address) (known : Table Row) → begun d few found x known ≡ begun d more found x known
  begun_same None x known = refl
  begun_same (Some c) x known = ap (λ (l : Told). leaf.begun l (action_kind c)) (told_at_same x known)

  test_same : (found : Option ActionTree) (u : Address) (k : ℕ) (known : Table Row)
      → test_of d few found u k known ≡ test_of d more found u k known
  test_same None u k known = refl
  test_same (Some c) u k known = ap (λ (l : Told). tested l (action_kind c)) (told_in_test_same u k known)

  tracked_same : (c : ActionTree) (x : Address) (result : DoneTree) (tries : List Try) (known : Table Row)
      → with_tracked d few c x result tries known ≡ with_tracked d more c x result tries known
  tracked_same c x result tries known =
      let view = view_of (action_name c) (row_of result (object no_members) tries) in
      ap (λ (l : Told). row_of result (tracked_value (with_own view l) (tracked_of c)) tries) (told_at_same x known)

  close_same : (found : Option ActionTree) (x : Address) (o : DecisionTree) (n : ℕ) (v : Option VerdictTree) (known : Table Row)
      → close_of d few found x o n v known ≡ close_of d more found x o n v known
  close_same None x o n v known = refl
  close_same (Some c) x o n v known = tracked_same c x (closed (action_kind c) x.at o n v known) [] known

  but_for_leaves : source d few ≡ with_leaves (source d more) (source d few).tries (source d few).finish
  but_for_leaves = λ i. record (source d few) {
    start = λ x known. begun_same (numbered x.name d.top) x known i;
    decide = λ x known. decided_by (numbered x.name d.top) (told_at_same x known i);
    test = λ u k known. test_same (numbered u.name d.top) u k known i;
    close = λ x o n v known. close_same (numbered x.name d.top) x o n v known i;
  }

  -- ---- attempts, as far as they are answered

  module _ (laws : Laws) (new : find_answer (key_of a) inputs.answers ≡ None) where
    -- an answer that is there stays: it isn't for the attempt of the added one
    stays : (k : Key) (b : AnswerTree) → find_answer k inputs.answers ≡ Some b → find_answer k (with_added inputs a).answers ≡ Some b
    stays k b is = laws.others inputs a k (λ same. true≢false (ap has_ended (sym is ∙ found same ∙ new))) ∙ is
      where
        found : k ≡ key_of a → find_answer k inputs.answers ≡ find_answer (key_of a) inputs.answers
        found same = ap (λ j. find_answer j inputs.answers) same

    abbrev before : Address → Answered
    before x = answered_at inputs.answers (instance d x)

    abbrev after : Address → Answered
    after x = answered_at (with_added inputs a).answers (instance d x)

    stays_at : (x : Address) (k : ℕ) (b : AnswerTree) → before x k ≡ Some b → after x k ≡ Some b
    stays_at x k b = stays (instance d x, k) b

    -- as many as there are, for what is begun
    last_of : (policy : Policy) (answers : Answered) → IsLast policy answers (length (attempts.tries_of policy answers))
    last_of policy answers = subst (IsLast policy answers) (sym (laws.kept policy answers)) (laws.last policy answers)

    -- what is made has come once it is answered, if it is any
    answered_where_came : (x : Address) (n : ℕ) → 1 ≤ n → came (answered d inputs) x n ≡ true → has_ended (before x n) ≡ true
    answered_where_came x zero first is = absurd (omega (arith, first))
    answered_where_came x (suc c) first is = is

    abbrev Alike : (c n n' : ℕ) → Type 0
    Alike c n n' = (nat_lt c n ≡ nat_lt c n') × (nat_eq c n ≡ nat_eq c n')

    attempts_alike : (found : Option ActionTree) (x : Address) (b : BegunTree) (c : ℕ) → c ≤ length (tries_of d few found x b)
        → came (answered d inputs) x c ≡ true → Alike c (length (tries_of d few found x b)) (length (tries_of d more found x b))
    attempts_alike None x b c le is = (refl, refl)
    attempts_alike (Some act) x (acted result) c le is = (refl, refl)
    attempts_alike (Some act) x (calling taken policy) c le is =
        let n = length (attempts.tries_of policy (before x)) in
        let n' = length (attempts.tries_of policy (after x)) in
        let last = last_of policy (before x) in
        known_so_far policy (before x) (after x) (stays_at x) n n' last (last_of policy (after x)) c le
        (λ same. answered_where_came x n last.first (subst (λ k. came (answered d inputs) x k ≡ true) same is))

    row_same : (found : Option ActionTree) (x : Address) (b : BegunTree) (known : Table Row)
        → came (answered d inputs) x (length (tries_of d few found x b)) ≡ true
        → finished d few found x b known ≡ finished d more found x b known
    row_same None x b known is = refl
    row_same (Some act) x (acted result) known is = tracked_same act x result [] known
    row_same (Some act) x (calling taken policy) known is =
        let n = last_attempt policy (before x) in
        let last = laws.last policy (before x) in
        let has_come = subst (λ k. came (answered d inputs) x k ≡ true) (laws.kept policy (before x)) is in
        let ended = answered_where_came x n last.first has_come in
        tracked_same act x (done_by taken (attempts.ending policy (before x))) (attempts.tries_of policy (before x)) known
        ∙ ap (λ o. with_tracked d more act x (done_by taken o) (attempts.tries_of policy (before x)) known)
        (same_ending policy (before x) (after x) (stays_at x) last (laws.last policy (after x)) ended)
        ∙ ap (λ tries. with_tracked d more act x (done_by taken (attempts.ending policy (after x))) tries known)
        (same_tries policy (before x) (after x) (stays_at x) last (laws.last policy (after x)) ended)

    pub knows_more : KnowsMore (answered d inputs) (source d few) (source d more)
    knows_more = record {
      same = but_for_leaves;
      goes_on = λ x b c le is. (attempts_alike (numbered x.name d.top) x b c le is).0;
      ends = λ x b c le is. (attempts_alike (numbered x.name d.top) x b c le is).1;
      row = λ x b t is. row_same (numbered x.name d.top) x b t is;
    }
