-- Two states that are behind each other are the same; so a quiet state is one.
use Rattle.std.proofs.Common.{◌≡◌, ◌+◌, ℕ, List, [], ◌∷◌, ◌++◌, length, Option, Some, ◌⊎◌, inl, inr, ⊎_elim, refl, sym, ap, ap₂, ◌∙◌, subst, arith}
use Rattle.std.proofs.lemmas.Option.{none-some}
use Rattle.wf_layers.specs.Definition.{Graph}
use Rattle.wf_layers.specs.Address.{Address}
use Rattle.wf_layers.specs.Source.{Source}
use Rattle.wf_layers.specs.Meaning.{meaning}
use Rattle.wf_layers.specs.Bound.{left}
use Rattle.wf_layers.specs.Facts.{Facts}
use Rattle.wf_layers.specs.Laws.{IsInstance}
use Rattle.wf_layers.specs.Machine.{Running, Opening, State, Event, fresh}
use Rattle.wf_layers.proofs.Bounded.{events_are_counted}
use Rattle.wf_kept.specs.Reached.{IsReached, begun}
use Rattle.wf_kept.proofs.Informed.{reached_facts}
use Rattle.wf_kept.proofs.Known.{goes_on}
use Rattle.wf_quiet.specs.Quiet.{Answers, AnsweredRun, AreAmong, IsQuiet, IsQuietState, KnowsMore}
use Rattle.wf_quiet.proofs.Answered.{is_run, joins}
use Rattle.wf_quiet.proofs.More.{run_goes_on}
use Rattle.wf_one_quiet.specs.Behind.{HasTried, HasGone, IsBehind}
use Rattle.wf_one_quiet.proofs.Ahead.{ahead, some_or}
use Rattle.wf_one_quiet.proofs.Passed.{gone_on, stays_behind}
use Rattle.wf_one_quiet.proofs.Taken.{goes_further, runs_on, still_behind, taken_passed}

-- an entry that each of two has where the other has it
same_entry : {A : Type 0} (o p : Option A) → ((w : A) → o ≡ Some w → p ≡ Some w) → ((w : A) → p ≡ Some w → o ≡ Some w) → o ≡ p
same_entry o p to back =
    ⊎_elim
    (λ w. w.1 ∙ sym (to w.0 w.1))
    (λ none. ⊎_elim (λ w. back w.0 w.1 ∙ sym w.1) (λ none'. none ∙ sym none') (some_or p))
    (some_or o)

module _ {Row Begun Decision Verdict : Type 0} (d : Graph) (depth : ℕ → ℕ) (m : Source Row Begun Decision Verdict) where
  -- TWO STATES THAT ARE BEHIND EACH OTHER

  module _ (s q : State Row Begun Decision Verdict) (rs : IsReached d depth m s) (rq : IsReached d depth m q) (behind : IsBehind s q)
      (back : IsBehind q s) where
    fs : Facts d m (meaning m depth d) s
    fs = reached_facts d depth m s rs

    same_leaf : (x : Address) (w : Running Begun) → s.running x ≡ Some w → q.running x ≡ Some w
    same_leaf x w e =
        ⊎_elim
        (λ row. absurd (none-some row.0 (sym (fs.no_row x (inl (w, e))) ∙ back.rows x row.0 row.1)))
        (λ h. h.1 ∙ ap Some (equal h.0 h.2 (runs_on d depth m q s rs back x h.0 w h.1 e)))
        (behind.running x w e)
      where
        equal : (v : Running Begun) → HasTried w v → HasTried v w → v ≡ w
        equal v on back' =
            let le = on.1 in let ge = back'.1 in
            ap₂ (λ (b : Begun) (t : ℕ). record { begun = b; tries = t }) on.0 (omega (arith, le, ge))

    same_opening : (x : Address) (w : Opening Decision Verdict) → s.opens x ≡ Some w → q.opens x ≡ Some w
    same_opening x w e =
        ⊎_elim
        (λ row. absurd (none-some row.0 (sym (fs.no_row x (inr (w, e))) ∙ back.rows x row.0 row.1)))
        (λ h. h.1 ∙ ap Some (equal h.0 h.2 (goes_further d depth m q s rs back x h.0 w h.1 e)))
        (behind.opens x w e)
      where
        equal : (v : Opening Decision Verdict) → HasGone w v → HasGone v w → v ≡ w
        equal v on back' =
            let next : v.next ≡ w.next = let le = gone_on w v on in let ge = gone_on v w back' in omega (arith, le, ge) in
            let tested : v.test ≡ w.test = same_entry v.test w.test (last v w back' next) (last w v on (sym next)) in
            ap (λ (t : Option Verdict). record { decision = v.decision; next = v.next; test = t }) tested
            ∙ ap₂ (λ (b : Decision) (c : ℕ). record { decision = b; next = c; test = w.test }) on.0 next
          where
            last : (a b : Opening Decision Verdict) → HasGone a b → a.next ≡ b.next → (t : Verdict) → a.test ≡ Some t → b.test ≡ Some t
            last a b gone same t e =
                ⊎_elim (λ lt. absurd (omega (arith, lt, same))) (λ h. h.1 t e) gone.1

  -- so they are equal
  pub equal_states : (s q : State Row Begun Decision Verdict) → IsReached d depth m s → IsReached d depth m q → IsBehind s q → IsBehind q s
      → s ≡ q
  equal_states s q rs rq behind back = λ k. record { rows = λ x. rows x k; running = λ x. running x k; opens = λ x. opens x k }
    where
      rows : (x : Address) → s.rows x ≡ q.rows x
      rows x = same_entry (s.rows x) (q.rows x) (behind.rows x) (back.rows x)

      running : (x : Address) → s.running x ≡ q.running x
      running x = same_entry (s.running x) (q.running x) (same_leaf s q rs rq behind back x) (same_leaf q s rq rs back behind x)

      opens : (x : Address) → s.opens x ≡ q.opens x
      opens x = same_entry (s.opens x) (q.opens x) (same_opening s q rs rq behind back x) (same_opening q s rq rs back behind x)

  module _ (answered : Answers) where
    -- WHAT A RUN REACHES is behind what is quiet, if it began so
    module _ (q : State Row Begun Decision Verdict) (rq : IsReached d depth m q) (quiet : IsQuiet answered d m q) where
      pub runs_stay_behind : (s : State Row Begun Decision Verdict) → IsReached d depth m s → IsBehind s q → (es : List Event)
          (s' : State Row Begun Decision Verdict) → AnsweredRun answered d m s es s' → IsBehind s' q
      runs_stay_behind s rs behind [] s' run = subst (λ z. IsBehind z q) (sym run) behind
      runs_stay_behind s rs behind (e ∷ es) s' (mid, has, st, run) =
          let rm = goes_on d depth m s rs e mid st in
          runs_stay_behind mid rm
          (⊎_elim
          (λ passed. stays_behind d depth m s rs q rq behind e mid rm st passed)
          (λ next. absurd (quiet e next.0 next.2 next.1))
          (ahead answered d depth m s rs q rq behind e mid st has))
          es s' run

    -- A STATE THAT A RUN IS BEHIND as it begins can go on so that it is behind at its end, too: by the run's events, but for those passed
    pub catches_up : (s : State Row Begun Decision Verdict) → IsReached d depth m s → (es : List Event)
        (s' : State Row Begun Decision Verdict) → AnsweredRun answered d m s es s' → (q : State Row Begun Decision Verdict)
        → IsReached d depth m q → IsBehind s q
        → (more : List Event) × (q' : State Row Begun Decision Verdict) × AnsweredRun answered d m q more q' × IsReached d depth m q'
        × IsBehind s' q'
    catches_up s rs [] s' run q rq behind = ([], q, refl, rq, subst (λ z. IsBehind z q) (sym run) behind)
    catches_up s rs (e ∷ es) s' (mid, has, st, run) q rq behind =
        let rm = goes_on d depth m s rs e mid st in
        ⊎_elim
        (λ passed. catches_up mid rm es s' run q rq (stays_behind d depth m s rs q rq behind e mid rm st passed))
        (λ next.
        let rn = goes_on d depth m q rq e next.0 next.2 in
        let ih = catches_up mid rm es s' run next.0 rn
        (stays_behind d depth m s rs next.0 rn (still_behind d depth m s q rq behind e next.0 rn next.2) e mid rm st
        (taken_passed d depth m s q rq behind e next.0 next.2)) in
        (e ∷ ih.0, ih.1, (next.0, next.1, next.2, ih.2), ih.3, ih.4))
        (ahead answered d depth m s rs q rq behind e mid st has)

-- FROM A FRESH STATE

module _ {Row Begun Decision Verdict : Type 0} (answered : Answers) (d : Graph) (m : Source Row Begun Decision Verdict) (depth : ℕ → ℕ)
    (is : IsInstance d m depth) where
  at_first : IsReached d depth m fresh
  at_first = begun [] is refl

  fresh_behind : (q : State Row Begun Decision Verdict) → IsBehind fresh q
  fresh_behind q = record {
    rows = λ x r e. absurd (none-some r e);
    running = λ x w e. absurd (none-some w e);
    opens = λ x w e. absurd (none-some w e);
  }

  reached : (es : List Event) (s : State Row Begun Decision Verdict) → AnsweredRun answered d m fresh es s → IsReached d depth m s
  reached es s run = begun es is (is_run answered d m fresh es s run)

  pub answered_states_are_behind : (q : State Row Begun Decision Verdict) → IsQuietState answered d m q → (es : List Event)
      (s : State Row Begun Decision Verdict) → AnsweredRun answered d m fresh es s → IsBehind s q
  answered_states_are_behind q quiet es s run =
      runs_stay_behind d depth m answered q (reached quiet.events q quiet.run) quiet.quiet fresh at_first (fresh_behind q) es s run

  pub one_quiet_state : (s q : State Row Begun Decision Verdict) → IsQuietState answered d m s → IsQuietState answered d m q → s ≡ q
  one_quiet_state s q qs qq =
      equal_states d depth m s q (reached qs.events s qs.run) (reached qq.events q qq.run)
      (answered_states_are_behind q qq qs.events s qs.run) (answered_states_are_behind s qs qq.events q qq.run)

  -- with as many events, since what is left after them is the same
  pub as_many_events : (s q : State Row Begun Decision Verdict) (qs : IsQuietState answered d m s) (qq : IsQuietState answered d m q)
      → length qs.events ≡ length qq.events
  as_many_events s q qs qq =
      let here = events_are_counted d m depth is qs.events s (is_run answered d m fresh qs.events s qs.run) in
      let there' = events_are_counted d m depth is qq.events q (is_run answered d m fresh qq.events q qq.run) in
      let same = ap (λ z. left m (meaning m depth d) z d []) (one_quiet_state s q qs qq) in
      omega (arith, here, there', same)

  pub to_the_quiet_state : (q : State Row Begun Decision Verdict) → IsQuietState answered d m q → (es : List Event)
      (s : State Row Begun Decision Verdict) → AnsweredRun answered d m fresh es s → (more : List Event) × AnsweredRun answered d m s more q
  to_the_quiet_state q quiet es s run =
      let rs = reached es s run in let rq = reached quiet.events q quiet.run in
      let on = catches_up d depth m answered fresh at_first quiet.events q quiet.run s rs (fresh_behind s) in
      let behind = runs_stay_behind d depth m answered q rq quiet.quiet s rs (answered_states_are_behind q quiet es s run) on.0 on.1 on.2 in
      (on.0, subst (λ z. AnsweredRun answered d m s on.0 z) (equal_states d depth m on.1 q on.3 rq behind on.4) on.2)

-- AS MORE ANSWERS COME

module _ {Row Begun Decision Verdict : Type 0} (answered more_answered : Answers) (d : Graph)
    (m more : Source Row Begun Decision Verdict) (knows : KnowsMore answered m more) (among : AreAmong answered more_answered)
    (es : List Event) (s : State Row Begun Decision Verdict) (run : AnsweredRun answered d m fresh es s) (fs : List Event)
    (q : State Row Begun Decision Verdict) (on : AnsweredRun more_answered d more s fs q) (quiet : IsQuiet more_answered d more q) where
  pub goes_on_to_quiet : IsQuietState more_answered d more q
  goes_on_to_quiet = record {
    events = es ++ fs;
    run = joins more_answered d more fresh es s (run_goes_on answered d m more knows more_answered among es s run) fs q on;
    quiet = quiet;
  }
