-- Turns are steps, they go on, and a schedule leads to one list of events.
use Rattle.std.proofs.Common.{◌≡◌, ℕ, suc, ◌+◌, ◌%◌, List, [], ◌∷◌, ◌++◌, length, Some, slice_get, slice_index_or, refl, sym, ap, ◌∙◌, subst, arith}
use Rattle.wf_lists.specs.KeyOrder.{IsInKeyOrder, find_key}
use Rattle.wf_layers.specs.Address.{Address, address}
use Rattle.wf_layers.specs.Definition.{Kind, Leaf, Scope, Choice, Foreach, Until, Graph}
use Rattle.wf_layers.specs.Enabled.{events}
use Rattle.wf_layers.specs.Machine.{State, Event, Start, Try, End, Skip, Open, Begin, Test, Close, IsOver, MayTest, Run, Step, opened, place_of}
use Rattle.wf_layers.specs.Source.{Source}
use Rattle.wf_layers.proofs.ExampleRun.{after_event, begun, closed, ended, entered, last_of, skipped, tested, tried}
use Rattle.wf_kept.specs.Reached.{IsReached}
use Rattle.wf_kept.proofs.Informed.{kinds_are_known}
use Rattle.wf_kept.proofs.Known.{exact_there, goes_on}
use Rattle.wf_scheduled.specs.Turns.{AreEnabled, IsPicked, IsRun, Turn, Turns, address_cmp}
use Rattle.wf_scheduled.proofs.ListLemmas.{address_total, among_found, found_among, same_members}

module _ {Row Begun Decision Verdict : Type 0} (d : Graph) (m : Source Row Begun Decision Verdict) where
  -- ---- what is listed

  pub listed_is : (depth : ℕ → ℕ) (s : State Row Begun Decision Verdict) → IsReached d depth m s → (listed : List Event)
      → IsInKeyOrder address_cmp place_of listed → ((x : Address) → find_key address_cmp place_of x listed ≡ events m s d [] x)
      → AreEnabled d m s listed
  listed_is depth s reached listed order same =
      let exact = exact_there d depth m s reached in
      record {
        in_order = order;
        each = λ e a. (exact.only (place_of e) e (sym (same (place_of e)) ∙ among_found address_total place_of listed order e a)).1;
        all = λ e may. found_among address_total place_of (place_of e) listed e (same (place_of e) ∙ exact.each e may.0 may.1);
      }

  one_list : (s : State Row Begun Decision Verdict) (xs ys : List Event) → AreEnabled d m s xs → AreEnabled d m s ys → xs ≡ ys
  one_list s xs ys are are' =
      same_members address_total place_of xs ys are.in_order are'.in_order (λ e a. are'.all e (are.each e a))
      (λ e a. are.all e (are'.each e a))

  pub one_pick : (s : State Row Begun Decision Verdict) (place : ℕ) (e e' : Event) → IsPicked d m s place e → IsPicked d m s place e'
      → e ≡ e'
  one_pick s place e e' p q =
      let both : Some e ≡ Some e' = sym p.picked ∙ ap (λ l. slice_get l (place % length l))
      (one_list s p.listed q.listed p.enabled q.enabled)
      ∙ q.picked in
      cc

  -- ---- where a step leads

  module _ (depth : ℕ → ℕ) (s : State Row Begun Decision Verdict) (reached : IsReached d depth m s) where
    leads : (e : Event) (s' : State Row Begun Decision Verdict) → Step d m s e s' → s' ≡ after_event d m s e
    leads (Start n i) s' (after, de, pass, to) = to
    leads (Try n i) s' (w, e, lt, to) = to ∙ sym (ap (λ o. tried d m n i o s) e)
    leads (End n i) s' (w, e, all, to) = to ∙ sym (ap (λ o. ended d m n i o s) e)
    leads (Skip n i) s' (after, kind, de, fails, to) =
        to ∙ sym (ap (λ k. skipped d m n i k s) (kinds_are_known d depth m s reached n i after kind de.is_there).0)
    leads (Open n i) s' (after, kind, c, de, pass, to) =
        to ∙ sym (ap (λ k. entered d m n i k s) (kinds_are_known d depth m s reached n i after kind de.is_there).0)
    leads (Begin n i) s' (after, kind, w, th, e, may, to) = to ∙ sym (ap (λ o. begun d m n i o s) e)
    leads (Test n i) s' (after, kind, w, j, th, e, may, to) =
        to
        ∙ ap (λ k. record {
          rows = s.rows;
          running = s.running;
          opens = opened n i (Some (record { decision = w.decision; next = w.next; test = Some (m.test (address n i) k s.rows) })) s.opens;
        })
        (at_last kind may)
        ∙ sym (ap (λ o. tested d m n i o s) e)
      where
        at_last : (kd : Kind) → MayTest m kd i w s.rows j → j ≡ last_of d m w.next
        at_last Leaf may = absurd may
        at_last (Scope g) may = absurd may
        at_last (Choice bs) may = absurd may
        at_last (Foreach pace g) may = absurd may
        at_last (Until most g) may = sym (ap (last_of d m) may.0)
    leads (Close n i) s' (after, kind, w, th, e, may, to) =
        to
        ∙ sym (ap (λ k. closed d m n i k (s.opens (address n i)) s) (kinds_are_known d depth m s reached n i after kind th).0
        ∙ ap (λ o. closed d m n i (Some kind) o s) e)

    pub one_result : (e : Event) (s' s'' : State Row Begun Decision Verdict) → Step d m s e s' → Step d m s e s'' → s' ≡ s''
    one_result e s' s'' st st' = leads e s' st ∙ sym (leads e s'' st')

  -- ---- turns

  module _ (schedule : List ℕ) where
    pub steps_of : (k : ℕ) (s s' : State Row Begun Decision Verdict) (es : List Event) → Turns d m schedule k s es s' → Run d m s es s'
    steps_of k s s' [] turns = turns
    steps_of k s s' (e ∷ es) (mid, t, turns) = (mid, t.goes, steps_of (suc k) mid s' es turns)

    pub grow : (k : ℕ) (s mid s' : State Row Begun Decision Verdict) (es : List Event) (e : Event) → Turns d m schedule k s es mid
        → Turn d m schedule (k + length es) mid e s' → Turns d m schedule k s (es ++ e ∷ []) s'
    grow k s mid s' [] e turns t =
        let none : k + 0 ≡ k = omega arith in
        (s', subst (λ z. Turn d m schedule k z e s') turns (subst (λ j. Turn d m schedule j mid e s') none t), refl)
    grow k s mid s' (x ∷ es) e (next, first, turns) t =
        let same : k + suc (length es) ≡ suc k + length es = omega arith in
        (next, first, grow (suc k) next mid s' es e turns (subst (λ j. Turn d m schedule j mid e s') same t))

    one_run_from : (depth : ℕ → ℕ) (k : ℕ) (s last last' : State Row Begun Decision Verdict) (es es' : List Event) → IsReached d depth m s
        → Turns d m schedule k s es last → IsOver d m last → Turns d m schedule k s es' last' → IsOver d m last' → es ≡ es'
    one_run_from depth k s last last' [] [] reached turns over turns' over' = refl
    one_run_from depth k s last last' [] (e ∷ es') reached turns over (mid, t, later) over' =
        absurd (subst (IsOver d m) turns over e mid t.goes)
    one_run_from depth k s last last' (e ∷ es) [] reached (mid, t, later) over turns' over' =
        absurd (subst (IsOver d m) turns' over' e mid t.goes)
    one_run_from depth k s last last' (e ∷ es) (e' ∷ es') reached (mid, t, later) over (mid', t', later') over' =
        let same = one_pick s (slice_index_or schedule k 0) e e' t.picked t'.picked in
        let there = one_result depth s reached e mid mid' t.goes (subst (λ x. Step d m s x mid') (sym same) t'.goes) in
        ap (λ x. x ∷ es) same
        ∙ ap (λ zs. e' ∷ zs)
        (one_run_from depth (suc k) mid last last' es es' (goes_on d depth m s reached e mid t.goes) later over
        (subst (λ z. Turns d m schedule (suc k) z es' last') (sym there) later') over')

    pub one_run : (depth : ℕ → ℕ) (first : State Row Begun Decision Verdict) → IsReached d depth m first → (es es' : List Event)
        → IsRun d m schedule first es → IsRun d m schedule first es' → es ≡ es'
    one_run depth first reached es es' run run' =
        one_run_from depth 0 first run.last run'.last es es' reached run.turns run.over run'.turns run'.over
