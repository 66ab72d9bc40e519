-- An attempt that waits for its answer goes on waiting, whatever else happens, and as other answers come.
use Rattle.std.proofs.Common.{◌≡◌, ◌<◌, ℕ, suc, true, false, Some, None, cond, ⊎_elim, refl, sym, ap, ◌∙◌, subst, true≢false, arith, ltb-true}
use Rattle.std.proofs.lemmas.Option.{none-some}
use Rattle.wf_layers.specs.Definition.{Graph}
use Rattle.wf_layers.specs.Address.{Address, address, is_own}
use Rattle.wf_layers.specs.Meaning.{only}
use Rattle.wf_layers.specs.Source.{Source}
use Rattle.wf_layers.specs.Machine.{Running, State, Event, Start, Try, End, Skip, Open, Begin, Test, Close, or_else, Step}
use Rattle.wf_layers.proofs.Basics.{two}
use Rattle.wf_layers.proofs.Tables.{own_is}
use Rattle.wf_quiet.specs.Quiet.{Answers, HasAnswer, IsWanted, KnowsMore, MadeAreAnswered}

module _ {Row Begun Decision Verdict : Type 0} (answered : Answers) (d : Graph) (m : Source Row Begun Decision Verdict) where
  abbrev St : Type 0
  St = State Row Begun Decision Verdict

  -- where the leaf is still running as it was
  same : (s s' : St) (x : Address) (k : ℕ) → (w : IsWanted answered d m s x k) → s'.running x ≡ Some w.leaf → IsWanted answered d m s' x k
  same s s' x k w runs = record { leaf = w.leaf; runs = runs; next = w.next; makes = w.makes; open_still = w.open_still }

  -- Another leaf's event leaves it running, and its own would be its attempt, which has no answer.
  pub stays : (s : St) (x : Address) (k : ℕ) → IsWanted answered d m s x k → (e : Event) (s' : St) → HasAnswer answered s e → Step d m s e s'
      → IsWanted answered d m s' x k
  stays s x k w (Start n i) s' has (after, de, pass, to) =
      ⊎_elim
      (λ own. absurd (none-some w.leaf (sym de.not_running ∙ (ap s.running (own_is n i x own) ∙ w.runs))))
      (λ other. same s s' x k w
      (ap (λ (z : St). z.running x) to
      ∙ (ap (λ b. or_else (only b (Some (record { begun = m.start (address n i) s.rows; tries = 0 }))) (s.running x)) other ∙ w.runs)))
      (two (is_own n i x))
  stays s x k w (Try n i) s' has (v, is, lt, to) =
      ⊎_elim
      (λ own.
      let here = own_is n i x own in
      let runs : s.running (address n i) ≡ Some w.leaf = ap s.running here ∙ w.runs in
      let answer : answered (address n i) (suc w.leaf.tries) ≡ true = has w.leaf runs in
      absurd (true≢false
      (sym answer ∙ (ap (λ (z : Address). answered z (suc w.leaf.tries)) here ∙ (ap (λ c. answered x c) (sym w.next) ∙ w.open_still)))))
      (λ other. same s s' x k w
      (ap (λ (z : St). z.running x) to
      ∙ (ap (λ b. or_else (only b (Some (record { begun = v.begun; tries = suc v.tries }))) (s.running x)) other ∙ w.runs)))
      (two (is_own n i x))
  stays s x k w (End n i) s' has (v, is, all, to) =
      ⊎_elim
      (λ own.
      let here = own_is n i x own in
      let both : Some v ≡ Some w.leaf = sym is ∙ (ap s.running here ∙ w.runs) in
      let leaf : v ≡ w.leaf = cc in
      let makes : w.leaf.tries < m.tries x w.leaf.begun = ltb-true w.leaf.tries (m.tries x w.leaf.begun) w.makes in
      let count : w.leaf.tries ≡ m.tries x w.leaf.begun =
      subst (λ (u : Running Begun). u.tries ≡ m.tries x u.begun) leaf
      (subst (λ (z : Address). v.tries ≡ m.tries z v.begun) here all) in
      absurd (omega (arith, makes, count)))
      (λ other. same s s' x k w
      (ap (λ (z : St). z.running x) to ∙ (ap (λ b. cond b None (s.running x)) other ∙ w.runs)))
      (two (is_own n i x))
  stays s x k w (Skip n i) s' has (after, kind, de, fails, to) = same s s' x k w (ap (λ (z : St). z.running x) to ∙ w.runs)
  stays s x k w (Open n i) s' has (after, kind, c, de, pass, to) = same s s' x k w (ap (λ (z : St). z.running x) to ∙ w.runs)
  stays s x k w (Begin n i) s' has (after, kind, v, th, is, may, to) = same s s' x k w (ap (λ (z : St). z.running x) to ∙ w.runs)
  stays s x k w (Test n i) s' has (after, kind, v, j, th, is, may, to) = same s s' x k w (ap (λ (z : St). z.running x) to ∙ w.runs)
  stays s x k w (Close n i) s' has (after, kind, v, th, is, may, to) = same s s' x k w (ap (λ (z : St). z.running x) to ∙ w.runs)

module _ {Row Begun Decision Verdict : Type 0} (answered : Answers) (d : Graph) (m more : Source Row Begun Decision Verdict)
    (knows : KnowsMore answered m more) where
  -- By the source that knows more it waits too, where it has no answer there either.
  pub waits_on : (s : State Row Begun Decision Verdict) → MadeAreAnswered answered m s → (x : Address) (k : ℕ) → IsWanted answered d m s x k
      → (more_answered : Answers) → more_answered x k ≡ false → IsWanted more_answered d more s x k
  waits_on s made x k w more_answered none = record {
    leaf = w.leaf;
    runs = w.runs;
    next = w.next;
    makes =
        let has = made x w.leaf w.runs in sym (knows.goes_on x w.leaf.begun w.leaf.tries has.0 has.1) ∙ w.makes;
    open_still = none;
  }
