-- A run of which each attempt has an answer.
use Rattle.std.proofs.Common.{◌≡◌, ℕ, suc, ◌≤◌, true, List, [], ◌∷◌, ◌++◌, Some, ⊎_elim, refl, sym, ap, ◌∙◌, subst, arith}
use Rattle.std.proofs.lemmas.Option.{none-some}
use Rattle.wf_layers.specs.Definition.{Graph}
use Rattle.wf_layers.specs.Address.{Address, address, is_own}
use Rattle.wf_layers.specs.Meaning.{only}
use Rattle.wf_layers.specs.Source.{Source}
use Rattle.wf_layers.specs.Machine.{Running, State, Event, Start, Try, End, Skip, Open, Begin, Test, Close, or_else, place, one, Step, Run, fresh}
use Rattle.wf_layers.proofs.Basics.{two}
use Rattle.wf_layers.proofs.Tables.{own_is, without_split}
use Rattle.wf_quiet.specs.Quiet.{Answers, came, HasAnswer, MadeAreAnswered, AnsweredRun}

module _ {Row Begun Decision Verdict : Type 0} (answered : Answers) (d : Graph) (m : Source Row Begun Decision Verdict) where
  abbrev St : Type 0
  St = State Row Begun Decision Verdict

  pub is_run : (s : St) (es : List Event) (s' : St) → AnsweredRun answered d m s es s' → Run d m s es s'
  is_run s [] s' run = run
  is_run s (e ∷ es) s' run = (run.0, run.2, is_run run.0 es s' run.3)

  pub grows : (s : St) (es : List Event) (mid : St) → AnsweredRun answered d m s es mid → (e : Event) (s' : St) → HasAnswer answered mid e
      → Step d m mid e s' → AnsweredRun answered d m s (es ++ e ∷ []) s'
  grows s [] mid run e s' has st = (s', subst (λ z. HasAnswer answered z e) run has, subst (λ z. Step d m z e s') run st, refl)
  grows s (x ∷ es) mid run e s' has st = (run.0, run.1, run.2, grows run.0 es mid run.3 e s' has st)

  -- two runs, one after the other
  pub joins : (s : St) (es : List Event) (mid : St) → AnsweredRun answered d m s es mid → (fs : List Event) (s' : St)
      → AnsweredRun answered d m mid fs s' → AnsweredRun answered d m s (es ++ fs) s'
  joins s [] mid run fs s' rest = subst (λ z. AnsweredRun answered d m z fs s') run rest
  joins s (e ∷ es) mid run fs s' rest = (run.0, run.1, run.2, joins run.0 es mid run.3 fs s' rest)

  -- a leaf that is put in place with what it has made
  placed : (s : St) → MadeAreAnswered answered m s → (n : ℕ) (i : List ℕ) (v : Running Begun) → v.tries ≤ m.tries (address n i) v.begun
      → came answered (address n i) v.tries ≡ true → (x : Address) (w : Running Begun) → place (one n i v) s.running x ≡ Some w
      → (w.tries ≤ m.tries x w.begun) × (came answered x w.tries ≡ true)
  placed s made n i v few has x w e =
      ⊎_elim
      (λ own.
      let is : Some v ≡ Some w = sym (ap (λ b. or_else (only b (Some v)) (s.running x)) own) ∙ e in let same : v ≡ w = cc in
      subst (λ (z : Address). (w.tries ≤ m.tries z w.begun) × (came answered z w.tries ≡ true)) (own_is n i x own)
      (subst (λ (u : Running Begun). (u.tries ≤ m.tries (address n i) u.begun) × (came answered (address n i) u.tries ≡ true)) same
      (few, has)))
      (λ other. made x w (sym (ap (λ b. or_else (only b (Some v)) (s.running x)) other) ∙ e))
      (two (is_own n i x))

  pub made_step : (s : St) → MadeAreAnswered answered m s → (e : Event) (s' : St) → HasAnswer answered s e → Step d m s e s'
      → MadeAreAnswered answered m s'
  made_step s made (Start n i) s' has (after, de, pass, to) x w e =
      placed s made n i (record { begun = m.start (address n i) s.rows; tries = 0 }) (omega arith) refl x w
      (sym (ap (λ (z : St). z.running x) to) ∙ e)
  made_step s made (Try n i) s' has (v, is, lt, to) x w e =
      placed s made n i (record { begun = v.begun; tries = suc v.tries }) (omega (arith, lt)) (has v is) x w
      (sym (ap (λ (z : St). z.running x) to) ∙ e)
  made_step s made (End n i) s' has (v, is, all, to) x w e =
      made x w (without_split n i s.running x w (sym (ap (λ (z : St). z.running x) to) ∙ e))
  made_step s made (Skip n i) s' has (after, kind, de, fails, to) x w e = made x w (sym (ap (λ (z : St). z.running x) to) ∙ e)
  made_step s made (Open n i) s' has (after, kind, c, de, pass, to) x w e = made x w (sym (ap (λ (z : St). z.running x) to) ∙ e)
  made_step s made (Begin n i) s' has (after, kind, v, th, is, may, to) x w e = made x w (sym (ap (λ (z : St). z.running x) to) ∙ e)
  made_step s made (Test n i) s' has (after, kind, v, j, th, is, may, to) x w e = made x w (sym (ap (λ (z : St). z.running x) to) ∙ e)
  made_step s made (Close n i) s' has (after, kind, v, th, is, may, to) x w e = made x w (sym (ap (λ (z : St). z.running x) to) ∙ e)

  made_run : (s : St) → MadeAreAnswered answered m s → (es : List Event) (s' : St) → AnsweredRun answered d m s es s'
      → MadeAreAnswered answered m s'
  made_run s made [] s' run = subst (λ z. MadeAreAnswered answered m z) (sym run) made
  made_run s made (e ∷ es) s' run = made_run run.0 (made_step s made e run.0 run.1 run.2) es s' run.3

  pub made_at_first : MadeAreAnswered answered m fresh
  made_at_first x w e = absurd (none-some w e)

  pub made_are_answered : (es : List Event) (s : St) → AnsweredRun answered d m fresh es s → MadeAreAnswered answered m s
  made_are_answered es s run = made_run fresh made_at_first es s run
