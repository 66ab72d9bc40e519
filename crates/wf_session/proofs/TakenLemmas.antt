-- An answer that is wanted, as it is taken.
use Rattle.std.proofs.Common.{◌≡◌, ℕ, true, false, Option, None, Some, sym, ap, refl, ◌∙◌, true≢false}
use Rattle.wf_stands.specs.Answered.{answered}
use Rattle.wf_answers.specs.Added.{with_added}
use Rattle.wf_answers.specs.AnswerTree.{AnswerTree, find_answer, key_cmp, key_of}
use Rattle.wf_answers.specs.Inputs.{InputsTree}
use Rattle.wf_asks.specs.Instances.{address_of}
use Rattle.wf_def.specs.DefTree.{DefTree}
use Rattle.wf_layers.specs.Address.{Address}
use Rattle.wf_layers.specs.Machine.{has_ended}
use Rattle.wf_lists.specs.KeyOrder.{IsInKeyOrder}
use Rattle.wf_planned.specs.Look.{instance}
use Rattle.wf_runnable.specs.Aside.{Aside}
use Rattle.wf_talk.specs.Keys.{is_among}
use Rattle.wf_talk.specs.Seen.{want_cmp}
use Rattle.wf_trigger.specs.Starts.{StartTree}
use Rattle.wf_waits.specs.Kept.{AreNew, Kept, kept_without, keys_of, waiting_key}
use Rattle.wf_waits.specs.declared.waiting.Waiting.{Waiting}
use Rattle.wf_waits.proofs.KeyLemmas as waits
use Rattle.wf_waits.proofs.TakenLemmas.{new_at_first}
use Rattle.wf_session.specs.Begun.{has_answer, moment}
use Rattle.wf_session.specs.Stood.{Stands, run_of}
use Rattle.wf_session.specs.Waiting.{IsMissing}
use Rattle.wf_session.proofs.StandsLemmas.{found_waiting}

none_ended : {X : Type 0} (o : Option X) → has_ended o ≡ false → o ≡ None
none_ended None is = refl
none_ended (Some x) is = absurd (true≢false is)

module _ (d : DefTree) (start : StartTree) (i : InputsTree) (a : AnswerTree) (rest : Aside) (kept : Kept)
    (st : Stands (run_of d start i) rest kept.0) (order : IsInKeyOrder want_cmp (λ (w : Waiting). w.want) kept.0)
    (wanted : is_among (key_of a) (keys_of kept.0) ≡ true) where
  abbrev found : (w : Waiting) × IsMissing (run_of d start i) (moment rest.0.0) (address_of w.instance) w.want × (key_of a ≡ waiting_key w)
  found = found_waiting (key_of a) kept.0 st.waiting wanted

  abbrev at : Address
  at = address_of found.0.instance

  key_is : key_of a ≡ (instance d at, found.0.want.attempt)
  key_is = found.2 ∙ found.1.key_is

  -- it wasn't there
  pub not_there : find_answer (key_of a) i.answers ≡ None
  not_there =
      none_ended (find_answer (key_of a) i.answers) (ap (λ k. has_ended (find_answer k i.answers)) key_is ∙ found.1.waits.open_still)

  pub by_keys : IsInKeyOrder key_cmp waiting_key kept.0
  by_keys = waits.by_keys kept.0 order

  -- and none of those that wait is new yet
  pub marked : ((x : Address) (n : ℕ) → (instance d x, n) ≡ key_of a → answered d (with_added i a) x n ≡ true)
      → AreNew (has_answer (run_of d start (with_added i a))) (keys_of kept.0) (kept_without (key_of a) kept)
  marked added =
      new_at_first (key_of a) kept by_keys (has_answer (run_of d start (with_added i a)))
      (ap (λ k. has_ended (find_answer k (with_added i a).answers)) key_is ∙ added at found.0.want.attempt (sym key_is))
