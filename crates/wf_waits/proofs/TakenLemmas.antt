-- What is left of those that are kept as the answer of one comes.
use Rattle.std.proofs.Common.{◌≡◌, ◌≢◌, ◌⊎◌, Bool, true, false, not, cond, List, [], ◌∷◌, Some, None, is_eq, inl, inr, ⊎_elim, refl, sym, ap, ◌∙◌, true≢false}
use Rattle.std.specs.List.{AllByRecursion}
use Rattle.std.proofs.lemmas.Cmp.{tied_itself}
use Rattle.std.proofs.lemmas.Option.{none-some}
use Rattle.wf_lists.specs.KeyOrder.{IsInKeyOrder, find_key, without_key}
use Rattle.wf_lists.proofs.KeyOrderLemmas.{all-without, find-without}
use Rattle.wf_layers.specs.Machine.{has_ended}
use Rattle.wf_layers.proofs.Basics.{two}
use Rattle.wf_answers.specs.AnswerTree.{Key, key_cmp, key_cmp_total}
use Rattle.wf_talk.specs.Keys.{fresh, is_among}
use Rattle.wf_waits.specs.Kept.{AreNew, Kept, kept_without, keys_of, waiting_key}
use Rattle.wf_waits.specs.declared.waiting.Waiting.{Waiting}
use Rattle.wf_waits.proofs.KeyLemmas.{among_found, among_own, exact_key, tied}
use Rattle.wf_waits.proofs.ListLemmas.{all_so}

-- what isn't found ties with none
untied : (k : Key) (ws : List Waiting) → find_key key_cmp waiting_key k ws ≡ None
    → AllByRecursion (λ (w : Waiting). is_eq (key_cmp k (waiting_key w)) ≡ false) ws
untied k [] none = tt
untied k (w ∷ ws) none =
    ⊎_elim
    (λ is. absurd (none-some w (sym none ∙ ap (λ b. cond b (Some w) (find_key key_cmp waiting_key k ws)) is)))
    (λ isnt. (isnt, untied k ws (sym (ap (λ b. cond b (Some w) (find_key key_cmp waiting_key k ws)) isnt) ∙ none)))
    (two (is_eq (key_cmp k (waiting_key w))))

-- none of them is fresh beside their own keys
none_fresh : (earlier : List Key) (ws : List Waiting) → AllByRecursion (λ (w : Waiting). is_among (waiting_key w) earlier ≡ true) ws
    → fresh earlier (keys_of ws) ≡ []
none_fresh earlier [] all = refl
none_fresh earlier (w ∷ ws) all =
    ap (λ b. cond (not b) (waiting_key w ∷ fresh earlier (keys_of ws)) (fresh earlier (keys_of ws))) all.0 ∙ none_fresh earlier ws all.1

module _ (k : Key) (kept : Kept) (order : IsInKeyOrder key_cmp waiting_key kept.0) where
  abbrev ws : List Waiting
  ws = kept.0

  abbrev others : List Waiting
  others = without_key key_cmp waiting_key k ws

  -- the one whose answer has come is kept no more
  gone : find_key key_cmp waiting_key k others ≡ None
  gone =
      find-without key_cmp_total waiting_key k k ws order
      ∙ ap (λ o. cond (is_eq o) None (find_key key_cmp waiting_key k ws)) (tied_itself key_cmp_total k)

  pub apart : AllByRecursion (λ (w : Waiting). waiting_key w ≢ k) others
  apart =
      all_so others
      (λ w isnt same.
      true≢false
      (sym (ap is_eq (tied_itself key_cmp_total k)) ∙ (ap (λ j. is_eq (key_cmp k j)) (sym same) ∙ isnt)))
      (untied k others gone)

  pub others_hold : (P : Waiting → Type 0) → AllByRecursion P ws → AllByRecursion P others
  others_hold P all = all-without key_cmp_total waiting_key P k ws all

  module _ (answered : Key → Bool) (came : answered k ≡ true) where
    kept_or_came : (j : Key) → is_among j (keys_of ws) ≡ true → (b : Bool) → is_eq (key_cmp j k) ≡ b
        → (is_among j (keys_of others) ≡ true) ⊎ (answered j ≡ true)
    kept_or_came j is true tie = inr (ap answered (exact_key j k (tied (key_cmp j k) tie)) ∙ came)
    kept_or_came j is false tie =
        inl
        (among_found j others
        ∙ (ap has_ended
        (find-without key_cmp_total waiting_key k j ws order ∙ ap (λ b. cond b None (find_key key_cmp waiting_key j ws)) tie)
        ∙ (sym (among_found j ws) ∙ is)))

    -- none that is left is new, and what waited is left or has its answer
    pub new_at_first : AreNew answered (keys_of ws) (kept_without k kept)
    new_at_first = record {
      new_are = sym (none_fresh (keys_of ws) others (others_hold (λ w. is_among (waiting_key w) (keys_of ws) ≡ true) (among_own ws)));
      earlier_are = λ j is. kept_or_came j is (is_eq (key_cmp j k)) refl;
    }
