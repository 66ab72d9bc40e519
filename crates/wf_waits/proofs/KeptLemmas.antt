-- What one more that is kept makes of those that are.
use Rattle.std.proofs.Common.{◌≡◌, Bool, true, false, not, cond, List, Option, Some, None, map, is_eq, inl, inr, ⊎_elim, refl, sym, ap, ◌∙◌, true≢false}
use Rattle.std.specs.List.{AllByRecursion}
use Rattle.std.proofs.lemmas.Cmp.{tied_itself}
use Rattle.wf_lists.specs.KeyOrder.{IsInKeyOrder, find_key, put_key}
use Rattle.wf_lists.proofs.KeyOrderLemmas.{all-put, find-put, in_order-map}
use Rattle.wf_layers.specs.Machine.{has_ended}
use Rattle.wf_layers.proofs.Basics.{two}
use Rattle.wf_answers.specs.AnswerTree.{Key, key_cmp, key_cmp_total}
use Rattle.wf_talk.specs.Keys.{fresh, is_among}
use Rattle.wf_waits.specs.Kept.{AreNew, Kept, fresh_key, kept_over, kept_with, keys_of, waiting_key}
use Rattle.wf_waits.specs.declared.waiting.Waiting.{Waiting}
use Rattle.wf_waits.proofs.EditLemmas.{filter-put, map-put}
use Rattle.wf_waits.proofs.KeyLemmas.{among_found, exact_key}

module _ (w : Waiting) (kept : Kept) where
  abbrev own_key : Key
  own_key = waiting_key w

  abbrev ws : List Waiting
  ws = kept.0

  abbrev there : Option Waiting
  there = find_key key_cmp waiting_key own_key ws

  found_put : (k : Key) → has_ended (find_key key_cmp waiting_key k (put_key key_cmp waiting_key w ws))
      ≡ has_ended (cond (is_eq (key_cmp k own_key)) (Some w) (find_key key_cmp waiting_key k ws))
  found_put k = ap has_ended (find-put key_cmp_total waiting_key k w ws)

  -- what was kept is kept, and so is the one that is added
  keeps_over : (o : Option Waiting) (k : Key) → is_among k (keys_of ws) ≡ true → is_among k (keys_of (kept_over o w kept).0) ≡ true
  keeps_over (Some other) k is = is
  keeps_over None k is =
      among_found k (put_key key_cmp waiting_key w ws)
      ∙ (found_put k ∙ either (is_eq (key_cmp k own_key)) (sym (among_found k ws) ∙ is))
    where
      either : (b : Bool) → has_ended (find_key key_cmp waiting_key k ws) ≡ true
          → has_ended (cond b (Some w) (find_key key_cmp waiting_key k ws)) ≡ true
      either true e = refl
      either false e = e

  pub keeps : (k : Key) → is_among k (keys_of ws) ≡ true → is_among k (keys_of (kept_with w kept).0) ≡ true
  keeps k is = keeps_over there k is

  own_over : (o : Option Waiting) → there ≡ o → is_among own_key (keys_of (kept_over o w kept).0) ≡ true
  own_over (Some other) is = among_found own_key ws ∙ ap has_ended is
  own_over None is =
      among_found own_key (put_key key_cmp waiting_key w ws)
      ∙ (found_put own_key ∙ ap (λ o. has_ended (cond (is_eq o) (Some w) there)) (tied_itself key_cmp_total own_key))

  pub own : is_among own_key (keys_of (kept_with w kept).0) ≡ true
  own = own_over there refl

  all_over : (P : Waiting → Type 0) (o : Option Waiting) → P w → AllByRecursion P ws → AllByRecursion P (kept_over o w kept).0
  all_over P (Some other) holds all = all
  all_over P None holds all = all-put key_cmp_total waiting_key P w ws holds all

  pub all_kept : (P : Waiting → Type 0) → P w → AllByRecursion P ws → AllByRecursion P (kept_with w kept).0
  all_kept P holds all = all_over P there holds all

  module _ (answered : Key → Bool) (earlier : List Key) (order : IsInKeyOrder key_cmp waiting_key ws) (m : AreNew answered earlier kept)
      (none : answered own_key ≡ false) where
    -- it is new where it isn't kept yet
    is_new : is_among own_key (keys_of ws) ≡ false → is_among own_key earlier ≡ false
    is_new apart =
        ⊎_elim
        (λ is. ⊎_elim (λ kept. absurd (true≢false (sym kept ∙ apart))) (λ has. absurd (true≢false (sym has ∙ none))) (m.earlier_are own_key is))
        (λ isnt. isnt)
        (two (is_among own_key earlier))

    new_over : (o : Option Waiting) → there ≡ o → map fresh_key (kept_over o w kept).1 ≡ fresh earlier (keys_of (kept_over o w kept).0)
    new_over (Some other) is = m.new_are
    new_over None is =
        let isnt : is_among own_key earlier ≡ false = is_new (among_found own_key ws ∙ ap has_ended is) in
        map-put key_cmp fresh_key (record { want = w.want }) kept.1
        ∙ (ap (put_key key_cmp (λ (k : Key). k) own_key) m.new_are
        ∙ (sym (filter-put key_cmp_total (λ (k : Key). not (is_among k earlier)) own_key (λ k tie. exact_key own_key k tie) (keys_of ws)
        (in_order-map key_cmp (λ (k : Key). k) waiting_key ws order) (ap not isnt))
        ∙ ap (fresh earlier) (sym (map-put key_cmp waiting_key w ws))))

    pub new_kept : AreNew answered earlier (kept_with w kept)
    new_kept = record {
      new_are = new_over there refl;
      earlier_are = λ k is. ⊎_elim (λ still. inl (keeps k still)) (λ has. inr has) (m.earlier_are k is);
    }
