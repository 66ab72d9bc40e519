-- Those that wait, beside the events that may happen.
use Rattle.std.proofs.Common.{◌≡◌, ◌≢◌, ◌+◌, ℕ, Bool, true, false, cond, List, [], ◌∷◌, Some, None, is_eq, slice_get, refl, sym, ap, ◌∙◌, subst, arith, true≢false}
use Rattle.std.specs.List.{AllByRecursion}
use Rattle.std.proofs.lemmas.Cmp.{tied_itself}
use Rattle.std.proofs.lemmas.Option.{none-some}
use Rattle.wf_lists.specs.KeyOrder.{IsInKeyOrder, find_key, put_key, without_key}
use Rattle.wf_lists.proofs.KeyOrderLemmas.{all-put, all-without, find-without}
use Rattle.wf_answers.specs.AnswerTree.{Key, key_cmp}
use Rattle.wf_asks.specs.Instances.{instance_cmp, instance_total}
use Rattle.wf_asks.specs.declared.instance.Instance.{Instance}
use Rattle.wf_tables.specs.declared.entries.EventAt.{EventAt}
use Rattle.wf_tables.proofs.OpenLemmas.{found_at}
use Rattle.wf_waits.specs.Kept.{waiting_key}
use Rattle.wf_waits.specs.Places.{AreTheirs, AreTheirsFrom, HappensAt, MayHappen, WaitsAt}
use Rattle.wf_waits.specs.declared.waiting.Waiting.{Waiting}
use Rattle.wf_waits.proofs.EditLemmas.{own_among, put_among, without_among}
use Rattle.wf_waits.proofs.ListLemmas.{all_among, all_at, all_so, both_so, some_one}
use Rattle.wf_waits.proofs.SideLemmas.{HasKey, alike_before}

abbrev event_place : EventAt → Instance
event_place e = e.instance

-- ---- one begins to wait

module _ (w : Waiting) (ws : List Waiting) (none : find_key key_cmp waiting_key (waiting_key w) ws ≡ None) where
  abbrev with_one : List Waiting
  with_one = put_key key_cmp waiting_key w ws

  waits_on : (place : Instance) → WaitsAt ws place → WaitsAt with_one place
  waits_on place at = record { one = at.one; among = put_among key_cmp waiting_key w at.one ws none at.among; here = at.here }

  pub theirs_kept : (event : EventAt) (events : List EventAt) → event.instance ≡ w.instance → AreTheirs ws events
      → AreTheirs with_one (put_key instance_cmp event_place event events)
  theirs_kept event events same theirs =
      all-put instance_total event_place (λ (e : EventAt). WaitsAt with_one e.instance) event events
      (record { one = w; among = own_among key_cmp waiting_key w ws; here = sym same })
      (all_so events (λ e at. waits_on e.instance at) theirs)

-- ---- the answer of one comes

-- events at other instances are no more beside it
others_apart : (place : Instance) (events : List EventAt) → IsInKeyOrder instance_cmp event_place events
    → AllByRecursion (λ (e : EventAt). e.instance ≢ place) (without_key instance_cmp event_place place events)
others_apart place events order =
    untied (without_key instance_cmp event_place place events)
    (find-without instance_total event_place place place events order
    ∙ ap (λ o. cond (is_eq o) None (find_key instance_cmp event_place place events)) (tied_itself instance_total place))
  where
    one : (e : EventAt) → is_eq (instance_cmp place e.instance) ≡ false → e.instance ≢ place
    one e isnt same =
        true≢false
        (sym (ap is_eq (tied_itself instance_total place)) ∙ (ap (λ i. is_eq (instance_cmp place i)) (sym same) ∙ isnt))

    untied : (es : List EventAt) → find_key instance_cmp event_place place es ≡ None
        → AllByRecursion (λ (e : EventAt). e.instance ≢ place) es
    untied [] none = tt
    untied (e ∷ es) none = either (is_eq (instance_cmp place e.instance)) refl none (untied es)
      where
        either : (b : Bool) → is_eq (instance_cmp place e.instance) ≡ b
            → cond b (Some e) (find_key instance_cmp event_place place es) ≡ None
            → (find_key instance_cmp event_place place es ≡ None → AllByRecursion (λ (v : EventAt). v.instance ≢ place) es)
            → (e.instance ≢ place) × AllByRecursion (λ (v : EventAt). v.instance ≢ place) es
        either true is none later = absurd (none-some e (sym none))
        either false isnt none later = (one e isnt, later none)

module _ (k : Key) (ws : List Waiting) (events : List EventAt) (theirs : AreTheirs ws events) where
  abbrev others : List Waiting
  others = without_key key_cmp waiting_key k ws

  pub theirs_taken : (w : Waiting) → find_key key_cmp waiting_key k ws ≡ Some w → IsInKeyOrder instance_cmp event_place events
      → AreTheirs others (without_key instance_cmp event_place w.instance events)
  theirs_taken w found order =
      both_so (without_key instance_cmp event_place w.instance events) still
      (all-without instance_total event_place (λ (e : EventAt). WaitsAt ws e.instance) w.instance events theirs)
      (others_apart w.instance events order)
    where
      still : (e : EventAt) → WaitsAt ws e.instance → e.instance ≢ w.instance → WaitsAt others e.instance
      still e at differs = record {
        one = at.one;
        among =
            without_among key_cmp waiting_key k at.one ws
            (λ v is same.
            let both : Some w ≡ Some v = sym found ∙ is in
            differs (sym (ap (λ (u : Waiting). u.instance) (some_one both ∙ same) ∙ at.here)))
            at.among;
        here = at.here;
      }

  pub theirs_left : find_key key_cmp waiting_key k ws ≡ None → AreTheirs others events
  theirs_left none =
      all_so events
      (λ e at. record {
        one = at.one;
        among = without_among key_cmp waiting_key k at.one ws (λ v is same. none-some v (sym none ∙ is)) at.among;
        here = at.here;
      })
      theirs

-- ---- those that wait in a row are passed

-- instances that are told equal are the same
pub same_instance : (a b : Instance) → is_eq (instance_cmp a b) ≡ true → b ≡ a
same_instance a b is =
    found_at (λ (x : Instance). x) a (b ∷ []) b (ap (λ t. cond t (Some b) (find_key instance_cmp (λ (x : Instance). x) a [])) is)

module _ (ws : List Waiting) (events ready : List EventAt) (theirs : AreTheirs ws events) (may : MayHappen ready ws)
    (order : IsInKeyOrder instance_cmp event_place events) (order' : IsInKeyOrder instance_cmp event_place ready) where
  are_part : AllByRecursion (λ (e : EventAt). HasKey instance_total event_place ready e.instance) events
  are_part =
      all_so events
      (λ e at.
      let there = all_among (λ (w : Waiting). HappensAt ready w.instance) ws at.one may at.among in
      (there.event, there.among, there.here ∙ at.here))
      theirs

  -- the event at a place is at the instance of theirs at the same place
  pub passed : (from middle : ℕ) (mine event : EventAt) → slice_get events middle ≡ Some mine → slice_get ready middle ≡ Some event
      → is_eq (instance_cmp mine.instance event.instance) ≡ true → AreTheirsFrom ready ws from (middle + 1)
  passed from middle mine event mine_is event_is same place above below =
      let a = alike_before instance_total event_place events ready order order' are_part middle
      (record { x = mine; y = event; x_is = mine_is; y_is = event_is; same = sym (same_instance mine.instance event.instance same) }) place
      (omega (arith, below)) in
      record {
        event = a.y;
        event_is = a.y_is;
        theirs = subst (WaitsAt ws) a.same (all_at (λ (e : EventAt). WaitsAt ws e.instance) events place a.x theirs a.x_is);
      }
