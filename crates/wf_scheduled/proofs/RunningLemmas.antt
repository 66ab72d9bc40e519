-- As many leaves are running as the events so far say.
use Rattle.std.proofs.Common.{◌≡◌, ℕ, suc, ◌-◌, Bool, true, false, cond, List, [], ◌∷◌, ◌++◌, length, max, Option, Some, None, is_eq, refl, sym, ap, ◌∙◌, subst, arith, true≢false}
use Rattle.std.proofs.lemmas.Option.{none-some}
use Rattle.wf_lists.specs.KeyOrder.{IsInKeyOrder, find_key, put_key, without_key}
use Rattle.wf_lists.proofs.KeyOrderLemmas.{find-put, find-without, in_order-put, in_order-without, same_entries}
use Rattle.wf_layers.specs.Address.{Address, Table, address, is_own}
use Rattle.wf_layers.specs.Definition.{Graph}
use Rattle.wf_layers.specs.Meaning.{only}
use Rattle.wf_layers.specs.Machine.{Running, State, Event, Start, Try, End, Skip, Open, Begin, Test, Close, Run, Step, has_ended, or_else}
use Rattle.wf_layers.specs.Source.{Source}
use Rattle.wf_layers.proofs.Tables.{own_is}
use Rattle.wf_scheduled.specs.Counts.{AreRunning, HasNotBegun, most_from, running_behind, running_from}
use Rattle.wf_scheduled.specs.Turns.{address_cmp}
use Rattle.wf_scheduled.proofs.ListLemmas.{address_total, among_found, found_among, is_own_place, length-put, length-without}

abbrev itself : Address → Address
itself x = x

abbrev find : Address → List Address → Option Address
find x places = find_key address_cmp itself x places

-- the list has what runs, and as many as k
record Counted {Begun : Type 0} (running : Table (Running Begun)) (k : ℕ) : Type 0 where
  pub places : List Address
  pub in_order : IsInKeyOrder address_cmp itself places
  pub found : (x : Address) → find x places ≡ cond (has_ended (running x)) (Some x) None
  pub count : length places ≡ k

module _ {Begun : Type 0} (running : Table (Running Begun)) (k : ℕ) (c : Counted running k) where
  -- what runs as before, whatever it has
  same_running : (running' : Table (Running Begun)) → ((x : Address) → has_ended (running' x) ≡ has_ended (running x)) → Counted running' k
  same_running running' same = record {
    places = c.places;
    in_order = c.in_order;
    found = λ x. c.found x ∙ ap (λ b. cond b (Some x) None) (sym (same x));
    count = c.count;
  }

  find_put : (y x : Address) → find x (put_key address_cmp itself y c.places) ≡ cond (is_own y.name y.at x) (Some y) (find x c.places)
  find_put y x =
      find-put address_total itself x y c.places ∙ ap (λ b. cond b (Some y) (find x c.places)) (is_own_place y x)

  one_more_running : (y : Address) (w : Running Begun) → running y ≡ None
      → Counted (λ x. or_else (only (is_own y.name y.at x) (Some w)) (running x)) (suc k)
  one_more_running y w idle = record {
    places = put_key address_cmp itself y c.places;
    in_order = in_order-put address_total itself y c.places c.in_order;
    found = λ x. find_put y x ∙ by x (is_own y.name y.at x) refl;
    count = length-put address_total itself y c.places (c.found y ∙ ap (λ o. cond (has_ended o) (Some y) None) idle) ∙ ap suc c.count;
  }
    where
      by : (x : Address) (b : Bool) → is_own y.name y.at x ≡ b → cond b (Some y) (find x c.places)
          ≡ cond (has_ended (or_else (only b (Some w)) (running x))) (Some x) None
      by x true own = ap (λ z. Some z) (own_is y.name y.at x own)
      by x false own = c.found x

  one_less_running : (y : Address) (w : Running Begun) → running y ≡ Some w
      → Counted (λ x. cond (is_own y.name y.at x) None (running x)) (k - 1)
  one_less_running y w runs = record {
    places = without_key address_cmp itself y c.places;
    in_order = in_order-without address_total itself y c.places c.in_order;
    found = λ x. find-without address_total itself y x c.places c.in_order
        ∙ (ap (λ b. cond b None (find x c.places)) (is_own_place y x) ∙ by x (is_own y.name y.at x));
    count =
        let less = length-without address_total itself y c.places y
        (c.found y ∙ ap (λ o. cond (has_ended o) (Some y) None) runs) in
        let count = c.count in omega (arith, less, count);
  }
    where
      by : (x : Address) (b : Bool) → cond b None (find x c.places) ≡ cond (has_ended (cond b None (running x))) (Some x) None
      by x true = refl
      by x false = c.found x

module _ {Row Begun Decision Verdict : Type 0} (d : Graph) (m : Source Row Begun Decision Verdict) where
  still_runs : (s : State Row Begun Decision Verdict) (q : ℕ) (j : List ℕ) (w v : Running Begun) → s.running (address q j) ≡ Some w
      → (x : Address) → (b : Bool) → is_own q j x ≡ b → has_ended (or_else (only b (Some v)) (s.running x)) ≡ has_ended (s.running x)
  still_runs s q j w v runs x true own = sym (ap has_ended (subst (λ y. s.running y ≡ Some w) (own_is q j x own) runs))
  still_runs s q j w v runs x false own = refl

  counted_event : (s s' : State Row Begun Decision Verdict) (k : ℕ) (e : Event) → Counted s.running k → Step d m s e s'
      → Counted s'.running (running_behind k e)
  counted_event s s' k (Start q j) c (after, de, pass, to) =
      subst (λ (t : State Row Begun Decision Verdict). Counted t.running (suc k)) (sym to)
      (one_more_running s.running k c (address q j) _ de.not_running)
  counted_event s s' k (Try q j) c (w, e, lt, to) =
      subst (λ (t : State Row Begun Decision Verdict). Counted t.running k) (sym to)
      (same_running s.running k c _ (λ x. still_runs s q j w _ e x (is_own q j x) refl))
  counted_event s s' k (End q j) c (w, e, all, to) =
      subst (λ (t : State Row Begun Decision Verdict). Counted t.running (k - 1)) (sym to)
      (one_less_running s.running k c (address q j) w e)
  counted_event s s' k (Skip q j) c (after, kind, de, fails, to) =
      subst (λ (t : State Row Begun Decision Verdict). Counted t.running k) (sym to) c
  counted_event s s' k (Open q j) c (after, kind, co, de, pass, to) =
      subst (λ (t : State Row Begun Decision Verdict). Counted t.running k) (sym to) c
  counted_event s s' k (Begin q j) c (after, kind, w, th, e, may, to) =
      subst (λ (t : State Row Begun Decision Verdict). Counted t.running k) (sym to) c
  counted_event s s' k (Test q j) c (after, kind, w, l, th, e, may, to) =
      subst (λ (t : State Row Begun Decision Verdict). Counted t.running k) (sym to) c
  counted_event s s' k (Close q j) c (after, kind, w, th, e, may, to) =
      subst (λ (t : State Row Begun Decision Verdict). Counted t.running k) (sym to) c

  counted_run : (s s' : State Row Begun Decision Verdict) (k : ℕ) (es : List Event) → Counted s.running k → Run d m s es s'
      → Counted s'.running (running_from k es)
  counted_run s s' k [] c run = subst (λ (t : State Row Begun Decision Verdict). Counted t.running k) (sym run) c
  counted_run s s' k (e ∷ es) c (mid, st, run) =
      counted_run mid s' (running_behind k e) es (counted_event s mid k e c st) run

  -- what is said of a list of places is what is found in it
  found_in : (s : State Row Begun Decision Verdict) (places : List Address) → AreRunning s places → (x : Address) (b : Bool)
      → has_ended (s.running x) ≡ b → find x places ≡ cond b (Some x) None
  found_in s places are x true runs = among_found address_total itself places are.in_order x (are.all x runs)
  found_in s places are x false runs = by (find x places) refl
    where
      by : (o : Option Address) → find x places ≡ o → o ≡ None
      by None is = refl
      by (Some y) is =
          let among = found_among address_total itself x places y is in
          let same = same_key places x y is in
          absurd (true≢false (sym (ap (λ z. has_ended (s.running z)) same ∙ are.each y among) ∙ runs))
        where
          same_key : (zs : List Address) (k v : Address) → find k zs ≡ Some v → k ≡ v
          same_key [] k v f = absurd (none-some v f)
          same_key (z ∷ zs) k v f = at_head (is_eq (address_cmp k z)) refl (same_key zs k v) f
            where
              at_head : (b : Bool) → is_eq (address_cmp k z) ≡ b → (find k zs ≡ Some v → k ≡ v) → cond b (Some z) (find k zs) ≡ Some v
                  → k ≡ v
              at_head true tied later f =
                  let z_is : z ≡ v = cc in sym (own_is z.name z.at k (sym (is_own_place z k) ∙ tied)) ∙ z_is
              at_head false tied later f = later f

  pub running_counted : (first s : State Row Begun Decision Verdict) (es : List Event) → HasNotBegun first → Run d m first es s
      → (places : List Address) → AreRunning s places → length places ≡ running_from 0 es
  running_counted first s es new run places are =
      ap length (same_entries address_total itself places c.places are.in_order c.in_order
      (λ x. found_in s places are x (has_ended (s.running x)) refl ∙ sym (c.found x)))
      ∙ c.count
    where
      none_first : Counted first.running 0
      none_first =
          record { places = []; in_order = tt; found = λ x. sym (ap (λ o. cond (has_ended o) (Some x) None) (new.running x)); count = refl }

      c : Counted s.running (running_from 0 es)
      c = counted_run first s 0 es none_first run

-- ---- the peak

pub peak_more : (k : ℕ) (es : List Event) (e : Event) → most_from k (es ++ e ∷ []) ≡ max (most_from k es) (running_from k (es ++ e ∷ []))
peak_more k [] e = omega arith
peak_more k (x ∷ es) e = let later = peak_more (running_behind k x) es e in omega (arith, later)
