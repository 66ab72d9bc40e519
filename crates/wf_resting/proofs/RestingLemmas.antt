-- What stands beside the tables of a state in which no leaf runs, as it is counted.
use Rattle.std.proofs.Common.{◌≡◌, ℕ, zero, suc, Bool, true, false, ◌&&◌, ◌||◌, cond, List, [], ◌∷◌, ◌++◌, append_assoc, drop, get_or, length, ◌+◌, ◌<◌, ◌≤◌, Option, Some, None, option_map, slice_get, nat_eq, refl, sym, ap, ◌∙◌, arith, true≢false}
use Rattle.std.proofs.lemmas.List.{at_drop_all, at_drop_more}
use Rattle.std.proofs.lemmas.Option.{none-some}
use Rattle.wf_lists.specs.KeyOrder.{find_key}
use Rattle.wf_layers.specs.Address.{Address, Table, address, is_own, same_at}
use Rattle.wf_layers.specs.Machine.{Opening, Event, has_ended}
use Rattle.wf_layers.specs.Source.{Source}
use Rattle.wf_layers.proofs.Tables.{own_is}
use Rattle.wf_kept.specs.Counted.{nonzero}
use Rattle.wf_enter.specs.Instances.{address_of, instance_cmp}
use Rattle.wf_enter.specs.Known.{is_among, open_tree, opens_in}
use Rattle.wf_enter.specs.Instance.{Instance}
use Rattle.wf_enter.specs.OpenAt.{OpenAt}
use Rattle.wf_enter.specs.Plan.{PlanTree}
use Rattle.wf_enter.specs.PlanSeen.{or_none}
use Rattle.wf_enter.specs.Counts.{set_all}
use Rattle.wf_enter.specs.Tables.{count_in, events_in}
use Rattle.wf_enter.specs.CountAt.{CountAt}
use Rattle.wf_enter.specs.EventAt.{EventAt}
use Rattle.wf_enter.specs.Looked.{idle_at, instances_at, look_each, open_at}
use Rattle.wf_enter.proofs.LookLemmas.{looked_all}
use Rattle.wf_enter.specs.Graphs.{opened_at}
use Rattle.wf_resting.specs.Resting.{all_entered, counts_at, entered_by, lacking_of, lacks_at, lacks_by, resting_by, standing}

pub the_same : {A : Type 0} {u v : A} → Some u ≡ Some v → u ≡ v
the_same e = cc (e)

-- ---- counts that are put

-- of each of several actions at the same indexes its count, and all others as before
counts_all : (count : Address → ℕ) (at ns : List ℕ) (t : Table ℕ) (x : Address)
    → set_all (counts_at count at ns) t x ≡ cond (is_among x.name ns && same_at at x.at) (nonzero (count x)) (t x)
counts_all count at [] t x = refl
counts_all count at (n ∷ ns) t x =
    counts_all count at ns (λ y. cond (is_own n at y) (nonzero (count (address n at))) (t y)) x
    ∙ go (nat_eq n x.name) (is_among x.name ns) (same_at at x.at) (λ e. ap (λ z. nonzero (count z)) (own_is n at x e))
  where
    go : (a b c : Bool) → ((a && c) ≡ true → nonzero (count (address n at)) ≡ nonzero (count x))
        → cond (b && c) (nonzero (count x)) (cond (a && c) (nonzero (count (address n at))) (t x))
        ≡ cond ((a || b) && c) (nonzero (count x)) (t x)
    go true true true e = refl
    go true true false e = refl
    go true false true e = e refl
    go true false false e = refl
    go false true true e = refl
    go false true false e = refl
    go false false true e = refl
    go false false false e = refl

pub counts_of_all : (count : Address → ℕ) {items old : List CountAt} {at : List ℕ} (ns : List ℕ) → items ≡ counts_at count at ns → at ≡ []
    → old ≡ [] → (x : Address)
    → set_all items (count_in old) x ≡ cond (is_among x.name ns && same_at [] x.at) (nonzero (count x)) None
counts_of_all count {items} {old} {at} ns are none new x =
    ap (λ cs. set_all cs (count_in old) x) are
    ∙ ap (λ i. set_all (counts_at count i ns) (count_in old) x) none
    ∙ counts_all count [] ns (count_in old) x
    ∙ ap (λ (cs : List CountAt). cond (is_among x.name ns && same_at [] x.at) (nonzero (count x)) (count_in cs x)) new

-- and so each of several actions that are looked at
pub looks_of_all : (look : Address → Option Event) {at : List ℕ} (ns : List ℕ) {old : List EventAt} → at ≡ [] → old ≡ [] → (x : Address)
    → look_each look (instances_at at ns) (events_in old) x ≡ cond (is_among x.name ns && same_at [] x.at) (look x) None
looks_of_all look {at} ns {old} none new x =
    ap (λ i. look_each look (instances_at i ns) (events_in old) x) none
    ∙ looked_all look [] ns (events_in old) x
    ∙ ap (λ (es : List EventAt). cond (is_among x.name ns && same_at [] x.at) (look x) (events_in es x)) new

-- one more of them, in a loop over their numbers
pub looked_next : (look : Address → Option Event) (at ns : List ℕ) (k : ℕ) → k < length ns → (old new : Table Event) (copied : List ℕ)
    → copied ≡ at
    → ((x : Address) → new x ≡ cond (is_own (get_or ns k 0) copied x) (look (address (get_or ns k 0) copied)) (old x)) → (x : Address)
    → look_each look (instances_at at (drop (k + 1) ns)) new x ≡ look_each look (instances_at at (drop k ns)) old x
looked_next look at ns k lt old new copied is e x =
    let same : new ≡ (λ (y : Address). cond (is_own (get_or ns k 0) copied y) (look (address (get_or ns k 0) copied)) (old y)) =
    λ j y. e y j in
    ap (λ (t : Table Event). look_each look (instances_at at (drop (k + 1) ns)) t x) same
    ∙ ap (λ (i : List ℕ). look_each look (instances_at at (drop (k + 1) ns))
    (λ (y : Address). cond (is_own (get_or ns k 0) i y) (look (address (get_or ns k 0) i)) (old y)) x) is
    ∙ sym (at_drop_more (λ (r : List ℕ). look_each look (instances_at at r) old x) ns k 0 lt)

-- where none is left all are as they are
pub looked_done : (look : Address → Option Event) (at ns : List ℕ) (k : ℕ) → length ns ≤ k → (t : Table Event) (x : Address)
    → t x ≡ look_each look (instances_at at (drop k ns)) t x
looked_done look at ns k le t x = sym (at_drop_all (λ (r : List ℕ). look_each look (instances_at at r) t x) ns k le)

pub room_next : (ns : List ℕ) (k : ℕ) → k < length ns → (old new : ℕ) → length (drop k ns) ≤ old → old ≤ new + 1
    → length (drop (k + 1) ns) ≤ new
room_next ns k lt old new room put =
    let longer : length (drop k ns) ≡ suc (length (drop (k + 1) ns)) = at_drop_more (λ (r : List ℕ). length r) ns k 0 lt in
    omega (arith, longer, room, put)

pub counts_next : (count : Address → ℕ) (at ns : List ℕ) (k : ℕ) → k < length ns → (old : List CountAt) {new : List CountAt} {c : CountAt}
    → new ≡ old ++ c ∷ []
    → c ≡ record { instance = record { action = get_or ns k 0; at = at }; count = count (address (get_or ns k 0) at) }
    → old ++ counts_at count at (drop k ns) ≡ counts_at count at ns → new ++ counts_at count at (drop (k + 1) ns) ≡ counts_at count at ns
counts_next count at ns k lt old {new} {c} put is so_far =
    ap (λ z. z ++ counts_at count at (drop (k + 1) ns)) put
    ∙ append_assoc old (c ∷ []) (counts_at count at (drop (k + 1) ns))
    ∙ ap (λ (z : CountAt). old ++ z ∷ counts_at count at (drop (k + 1) ns)) is
    ∙ sym (at_drop_more (λ (r : List ℕ). old ++ counts_at count at r) ns k 0 lt)
    ∙ so_far

-- what the graph lacks that an open container has entered, found in the list
pub entered_lacks : {Decision Verdict Decided Told Row : Type 0} (k : Instance) (xs : List (OpenAt Decision Verdict))
    (o : OpenAt Decision Verdict) → Some o ≡ find_key instance_cmp (λ (z : OpenAt Decision Verdict). z.instance) k xs
    → (decided : Decision → Decided) (told : Verdict → Told) (taken : Decided → ℕ) (p : PlanTree) (rows : Table Row) (count : ℕ)
    (ns : List ℕ) (c : ℕ) → count ≡ lacking_of rows k.at ns → ns ≡ or_none (opened_at p k.action c) → c ≡ taken (decided o.decision)
    → count ≡ lacks_at p taken rows (opens_in decided told xs) (address_of k)
entered_lacks k xs o found decided told taken p rows count ns c counts are takes =
    counts ∙ ap (lacking_of rows k.at) (are ∙ ap (λ z. or_none (opened_at p k.action z)) takes)
    ∙ ap (λ w. lacks_by p taken rows w (address_of k)) (ap (option_map (open_tree decided told)) found)

-- ---- the actions of open graphs

-- the first of what is left of a list
drop_at : {A : Type 0} (xs : List A) (k : ℕ) (x : A) → slice_get xs k ≡ Some x → drop k xs ≡ x ∷ drop (suc k) xs
drop_at [] k x e = absurd (none-some x e)
drop_at (y ∷ ys) zero x e = ap (λ z. z ∷ ys) (the_same e)
drop_at (y ∷ ys) (suc k) x e = drop_at ys k x e

module _ {Decision Verdict Decided : Type 0} (p : PlanTree) (decided : Decision → Decided) (taken : Decided → ℕ) where
  -- one more container, in a loop over them
  pub standing_next : (os : List (OpenAt Decision Verdict)) (k : ℕ) (o : OpenAt Decision Verdict) → slice_get os k ≡ Some o
      → (old : List ℕ) {new more : List ℕ} (c : ℕ) → new ≡ old ++ more → more ≡ or_none (opened_at p o.instance.action c)
      → c ≡ taken (decided o.decision)
      → old ++ all_entered p decided taken (drop k os) ≡ standing p decided taken os
      → new ++ all_entered p decided taken (drop (k + 1) os) ≡ standing p decided taken os
  standing_next os k o at old {new} {more} c put are takes so_far =
      let one : k + 1 ≡ suc k = omega arith in
      ap (λ z. new ++ all_entered p decided taken (drop z os)) one
      ∙ ap (λ z. z ++ all_entered p decided taken (drop (suc k) os)) put
      ∙ ap (λ z. (old ++ z) ++ all_entered p decided taken (drop (suc k) os))
      (are ∙ ap (λ z. or_none (opened_at p o.instance.action z)) takes)
      ∙ append_assoc old (entered_by p decided taken o) (all_entered p decided taken (drop (suc k) os))
      ∙ ap (λ z. old ++ all_entered p decided taken z) (sym (drop_at os k o at))
      ∙ so_far

-- ---- what may happen to one of them

module _ {Row Begun Decision Verdict : Type 0} (m : Source Row Begun Decision Verdict) (p : PlanTree) (rows : Table Row)
    (opens : Table (Opening Decision Verdict)) (waits lacks : Table ℕ) (left : Address → ℕ) (x : Address) where
  abbrev by : Option Row → Option (Opening Decision Verdict) → Option Event
  by r o = resting_by m p rows opens waits lacks left r o x

  pub open_rests : (o : Option (Opening Decision Verdict)) → has_ended o ≡ true → open_at m opens lacks left p x ≡ by None o
  open_rests None h = absurd (true≢false (sym h))
  open_rests (Some w) h = refl

  pub idle_rests : (o : Option (Opening Decision Verdict)) → has_ended o ≡ false → idle_at m rows waits p x ≡ by None o
  idle_rests None h = refl
  idle_rests (Some w) h = absurd (true≢false h)

  pub row_rests : (r : Option Row) (o : Option (Opening Decision Verdict)) → has_ended r ≡ true → None ≡ by r o
  row_rests None o h = absurd (true≢false (sym h))
  row_rests (Some q) o h = refl

  pub none_rests : (r : Option Row) (o : Option (Opening Decision Verdict)) → has_ended r ≡ false → by None o ≡ by r o
  none_rests None o h = refl
  none_rests (Some q) o h = absurd (true≢false h)
