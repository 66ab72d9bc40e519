-- Where an action gets its row.
use Rattle.std.proofs.Common.{◌≡◌, ℕ, suc, ◌<◌, ◌≤◌, ◌-◌, Bool, true, false, ◌&&◌, ◌||◌, not, cond, List, [], ◌∷◌, ◌++◌, length, Option, Some, None, ◌⊎◌, inl, inr, ⊎_elim, refl, sym, ap, ◌∙◌, subst, arith, nat_eq, eqb-true, true≢false}
use Rattle.wf_layers.specs.Definition.{Need, Pace, Kind, Leaf, Scope, Choice, Foreach, Until, Graph, done, add, branch_at, holds, has_own, needs_of, kind_in, kind_of}
use Rattle.wf_layers.specs.Address.{Address, address, Table, same_at, is_own}
use Rattle.wf_layers.specs.Source.{Source}
use Rattle.wf_layers.specs.Meaning.{meaning}
use Rattle.wf_layers.specs.Machine.{Opening, State, Event, Start, Try, End, Skip, Open, Begin, Test, Close, place_of, has_ended, IsThere, Step}
use Rattle.wf_layers.specs.Changes.{owns, is_inner, is_next, is_named, looks_at, places, enters}
use Rattle.wf_layers.specs.Waiting.{times}
use Rattle.wf_layers.specs.Seen.{Once}
use Rattle.wf_layers.proofs.Basics.{two, and_in, and_of, either, or_first, or_second, not_true, same_self, same_self_at, when, unless}
use Rattle.wf_layers.proofs.Tables.{own_is, same_at_is, holds_in, has_in}
use Rattle.wf_layers.proofs.Open.{kind_there}
use Rattle.wf_layers.proofs.Waiting.{own_has}
use Rattle.wf_layers.proofs.Changes.{in_own, in_taken, owns_holds, enabled_there, stays, ended_row}
use Rattle.wf_kept.specs.Counted.{nonzero, less, IsInner, in_scope, in_taken as inner_taken, in_turn, in_round, AreCounts, AreLacksAfter, waits_after}
use Rattle.wf_kept.specs.Event.{AreLeft, AreLeftAfter, counted_event}
use Rattle.wf_kept.specs.Reached.{IsReached}
use Rattle.wf_kept.specs.Ready.{IsReady, IsRefreshed, Stands}
use Rattle.wf_kept.proofs.Known.{known, goes_on}
use Rattle.wf_kept.proofs.Counts.{counts_are_kept, inner_of_open, no_row_yet}
use Rattle.wf_kept.proofs.Unfinished.{left_is_kept}
use Rattle.wf_kept.proofs.Edited.{refreshes_are_exact}
use Rattle.wf_kept.proofs.Events.{event_same}
use Rattle.wf_kept.proofs.Followers.{followers_are_there, once_sound}
use Rattle.wf_step_laws.specs.Edits.{HasOneHolder, IsPlaced, event_by, is_foreach, looked}

pub the_same : {A : Type 0} {u v : A} → Some u ≡ Some v → u ≡ v
the_same e = cc (e)

-- who names an action names it once
named_once : (ns : List Need) (p : ℕ) → is_named ns p ≡ true → times ns p ≤ 1 → times ns p ≡ 1
named_once ns p e le = let some = go ns e in omega (arith, some, le)
  where
    go : (ns : List Need) → is_named ns p ≡ true → 0 < times ns p
    go [] e = absurd (true≢false (sym e))
    go (n ∷ ns) e =
        ⊎_elim
        (λ t. subst (λ c. 0 < c) (sym (when (nat_eq n.name p) (suc (times ns p)) (times ns p) t)) (omega arith))
        (λ u. subst (λ c. 0 < c) (sym (unless (nat_eq n.name p) (suc (times ns p)) (times ns p) u))
        (go ns (sym (ap (λ b. b || is_named ns p) u) ∙ e)))
        (two (nat_eq n.name p))

next_self : (i : List ℕ) (j : ℕ) → is_next i (i ++ j ∷ []) ≡ true
next_self [] j = refl
next_self (a ∷ i) j = and_of (nat_eq a a) (is_next i (i ++ j ∷ [])) (same_self a) (next_self i j)

next_is : (a i : List ℕ) (j : ℕ) → is_next a (i ++ j ∷ []) ≡ true → a ≡ i
next_is [] [] j e = refl
next_is [] (b ∷ i) j e = absurd (go i e)
  where
    go : (i : List ℕ) → same_at [] (i ++ j ∷ []) ≡ true → ⊥
    go [] e = true≢false (sym e)
    go (c ∷ i) e = true≢false (sym e)
next_is (a ∷ as') [] j e = absurd (go as' (and_in (nat_eq a j) (is_next as' []) e).1)
  where
    go : (as' : List ℕ) → is_next as' [] ≡ true → ⊥
    go [] e = true≢false (sym e)
    go (c ∷ cs) e = true≢false (sym e)
next_is (a ∷ as') (b ∷ i) j e =
    let z = and_in (nat_eq a b) (is_next as' (i ++ j ∷ [])) e in
    same_at_is (a ∷ as') (b ∷ i) (and_of (nat_eq a b) (same_at as' i) z.0
    (subst (λ l. same_at as' l ≡ true) (next_is as' i j z.1) (same_self_at as')))

module _ {Row Begun Decision Verdict : Type 0} (m : Source Row Begun Decision Verdict) where
  -- a graph of an open container: it is the container's own, and its indexes tell those of the container
  pub inner_owns : (w : Opening Decision Verdict) (j : List ℕ) (kind : Kind) (h : Graph) (k : List ℕ) → IsInner m.taken w j kind h k
      → (q : ℕ) → has_own h q ≡ true → owns (Some kind) q ≡ true
  inner_owns w j _ h _ in_scope q own = own
  inner_owns w j _ h _ (inner_taken {bs = bs} is) q own = in_taken bs (m.taken w.decision) h is q own
  inner_owns w j _ h _ (in_turn x lt) q own = own
  inner_owns w j _ h _ (in_round x lt) q own = own

  pub inner_at : (w : Opening Decision Verdict) (j : List ℕ) (kind : Kind) (h : Graph) (k : List ℕ) → IsInner m.taken w j kind h k
      → is_inner (Some kind) j k ≡ true
  inner_at w j _ h _ in_scope = same_self_at j
  inner_at w j _ h _ (inner_taken is) = same_self_at j
  inner_at w j _ h _ (in_turn x lt) = next_self j x
  inner_at w j _ h _ (in_round x lt) = next_self j x

  pub at_inner : (w : Opening Decision Verdict) (j : List ℕ) (kind : Kind) (h : Graph) (k : List ℕ) → IsInner m.taken w j kind h k
      → (a : List ℕ) → is_inner (Some kind) a k ≡ true → a ≡ j
  at_inner w j _ h _ in_scope a e = same_at_is a j e
  at_inner w j _ h _ (inner_taken is) a e = same_at_is a j e
  at_inner w j _ h _ (in_turn x lt) a e = next_is a j x e
  at_inner w j _ h _ (in_round x lt) a e = next_is a j x e

  abbrev inner_graph : Kind → Opening Decision Verdict → Option Graph
  inner_graph Leaf w = None
  inner_graph (Scope g) w = Some g
  inner_graph (Choice bs) w = branch_at bs (m.taken w.decision)
  inner_graph (Foreach pace g) w = Some g
  inner_graph (Until most g) w = Some g

  graph_is : (w : Opening Decision Verdict) (j : List ℕ) (kind : Kind) (h : Graph) (k : List ℕ) → IsInner m.taken w j kind h k
      → inner_graph kind w ≡ Some h
  graph_is w j _ h _ in_scope = refl
  graph_is w j _ h _ (inner_taken is) = is
  graph_is w j _ h _ (in_turn x lt) = refl
  graph_is w j _ h _ (in_round x lt) = refl

  -- which iteration it is
  turn_is : (w : Opening Decision Verdict) (j : List ℕ) (pace : Pace) (g h : Graph) (k : List ℕ) → IsInner m.taken w j (Foreach pace g) h k
      → (x : ℕ) × (x < w.next) × (k ≡ j ++ x ∷ [])
  turn_is w j pace g _ _ (in_turn x lt) = (x, lt, refl)

-- in a graph whose names stand once none of its own actions stands inside another
own_not_held : (g : Graph) → Once g → (n c : ℕ) (kind : Kind) → has_own g n ≡ true → kind_of g c ≡ Some kind → holds kind n ≡ true → ⊥
own_not_held done once n c kind own e h = true≢false (sym own)
own_not_held (add q after kd rest) (apart, alone, inside, later) n c kind own e h =
    ⊎_elim
    (λ t. within (subst (λ k. holds k n ≡ true) (sym (the_same (sym (when (nat_eq q c) (Some kd) _ t) ∙ e))) h))
    (λ u. let e' = sym (unless (nat_eq q c) (Some kd) _ u) ∙ e in
    ⊎_elim
    (λ t. within (holds_in kd c n kind (sym (when (holds kd c) (kind_in kd c) (kind_of rest c) t) ∙ e') h))
    (λ v. let e'' = sym (unless (holds kd c) (kind_in kd c) (kind_of rest c) v) ∙ e' in
    ⊎_elim
    (λ t. true≢false (sym (has_in rest c n kind e'' h) ∙ alone n (or_first (nat_eq q n) (holds kd n) t)))
    (λ o. own_not_held rest later n c kind o e'' h)
    (either (nat_eq q n) (has_own rest n) own))
    (two (holds kd c)))
    (two (nat_eq q c))
  where
    within : holds kd n ≡ true → ⊥
    within hn =
        ⊎_elim
        (λ t. true≢false (sym (subst (λ x. holds kd x ≡ true) (sym (eqb-true q n t)) hn) ∙ apart))
        (λ o. true≢false (sym (own_has rest n o) ∙ alone n (or_second (nat_eq q n) (holds kd n) hn)))
        (either (nat_eq q n) (has_own rest n) own)

module _ {Row Begun Decision Verdict : Type 0} (d : Graph) (depth : ℕ → ℕ) (m : Source Row Begun Decision Verdict)
    (s : State Row Begun Decision Verdict) (reached : IsReached d depth m s) where
  abbrev f : Table Row
  f = meaning m depth d

  pub kind_at : (n : ℕ) (i : List ℕ) (after : List Need) (kind : Kind) → IsThere d m s n i after kind
      → (kind_of d n ≡ Some kind) × (needs_of d n ≡ after)
  kind_at n i after kind th =
      let k = known d depth m s reached in
      kind_there m d k.so f k.sol s.opens th.graph i n after kind th.is_open th.is_in

  -- what is round an action of an open graph, where it has one holder
  module _ (n : ℕ) (i : List ℕ) (after : List Need) (kind : Kind) (th : IsThere d m s n i after kind) (held : HasOneHolder d n) where
    own : has_own th.graph n ≡ true
    own = in_own th.graph n after kind th.is_in

    -- no container holds what stands at the top
    top_free : (c : ℕ) → has_own d n ≡ true → (o : Option Kind) → kind_of d c ≡ o → owns o n ≡ true → ⊥
    top_free c top None e holds = true≢false (sym holds)
    top_free c top (Some kd) e holds =
        let k = known d depth m s reached in
        own_not_held d (once_sound m d d 0 k.so) n c kd top e (owns_holds kd n holds)

    record Round (c : ℕ) : Type 0 where
      pub at : List ℕ
      pub needs : List Need
      pub its_kind : Kind
      pub opening : Opening Decision Verdict
      pub stands : IsThere d m s c at needs its_kind
      pub is_open : s.opens (address c at) ≡ Some opening
      pub inner : IsInner m.taken opening at its_kind th.graph i

    round : (c : ℕ) → owns (kind_of d c) n ≡ true → Round c
    round c holds = go (inner_of_open m d s th.graph i th.is_open)
      where
        go : ((th.graph ≡ d) × (i ≡ []))
            ⊎ ((c : ℕ) × (j : List ℕ) × (after : List Need) × (kind : Kind) × (w : Opening Decision Verdict) × IsThere d m s c j after kind
            × (s.opens (address c j) ≡ Some w) × IsInner m.taken w j kind th.graph i) → Round c
        go (inl z) = absurd (top_free c (subst (λ g. has_own g n ≡ true) z.0 own) (kind_of d c) refl holds)
        go (inr (b, j, a, k, w, t, ew, inn)) =
            let is = held b c (ap (λ o. owns o n) (kind_at b j a k t).0 ∙ inner_owns m w j k th.graph i inn n own) holds in
            subst Round is (record { at = j; needs = a; its_kind = k; opening = w; stands = t; is_open = ew; inner = inn })

    -- the container that holds it, as it is known otherwise
    holder_is : (c : ℕ) (j : List ℕ) (kd : Kind) (w : Opening Decision Verdict) → kind_of d c ≡ Some kd → owns (kind_of d c) n ≡ true
        → is_inner (Some kd) j i ≡ true → s.opens (address c j) ≡ Some w → IsInner m.taken w j kd th.graph i
    holder_is c j kd w kc holds at ew =
        let r = round c holds in
        let same : r.its_kind ≡ kd = the_same (sym (kind_at c r.at r.needs r.its_kind r.stands).0 ∙ kc) in
        let inn : IsInner m.taken r.opening r.at kd th.graph i =
        subst (λ (z : Kind). IsInner m.taken r.opening r.at z th.graph i) same r.inner in
        let place : j ≡ r.at = at_inner m r.opening r.at kd th.graph i inn j at in
        let it : r.opening ≡ w = the_same (sym r.is_open ∙ ap (λ x. s.opens (address c x)) (sym place) ∙ ew) in
        subst (λ x. IsInner m.taken w x kd th.graph i) (sym place)
        (subst (λ (z : Opening Decision Verdict). IsInner m.taken z r.at kd th.graph i) it inn)

    -- its graph is the one there
    graph_there : (c : ℕ) (j : List ℕ) (kd : Kind) (w : Opening Decision Verdict) (h : Graph) → kind_of d c ≡ Some kd
        → owns (kind_of d c) n ≡ true → s.opens (address c j) ≡ Some w → IsInner m.taken w j kd h i → has_own h n ≡ true
    graph_there c j kd w h kc holds ew inn =
        let it = holder_is c j kd w kc holds (inner_at m w j kd h i inn) ew in
        subst (λ g. has_own g n ≡ true) (the_same (sym (graph_is m w j kd th.graph i it) ∙ graph_is m w j kd h i inn)) own

    holder_stands : (x : Address) → owns (kind_of d x.name) n ≡ true → is_inner (kind_of d x.name) x.at i ≡ true → Stands d m s x
    holder_stands x holds at =
        let r = round x.name holds in
        let kc = (kind_at x.name r.at r.needs r.its_kind r.stands).0 in
        let place : x.at ≡ r.at = at_inner m r.opening r.at r.its_kind th.graph i r.inner x.at
        (ap (λ o. is_inner o x.at i) (sym kc) ∙ at) in
        (r.needs, r.its_kind, subst (λ l. IsThere d m s x.name l r.needs r.its_kind) (sym place) r.stands)

module _ {Row Begun Decision Verdict : Type 0} (d : Graph) (depth : ℕ → ℕ) (m : Source Row Begun Decision Verdict)
    (s : State Row Begun Decision Verdict) (reached : IsReached d depth m s) (e : Event) (s' : State Row Begun Decision Verdict)
    (st : Step d m s e s') (pl : places e ≡ true) (once : (q : ℕ) → times (needs_of d q) (place_of e).name ≤ 1)
    (held : HasOneHolder d (place_of e).name) where
  abbrev n : ℕ
  n = (place_of e).name

  abbrev i : List ℕ
  i = (place_of e).at

  next : IsReached d depth m s'
  next = goes_on d depth m s reached e s' st

  stood : Stands d m s (place_of e)
  stood =
      let k = known d depth m s reached in
      enabled_there m d k.so (meaning m depth d) k.sol k.closed k.out s e s' k.keeps k.busy k.rooted st s k.busy (place_of e) e s' refl st

  -- it still stands there
  still : Stands d m s' (place_of e)
  still =
      let k = known d depth m s reached in
      let th = stood.2 in
      let f = meaning m depth d in (
        stood.0,
        stood.1,
        ⊎_elim
            (λ og. record { graph = th.graph; is_open = og; is_in = th.is_in })
            (λ over. absurd (true≢false
            (sym (ended_row m d k.so f k.sol k.closed k.out s e s' k.keeps k.busy k.rooted st th.graph i n stood.0 stood.1 th.is_in over)
            ∙ ap has_ended (no_row_yet m d k.so f k.sol k.closed k.out s e s' k.keeps k.busy k.rooted st pl))))
            (stays m d k.so f k.sol k.closed k.out s e s' k.keeps k.busy k.rooted st th.graph i th.is_open),
      )

  no_open : (q : ℕ) (j : List ℕ) → e ≡ Open q j → ⊥
  no_open q j ex = true≢false (sym pl ∙ ap places ex)

  no_begin : (q : ℕ) (j : List ℕ) → e ≡ Begin q j → ⊥
  no_begin q j ex = true≢false (sym pl ∙ ap places ex)

  no_enters : (x : Event) → places x ≡ true → (y : Address) → enters d s x y ≡ false
  no_enters (Start q j) t y = refl
  no_enters (Try q j) t y = refl
  no_enters (Test q j) t y = refl
  no_enters (End q j) t y = refl
  no_enters (Skip q j) t y = refl
  no_enters (Close q j) t y = refl
  no_enters (Open q j) t y = absurd (true≢false (sym t))
  no_enters (Begin q j) t y = absurd (true≢false (sym t))

  module _ (waits waits' lacks lacks' : Table ℕ) (left left' : Address → ℕ) (ready ready' : Table Event)
      (counts : AreCounts d m s waits lacks)
      (lefts : AreLeft d m s left) (is : IsReady d m s ready)
      (ed : IsPlaced d m (place_of e) s' waits waits' lacks lacks' left left' ready ready') where
    waits_are : (x : Address) → waits' x ≡ waits_after d m s e waits x
    waits_are x =
        ed.named x
        ∙ sym (unless (enters d s e x) (nonzero (length (needs_of d x.name)))
        (cond (places e && here) (less (times (needs_of d x.name) n) (waits x)) (waits x)) (no_enters e pl x)
        ∙ ap (λ b. cond (b && here) (less (times (needs_of d x.name) n) (waits x)) (waits x)) pl ∙ ⊎_elim
        (λ t. ap (λ c. cond here (less c (waits x)) (waits x)) (named_once (needs_of d x.name) n
        (and_in (is_named (needs_of d x.name) n) (same_at i x.at) t).0 (once x.name)))
        (λ u. unless here (less (times (needs_of d x.name) n) (waits x)) (waits x) u
        ∙ sym (unless here (less 1 (waits x)) (waits x) u))
        (two here))
      where
        here : Bool
        here = is_named (needs_of d x.name) n && same_at i x.at

    lacks_are : AreLacksAfter d m s e s' lacks lacks'
    lacks_are = record {
      opened = λ q j kind w h k ex kn ew inner. absurd (no_open q j ex);
      begun = λ q j kind u w h ex kn eu ew inner. absurd (no_begin q j ex);
      placed = λ q j kind u h k kn eu inner t.
          let z = and_in (places e) (has_own h n && same_at i k) t in
          let o = and_in (has_own h n) (same_at i k) z.1 in
          ed.owned (address q k)
          ∙ when (owns (kind_of d q) n && same_at i k) (less 1 (lacks (address q k))) (lacks (address q k))
          (and_of (owns (kind_of d q) n) (same_at i k) (ap (λ x. owns x n) kn ∙ inner_owns m u j kind h k inner n o.0) o.1);
      others = λ q j kind u h k kn eu inner u'.
          ed.owned (address q k)
          ∙ unless (owns (kind_of d q) n && same_at i k) (less 1 (lacks (address q k))) (lacks (address q k))
          (not_true (owns (kind_of d q) n && same_at i k) (λ t.
          let o = and_in (owns (kind_of d q) n) (same_at i k) t in
          let at = same_at_is i k o.1 in
          let there = graph_there d depth m s reached n i stood.0 stood.1 stood.2 held q j kind u h kn o.0 eu
          (subst (λ l. IsInner m.taken u j kind h l) (sym at) inner) in
          true≢false (sym (and_of (places e) (has_own h n && same_at i k) pl (and_of (has_own h n) (same_at i k) there o.1)) ∙ u')));
    }

    counts' : AreCounts d m s' waits' lacks'
    counts' = counts_are_kept d depth m s reached e s' st waits waits' lacks lacks' counts
        (λ q j after kind th. waits_are (address q j)) lacks_are

    lefts_are : AreLeftAfter d m s e s' lacks' left left'
    lefts_are = record {
      opened = λ q j ex. absurd (no_open q j ex);
      begun = λ q j pace h ex kn. absurd (no_begin q j ex);
      placed = λ q j pace h u x kn eu lt t.
          let z = and_in (places e) (has_own h n && same_at i (j ++ x ∷ [])) t in
          let o = and_in (has_own h n) (same_at i (j ++ x ∷ [])) z.1 in
          let at = same_at_is i (j ++ x ∷ []) o.1 in
          let now = left (address q j) in
          ed.finished (address q j)
          ∙ less_where (is_foreach (kind_of d q)) (owns (kind_of d q) n && is_next j i) (has_ended (lacks' (address q i))) now
          (ap is_foreach kn)
          (and_of (owns (kind_of d q) n) (is_next j i) (ap (λ y. owns y n) kn ∙ o.0) (ap (is_next j) at ∙ next_self j x))
          ∙ ap (λ l. cond (has_ended (lacks' (address q l))) now (now - 1)) at;
      others = λ q j pace h u kn eu nb none.
          ed.finished (address q j)
          ∙ unless (is_foreach (kind_of d q) && ((owns (kind_of d q) n && is_next j i) && not (has_ended (lacks' (address q i)))))
          (left (address q j) - 1) (left (address q j))
          (not_true _ (λ t.
          let z = and_in (is_foreach (kind_of d q)) ((owns (kind_of d q) n && is_next j i) && not (has_ended (lacks' (address q i)))) t in
          let o = and_in (owns (kind_of d q) n) (is_next j i)
          (and_in (owns (kind_of d q) n && is_next j i) (not (has_ended (lacks' (address q i)))) z.1).0 in
          let inn = holder_is d depth m s reached n i stood.0 stood.1 stood.2 held q j (Foreach pace h) u kn o.0 o.1 eu in
          let x = turn_is m u j pace h stood.2.graph i inn in
          let there : has_own h n ≡ true = sym (ap (λ y. owns y n) kn) ∙ o.0 in
          true≢false (sym (and_of (places e) (has_own h n && same_at i (j ++ x.0 ∷ [])) pl
          (and_of (has_own h n) (same_at i (j ++ x.0 ∷ [])) there (ap (same_at i) (sym x.2) ∙ same_self_at i))) ∙ none x.0 x.1)));
    }
      where
        less_where : (a b g : Bool) (c : ℕ) → a ≡ true → b ≡ true → cond (a && (b && not g)) (c - 1) c ≡ cond g c (c - 1)
        less_where a b g c ea eb = ap (λ z. cond (z && (b && not g)) (c - 1) c) ea ∙ ap (λ z. cond (z && not g) (c - 1) c) eb ∙ go g
          where
            go : (g : Bool) → cond (not g) (c - 1) c ≡ cond g c (c - 1)
            go true = refl
            go false = refl

    lefts' : AreLeft d m s' left'
    lefts' = left_is_kept d depth m s reached e s' st waits' lacks' left left' counts' lefts lefts_are

    abbrev anew : Address → Bool
    anew x = is_own n i x || looks_at d (place_of e) x

    refreshed : IsRefreshed d m anew s e s' ready ready'
    refreshed = record {
      looked = λ q j after kind th t.
          let k = kind_at d depth m s' next q j after kind th in
          ed.looked_at (address q j)
          ∙ when (anew (address q j)) (looked d m s' waits' lacks' left' (address q j)) (ready (address q j)) t
          ∙ ap (λ o. event_by d m o s' waits' lacks' left' (address q j)) k.0
          ∙ ap (λ a. counted_event d m s' waits' lacks' left' a kind q j) k.1
          ∙ event_same d m s' waits' lacks' left' counts' lefts' q j after kind th;
      others = λ x u. ed.looked_at x ∙ unless (anew x) (looked d m s' waits' lacks' left' x) (ready x) u;
      stands = λ x t. ⊎_elim
          (λ own. subst (λ (y : Address). Stands d m s' y) (own_is n i x own) still)
          (λ l. ⊎_elim
          (λ na.
          let z = and_in (is_named (needs_of d x.name) n) (same_at i x.at) na in
          let th = followers_are_there d depth m s' next n i still.0 still.1 still.2 x.name z.0 in
          (th.0, th.1, subst (λ l. IsThere d m s' x.name l th.0 th.1) (same_at_is i x.at z.1) th.2))
          (λ ho.
          let z = and_in (owns (kind_of d x.name) n) (is_inner (kind_of d x.name) x.at i) ho in
          holder_stands d depth m s' next n i still.0 still.1 still.2 held x z.0 z.1)
          (either (is_named (needs_of d x.name) n && same_at i x.at) (owns (kind_of d x.name) n && is_inner (kind_of d x.name) x.at i) l))
          (either (is_own n i x) (looks_at d (place_of e) x) t);
      covers = λ x th t. covered (is_own n i x) (places e) (looks_at d (place_of e) x) (enters d s e x) (no_enters e pl x) t;
    }
      where
        covered : (a p b c : Bool) → c ≡ false → (a || ((p && b) || c)) ≡ true → (a || b) ≡ true
        covered true p b c ec t = refl
        covered false true b c ec t = go b c ec t
          where
            go : (b c : Bool) → c ≡ false → (b || c) ≡ true → b ≡ true
            go true c ec t = refl
            go false c ec t = absurd (true≢false (sym t ∙ ec))
        covered false false b c ec t = absurd (true≢false (sym t ∙ ec))

    ready_is : IsReady d m s' ready'
    ready_is = refreshes_are_exact d depth m s reached e s' st anew ready ready' is refreshed

-- THE LAW
pub rows_are_counted : {Row Begun Decision Verdict : Type 0} (d : Graph) (depth : ℕ → ℕ) (m : Source Row Begun Decision Verdict)
    (s : State Row Begun Decision Verdict) → IsReached d depth m s → (e : Event) (s' : State Row Begun Decision Verdict) → Step d m s e s'
    → places e ≡ true → ((q : ℕ) → times (needs_of d q) (place_of e).name ≤ 1) → HasOneHolder d (place_of e).name
    → (waits waits' lacks lacks' : Table ℕ) (left left' : Address → ℕ) (ready ready' : Table Event)
    → AreCounts d m s waits lacks → AreLeft d m s left → IsReady d m s ready
    → IsPlaced d m (place_of e) s' waits waits' lacks lacks' left left' ready ready'
    → AreCounts d m s' waits' lacks' × AreLeft d m s' left' × IsReady d m s' ready'
rows_are_counted d depth m s reached e s' st pl once held waits waits' lacks lacks' left left' ready ready' counts lefts is ed = (
  counts' d depth m s reached e s' st pl once held waits waits' lacks lacks' left left' ready ready' counts lefts is ed,
  lefts' d depth m s reached e s' st pl once held waits waits' lacks lacks' left left' ready ready' counts lefts is ed,
  ready_is d depth m s reached e s' st pl once held waits waits' lacks lacks' left left' ready ready' counts lefts is ed,
)
