-- Where a graph is entered.
use Rattle.std.proofs.Common.{◌≡◌, ℕ, suc, ◌<◌, Bool, true, false, ◌&&◌, ◌||◌, cond, List, [], ◌∷◌, ◌++◌, length, length-append, Option, Some, None, ◌⊎◌, inl, inr, ⊎_elim, refl, sym, ap, ◌∙◌, subst, arith, nat_eq, true≢false}
use Rattle.std.proofs.lemmas.Option.{none-some}
use Rattle.wf_layers.specs.Definition.{Need, Kind, Leaf, Scope, Choice, Foreach, Until, Graph, has_own, needs_of, kind_of}
use Rattle.wf_layers.specs.Address.{Address, address, Table, same_at, is_own}
use Rattle.wf_layers.specs.Source.{Source}
use Rattle.wf_layers.specs.Meaning.{meaning}
use Rattle.wf_layers.specs.Machine.{Opening, State, Event, Start, Try, End, Skip, Open, Begin, Test, Close, place_of, has_ended, IsOpen, scope, chosen, turn, round, IsThere, Step}
use Rattle.wf_layers.specs.Changes.{is_inner, looks_at, places, enters, is_named}
use Rattle.wf_layers.specs.Waiting.{times}
use Rattle.wf_layers.proofs.Basics.{two, and_in, and_of, either, not_true, same_self_at, when, unless}
use Rattle.wf_layers.proofs.Tables.{own_is, own_self, same_at_is}
use Rattle.wf_layers.proofs.Changes.{in_own, enabled_there, stays, ended_row}
use Rattle.wf_kept.specs.Counted.{nonzero, less, size, IsInner, in_scope, in_taken as inner_taken, in_turn, in_round, AreCounts, AreLacksAfter, waits_after}
use Rattle.wf_kept.specs.Event.{AreLeft, AreLeftAfter, counted_event}
use Rattle.wf_kept.specs.Reached.{IsReached}
use Rattle.wf_kept.specs.Ready.{IsReady, IsRefreshed, Stands}
use Rattle.wf_kept.proofs.Known.{Known, known, goes_on}
use Rattle.wf_kept.proofs.Counts.{IsNew, counts_are_kept, entered_is_new, new_enters, own_there}
use Rattle.wf_kept.proofs.Unfinished.{left_is_kept}
use Rattle.wf_kept.proofs.Edited.{refreshes_are_exact}
use Rattle.wf_kept.proofs.Events.{event_same}
use Rattle.wf_step_laws.specs.Edits.{IsEntered, event_by, has_own_of, is_foreach, looked, opened_graph, size_of, turned_graph}
use Rattle.wf_step_laws.proofs.Placed.{at_inner, inner_at, kind_at, the_same}

-- indexes and the same with one more
longer_not : (j : List ℕ) (x : ℕ) → j ≡ j ++ x ∷ [] → ⊥
longer_not j x e = let l = ap length e ∙ length-append j (x ∷ []) in omega (arith, l)

last_same : (j : List ℕ) (a b : ℕ) → (j ++ a ∷ []) ≡ (j ++ b ∷ []) → a ≡ b
last_same [] a b e = head e
  where
    head : {a b : ℕ} → (a ∷ []) ≡ (b ∷ []) → a ≡ b
    head e = cc (e)
last_same (c ∷ j) a b e = last_same j a b (tail e)
  where
    tail : {a b : ℕ} {as' bs : List ℕ} → (a ∷ as') ≡ (b ∷ bs) → as' ≡ bs
    tail e = cc (e)

module _ {Row Begun Decision Verdict : Type 0} (m : Source Row Begun Decision Verdict) where
  -- the graph of a container that has just opened
  opened_inner : (w : Opening Decision Verdict) (j : List ℕ) (kind : Kind) (h : Graph) (k : List ℕ) → IsInner m.taken w j kind h k
      → w.next ≡ 0 → (opened_graph m.taken kind w.decision ≡ Some h) × (j ≡ k)
  opened_inner w j _ h _ in_scope z = (refl, refl)
  opened_inner w j _ h _ (inner_taken is) z = (is, refl)
  opened_inner w j _ h _ (in_turn x lt) z = absurd (omega (arith, lt, z))
  opened_inner w j _ h _ (in_round x lt) z = absurd (omega (arith, lt, z))

  inner_opened : (w : Opening Decision Verdict) (i : List ℕ) (kind : Kind) (g : Graph) → opened_graph m.taken kind w.decision ≡ Some g
      → IsInner m.taken w i kind g i
  inner_opened w i Leaf g e = absurd (none-some g e)
  inner_opened w i (Scope h) g e = subst (λ x. IsInner m.taken w i (Scope h) x i) (the_same e) in_scope
  inner_opened w i (Choice bs) g e = inner_taken e
  inner_opened w i (Foreach pace h) g e = absurd (none-some g e)
  inner_opened w i (Until most h) g e = absurd (none-some g e)

  -- and of an iteration
  turned_inner : (w : Opening Decision Verdict) (j : List ℕ) (kind : Kind) (h : Graph) (k : List ℕ) → IsInner m.taken w j kind h k
      → (x : ℕ) → k ≡ j ++ x ∷ [] → (turned_graph kind ≡ Some h) × (x < w.next)
  turned_inner w j _ h _ in_scope x e = absurd (longer_not j x e)
  turned_inner w j _ h _ (inner_taken is) x e = absurd (longer_not j x e)
  turned_inner w j _ h _ (in_turn y lt) x e = (refl, subst (λ z. z < w.next) (last_same j y x e) lt)
  turned_inner w j _ h _ (in_round y lt) x e = (refl, subst (λ z. z < w.next) (last_same j y x e) lt)

  inner_turned : (w : Opening Decision Verdict) (i : List ℕ) (kind : Kind) (g : Graph) (j : ℕ) → turned_graph kind ≡ Some g → j < w.next
      → IsInner m.taken w i kind g (i ++ j ∷ [])
  inner_turned w i Leaf g j e lt = absurd (none-some g e)
  inner_turned w i (Scope h) g j e lt = absurd (none-some g e)
  inner_turned w i (Choice bs) g j e lt = absurd (none-some g e)
  inner_turned w i (Foreach pace h) g j e lt =
      subst (λ x. IsInner m.taken w i (Foreach pace h) x (i ++ j ∷ [])) (the_same e) (in_turn j lt)
  inner_turned w i (Until most h) g j e lt =
      subst (λ x. IsInner m.taken w i (Until most h) x (i ++ j ∷ [])) (the_same e) (in_round j lt)

  -- a graph of an open container is open
  inner_open : (d : Graph) (t : State Row Begun Decision Verdict) (n : ℕ) (i : List ℕ) (after : List Need) (kind : Kind)
      (u : Opening Decision Verdict) (h : Graph) (j : List ℕ) → IsThere d m t n i after kind → t.opens (address n i) ≡ Some u
      → IsInner m.taken u i kind h j → IsOpen m.taken d t.opens h j
  inner_open d t n i after _ u h _ th eu in_scope = scope th.is_open th.is_in eu
  inner_open d t n i after _ u h _ th eu (inner_taken is) = chosen th.is_open th.is_in eu is
  inner_open d t n i after _ u h _ th eu (in_turn j lt) = turn j th.is_open th.is_in eu lt
  inner_open d t n i after _ u h _ th eu (in_round j lt) = round j th.is_open th.is_in eu lt

module _ {Row Begun Decision Verdict : Type 0} (d : Graph) (depth : ℕ → ℕ) (m : Source Row Begun Decision Verdict)
    (s : State Row Begun Decision Verdict) (reached : IsReached d depth m s) (e : Event) (s' : State Row Begun Decision Verdict)
    (st : Step d m s e s') where
  abbrev k : Known d depth m s
  k = known d depth m s reached

  abbrev f : Table Row
  f = meaning m depth d

  abbrev p : Address
  p = place_of e

  next : IsReached d depth m s'
  next = goes_on d depth m s reached e s' st

  abbrev IsEnteredNow : Graph → List ℕ → Type 0
  IsEnteredNow = IsNew m d k.so f k.sol k.closed k.out s e s' k.keeps k.busy k.rooted st

  stood : Stands d m s p
  stood = enabled_there m d k.so f k.sol k.closed k.out s e s' k.keeps k.busy k.rooted st s k.busy p e s' refl st

  -- what has no row before it stands there after it
  still : s.rows p ≡ None → Stands d m s' p
  still none =
      let th = stood.2 in (
        stood.0,
        stood.1,
        ⊎_elim
            (λ og. record { graph = th.graph; is_open = og; is_in = th.is_in })
            (λ over. absurd (true≢false
            (sym (ended_row m d k.so f k.sol k.closed k.out s e s' k.keeps k.busy k.rooted st th.graph p.at p.name stood.0 stood.1
            th.is_in over)
            ∙ ap has_ended none)))
            (stays m d k.so f k.sol k.closed k.out s e s' k.keeps k.busy k.rooted st th.graph p.at th.is_open),
      )

  -- the container of a graph that is entered is that of the event
  new_place : (g : Graph) (j : List ℕ) (z : IsEnteredNow g j) → p ≡ address z.container z.at
  new_place g j z = ⊎_elim (λ h. ap place_of h.1) (λ h. ap place_of h.1) z.how

  module _ (quiet : places e ≡ false) (no_row : s.rows p ≡ None)
      (not_open : (q : ℕ) (j : List ℕ) → e ≡ Open q j → s.opens (address q j) ≡ None)
      (just : (q : ℕ) (j : List ℕ) (w : Opening Decision Verdict) → e ≡ Open q j → s'.opens (address q j) ≡ Some w → w.next ≡ 0)
      (entered : Option Graph) (l : List ℕ) (new_is : (g : Graph) (j : List ℕ) → IsEnteredNow g j → (entered ≡ Some g) × (l ≡ j))
      (is_new : (g : Graph) → entered ≡ Some g → IsEnteredNow g l) where
    some_of : (o : Option Graph) (q : ℕ) → has_own_of o q ≡ true → (g : Graph) × (o ≡ Some g) × (has_own g q ≡ true)
    some_of None q h = absurd (true≢false (sym h))
    some_of (Some g) q h = (g, refl, h)

    some_graph : (o : Option Graph) → has_ended o ≡ true → (g : Graph) × (o ≡ Some g)
    some_graph None h = absurd (true≢false (sym h))
    some_graph (Some g) h = (g, refl)

    abbrev inside : Address → Bool
    inside x = has_own_of entered x.name && same_at l x.at

    -- of what stands in the new state those are entered that are own actions of the graph
    enters_in : (x : Address) → Stands d m s' x → enters d s e x ≡ true → inside x ≡ true
    enters_in x th t =
        let z = entered_is_new m d k.so f k.sol k.closed k.out s e s' k.keeps k.busy k.rooted st x.name x.at th.0 th.1 th.2 t in
        let is = new_is th.2.graph x.at z in
        and_of (has_own_of entered x.name) (same_at l x.at)
        (ap (λ o. has_own_of o x.name) is.0 ∙ in_own th.2.graph x.name th.0 th.1 th.2.is_in)
        (ap (same_at l) (sym is.1) ∙ same_self_at l)

    in_enters : (x : Address) → inside x ≡ true → enters d s e x ≡ true
    in_enters x t =
        let z = and_in (has_own_of entered x.name) (same_at l x.at) t in
        let g = some_of entered x.name z.0 in
        ap (λ j. enters d s e (address x.name j)) (sym (same_at_is l x.at z.1))
        ∙ new_enters m d k.so f k.sol k.closed k.out s e s' k.keeps k.busy k.rooted st g.0 l (is_new g.0 g.1) x.name g.2

    no_places : (c : Bool) → (places e && c) ≡ false
    no_places c = ap (λ b. b && c) quiet

    module _ (now : ℕ) (waits waits' lacks lacks' : Table ℕ) (left left' : Address → ℕ) (ready ready' : Table Event)
        (counts : AreCounts d m s waits lacks) (lefts : AreLeft d m s left) (is : IsReady d m s ready)
        (ed : IsEntered d m p entered l now s' waits waits' lacks lacks' left left' ready ready')
        (lefts_are : AreLeftAfter d m s e s' lacks' left left') where
      abbrev here : Address → Bool
      here x = is_named (needs_of d x.name) p.name && same_at p.at x.at

      abbrev fewer : Address → Option ℕ
      fewer x = less (times (needs_of d x.name) p.name) (waits x)

      abbrev all : Address → Option ℕ
      all x = nonzero (length (needs_of d x.name))

      waits_are : (x : Address) → Stands d m s' x → waits' x ≡ waits_after d m s e waits x
      waits_are x th =
          ed.waited x
          ∙ ⊎_elim
          (λ t. when (inside x) (all x) (waits x) (enters_in x th t)
          ∙ sym (when (enters d s e x) (all x) (cond (places e && here x) (fewer x) (waits x)) t))
          (λ u. unless (inside x) (all x) (waits x) (not_true (inside x) (λ t. true≢false (sym (in_enters x t) ∙ u)))
          ∙ sym (unless (enters d s e x) (all x) (cond (places e && here x) (fewer x) (waits x)) u
          ∙ unless (places e && here x) (fewer x) (waits x) (no_places (here x))))
          (two (enters d s e x))

      -- the count of a graph that is entered
      lacks_new : (h : Graph) (j : List ℕ) (z : IsEnteredNow h j) → lacks' (address z.container j) ≡ nonzero (size h)
      lacks_new h j z =
          let same = new_is h j z in
          let own : is_own p.name l (address z.container j) ≡ true =
          ap (λ (a : Address). is_own a.name l (address z.container j)) (new_place h j z)
          ∙ ap (λ a. is_own z.container a (address z.container j)) same.1 ∙ own_self z.container j in
          ed.lacked (address z.container j)
          ∙ when (has_ended entered && is_own p.name l (address z.container j)) (nonzero (size_of entered)) (lacks (address z.container j))
          (and_of (has_ended entered) (is_own p.name l (address z.container j)) (ap has_ended same.0) own)
          ∙ ap (λ o. nonzero (size_of o)) same.0

      -- a graph that was open isn't entered
      not_again : (h : Graph) (z : IsEnteredNow h l) (kind : Kind) (u : Opening Decision Verdict) (j : List ℕ) (g : Graph)
          → kind_of d z.container ≡ Some kind → s.opens (address z.container j) ≡ Some u → IsInner m.taken u j kind g l → ⊥
      not_again h z kind u j g kc eu inn = go z.how
        where
          same : z.kind ≡ kind
          same = the_same (sym (kind_at d depth m s reached z.container z.at z.after z.kind z.stood).0 ∙ kc)

          place : z.at ≡ j
          place =
              at_inner m u j kind g l inn z.at
              (subst (λ (x : Kind). is_inner (Some x) z.at l ≡ true) same (inner_at m z.opening z.at z.kind h l z.inner))

          go : ((z.opening.next ≡ 0) × (e ≡ Open z.container z.at))
              ⊎ ((u : Opening Decision Verdict) × (e ≡ Begin z.container z.at) × (s.opens (address z.container z.at) ≡ Some u)
              × (l ≡ z.at ++ u.next ∷ [])) → ⊥
          go (inl (nx, ex)) = none-some u (sym (not_open z.container z.at ex) ∙ ap (λ x. s.opens (address z.container x)) place ∙ eu)
          go (inr (v, ex, ev, at)) =
              let it : v ≡ u = the_same (sym ev ∙ ap (λ x. s.opens (address z.container x)) place ∙ eu) in
              let below = (turned_inner m u j kind g l inn v.next (at ∙ ap (λ x. x ++ v.next ∷ []) place)).1 in
              let more : v.next ≡ u.next = ap (λ (o : Opening Decision Verdict). o.next) it in omega (arith, below, more)

      lacks_are : AreLacksAfter d m s e s' lacks lacks'
      lacks_are = record {
        opened = λ q j kind w h a ex kn ew inner.
            let th = stood_at q j (ap place_of ex) in
            let same : th.1 ≡ kind = the_same (sym (kind_at d depth m s reached q j th.0 th.1 th.2).0 ∙ kn) in
            lacks_new h a (record {
              container = q;
              at = j;
              after = th.0;
              kind = kind;
              opening = w;
              stood = subst (λ (x : Kind). IsThere d m s q j th.0 x) same th.2;
              is_open = ew;
              inner = inner;
              how = inl (just q j w ex ew, ex);
            });
        begun = λ q j kind u w h ex kn eu ew inner.
            let th = stood_at q j (ap place_of ex) in
            let same : th.1 ≡ kind = the_same (sym (kind_at d depth m s reached q j th.0 th.1 th.2).0 ∙ kn) in
            lacks_new h (j ++ u.next ∷ []) (record {
              container = q;
              at = j;
              after = th.0;
              kind = kind;
              opening = w;
              stood = subst (λ (x : Kind). IsThere d m s q j th.0 x) same th.2;
              is_open = ew;
              inner = inner;
              how = inr (u, ex, eu, refl);
            });
        placed = λ q j kind u h a kn eu inner t. absurd (true≢false (sym t ∙ no_places _));
        others = λ q j kind u h a kn eu inner t.
            ed.lacked (address q a)
            ∙ unless (has_ended entered && is_own p.name l (address q a)) (nonzero (size_of entered)) (lacks (address q a))
            (not_true _ (λ own.
            let z = and_in (has_ended entered) (is_own p.name l (address q a)) own in
            let g = some_graph entered z.0 in
            let new = is_new g.0 g.1 in
            let it = own_is p.name l (address q a) z.1 in
            let name : q ≡ new.container =
            sym (ap (λ (x : Address). x.name) it) ∙ ap (λ (x : Address). x.name) (new_place g.0 l new) in
            not_again g.0 new kind u j h (ap (kind_of d) (sym name) ∙ kn) (ap (λ x. s.opens (address x j)) (sym name) ∙ eu)
            (subst (λ x. IsInner m.taken u j kind h x) (sym (ap (λ (x : Address). x.at) it)) inner)));
      }
        where
          stood_at : (q : ℕ) (j : List ℕ) → p ≡ address q j → Stands d m s (address q j)
          stood_at q j at = subst (λ (x : Address). Stands d m s x) at stood

      counts' : AreCounts d m s' waits' lacks'
      counts' =
          counts_are_kept d depth m s reached e s' st waits waits' lacks lacks' counts
          (λ q j after kind th. waits_are (address q j) (after, kind, th)) lacks_are

      lefts' : AreLeft d m s' left'
      lefts' = left_is_kept d depth m s reached e s' st waits' lacks' left left' counts' lefts lefts_are

      abbrev anew : Address → Bool
      anew x = is_own p.name p.at x || inside x

      refreshed : IsRefreshed d m anew s e s' ready ready'
      refreshed = record {
        looked = λ q j after kind th t.
            let h = kind_at d depth m s' next q j after kind th in
            ed.looked_at (address q j)
            ∙ when (anew (address q j)) (looked d m s' waits' lacks' left' (address q j)) (ready (address q j)) t
            ∙ ap (λ o. event_by d m o s' waits' lacks' left' (address q j)) h.0
            ∙ ap (λ a. counted_event d m s' waits' lacks' left' a kind q j) h.1
            ∙ event_same d m s' waits' lacks' left' counts' lefts' q j after kind th;
        others = λ x u. ed.looked_at x ∙ unless (anew x) (looked d m s' waits' lacks' left' x) (ready x) u;
        stands = λ x t. ⊎_elim
            (λ own. subst (λ (y : Address). Stands d m s' y) (own_is p.name p.at x own) (still no_row))
            (λ i. inside_stands x i)
            (either (is_own p.name p.at x) (inside x) t);
        covers = λ x th t. covered (is_own p.name p.at x) (places e) (looks_at d p x) (enters d s e x) (inside x) quiet (enters_in x th) t;
      }
        where
          covered : (a b c n i : Bool) → b ≡ false → (n ≡ true → i ≡ true) → (a || ((b && c) || n)) ≡ true → (a || i) ≡ true
          covered true b c n i q h t = refl
          covered false true b n i q h t = absurd (true≢false q)
          covered false false b n i q h t = h t

          inside_stands : (x : Address) → inside x ≡ true → Stands d m s' x
          inside_stands x t =
              let z = and_in (has_own_of entered x.name) (same_at l x.at) t in
              let g = some_of entered x.name z.0 in
              let new = is_new g.0 g.1 in
              let th = subst (λ (y : Address). Stands d m s' y) (new_place g.0 l new) (still no_row) in
              let same : th.1 ≡ new.kind = the_same (sym (kind_at d depth m s' next new.container new.at th.0 th.1 th.2).0
              ∙ (kind_at d depth m s reached new.container new.at new.after new.kind new.stood).0) in
              let og = inner_open m d s' new.container new.at th.0 new.kind new.opening g.0 l
              (subst (λ (y : Kind). IsThere d m s' new.container new.at th.0 y) same th.2) new.is_open new.inner in
              let q = own_there m d k.so f k.sol k.closed k.out s e s' k.keeps k.busy k.rooted st g.0 x.name g.2 in (
                q.0,
                q.1,
                record {
                  graph = g.0;
                  is_open = subst (λ j. IsOpen m.taken d s'.opens g.0 j) (same_at_is l x.at z.1) og;
                  is_in = q.2;
                },
              )

      ready_is : IsReady d m s' ready'
      ready_is = refreshes_are_exact d depth m s reached e s' st anew ready ready' is refreshed

      pub all_are : AreCounts d m s' waits' lacks' × AreLeft d m s' left' × IsReady d m s' ready'
      all_are = (counts', lefts', ready_is)

is_open_event : Event → Bool
is_open_event (Open n i) = true
is_open_event (Start n i) = false
is_open_event (Try n i) = false
is_open_event (End n i) = false
is_open_event (Skip n i) = false
is_open_event (Begin n i) = false
is_open_event (Test n i) = false
is_open_event (Close n i) = false

not_both : (n q : ℕ) (i j : List ℕ) → Open n i ≡ Begin q j → ⊥
unfolding is_open_event
not_both n q i j ex = true≢false (ap is_open_event ex)

-- ---- a container opens
module _ {Row Begun Decision Verdict : Type 0} (d : Graph) (depth : ℕ → ℕ) (m : Source Row Begun Decision Verdict)
    (s : State Row Begun Decision Verdict) (reached : IsReached d depth m s) (n : ℕ) (i : List ℕ) (s' : State Row Begun Decision Verdict)
    (st : Step d m s (Open n i) s') (kind : Kind) (kn : kind_of d n ≡ Some kind) (w : Opening Decision Verdict)
    (ew : s'.opens (address n i) ≡ Some w) where
  abbrev decided_now : Opening Decision Verdict
  decided_now = record { decision = m.decide (address n i) s.rows; next = 0; test = None }

  opens_now : s'.opens (address n i) ≡ Some decided_now
  opens_now =
      ap (λ (z : State Row Begun Decision Verdict). z.opens (address n i)) st.5
      ∙ when (is_own n i (address n i)) (Some decided_now) (s.opens (address n i)) (own_self n i)

  begins_at_none : (q : ℕ) (j : List ℕ) (v : Opening Decision Verdict) → Open n i ≡ Open q j → s'.opens (address q j) ≡ Some v → v.next ≡ 0
  begins_at_none q j v ex ev =
      ap (λ (o : Opening Decision Verdict). o.next) (the_same (sym ev ∙ ap (λ y. s'.opens (place_of y)) (sym ex) ∙ opens_now))

  was_not_open : (q : ℕ) (j : List ℕ) → Open n i ≡ Open q j → s.opens (address q j) ≡ None
  was_not_open q j ex = ap (λ y. s.opens (place_of y)) (sym ex) ∙ st.3.not_open

  opens_new : (g : Graph) (j : List ℕ) → IsEnteredNow d depth m s reached (Open n i) s' st g j
      → (opened_graph m.taken kind w.decision ≡ Some g) × (i ≡ j)
  opens_new g j z = go z.how
    where
      at : address n i ≡ address z.container z.at
      at = new_place d depth m s reached (Open n i) s' st g j z

      same : z.kind ≡ kind
      same =
          the_same (sym (kind_at d depth m s reached z.container z.at z.after z.kind z.stood).0
          ∙ ap (λ (x : Address). kind_of d x.name) (sym at) ∙ kn)

      it : z.opening ≡ w
      it = the_same (sym z.is_open ∙ ap s'.opens (sym at) ∙ ew)

      go : ((z.opening.next ≡ 0) × (Open n i ≡ Open z.container z.at))
          ⊎ ((u : Opening Decision Verdict) × (Open n i ≡ Begin z.container z.at) × (s.opens (address z.container z.at) ≡ Some u)
          × (j ≡ z.at ++ u.next ∷ [])) → (opened_graph m.taken kind w.decision ≡ Some g) × (i ≡ j)
      go (inl (nx, ex)) =
          let o = opened_inner m z.opening z.at z.kind g j z.inner nx in (
            ap (λ x. opened_graph m.taken x w.decision) (sym same)
                ∙ ap (λ (x : Opening Decision Verdict). opened_graph m.taken z.kind x.decision) (sym it) ∙ o.0,
            ap (λ (x : Address). x.at) at ∙ o.1,
          )
      go (inr (u, ex, eu, is)) = absurd (not_both n z.container i z.at ex)

  new_opens : (g : Graph) → opened_graph m.taken kind w.decision ≡ Some g → IsEnteredNow d depth m s reached (Open n i) s' st g i
  new_opens g eg = record {
    container = n;
    at = i;
    after = st.0;
    kind = kind;
    opening = w;
    stood =
        subst (λ (x : Kind). IsThere d m s n i st.0 x)
        (the_same (sym (kind_at d depth m s reached n i st.0 st.1 st.3.is_there).0 ∙ kn)) st.3.is_there;
    is_open = ew;
    inner = inner_opened m w i kind g eg;
    how = inl (begins_at_none n i w refl ew, refl);
  }

  -- THE LAW
  pub openings_are_counted : (waits waits' lacks lacks' : Table ℕ) (left left' : Address → ℕ) (ready ready' : Table Event)
      → AreCounts d m s waits lacks → AreLeft d m s left → IsReady d m s ready
      → IsEntered d m (address n i) (opened_graph m.taken kind w.decision) i 0 s' waits waits' lacks lacks' left left' ready ready'
      → AreCounts d m s' waits' lacks' × AreLeft d m s' left' × IsReady d m s' ready'
  openings_are_counted waits waits' lacks lacks' left left' ready ready' counts lefts is ed =
      all_are d depth m s reached (Open n i) s' st refl st.3.no_row was_not_open begins_at_none (opened_graph m.taken kind w.decision) i
      opens_new new_opens 0 waits waits' lacks lacks' left left' ready ready' counts lefts is ed
      (record {
        opened = λ q j ex.
            ed.unfinished (address q j)
            ∙ when (is_own n i (address q j)) 0 (left (address q j)) (ap (λ y. is_own n i (place_of y)) (sym ex) ∙ own_self n i);
        begun = λ q j pace h ex kq. absurd (not_both n q i j ex);
        placed = λ q j pace h u x kq eu lt t. absurd (true≢false (sym t));
        others = λ q j pace h u kq eu nb none.
            ed.unfinished (address q j)
            ∙ unless (is_own n i (address q j)) 0 (left (address q j)) (not_true (is_own n i (address q j)) (λ t.
            none-some u (sym st.3.not_open ∙ ap s.opens (own_is n i (address q j) t) ∙ eu)));
      })

-- ---- an iteration begins
module _ {Row Begun Decision Verdict : Type 0} (d : Graph) (depth : ℕ → ℕ) (m : Source Row Begun Decision Verdict)
    (s : State Row Begun Decision Verdict) (reached : IsReached d depth m s) (n : ℕ) (i : List ℕ) (s' : State Row Begun Decision Verdict)
    (st : Step d m s (Begin n i) s') (kind : Kind) (kn : kind_of d n ≡ Some kind) (u : Opening Decision Verdict)
    (eu : s.opens (address n i) ≡ Some u) where
  abbrev begun_now : Opening Decision Verdict
  begun_now = record { decision = st.2.decision; next = suc st.2.next; test = None }

  opens_then : s'.opens (address n i) ≡ Some begun_now
  opens_then =
      ap (λ (z : State Row Begun Decision Verdict). z.opens (address n i)) st.6
      ∙ when (is_own n i (address n i)) (Some begun_now) (s.opens (address n i)) (own_self n i)

  was : u ≡ st.2
  was = the_same (sym eu ∙ st.4)

  begins_new : (g : Graph) (j : List ℕ) → IsEnteredNow d depth m s reached (Begin n i) s' st g j
      → (turned_graph kind ≡ Some g) × ((i ++ u.next ∷ []) ≡ j)
  begins_new g j z = go z.how
    where
      at : address n i ≡ address z.container z.at
      at = new_place d depth m s reached (Begin n i) s' st g j z

      same : z.kind ≡ kind
      same =
          the_same (sym (kind_at d depth m s reached z.container z.at z.after z.kind z.stood).0
          ∙ ap (λ (x : Address). kind_of d x.name) (sym at) ∙ kn)

      go : ((z.opening.next ≡ 0) × (Begin n i ≡ Open z.container z.at))
          ⊎ ((v : Opening Decision Verdict) × (Begin n i ≡ Begin z.container z.at) × (s.opens (address z.container z.at) ≡ Some v)
          × (j ≡ z.at ++ v.next ∷ [])) → (turned_graph kind ≡ Some g) × ((i ++ u.next ∷ []) ≡ j)
      go (inl (nx, ex)) = absurd (not_both z.container n z.at i (sym ex))
      go (inr (v, ex, ev, is)) =
          let it : u ≡ v = the_same (sym eu ∙ ap s.opens at ∙ ev) in (
            ap turned_graph (sym same) ∙ (turned_inner m z.opening z.at z.kind g j z.inner v.next is).0,
            ap (λ (x : Address). x.at ++ u.next ∷ []) at ∙ ap (λ (o : Opening Decision Verdict). z.at ++ o.next ∷ []) it ∙ sym is,
          )

  new_begins : (g : Graph) → turned_graph kind ≡ Some g → IsEnteredNow d depth m s reached (Begin n i) s' st g (i ++ u.next ∷ [])
  new_begins g eg = record {
    container = n;
    at = i;
    after = st.0;
    kind = kind;
    opening = begun_now;
    stood =
        subst (λ (x : Kind). IsThere d m s n i st.0 x)
        (the_same (sym (kind_at d depth m s reached n i st.0 st.1 st.3).0 ∙ kn)) st.3;
    is_open = opens_then;
    inner = inner_turned m begun_now i kind g u.next eg
        (subst (λ (o : Opening Decision Verdict). u.next < suc o.next) was (omega arith));
    how = inr (u, refl, eu, refl);
  }

  -- THE LAW
  pub iterations_are_counted : (now : ℕ) (waits waits' lacks lacks' : Table ℕ) (left left' : Address → ℕ) (ready ready' : Table Event)
      → AreCounts d m s waits lacks → AreLeft d m s left → IsReady d m s ready
      → (is_foreach (kind_of d n) ≡ true
      → now ≡ cond (nat_eq (size_of (turned_graph kind)) 0) (left (address n i)) (suc (left (address n i))))
      → IsEntered d m (address n i) (turned_graph kind) (i ++ u.next ∷ []) now s' waits waits' lacks lacks' left left' ready ready'
      → AreCounts d m s' waits' lacks' × AreLeft d m s' left' × IsReady d m s' ready'
  iterations_are_counted now waits waits' lacks lacks' left left' ready ready' counts lefts is more ed =
      let kk = known d depth m s reached in
      all_are d depth m s reached (Begin n i) s' st refl (kk.busy.no_row (address n i) (inr (u, eu)))
      (λ q j ex. absurd (not_both q n j i (sym ex))) (λ q j w ex ew. absurd (not_both q n j i (sym ex))) (turned_graph kind)
      (i ++ u.next ∷ []) begins_new new_begins now waits waits' lacks lacks' left left' ready ready' counts lefts is ed
      (record {
        opened = λ q j ex. absurd (not_both q n j i (sym ex));
        begun = λ q j pace h ex kq.
            let at : address n i ≡ address q j = ap place_of ex in
            let kind_is : kind ≡ Foreach pace h = the_same (sym kn ∙ ap (λ (x : Address). kind_of d x.name) at ∙ kq) in
            let it : is_foreach (kind_of d n) ≡ true = ap is_foreach (ap (λ (x : Address). kind_of d x.name) at ∙ kq) in
            ed.unfinished (address q j)
            ∙ when (is_own n i (address q j)) now (left (address q j)) (ap (is_own n i) (sym at) ∙ own_self n i)
            ∙ more it ∙ ap (λ x. cond (nat_eq (size_of (turned_graph x)) 0) (left (address n i)) (suc (left (address n i)))) kind_is
            ∙ ap (λ x. cond (nat_eq (size h) 0) (left x) (suc (left x))) at;
        placed = λ q j pace h v x kq ev lt t. absurd (true≢false (sym t));
        others = λ q j pace h v kq ev nb none.
            ed.unfinished (address q j)
            ∙ unless (is_own n i (address q j)) now (left (address q j)) (not_true (is_own n i (address q j)) (λ t.
            nb (ap (λ (x : Address). Begin x.name x.at) (own_is n i (address q j) t))));
      })
