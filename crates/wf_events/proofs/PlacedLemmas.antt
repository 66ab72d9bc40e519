-- The edits of an action that gets its row, by a plan, are those that the laws of counting ask for.
use Rattle.std.proofs.Common.{◌≡◌, ℕ, ◌-◌, option_map, Bool, true, false, ◌&&◌, ◌||◌, cond, List, [], ◌∷◌, Option, Some, None, ◌⊎◌, inl, inr, ⊎_elim, nat_eq, refl, sym, ap, ◌∙◌, subst, arith, eqb-true, true≢false}
use Rattle.std.proofs.lemmas.Option.{none-some}
use Rattle.wf_layers.specs.Address.{Address, Table, address, is_own, same_at}
use Rattle.wf_layers.specs.Changes.{is_inner, is_named, looks_at, owns, places}
use Rattle.wf_layers.specs.Definition.{Need, Kind, Leaf, Scope, Choice, Foreach, Until, Graph, done, add, has, has_own, holds, kind_in, kind_of, needs_of}
use Rattle.wf_layers.specs.Machine.{End, Event, IsThere, Opening, Running, State, Step, has_ended, or_else, place_of}
use Rattle.wf_layers.specs.Meaning.{meaning, only}
use Rattle.wf_layers.specs.Seen.{Once}
use Rattle.wf_layers.specs.Source.{Source}
use Rattle.wf_layers.proofs.Basics.{and_in, and_of, either, not_true, or_first, or_second, same_self_at, two, unless, when}
use Rattle.wf_layers.proofs.Changes.{ended_row, enabled_there, in_own, owns_holds, stays}
use Rattle.wf_layers.proofs.Tables.{has_in, holds_in, own_is, same_at_is}
use Rattle.wf_layers.proofs.Waiting.{own_has}
use Rattle.wf_tables.specs.Counted.{IsInner, less}
use Rattle.wf_tables.specs.Event.{counted_busy}
use Rattle.wf_tables.specs.Reached.{IsReached}
use Rattle.wf_tables.specs.Ready.{Stands}
use Rattle.wf_tables.proofs.Counts.{has_row_then, inner_of_open, no_row_yet}
use Rattle.wf_tables.proofs.Followers.{followers_are_there, once_sound}
use Rattle.wf_tables.proofs.Informed.{running_stands}
use Rattle.wf_tables.proofs.KeptKnown.{Known, goes_on, known}
use Rattle.wf_step_laws.specs.Edits.{IsPlaced, event_by, looked}
use Rattle.wf_step_laws.proofs.Idle as idle
use Rattle.wf_step_laws.proofs.Placed.{inner_at, inner_owns, kind_at}
use Rattle.wf_tables.specs.Known.{is_among}
use Rattle.wf_tables.specs.Plan.{PlanTree, shape_of}
use Rattle.wf_tables.specs.PlanOf.{IsPlanOf}
use Rattle.wf_tables.specs.PlanSeen.{at_place, list_at}
use Rattle.wf_tables.proofs.GraphLemmas.{kind_there}
use Rattle.wf_events.specs.Looked.{idle_at, open_at}
use Rattle.wf_events.specs.Round.{but_last, is_finished, is_graph, look_out, outer_at, outer_or_same, round_at, round_in}
use Rattle.wf_events.proofs.LookLemmas.{idle_there, open_there}
use Rattle.wf_events.proofs.RoundLemmas.{finished_is, graph_is, holder_is, no_holder, no_next, one_holder, outer_is}

the_same : {A : Type 0} {u v : A} → Some u ≡ Some v → u ≡ v
the_same e = cc (e)

-- in a graph whose names stand once none of its own actions stands inside another
own_not_held : (g : Graph) → Once g → (n c : ℕ) (kind : Kind) → has_own g n ≡ true → kind_of g c ≡ Some kind → holds kind n ≡ true → ⊥
own_not_held done once n c kind own e h = true≢false (sym own)
own_not_held (add q after kd rest) (apart, alone, inside, later) n c kind own e h =
    ⊎_elim
    (λ t. within (subst (λ k. holds k n ≡ true) (sym (the_same (sym (when (nat_eq q c) (Some kd) _ t) ∙ e))) h))
    (λ u. let e' = sym (unless (nat_eq q c) (Some kd) _ u) ∙ e in
    ⊎_elim
    (λ t. within (holds_in kd c n kind (sym (when (holds kd c) (kind_in kd c) (kind_of rest c) t) ∙ e') h))
    (λ v. let e'' = sym (unless (holds kd c) (kind_in kd c) (kind_of rest c) v) ∙ e' in
    ⊎_elim
    (λ t. true≢false (sym (has_in rest c n kind e'' h) ∙ alone n (or_first (nat_eq q n) (holds kd n) t)))
    (λ o. own_not_held rest later n c kind o e'' h)
    (either (nat_eq q n) (has_own rest n) own))
    (two (holds kd c)))
    (two (nat_eq q c))
  where
    within : holds kd n ≡ true → ⊥
    within hn =
        ⊎_elim
        (λ t. true≢false (sym (subst (λ x. holds kd x ≡ true) (sym (eqb-true q n t)) hn) ∙ apart))
        (λ o. true≢false (sym (own_has rest n o) ∙ alone n (or_second (nat_eq q n) (holds kd n) hn)))
        (either (nat_eq q n) (has_own rest n) own)

-- where a container stands, by the indexes inside it
inner_outer : (kind : Kind) (j i : List ℕ) → is_inner (Some kind) j i ≡ true → outer_at (shape_of kind) i ≡ j
inner_outer Leaf j i e = absurd (true≢false (sym e))
inner_outer (Scope g) j i e = sym (same_at_is j i e)
inner_outer (Choice bs) j i e = sym (same_at_is j i e)
inner_outer (Foreach pace g) j [] e = absurd (true≢false (sym e ∙ sym (no_next j)))
inner_outer (Foreach pace g) j (a ∷ i) e = same_at_is (but_last (a ∷ i)) j (outer_is a i j ∙ e)
inner_outer (Until most g) j [] e = absurd (true≢false (sym e ∙ sym (no_next j)))
inner_outer (Until most g) j (a ∷ i) e = same_at_is (but_last (a ∷ i)) j (outer_is a i j ∙ e)

-- ---- the container round what stands in an open graph

module _ {Row Begun Decision Verdict : Type 0} (d : Graph) (depth : ℕ → ℕ) (m : Source Row Begun Decision Verdict)
    (s : State Row Begun Decision Verdict) (reached : IsReached d depth m s) (p : PlanTree) (plan : IsPlanOf d p) (n : ℕ) (i : List ℕ)
    (after : List Need) (kind : Kind) (th : IsThere d m s n i after kind) where
  pub is_in : has d n ≡ true
  is_in = kind_there d n kind (kind_at d depth m s reached n i after kind th).0

  own : has_own th.graph n ≡ true
  own = in_own th.graph n after kind th.is_in

  top_free : (c : ℕ) → has_own d n ≡ true → (o : Option Kind) → kind_of d c ≡ o → owns o n ≡ true → ⊥
  top_free c top None e held = true≢false (sym held)
  top_free c top (Some kd) e held =
      let k = known d depth m s reached in
      own_not_held d (once_sound m d d 0 k.so) n c kd top e (owns_holds kd n held)

  record Outer (c : ℕ) : Type 0 where
    pub at : List ℕ
    pub its_kind : Kind
    pub opening : Opening Decision Verdict
    pub is_kind : kind_of d c ≡ Some its_kind
    pub is_open : s.opens (address c at) ≡ Some opening
    pub inner : is_inner (Some its_kind) at i ≡ true

  outer : (c : ℕ) → owns (kind_of d c) n ≡ true → Outer c
  outer c holds = go (inner_of_open m d s th.graph i th.is_open)
    where
      go : ((th.graph ≡ d) × (i ≡ []))
          ⊎ ((c : ℕ) × (j : List ℕ) × (after : List Need) × (kind : Kind) × (w : Opening Decision Verdict) × IsThere d m s c j after kind
          × (s.opens (address c j) ≡ Some w) × IsInner m.taken w j kind th.graph i) → Outer c
      go (inl z) = absurd (top_free c (subst (λ g. has_own g n ≡ true) z.0 own) (kind_of d c) refl holds)
      go (inr (b, j, a, k, w, t, ew, inn)) =
          let kn = (kind_at d depth m s reached b j a k t).0 in
          let is = one_holder d p plan n is_in b c (ap (λ o. owns o n) kn ∙ inner_owns m w j k th.graph i inn n own) holds in
          subst Outer is (record {
            at = j;
            its_kind = k;
            opening = w;
            is_kind = kn;
            is_open = ew;
            inner = inner_at m w j k th.graph i inn;
          })

  module _ (waits lacks : Table ℕ) (left : Address → ℕ) where
    abbrev look : Address → Option Event
    look = open_at m s.opens lacks left p

    abbrev holds_it : Address → Bool
    holds_it x = owns (kind_of d x.name) n && is_inner (kind_of d x.name) x.at i

    look_is : (c : ℕ) (o : Outer c) → look (address c o.at) ≡ looked d m s waits lacks left (address c o.at)
    look_is c o =
        open_there d m s waits lacks left p plan c o.at o.its_kind o.is_kind
        ((known d depth m s reached).busy.no_row (address c o.at) (inr (o.opening, o.is_open)))
        (idles (s.running (address c o.at)) refl) s.opens refl o.opening o.is_open
        ∙ sym (ap (λ z. event_by d m z s waits lacks left (address c o.at)) o.is_kind)
      where
        idles : (r : Option (Running Begun)) → s.running (address c o.at) ≡ r → s.running (address c o.at) ≡ None
        idles None e = e
        idles (Some r) e = absurd (none-some o.opening
            (sym (running_stands d depth m s reached (address c o.at) r e).2 ∙ o.is_open))

    pub out_is : (t : Table Event) (x : Address) → look_out look (round_at p (record { action = n; at = i })) t x
        ≡ cond (holds_it x) (looked d m s waits lacks left x) (t x)
    out_is t x = go (at_place p.holders n) refl
      where
        found : (c : ℕ) → at_place p.holders n ≡ Some c → (o : Outer c)
            → cond (is_own c o.at x) (look (address c o.at)) (t x) ≡ cond (holds_it x) (looked d m s waits lacks left x) (t x)
        found c e o =
            ⊎_elim
            (λ q. let is = own_is c o.at x q in
            when (is_own c o.at x) (look (address c o.at)) (t x) q ∙ look_is c o ∙ ap (looked d m s waits lacks left) is
            ∙ sym (when (holds_it x) (looked d m s waits lacks left x) (t x)
            (subst (λ y. holds_it y ≡ true) is (and_of (owns (kind_of d c) n) (is_inner (kind_of d c) o.at i) (plan.holder n c e)
            (ap (λ z. is_inner z o.at i) o.is_kind ∙ o.inner)))))
            (λ u. unless (is_own c o.at x) (look (address c o.at)) (t x) u
            ∙ sym (unless (holds_it x) (looked d m s waits lacks left x) (t x) (not_true (holds_it x) (λ q.
            let z = and_in (owns (kind_of d x.name) n) (is_inner (kind_of d x.name) x.at i) q in
            let h = holder_is d p plan n is_in c e x.name ∙ z.0 in
            let kx = ap (kind_of d) (sym (eqb-true c x.name h)) ∙ o.is_kind in
            let at = sym (inner_outer o.its_kind o.at i o.inner)
            ∙ inner_outer o.its_kind x.at i (ap (λ k. is_inner k x.at i) (sym kx) ∙ z.1) in
            true≢false (sym (and_of (nat_eq c x.name) (same_at o.at x.at) h
            (subst (λ l. same_at o.at l ≡ true) at (same_self_at o.at))) ∙ u)))))
            (two (is_own c o.at x))

        go : (o : Option ℕ) → at_place p.holders n ≡ o → look_out look (option_map (round_in p i) o) t x
            ≡ cond (holds_it x) (looked d m s waits lacks left x) (t x)
        go None e =
            sym (unless (holds_it x) (looked d m s waits lacks left x) (t x)
            (ap (λ b. b && is_inner (kind_of d x.name) x.at i) (no_holder d p plan n is_in e x.name)))
        go (Some c) e =
            let o = outer c (plan.holder n c e) in
            let entry = plan.entry c o.its_kind o.is_kind in
            ap (λ j. cond (is_own c j x) (look (address c j)) (t x))
            (ap (λ z. outer_or_same z i) entry.1 ∙ ap (λ z. outer_at z i) entry.2.shape ∙ inner_outer o.its_kind o.at i o.inner)
            ∙ found c e o

-- ---- the edits

merge : (a b c : Bool) (l i r : Option Event) → (a ≡ true → l ≡ None) → (b ≡ true → i ≡ l)
    → cond b i (cond c l (cond a None r)) ≡ cond (a || (b || c)) l r
merge true true c l i r e f = f refl
merge true false true l i r e f = refl
merge true false false l i r e f = sym (e refl)
merge false true c l i r e f = f refl
merge false false true l i r e f = refl
merge false false false l i r e f = refl

flipped : (a b : ℕ) → nat_eq a b ≡ nat_eq b a
flipped a b = grind (arith)

module _ {Row Begun Decision Verdict : Type 0} (d : Graph) (depth : ℕ → ℕ) (m : Source Row Begun Decision Verdict)
    (s : State Row Begun Decision Verdict) (reached : IsReached d depth m s) (e : Event) (s' : State Row Begun Decision Verdict)
    (st : Step d m s e s') (pl : places e ≡ true) (p : PlanTree) (plan : IsPlanOf d p) where
  abbrev n : ℕ
  n = (place_of e).name

  abbrev i : List ℕ
  i = (place_of e).at

  k : Known d depth m s
  k = known d depth m s reached

  next : IsReached d depth m s'
  next = goes_on d depth m s reached e s' st

  stood : Stands d m s (place_of e)
  stood =
      enabled_there m d k.so (meaning m depth d) k.sol k.closed k.out s e s' k.keeps k.busy k.rooted st s k.busy (place_of e) e s' refl st

  -- it still stands there
  still : Stands d m s' (place_of e)
  still =
      let th = stood.2 in
      let f = meaning m depth d in (
        stood.0,
        stood.1,
        ⊎_elim
            (λ og. record { graph = th.graph; is_open = og; is_in = th.is_in })
            (λ over. absurd (true≢false
            (sym (ended_row m d k.so f k.sol k.closed k.out s e s' k.keeps k.busy k.rooted st th.graph i n stood.0 stood.1 th.is_in over)
            ∙ ap has_ended (no_row_yet m d k.so f k.sol k.closed k.out s e s' k.keeps k.busy k.rooted st pl))))
            (stays m d k.so f k.sol k.closed k.out s e s' k.keeps k.busy k.rooted st th.graph i th.is_open),
      )

  pub there : has d n ≡ true
  there = is_in d depth m s' next p plan n i still.0 still.1 still.2

  module _ (waits waits' lacks lacks' : Table ℕ) (left left' : Address → ℕ) (ready ready' : Table Event)
      (idles : (q : ℕ) → is_named (needs_of d q) n ≡ true
      → (s'.rows (address q i) ≡ None) × (s'.running (address q i) ≡ None) × (s'.opens (address q i) ≡ None))
      (named : (x : Address) → waits' x
      ≡ cond (is_among x.name (list_at p.followers n) && same_at i x.at) (less 1 (waits x)) (waits x))
      (owned : (x : Address) → lacks' x ≡ cond (is_graph (round_at p (record { action = n; at = i })) x) (less 1 (lacks x)) (lacks x))
      (finished : (x : Address) → left' x
      ≡ cond (is_finished (round_at p (record { action = n; at = i })) lacks' x) (left x - 1) (left x))
      (looks : (x : Address) → ready' x ≡ cond (is_among x.name (list_at p.followers n) && same_at i x.at) (idle_at m s'.rows waits' p x)
      (look_out (open_at m s'.opens lacks' left' p) (round_at p (record { action = n; at = i }))
      (λ y. cond (is_own n i y) None (ready y)) x)) where
    ended_none : (x : Address) → has_ended (s'.rows x) ≡ true → looked d m s' waits' lacks' left' x ≡ None
    ended_none x t = go (kind_of d x.name)
      where
        go : (o : Option Kind) → event_by d m o s' waits' lacks' left' x ≡ None
        go None = refl
        go (Some kind) =
            when (has_ended (s'.rows x)) None
            (counted_busy d m s' waits' lacks' left' (needs_of d x.name) kind x.name x.at (s'.running x)) t

    own_none : (x : Address) → is_own n i x ≡ true → looked d m s' waits' lacks' left' x ≡ None
    own_none x t =
        ended_none x (subst (λ y. has_ended (s'.rows y) ≡ true) (own_is n i x t)
        (has_row_then m d k.so (meaning m depth d) k.sol k.closed k.out s e s' k.keeps k.busy k.rooted st pl))

    follower_is : (q : ℕ) → is_named (needs_of d q) n ≡ true
        → idle_at m s'.rows waits' p (address q i) ≡ looked d m s' waits' lacks' left' (address q i)
    follower_is q nm =
        let th = followers_are_there d depth m s' next n i still.0 still.1 still.2 q nm in
        let kn = (kind_at d depth m s' next q i th.0 th.1 th.2).0 in
        let is = idles q nm in
        idle_there d m s' waits' lacks' left' p plan q i th.1 kn is.0 is.1 is.2
        ∙ sym (ap (λ z. event_by d m z s' waits' lacks' left' (address q i)) kn)

    idle_is : (x : Address) → (is_named (needs_of d x.name) n && same_at i x.at) ≡ true
        → idle_at m s'.rows waits' p x ≡ looked d m s' waits' lacks' left' x
    idle_is x t =
        let z = and_in (is_named (needs_of d x.name) n) (same_at i x.at) t in
        subst (λ l. idle_at m s'.rows waits' p (address x.name l) ≡ looked d m s' waits' lacks' left' (address x.name l))
        (same_at_is i x.at z.1) (follower_is x.name z.0)

    looks_are : (x : Address) → ready' x
        ≡ cond (is_own n i x || looks_at d (place_of e) x) (looked d m s' waits' lacks' left' x) (ready x)
    looks_are x =
        looks x
        ∙ ap (λ b. cond (b && same_at i x.at) (idle_at m s'.rows waits' p x)
        (look_out (open_at m s'.opens lacks' left' p) (round_at p (record { action = n; at = i }))
        (λ y. cond (is_own n i y) None (ready y)) x)) (plan.follow n x.name there)
        ∙ ap (cond (is_named (needs_of d x.name) n && same_at i x.at) (idle_at m s'.rows waits' p x))
        (out_is d depth m s' next p plan n i still.0 still.1 still.2 waits' lacks' left' (λ y. cond (is_own n i y) None (ready y)) x)
        ∙ merge (is_own n i x) (is_named (needs_of d x.name) n && same_at i x.at)
        (owns (kind_of d x.name) n && is_inner (kind_of d x.name) x.at i) (looked d m s' waits' lacks' left' x)
        (idle_at m s'.rows waits' p x) (ready x) (own_none x) (idle_is x)

    pub placed_by : IsPlaced d m (place_of e) s' waits waits' lacks lacks' left left' ready ready'
    placed_by = record {
      named = λ x. named x ∙ ap (λ b. cond (b && same_at i x.at) (less 1 (waits x)) (waits x)) (plan.follow n x.name there);
      owned = λ x. owned x ∙ ap (λ b. cond b (less 1 (lacks x)) (lacks x)) (graph_is d p plan n there i x);
      finished = λ x. finished x ∙ ap (λ b. cond b (left x - 1) (left x)) (finished_is d p plan n there i lacks' x);
      looked_at = looks_are;
    }

-- ---- who waits for a leaf that ends

module _ {Row Begun Decision Verdict : Type 0} (d : Graph) (depth : ℕ → ℕ) (m : Source Row Begun Decision Verdict)
    (s : State Row Begun Decision Verdict) (reached : IsReached d depth m s) (n : ℕ) (i : List ℕ) (s' : State Row Begun Decision Verdict)
    (st : Step d m s (End n i) s') where
  pub end_idles : (q : ℕ) → is_named (needs_of d q) n ≡ true
      → (s'.rows (address q i) ≡ None) × (s'.running (address q i) ≡ None) × (s'.opens (address q i) ≡ None)
  end_idles q nm =
      let off : is_own n i (address q i) ≡ false =
      ap (λ b. b && same_at i i) (flipped n q ∙ idle.apart d depth m s reached (End n i) s' st refl q nm) in (
        ap (λ (z : State Row Begun Decision Verdict). z.rows (address q i)) st.3
            ∙ ap (λ b. or_else (only b (Some (m.finish (address n i) st.0.begun s.rows))) (s.rows (address q i))) off
            ∙ idle.no_row d depth m s reached (End n i) s' st refl q nm,
        ap (λ (z : State Row Begun Decision Verdict). z.running (address q i)) st.3
            ∙ unless (is_own n i (address q i)) None (s.running (address q i)) off
            ∙ idle.not_running d depth m s reached (End n i) s' st refl q nm,
        ap (λ (z : State Row Begun Decision Verdict). z.opens (address q i)) st.3
            ∙ idle.not_open d depth m s reached (End n i) s' st refl q nm,
      )
