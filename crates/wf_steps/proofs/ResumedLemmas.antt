-- What is kept of the state from which an old record is gone on.
use Rattle.std.proofs.Common.{◌≡◌, ℕ, suc, Bool, true, false, ◌&&◌, ◌||◌, cond, List, [], ◌∷◌, Option, Some, None, option_map, slice_get, is_eq, ⊎_elim, refl, sym, ap, ◌∙◌, subst, arith, true≢false}
use Rattle.std.proofs.lemmas.Option.{none-some}
use Rattle.wf_lists.specs.KeyOrder.{IsInKeyOrder, find_key}
use Rattle.wf_lists.proofs.KeyOrderLemmas.{find-own}
use Rattle.wf_layers.specs.Definition.{Need, Kind, Leaf, Scope, Choice, Foreach, Until, Graph, done, add, has_own, kind_of, needs_of}
use Rattle.wf_layers.specs.Address.{Address, Table, address, same_at}
use Rattle.wf_layers.specs.Enabled.{events}
use Rattle.wf_layers.specs.Machine.{Opening, State, Event, Start, Try, End, Skip, Open, Begin, Test, Close, In, IsOpen, top, scope, chosen, turn, round, IsThere, Step, has_ended, place_of}
use Rattle.wf_layers.specs.Source.{Source}
use Rattle.wf_layers.specs.Variables.{IsLastWritten}
use Rattle.wf_layers.specs.Waiting.{lacking, waiting}
use Rattle.wf_layers.proofs.Basics.{and_in, two, unless, when}
use Rattle.wf_layers.proofs.Changes.{in_own}
use Rattle.wf_layers.proofs.Tables.{same_at_is}
use Rattle.wf_kept.specs.Counted.{AreCounts, IsInner, in_round, in_scope, in_taken, in_turn, nonzero}
use Rattle.wf_kept.specs.Event.{AreLeft, counted_busy, counted_event}
use Rattle.wf_kept.specs.Reached.{IsReached, IsResumption}
use Rattle.wf_kept.specs.Ready.{IsReady}
use Rattle.wf_kept.proofs.Events.{event_same}
use Rattle.wf_kept.proofs.Informed.{kinds_are_known, open_stands, running_stands}
use Rattle.wf_kept.proofs.Known.{exact_there}
use Rattle.wf_kept.proofs.Quiet.{there_events}
use Rattle.wf_kept.proofs.Resumed.{resumption_is_reached, resumption_is_stored, resumption_opens}
use Rattle.wf_step_laws.specs.Edits.{has_own_of, opened_graph}
use Rattle.wf_events.specs.Instances.{address_of, instance_cmp, instance_of, instance_total}
use Rattle.wf_events.specs.Known.{is_among, open_tree, store_in, writer}
use Rattle.wf_events.specs.Instance.{Instance}
use Rattle.wf_events.specs.OpenAt.{OpenAt}
use Rattle.wf_events.specs.RowAt.{RowAt}
use Rattle.wf_events.specs.WriterAt.{WriterAt}
use Rattle.wf_events.specs.Plan.{PlanTree, own_numbers}
use Rattle.wf_events.specs.PlanSeen.{or_none}
use Rattle.wf_events.proofs.ExactLemmas.{among_or}
use Rattle.wf_events.proofs.GraphLemmas.{among_both}
use Rattle.wf_events.proofs.GraphLemmas as graphs
use Rattle.wf_events.specs.Tables.{count_in, events_in, left_in, state_of}
use Rattle.wf_events.specs.CountAt.{CountAt}
use Rattle.wf_events.specs.EventAt.{EventAt}
use Rattle.wf_events.proofs.CountLemmas.{needs_are}
use Rattle.wf_events.proofs.OpenLemmas.{found_at}
use Rattle.wf_events.proofs.LookLemmas.{idle_there, open_there}
use Rattle.wf_resting.specs.Graphs.{opened_at}
use Rattle.wf_resting.proofs.EnteredLemmas.{among_is, opened_there, some_of}
use Rattle.wf_resting.proofs.RestingLemmas.{the_same}
use Rattle.wf_steps.specs.Kept.{IsKept, IsPlanned}
use Rattle.wf_resting.specs.Resting.{all_entered, entered_by, lacking_of, lacks_at, lacks_by, resting_at, resting_by, standing, waits_at}
use Rattle.wf_steps.proofs.FreshLemmas.{own_there}

first_of : (a b : Bool) → a ≡ true → (a || b) ≡ true
first_of a b t = ap (λ z. z || b) t

later_of : (a b : Bool) → b ≡ true → (a || b) ≡ true
later_of true b t = refl
later_of false b t = t

-- what lacks a row of a graph's own actions
lacking_own : {A : Type 0} (h : Graph) (at : List ℕ) (rows : Table A) → lacking_of rows at (own_numbers h) ≡ lacking h at rows
lacking_own done at rows = refl
lacking_own (add n after kind rest) at rows =
    ap (λ c. cond (has_ended (rows (address n at))) c (suc c)) (lacking_own rest at rows)

-- ---- the actions of open graphs

module _ {Decision Verdict Decided : Type 0} (p : PlanTree) (decided : Decision → Decided) (taken : Decided → ℕ) where
  -- the graph that one of the containers has entered is among all
  entered_among : (os : List (OpenAt Decision Verdict)) (k : Instance) (o : OpenAt Decision Verdict)
      → find_key instance_cmp (λ (z : OpenAt Decision Verdict). z.instance) k os ≡ Some o → (q : ℕ)
      → is_among q (entered_by p decided taken o) ≡ true → is_among q (all_entered p decided taken os) ≡ true
  entered_among [] k o e q h = absurd (none-some o e)
  entered_among (z ∷ os) k o e q h =
      among_both q (entered_by p decided taken z) (all_entered p decided taken os)
      ∙ ⊎_elim
      (λ t. let is : z ≡ o = the_same (sym (when (is_eq (instance_cmp k z.instance)) (Some z) _ t) ∙ e) in
      first_of (is_among q (entered_by p decided taken z)) (is_among q (all_entered p decided taken os))
      (subst (λ (y : OpenAt Decision Verdict). is_among q (entered_by p decided taken y) ≡ true) (sym is) h))
      (λ u. later_of (is_among q (entered_by p decided taken z)) (is_among q (all_entered p decided taken os))
      (entered_among os k o (sym (unless (is_eq (instance_cmp k z.instance)) (Some z) _ u) ∙ e) q h))
      (two (is_eq (instance_cmp k z.instance)))

  -- and what is among all is in the graph that one of them has entered
  among_entered : (os : List (OpenAt Decision Verdict)) (q : ℕ) → is_among q (all_entered p decided taken os) ≡ true
      → (n : ℕ) × (o : OpenAt Decision Verdict) × (slice_get os n ≡ Some o) × (is_among q (entered_by p decided taken o) ≡ true)
  among_entered [] q h = absurd (true≢false (sym h))
  among_entered (z ∷ os) q h =
      ⊎_elim
      (λ t. (0, z, refl, t))
      (λ t. let r = among_entered os q t in (suc r.0, r.1, r.2, r.3))
      (among_or q (entered_by p decided taken z) (all_entered p decided taken os) h)

-- where no iteration has begun, an open graph in a container is the one that it entered as it opened
inner_is : {Decision Verdict : Type 0} (taken : Decision → ℕ) (w : Opening Decision Verdict) (i : List ℕ) (kind : Kind) (h : Graph)
    (k : List ℕ) → w.next ≡ 0 → IsInner taken w i kind h k → (k ≡ i) × (opened_graph taken kind w.decision ≡ Some h)
inner_is taken w i _ h _ z in_scope = (refl, refl)
inner_is taken w i _ h _ z (in_taken e) = (refl, e)
inner_is taken w i _ h _ z (in_turn j lt) = absurd (omega (arith, z, lt))
inner_is taken w i _ h _ z (in_round j lt) = absurd (omega (arith, z, lt))

-- ---- the state

module _ {Row Begun Decision Verdict Kept Started Decided Told : Type 0} (see : Row → Kept) (started : Begun → Started)
    (decided : Decision → Decided) (told : Verdict → Told) (d : Graph) (m : Source Kept Started Decided Told) (depth : ℕ → ℕ)
    (rows : List (RowAt Row)) (opens : List (OpenAt Decision Verdict)) (p : PlanTree) (planned : IsPlanned d p)
    (order : IsInKeyOrder instance_cmp (λ (o : OpenAt Decision Verdict). o.instance) opens)
    (is : IsResumption d depth m (state_of see started decided told rows [] opens)) where
  abbrev s : State Kept Started Decided Told
  s = state_of see started decided told rows [] opens

  abbrev pub numbers : List ℕ
  numbers = standing p decided m.taken opens

  abbrev Stood : ℕ → List ℕ → Type 0
  Stood q i = (after : List Need) × (kind : Kind) × IsThere d m s q i after kind

  reached : IsReached d depth m s
  reached = resumption_is_reached d depth m s is

  -- what is open is listed
  listed : (n : ℕ) (i : List ℕ) (w : Opening Decided Told) → s.opens (address n i) ≡ Some w
      → (o : OpenAt Decision Verdict)
      × (find_key instance_cmp (λ (z : OpenAt Decision Verdict). z.instance) (instance_of (address n i)) opens ≡ Some o)
      × (open_tree decided told o ≡ w)
  listed n i w e = go (find_key instance_cmp (λ (z : OpenAt Decision Verdict). z.instance) (instance_of (address n i)) opens) refl
    where
      go : (f : Option (OpenAt Decision Verdict))
          → find_key instance_cmp (λ (z : OpenAt Decision Verdict). z.instance) (instance_of (address n i)) opens ≡ f
          → (o : OpenAt Decision Verdict)
          × (find_key instance_cmp (λ (z : OpenAt Decision Verdict). z.instance) (instance_of (address n i)) opens ≡ Some o)
          × (open_tree decided told o ≡ w)
      go None ef = absurd (none-some w (sym (ap (option_map (open_tree decided told)) ef) ∙ e))
      go (Some o) ef = (o, ef, the_same (sym (ap (option_map (open_tree decided told)) ef) ∙ e))

  -- and what is listed is open
  opened_of : (k : ℕ) (o : OpenAt Decision Verdict) → slice_get opens k ≡ Some o
      → s.opens (address_of o.instance) ≡ Some (open_tree decided told o)
  opened_of k o e =
      ap (option_map (open_tree decided told))
      (find-own instance_total (λ (z : OpenAt Decision Verdict). z.instance) opens order k o e)

  -- what stands in an open graph is among the numbers

  entered_in : (n : ℕ) (i : List ℕ) (w : Opening Decided Told) (kind : Kind) → s.opens (address n i) ≡ Some w → kind_of d n ≡ Some kind
      → (q : ℕ) → has_own_of (opened_graph m.taken kind w.decision) q ≡ true → is_among q numbers ≡ true
  entered_in n i w kind e kn q h =
      among_both q p.top (all_entered p decided m.taken opens)
      ∙ later_of (is_among q p.top) (is_among q (all_entered p decided m.taken opens))
      (entered_among p decided m.taken opens (instance_of (address n i)) f.0 f.1 q
      (ap (is_among q) same ∙ among_is (opened_graph m.taken kind w.decision) q ∙ h))
    where
      f : (o : OpenAt Decision Verdict)
          × (find_key instance_cmp (λ (z : OpenAt Decision Verdict). z.instance) (instance_of (address n i)) opens ≡ Some o)
          × (open_tree decided told o ≡ w)
      f = listed n i w e

      same : entered_by p decided m.taken f.0 ≡ or_none (option_map own_numbers (opened_graph m.taken kind w.decision))
      same =
          ap (λ (k : Instance). or_none (opened_at p k.action (m.taken (decided f.0.decision))))
          (found_at (λ (z : OpenAt Decision Verdict). z.instance) (instance_of (address n i)) opens f.0 f.1)
          ∙ ap (λ (z : Opening Decided Told). or_none (opened_at p n (m.taken z.decision))) f.2
          ∙ ap or_none (opened_there d p planned.plan n kind kn m.taken w.decision)

  kind_known : (n : ℕ) (i : List ℕ) (after : List Need) (kind : Kind) → IsThere d m s n i after kind
      → kind_of d n ≡ Some kind
  kind_known n i after kind th = (kinds_are_known d depth m s reached n i after kind th).0

  open_in : (g : Graph) (i : List ℕ) → IsOpen m.taken d s.opens g i
      → (i ≡ []) × ((q : ℕ) → has_own g q ≡ true → is_among q numbers ≡ true)
  open_in _ _ top = (
    refl,
    λ q h. among_both q p.top (all_entered p decided m.taken opens)
        ∙ first_of (is_among q p.top) (is_among q (all_entered p decided m.taken opens))
        (ap (is_among q) planned.plan.top ∙ graphs.own_is d q ∙ h),
  )
  open_in _ i (scope {g = g} {h = h} {n = n} {after = after} {w = w} og st e) =
      let kn = kind_known n i after (Scope h) (record { graph = g; is_open = og; is_in = st }) in (
        (resumption_opens d depth m s is n i w e (Scope h) kn).0,
        λ q own. entered_in n i w (Scope h) e kn q own,
      )
  open_in _ i (chosen {g = g} {b = b} {n = n} {after = after} {bs = bs} {w = w} og st e at) =
      let kn = kind_known n i after (Choice bs) (record { graph = g; is_open = og; is_in = st }) in (
        (resumption_opens d depth m s is n i w e (Choice bs) kn).0,
        λ q own. entered_in n i w (Choice bs) e kn q (ap (λ o. has_own_of o q) at ∙ own),
      )
  open_in _ _ (turn {g = g} {h = h} {i = i} {n = n} {after = after} {pace = pace} {w = w} j og st e lt) =
      absurd ((resumption_opens d depth m s is n i w e (Foreach pace h)
      (kind_known n i after (Foreach pace h) (record { graph = g; is_open = og; is_in = st }))).2)
  open_in _ _ (round {g = g} {h = h} {i = i} {n = n} {most = most} {after = after} {w = w} j og st e lt) =
      absurd ((resumption_opens d depth m s is n i w e (Until most h)
      (kind_known n i after (Until most h) (record { graph = g; is_open = og; is_in = st }))).2)

  there_in : (n : ℕ) (i : List ℕ) (after : List Need) (kind : Kind) → IsThere d m s n i after kind → (i ≡ []) × (is_among n numbers ≡ true)
  there_in n i after kind th = let z = open_in th.graph i th.is_open in (z.0, z.1 n (in_own th.graph n after kind th.is_in))

  -- and the other way round

  inner_open : (c : ℕ) (i : List ℕ) (after : List Need) (kind : Kind) (w : Opening Decided Told) → IsThere d m s c i after kind
      → s.opens (address c i) ≡ Some w → (g : Graph) → opened_graph m.taken kind w.decision ≡ Some g → IsOpen m.taken d s.opens g i
  inner_open c i after Leaf w th e g eg = absurd (none-some g eg)
  inner_open c i after (Scope h) w th e g eg =
      subst (λ x. IsOpen m.taken d s.opens x i) (the_same eg) (scope th.is_open th.is_in e)
  inner_open c i after (Choice bs) w th e g eg = chosen th.is_open th.is_in e eg
  inner_open c i after (Foreach pace h) w th e g eg = absurd (none-some g eg)
  inner_open c i after (Until most h) w th e g eg = absurd (none-some g eg)

  entered_there : (c : ℕ) (i : List ℕ) (w : Opening Decided Told) → s.opens (address c i) ≡ Some w → (q : ℕ)
      → is_among q (or_none (opened_at p c (m.taken w.decision))) ≡ true → Stood q []
  entered_there c i w e q h = (in_it.0, in_it.1, record { graph = into.0; is_open = og; is_in = in_it.2 })
    where
      st : (after : List Need) × (kind : Kind) × IsThere d m s c i after kind
      st = let z = (open_stands d depth m s reached (address c i) w e).0 in (z.0, z.1, z.3)

      kn : kind_of d c ≡ Some st.1
      kn = (kinds_are_known d depth m s reached c i st.0 st.1 st.2).0

      own : has_own_of (opened_graph m.taken st.1 w.decision) q ≡ true
      own =
          sym (among_is (opened_graph m.taken st.1 w.decision) q)
          ∙ sym (ap (λ o. is_among q (or_none o)) (opened_there d p planned.plan c st.1 kn m.taken w.decision)) ∙ h

      into : (g : Graph) × (opened_graph m.taken st.1 w.decision ≡ Some g) × (has_own g q ≡ true)
      into = some_of (opened_graph m.taken st.1 w.decision) q own

      in_it : (after : List Need) × (kind : Kind) × In into.0 q after kind
      in_it = own_there into.0 q into.2

      og : IsOpen m.taken d s.opens into.0 []
      og =
          subst (λ j. IsOpen m.taken d s.opens into.0 j) (resumption_opens d depth m s is c i w e st.1 kn).0
          (inner_open c i st.0 st.1 w st.2 e into.0 into.1)

  in_there : (q : ℕ) → is_among q numbers ≡ true → Stood q []
  in_there q h = ⊎_elim in_top in_entered (among_or q p.top (all_entered p decided m.taken opens) h)
    where
      in_top : is_among q p.top ≡ true → Stood q []
      in_top t =
          let z = own_there d q (sym (graphs.own_is d q) ∙ sym (ap (is_among q) planned.plan.top) ∙ t) in (
            z.0,
            z.1,
            record { graph = d; is_open = top; is_in = z.2 },
          )

      in_entered : is_among q (all_entered p decided m.taken opens) ≡ true → Stood q []
      in_entered t =
          let f = among_entered p decided m.taken opens q t in
          entered_there f.1.instance.action f.1.instance.at (open_tree decided told f.1) (opened_of f.0 f.1 f.2) q f.3

  -- an enabled event is of an action of an open graph
  step_there : (e : Event) (s' : State Kept Started Decided Told) → Step d m s e s' → Stood (place_of e).name (place_of e).at
  step_there (Start n i) s' st = (st.0, Leaf, st.1.is_there)
  step_there (Try n i) s' st = let z = (running_stands d depth m s reached (address n i) st.0 st.1).0 in (z.0, Leaf, z.1)
  step_there (End n i) s' st = let z = (running_stands d depth m s reached (address n i) st.0 st.1).0 in (z.0, Leaf, z.1)
  step_there (Skip n i) s' st = (st.0, st.1, st.2.is_there)
  step_there (Open n i) s' st = (st.0, st.1, st.3.is_there)
  step_there (Begin n i) s' st = (st.0, st.1, st.3)
  step_there (Test n i) s' st = (st.0, st.1, st.4)
  step_there (Close n i) s' st = (st.0, st.1, st.3)

  module _ (waits lacks : Table ℕ) (left : Address → ℕ) (ready : Table Event)
      (waits_are : (x : Address) → waits x ≡ cond (is_among x.name numbers && same_at [] x.at) (nonzero (waits_at p s.rows x)) None)
      (lacks_are : (x : Address) → lacks x
      ≡ cond (is_among x.name numbers && same_at [] x.at) (nonzero (lacks_at p m.taken s.rows s.opens x)) None)
      (ready_is : (x : Address) → ready x
      ≡ cond (is_among x.name numbers && same_at [] x.at) (resting_at m p s.rows s.opens waits lacks left x) None) where
    counted : (t : Table ℕ) (f : Address → ℕ)
        → ((x : Address) → t x ≡ cond (is_among x.name numbers && same_at [] x.at) (nonzero (f x)) None) → (n : ℕ)
        → is_among n numbers ≡ true → t (address n []) ≡ nonzero (f (address n []))
    counted t f are n h = are (address n []) ∙ ap (λ b. cond (b && true) (nonzero (f (address n []))) None) h

    waited : (n : ℕ) (i : List ℕ) (after : List Need) (kind : Kind) → IsThere d m s n i after kind
        → waits (address n i) ≡ nonzero (waiting after i s.rows)
    waited n i after kind th =
        let at = there_in n i after kind th in
        let facts = kinds_are_known d depth m s reached n i after kind th in
        subst (λ j. waits (address n j) ≡ nonzero (waiting after j s.rows)) (sym at.0)
        (counted waits (waits_at p s.rows) waits_are n at.1
        ∙ ap (λ z. nonzero (waiting z [] s.rows)) (needs_are d p planned.plan n kind facts.0 ∙ facts.1))

    lacked : (n : ℕ) (i : List ℕ) (after : List Need) (kind : Kind) (w : Opening Decided Told) (h : Graph) (k : List ℕ)
        → IsThere d m s n i after kind → s.opens (address n i) ≡ Some w → IsInner m.taken w i kind h k
        → lacks (address n k) ≡ nonzero (lacking h k s.rows)
    lacked n i after kind w h k th e inner =
        let at = there_in n i after kind th in
        let kn = (kinds_are_known d depth m s reached n i after kind th).0 in
        let g = inner_is m.taken w i kind h k (resumption_opens d depth m s is n i w e kind kn).1 inner in
        subst (λ j. lacks (address n j) ≡ nonzero (lacking h j s.rows)) (sym (g.0 ∙ at.0))
        (counted lacks (lacks_at p m.taken s.rows s.opens) lacks_are n at.1
        ∙ ap (λ o. nonzero (lacks_by p m.taken s.rows o (address n []))) (subst (λ j. s.opens (address n j) ≡ Some w) at.0 e)
        ∙ ap (λ o. nonzero (lacking_of s.rows [] (or_none o)))
        (opened_there d p planned.plan n kind kn m.taken w.decision ∙ ap (option_map own_numbers) g.1)
        ∙ ap nonzero (lacking_own h [] s.rows))

    counts : AreCounts d m s waits lacks
    counts = record { waited = waited; lacked = lacked }

    lefts : AreLeft d m s left
    lefts n i after pace h w th e =
        absurd ((resumption_opens d depth m s is n i w e (Foreach pace h)
        (kinds_are_known d depth m s reached n i after (Foreach pace h) th).0).2)

    resting : (n : ℕ) (kind : Kind) → kind_of d n ≡ Some kind → (r : Option Kept) → s.rows (address n []) ≡ r
        → (o : Option (Opening Decided Told)) → s.opens (address n []) ≡ o
        → resting_by m p s.rows s.opens waits lacks left r o (address n [])
        ≡ counted_event d m s waits lacks left (needs_of d n) kind n []
    resting n kind kn (Some r) er o eo =
        sym (ap (λ z. cond (has_ended z) None
        (counted_busy d m s waits lacks left (needs_of d n) kind n [] (s.running (address n [])))) er)
    resting n kind kn None er None eo = idle_there d m s waits lacks left p planned.plan n [] kind kn er refl eo
    resting n kind kn None er (Some w) eo = open_there d m s waits lacks left p planned.plan n [] kind kn er refl s.opens refl w eo

    own_event : (n : ℕ) (after : List Need) (kind : Kind) → IsThere d m s n [] after kind
        → resting_at m p s.rows s.opens waits lacks left (address n []) ≡ events m s d [] (address n [])
    own_event n after kind th =
        let facts = kinds_are_known d depth m s reached n [] after kind th in
        let th' = subst (λ z. IsThere d m s n [] z kind) (sym facts.1) th in
        resting n kind facts.0 (s.rows (address n [])) refl (s.opens (address n [])) refl
        ∙ event_same d m s waits lacks left counts lefts n [] (needs_of d n) kind th'
        ∙ sym (there_events d depth m s reached n [] (needs_of d n) kind th')

    -- what stands in no open graph has no event
    no_event : (x : Address) → (is_among x.name numbers && same_at [] x.at) ≡ false → (o : Option Event) → events m s d [] x ≡ o
        → events m s d [] x ≡ None
    no_event x u None e = e
    no_event x u (Some y) e =
        let z = (exact_there d depth m s reached).only x y e in
        let th = step_there y z.1.0 z.1.1 in
        let at = there_in (place_of y).name (place_of y).at th.0 th.1 th.2 in
        absurd (true≢false (sym (ap (λ (a : Address). is_among a.name numbers && same_at [] a.at) z.0
        ∙ ap (λ b. b && same_at [] (place_of y).at) at.1 ∙ ap (λ j. true && same_at [] j) at.0) ∙ u))

    enabled : IsReady d m s ready
    enabled x = ready_is x ∙ ⊎_elim inside outside (two (is_among x.name numbers && same_at [] x.at))
      where
        inside : (is_among x.name numbers && same_at [] x.at) ≡ true
            → cond (is_among x.name numbers && same_at [] x.at) (resting_at m p s.rows s.opens waits lacks left x) None
            ≡ events m s d [] x
        inside t =
            let z = and_in (is_among x.name numbers) (same_at [] x.at) t in
            let st = in_there x.name z.0 in
            when (is_among x.name numbers && same_at [] x.at) (resting_at m p s.rows s.opens waits lacks left x) None t
            ∙ subst (λ j. resting_at m p s.rows s.opens waits lacks left (address x.name j) ≡ events m s d [] (address x.name j))
            (same_at_is [] x.at z.1) (own_event x.name st.0 st.1 st.2)

        outside : (is_among x.name numbers && same_at [] x.at) ≡ false
            → cond (is_among x.name numbers && same_at [] x.at) (resting_at m p s.rows s.opens waits lacks left x) None
            ≡ events m s d [] x
        outside u =
            unless (is_among x.name numbers && same_at [] x.at) (resting_at m p s.rows s.opens waits lacks left x) None u
            ∙ sym (no_event x u (events m s d [] x) refl)

  -- IT IS KEPT
  pub resumed_kept : (writes : ℕ → Address → Kept → Bool) (store : List WriterAt)
      → ((v : ℕ) → IsLastWritten d m (writer writes v) s.rows (store_in store v)) → (ns : List ℕ) → ns ≡ numbers
      → (waits lacks : List CountAt) (ready : List EventAt)
      → ((x : Address) → count_in waits x ≡ cond (is_among x.name ns && same_at [] x.at) (nonzero (waits_at p s.rows x)) None)
      → ((x : Address) → count_in lacks x
      ≡ cond (is_among x.name ns && same_at [] x.at) (nonzero (lacks_at p m.taken s.rows s.opens x)) None)
      → ((x : Address) → events_in ready x ≡ cond (is_among x.name ns && same_at [] x.at)
      (resting_at m p s.rows s.opens (count_in waits) (count_in lacks) (left_in opens) x) None)
      → IsKept d m depth writes s opens store waits lacks ready
  resumed_kept writes store last ns same waits lacks ready waits_are lacks_are ready_is = record {
    reached = reached;
    counts = counts (count_in waits) (count_in lacks) (left_in opens) (events_in ready) waits_here lacks_here ready_here;
    left = lefts (count_in waits) (count_in lacks) (left_in opens) (events_in ready) waits_here lacks_here ready_here;
    enabled = enabled (count_in waits) (count_in lacks) (left_in opens) (events_in ready) waits_here lacks_here ready_here;
    stored = λ v. resumption_is_stored d depth m s is (writer writes v) (store_in store v) (last v);
  }
    where
      waits_here : (x : Address)
          → count_in waits x ≡ cond (is_among x.name numbers && same_at [] x.at) (nonzero (waits_at p s.rows x)) None
      waits_here x =
          waits_are x
          ∙ ap (λ (q : List ℕ). cond (is_among x.name q && same_at [] x.at) (nonzero (waits_at p s.rows x)) None) same

      lacks_here : (x : Address) → count_in lacks x
          ≡ cond (is_among x.name numbers && same_at [] x.at) (nonzero (lacks_at p m.taken s.rows s.opens x)) None
      lacks_here x =
          lacks_are x
          ∙ ap (λ (q : List ℕ). cond (is_among x.name q && same_at [] x.at) (nonzero (lacks_at p m.taken s.rows s.opens x)) None) same

      ready_here : (x : Address) → events_in ready x ≡ cond (is_among x.name numbers && same_at [] x.at)
          (resting_at m p s.rows s.opens (count_in waits) (count_in lacks) (left_in opens) x) None
      ready_here x =
          ready_is x
          ∙ ap (λ (q : List ℕ). cond (is_among x.name q && same_at [] x.at)
          (resting_at m p s.rows s.opens (count_in waits) (count_in lacks) (left_in opens) x) None) same
