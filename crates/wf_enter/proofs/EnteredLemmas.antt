-- The edits of a graph that is entered, by a plan, are those that the laws of counting ask for.
use Rattle.std.proofs.Common.{◌≡◌, ℕ, suc, ◌<◌, option_map, Bool, true, false, ◌&&◌, ◌||◌, cond, List, [], ◌∷◌, ◌++◌, length, Option, Some, None, inl, inr, ⊎_elim, refl, sym, ap, ◌∙◌, subst, arith, true≢false}
use Rattle.std.proofs.lemmas.Option.{none-some}
use Rattle.wf_layers.specs.Address.{Address, Table, address, is_own, same_at}
use Rattle.wf_layers.specs.Definition.{Need, Kind, Leaf, Scope, Choice, Foreach, Until, Graph, branch_at, has_own, kind_of, needs_of}
use Rattle.wf_layers.specs.Machine.{Begin, Event, In, IsContainer, IsOpen, IsThere, Open, Opening, Running, State, Step, chosen, has_ended, round, scope, turn}
use Rattle.wf_layers.specs.Meaning.{meaning}
use Rattle.wf_layers.specs.Source.{Source}
use Rattle.wf_layers.proofs.Basics.{and_in, two, unless, when}
use Rattle.wf_layers.proofs.Tables.{own_is, own_self, same_at_is}
use Rattle.wf_kept.specs.Counted.{IsInner, in_round, in_scope, in_taken, in_turn, nonzero}
use Rattle.wf_kept.specs.Reached.{IsReached}
use Rattle.wf_kept.proofs.Counts.{IsNew, entered_apart, new_empty, new_enters, not_new, own_there}
use Rattle.wf_kept.proofs.Informed.{open_stands, running_stands}
use Rattle.wf_kept.proofs.Known.{Known, goes_on, known}
use Rattle.wf_step_laws.specs.Edits.{IsEntered, event_by, has_own_of, looked, opened_graph, size_of, turned_graph}
use Rattle.wf_step_laws.proofs.Placed.{kind_at}
use Rattle.wf_events.specs.Known.{is_among}
use Rattle.wf_events.specs.Plan.{BranchTree, PlanTree, branch_of, own_numbers, shape_of}
use Rattle.wf_events.specs.PlanOf.{IsPlanOf}
use Rattle.wf_events.specs.PlanSeen.{or_none}
use Rattle.wf_events.proofs.GraphLemmas as graphs
use Rattle.wf_events.proofs.GraphLemmas.{taken_is}
use Rattle.wf_events.specs.Counts.{needs_at}
use Rattle.wf_events.proofs.CountLemmas.{needs_are, own_size}
use Rattle.wf_events.specs.Looked.{idle_at, open_at}
use Rattle.wf_events.proofs.LookLemmas.{idle_there, open_there}
use Rattle.wf_enter.specs.Entered.{IsEnteredBy}
use Rattle.wf_enter.specs.Graphs.{opened_at, opened_by, opened_numbers, turned_at, turned_by, turned_numbers}

the_same : {A : Type 0} {u v : A} → Some u ≡ Some v → u ≡ v
the_same e = cc (e)

-- ---- the graph that is entered, by a plan

own_of : (o : Option Graph) → option_map (λ (b : BranchTree). b.own) (option_map branch_of o) ≡ option_map own_numbers o
own_of None = refl
own_of (Some g) = refl

opened_is : {Decision : Type 0} (taken : Decision → ℕ) (kind : Kind) (c : Decision)
    → opened_numbers (shape_of kind) (taken c) ≡ option_map own_numbers (opened_graph taken kind c)
opened_is taken Leaf c = refl
opened_is taken (Scope g) c = refl
opened_is taken (Choice bs) c = ap (option_map (λ (b : BranchTree). b.own)) (taken_is bs (taken c)) ∙ own_of (branch_at bs (taken c))
opened_is taken (Foreach pace g) c = refl
opened_is taken (Until most g) c = refl

turned_is : (kind : Kind) → turned_numbers (shape_of kind) ≡ option_map own_numbers (turned_graph kind)
turned_is Leaf = refl
turned_is (Scope g) = refl
turned_is (Choice bs) = refl
turned_is (Foreach pace g) = refl
turned_is (Until most g) = refl

pub among_is : (o : Option Graph) (q : ℕ) → is_among q (or_none (option_map own_numbers o)) ≡ has_own_of o q
among_is None q = refl
among_is (Some g) q = graphs.own_is g q

size_is : (o : Option Graph) → length (or_none (option_map own_numbers o)) ≡ size_of o
size_is None = refl
size_is (Some g) = own_size g

ended_is : (o : Option Graph) → has_ended (option_map own_numbers o) ≡ has_ended o
ended_is None = refl
ended_is (Some g) = refl

pub some_of : (o : Option Graph) (q : ℕ) → has_own_of o q ≡ true → (g : Graph) × (o ≡ Some g) × (has_own g q ≡ true)
some_of None q h = absurd (true≢false (sym h))
some_of (Some g) q h = (g, refl, h)

module _ (d : Graph) (p : PlanTree) (plan : IsPlanOf d p) (n : ℕ) (kind : Kind) (kn : kind_of d n ≡ Some kind) where
  pub opened_there : {Decision : Type 0} (taken : Decision → ℕ) (c : Decision)
      → opened_at p n (taken c) ≡ option_map own_numbers (opened_graph taken kind c)
  opened_there taken c =
      let e = plan.entry n kind kn in
      ap (λ o. opened_by o (taken c)) e.1 ∙ ap (λ z. opened_numbers z (taken c)) e.2.shape ∙ opened_is taken kind c

  pub turned_there : turned_at p n ≡ option_map own_numbers (turned_graph kind)
  turned_there = let e = plan.entry n kind kn in ap turned_by e.1 ∙ ap turned_numbers e.2.shape ∙ turned_is kind

-- ---- the edits

merge : {A : Type 0} (a b : Bool) (l i o r : A) → (b ≡ true → i ≡ l) → (a ≡ true → o ≡ l) → cond b i (cond a o r) ≡ cond (a || b) l r
merge true true l i o r e f = e refl
merge true false l i o r e f = f refl
merge false true l i o r e f = e refl
merge false false l i o r e f = refl

module _ {Row Begun Decision Verdict : Type 0} (d : Graph) (depth : ℕ → ℕ) (m : Source Row Begun Decision Verdict)
    (s : State Row Begun Decision Verdict) (reached : IsReached d depth m s) (e : Event) (s' : State Row Begun Decision Verdict)
    (st : Step d m s e s') where
  abbrev k : Known d depth m s
  k = known d depth m s reached

  next : IsReached d depth m s'
  next = goes_on d depth m s reached e s' st

  abbrev IsEnteredNow : Graph → List ℕ → Type 0
  IsEnteredNow = IsNew m d k.so (meaning m depth d) k.sol k.closed k.out s e s' k.keeps k.busy k.rooted st

  inner_open : (n : ℕ) (i : List ℕ) (after : List Need) (kind : Kind) (u : Opening Decision Verdict) (h : Graph) (j : List ℕ)
      → IsThere d m s' n i after kind → s'.opens (address n i) ≡ Some u → IsInner m.taken u i kind h j → IsOpen m.taken d s'.opens h j
  inner_open n i after _ u h _ th eu in_scope = scope th.is_open th.is_in eu
  inner_open n i after _ u h _ th eu (in_taken is) = chosen th.is_open th.is_in eu is
  inner_open n i after _ u h _ th eu (in_turn j lt) = turn j th.is_open th.is_in eu lt
  inner_open n i after _ u h _ th eu (in_round j lt) = round j th.is_open th.is_in eu lt

  module _ (n : ℕ) (i : List ℕ) (kind : Kind) (kn : kind_of d n ≡ Some kind) (w : Opening Decision Verdict)
      (ew : s'.opens (address n i) ≡ Some w) (same : s'.running ≡ s.running) (p : PlanTree) (plan : IsPlanOf d p) (entered : Option Graph)
      (l : List ℕ) (inner : (g : Graph) → entered ≡ Some g → IsInner m.taken w i kind g l)
      (new : (g : Graph) → entered ≡ Some g → IsEnteredNow g l) (numbers : Option (List ℕ))
      (are : numbers ≡ option_map own_numbers entered) where
    among : (q : ℕ) → is_among q (or_none numbers) ≡ has_own_of entered q
    among q = ap (λ o. is_among q (or_none o)) are ∙ among_is entered q

    -- the container is open
    stood : ((after : List Need) × (kind : Kind) × IsContainer kind × IsThere d m s' n i after kind)
        × (s'.rows (address n i) ≡ None) × (s'.running (address n i) ≡ None)
    stood = open_stands d depth m s' next (address n i) w ew

    there : IsThere d m s' n i stood.0.0 kind
    there =
        subst (λ (x : Kind). IsThere d m s' n i stood.0.0 x)
        (the_same (sym (kind_at d depth m s' next n i stood.0.0 stood.0.1 stood.0.3).0 ∙ kn)) stood.0.3

    -- and an action of the graph that it enters is idle
    record Idle (q : ℕ) : Type 0 where
      pub its_kind : Kind
      pub is_kind : kind_of d q ≡ Some its_kind
      pub no_row : s'.rows (address q l) ≡ None
      pub not_running : s'.running (address q l) ≡ None
      pub not_open : s'.opens (address q l) ≡ None

    idle : (q : ℕ) → has_own_of entered q ≡ true → Idle q
    idle q h =
        let g = some_of entered q h in
        let new_g = new g.0 g.1 in
        let f = meaning m depth d in
        let in_it = own_there m d k.so f k.sol k.closed k.out s e s' k.keeps k.busy k.rooted st g.0 q g.2 in
        let og = inner_open n i stood.0.0 kind w g.0 l there ew (inner g.0 g.1) in
        let th : IsThere d m s' q l in_it.0 in_it.1 = record { graph = g.0; is_open = og; is_in = in_it.2 } in record {
          its_kind = in_it.1;
          is_kind = (kind_at d depth m s' next q l in_it.0 in_it.1 th).0;
          no_row = new_empty m d k.so f k.sol k.closed k.out s e s' k.keeps k.busy k.rooted st g.0 l new_g q g.2;
          not_running = ap (λ t. t (address q l)) same ∙ quiet g.0 new_g g.2 (s.running (address q l)) refl;
          not_open = shut g.0 new_g in_it.0 in_it.1 in_it.2 (s'.opens (address q l)) refl;
        }
      where
        shut : (g : Graph) → IsEnteredNow g l → (a : List Need) (c : Kind) → In g q a c → (o : Option (Opening Decision Verdict))
            → s'.opens (address q l) ≡ o → s'.opens (address q l) ≡ None
        shut g new_g a c is_in None eo = eo
        shut g new_g a c is_in (Some v) eo =
            absurd (not_new m d k.so (meaning m depth d) k.sol k.closed k.out s e s' k.keeps k.busy k.rooted st g l new_g q a c is_in v eo)

        quiet : (g : Graph) → IsEnteredNow g l → has_own g q ≡ true → (o : Option (Running Begun)) → s.running (address q l) ≡ o
            → s.running (address q l) ≡ None
        quiet g new_g own None er = er
        quiet g new_g own (Some r) er =
            let f = meaning m depth d in
            let th = (running_stands d depth m s reached (address q l) r er).0 in
            absurd (entered_apart m d k.so f k.sol k.closed k.out s e s' k.keeps k.busy k.rooted st q l th.0 Leaf th.1
            (new_enters m d k.so f k.sol k.closed k.out s e s' k.keeps k.busy k.rooted st g l new_g q own))

    abbrev inside : Address → Bool
    inside x = has_own_of entered x.name && same_at l x.at

    module _ (now : ℕ) (waits waits' lacks lacks' : Table ℕ) (left left' : Address → ℕ) (ready ready' : Table Event)
        (by_plan : IsEnteredBy m p (address n i) numbers l now s' waits waits' lacks lacks' left left' ready ready') where
      waits_are : (x : Address) → waits' x ≡ cond (inside x) (nonzero (length (needs_of d x.name))) (waits x)
      waits_are x =
          by_plan.waited x
          ∙ ap (λ b. cond (b && same_at l x.at) (nonzero (length (needs_at p x.name))) (waits x)) (among x.name)
          ∙ ⊎_elim
          (λ t. let it = idle x.name (and_in (has_own_of entered x.name) (same_at l x.at) t).0 in
          ap (λ ns. cond (inside x) (nonzero (length ns)) (waits x)) (needs_are d p plan x.name it.its_kind it.is_kind))
          (λ u. unless (inside x) (nonzero (length (needs_at p x.name))) (waits x) u
          ∙ sym (unless (inside x) (nonzero (length (needs_of d x.name))) (waits x) u))
          (two (inside x))

      idle_is : (x : Address) → inside x ≡ true → idle_at m s'.rows waits' p x ≡ looked d m s' waits' lacks' left' x
      idle_is x t =
          let z = and_in (has_own_of entered x.name) (same_at l x.at) t in
          let it = idle x.name z.0 in
          subst (λ j. idle_at m s'.rows waits' p (address x.name j) ≡ looked d m s' waits' lacks' left' (address x.name j))
          (same_at_is l x.at z.1)
          (idle_there d m s' waits' lacks' left' p plan x.name l it.its_kind it.is_kind it.no_row it.not_running it.not_open
          ∙ sym (ap (λ o. event_by d m o s' waits' lacks' left' (address x.name l)) it.is_kind))

      open_is : (x : Address) → is_own n i x ≡ true
          → open_at m s'.opens lacks' left' p (address n i) ≡ looked d m s' waits' lacks' left' x
      open_is x t =
          open_there d m s' waits' lacks' left' p plan n i kind kn stood.1 stood.2 s'.opens refl w ew
          ∙ sym (ap (λ o. event_by d m o s' waits' lacks' left' (address n i)) kn)
          ∙ ap (looked d m s' waits' lacks' left') (own_is n i x t)

      pub entered_by : IsEntered d m (address n i) entered l now s' waits waits' lacks lacks' left left' ready ready'
      entered_by = record {
        waited = waits_are;
        lacked = λ x. by_plan.lacked x
            ∙ ap (λ o. cond (has_ended o && is_own n l x) (nonzero (length (or_none o))) (lacks x)) are
            ∙ ap (λ b. cond (b && is_own n l x) (nonzero (length (or_none (option_map own_numbers entered)))) (lacks x)) (ended_is entered)
            ∙ ap (λ c. cond (has_ended entered && is_own n l x) (nonzero c) (lacks x)) (size_is entered);
        unfinished = by_plan.unfinished;
        looked_at = λ x. by_plan.looked_at x
            ∙ ap (λ b. cond (b && same_at l x.at) (idle_at m s'.rows waits' p x)
            (cond (is_own n i x) (open_at m s'.opens lacks' left' p (address n i)) (ready x))) (among x.name)
            ∙ merge (is_own n i x) (inside x) (looked d m s' waits' lacks' left' x) (idle_at m s'.rows waits' p x)
            (open_at m s'.opens lacks' left' p (address n i)) (ready x) (idle_is x) (open_is x);
      }

-- ---- a container opens

module _ {Row Begun Decision Verdict : Type 0} (d : Graph) (depth : ℕ → ℕ) (m : Source Row Begun Decision Verdict)
    (s : State Row Begun Decision Verdict) (reached : IsReached d depth m s) (n : ℕ) (i : List ℕ) (s' : State Row Begun Decision Verdict)
    (st : Step d m s (Open n i) s') (p : PlanTree) (plan : IsPlanOf d p) (kind : Kind) (kn : kind_of d n ≡ Some kind)
    (w : Opening Decision Verdict) (ew : s'.opens (address n i) ≡ Some w) where
  inner_opened : (kind : Kind) (g : Graph) → opened_graph m.taken kind w.decision ≡ Some g → IsInner m.taken w i kind g i
  inner_opened Leaf g e = absurd (none-some g e)
  inner_opened (Scope h) g e = subst (λ x. IsInner m.taken w i (Scope h) x i) (the_same e) in_scope
  inner_opened (Choice bs) g e = in_taken e
  inner_opened (Foreach pace h) g e = absurd (none-some g e)
  inner_opened (Until most h) g e = absurd (none-some g e)

  abbrev decided_now : Opening Decision Verdict
  decided_now = record { decision = m.decide (address n i) s.rows; next = 0; test = None }

  opens_now : s'.opens (address n i) ≡ Some decided_now
  opens_now =
      ap (λ (z : State Row Begun Decision Verdict). z.opens (address n i)) st.5
      ∙ when (is_own n i (address n i)) (Some decided_now) (s.opens (address n i)) (own_self n i)

  opens_new : (g : Graph) → opened_graph m.taken kind w.decision ≡ Some g → IsEnteredNow d depth m s reached (Open n i) s' st g i
  opens_new g eg = record {
    container = n;
    at = i;
    after = st.0;
    kind = kind;
    opening = w;
    stood =
        subst (λ (x : Kind). IsThere d m s n i st.0 x)
        (the_same (sym (kind_at d depth m s reached n i st.0 st.1 st.3.is_there).0 ∙ kn)) st.3.is_there;
    is_open = ew;
    inner = inner_opened kind g eg;
    how = inl (ap (λ (o : Opening Decision Verdict). o.next) (the_same (sym ew ∙ opens_now)), refl);
  }

  pub opening_is_entered : (waits waits' lacks lacks' : Table ℕ) (left left' : Address → ℕ) (ready ready' : Table Event)
      → IsEnteredBy m p (address n i) (opened_at p n (m.taken w.decision)) i 0 s' waits waits' lacks lacks' left left' ready ready'
      → IsEntered d m (address n i) (opened_graph m.taken kind w.decision) i 0 s' waits waits' lacks lacks' left left' ready ready'
  opening_is_entered =
      entered_by d depth m s reached (Open n i) s' st n i kind kn w ew
      (ap (λ (z : State Row Begun Decision Verdict). z.running) st.5) p plan (opened_graph m.taken kind w.decision) i
      (inner_opened kind) opens_new (opened_at p n (m.taken w.decision)) (opened_there d p plan n kind kn m.taken w.decision) 0

-- ---- an iteration begins

module _ {Row Begun Decision Verdict : Type 0} (d : Graph) (depth : ℕ → ℕ) (m : Source Row Begun Decision Verdict)
    (s : State Row Begun Decision Verdict) (reached : IsReached d depth m s) (n : ℕ) (i : List ℕ) (s' : State Row Begun Decision Verdict)
    (st : Step d m s (Begin n i) s') (p : PlanTree) (plan : IsPlanOf d p) (kind : Kind) (kn : kind_of d n ≡ Some kind)
    (u : Opening Decision Verdict) (eu : s.opens (address n i) ≡ Some u) where
  abbrev begun_now : Opening Decision Verdict
  begun_now = record { decision = st.2.decision; next = suc st.2.next; test = None }

  opens_then : s'.opens (address n i) ≡ Some begun_now
  opens_then =
      ap (λ (z : State Row Begun Decision Verdict). z.opens (address n i)) st.6
      ∙ when (is_own n i (address n i)) (Some begun_now) (s.opens (address n i)) (own_self n i)

  was : u ≡ st.2
  was = the_same (sym eu ∙ st.4)

  below : u.next < suc st.2.next
  below = subst (λ (o : Opening Decision Verdict). u.next < suc o.next) was (omega (arith))

  inner_turned : (kind : Kind) (g : Graph) → turned_graph kind ≡ Some g → IsInner m.taken begun_now i kind g (i ++ u.next ∷ [])
  inner_turned Leaf g e = absurd (none-some g e)
  inner_turned (Scope h) g e = absurd (none-some g e)
  inner_turned (Choice bs) g e = absurd (none-some g e)
  inner_turned (Foreach pace h) g e =
      subst (λ x. IsInner m.taken begun_now i (Foreach pace h) x (i ++ u.next ∷ [])) (the_same e) (in_turn u.next below)
  inner_turned (Until most h) g e =
      subst (λ x. IsInner m.taken begun_now i (Until most h) x (i ++ u.next ∷ [])) (the_same e) (in_round u.next below)

  begins_new : (g : Graph) → turned_graph kind ≡ Some g → IsEnteredNow d depth m s reached (Begin n i) s' st g (i ++ u.next ∷ [])
  begins_new g eg = record {
    container = n;
    at = i;
    after = st.0;
    kind = kind;
    opening = begun_now;
    stood =
        subst (λ (x : Kind). IsThere d m s n i st.0 x)
        (the_same (sym (kind_at d depth m s reached n i st.0 st.1 st.3).0 ∙ kn)) st.3;
    is_open = opens_then;
    inner = inner_turned kind g eg;
    how = inr (u, refl, eu, refl);
  }

  pub iteration_is_entered : (now : ℕ) (waits waits' lacks lacks' : Table ℕ) (left left' : Address → ℕ) (ready ready' : Table Event)
      → IsEnteredBy m p (address n i) (turned_at p n) (i ++ u.next ∷ []) now s' waits waits' lacks lacks' left left' ready ready'
      → IsEntered d m (address n i) (turned_graph kind) (i ++ u.next ∷ []) now s' waits waits' lacks lacks' left left' ready ready'
  iteration_is_entered =
      entered_by d depth m s reached (Begin n i) s' st n i kind kn begun_now opens_then
      (ap (λ (z : State Row Begun Decision Verdict). z.running) st.6) p plan (turned_graph kind) (i ++ u.next ∷ [])
      (inner_turned kind) begins_new (turned_at p n) (turned_there d p plan n kind kn)
