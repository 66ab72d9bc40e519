-- What is kept of the state of a run that begins.
use Rattle.std.proofs.Common.{◌≡◌, ℕ, suc, ◌+◌, ◌<◌, ◌≤◌, Bool, true, false, ◌&&◌, ◌||◌, cond, List, [], ◌∷◌, drop, get_or, length, Option, None, ⊎_elim, refl, eqb-true, true≢false, sym, ap, ◌∙◌, subst, nat_eq}
use Rattle.std.proofs.lemmas.List.{at_drop_all, at_drop_more}
use Rattle.std.proofs.lemmas.Option.{none-some}
use Rattle.wf_layers.specs.Definition.{Need, Kind, Leaf, Scope, Choice, Foreach, Until, Graph, done, add, has_own, needs_of}
use Rattle.wf_layers.specs.Address.{Address, Table, address, is_in, is_own, same_at}
use Rattle.wf_layers.specs.Enabled.{event_in, events, own_event}
use Rattle.wf_layers.specs.Laws.{IsInstance}
use Rattle.wf_layers.specs.Machine.{State, Event, In, here, there, IsOpen, top, scope, chosen, turn, round, IsThere, fresh}
use Rattle.wf_layers.specs.Source.{Source}
use Rattle.wf_layers.specs.Waiting.{waiting}
use Rattle.wf_layers.specs.Meaning.{meaning}
use Rattle.wf_layers.proofs.Basics.{two}
use Rattle.wf_layers.proofs.Changes.{in_own}
use Rattle.wf_layers.proofs.Enabled.{at_there}
use Rattle.wf_kept.specs.Counted.{AreCounts, nonzero}
use Rattle.wf_kept.specs.Event.{AreLeft}
use Rattle.wf_kept.specs.Reached.{IsReached, begun}
use Rattle.wf_kept.specs.Ready.{IsReady}
use Rattle.wf_kept.specs.Stored.{begun as store_begun}
use Rattle.wf_kept.proofs.Events.{event_same}
use Rattle.wf_kept.proofs.Informed.{kinds_are_known}
use Rattle.wf_kept.proofs.Known.{Known, known}
use Rattle.wf_events.specs.Known.{is_among}
use Rattle.wf_events.specs.Instance.{Instance}
use Rattle.wf_events.specs.Plan.{PlanTree}
use Rattle.wf_events.proofs.GraphLemmas.{own_is}
use Rattle.wf_events.specs.Counts.{entered_counts, needs_at, set_all}
use Rattle.wf_events.specs.Tables.{count_in, events_in, left_in}
use Rattle.wf_events.specs.CountAt.{CountAt}
use Rattle.wf_events.specs.EventAt.{EventAt}
use Rattle.wf_events.proofs.CountLemmas.{entered_set, needs_are}
use Rattle.wf_events.specs.Looked.{idle_at, instances_at, look_each}
use Rattle.wf_events.proofs.LookLemmas.{idle_there, looked_all}
use Rattle.wf_steps.specs.Kept.{IsKept, IsPlanned}

-- where nothing has a row, all that an action names is waited for
all_waited : (A : Type 0) (after : List Need) (i : List ℕ) → waiting {A = A} after i (λ x. None) ≡ length after
all_waited A [] i = refl
all_waited A (n ∷ ns) i = ap suc (all_waited A ns i)

-- who is of a graph's own actions stands in it
pub own_there : (g : Graph) (q : ℕ) → has_own g q ≡ true → (a : List Need) × (c : Kind) × In g q a c
own_there done q h = absurd (true≢false (sym h))
own_there (add n after kind rest) q h =
    ⊎_elim
    (λ t. subst (λ x. (a : List Need) × (c : Kind) × In (add n after kind rest) x a c) (eqb-true n q t) (after, kind, here))
    (λ u. let z = own_there rest q (sym (ap (λ x. x || has_own rest q) u) ∙ h) in (z.0, z.1, there z.2))
    (two (nat_eq n q))

and_false : (b : Bool) → (b && false) ≡ false
and_false true = refl
and_false false = refl

module _ {Row Begun Decision Verdict : Type 0} (d : Graph) (m : Source Row Begun Decision Verdict) where
  abbrev St : Type 0
  St = State Row Begun Decision Verdict

  abbrev first : St
  first = fresh

  -- only the definition's own graph is open
  only_top : (g : Graph) (i : List ℕ) → IsOpen {Verdict = Verdict} m.taken d (λ (x : Address). None) g i → (g ≡ d) × (i ≡ [])
  only_top _ _ top = (refl, refl)
  only_top _ i (scope {w = w} og st e) = absurd (none-some w e)
  only_top _ i (chosen {w = w} og st e is) = absurd (none-some w e)
  only_top _ _ (turn {w = w} j og st e lt) = absurd (none-some w e)
  only_top _ _ (round {w = w} j og st e lt) = absurd (none-some w e)

  stands : (n : ℕ) (i : List ℕ) (after : List Need) (kind : Kind) → IsThere d m first n i after kind → In d n after kind × (i ≡ [])
  stands n i after kind th =
      let is = only_top th.graph i th.is_open in
      (subst (λ g. In g n after kind) is.0 th.is_in, is.1)

  -- what isn't of the graph's own actions has no event
  none_inside : (kind : Kind) (i : List ℕ) (x : Address) → event_in m first kind i None x ≡ None
  none_inside Leaf i x = refl
  none_inside (Scope g) i x = refl
  none_inside (Choice bs) i x = refl
  none_inside (Foreach pace g) i x = refl
  none_inside (Until most g) i x = refl

  none_else : (g : Graph) (i : List ℕ) (x : Address) → (has_own g x.name && same_at i x.at) ≡ false → events m first g i x ≡ None
  none_else done i x e = refl
  none_else (add n after kind rest) i x e =
      go (is_in n kind i x) (nat_eq n x.name) (has_own rest x.name) (same_at i x.at) e (none_else rest i x)
    where
      go : (b p q r : Bool) → ((p || q) && r) ≡ false → ((q && r) ≡ false → events m first rest i x ≡ None)
          → cond b (cond (p && r) (own_event m first after kind n i) (event_in m first kind i None x)) (events m first rest i x) ≡ None
      go true true q true e on = cc (e)
      go true true q false e on = none_inside kind i x
      go true false q r e on = none_inside kind i x
      go false true q true e on = cc (e)
      go false true q false e on = on (and_false q)
      go false false q r e on = on e

  module _ (depth : ℕ → ℕ) (is : IsInstance d m depth) (p : PlanTree) (planned : IsPlanned d p) (waits lacks : Table ℕ)
      (left : Address → ℕ) (ready : Table Event)
      (waits_are : (x : Address) → waits x ≡ cond (is_among x.name p.top && same_at [] x.at) (nonzero (length (needs_at p x.name))) None)
      (ready_is : (x : Address) → ready x ≡ cond (is_among x.name p.top && same_at [] x.at) (idle_at m (λ x. None) waits p x) None) where
    reached : IsReached d depth m first
    reached = begun [] is refl

    of_top : (n : ℕ) → is_among n p.top ≡ has_own d n
    of_top n = ap (is_among n) planned.plan.top ∙ own_is d n

    in_top : (n : ℕ) (after : List Need) (kind : Kind) → In d n after kind → IsThere d m first n [] after kind
    in_top n after kind st = record { graph = d; is_open = top; is_in = st }

    top_counts : (n : ℕ) (after : List Need) (kind : Kind) → In d n after kind
        → waits (address n []) ≡ nonzero (waiting {A = Row} after [] (λ x. None))
    top_counts n after kind st =
        let facts = kinds_are_known d depth m first reached n [] after kind (in_top n after kind st) in
        waits_are (address n [])
        ∙ ap (λ b. cond (b && true) (nonzero (length (needs_at p n))) None) (of_top n ∙ in_own d n after kind st)
        ∙ ap (λ ns. nonzero (length ns)) (needs_are d p planned.plan n kind facts.0 ∙ facts.1)
        ∙ ap nonzero (sym (all_waited Row after []))

    counts : AreCounts d m first waits lacks
    counts = record {
      waited = λ n i after kind th.
          let at = stands n i after kind th in
          subst (λ j. waits (address n j) ≡ nonzero (waiting {A = Row} after j (λ x. None))) (sym at.1) (top_counts n after kind at.0);
      lacked = λ n i after kind w h k th e inner. absurd (none-some w e);
    }

    lefts : AreLeft d m first left
    lefts = λ n i after pace h w th e. absurd (none-some w e)

    -- an action of the definition's own graph
    own_ready : (n : ℕ) (after : List Need) (kind : Kind) → In d n after kind
        → idle_at m (λ x. None) waits p (address n []) ≡ events m first d [] (address n [])
    own_ready n after kind st =
        let th = in_top n after kind st in
        let facts = kinds_are_known d depth m first reached n [] after kind th in
        let k : Known d depth m first = known d depth m first reached in
        idle_there d m first waits lacks left p planned.plan n [] kind facts.0 refl refl refl
        ∙ event_same d m first waits lacks left counts lefts n [] (needs_of d n) kind
        (subst (λ ns. IsThere d m first n [] ns kind) (sym facts.1) th)
        ∙ sym (at_there m d k.so (meaning m depth d) k.sol first n [] (needs_of d n) kind
        (subst (λ ns. IsThere d m first n [] ns kind) (sym facts.1) th))

    exact : (n : ℕ) (i : List ℕ) → ready (address n i) ≡ events m first d [] (address n i)
    exact n (j ∷ js) =
        ready_is (address n (j ∷ js))
        ∙ ap (λ b. cond b (idle_at m (λ x. None) waits p (address n (j ∷ js))) None) (and_false (is_among n p.top))
        ∙ sym (none_else d [] (address n (j ∷ js)) (and_false (has_own d n)))
    exact n [] =
        ready_is (address n [])
        ∙ ap (λ b. cond (b && true) (idle_at m (λ x. None) waits p (address n [])) None) (of_top n)
        ∙ ⊎_elim
        (λ t. let there = own_there d n t in
        ap (λ b. cond (b && true) (idle_at m (λ x. None) waits p (address n [])) None) t ∙ own_ready n there.0 there.1 there.2)
        (λ u. ap (λ b. cond (b && true) (idle_at m (λ x. None) waits p (address n [])) None) u
        ∙ sym (none_else d [] (address n []) (ap (λ b. b && true) u)))
        (two (has_own d n))

    enabled : IsReady d m first ready
    enabled = λ x. exact x.name x.at

-- nothing is unfinished
abbrev none_left : (Decided Told : Type 0) → Address → ℕ
none_left Decided Told = left_in {Decision = Decided} {Verdict = Told} []

-- THE FIRST STATE is kept
pub first_kept : {Row Begun Decision Verdict Decided Told : Type 0} (d : Graph) (m : Source Row Begun Decision Verdict) (depth : ℕ → ℕ)
    (writes : ℕ → Address → Row → Bool) (p : PlanTree) → IsInstance d m depth → IsPlanned d p → (waits lacks : List CountAt)
    (ready : List EventAt)
    → ((x : Address) → count_in waits x ≡ cond (is_among x.name p.top && same_at [] x.at) (nonzero (length (needs_at p x.name))) None)
    → ((x : Address) → events_in ready x
    ≡ cond (is_among x.name p.top && same_at [] x.at) (idle_at m (λ x. None) (count_in waits) p x) None)
    → IsKept d m {Decided = Decided} {Told = Told} depth writes
    (fresh {Row = Row} {Begun = Begun} {Decision = Decision} {Verdict = Verdict}) [] [] waits lacks ready
first_kept {Decided = Decided} {Told = Told} d m depth writes p is planned waits lacks ready waits_are ready_is = record {
  reached = begun [] is refl;
  counts = counts d m depth is p planned (count_in waits) (count_in lacks) (none_left Decided Told) (events_in ready) waits_are ready_is;
  left = lefts d m depth is p planned (count_in waits) (count_in lacks) (none_left Decided Told) (events_in ready) waits_are ready_is;
  enabled = enabled d m depth is p planned (count_in waits) (count_in lacks) (none_left Decided Told) (events_in ready) waits_are ready_is;
  stored = λ v. store_begun [] is (refl, refl);
}

-- ---- what is made of the first counts and of the first looks

pub counts_of_top : (p : PlanTree) {items old : List CountAt} {at ns top : List ℕ} → items ≡ entered_counts p at ns → at ≡ [] → ns ≡ top
    → old ≡ [] → (x : Address)
    → set_all items (count_in old) x ≡ cond (is_among x.name top && same_at [] x.at) (nonzero (length (needs_at p x.name))) None
counts_of_top p {items} {old} {at} {ns} {top} are none graph new x =
    ap (λ cs. set_all cs (count_in old) x) are
    ∙ ap (λ i. set_all (entered_counts p i ns) (count_in old) x) none
    ∙ ap (λ q. set_all (entered_counts p [] q) (count_in old) x) graph
    ∙ entered_set p [] top (count_in old) x
    ∙ ap (λ (cs : List CountAt). cond (is_among x.name top && same_at [] x.at) (nonzero (length (needs_at p x.name))) (count_in cs x)) new

pub events_of_top : (look : Address → Option Event) {places : List Instance} {old : List EventAt} {at ns top : List ℕ}
    → places ≡ instances_at at ns → at ≡ [] → ns ≡ top → old ≡ [] → (x : Address)
    → look_each look places (events_in old) x ≡ cond (is_among x.name top && same_at [] x.at) (look x) None
events_of_top look {places} {old} {at} {ns} {top} are none graph new x =
    ap (λ ps. look_each look ps (events_in old) x) are
    ∙ ap (λ i. look_each look (instances_at i ns) (events_in old) x) none
    ∙ ap (λ q. look_each look (instances_at [] q) (events_in old) x) graph
    ∙ looked_all look [] top (events_in old) x
    ∙ ap (λ (es : List EventAt). cond (is_among x.name top && same_at [] x.at) (look x) (events_in es x)) new

-- one count more, in a loop over the actions of the graph; and where none is left
pub counts_more : (p : PlanTree) (ns : List ℕ) (k : ℕ) → k < length ns → (old new : Table ℕ) (at : List ℕ) → at ≡ [] → (count : ℕ)
    → count ≡ length (needs_at p (get_or ns k 0))
    → ((x : Address) → new x ≡ cond (is_own (get_or ns k 0) at x) (nonzero count) (old x)) → (x : Address)
    → set_all (entered_counts p [] (drop (k + 1) ns)) new x ≡ set_all (entered_counts p [] (drop k ns)) old x
counts_more p ns k lt old new at none count are e x =
    let same : new ≡ (λ (y : Address). cond (is_own (get_or ns k 0) at y) (nonzero count) (old y)) = λ j y. e y j in
    ap (λ (t : Table ℕ). set_all (entered_counts p [] (drop (k + 1) ns)) t x) same
    ∙ ap (λ (i : List ℕ). set_all (entered_counts p [] (drop (k + 1) ns))
    (λ (y : Address). cond (is_own (get_or ns k 0) i y) (nonzero count) (old y)) x) none
    ∙ ap (λ (c : ℕ). set_all (entered_counts p [] (drop (k + 1) ns))
    (λ (y : Address). cond (is_own (get_or ns k 0) [] y) (nonzero c) (old y)) x) are
    ∙ sym (at_drop_more (λ (r : List ℕ). set_all (entered_counts p [] r) old x) ns k 0 lt)

pub counts_done : (p : PlanTree) (ns : List ℕ) (k : ℕ) → length ns ≤ k → (t : Table ℕ) (x : Address)
    → t x ≡ set_all (entered_counts p [] (drop k ns)) t x
counts_done p ns k le t x = sym (at_drop_all (λ (r : List ℕ). set_all (entered_counts p [] r) t x) ns k le)
