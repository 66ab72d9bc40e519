-- An event changes what is enabled only where it may.
use Rattle.std.proofs.Common.{◌≡◌, ℕ, zero, suc, ◌<◌, ◌≤◌, Bool, true, false, ◌&&◌, ◌||◌, cond, List, [], ◌∷◌, ◌++◌, Option, Some, None, ◌⊎◌, inl, inr, ⊎_elim, refl, sym, ap, ◌∙◌, subst, arith, nat_eq, eq-eqb, eqb-true, nat_lt, true≢false, length}
use Rattle.std.proofs.lemmas.Option.{none-some}
use Rattle.std.proofs.lemmas.Bool.{eqb-false}
use Rattle.wf_layers.specs.Definition.{Need, Names, Kind, Leaf, Scope, Choice, Foreach, Until, Branches, no_branch, branch, Graph, done, add, is_one, less_one, branch_at, holds, has, has_any, has_own, needs_of, kind_of}
use Rattle.wf_layers.specs.Address.{Address, address, Table, same_at, starts, is_own, is_in, SeenIn}
use Rattle.wf_layers.specs.Source.{Source, gate, Sound}
use Rattle.wf_layers.specs.Meaning.{meaning, skip}
use Rattle.wf_layers.specs.Rule.{Obeys}
use Rattle.wf_layers.specs.Enabled.{most_of, branch_ended, of_test, of_open, begins, of_idle, of_opening, of_busy, own_event, events}
use Rattle.wf_layers.specs.Changes.{owns_any, owns, is_next, is_inner, is_named, places, looks_at, next_of, enters, may_change}
use Rattle.wf_layers.specs.Machine.{Running, Opening, State, In, here, there, IsOpen, top, scope, chosen, turn, round, has_ended, is_ended, all_ended, unfinished, or_else, place, opened, Event, Start, Try, End, Skip, Open, Begin, Test, Close, place_of, passed_over, MayBegin, IsThere, IsDecided, Step}
use Rattle.wf_layers.specs.Laws.{IsInstance, EventsChangeOnlyThere}
use Rattle.wf_layers.proofs.Basics.{two, and_in, and_of, not_true, same_self, same_self_at, when, unless, held_in, or_first, or_second}
use Rattle.wf_layers.proofs.Tables.{own_is, same_starts, either_or}
use Rattle.wf_layers.proofs.Layers.{gate_same}
use Rattle.wf_layers.proofs.Open.{open_sub, placed_in, kind_there}
use Rattle.wf_layers.proofs.Keeps.{Keeps, IsClosed, SpecialOut, decided_own}
use Rattle.wf_layers.proofs.Events.{step_keeps}
use Rattle.wf_layers.proofs.Busy.{Busy, open_grows, close_path, step_busy}
use Rattle.wf_layers.proofs.Rooted.{Rooted, none_in, none_turn, none_round, none_open, placed_grows}
use Rattle.wf_layers.proofs.Waiting.{own_has}
use Rattle.wf_layers.proofs.Left.{settled_ended}
use Rattle.wf_layers.proofs.Others.{passed_in, skipped_in}
use Rattle.wf_layers.proofs.Enabled.{at_there, exact}
use Rattle.wf_layers.proofs.Progress.{sol as sol_of, closed_is, nothing_special, kept_state}
use Rattle.wf_layers.proofs.Facts.{busy_state, rooted_state}

-- TESTS

pub or_false : (a b : Bool) → (a || b) ≡ false → (a ≡ false) × (b ≡ false)
or_false true b e = absurd (true≢false e)
or_false false b e = (refl, e)

pub named : (ns : List Need) (p : ℕ) → Names ns p → is_named ns p ≡ true
named [] p e = absurd e
named (n ∷ ns) p (inl is) = or_first (nat_eq n.name p) (is_named ns p) (eq-eqb n.name p is)
named (n ∷ ns) p (inr e) = or_second (nat_eq n.name p) (is_named ns p) (named ns p e)

pub in_own : (g : Graph) (n : ℕ) (after : List Need) (kind : Kind) → In g n after kind → has_own g n ≡ true
in_own _ n after kind (here {rest = rest}) = or_first (nat_eq n n) (has_own rest n) (same_self n)
in_own _ n after kind (there {m = q} {rest = rest} st) = or_second (nat_eq q n) (has_own rest n) (in_own rest n after kind st)

pub in_taken : (bs : Branches) (c : ℕ) (b : Graph) → branch_at bs c ≡ Some b → (q : ℕ) → has_own b q ≡ true → owns_any bs q ≡ true
in_taken no_branch c b e q h = absurd (none-some b e)
in_taken (branch a rest) c b e q h =
    ⊎_elim
    (λ t. let same : Some a ≡ Some b = sym (when (is_one c) (Some a) _ t) ∙ e in let is : a ≡ b = cc in
    or_first (has_own a q) (owns_any rest q) (subst (λ g. has_own g q ≡ true) (sym is) h))
    (λ u. or_second (has_own a q) (owns_any rest q) (in_taken rest (less_one c) b (sym (unless (is_one c) (Some a) _ u) ∙ e) q h))
    (two (is_one c))

pub next_is : (i : List ℕ) (j : ℕ) → is_next i (i ++ j ∷ []) ≡ true
next_is [] j = refl
next_is (a ∷ i) j = and_of (nat_eq a a) (is_next i (i ++ j ∷ [])) (same_self a) (next_is i j)

pub owns_has : (bs : Branches) (q : ℕ) → owns_any bs q ≡ true → has_any bs q ≡ true
owns_has no_branch q e = e
owns_has (branch b rest) q e = either_or (has_own b q) (owns_any rest q) (has b q) (has_any rest q) (own_has b q) (owns_has rest q) e

pub owns_holds : (kind : Kind) (q : ℕ) → owns (Some kind) q ≡ true → holds kind q ≡ true
owns_holds Leaf q e = e
owns_holds (Scope g) q e = own_has g q e
owns_holds (Choice bs) q e = owns_has bs q e
owns_holds (Foreach pace g) q e = own_has g q e
owns_holds (Until most g) q e = own_has g q e

module _ {Row Begun Decision Verdict : Type 0} (m : Source Row Begun Decision Verdict) (d : Graph) (so : Sound m (SeenIn d) d 0)
    (f : Table Row) (sol : Obeys m d f)
    (closed : IsClosed m d so f sol) (out : SpecialOut m d so f sol) where
  abbrev pub St : Type 0
  St = State Row Begun Decision Verdict

  -- WHAT AN EVENT LEAVES AS IT IS

  pub running_else : (s : St) (e : Event) (s' : St) → Step d m s e s' → (x : Address) → is_own (place_of e).name (place_of e).at x ≡ false
      → s'.running x ≡ s.running x
  running_else s (Start n i) s' (after, de, pass, to) x u =
      ap (λ (z : St). z.running x) to ∙ ap (λ o. or_else o (s.running x)) (unless (is_own n i x) (Some _) None u)
  running_else s (Try n i) s' (w, e, lt, to) x u =
      ap (λ (z : St). z.running x) to ∙ ap (λ o. or_else o (s.running x)) (unless (is_own n i x) (Some _) None u)
  running_else s (End n i) s' (w, e, all, to) x u = ap (λ (z : St). z.running x) to ∙ unless (is_own n i x) None (s.running x) u
  running_else s (Skip n i) s' (after, kind, de, fails, to) x u = ap (λ (z : St). z.running x) to
  running_else s (Open n i) s' (after, kind, c, de, pass, to) x u = ap (λ (z : St). z.running x) to
  running_else s (Begin n i) s' (after, kind, w, th, e, may, to) x u = ap (λ (z : St). z.running x) to
  running_else s (Test n i) s' (after, kind, w, j, th, e, may, to) x u = ap (λ (z : St). z.running x) to
  running_else s (Close n i) s' (after, kind, w, th, e, may, to) x u = ap (λ (z : St). z.running x) to

  pub opens_else : (s : St) (e : Event) (s' : St) → Step d m s e s' → (x : Address) → is_own (place_of e).name (place_of e).at x ≡ false
      → s'.opens x ≡ s.opens x
  opens_else s (Start n i) s' (after, de, pass, to) x u = ap (λ (z : St). z.opens x) to
  opens_else s (Try n i) s' (w, e, lt, to) x u = ap (λ (z : St). z.opens x) to
  opens_else s (End n i) s' (w, e, all, to) x u = ap (λ (z : St). z.opens x) to
  opens_else s (Skip n i) s' (after, kind, de, fails, to) x u = ap (λ (z : St). z.opens x) to
  opens_else s (Open n i) s' (after, kind, c, de, pass, to) x u =
      ap (λ (z : St). z.opens x) to ∙ unless (is_own n i x) (Some _) (s.opens x) u
  opens_else s (Begin n i) s' (after, kind, w, th, e, may, to) x u =
      ap (λ (z : St). z.opens x) to ∙ unless (is_own n i x) (Some _) (s.opens x) u
  opens_else s (Test n i) s' (after, kind, w, j, th, e, may, to) x u =
      ap (λ (z : St). z.opens x) to ∙ unless (is_own n i x) (Some _) (s.opens x) u
  opens_else s (Close n i) s' (after, kind, w, th, e, may, to) x u =
      ap (λ (z : St). z.opens x) to ∙ unless (is_own n i x) None (s.opens x) u

  -- where new rows are all in an action that is decided, no other row of an open graph is new
  pub block_else : (s : St) (n : ℕ) (i : List ℕ) (after : List Need) (kind : Kind) (new : Table Row) → IsDecided d m s n i after kind
      → ((y : Address) (r : Row) → new y ≡ Some r → is_in n kind i y ≡ true) → (q : ℕ) (j : List ℕ) (before : List Need) (other : Kind)
      → IsThere d m s q j before other
      → is_own n i (address q j) ≡ false → place new s.rows (address q j) ≡ s.rows (address q j)
  block_else s n i after kind new de inner q j before other it u = go (new (address q j)) refl
    where
      go : (o : Option Row) → new (address q j) ≡ o → place new s.rows (address q j) ≡ s.rows (address q j)
      go None e = ap (λ z. or_else z (s.rows (address q j))) e
      go (Some r) e = absurd (none_open m d so f sol s n i after kind de q j before other it (inner (address q j) r e) u)

  pub rows_else : (s : St) (e : Event) (s' : St) → Busy m d so f sol s → Rooted m d so f sol s → Step d m s e s'
      → (q : ℕ) (j : List ℕ) (before : List Need) (other : Kind) → IsThere d m s q j before other
      → (places e && is_own (place_of e).name (place_of e).at (address q j)) ≡ false → s'.rows (address q j) ≡ s.rows (address q j)
  rows_else s (Start n i) s' b r (after, de, pass, to) q j before other it u = ap (λ (z : St). z.rows (address q j)) to
  rows_else s (Try n i) s' b r (w, e, lt, to) q j before other it u = ap (λ (z : St). z.rows (address q j)) to
  rows_else s (End n i) s' b r (w, e, all, to) q j before other it u =
      ap (λ (z : St). z.rows (address q j)) to
      ∙ ap (λ o. or_else o (s.rows (address q j))) (unless (is_own n i (address q j)) (Some _) None u)
  rows_else s (Skip n i) s' b r (after, kind, de, fails, to) q j before other it u =
      ap (λ (z : St). z.rows (address q j)) to
      ∙ block_else s n i after kind (skip m n kind i) de (λ y p h. skipped_in m kind n i y p h) q j before other it u
  rows_else s (Open n i) s' b r (after, kind, c, de, pass, to) q j before other it u =
      ap (λ (z : St). z.rows (address q j)) to ∙ go (new (address q j)) refl
    where
      new : Table Row
      new = passed_over m kind (m.taken (m.decide (address n i) s.rows)) i

      go : (o : Option Row) → new (address q j) ≡ o → place new s.rows (address q j) ≡ s.rows (address q j)
      go None e = ap (λ z. or_else z (s.rows (address q j))) e
      go (Some p) e =
          let part = passed_in m kind (m.taken (m.decide (address n i) s.rows)) i (address q j) p e in
          let inn = held_in n kind i (address q j) part in
          ⊎_elim (λ t. absurd (own_passed t)) (λ v. absurd (none_open m d so f sol s n i after kind de q j before other it inn v))
          (two (is_own n i (address q j)))
        where
          own_passed : is_own n i (address q j) ≡ true → ⊥
          own_passed t =
              let th = de.is_there in
              let pl = placed_in m d so f sol (length i) th.graph n after kind
              (open_sub m d so f sol s.opens th.graph i th.is_open) th.is_in in
              true≢false (sym (and_in (holds kind q) (starts i j)
              (passed_in m kind (m.taken (m.decide (address n i) s.rows)) i (address q j) p e)).0
              ∙ ap (λ (z : Address). holds kind z.name) (sym (own_is n i (address q j) t)) ∙ pl.apart_own)
  rows_else s (Begin n i) s' b r (after, kind, w, th, e, may, to) q j before other it u = ap (λ (z : St). z.rows (address q j)) to
  rows_else s (Test n i) s' b r (after, kind, w, k, th, e, may, to) q j before other it u = ap (λ (z : St). z.rows (address q j)) to
  rows_else s (Close n i) s' b r (after, kind, w, th, e, may, to) q j before other it u =
      ap (λ (z : St). z.rows (address q j)) to
      ∙ ap (λ o. or_else o (s.rows (address q j))) (unless (is_own n i (address q j)) (Some _) None u)

  -- what f has in a state stays there
  still : (s : St) (e : Event) (s' : St) → Keeps m d so f sol s' → Step d m s e s' → (y : Address) → s.rows y ≡ f y → s'.rows y ≡ f y
  still s e s' k' st y is = go (s.rows y) refl (s'.rows y) refl
    where
      grew : (r : Row) → s.rows y ≡ Some r → (q : Row) × (s'.rows y ≡ Some q)
      grew r h = more e st
        where
          on : (new : Table Row) (o : Table (Running Begun)) (v : Table (Opening Decision Verdict))
              → s' ≡ record { rows = place new s.rows; running = o; opens = v } → (q : Row) × (s'.rows y ≡ Some q)
          on new o v to = let z = placed_grows new s.rows y r h in (z.0, ap (λ (x : St). x.rows y) to ∙ z.1)

          more : (e : Event) → Step d m s e s' → (q : Row) × (s'.rows y ≡ Some q)
          more (Start n i) (after, de, pass, to) = (r, ap (λ (x : St). x.rows y) to ∙ h)
          more (Try n i) (w, e, lt, to) = (r, ap (λ (x : St). x.rows y) to ∙ h)
          more (End n i) (w, e, all, to) = on _ _ _ to
          more (Skip n i) (after, kind, de, fails, to) = on _ _ _ to
          more (Open n i) (after, kind, c, de, pass, to) = on _ _ _ to
          more (Begin n i) (after, kind, w, th, e, may, to) = (r, ap (λ (x : St). x.rows y) to ∙ h)
          more (Test n i) (after, kind, w, k, th, e, may, to) = (r, ap (λ (x : St). x.rows y) to ∙ h)
          more (Close n i) (after, kind, w, th, e, may, to) = on _ _ _ to

      go : (a : Option Row) → s.rows y ≡ a → (c : Option Row) → s'.rows y ≡ c → s'.rows y ≡ f y
      go a ea (Some q) ec = ec ∙ sym (k'.placed.by y q ec)
      go None ea None ec = ec ∙ sym ea ∙ is
      go (Some r) ea None ec = let z = grew r ea in absurd (none-some z.0 (sym ec ∙ z.1))

  -- AN ACTION THAT IS LOOKED AT

  module _ (s : St) (e : Event) (s' : St) (k : Keeps m d so f sol s) (b : Busy m d so f sol s) (r : Rooted m d so f sol s)
      (st : Step d m s e s') where
    abbrev pub p : Address
    p = place_of e

    k' : Keeps m d so f sol s'
    k' = step_keeps m d so f sol closed out s e s' k st

    b' : Busy m d so f sol s'
    b' = step_busy m d so f sol out s e s' k b st

    module _ (n : ℕ) (i : List ℕ) (after : List Need) (kind : Kind) (th : IsThere d m s n i after kind)
        (not_own : is_own p.name p.at (address n i) ≡ false)
        (apart : (places e && looks_at d p (address n i)) ≡ false) where
      facts : (kind_of d n ≡ Some kind) × (needs_of d n ≡ after)
      facts = kind_there m d so f sol s.opens th.graph i n after kind th.is_open th.is_in

      -- an event that places a row isn't looked at
      no_place : (y : Address) → (is_own p.name p.at y ≡ true → looks_at d p (address n i) ≡ true)
          → (places e && is_own p.name p.at y) ≡ false
      no_place y looks = go (places e) (is_own p.name p.at y) refl refl
        where
          go : (a c : Bool) → places e ≡ a → is_own p.name p.at y ≡ c → (a && c) ≡ false
          go false c ea ec = refl
          go true false ea ec = refl
          go true true ea ec = absurd (true≢false (sym (and_of (places e) (looks_at d p (address n i)) ea (looks ec)) ∙ apart))

      rows_same : s'.rows (address n i) ≡ s.rows (address n i)
      rows_same = rows_else s e s' b r st n i after kind th (go (places e))
        where
          go : (a : Bool) → (a && is_own p.name p.at (address n i)) ≡ false
          go true = not_own
          go false = refl

      -- those that it waits for
      waits_same : (ns : List Need) → ((q : ℕ) → Names ns q → Names after q) → all_ended ns i s'.rows ≡ all_ended ns i s.rows
      waits_same [] up = refl
      waits_same (x ∷ ns) up =
          let in_after = up x.name (inl refl) in
          let there' = closed s.opens th.graph i n after kind th.is_open th.is_in x.name in_after in
          let one' = rows_else s e s' b r st x.name i there'.0 there'.1
          (record { graph = th.graph; is_open = th.is_open; is_in = there'.2 })
          (no_place (address x.name i) (λ t.
          let is = own_is p.name p.at (address x.name i) t in
          or_first (is_named (needs_of d n) p.name && same_at p.at i) _
          (and_of (is_named (needs_of d n) p.name) (same_at p.at i)
          (ap (λ a. is_named a p.name) facts.1 ∙ named after p.name (subst (λ (z : Address). Names after z.name) (sym is) in_after))
          (subst (λ (z : Address). same_at z.at i ≡ true) (sym is) (same_self_at i))))) in
          ap (λ o. has_ended o && all_ended ns i s'.rows) one'
          ∙ ap (λ c. has_ended (s.rows (address x.name i)) && c) (waits_same ns (λ q h. up q (inr h)))

      gate_is : all_ended after i s.rows ≡ true → gate m after n i s'.rows ≡ gate m after n i s.rows
      gate_is over =
          let pl = placed_in m d so f sol (length i) th.graph n after kind (open_sub m d so f sol s.opens th.graph i th.is_open) th.is_in in
          let seen = decided_own m d so f sol closed s k th.graph i n after kind th.is_open th.is_in over in
          gate_same m (SeenIn d) after n (length i) pl.gated i refl s'.rows s.rows
          (λ y see. let z = seen y see in still s e s' k' st y z ∙ sym z)

      -- an open graph of it
      ended_same : (h : Graph) (j : List ℕ) → IsOpen m.taken d s.opens h j → ((q : ℕ) → has_own h q ≡ true → owns (Some kind) q ≡ true)
          → is_inner (Some kind) i j ≡ true
          → is_ended h j s'.rows ≡ is_ended h j s.rows
      ended_same h j og own inner = walk h (λ q a c st. st)
        where
          walk : (g : Graph) → ((q : ℕ) (a : List Need) (c : Kind) → In g q a c → In h q a c) → is_ended g j s'.rows ≡ is_ended g j s.rows
          walk done up = refl
          walk (add q a c rest) up =
              let inn = up q a c here in
              let one' = rows_else s e s' b r st q j a c (record { graph = h; is_open = og; is_in = inn })
              (no_place (address q j) (λ t.
              let is = own_is p.name p.at (address q j) t in
              or_second (is_named (needs_of d n) p.name && same_at p.at i) _
              (and_of (owns (kind_of d n) p.name) (is_inner (kind_of d n) i p.at)
              (ap (λ z. owns z p.name) facts.0 ∙ subst (λ (z : Address). owns (Some kind) z.name ≡ true) (sym is)
              (own q (in_own h q a c inn)))
              (ap (λ z. is_inner z i p.at) facts.0 ∙ subst (λ (z : Address). is_inner (Some kind) i z.at ≡ true) (sym is) inner)))) in
              ap (λ o. has_ended o && is_ended rest j s'.rows) one'
              ∙ ap (λ c. has_ended (s.rows (address q j)) && c) (walk rest (λ x a c st. up x a c (there st)))

      unfinished_same : (h : Graph) (c : ℕ) → ((j : ℕ) → j < c → is_ended h (i ++ j ∷ []) s'.rows ≡ is_ended h (i ++ j ∷ []) s.rows)
          → unfinished h i s'.rows c ≡ unfinished h i s.rows c
      unfinished_same h zero same = refl
      unfinished_same h (suc c) same =
          let rest = unfinished_same h c (λ j lt. same j (omega (arith, lt))) in
          ap (λ z. cond z (unfinished h i s'.rows c) (suc (unfinished h i s'.rows c))) (same c (omega arith))
          ∙ ap (λ z. cond (is_ended h (i ++ c ∷ []) s.rows) z (suc z)) rest

      open_same : (w : Opening Decision Verdict) → s.opens (address n i) ≡ Some w → of_open m s' kind n i w ≡ of_open m s kind n i w
      open_same w e = go kind th.is_in (λ h j og own inner. ended_same h j og own inner)
        where
          go : (kd : Kind) → In th.graph n after kd
              → ((h : Graph) (j : List ℕ) → IsOpen m.taken d s.opens h j → ((q : ℕ) → has_own h q ≡ true → owns (Some kd) q ≡ true)
              → is_inner (Some kd) i j ≡ true
              → is_ended h j s'.rows ≡ is_ended h j s.rows) → of_open m s' kd n i w ≡ of_open m s kd n i w
          go Leaf sub same = refl
          go (Scope h) sub same = ap (λ z. cond z (Some (Close n i)) None) (same h i (scope th.is_open sub e) (λ q o. o) (same_self_at i))
          go (Choice bs) sub same = at_branch (branch_at bs (m.taken w.decision)) refl
            where
              at_branch : (o : Option Graph) → branch_at bs (m.taken w.decision) ≡ o
                  → cond (branch_ended m s' (branch_at bs (m.taken w.decision)) i) (Some (Close n i)) None ≡ cond
                  (branch_ended m s (branch_at bs (m.taken w.decision)) i) (Some (Close n i)) None
              at_branch None is =
                  ap (λ o. cond (branch_ended m s' o i) (Some (Close n i)) None) is
                  ∙ sym (ap (λ o. cond (branch_ended m s o i) (Some (Close n i)) None) is)
              at_branch (Some h) is =
                  ap (λ o. cond (branch_ended m s' o i) (Some (Close n i)) None) is
                  ∙ ap (λ z. cond z (Some (Close n i)) None)
                  (same h i (chosen th.is_open sub e is) (λ q o. in_taken bs (m.taken w.decision) h is q o) (same_self_at i))
                  ∙ sym (ap (λ o. cond (branch_ended m s o i) (Some (Close n i)) None) is)
          go (Foreach pace h) sub same =
              ap (λ z. cond (nat_lt w.next (m.items w.decision)) (cond (nat_lt z (most_of pace)) (Some (Begin n i)) None)
              (cond (nat_eq z 0) (Some (Close n i)) None))
              (unfinished_same h w.next (λ j lt. same h (i ++ j ∷ []) (turn j th.is_open sub e lt) (λ q o. o) (next_is i j)))
          go (Until most h) sub same = at_test w.test w.next refl
            where
              at_test : (t : Option Verdict) (c : ℕ) → w.next ≡ c → of_test m s' h most n i c t ≡ of_test m s h most n i c t
              at_test (Some v) c ec = refl
              at_test None zero ec = refl
              at_test None (suc j) ec =
                  ap (λ z. cond z (Some (Test n i)) None)
                  (same h (i ++ j ∷ []) (round j th.is_open sub e (omega (arith, ec))) (λ q o. o) (next_is i j))

      pub own_same : own_event m s' after kind n i ≡ own_event m s after kind n i
      own_same =
          ap (λ o. cond (has_ended o) None (of_busy m s' after kind n i (s'.running (address n i)))) rows_same
          ∙ ap (λ o. cond (has_ended (s.rows (address n i))) None (of_busy m s' after kind n i o))
          (running_else s e s' st (address n i) not_own)
          ∙ ap (λ o. cond (has_ended (s.rows (address n i))) None o) (busy_same (s.running (address n i)))
        where
          idle_same : of_idle m s' after kind n i ≡ of_idle m s after kind n i
          idle_same = at_ended (all_ended after i s.rows) refl
            where
              at_ended : (z : Bool) → all_ended after i s.rows ≡ z
                  → cond (all_ended after i s'.rows) (Some (cond (gate m after n i s'.rows) (begins m s' kind n i) (Skip n i))) None
                  ≡ cond (all_ended after i s.rows) (Some (cond (gate m after n i s.rows) (begins m s kind n i) (Skip n i))) None
              at_ended false is =
                  unless (all_ended after i s'.rows) _ _ (waits_same after (λ q h. h) ∙ is) ∙ sym (unless (all_ended after i s.rows) _ _ is)
              at_ended true is =
                  when (all_ended after i s'.rows) _ _ (waits_same after (λ q h. h) ∙ is)
                  ∙ ap (λ z. Some (cond z (begins m s' kind n i) (Skip n i))) (gate_is is)
                  ∙ ap (λ z. Some (cond (gate m after n i s.rows) z (Skip n i))) (begins_same kind)
                  ∙ sym (when (all_ended after i s.rows) _ _ is)
                where
                  begins_same : (kd : Kind) → begins m s' kd n i ≡ begins m s kd n i
                  begins_same Leaf = refl
                  begins_same (Scope h) = refl
                  begins_same (Choice bs) = refl
                  begins_same (Foreach pace h) = refl
                  begins_same (Until most h) = refl

          opening_same : (o : Option (Opening Decision Verdict)) → s.opens (address n i) ≡ o
              → of_opening m s' after kind n i o ≡ of_opening m s after kind n i o
          opening_same None eo = idle_same
          opening_same (Some w) eo = open_same w eo

          busy_same : (o : Option (Running Begun)) → of_busy m s' after kind n i o ≡ of_busy m s after kind n i o
          busy_same (Some w) = refl
          busy_same None =
              ap (λ o. of_opening m s' after kind n i o) (opens_else s e s' st (address n i) not_own)
              ∙ opening_same (s.opens (address n i)) refl

    -- OPEN GRAPHS BEFORE AND AFTER

    -- an open graph stays open, or has ended
    pub stays : (g : Graph) (i : List ℕ) → IsOpen m.taken d s.opens g i → IsOpen m.taken d s'.opens g i ⊎ (is_ended g i s.rows ≡ true)
    stays g i og = go e st
      where
        same : s'.opens ≡ s.opens → IsOpen m.taken d s'.opens g i
        same is = subst (λ o. IsOpen m.taken d o g i) (sym is) og

        grown : (n : ℕ) (j : List ℕ) (w : Option (Opening Decision Verdict)) (v : Opening Decision Verdict) → s.opens (address n j) ≡ w
            → ((u : Opening Decision Verdict) → w ≡ Some u → (v.decision ≡ u.decision) × (u.next ≤ v.next))
            → s'.opens ≡ opened n j (Some v) s.opens → IsOpen m.taken d s'.opens g i
        grown n j w v was more is =
            subst (λ o. IsOpen m.taken d o g i) (sym is)
            (open_grows m.taken d s.opens (opened n j (Some v) s.opens)
            (λ y u h. ⊎_elim
            (λ t. let q = more u (sym was ∙ ap s.opens (own_is n j y t) ∙ h) in (v, when (is_own n j y) (Some v) (s.opens y) t, q.0, q.1))
            (λ t. (u, unless (is_own n j y) (Some v) (s.opens y) t ∙ h, refl, omega arith))
            (two (is_own n j y))) g i og)

        go : (x : Event) → Step d m s x s' → IsOpen m.taken d s'.opens g i ⊎ (is_ended g i s.rows ≡ true)
        go (Start n j) (after, de, pass, to) = inl (same (ap (λ (z : St). z.opens) to))
        go (Try n j) (w, q, lt, to) = inl (same (ap (λ (z : St). z.opens) to))
        go (End n j) (w, q, all, to) = inl (same (ap (λ (z : St). z.opens) to))
        go (Skip n j) (after, kind, de, fails, to) = inl (same (ap (λ (z : St). z.opens) to))
        go (Open n j) (after, kind, c, de, pass, to) =
            inl (grown n j None (record { decision = m.decide (address n j) s.rows; next = 0; test = None }) de.not_open
            (λ u h. absurd (none-some u h)) (ap (λ (z : St). z.opens) to))
        go (Begin n j) (after, kind, w, th, q, may, to) =
            inl (grown n j (Some w) (record { decision = w.decision; next = suc w.next; test = None }) q
            (λ u h. let is : w ≡ u = cc in
            (ap (λ z. z.decision) is, let y = ap (λ (z : Opening Decision Verdict). z.next) is in omega (arith, y)))
            (ap (λ (z : St). z.opens) to))
        go (Test n j) (after, kind, w, l, th, q, may, to) =
            inl (grown n j (Some w) (record { decision = w.decision; next = w.next; test = Some (m.test (address n j) l s.rows) }) q
            (λ u h. let is : w ≡ u = cc in
            (ap (λ z. z.decision) is, let y = ap (λ (z : Opening Decision Verdict). z.next) is in omega (arith, y)))
            (ap (λ (z : St). z.opens) to))
        go (Close n j) (after, kind, w, th, q, may, to) =
            ⊎_elim
            (λ o. inl (subst (λ z. IsOpen m.taken d z g i) (sym (ap (λ (z : St). z.opens) to)) o))
            (λ settled. inr (settled_ended m d so f sol closed out s k g i og settled))
            (close_path m d so f sol s k n j after kind w th q may g i og)

    -- an open container was open before, began an iteration, or opened
    abbrev pub Was : ℕ → List ℕ → Opening Decision Verdict → Type 0
    Was c j v =
        ((u : Opening Decision Verdict) × (s.opens (address c j) ≡ Some u) × (u.decision ≡ v.decision)
        × ((v.next ≤ u.next) ⊎ ((v.next ≡ suc u.next) × (e ≡ Begin c j))))
        ⊎ ((v.next ≡ 0) × (e ≡ Open c j))

    pub was : (c : ℕ) (j : List ℕ) (v : Opening Decision Verdict) → s'.opens (address c j) ≡ Some v → Was c j v
    was c j v h = go e refl st
      where
        before : s'.opens (address c j) ≡ s.opens (address c j) → Was c j v
        before is = inl (v, sym is ∙ h, refl, inl (omega arith))

        the_same : (a q : Opening Decision Verdict) → Some a ≡ Some q → a ≡ q
        the_same a q z = cc

        at_own : (n : ℕ) (l : List ℕ) (x : Option (Opening Decision Verdict)) → s'.opens ≡ opened n l x s.opens
            → ((v0 : Opening Decision Verdict) → x ≡ Some v0 → v0 ≡ v → (address n l ≡ address c j) → Was c j v) → Was c j v
        at_own n l x is own =
            ⊎_elim
            (λ t. let here' = sym (ap (λ o. o (address c j)) is ∙ when (is_own n l (address c j)) x _ t) ∙ h in
            own v here' refl (own_is n l (address c j) t))
            (λ t. before (ap (λ o. o (address c j)) is ∙ unless (is_own n l (address c j)) x _ t))
            (two (is_own n l (address c j)))

        go : (x : Event) → e ≡ x → Step d m s x s' → Was c j v
        go (Start n l) ex (after, de, pass, to) = before (ap (λ (z : St). z.opens (address c j)) to)
        go (Try n l) ex (w, q, lt, to) = before (ap (λ (z : St). z.opens (address c j)) to)
        go (End n l) ex (w, q, all, to) = before (ap (λ (z : St). z.opens (address c j)) to)
        go (Skip n l) ex (after, kind, de, fails, to) = before (ap (λ (z : St). z.opens (address c j)) to)
        go (Open n l) ex (after, kind, ct, de, pass, to) =
            at_own n l _ (ap (λ (z : St). z.opens) to)
            (λ v0 ev same ad. inr (
              ap (λ (z : Opening Decision Verdict). z.next) (sym (the_same _ v0 ev ∙ same)),
              ex ∙ ap (λ (z : Address). Open z.name z.at) ad,
            ))
        go (Begin n l) ex (after, kind, w, th, q, may, to) =
            at_own n l _ (ap (λ (z : St). z.opens) to)
            (λ v0 ev same ad. let is = the_same _ v0 ev ∙ same in inl (
              w,
              ap s.opens (sym ad) ∙ q,
              ap (λ (z : Opening Decision Verdict). z.decision) is,
              inr (ap (λ (z : Opening Decision Verdict). z.next) (sym is), ex ∙ ap (λ (z : Address). Begin z.name z.at) ad),
            ))
        go (Test n l) ex (after, kind, w, y, th, q, may, to) =
            at_own n l _ (ap (λ (z : St). z.opens) to)
            (λ v0 ev same ad. let is = the_same _ v0 ev ∙ same in let nx = ap (λ (z : Opening Decision Verdict). z.next) is in inl (
              w,
              ap s.opens (sym ad) ∙ q,
              ap (λ (z : Opening Decision Verdict). z.decision) is,
              inl (omega (arith, nx)),
            ))
        go (Close n l) ex (after, kind, w, th, q, may, to) =
            at_own n l None (ap (λ (z : St). z.opens) to) (λ v0 ev same ad. absurd (none-some v0 ev))

    -- in a graph that is entered nothing is open
    pub entered_none : (q : ℕ) (j : List ℕ) → enters d s e (address q j) ≡ true → (v : Opening Decision Verdict)
        → s'.opens (address q j) ≡ Some v → ⊥
    entered_none q j ent v h = go e refl st
      where
        old_none : (x : Event) → e ≡ x → (n : ℕ) (l : List ℕ) → place_of x ≡ address n l → s.opens (address q j) ≡ None
            → is_own n l (address q j) ≡ false → ⊥
        old_none x ex n l pl none u =
            none-some v (sym none
            ∙ sym (opens_else s e s' st (address q j) (ap (λ (z : Address). is_own z.name z.at (address q j)) (ap place_of ex ∙ pl)
            ∙ u)) ∙ h)

        name_else : (n : ℕ) (l : List ℕ) (kind : Kind) → holds kind n ≡ false → holds kind q ≡ true → is_own n l (address q j) ≡ false
        name_else n l kind nh hq =
            not_true (is_own n l (address q j))
            (λ t. true≢false (sym hq ∙ ap (λ (z : Address). holds kind z.name) (sym (own_is n l (address q j) t)) ∙ nh))

        go : (x : Event) → e ≡ x → Step d m s x s' → ⊥
        go (Start n l) ex z = true≢false (sym (sym (ap (λ y. enters d s y (address q j)) ex) ∙ ent))
        go (Try n l) ex z = true≢false (sym (sym (ap (λ y. enters d s y (address q j)) ex) ∙ ent))
        go (End n l) ex z = true≢false (sym (sym (ap (λ y. enters d s y (address q j)) ex) ∙ ent))
        go (Skip n l) ex z = true≢false (sym (sym (ap (λ y. enters d s y (address q j)) ex) ∙ ent))
        go (Test n l) ex z = true≢false (sym (sym (ap (λ y. enters d s y (address q j)) ex) ∙ ent))
        go (Close n l) ex z = true≢false (sym (sym (ap (λ y. enters d s y (address q j)) ex) ∙ ent))
        go (Open n l) ex (after, kind, ct, de, pass, to) =
            let th = de.is_there in
            let kn = (kind_there m d so f sol s.opens th.graph l n after kind th.is_open th.is_in).0 in
            let pl = placed_in m d so f sol (length l) th.graph n after kind
            (open_sub m d so f sol s.opens th.graph l th.is_open) th.is_in in
            let t = and_in (owns (kind_of d n) q) (same_at l j) (sym (ap (λ y. enters d s y (address q j)) ex) ∙ ent) in
            let hq = owns_holds kind q (sym (ap (λ z. owns z q) kn) ∙ t.0) in
            let inn = held_in n kind l (address q j) (and_of (holds kind q) (starts l j) hq (same_starts l j t.1)) in
            old_none (Open n l) ex n l refl (none_in m d so f sol s b r n l after kind de (address q j) inn).2
            (name_else n l kind pl.apart_own hq)
        go (Begin n l) ex (after, kind, w, th, eq, may, to) =
            let kn = (kind_there m d so f sol s.opens th.graph l n after kind th.is_open th.is_in).0 in
            let pl = placed_in m d so f sol (length l) th.graph n after kind
            (open_sub m d so f sol s.opens th.graph l th.is_open) th.is_in in
            let t = and_in (owns (kind_of d n) q) (same_at (l ++ next_of (s.opens (address n l)) ∷ []) j)
            (sym (ap (λ y. enters d s y (address q j)) ex) ∙ ent) in
            let own = sym (ap (λ z. owns z q) kn) ∙ t.0 in
            let at = same_starts (l ++ w.next ∷ []) j (sym (ap (λ z. same_at (l ++ next_of z ∷ []) j) eq) ∙ t.1) in
            old_none (Begin n l) ex n l refl (none_at kind th pl.apart_own own at may)
            (name_else n l kind pl.apart_own (owns_holds kind q own))
          where
            none_at : (kd : Kind) → IsThere d m s n l after kd → holds kd n ≡ false → owns (Some kd) q ≡ true
                → starts (l ++ w.next ∷ []) j ≡ true → MayBegin m kd l w s.rows → s.opens (address q j) ≡ None
            none_at Leaf th' nh own at may' = absurd may'
            none_at (Scope g) th' nh own at may' = absurd may'
            none_at (Choice bs) th' nh own at may' = absurd may'
            none_at (Foreach pace g) th' nh own at may' =
                (none_turn m d so f sol s b r n l after pace g w th' eq nh (address q j)
                (and_of (has g q) (starts (l ++ w.next ∷ []) j) (own_has g q own) at)).2
            none_at (Until most g) th' nh own at may' =
                (none_round m d so f sol s b r n l after most g w th' eq nh (address q j)
                (and_of (has g q) (starts (l ++ w.next ∷ []) j) (own_has g q own) at)).2

    -- an open graph was open before, or is entered
    abbrev pub Entered : Graph → List ℕ → Type 0
    Entered g i = (q : ℕ) → has_own g q ≡ true → enters d s e (address q i) ≡ true

    kind_after : (g : Graph) (j : List ℕ) → IsOpen m.taken d s.opens g j → (c : ℕ) (ca : List Need) (kd : Kind) → In g c ca kd
        → kind_of d c ≡ Some kd
    kind_after g j og c ca kd st' = (kind_there m d so f sol s.opens g j c ca kd og st').0

    opened_enters : (g : Graph) (j : List ℕ) → IsOpen m.taken d s.opens g j → (c : ℕ) (ca : List Need) (kd : Kind) → In g c ca kd
        → e ≡ Open c j → (q : ℕ) → owns (Some kd) q ≡ true
        → enters d s e (address q j) ≡ true
    opened_enters g j og c ca kd st' ex q own =
        ap (λ y. enters d s y (address q j)) ex
        ∙ and_of (owns (kind_of d c) q) (same_at j j) (ap (λ z. owns z q) (kind_after g j og c ca kd st') ∙ own) (same_self_at j)

    begun_enters : (g : Graph) (j : List ℕ) → IsOpen m.taken d s.opens g j → (c : ℕ) (ca : List Need) (kd : Kind) → In g c ca kd
        → e ≡ Begin c j
        → (u : Opening Decision Verdict) → s.opens (address c j) ≡ Some u → (l : ℕ) → l ≡ u.next → (q : ℕ) → owns (Some kd) q ≡ true
        → enters d s e (address q (j ++ l ∷ [])) ≡ true
    begun_enters g j og c ca kd st' ex u eu l is q own =
        ap (λ y. enters d s y (address q (j ++ l ∷ []))) ex
        ∙ and_of (owns (kind_of d c) q) (same_at (j ++ next_of (s.opens (address c j)) ∷ []) (j ++ l ∷ []))
        (ap (λ z. owns z q) (kind_after g j og c ca kd st') ∙ own)
        (ap (λ z. same_at (j ++ next_of z ∷ []) (j ++ l ∷ [])) eu ∙ ap (λ z. same_at (j ++ u.next ∷ []) (j ++ z ∷ [])) is
        ∙ same_self_at (j ++ u.next ∷ []))

    not_entered : (g : Graph) (j : List ℕ) → Entered g j → (c : ℕ) (ca : List Need) (kd : Kind) → In g c ca kd
        → (v : Opening Decision Verdict) → s'.opens (address c j) ≡ Some v → ⊥
    not_entered g j ent c ca kd st' v h = entered_none c j (ent c (in_own g c ca kd st')) v h

    pub came : (g : Graph) (i : List ℕ) → IsOpen m.taken d s'.opens g i → IsOpen m.taken d s.opens g i ⊎ Entered g i
    came _ _ top = inl top
    came _ i (scope {g = g} {h = h} {n = c} {after = ca} {w = v} og st' ev) =
        ⊎_elim
        (λ og'. ⊎_elim
        (λ z. inl (scope og' st' z.1))
        (λ z. inr (λ q own. opened_enters g i og' c ca (Scope h) st' z.1 q own))
        (was c i v ev))
        (λ ent. absurd (not_entered g i ent c ca (Scope h) st' v ev))
        (came g i og)
    came _ i (chosen {g = g} {b = x} {n = c} {after = ca} {bs = bs} {w = v} og st' ev is) =
        ⊎_elim
        (λ og'. ⊎_elim
        (λ z. inl (chosen og' st' z.1 (ap (λ o. branch_at bs (m.taken o)) z.2 ∙ is)))
        (λ z. inr (λ q own. opened_enters g i og' c ca (Choice bs) st' z.1 q (in_taken bs (m.taken v.decision) x is q own)))
        (was c i v ev))
        (λ ent. absurd (not_entered g i ent c ca (Choice bs) st' v ev))
        (came g i og)
    came _ _ (turn {g = g} {h = h} {i = i} {n = c} {after = ca} {pace = pace} {w = v} j og st' ev lt) =
        ⊎_elim
        (λ og'. ⊎_elim
        (λ z. ⊎_elim
        (λ le. inl (turn j og' st' z.1 (omega (arith, le, lt))))
        (λ y. let nx = y.0 in ⊎_elim
        (λ t. let is = eqb-true j z.0.next t in inr (λ q own. begun_enters g i og' c ca (Foreach pace h) st' y.1 z.0 z.1 j is q own))
        (λ t. let ne = eqb-false j z.0.next t in inl (turn j og' st' z.1 (omega (arith, nx, lt, ne))))
        (two (nat_eq j z.0.next)))
        z.3)
        (λ z. let nx = z.0 in absurd (omega (arith, nx, lt)))
        (was c i v ev))
        (λ ent. absurd (not_entered g i ent c ca (Foreach pace h) st' v ev))
        (came g i og)
    came _ _ (round {g = g} {h = h} {i = i} {n = c} {most = most} {after = ca} {w = v} j og st' ev lt) =
        ⊎_elim
        (λ og'. ⊎_elim
        (λ z. ⊎_elim
        (λ le. inl (round j og' st' z.1 (omega (arith, le, lt))))
        (λ y. let nx = y.0 in ⊎_elim
        (λ t. let is = eqb-true j z.0.next t in inr (λ q own. begun_enters g i og' c ca (Until most h) st' y.1 z.0 z.1 j is q own))
        (λ t. let ne = eqb-false j z.0.next t in inl (round j og' st' z.1 (omega (arith, nx, lt, ne))))
        (two (nat_eq j z.0.next)))
        z.3)
        (λ z. let nx = z.0 in absurd (omega (arith, nx, lt)))
        (was c i v ev))
        (λ ent. absurd (not_entered g i ent c ca (Until most h) st' v ev))
        (came g i og)

    -- THE LAW

    abbrev pub ThereIn : St → Address → Type 0
    ThereIn z x = (after : List Need) × (kind : Kind) × IsThere d m z x.name x.at after kind

    -- an action with an enabled event stands in an open graph
    pub enabled_there : (z : St) → Busy m d so f sol z → (x : Address) (y : Event) (z' : St) → x ≡ place_of y → Step d m z y z' → ThereIn z x
    enabled_there z bz x y z' is sy = subst (λ (a : Address). ThereIn z a) (sym is) (go y sy)
      where
        go : (y : Event) → Step d m z y z' → ThereIn z (place_of y)
        go (Start n i) (after, de, pass, to) = (after, Leaf, de.is_there)
        go (Try n i) (w, q, lt, to) = bz.there' (address n i) (inl (w, q))
        go (End n i) (w, q, all, to) = bz.there' (address n i) (inl (w, q))
        go (Skip n i) (after, kind, de, fails, to) = (after, kind, de.is_there)
        go (Open n i) (after, kind, c, de, pass, to) = (after, kind, de.is_there)
        go (Begin n i) (after, kind, w, th, q, may, to) = (after, kind, th)
        go (Test n i) (after, kind, w, l, th, q, may, to) = (after, kind, th)
        go (Close n i) (after, kind, w, th, q, may, to) = (after, kind, th)

    pub ended_row : (g : Graph) (i : List ℕ) (n : ℕ) (after : List Need) (kind : Kind) → In g n after kind → is_ended g i s.rows ≡ true
        → has_ended (s.rows (address n i)) ≡ true
    ended_row _ i n after kind (here {rest = rest}) h = (and_in (has_ended (s.rows (address n i))) (is_ended rest i s.rows) h).0
    ended_row _ i n after kind (there {m = q} {rest = rest} st') h =
        ended_row rest i n after kind st' (and_in (has_ended (s.rows (address q i))) (is_ended rest i s.rows) h).1

    pub only_there : (x : Address) → may_change d s e x ≡ false → events m s' d [] x ≡ events m s d [] x
    only_there x free = go (events m s d [] x) refl (events m s' d [] x) refl
      where
        parts : (is_own p.name p.at x ≡ false) × ((places e && looks_at d p x) ≡ false) × (enters d s e x ≡ false)
        parts =
            let a = or_false (is_own p.name p.at x) ((places e && looks_at d p x) || enters d s e x) free in
            let c = or_false (places e && looks_at d p x) (enters d s e x) a.1 in (a.0, c.0, c.1)

        own_is_same : (after : List Need) (kind : Kind) → IsThere d m s x.name x.at after kind
            → own_event m s' after kind x.name x.at ≡ own_event m s after kind x.name x.at
        own_is_same after kind th = own_same x.name x.at after kind th parts.0 parts.1

        both : (after : List Need) (kind : Kind) → IsThere d m s x.name x.at after kind → IsThere d m s' x.name x.at after kind
            → events m s' d [] x ≡ events m s d [] x
        both after kind th th' =
            at_there m d so f sol s' x.name x.at after kind th' ∙ own_is_same after kind th
            ∙ sym (at_there m d so f sol s x.name x.at after kind th)

        go : (a : Option Event) → events m s d [] x ≡ a → (c : Option Event) → events m s' d [] x ≡ c
            → events m s' d [] x ≡ events m s d [] x
        go None ea None ec = ec ∙ sym ea
        go None ea (Some y) ec =
            let z = (exact m d so f sol s' k' b').only x y ec in
            let th' = enabled_there s' b' x y z.1.0 z.0 z.1.1 in
            ⊎_elim
            (λ og. both th'.0 th'.1 (record { graph = th'.2.graph; is_open = og; is_in = th'.2.is_in }) th'.2)
            (λ ent. absurd (true≢false (sym (ent x.name (in_own th'.2.graph x.name th'.0 th'.1 th'.2.is_in)) ∙ parts.2)))
            (came th'.2.graph x.at th'.2.is_open)
        go (Some y) ea c ec =
            let z = (exact m d so f sol s k b).only x y ea in
            let th = enabled_there s b x y z.1.0 z.0 z.1.1 in
            ⊎_elim
            (λ og. both th.0 th.1 th.2 (record { graph = th.2.graph; is_open = og; is_in = th.2.is_in }))
            (λ over. absurd (none-some y
            (sym (when (has_ended (s.rows x)) None (of_busy m s th.0 th.1 x.name x.at (s.running x))
            (ended_row th.2.graph x.at x.name th.0 th.1 th.2.is_in over))
            ∙ sym (at_there m d so f sol s x.name x.at th.0 th.1 th.2) ∙ ea)))
            (stays th.2.graph x.at th.2.is_open)

module _ {Row Begun Decision Verdict : Type 0} (d : Graph) (m : Source Row Begun Decision Verdict) (depth : ℕ → ℕ)
    (is : IsInstance d m depth) where
  pub events_change_only_there : EventsChangeOnlyThere d m
  events_change_only_there es s run e s' st x free =
      let f : Table Row = meaning m depth d in
      only_there m d is.local f (sol_of d m depth is) (closed_is m d is.local f (sol_of d m depth is) is.closed)
      (nothing_special d m depth is) s e s'
      (kept_state d m depth is es s run) (busy_state d m depth is es s run) (rooted_state d m depth is es s run) st x free
