-- At most one event is enabled at an address.
use Rattle.std.proofs.Common.{◌≡◌, ℕ, ◌<◌, Bool, true, false, List, Option, Some, None, ⊎_elim, refl, sym, ap, ap₂, ◌∙◌, subst, arith, true≢false}
use Rattle.std.proofs.lemmas.Option.{none-some}
use Rattle.wf_layers.specs.Definition.{Need, InTurn, AtMost, Kind, Leaf, Scope, Choice, Foreach, Until, Graph, needs_of, kind_of}
use Rattle.wf_layers.specs.Address.{Address, address, Table, SeenIn}
use Rattle.wf_layers.specs.Source.{Source, gate, Sound}
use Rattle.wf_layers.specs.Meaning.{meaning}
use Rattle.wf_layers.specs.Rule.{Obeys}
use Rattle.wf_layers.specs.Machine.{Running, Opening, State, Event, Start, Try, End, Skip, Open, Begin, Test, Close, IsContainer, MayBegin, MayTest, MayClose, IsThere, IsDecided, Step}
use Rattle.wf_layers.specs.Machine.{place_of}
use Rattle.wf_layers.specs.Laws.{IsInstance, OneEventAtAnAddress}
use Rattle.wf_layers.proofs.Open.{kind_there}
use Rattle.wf_layers.proofs.Keeps.{Keeps}
use Rattle.wf_layers.proofs.Progress.{sol as sol_of, kept_state}

-- WHAT SORT OF EVENT MAY COME AT AN ADDRESS

module _ {Row Begun Decision Verdict : Type 0} (m : Source Row Begun Decision Verdict) (d : Graph) (so : Sound m (SeenIn d) d 0)
    (f : Table Row) (sol : Obeys m d f) (s : State Row Begun Decision Verdict) (k : Keeps m d so f sol s) where
  -- 0: it is decided; 1: it is running; 2: it is open
  abbrev class : Event → ℕ
  class (Start n i) = 0
  class (Skip n i) = 0
  class (Open n i) = 0
  class (Try n i) = 1
  class (End n i) = 1
  class (Begin n i) = 2
  class (Test n i) = 2
  class (Close n i) = 2

  abbrev class_at : Option (Running Begun) → Option (Opening Decision Verdict) → ℕ
  class_at (Some w) o = 1
  class_at None (Some w) = 2
  class_at None None = 0

  decided_class : (n : ℕ) (i : List ℕ) (after : List Need) (kind : Kind) → IsDecided d m s n i after kind
      → 0 ≡ class_at (s.running (address n i)) (s.opens (address n i))
  decided_class n i after kind de = ap₂ (λ x y. class_at x y) (sym de.not_running) (sym de.not_open)

  running_class : (n : ℕ) (i : List ℕ) (w : Running Begun) → s.running (address n i) ≡ Some w
      → 1 ≡ class_at (s.running (address n i)) (s.opens (address n i))
  running_class n i w e = ap (λ x. class_at x (s.opens (address n i))) (sym e)

  -- an open container isn't a running leaf
  open_class : (n : ℕ) (i : List ℕ) (w : Opening Decision Verdict) → s.opens (address n i) ≡ Some w
      → 2 ≡ class_at (s.running (address n i)) (s.opens (address n i))
  open_class n i w e = go (s.running (address n i)) refl
    where
      go : (z : Option (Running Begun)) → s.running (address n i) ≡ z → 2 ≡ class_at (s.running (address n i)) (s.opens (address n i))
      go None h = ap₂ (λ x y. class_at x y) (sym h) (sym e)
      go (Some v) h = absurd (k.facts n i w Leaf e (k.held (address n i) v h).is_leaf).1

  in_class : (e : Event) (s' : State Row Begun Decision Verdict) → Step d m s e s'
      → class e ≡ class_at (s.running (place_of e)) (s.opens (place_of e))
  in_class (Start n i) s' st = decided_class n i st.0 Leaf st.1
  in_class (Skip n i) s' st = decided_class n i st.0 st.1 st.2
  in_class (Open n i) s' st = decided_class n i st.0 st.1 st.3
  in_class (Try n i) s' st = running_class n i st.0 st.1
  in_class (End n i) s' st = running_class n i st.0 st.1
  in_class (Begin n i) s' st = open_class n i st.2 st.4
  in_class (Test n i) s' st = open_class n i st.2 st.5
  in_class (Close n i) s' st = open_class n i st.2 st.4

  -- TWO OF ONE SORT

  abbrev gate_at : Address → Bool
  gate_at x = gate m (needs_of d x.name) x.name x.at s.rows

  gate_is : (n : ℕ) (i : List ℕ) (after : List Need) (kind : Kind) (b : Bool) → IsThere d m s n i after kind → gate m after n i s.rows ≡ b
      → gate_at (address n i) ≡ b
  gate_is n i after kind b th e =
      ap (λ a. gate m a n i s.rows) (kind_there m d so f sol s.opens th.graph i n after kind th.is_open th.is_in).1 ∙ e

  kind_is : (n : ℕ) (i : List ℕ) (after : List Need) (kind : Kind) → IsThere d m s n i after kind → kind_of d n ≡ Some kind
  kind_is n i after kind th = (kind_there m d so f sol s.opens th.graph i n after kind th.is_open th.is_in).0

  no_gate : (x y : Address) → x ≡ y → gate_at x ≡ true → gate_at y ≡ false → ⊥
  no_gate x y p e h = true≢false (sym e ∙ ap gate_at p ∙ h)

  not_container : (x y : Address) (kind : Kind) → x ≡ y → kind_of d x.name ≡ Some Leaf → kind_of d y.name ≡ Some kind → IsContainer kind → ⊥
  not_container x y kind p e h c =
      let v : Some Leaf ≡ Some kind = sym e ∙ ap (λ (z : Address). kind_of d z.name) p ∙ h in let is : Leaf ≡ kind = cc in
      subst IsContainer (sym is) c

  no_tries : (x y : Address) (w v : Running Begun) → x ≡ y → s.running x ≡ Some w → s.running y ≡ Some v → w.tries < m.tries x w.begun
      → v.tries ≡ m.tries y v.begun → ⊥
  no_tries x y w v p e h lt all =
      let q : Some w ≡ Some v = sym e ∙ ap s.running p ∙ h in let is : w ≡ v = cc in
      let z = ap (λ (r : Running Begun). r.tries) is in let z' = ap₂ (λ a (r : Running Begun). m.tries a r.begun) p is in
      omega (arith, lt, all, z, z')

  begin_test : (kind : Kind) (i : List ℕ) (w : Opening Decision Verdict) (j : ℕ) → MayBegin m kind i w s.rows → MayTest m kind i w s.rows j
      → ⊥
  begin_test Leaf i w j b t = b
  begin_test (Scope g) i w j b t = b
  begin_test (Choice bs) i w j b t = b
  begin_test (Foreach pace g) i w j b t = t
  begin_test (Until most g) i w j b t = ⊎_elim (λ z. let y = t.0 in omega (arith, z, y)) (λ z. none-some z.0 (sym t.1 ∙ z.1)) b.1

  begin_close : (n : ℕ) (kind : Kind) (i : List ℕ) (w : Opening Decision Verdict) → s.opens (address n i) ≡ Some w → kind_of d n ≡ Some kind
      → MayBegin m kind i w s.rows → MayClose m kind i w s.rows → ⊥
  begin_close n Leaf i w e h b c = b
  begin_close n (Scope g) i w e h b c = b
  begin_close n (Choice bs) i w e h b c = b
  begin_close n (Foreach InTurn g) i w e h b c = let x = b.0 in let y = c.0 in omega (arith, x, y)
  begin_close n (Foreach (AtMost most) g) i w e h b c = let x = b.0 in let y = c.0 in omega (arith, x, y)
  begin_close n (Until most g) i w e h b c =
      ⊎_elim
      (λ z. let y = ((k.facts n i w (Until most g) e h).1.2 c.0 c.1).1 in omega (arith, z, y))
      (λ z.
      let q : Some z.0 ≡ Some c.0 = sym z.1 ∙ c.1 in let is : z.0 ≡ c.0 = cc in
      ⊎_elim (λ t. true≢false (sym t ∙ ap m.ends (sym is) ∙ z.2)) (λ t. let x = b.0 in omega (arith, x, t)) c.2)
      b.1

  test_close : (kind : Kind) (i : List ℕ) (w : Opening Decision Verdict) (j : ℕ) → MayTest m kind i w s.rows j → MayClose m kind i w s.rows
      → ⊥
  test_close Leaf i w j t c = t
  test_close (Scope g) i w j t c = t
  test_close (Choice bs) i w j t c = t
  test_close (Foreach pace g) i w j t c = t
  test_close (Until most g) i w j t c = none-some c.0 (sym t.1 ∙ c.1)

  -- what is open at two equal addresses is one container
  record One (n n' : ℕ) (i i' : List ℕ) (kind kind' : Kind) (w w' : Opening Decision Verdict) : Type 0 where
    same_name : n ≡ n'
    same_at' : i ≡ i'
    same_kind : kind ≡ kind'
    same_opening : w ≡ w'

  one_container : (n n' : ℕ) (i i' : List ℕ) (after after' : List Need) (kind kind' : Kind) (w w' : Opening Decision Verdict)
      → address n i ≡ address n' i' → IsThere d m s n i after kind → IsThere d m s n' i' after' kind' → s.opens (address n i) ≡ Some w
      → s.opens (address n' i') ≡ Some w' → One n n' i i' kind kind' w w'
  one_container n n' i i' after after' kind kind' w w' p th th' e e' = record {
    same_name = ap (λ (x : Address). x.name) p;
    same_at' = ap (λ (x : Address). x.at) p;
    same_kind =
        let v : Some kind ≡ Some kind' = sym (kind_is n i after kind th) ∙ ap (λ (x : Address). kind_of d x.name) p
        ∙ kind_is n' i' after' kind' th' in cc;
    same_opening = let v : Some w ≡ Some w' = sym e ∙ ap s.opens p ∙ e' in cc;
  }

  pub one_event : (e e' : Event) (s1 s2 : State Row Begun Decision Verdict) → Step d m s e s1 → Step d m s e' s2 → place_of e ≡ place_of e'
      → e ≡ e'
  one_event e e' s1 s2 st st' p =
      go e e' st st' p (in_class e s1 st ∙ ap (λ (x : Address). class_at (s.running x) (s.opens x)) p ∙ sym (in_class e' s2 st'))
    where
      go : (e e' : Event) → Step d m s e s1 → Step d m s e' s2 → place_of e ≡ place_of e' → class e ≡ class e' → e ≡ e'
      go (Start n i) (Start q j) a b p c = ap₂ (λ u v. Start u v) (ap (λ (z : Address). z.name) p) (ap (λ (z : Address). z.at) p)
      go (Start n i) (Skip q j) a b p c =
          absurd (no_gate (address n i) (address q j) p (gate_is n i a.0 Leaf true a.1.is_there a.2)
          (gate_is q j b.0 b.1 false b.2.is_there b.3))
      go (Start n i) (Open q j) a b p c =
          absurd (not_container (address n i) (address q j) b.1 p (kind_is n i a.0 Leaf a.1.is_there)
          (kind_is q j b.0 b.1 b.3.is_there) b.2)
      go (Start n i) (Try q j) a b p c = absurd (omega (arith, c))
      go (Start n i) (End q j) a b p c = absurd (omega (arith, c))
      go (Start n i) (Begin q j) a b p c = absurd (omega (arith, c))
      go (Start n i) (Test q j) a b p c = absurd (omega (arith, c))
      go (Start n i) (Close q j) a b p c = absurd (omega (arith, c))
      go (Skip n i) (Start q j) a b p c =
          absurd (no_gate (address q j) (address n i) (sym p) (gate_is q j b.0 Leaf true b.1.is_there b.2)
          (gate_is n i a.0 a.1 false a.2.is_there a.3))
      go (Skip n i) (Skip q j) a b p c = ap₂ (λ u v. Skip u v) (ap (λ (z : Address). z.name) p) (ap (λ (z : Address). z.at) p)
      go (Skip n i) (Open q j) a b p c =
          absurd (no_gate (address q j) (address n i) (sym p) (gate_is q j b.0 b.1 true b.3.is_there b.4)
          (gate_is n i a.0 a.1 false a.2.is_there a.3))
      go (Skip n i) (Try q j) a b p c = absurd (omega (arith, c))
      go (Skip n i) (End q j) a b p c = absurd (omega (arith, c))
      go (Skip n i) (Begin q j) a b p c = absurd (omega (arith, c))
      go (Skip n i) (Test q j) a b p c = absurd (omega (arith, c))
      go (Skip n i) (Close q j) a b p c = absurd (omega (arith, c))
      go (Open n i) (Start q j) a b p c =
          absurd (not_container (address q j) (address n i) a.1 (sym p) (kind_is q j b.0 Leaf b.1.is_there)
          (kind_is n i a.0 a.1 a.3.is_there) a.2)
      go (Open n i) (Skip q j) a b p c =
          absurd (no_gate (address n i) (address q j) p (gate_is n i a.0 a.1 true a.3.is_there a.4)
          (gate_is q j b.0 b.1 false b.2.is_there b.3))
      go (Open n i) (Open q j) a b p c = ap₂ (λ u v. Open u v) (ap (λ (z : Address). z.name) p) (ap (λ (z : Address). z.at) p)
      go (Open n i) (Try q j) a b p c = absurd (omega (arith, c))
      go (Open n i) (End q j) a b p c = absurd (omega (arith, c))
      go (Open n i) (Begin q j) a b p c = absurd (omega (arith, c))
      go (Open n i) (Test q j) a b p c = absurd (omega (arith, c))
      go (Open n i) (Close q j) a b p c = absurd (omega (arith, c))
      go (Try n i) (Start q j) a b p c = absurd (omega (arith, c))
      go (Try n i) (Skip q j) a b p c = absurd (omega (arith, c))
      go (Try n i) (Open q j) a b p c = absurd (omega (arith, c))
      go (Try n i) (Try q j) a b p c = ap₂ (λ u v. Try u v) (ap (λ (z : Address). z.name) p) (ap (λ (z : Address). z.at) p)
      go (Try n i) (End q j) a b p c = absurd (no_tries (address n i) (address q j) a.0 b.0 p a.1 b.1 a.2 b.2)
      go (Try n i) (Begin q j) a b p c = absurd (omega (arith, c))
      go (Try n i) (Test q j) a b p c = absurd (omega (arith, c))
      go (Try n i) (Close q j) a b p c = absurd (omega (arith, c))
      go (End n i) (Start q j) a b p c = absurd (omega (arith, c))
      go (End n i) (Skip q j) a b p c = absurd (omega (arith, c))
      go (End n i) (Open q j) a b p c = absurd (omega (arith, c))
      go (End n i) (Try q j) a b p c = absurd (no_tries (address q j) (address n i) b.0 a.0 (sym p) b.1 a.1 b.2 a.2)
      go (End n i) (End q j) a b p c = ap₂ (λ u v. End u v) (ap (λ (z : Address). z.name) p) (ap (λ (z : Address). z.at) p)
      go (End n i) (Begin q j) a b p c = absurd (omega (arith, c))
      go (End n i) (Test q j) a b p c = absurd (omega (arith, c))
      go (End n i) (Close q j) a b p c = absurd (omega (arith, c))
      go (Begin n i) (Start q j) a b p c = absurd (omega (arith, c))
      go (Begin n i) (Skip q j) a b p c = absurd (omega (arith, c))
      go (Begin n i) (Open q j) a b p c = absurd (omega (arith, c))
      go (Begin n i) (Try q j) a b p c = absurd (omega (arith, c))
      go (Begin n i) (End q j) a b p c = absurd (omega (arith, c))
      go (Begin n i) (Begin q j) a b p c = ap₂ (λ u v. Begin u v) (ap (λ (z : Address). z.name) p) (ap (λ (z : Address). z.at) p)
      go (Begin n i) (Test q j) a b p c =
          absurd (let o = one_container n q i j a.0 b.0 a.1 b.1 a.2 b.2 p a.3 b.4 a.4 b.5 in
          begin_test a.1 i a.2 b.3 a.5
          (subst (λ z. MayTest m z i a.2 s.rows b.3) (sym o.same_kind)
          (subst (λ z. MayTest m b.1 z a.2 s.rows b.3) (sym o.same_at')
          (subst (λ z. MayTest m b.1 j z s.rows b.3) (sym o.same_opening) b.6))))
      go (Begin n i) (Close q j) a b p c =
          absurd (let o = one_container n q i j a.0 b.0 a.1 b.1 a.2 b.2 p a.3 b.3 a.4 b.4 in
          begin_close n a.1 i a.2 a.4 (kind_is n i a.0 a.1 a.3) a.5
          (subst (λ z. MayClose m z i a.2 s.rows) (sym o.same_kind)
          (subst (λ z. MayClose m b.1 z a.2 s.rows) (sym o.same_at') (subst (λ z. MayClose m b.1 j z s.rows) (sym o.same_opening) b.5))))
      go (Test n i) (Start q j) a b p c = absurd (omega (arith, c))
      go (Test n i) (Skip q j) a b p c = absurd (omega (arith, c))
      go (Test n i) (Open q j) a b p c = absurd (omega (arith, c))
      go (Test n i) (Try q j) a b p c = absurd (omega (arith, c))
      go (Test n i) (End q j) a b p c = absurd (omega (arith, c))
      go (Test n i) (Begin q j) a b p c =
          absurd (let o = one_container n q i j a.0 b.0 a.1 b.1 a.2 b.2 p a.4 b.3 a.5 b.4 in
          begin_test a.1 i a.2 a.3
          (subst (λ z. MayBegin m z i a.2 s.rows) (sym o.same_kind)
          (subst (λ z. MayBegin m b.1 z a.2 s.rows) (sym o.same_at')
          (subst (λ z. MayBegin m b.1 j z s.rows) (sym o.same_opening) b.5))) a.6)
      go (Test n i) (Test q j) a b p c = ap₂ (λ u v. Test u v) (ap (λ (z : Address). z.name) p) (ap (λ (z : Address). z.at) p)
      go (Test n i) (Close q j) a b p c =
          absurd (let o = one_container n q i j a.0 b.0 a.1 b.1 a.2 b.2 p a.4 b.3 a.5 b.4 in
          test_close a.1 i a.2 a.3 a.6
          (subst (λ z. MayClose m z i a.2 s.rows) (sym o.same_kind)
          (subst (λ z. MayClose m b.1 z a.2 s.rows) (sym o.same_at') (subst (λ z. MayClose m b.1 j z s.rows) (sym o.same_opening) b.5))))
      go (Close n i) (Start q j) a b p c = absurd (omega (arith, c))
      go (Close n i) (Skip q j) a b p c = absurd (omega (arith, c))
      go (Close n i) (Open q j) a b p c = absurd (omega (arith, c))
      go (Close n i) (Try q j) a b p c = absurd (omega (arith, c))
      go (Close n i) (End q j) a b p c = absurd (omega (arith, c))
      go (Close n i) (Begin q j) a b p c =
          absurd (let o = one_container n q i j a.0 b.0 a.1 b.1 a.2 b.2 p a.3 b.3 a.4 b.4 in
          begin_close n a.1 i a.2 a.4 (kind_is n i a.0 a.1 a.3)
          (subst (λ z. MayBegin m z i a.2 s.rows) (sym o.same_kind)
          (subst (λ z. MayBegin m b.1 z a.2 s.rows) (sym o.same_at')
          (subst (λ z. MayBegin m b.1 j z s.rows) (sym o.same_opening) b.5))) a.5)
      go (Close n i) (Test q j) a b p c =
          absurd (let o = one_container n q i j a.0 b.0 a.1 b.1 a.2 b.2 p a.3 b.4 a.4 b.5 in
          test_close a.1 i a.2 b.3
          (subst (λ z. MayTest m z i a.2 s.rows b.3) (sym o.same_kind)
          (subst (λ z. MayTest m b.1 z a.2 s.rows b.3) (sym o.same_at')
          (subst (λ z. MayTest m b.1 j z s.rows b.3) (sym o.same_opening) b.6))) a.5)
      go (Close n i) (Close q j) a b p c = ap₂ (λ u v. Close u v) (ap (λ (z : Address). z.name) p) (ap (λ (z : Address). z.at) p)

module _ {Row Begun Decision Verdict : Type 0} (d : Graph) (m : Source Row Begun Decision Verdict) (depth : ℕ → ℕ)
    (is : IsInstance d m depth) where
  pub one_event_at_an_address : OneEventAtAnAddress d m depth
  one_event_at_an_address es s r e e' s1 s2 st st' p =
      one_event m d is.local (meaning m depth d) (sol_of d m depth is) s (kept_state d m depth is es s r) e e' s1 s2 st st' p
