-- What has just happened is there, as the meaning has it.
use Rattle.std.proofs.Common.{◌≡◌, ◌∙◌, ℕ, suc, Bool, true, false, cond, List, Option, Some, refl, sym, ap, subst, arith, true≢false}
use Rattle.wf_layers.specs.Address.{Table, address, is_own}
use Rattle.wf_layers.specs.Definition.{Kind, Leaf, Scope, Choice, Foreach, Until, Graph, kind_of}
use Rattle.wf_layers.specs.Facts.{Facts, OpenFact}
use Rattle.wf_layers.specs.Meaning.{meaning, only}
use Rattle.wf_layers.specs.Machine.{IsThere, MayTest, Opening, State, Event, Start, Try, End, Skip, Open, Begin, Test, Close, Run, Step, or_else}
use Rattle.wf_layers.specs.Source.{Source}
use Rattle.wf_layers.proofs.Tables.{own_self}
use Rattle.wf_kept.specs.Reached.{IsReached}
use Rattle.wf_kept.proofs.Informed.{kinds_are_known, open_stands, reached_facts}
use Rattle.wf_kept.proofs.Known.{goes_on}
use Rattle.wf_scheduled.specs.Counts.{HasNotBegun, number_of}
use Rattle.wf_scheduled.specs.Happened.{HasHappened}
use Rattle.wf_scheduled.proofs.NumberLemmas.{numbered}

-- an entry that was placed, and one that was replaced
placed : {A : Type 0} (b : Bool) (v : A) (old : Option A) → b ≡ true → or_else (only b (Some v)) old ≡ Some v
placed true v old own = refl
placed false v old own = absurd (true≢false (sym own))

replaced : {A : Type 0} (b : Bool) (v old : Option A) → b ≡ true → cond b v old ≡ v
replaced true v old own = refl
replaced false v old own = absurd (true≢false (sym own))

module _ {Row Begun Decision Verdict : Type 0} (d : Graph) (depth : ℕ → ℕ) (m : Source Row Begun Decision Verdict) where
  abbrev f : Table Row
  f = meaning m depth d

  -- what an open container decided
  decided_by : (s : State Row Begun Decision Verdict) (n : ℕ) (i : List ℕ) (w : Opening Decision Verdict) (kind : Kind)
      → OpenFact m f s.rows kind n i w → w.decision ≡ m.decide (address n i) f
  decided_by s n i w Leaf fact = absurd fact
  decided_by s n i w (Scope g) fact = fact
  decided_by s n i w (Choice bs) fact = fact.0
  decided_by s n i w (Foreach pace g) fact = fact.0
  decided_by s n i w (Until most g) fact = fact.4

  -- and what the test of its last iteration gave
  tested_by : (s : State Row Begun Decision Verdict) (n : ℕ) (i : List ℕ) (w : Opening Decision Verdict) (most : ℕ) (g : Graph)
      (v : Verdict) (j : ℕ) → OpenFact m f s.rows (Until most g) n i w → w.test ≡ Some v → w.next ≡ suc j
      → m.test (address n i) j f ≡ v
  tested_by s n i w most g v j fact is next =
      let found = fact.2 v is in
      let same : found.0 ≡ j = let a = found.1 in omega (arith, a, next) in
      subst (λ k. m.test (address n i) k f ≡ v) same found.2

  -- an open Until behind a test
  abbrev with_test : Opening Decision Verdict → Verdict → Opening Decision Verdict
  with_test w v = record { decision = w.decision; next = w.next; test = Some v }

  module _ (first before s : State Row Begun Decision Verdict) (es : List Event) (reached : IsReached d depth m before)
      (new : HasNotBegun first) (run : Run d m first es before) where
    module _ (e : Event) (st : Step d m before e s) where
      there : IsReached d depth m s
      there = goes_on d depth m before reached e s st

      facts : Facts d m f s
      facts = reached_facts d depth m s there

      row_there : (n : ℕ) (i : List ℕ) (r : Row) → s.rows (address n i) ≡ Some r
          → (q : Row) × (s.rows (address n i) ≡ Some q) × (f (address n i) ≡ Some q)
      row_there n i r is = (r, is, facts.rows (address n i) r is)

      open_fact : (n : ℕ) (i : List ℕ) (w : Opening Decision Verdict) → s.opens (address n i) ≡ Some w
          → (kind : Kind) × (kind_of d n ≡ Some kind) × OpenFact m f s.rows kind n i w
      open_fact n i w is =
          let stands = (open_stands d depth m s there (address n i) w is).0 in
          let known = (kinds_are_known d depth m s there n i stands.0 stands.1 stands.3).0 in
          (stands.1, known, facts.opens n i w stands.1 is known)

    pub happened : (e : Event) → Step d m before e s → HasHappened m f s e (number_of es e)
    happened (Start n i) (after, de, pass, to) =
        let st : Step d m before (Start n i) s = (after, de, pass, to) in
        let is = ap (λ (t : State Row Begun Decision Verdict). t.running (address n i)) to
        ∙ placed (is_own n i (address n i)) _ (before.running (address n i)) (own_self n i) in
        (_, is, ((facts (Start n i) st).running (address n i) _ is).0)
    happened (Try n i) (w, e, lt, to) =
        let st : Step d m before (Try n i) s = (w, e, lt, to) in
        let is = ap (λ (t : State Row Begun Decision Verdict). t.running (address n i)) to
        ∙ placed (is_own n i (address n i)) _ (before.running (address n i)) (own_self n i) in
        let fact = (facts (Try n i) st).running (address n i) _ is in
        (_, is, fact.0, ap suc ((numbered d m first before es new run).tries n i w e), fact.2)
    happened (End n i) (w, e, all, to) =
        let st : Step d m before (End n i) s = (w, e, all, to) in
        row_there (End n i) st n i _
        (ap (λ (t : State Row Begun Decision Verdict). t.rows (address n i)) to
        ∙ placed (is_own n i (address n i)) _ (before.rows (address n i)) (own_self n i))
    happened (Skip n i) st = tt
    happened (Open n i) (after, kind, c, de, pass, to) =
        let st : Step d m before (Open n i) s = (after, kind, c, de, pass, to) in
        let is = ap (λ (t : State Row Begun Decision Verdict). t.opens (address n i)) to
        ∙ replaced (is_own n i (address n i)) _ (before.opens (address n i)) (own_self n i) in
        let fact = open_fact (Open n i) st n i _ is in
        (_, is, decided_by s n i _ fact.0 fact.2)
    happened (Begin n i) (after, kind, w, th, e, may, to) =
        let is = ap (λ (t : State Row Begun Decision Verdict). t.opens (address n i)) to
        ∙ replaced (is_own n i (address n i)) _ (before.opens (address n i)) (own_self n i) in
        (_, is, ap suc ((numbered d m first before es new run).begun n i w e))
    happened (Test n i) (after, kind, w, j, th, e, may, to) = by kind th may
      where
        is : s.opens (address n i) ≡ Some (with_test w (m.test (address n i) j before.rows))
        is =
            ap (λ (t : State Row Begun Decision Verdict). t.opens (address n i)) to
            ∙ replaced (is_own n i (address n i)) (Some (with_test w (m.test (address n i) j before.rows))) (before.opens (address n i))
            (own_self n i)

        st : Step d m before (Test n i) s
        st = (after, kind, w, j, th, e, may, to)

        by : (kd : Kind) → IsThere d m before n i after kd → MayTest m kd i w before.rows j
            → HasHappened m f s (Test n i) (number_of es (Test n i))
        by Leaf there' may' = absurd may'
        by (Scope g) there' may' = absurd may'
        by (Choice bs) there' may' = absurd may'
        by (Foreach pace g) there' may' = absurd may'
        by (Until most g) there' may' =
            let count = (numbered d m first before es new run).begun n i w e in
            let last = may'.0 in
            let index : j ≡ number_of es (Test n i) = omega (arith, count, last) in
            let fact = open_fact (Test n i) st n i (with_test w (m.test (address n i) j before.rows)) is in
            let known = (kinds_are_known d depth m before reached n i after (Until most g) there').0 in
            let same : Some fact.0 ≡ Some (Until most g) = sym fact.1 ∙ known in
            let kind_is : fact.0 ≡ Until most g = cc in
            let gives = tested_by s n i (with_test w (m.test (address n i) j before.rows)) most g (m.test (address n i) j before.rows) j
            (subst (λ k. OpenFact m f s.rows k n i (with_test w (m.test (address n i) j before.rows))) kind_is fact.2) refl last in (
              with_test w (m.test (address n i) j before.rows),
              is,
              last ∙ ap suc index,
              ap (λ v. Some v) (sym gives) ∙ ap (λ k. Some (m.test (address n i) k f)) index,
            )
    happened (Close n i) (after, kind, w, th, e, may, to) =
        let st : Step d m before (Close n i) s = (after, kind, w, th, e, may, to) in
        row_there (Close n i) st n i _
        (ap (λ (t : State Row Begun Decision Verdict). t.rows (address n i)) to
        ∙ placed (is_own n i (address n i)) _ (before.rows (address n i)) (own_self n i))
