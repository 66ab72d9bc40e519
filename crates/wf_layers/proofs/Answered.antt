-- A run whose answers come one by one is a run with all answers; and old tables that agree on the definition give the same rows.
use Rattle.std.proofs.Common.{◌≡◌, ℕ, zero, suc, Bool, ◌&&◌, ◌||◌, not, cond, List, [], ◌∷◌, ◌++◌, Option, Some, None, refl, sym, ap, ◌∙◌, eqb-true, eq-eqb, ltb-true}
use Rattle.std.proofs.lemmas.Bool.{lt-ltb}
use Rattle.wf_layers.specs.Definition.{Need, InTurn, AtMost, Kind, Leaf, Scope, Choice, Foreach, Until, Branches, no_branch, branch, Graph, done, add, is_one, less_one, IsDepth}
use Rattle.wf_layers.specs.Address.{Address, Table, address, starts, is_own, is_in, is_within, is_among, SeenIn}
use Rattle.wf_layers.specs.Source.{Source, Sound, all_met, is_met, gate}
use Rattle.wf_layers.specs.Meaning.{sides, rounds, skip, meaning}
use Rattle.wf_layers.specs.Rule.{look_in, look_any, look}
use Rattle.wf_layers.specs.Machine.{Opening, State, Event, Start, Try, End, Skip, Open, Begin, Test, Close, place, one, without, opened, skip_others, passed_over, MayBegin, MayTest, MayClose, closing, IsThere, IsDecided, Step, Run}
use Rattle.wf_layers.specs.Answered.{with_leaves, AgreeSoFar, IsKnown, RunSoFar, RunsSoFarAreRuns}
use Rattle.wf_layers.specs.Resubmission.{pin, OldTablesAgree}
use Rattle.wf_layers.proofs.Basics.{cond_same, only_same}
use Rattle.wf_layers.proofs.Meaning.{meaning_solves}
use Rattle.wf_layers.proofs.Unique.{all_unique}
use Rattle.wf_layers.proofs.Resubmission.{pin_sound}

module _ {Row Begun Decision Verdict : Type 0} (d : Graph) (m : Source Row Begun Decision Verdict) (tries : Address → Begun → ℕ)
    (finish : Address → Begun → Table Row → Row)
    (knows : Address → Begun → ℕ → Bool) (agree : AgreeSoFar m tries finish knows) where
  abbrev few : Source Row Begun Decision Verdict
  few = with_leaves m tries finish

  abbrev St : Type 0
  St = State Row Begun Decision Verdict

  met_same : (after : List Need) (i : List ℕ) (t : Table Row) → all_met few after i t ≡ all_met m after i t
  met_same [] i t = refl
  met_same (n ∷ ns) i t =
      ap (λ b. b && all_met few ns i t) (one (t (address n.name i))) ∙ ap (λ b. is_met m n.listed (t (address n.name i)) && b)
      (met_same ns i t)
    where
      one : (o : Option Row) → is_met few n.listed o ≡ is_met m n.listed o
      one None = refl
      one (Some r) = refl

  gate_same : (after : List Need) (n : ℕ) (i : List ℕ) (t : Table Row) → gate few after n i t ≡ gate m after n i t
  gate_same after n i t = ap (λ b. b && not (m.halts (address n i) t)) (met_same after i t)

  others_same : (bs : Branches) (c : ℕ) (i : List ℕ) (y : Address) → skip_others few bs c i y ≡ skip_others m bs c i y
  others_same no_branch c i y = refl
  others_same (branch b rest) c i y =
      cond_same (is_within b i y) _ _ (skip_others few rest (less_one c) i y) (skip_others m rest (less_one c) i y) (λ t. refl)
      (λ u. others_same rest (less_one c) i y)

  passed_same : (kind : Kind) (c : ℕ) (i : List ℕ) (y : Address) → passed_over few kind c i y ≡ passed_over m kind c i y
  passed_same Leaf c i y = refl
  passed_same (Scope g) c i y = refl
  passed_same (Choice bs) c i y = others_same bs c i y
  passed_same (Foreach pace g) c i y = refl
  passed_same (Until most g) c i y = refl

  begin_same : (kind : Kind) (i : List ℕ) (w : Opening Decision Verdict) (t : Table Row) → MayBegin few kind i w t → MayBegin m kind i w t
  begin_same Leaf i w t may = may
  begin_same (Scope g) i w t may = may
  begin_same (Choice bs) i w t may = may
  begin_same (Foreach InTurn g) i w t may = may
  begin_same (Foreach (AtMost most) g) i w t may = may
  begin_same (Until most g) i w t may = may

  test_same : (kind : Kind) (i : List ℕ) (w : Opening Decision Verdict) (t : Table Row) (j : ℕ) → MayTest few kind i w t j
      → MayTest m kind i w t j
  test_same Leaf i w t j may = may
  test_same (Scope g) i w t j may = may
  test_same (Choice bs) i w t j may = may
  test_same (Foreach pace g) i w t j may = may
  test_same (Until most g) i w t j may = may

  close_same : (kind : Kind) (i : List ℕ) (w : Opening Decision Verdict) (t : Table Row) → MayClose few kind i w t → MayClose m kind i w t
  close_same Leaf i w t may = may
  close_same (Scope g) i w t may = may
  close_same (Choice bs) i w t may = may
  close_same (Foreach pace g) i w t may = may
  close_same (Until most g) i w t may = may

  closing_same : (kind : Kind) (x : Address) (w : Opening Decision Verdict) (t : Table Row) → closing few kind x w t ≡ closing m kind x w t
  closing_same Leaf x w t = refl
  closing_same (Scope g) x w t = refl
  closing_same (Choice bs) x w t = refl
  closing_same (Foreach pace g) x w t = refl
  closing_same (Until most g) x w t = refl

  there_same : (s : St) (n : ℕ) (i : List ℕ) (after : List Need) (kind : Kind) → IsThere d few s n i after kind
      → IsThere d m s n i after kind
  there_same s n i after kind th = record { graph = th.graph; is_open = th.is_open; is_in = th.is_in }

  decided_same : (s : St) (n : ℕ) (i : List ℕ) (after : List Need) (kind : Kind) → IsDecided d few s n i after kind
      → IsDecided d m s n i after kind
  decided_same s n i after kind de =
      record {
        is_there = there_same s n i after kind de.is_there;
        no_row = de.no_row;
        not_running = de.not_running;
        not_open =
            de.not_open;
        ended = de.ended;
      }

  step_same : (s : St) (e : Event) (s' : St) → IsKnown knows s e → Step d few s e s' → Step d m s e s'
  step_same s (Start n i) s' known (after, de, pass, to) =
      (after, decided_same s n i after Leaf de, sym (gate_same after n i s.rows) ∙ pass, to)
  step_same s (Try n i) s' known (w, e, lt, to) = (
    w,
    e,
    ltb-true w.tries (m.tries (address n i) w.begun) (sym (agree.more (address n i) w.begun w.tries (known w e))
        ∙ lt-ltb w.tries (tries (address n i) w.begun) lt),
    to,
  )
  step_same s (End n i) s' known (w, e, all, to) = (
    w,
    e,
    eqb-true w.tries (m.tries (address n i) w.begun) (sym (agree.last (address n i) w.begun w.tries (known w e))
        ∙ eq-eqb w.tries (tries (address n i) w.begun) all),
    to ∙ ap (λ (r : Row). record { rows = place (one n i r) s.rows; running = without n i s.running; opens = s.opens })
        (agree.row (address n i) w.begun w.tries s.rows (known w e)),
  )
  step_same s (Skip n i) s' known (after, kind, de, fails, to) =
      (after, kind, decided_same s n i after kind de, sym (gate_same after n i s.rows) ∙ fails, to)
  step_same s (Open n i) s' known (after, kind, c, de, pass, to) = (
    after,
    kind,
    c,
    decided_same s n i after kind de,
    sym (gate_same after n i s.rows) ∙ pass,
    to ∙ ap (λ (t : Table Row). record {
      rows = place t s.rows;
      running = s.running;
      opens =
          opened n i (Some (record { decision = m.decide (address n i) s.rows; next = 0; test = None })) s.opens;
    })
        (λ k y. passed_same kind (m.taken (m.decide (address n i) s.rows)) i y k),
  )
  step_same s (Begin n i) s' known (after, kind, w, th, e, may, to) =
      (after, kind, w, there_same s n i after kind th, e, begin_same kind i w s.rows may, to)
  step_same s (Test n i) s' known (after, kind, w, j, th, e, may, to) =
      (after, kind, w, j, there_same s n i after kind th, e, test_same kind i w s.rows j may, to)
  step_same s (Close n i) s' known (after, kind, w, th, e, may, to) = (
    after,
    kind,
    w,
    there_same s n i after kind th,
    e,
    close_same kind i w s.rows may,
    to ∙ ap (λ (r : Row). record { rows = place (one n i r) s.rows; running = s.running; opens = opened n i None s.opens })
        (closing_same kind (address n i) w s.rows),
  )

  run_same : (s s' : St) (es : List Event) → RunSoFar knows d few s es s' → Run d m s es s'
  run_same s s' [] run = run
  run_same s s' (e ∷ es) run = (run.0, step_same s e run.0 run.1 run.2, run_same run.0 s' es run.3)

module _ {Row Begun Decision Verdict : Type 0} (d : Graph) (m : Source Row Begun Decision Verdict) where
  pub runs_so_far_are_runs : RunsSoFarAreRuns d m
  runs_so_far_are_runs tries finish knows agree s s' es run = run_same d m tries finish knows agree s s' es run

-- OLD TABLES THAT AGREE

module _ {Row Begun Decision Verdict : Type 0} (a b : Source Row Begun Decision Verdict) (redo again : ℕ → Bool)
    (recall : Address → Decision) (t u f : Table Row) (x : Address) (same : t x ≡ u x) where
  abbrev pt : Source Row Begun Decision Verdict
  pt = pin a b redo again t recall

  abbrev pu : Source Row Begun Decision Verdict
  pu = pin a b redo again u recall

  pinned_met : (after : List Need) (i : List ℕ) → all_met pt after i f ≡ all_met pu after i f
  pinned_met [] i = refl
  pinned_met (n ∷ ns) i =
      ap (λ c. c && all_met pt ns i f) (one' (f (address n.name i))) ∙ ap (λ c. is_met pu n.listed (f (address n.name i)) && c)
      (pinned_met ns i)
    where
      one' : (o : Option Row) → is_met pt n.listed o ≡ is_met pu n.listed o
      one' None = refl
      one' (Some r) = refl

  pinned_gate : (after : List Need) (n : ℕ) (i : List ℕ) → gate pt after n i f ≡ gate pu after n i f
  pinned_gate after n i = ap (λ c. c && not (b.halts (address n i) f)) (pinned_met after i)

  sides_same : (c : ℕ) (i : List ℕ) (h k : ℕ → Table Row → Table Row) → ((j : ℕ) (z : Table Row) → h j z x ≡ k j z x)
      → sides c i h (λ y. None) x ≡ sides c i k (λ y. None) x
  sides_same zero i h k e = refl
  sides_same (suc c) i h k e = cond_same (starts (i ++ c ∷ []) x.at) _ _ _ _ (λ q. e c (λ y. None)) (λ q. sides_same c i h k e)

  mutual
    in_same : (kind : Kind) (n : ℕ) (i : List ℕ) → look_in pt kind n i f x ≡ look_in pu kind n i f x
    in_same Leaf n i = refl
    in_same (Scope g) n i = cond_same (is_own n i x) _ _ _ _ (λ q. refl) (λ q. only_same (is_within g i x) _ _ (λ z. look_same g i))
    in_same (Choice bs) n i =
        cond_same (is_own n i x) _ _ _ _ (λ q. refl)
        (λ q. only_same (is_among bs i x) _ _ (λ z. any_same bs (a.taken (pt.decide (address n i) f)) i))
    in_same (Foreach pace g) n i =
        cond_same (is_own n i x) _ _ _ _ (λ q. refl)
        (λ q. only_same (is_within g i x) _ _
        (λ z. sides_same (a.items (pt.decide (address n i) f)) i _ _ (λ j v. look_same g (i ++ j ∷ []))))
    in_same (Until most g) n i =
        cond_same (is_own n i x) _ _ _ _ (λ q. refl)
        (λ q. only_same (is_within g i x) _ _
        (λ z. sides_same (rounds most 0 (λ j. a.ends (b.test (address n i) j f))) i _ _ (λ j v. look_same g (i ++ j ∷ []))))

    any_same : (bs : Branches) (c : ℕ) (i : List ℕ) → look_any pt bs c i f x ≡ look_any pu bs c i f x
    any_same no_branch c i = refl
    any_same (branch g rest) c i =
        cond_same (is_within g i x) _ _ _ _
        (λ q. cond_same (is_one c) _ _ _ _ (λ z. look_same g i) (λ z. cond_same (pt.pinned x.name) _ _ _ _ (λ v. same) (λ v. refl)))
        (λ q. any_same rest (less_one c) i)

    look_same : (g : Graph) (i : List ℕ) → look pt g i f x ≡ look pu g i f x
    look_same done i = refl
    look_same (add n after kind rest) i =
        cond_same (is_in n kind i x) _ _ _ _
        (λ q. cond_same (pt.pinned n) _ _ _ _ (λ z. same)
        (λ z. ap (λ c. cond (again n || c) (look_in pt kind n i f x) (skip pt n kind i x)) (pinned_gate after n i)
        ∙ cond_same (again n || gate pu after n i f) _ _ _ _ (λ v. in_same kind n i) (λ v. refl)))
        (λ q. look_same rest i)

module _ {Row Begun Decision Verdict : Type 0} (d : Graph) (depth : ℕ → ℕ) (a b : Source Row Begun Decision Verdict) (redo again : ℕ → Bool)
    (recall : Address → Decision)
    (falls : IsDepth d depth) (sb : Sound b (SeenIn d) d 0) where
  pub old_tables_agree : OldTablesAgree d depth a b redo again recall
  old_tables_agree t u same x w =
      sym (all_unique (pin a b redo again u recall) depth d falls (pin_sound a b redo (SeenIn d) again u recall d 0 sb)
      (meaning (pin a b redo again t recall) depth d)
      (λ y v. meaning_solves (pin a b redo again t recall) depth d falls (pin_sound a b redo (SeenIn d) again t recall d 0 sb) y v
      ∙ look_same a b redo again recall t u (meaning (pin a b redo again t recall) depth d) y (same y v) d []) x w)
