-- What the figures of a run rest on.
use Rattle.std.proofs.Common.{◌≡◌, ℕ, ◌+◌, ◌<◌, ◌≤◌, Bool, false, List, [], ◌∷◌, length, slice_get, Some, Ok, Err}
use Rattle.std.proofs.Common.{refl, sym, ap, ◌∙◌, subst, arith}
use Rattle.wf_answers.specs.Inputs.{InputsTree}
use Rattle.wf_def.specs.DefTree.{DefTree}
use Rattle.wf_prepare.specs.Environment.{Environment, fresh}
use Rattle.wf_layers.specs.Laws.{IsInstance}
use Rattle.wf_layers.specs.Machine as machine
use Rattle.wf_layers.specs.Meaning as layers
use Rattle.wf_layers.specs.Bound.{total}
use Rattle.wf_layers.proofs.Bounded.{events_at_the_end}
use Rattle.wf_prepare.specs.Points.{graph_of}
use Rattle.wf_prepare.specs.Record.{depth_of, meaning}
use Rattle.wf_prepare.specs.Source.{source}
use Rattle.wf_record.specs.Cost.{cost}
use Rattle.wf_record.specs.declared.status.RunStatus.{RunStatus}
use Rattle.wf_scheduled.specs.Turns.{IsRun}
use Rattle.wf_scheduled.proofs.TurnLemmas.{steps_of}
use Rattle.wf_prepare.specs.Starts.{StartTree}
use Rattle.wf_told.specs.Measured.{IsMeasured, Measures, StartsAlone}
use Rattle.wf_told.specs.Records.{records_of, runs_records, started_records, starts_of}
use Rattle.wf_told.specs.Text.{total_cost}
use Rattle.wf_told.specs.Under.{IsRunUnder, Told}
use Rattle.wf_told.specs.declared.fault.RunsFault.{RunsFault}
use Rattle.wf_told.specs.declared.measure.Measure.{Measure}
use Rattle.wf_told.proofs.TextLemmas.{by-limit, past}

module _ (d : DefTree) (e : Environment) (one other : List ℕ) (traced again : Bool)
    (sound : IsInstance (graph_of d) (source d e) (depth_of d)) where
  -- the events of a run are as many as the meaning gives the definition, whatever the schedule
  events_are : (schedule : List ℕ) (es : List machine.Event) (run : IsRun (graph_of d) (source d e) schedule machine.fresh es)
      → length es ≡ total (source d e) (layers.meaning (source d e) (depth_of d) (graph_of d)) (graph_of d) []
  events_are schedule es run =
      events_at_the_end (graph_of d) (source d e) (depth_of d) sound es run.last
      (steps_of (graph_of d) (source d e) schedule 0 machine.fresh run.last es run.turns) run.over

  pub as_many_steps : (t u : Told) → IsRunUnder d e one traced t → IsRunUnder d e other again u → (t.steps ≡ u.steps) × (t.left ≡ u.left)
  as_many_steps t u first second = (
    first.steps_are ∙ events_are one first.events first.run ∙ sym (events_are other second.events second.run) ∙ sym second.steps_are,
    first.left_is ∙ sym second.left_is,
  )

-- figures have four parts
abbrev figures : ℕ → RunStatus → ℕ → ℕ → Measure
figures rows status steps most = record { rows = rows; status = status; steps = steps; peak = most }

same_parts : (a a' : ℕ) (b b' : RunStatus) (c c' n n' : ℕ) → a ≡ a' → b ≡ b' → c ≡ c' → n ≡ n' → figures a b c n ≡ figures a' b' c' n'
same_parts a a' b b' c c' n n' rows status steps most = rw (rows, status, steps, most) refl

module _ (d : DefTree) (i : InputsTree) where
  -- what starts alone is one thing
  one_start : (s r : StartTree) → starts_of d i ≡ Ok (s ∷ []) → starts_of d i ≡ Ok (r ∷ []) → s ≡ r
  one_start s r first second = let both : Ok (s ∷ []) ≡ Ok (r ∷ []) = sym first ∙ second in cc

  same_figures : (m n : Measure) → m.rows ≡ n.rows → m.status ≡ n.status → m.steps ≡ n.steps → m.peak ≡ n.peak → m ≡ n
  same_figures m n rows status steps most =
      same_parts m.rows n.rows m.status n.status m.steps n.steps m.peak n.peak rows status steps most

  pub measured_alike : (schedule : List ℕ)
      → ((e : Environment) (t u : Told) → IsRunUnder d e schedule false t → IsRunUnder d e schedule false u → t ≡ u)
      → (m n : Measure) → IsMeasured d i schedule m → IsMeasured d i schedule n → m ≡ n
  measured_alike schedule alike m n first second =
      let start : first.start ≡ second.start = one_start first.start second.start first.starts second.starts in
      let told : IsRunUnder d (fresh second.start i) schedule false first.run =
      subst (λ s. IsRunUnder d (fresh s i) schedule false first.run) start first.told in
      let same : first.run ≡ second.run = alike (fresh second.start i) first.run second.run told second.told in
      let f = subst (λ t. Measures t m) same first.figures in
      let g = second.figures in
      same_figures m n (f.rows_are ∙ sym g.rows_are) (f.status_is ∙ sym g.status_is) (f.steps_are ∙ sym g.steps_are)
      (f.peak_is ∙ sym g.peak_is)

  pub same_but_the_peak : (schedule other : List ℕ)
      → ((e : Environment) (t u : Told) → IsRunUnder d e schedule false t → IsRunUnder d e other false u
      → (t.steps ≡ u.steps) × (t.left ≡ u.left))
      → (m n : Measure) → IsMeasured d i schedule m → IsMeasured d i other n
      → (m.rows ≡ n.rows) × (m.status ≡ n.status) × (m.steps ≡ n.steps)
  same_but_the_peak schedule other as_many m n first second =
      let start : first.start ≡ second.start = one_start first.start second.start first.starts second.starts in
      let told : IsRunUnder d (fresh second.start i) schedule false first.run =
      subst (λ s. IsRunUnder d (fresh s i) schedule false first.run) start first.told in
      let same = as_many (fresh second.start i) first.run second.run told second.told in
      let f = first.figures in
      let g = second.figures in (
        f.rows_are ∙ ap (λ r. length r.rows) same.1 ∙ sym g.rows_are,
        f.status_is ∙ ap (λ r. r.status) same.1 ∙ sym g.status_is,
        f.steps_are ∙ same.0 ∙ sym g.steps_are,
      )

  -- ---- where it costs too much there is none

  -- what one run costs is what all cost
  alone : (s : StartTree) → total_cost (records_of d i (s ∷ [])) ≡ cost (meaning d (fresh s i))
  alone s = omega arith

  no_fault_at : (s : StartTree) (f : RunsFault) → cost (meaning d (fresh s i)) ≤ 67108864 → started_records d i (Ok (s ∷ [])) ≡ Err f → ⊥
  no_fault_at s f small said =
      by-limit (records_of d i (s ∷ [])) (λ r. r ≡ Err f → ⊥) (λ fine is. cc) (λ over is. omega (arith, over, alone s, small)) said

  pub no_fault_beside : (schedule : List ℕ) (m : Measure) (f : RunsFault) → IsMeasured d i schedule m → runs_records d i ≡ Err f → ⊥
  no_fault_beside schedule m f told said =
      no_fault_at told.start f (subst (λ r. cost r ≤ 67108864) told.told.left_is told.small)
      (ap (started_records d i) (sym told.starts) ∙ said)

  pub too_large_alone : (s : StartTree) → starts_of d i ≡ Ok (s ∷ []) → 67108864 < cost (meaning d (fresh s i))
      → runs_records d i ≡ Err RunsFault.TooLarge
  too_large_alone s starts large =
      ap (started_records d i) starts ∙ past (records_of d i (s ∷ [])) (omega (arith, alone s, large))

  -- a list of one item is its first
  pub first_alone : (starts : List StartTree) → length starts ≡ 1 → (s : StartTree) → slice_get starts 0 ≡ Some s → starts ≡ s ∷ []
  first_alone [] count s is = absurd (omega (arith, count))
  first_alone (r ∷ []) count s is = let same : r ≡ s = cc in ap (λ x. x ∷ []) same
  first_alone (r ∷ q ∷ rest) count s is = absurd (omega (arith, count))
