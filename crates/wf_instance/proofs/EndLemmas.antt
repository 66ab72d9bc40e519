-- No loop is round a Terminate, by its standing and as an action of the definition.
use Rattle.std.proofs.Common.{◌≡◌, ℕ, true, List, [], ◌∷◌, map, refl, sym, subst, true≢false}
use Rattle.std.specs.List.{AllByRecursion}
use Rattle.wf_meant.specs.ActionTree.{ActionTree, action_kind, action_number, KindTree, terminate}
use Rattle.wf_meant.specs.AllActions.{all_actions}
use Rattle.wf_meant.specs.DefTree.{DefTree}
use Rattle.wf_accepted_laws.specs.Indexes.{loops_round}
use Rattle.wf_accepted_laws.specs.Kinds.{ends_or_responds}
use Rattle.wf_accepted_laws.specs.Standing.{StandingTree, standings_of}
use Rattle.wf_meant.specs.Containers.{is_terminate}
use Rattle.wf_meant.specs.Points.{graph_of}
use Rattle.wf_accepted_laws.specs.Ends.{EndsStandInNoLoop}

ends_of : (kind : KindTree) → is_terminate kind ≡ true → ends_or_responds kind ≡ true
ends_of (terminate inputs) is = refl
ends_of kind is = absurd (true≢false (sym is))

abbrev EndsAlone : DefTree → ActionTree → Type 0
EndsAlone d a = is_terminate (action_kind a) ≡ true → (m : ℕ) → loops_round (graph_of d) (action_number a) m ≡ 0

ends_each : (d : DefTree) (ss : List StandingTree)
    → AllByRecursion (λ s. ends_or_responds (action_kind s.action) ≡ true → (m : ℕ) → loops_round (graph_of d)
    (action_number s.action) m ≡ 0) ss
    → AllByRecursion (EndsAlone d) (map (λ s. s.action) ss)
ends_each d [] all = tt
ends_each d (s ∷ ss) all = ((λ is. all.0 (ends_of (action_kind s.action) is)), ends_each d ss all.1)

pub ends_alone : (d : DefTree) → map (λ s. s.action) (standings_of d.top) ≡ all_actions d.top → EndsStandInNoLoop d
    → AllByRecursion (λ a. is_terminate (action_kind a) ≡ true → (m : ℕ) → loops_round (graph_of d) (action_number a) m ≡ 0)
    (all_actions d.top)
ends_alone d same all = subst (AllByRecursion (EndsAlone d)) same (ends_each d (standings_of d.top) all)
