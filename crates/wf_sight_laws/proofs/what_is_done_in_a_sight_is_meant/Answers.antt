use Rattle.std.proofs.Common.{ap, ◌∙◌}
use Rattle.wf_layers.specs.Definition.{Leaf}
use Rattle.wf_look.specs.Told.{Told}
use Rattle.wf_def.specs.ActionTree.{action_kind}
use Rattle.wf_meant_laws.specs.Decisions.{decided}
use Rattle.wf_meant_laws.specs.Leaf.{begun}
use Rattle.wf_meant_laws.specs.Tracked.{tracked_value, with_own}
use Rattle.wf_meant_laws.specs.Containers.{tested}
use Rattle.wf_meant_laws.specs.Look.{told_ending}
use Rattle.wf_meant_laws.specs.Record.{depth_of}
use Rattle.wf_meant_laws.specs.Source.{tracked_of}
use Rattle.wf_sight.specs.Variables.{variable_in}
use Rattle.wf_sight_laws.proofs.DoneLemmas.{decides_same, starts_same, tests_same}
use Rattle.wf_sight_laws.proofs.TrackedLemmas.{none_broken, tracks_same}
use Rattle.wf_sight_laws.proofs.what_is_done_in_a_sight_is_meant.Goals as goal

pub returns-clause-starts : goal.returns-clause-starts
returns-clause-starts c = λ d r none e m answered x known a found informed last.
    ap (λ (l : Told). begun l (action_kind a))
    (c.what_is_seen_is_told.ensures.at d e m answered.answers x Leaf (depth_of d) known (c.numbers_stand_once.ensures d r) informed)
    ∙ starts_same c.names_are_those_named.ensures.same d e x known.rows a found (λ k. variable_in d known.rows known.store k)
    (λ k how. c.sights_tell_variables.ensures.at d r none e m answered x Leaf known informed last k how)
    c.what_an_action_does_is_local.ensures.begun

pub returns-clause-decides : goal.returns-clause-decides
returns-clause-decides c = λ d r none e m answered x kind known a found informed last.
    ap (λ (l : Told). decided l (action_kind a))
    (c.what_is_seen_is_told.ensures.at d e m answered.answers x kind (depth_of d) known (c.numbers_stand_once.ensures d r) informed)
    ∙ decides_same c.names_are_those_named.ensures.same d e x known.rows a found (λ k. variable_in d known.rows known.store k)
    (λ k how. c.sights_tell_variables.ensures.at d r none e m answered x kind known informed last k how)
    c.what_a_container_decides_is_local.ensures.decided

pub returns-clause-tests : goal.returns-clause-tests
returns-clause-tests c = λ d r none e m answered u most g j known a found informed last.
    ap (λ (l : Told). tested l (action_kind a))
    (c.what_is_seen_is_told.ensures.in_test d e m answered.answers u most g j (depth_of d) known (c.numbers_stand_once.ensures d r)
    informed)
    ∙ tests_same c.names_are_those_named.ensures.same d e u known.rows a found (λ k. variable_in d known.rows known.store k) j
    (λ k how. c.sights_tell_variables.ensures.in_test d r none e m answered u most g j known informed last k how)
    c.what_a_container_decides_is_local.ensures.tested

pub returns-clause-tracks : goal.returns-clause-tracks
returns-clause-tracks c = λ d r none e m answers x kind known a view found informed.
    ap (λ (l : Told). tracked_value (with_own view l) (tracked_of a))
    (c.what_is_seen_is_told.ensures.at d e m answers x kind (depth_of d) known (c.numbers_stand_once.ensures d r) informed)
    ∙ tracks_same c.names_are_those_named.ensures.same d (c.standings_are_the_actions.ensures d.top)
    (c.the_first_broken_rule.ensures.none d (none_broken d none)).1.1.1.1.1.1.1.1.1.1.1.0 x.name a found
    c.what_an_action_does_is_local.ensures.tracked (told_ending d e x view known.rows)
    (λ k. variable_in d known.rows known.store k)
