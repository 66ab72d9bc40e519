use Rattle.std.proofs.Common.{◌≡◌, ℕ, List}
use Rattle.wf_layers.specs.Definition.{Leaf}
use Rattle.wf_meant_laws.specs.Look.{told_at, told_in_test}
use Rattle.wf_sight.specs.Variables.{variable_in}
use Rattle.wf_sight_laws.proofs.LookLemmas.{at_opening, at_start, at_test}
use Rattle.wf_sight_laws.proofs.TrackedLemmas.{none_broken, tracked_hold}
use Rattle.wf_sight_laws.proofs.what_is_asked_for_is_found.Goals as goal

pub returns-clause-starts : goal.returns-clause-starts
returns-clause-starts c = λ d r none e m answered x known a found informed last.
    at_start c.names_are_those_named.ensures.same d x.name a found
    (λ k. variable_in d known.rows known.store k ≡ (told_at d e x known.rows).variable k)
    (λ k how. c.sights_tell_variables.ensures.at d r none e m answered x Leaf known informed last k how)

pub returns-clause-opens : goal.returns-clause-opens
returns-clause-opens c = λ d r none e m answered x kind known a found informed last.
    at_opening c.names_are_those_named.ensures.same d x.name a found
    (λ k. variable_in d known.rows known.store k ≡ (told_at d e x known.rows).variable k)
    (λ k how. c.sights_tell_variables.ensures.at d r none e m answered x kind known informed last k how)

pub returns-clause-tested : goal.returns-clause-tested
returns-clause-tested c = λ d r none e m answered u most g j known a us found some informed last.
    at_test c.names_are_those_named.ensures.same d u.name a found
    (λ k. variable_in d known.rows known.store k ≡ (told_in_test d e u j known.rows).variable k)
    (λ k how. c.sights_tell_variables.ensures.in_test d r none e m answered u most g j known informed last k how) us some

pub returns-clause-ends : goal.returns-clause-ends
returns-clause-ends c = λ d r none n a f l found.
    tracked_hold c.names_are_those_named.ensures.same d (c.standings_are_the_actions.ensures d.top)
    (c.the_first_broken_rule.ensures.none d (none_broken d none)).1.1.1.1.1.1.1.1.1.1.1.0 n a found (λ (k : List ℕ). f k ≡ l.variable k)
