use Rattle.std.proofs.Common.{◌≡◌, ℕ, true, sym, ◌∙◌}
use Rattle.std.specs.Prelude.{length}
use Rattle.wf_layers.specs.Address.{SeenIn, address}
use Rattle.wf_layers.specs.Definition.{has}
use Rattle.wf_layers.proofs.Basics.{and_in}
use Rattle.wf_layers.specs.Variables.{SeenByTest}
use Rattle.wf_seen_laws.specs.DefTree.{DefTree}
use Rattle.wf_instance.specs.Read.{IsRead}
use Rattle.wf_seen_laws.specs.Names.{graph_names}
use Rattle.wf_instance.proofs.ExactLemmas.{before_has}
use Rattle.wf_seen_laws.proofs.InnerLemmas.{seer_has}
use Rattle.wf_instance.specs.Points.{graph_of, is_before, point_of, point_of_test}
use Rattle.wf_instance.specs.Record.{depth_of}
use Rattle.wf_meant_laws.proofs.SeeingLemmas.{Known, at_instance, at_test}
use Rattle.wf_meant_laws.proofs.WholeLemmas.{full_of, round_of}
use Rattle.wf_meant_laws.proofs.WriterLemmas.{last_is_read}
use Rattle.wf_meant_laws.proofs.the_last_writer_is_read.Goals as goal

known : goal.After-read_actions_have_their_numbers → (d : DefTree) → IsRead d → Known d
known c d r =
    let g = graph_of d in
    let n = length (graph_names d.top) in
    let once = c.numbers_stand_once.ensures d r in
    let closed = c.entries_stay_in_their_graph.ensures d r in
    let falls = c.depths_are_how_many_are_before.ensures d r in
    let below = c.numbers_are_below.ensures d r in
    let exact = λ (x y : ℕ) (hx : has g x ≡ true)
    (hy : has g y ≡ true). c.order_is_exact.ensures.before n g below closed x y hx hy in record {
      once = once;
      told = λ x z seen.
          c.what_is_seen_is_earlier.ensures g (depth_of d) once falls x z (is_before d x.name z.name)
          (λ before. (exact x.name z.name (and_in (has g x.name) true seen.0).0 (seer_has g z x seen)).1 before) seen;
      only = λ x z sees'.
          c.what_is_earlier_is_seen.ensures g once closed x z (is_before d x.name z.name) (
            (λ is. let there = before_has n g x.name z.name is in (exact x.name z.name there.0 there.1).0 is),
            sees',
          );
      never_both = λ x z one other. c.nobody_sees_who_sees_him.ensures n g (depth_of d) once closed falls below x z one other;
      round = λ z x l outer at turn of seen. c.loops_round_what_is_seen_are_seen.ensures.seen g once z x l outer at turn of seen;
      apart = λ z l outer at turn of seen.
          c.loops_round_what_is_seen_are_seen.ensures.never_both g (depth_of d) once closed falls z l outer at turn of seen;
      outside = λ m x inside is.
          let there = before_has n g x m is in
          c.before_is_an_order.ensures.never_itself g (depth_of d) once closed falls x
          (c.what_stands_inside_goes_along.ensures.after g once x m x ((exact x m there.0 there.1).0 is) inside);
      found = c.read_actions_have_their_numbers.ensures d r;
    }

pub returns-clause-at_instances : goal.returns-clause-at_instances
returns-clause-at_instances c = λ d r none m rows whole x v writer last others agree.
    let k = known c d r in
    last_is_read d k m (point_of d x) (SeenIn (graph_of d) x) (at_instance d k x) rows whole.loops (full_of d rows whole.instances) v writer
    last others agree

pub returns-clause-at_tests : goal.returns-clause-at_tests
returns-clause-at_tests c = λ d r none m rows whole n i most h k is of v writer last others agree.
    let known' = known c d r in
    last_is_read d known' m (point_of_test d (address n i) k) (SeenByTest (graph_of d) n i h k)
    (at_test d known' n i most h k is (sym of.1 ∙ round_of (graph_of d) n)) rows whole.loops (full_of d rows whole.instances) v writer last
    others agree
