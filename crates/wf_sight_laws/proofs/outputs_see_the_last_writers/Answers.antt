use Rattle.std.proofs.Common.{◌≡◌, ℕ, true, ◌∙◌}
use Rattle.std.specs.Prelude.{length}
use Rattle.wf_layers.specs.Definition.{has}
use Rattle.wf_layers.proofs.Basics.{and_in}
use Rattle.wf_def.specs.DefTree.{DefTree}
use Rattle.wf_meant_laws.specs.Read.{IsRead}
use Rattle.wf_def.specs.Names.{graph_names}
use Rattle.wf_meant_laws.proofs.ExactLemmas.{before_has}
use Rattle.wf_seen_laws.proofs.InnerLemmas.{seer_has}
use Rattle.wf_meant_laws.specs.Answering.{table_by}
use Rattle.wf_meant_laws.specs.Points.{graph_of, is_before}
use Rattle.wf_meant_laws.specs.Record.{depth_of}
use Rattle.wf_meant_laws.proofs.SeeingLemmas.{Known}
use Rattle.wf_meant_laws.proofs.WholeLemmas.{full_of}
use Rattle.wf_sight_laws.proofs.OutputLemmas.{outputs_told, read_by_outputs}
use Rattle.wf_sight_laws.proofs.outputs_see_the_last_writers.Goals as goal

known : goal.After-read_actions_have_their_numbers → (d : DefTree) → IsRead d → Known d
known c d r =
    let g = graph_of d in
    let n = length (graph_names d.top) in
    let once = c.numbers_stand_once.ensures d r in
    let closed = c.entries_stay_in_their_graph.ensures d r in
    let falls = c.depths_are_how_many_are_before.ensures d r in
    let below = c.numbers_are_below.ensures d r in
    let exact = λ (x y : ℕ) (hx : has g x ≡ true)
    (hy : has g y ≡ true). c.order_is_exact.ensures.before n g below closed x y hx hy in record {
      once = once;
      told = λ x z seen.
          c.what_is_seen_is_earlier.ensures g (depth_of d) once falls x z (is_before d x.name z.name)
          (λ before. (exact x.name z.name (and_in (has g x.name) true seen.0).0 (seer_has g z x seen)).1 before) seen;
      only = λ x z sees'.
          c.what_is_earlier_is_seen.ensures g once closed x z (is_before d x.name z.name) (
            (λ is. let there = before_has n g x.name z.name is in (exact x.name z.name there.0 there.1).0 is),
            sees',
          );
      never_both = λ x z one other. c.nobody_sees_who_sees_him.ensures n g (depth_of d) once closed falls below x z one other;
      round = λ z x l outer at turn of seen. c.loops_round_what_is_seen_are_seen.ensures.seen g once z x l outer at turn of seen;
      apart = λ z l outer at turn of seen.
          c.loops_round_what_is_seen_are_seen.ensures.never_both g (depth_of d) once closed falls z l outer at turn of seen;
      outside = λ m x inside is.
          let there = before_has n g x m is in
          c.before_is_an_order.ensures.never_itself g (depth_of d) once closed falls x
          (c.what_stands_inside_goes_along.ensures.after g once x m x ((exact x m there.0 there.1).0 is) inside);
      found = c.read_actions_have_their_numbers.ensures d r;
    }

pub returns : goal.returns
returns c = λ d r none e m answered rows there last.
    let meant = table_by d m in
    let whole = answered.whole in
    c.what_is_seen_is_told.ensures.by_outputs d e rows
    ∙ outputs_told d m e meant (c.rows_write_what_they_give.ensures d meant whole answered.given)
    (read_by_outputs d (known c d r) m meant whole.loops (full_of d meant whole.instances)) rows there last
