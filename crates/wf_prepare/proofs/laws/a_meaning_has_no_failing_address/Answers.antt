use Rattle.wf_form.specs.Fault.{inner_of}
use Rattle.wf_shaped.proofs.ReadLemmas.{inner-fine}
use Rattle.wf_shaped.specs.Record.{depth_of, meaning}
use Rattle.wf_shaped.specs.Source.{source, table_of}
use Rattle.wf_shaped.proofs.KnownLemmas.{are_known}
use Rattle.std.proofs.Common.{◌≡◌, Bool, true, false, refl, subst, sym}
use Rattle.wf_shaped.specs.Points.{graph_of}
use Rattle.wf_record.specs.Record.{Row}
use Rattle.wf_shape.specs.Law.{Fitting, Idle}
use Rattle.wf_shape.specs.Standing.{fails}
use Rattle.wf_shape.proofs.NoneFails.{none_fails}
use Rattle.wf_shaped.specs.Reading.{reading}
use Rattle.wf_shaped.specs.Fits.{fits_in}
use Rattle.wf_prepare.proofs.BackLemmas.{none_fails_at}
use Rattle.wf_prepare.proofs.IdleLemmas.{graph_idle}
use Rattle.wf_prepare.proofs.NamedLemmas.{none-unnamed}
use Rattle.wf_prepare.proofs.ShapeLemmas.{skipped_alike}
use Rattle.wf_prepare.proofs.laws.a_meaning_has_no_failing_address.Goals as goal

pub returns : goal.returns
unfolding meaning
returns c = λ d read none e.
    let known = are_known d (c.numbers_stand_once.ensures d read) (c.names_stand_once.ensures d read)
    (c.read_actions_have_their_numbers.ensures d read) c.numbers_have_the_kinds_of_their_actions.ensures in
    let unnamed = none-unnamed d read (c.the_first_fault.ensures.none (inner_of read.value) (inner-fine read.value read.holds)).1.1.1.0 in
    let t = table_of d e (depth_of d) in
    let whole = c.meant_rows_are_whole.ensures d read none e in
    let fit = c.each_meant_row_fits.ensures d read none e in
    let idle = subst (λ (s : Row → Bool). Idle (reading d) s (fits_in d) (graph_of d)) (skipped_alike d e)
    (graph_idle d c.a_skipped_row_says_nothing.ensures d.top known.numbers) in
    let fitting : Fitting (graph_of d) (source d e) (reading d) (fits_in d) t = λ y row skipped there is.
    fit y row skipped there (λ yes'. subst (λ (s : Row → Bool). s row ≡ true) (sym (skipped_alike d e)) (is yes')) in
    none_fails_at d known unnamed t (λ x row there. (whole.instances x row there).0)
    (c.listed_rows_stand_for_the_table.ensures d read t whole)
    (λ y. subst (λ (s : Row → Bool). fails (reading d) s (fits_in d) t (graph_of d) y ≡ false) (sym (skipped_alike d e))
    (none_fails (graph_of d) (source d e) (reading d) (fits_in d) t known.once (λ n. (refl, refl)) idle fitting
    (c.rows_have_the_right_shape.ensures d read none e) y))
