use Rattle.std.proofs.Common.{◌∙◌, ◌++◌, ap, flat_map, string_bytes}
use Rattle.std.specs.Prelude.{codes}
use Rattle.wf_tap.specs.Junit.{case_lines, first_line}
use Rattle.wf_tap.specs.Lines.{ended}
use Rattle.wf_tap.proofs.LineLemmas.{framed}
use Rattle.wf_tap.proofs.junit.write_suite.Goals as goal

pub returns : goal.returns
returns c =
    let file = c.args.results.now.file in
    framed (string_bytes c.args.out.now) (string_bytes c.write_suite_line.new.out) (string_bytes c.write_cases.new.out)
    (string_bytes c.push_line.new.out) (first_line c.args.results.now) (codes "  </testsuite>")
    (flat_map (case_lines file) c.args.results.now.outcomes) c.in_ok-write_suite_line.ensures
    (c.in_ok-write_cases.ensures
    ∙ ap (λ os. string_bytes c.write_suite_line.new.out ++ ended (flat_map (case_lines file) os)) c.as_slice.ensures)
    c.in_ok-push_line.ensures
