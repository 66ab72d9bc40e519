use Rattle.std.proofs.Common.{flat_map, string_bytes}
use Rattle.std.specs.Prelude.{codes}
use Rattle.wf_tap.specs.Junit.{suite_lines}
use Rattle.wf_tap.proofs.LineLemmas.{framed}
use Rattle.wf_tap.proofs.junit.write_root.Goals as goal

pub returns : goal.returns
returns c =
    framed (string_bytes c.args.out.now) (string_bytes c.push_line.new.out) (string_bytes c.write_suites.new.out)
    (string_bytes c.push_line-2.new.out) (codes "<testsuites>") (codes "</testsuites>") (flat_map suite_lines c.args.results.now)
    c.in_ok-push_line.ensures c.in_ok-write_suites.ensures c.in_ok-push_line-2.ensures
