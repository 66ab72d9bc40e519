use Rattle.std.proofs.Common.{◌≡◌, ℕ, List, Some, cond, option_map}
use Rattle.std.specs.BTreeMap.{is_at}
use Rattle.std.specs.Map.{lookup}
use Rattle.std.specs.Prelude.{bytes_eq}
use Rattle.wf_val.specs.NameOrder.{bytes_cmp}
use Rattle.wf_tests.proofs.SourceLemmas.{source_put}
use Rattle.wf_tests.proofs.WholeLemmas.{put_is_there, put_keeps}
use Rattle.wf_tests.proofs.sources.Sources.with.Goals as goal

-- it is found by its name, and the others by theirs
pub returns : goal.returns
returns c =
    let put : (other : List ℕ) → option_map (λ v. v.items) (lookup (is_at (bytes_cmp other)) c.insert.new.self.entries)
    ≡ cond (bytes_eq c.args.name.now other) (Some c.args.bytes.items)
    (option_map (λ v. v.items) (lookup (is_at (bytes_cmp other)) c.args.self.bytes.entries)) = λ other.
    source_put (λ v. v.items) c.args.bytes c.in_ok-copy.field-0 c.args.name.now other
    (lookup (is_at (bytes_cmp other)) c.args.self.bytes.entries) (lookup (is_at (bytes_cmp other)) c.insert.new.self.entries)
    c.in_ok-copy.ensures (c.in_ok-_earlier.ensures.updates.0 other) in
    record {
      put = put;
      there = put_is_there c.args.self (record { bytes = c.insert.new.self }) c.args.name.now c.args.bytes.items put;
      keeps = put_keeps c.args.self (record { bytes = c.insert.new.self }) c.args.name.now c.args.bytes.items put;
    }
