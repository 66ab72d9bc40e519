use Rattle.std.proofs.Common.{◌≡◌, ◌∙◌, ◌++◌, ◌∷◌, [], ap, rules, string_bytes}
use Rattle.std.specs.Prelude.{codes}
use Rattle.wf_tap.specs.Junit.{root_lines}
use Rattle.wf_tap.specs.Lines.{ended}
use Rattle.wf_tap.proofs.junit.junit_text.Goals as goal

pub returns : goal.returns
returns c =
    let empty : string_bytes c.new-out.result ≡ [] = search rules in
    let first : string_bytes c.push_line.new.out ≡ string_bytes c.new-out.result
    ++ (codes "<?xml version=\"1.0\" encoding=\"UTF-8\"?>" ++ 10 ∷ []) = c.in_ok-push_line.ensures in
    c.from_string.ensures
    ∙ c.in_ok-write_root.ensures
    ∙ ap (λ s. s ++ ended (root_lines c.args.results.now)) (first
    ∙ ap (λ s. s ++ (codes "<?xml version=\"1.0\" encoding=\"UTF-8\"?>" ++ 10 ∷ [])) empty)
