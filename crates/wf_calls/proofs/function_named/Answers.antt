use Rattle.std.proofs.Common.{ℕ, List, length, ap, ◌∙◌}
use Rattle.std.specs.List.{find}
use Rattle.std.specs.Str.{str_eq_ignore_ascii_case}
use Rattle.wf_val.specs.Function.{function_name}
use Rattle.wf_val.specs.declared.function.Fun.{Fun}
use Rattle.wf_calls.specs.Lengths.{of_length}
use Rattle.wf_calls.proofs.LengthLemmas.{found_by_length}
use Rattle.wf_calls.proofs.function_named.Goals as goal

pub returns : goal.returns
returns c =
    let name : List ℕ = c.args.name.now in
    c.first_named.ensures
    ∙ ap (λ (fs : List Fun). find (λ f. str_eq_ignore_ascii_case c.as_str-called.result.now (function_name f)) fs) c.of_length.ensures
    ∙ ap (λ (n : List ℕ). find (λ f. str_eq_ignore_ascii_case n (function_name f)) (of_length (length n))) c.as_str-called.ensures
    ∙ found_by_length name
