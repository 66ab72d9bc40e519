use Rattle.std.proofs.Common.{ap, sym, ◌∙◌, option_map, string_bytes}
use Rattle.wf_val.specs.Seen.{tree}
use Rattle.wf_schema.proofs.FlawLemmas.{refused}
use Rattle.wf_schema.proofs.schema.Schema.read.Goals as goal

pub returns-in-Some-clause-refused : goal.returns-in-Some-clause-refused
returns-in-Some-clause-refused c = λ differs. refused (tree c.args.value.now) (string_bytes c.in-Some.pointer)
    (sym (ap (option_map string_bytes) c.in-Some.is) ∙ c.in_ok-pointer.ensures.exact)
