use Rattle.std.proofs.Common.{◌≡◌, [], ap, ◌∙◌, rules}
use Rattle.json.specs.Json.{value}
use Rattle.json.specs.Lex.{tokens}
use Rattle.wf_val.specs.Seen.{tree}
use Rattle.wf_json.specs.Read.{read_json}
use Rattle.wf_json.proofs.GrammarLemmas.{whole_read}
use Rattle.wf_json.proofs.ReadBackLemmas.{read_json-data_of}
use Rattle.wf_json.proofs.straight.read_straight.Goals as goal

pub returns-clause-value : goal.returns-clause-value
returns-clause-value c =
    let v = c.in_ok-value.value in
    let none : c.value_in.new.reader ≡ [] = search rules in
    let read = whole_read (value 127 (tokens c.args.text.now)) _ (rw (c.in_ok-reader.ensures.ok, none) at c.in_ok-value.ensures.ok) in
    ap read_json read ∙ read_json-data_of (tree v) c.always_well_formed.ensures c.in_ok-value.ensures.nests
