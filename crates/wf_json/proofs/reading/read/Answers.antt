use Rattle.std.proofs.Common.{◌≡◌, Ok, Err, IsUtf8, ap, ◌∙◌, subst}
use Rattle.std.specs.Prelude.{◌≢◌, IfOk, IfErr}
use Rattle.std.proofs.lemmas.Str.{is_utf8-from_IsUtf8}
use Rattle.serde_json.specs.Read.{read}
use Rattle.wf_val.specs.Seen.{tree}
use Rattle.wf_json.specs.Read.{after_mark, json_of, read_json}
use Rattle.wf_json.specs.declared.fault.JsonFault.{JsonFault}
use Rattle.wf_json.proofs.ReadLemmas.{none_unless_utf8}
use Rattle.wf_json.proofs.reading.read.Goals as goal

pub returns-in-Ok-clause-value : goal.returns-in-Ok-clause-value
returns-in-Ok-clause-value c =
    let text = after_mark c.args.bytes.now in
    let utf8 : IsUtf8 text = subst IsUtf8 c.without_mark.ensures c.in-Ok.ensures.cases.1 in
    let same : read c.in-Ok.text.now ≡ json_of c.args.bytes.now =
    rw (is_utf8-from_IsUtf8 text utf8) (ap read (c.in-Ok.ensures.cases.0 ∙ c.without_mark.ensures)) in
    subst (λ d. IfOk c.read_text.result (λ v. read_json d ≡ Ok (tree v))) same c.read_text.ensures.value

pub returns-in-Ok-clause-fault : goal.returns-in-Ok-clause-fault
returns-in-Ok-clause-fault c =
    let text = after_mark c.args.bytes.now in
    let utf8 : IsUtf8 text = subst IsUtf8 c.without_mark.ensures c.in-Ok.ensures.cases.1 in
    let same : read c.in-Ok.text.now ≡ json_of c.args.bytes.now =
    rw (is_utf8-from_IsUtf8 text utf8) (ap read (c.in-Ok.ensures.cases.0 ∙ c.without_mark.ensures)) in
    subst (λ d. IfErr c.read_text.result (λ e. e ≢ JsonFault.Memory → read_json d ≡ Err e)) same c.read_text.ensures.fault

pub returns-in-Err-clause-fault : goal.returns-in-Err-clause-fault
returns-in-Err-clause-fault c _ =
    let text = after_mark c.args.bytes.now in
    let not_utf8 : ¬ (IsUtf8 text) = subst (λ t. ¬ (IsUtf8 t)) c.without_mark.ensures c.in-Err.ensures.cases.0 in
    ap read_json (none_unless_utf8 text (read text) (λ utf8. absurd (not_utf8 utf8)))
