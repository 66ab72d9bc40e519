use Rattle.std.proofs.lemmas.Result.{err_from_is_err_and}
use Rattle.wf_answers.specs.InputsSeen.{inputs_tree}
use Rattle.wf_reading.specs.ReadSeen.{def_tree}
use Rattle.wf_trigger.specs.StartsSeen.{start_tree}
use Rattle.wf_session.proofs.StandsLemmas.{too_dear}
use Rattle.wf_session.proofs.session.Session.begin.Goals as goal

pub returns-in_err-rest-clause-dear : goal.returns-in_err-rest-clause-dear
returns-in_err-rest-clause-dear c =
    let p = err_from_is_err_and c.from_residual.result c.from_residual.ensures.1 in
    rw (p.1, p.2)
    (λ other. too_dear (def_tree c.args.runnable.now.checked.now.def) (start_tree c.args.given.start) (inputs_tree c.args.given.inputs)
    (c.in_err-rest.ensures.dear other))
