use Rattle.std.proofs.Common.{rules, sym}
use Rattle.std.proofs.lemmas.Fn.{always_returns_same}
use Rattle.wf_answers.specs.AnswerTree.{Key, key_cmp}
use Rattle.wf_waits.specs.Kept.{waiting_key}
use Rattle.wf_waits.specs.declared.waiting.Waiting.{Waiting}
use Rattle.wf_waits.proofs.KeyLemmas.{found, not_found}
use Rattle.wf_waits.proofs.waits.is_found.Goals as goal

-- the closure compares an attempt's key
pub returns-in-Ok : goal.returns-in-Ok
returns-in-Ok c =
    let k : Key = (c.args.address.now, c.args.attempt) in
    let position = c.in-Ok.ensures.position (λ (w : Waiting). key_cmp (waiting_key w) k)
    (always_returns_same _ _ _ (λ a r f' called. search rules)) in
    sym (found k c.args.waits.now c.in-Ok.field-0 c.requires c.in-Ok.ensures.bound position)

pub returns-in-Err : goal.returns-in-Err
returns-in-Err c =
    let k : Key = (c.args.address.now, c.args.attempt) in
    let position = c.in-Err.ensures.position (λ (w : Waiting). key_cmp (waiting_key w) k)
    (always_returns_same _ _ _ (λ a r f' called. search rules)) in
    sym (not_found k c.args.waits.now c.in-Err.field-0 c.requires c.in-Err.ensures.bound position)
