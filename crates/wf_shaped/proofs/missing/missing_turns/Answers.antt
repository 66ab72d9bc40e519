use Rattle.std.proofs.Common.{◌≡◌, ◌++◌, ◌∷◌, [], ◌-◌, ◌+◌, suc, true, false, is_none, ap, sym, ◌∙◌, arith}
use Rattle.wf_val.specs.declared.address.Address.{Address}
use Rattle.wf_def.specs.ActionSeen.{action_tree}
use Rattle.wf_def.specs.ActionTree.{action_name}
use Rattle.wf_record.specs.Record.{find_row}
use Rattle.wf_record.specs.Seen.{record_tree}
use Rattle.wf_shaped.specs.Least.{lesser}
use Rattle.wf_shaped.proofs.MissingLemmas.{first_missing, none_seen, one_there}
use Rattle.wf_shaped.proofs.missing.missing_turns.Goals as goal

pub returns-then-is_none : goal.returns-then-is_none
returns-then-is_none c =
    let rows = (record_tree c.args.log.now).rows in
    let a = action_tree c.args.action.now in
    let k = c.loop-turn.turn in
    let y : Address = record { name = action_name a; at = c.args.at.now ++ k ∷ [] } in
    let same : c.in_ok-address.address ≡ y =
    c.in_ok-address.ensures ∙ ap (λ i. record { name = action_name a; at = i }) c.in_ok-indexes.ensures in
    let none : is_none (find_row y rows) ≡ true =
    ap (λ (z : Address). is_none (find_row z rows)) (sym same)
    ∙ (none_seen _ _ (find_row c.in_ok-address.address rows) c.is_none.result c.row.ensures c.is_none.ensures ∙ c.if-is_none.true) in
    c.with.ensures
    ∙ (ap (lesser c.args.least.address) same
    ∙ (sym (first_missing rows a c.args.at.now c.args.least.address k (c.args.count - suc k) (c.args.count - k)
    (omega (arith, c.loop-turn-test.true)) none)
    ∙ c.loop-turn.invariant))

pub loop-turn-preserved : goal.loop-turn-preserved
loop-turn-preserved c =
    let rows = (record_tree c.args.log.now).rows in
    let a = action_tree c.args.action.now in
    let k = c.loop-turn.turn in
    let y : Address = record { name = action_name a; at = c.args.at.now ++ k ∷ [] } in
    let same : c.in_ok-address.address ≡ y =
    c.in_ok-address.ensures ∙ ap (λ i. record { name = action_name a; at = i }) c.in_ok-indexes.ensures in
    let there : is_none (find_row y rows) ≡ false =
    ap (λ (z : Address). is_none (find_row z rows)) (sym same)
    ∙ (none_seen _ _ (find_row c.in_ok-address.address rows) c.is_none.result c.row.ensures c.is_none.ensures ∙ c.if-is_none.false) in
    one_there rows a c.args.at.now c.args.least.address k (c.args.count - (k + 1)) (c.args.count - k) (k + 1)
    (omega (arith, c.loop-turn-test.true)) (omega arith) there
    ∙ c.loop-turn.invariant
