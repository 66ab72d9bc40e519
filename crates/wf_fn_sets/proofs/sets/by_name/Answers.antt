use Rattle.std.proofs.Common.{◌∙◌, sym, ap, map, drop, ◌+◌}
use Rattle.std.specs.List.{flat_map}
use Rattle.wf_val.specs.Seen.{tree}
use Rattle.wf_fn_sets.specs.Sets.{put_all}
use Rattle.wf_fn_sets.proofs.MemberLemmas.{put-joined}
use Rattle.wf_fn_sets.proofs.RestLemmas.{rest-from}
use Rattle.wf_fn_sets.proofs.sets.by_name.Goals as goal

pub loop-object-preserved : goal.loop-object-preserved
loop-object-preserved c =
    let seen = map (λ e. (e.0.now, tree e.1.now)) c.loop-object.by_name.entries in
    let rest = flat_map (λ o. o.now) (drop (c.loop-object.object-index + 1) c.args.objects.now) in
    ap (λ l. put_all l rest) c.in_ok-put_members.ensures
    ∙ sym (put-joined seen c.object-item.result.now rest)
    ∙ sym (rest-from (λ l. put_all seen (flat_map (λ o. o.now) l)) c.args.objects.now c.loop-object.object-index c.object-item.result
    c.loop-object-test.true c.object-item.is)
    ∙ c.loop-object.invariant
