use Rattle.std.proofs.Common.{◌∙◌, sym, ap, map, drop, ◌+◌}
use Rattle.wf_val.specs.Get.{name_of}
use Rattle.wf_val.specs.NameOrder.{put_named}
use Rattle.wf_val.specs.Seen.{tree, member}
use Rattle.wf_fn_sets.specs.Sets.{put_all}
use Rattle.wf_fn_sets.proofs.MemberLemmas.{entry-put}
use Rattle.wf_fn_sets.proofs.RestLemmas.{rest-from}
use Rattle.wf_fn_sets.proofs.sets.put_members.Goals as goal

pub loop-member-preserved : goal.loop-member-preserved
loop-member-preserved c =
    let seen = map (λ e. (e.0.now, tree e.1.now)) c.loop-member.by_name.entries in
    let items = c.as_slice-member-items.result.now in
    let rest = map member (drop (c.loop-member.member-index + 1) items) in
    ap (λ l. put_all l rest) (
    ap (map (λ e. (e.0.now, tree e.1.now))) c.in_ok-_earlier.ensures.entries
    ∙ entry-put (λ k. k.now) (λ v. tree v.now) c.loop-member.by_name.entries _ _
    ∙ ap (λ n. put_named name_of (n, tree c.member-item.result.1) seen) c.as_str.ensures
    )
    ∙ sym (rest-from (λ l. put_all seen (map member l)) items c.loop-member.member-index c.member-item.result
    c.loop-member-test.true c.member-item.is)
    ∙ c.loop-member.invariant
