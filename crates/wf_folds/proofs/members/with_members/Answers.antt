use Rattle.std.proofs.Common.{◌∙◌, sym, ap, map, drop, ◌+◌}
use Rattle.wf_val.specs.Get.{name_of}
use Rattle.wf_val.specs.NameOrder.{put_named}
use Rattle.wf_val.specs.Seen.{tree, member}
use Rattle.wf_fn_sets.specs.Sets.{put_all}
use Rattle.wf_fn_sets.proofs.MemberLemmas.{entry-put}
use Rattle.wf_fn_sets.proofs.RestLemmas.{rest-from}
use Rattle.wf_folds.proofs.members.with_members.Goals as goal

pub loop-one-preserved : goal.loop-one-preserved
loop-one-preserved c =
    let put = map member c.loop-one.by_name.entries in
    let items = c.as_slice-one-items.result.now in
    let rest = map member (drop (c.loop-one.one-index + 1) items) in
    ap (λ l. put_all l rest) (
    ap (map member) c.in_ok-_earlier.ensures.entries
    ∙ entry-put (λ k. k) tree c.loop-one.by_name.entries _ _
    ∙ ap (λ n. put_named name_of (n, tree c.in_ok-copy-2.field-0) put) c.in_ok-copy.ensures
    ∙ ap (λ v. put_named name_of (c.one-item.result.0, tree v) put) c.in_ok-copy-2.ensures
    )
    ∙ sym (rest-from (λ l. put_all put (map member l)) items c.loop-one.one-index c.one-item.result
    c.loop-one-test.true c.one-item.is)
    ∙ c.loop-one.invariant
