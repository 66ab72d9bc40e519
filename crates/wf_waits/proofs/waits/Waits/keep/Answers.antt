use Rattle.std.proofs.Common.{◌≡◌, None, sym, ap, subst, ◌∙◌}
use Rattle.wf_lists.specs.KeyOrder.{find_key, put_key}
use Rattle.wf_lists.proofs.KeyOrderLemmas.{find_key-on, put_key-on}
use Rattle.wf_answers.specs.AnswerTree.{key_cmp}
use Rattle.wf_asks.specs.Instances.{instance_cmp}
use Rattle.wf_tables.specs.declared.entries.EventAt.{EventAt}
use Rattle.wf_tables.specs.declared.entries.EventKind.{EventKind}
use Rattle.wf_talk.specs.Seen.{want_key}
use Rattle.wf_waits.specs.Kept.{waiting_key}
use Rattle.wf_waits.specs.Places.{AreTheirs}
use Rattle.wf_waits.specs.declared.waiting.Waiting.{Waiting}
use Rattle.wf_waits.proofs.ListLemmas.{none_seen}
use Rattle.wf_waits.proofs.PlaceLemmas.{theirs_kept}
use Rattle.wf_waits.proofs.waits.Waits.keep.Goals as goal

pub invariant_of-self-2 : goal.invariant_of-self-2
invariant_of-self-2 c =
    let ws = c.self.inside.by_key in
    let events = c.self.inside.by_place.0 in
    let w : Waiting = record { want = c.args.want; instance = c.in_ok-instance.instance } in
    let event : EventAt = record { instance = c.in_ok-beside.beside; kind = EventKind.Try } in
    let none : find_key key_cmp waiting_key (waiting_key w) ws ≡ None =
    sym (find_key-on key_cmp want_key (λ (v : Waiting). v.want) c.args.want ws)
    ∙ (sym c.get.ensures ∙ none_seen _ c.get.result (sym c.is_some.ensures ∙ c.if-is_some.false)) in
    let kept = theirs_kept w ws none event events (c.in_ok-beside.ensures ∙ sym c.in_ok-instance.ensures) c.self.invariant in
    subst (AreTheirs c.put.new.self)
    (sym (c.put-2.ensures.items ∙ ap (put_key instance_cmp (λ (e : EventAt). e.instance) event) c.in_ok-make_room.ensures.items))
    (subst (λ us. AreTheirs us (put_key instance_cmp (λ (e : EventAt). e.instance) event events))
    (sym (c.in_ok-put.ensures.ok ∙ put_key-on key_cmp want_key (λ (v : Waiting). v.want) w ws)) kept)
