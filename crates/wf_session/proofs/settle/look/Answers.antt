use Rattle.std.proofs.Common.{IfSome, sym, subst, refl}
use Rattle.wf_asks.specs.Instances.{address_of}
use Rattle.wf_asks.specs.declared.instance.Instance.{Instance}
use Rattle.wf_kept.specs.Reached.{IsReached}
use Rattle.wf_tables.specs.Tables.{event_tree}
use Rattle.wf_runnable.specs.Meant.{depth, source}
use Rattle.wf_waits.specs.Kept.{Kept}
use Rattle.wf_session.specs.Begun.{going, graph, moment}
use Rattle.wf_session.specs.Settled.{HasLooked, IsHeld, WillHappen}
use Rattle.wf_session.specs.Waiting.{IsMissing}
use Rattle.wf_session.proofs.NextLemmas.{listed_enabled}
use Rattle.wf_session.proofs.ScanLemmas.{held_kept, looked_kept}
use Rattle.wf_session.proofs.settle.look.Goals as goal

pub missing-requires : goal.missing-requires
missing-requires c =
    let h = c.args.making.now in
    let reached : IsReached (graph (going h.0)) (depth h.0) (source h.0) (moment h.1) =
    c.is_known.ensures.reached in
    listed_enabled (going h.0) (moment h.1) c.args.ready.now.0 (depth h.0) reached c.requires.ready c.args.place c.at-event.result.now
    c.at-event.ensures.item

pub returns-in_ok-keep-in-Some-clause-looked : goal.returns-in_ok-keep-in-Some-clause-looked
returns-in_ok-keep-in-Some-clause-looked c =
    let g = going c.args.making.now.0 in
    let s = moment c.args.making.now.1 in
    let missing : IsMissing g s (address_of c.at-event.result.now.instance) c.in-Some.want =
    subst (λ o. IfSome o (IsMissing g s (address_of c.at-event.result.now.instance))) c.in-Some.is c.in_ok-want.ensures.missing in
    subst (HasLooked g s c.args.waits.now) (sym c.in_ok-keep-in-Some.ensures.kept)
    (looked_kept g s c.args.waits.now c.requires.waiting c.in-Some.want c.at-event.result.now.instance missing
    c.is_in_order.ensures)

pub returns-in_ok-keep-in-Some-clause-held : goal.returns-in_ok-keep-in-Some-clause-held
returns-in_ok-keep-in-Some-clause-held c = λ none.
    let g = going c.args.making.now.0 in
    let s = moment c.args.making.now.1 in
    let missing : IsMissing g s (address_of c.at-event.result.now.instance) c.in-Some.want =
    subst (λ o. IfSome o (IsMissing g s (address_of c.at-event.result.now.instance))) c.in-Some.is c.in_ok-want.ensures.missing in
    subst (λ (kept : Kept). IsHeld g s c.args.ready.now.0 kept.0 c.args.place) (sym c.in_ok-keep-in-Some.ensures.kept)
    (held_kept g s c.args.waits.now c.requires.waiting c.in-Some.want c.at-event.result.now.instance missing c.args.ready.now.0
    c.args.place c.at-event.result.now c.at-event.ensures.item refl)

pub returns-in_ok-instance-in-None-clause-happens : goal.returns-in_ok-instance-in-None-clause-happens
returns-in_ok-instance-in-None-clause-happens c =
    let h = c.args.making.now in
    let g = going h.0 in
    let s = moment h.1 in
    let reached : IsReached (graph g) (depth h.0) (source h.0) s =
    c.is_known.ensures.reached in
    let event = c.at-event.result.now in
    let happens : WillHappen g s (event_tree event) = record {
      enabled = listed_enabled g s c.args.ready.now.0 (depth h.0) reached c.requires.ready c.args.place event c.at-event.ensures.item;
      answered = c.in_ok-want.ensures.none c.in-None.is;
    } in
    subst (λ (i : Instance). WillHappen g s (event_tree (record { instance = i; kind = event.kind }))) (sym c.in_ok-instance-in-None.ensures)
    happens
