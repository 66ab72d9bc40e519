use Rattle.std.proofs.Common.{cond, List, Some, sym, ap, ◌∙◌, nat_eq}
use Rattle.wf_asks.specs.Instances.{address_of}
use Rattle.wf_asks.specs.Known.{store_in}
use Rattle.wf_asks.specs.declared.instance.Instance.{Instance}
use Rattle.wf_asks.specs.declared.known.WriterAt.{WriterAt}
use Rattle.wf_events.proofs.WrittenLemmas.{writer_put}
use Rattle.wf_turns.specs.ReadSeen.{def_tree}
use Rattle.wf_regained.proofs.OverLemmas.{put_last, stays_last}
use Rattle.wf_regained.proofs.last.overwrite.Goals as goal

pub returns-then-stays : goal.returns-then-stays
returns-then-stays c v =
    stays_last (def_tree c.args.checked.now.def) (address_of c.args.place.now) c.args.variable (store_in c.args.store.now.0)
    (sym c.stays.ensures ∙ c.if-stays.true) v

pub returns : goal.returns
returns c v =
    ap (λ (ws : List WriterAt). store_in ws v) c.put.ensures.items
    ∙ writer_put (record { variable = c.args.variable; instance = c.in_ok-instance.instance }) c.make_room.new.self.0 v
    ∙ ap (λ (ws : List WriterAt). cond (nat_eq c.args.variable v) (Some (address_of c.in_ok-instance.instance)) (store_in ws v))
    c.make_room.ensures.items
    ∙ ap (λ (i : Instance). cond (nat_eq c.args.variable v) (Some (address_of i)) (store_in c.args.store.now.0 v)) c.in_ok-instance.ensures
    ∙ put_last (def_tree c.args.checked.now.def) (address_of c.args.place.now) c.args.variable (store_in c.args.store.now.0)
    (sym c.stays.ensures ∙ c.if-stays.false) v
