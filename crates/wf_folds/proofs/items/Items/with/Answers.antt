use Rattle.std.proofs.Common.{◌≡◌, ap, sym, ◌∙◌, subst}
use Rattle.std.specs.Bool.{OnFalse}
use Rattle.std.specs.BTreeSet.{IsUnchanged}
use Rattle.wf_val.specs.Seen.{tree}
use Rattle.wf_functions.specs.Collected.{with_item}
use Rattle.wf_folds.specs.Items.{one_more}
use Rattle.wf_folds.specs.UnitedSeen.{items_seen}
use Rattle.wf_folds.proofs.ItemLemmas.{old-item, new-item}
use Rattle.wf_folds.proofs.items.Items.with.Goals as goal

pub returns-then-not-is_new : goal.returns-then-not-is_new
returns-then-not-is_new c =
    old-item c.args.self.distinct c.args.self.there c.insert.new.self c.in_ok-copy.field-0 c.in_ok-is_new.is_new
    c.in_ok-is_new.ensures.added c.if-not-is_new.true
    (subst (λ b. OnFalse b (IsUnchanged c.args.self.there c.insert.new.self)) c.if-not-is_new.true c.in_ok-is_new.ensures.unchanged)
    ∙ ap (λ v. one_more (items_seen c.args.self) (tree v)) c.in_ok-copy.ensures

pub returns : goal.returns
returns c =
    new-item c.args.self.distinct c.push.new.self c.args.self.there c.insert.new.self c.in_ok-copy.field-0 c.in_ok-is_new.is_new
    c.in_ok-is_new.ensures.added c.if-not-is_new.false c.in_ok-is_new.ensures.keys
    (c.in_ok-push.ensures ∙ ap (λ v. with_item (tree v) c.args.self.distinct) (c.in_ok-copy-2.ensures ∙ sym c.in_ok-copy.ensures))
    ∙ ap (λ v. one_more (items_seen c.args.self) (tree v)) c.in_ok-copy.ensures
