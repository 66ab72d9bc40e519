use Rattle.std.proofs.Common.{◌≡◌, None, Some, sym, subst, ◌∙◌}
use Rattle.wf_lists.specs.KeyOrder.{find_key, without_key}
use Rattle.wf_lists.proofs.KeyOrderLemmas.{find_key-on, without_key-on}
use Rattle.wf_answers.specs.AnswerTree.{key_cmp}
use Rattle.wf_asks.specs.Instances.{instance_cmp}
use Rattle.wf_tables.specs.declared.entries.EventAt.{EventAt}
use Rattle.wf_talk.specs.Seen.{want_key}
use Rattle.wf_waits.specs.Kept.{waiting_key}
use Rattle.wf_waits.specs.Places.{AreTheirs}
use Rattle.wf_waits.specs.declared.waiting.Waiting.{Waiting}
use Rattle.wf_waits.proofs.PlaceLemmas.{theirs_left, theirs_taken}
use Rattle.wf_waits.proofs.waits.Waits.take.Goals as goal

-- none has the key
pub invariant_of-self : goal.invariant_of-self
invariant_of-self c =
    let ws = c.self.inside.by_key in
    let k = want_key c.args.want.now in
    let none : find_key key_cmp waiting_key k ws ≡ None =
    sym (find_key-on key_cmp want_key (λ (v : Waiting). v.want) c.args.want.now ws) ∙ (sym c.take.ensures.item ∙ c.in_default.is) in
    subst (λ us. AreTheirs us c.self.inside.by_place.0)
    (sym (c.take.ensures.rest ∙ without_key-on key_cmp want_key (λ (v : Waiting). v.want) c.args.want.now ws))
    (theirs_left k ws c.self.inside.by_place.0 c.self.invariant none)

-- the one that has it is gone from both
pub invariant_of-self-2 : goal.invariant_of-self-2
invariant_of-self-2 c =
    let ws = c.self.inside.by_key in
    let events = c.self.inside.by_place.0 in
    let w = c.in-Some.waiting in
    let k = want_key c.args.want.now in
    let found : find_key key_cmp waiting_key k ws ≡ Some w =
    sym (find_key-on key_cmp want_key (λ (v : Waiting). v.want) c.args.want.now ws) ∙ (sym c.take.ensures.item ∙ c.in-Some.is) in
    subst (AreTheirs c.take.new.self) (sym c.take-2.ensures.rest)
    (subst (λ us. AreTheirs us (without_key instance_cmp (λ (e : EventAt). e.instance) w.instance events))
    (sym (c.take.ensures.rest ∙ without_key-on key_cmp want_key (λ (v : Waiting). v.want) c.args.want.now ws))
    (theirs_taken k ws events c.self.invariant w found c.take-2.ensures.in_order))
