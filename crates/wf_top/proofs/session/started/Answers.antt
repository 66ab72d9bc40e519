use Rattle.std.proofs.Common.{◌≡◌, List, [], ◌∷◌, length, Ok, IfOk, refl, sym, subst, ◌∙◌}
use Rattle.wf_answers.specs.InputsSeen.{inputs_tree}
use Rattle.wf_outside.specs.Outside.{Held}
use Rattle.wf_reading.specs.ReadSeen.{def_tree}
use Rattle.wf_top.specs.Opening.{MayOpen}
use Rattle.wf_top.specs.Session.{started}
use Rattle.wf_trigger.specs.Starts.{StartTree}
use Rattle.wf_trigger.specs.StartsSeen.{starts_seen}
use Rattle.wf_top.proofs.session.started.Goals as goal

empty : (starts : List StartTree) → length starts ≡ 0 → starts ≡ []
empty [] none = refl
empty (x ∷ xs) none = absurd (cc (none))

pub returns-in-0-clause-opened : goal.returns-in-0-clause-opened
returns-in-0-clause-opened c =
    let d = def_tree c.args.checked.def in
    let i = inputs_tree c.args.inputs in
    subst (λ xs. IfOk c.say_none.result (λ opened. (held : Held) → MayOpen held (started d i (Ok xs)) opened))
    (sym (empty (starts_seen c.args.starts.now) (sym c.len.ensures ∙ c.in-0.is))) c.say_none.ensures.opened
