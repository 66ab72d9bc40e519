-- Who is looked at anew, as an action gets its row.
use Rattle.std.proofs.Common.{◌≡◌, ℕ, ◌&&◌, cond, List, Option, Some, None, ap, ◌∙◌}
use Rattle.wf_layers.specs.Address.{Address, Table, is_own, same_at}
use Rattle.wf_layers.specs.Machine as machine
use Rattle.wf_tables.specs.Instances.{address_of}
use Rattle.wf_tables.specs.Known.{is_among}
use Rattle.wf_tables.specs.Instance.{Instance}
use Rattle.wf_events.specs.Looked.{instances_at, look_each}
use Rattle.wf_events.specs.Round.{look_out}
use Rattle.wf_events.specs.declared.round.Round.{Round}
use Rattle.wf_events.proofs.LookLemmas.{looked_all}

out_same : (look : Address → Option machine.Event) (o : Option Round) (t t' : Table machine.Event)
    → ((x : Address) → t x ≡ t' x) → (x : Address) → look_out look o t x ≡ look_out look o t' x
out_same look None t t' e x = e x
out_same look (Some r) t t' e x =
    ap (cond (is_own r.container.action r.container.at x) (look (address_of r.container))) (e x)

pub settled : (idle opened : Address → Option machine.Event) (o : Option Round) (at ns : List ℕ) (followers : List Instance)
    (first second third fourth : Table machine.Event) → followers ≡ instances_at at ns
    → ((x : Address) → second x ≡ first x)
    → ((x : Address) → third x ≡ look_out opened o second x)
    → ((x : Address) → fourth x ≡ look_each idle followers third x) → (x : Address)
    → fourth x ≡ cond (is_among x.name ns && same_at at x.at) (idle x) (look_out opened o first x)
settled idle opened o at ns followers first second third fourth are e f g x =
    g x ∙ ap (λ ps. look_each idle ps third x) are ∙ looked_all idle at ns third x
    ∙ ap (cond (is_among x.name ns && same_at at x.at) (idle x)) (f x ∙ out_same opened o second first e x)
