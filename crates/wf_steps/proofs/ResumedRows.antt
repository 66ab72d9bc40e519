-- A state from which an old record is gone on: the example of the laws, of which an action inside an If is resubmitted, so that the If is
-- closed again.
use Rattle.std.proofs.Common.{ℕ, Bool, refl}
use Rattle.wf_layers.specs.Redo.{closed_again, redone}
use Rattle.wf_layers.specs.Resubmission.{IsOldTable, pin, resumed}
use Rattle.wf_layers.proofs.Example.{a, depths, f, graph, instance_there, reading}
use Rattle.wf_layers.proofs.ExampleResubmission.{b, chosen, meets_again, recall}
use Rattle.wf_layers.proofs.Shaped.{shaped_is_old_table}
use Rattle.wf_kept.specs.Reached.{IsResumption, resumption}

abbrev redo : ℕ → Bool
redo n = redone graph depths chosen n

abbrev again : ℕ → Bool
again n = closed_again graph depths chosen n

old : IsOldTable graph a redo again f recall
old =
    shaped_is_old_table a (instance_there 0).own graph chosen redo again f meets_again.ran reading recall meets_again.as_read
    meets_again.is_set.redone meets_again.shape

an_example : IsResumption graph depths (pin a b redo again f recall) (resumed graph redo again f recall)
an_example =
    resumption a b redo again f recall (instance_there 0).falls (instance_there 0).closed (instance_there 1).local old
    (record { rows = λ x. refl; running = λ x. refl; opens = λ x. refl })
