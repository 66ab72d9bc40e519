-- What an action does by what it is told, where it is told what the definition means.
use Rattle.std.proofs.Common.{◌≡◌, ℕ, Option, Some, None, length, refl, sym, ap}
use Rattle.wf_answers.specs.Inputs.{InputsTree}
use Rattle.wf_def.specs.ActionTree.{ActionTree}
use Rattle.wf_def.specs.AllActions.{numbered}
use Rattle.wf_def.specs.DefTree.{DefTree}
use Rattle.wf_closing.specs.Leaf as leaf
use Rattle.wf_closing.specs.Leaf.{BegunTree, tries_in}
use Rattle.wf_layers.specs.Address.{Address, Table}
use Rattle.wf_closing.specs.Environment.{Environment, fresh}
use Rattle.wf_closing.specs.Look.{name_in, told_at, told_in_test}
use Rattle.wf_closing.specs.Source.{begun, close_of, finished, test_of, tries_of}
use Rattle.wf_closing.specs.Decisions.{DecisionTree}
use Rattle.wf_closing.specs.Verdicts.{VerdictTree}
use Rattle.wf_record.specs.Record.{Row}
use Rattle.wf_closing.specs.Starts.{StartTree}
use Rattle.wf_doing.specs.Acting.{attempts_by, begun_by, closed_by, finished_by, tested_by, tracked_row}
use Rattle.wf_doing.specs.Places.{named}

pub start_is : (d : DefTree) (e : Environment) (x : Address) (known : Table Row) (o : Option ActionTree)
    → begun_by o (told_at d e x known) ≡ begun d e o x known
start_is d e x known None = refl
start_is d e x known (Some a) = refl

pub test_is : (d : DefTree) (e : Environment) (u : Address) (k : ℕ) (known : Table Row) (o : Option ActionTree)
    → tested_by o (told_in_test d e u k known) ≡ test_of d e o u k known
test_is d e u k known None = refl
test_is d e u k known (Some a) = refl

pub close_is : (d : DefTree) (e : Environment) (x : Address) (decision : DecisionTree) (n : ℕ) (verdict : Option VerdictTree)
    (known : Table Row) (o : Option ActionTree)
    → closed_by o (told_at d e x known) x.at decision n verdict known ≡ close_of d e o x decision n verdict known
close_is d e x decision n verdict known None = refl
close_is d e x decision n verdict known (Some a) = refl

pub tries_is : (d : DefTree) (s : StartTree) (i : InputsTree) (x : Address) (b : BegunTree) (o : Option ActionTree)
    → numbered x.name d.top ≡ o → attempts_by o i.answers x.at b ≡ length (tries_of d (fresh s i) o x b)
tries_is d s i x b None is = refl
tries_is d s i x b (Some a) is = ap (λ p. length (tries_in i.answers (named (name_in p) x.at) b)) (sym is)

pub finish_is : (d : DefTree) (s : StartTree) (i : InputsTree) (x : Address) (b : BegunTree) (known : Table Row) (o : Option ActionTree)
    → numbered x.name d.top ≡ o
    → finished_by o (told_at d (fresh s i) x known) i.answers x.at b ≡ finished d (fresh s i) o x b known
finish_is d s i x b known None is = refl
finish_is d s i x b known (Some a) is =
    ap (λ p. tracked_row (told_at d (fresh s i) x known) a (leaf.ended i.answers (named (name_in p) x.at) b)
    (tries_in i.answers (named (name_in p) x.at) b)) (sym is)
