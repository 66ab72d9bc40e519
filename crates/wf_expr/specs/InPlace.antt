-- What taking a character in place does: a step that leaves what is open as it is, or nothing.
use Rattle.std.specs.Prelude.{◌≡◌, ℕ, ⊤, Bool, true, false, List, Some}
use Rattle.wf_expr.specs.declared.character.Character.{Character}
use Rattle.wf_expr.specs.declared.kind.Kind.TheVariants.{Blank}
use Rattle.wf_expr.specs.Machine.{Stack, plain, in_quoted, in_name, in_member, plain_step, quoted_step, step_at}
use Rattle.wf_expr.specs.ModeSeen.{mode_seen}
use Rattle.wf_expr.specs.Reading.{Item}
use Rattle.wf_expr.specs.declared.mode.Mode.{Mode}
use Rattle.wf_template.specs.ExprTree.{ExprTree}

abbrev pub IsTaken : Bool → Mode → Mode → Stack → Character → Type 0
IsTaken true old new k c = step_at (mode_seen old) k c.value c.kind c.at ≡ Some (mode_seen new, k)
IsTaken false old new k c = mode_seen new ≡ mode_seen old

abbrev pub IsTakenInText : Bool → List Item → List Item → Character → Type 0
IsTakenInText true old new c = (k : Stack) → plain_step old k c.value c.kind ≡ Some (plain new, k)
IsTakenInText false old new c = new ≡ old

abbrev pub IsTakenInQuotes : Bool → List ℕ → List ℕ → Character → Type 0
IsTakenInQuotes true old new c = (k : Stack) → quoted_step old k c.value c.kind ≡ Some (in_quoted new, k)
IsTakenInQuotes false old new c = new ≡ old

abbrev pub IsTakenInName : Bool → List ℕ → List ℕ → Stack → Character → Type 0
IsTakenInName true old new k c = step_at (in_name old) k c.value c.kind c.at ≡ Some (in_name new, k)
IsTakenInName false old new k c = new ≡ old

abbrev pub IsTakenInMember : Bool → List ℕ → List ℕ → Character → Type 0
IsTakenInMember true old new c =
    (b : ExprTree) (soft : Bool) (k : Stack) → step_at (in_member b soft old) k c.value c.kind c.at ≡ Some (in_member b soft new, k)
IsTakenInMember false old new c = new ≡ old

-- white space leaves the reader where it stands between two parts
abbrev pub IsTakenAsBlank : Bool → Character → Type 0
IsTakenAsBlank true c = c.kind ≡ Blank
IsTakenAsBlank false c = ⊤
