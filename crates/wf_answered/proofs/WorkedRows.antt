-- A connector whose answers come one by one: it may be tried once more, and comes to 500 and then to 200.
use Rattle.std.proofs.Common.{◌≡◌, ℕ, true, false, List, [], ◌∷◌, None, map, nat_lt, refl}
use Rattle.std.specs.Prelude.{⊤, codes}
use Rattle.std.specs.Fmt.{digits}
use Rattle.wf_layers.specs.Address.{Address, address}
use Rattle.wf_layers.specs.Source.{Source}
use Rattle.wf_retry.specs.declared.policy.Outcome.{Outcome}
use Rattle.wf_retry.specs.declared.policy.Policy.{Policy}
use Rattle.wf_def.specs.ActionTree.{connector}
use Rattle.wf_def.specs.DefTree.{DefTree}
use Rattle.wf_answers.specs.Added.{with_added}
use Rattle.wf_answers.specs.AnswerTree.{AnswerTree}
use Rattle.wf_answers.specs.Inputs.{InputsTree}
use Rattle.wf_record.specs.Record.{Row}
use Rattle.wf_record.specs.declared.attempt.Try.{Try}
use Rattle.wf_record.specs.declared.status.Status.{Status}
use Rattle.wf_meant.specs.Decisions.{DecisionTree}
use Rattle.wf_meant.specs.Verdicts.{VerdictTree}
use Rattle.wf_meant.specs.Leaf.{BegunTree, acted, calling}
use Rattle.wf_meant.specs.Environment.{fresh}
use Rattle.wf_meant.specs.Source.{source, unknown}
use Rattle.wf_meant.proofs.Terms as terms
use Rattle.wf_meant.proofs.Terms.{act, fields, nat, of_actions, replied, started, value}
use Rattle.wf_quiet.specs.Quiet.{came}
use Rattle.wf_answered.specs.Answered.{answered}

-- codes are numbers in decimal
unfoldable in_decimal : ⊤
unfolding digits
in_decimal = tt

abbrev calls : DefTree
calls = of_actions (act "A" 0 [] (connector (nat 1) (Policy.Count 1)) ∷ [])

abbrev call : Address
call = address 0 []

-- what it has from its start on
abbrev called : BegunTree
called = calling (value 1) (Policy.Count 1)

abbrev reply : ℕ → ℕ → AnswerTree
reply attempt code = replied "A" [] attempt (Outcome.Code code) (fields []) (value attempt)

abbrev given : List AnswerTree → InputsTree
given answers = (terms.answered answers).inputs

abbrev none : InputsTree
none = given []

abbrev one : InputsTree
one = given (reply 1 500 ∷ [])

abbrev two : InputsTree
two = given (reply 1 500 ∷ reply 2 200 ∷ [])

abbrev means : InputsTree → Source Row BegunTree DecisionTree VerdictTree
means inputs = source calls (fresh started inputs)

abbrev row : InputsTree → Row
row inputs = (means inputs).finish call called (λ y. None)

-- ---- they come one by one, and in any order

first-comes : with_added none (reply 1 500) ≡ one
first-comes = refl

second-comes : with_added one (reply 2 200) ≡ two
second-comes = refl

first-comes_last : with_added (given (reply 2 200 ∷ [])) (reply 1 500) ≡ two
first-comes_last = refl

-- ---- which attempts are answered

none-answered : map (answered calls none call) (0 ∷ 1 ∷ 2 ∷ []) ≡ false ∷ false ∷ false ∷ []
none-answered = refl

one-answered : map (answered calls one call) (0 ∷ 1 ∷ 2 ∷ []) ≡ false ∷ true ∷ false ∷ []
one-answered = refl

two-answered : map (answered calls two call) (0 ∷ 1 ∷ 2 ∷ 3 ∷ []) ≡ false ∷ true ∷ true ∷ false ∷ []
two-answered = refl

-- not those of an iteration, nor those of a number that no action has
elsewhere-answered : map (λ x. answered calls two x 1) (address 0 (0 ∷ []) ∷ address 1 [] ∷ []) ≡ false ∷ false ∷ []
elsewhere-answered = refl

-- ---- how many attempts there are: without an answer the last is one that has none

tries : map (λ inputs. (means inputs).tries call called) (none ∷ one ∷ two ∷ []) ≡ 1 ∷ 2 ∷ 2 ∷ []
tries = refl

-- whether another follows the first isn't known before it is answered: both sources say other things, and this attempt hasn't come
first-follows : map (λ inputs. nat_lt 1 ((means inputs).tries call called)) (none ∷ one ∷ two ∷ []) ≡ false ∷ true ∷ true ∷ []
first-follows = refl

first-came : map (λ inputs. came (answered calls inputs) call 1) (none ∷ one ∷ two ∷ []) ≡ false ∷ true ∷ true ∷ []
first-came = refl

-- that the first is made is known from the start
start-came : came (answered calls none) call 0 ≡ true
start-came = refl

-- what isn't to be tried again is the last at once, and so is what is tried as often as the policy allows
lost-tries : (means (given (reply 1 404 ∷ []))).tries call called ≡ 1
lost-tries = refl

spent-tries : (means (given (reply 1 500 ∷ reply 2 500 ∷ []))).tries call called ≡ 2
spent-tries = refl

-- a further answer that no attempt asks for changes nothing
further-tries : (means (with_added two (reply 3 200))).tries call called ≡ 2
further-tries = refl

-- what calls nothing, and what no action is, makes no attempt
acted-tries : (means one).tries call (acted unknown) ≡ 0
acted-tries = refl

unknown-tries : (means one).tries (address 1 []) called ≡ 0
unknown-tries = refl

-- ---- its row, by the answers that there are

row-statuses : map (λ inputs. (row inputs).status) (none ∷ one ∷ two ∷ []) ≡ Status.Failed ∷ Status.Failed ∷ Status.Succeeded ∷ []
row-statuses = refl

row-codes : map (λ inputs. (row inputs).code) (none ∷ one ∷ two ∷ []) ≡ codes "NoAnswer" ∷ codes "NoAnswer" ∷ codes "200" ∷ []
unfolding in_decimal
row-codes = refl

row-attempts : (row two).attempts ≡ Try.Code 500 ∷ Try.Code 200 ∷ []
row-attempts = refl

-- a further answer leaves it as it is
row-further : row (with_added two (reply 3 500)) ≡ row two
row-further = refl
