-- Values of the functions that ask for the moment or draw a word, at worked calls; and which function each function on timestamps
-- is. A word itself, a SHA-256, doesn't compute here: its place in a value does.
use Rattle.std.proofs.Common.{◌≡◌, ℕ, refl, true, List, [], ◌∷◌, Ok, Err, None}
use Rattle.std.specs.Prelude.{ℤ, pos, negsuc, codes}
use Rattle.wf_val.specs.ValueTree.{null, boolean, number, text}
use Rattle.wf_val.specs.declared.fault.EvalFault.{EvalFault}
use Rattle.wf_val.specs.declared.function.Fun.{Fun}
use Rattle.wf_template.specs.ExprTree.{ExprTree, literal, call, expr_trees}
use Rattle.wf_look.specs.GuidForm.{GuidForm}
use Rattle.wf_look.specs.Draws.{identifier, guid_text, number_in}
use Rattle.wf_look.specs.Outcomes.{Outcome}
use Rattle.wf_look.specs.Rows.{fitted}
use Rattle.wf_look.specs.Timed.{timed_row}
use Rattle.wf_look.specs.Words.{word_of}
use Rattle.wf_look.specs.Told.{Told}
use Rattle.wf_eval_expr.specs.Value.{value}

-- a look at a moment
abbrev at_moment : ℤ → Told
at_moment m = record {
  parameter = λ k. None;
  variable = λ k. None;
  trigger = null;
  view = λ k. None;
  result = λ k. None;
  items = [];
  item_of = λ k. None;
  index_of = λ k. None;
  own = None;
  moment = m;
  run_name = [];
  seed = codes "s";
  place = codes "A";
}

-- 0001-01-01T01:00:00Z, where seven words were drawn
abbrev here : ExprTree → Outcome
here e = value (at_moment (pos 36000000000)) e 7

abbrev int : ℤ → ExprTree
int n = literal (number n)

abbrev word : List ℕ → ExprTree
word s = literal (text s)

abbrev truth : ExprTree
truth = literal (boolean true)

abbrev of : List ℕ → List ExprTree → ExprTree
of name es = call name (expr_trees es)

abbrev by_zero : ExprTree
by_zero = of (codes "div") (int (pos 1) ∷ int (pos 0) ∷ [])

-- ---- functions on timestamps: each is judged under its own name

addDays-is_its_own : here (of (codes "addDays") (truth ∷ truth ∷ [])) ≡ (Err (EvalFault.WrongType Fun.AddDays 1), 7)
addDays-is_its_own = refl

addHours-is_its_own : here (of (codes "addHours") (truth ∷ truth ∷ [])) ≡ (Err (EvalFault.WrongType Fun.AddHours 1), 7)
addHours-is_its_own = refl

addMinutes-is_its_own : here (of (codes "addMinutes") (truth ∷ truth ∷ [])) ≡ (Err (EvalFault.WrongType Fun.AddMinutes 1), 7)
addMinutes-is_its_own = refl

addSeconds-is_its_own : here (of (codes "addSeconds") (truth ∷ truth ∷ [])) ≡ (Err (EvalFault.WrongType Fun.AddSeconds 1), 7)
addSeconds-is_its_own = refl

addToTime-is_its_own : here (of (codes "addToTime") (truth ∷ truth ∷ truth ∷ [])) ≡ (Err (EvalFault.WrongType Fun.AddToTime 1), 7)
addToTime-is_its_own = refl

subtractFromTime-is_its_own :
    here (of (codes "subtractFromTime") (truth ∷ truth ∷ truth ∷ []))
    ≡ (Err (EvalFault.WrongType Fun.SubtractFromTime 1), 7)
subtractFromTime-is_its_own = refl

formatDateTime-is_its_own : here (of (codes "formatDateTime") (truth ∷ [])) ≡ (Err (EvalFault.WrongType Fun.FormatDateTime 1), 7)
formatDateTime-is_its_own = refl

startOfDay-is_its_own : here (of (codes "startOfDay") (truth ∷ [])) ≡ (Err (EvalFault.WrongType Fun.StartOfDay 1), 7)
startOfDay-is_its_own = refl

startOfHour-is_its_own : here (of (codes "startOfHour") (truth ∷ [])) ≡ (Err (EvalFault.WrongType Fun.StartOfHour 1), 7)
startOfHour-is_its_own = refl

startOfMonth-is_its_own : here (of (codes "startOfMonth") (truth ∷ [])) ≡ (Err (EvalFault.WrongType Fun.StartOfMonth 1), 7)
startOfMonth-is_its_own = refl

dayOfMonth-is_its_own : here (of (codes "dayOfMonth") (truth ∷ [])) ≡ (Err (EvalFault.WrongType Fun.DayOfMonth 1), 7)
dayOfMonth-is_its_own = refl

dayOfYear-is_its_own : here (of (codes "dayOfYear") (truth ∷ [])) ≡ (Err (EvalFault.WrongType Fun.DayOfYear 1), 7)
dayOfYear-is_its_own = refl

dayOfWeek-is_its_own : here (of (codes "dayOfWeek") (truth ∷ [])) ≡ (Err (EvalFault.WrongType Fun.DayOfWeek 1), 7)
dayOfWeek-is_its_own = refl

ticks-is_its_own : here (of (codes "ticks") (truth ∷ [])) ≡ (Err (EvalFault.WrongType Fun.Ticks 1), 7)
ticks-is_its_own = refl

dateDifference-is_its_own : here (of (codes "dateDifference") (truth ∷ truth ∷ [])) ≡ (Err (EvalFault.WrongType Fun.DateDifference 1), 7)
dateDifference-is_its_own = refl

-- ---- the moment

utcNow-at_the_moment : here (of (codes "utcNow") ([])) ≡ (fitted (timed_row Fun.UtcNow (pos 36000000000) []), 7)
utcNow-at_the_moment = refl

getFutureTime-at_the_moment :
    here (of (codes "getFutureTime") (int (pos 1) ∷ word (codes "Day") ∷ []))
    ≡ (fitted (timed_row Fun.GetFutureTime (pos 36000000000) (number (pos 1) ∷ text (codes "Day") ∷ [])), 7)
getFutureTime-at_the_moment = refl

getPastTime-at_the_moment :
    here (of (codes "getPastTime") (int (pos 1) ∷ word (codes "Day") ∷ []))
    ≡ (fitted (timed_row Fun.GetPastTime (pos 36000000000) (number (pos 1) ∷ text (codes "Day") ∷ [])), 7)
getPastTime-at_the_moment = refl

utcNow-no_text : here (of (codes "utcNow") (int (pos 1) ∷ [])) ≡ (Err (EvalFault.WrongType Fun.UtcNow 1), 7)
utcNow-no_text = refl

utcNow-counted : here (of (codes "utcNow") (word (codes "o") ∷ int (pos 1) ∷ [])) ≡ (Err (EvalFault.WrongType Fun.UtcNow 3), 7)
utcNow-counted = refl

utcNow-arguments_first : here (of (codes "utcNow") (by_zero ∷ [])) ≡ (Err (EvalFault.Range Fun.Div), 7)
utcNow-arguments_first = refl

getFutureTime-place_1 : here (of (codes "getFutureTime") (truth ∷ truth ∷ [])) ≡ (Err (EvalFault.WrongType Fun.GetFutureTime 1), 7)
getFutureTime-place_1 = refl

getFutureTime-place_2 :
    here (of (codes "getFutureTime") (int (pos 1) ∷ int (pos 2) ∷ []))
    ≡ (Err (EvalFault.WrongType Fun.GetFutureTime 2), 7)
getFutureTime-place_2 = refl

getFutureTime-place_3 :
    here (of (codes "getFutureTime") (int (pos 1) ∷ word (codes "Days") ∷ int (pos 2) ∷ []))
    ≡ (Err (EvalFault.WrongType Fun.GetFutureTime 3), 7)
getFutureTime-place_3 = refl

getFutureTime-counted : here (of (codes "getFutureTime") (int (pos 1) ∷ [])) ≡ (Err (EvalFault.WrongType Fun.GetFutureTime 2), 7)
getFutureTime-counted = refl

getPastTime-place_2 : here (of (codes "getPastTime") (int (pos 1) ∷ int (pos 2) ∷ [])) ≡ (Err (EvalFault.WrongType Fun.GetPastTime 2), 7)
getPastTime-place_2 = refl

moment-before_year_1 : value (at_moment (negsuc 0)) (of (codes "utcNow") []) 7 ≡ (Err (EvalFault.Range Fun.UtcNow), 7)
moment-before_year_1 = refl

moment-last : value (at_moment (pos 3155378976000000000)) (of (codes "utcNow") []) 7 ≡ (Err (EvalFault.Range Fun.UtcNow), 7)
moment-last = refl

-- ---- the place of a word: after the arguments and the words that they draw, and only where they pass

guid-by_default :
    here (of (codes "guid") ([]))
    ≡ (fitted (Ok (text (guid_text GuidForm.Dashed (identifier (word_of (codes "s") (codes "A") 7))))), 8)
guid-by_default = refl

guid-D :
    here (of (codes "guid") (word (codes "D") ∷ []))
    ≡ (fitted (Ok (text (guid_text GuidForm.Dashed (identifier (word_of (codes "s") (codes "A") 7))))), 8)
guid-D = refl

guid-N :
    here (of (codes "guid") (word (codes "N") ∷ []))
    ≡ (fitted (Ok (text (guid_text GuidForm.Digits (identifier (word_of (codes "s") (codes "A") 7))))), 8)
guid-N = refl

guid-B :
    here (of (codes "guid") (word (codes "B") ∷ []))
    ≡ (fitted (Ok (text (guid_text GuidForm.Braced (identifier (word_of (codes "s") (codes "A") 7))))), 8)
guid-B = refl

guid-P :
    here (of (codes "guid") (word (codes "P") ∷ []))
    ≡ (fitted (Ok (text (guid_text GuidForm.Parenthesized (identifier (word_of (codes "s") (codes "A") 7))))), 8)
guid-P = refl

guid-lower_case : here (of (codes "guid") (word (codes "d") ∷ [])) ≡ (Err (EvalFault.Range Fun.Guid), 7)
guid-lower_case = refl

guid-another_letter : here (of (codes "guid") (word (codes "X") ∷ [])) ≡ (Err (EvalFault.Range Fun.Guid), 7)
guid-another_letter = refl

guid-no_letter : here (of (codes "guid") (word (codes "") ∷ [])) ≡ (Err (EvalFault.Range Fun.Guid), 7)
guid-no_letter = refl

guid-two_letters : here (of (codes "guid") (word (codes "DD") ∷ [])) ≡ (Err (EvalFault.Range Fun.Guid), 7)
guid-two_letters = refl

guid-no_text : here (of (codes "guid") (int (pos 1) ∷ [])) ≡ (Err (EvalFault.WrongType Fun.Guid 1), 7)
guid-no_text = refl

rand-within :
    here (of (codes "rand") (int (pos 1) ∷ int (pos 5) ∷ []))
    ≡ (Ok (number (number_in (pos 1, pos 5) (word_of (codes "s") (codes "A") 7))), 8)
rand-within = refl

rand-second_word :
    here (of (codes "rand") (int (pos 1) ∷ of (codes "add") (of (codes "rand") (int (pos 1) ∷ int (pos 2) ∷ []) ∷ by_zero ∷ []) ∷ []))
    ≡ (Err (EvalFault.Range Fun.Div), 8)
rand-second_word = refl

rand-equal : here (of (codes "rand") (int (pos 5) ∷ int (pos 5) ∷ [])) ≡ (Err (EvalFault.Range Fun.Rand), 7)
rand-equal = refl

rand-greater : here (of (codes "rand") (int (pos 5) ∷ int (pos 1) ∷ [])) ≡ (Err (EvalFault.Range Fun.Rand), 7)
rand-greater = refl

rand-place_1 : here (of (codes "rand") (truth ∷ int (pos 1) ∷ [])) ≡ (Err (EvalFault.WrongType Fun.Rand 1), 7)
rand-place_1 = refl

rand-place_2 : here (of (codes "rand") (int (pos 1) ∷ truth ∷ [])) ≡ (Err (EvalFault.WrongType Fun.Rand 2), 7)
rand-place_2 = refl

rand-counted : here (of (codes "rand") (int (pos 1) ∷ [])) ≡ (Err (EvalFault.WrongType Fun.Rand 2), 7)
rand-counted = refl

rand-words_of_arguments_stay_drawn :
    here (of (codes "guid") (of (codes "rand") (int (pos 1) ∷ int (pos 5) ∷ []) ∷ []))
    ≡ (Err (EvalFault.WrongType Fun.Guid 1), 8)
rand-words_of_arguments_stay_drawn = refl
