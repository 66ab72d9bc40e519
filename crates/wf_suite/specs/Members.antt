-- What a member of a test says, and what an absent one stands for. What isn't of the form has no say: tests are read from a value of the
-- form alone.
use Rattle.std.specs.Prelude.{ℕ, pos, List, [], ◌∷◌, map, Option, Some, None, codes}
use Rattle.wf_val.specs.Get.{get}
use Rattle.wf_val.specs.ValueTree.{ValueTree, number, text, list, object, items, pairs}
use Rattle.wf_suite.specs.declared.suite.Given.{Given}
use Rattle.wf_suite.specs.declared.suite.Wanted.{Wanted}

abbrev pub text_or_empty : Option ValueTree → List ℕ
text_or_empty (Some (text s)) = s
text_or_empty t = []

abbrev pub text_or_none : Option ValueTree → Option (List ℕ)
text_or_none (Some (text s)) = Some s
text_or_none t = None

abbrev pub number_or_none : Option ValueTree → Option ℕ
number_or_none (Some (number (pos n))) = Some n
number_or_none t = None

abbrev pub number_or_zero : Option ValueTree → ℕ
number_or_zero (Some (number (pos n))) = n
number_or_zero t = 0

abbrev pub items_or_none : Option ValueTree → List ValueTree
items_or_none (Some (list ts)) = items ts
items_or_none t = []

abbrev pub name_of : ValueTree → List ℕ
name_of t = text_or_empty (Some t)

abbrev pub names_of : Option ValueTree → List (List ℕ)
names_of t = map name_of (items_or_none t)

abbrev pub given_of : Option ValueTree → Given
given_of (Some (object ms)) = Given.Itself (pairs ms)
given_of t = Given.File (text_or_empty t)

-- one value is for the only record, a list has one for each
abbrev pub records_of : Option ValueTree → List ValueTree
records_of (Some (list ts)) = items ts
records_of (Some t) = t ∷ []
records_of None = []

abbrev pub refused_or : Option (List ℕ) → Option ValueTree → Wanted
refused_or (Some line) expected = Wanted.Refused line
refused_or None expected = Wanted.Records (records_of expected)

abbrev pub accepts_or : Option ℕ → Wanted → Wanted
accepts_or (Some n) wanted = Wanted.Accepts n
accepts_or None wanted = wanted

-- what is expected of a test
abbrev pub wanted_of : ValueTree → Wanted
wanted_of t =
    accepts_or (number_or_none (get (codes "accepts") t)) (refused_or (text_or_none (get (codes "refused") t)) (get (codes "expect") t))

-- the greatest peak that is allowed
abbrev pub most_in : Option ValueTree → Option ℕ
most_in (Some t) = number_or_none (get (codes "most") t)
most_in None = None
