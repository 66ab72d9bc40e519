-- Worked policies, and values that are none.
use Prim.Native.String.{String}
use Rattle.std.proofs.Common.{◌≡◌, ℕ, ◌^◌, ◌-◌, List, [], ◌∷◌, Ok, Err, true, refl}
use Rattle.std.specs.Prelude.{pos, neg_ℤ, codes}
use Rattle.wf_retry.specs.Reading.{policy_of}
use Rattle.wf_retry.specs.declared.policy.Policy.{Policy}
use Rattle.wf_retry.specs.declared.policy.PolicyFault.{PolicyFault}
use Rattle.wf_val.specs.ValueTree.{ValueTree, Member, null, boolean, number, text, list, trees, object, members}

abbrev word : String → ValueTree
word s = text (codes s)

abbrev whole : ℕ → ValueTree
whole n = number (pos n)

abbrev fields : List Member → ValueTree
fields ms = object (members ms)

-- a policy of a type alone
abbrev typed : String → ValueTree
typed s = fields ((codes "type", word s) ∷ [])

-- one with a count and an interval, which is a second
abbrev counted : ValueTree → String → ValueTree
counted n s = fields ((codes "count", n) ∷ (codes "interval", word "PT1S") ∷ (codes "type", word s) ∷ [])

-- a fixed one of two repetitions, with this interval
abbrev spaced : ValueTree → ValueTree
spaced i = fields ((codes "count", whole 2) ∷ (codes "interval", i) ∷ (codes "type", word "fixed") ∷ [])

-- an exponential one of two repetitions, whose interval is right, and with these bounds of it
abbrev bounded : List Member → ValueTree
bounded ms = fields ((codes "count", whole 2) ∷ (codes "interval", word "PT7S") ∷ ms)

abbrev exponential : Member
exponential = (codes "type", word "exponential")

abbrev least : ValueTree → Member
least v = (codes "minimumInterval", v)

abbrev greatest : ValueTree → Member
greatest v = (codes "maximumInterval", v)

-- types
default : policy_of (typed "default") ≡ Ok Policy.Standard
default = refl

none : policy_of (typed "none") ≡ Ok Policy.Never
none = refl

default-letter_case : policy_of (typed "DeFault") ≡ Ok Policy.Standard
default-letter_case = refl

none-letter_case : policy_of (typed "NONE") ≡ Ok Policy.Never
none-letter_case = refl

fixed-letter_case : policy_of (counted (whole 4) "Fixed") ≡ Ok (Policy.Count 4)
fixed-letter_case = refl

exponential-letter_case : policy_of (counted (whole 4) "EXPONENTIAL") ≡ Ok (Policy.Count 4)
exponential-letter_case = refl

type-another : policy_of (typed "linear") ≡ Err PolicyFault.BadType
type-another = refl

type-empty : policy_of (typed "") ≡ Err PolicyFault.BadType
type-empty = refl

type-with_a_blank : policy_of (typed "none ") ≡ Err PolicyFault.BadType
type-with_a_blank = refl

type-part : policy_of (typed "fix") ≡ Err PolicyFault.BadType
type-part = refl

type-with_more : policy_of (typed "fixedly") ≡ Err PolicyFault.BadType
type-with_more = refl

type-absent : policy_of (fields []) ≡ Err PolicyFault.BadType
type-absent = refl

type-absent_beside_others : policy_of (fields ((codes "count", whole 4) ∷ (codes "interval", word "PT1S") ∷ [])) ≡ Err PolicyFault.BadType
type-absent_beside_others = refl

type-null : policy_of (fields ((codes "type", null) ∷ [])) ≡ Err PolicyFault.BadType
type-null = refl

type-number : policy_of (fields ((codes "type", whole 4) ∷ [])) ≡ Err PolicyFault.BadType
type-number = refl

type-named_otherwise : policy_of (fields ((codes "Type", word "none") ∷ [])) ≡ Err PolicyFault.BadType
type-named_otherwise = refl

value-null : policy_of null ≡ Err PolicyFault.BadType
value-null = refl

value-truth : policy_of (boolean true) ≡ Err PolicyFault.BadType
value-truth = refl

value-number : policy_of (whole 4) ≡ Err PolicyFault.BadType
value-number = refl

value-text : policy_of (word "none") ≡ Err PolicyFault.BadType
value-text = refl

value-list : policy_of (list (trees (typed "none" ∷ []))) ≡ Err PolicyFault.BadType
value-list = refl

-- nothing else is looked at
default-with_more : policy_of (counted (whole 91) "default") ≡ Ok Policy.Standard
default-with_more = refl

none-with_more : policy_of (counted null "none") ≡ Ok Policy.Never
none-with_more = refl

default-with_a_wrong_interval : policy_of (fields ((codes "interval", word "1s") ∷ (codes "type", word "default") ∷ []))
    ≡ Ok Policy.Standard
default-with_a_wrong_interval = refl

-- counts
count-0 : policy_of (counted (whole 0) "fixed") ≡ Err (PolicyFault.Count (pos 0))
count-0 = refl

count-1 : policy_of (counted (whole 1) "fixed") ≡ Ok (Policy.Count 1)
count-1 = refl

count-90 : policy_of (counted (whole 90) "fixed") ≡ Ok (Policy.Count 90)
count-90 = refl

count-91 : policy_of (counted (whole 91) "fixed") ≡ Err (PolicyFault.Count (pos 91))
count-91 = refl

count-90_exponential : policy_of (counted (whole 90) "exponential") ≡ Ok (Policy.Count 90)
count-90_exponential = refl

count-91_exponential : policy_of (counted (whole 91) "exponential") ≡ Err (PolicyFault.Count (pos 91))
count-91_exponential = refl

count-negative : policy_of (counted (number (neg_ℤ (pos 1))) "fixed") ≡ Err (PolicyFault.Count (neg_ℤ (pos 1)))
count-negative = refl

count-greatest : policy_of (counted (whole (2 ^ 63 - 1)) "fixed") ≡ Err (PolicyFault.Count (pos (2 ^ 63 - 1)))
count-greatest = refl

count-least : policy_of (counted (number (neg_ℤ (pos (2 ^ 63)))) "fixed") ≡ Err (PolicyFault.Count (neg_ℤ (pos (2 ^ 63))))
count-least = refl

count-4_and_32_bits : policy_of (counted (whole 4294967300) "fixed") ≡ Err (PolicyFault.Count (pos 4294967300))
count-4_and_32_bits = refl

count-absent : policy_of (fields ((codes "interval", word "PT1S") ∷ (codes "type", word "fixed") ∷ [])) ≡ Err (PolicyFault.Count (pos 0))
count-absent = refl

count-null : policy_of (counted null "fixed") ≡ Err (PolicyFault.Count (pos 0))
count-null = refl

count-truth : policy_of (counted (boolean true) "fixed") ≡ Err (PolicyFault.Count (pos 0))
count-truth = refl

count-text : policy_of (counted (word "4") "fixed") ≡ Err (PolicyFault.Count (pos 0))
count-text = refl

count-named_otherwise : policy_of (fields ((codes "Count", whole 4) ∷ (codes "interval", word "PT1S") ∷ (codes "type", word "fixed")
    ∷ [])) ≡ Err (PolicyFault.Count (pos 0))
count-named_otherwise = refl

count-before_interval : policy_of (fields ((codes "count", whole 91) ∷ (codes "type", word "fixed") ∷ []))
    ≡ Err (PolicyFault.Count (pos 91))
count-before_interval = refl

type-before_count : policy_of (counted (whole 91) "linear") ≡ Err PolicyFault.BadType
type-before_count = refl

-- intervals
interval-right : policy_of (spaced (word "PT1S")) ≡ Ok (Policy.Count 2)
interval-right = refl

interval-days_and_time : policy_of (spaced (word "P1DT1H")) ≡ Ok (Policy.Count 2)
interval-days_and_time = refl

interval-wrong : policy_of (spaced (word "1s")) ≡ Err PolicyFault.Interval
interval-wrong = refl

interval-empty : policy_of (spaced (word "")) ≡ Err PolicyFault.Interval
interval-empty = refl

interval-without_parts : policy_of (spaced (word "PT")) ≡ Err PolicyFault.Interval
interval-without_parts = refl

interval-null : policy_of (spaced null) ≡ Err PolicyFault.Interval
interval-null = refl

interval-number : policy_of (spaced (whole 7)) ≡ Err PolicyFault.Interval
interval-number = refl

interval-absent : policy_of (fields ((codes "count", whole 2) ∷ (codes "type", word "fixed") ∷ [])) ≡ Err PolicyFault.Interval
interval-absent = refl

interval-absent_of_an_exponential : policy_of (fields ((codes "count", whole 2) ∷ (codes "type", word "exponential") ∷ []))
    ≡ Err PolicyFault.Interval
interval-absent_of_an_exponential = refl

interval-an_expression : policy_of (spaced (word "@variables('i')")) ≡ Err PolicyFault.Interval
interval-an_expression = refl

bounds-absent : policy_of (bounded (exponential ∷ [])) ≡ Ok (Policy.Count 2)
bounds-absent = refl

bounds-right : policy_of (bounded (greatest (word "PT1H") ∷ least (word "PT5S") ∷ exponential ∷ [])) ≡ Ok (Policy.Count 2)
bounds-right = refl

bounds-the_least_above_the_greatest : policy_of (bounded (greatest (word "PT5S") ∷ least (word "PT1H") ∷ exponential ∷ []))
    ≡ Ok (Policy.Count 2)
bounds-the_least_above_the_greatest = refl

bounds-least_wrong : policy_of (bounded (least (word "5") ∷ exponential ∷ [])) ≡ Err PolicyFault.Interval
bounds-least_wrong = refl

bounds-greatest_wrong : policy_of (bounded (greatest (word "5") ∷ exponential ∷ [])) ≡ Err PolicyFault.Interval
bounds-greatest_wrong = refl

bounds-greatest_wrong_beside_a_right_one : policy_of (bounded (greatest (word "5") ∷ least (word "PT5S") ∷ exponential ∷ []))
    ≡ Err PolicyFault.Interval
bounds-greatest_wrong_beside_a_right_one = refl

bounds-least_null : policy_of (bounded (least null ∷ exponential ∷ [])) ≡ Err PolicyFault.Interval
bounds-least_null = refl

bounds-greatest_null : policy_of (bounded (greatest null ∷ exponential ∷ [])) ≡ Err PolicyFault.Interval
bounds-greatest_null = refl

bounds-wrong_of_a_fixed_one : policy_of (bounded (least null ∷ (codes "type", word "fixed") ∷ [])) ≡ Err PolicyFault.Interval
bounds-wrong_of_a_fixed_one = refl
