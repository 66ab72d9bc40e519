-- Which rule a definition breaks first, and where.
use Rattle.std.specs.Prelude.{ℕ, List, [], ◌∷◌, Option, option_map, unwrap_or, codes}
use Rattle.wf_first.specs.First.{first_broken}
use Rattle.wf_val.specs.ValueTree.{ValueTree}
use Rattle.wf_val.specs.Get.{get}
use Rattle.wf_form.specs.Places.{places}
use Rattle.wf_form.specs.Whole.{whole_of}
use Rattle.wf_form.specs.declared.role.Role.{Role}
use Rattle.wf_form.specs.declared.rule.Rule.{Rule}

-- the pointers of all places that break a rule
abbrev pub offences : ValueTree → Rule → List (List ℕ)
offences definition rule = places rule (whole_of definition) Role.Definition [] definition

-- the rules, in the order of their numbers
abbrev pub rules_in_order : List Rule
rules_in_order =
    Rule.Form ∷ Rule.Schema ∷ Rule.Limits ∷ Rule.Names ∷ Rule.Types ∷ Rule.Members ∷ Rule.Expressions ∷ Rule.RunAfter ∷ []

-- the first of them that is broken, with the least pointer
abbrev pub first_fault : ValueTree → Option (Rule × List ℕ)
first_fault definition = first_broken (offences definition) rules_in_order

-- ---- of a file

-- the definition in a file: the member `definition`, whatever it is, of an object that has one, or else the file itself
abbrev pub inner_of : ValueTree → ValueTree
inner_of file = unwrap_or (get (codes "definition") file) file

abbrev pub rule_number : Rule → ℕ
rule_number Rule.Form = 1
rule_number Rule.Schema = 2
rule_number Rule.Limits = 3
rule_number Rule.Names = 4
rule_number Rule.Types = 5
rule_number Rule.Members = 6
rule_number Rule.Expressions = 7
rule_number Rule.RunAfter = 8

-- the number of the first rule that the definition in a file breaks, and the pointer within the definition
abbrev pub fault_of : ValueTree → Option (ℕ × List ℕ)
fault_of file = option_map (λ f. (rule_number f.0, f.1)) (first_fault (inner_of file))
