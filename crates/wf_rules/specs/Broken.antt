-- Which rule on what it names a definition breaks first, and where.
use Rattle.std.specs.Prelude.{ℕ, suc, List, [], ◌∷◌, ◌++◌, map, Bool, cond, codes, Option, option_map}
use Rattle.wf_first.specs.First.{first_broken}
use Rattle.wf_json.specs.Pointer.{member_step}
use Rattle.wf_val.specs.Cut.{cut_u32}
use Rattle.wf_varorder.specs.DefTree.{DefTree, ParamTree}
use Rattle.wf_varorder.specs.ReadSeen.{rule_fault}
use Rattle.wf_varorder.specs.RuleFault.{RuleFault}
use Rattle.wf_breaks.specs.Rules.{action_breaks, output_breaks, parameter_breaks, rule_number, trigger_breaks}
use Rattle.wf_varorder.specs.Standing.{StandingTree, pointer_at, standings_of}
use Rattle.wf_varorder.specs.Whole.{Whole, whole_of}
use Rattle.wf_varorder.specs.Pairs.{Pair, pairs_among}
use Rattle.wf_varorder.specs.declared.rule.PairRule.{PairRule}
use Rattle.wf_breaks.specs.declared.rule.Rule.{Rule}

-- the pointers of what is broken
abbrev pub told : {X : Type 0} → (X → Bool) → (X → List ℕ) → List X → List (List ℕ)
told broken pointer [] = []
told broken pointer (x ∷ xs) = cond (broken x) (pointer x ∷ []) [] ++ told broken pointer xs

-- Of the members of a section that have these names, from the place i on, those of the broken ones. A place is cut as that of a site is.
abbrev pub told_in : List ℕ → (ℕ → Bool) → ℕ → List (List ℕ) → List (List ℕ)
told_in section broken i [] = []
told_in section broken i (name ∷ names) = cond (broken (cut_u32 i)) ((section ++ member_step name) ∷ []) []
    ++ told_in section broken (suc i) names

abbrev pub parameter_pointer : ParamTree → List ℕ
parameter_pointer p = codes "/parameters" ++ member_step p.name

-- The pointers at which pairs of actions are told that break a rule on two. Which pair is told first is nothing to the pointer.
abbrev pub first_pointer : Pair → List ℕ
first_pointer p = pointer_at p.0

abbrev pub pairs_told : Whole → List StandingTree → Rule → List (List ℕ)
pairs_told whole all Rule.Accesses = map first_pointer (pairs_among whole PairRule.Variables all all)
pairs_told whole all Rule.Terminates = map first_pointer (pairs_among whole PairRule.Terminates all all)
pairs_told whole all Rule.Responses = map first_pointer (pairs_among whole PairRule.Responses all all)
pairs_told whole all rule = []

-- the pointers of all that breaks a rule
abbrev pub offences : DefTree → Rule → List (List ℕ)
offences d rule =
    told (action_breaks (whole_of d) rule) pointer_at (standings_of d.top)
    ++ (told_in (codes "/outputs") (output_breaks (whole_of d) rule) 0 (map (λ o. o.name) d.outputs)
    ++ (told (parameter_breaks d.given rule) parameter_pointer d.parameters
    ++ (told_in (codes "/triggers") (trigger_breaks (whole_of d) rule) 0 (map (λ t. t.name) d.triggers)
    ++ pairs_told (whole_of d) (standings_of d.top) rule)))

-- the rules in the order of their numbers
abbrev pub rules_in_order : List Rule
rules_in_order =
    Rule.References ∷ Rule.Parameters ∷ Rule.Variables ∷ Rule.Initialised ∷ Rule.Accesses ∷ Rule.Items ∷ Rule.Terminates ∷ Rule.Responses
    ∷ Rule.Ends ∷ Rule.LoopsLeft ∷ Rule.Results ∷ Rule.Tracked ∷ Rule.Triggers ∷ []

-- the first rule that a definition breaks, as a fault
abbrev pub broken_of : DefTree → Option RuleFault
broken_of d = option_map (λ f. rule_fault (rule_number f.0, f.1)) (first_broken (offences d) rules_in_order)
