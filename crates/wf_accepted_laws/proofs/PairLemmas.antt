-- Where no pair breaks a rule on two actions, and what is known of actions by their numbers.
use Rattle.std.proofs.Common.{◌≡◌, ◌++◌, ℕ, Bool, true, false, codes, List, [], ◌∷◌, map, inl, inr, nat_eq, refl, sym, ap, true≢false}
use Rattle.std.specs.Prelude.{◌||◌}
use Rattle.std.specs.List.{AllByRecursion, list_any}
use Rattle.std.proofs.lemmas.Bool.{eq-eqb, eqb-true}
use Rattle.wf_layers.specs.Definition.{Graph, has}
use Rattle.wf_known_laws.specs.DefTree.{DefTree}
use Rattle.wf_known_laws.proofs.RunAfterLemmas.{append-second, map-none}
use Rattle.wf_rules.specs.Broken.{first_pointer, offences, pairs_told, parameter_pointer, told, told_in}
use Rattle.wf_rules.specs.Rules.{action_breaks, output_breaks, parameter_breaks, trigger_breaks}
use Rattle.wf_rules.specs.Rule.{Rule}
use Rattle.wf_rules.specs.Standing.{StandingTree, number_at, pointer_at, standings_of}
use Rattle.wf_rules.specs.Whole.{Whole, whole_of}
use Rattle.wf_rules.specs.Pairs.{pairs_of}
use Rattle.wf_rules.specs.PairRule.{PairRule}
use Rattle.wf_accepted_laws.proofs.SeenLemmas.{either}

-- where nothing breaks a rule, no pair does
last-told : (d : DefTree) (rule : Rule) → offences d rule ≡ [] → pairs_told (whole_of d) (standings_of d.top) rule ≡ []
last-told d rule none =
    let w : Whole = whole_of d in
    let actions : List (List ℕ) = told (action_breaks w rule) pointer_at (standings_of d.top) in
    let outputs : List (List ℕ) = told_in (codes "/outputs") (output_breaks w rule) 0 (map (λ o. o.name) d.outputs) in
    let parameters : List (List ℕ) = told (parameter_breaks d.given rule) parameter_pointer d.parameters in
    let triggers : List (List ℕ) = told_in (codes "/triggers") (trigger_breaks w rule) 0 (map (λ t. t.name) d.triggers) in
    let pairs : List (List ℕ) = pairs_told w (standings_of d.top) rule in
    append-second triggers pairs
    (append-second parameters (triggers ++ pairs)
    (append-second outputs (parameters ++ (triggers ++ pairs))
    (append-second actions (outputs ++ (parameters ++ (triggers ++ pairs))) none)))

pub no-variable-pairs : (d : DefTree) → offences d Rule.Accesses ≡ [] → pairs_of d PairRule.Variables ≡ []
no-variable-pairs d none = map-none first_pointer (pairs_of d PairRule.Variables) (last-told d Rule.Accesses none)

pub no-end-pairs : (d : DefTree) → offences d Rule.Terminates ≡ [] → pairs_of d PairRule.Terminates ≡ []
no-end-pairs d none = map-none first_pointer (pairs_of d PairRule.Terminates) (last-told d Rule.Terminates none)

pub no-answer-pairs : (d : DefTree) → offences d Rule.Responses ≡ [] → pairs_of d PairRule.Responses ≡ []
no-answer-pairs d none = map-none first_pointer (pairs_of d PairRule.Responses) (last-told d Rule.Responses none)

-- ---- the action of a number

pub record Picked (P : StandingTree → Type 0) (m : ℕ) : Type 0 where
  pub standing : StandingTree
  pub number : number_at standing ≡ m
  pub holds : P standing

pub picked : (P : StandingTree → Type 0) (ss : List StandingTree) (m : ℕ) → AllByRecursion P ss
    → list_any (nat_eq m) (map number_at ss) ≡ true → Picked P m
picked P [] m all among = absurd (true≢false (sym among))
picked P (s ∷ ss) m all among = elim (either (nat_eq m (number_at s)) (list_any (nat_eq m) (map number_at ss)) among) [
  | inl is ↦ record { standing = s; number = sym (eqb-true m (number_at s) is); holds = all.0 }
  | inr later ↦ picked P ss m all.1 later
]

-- ---- the numbers of all actions

pub all-numbered : (g : Graph) (ss : List StandingTree)
    → ((m : ℕ) → list_any (nat_eq m) (map number_at ss) ≡ true → has g m ≡ true)
    → AllByRecursion (λ s. has g (number_at s) ≡ true) ss
all-numbered g [] there = tt
all-numbered g (s ∷ ss) there = (
  there (number_at s)
      (ap (λ (b : Bool). b || list_any (nat_eq (number_at s)) (map number_at ss)) (eq-eqb (number_at s) (number_at s) refl)),
  all-numbered g ss (λ m among. there m (or-right (nat_eq m (number_at s)) (list_any (nat_eq m) (map number_at ss)) among)),
)
  where
    or-right : (b c : Bool) → c ≡ true → (b || c) ≡ true
    or-right true c is = refl
    or-right false c is = is
