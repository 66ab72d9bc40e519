-- What an If, an Until, a Switch and a Foreach are decided by, by a value of each type, and that a fault is told as it is.
use Rattle.std.proofs.Common.{◌≡◌, refl, ℕ, List, [], ◌∷◌, map, true, false, Ok, Err}
use Rattle.std.specs.Prelude.{ℤ, codes, replicate}
use Rattle.wf_val.specs.ValueTree.{null, boolean, number, text}
use Rattle.wf_val.specs.declared.fault.EvalFault.{EvalFault}
use Rattle.wf_val.specs.declared.function.Fun.{Fun}
use Rattle.wf_def.specs.ActionTree.{CaseTrees}
use Rattle.wf_data.proofs.RowParts.{plus, items, fields}
use Rattle.wf_opening.specs.Decisions.{branch_from, chosen, chosen_as, each_as, faulty, held_as, items_of, taken}
use Rattle.wf_opening.specs.Verdicts.{astray, ends, met_as}

if-others :
    map held_as (Ok null ∷ Ok (plus 0) ∷ Ok (plus 1) ∷ Ok (text (codes "true")) ∷ Ok (items []) ∷ Ok (fields []) ∷ [])
    ≡ replicate 6 (faulty (EvalFault.WrongType Fun.Condition 1))
if-others = refl

if-fault : (f : EvalFault) → held_as (Err f) ≡ faulty f
if-fault f = refl

until-others :
    map met_as (Ok null ∷ Ok (plus 0) ∷ Ok (plus 1) ∷ Ok (text (codes "true")) ∷ Ok (items []) ∷ Ok (fields []) ∷ [])
    ≡ replicate 6 (astray (EvalFault.WrongType Fun.Condition 1))
until-others = refl

until-fault : (f : EvalFault) → met_as (Err f) ≡ astray f
until-fault f = refl

-- whatever cases there are
switch-others : (cases : CaseTrees) →
    map (chosen_as cases) (Ok null ∷ Ok (boolean true) ∷ Ok (boolean false) ∷ Ok (items []) ∷ Ok (fields []) ∷ [])
    ≡ replicate 5 (faulty (EvalFault.WrongType Fun.Switch 1))
switch-others cases = refl

-- any text and any number is a value, the empty text and 0 among them
switch-text : (cases : CaseTrees) (s : List ℕ) → chosen_as cases (Ok (text s)) ≡ chosen (text s) (branch_from 1 cases (text s))
switch-text cases s = refl

switch-number : (cases : CaseTrees) (n : ℤ) → chosen_as cases (Ok (number n)) ≡ chosen (number n) (branch_from 1 cases (number n))
switch-number cases n = refl

switch-fault : (cases : CaseTrees) (f : EvalFault) → chosen_as cases (Err f) ≡ faulty f
switch-fault cases f = refl

foreach-others :
    map each_as (Ok null ∷ Ok (boolean true) ∷ Ok (boolean false) ∷ Ok (plus 0) ∷ Ok (text []) ∷ Ok (fields []) ∷ [])
    ≡ replicate 6 (faulty (EvalFault.WrongType Fun.Foreach 1))
foreach-others = refl

foreach-fault : (f : EvalFault) → each_as (Err f) ≡ faulty f
foreach-fault f = refl

-- whatever the fault is, it means no branch and no item, and ends an Until
taken-faulty : (f : EvalFault) → taken (faulty f) ≡ 0
taken-faulty f = refl

items-faulty : (f : EvalFault) → items_of (faulty f) ≡ 0
items-faulty f = refl

ends-astray : (f : EvalFault) → ends (astray f) ≡ true
ends-astray f = refl
