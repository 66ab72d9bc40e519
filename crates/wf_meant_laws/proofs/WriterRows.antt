-- What rows write to a variable, and the value of a writer, in a worked definition.
use Rattle.std.proofs.Common.{◌≡◌, [], ◌∷◌, refl}
use Rattle.std.specs.Prelude.{None, Some, codes}
use Rattle.wf_val.specs.ValueTree.{ValueTree, no_members, null, object}
use Rattle.wf_layers.specs.Address.{Table, address}
use Rattle.wf_seen_laws.specs.ActionTree.{action_trees, append_array, compose, foreach, initialize}
use Rattle.wf_seen_laws.specs.DefTree.{DefTree}
use Rattle.wf_seen_laws.specs.Sort.{Sort}
use Rattle.wf_record.specs.Record.{Row}
use Rattle.wf_record.specs.declared.status.Status.{Status}
use Rattle.wf_instance.proofs.Terms.{act, alone, fields, initial, many, nat, of, of_actions, success_of, txt, value, words}
use Rattle.wf_meant_laws.specs.Writers.{value_at, writes_to}

-- C tells the same as an action on variables would, but is none; P writes in each iteration of L; V makes two variables.
abbrev writers : DefTree
writers = of_actions (
    act "C" 0 (success_of 2) (compose (txt "c"))
    ∷ act "L" 1 (success_of 3) (foreach (many (nat 1 ∷ nat 2 ∷ [])) 1 (action_trees (
    act "P" 2 [] (append_array (codes "v") (of (alone "item"))) ∷ [])))
    ∷ act "V" 3 [] (initialize (initial "v" Sort.List None ∷ initial "w" Sort.List None ∷ []))
    ∷ [])

abbrev one_of : Status → ValueTree → Row
one_of status outputs = record {
  status = status;
  code = [];
  inputs = null;
  outputs = outputs;
  error = null;
  tracked = object no_members;
  attempts = [];
}

abbrev succeeded : ValueTree → Row
succeeded t = one_of Status.Succeeded (fields ((codes "body", fields ((codes "name", words "v") ∷ (codes "value", t) ∷ [])) ∷ []))

abbrev failed : Row
failed = one_of Status.Failed (fields ((codes "body", fields ((codes "name", words "v") ∷ (codes "value", value 1) ∷ [])) ∷ []))

-- a writer writes its address, in its iteration
writes-there : writes_to writers (codes "v") (address 2 (1 ∷ [])) (succeeded (value 7)) ≡ Some (address 2 (1 ∷ []))
writes-there = refl

-- whatever the value
writes-null : writes_to writers (codes "v") (address 2 (0 ∷ [])) (succeeded null) ≡ Some (address 2 (0 ∷ []))
writes-null = refl

-- only that variable
writes-no_other : writes_to writers (codes "w") (address 2 (1 ∷ [])) (succeeded (value 7)) ≡ None
writes-no_other = refl

-- what Failed writes nothing
writes-failed : writes_to writers (codes "v") (address 2 (1 ∷ [])) failed ≡ None
writes-failed = refl

-- a Compose that gives out the same is no writer, nor is what isn't there
writes-compose : writes_to writers (codes "v") (address 0 []) (succeeded (value 7)) ≡ None
writes-compose = refl

writes-missing : writes_to writers (codes "v") (address 9 []) (succeeded (value 7)) ≡ None
writes-missing = refl

-- one of two variables of a row that gives one
writes-first : writes_to writers (codes "v") (address 3 []) (succeeded (value 7)) ≡ Some (address 3 [])
writes-first = refl

writes-second : writes_to writers (codes "w") (address 3 []) (succeeded (value 7)) ≡ None
writes-second = refl

-- the value at a writer, and where there is none
abbrev known : Table Row
known x = Some (succeeded (value 7))

gave-there : value_at (codes "v") known (Some (address 2 (1 ∷ []))) ≡ Some (value 7)
gave-there = refl

gave-nowhere : value_at (codes "v") known None ≡ None
gave-nowhere = refl

gave-unknown : value_at (codes "v") (λ x. None) (Some (address 2 (1 ∷ []))) ≡ None
gave-unknown = refl
