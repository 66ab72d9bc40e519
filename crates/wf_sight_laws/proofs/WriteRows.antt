-- The numbers that rows write, in a worked definition.
use Rattle.std.proofs.Common.{◌≡◌, true, false, [], ◌∷◌, refl}
use Rattle.std.specs.Prelude.{None, Some, codes}
use Rattle.wf_val.specs.ValueTree.{no_members, null, object}
use Rattle.wf_layers.specs.Address.{address}
use Rattle.wf_asks.specs.Known.{writer}
use Rattle.wf_def.specs.ActionTree.{action_trees, append_array, compose, foreach, initialize}
use Rattle.wf_def.specs.DefTree.{DefTree}
use Rattle.wf_def.specs.declared.sort.Sort.{Sort}
use Rattle.wf_record.specs.Record.{Row}
use Rattle.wf_record.specs.declared.status.Status.{Status}
use Rattle.wf_meant_laws.proofs.Terms.{act, alone, initial, many, nat, of, of_actions, success_of, txt}
use Rattle.wf_sight.specs.CatalogVariables.{variable_number}
use Rattle.wf_sight_laws.specs.Writes.{numbers_written, writes}

-- C writes nothing; P writes in each iteration of L; V makes two variables, of which the second is written by no other.
abbrev writers : DefTree
writers = of_actions (
    act "C" 0 (success_of 2) (compose (txt "c"))
    ∷ act "L" 1 (success_of 3) (foreach (many (nat 1 ∷ nat 2 ∷ [])) 1 (action_trees (
    act "P" 2 [] (append_array (codes "v") (of (alone "item"))) ∷ [])))
    ∷ act "V" 3 [] (initialize (initial "v" Sort.List None ∷ initial "w" Sort.List None ∷ []))
    ∷ [])

abbrev ended_as : Status → Row
ended_as status = record {
  status = status;
  code = [];
  inputs = null;
  outputs = null;
  error = null;
  tracked = object no_members;
  attempts = [];
}

-- the names by which numbers go: v stands first at P and again at V, so w stands third
number-first : variable_number writers (codes "v") ≡ Some 0
number-first = refl

number-third : variable_number writers (codes "w") ≡ Some 2
number-third = refl

number-none : variable_number writers (codes "c") ≡ None
number-none = refl

-- whoever Succeeded writes all that it may
writes-one : numbers_written writers (address 2 (1 ∷ [])) (ended_as Status.Succeeded) ≡ 0 ∷ []
writes-one = refl

writes-two : numbers_written writers (address 3 []) (ended_as Status.Succeeded) ≡ 0 ∷ 2 ∷ []
writes-two = refl

-- any other status writes nothing
writes-failed : numbers_written writers (address 3 []) (ended_as Status.Failed) ≡ []
writes-failed = refl

writes-skipped : numbers_written writers (address 3 []) (ended_as Status.Skipped) ≡ []
writes-skipped = refl

writes-timed_out : numbers_written writers (address 3 []) (ended_as Status.TimedOut) ≡ []
writes-timed_out = refl

writes-cancelled : numbers_written writers (address 3 []) (ended_as Status.Cancelled) ≡ []
writes-cancelled = refl

-- nor does an address with an index too few or too many
writes-too_few : numbers_written writers (address 2 []) (ended_as Status.Succeeded) ≡ []
writes-too_few = refl

writes-too_many : numbers_written writers (address 3 (0 ∷ [])) (ended_as Status.Succeeded) ≡ []
writes-too_many = refl

-- nor an action that writes no variable, or that isn't there
writes-compose : numbers_written writers (address 0 []) (ended_as Status.Succeeded) ≡ []
writes-compose = refl

writes-loop : numbers_written writers (address 1 []) (ended_as Status.Succeeded) ≡ []
writes-loop = refl

writes-missing : numbers_written writers (address 9 []) (ended_as Status.Succeeded) ≡ []
writes-missing = refl

-- number by number, and by the writer's address
writes-second : writes writers 2 (address 3 []) (ended_as Status.Succeeded) ≡ true
writes-second = refl

writes-no_number : writes writers 1 (address 3 []) (ended_as Status.Succeeded) ≡ false
writes-no_number = refl

writer-itself : writer (writes writers) 0 (address 2 (1 ∷ [])) (ended_as Status.Succeeded) ≡ Some (address 2 (1 ∷ []))
writer-itself = refl

writer-none : writer (writes writers) 2 (address 2 (1 ∷ [])) (ended_as Status.Succeeded) ≡ None
writer-none = refl
