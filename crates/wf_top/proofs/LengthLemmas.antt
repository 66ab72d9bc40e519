-- How many words a command has at least.
use Rattle.std.proofs.Common.{◌≡◌, ◌⊎◌, ℕ, ◌<◌, ◌≤◌, Bool, true, false, cond, ◌&&◌, ◌||◌, List, [], ◌∷◌, length}
use Rattle.std.proofs.Common.{Option, None, Some, inl, inr, ap, refl, subst, sym, arith}
use Rattle.std.specs.Prelude.{codes, nat_eq, nat_le}
use Rattle.std.specs.Str.{bytes_eq}
use Rattle.std.proofs.lemmas.Bool.{and_parts, eqb-true}
use Rattle.std.proofs.lemmas.Bool.Decides.{nat_tests}
use Rattle.wf_fn_time.specs.Reading.{read_time}
use Rattle.wf_top.specs.Words.{command_of, count_of, digits_from, drill_of, drill_with, fires_of, fires_with, is_command}
use Rattle.wf_top.specs.Words.{is_command_within, makes_runs, resubmits, size_of, within_size, word}
use Rattle.wf_top.specs.declared.words.Command.{Command}
use Rattle.wf_top.specs.declared.words.Command.TheVariants.{Check, Run, Trace, Resubmit, ResubmitSet, Drill, Fires, Session}

-- what words are that are no other command
abbrev last-command : List (List ℕ) → Option Command
last-command words =
    cond (is_command (codes "drill") 1 words) (drill_of (word words 1)) (cond (is_command (codes "session") 2 words) (Some Session) None)

no-fires : (e t : Bool) (size : Option ℕ) (from count : ℕ)
    → cond e (drill_with size) (cond t (Some Session) None) ≡ Some (Fires from count) → ⊥
no-fires true t (Some n) from count is = cc
no-fires true t None from count is = cc
no-fires false true size from count is = cc
no-fires false false size from count is = cc

other-commands : (a b c l r s d : Bool) (fires last : Option Command) (from count : ℕ) → (last ≡ Some (Fires from count) → ⊥)
    → cond a (Some Check) (cond b (Some Run) (cond c (Some Trace) (cond l (Some Command.List)
    (cond r (Some Resubmit) (cond s (Some ResubmitSet) (cond d fires last))))))
    ≡ Some (Fires from count) → (d ≡ true) × (fires ≡ Some (Fires from count))
other-commands true b c l r s d fires last from count other is = absurd cc
other-commands false true c l r s d fires last from count other is = absurd cc
other-commands false false true l r s d fires last from count other is = absurd cc
other-commands false false false true r s d fires last from count other is = absurd cc
other-commands false false false false true s d fires last from count other is = absurd cc
other-commands false false false false false true d fires last from count other is = absurd cc
other-commands false false false false false false true fires last from count other is = (refl, is)
other-commands false false false false false false false fires last from count other is = absurd (other is)

named : (words : List (List ℕ)) (from count : ℕ) → command_of words ≡ Some (Fires from count)
    → (is_command (codes "fires") 4 words ≡ true) × (fires_of (word words 3) (word words 4) ≡ Some (Fires from count))
named words from count is =
    other-commands (is_command (codes "check") 1 words)
    (is_command (codes "run") 2 words || is_command (codes "run") 3 words) (is_command (codes "trace") 3 words)
    (is_command (codes "list") 1 words) (is_command (codes "resubmit") 5 words || is_command (codes "resubmit") 6 words)
    (is_command_within (codes "resubmit-set") 6 505 words) (is_command (codes "fires") 4 words)
    (fires_of (word words 3) (word words 4)) (last-command words) from count
    (no-fires (is_command (codes "drill") 1 words) (is_command (codes "session") 2 words) (size_of (word words 1)) from count) is

-- a command with so many words behind
many-words : (name : List ℕ) (n : ℕ) (words : List (List ℕ)) → is_command name n words ≡ true → n < length words
many-words name n [] is = absurd cc
many-words name n (first ∷ rest) is =
    let same : length rest ≡ n = eqb-true (length rest) n (and_parts (bytes_eq first name) (nat_eq (length rest) n) is).1 in
    omega (arith, same)

pub fires_length : (words : List (List ℕ)) (from count : ℕ) → command_of words ≡ Some (Fires from count) → 4 < length words
fires_length words from count is = many-words (codes "fires") 4 words (named words from count is).0

-- ---- the commands that resubmit

-- what comes of `fires` is no other command
only-fires : (from count : Option ℕ) (command : Command) → fires_with from count ≡ Some command → resubmits command ≡ false
only-fires (Some from) (Some count) command is =
    let same : Fires from count ≡ command = cc in subst (λ c. resubmits c ≡ false) same refl
only-fires (Some from) None command is = absurd cc
only-fires None count command is = absurd cc

only-last : (e t : Bool) (size : Option ℕ) (command : Command)
    → cond e (drill_with size) (cond t (Some Session) None) ≡ Some command → resubmits command ≡ false
only-last true t (Some n) command is = let same : Drill n ≡ command = cc in subst (λ c. resubmits c ≡ false) same refl
only-last true t None command is = absurd cc
only-last false true size command is = let same : Session ≡ command = cc in subst (λ c. resubmits c ≡ false) same refl
only-last false false size command is = absurd cc

resubmit-there : (a b c l r s d : Bool) (fires last : Option Command)
    → ((command : Command) → fires ≡ Some command → resubmits command ≡ false)
    → ((command : Command) → last ≡ Some command → resubmits command ≡ false)
    → cond a (Some Check) (cond b (Some Run) (cond c (Some Trace) (cond l (Some Command.List)
    (cond r (Some Resubmit) (cond s (Some ResubmitSet) (cond d fires last))))))
    ≡ Some Resubmit → r ≡ true
resubmit-there true b c l r s d fires last other none is = absurd cc
resubmit-there false true c l r s d fires last other none is = absurd cc
resubmit-there false false true l r s d fires last other none is = absurd cc
resubmit-there false false false true r s d fires last other none is = absurd cc
resubmit-there false false false false true s d fires last other none is = refl
resubmit-there false false false false false true d fires last other none is = absurd cc
resubmit-there false false false false false false true fires last other none is = absurd (let no : true ≡ false = other Resubmit is in cc)
resubmit-there false false false false false false false fires last other none is =
    absurd (let no : true ≡ false = none Resubmit is in cc)

set-there : (a b c l r s d : Bool) (fires last : Option Command)
    → ((command : Command) → fires ≡ Some command → resubmits command ≡ false)
    → ((command : Command) → last ≡ Some command → resubmits command ≡ false)
    → cond a (Some Check) (cond b (Some Run) (cond c (Some Trace) (cond l (Some Command.List)
    (cond r (Some Resubmit) (cond s (Some ResubmitSet) (cond d fires last))))))
    ≡ Some ResubmitSet → s ≡ true
set-there true b c l r s d fires last other none is = absurd cc
set-there false true c l r s d fires last other none is = absurd cc
set-there false false true l r s d fires last other none is = absurd cc
set-there false false false true r s d fires last other none is = absurd cc
set-there false false false false true s d fires last other none is = absurd cc
set-there false false false false false true d fires last other none is = refl
set-there false false false false false false true fires last other none is = absurd (let no : true ≡ false = other ResubmitSet is in cc)
set-there false false false false false false false fires last other none is =
    absurd (let no : true ≡ false = none ResubmitSet is in cc)

either : (a b : Bool) → a || b ≡ true → (a ≡ true) ⊎ (b ≡ true)
either true b is = inl refl
either false b is = inr is

pub resubmit_length : (words : List (List ℕ)) → command_of words ≡ Some Resubmit → 5 < length words
resubmit_length words is =
    let there = resubmit-there (is_command (codes "check") 1 words)
    (is_command (codes "run") 2 words || is_command (codes "run") 3 words) (is_command (codes "trace") 3 words)
    (is_command (codes "list") 1 words) (is_command (codes "resubmit") 5 words || is_command (codes "resubmit") 6 words)
    (is_command_within (codes "resubmit-set") 6 505 words) (is_command (codes "fires") 4 words)
    (fires_of (word words 3) (word words 4)) (last-command words) (only-fires (read_time (word words 3)) (count_of (word words 4)))
    (only-last (is_command (codes "drill") 1 words) (is_command (codes "session") 2 words) (size_of (word words 1))) is in
    elim (either (is_command (codes "resubmit") 5 words) (is_command (codes "resubmit") 6 words) there) [
      | inl five ↦ many-words (codes "resubmit") 5 words five
      | inr six ↦ (let more : 6 < length words = many-words (codes "resubmit") 6 words six in omega (arith, more))
    ]

within-words : (name : List ℕ) (least most : ℕ) (words : List (List ℕ)) → is_command_within name least most words ≡ true
    → least < length words
within-words name least most [] is = absurd cc
within-words name least most (first ∷ rest) is =
    let parts = and_parts (bytes_eq first name) (nat_le least (length rest) && nat_le (length rest) most) is in
    let enough : nat_le least (length rest) ≡ true = (and_parts (nat_le least (length rest)) (nat_le (length rest) most) parts.1).0 in
    grind (arith, nat_tests)

pub set_length : (words : List (List ℕ)) → command_of words ≡ Some ResubmitSet → 6 < length words
set_length words is =
    within-words (codes "resubmit-set") 6 505 words
    (set-there (is_command (codes "check") 1 words)
    (is_command (codes "run") 2 words || is_command (codes "run") 3 words) (is_command (codes "trace") 3 words)
    (is_command (codes "list") 1 words) (is_command (codes "resubmit") 5 words || is_command (codes "resubmit") 6 words)
    (is_command_within (codes "resubmit-set") 6 505 words) (is_command (codes "fires") 4 words)
    (fires_of (word words 3) (word words 4)) (last-command words) (only-fires (read_time (word words 3)) (count_of (word words 4)))
    (only-last (is_command (codes "drill") 1 words) (is_command (codes "session") 2 words) (size_of (word words 1))) is)

-- ---- the command `drill`

no-drill : (from count : Option ℕ) (n : ℕ) → fires_with from count ≡ Some (Drill n) → ⊥
no-drill (Some from) (Some count) n is = cc
no-drill (Some from) None n is = cc
no-drill None count n is = cc

drill-there : (a b c l r s d e t : Bool) (fires drill : Option Command) (n : ℕ) → (fires ≡ Some (Drill n) → ⊥)
    → cond a (Some Check) (cond b (Some Run) (cond c (Some Trace) (cond l (Some Command.List)
    (cond r (Some Resubmit) (cond s (Some ResubmitSet) (cond d fires (cond e drill (cond t (Some Session) None))))))))
    ≡ Some (Drill n) → (e ≡ true) × (drill ≡ Some (Drill n))
drill-there true b c l r s d e t fires drill n other is = absurd cc
drill-there false true c l r s d e t fires drill n other is = absurd cc
drill-there false false true l r s d e t fires drill n other is = absurd cc
drill-there false false false true r s d e t fires drill n other is = absurd cc
drill-there false false false false true s d e t fires drill n other is = absurd cc
drill-there false false false false false true d e t fires drill n other is = absurd cc
drill-there false false false false false false true e t fires drill n other is = absurd (other is)
drill-there false false false false false false false true t fires drill n other is = (refl, is)
drill-there false false false false false false false false true fires drill n other is = absurd cc
drill-there false false false false false false false false false fires drill n other is = absurd cc

drill-named : (words : List (List ℕ)) (n : ℕ) → command_of words ≡ Some (Drill n)
    → (is_command (codes "drill") 1 words ≡ true) × (drill_of (word words 1) ≡ Some (Drill n))
drill-named words n is =
    drill-there (is_command (codes "check") 1 words)
    (is_command (codes "run") 2 words || is_command (codes "run") 3 words) (is_command (codes "trace") 3 words)
    (is_command (codes "list") 1 words) (is_command (codes "resubmit") 5 words || is_command (codes "resubmit") 6 words)
    (is_command_within (codes "resubmit-set") 6 505 words) (is_command (codes "fires") 4 words) (is_command (codes "drill") 1 words)
    (is_command (codes "session") 2 words) (fires_of (word words 3) (word words 4)) (drill_of (word words 1)) n
    (no-drill (read_time (word words 3)) (count_of (word words 4)) n) is

pub drill_length : (words : List (List ℕ)) (n : ℕ) → command_of words ≡ Some (Drill n) → 1 < length words
drill_length words n is = many-words (codes "drill") 1 words (drill-named words n is).0

-- its size is at most 400
size-with : (size : Option ℕ) (n : ℕ) → drill_with size ≡ Some (Drill n) → size ≡ Some n
size-with (Some m) n is = let same : m ≡ n = cc in ap Some same
size-with None n is = absurd cc

size-fits : (b : Bool) (m n : ℕ) → nat_le 1 m && nat_le m 400 ≡ b → cond b (Some m) None ≡ Some n → n ≤ 400
size-fits true m n fits is = let same : m ≡ n = cc in grind (arith, nat_tests)
size-fits false m n fits is = absurd cc

size-within : (size : Option ℕ) (n : ℕ) → within_size size ≡ Some n → n ≤ 400
size-within (Some m) n is = size-fits (nat_le 1 m && nat_le m 400) m n refl is
size-within None n is = absurd cc

size-le : (text : List ℕ) (n : ℕ) → size_of text ≡ Some n → n ≤ 400
size-le [] n is = absurd cc
size-le (b ∷ bs) n is = at (nat_eq b 48) is
  where
    at : (z : Bool) → cond z None (within_size (digits_from 0 (b ∷ bs))) ≡ Some n → n ≤ 400
    at true is = absurd cc
    at false is = size-within (digits_from 0 (b ∷ bs)) n is

pub drill_size : (words : List (List ℕ)) (n : ℕ) → command_of words ≡ Some (Drill n) → n ≤ 400
drill_size words n is = size-le (word words 1) n (size-with (size_of (word words 1)) n (drill-named words n is).1)

-- ---- the command `trace`

trace-there : (a b c l r s d : Bool) (fires last : Option Command) → (fires ≡ Some Trace → ⊥) → (last ≡ Some Trace → ⊥)
    → cond a (Some Check) (cond b (Some Run) (cond c (Some Trace) (cond l (Some Command.List)
    (cond r (Some Resubmit) (cond s (Some ResubmitSet) (cond d fires last))))))
    ≡ Some Trace → c ≡ true
trace-there true b c l r s d fires last other none is = absurd cc
trace-there false true c l r s d fires last other none is = absurd cc
trace-there false false true l r s d fires last other none is = refl
trace-there false false false true r s d fires last other none is = absurd cc
trace-there false false false false true s d fires last other none is = absurd cc
trace-there false false false false false true d fires last other none is = absurd cc
trace-there false false false false false false true fires last other none is = absurd (other is)
trace-there false false false false false false false fires last other none is = absurd (none is)

-- what comes of the last commands makes no run
fires-no_runs : (from count : Option ℕ) (command : Command) → makes_runs command ≡ true → fires_with from count ≡ Some command → ⊥
fires-no_runs (Some from) (Some count) command makes is =
    let same : Fires from count ≡ command = cc in
    let no : makes_runs (Fires from count) ≡ true = subst (λ c. makes_runs c ≡ true) (sym same) makes in cc
fires-no_runs (Some from) None command makes is = cc
fires-no_runs None count command makes is = cc

last-no_runs : (e t : Bool) (size : Option ℕ) (command : Command) → makes_runs command ≡ true
    → cond e (drill_with size) (cond t (Some Session) None) ≡ Some command → ⊥
last-no_runs true t (Some n) command makes is =
    let same : Drill n ≡ command = cc in
    let no : makes_runs (Drill n) ≡ true = subst (λ c. makes_runs c ≡ true) (sym same) makes in cc
last-no_runs true t None command makes is = cc
last-no_runs false true size command makes is =
    let same : Session ≡ command = cc in
    let no : makes_runs Session ≡ true = subst (λ c. makes_runs c ≡ true) (sym same) makes in cc
last-no_runs false false size command makes is = cc

pub trace_length : (words : List (List ℕ)) → command_of words ≡ Some Trace → 3 < length words
trace_length words is =
    many-words (codes "trace") 3 words
    (trace-there (is_command (codes "check") 1 words)
    (is_command (codes "run") 2 words || is_command (codes "run") 3 words) (is_command (codes "trace") 3 words)
    (is_command (codes "list") 1 words) (is_command (codes "resubmit") 5 words || is_command (codes "resubmit") 6 words)
    (is_command_within (codes "resubmit-set") 6 505 words) (is_command (codes "fires") 4 words)
    (fires_of (word words 3) (word words 4)) (last-command words)
    (fires-no_runs (read_time (word words 3)) (count_of (word words 4)) Trace refl)
    (last-no_runs (is_command (codes "drill") 1 words) (is_command (codes "session") 2 words) (size_of (word words 1)) Trace refl) is)

-- ---- the command `run`

run-there : (a b c l r s d : Bool) (fires last : Option Command) → (fires ≡ Some Run → ⊥) → (last ≡ Some Run → ⊥)
    → cond a (Some Check) (cond b (Some Run) (cond c (Some Trace) (cond l (Some Command.List)
    (cond r (Some Resubmit) (cond s (Some ResubmitSet) (cond d fires last))))))
    ≡ Some Run → b ≡ true
run-there true b c l r s d fires last other none is = absurd cc
run-there false true c l r s d fires last other none is = refl
run-there false false true l r s d fires last other none is = absurd cc
run-there false false false true r s d fires last other none is = absurd cc
run-there false false false false true s d fires last other none is = absurd cc
run-there false false false false false true d fires last other none is = absurd cc
run-there false false false false false false true fires last other none is = absurd (other is)
run-there false false false false false false false fires last other none is = absurd (none is)

pub run_length : (words : List (List ℕ)) → command_of words ≡ Some Run → 2 < length words
run_length words is =
    let there = run-there (is_command (codes "check") 1 words)
    (is_command (codes "run") 2 words || is_command (codes "run") 3 words) (is_command (codes "trace") 3 words)
    (is_command (codes "list") 1 words) (is_command (codes "resubmit") 5 words || is_command (codes "resubmit") 6 words)
    (is_command_within (codes "resubmit-set") 6 505 words) (is_command (codes "fires") 4 words)
    (fires_of (word words 3) (word words 4)) (last-command words)
    (fires-no_runs (read_time (word words 3)) (count_of (word words 4)) Run refl)
    (last-no_runs (is_command (codes "drill") 1 words) (is_command (codes "session") 2 words) (size_of (word words 1)) Run refl) is in
    elim (either (is_command (codes "run") 2 words) (is_command (codes "run") 3 words) there) [
      | inl two ↦ many-words (codes "run") 2 words two
      | inr three ↦ (let more : 3 < length words = many-words (codes "run") 3 words three in omega (arith, more))
    ]

-- ---- the command `session`

fires-no_session : (from count : Option ℕ) → fires_with from count ≡ Some Session → ⊥
fires-no_session (Some from) (Some count) is = cc
fires-no_session (Some from) None is = cc
fires-no_session None count is = cc

drill-no_session : (size : Option ℕ) → drill_with size ≡ Some Session → ⊥
drill-no_session (Some n) is = cc
drill-no_session None is = cc

session-there : (a b c l r s d e t : Bool) (fires drill : Option Command) → (fires ≡ Some Session → ⊥) → (drill ≡ Some Session → ⊥)
    → cond a (Some Check) (cond b (Some Run) (cond c (Some Trace) (cond l (Some Command.List)
    (cond r (Some Resubmit) (cond s (Some ResubmitSet) (cond d fires (cond e drill (cond t (Some Session) None))))))))
    ≡ Some Session → t ≡ true
session-there true b c l r s d e t fires drill other none is = absurd cc
session-there false true c l r s d e t fires drill other none is = absurd cc
session-there false false true l r s d e t fires drill other none is = absurd cc
session-there false false false true r s d e t fires drill other none is = absurd cc
session-there false false false false true s d e t fires drill other none is = absurd cc
session-there false false false false false true d e t fires drill other none is = absurd cc
session-there false false false false false false true e t fires drill other none is = absurd (other is)
session-there false false false false false false false true t fires drill other none is = absurd (none is)
session-there false false false false false false false false true fires drill other none is = refl
session-there false false false false false false false false false fires drill other none is = absurd cc

pub session_length : (words : List (List ℕ)) → command_of words ≡ Some Session → 2 < length words
session_length words is =
    many-words (codes "session") 2 words
    (session-there (is_command (codes "check") 1 words)
    (is_command (codes "run") 2 words || is_command (codes "run") 3 words) (is_command (codes "trace") 3 words)
    (is_command (codes "list") 1 words) (is_command (codes "resubmit") 5 words || is_command (codes "resubmit") 6 words)
    (is_command_within (codes "resubmit-set") 6 505 words) (is_command (codes "fires") 4 words) (is_command (codes "drill") 1 words)
    (is_command (codes "session") 2 words) (fires_of (word words 3) (word words 4)) (drill_of (word words 1))
    (fires-no_session (read_time (word words 3)) (count_of (word words 4))) (drill-no_session (size_of (word words 1))) is)
