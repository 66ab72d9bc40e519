use Rattle.std.proofs.Common.{◌≡◌, ◌++◌, drop}
use Rattle.wf_tests.specs.Command.{again_words}
use Rattle.wf_tests.proofs.command.again_words.Given as goal

-- the words so far, and the actions that are left
abbrev pub invariant-loop-name : goal.invariant-loop-name
invariant-loop-name l = l.words.items ++ drop l.name-index l.name-items ≡ again_words l.run l.from
