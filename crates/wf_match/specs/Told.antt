-- A place at which an expectation isn't met: the pointer to it (RFC 6901), what is expected there, and what is there, or nothing.
use Rattle.std.specs.Prelude.{ℕ, List, Option, option_map}
use Rattle.wf_val.specs.Seen.{tree}
use Rattle.wf_val.specs.ValueTree.{ValueTree}
use Rattle.wf_match.specs.declared.difference.Difference.{Difference}

pub record Told : Type 0 where
  pub pointer : List ℕ
  pub expected : ValueTree
  pub found : Option ValueTree

-- what a `Difference` tells
abbrev pub told : Difference → Told
told d = record { pointer = d.pointer; expected = tree d.expected; found = option_map tree d.found }
