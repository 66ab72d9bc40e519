use Rattle.std.proofs.Common.{◌≡◌, ℕ, List, drop, map}
use Rattle.std.specs.BTreeMap.{get}
use Rattle.std.specs.Option.{option_or}
use Rattle.wf_match.specs.Rows.{place_from, place_of}
use Rattle.wf_match.proofs.rows.places_of.Given as goal
use Rattle.wf_val.specs.NameOrder.{bytes_cmp}
use Rattle.wf_val.specs.Seen.{tree}

-- of each address the place so far, else the one in the rows that are left
abbrev pub invariant-loop-place : goal.invariant-loop-place
invariant-loop-place l =
    (q : List ℕ) → option_or (get bytes_cmp l.places q) (place_from l.place q (map tree (drop l.place l.rows)))
    ≡ place_of q (map tree l.rows)
