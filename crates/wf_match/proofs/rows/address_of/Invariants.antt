use Rattle.std.proofs.Common.{◌≡◌, ◌++◌, ◌∷◌, drop, flat_map, map, string_bytes}
use Rattle.wf_json.specs.Json.{text}
use Rattle.wf_match.specs.Rows.{address_of}
use Rattle.wf_match.proofs.rows.address_of.Given as goal
use Rattle.wf_val.specs.Seen.{tree}

-- the text so far and that of the numbers that are left
abbrev pub invariant-loop-number : goal.invariant-loop-number
invariant-loop-number l =
    string_bytes l.address ++ flat_map (λ n. 47 ∷ text n) (map tree (drop l.number-index l.number-items)) ≡ address_of (tree l.row)
