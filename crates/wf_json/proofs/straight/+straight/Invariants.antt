use Rattle.std.proofs.Common.{◌≡◌, ℕ, ◌+◌, ◌*◌, ◌≤◌, length}
use Rattle.json.specs.Json.{items, members, value, parse_map}
use Rattle.serde_json.specs.Data.{no_members}
use Rattle.serde_json.specs.Read.{of_items, of_members, converted}
use Rattle.wf_val.specs.ValueTree.{trees, trees_depth, members_depth}
use Rattle.wf_json.specs.Sent.{members_of as sent_members}
use Rattle.wf_json.proofs.StraightLemmas.{items_before, entries}
use Rattle.wf_json.proofs.straight.+straight.Given as goal

abbrev pub decreases-value_in : goal.decreases-value_in
decreases-value_in l = 2 * l.room

abbrev pub decreases-items_in : goal.decreases-items_in
decreases-items_in l = 2 * l.room + 1

abbrev pub decreases-members_in : goal.decreases-members_in
decreases-members_in l = 2 * l.room + 1

-- what is read so far comes before what is left
abbrev pub invariant-items_in-items : goal.invariant-items_in-items
invariant-items_in-items l =
    (n : ℕ) × (length l.reader ≤ n)
    × (converted of_items (items (value (l.room + 7)) (length l.initial.reader) l.initial.reader)
    ≡ parse_map (items_before l.found) (converted of_items (items (value (l.room + 7)) n l.reader)))
    × (length l.reader ≤ length l.initial.reader)
    × (trees_depth (trees l.found) ≤ l.room)

abbrev pub decreases-items_in-items : goal.decreases-items_in-items
decreases-items_in-items l = length l.reader

abbrev pub invariant-members_in-members : goal.invariant-members_in-members
invariant-members_in-members l =
    (n : ℕ) × (length l.reader ≤ n)
    × (converted (λ ms. of_members ms no_members) (members (value (l.room + 7)) (length l.initial.reader) l.initial.reader)
    ≡ converted (λ ms. of_members ms (sent_members (entries l.found.entries))) (members (value (l.room + 7)) n l.reader))
    × (length l.reader ≤ length l.initial.reader)
    × (members_depth (entries l.found.entries) ≤ l.room)

abbrev pub decreases-members_in-members : goal.decreases-members_in-members
decreases-members_in-members l = length l.reader
