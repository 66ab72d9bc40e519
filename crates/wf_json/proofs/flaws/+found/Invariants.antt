use Rattle.std.proofs.Common.{◌≡◌, ℕ, true, ◌+◌, ◌-◌, ◌*◌, ◌≤◌, List, length, map, option_map, string_bytes}
use Rattle.json.specs.Json.{items, members, value, parse_map}
use Rattle.serde_json.specs.Data as json
use Rattle.serde_json.specs.Read.{of_items, of_members, converted}
use Rattle.wf_json.specs.Pointer.{least}
use Rattle.wf_json.specs.Read.{flawed_places, value_of}
use Rattle.wf_json.proofs.FoundLemmas.{items_before, items as listed, AreFound}
use Rattle.wf_json.proofs.flaws.+found.Given as goal

abbrev pub decreases-value_found : goal.decreases-value_found
decreases-value_found l = 2 * l.levels

abbrev pub decreases-items_found : goal.decreases-items_found
decreases-items_found l = 2 * l.levels + 1

abbrev pub decreases-members_found : goal.decreases-members_found
decreases-members_found l = 2 * l.levels + 1

-- what is read so far comes before what is left
abbrev pub invariant-items_found-items : goal.invariant-items_found-items
invariant-items_found-items l =
    (n : ℕ) × (done : List json.Data) × (length l.reader ≤ n)
    × (converted of_items (items (value l.levels) (length l.initial.reader) l.initial.reader)
    ≡ parse_map (items_before done) (converted of_items (items (value l.levels) n l.reader)))
    × (length l.reader ≤ length l.initial.reader)
    × (l.aim.keep ≡ true → l.values ≡ map value_of done)
    × (option_map string_bytes l.best ≡ least (flawed_places l.aim.flaw l.room (json.array (listed done))))
    × (l.place ≡ length done)

abbrev pub decreases-items_found-items : goal.decreases-items_found-items
decreases-items_found-items l = length l.reader

abbrev pub invariant-members_found-members : goal.invariant-members_found-members
invariant-members_found-members l =
    (n : ℕ) × (done : json.Members) × (length l.reader ≤ n)
    × (converted (λ x. of_members x json.no_members) (members (value l.levels) (length l.initial.reader) l.initial.reader)
    ≡ converted (λ x. of_members x done) (members (value l.levels) n l.reader))
    × (length l.reader ≤ length l.initial.reader)
    × AreFound l.aim (l.room - 1) done l.found.entries

abbrev pub decreases-members_found-members : goal.decreases-members_found-members
decreases-members_found-members l = length l.reader
