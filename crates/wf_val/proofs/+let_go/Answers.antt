-- What a list or an object holds is smaller than the whole.
use Rattle.std.proofs.Common.{rules, arith, ◌≡◌, map, ap}
use Rattle.wf_val.specs.Held.{items_of, members_of}
use Rattle.wf_val.specs.NodeCounts.{count_of_list, count_of_members}
use Rattle.wf_val.specs.Seen.{tree, member}
use Rattle.wf_val.proofs.LetGoLemmas.{items-smaller, members-smaller}
use Rattle.wf_val.proofs.+let_go.Goals as goal

pub fields::Fields::drop-drop-self-inside-requires :
    goal.fields::Fields::drop-drop-self-inside-requires
fields::Fields::drop-drop-self-inside-requires t c κs =
    let smaller = members-smaller (members_of c.self.inside.members) in
    let same : count_of_members (map member (members_of c.self.inside.members)) ≡ count_of_members c.args.self = ap count_of_members c.self.view_is in
    search (rules, smaller, same, c.decreases)

pub vals::Vals::drop-drop-requires : goal.vals::Vals::drop-drop-requires
vals::Vals::drop-drop-requires t c κs =
    let smaller = items-smaller (items_of c.self.inside.items) in
    let same : count_of_list (map tree (items_of c.self.inside.items)) ≡ count_of_list c.args.self = ap count_of_list c.self.view_is in
    search (rules, smaller, same, c.decreases)
