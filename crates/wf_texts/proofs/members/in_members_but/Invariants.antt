use Rattle.std.proofs.Common.{◌≡◌, drop, map, option_map, string_bytes}
use Rattle.wf_val.specs.Seen.{member}
use Rattle.wf_val.specs.ValueTree.{members}
use Rattle.wf_kinds.specs.Pointer.{lesser, least}
use Rattle.wf_texts.specs.Bad.{bad_texts}
use Rattle.wf_texts.specs.Members.{in_members_but}
use Rattle.wf_texts.proofs.members.in_members_but.Given as goal

abbrev pub invariant-loop-key : goal.invariant-loop-key
invariant-loop-key l =
    lesser (option_map string_bytes l.best)
    (least (in_members_but l.name bad_texts (members (map member (drop l.key-index l.key-items)))))
    ≡ least (in_members_but l.name bad_texts (members l.fields))
