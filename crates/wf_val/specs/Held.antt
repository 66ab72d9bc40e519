-- What a list and an object hold: values of their own, or values that their copies share, with the size of all.
use Rattle.std.specs.Prelude.{◌≡◌, ℕ, List, [], ◌∷◌, map, ⊤}
use Rattle.std.specs.Rc.{rc_value}
use Rattle.wf_val.specs.Cut.{cut_u32, cut_u64}
use Rattle.wf_val.specs.Seen.{tree, member}
use Rattle.wf_val.specs.ValueTree.{trees, trees_depth, trees_weight, members, members_depth, members_weight}
use Rattle.wf_val.specs.declared.val.Size.{Size}
use Rattle.wf_val.specs.declared.val.Val.{Val}
use Rattle.wf_val.specs.declared.vals.Items.{Items}
use Rattle.wf_val.specs.declared.fields.Members.{Members}

abbrev pub items_of : Items → List Val
items_of Items.Empty = []
items_of (Items.One item) = item.value ∷ []
items_of (Items.Many items) = items.value.items
items_of (Items.Shared shared) = (rc_value shared).items.items

abbrev pub members_of : Members → List (List ℕ × Val)
members_of Members.Empty = []
members_of (Members.Own members) = members.value.items
members_of (Members.Shared shared) = (rc_value shared).members.items

-- what is kept beside shared values is their size
abbrev pub IsSizeOfValues : Size → List Val → Type 0
IsSizeOfValues s vs = (s.depth ≡ cut_u32 (trees_depth (trees (map tree vs)))) × (s.weight ≡ cut_u64 (trees_weight (trees (map tree vs))))

abbrev pub IsSizeOfMembers : Size → List (List ℕ × Val) → Type 0
IsSizeOfMembers s ms = (s.depth ≡ cut_u32 (members_depth (members (map member ms)))) × (s.weight ≡ cut_u64 (members_weight (members (map member ms))))

abbrev pub ItemsAreWeighed : Items → Type 0
ItemsAreWeighed Items.Empty = ⊤
ItemsAreWeighed (Items.One item) = ⊤
ItemsAreWeighed (Items.Many items) = ⊤
ItemsAreWeighed (Items.Shared shared) = IsSizeOfValues (rc_value shared).size (rc_value shared).items.items

abbrev pub MembersAreWeighed : Members → Type 0
MembersAreWeighed Members.Empty = ⊤
MembersAreWeighed (Members.Own members) = ⊤
MembersAreWeighed (Members.Shared shared) = IsSizeOfMembers (rc_value shared).size (rc_value shared).members.items
