-- The tree of `serde_json` that a value is sent as, and that a text without flaws is read as.
use Rattle.std.specs.Prelude.{String, string_bytes}
use Rattle.std.specs.declared.alloc.Global.{Global}
use Rattle.serde_json.specs.Data as json
use Rattle.serde_json.specs.Find.{of_integer}
use Rattle.wf_val.specs.Seen.{tree}
use Rattle.wf_val.specs.ValueTree as value
use Rattle.wf_val.specs.declared.val.Val.{Val}

abbrev mutual
  pub data_of : value.ValueTree → json.Data
  data_of value.null = json.null
  data_of (value.boolean b) = json.boolean b
  data_of (value.number z) = json.number (of_integer z)
  data_of (value.text s) = json.string s
  data_of (value.list ts) = json.array (items_of ts)
  data_of (value.object ms) = json.object (members_of ms)

  pub items_of : value.ValueTrees → json.Items
  items_of value.no_values = json.no_items
  items_of (value.value_then t ts) = json.item (data_of t) (items_of ts)

  pub members_of : value.MemberTrees → json.Members
  members_of value.no_members = json.no_members
  members_of (value.member_then k t ms) = json.member k (data_of t) (members_of ms)

-- a member from its name and its value
abbrev pub named : String Global × Val → value.Member
named e = (string_bytes e.0, tree e.1)
