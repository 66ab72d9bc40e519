-- The tokens of a value's JSON text (RFC 8259, section 2), without the commas, which follow from them.
use Rattle.std.specs.Prelude.{List, [], ◌∷◌, ◌++◌}
use Rattle.std.specs.Fmt.{signed_decimal}
use Rattle.json.specs.Token.{Token}
use Rattle.wf_val.specs.ValueTree as value

abbrev mutual
  pub tokens_of : value.ValueTree → List Token
  tokens_of value.null = Token.null ∷ []
  tokens_of (value.boolean b) = Token.boolean b ∷ []
  tokens_of (value.number n) = Token.number (signed_decimal n) ∷ []
  tokens_of (value.text s) = Token.string s ∷ []
  tokens_of (value.list ts) = Token.begin_array ∷ item_tokens ts
  tokens_of (value.object ms) = Token.begin_object ∷ member_tokens ms

  -- with the closing bracket
  pub item_tokens : value.ValueTrees → List Token
  item_tokens value.no_values = Token.end_array ∷ []
  item_tokens (value.value_then t ts) = tokens_of t ++ item_tokens ts

  pub member_tokens : value.MemberTrees → List Token
  member_tokens value.no_members = Token.end_object ∷ []
  member_tokens (value.member_then k t ms) = Token.key k ∷ (tokens_of t ++ member_tokens ms)
