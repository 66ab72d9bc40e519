-- What is printed for the tokens of a value.
use Rattle.std.proofs.Common.{◌≡◌, ℕ, List, [], ◌∷◌, ◌++◌, pos, negsuc, refl, ap, ap₂, ◌∙◌}
use Rattle.json.specs.Token.{Token}
use Rattle.json.specs.Print.{print}
use Rattle.json.specs.Tree.{json_tokens, items_tokens, members_tokens}
use Rattle.serde_json.specs.Data as tree
use Rattle.serde_json.specs.Written.{outline, items_outline, members_outline}
use Rattle.serde_json.proofs.Texts.{print-outline}
use Rattle.wf_val.specs.ValueTree as value
use Rattle.wf_json.specs.Json.{json, string}
use Rattle.wf_json.specs.Tokens.{tokens_of, item_tokens, member_tokens}
use Rattle.wf_json.specs.Sent.{data_of, items_of, members_of}
use Rattle.wf_json.proofs.SentLemmas.{compact-json, quoted-string}

mutual
  tokens-outline : (t : value.ValueTree) → tokens_of t ≡ json_tokens (outline (data_of t))
  tokens-outline value.null = refl
  tokens-outline (value.boolean b) = refl
  tokens-outline (value.number (pos n)) = refl
  tokens-outline (value.number (negsuc n)) = refl
  tokens-outline (value.text s) = refl
  tokens-outline (value.list ts) = ap (λ us. Token.begin_array ∷ us) (item_tokens-outline ts)
  tokens-outline (value.object ms) = ap (λ us. Token.begin_object ∷ us) (member_tokens-outline ms)

  item_tokens-outline : (ts : value.ValueTrees) → item_tokens ts ≡ items_tokens (items_outline (items_of ts))
  item_tokens-outline value.no_values = refl
  item_tokens-outline (value.value_then t ts) = ap₂ (λ (a b : List Token). a ++ b) (tokens-outline t) (item_tokens-outline ts)

  member_tokens-outline : (ms : value.MemberTrees) → member_tokens ms ≡ members_tokens (members_outline (members_of ms))
  member_tokens-outline value.no_members = refl
  member_tokens-outline (value.member_then k t ms) =
      ap₂ (λ (a b : List Token). Token.key k ∷ (a ++ b)) (tokens-outline t) (member_tokens-outline ms)

pub printed_value : (t : value.ValueTree) → print (tokens_of t) ≡ json t
printed_value t = ap print (tokens-outline t) ∙ print-outline (data_of t) ∙ compact-json t

pub printed_text : (s : List ℕ) → print (Token.string s ∷ []) ≡ string s
printed_text s = print-outline (tree.string s) ∙ quoted-string s

pub printed_members : (ms : value.MemberTrees) → print (Token.begin_object ∷ member_tokens ms) ≡ json (value.object ms)
printed_members ms = printed_value (value.object ms)
