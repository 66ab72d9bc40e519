-- Items and members of a JSON tree, as those of values that grow one after another.
use Rattle.std.proofs.Common.{◌≡◌, ℕ, ◌+◌, ◌-◌, ◌<◌, ◌≤◌, length, List, [], ◌∷◌, ◌++◌, map, Option, Some, None, Ordering, Less, Equal, Greater, refl, ap, ◌∙◌}
use Rattle.std.proofs.Common.{String, Global, string_bytes, string_cmp, arith}
use Rattle.std.specs.BTreeMap.{insert_entry}
use Rattle.std.specs.Ordering.{match_ordering}
use Rattle.json.specs.Json.{parse_map}
use Rattle.json.specs.Json as grammar
use Rattle.json.specs.Token.{Token}
use Rattle.json.proofs.Grammar.{value_is, value-begin_array, value-begin_object}
use Rattle.serde_json.specs.Data as json
use Rattle.serde_json.specs.Read.{of_json, of_items, of_members, converted}
use Rattle.wf_json.proofs.GrammarLemmas.{converted-array, converted-object}
use Rattle.wf_val.specs.Seen.{tree}
use Rattle.wf_val.specs.ValueTree as value
use Rattle.wf_val.specs.declared.val.Val.{Val}
use Rattle.wf_json.specs.Sent.{data_of, items_of, members_of, named}

-- ---- items

abbrev pub items_before : List value.ValueTree → json.Items → json.Items
items_before [] rest = rest
items_before (t ∷ ts) rest = json.item (data_of t) (items_before ts rest)

pub items_before-no_items : (ts : List value.ValueTree) → items_before ts json.no_items ≡ items_of (value.trees ts)
items_before-no_items [] = refl
items_before-no_items (t ∷ ts) = ap (json.item (data_of t)) (items_before-no_items ts)

items_push : (ts : List value.ValueTree) (t : value.ValueTree) (rest : json.Items)
    → items_before ts (json.item (data_of t) rest) ≡ items_before (ts ++ t ∷ []) rest
items_push [] t rest = refl
items_push (u ∷ ts) t rest = ap (json.item (data_of u)) (items_push ts t rest)

pub one_more_item : (ts : List value.ValueTree) (t : value.ValueTree) (r : Option (json.Items × List Token))
    → parse_map (items_before ts) (parse_map (json.item (data_of t)) r) ≡ parse_map (items_before (ts ++ t ∷ [])) r
one_more_item ts t None = refl
one_more_item ts t (Some p) = ap (λ ds. Some (ds, p.1)) (items_push ts t p.0)

pub one_more_nests : (ts : List value.ValueTree) (t : value.ValueTree) (room : ℕ) → value.trees_depth (value.trees ts) ≤ room
    → value.depth t ≤ room → value.trees_depth (value.trees (ts ++ t ∷ [])) ≤ room
one_more_nests [] t room within this = omega arith
one_more_nests (u ∷ ts) t room within this = let rest = one_more_nests ts t room (omega arith) this in omega (arith, rest)

-- ---- members in a map

abbrev pub MapEntry : Type 0
MapEntry = String Global × Val

abbrev pub entries : List MapEntry → value.MemberTrees
entries es = value.members (map named es)

entries_of-match_ordering : (o : Ordering) (a b c : List MapEntry)
    → members_of (entries (match_ordering o a b c))
    ≡ match_ordering o (members_of (entries a)) (members_of (entries b)) (members_of (entries c))
entries_of-match_ordering Less a b c = refl
entries_of-match_ordering Equal a b c = refl
entries_of-match_ordering Greater a b c = refl

pub entries_of-insert_entry : (es : List MapEntry) (k : String Global) (v : Val)
    → members_of (entries (insert_entry string_cmp es k v)) ≡ json.put (string_bytes k) (data_of (tree v)) (members_of (entries es))
entries_of-insert_entry [] k v = refl
entries_of-insert_entry (e ∷ es) k v = entries_of-match_ordering (string_cmp k e.0) _ _ _ ∙ rw (entries_of-insert_entry es k v)

nests-match_ordering : (o : Ordering) (a b c : List MapEntry) (room : ℕ) → value.members_depth (entries a) ≤ room
    → value.members_depth (entries b) ≤ room → value.members_depth (entries c) ≤ room
    → value.members_depth (entries (match_ordering o a b c)) ≤ room
nests-match_ordering Less a b c room x y z = x
nests-match_ordering Equal a b c room x y z = y
nests-match_ordering Greater a b c room x y z = z

pub insert_entry-nests : (es : List MapEntry) (k : String Global) (v : Val) (room : ℕ) → value.members_depth (entries es) ≤ room
    → value.depth (tree v) ≤ room → value.members_depth (entries (insert_entry string_cmp es k v)) ≤ room
insert_entry-nests [] k v room within this = omega arith
insert_entry-nests (e ∷ es) k v room within this =
    let rest = insert_entry-nests es k v room (omega arith) this in
    nests-match_ordering (string_cmp k e.0) _ _ _ room (omega arith) (omega arith) (omega (arith, rest))

-- ---- what an opening bracket begins

pub begun_array : (levels : ℕ) (ts rest : List Token) → ts ≡ Token.begin_array ∷ rest → 0 < levels
    → converted of_json (grammar.value levels ts)
    ≡ parse_map json.array (converted of_items (grammar.items (grammar.value (levels - 1)) (length rest) rest))
begun_array levels ts rest begun some =
    ap (converted of_json) (ap (grammar.value levels) begun ∙ value-begin_array levels rest some)
    ∙ converted-array (grammar.items (grammar.value (levels - 1)) (length rest) rest)

pub begun_object : (levels : ℕ) (ts rest : List Token) → ts ≡ Token.begin_object ∷ rest → 0 < levels
    → converted of_json (grammar.value levels ts)
    ≡ parse_map json.object
    (converted (λ ms. of_members ms json.no_members) (grammar.members (grammar.value (levels - 1)) (length rest) rest))
begun_object levels ts rest begun some =
    ap (converted of_json) (ap (grammar.value levels) begun ∙ value-begin_object levels rest some)
    ∙ converted-object (grammar.members (grammar.value (levels - 1)) (length rest) rest)

pub no_room_array : (levels : ℕ) (ts rest : List Token) → ts ≡ Token.begin_array ∷ rest → levels ≡ 0
    → converted of_json (grammar.value levels ts) ≡ None
no_room_array levels ts rest begun none =
    ap (λ n. converted of_json (grammar.value n ts)) none
    ∙ ap (converted of_json) (ap (grammar.value 0) begun ∙ value_is 0 (Token.begin_array ∷ rest))

pub no_room_object : (levels : ℕ) (ts rest : List Token) → ts ≡ Token.begin_object ∷ rest → levels ≡ 0
    → converted of_json (grammar.value levels ts) ≡ None
no_room_object levels ts rest begun none =
    ap (λ n. converted of_json (grammar.value n ts)) none
    ∙ ap (converted of_json) (ap (grammar.value 0) begun ∙ value_is 0 (Token.begin_object ∷ rest))

pub opened_array : (room : ℕ) (ts rest : List Token) → ts ≡ Token.begin_array ∷ rest → 0 < room
    → converted of_json (grammar.value (room + 7) ts)
    ≡ parse_map json.array (converted of_items (grammar.items (grammar.value (room - 1 + 7)) (length rest) rest))
opened_array room ts rest begun some =
    let inner : room + 7 - 1 ≡ room - 1 + 7 = omega arith in
    begun_array (room + 7) ts rest begun (omega arith)
    ∙ ap (λ d. parse_map json.array (converted of_items (grammar.items (grammar.value d) (length rest) rest))) inner

pub opened_object : (room : ℕ) (ts rest : List Token) → ts ≡ Token.begin_object ∷ rest → 0 < room
    → converted of_json (grammar.value (room + 7) ts)
    ≡ parse_map json.object
    (converted (λ ms. of_members ms json.no_members) (grammar.members (grammar.value (room - 1 + 7)) (length rest) rest))
opened_object room ts rest begun some =
    let inner : room + 7 - 1 ≡ room - 1 + 7 = omega arith in
    begun_object (room + 7) ts rest begun (omega arith)
    ∙ ap (λ d. parse_map json.object
    (converted (λ ms. of_members ms json.no_members) (grammar.members (grammar.value d) (length rest) rest))) inner
