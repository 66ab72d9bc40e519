-- What is found of lists and objects, as their items and members are read one after another.
use Rattle.std.proofs.Common.{◌≡◌, ℕ, suc, true, ◌+◌, ◌-◌, List, [], ◌∷◌, ◌++◌}
use Rattle.std.proofs.Common.{length, map, Option, Some, None, option_map, Ordering, Less, Equal, Greater}
use Rattle.std.proofs.Common.{String, Global, string_bytes, string_cmp, refl, sym, ap, ap₂, ◌∙◌, subst, append_assoc, append-nil, arith}
use Rattle.std.specs.BTreeMap.{insert_entry}
use Rattle.std.specs.Ordering.{nat_cmp, match_ordering}
use Rattle.std.specs.Cmp.Lexicographic.{slice_cmp}
use Rattle.json.specs.Json.{parse_map}
use Rattle.json.specs.Token.{Token}
use Rattle.serde_json.specs.Data as json
use Rattle.wf_val.specs.Seen.{tree}
use Rattle.wf_val.specs.ValueTree as value
use Rattle.wf_json.specs.Found.{IsFound, found_member, pointer_after}
use Rattle.wf_json.specs.Pointer.{here, item_step, member_step, lesser, least}
use Rattle.wf_json.specs.Read.{has_flaw, flawed_places, flawed_items, flawed_members, value_of, values_of, members_of}
use Rattle.wf_json.specs.declared.fault.Flaw.{Flaw}
use Rattle.wf_json.specs.declared.flaws.Aim.{Aim}
use Rattle.wf_json.specs.declared.flaws.Found.{Found}
use Rattle.wf_json.proofs.FlawLemmas.{member_done}
use Rattle.wf_json.proofs.PointerLemmas.{lesser-none, least-append, least-front}

-- ---- values that no flaw is of

pub null_is_sound : (flaw : Flaw) (room : ℕ) → least (flawed_places flaw room json.null) ≡ None
null_is_sound Flaw.NotWhole room = refl
null_is_sound Flaw.TooDeep room = refl

pub boolean_is_sound : (flaw : Flaw) (room : ℕ) (b : _) → least (flawed_places flaw room (json.boolean b)) ≡ None
boolean_is_sound Flaw.NotWhole room b = refl
boolean_is_sound Flaw.TooDeep room b = refl

pub string_is_sound : (flaw : Flaw) (room : ℕ) (s : List ℕ) → least (flawed_places flaw room (json.string s)) ≡ None
string_is_sound Flaw.NotWhole room s = refl
string_is_sound Flaw.TooDeep room s = refl

-- where a list is refused, any list is, and any object
list_alike : (flaw : Flaw) (room : ℕ) (a b : json.Items) → has_flaw flaw room (json.array a) ≡ has_flaw flaw room (json.array b)
list_alike Flaw.NotWhole room a b = refl
list_alike Flaw.TooDeep room a b = refl

object_alike : (flaw : Flaw) (room : ℕ) (ms : json.Members)
    → has_flaw flaw room (json.object ms) ≡ has_flaw flaw room (json.array json.no_items)
object_alike Flaw.NotWhole room ms = refl
object_alike Flaw.TooDeep room ms = refl

-- ---- items

abbrev pub items_before : List json.Data → json.Items → json.Items
items_before [] rest = rest
items_before (d ∷ ds) rest = json.item d (items_before ds rest)

abbrev pub items : List json.Data → json.Items
items ds = items_before ds json.no_items

items_push : (ds : List json.Data) (d : json.Data) (rest : json.Items)
    → items_before ds (json.item d rest) ≡ items_before (ds ++ d ∷ []) rest
items_push [] d rest = refl
items_push (e ∷ ds) d rest = ap (json.item e) (items_push ds d rest)

pub no_item_yet : (r : Option (json.Items × List Token)) → r ≡ parse_map (items_before []) r
no_item_yet None = refl
no_item_yet (Some p) = refl

pub one_more_item : (ds : List json.Data) (d : json.Data) (r : Option (json.Items × List Token))
    → parse_map (items_before ds) (parse_map (json.item d) r) ≡ parse_map (items_before (ds ++ d ∷ [])) r
one_more_item ds d None = refl
one_more_item ds d (Some p) = ap (λ rest. Some (rest, p.1)) (items_push ds d p.0)

pub values_of-items : (ds : List json.Data) → value.trees (map value_of ds) ≡ values_of (items ds)
values_of-items [] = refl
values_of-items (d ∷ ds) = ap (value.value_then (value_of d)) (values_of-items ds)

flawed_push : (flaw : Flaw) (room place : ℕ) (ds : List json.Data) (d : json.Data)
    → flawed_items flaw room place (items (ds ++ d ∷ []))
    ≡ flawed_items flaw room place (items ds) ++ map (λ p. item_step (place + length ds) ++ p) (flawed_places flaw room d)
flawed_push flaw room place [] d =
    let first : place ≡ place + 0 = omega arith in
    append-nil (map (λ p. item_step place ++ p) (flawed_places flaw room d))
    ∙ ap (λ k. map (λ p. item_step k ++ p) (flawed_places flaw room d)) first
flawed_push flaw room place (e ∷ ds) d =
    let these = map (λ p. item_step place ++ p) (flawed_places flaw room e) in
    let next : suc place + length ds ≡ place + suc (length ds) = omega arith in
    ap (λ ps. these ++ ps) (flawed_push flaw room (suc place) ds d
    ∙ ap (λ k. flawed_items flaw room (suc place) (items ds) ++ map (λ p. item_step k ++ p) (flawed_places flaw room d)) next)
    ∙ sym (append_assoc these (flawed_items flaw room (suc place) (items ds)) _)

-- the least pointer of a list, after one more item
pub one_more_pointer : (flaw : Flaw) (room : ℕ) (ds : List json.Data) (d : json.Data) (best best' rest : Option (List ℕ))
    → best ≡ least (flawed_places flaw room (json.array (items ds)))
    → rest ≡ least (flawed_places flaw (room - 1) d)
    → best' ≡ lesser best (option_map (λ p. item_step (length ds) ++ p) rest)
    → best' ≡ least (flawed_places flaw room (json.array (items (ds ++ d ∷ []))))
one_more_pointer flaw room ds d best best' rest so_far found now =
    let this = here (has_flaw flaw room (json.array (items ds))) in
    let done = flawed_items flaw (room - 1) 0 (items ds) in
    let more = map (λ p. item_step (length ds) ++ p) (flawed_places flaw (room - 1) d) in
    let first : 0 + length ds ≡ length ds = omega arith in
    let pushed : flawed_items flaw (room - 1) 0 (items (ds ++ d ∷ [])) ≡ done ++ more =
    flawed_push flaw (room - 1) 0 ds d
    ∙ ap (λ k. done ++ map (λ p. item_step k ++ p) (flawed_places flaw (room - 1) d)) first in
    let whole : flawed_places flaw room (json.array (items (ds ++ d ∷ []))) ≡ (this ++ done) ++ more =
    ap₂ (λ b ps. here b ++ ps) (list_alike flaw room _ _) pushed ∙ sym (append_assoc this done more) in
    now
    ∙ ap₂ (λ b r. lesser b (option_map (λ p. item_step (length ds) ++ p) r)) so_far found
    ∙ ap (lesser (least (this ++ done))) (sym (least-front (item_step (length ds)) (flawed_places flaw (room - 1) d)))
    ∙ sym (least-append (this ++ done) more)
    ∙ ap least (sym whole)

-- ---- members in a map

abbrev pub Entry : Type 0
Entry = String Global × Found

-- the entries are what was found of the members
abbrev pub AreFound : Aim → ℕ → json.Members → List Entry → Type 0
AreFound aim room json.no_members [] = Unit {0}
AreFound aim room json.no_members (e ∷ es) = ⊥
AreFound aim room (json.member k d ms) [] = ⊥
AreFound aim room (json.member k d ms) (e ∷ es) = (k ≡ string_bytes e.0) × IsFound aim room d e.1 × AreFound aim room ms es

one_of_three : (aim : Aim) (room : ℕ) (o : Ordering) (a b c : json.Members) (x y z : List Entry)
    → AreFound aim room a x → AreFound aim room b y → AreFound aim room c z
    → AreFound aim room (match_ordering o a b c) (match_ordering o x y z)
one_of_three aim room Less a b c x y z first second third = first
one_of_three aim room Equal a b c x y z first second third = second
one_of_three aim room Greater a b c x y z first second third = third

pub one_more_member : (aim : Aim) (room : ℕ) (ms : json.Members) (es : List Entry) (s : String Global) (d : json.Data) (f : Found)
    → AreFound aim room ms es → IsFound aim room d f
    → AreFound aim room (json.put (string_bytes s) d ms) (insert_entry string_cmp es s f)
one_more_member aim room json.no_members [] s d f all this = (refl, this, tt)
one_more_member aim room json.no_members (e ∷ es) s d f all this = absurd all
one_more_member aim room (json.member k c ms) [] s d f all this = absurd all
one_more_member aim room (json.member k c ms) (e ∷ es) s d f all this =
    let name = string_bytes s in
    let first = json.member name d (json.member k c ms) in
    let second = json.member k d ms in
    let third = json.member k c (json.put name d ms) in
    let alike : string_cmp s e.0 ≡ slice_cmp nat_cmp name k = ap (slice_cmp nat_cmp name) (sym all.0) in
    subst (λ o. AreFound aim room (match_ordering o first second third) (insert_entry string_cmp (e ∷ es) s f)) alike
    (one_of_three aim room (string_cmp s e.0) first second third _ _ _ (refl, this, all) (all.0, this, all.2)
    (all.0, all.1, one_more_member aim room ms es s d f all.2 this))

pub members_of-found : (aim : Aim) (room : ℕ) (ms : json.Members) (es : List Entry) → AreFound aim room ms es → aim.keep ≡ true
    → value.members (map found_member es) ≡ members_of ms
members_of-found aim room json.no_members [] all kept = refl
members_of-found aim room json.no_members (e ∷ es) all kept = absurd all
members_of-found aim room (json.member k d ms) [] all kept = absurd all
members_of-found aim room (json.member k d ms) (e ∷ es) all kept =
    ap (λ name. value.member_then name (tree e.1.value) (value.members (map found_member es))) (sym all.0)
    ∙ ap₂ (value.member_then k) (all.1.value kept) (members_of-found aim room ms es all.2 kept)

pub pointer_after-found : (aim : Aim) (room : ℕ) (ms : json.Members) (es : List Entry) (best : Option (List ℕ))
    → AreFound aim room ms es → pointer_after best es ≡ lesser best (least (flawed_members aim.flaw room ms))
pointer_after-found aim room json.no_members [] best all = sym (lesser-none best)
pointer_after-found aim room json.no_members (e ∷ es) best all = absurd all
pointer_after-found aim room (json.member k d ms) [] best all = absurd all
pointer_after-found aim room (json.member k d ms) (e ∷ es) best all =
    let rest = option_map string_bytes e.1.pointer in
    let next = lesser best (option_map (λ p. member_step (string_bytes e.0) ++ p) rest) in
    let now : next ≡ lesser best (option_map (λ p. member_step k ++ p) rest) =
    ap (λ name. lesser best (option_map (λ p. member_step name ++ p) rest)) (sym all.0) in
    pointer_after-found aim room ms es next all.2 ∙ member_done best next rest aim.flaw room k d ms all.1.pointer now

-- an object of which nothing is read yet, and then all
pub object-found : (aim : Aim) (room : ℕ) (ms : json.Members) (es : List Entry) (best : Option (List ℕ))
    → AreFound aim (room - 1) ms es → best ≡ least (here (has_flaw aim.flaw room (json.array json.no_items)))
    → pointer_after best es ≡ least (flawed_places aim.flaw room (json.object ms))
object-found aim room ms es best all first =
    let this = here (has_flaw aim.flaw room (json.object ms)) in
    pointer_after-found aim (room - 1) ms es best all
    ∙ ap (λ b. lesser b (least (flawed_members aim.flaw (room - 1) ms)))
    (first ∙ ap (λ b. least (here b)) (sym (object_alike aim.flaw room ms)))
    ∙ sym (least-append this (flawed_members aim.flaw (room - 1) ms))
