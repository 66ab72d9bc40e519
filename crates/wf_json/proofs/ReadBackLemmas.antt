-- The JSON text of a well formed value reads as that value.
use Rattle.std.proofs.Common.{◌≡◌, ◌≤◌, ◌<◌, ◌-◌, ◌^◌, ℕ, suc, pos, negsuc, List, [], ◌∷◌, ◌++◌, Some, None, option_map}
use Rattle.std.proofs.Common.{Ok, true, false, cond, decimal, IsUtf8, Less, Greater, refl, ap, ap₂, sym, ◌∙◌, subst, arith}
use Rattle.std.proofs.Common.{append_assoc, append-nil, ne_eqb}
use Rattle.std.specs.Str.{IsAscii, is_utf8}
use Rattle.std.specs.Ordering.{ordering_reverse}
use Rattle.std.specs.List.{AllByRecursion}
use Rattle.std.proofs.lemmas.Bool.{lt-ltb}
use Rattle.std.proofs.lemmas.Cmp.{nat_list_cmp_total}
use Rattle.std.proofs.lemmas.Fmt.{IsAscii-decimal}
use Rattle.std.proofs.lemmas.Str.{IsUtf8-append, IsUtf8-nil, IsUtf8-from_ascii, is_utf8-from_IsUtf8}
use Rattle.json.specs.Token.{Token}
use Rattle.json.specs.Lex.{tokens}
use Rattle.json.specs.Print.{ArePrintable}
use Rattle.json.specs.Json as grammar
use Rattle.json.specs.Tree as spelled
use Rattle.json.proofs.Printed.Tokens.{tokens-print}
use Rattle.json.proofs.Printed.Decimals.{IsNumber-decimal, IsNumber-signed_decimal}
use Rattle.json.proofs.Printed.Trees.{value-json_tokens}
use Rattle.json.proofs.Printed.Utf8.{IsUtf8-quoted, IsUtf8-are_ascii}
use Rattle.serde_json.specs.Data as json
use Rattle.serde_json.specs.Read as reader
use Rattle.serde_json.specs.Written.{outline, items_outline, members_outline}
use Rattle.serde_json.proofs.Numbers.{number_of-decimal, number_of-negative}
use Rattle.serde_json.proofs.Texts.{print-outline}
use Rattle.wf_val.specs.Get.{name_of}
use Rattle.wf_val.specs.NameOrder.{bytes_cmp, IsInNameOrder}
use Rattle.wf_val.specs.ValueTree as value
use Rattle.wf_val.specs.WellFormed.{IsWellFormed, AllWellFormed, AllMembersWellFormed}
use Rattle.wf_json.specs.Json as text
use Rattle.wf_json.specs.Pointer.{least}
use Rattle.wf_json.specs.Read.{after_mark, json_of, greatest_nesting, flawed_places, flawed_items, flawed_members, value_unless, value_of}
use Rattle.wf_json.specs.Read.{values_of, members_of, read_json, read_value}
use Rattle.wf_json.specs.Sent as sent
use Rattle.wf_json.specs.declared.fault.Flaw.{Flaw}
use Rattle.wf_json.proofs.GrammarLemmas.{whole}
use Rattle.wf_json.proofs.SentLemmas.{compact-json, quoted-string}

-- ---- numbers

below_2^63 : (n : ℕ) → IsWellFormed (value.number (pos n)) → n < 2 ^ 63
below_2^63 n fits = omega (arith, fits)

down_to_2^63 : (n : ℕ) → IsWellFormed (value.number (negsuc n)) → n < 2 ^ 63
down_to_2^63 n fits = omega (arith, fits)

-- ---- members in order

abbrev entries : List value.Member → json.Members
entries ms = sent.members_of (value.members ms)

members-pairs : (ms : value.MemberTrees) → value.members (value.pairs ms) ≡ ms
members-pairs value.no_members = refl
members-pairs (value.member_then k t ms) = ap (value.member_then k t) (members-pairs ms)

below : (k : List ℕ) (done : List value.Member) (m : value.Member) (rest : List value.Member)
    → AllByRecursion (λ y. bytes_cmp k (name_of y) ≡ Less) (done ++ m ∷ rest) → bytes_cmp k m.0 ≡ Less
below k [] m rest all = all.0
below k (y ∷ done) m rest all = below k done m rest all.1

-- a member above all before it goes last
put-last : (done : List value.Member) (m : value.Member) (rest : List value.Member) → IsInNameOrder name_of (done ++ m ∷ rest)
    → json.put m.0 (sent.data_of m.1) (entries done) ≡ entries (done ++ m ∷ [])
put-last [] m rest order = refl
put-last (x ∷ done) m rest order =
    let above : bytes_cmp m.0 x.0 ≡ Greater = nat_list_cmp_total.antisymm m.0 x.0 ∙ ap ordering_reverse (below x.0 done m rest order.0) in
    rw above (ap (json.member x.0 (sent.data_of x.1)) (put-last done m rest order.1))

-- ---- what is spelled reads as what was sent

mutual
  of_json-outline : (t : value.ValueTree) → IsWellFormed t → reader.of_json (outline (sent.data_of t)) ≡ Some (sent.data_of t)
  of_json-outline value.null well = refl
  of_json-outline (value.boolean b) well = refl
  of_json-outline (value.number (pos n)) well = ap (option_map json.number) (number_of-decimal n (omega (arith, below_2^63 n well)))
  of_json-outline (value.number (negsuc n)) well = ap (option_map json.number) (number_of-negative n (down_to_2^63 n well))
  of_json-outline (value.text s) well = refl
  of_json-outline (value.list ts) well = ap (option_map json.array) (of_items-outline ts well)
  of_json-outline (value.object ms) well =
      ap (option_map json.object) (of_members-outline [] ms well.0 well.1 ∙ ap (λ x. Some (sent.members_of x)) (members-pairs ms))

  of_items-outline : (ts : value.ValueTrees) → AllWellFormed ts
      → reader.of_items (items_outline (sent.items_of ts)) ≡ Some (sent.items_of ts)
  of_items-outline value.no_values well = refl
  of_items-outline (value.value_then t ts) well = rw (of_json-outline t well.0, of_items-outline ts well.1) refl

  of_members-outline : (done : List value.Member) (ms : value.MemberTrees) → IsInNameOrder name_of (done ++ value.pairs ms)
      → AllMembersWellFormed ms
      → reader.of_members (members_outline (sent.members_of ms)) (entries done) ≡ Some (entries (done ++ value.pairs ms))
  of_members-outline done value.no_members order well = ap (λ ps. Some (entries ps)) (sym (append-nil done))
  of_members-outline done (value.member_then k t ms) order well =
      let m : value.Member = (k, t) in
      let assoc : (done ++ m ∷ []) ++ value.pairs ms ≡ done ++ m ∷ value.pairs ms = append_assoc done (m ∷ []) (value.pairs ms) in
      let later = subst (λ ps. IsInNameOrder name_of ps) (sym assoc) order in
      rw (of_json-outline t well.0.1, put-last done m (value.pairs ms) order)
      (of_members-outline (done ++ m ∷ []) ms later well.1 ∙ ap (λ ps. Some (entries ps)) assoc)

-- ---- how deep it is, and that it can be printed

mutual
  depth-outline : (t : value.ValueTree) → spelled.depth (outline (sent.data_of t)) ≡ value.depth t
  depth-outline value.null = refl
  depth-outline (value.boolean b) = refl
  depth-outline (value.number z) = refl
  depth-outline (value.text s) = refl
  depth-outline (value.list ts) = ap suc (items_depth-outline ts)
  depth-outline (value.object ms) = ap suc (members_depth-outline ms)

  items_depth-outline : (ts : value.ValueTrees) → spelled.items_depth (items_outline (sent.items_of ts)) ≡ value.trees_depth ts
  items_depth-outline value.no_values = refl
  items_depth-outline (value.value_then t ts) = rw (depth-outline t, items_depth-outline ts) refl

  members_depth-outline : (ms : value.MemberTrees) → spelled.members_depth (members_outline (sent.members_of ms)) ≡ value.members_depth ms
  members_depth-outline value.no_members = refl
  members_depth-outline (value.member_then k t ms) = rw (depth-outline t, members_depth-outline ms) refl

ArePrintable-append : (xs ys : List Token) → ArePrintable xs → ArePrintable ys → ArePrintable (xs ++ ys)
unfolding ArePrintable
ArePrintable-append [] ys p q = q
ArePrintable-append (x ∷ xs) ys p q = (p.0, ArePrintable-append xs ys p.1 q)

mutual
  unfolding ArePrintable

  printable : (t : value.ValueTree) → IsWellFormed t → ArePrintable (spelled.json_tokens (outline (sent.data_of t)))
  printable value.null well = (tt, tt)
  printable (value.boolean b) well = (tt, tt)
  printable (value.number (pos n)) well = (IsNumber-decimal n (omega (arith, below_2^63 n well)), tt)
  printable (value.number (negsuc n)) well = (IsNumber-signed_decimal (negsuc n) (omega (arith, well)), tt)
  printable (value.text s) well = (tt, tt)
  printable (value.list ts) well = (tt, printable_items ts well)
  printable (value.object ms) well = (tt, printable_members ms well.1)

  printable_items : (ts : value.ValueTrees) → AllWellFormed ts → ArePrintable (spelled.items_tokens (items_outline (sent.items_of ts)))
  printable_items value.no_values well = (tt, tt)
  printable_items (value.value_then t ts) well =
      ArePrintable-append (spelled.json_tokens (outline (sent.data_of t))) _ (printable t well.0) (printable_items ts well.1)

  printable_members : (ms : value.MemberTrees) → AllMembersWellFormed ms
      → ArePrintable (spelled.members_tokens (members_outline (sent.members_of ms)))
  printable_members value.no_members well = (tt, tt)
  printable_members (value.member_then k t ms) well =
      (tt, ArePrintable-append (spelled.json_tokens (outline (sent.data_of t))) _ (printable t well.0.1) (printable_members ms well.1))

-- ---- the text reads as what was sent

read-json : (t : value.ValueTree) → IsWellFormed t → value.depth t ≤ 127 → reader.read (text.json t) ≡ Some (sent.data_of t)
read-json t well shallow =
    let ts = spelled.json_tokens (outline (sent.data_of t)) in
    let same : tokens (text.json t) ≡ ts = ap tokens (sym (compact-json t) ∙ sym (print-outline (sent.data_of t)))
    ∙ tokens-print ts (printable t well) in
    ap whole (ap (grammar.value 127) (same ∙ sym (append-nil ts)) ∙ value-json_tokens (outline (sent.data_of t)) 127 []
    (omega (arith, depth-outline t)))
    ∙ of_json-outline t well

-- ---- the text is UTF-8, and begins with no mark

IsUtf8-string : (s : List ℕ) → IsUtf8 s → IsUtf8 (text.string s)
IsUtf8-string s utf8 = subst IsUtf8 (quoted-string s) (IsUtf8-quoted s utf8)

-- between two brackets, or after a comma or a colon
one_byte : (x : ℕ) (xs : List ℕ) → IsUtf8 (x ∷ []) → IsUtf8 xs → IsUtf8 (x ∷ xs)
one_byte x xs first rest = IsUtf8-append (x ∷ []) xs first rest

mutual
  IsUtf8-json : (t : value.ValueTree) → IsWellFormed t → IsUtf8 (text.json t)
  IsUtf8-json value.null well = IsUtf8-are_ascii _ refl
  IsUtf8-json (value.boolean true) well = IsUtf8-are_ascii _ refl
  IsUtf8-json (value.boolean false) well = IsUtf8-are_ascii _ refl
  IsUtf8-json (value.number (pos n)) well = IsUtf8-from_ascii _ (IsAscii-decimal n (omega (arith, below_2^63 n well)))
  IsUtf8-json (value.number (negsuc n)) well =
      one_byte 45 _ (IsUtf8-are_ascii _ refl) (IsUtf8-from_ascii _ (IsAscii-decimal (suc n) (omega (arith, down_to_2^63 n well))))
  IsUtf8-json (value.text s) well = IsUtf8-string s well
  IsUtf8-json (value.list ts) well =
      one_byte 91 _ (IsUtf8-are_ascii _ refl) (IsUtf8-append _ _ (IsUtf8-values ts well) (IsUtf8-are_ascii (93 ∷ []) refl))
  IsUtf8-json (value.object ms) well =
      one_byte 123 _ (IsUtf8-are_ascii _ refl) (IsUtf8-append _ _ (IsUtf8-members ms well.1) (IsUtf8-are_ascii (125 ∷ []) refl))

  IsUtf8-values : (ts : value.ValueTrees) → AllWellFormed ts → IsUtf8 (text.values ts)
  IsUtf8-values value.no_values well = IsUtf8-nil
  IsUtf8-values (value.value_then t ts) well = IsUtf8-append _ _ (IsUtf8-json t well.0) (IsUtf8-more_values ts well.1)

  IsUtf8-more_values : (ts : value.ValueTrees) → AllWellFormed ts → IsUtf8 (text.more_values ts)
  IsUtf8-more_values value.no_values well = IsUtf8-nil
  IsUtf8-more_values (value.value_then t ts) well =
      one_byte 44 _ (IsUtf8-are_ascii _ refl) (IsUtf8-append _ _ (IsUtf8-json t well.0) (IsUtf8-more_values ts well.1))

  IsUtf8-members : (ms : value.MemberTrees) → AllMembersWellFormed ms → IsUtf8 (text.members ms)
  IsUtf8-members value.no_members well = IsUtf8-nil
  IsUtf8-members (value.member_then k t ms) well =
      IsUtf8-append _ _ (IsUtf8-string k well.0.0)
      (one_byte 58 _ (IsUtf8-are_ascii _ refl) (IsUtf8-append _ _ (IsUtf8-json t well.0.1) (IsUtf8-more_members ms well.1)))

  IsUtf8-more_members : (ms : value.MemberTrees) → AllMembersWellFormed ms → IsUtf8 (text.more_members ms)
  IsUtf8-more_members value.no_members well = IsUtf8-nil
  IsUtf8-more_members (value.member_then k t ms) well =
      one_byte 44 _ (IsUtf8-are_ascii _ refl)
      (IsUtf8-append _ _ (IsUtf8-string k well.0.0)
      (one_byte 58 _ (IsUtf8-are_ascii _ refl) (IsUtf8-append _ _ (IsUtf8-json t well.0.1) (IsUtf8-more_members ms well.1))))

unmarked : (bytes : List ℕ) → IsAscii bytes → after_mark bytes ≡ bytes
unmarked [] ascii = refl
unmarked (x ∷ bytes) ascii = let first : x < 128 = ascii 0 in rw (ne_eqb 239 x (λ e. omega arith)) refl

after_mark-json : (t : value.ValueTree) → IsWellFormed t → after_mark (text.json t) ≡ text.json t
after_mark-json value.null well = refl
after_mark-json (value.boolean true) well = refl
after_mark-json (value.boolean false) well = refl
after_mark-json (value.number (pos n)) well = unmarked (decimal n) (IsAscii-decimal n (omega (arith, below_2^63 n well)))
after_mark-json (value.number (negsuc n)) well = refl
after_mark-json (value.text s) well = refl
after_mark-json (value.list ts) well = refl
after_mark-json (value.object ms) well = refl

json_of-json : (t : value.ValueTree) → IsWellFormed t → value.depth t ≤ 127 → json_of (text.json t) ≡ Some (sent.data_of t)
json_of-json t well shallow =
    ap (λ bytes. cond (is_utf8 bytes) (reader.read bytes) None) (after_mark-json t well)
    ∙ ap (λ utf8. cond utf8 (reader.read (text.json t)) None) (is_utf8-from_IsUtf8 (text.json t) (IsUtf8-json t well))
    ∙ read-json t well shallow

-- ---- it has no flaw

mutual
  no_fraction : (room : ℕ) (t : value.ValueTree) → IsWellFormed t → flawed_places Flaw.NotWhole room (sent.data_of t) ≡ []
  no_fraction room value.null well = refl
  no_fraction room (value.boolean b) well = refl
  no_fraction room (value.number (pos n)) well = rw (lt-ltb n (2 ^ 63) (below_2^63 n well)) refl
  no_fraction room (value.number (negsuc n)) well = refl
  no_fraction room (value.text s) well = refl
  no_fraction room (value.list ts) well = no_fractions (room - 1) 0 ts well
  no_fraction room (value.object ms) well = no_member_fractions (room - 1) ms well.1

  no_fractions : (room place : ℕ) (ts : value.ValueTrees) → AllWellFormed ts → flawed_items Flaw.NotWhole room place (sent.items_of ts) ≡ []
  no_fractions room place value.no_values well = refl
  no_fractions room place (value.value_then t ts) well = rw (no_fraction room t well.0) (no_fractions room (suc place) ts well.1)

  no_member_fractions : (room : ℕ) (ms : value.MemberTrees) → AllMembersWellFormed ms
      → flawed_members Flaw.NotWhole room (sent.members_of ms) ≡ []
  no_member_fractions room value.no_members well = refl
  no_member_fractions room (value.member_then k t ms) well = rw (no_fraction room t well.0.1) (no_member_fractions room ms well.1)

mutual
  shallow_enough : (room : ℕ) (t : value.ValueTree) → value.depth t ≤ room → flawed_places Flaw.TooDeep room (sent.data_of t) ≡ []
  shallow_enough room value.null within = refl
  shallow_enough room (value.boolean b) within = refl
  shallow_enough room (value.number z) within = refl
  shallow_enough room (value.text s) within = refl
  shallow_enough room (value.list ts) within = rw (ne_eqb room 0 (λ e. omega arith)) (shallow_items (room - 1) 0 ts (omega arith))
  shallow_enough room (value.object ms) within = rw (ne_eqb room 0 (λ e. omega arith)) (shallow_members (room - 1) ms (omega arith))

  shallow_items : (room place : ℕ) (ts : value.ValueTrees) → value.trees_depth ts ≤ room
      → flawed_items Flaw.TooDeep room place (sent.items_of ts) ≡ []
  shallow_items room place value.no_values within = refl
  shallow_items room place (value.value_then t ts) within =
      rw (shallow_enough room t (omega arith)) (shallow_items room (suc place) ts (omega arith))

  shallow_members : (room : ℕ) (ms : value.MemberTrees) → value.members_depth ms ≤ room
      → flawed_members Flaw.TooDeep room (sent.members_of ms) ≡ []
  shallow_members room value.no_members within = refl
  shallow_members room (value.member_then k t ms) within = rw (shallow_enough room t (omega arith)) (shallow_members room ms (omega arith))

-- ---- and its value is the one that was written

mutual
  value_of-data_of : (t : value.ValueTree) → IsWellFormed t → value_of (sent.data_of t) ≡ t
  value_of-data_of value.null well = refl
  value_of-data_of (value.boolean b) well = refl
  value_of-data_of (value.number (pos n)) well = rw (lt-ltb n (2 ^ 63) (below_2^63 n well)) refl
  value_of-data_of (value.number (negsuc n)) well = refl
  value_of-data_of (value.text s) well = refl
  value_of-data_of (value.list ts) well = ap value.list (values_of-items_of ts well)
  value_of-data_of (value.object ms) well = ap value.object (members_of-members_of ms well.1)

  values_of-items_of : (ts : value.ValueTrees) → AllWellFormed ts → values_of (sent.items_of ts) ≡ ts
  values_of-items_of value.no_values well = refl
  values_of-items_of (value.value_then t ts) well = ap₂ value.value_then (value_of-data_of t well.0) (values_of-items_of ts well.1)

  members_of-members_of : (ms : value.MemberTrees) → AllMembersWellFormed ms → members_of (sent.members_of ms) ≡ ms
  members_of-members_of value.no_members well = refl
  members_of-members_of (value.member_then k t ms) well =
      ap₂ (value.member_then k) (value_of-data_of t well.0.1) (members_of-members_of ms well.1)

-- ---- the law

pub read_json-data_of : (t : value.ValueTree) → IsWellFormed t → value.depth t ≤ greatest_nesting → read_json (Some (sent.data_of t)) ≡ Ok t
read_json-data_of t well shallow =
    ap₂ (λ p q. value_unless p q (value_of (sent.data_of t)))
    (ap least (no_fraction greatest_nesting t well))
    (ap least (shallow_enough greatest_nesting t shallow))
    ∙ ap Ok (value_of-data_of t well)

pub read_value-json : (t : value.ValueTree) → IsWellFormed t → value.depth t ≤ greatest_nesting → read_value (text.json t) ≡ Ok t
read_value-json t well shallow = ap read_json (json_of-json t well (omega arith)) ∙ read_json-data_of t well shallow
