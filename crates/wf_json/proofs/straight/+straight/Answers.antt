use Rattle.std.proofs.Common.{◌≡◌, ◌+◌, ◌-◌, ◌<◌, List, [], ◌∷◌, length, Some, None, string_bytes, sym, ap, ◌∙◌, arith, rules}
use Rattle.json.specs.Token.{Token}
use Rattle.json.specs.Json.{parse_map, after_end_array, read_key, items, members, value}
use Rattle.json.specs.Reads.{token_of}
use Rattle.json.proofs.Grammar.{value_is, read_key-shorter}
use Rattle.serde_json.specs.Data.{string, array, object, put}
use Rattle.serde_json.specs.Read.{of_json, of_items, of_members, converted}
use Rattle.wf_json.proofs.GrammarLemmas.{item_read, item_refused, items_over, member_read, member_refused, key_refused, members_over}
use Rattle.wf_val.specs.Seen.{tree}
use Rattle.wf_val.specs.ValueTree.{ValueTree, trees}
use Rattle.wf_json.specs.Sent.{data_of, items_of, members_of as sent_members}
use Rattle.wf_json.proofs.StraightLemmas.{items_before, items_before-no_items, one_more_item, one_more_nests}
use Rattle.wf_json.proofs.StraightLemmas.{entries, entries_of-insert_entry, insert_entry-nests, opened_array, opened_object}
use Rattle.wf_json.proofs.straight.+straight.Goals as goal

pub value_in-returns-in_err-token-clause-not_json : goal.value_in-returns-in_err-token-clause-not_json
value_in-returns-in_err-token-clause-not_json t c _ =
    let empty : c.args.reader.now ≡ [] = grind arith in
    ap (converted of_json) (ap (value (c.args.room + 7)) empty ∙ value_is (c.args.room + 7) [])

pub value_in-returns-in-EndObject-clause-not_json : goal.value_in-returns-in-EndObject-clause-not_json
value_in-returns-in-EndObject-clause-not_json t c _ =
    let first : c.args.reader.now ≡ token_of c.in_ok-token.token ∷ c.next.new.self = grind arith in
    let none : value (c.args.room + 7) c.args.reader.now ≡ None =
    rw (value_is (c.args.room + 7) c.args.reader.now, first) (grind arith) in
    ap (converted of_json) none

pub value_in-returns-in_err-items_in-in-BeginArray-clause-not_json : goal.value_in-returns-in_err-items_in-in-BeginArray-clause-not_json
value_in-returns-in_err-items_in-in-BeginArray-clause-not_json t c is =
    let first : c.args.reader.now ≡ token_of c.in_ok-token.token ∷ c.next.new.self = grind arith in
    let begun : c.args.reader.now ≡ Token.begin_array ∷ c.next.new.self =
    first ∙ ap (λ k. token_of k ∷ c.next.new.self) c.in-BeginArray.is in
    opened_array c.args.room c.args.reader.now c.next.new.self begun (omega arith)
    ∙ ap (parse_map array) (c.items_in.ensures.not_json (grind (arith, is)))

pub value_in-returns-in_err-members_in-in-BeginObject-clause-not_json : goal.value_in-returns-in_err-members_in-in-BeginObject-clause-not_json
value_in-returns-in_err-members_in-in-BeginObject-clause-not_json t c is =
    let first : c.args.reader.now ≡ token_of c.in_ok-token.token ∷ c.next.new.self = grind arith in
    let begun : c.args.reader.now ≡ Token.begin_object ∷ c.next.new.self =
    first ∙ ap (λ k. token_of k ∷ c.next.new.self) c.in-BeginObject.is in
    opened_object c.args.room c.args.reader.now c.next.new.self begun (omega arith)
    ∙ ap (parse_map object) (c.members_in.ensures.not_json (grind (arith, is)))

pub value_in-returns-in-Null-clause-ok : goal.value_in-returns-in-Null-clause-ok
value_in-returns-in-Null-clause-ok t c =
    let first : c.args.reader.now ≡ token_of c.in_ok-token.token ∷ c.next.new.self = grind arith in
    let is : c.args.reader.now ≡ Token.null ∷ c.next.new.self = grind (arith, first) in
    ap (converted of_json) (ap (value (c.args.room + 7)) is ∙ value_is (c.args.room + 7) _)

pub value_in-returns-in-Bool-clause-ok : goal.value_in-returns-in-Bool-clause-ok
value_in-returns-in-Bool-clause-ok t c =
    let first : c.args.reader.now ≡ token_of c.in_ok-token.token ∷ c.next.new.self = grind arith in
    let is : c.args.reader.now ≡ Token.boolean c.in-Bool.b ∷ c.next.new.self = grind (arith, first) in
    ap (converted of_json) (ap (value (c.args.room + 7)) is ∙ value_is (c.args.room + 7) _)

pub value_in-returns-in-Some-clause-ok : goal.value_in-returns-in-Some-clause-ok
value_in-returns-in-Some-clause-ok t c =
    let first : c.args.reader.now ≡ token_of c.in_ok-token.token ∷ c.next.new.self = grind arith in
    let is : c.args.reader.now ≡ Token.number c.in-Number.text.now ∷ c.next.new.self = grind (arith, first) in
    ap (converted of_json) (ap (value (c.args.room + 7)) is ∙ value_is (c.args.room + 7) _) ∙ rw c.in-Some.ensures (search rules)

pub value_in-returns-in_ok-of-in-String-clause-ok : goal.value_in-returns-in_ok-of-in-String-clause-ok
value_in-returns-in_ok-of-in-String-clause-ok t c =
    let first : c.args.reader.now ≡ token_of c.in_ok-token.token ∷ c.next.new.self = grind arith in
    let is : c.args.reader.now ≡ Token.string c.in-String.text.now ∷ c.next.new.self = grind (arith, first) in
    ap (converted of_json) (ap (value (c.args.room + 7)) is ∙ value_is (c.args.room + 7) _)
    ∙ ap (λ s. Some (string s, c.next.new.self)) (sym c.in_ok-of-in-String.ensures)

pub value_in-returns-in_ok-items_in-in-BeginArray-clause-ok : goal.value_in-returns-in_ok-items_in-in-BeginArray-clause-ok
value_in-returns-in_ok-items_in-in-BeginArray-clause-ok t c =
    let first : c.args.reader.now ≡ token_of c.in_ok-token.token ∷ c.next.new.self = grind arith in
    let begun : c.args.reader.now ≡ Token.begin_array ∷ c.next.new.self =
    first ∙ ap (λ k. token_of k ∷ c.next.new.self) c.in-BeginArray.is in
    opened_array c.args.room c.args.reader.now c.next.new.self begun (omega arith)
    ∙ ap (parse_map array) c.in_ok-items_in-in-BeginArray.ensures.ok

pub value_in-returns-in_ok-members_in-in-BeginObject-clause-ok : goal.value_in-returns-in_ok-members_in-in-BeginObject-clause-ok
value_in-returns-in_ok-members_in-in-BeginObject-clause-ok t c =
    let first : c.args.reader.now ≡ token_of c.in_ok-token.token ∷ c.next.new.self = grind arith in
    let begun : c.args.reader.now ≡ Token.begin_object ∷ c.next.new.self =
    first ∙ ap (λ k. token_of k ∷ c.next.new.self) c.in-BeginObject.is in
    opened_object c.args.room c.args.reader.now c.next.new.self begun (omega arith)
    ∙ ap (parse_map object) c.in_ok-members_in-in-BeginObject.ensures.ok

pub items_in-returns-in_err-item-clause-not_json : goal.items_in-returns-in_err-item-clause-not_json
items_in-returns-in_err-item-clause-not_json t c is =
    let p = value (c.args.room + 7) in
    let l = c.items in
    let n = l.invariant.0 in
    let going : (after_end_array l.reader ≡ None) × (c.take_end_array.new.self ≡ l.reader) = grind arith in
    l.invariant.2
    ∙ ap (parse_map (items_before l.found))
    (item_refused p n l.reader going.0 (rw (← going.1) (c.value_in.ensures.not_json (grind (arith, is)))))

pub items_in-items-preserved : goal.items_in-items-preserved
items_in-items-preserved t c =
    let p = value (c.args.room + 7) in
    let l = c.items in
    let n = l.invariant.0 in
    let going : (after_end_array l.reader ≡ None) × (c.take_end_array.new.self ≡ l.reader) = grind arith in
    let done = c.in_ok-item.ensures in
    let v = tree c.in_ok-item.item in
    let r = c.value_in.new.reader in
    let less : length r < length l.reader = rw (← going.1) done.shorter in
    let turn = item_read p n l.reader r (data_of v) (omega (arith, l.invariant.1)) going.0 (rw (← going.1) done.ok) in (
      n - 1,
      omega (arith, l.invariant.1),
      l.invariant.2 ∙ ap (parse_map (items_before l.found)) turn ∙ one_more_item l.found v _
          ∙ ap (λ vs. parse_map (items_before vs) (converted of_items (items p (n - 1) r))) (sym c.in_ok-push.ensures.ok),
      omega (arith, l.invariant.3),
      rw c.in_ok-push.ensures.ok (one_more_nests l.found v c.args.room l.invariant.4 done.nests),
    )

pub items_in-returns-clause-ok : goal.items_in-returns-clause-ok
items_in-returns-clause-ok t c =
    let p = value (c.args.room + 7) in
    let l = c.items in
    let n = l.invariant.0 in
    let r = c.take_end_array.new.self in
    l.invariant.2 ∙ ap (parse_map (items_before l.found)) (items_over p n l.reader r l.invariant.1 (grind arith))
    ∙ ap (λ ds. Some (ds, r)) (items_before-no_items l.found)
    ∙ ap (λ (vs : List ValueTree). Some (items_of (trees vs), r)) (sym c.in_ok-list.ensures)

pub members_in-returns-in_err-name-clause-not_json : goal.members_in-returns-in_err-name-clause-not_json
members_in-returns-in_err-name-clause-not_json t c _ =
    let l = c.members in
    let old = sent_members (entries l.found.entries) in
    l.invariant.2 ∙ key_refused (value (c.args.room + 7)) old l.invariant.0 l.reader c.in_err-name.ensures.value

pub members_in-returns-in_err-member-clause-not_json : goal.members_in-returns-in_err-member-clause-not_json
members_in-returns-in_err-member-clause-not_json t c is =
    let l = c.members in
    let old = sent_members (entries l.found.entries) in
    let k = c.in-Some.name.now in
    let s = c.next_key.new.self in
    let named : read_key l.reader ≡ Some (Some k, s) = grind arith in
    l.invariant.2
    ∙ member_refused (value (c.args.room + 7)) old l.invariant.0 k l.reader s named (c.value_in.ensures.not_json (grind (arith, is)))

pub members_in-members-preserved : goal.members_in-members-preserved
members_in-members-preserved t c =
    let p = value (c.args.room + 7) in
    let l = c.members in
    let n = l.invariant.0 in
    let old = sent_members (entries l.found.entries) in
    let k = c.in-Some.name.now in
    let s = c.next_key.new.self in
    let named : read_key l.reader ≡ Some (Some k, s) = grind arith in
    let done = c.in_ok-member.ensures in
    let v = c.in_ok-member.member in
    let r = c.value_in.new.reader in
    let less = read_key-shorter l.reader (Some k) s named in
    let lesser = done.shorter in
    let copied : string_bytes c.in_ok-name-2.name ≡ k = search rules in
    let inserted : sent_members (entries c.put.new.found.entries) ≡ put k (data_of (tree v)) old =
    ap (λ es. sent_members (entries es)) c.in_ok-put.ensures ∙ entries_of-insert_entry l.found.entries c.in_ok-name-2.name v
    ∙ ap (λ name. put name (data_of (tree v)) old) copied in (
      n - 1,
      omega (arith, l.invariant.1),
      l.invariant.2 ∙ member_read p old n k l.reader s r (data_of (tree v)) (omega (arith, l.invariant.1)) named done.ok
          ∙ ap (λ found. converted (λ ms. of_members ms found) (members p (n - 1) r)) (sym inserted),
      omega (arith, l.invariant.3),
      rw c.in_ok-put.ensures (insert_entry-nests l.found.entries c.in_ok-name-2.name v c.args.room l.invariant.4 done.nests),
    )

pub members_in-returns-clause-ok : goal.members_in-returns-clause-ok
members_in-returns-clause-ok t c =
    let l = c.members in
    let r = c.next_key.new.self in
    let old = sent_members (entries l.found.entries) in
    l.invariant.2 ∙ members_over (value (c.args.room + 7)) old l.invariant.0 l.reader r l.invariant.1 (grind arith)
    ∙ rw c.in_ok-in_order.ensures
