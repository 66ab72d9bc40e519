use Rattle.std.proofs.Common.{◌≡◌, ◌+◌, ◌-◌, ◌<◌, List, [], ◌∷◌, ◌++◌, length}
use Rattle.std.proofs.Common.{Some, None, option_map, string_bytes, string_cmp, sym, ap, ap₂, ◌∙◌}
use Rattle.std.proofs.Common.{append-nil, length-append, refl, subst, arith, rules}
use Rattle.std.proofs.lemmas.Result.{err_from_is_err_and}
use Rattle.std.specs.BTreeMap.{insert_entry}
use Rattle.json.specs.Token.{Token}
use Rattle.json.specs.Json.{parse_map, after_end_array, read_key, value}
use Rattle.json.specs.Reads.{token_of}
use Rattle.json.proofs.Grammar.{value_is, read_key-shorter}
use Rattle.serde_json.specs.Data.{null, boolean, number, string, array, object, put, no_members}
use Rattle.serde_json.specs.Read.{of_json, converted}
use Rattle.wf_val.specs.Seen.{tree}
use Rattle.wf_val.specs.ValueTree as value_tree
use Rattle.wf_json.specs.Pointer.{here, item_step, least, lesser}
use Rattle.wf_json.specs.Found.{IsFound}
use Rattle.wf_json.specs.Read.{has_flaw, value_of}
use Rattle.wf_json.proofs.EntryLemmas.{map-one_more}
use Rattle.wf_json.proofs.FoundLemmas.{null_is_sound, boolean_is_sound, string_is_sound}
use Rattle.wf_json.proofs.FoundLemmas.{items_before, items as listed, no_item_yet, one_more_item}
use Rattle.wf_json.proofs.FoundLemmas.{values_of-items, one_more_pointer, AreFound, one_more_member, members_of-found, object-found}
use Rattle.wf_json.proofs.GrammarLemmas.{item_read, item_refused, items_over, member_read, member_refused, key_refused, members_over}
use Rattle.wf_json.proofs.StraightLemmas.{begun_array, begun_object, no_room_array, no_room_object}
use Rattle.wf_json.proofs.flaws.+found.Goals as goal

-- ---- a value

pub value_found-returns-in_err-token-clause-refused : goal.value_found-returns-in_err-token-clause-refused
value_found-returns-in_err-token-clause-refused t c =
    let e = err_from_is_err_and c.from_residual.result c.from_residual.ensures.1 in
    let empty : c.args.reader.now ≡ [] = grind arith in
    rw e.1 (λ _. ap (converted of_json) (ap (value c.args.levels) empty ∙ value_is c.args.levels []))

pub value_found-returns-then-levels-eq0-clause-refused : goal.value_found-returns-then-levels-eq0-clause-refused
value_found-returns-then-levels-eq0-clause-refused t c = λ _.
    let first : c.args.reader.now ≡ token_of c.in_ok-token.token ∷ c.next.new.self = grind arith in
    let begun : c.args.reader.now ≡ Token.begin_array ∷ c.next.new.self =
    first ∙ ap (λ k. token_of k ∷ c.next.new.self) c.in-BeginArray.is in
    no_room_array c.args.levels c.args.reader.now c.next.new.self begun (omega arith)

pub value_found-returns-then-levels-eq0-2-clause-refused : goal.value_found-returns-then-levels-eq0-2-clause-refused
value_found-returns-then-levels-eq0-2-clause-refused t c = λ _.
    let first : c.args.reader.now ≡ token_of c.in_ok-token.token ∷ c.next.new.self = grind arith in
    let begun : c.args.reader.now ≡ Token.begin_object ∷ c.next.new.self =
    first ∙ ap (λ k. token_of k ∷ c.next.new.self) c.in-BeginObject.is in
    no_room_object c.args.levels c.args.reader.now c.next.new.self begun (omega arith)

pub value_found-returns-in-EndObject-clause-refused : goal.value_found-returns-in-EndObject-clause-refused
value_found-returns-in-EndObject-clause-refused t c = λ _.
    let first : c.args.reader.now ≡ token_of c.in_ok-token.token ∷ c.next.new.self = grind arith in
    let none : value c.args.levels c.args.reader.now ≡ None =
    rw (value_is c.args.levels c.args.reader.now, first) (grind arith) in
    ap (converted of_json) none

pub value_found-returns-in-Null-clause-ok : goal.value_found-returns-in-Null-clause-ok
value_found-returns-in-Null-clause-ok t c =
    let first : c.args.reader.now ≡ token_of c.in_ok-token.token ∷ c.next.new.self = grind arith in
    let is : c.args.reader.now ≡ Token.null ∷ c.next.new.self = grind (arith, first) in (
      null,
      ap (converted of_json) (ap (value c.args.levels) is ∙ value_is c.args.levels _),
      record {
        value = λ _. ap tree c.sound.ensures.value;
        pointer = ap (option_map string_bytes) c.sound.ensures.pointer ∙ sym (null_is_sound c.args.aim.flaw c.args.room);
      },
    )

pub value_found-returns-in-Bool-clause-ok : goal.value_found-returns-in-Bool-clause-ok
value_found-returns-in-Bool-clause-ok t c =
    let first : c.args.reader.now ≡ token_of c.in_ok-token.token ∷ c.next.new.self = grind arith in
    let is : c.args.reader.now ≡ Token.boolean c.in-Bool.b ∷ c.next.new.self = grind (arith, first) in (
      boolean c.in-Bool.b,
      ap (converted of_json) (ap (value c.args.levels) is ∙ value_is c.args.levels _),
      record {
        value = λ _. ap tree c.sound-in-Bool.ensures.value;
        pointer =
            ap (option_map string_bytes) c.sound-in-Bool.ensures.pointer
            ∙ sym (boolean_is_sound c.args.aim.flaw c.args.room c.in-Bool.b);
      },
    )

pub value_found-returns-in_ok-text_kept-in-String-clause-ok : goal.value_found-returns-in_ok-text_kept-in-String-clause-ok
value_found-returns-in_ok-text_kept-in-String-clause-ok t c =
    let first : c.args.reader.now ≡ token_of c.in_ok-token.token ∷ c.next.new.self = grind arith in
    let is : c.args.reader.now ≡ Token.string c.in-String.text.now ∷ c.next.new.self = grind (arith, first) in (
      string c.in-String.text.now,
      ap (converted of_json) (ap (value c.args.levels) is ∙ value_is c.args.levels _),
      record {
        value = λ kept. ap tree c.sound-in-String.ensures.value ∙ c.in_ok-text_kept-in-String.ensures kept;
        pointer =
            ap (option_map string_bytes) c.sound-in-String.ensures.pointer
            ∙ sym (string_is_sound c.args.aim.flaw c.args.room c.in-String.text.now);
      },
    )

pub value_found-returns-in_err-number_found-in-Number-clause-refused
    : goal.value_found-returns-in_err-number_found-in-Number-clause-refused
value_found-returns-in_err-number_found-in-Number-clause-refused t c =
    let r = c.from_residual-in_err-number_found-in-Number in
    let e = err_from_is_err_and r.result r.ensures.1 in
    let first : c.args.reader.now ≡ token_of c.in_ok-token.token ∷ c.next.new.self = grind arith in
    let is : c.args.reader.now ≡ Token.number c.in-Number.text.now ∷ c.next.new.self = grind (arith, first) in
    rw e.1 (λ _. ap (converted of_json) (ap (value c.args.levels) is ∙ value_is c.args.levels _)
    ∙ rw c.in_err-number_found-in-Number.ensures.refused refl)

pub value_found-returns-in_ok-number_found-in-Number-clause-ok
    : goal.value_found-returns-in_ok-number_found-in-Number-clause-ok
value_found-returns-in_ok-number_found-in-Number-clause-ok t c =
    let first : c.args.reader.now ≡ token_of c.in_ok-token.token ∷ c.next.new.self = grind arith in
    let is : c.args.reader.now ≡ Token.number c.in-Number.text.now ∷ c.next.new.self = grind (arith, first) in
    let (n, read, found) = c.in_ok-number_found-in-Number.ensures.ok in (
      number n,
      ap (converted of_json) (ap (value c.args.levels) is ∙ value_is c.args.levels _) ∙ rw read refl,
      found c.args.room,
    )

pub value_found-returns-in_err-items_found-in-BeginArray-clause-refused
    : goal.value_found-returns-in_err-items_found-in-BeginArray-clause-refused
value_found-returns-in_err-items_found-in-BeginArray-clause-refused t c =
    let r = c.from_residual-in_err-items_found-in-BeginArray in
    let e = err_from_is_err_and r.result r.ensures.1 in
    let first : c.args.reader.now ≡ token_of c.in_ok-token.token ∷ c.next.new.self = grind arith in
    let begun : c.args.reader.now ≡ Token.begin_array ∷ c.next.new.self =
    first ∙ ap (λ k. token_of k ∷ c.next.new.self) c.in-BeginArray.is in
    rw e.1 (λ other. begun_array c.args.levels c.args.reader.now c.next.new.self begun (omega arith)
    ∙ ap (parse_map array) (c.in_err-items_found-in-BeginArray.ensures.refused (λ is. other (e.2 ∙ is))))

pub value_found-returns-in_ok-items_found-in-BeginArray-clause-ok
    : goal.value_found-returns-in_ok-items_found-in-BeginArray-clause-ok
value_found-returns-in_ok-items_found-in-BeginArray-clause-ok t c =
    let first : c.args.reader.now ≡ token_of c.in_ok-token.token ∷ c.next.new.self = grind arith in
    let begun : c.args.reader.now ≡ Token.begin_array ∷ c.next.new.self =
    first ∙ ap (λ k. token_of k ∷ c.next.new.self) c.in-BeginArray.is in
    let (ds, read, found) = c.in_ok-items_found-in-BeginArray.ensures.ok in (
      array ds,
      begun_array c.args.levels c.args.reader.now c.next.new.self begun (omega arith) ∙ ap (parse_map array) read,
      found,
    )

pub value_found-returns-in_err-members_found-in-BeginObject-clause-refused
    : goal.value_found-returns-in_err-members_found-in-BeginObject-clause-refused
value_found-returns-in_err-members_found-in-BeginObject-clause-refused t c =
    let r = c.from_residual-in_err-members_found-in-BeginObject in
    let e = err_from_is_err_and r.result r.ensures.1 in
    let first : c.args.reader.now ≡ token_of c.in_ok-token.token ∷ c.next.new.self = grind arith in
    let begun : c.args.reader.now ≡ Token.begin_object ∷ c.next.new.self =
    first ∙ ap (λ k. token_of k ∷ c.next.new.self) c.in-BeginObject.is in
    rw e.1 (λ other. begun_object c.args.levels c.args.reader.now c.next.new.self begun (omega arith)
    ∙ ap (parse_map object) (c.in_err-members_found-in-BeginObject.ensures.refused (λ is. other (e.2 ∙ is))))

pub value_found-returns-in_ok-members_found-in-BeginObject-clause-ok
    : goal.value_found-returns-in_ok-members_found-in-BeginObject-clause-ok
value_found-returns-in_ok-members_found-in-BeginObject-clause-ok t c =
    let first : c.args.reader.now ≡ token_of c.in_ok-token.token ∷ c.next.new.self = grind arith in
    let begun : c.args.reader.now ≡ Token.begin_object ∷ c.next.new.self =
    first ∙ ap (λ k. token_of k ∷ c.next.new.self) c.in-BeginObject.is in
    let (ms, read, found) = c.in_ok-members_found-in-BeginObject.ensures.ok in (
      object ms,
      begun_object c.args.levels c.args.reader.now c.next.new.self begun (omega arith) ∙ ap (parse_map object) read,
      found,
    )

-- ---- a list

pub items_found-items-init : goal.items_found-items-init
items_found-items-init t c = (
  length c.args.reader.now,
  [],
  omega arith,
  no_item_yet _,
  omega arith,
  (λ _. c.new-values.ensures),
  c.here-best.ensures ∙ ap (λ b. least (here b)) c.is_at_nesting.ensures
      ∙ ap least (sym (append-nil (here (has_flaw c.args.aim.flaw c.args.room (array (listed [])))))),
  refl,
)

pub items_found-returns-in_err-item-clause-refused : goal.items_found-returns-in_err-item-clause-refused
items_found-returns-in_err-item-clause-refused t c =
    let e = err_from_is_err_and c.from_residual.result c.from_residual.ensures.1 in
    let p = value c.args.levels in
    let l = c.items in
    let done = l.invariant.1 in
    let going : (after_end_array l.reader ≡ None) × (c.take_end_array.new.self ≡ l.reader) = grind arith in
    rw e.1 (λ other. l.invariant.3
    ∙ ap (parse_map (items_before done))
    (item_refused p l.invariant.0 l.reader going.0 (rw (← going.1) (c.in_err-item.ensures.refused (λ is. other (e.2 ∙ is))))))

pub items_found-items-preserved : goal.items_found-items-preserved
items_found-items-preserved t c =
    let p = value c.args.levels in
    let l = c.items in
    let n = l.invariant.0 in
    let done = l.invariant.1 in
    let going : (after_end_array l.reader ≡ None) × (c.take_end_array.new.self ≡ l.reader) = grind arith in
    let (d, read, deeper) = c.in_ok-item.ensures.ok in
    let found = subst (λ room. IsFound c.args.aim room d c.in_ok-item.item) c.saturating_sub.ensures deeper in
    let r = c.value_found.new.reader in
    let less : length r < length l.reader = rw (← going.1) c.in_ok-item.ensures.shorter in
    let turn = item_read p n l.reader r d (omega (arith, l.invariant.2)) going.0 (rw (← going.1) read) in
    let best = option_map string_bytes l.best in
    let rest = option_map string_bytes c.in_ok-item.item.pointer in
    let now : option_map string_bytes c.in_ok-best.best ≡ lesser best (option_map (λ q. item_step (length done) ++ q) rest) =
    c.in_ok-best.ensures ∙ ap (λ k. lesser best (option_map (λ q. item_step k ++ q) rest)) l.invariant.7 in (
      n - 1,
      done ++ d ∷ [],
      omega (arith, l.invariant.2),
      l.invariant.3 ∙ ap (parse_map (items_before done)) turn ∙ one_more_item done d _,
      omega (arith, l.invariant.4),
      (λ kept. c.in_ok-push_kept.ensures kept
          ∙ ap₂ (λ (vs : List value_tree.ValueTree) (v : value_tree.ValueTree). vs ++ v ∷ []) (l.invariant.5 kept) (found.value kept)
          ∙ sym (map-one_more value_of done d)),
      one_more_pointer c.args.aim.flaw c.args.room done d best _ rest l.invariant.6 found.pointer now,
      c.in_ok-place.ensures ∙ ap (λ k. k + 1) l.invariant.7 ∙ sym (length-append done (d ∷ [])),
    )

pub items_found-returns-clause-ok : goal.items_found-returns-clause-ok
items_found-returns-clause-ok t c =
    let l = c.items in
    let done = l.invariant.1 in
    let r = c.take_end_array.new.self in (
      listed done,
      l.invariant.3
          ∙ ap (parse_map (items_before done)) (items_over (value c.args.levels) l.invariant.0 l.reader r l.invariant.2 (grind arith)),
      record {
        value =
            λ kept. ap value_tree.list (ap value_tree.trees (c.in_ok-list.ensures ∙ l.invariant.5 kept) ∙ values_of-items done);
        pointer = l.invariant.6;
      },
    )

-- ---- an object

pub members_found-members-init : goal.members_found-members-init
members_found-members-init t c = (
  length c.args.reader.now,
  no_members,
  omega arith,
  refl,
  omega arith,
  subst (AreFound c.args.aim (c.args.room - 1) no_members) (sym c.new-found.ensures.empty) tt,
)

pub members_found-returns-in_err-name-clause-refused : goal.members_found-returns-in_err-name-clause-refused
members_found-returns-in_err-name-clause-refused t c =
    let e = err_from_is_err_and c.from_residual.result c.from_residual.ensures.1 in
    let l = c.members in
    rw e.1 (λ _. l.invariant.3
    ∙ key_refused (value c.args.levels) l.invariant.1 l.invariant.0 l.reader c.in_err-name.ensures.value)

pub members_found-returns-in_err-member-clause-refused : goal.members_found-returns-in_err-member-clause-refused
members_found-returns-in_err-member-clause-refused t c =
    let e = err_from_is_err_and c.from_residual-in_err-member.result c.from_residual-in_err-member.ensures.1 in
    let l = c.members in
    let k = c.in-Some.name.now in
    let s = c.next_key.new.self in
    let named : read_key l.reader ≡ Some (Some k, s) = grind arith in
    rw e.1 (λ other. l.invariant.3
    ∙ member_refused (value c.args.levels) l.invariant.1 l.invariant.0 k l.reader s named
    (c.in_err-member.ensures.refused (λ is. other (e.2 ∙ is))))

pub members_found-members-preserved : goal.members_found-members-preserved
members_found-members-preserved t c =
    let p = value c.args.levels in
    let l = c.members in
    let n = l.invariant.0 in
    let done = l.invariant.1 in
    let k = c.in-Some.name.now in
    let s = c.next_key.new.self in
    let named : read_key l.reader ≡ Some (Some k, s) = grind arith in
    let (d, read, deeper) = c.in_ok-member.ensures.ok in
    let found = subst (λ room. IsFound c.args.aim room d c.in_ok-member.member) c.saturating_sub.ensures deeper in
    let r = c.value_found.new.reader in
    let less = read_key-shorter l.reader (Some k) s named in
    let lesser = c.in_ok-member.ensures.shorter in
    let name = c.in_ok-name-2.name in
    let copied : string_bytes name ≡ k = search rules in
    let room = c.args.room - 1 in
    let more = one_more_member c.args.aim room done l.found.entries name d c.in_ok-member.member l.invariant.5 found in
    let renamed = subst (λ x. AreFound c.args.aim room (put x d done)
    (insert_entry string_cmp l.found.entries name c.in_ok-member.member)) copied more in (
      n - 1,
      put k d done,
      omega (arith, l.invariant.2),
      l.invariant.3 ∙ member_read p done n k l.reader s r d (omega (arith, l.invariant.2)) named read,
      omega (arith, l.invariant.4),
      subst (AreFound c.args.aim room (put k d done)) (sym c.in_ok-put.ensures) renamed,
    )

pub members_found-returns-clause-ok : goal.members_found-returns-clause-ok
members_found-returns-clause-ok t c =
    let l = c.members in
    let done = l.invariant.1 in
    let r = c.next_key.new.self in
    let es = l.found.entries in
    let ok = c.in_ok-object_found.ensures in
    let first = c.here-best.ensures ∙ ap (λ b. least (here b)) c.is_at_nesting.ensures in (
      done,
      l.invariant.3 ∙ members_over (value c.args.levels) done l.invariant.0 l.reader r l.invariant.2 (grind arith),
      record {
        value =
            λ kept. ok.value kept ∙ ap value_tree.object (members_of-found c.args.aim (c.args.room - 1) done es l.invariant.5 kept);
        pointer =
            ok.pointer
            ∙ object-found c.args.aim c.args.room done es (option_map string_bytes c.here-best.result) l.invariant.5 first;
      },
    )
