-- The definition of a drill is a value in form.
use Rattle.std.proofs.Common.{◌≡◌, ℕ, zero, suc, ◌+◌, ◌/◌, ◌<◌, ◌≤◌, List, [], ◌∷◌, ◌++◌, pos}
use Rattle.std.proofs.Common.{refl, sym, ap, subst, arith, codes, decimal}
use Rattle.std.proofs.lemmas.List.{append_assoc}
use Rattle.std.proofs.lemmas.Cmp.{nat_list_cmp_total}
use Rattle.std.proofs.lemmas.Bool.Decides.{nat_tests}
use Rattle.std.proofs.lemmas.Fmt.{IsAscii-decimal}
use Rattle.std.proofs.lemmas.Str.{IsUtf8-append, IsUtf8-from_ascii}
use Rattle.std.specs.List.{AllByRecursion}
use Rattle.std.specs.Str.{IsUtf8}
use Rattle.wf_lists.proofs.KeyOrderLemmas.{in_order-append}
use Rattle.wf_val.specs.Get.{name_of}
use Rattle.wf_val.specs.NameOrder.{IsInNameOrder}
use Rattle.wf_val.specs.ValueTree.{ValueTree, Member, members, number, pairs, text}
use Rattle.wf_val.specs.WellFormed.{AllMembersWellFormed, IsWellFormed}
use Rattle.wf_drill.specs.Calls.{call_name, each_call, object_of}
use Rattle.wf_drill.specs.Drill.{actions, after_all, after_seed, call, drill_definition, join, loop_, range_text, request, seed}
use Rattle.wf_drill.specs.Drill.{square, squares, succeeded, succeeded_or_failed}
use Rattle.wf_drill.proofs.NameLemmas.{above_calls, all-append, join_above, seed_above}

-- ---- objects, by their members

abbrev IsSound : Member → Type 0
IsSound m = IsUtf8 m.0 × IsWellFormed m.1

pairs_of : (ms : List Member) → pairs (members ms) ≡ ms
pairs_of [] = refl
pairs_of (m ∷ ms) = ap (λ rest. m ∷ rest) (pairs_of ms)

all_sound : (ms : List Member) → AllByRecursion IsSound ms → AllMembersWellFormed (members ms)
all_sound [] all = tt
all_sound (m ∷ ms) all = (all.0, all_sound ms all.1)

of_members : (ms : List Member) → IsInNameOrder name_of ms → AllByRecursion IsSound ms → IsWellFormed (object_of ms)
of_members ms order all = (subst (λ l. IsInNameOrder name_of l) (sym (pairs_of ms)) order, all_sound ms all)

-- ---- texts

three : (a b c : ℕ) → a < 128 → b < 128 → c < 128 → IsUtf8 (72 ∷ a ∷ b ∷ c ∷ [])
three a b c first second third = IsUtf8-from_ascii (72 ∷ a ∷ b ∷ c ∷ []) (λ i. grind (arith, nat_tests))

name_sound : (k : ℕ) → k < 1000 → IsUtf8 (call_name k)
name_sound k small = three (48 + k / 100) _ _ (omega (arith, small)) (omega (arith, small)) (omega (arith, small))

range_sound : (n : ℕ) → n ≤ 400 → IsUtf8 (range_text n)
unfolding lib.Utf8.encode
range_sound n le =
    IsUtf8-append (codes "@range(0,") (decimal n ++ codes ")") (codes "@range(0,", (refl, refl))
    (IsUtf8-append (decimal n) (codes ")") (IsUtf8-from_ascii (decimal n) (IsAscii-decimal n (omega (arith, le))))
    (codes ")", (refl, refl)))

-- ---- members of calls

calls_sound : (value : ValueTree) → IsWellFormed value → (n : ℕ) → n ≤ 1000 → AllByRecursion IsSound (each_call value n)
calls_sound value well zero le = tt
calls_sound value well (suc n) le =
    all-append IsSound (each_call value n) (call_name n, value) (calls_sound value well n (omega (arith, le)))
    (name_sound n (omega (arith, le)), well)

calls_in_order : (first value : ValueTree) (n : ℕ) → n ≤ 1000 → IsInNameOrder name_of ((codes "F", first) ∷ each_call value n)
calls_in_order first value zero le = (tt, tt)
calls_in_order first value (suc n) le =
    in_order-append nat_list_cmp_total name_of (call_name n, value) ((codes "F", first) ∷ each_call value n)
    (calls_in_order first value n (omega (arith, le))) (above_calls first value n (omega (arith, le)))

-- ---- the parts of the definition

text_f : IsUtf8 (codes "F")
unfolding lib.Utf8.encode
text_f = (codes "F", (refl, refl))

list_well : IsWellFormed succeeded
unfolding lib.Utf8.encode
list_well = ((codes "Succeeded", (refl, refl)), tt)

either_well : IsWellFormed succeeded_or_failed
unfolding lib.Utf8.encode
either_well = ((codes "Succeeded", (refl, refl)), ((codes "Failed", (refl, refl)), tt))

after_seed_well : IsWellFormed after_seed
unfolding lib.Utf8.encode
after_seed_well = of_members ((codes "Seed", succeeded) ∷ []) (tt, tt) (((codes "Seed", (refl, refl)), list_well), tt)

request_well : IsWellFormed request
unfolding lib.Utf8.encode
request_well =
    of_members ((codes "method", text (codes "GET")) ∷ (codes "uri", text (codes "https://contoso.com")) ∷ []) ((refl, tt), (tt, tt)) (
      ((codes "method", (refl, refl)), (codes "GET", (refl, refl))),
      (((codes "uri", (refl, refl)), (codes "https://contoso.com", (refl, refl))), tt),
    )

call_well : IsWellFormed call
unfolding lib.Utf8.encode
call_well =
    of_members ((codes "inputs", request) ∷ (codes "runAfter", after_seed) ∷ (codes "type", text (codes "Http")) ∷ [])
    ((refl, (refl, tt)), ((refl, tt), (tt, tt))) (
      ((codes "inputs", (refl, refl)), request_well),
      (
        ((codes "runAfter", (refl, refl)), after_seed_well),
        (((codes "type", (refl, refl)), (codes "Http", (refl, refl))), tt),
      ),
    )

square_well : IsWellFormed square
unfolding lib.Utf8.encode
square_well =
    of_members ((codes "inputs", text (codes "@mul(item(),item())")) ∷ (codes "type", text (codes "Compose")) ∷ []) ((refl, tt), (tt, tt)) (
      ((codes "inputs", (refl, refl)), (codes "@mul(item(),item())", (refl, refl))),
      (((codes "type", (refl, refl)), (codes "Compose", (refl, refl))), tt),
    )

squares_well : IsWellFormed squares
unfolding lib.Utf8.encode
squares_well = of_members ((codes "C", square) ∷ []) (tt, tt) (((codes "C", (refl, refl)), square_well), tt)

loop_well : (n : ℕ) → n ≤ 400 → IsWellFormed (loop_ n)
unfolding lib.Utf8.encode
loop_well n le =
    of_members ((codes "actions", squares) ∷ (codes "foreach", text (range_text n)) ∷ (codes "runAfter", after_seed)
    ∷ (codes "type", text (codes "Foreach")) ∷ [])
    ((refl, (refl, (refl, tt))), ((refl, (refl, tt)), ((refl, tt), (tt, tt)))) (
      ((codes "actions", (refl, refl)), squares_well),
      (
        ((codes "foreach", (refl, refl)), range_sound n le),
        (((codes "runAfter", (refl, refl)), after_seed_well), (((codes "type", (refl, refl)), (codes "Foreach", (refl, refl))), tt)),
      ),
    )

after_all_well : (n : ℕ) → n ≤ 400 → IsWellFormed (after_all n)
after_all_well n le =
    of_members ((codes "F", succeeded) ∷ each_call succeeded_or_failed n)
    (calls_in_order succeeded succeeded_or_failed n (omega (arith, le)))
    ((text_f, list_well), calls_sound succeeded_or_failed either_well n (omega (arith, le)))

join_well : (n : ℕ) → n ≤ 400 → IsWellFormed (join n)
unfolding lib.Utf8.encode
join_well n le =
    of_members ((codes "inputs", text (codes "@length(outputs('C'))")) ∷ (codes "runAfter", after_all n)
    ∷ (codes "type", text (codes "Compose")) ∷ [])
    ((refl, (refl, tt)), ((refl, tt), (tt, tt))) (
      ((codes "inputs", (refl, refl)), (codes "@length(outputs('C'))", (refl, refl))),
      (
        ((codes "runAfter", (refl, refl)), after_all_well n le),
        (((codes "type", (refl, refl)), (codes "Compose", (refl, refl))), tt),
      ),
    )

seed_well : (n : ℕ) → n ≤ 400 → IsWellFormed (seed n)
unfolding lib.Utf8.encode
seed_well n le =
    of_members ((codes "inputs", number (pos n)) ∷ (codes "type", text (codes "Compose")) ∷ []) ((refl, tt), (tt, tt))
    (((codes "inputs", (refl, refl)), omega (arith, le)), (((codes "type", (refl, refl)), (codes "Compose", (refl, refl))), tt))

-- ---- and the whole

module _ (n : ℕ) (le : n ≤ 400) where
  abbrev with_loop : List Member
  with_loop = (codes "F", loop_ n) ∷ each_call call n

  abbrev with_join : List Member
  with_join = with_loop ++ (codes "J", join n) ∷ []

  join_in_order : IsInNameOrder name_of with_join
  join_in_order =
      in_order-append nat_list_cmp_total name_of (codes "J", join n) with_loop (calls_in_order (loop_ n) call n (omega (arith, le)))
      (join_above (loop_ n) call n)

  seed_in_order : IsInNameOrder name_of (with_join ++ (codes "Seed", seed n) ∷ [])
  seed_in_order =
      in_order-append nat_list_cmp_total name_of (codes "Seed", seed n) with_join join_in_order (seed_above (loop_ n) call (join n) n)

  with_loop_sound : AllByRecursion IsSound with_loop
  with_loop_sound = ((text_f, loop_well n le), calls_sound call call_well n (omega (arith, le)))

  with_join_sound : AllByRecursion IsSound with_join
  unfolding lib.Utf8.encode
  with_join_sound = all-append IsSound with_loop (codes "J", join n) with_loop_sound ((codes "J", (refl, refl)), join_well n le)

  actions_are : with_join ++ (codes "Seed", seed n) ∷ [] ≡ actions n
  actions_are = append_assoc with_loop ((codes "J", join n) ∷ []) ((codes "Seed", seed n) ∷ [])

  actions_well : IsWellFormed (object_of (actions n))
  unfolding lib.Utf8.encode
  actions_well =
      subst (λ l. IsWellFormed (object_of l)) actions_are
      (of_members (with_join ++ (codes "Seed", seed n) ∷ []) seed_in_order
      (all-append IsSound with_join (codes "Seed", seed n) with_join_sound ((codes "Seed", (refl, refl)), seed_well n le)))

  pub definition_well : IsWellFormed (drill_definition n)
  unfolding lib.Utf8.encode
  definition_well =
      of_members ((codes "actions", object_of (actions n)) ∷ []) (tt, tt) (((codes "actions", (refl, refl)), actions_well), tt)
