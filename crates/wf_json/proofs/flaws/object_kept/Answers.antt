use Rattle.std.proofs.Common.{◌≡◌, [], ◌∷◌, ◌++◌, option_map, string_bytes, sym, ap, ◌∙◌, subst, append_assoc}
use Rattle.std.specs.List.Sorted.{IsStrictlySortedBy}
use Rattle.std.specs.Map.{keys_of}
use Rattle.std.specs.String.{string_cmp}
use Rattle.wf_val.specs.Seen.{tree}
use Rattle.wf_json.specs.Found.{found_member, pointer_after}
use Rattle.wf_json.specs.Pointer.{lesser, member_step}
use Rattle.wf_json.specs.declared.flaws.Found.{Found}
use Rattle.wf_json.proofs.EntryLemmas.{above_done, map-one_more}
use Rattle.wf_json.proofs.FoundLemmas.{Entry}
use Rattle.wf_json.proofs.flaws.object_kept.Goals as goal

pub append-requires : goal.append-requires
append-requires c =
    let l = c.loop-name in
    let done = l.invariant.0 in
    let e : Entry = (c.in-Some.name, c.in-Some.member) in
    let left = c.next.new.self in
    let all : c.args.found.entries ≡ done ++ e ∷ left = l.invariant.1 ∙ ap (λ es. done ++ es) c.in-Some.ensures.steps in
    rw (c.from_string.ensures, l.invariant.2)
    (above_done (λ (f : Found). tree f.value) done e left
    (subst (λ es. IsStrictlySortedBy string_cmp (keys_of es)) all c.len-count.ensures.ordered))

pub loop-name-preserved : goal.loop-name-preserved
loop-name-preserved c =
    let l = c.loop-name in
    let done = l.invariant.0 in
    let e : Entry = (c.in-Some.name, c.in-Some.member) in
    let left = c.next.new.self in
    let all : c.args.found.entries ≡ done ++ e ∷ left = l.invariant.1 ∙ ap (λ es. done ++ es) c.in-Some.ensures.steps in
    let best = option_map string_bytes l.best in
    let named = subst (λ k. option_map string_bytes c.in_ok-best.best ≡ lesser best
    (option_map (λ p. member_step k ++ p) (option_map string_bytes c.in-Some.member.pointer)))
    c.as_str.ensures.value c.in_ok-best.ensures in (
      done ++ e ∷ [],
      all ∙ sym (append_assoc done (e ∷ []) left),
      c.in_ok-append.ensures.ok ∙ rw (c.from_string.ensures, l.invariant.2) (sym (map-one_more found_member done e)),
      ap (λ b. pointer_after b left) named ∙ ap (pointer_after best) (sym c.in-Some.ensures.steps) ∙ l.invariant.3,
    )
