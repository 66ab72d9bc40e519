use Rattle.std.proofs.Common.{◌≡◌, [], ◌∷◌, ◌++◌, sym, ap, ◌∙◌, subst, append_assoc}
use Rattle.std.specs.List.Sorted.{IsStrictlySortedBy}
use Rattle.std.specs.Map.{keys_of}
use Rattle.std.specs.String.{string_cmp}
use Rattle.wf_val.specs.Seen.{tree}
use Rattle.wf_json.specs.Sent.{named}
use Rattle.wf_json.proofs.EntryLemmas.{above_done, map-one_more}
use Rattle.wf_json.proofs.StraightLemmas.{MapEntry}
use Rattle.wf_json.proofs.straight.in_order.Goals as goal

pub append-requires : goal.append-requires
append-requires c =
    let l = c.loop-name in
    let done = l.invariant.0 in
    let e : MapEntry = (c.in-Some.name, c.in-Some.value) in
    let left = c.next.new.self in
    let all : c.args.found.entries ≡ done ++ e ∷ left = l.invariant.1 ∙ ap (λ es. done ++ es) c.in-Some.ensures.steps in
    rw (c.from_string.ensures, l.invariant.2)
    (above_done tree done e left (subst (λ es. IsStrictlySortedBy string_cmp (keys_of es)) all c.len-count.ensures.ordered))

pub loop-name-preserved : goal.loop-name-preserved
loop-name-preserved c =
    let l = c.loop-name in
    let done = l.invariant.0 in
    let e : MapEntry = (c.in-Some.name, c.in-Some.value) in
    let left = c.next.new.self in
    let all : c.args.found.entries ≡ done ++ e ∷ left = l.invariant.1 ∙ ap (λ es. done ++ es) c.in-Some.ensures.steps in (
      done ++ e ∷ [],
      all ∙ sym (append_assoc done (e ∷ []) left),
      c.in_ok-append.ensures.ok ∙ rw (c.from_string.ensures, l.invariant.2) (sym (map-one_more named done e)),
    )
