-- What is amiss at a value itself, by its schema.
use Rattle.std.proofs.Common.{◌≡◌, [], ◌++◌, Bool, true, false, not, refl, ap, ◌∙◌}
use Rattle.wf_places.specs.Pointer.{here, least, lesser}
use Rattle.wf_places.specs.Form.{own, places, in_members, in_items, in_list}
use Rattle.wf_places.proofs.WalkLemmas.{own_and_members, own_and_items}
use Rattle.wf_val.specs.ValueTree.{ValueTree, MemberTrees, ValueTrees, object, list}
use Rattle.wf_schema.specs.Fails.{by_schema, item_schema}
use Rattle.wf_schema.specs.Asked.{is_as_asked}

here_alone : (b : Bool) → least (here b ++ ([] ++ [])) ≡ least (here b)
here_alone true = refl
here_alone false = refl

pub own_alone : (s v : ValueTree) → least (own by_schema s v) ≡ least (here (not (is_as_asked s v)))
own_alone s v = here_alone (not (is_as_asked s v))

pub with_members : (s : ValueTree) (ms : MemberTrees)
    → least (places by_schema s (object ms))
    ≡ lesser (least (here (not (is_as_asked s (object ms))))) (least (in_members by_schema s ms))
with_members s ms = own_and_members by_schema s ms ∙ ap (λ o. lesser o (least (in_members by_schema s ms))) (own_alone s (object ms))

pub with_items : (s : ValueTree) (ts : ValueTrees)
    → least (places by_schema s (list ts)) ≡ lesser (least (here (not (is_as_asked s (list ts)))))
    (least (in_list (item_schema s) (λ part. in_items by_schema part 0 ts)))
with_items s ts = own_and_items by_schema s ts
    ∙ ap (λ o. lesser o (least (in_list (item_schema s) (λ part. in_items by_schema part 0 ts)))) (own_alone s (list ts))
