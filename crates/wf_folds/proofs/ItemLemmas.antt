-- An item that is put into the set of those that are there.
use Rattle.std.proofs.Common.{◌≡◌, Bool, true, false, not, List, map, refl, sym, ◌∙◌, ap}
use Rattle.std.specs.BTreeSet.{BTreeSet, contains, insert_key}
use Rattle.wf_lists.proofs.KeyOrderLemmas.{insert_key-map}
use Rattle.wf_val.specs.Seen.{tree}
use Rattle.wf_val.specs.ValueKeys.{val_cmp}
use Rattle.wf_val.specs.ValueOrder.{order}
use Rattle.wf_val.specs.ValueTree.{ValueTree}
use Rattle.wf_val.specs.declared.val.Val.{Val}
use Rattle.wf_fn_list.specs.Membership.{is_among}
use Rattle.wf_fn_list.proofs.MembershipLemmas.{among-mapped}
use Rattle.wf_functions.specs.Collected.{Collected, with_item}
use Rattle.wf_folds.specs.Items.{one_more, with_one}

was-there : (a b : Bool) → b ≡ not a → b ≡ false → a ≡ true
was-there true b is said = refl
was-there false b is said = absurd cc

was-new : (a b : Bool) → b ≡ not a → b ≡ true → a ≡ false
was-new true b is said = absurd cc
was-new false b is said = refl

-- one that was there
pub old-item : (c : Collected) (s n : BTreeSet Val) (v : Val) (b : Bool) → b ≡ not (contains val_cmp s v) → b ≡ false → n.keys ≡ s.keys →
    (c, map tree n.keys) ≡ one_more (c, map tree s.keys) (tree v)
old-item c s n v b added said same =
    let there : is_among (map tree s.keys) (tree v) ≡ true =
    sym (among-mapped tree s.keys (tree v)) ∙ was-there (contains val_cmp s v) b added said in
    ap (λ ks. (c, map tree ks)) same ∙ sym (ap (with_one (c, map tree s.keys) (tree v)) there)

-- one that is new
pub new-item : (c more : Collected) (s n : BTreeSet Val) (v : Val) (b : Bool) → b ≡ not (contains val_cmp s v) → b ≡ true →
    n.keys ≡ insert_key val_cmp s.keys v → more ≡ with_item (tree v) c →
    (more, map tree n.keys) ≡ one_more (c, map tree s.keys) (tree v)
new-item c more s n v b added said put kept =
    let there : is_among (map tree s.keys) (tree v) ≡ false =
    sym (among-mapped tree s.keys (tree v)) ∙ was-new (contains val_cmp s v) b added said in
    ap (λ d. (d, map tree n.keys)) kept
    ∙ (ap (λ ks. (with_item (tree v) c, ks)) (ap (map tree) put ∙ insert_key-map order tree s.keys v)
    ∙ sym (ap (with_one (c, map tree s.keys) (tree v)) there))
