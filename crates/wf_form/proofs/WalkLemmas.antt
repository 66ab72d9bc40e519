-- One member more of a walk.
use Rattle.std.proofs.Common.{◌≡◌, ◌<◌, ◌+◌, ℕ, List, ◌∷◌, ◌++◌, length, drop, drop-cons, get_or, suc, add-one, map, Option}
use Rattle.std.proofs.Common.{option_map, sym, ap, ◌∙◌}
use Rattle.wf_after.specs.Pointer.{member_step, lesser, least}
use Rattle.wf_after.proofs.PointerLemmas.{lesser-assoc, least-append, least-front}
use Rattle.wf_val.specs.ValueTree.{ValueTree, MemberTrees, member_then, object}
use Rattle.wf_form.specs.Actions.{in_part}
use Rattle.wf_form.specs.Judge.{judge}
use Rattle.wf_form.specs.Places.{in_members, places}
use Rattle.wf_form.specs.Role.{child, holder_of}
use Rattle.wf_form.specs.Whole.{Whole}
use Rattle.wf_form.specs.declared.role.Role.{Role}
use Rattle.wf_form.specs.declared.role.Holder.{Holder}
use Rattle.wf_form.specs.declared.rule.Rule.{Rule}

-- the list from a place on
pub drop_at_place : {X : Type 0} (xs : List X) (i : ℕ) (x : X) → i < length xs → x ≡ get_or xs i x → drop i xs ≡ x ∷ drop (i + 1) xs
drop_at_place xs i x within is = rw add-one (drop-cons xs i x within ∙ ap (λ y. y ∷ drop (suc i) xs) (sym is))

module _ (rule : Rule) (whole : Whole) (role : Role) where
  -- the best so far has become best'
  pub member_more : (holder : Holder) (best best' rest : Option (List ℕ)) (k : List ℕ) (t : ValueTree) (ms : MemberTrees)
      → rest ≡ least (in_part (child role holder k) (λ part. places rule whole part k t))
      → best' ≡ lesser best (option_map (λ p. member_step k ++ p) rest)
      → lesser best' (least (in_members rule whole role holder ms))
      ≡ lesser best (least (in_members rule whole role holder (member_then k t ms)))
  member_more holder best best' rest k t ms found now =
      let ps : List (List ℕ) = in_part (child role holder k) (λ part. places rule whole part k t) in
      let qs : List (List ℕ) = in_members rule whole role holder ms in
      ap (λ o. lesser o (least qs)) (now ∙ ap (λ r. lesser best (option_map (λ p. member_step k ++ p) r)) found)
      ∙ sym (lesser-assoc best (option_map (λ p. member_step k ++ p) (least ps)) (least qs))
      ∙ ap (lesser best) (ap (λ o. lesser o (least qs)) (sym (least-front (member_step k) ps))
      ∙ sym (least-append (map (λ p. member_step k ++ p) ps) qs))

  pub own_and_members : (key : List ℕ) (ms : MemberTrees) → least (places rule whole role key (object ms))
      ≡ lesser (least (judge rule whole role key (object ms))) (least (in_members rule whole role (holder_of (object ms)) ms))
  own_and_members key ms = least-append (judge rule whole role key (object ms)) (in_members rule whole role (holder_of (object ms)) ms)

-- the same under a name that an attribute can write
pub least_append : (ps qs : List (List ℕ)) → least (ps ++ qs) ≡ lesser (least ps) (least qs)
least_append = least-append
