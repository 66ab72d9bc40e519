-- One fault is told of a record, and none where it may be resubmitted.
use Rattle.std.proofs.Common.{◌≡◌, ℕ, List, Option, Some, None, Ordering, Less, Equal, Greater, inl, inr, flat_map, refl, sym, subst, ap}
use Rattle.std.proofs.Common.{ap₂, ◌∙◌}
use Rattle.std.specs.Ordering.{ordering_reverse, ordering_then}
use Rattle.std.proofs.lemmas.Map.Lookups.{exact_bytes}
use Rattle.std.proofs.lemmas.Option.{none-some}
use Rattle.wf_val.specs.Address.{address_cmp, address_total}
use Rattle.wf_val.specs.NameOrder.{bytes_cmp}
use Rattle.wf_val.specs.declared.address.Address.{Address}
use Rattle.wf_def.specs.DefTree.{DefTree}
use Rattle.wf_lists.specs.KeyOrder.{IsInKeyOrder}
use Rattle.wf_record.specs.Record.{RecordTree, RowTree, address_of}
use Rattle.wf_resubmit.specs.declared.fault.ResubmitFault.{ResubmitFault}
use Rattle.wf_shaped.specs.Failing.{IsLeastFailing, fails_at, missing_at_top_in, told_in}
use Rattle.wf_shaped.specs.Least.{least_from}
use Rattle.wf_shaped.proofs.ExactLemmas.{AreKnown}
use Rattle.wf_shaped.proofs.KnownLemmas.{least_is}
use Rattle.wf_prepare.specs.Old.{OneOrTheOther}
use Rattle.wf_prepare.specs.Prepared.{IsMisshapen, IsRefused, MayBeResubmitted, fails_first, misshapen, named, names_refused}
use Rattle.wf_prepare.proofs.FailingLemmas.{clash, same_some}

-- ---- why a record is refused

pub fails_there : (d : DefTree) (rows : List RowTree) (o : Option Address) (a : Address) → IsLeastFailing d rows o → o ≡ Some a
    → IsMisshapen d rows (ResubmitFault.Shape a)
fails_there d rows o a least is = fails_first (subst (IsLeastFailing d rows) is least)

pub by_names : (d : DefTree) (r : RecordTree) (names : List (List ℕ)) (f : ResubmitFault) → names_refused d r names ≡ Some f
    → IsRefused d r names f
by_names d r names f is = named is

pub by_shape : (d : DefTree) (r : RecordTree) (names : List (List ℕ)) (f : ResubmitFault) → names_refused d r names ≡ None
    → IsMisshapen d r.rows f → IsRefused d r names f
by_shape d r names f none (fails_first least) = misshapen none least

-- ---- it is one fault

-- addresses that tie are one
tied_first : (o p : Ordering) → ordering_then o p ≡ Equal → o ≡ Equal
tied_first Less p is = cc
tied_first Equal p is = refl
tied_first Greater p is = cc

tied_second : (o p : Ordering) → ordering_then o p ≡ Equal → p ≡ Equal
tied_second Less p is = cc
tied_second Equal p is = is
tied_second Greater p is = cc

pub exact_address : (a b : Address) → address_cmp a b ≡ Equal → a ≡ b
exact_address a b is =
    ap₂ (λ (name at' : List ℕ). record { name = name; at = at' })
    (exact_bytes a.name b.name (tied_first (bytes_cmp a.name b.name) _ is))
    (exact_bytes a.at b.at (tied_second (bytes_cmp a.name b.name) _ is))

-- the least address that fails is one
one_least : (d : DefTree) (rows : List RowTree) (a b : Address) → IsLeastFailing d rows (Some a) → IsLeastFailing d rows (Some b) → a ≡ b
one_least d rows a b one other = at (address_cmp a b) refl
  where
    at : (o : Ordering) → address_cmp a b ≡ o → a ≡ b
    at Less is = absurd (clash (fails_at d rows a) one.0 (other.1 a is))
    at Equal is = exact_address a b is
    at Greater is =
        absurd (clash (fails_at d rows b) other.0
        (one.1 b (address_total.antisymm b a ∙ ap ordering_reverse is)))

pub one_fault : (d : DefTree) (r : RecordTree) (names : List (List ℕ)) (f g : ResubmitFault) → IsRefused d r names f
    → IsRefused d r names g → f ≡ g
one_fault d r names f g (named one) (named other) = same_some f g (sym one ∙ other)
one_fault d r names f g (named one) (misshapen none least) = absurd (none-some f (sym none ∙ one))
one_fault d r names f g (misshapen none least) (named other) = absurd (none-some g (sym none ∙ other))
one_fault d r names f g (misshapen {a = a} none least) (misshapen {a = b} other more) =
    ap ResubmitFault.Shape (one_least d r.rows a b least more)

pub no_fault : (d : DefTree) (r : RecordTree) (names : List (List ℕ)) (f : ResubmitFault) → MayBeResubmitted d r names
    → IsRefused d r names f → ⊥
no_fault d r names f may (named one) = none-some f (sym may.accepted ∙ one)
no_fault d r names f may (misshapen {a = a} none least) = clash (fails_at d r.rows a) least.0 (may.shape a)

-- A record whose rows are in order is refused, or it may be resubmitted: the least of all addresses that are told is there to be found.
one_or_other_at : (d : DefTree) (r : RecordTree) (names : List (List ℕ)) (o : Option ResubmitFault) (least : Option Address)
    → names_refused d r names ≡ o → IsLeastFailing d r.rows least → OneOrTheOther d r names
one_or_other_at d r names (Some f) least is at_least = inl (f, named is)
one_or_other_at d r names None None is at_least = inr (record { accepted = is; shape = at_least })
one_or_other_at d r names None (Some a) is at_least = inl (ResubmitFault.Shape a, misshapen is at_least)

pub one_or_other : (d : DefTree) (r : RecordTree) (names : List (List ℕ)) → AreKnown d → IsInKeyOrder address_cmp address_of r.rows
    → OneOrTheOther d r names
one_or_other d r names known order =
    let top = least_from None (missing_at_top_in d r.rows) in
    let all = least_from top (flat_map (told_in d r.rows) r.rows) in
    one_or_other_at d r names (names_refused d r names) all refl (least_is d r.rows top all known order refl refl)
