-- A tie in the order of values, and the same value.
use Rattle.std.proofs.Common.{◌≡◌, refl}
use Rattle.std.specs.Prelude.{IsTrue, ◌↔◌}
use Rattle.std.specs.Ordering.{is_eq}
use Rattle.std.specs.declared.cmp.Ordering.{Ordering}
use Rattle.std.specs.declared.cmp.Ordering.TheVariants.{Less, Equal, Greater}
use Rattle.wf_val.specs.ValueOrder.{order}
use Rattle.wf_val.specs.ValueTree.{ValueTree}
use Rattle.wf_val.proofs.ValueOrderLaws.{same-from_test}

-- values tie exactly where they are the same
same_at : (x y : ValueTree) (o : Ordering) → o ≡ order x y → IsTrue (is_eq o) ↔ (x ≡ y)
same_at x y Less is = same-from_test x y Less _ is refl
same_at x y Equal is = same-from_test x y Equal _ is refl
same_at x y Greater is = same-from_test x y Greater _ is refl

pub same-from_order : (x y : ValueTree) → IsTrue (is_eq (order x y)) ↔ (x ≡ y)
same-from_order x y = same_at x y (order x y) refl
