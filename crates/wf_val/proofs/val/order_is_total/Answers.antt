use Rattle.std.proofs.Common.{◌≡◌, Equal, subst}
use Rattle.wf_val.specs.ValueOrder.{order}
use Rattle.wf_val.specs.ValueOrderLaws.{order-total, order-self, same_from_order}
use Rattle.wf_val.proofs.val.order_is_total.Goals as goal

pub returns : goal.returns
returns c = record {
  total = order-total;
  exact = λ x y. (same_from_order x y, λ same. subst (λ z. order x z ≡ Equal) same (order-self x));
}
