-- The laws of the order of values, for proofs.
pub use Rattle.wf_val.specs.ValueOrderLaws.{same_from_order, order-self, order-total, same-from_test}
