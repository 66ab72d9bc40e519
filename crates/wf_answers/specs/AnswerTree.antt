-- Answers, and the attempts that they are for.
use Rattle.std.specs.Prelude.{ℕ, List, Option}
use Rattle.std.specs.Cmp.{IsTotalOrder}
use Rattle.std.specs.Ordering.{nat_cmp, ordering_then}
use Rattle.std.specs.declared.cmp.Ordering.{Ordering}
use Rattle.std.proofs.lemmas.Cmp.{on_total, then_total, nat_cmp_total}
use Rattle.wf_lists.specs.KeyOrder.{find_key}
use Rattle.wf_val.specs.Address.{address_cmp, address_total}
use Rattle.wf_val.specs.ValueTree.{ValueTree}
use Rattle.wf_val.specs.declared.address.Address.{Address}
use Rattle.wf_retry.specs.declared.policy.Outcome.{Outcome}

-- what an attempt of an action came to
pub record AnswerTree : Type 0 where
  pub address : Address
  pub attempt : ℕ
  pub outcome : Outcome
  pub headers : ValueTree
  pub body : ValueTree

-- an attempt at an address, counted from 1
abbrev pub Key : Type 0
Key = Address × ℕ

-- what an answer is for
abbrev pub key_of : AnswerTree → Key
key_of a = (a.address, a.attempt)

-- by address, and then by number
abbrev pub key_cmp : Key → Key → Ordering
key_cmp j k = ordering_then (address_cmp j.0 k.0) (nat_cmp j.1 k.1)

pub key_cmp_total : IsTotalOrder key_cmp
key_cmp_total = then_total (on_total (λ (k : Key). k.0) address_total) (on_total (λ (k : Key). k.1) nat_cmp_total)

-- how the attempts of two answers stand
abbrev pub answer_cmp : AnswerTree → AnswerTree → Ordering
answer_cmp a b = key_cmp (key_of a) (key_of b)

-- the answer for an attempt
abbrev pub find_answer : Key → List AnswerTree → Option AnswerTree
find_answer = find_key key_cmp key_of
