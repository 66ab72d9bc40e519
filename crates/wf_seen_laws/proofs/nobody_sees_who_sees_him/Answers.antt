use Rattle.std.proofs.Common.{◌≡◌, ℕ, true, List, subst}
use Rattle.wf_layers.specs.Address.{Address, SeenIn}
use Rattle.wf_layers.specs.Definition.{Pace, has}
use Rattle.wf_layers.proofs.Basics.{and_in}
use Rattle.wf_loops.specs.Table.{before, order_of}
use Rattle.wf_loops.specs.Loops.{is_earlier, paces_round}
use Rattle.wf_seen_laws.proofs.BothLemmas.{both_round, none_differs}
use Rattle.wf_seen_laws.proofs.nobody_sees_who_sees_him.Goals as goal

pub returns : goal.returns
returns c = λ n g depth once closed falls below x y one other.
    let there : (z : Address) (q : Address) → SeenIn g z q → has g q.name ≡ true = λ z q seen. (and_in (has g q.name) true seen.0).0 in
    let exact = λ (p q : ℕ) (hp : has g p ≡ true) (hq : has g q ≡ true). c.order_is_exact.ensures.before n g below closed p q hp hq in
    let hx = there y x other in
    let hy = there x y one in
    let e = c.what_is_seen_is_earlier.ensures g depth once falls y x (before (order_of n g) y.name x.name)
    (λ b. (exact y.name x.name hy hx).1 b) one in
    let f = c.what_is_seen_is_earlier.ensures g depth once falls x y (before (order_of n g) x.name y.name)
    (λ b. (exact x.name y.name hx hy).1 b) other in
    let both = none_differs (paces_round g y.name x.name) y.at x.at (before (order_of n g) y.name x.name)
    (before (order_of n g) x.name y.name) e
    (subst (λ (ps : List Pace). is_earlier ps x.at y.at (before (order_of n g) x.name y.name) ≡ true) (both_round g x.name y.name) f) in
    c.before_is_an_order.ensures.never_itself g depth once closed falls x.name
    (c.before_is_an_order.ensures.transitive g once closed x.name y.name x.name ((exact x.name y.name hx hy).0 both.1)
    ((exact y.name x.name hy hx).0 both.0))
