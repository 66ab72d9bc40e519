-- Lists that tell one table cost the same.
use Rattle.std.proofs.Common.{◌≡◌, ◌≤◌, ℕ, List, sym, ◌∙◌, arith}
use Rattle.wf_lists.specs.KeyOrder.{IsInKeyOrder}
use Rattle.wf_layers.specs.Address.{Address, Table}
use Rattle.wf_layers.specs.Listed.{sum_of}
use Rattle.wf_asks.specs.Instances.{instance_cmp, instance_of, table_of}
use Rattle.wf_meter.proofs.PriceLemmas.{lists_table}
use Rattle.wf_priced.specs.Priced.{TellsRows}
use Rattle.wf_priced.proofs.ListedLemmas.{covered, in_order, one_table}

module _ {Row Entry : Type 0} (f : Table Row) (at : Entry → Address) (row : Entry → Row) (entries : List Entry)
    (tells : TellsRows at row f entries) where
  pub told_order : IsInKeyOrder instance_cmp (λ (e : Entry). instance_of (at e)) entries
  told_order = in_order at entries tells.ordered

  -- they are the table
  pub told_table : (x : Address) → table_of (λ (e : Entry). instance_of (at e)) row entries x ≡ f x
  told_table = one_table at row _ _ entries (lists_table (λ (e : Entry). instance_of (at e)) row entries told_order) tells.all

told_most : {Row Entry Other : Type 0} (f : Table Row) (cost : Row → ℕ) (at : Entry → Address) (row : Entry → Row) (entries : List Entry)
    → TellsRows at row f entries → (at' : Other → Address) (row' : Other → Row) (others : List Other) → TellsRows at' row' f others
    → sum_of (λ (e : Entry). cost (row e)) entries ≤ sum_of (λ (e : Other). cost (row' e)) others
told_most {Row} {Entry} {Other} f cost at row entries tells at' row' others tells' =
    let found = covered (λ (e : Other). instance_of (at' e)) row' cost (λ (e : Entry). instance_of (at e)) row
    (λ (x : Address) (r : Row). cost r) entries (told_order f at row entries tells) others (told_order f at' row' others tells')
    (λ x r e. (r, told_table f at' row' others tells' x ∙ sym (told_table f at row entries tells x) ∙ e, omega arith)) in
    let fits = found.1.fits in
    omega (arith, fits)

pub told_same : {Row Entry Other : Type 0} (f : Table Row) (cost : Row → ℕ) (at : Entry → Address) (row : Entry → Row)
    (entries : List Entry) → TellsRows at row f entries → (at' : Other → Address) (row' : Other → Row) (others : List Other)
    → TellsRows at' row' f others → sum_of (λ (e : Entry). cost (row e)) entries ≡ sum_of (λ (e : Other). cost (row' e)) others
told_same f cost at row entries tells at' row' others tells' =
    let one = told_most f cost at row entries tells at' row' others tells' in
    let other = told_most f cost at' row' others tells' at row entries tells in
    omega (arith, one, other)
