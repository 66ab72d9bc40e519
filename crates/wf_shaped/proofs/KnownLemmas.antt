-- What is known of the actions of a definition that was read, and that what is told of its rows is the least that fails.
use Rattle.std.proofs.Common.{◌≡◌, ℕ, Bool, true, false, ◌||◌, cond, List, [], ◌∷◌, ◌++◌, flat_map, map, Option, Some, None}
use Rattle.std.proofs.Common.{option_map, refl, sym, ap, ◌∙◌}
use Rattle.std.proofs.Common.{subst, true≢false}
use Rattle.std.proofs.Common.{Less}
use Rattle.std.specs.Prelude.{bytes_eq}
use Rattle.std.specs.List.{AllByRecursion, find, list_any}
use Rattle.std.proofs.lemmas.Slice.Eq.{bytes_eq-Decides}
use Rattle.wf_layers.specs.Definition.{kind_of}
use Rattle.wf_layers.specs.Seen.{Once}
use Rattle.wf_layers.proofs.Basics.{not_true}
use Rattle.wf_lists.specs.KeyOrder.{IsInKeyOrder}
use Rattle.wf_val.specs.Address.{address_cmp}
use Rattle.wf_val.specs.declared.address.Address.{Address}
use Rattle.wf_def.specs.ActionTree.{ActionTree, action_kind, action_name, action_number, ActionTrees}
use Rattle.wf_def.specs.AllActions.{all_actions, numbered}
use Rattle.wf_def.specs.DefTree.{DefTree}
use Rattle.wf_def.specs.Layered.{layered, layered_kind}
use Rattle.wf_def.specs.Names.{graph_names}
use Rattle.wf_catalog.specs.Facts.{AreOnce}
use Rattle.wf_catalog.proofs.NumberLemmas.{names_are}
use Rattle.wf_catalog.specs.Points.{graph_of, has_action_name}
use Rattle.wf_record.specs.Record.{RowTree, address_of}
use Rattle.wf_record.specs.Seen.{row_tree}
use Rattle.wf_record.specs.declared.row.Row.{Row}
use Rattle.wf_catalog.specs.Says.{is_skipped}
use Rattle.wf_fits.specs.Reading.{reading}
use Rattle.wf_fits.specs.Fits.{fits_in}
use Rattle.wf_shaped.specs.Failing.{IsLeastFailing, missing_at_top_in, told_in}
use Rattle.wf_shaped.specs.Least.{least_from}
use Rattle.wf_shaped.proofs.ExactLemmas.{AreKnown, failing_told, told_fails}
use Rattle.wf_shaped.proofs.LeastLemmas.{is_least, least_joined}

neither : (p q : Bool) → (p || q) ≡ false → (p ≡ false) × (q ≡ false)
neither true q is = absurd (true≢false is)
neither false q is = (refl, is)

turned : (k l : List ℕ) → bytes_eq k l ≡ false → bytes_eq l k ≡ false
turned k l apart =
    not_true (bytes_eq l k)
    (λ t. true≢false (sym ((bytes_eq-Decides k l).1 (sym ((bytes_eq-Decides l k).0 t))) ∙ apart))

-- each is the first of its name
behind : (a : ActionTree) (all rest : List ActionTree) → list_any (bytes_eq (action_name a)) (map action_name rest) ≡ false
    → AllByRecursion (λ b. find (has_action_name (action_name b)) all ≡ Some b) rest
    → AllByRecursion (λ b. find (has_action_name (action_name b)) (a ∷ all) ≡ Some b) rest
behind a all [] once found = tt
behind a all (b ∷ rest) once found =
    let apart = neither (bytes_eq (action_name a) (action_name b)) (list_any (bytes_eq (action_name a)) (map action_name rest)) once in (
      ap (λ (c : Bool). cond c (Some a) (find (has_action_name (action_name b)) all)) (turned (action_name a) (action_name b) apart.0)
          ∙ found.0,
      behind a all rest apart.1 found.1,
    )

found_all : (as' : List ActionTree) → AreOnce (map action_name as')
    → AllByRecursion (λ a. find (has_action_name (action_name a)) as' ≡ Some a) as'
found_all [] once = tt
found_all (a ∷ rest) once = (
  ap (λ (c : Bool). cond c (Some a) (find (has_action_name (action_name a)) rest))
      ((bytes_eq-Decides (action_name a) (action_name a)).1 refl),
  behind a rest rest once.0 (found_all rest once.1),
)

pub are_known : (d : DefTree) → Once (graph_of d) → AreOnce (graph_names d.top)
    → AllByRecursion (λ a. numbered (action_number a) d.top ≡ Some a) (all_actions d.top)
    → ((graph : ActionTrees) (n : ℕ)
    → kind_of (layered graph) n ≡ option_map (λ a. layered_kind (action_kind a)) (numbered n graph))
    → AreKnown d
are_known d once names numbers kinds = record {
  once = once;
  numbers = numbers;
  names = found_all (all_actions d.top) (subst AreOnce (sym (names_are d.top)) names);
  kinds = λ n. kinds d.top n;
}

-- ---- the least that fails

all_seen : (k : Address) (rows : List Row) → AllByRecursion (λ (r : Row). address_cmp k r.address ≡ Less) rows
    → AllByRecursion (λ (r : RowTree). address_cmp k (address_of r) ≡ Less) (map row_tree rows)
all_seen k [] all = tt
all_seen k (r ∷ rows) all = (all.0, all_seen k rows all.1)

pub order_seen : (rows : List Row) → IsInKeyOrder address_cmp (λ (r : Row). r.address) rows
    → IsInKeyOrder address_cmp address_of (map row_tree rows)
order_seen [] order = tt
order_seen (r ∷ rows) order = (all_seen r.address rows order.0, order_seen rows order.1)

pub least_is : (d : DefTree) (rows : List RowTree) (top all : Option Address) → AreKnown d → IsInKeyOrder address_cmp address_of rows
    → top ≡ least_from None (missing_at_top_in d rows) → all ≡ least_from top (flat_map (told_in d rows) rows)
    → IsLeastFailing d rows all
least_is d rows top all known order at_top at_all =
    let told = missing_at_top_in d rows ++ flat_map (told_in d rows) rows in
    subst (IsLeastFailing d rows)
    (least_joined None (missing_at_top_in d rows) (flat_map (told_in d rows) rows)
    ∙ (ap (λ o. least_from o (flat_map (told_in d rows) rows)) (sym at_top) ∙ sym at_all))
    (is_least _ told (told_fails (reading d) is_skipped (fits_in d) d rows known order)
    (failing_told (reading d) is_skipped (fits_in d) d rows known order))
