-- An action of the graph at the top stands in no loop, so a record lists its one row.
use Rattle.std.proofs.Common.{◌≡◌, ℕ, suc, ◌*◌, ◌≤◌, Bool, true, false, ◌||◌, cond, List, [], ◌∷◌, length, map, nat_eq, Option, Some}
use Rattle.std.proofs.Common.{eqb-true, filter_map, option_map, sum_by, refl, sym, ap, ◌∙◌, subst, true≢false, arith, inl, inr}
use Rattle.std.specs.List.{cons_option}
use Rattle.std.proofs.lemmas.List.Sums.{sum_by-cons}
use Rattle.wf_layers.specs.Address.{Table, address}
use Rattle.wf_layers.specs.Definition.{Graph, Kind, Need, done, add, has, has_own, holds}
use Rattle.wf_layers.specs.Machine.{In, here, there}
use Rattle.wf_layers.specs.Seen.{Once}
use Rattle.wf_layers.proofs.Basics.{or_first, or_second, two}
use Rattle.wf_layers.proofs.Waiting.{own_has}
use Rattle.wf_def.specs.ActionTree.{ActionTrees, no_actions, action_then, action, actions_in}
use Rattle.wf_def.specs.DefTree.{DefTree}
use Rattle.wf_def.specs.Layered.{layered}
use Rattle.wf_loops.specs.Loops.{loops_in, loops_of}
use Rattle.wf_record.specs.Cost.{row_cost}
use Rattle.wf_record.specs.Record.{Row, RowTree}
use Rattle.wf_meant_laws.specs.Look.{instance}
use Rattle.wf_meant_laws.specs.Points.{graph_of, point_of_outputs}
use Rattle.wf_meant_laws.specs.Record.{row_at}
use Rattle.wf_meant_laws.specs.Variables.{indexes_from, instances_at, seen_by}
use Rattle.wf_least.specs.Least.{EachHasARow}
use Rattle.wf_least.proofs.CountLemmas.{size}

-- ---- no loop is round an action of the graph itself

false_or : (a b : Bool) → (a || b) ≡ false → (a ≡ false) × (b ≡ false)
false_or true b none = absurd (true≢false none)
false_or false b none = (refl, none)

none_round : (g : Graph) (x : ℕ) → has g x ≡ false → loops_of g x ≡ []
none_round done x none = refl
none_round (add n after kind rest) x none =
    let apart = false_or (nat_eq n x || holds kind x) (has rest x) none in
    ap (λ (b : Bool). cond b (loops_in n kind x) (loops_of rest x)) (false_or (nat_eq n x) (holds kind x) apart.0).1
    ∙ none_round rest x apart.1

none_of : (g : Graph) → Once g → (x : ℕ) → has_own g x ≡ true → loops_of g x ≡ []
none_of done once x own = absurd (true≢false (sym own))
none_of (add n after kind rest) once x own = elim (two (nat_eq n x)) [
  | inl is ↦
      ap (λ (b : Bool). cond b (loops_in n kind x) (loops_of rest x))
      (subst (λ (y : ℕ). holds kind y ≡ false) (eqb-true n x is) once.0)
      ∙ none_round rest x (once.1 x (or_first (nat_eq n x) (holds kind x) is))
  | inr apart ↦
      let behind : has_own rest x ≡ true = sym (ap (λ (b : Bool). b || has_own rest x) apart) ∙ own in
      ap (λ (b : Bool). cond b (loops_in n kind x) (loops_of rest x)) (outside (holds kind x) refl behind)
      ∙ none_of rest once.3 x behind
]
  where
    outside : (b : Bool) → holds kind x ≡ b → has_own rest x ≡ true → holds kind x ≡ false
    outside false is behind = is
    outside true is behind =
        absurd (true≢false (sym (own_has rest x behind) ∙ once.1 x (or_second (nat_eq n x) (holds kind x) is)))

-- ---- its row

module _ (d : DefTree) (once : Once (graph_of d)) (known : Table Row) (have : EachHasARow d known) where
  abbrev pub listed : ℕ → List RowTree
  listed n = filter_map (row_at d known) (instances_at d (point_of_outputs d) known n)

  one_there : (n : ℕ) (row : Row) → known (address n []) ≡ Some row → length (filter_map (row_at d known) (address n [] ∷ [])) ≡ 1
  one_there n row is = ap (λ (o : Option Row). length {A = RowTree} (cons_option (option_map (λ r. record { address = instance d (address n []); row = r }) o) [])) is

  pub one_each : (n : ℕ) → has_own (graph_of d) n ≡ true → 1 ≤ length (listed n)
  one_each n own =
      subst (λ (ls : List ℕ). 1 ≤ length (filter_map (row_at d known) (map (address n)
      (indexes_from d (seen_by (point_of_outputs d) known) ls [] [] []))))
      (sym (none_of (graph_of d) once n own)) (omega (arith, one_there n (have n own).0 (have n own).1))

-- ---- what rows cost

pub rows_cost : (rows : List RowTree) → 64 * length rows ≤ sum_by row_cost rows
rows_cost [] = omega arith
rows_cost (r ∷ rs) = omega (arith, sum_by-cons row_cost r rs, rows_cost rs)

-- ---- as many actions as in the graph

pub size_is : (as' : ActionTrees) → size (layered as') ≡ length (actions_in as')
size_is no_actions = refl
size_is (action_then (action name number pointer after kind tracked) rest) = ap suc (size_is rest)

-- ---- an action of the graph stands in it

pub own_in : (g : Graph) (n : ℕ) → has_own g n ≡ true → (after : List Need) × (kind : Kind) × In g n after kind
own_in done n own = absurd (true≢false (sym own))
own_in (add m after kind rest) n own = elim (two (nat_eq m n)) [
  | inl is ↦ (after, kind, subst (λ (k : ℕ). In (add m after kind rest) k after kind) (eqb-true m n is) here)
  | inr apart ↦
      let further = own_in rest n (sym (ap (λ (b : Bool). b || has_own rest n) apart) ∙ own) in
      (further.0, further.1, there further.2)
]
