-- By what the tables of the order answer, the rows that are kept and the containers that are opened are those of the first state.
use Rattle.std.proofs.Common.{◌≡◌, ℕ, zero, suc, ◌+◌, ◌-◌, ◌<◌, Bool, true, false, ◌&&◌, ◌||◌, not, cond, List, [], ◌∷◌}
use Rattle.std.proofs.Common.{map, length, Option, Some, None}
use Rattle.std.proofs.Common.{refl, sym, ap, ap₂, ◌∙◌, add-one, arith, nat_eq}
use Rattle.std.specs.Prelude.{slice_get, unwrap_or}
use Rattle.std.specs.List.{AllByRecursion, list_any}
use Rattle.wf_lists.specs.KeyOrder.{IsInKeyOrder}
use Rattle.wf_val.specs.Address.{address_cmp}
use Rattle.wf_val.specs.ValueTree.{null}
use Rattle.wf_answers.specs.Inputs.{InputsTree}
use Rattle.wf_turns.specs.Environment.{Environment, fresh}
use Rattle.wf_layers.specs.Address.{Address, is_within, starts}
use Rattle.wf_layers.specs.Definition.{Kind, has, kind_of}
use Rattle.wf_layers.specs.Redo.{any_kind, closed_again, redone}
use Rattle.wf_layers.specs.Resubmission.{kept}
use Rattle.wf_def.specs.ActionTree.{ActionTree, action_name, action_number}
use Rattle.wf_def.specs.AllActions.{all_actions, numbered}
use Rattle.wf_def.specs.DefTree.{DefTree}
use Rattle.wf_def.specs.Names.{graph_names}
use Rattle.wf_paths.specs.Table.{from as at_places, slot}
use Rattle.wf_turns.specs.Facts.{AreOnce, graph_numbers}
use Rattle.wf_record.specs.Record.{RecordTree, Row, address_of}
use Rattle.wf_turns.proofs.NumberLemmas.{names_are}
use Rattle.wf_turns.specs.Points.{graph_of}
use Rattle.wf_turns.specs.Record.{depth_of}
use Rattle.wf_turns.specs.Resubmitted.{is_chosen, rows_by}
use Rattle.wf_regained.specs.First.{first_state}
use Rattle.wf_regained.specs.Kept.{with_all_kept}
use Rattle.wf_regained.specs.Reopened.{with_all_reopened}
use Rattle.wf_regained.proofs.KeptLemmas.{rows_are, rows_are_none}
use Rattle.wf_regained.proofs.NamedLemmas.{action_has, action_none}
use Rattle.wf_regained.proofs.ReopenedLemmas.{opens_are}

-- some environment: the shape of rows and the order of writers depend on none
some_inputs : InputsTree
some_inputs = record { run = []; seed = []; moment = 0; trigger = None; outputs = null; parameters = []; answers = [] }

pub some_environment : Environment
some_environment = fresh (record { run = []; seed = []; trigger = null; parameters = [] }) some_inputs

-- ---- lists

get_from : {X : Type 0} (i n k : ℕ) (f : ℕ → X) → k < n → slice_get (at_places i n f) k ≡ Some (f (i + k))
get_from i zero k f within = absurd (omega (arith, within))
get_from i (suc n) zero f within = ap (λ (m : ℕ). Some (f m)) (omega arith)
get_from i (suc n) (suc k) f within = get_from (suc i) n k f (omega (arith, within)) ∙ ap (λ (m : ℕ). Some (f m)) (omega arith)

-- the next place
pub next_place : {X : Type 0} (i n : ℕ) (f : ℕ → X) → i < n → at_places i (n - i) f ≡ f i ∷ at_places (i + 1) (n - (i + 1)) f
next_place i n f less =
    let more : n - i ≡ suc (n - (i + 1)) = omega (arith, less) in
    ap (λ (m : ℕ). at_places i m f) more ∙ ap (λ (k : ℕ). f i ∷ at_places k (n - (i + 1)) f) (sym (add-one i))

slot_is : (n k : ℕ) (f : ℕ → Bool) → k < n → slot (at_places 0 n f) k ≡ f k
slot_is n k f within =
    ap (λ (o : Option Bool). unwrap_or o false) (get_from 0 n k f within) ∙ ap f (omega arith)

length_map : {X Y : Type 0} (f : X → Y) (xs : List X) → length (map f xs) ≡ length xs
length_map f [] = refl
length_map f (x ∷ xs) = ap suc (length_map f xs)

-- as many actions as names
pub as_many : {X : Type 0} (d : DefTree) (tree : X → ActionTree) (xs : List X) → map tree xs ≡ all_actions d.top
    → length xs ≡ length (graph_names d.top)
as_many d tree xs are =
    sym (length_map tree xs) ∙ ap length are ∙ sym (length_map action_name (all_actions d.top)) ∙ ap length (names_are d.top)

-- ---- the first state

-- these are what is redone and what is closed again, for each action
abbrev pub SameSets : DefTree → List ℕ → (redo again : ℕ → Bool) → Type 0
SameSets d from redo again =
    (y : ℕ) → has (graph_of d) y ≡ true → (redo y ≡ redone (graph_of d) (depth_of d) (is_chosen from) y)
    × (again y ≡ closed_again (graph_of d) (depth_of d) (is_chosen from) y)

module _ (d : DefTree) (r : RecordTree) (from : List ℕ)
    (own : AllByRecursion (λ a. numbered (action_number a) d.top ≡ Some a) (all_actions d.top)) (once : AreOnce (graph_names d.top))
    (had : (m : ℕ) → has (graph_of d) m ≡ list_any (nat_eq m) (graph_numbers d.top)) (redo again : ℕ → Bool)
    (same : SameSets d from redo again) (x : Address) where
  abbrev Kept : ℕ → Bool
  Kept = kept (redone (graph_of d) (depth_of d) (is_chosen from)) (closed_again (graph_of d) (depth_of d) (is_chosen from))

  both_none : (b : Bool) → cond {A = Option Row} b None None ≡ None
  both_none true = refl
  both_none false = refl

  module _ (order : IsInKeyOrder address_cmp address_of r.rows)
      (outside : (y : Address) → is_within (graph_of d) [] y ≡ false → rows_by d r.rows y ≡ None) (n : ℕ)
      (below : (y : ℕ) → has (graph_of d) y ≡ true → y < n) where
    abbrev keeps : ℕ → Bool
    keeps = slot (at_places 0 n (kept redo again))

    go : (o : Option ActionTree) → numbered x.name d.top ≡ o → with_all_kept d keeps (λ y. None) r.rows x ≡ (first_state d r from).rows x
    go None none =
        rows_are_none d own once keeps r.rows x none
        ∙ sym (ap (λ (o : Option Row). cond (Kept x.name) o None)
        (outside x (ap (λ (b : Bool). b && starts [] x.at) (action_none d had x.name none))) ∙ both_none (Kept x.name))
    go (Some a) is =
        let there = action_has d had x.name a is in
        let s = same x.name there in
        rows_are d own once keeps r.rows order x a is
        ∙ ap (λ (b : Bool). cond b (rows_by d r.rows x) None)
        (slot_is n x.name (kept redo again) (below x.name there) ∙ ap₂ (λ (b c : Bool). not (b || c)) s.0 s.1)

    pub first_rows : with_all_kept d keeps (λ y. None) r.rows x ≡ (first_state d r from).rows x
    first_rows = go (numbered x.name d.top) refl

  closed_outside : (m : ℕ) → numbered m d.top ≡ None → closed_again (graph_of d) (depth_of d) (is_chosen from) m ≡ false
  closed_outside m none =
      ap (λ (b : Bool). b && (not (redone (graph_of d) (depth_of d) (is_chosen from) m)
      && any_kind (is_chosen from) (kind_of (graph_of d) m))) (action_none d had m none)

  pub first_opens : ((n : ℕ) (a : ActionTree) → numbered n d.top ≡ Some a → (kind : Kind) × (kind_of (graph_of d) n ≡ Some kind))
      → with_all_reopened r.rows again (λ y. None) (all_actions d.top) x ≡ (first_state d r from).opens x
  first_opens kinds =
      opens_are d r.rows again (closed_again (graph_of d) (depth_of d) (is_chosen from)) own kinds
      (λ m a is. (same m (action_has d had m a is)).1) closed_outside x
