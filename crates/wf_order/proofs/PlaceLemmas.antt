-- The walk finds each action in its place.
use Rattle.std.proofs.Common.{◌≡◌, ℕ, zero, suc, Bool, true, false, ◌||◌, cond, List, [], ◌∷◌, ◌++◌, map, replicate, append_assoc, Option, Some, None, nat_eq, refl, sym, ap, ap₂, ◌∙◌, true≢false}
use Rattle.std.proofs.lemmas.Bool.{eqb-true}
use Rattle.wf_def.specs.Definition.{Need, Kind, Leaf, Scope, Choice, Foreach, Until, Branches, no_branch, branch, Graph, done, add, holds, has, has_any, needs_in, needs_any, needs_of}
use Rattle.wf_paths.specs.Table.{from, paths_of}
use Rattle.wf_order.specs.Order.{around, around_in, around_any, up, stand, stand_in, stand_any}
use Rattle.wf_order.specs.Table.{PlaceTree, after_at, order_of, place_of, waits_of}
use Rattle.wf_order.specs.Walk.{filled, graph_places, kind_places, branch_places}
use Rattle.wf_order.proofs.FillLemmas.{filled_from, first, first-append, or_else}

abbrev names_of : List Need → List ℕ
names_of needs = map (λ need. need.name) needs

abbrev place : List ℕ → Option (ℕ × ℕ) → List Need → PlaceTree
place up stand needs = record { up = up; stand = stand; after = names_of needs }

abbrev where_has : Bool → List ℕ → Option (ℕ × ℕ) → List Need → Option PlaceTree
where_has b up stand needs = cond b (Some (place up stand needs)) None

-- an action of the graph, one inside its first action, or one behind that
one_of_three : (b h r : Bool) (n m : ℕ) → (b ≡ true → n ≡ m)
    → (round kinds rests : List ℕ) (own kind rest : Option (ℕ × ℕ)) (after needs_k needs_r : List Need)
    → cond b (Some (place (round ++ n ∷ []) own after))
    (or_else (where_has h ((round ++ n ∷ []) ++ (kinds ++ m ∷ [])) kind needs_k) (where_has r (round ++ (rests ++ m ∷ [])) rest needs_r))
    ≡ where_has (b || h || r) (round ++ (cond b [] (cond h (n ∷ kinds) rests) ++ m ∷ [])) (cond b own (cond h kind rest))
    (cond b after (cond h needs_k needs_r))
one_of_three true h r n m same round kinds rests own kind rest after needs_k needs_r =
    ap (λ (k : ℕ). Some (place (round ++ k ∷ []) own after)) (same refl)
one_of_three false true r n m same round kinds rests own kind rest after needs_k needs_r =
    ap (λ (xs : List ℕ). Some (place xs kind needs_k)) (append_assoc round (n ∷ []) (kinds ++ m ∷ []))
one_of_three false false true n m same round kinds rests own kind rest after needs_k needs_r = refl
one_of_three false false false n m same round kinds rests own kind rest after needs_k needs_r = refl

-- an action of the first branch, or of one behind it
one_of_two : (h r : Bool) (m : ℕ) (round firsts rests : List ℕ) (first' rest : Option (ℕ × ℕ)) (needs_f needs_r : List Need)
    → or_else (where_has h (round ++ (firsts ++ m ∷ [])) first' needs_f) (where_has r (round ++ (rests ++ m ∷ [])) rest needs_r)
    ≡ where_has (h || r) (round ++ (cond h firsts rests ++ m ∷ [])) (cond h first' rest) (cond h needs_f needs_r)
one_of_two true r m round firsts rests first' rest needs_f needs_r = refl
one_of_two false true m round firsts rests first' rest needs_f needs_r = refl
one_of_two false false m round firsts rests first' rest needs_f needs_r = refl

mutual
  pub graph_first : (g : Graph) (round : List ℕ) (own : Option (ℕ × ℕ)) (m : ℕ)
      → first (graph_places round own g) m ≡ where_has (has g m) (round ++ up g m) (stand own g m) (needs_of g m)
  graph_first done round own m = refl
  graph_first (add n after kind rest) round own m =
      ap (λ (o : Option PlaceTree). cond (nat_eq n m) (Some (place (round ++ n ∷ []) own after)) o)
      (first-append (kind_places (round ++ n ∷ []) n kind) (graph_places round own rest) m
      ∙ ap₂ or_else (kind_first kind (round ++ n ∷ []) n m) (graph_first rest round own m))
      ∙ one_of_three (nat_eq n m) (holds kind m) (has rest m) n m (eqb-true n m) round (around_in kind m) (around rest m) own
      (stand_in n kind m) (stand own rest m) after (needs_in kind m) (needs_of rest m)

  kind_first : (kind : Kind) (round : List ℕ) (n m : ℕ)
      → first (kind_places round n kind) m ≡ where_has (holds kind m) (round ++ (around_in kind m ++ m ∷ [])) (stand_in n kind m)
      (needs_in kind m)
  kind_first Leaf round n m = refl
  kind_first (Scope g) round n m = graph_first g round None m
  kind_first (Choice bs) round n m = branch_first bs round n 1 m
  kind_first (Foreach pace g) round n m = graph_first g round None m
  kind_first (Until most g) round n m = graph_first g round None m

  branch_first : (bs : Branches) (round : List ℕ) (n j m : ℕ)
      → first (branch_places round n j bs) m ≡ where_has (has_any bs m) (round ++ (around_any bs m ++ m ∷ [])) (stand_any n j bs m)
      (needs_any bs m)
  branch_first no_branch round n j m = refl
  branch_first (branch b rest) round n j m =
      first-append (graph_places round (Some (n, j)) b) (branch_places round n (suc j) rest) m
      ∙ ap₂ or_else (graph_first b round (Some (n, j)) m) (branch_first rest round n (suc j) m)
      ∙ one_of_two (has b m) (has_any rest m) m round (around b m) (around_any rest m) (stand (Some (n, j)) b m)
      (stand_any n (suc j) rest m)
      (needs_of b m) (needs_any rest m)

-- what is no action of the graph waits for nothing
none_of_three : {X : Type 0} (b h r : Bool) (xs ys zs : List X) → (b || h || r) ≡ false → (r ≡ false → zs ≡ []) →
    cond b xs (cond h ys zs) ≡ []
none_of_three true h r xs ys zs e none = absurd (true≢false e)
none_of_three false true r xs ys zs e none = absurd (true≢false e)
none_of_three false false r xs ys zs e none = none e

no_needs : (g : Graph) (m : ℕ) → has g m ≡ false → needs_of g m ≡ []
no_needs done m h = refl
no_needs (add n after kind rest) m h =
    none_of_three (nat_eq n m) (holds kind m) (has rest m) after (needs_in kind m) (needs_of rest m) h (λ e. no_needs rest m e)

waits_at : (g : Graph) (m : ℕ) → after_at (place_of g m) ≡ waits_of g m
waits_at g m = elim (has g m) as (λ b. has g m ≡ b →
    after_at (cond b (Some (place (up g m) (stand None g m) (needs_of g m))) None) ≡ waits_of g m) [
      | true ↦ λ is. refl
      | false ↦ λ is. sym (ap names_of (no_needs g m is))
    ] refl

map-from : {X Y : Type 0} (h : X → Y) (i n : ℕ) (f : ℕ → X) → map h (from i n f) ≡ from i n (λ j. h (f j))
map-from h i zero f = refl
map-from h i (suc n) f = ap (λ xs. h (f i) ∷ xs) (map-from h (suc i) n f)

from_same : {X : Type 0} (i n : ℕ) (f g : ℕ → X) → ((j : ℕ) → f j ≡ g j) → from i n f ≡ from i n g
from_same i zero f g same = refl
from_same i (suc n) f g same = ap₂ (λ x xs. x ∷ xs) (same i) (from_same (suc i) n f g same)

-- the tables that are made are those of the graph
pub made : (n k : ℕ) (g : Graph) (free places : List (Option PlaceTree)) (nodes : List (List ℕ)) (paths : List (List Bool))
    → k ≡ n → free ≡ replicate k None → places ≡ filled free (graph_places [] None g) → nodes ≡ map after_at places → paths ≡ paths_of nodes
    → record { paths = paths; places = places } ≡ order_of n g
made n k g free places nodes paths counted freed walked noded pathed =
    let there : places ≡ from 0 n (place_of g) =
    walked ∙ ap (λ (ps : List (Option PlaceTree)). filled ps (graph_places [] None g)) (freed ∙ ap (λ (j : ℕ). replicate j None) counted)
    ∙ filled_from n (graph_places [] None g)
    ∙ from_same 0 n (first (graph_places [] None g)) (place_of g) (graph_first g [] None) in
    let named : nodes ≡ from 0 n (waits_of g) =
    noded ∙ ap (λ (ps : List (Option PlaceTree)). map after_at ps) there ∙ map-from after_at 0 n (place_of g)
    ∙ from_same 0 n (λ m. after_at (place_of g m)) (waits_of g) (waits_at g) in
    ap₂ (λ (ps : List (List Bool)) (qs : List (Option PlaceTree)). record { paths = ps; places = qs }) (pathed ∙ ap paths_of named) there
