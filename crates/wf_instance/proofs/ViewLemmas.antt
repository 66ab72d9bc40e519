-- What a reference gives is told by the rows of the instances that it means, and of the loop that it leaves.
use Rattle.std.proofs.Common.{◌≡◌, ℕ, zero, suc, true, List, [], ◌∷◌, ◌++◌, map, Option, Some, None, refl, ap, ◌∙◌, option_map}
use Rattle.std.specs.Option.{option_and_then}
use Rattle.std.specs.Prelude.{flat_map}
use Rattle.std.specs.List.{AllByRecursion}
use Rattle.wf_val.specs.ValueTree.{ValueTree, list, trees}
use Rattle.wf_meant.specs.Looked.{or_null}
use Rattle.wf_layers.specs.Address.{Table, address, starts}
use Rattle.wf_meant.specs.ActionTree.{ActionTree, action_kind, action_name, action_number, KindTree, foreach, until}
use Rattle.wf_meant.specs.AllActions.{numbered}
use Rattle.wf_meant.specs.DefTree.{DefTree}
use Rattle.wf_meant.proofs.PrefixLemmas.{starts_front}
use Rattle.wf_layers.proofs.Basics.{starts_self}
use Rattle.wf_meant.specs.Points.{Point}
use Rattle.wf_meant.specs.References.{Spots, one, every, latest, by_name, first_level, last_of, own_loop, places_in, result_by, result_in}
use Rattle.wf_meant.specs.References.{shared, spots_by, spots_in, spots_of, upto, view_by, view_in, view_there}
use Rattle.wf_meant.specs.Rows.{iterations_of, turns_at, view_of}
use Rattle.wf_record.specs.Record.{Row}

map_same : {X Y : Type 0} (P : X → Type 0) (f g : X → Y) (xs : List X) → AllByRecursion P xs → ((x : X) → P x → f x ≡ g x)
    → map f xs ≡ map g xs
map_same P f g [] all same i = []
map_same P f g (x ∷ xs) all same i = same x all.0 i ∷ map_same P f g xs all.1 same i

abbrev Begins : List ℕ → List ℕ → Type 0
Begins s at = starts s at ≡ true

-- ---- the indexes of all that is meant go on from the shared ones

all_append : (s js : List ℕ) (n : ℕ) → AllByRecursion (Begins s) (map (λ j. s ++ j ∷ []) js)
    → AllByRecursion (Begins s) (map (λ j. s ++ j ∷ []) (js ++ n ∷ []))
all_append s [] n all = (starts_front s (n ∷ []), tt)
all_append s (j ∷ js) n all = (all.0, all_append s js n all.1)

all_upto : (s : List ℕ) (n : ℕ) → AllByRecursion (Begins s) (map (λ j. s ++ j ∷ []) (upto n))
all_upto s zero = tt
all_upto s (suc n) = all_append s (upto n) n (all_upto s n)

abbrev Meant : List ℕ → Spots → Type 0
Meant s (one at) = Begins s at
Meant s (every ats) = AllByRecursion (Begins s) ats
Meant s (latest None) = Unit {0}
Meant s (latest (Some at)) = Begins s at

abbrev MeantIf : List ℕ → Option Spots → Type 0
MeantIf s None = Unit {0}
MeantIf s (Some spots) = Meant s spots

meant_last : (s : List ℕ) (n : ℕ) → Meant s (latest (last_of s n))
meant_last s zero = tt
meant_last s (suc n) = starts_front s (n ∷ [])

meant_of : (kind : KindTree) (s : List ℕ) (n : ℕ) → MeantIf s (spots_of kind s n)
meant_of (foreach items repetitions graph) s n = all_upto s n
meant_of (until test count fails graph) s n = meant_last s n
meant_of kind s n = tt

meant_in : (a : Option ActionTree) (s : List ℕ) (n : ℕ) → MeantIf s (spots_in a s n)
meant_in None s n = tt
meant_in (Some a) s n = meant_of (action_kind a) s n

meant_by : (d : DefTree) (s ls : List ℕ) (known : Table Row) → MeantIf s (spots_by d s ls known)
meant_by d s [] known = starts_self s
meant_by d s (l ∷ []) known = meant_in (numbered l d.top) s (turns_at d known l s)
meant_by d s (l ∷ m ∷ ls) known = tt

-- ---- two tables with the same rows there

module _ (t u : Table Row) where
  -- the rows of an action
  abbrev pub SameRows : List ℕ → ℕ → Type 0
  SameRows s x = (at : List ℕ) → starts s at ≡ true → t (address x at) ≡ u (address x at)

  -- the row of the first loop that is left
  abbrev pub SameLoop : List ℕ → List ℕ → Type 0
  SameLoop s ls = (l : ℕ) (more : List ℕ) → ls ≡ l ∷ more → t (address l s) ≡ u (address l s)

  pub spots_same : (d : DefTree) (s ls : List ℕ) → SameLoop s ls → spots_by d s ls t ≡ spots_by d s ls u
  spots_same d s [] loop = refl
  spots_same d s (l ∷ []) loop = ap (λ (r : Option Row). spots_in (numbered l d.top) s (iterations_of (numbered l d.top) r)) (loop l [] refl)
  spots_same d s (l ∷ m ∷ ls) loop = refl

  there_same : (a : ActionTree) (s at : List ℕ) → SameRows s (action_number a) → Begins s at → view_there a t at ≡ view_there a u at
  there_same a s at rows b = ap (option_map (view_of (action_name a))) (rows at b)

  in_same : (a : ActionTree) (s : List ℕ) (spots : Spots) → SameRows s (action_number a) → Meant s spots
      → view_in a t spots ≡ view_in a u spots
  in_same a s (one at) rows meant = there_same a s at rows meant
  in_same a s (every ats) rows meant =
      ap (λ (vs : List ValueTree). Some (list (trees vs)))
      (map_same (Begins s) (λ at. or_null (view_there a t at)) (λ at. or_null (view_there a u at)) ats meant
      (λ at b. ap or_null (there_same a s at rows b)))
  in_same a s (latest None) rows meant = refl
  in_same a s (latest (Some at)) rows meant = there_same a s at rows meant

  if_same : (a : ActionTree) (s : List ℕ) (o : Option Spots) → SameRows s (action_number a) → MeantIf s o
      → option_and_then (view_in a t) o ≡ option_and_then (view_in a u) o
  if_same a s None rows meant = refl
  if_same a s (Some spots) rows meant = in_same a s spots rows meant

  -- `actions`, `outputs`, `body`
  pub view_same : (d : DefTree) (p : Point) (a : ActionTree) → SameRows (shared p (action_number a)) (action_number a)
      → SameLoop (shared p (action_number a)) (p.left (action_number a)) → view_by d p t (Some a) ≡ view_by d p u (Some a)
  view_same d p a rows loop =
      let x = action_number a in
      let s = shared p x in
      ap (option_and_then (view_in a t)) (spots_same d s (p.left x) loop)
      ∙ if_same a s (spots_by d s (p.left x) u) rows (meant_by d s (p.left x) u)

  -- ---- `result`

  places_all : (s : List ℕ) (spots : Spots) → Meant s spots → AllByRecursion (Begins s) (places_in spots)
  places_all s (one at) meant = (meant, tt)
  places_all s (every ats) meant = meant
  places_all s (latest None) meant = tt
  places_all s (latest (Some at)) meant = (meant, tt)

  abbrev row_views : Table Row → List ActionTree → List ℕ → List ValueTree
  row_views known inner at = map (λ a. or_null (view_there a known at)) inner

  flat_same : (s : List ℕ) (inner : List ActionTree) (ats : List (List ℕ)) → AllByRecursion (λ a. SameRows s (action_number a)) inner
      → AllByRecursion (Begins s) ats
      → flat_map (row_views t inner) ats ≡ flat_map (row_views u inner) ats
  flat_same s inner [] rows all = refl
  flat_same s inner (at ∷ ats) rows all = λ i.
      map_same (λ a. SameRows s (action_number a)) (λ a. or_null (view_there a t at)) (λ a. or_null (view_there a u at)) inner rows
      (λ a same. ap or_null (there_same a s at same all.0)) i
      ++ flat_same s inner ats rows all.1 i

  result_in_same : (s : List ℕ) (inner : List ActionTree) (o : Option Spots) → AllByRecursion (λ a. SameRows s (action_number a))
      (by_name inner)
      → MeantIf s o → option_map (result_in t inner) o ≡ option_map (result_in u inner) o
  result_in_same s inner None rows meant = refl
  result_in_same s inner (Some spots) rows meant =
      ap (λ (vs : List ValueTree). Some (list (trees vs))) (flat_same s (by_name inner) (places_in spots) rows (places_all s spots meant))

  abbrev pub AllSame : List ℕ → Option (List ActionTree) → Type 0
  AllSame s None = Unit {0}
  AllSame s (Some inner) = AllByRecursion (λ a. SameRows s (action_number a)) (by_name inner)

  result_if_same : (d : DefTree) (s ls : List ℕ) (o : Option (List ActionTree)) → AllSame s o → SameLoop s ls
      → option_and_then (λ inner. option_map (result_in t inner) (spots_by d s ls t)) o
      ≡ option_and_then (λ inner. option_map (result_in u inner) (spots_by d s ls u)) o
  result_if_same d s ls None rows loop = refl
  result_if_same d s ls (Some inner) rows loop =
      ap (option_map (result_in t inner)) (spots_same d s ls loop) ∙ result_in_same s inner (spots_by d s ls u) rows (meant_by d s ls u)

  pub result_same : (d : DefTree) (p : Point) (a : ActionTree)
      → AllSame (shared p (action_number a)) (first_level (action_kind a))
      → SameLoop (shared p (action_number a)) (p.left (action_number a) ++ own_loop a)
      → result_by d p t (Some a) ≡ result_by d p u (Some a)
  result_same d p a rows loop =
      let x = action_number a in result_if_same d (shared p x) (p.left x ++ own_loop a) (first_level (action_kind a)) rows loop
