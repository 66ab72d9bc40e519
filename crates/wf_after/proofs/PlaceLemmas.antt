-- A search by name ends at the place of the name.
use Rattle.std.proofs.Common.{◌≡◌, ℕ, zero, suc, List, [], ◌∷◌, Some, None, bytes_eq, Ordering, Less, is_eq, refl, sym, ap, ◌∙◌}
use Rattle.std.specs.List.{AllByRecursion}
use Rattle.std.proofs.lemmas.Map.Text.{is_eq-slice_cmp}
use Rattle.wf_val.specs.Get.{name_of}
use Rattle.wf_val.specs.NameOrder.{bytes_cmp, IsPlace, IsGap}
use Rattle.wf_val.specs.ValueTree.{Member}
use Rattle.wf_after.specs.Entries.{place_in}

same_as : (k l : List ℕ) (o : Ordering) → bytes_cmp k l ≡ o → bytes_eq k l ≡ is_eq o
same_as k l o is = sym (is_eq-slice_cmp k l) ∙ ap is_eq is

pub place-at_place : (k : List ℕ) (ms : List Member) (i : ℕ) → IsPlace name_of k ms i → place_in k ms ≡ Some i
place-at_place k [] i place = absurd place
place-at_place k (m ∷ ms) zero place = rw (same_as k m.0 _ place)
place-at_place k (m ∷ ms) (suc i) place = rw (same_as k m.0 _ place.0, place-at_place k ms i place.1)

place-below : (k : List ℕ) (ms : List Member) → AllByRecursion (λ y. bytes_cmp k (name_of y) ≡ Less) ms → place_in k ms ≡ None
place-below k [] all = refl
place-below k (m ∷ ms) all = rw (same_as k m.0 _ all.0, place-below k ms all.1)

pub place-in_gap : (k : List ℕ) (ms : List Member) (i : ℕ) → IsGap name_of k ms i → place_in k ms ≡ None
place-in_gap k [] i gap = refl
place-in_gap k (m ∷ ms) zero gap = place-below k (m ∷ ms) gap
place-in_gap k (m ∷ ms) (suc i) gap = rw (same_as k m.0 _ gap.0, place-in_gap k ms i gap.1)
