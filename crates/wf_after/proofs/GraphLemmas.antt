-- One action more of a graph whose `runAfter` are judged.
use Rattle.std.proofs.Common.{◌≡◌, ◌+◌, ◌<◌, length, drop, drop-cons, get_or, ℕ, suc, List, ◌∷◌, Bool, Option, add-one, sym, ap, ◌∙◌}
use Rattle.wf_json.specs.Pointer.{flagged, lesser, least}
use Rattle.wf_json.proofs.PointerLemmas.{lesser-assoc, least-append}
use Rattle.wf_val.specs.ValueTree.{Member}
use Rattle.wf_after.specs.Waits.{offends, offenders}

pub offender_more : (graph : List Member) (paths : List (List Bool)) (i : ℕ) (m : Member) (ms : List Member) (best own : Option (List ℕ))
    → own ≡ least (flagged (offends graph paths i m) m.0)
    → lesser (lesser best own) (least (offenders graph paths (i + 1) ms)) ≡ lesser best (least (offenders graph paths i (m ∷ ms)))
offender_more graph paths i m ms best own is =
    let ps : List (List ℕ) = flagged (offends graph paths i m) m.0 in
    let qs : List (List ℕ) = offenders graph paths (suc i) ms in
    rw (add-one, is) (sym (ap (lesser best) (least-append ps qs) ∙ lesser-assoc best (least ps) (least qs)))

-- the list from a place on
pub drop_at_place : {X : Type 0} (xs : List X) (i : ℕ) (x : X) → i < length xs → x ≡ get_or xs i x → drop i xs ≡ x ∷ drop (i + 1) xs
drop_at_place xs i x within is = rw add-one (drop-cons xs i x within ∙ ap (λ y. y ∷ drop (suc i) xs) (sym is))
