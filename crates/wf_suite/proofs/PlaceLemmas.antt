-- The places of tests by their names, with one test more.
use Rattle.std.proofs.Common.{◌≡◌, ◌+◌, ℕ, suc, List, [], ◌∷◌, ◌++◌, length, Bool, true, false, cond}
use Rattle.std.proofs.Common.{Option, Some, None, refl, sym, ap, ap₂, ◌∙◌, arith}
use Rattle.std.proofs.lemmas.Map.Text.{is_eq-slice_cmp}
use Rattle.std.proofs.lemmas.Slice.Eq.{bytes_eq-Decides}
use Rattle.std.specs.BTreeMap.{is_at}
use Rattle.std.specs.Map.{lookup}
use Rattle.std.specs.Str.{bytes_eq}
use Rattle.wf_val.specs.NameOrder.{bytes_cmp}
use Rattle.wf_suite.specs.Places.{ArePlaces}
use Rattle.wf_suite.specs.Suite.{place_from, place_of}
use Rattle.wf_suite.specs.declared.suite.Test.{Test}

abbrev first_of : Option ℕ → Option ℕ → Option ℕ
first_of (Some i) o = Some i
first_of None o = o

first-none : (o : Option ℕ) → o ≡ first_of o None
first-none (Some i) = refl
first-none None = refl

snoc-at : (b : Bool) (p : ℕ) (more old last last' : Option ℕ) → more ≡ first_of old last → last ≡ last'
    → cond b (Some p) more ≡ first_of (cond b (Some p) old) last'
snoc-at true p more old last last' is same = refl
snoc-at false p more old last last' is same = is ∙ ap (first_of old) same

place-snoc : (p : ℕ) (q : List ℕ) (ts : List Test) (t : Test)
    → place_from p q (ts ++ t ∷ []) ≡ first_of (place_from p q ts) (cond (bytes_eq t.name q) (Some (p + length ts)) None)
place-snoc p q [] t = ap (λ (n : ℕ). cond (bytes_eq t.name q) (Some n) None) (omega arith)
place-snoc p q (x ∷ ts) t =
    snoc-at (bytes_eq x.name q) p (place_from (suc p) q (ts ++ t ∷ [])) (place_from (suc p) q ts)
    (cond (bytes_eq t.name q) (Some (suc p + length ts)) None) (cond (bytes_eq t.name q) (Some (p + length (x ∷ ts))) None)
    (place-snoc (suc p) q ts t) (ap (λ (n : ℕ). cond (bytes_eq t.name q) (Some n) None) (omega arith))

at-name : (q : List ℕ) (ts : List Test) (t : Test) (b : Bool) → bytes_eq t.name q ≡ b → place_of t.name ts ≡ None
    → cond b (Some (length ts)) (place_of q ts) ≡ first_of (place_of q ts) (cond b (Some (0 + length ts)) None)
at-name q ts t true is new =
    sym (ap (λ (o : Option ℕ). first_of o (Some (0 + length ts)))
    (ap (λ (n : List ℕ). place_of n ts) (sym ((bytes_eq-Decides t.name q).0 is)) ∙ new) ∙ ap Some (omega arith))
at-name q ts t false is new = first-none (place_of q ts)

placed_behind : (entries entries' : List (List ℕ × ℕ)) (ts : List Test) (t : Test) → ArePlaces entries ts → place_of t.name ts ≡ None
    → ((q : List ℕ) → lookup (is_at (bytes_cmp q)) entries'
    ≡ cond (is_at (bytes_cmp t.name) q) (Some (length ts)) (lookup (is_at (bytes_cmp q)) entries))
    → ArePlaces entries' (ts ++ t ∷ [])
placed_behind entries entries' ts t placed new updated q =
    updated q
    ∙ ap₂ (λ (b : Bool) (o : Option ℕ). cond b (Some (length ts)) o) (is_eq-slice_cmp t.name q) (placed q)
    ∙ at-name q ts t (bytes_eq t.name q) refl new
    ∙ sym (place-snoc 0 q ts t)

-- a test of a new name has the place behind the others
pub placed_more : (entries entries' : List (List ℕ × ℕ)) (ts ts' : List Test) (t : Test) (k : List ℕ) (place : ℕ)
    → ArePlaces entries ts → place_of t.name ts ≡ None → k ≡ t.name → place ≡ length ts → ts' ≡ ts ++ t ∷ []
    → ((q : List ℕ) → lookup (is_at (bytes_cmp q)) entries'
    ≡ cond (is_at (bytes_cmp k) q) (Some place) (lookup (is_at (bytes_cmp q)) entries))
    → ArePlaces entries' ts'
placed_more entries entries' ts ts' t k place placed new named counted added updated q =
    placed_behind entries entries' ts t placed new
    (λ r. updated r
    ∙ ap₂ (λ (n : List ℕ) (i : ℕ). cond (is_at (bytes_cmp n) r) (Some i) (lookup (is_at (bytes_cmp r)) entries)) named counted)
    q ∙ sym (ap (place_of q) added)
