-- What is kept for a name, one action after the other.
use Rattle.std.proofs.Common.{◌≡◌, ℕ, Bool, true, false, List, ◌∷◌, Option, None, Some, bytes_eq, option_map, refl, sym, ap, ◌∙◌, cond}
use Rattle.std.proofs.lemmas.Cmp.{nat_list_cmp_total}
use Rattle.std.proofs.lemmas.Map.Text.{is_eq-slice_cmp}
use Rattle.std.proofs.lemmas.Slice.Eq.{bytes_eq-Decides}
use Rattle.std.specs.List.{find}
use Rattle.std.specs.Option.{option_or}
use Rattle.wf_val.specs.NameOrder.{find_named, put_named}
use Rattle.wf_lists.proofs.KeyOrderLemmas.{find-put}
use Rattle.wf_standing.specs.Seen.{action_found, standing_tree}
use Rattle.wf_standing.specs.Standing.{StandingTree, name_at}
use Rattle.wf_standing.specs.Whole.{has_name}
use Rattle.wf_standing.specs.declared.names.Named.{Named}

or-none : (o : Option StandingTree) → option_or o None ≡ o
or-none None = refl
or-none (Some p) = refl

some-first : (o other : Option StandingTree) (p : StandingTree) → o ≡ Some p → o ≡ option_or o other
some-first (Some q) other p there = refl
some-first None other p there = cc

found-put : (k : List ℕ) (r : Named) (names : List Named)
    → action_found (put_named (λ x. x.name.now) r names) k
    ≡ cond (bytes_eq k r.name.now) (Some (standing_tree r.standing.now)) (action_found names k)
found-put k r names =
    ap (option_map (λ x. standing_tree x.standing.now)) (find-put nat_list_cmp_total (λ x. x.name.now) k r names)
    ∙ ap (λ (b : Bool). option_map (λ x. standing_tree x.standing.now) (cond b (Some r) (find_named (λ x. x.name.now) k names)))
    (is_eq-slice_cmp k r.name.now)
    ∙ go (bytes_eq k r.name.now)
  where
    go : (b : Bool) → option_map (λ x. standing_tree x.standing.now) (cond b (Some r) (find_named (λ x. x.name.now) k names))
        ≡ cond b (Some (standing_tree r.standing.now)) (action_found names k)
    go true = refl
    go false = refl

-- names that are the same find the same
found-same : (names : List Named) (k n : List ℕ) → bytes_eq k n ≡ true → action_found names k ≡ action_found names n
found-same names k n same = ap (action_found names) ((bytes_eq-Decides k n).0 same)

-- a name that has no action gets one
pub one-kept : (names more : List Named) (r : Named) → more ≡ put_named (λ x. x.name.now) r names → action_found names r.name.now ≡ None
    → (k : List ℕ) → action_found more k
    ≡ option_or (action_found names k) (cond (bytes_eq k r.name.now) (Some (standing_tree r.standing.now)) None)
one-kept names more r put none k = ap (λ l. action_found l k) put ∙ found-put k r names ∙ go (bytes_eq k r.name.now) refl
  where
    go : (b : Bool) → bytes_eq k r.name.now ≡ b → cond b (Some (standing_tree r.standing.now)) (action_found names k)
        ≡ option_or (action_found names k) (cond b (Some (standing_tree r.standing.now)) None)
    go true same = ap (λ o. option_or o (Some (standing_tree r.standing.now))) (sym none ∙ sym (found-same names k r.name.now same))
    go false same = sym (or-none (action_found names k))

-- and one that has an action keeps it
pub none-kept : (names : List Named) (n : List ℕ) (s found : StandingTree) → action_found names n ≡ Some found
    → (k : List ℕ) → action_found names k ≡ option_or (action_found names k) (cond (bytes_eq k n) (Some s) None)
none-kept names n s found there k = go (bytes_eq k n) refl
  where
    go : (b : Bool) → bytes_eq k n ≡ b → action_found names k ≡ option_or (action_found names k) (cond b (Some s) None)
    go true same = some-first (action_found names k) (Some s) found (found-same names k n same ∙ there)
    go false same = sym (or-none (action_found names k))

-- one action after the other
first-of : (kept later : Option StandingTree) (b : Bool) (s : StandingTree)
    → option_or (option_or kept (cond b (Some s) None)) later ≡ option_or kept (cond b (Some s) later)
first-of None later true s = refl
first-of None later false s = refl
first-of (Some p) later b s = refl

pub one-more : (kept : Option StandingTree) (k : List ℕ) (s : StandingTree) (rest : List StandingTree)
    → option_or (option_or kept (cond (bytes_eq k (name_at s)) (Some s) None)) (find (has_name k) rest)
    ≡ option_or kept (find (has_name k) (s ∷ rest))
one-more kept k s rest = first-of kept (find (has_name k) rest) (bytes_eq k (name_at s)) s
