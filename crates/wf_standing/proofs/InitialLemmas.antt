-- What is kept for the name of a variable, one initialisation after the other.
use Rattle.std.proofs.Common.{◌≡◌, ℕ, Bool, true, false, List, [], ◌∷◌, ◌++◌, None, Some, bytes_eq, map, refl, sym, ap, ◌∙◌, cond}
use Rattle.std.proofs.Common.{append-nil}
use Rattle.std.proofs.lemmas.Cmp.{nat_list_cmp_total}
use Rattle.std.proofs.lemmas.Map.Text.{is_eq-slice_cmp}
use Rattle.std.proofs.lemmas.Slice.Eq.{bytes_eq-Decides}
use Rattle.wf_val.specs.NameOrder.{IsInNameOrder, find_named, put_named, without_named}
use Rattle.wf_lists.proofs.KeyOrderLemmas.{find-put, find-without}
use Rattle.wf_def.specs.ActionTree.{InitialTree}
use Rattle.wf_standing.specs.Seen.{initialised_found, initialised_in, initialised_tree}
use Rattle.wf_standing.specs.Standing.{StandingTree}
use Rattle.wf_standing.specs.Whole.{InitialisedTree, initialised_by}
use Rattle.wf_standing.specs.declared.initials.Variable.{Variable}

variable_name : Variable → List ℕ
variable_name v = v.name.now

pub found-put : (k : List ℕ) (v : Variable) (vs : List Variable)
    → initialised_found (put_named (λ x. x.name.now) v vs) k
    ≡ cond (bytes_eq k v.name.now) (map initialised_tree v.by.items) (initialised_found vs k)
found-put k v vs =
    ap initialised_in (find-put nat_list_cmp_total (λ x. x.name.now) k v vs)
    ∙ ap (λ (b : Bool). initialised_in (cond b (Some v) (find_named (λ x. x.name.now) k vs))) (is_eq-slice_cmp k v.name.now)
    ∙ go (bytes_eq k v.name.now)
  where
    go : (b : Bool) → initialised_in (cond b (Some v) (find_named (λ x. x.name.now) k vs))
        ≡ cond b (map initialised_tree v.by.items) (initialised_found vs k)
    go true = refl
    go false = refl

pub found-without : (n k : List ℕ) (vs : List Variable) → IsInNameOrder (λ (x : Variable). x.name.now) vs
    → initialised_found (without_named (λ x. x.name.now) n vs) k ≡ cond (bytes_eq k n) [] (initialised_found vs k)
found-without n k vs order =
    ap initialised_in (find-without nat_list_cmp_total (λ x. x.name.now) n k vs order)
    ∙ ap (λ (b : Bool). initialised_in (cond b None (find_named (λ x. x.name.now) k vs))) (is_eq-slice_cmp k n)
    ∙ go (bytes_eq k n)
  where
    go : (b : Bool) → initialised_in (cond b None (find_named (λ x. x.name.now) k vs)) ≡ cond b [] (initialised_found vs k)
    go true = refl
    go false = refl

-- one initialisation is kept behind those of its name
one : StandingTree → InitialTree → InitialisedTree
one s i = record { standing = s; sort = i.sort }

pub one-kept : (before without after : List Variable) (v : Variable) (s : StandingTree) (i : InitialTree)
    → v.name.now ≡ i.name → after ≡ put_named (λ x. x.name.now) v without
    → ((k : List ℕ) → initialised_found without k ≡ cond (bytes_eq k i.name) [] (initialised_found before k))
    → map initialised_tree v.by.items ≡ initialised_found before i.name ++ record { standing = s; sort = i.sort } ∷ []
    → (k : List ℕ) → initialised_found after k ≡ initialised_found before k ++ initialised_by s (i ∷ []) k
one-kept before without after v s i name put taken by k =
    ap (λ l. initialised_found l k) put
    ∙ found-put k v without
    ∙ ap (λ (n : List ℕ). cond (bytes_eq k n) (map initialised_tree v.by.items) (initialised_found without k)) name
    ∙ ap (λ (l : List InitialisedTree). cond (bytes_eq k i.name) (map initialised_tree v.by.items) l) (taken k)
    ∙ go (bytes_eq k i.name) refl
  where
    own : List InitialisedTree
    own = record { standing = s; sort = i.sort } ∷ []

    go : (b : Bool) → bytes_eq k i.name ≡ b
        → cond b (map initialised_tree v.by.items) (cond b [] (initialised_found before k))
        ≡ initialised_found before k ++ cond b (record { standing = s; sort = i.sort } ∷ []) []
    go true same = by ∙ ap (λ (n : List ℕ). initialised_found before n ++ record { standing = s; sort = i.sort } ∷ [])
        (sym ((bytes_eq-Decides k i.name).0 same))
    go false same = sym (append-nil (initialised_found before k))

-- one after the other
pub by-more : (s : StandingTree) (i : InitialTree) (is : List InitialTree) (k : List ℕ)
    → initialised_by s (i ∷ is) k ≡ initialised_by s (i ∷ []) k ++ initialised_by s is k
by-more s i is k = go (bytes_eq k i.name)
  where
    go : (b : Bool) → cond b (record { standing = s; sort = i.sort } ∷ initialised_by s is k) (initialised_by s is k)
        ≡ cond b (record { standing = s; sort = i.sort } ∷ []) [] ++ initialised_by s is k
    go true = refl
    go false = refl
