-- Tables of actions that are filled number by number.
use Rattle.std.proofs.Common.{◌≡◌, ℕ, zero, suc, ◌+◌, ◌<◌, ◌≤◌, Bool, true, false, cond, List, [], ◌∷◌, ◌++◌, map, length, drop, get_or}
use Rattle.std.proofs.Common.{set, Option, Some, None, option_map, nat_eq, refl, sym, ap, ◌∙◌, arith, rules, true≢false}
use Rattle.std.proofs.lemmas.Bool.{eq-eqb, eqb-true}
use Rattle.std.proofs.lemmas.List.{drop_all}
use Rattle.std.specs.List.{find}
use Rattle.std.specs.Option.{option_and_then, option_or}
use Rattle.std.specs.Prelude.{slice_get}
use Rattle.wf_def.specs.ActionSeen.{action_tree}
use Rattle.wf_def.specs.ActionTree.{ActionTree, action_number}
use Rattle.wf_def.specs.DefTree.{DefTree}
use Rattle.wf_def.specs.declared.graph.Action.{Action, out-Action}
use Rattle.wf_def.specs.declared.graph.Kind.TheFolds.{fold_out-Action}
use Rattle.wf_def.proofs.SizeLemmas.{drop_at_place}
use Rattle.wf_def.specs.AllActions.{has_number, numbered}
use Rattle.wf_refs.specs.UsesSeen.{uses_seen}
use Rattle.wf_use_table.specs.Seen.{action_at, is_free, kept_at, uses_at}
use Rattle.wf_refs.specs.Sites.{action_uses, uses_at_inputs, uses_at_items, uses_at_output, uses_at_test, uses_at_tracked, uses_at_trigger}
use Rattle.wf_refs.specs.Sites.{uses_of}
use Rattle.wf_refs.specs.UsesTree.{UsesTree}
use Rattle.wf_refs.specs.Sites.{ActionUsesTree}
use Rattle.wf_refs.specs.declared.site.Site.{Site}
use Rattle.wf_use_table.specs.declared.table.UseTable.{UseTable}

-- a number more in the table holds nothing
pub at-grown : {X : Type 0} (xs : List (Option X)) (n : ℕ) → kept_at (xs ++ None ∷ []) n ≡ kept_at xs n
at-grown [] zero = refl
at-grown [] (suc n) = refl
at-grown (x ∷ xs) zero = refl
at-grown (x ∷ xs) (suc n) = at-grown xs n

-- one number of the table is written over
at_same : {X : Type 0} (xs : List (Option X)) (i : ℕ) (u : X) → i < length xs → kept_at (set xs i (Some u)) i ≡ Some u
at_same [] i u lt = absurd (omega arith)
at_same (x ∷ xs) zero u lt = refl
at_same (x ∷ xs) (suc i) u lt = at_same xs i u (omega arith)

at_other : {X : Type 0} (xs : List (Option X)) (i : ℕ) (u : X) (n : ℕ) → (n ≡ i → ⊥) → kept_at (set xs i (Some u)) n ≡ kept_at xs n
at_other [] i u n apart = refl
at_other (x ∷ xs) zero u zero apart = absurd (apart refl)
at_other (x ∷ xs) zero u (suc n) apart = refl
at_other (x ∷ xs) (suc i) u zero apart = refl
at_other (x ∷ xs) (suc i) u (suc n) apart = at_other xs i u n (λ same. apart (ap suc same))

-- what stands at a number, or else what is put at one
abbrev pub or_put : {X : Type 0} → Option X → ℕ → ℕ → X → Option X
or_put o n i u = option_or o (cond (nat_eq n i) (Some u) None)

free-none : {X : Type 0} (o : Option X) → is_free o ≡ true → o ≡ None
free-none None free = refl
free-none (Some u) free = absurd (cc)

or-none : {X : Type 0} (o : Option X) → o ≡ option_or o None
or-none None = refl
or-none (Some u) = refl

put_free_at : {X : Type 0} (xs : List (Option X)) (i : ℕ) (u : X) (n : ℕ) (b : Bool) → nat_eq n i ≡ b → i < length xs
    → kept_at xs i ≡ None → kept_at (set xs i (Some u)) n ≡ option_or (kept_at xs n) (cond b (Some u) None)
put_free_at {X} xs i u n true is lt none =
    let here : Option X = Some u in
    ap (kept_at (set xs i (Some u))) (eqb-true n i is)
    ∙ at_same xs i u lt
    ∙ sym (ap (λ (o : Option X). option_or o here) (ap (kept_at xs) (eqb-true n i is) ∙ none))
put_free_at xs i u n false is lt none =
    at_other xs i u n (λ same. true≢false (sym (eq-eqb n i same) ∙ is)) ∙ or-none (kept_at xs n)

pub put_free : {X : Type 0} (xs : List (Option X)) (i : ℕ) (u : X) → i < length xs → is_free (kept_at xs i) ≡ true
    → (n : ℕ) → kept_at (set xs i (Some u)) n ≡ or_put (kept_at xs n) n i u
put_free xs i u lt free n = put_free_at xs i u n (nat_eq n i) refl lt (free-none (kept_at xs i) free)

taken-stays : {X : Type 0} (o : Option X) (u : X) → is_free o ≡ false → o ≡ option_or o (Some u)
taken-stays None u taken = absurd (cc)
taken-stays (Some v) u taken = refl

put_taken_at : {X : Type 0} (xs : List (Option X)) (i : ℕ) (u : X) (n : ℕ) (b : Bool) → nat_eq n i ≡ b → is_free (kept_at xs i) ≡ false
    → kept_at xs n ≡ option_or (kept_at xs n) (cond b (Some u) None)
put_taken_at xs i u n true is taken = taken-stays (kept_at xs n) u (ap (λ k. is_free (kept_at xs k)) (eqb-true n i is) ∙ taken)
put_taken_at xs i u n false is taken = or-none (kept_at xs n)

pub put_taken : {X : Type 0} (xs : List (Option X)) (i : ℕ) (u : X) → is_free (kept_at xs i) ≡ false
    → (n : ℕ) → kept_at xs n ≡ or_put (kept_at xs n) n i u
put_taken xs i u taken n = put_taken_at xs i u n (nat_eq n i) refl taken

-- what is put is seen
seen-put_at : {X Y : Type 0} (f : X → Y) (o : Option X) (b : Bool) (u : X)
    → option_map f (option_or o (cond b (Some u) None)) ≡ option_or (option_map f o) (cond b (Some (f u)) None)
seen-put_at f None true u = refl
seen-put_at f None false u = refl
seen-put_at f (Some v) b u = refl

pub seen_put : {X Y : Type 0} (f : X → Y) (o o' : Option X) (n i : ℕ) (u : X) → o' ≡ or_put o n i u
    → option_map f o' ≡ or_put (option_map f o) n i (f u)
seen_put f o o' n i u put = ap (option_map f) put ∙ seen-put_at f o (nat_eq n i) u

or-next : (b : Bool) (o r : Option ActionUsesTree) (u : ActionUsesTree)
    → option_or (option_or o (cond b (Some u) None)) r ≡ option_or o (cond b (Some u) r)
or-next true None r u = refl
or-next true (Some v) r u = refl
or-next false None r u = refl
or-next false (Some v) r u = refl

first-of : (b : Bool) (a : ActionTree) (r : Option ActionTree)
    → option_map action_uses (cond b (Some a) r) ≡ cond b (Some (action_uses a)) (option_map action_uses r)
first-of true a r = refl
first-of false a r = refl

-- the next action, and then those that are left
pub next_at : (o : Option ActionUsesTree) (n : ℕ) (a : ActionTree) (rest : List ActionTree)
    → option_or (or_put o n (action_number a) (action_uses a)) (option_map action_uses (find (has_number n) rest))
    ≡ option_or o (option_map action_uses (find (has_number n) (a ∷ rest)))
next_at o n a rest =
    or-next (nat_eq n (action_number a)) o (option_map action_uses (find (has_number n) rest)) (action_uses a)
    ∙ ap (option_or o) (sym (first-of (nat_eq n (action_number a)) a (find (has_number n) rest)))

-- an action more was gone through
pub next_action : {R : Type 0} (tree_of : R → ActionTree) (xs : List R) (i : ℕ) (x : R) → i < length xs → x ≡ get_or xs i x
    → (o o' whole : Option ActionUsesTree) (n number : ℕ) (u : ActionUsesTree) → o' ≡ or_put o n number u → u ≡ action_uses (tree_of x)
    → number ≡ action_number (tree_of x)
    → option_or o (option_map action_uses (find (has_number n) (map tree_of (drop i xs)))) ≡ whole
    → option_or o' (option_map action_uses (find (has_number n) (map tree_of (drop (i + 1) xs)))) ≡ whole
next_action {R} tree_of xs i x lt is o o' whole n number u put seen own so_far =
    let left : List ActionTree = map tree_of (drop (i + 1) xs) in
    ap (λ (p : Option ActionUsesTree). option_or p (option_map action_uses (find (has_number n) left)))
    (put ∙ ap (λ (k : ℕ). or_put o n k u) own ∙ ap (or_put o n (action_number (tree_of x))) seen)
    ∙ next_at o n (tree_of x) left
    ∙ sym (ap (λ (ys : List R). option_or o (option_map action_uses (find (has_number n) (map tree_of ys)))) (drop_at_place xs i x lt is))
    ∙ so_far

-- and none is left
pub no_action : {R : Type 0} (tree_of : R → ActionTree) (xs : List R) (i : ℕ) → length xs ≤ i → (o whole : Option ActionUsesTree) (n : ℕ)
    → option_or o (option_map action_uses (find (has_number n) (map tree_of (drop i xs)))) ≡ whole → o ≡ whole
no_action {R} tree_of xs i le o whole n so_far =
    or-none o
    ∙ sym (ap (λ (ys : List R). option_or o (option_map action_uses (find (has_number n) (map tree_of ys)))) (drop_all i xs le))
    ∙ so_far

pub number_is : (a : Action) → (out-Action a).number ≡ action_number (action_tree a)
number_is a = search (rules, fold_out-Action)

-- ---- a table of all sites

get-map : {X Y : Type 0} (f : X → Y) (xs : List X) (i : ℕ) → option_map f (slice_get xs i) ≡ slice_get (map f xs) i
get-map f [] i = refl
get-map f (x ∷ xs) zero = refl
get-map f (x ∷ xs) (suc i) = get-map f xs i

inputs-of : (o : Option ActionTree) → option_map (λ u. u.inputs) (option_map action_uses o) ≡ option_map uses_at_inputs o
inputs-of None = refl
inputs-of (Some a) = refl

items-of : (o : Option ActionTree) → option_and_then (λ u. u.items) (option_map action_uses o) ≡ option_and_then uses_at_items o
items-of None = refl
items-of (Some a) = refl

test-of : (o : Option ActionTree) → option_and_then (λ u. u.test) (option_map action_uses o) ≡ option_and_then uses_at_test o
test-of None = refl
test-of (Some a) = refl

tracked-of : (o : Option ActionTree) → option_map (λ u. u.tracked) (option_map action_uses o) ≡ option_map uses_at_tracked o
tracked-of None = refl
tracked-of (Some a) = refl

pub table_of : (t : UseTable) (d : DefTree) → ((n : ℕ) → action_at t.actions.items n ≡ option_map action_uses (numbered n d.top))
    → map uses_seen t.outputs.items ≡ map uses_at_output d.outputs → map uses_seen t.triggers.items ≡ map uses_at_trigger d.triggers
    → (site : Site) → uses_at t site ≡ uses_of d site
table_of t d actions outputs triggers (Site.Inputs n) =
    ap (option_map (λ (u : ActionUsesTree). u.inputs)) (actions n) ∙ inputs-of (numbered n d.top)
table_of t d actions outputs triggers (Site.Items n) =
    ap (option_and_then (λ (u : ActionUsesTree). u.items)) (actions n) ∙ items-of (numbered n d.top)
table_of t d actions outputs triggers (Site.Test n) =
    ap (option_and_then (λ (u : ActionUsesTree). u.test)) (actions n) ∙ test-of (numbered n d.top)
table_of t d actions outputs triggers (Site.Tracked n) =
    ap (option_map (λ (u : ActionUsesTree). u.tracked)) (actions n) ∙ tracked-of (numbered n d.top)
table_of t d actions outputs triggers (Site.Outputs i) =
    get-map uses_seen t.outputs.items i
    ∙ ap (λ (us : List UsesTree). slice_get us i) outputs
    ∙ sym (get-map uses_at_output d.outputs i)
table_of t d actions outputs triggers (Site.Trigger i) =
    get-map uses_seen t.triggers.items i
    ∙ ap (λ (us : List UsesTree). slice_get us i) triggers
    ∙ sym (get-map uses_at_trigger d.triggers i)
