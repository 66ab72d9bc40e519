-- A table that a walk over all actions has filled has at each number what the list of the actions says.
use Rattle.std.proofs.Common.{◌≡◌, ℕ, zero, suc, ◌+◌, ◌<◌, ◌≤◌, Bool, true, false, ◌||◌, cond, List, [], ◌∷◌, ◌++◌, length, map, replicate, set, slice_get, get_or, Option, Some, None, option_map, append_assoc, append-nil, refl, sym, ap, ap₂, ◌∙◌, arith, nat_eq, eq-eqb, eqb-true, true≢false}
use Rattle.std.specs.Global.{Vec}
use Rattle.std.specs.List.{find}
use Rattle.wf_def.specs.Changes.{owns, owns_any}
use Rattle.wf_def.specs.Definition.{Kind, Leaf, Scope, Choice, Foreach, Until, Branches, no_branch, branch, Graph, done, add, has_own}
use Rattle.wf_def.specs.Machine.{or_else}
use Rattle.wf_def.specs.Waiting.{times}
use Rattle.wf_def.proofs.Basics.{not_true, when, unless}
use Rattle.wf_def.specs.ActionTree.{ActionTree, ActionTrees, action_after, action_kind, action_number}
use Rattle.wf_def.specs.AllActions.{all_actions, has_number}
use Rattle.wf_def.specs.Layered.{layered, layered_kind, need_of}
use Rattle.wf_def.specs.declared.after.After.{After}
use Rattle.wf_plan.specs.Plan.{EntryTree, PlanTree, branches_of, entry_for, entry_of, followers_of, holder_of, holds_directly, needs, own_numbers, plan_of, shape_of, tabled}
use Rattle.wf_plan.specs.PlanSeen.{entries_seen, entry_tree, lists_of}
use Rattle.wf_plan.specs.Walk.{add_at, added, all_added, all_entered, all_held, all_own, edit_at, held, is_free, numbers_in, or_this, take_place}
use Rattle.wf_plan.specs.declared.plan.Entry.{Entry}

-- ---- tables

-- two functions that agree have one table
tabled_same : {A : Type 0} (k n : ℕ) (f g : ℕ → A) → ((m : ℕ) → k ≤ m → f m ≡ g m) → tabled k n f ≡ tabled k n g
tabled_same k zero f g e = refl
tabled_same k (suc n) f g e =
    ap₂ (λ x xs. x ∷ xs) (e k (omega arith)) (tabled_same (suc k) n f g (λ m le. e m (omega (arith, le))))

pub free_table : {A : Type 0} (k n : ℕ) (v : A) → replicate n v ≡ tabled k n (λ m. v)
free_table k zero v = refl
free_table k (suc n) v = ap (λ xs. v ∷ xs) (free_table (suc k) n v)

apart : (a b : ℕ) → (a ≡ b → ⊥) → nat_eq a b ≡ false
apart a b other = not_true (nat_eq a b) (λ t. other (eqb-true a b t))

-- an edit at a place is one at a number
edited_from : {A : Type 0} (k n p : ℕ) (edit : A → A) (f : ℕ → A)
    → edit_at (tabled k n f) p edit ≡ tabled k n (λ m. cond (nat_eq (p + k) m) (edit (f m)) (f m))
edited_from k zero p edit f = refl
edited_from k (suc n) zero edit f =
    ap₂ (λ x xs. x ∷ xs)
    (sym (when (nat_eq (0 + k) k) (edit (f k)) (f k) (eq-eqb (0 + k) k (omega arith))))
    (tabled_same (suc k) n f (λ m. cond (nat_eq (0 + k) m) (edit (f m)) (f m))
    (λ m le. sym (unless (nat_eq (0 + k) m) (edit (f m)) (f m) (apart (0 + k) m (λ e. omega (arith, e, le))))))
edited_from k (suc n) (suc p) edit f =
    ap₂ (λ x xs. x ∷ xs)
    (sym (unless (nat_eq (suc p + k) k) (edit (f k)) (f k) (apart (suc p + k) k (λ e. omega (arith, e)))))
    (edited_from (suc k) n p edit f
    ∙ tabled_same (suc k) n (λ m. cond (nat_eq (p + suc k) m) (edit (f m)) (f m)) (λ m. cond (nat_eq (suc p + k) m) (edit (f m)) (f m))
    (λ m le. ap (λ q. cond (nat_eq q m) (edit (f m)) (f m)) (omega arith)))

edited : {A : Type 0} (n p : ℕ) (edit : A → A) (f : ℕ → A)
    → edit_at (tabled 0 n f) p edit ≡ tabled 0 n (λ m. cond (nat_eq p m) (edit (f m)) (f m))
edited n p edit f =
    edited_from 0 n p edit f
    ∙ tabled_same 0 n (λ m. cond (nat_eq (p + 0) m) (edit (f m)) (f m)) (λ m. cond (nat_eq p m) (edit (f m)) (f m))
    (λ m le. ap (λ q. cond (nat_eq q m) (edit (f m)) (f m)) (omega arith))

-- ---- who waits for an action

one_more : (ns : List ℕ) (b : ℕ) (c : Bool) (k : ℕ) → cond c (ns ++ b ∷ []) ns ++ replicate k b ≡ ns ++ replicate (cond c (suc k) k) b
one_more ns b true k = append_assoc ns (b ∷ []) (replicate k b)
one_more ns b false k = refl

added_table : (n : ℕ) (es : List After) (b : ℕ) (f : ℕ → List ℕ)
    → added (tabled 0 n f) (map (λ e. e.number) es) b ≡ tabled 0 n (λ m. f m ++ replicate (times (map need_of es) m) b)
added_table n [] b f = tabled_same 0 n f (λ m. f m ++ []) (λ m le. sym (append-nil (f m)))
added_table n (e ∷ es) b f =
    ap (λ t. added t (map (λ e. e.number) es) b) (edited n e.number (λ ns. ns ++ b ∷ []) f)
    ∙ added_table n es b (λ m. cond (nat_eq e.number m) (f m ++ b ∷ []) (f m))
    ∙ tabled_same 0 n (λ m. cond (nat_eq e.number m) (f m ++ b ∷ []) (f m) ++ replicate (times (map need_of es) m) b)
    (λ m. f m ++ replicate (times (map need_of (e ∷ es)) m) b)
    (λ m le. one_more (f m) b (nat_eq e.number m) (times (map need_of es) m))

followers_from : (n : ℕ) (as' : List ActionTree) (f : ℕ → List ℕ)
    → all_added (tabled 0 n f) as' ≡ tabled 0 n (λ m. f m ++ followers_of as' m)
followers_from n [] f = tabled_same 0 n f (λ m. f m ++ []) (λ m le. sym (append-nil (f m)))
followers_from n (a ∷ as') f =
    ap (λ t. all_added t as') (added_table n (action_after a) (action_number a) f)
    ∙ followers_from n as' (λ m. f m ++ replicate (times (needs a) m) (action_number a))
    ∙ tabled_same 0 n (λ m. (f m ++ replicate (times (needs a) m) (action_number a)) ++ followers_of as' m)
    (λ m. f m ++ followers_of (a ∷ as') m)
    (λ m le. append_assoc (f m) (replicate (times (needs a) m) (action_number a)) (followers_of as' m))

pub followers_table : (n : ℕ) (as' : List ActionTree) → all_added (replicate n []) as' ≡ tabled 0 n (followers_of as')
followers_table n as' =
    ap (λ t. all_added t as') (free_table 0 n []) ∙ followers_from n as' (λ m. [])

-- ---- what an action is

flipped : (a b : ℕ) → nat_eq a b ≡ nat_eq b a
flipped a b = grind (arith)

no_other : {A : Type 0} (o : Option A) → o ≡ or_else o None
no_other None = refl
no_other (Some v) = refl

one_entered : (o : Option EntryTree) (a : ActionTree) (q : Option ActionTree) (c : Bool)
    → or_else (cond c (or_this o (entry_of a)) o) (option_map entry_of q) ≡ or_else o (option_map entry_of (cond c (Some a) q))
one_entered None a q true = refl
one_entered (Some v) a q true = refl
one_entered o a q false = refl

entries_from : (n : ℕ) (as' : List ActionTree) (f : ℕ → Option EntryTree)
    → all_entered (tabled 0 n f) as' ≡ tabled 0 n (λ m. or_else (f m) (entry_for as' m))
entries_from n [] f = tabled_same 0 n f (λ m. or_else (f m) None) (λ m le. no_other (f m))
entries_from n (a ∷ as') f =
    ap (λ t. all_entered t as') (edited n (action_number a) (λ o. or_this o (entry_of a)) f)
    ∙ entries_from n as' (λ m. cond (nat_eq (action_number a) m) (or_this (f m) (entry_of a)) (f m))
    ∙ tabled_same 0 n (λ m. or_else (cond (nat_eq (action_number a) m) (or_this (f m) (entry_of a)) (f m)) (entry_for as' m))
    (λ m. or_else (f m) (entry_for (a ∷ as') m))
    (λ m le. ap (λ c. or_else (cond c (or_this (f m) (entry_of a)) (f m)) (entry_for as' m)) (flipped (action_number a) m)
    ∙ one_entered (f m) a (find (has_number m) as') (has_number m a))

pub entries_table : (n : ℕ) (as' : List ActionTree) → all_entered (replicate n None) as' ≡ tabled 0 n (entry_for as')
entries_table n as' = ap (λ t. all_entered t as') (free_table 0 n None) ∙ entries_from n as' (λ m. None)

-- ---- what holds it

abbrev among : List ℕ → ℕ → Bool
among [] m = false
among (n ∷ ns) m = nat_eq n m || among ns m

or_assoc : (a b c : Bool) → (a || (b || c)) ≡ ((a || b) || c)
or_assoc true b c = refl
or_assoc false b c = refl

among_both : (ns ms : List ℕ) (m : ℕ) → among (ns ++ ms) m ≡ (among ns m || among ms m)
among_both [] ms m = refl
among_both (n ∷ ns) ms m = ap (λ z. nat_eq n m || z) (among_both ns ms m) ∙ or_assoc (nat_eq n m) (among ns m) (among ms m)

among_own : (g : Graph) (m : ℕ) → among (own_numbers g) m ≡ has_own g m
among_own done m = refl
among_own (add n after kind rest) m = ap (λ z. nat_eq n m || z) (among_own rest m)

among_branches : (bs : Branches) (m : ℕ) → among (all_own (branches_of bs)) m ≡ owns_any bs m
among_branches no_branch m = refl
among_branches (branch b rest) m =
    among_both (own_numbers b) (all_own (branches_of rest)) m ∙ ap₂ (λ x y. x || y) (among_own b m) (among_branches rest m)

among_shape : (kind : Kind) (m : ℕ) → among (numbers_in (shape_of kind)) m ≡ owns (Some kind) m
among_shape Leaf m = refl
among_shape (Scope g) m = among_own g m
among_shape (Choice bs) m = among_branches bs m
among_shape (Foreach pace g) m = among_own g m
among_shape (Until most g) m = among_own g m

one_held : (o : Option ℕ) (b : ℕ) (c d : Bool)
    → or_else (cond c (or_this o b) o) (cond d (Some b) None) ≡ or_else o (cond (c || d) (Some b) None)
one_held None b true d = refl
one_held (Some v) b true d = refl
one_held o b false d = refl

held_table : (n : ℕ) (ps : List ℕ) (b : ℕ) (f : ℕ → Option ℕ)
    → held (tabled 0 n f) ps b ≡ tabled 0 n (λ m. or_else (f m) (cond (among ps m) (Some b) None))
held_table n [] b f = tabled_same 0 n f (λ m. or_else (f m) None) (λ m le. no_other (f m))
held_table n (p ∷ ps) b f =
    ap (λ t. held t ps b) (edited n p (λ o. or_this o b) f)
    ∙ held_table n ps b (λ m. cond (nat_eq p m) (or_this (f m) b) (f m))
    ∙ tabled_same 0 n (λ m. or_else (cond (nat_eq p m) (or_this (f m) b) (f m)) (cond (among ps m) (Some b) None))
    (λ m. or_else (f m) (cond (among (p ∷ ps) m) (Some b) None))
    (λ m le. one_held (f m) b (nat_eq p m) (among ps m))

next_held : (o : Option ℕ) (a : ActionTree) (q : Option ActionTree) (c : Bool)
    → or_else (or_else o (cond c (Some (action_number a)) None)) (option_map action_number q)
    ≡ or_else o (option_map action_number (cond c (Some a) q))
next_held None a q true = refl
next_held None a q false = refl
next_held (Some v) a q true = refl
next_held (Some v) a q false = refl

holders_from : (n : ℕ) (as' : List ActionTree) (f : ℕ → Option ℕ)
    → all_held (tabled 0 n f) as' ≡ tabled 0 n (λ m. or_else (f m) (holder_of as' m))
holders_from n [] f = tabled_same 0 n f (λ m. or_else (f m) None) (λ m le. no_other (f m))
holders_from n (a ∷ as') f =
    let ps = numbers_in (shape_of (layered_kind (action_kind a))) in
    ap (λ t. all_held t as') (held_table n ps (action_number a) f)
    ∙ holders_from n as' (λ m. or_else (f m) (cond (among ps m) (Some (action_number a)) None))
    ∙ tabled_same 0 n (λ m. or_else (or_else (f m) (cond (among ps m) (Some (action_number a)) None)) (holder_of as' m))
    (λ m. or_else (f m) (holder_of (a ∷ as') m))
    (λ m le. ap (λ c. or_else (or_else (f m) (cond c (Some (action_number a)) None)) (holder_of as' m))
    (among_shape (layered_kind (action_kind a)) m)
    ∙ next_held (f m) a (find (holds_directly m) as') (holds_directly m a))

pub holders_table : (n : ℕ) (as' : List ActionTree) → all_held (replicate n None) as' ≡ tabled 0 n (holder_of as')
holders_table n as' = ap (λ t. all_held t as') (free_table 0 n None) ∙ holders_from n as' (λ m. None)

-- ---- the tables as they are kept

-- an edit past the end is none
pub edit_past : {A : Type 0} (xs : List A) (p : ℕ) (edit : A → A) → length xs ≤ p → edit_at xs p edit ≡ xs
edit_past [] p edit le = refl
edit_past (x ∷ xs) zero edit le = absurd (omega (arith, le))
edit_past (x ∷ xs) (suc p) edit le = ap (λ ys. x ∷ ys) (edit_past xs p edit (omega (arith, le)))

pub list_added : (vs : List (Vec ℕ)) (p n : ℕ) (v w : Vec ℕ) → p < length vs → w ≡ get_or vs p w → v.items ≡ w.items ++ n ∷ []
    → lists_of (set vs p v) ≡ add_at (lists_of vs) p n
list_added [] p n v w lt is more = absurd (omega (arith, lt))
list_added (x ∷ vs) zero n v w lt is more =
    ap (λ ns. ns ∷ lists_of vs) (more ∙ ap (λ (z : Vec ℕ). z.items ++ n ∷ []) is)
list_added (x ∷ vs) (suc p) n v w lt is more = ap (λ ns. x.items ∷ ns) (list_added vs p n v w (omega (arith, lt)) is more)

pub place_taken : {A : Type 0} (os : List (Option A)) (p : ℕ) (v : A) → is_free (slice_get os p) ≡ true
    → set os p (Some v) ≡ take_place os p v
place_taken [] p v free = absurd (true≢false (sym free))
place_taken (None ∷ os) zero v free = refl
place_taken (Some w ∷ os) zero v free = absurd (true≢false (sym free))
place_taken (o ∷ os) (suc p) v free = ap (λ xs. o ∷ xs) (place_taken os p v free)

pub place_kept : {A : Type 0} (os : List (Option A)) (p : ℕ) (v : A) → is_free (slice_get os p) ≡ false → os ≡ take_place os p v
place_kept [] p v taken = refl
place_kept (None ∷ os) zero v taken = absurd (true≢false taken)
place_kept (Some w ∷ os) zero v taken = refl
place_kept (o ∷ os) (suc p) v taken = ap (λ xs. o ∷ xs) (place_kept os p v taken)

pub free_within : {A : Type 0} (os : List (Option A)) (p : ℕ) → is_free (slice_get os p) ≡ true → p < length os
free_within [] p free = absurd (true≢false (sym free))
free_within (o ∷ os) zero free = omega arith
free_within (o ∷ os) (suc p) free = let h = free_within os p free in omega (arith, h)

or_this_seen : (o : Option Entry) (e : Entry) → option_map entry_tree (or_this o e) ≡ or_this (option_map entry_tree o) (entry_tree e)
or_this_seen None e = refl
or_this_seen (Some w) e = refl

pub entered_seen : (os : List (Option Entry)) (p : ℕ) (e : Entry)
    → entries_seen (take_place os p e) ≡ take_place (entries_seen os) p (entry_tree e)
entered_seen [] p e = refl
entered_seen (o ∷ os) zero e = ap (λ x. x ∷ entries_seen os) (or_this_seen o e)
entered_seen (o ∷ os) (suc p) e = ap (λ xs. option_map entry_tree o ∷ xs) (entered_seen os p e)

pub free_seen : (n : ℕ) → entries_seen (replicate n None) ≡ replicate n None
free_seen zero = refl
free_seen (suc n) = ap (λ xs. None ∷ xs) (free_seen n)

-- ---- two lists of graphs, one after the other
pub held_both : (table : List (Option ℕ)) (ns ms : List ℕ) (b : ℕ) → held table (ns ++ ms) b ≡ held (held table ns b) ms b
held_both table [] ms b = refl
held_both table (n ∷ ns) ms b = held_both (take_place table n b) ns ms b

-- ---- the whole plan

abbrev pub plan_with : List ℕ → List (Option EntryTree) → List (List ℕ) → List (Option ℕ) → PlanTree
plan_with top es fs hs = record { top = top; entries = es; followers = fs; holders = hs }

map_length : {X Y : Type 0} (f : X → Y) (xs : List X) → length (map f xs) ≡ length xs
map_length f [] = refl
map_length f (x ∷ xs) = ap suc (map_length f xs)

-- a table by what it was made of
counted : {A X : Type 0} (xs one : List X) (f : X → ActionTree) (as' : List ActionTree) (t : List A) (walk : ℕ → List ActionTree → List A)
    (g : ℕ → A) → map f xs ≡ as' → one ≡ xs → t ≡ walk (length one) (map f one) → walk (length as') as' ≡ tabled 0 (length as') g
    → t ≡ tabled 0 (length as') g
counted xs one f as' t walk g all same made is =
    made ∙ ap (λ ys. walk (length ys) (map f ys)) same ∙ ap (λ n. walk n (map f xs)) (sym (map_length f xs))
    ∙ ap (λ bs. walk (length bs) bs) all ∙ is

pub plan_made : {X : Type 0} (xs one two three : List X) (f : X → ActionTree) (graph : ActionTrees) (top : List ℕ)
    (es : List (Option EntryTree)) (fs : List (List ℕ)) (hs : List (Option ℕ)) → map f xs ≡ all_actions graph
    → one ≡ xs → two ≡ xs → three ≡ xs → top ≡ own_numbers (layered graph)
    → es ≡ all_entered (replicate (length one) None) (map f one) → fs ≡ all_added (replicate (length two) []) (map f two)
    → hs ≡ all_held (replicate (length three) None) (map f three)
    → plan_with top es fs hs ≡ plan_of graph
plan_made xs one two three f graph top es fs hs all first second third own e a h =
    let as' = all_actions graph in
    let n = length as' in
    let entries = counted xs one f as' es (λ k bs. all_entered (replicate k None) bs) (entry_for as') all first e (entries_table n as') in
    let followers = counted xs two f as' fs (λ k bs. all_added (replicate k []) bs) (followers_of as') all second a
    (followers_table n as') in
    let holders = counted xs three f as' hs (λ k bs. all_held (replicate k None) bs) (holder_of as') all third h (holders_table n as') in
    ap (λ z. plan_with z es fs hs) own ∙ ap (λ z. plan_with (own_numbers (layered graph)) z fs hs) entries
    ∙ ap (λ z. plan_with (own_numbers (layered graph)) (tabled 0 n (entry_for as')) z hs) followers
    ∙ ap (λ z. plan_with (own_numbers (layered graph)) (tabled 0 n (entry_for as')) (tabled 0 n (followers_of as')) z) holders

-- past the end of the lists that are kept
pub lists_past : (vs : List (Vec ℕ)) (p n : ℕ) → length vs ≤ p → lists_of vs ≡ add_at (lists_of vs) p n
lists_past vs p n le = sym (edit_past (lists_of vs) p (λ ns. ns ++ n ∷ []) (omega (arith, le, map_length (λ (v : Vec ℕ). v.items) vs)))
