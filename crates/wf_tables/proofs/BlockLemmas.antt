-- Rows that are put together, and what the laws say of actions that are passed over.
use Rattle.std.proofs.Common.{◌≡◌, ℕ, suc, Bool, true, false, ◌&&◌, ◌||◌, cond, List, [], ◌∷◌, Option, Some, None, length, map, nat_eq, ⊎_elim, refl, sym, ap, ◌∙◌, arith, true≢false}
use Rattle.wf_lists.specs.KeyOrder.{put_key}
use Rattle.wf_plan.specs.Address.{Address, Table, is_within, same_at, starts}
use Rattle.wf_plan.specs.Definition.{Kind, Leaf, Scope, Choice, Foreach, Until, Branches, no_branch, branch, has, has_any, holds, is_one}
use Rattle.wf_plan.specs.Definition.{less_one, plain, shows}
use Rattle.wf_plan.specs.Machine.{one, or_else, passed_over, place, skip_others}
use Rattle.wf_plan.specs.Meaning.{only, skip}
use Rattle.wf_plan.specs.Source.{Source}
use Rattle.wf_plan.proofs.Basics.{not_true, starts_self, two, when, unless}
use Rattle.wf_plan.proofs.Tables.{same_at_is}
use Rattle.wf_plan.specs.Instances.{instance_cmp, rows_in}
use Rattle.wf_plan.specs.Known.{is_among}
use Rattle.wf_plan.specs.Instance.{Instance}
use Rattle.wf_plan.specs.RowAt.{RowAt}
use Rattle.wf_plan.specs.PlanOf.{in_other, passes}
use Rattle.wf_tables.specs.Blocks.{block_at, put_rows, skipped_at}
use Rattle.wf_tables.proofs.TableLemmas.{table_put}

-- ---- rows

module _ {Row Seen : Type 0} (see : Row → Seen) (row : Seen) (at : List ℕ) where
  abbrev At : Type 0
  At = Instance × Seen

  abbrev both : RowAt Row → At
  both r = (r.instance, see r.row)

  -- one row, and the others over it
  one_placed : (t : Table Seen) (n : ℕ) (ns : List ℕ) (x : Address)
      → or_else (block_at row at ns x) (place (one n at row) t x) ≡ or_else (block_at row at (n ∷ ns) x) (t x)
  one_placed t n ns x = go (nat_eq n x.name) (is_among x.name ns) (same_at at x.at)
    where
      go : (a b c : Bool) → or_else (cond (b && c) (Some row) None) (or_else (only (a && c) (Some row)) (t x))
          ≡ or_else (cond ((a || b) && c) (Some row) None) (t x)
      go true true true = refl
      go true true false = refl
      go true false true = refl
      go true false false = refl
      go false true true = refl
      go false true false = refl
      go false false true = refl
      go false false false = refl

  first : {a b : At} {as' bs : List At} → (a ∷ as') ≡ (b ∷ bs) → a ≡ b
  first e = cc (e)

  others : {a b : At} {as' bs : List At} → (a ∷ as') ≡ (b ∷ bs) → as' ≡ bs
  others e = cc (e)

  none_at : (r : RowAt Row) (block : List (RowAt Row)) → map both (r ∷ block) ≡ [] → ⊥
  none_at r block e = let l : suc (length (map both block)) ≡ 0 = ap length e in omega (arith, l)

  some_at : (n : ℕ) (ns : List ℕ) → map both [] ≡ skipped_at row at (n ∷ ns) → ⊥
  some_at n ns e = let l : 0 ≡ suc (length (skipped_at row at ns)) = ap length e in omega (arith, l)

  block_put : (block : List (RowAt Row)) (ns : List ℕ) (rows : List (RowAt Row)) → map both block ≡ skipped_at row at ns → (x : Address)
      → rows_in see (put_rows block rows) x ≡ or_else (block_at row at ns x) (rows_in see rows x)
  block_put [] [] rows e x = refl
  block_put (r ∷ block) [] rows e x = absurd (none_at r block e)
  block_put [] (n ∷ ns) rows e x = absurd (some_at n ns e)
  block_put (r ∷ block) (n ∷ ns) rows e x =
      let here : both r ≡ (record { action = n; at = at }, row) = first e in
      block_put block ns (put_key instance_cmp (λ (z : RowAt Row). z.instance) r rows) (others e) x
      ∙ ap (λ t. or_else (block_at row at ns x) (t x))
      (table_put (λ (z : RowAt Row). z.instance) (λ (z : RowAt Row). see z.row) r rows)
      ∙ ap (λ (z : At). or_else (block_at row at ns x) (place (one z.0.action z.0.at z.1) (rows_in see rows) x)) here
      ∙ one_placed (rows_in see rows) n ns x

  -- THE TABLE AFTER A BLOCK is the old one with a row of each of these actions
  pub block_placed : (block : List (RowAt Row)) (ns : List ℕ) (rows : List (RowAt Row)) → map both block ≡ skipped_at row at ns
      → rows_in see (put_rows block rows) ≡ place (block_at row at ns) (rows_in see rows)
  block_placed block ns rows e = λ k x. block_put block ns rows e x k

-- ---- what the laws pass over

module _ {Row Begun Decision Verdict : Type 0} (m : Source Row Begun Decision Verdict) where
  -- an action that doesn't run
  pub skip_is : (n : ℕ) (kind : Kind) (i ns : List ℕ) → ((x : ℕ) → is_among x ns ≡ (nat_eq n x || shows kind x))
      → block_at m.skipped i ns ≡ skip m n kind i
  skip_is n kind i ns e = λ k y. ap (λ b. cond (b && same_at i y.at) (Some m.skipped) None) (e y.name) k

  same_starts : (i j : List ℕ) → starts i j ≡ false → same_at i j ≡ false
  same_starts i j off =
      not_true (same_at i j) (λ t. true≢false (sym (ap (starts i) (sym (same_at_is i j t)) ∙ starts_self i) ∙ off))

  not_within : (bs : Branches) (c : ℕ) (i : List ℕ) (y : Address) → starts i y.at ≡ false → skip_others m bs c i y ≡ None
  not_within no_branch c i y off = refl
  not_within (branch b rest) c i y off =
      unless (is_within b i y) _ (skip_others m rest (less_one c) i y) (out (has b y.name) (starts i y.at) off)
      ∙ not_within rest (less_one c) i y off
    where
      out : (a b' : Bool) → b' ≡ false → (a && b') ≡ false
      out true b' e = e
      out false b' e = refl

  -- one branch, of which nothing is kept from an old table, and the others
  one_within : (y : Address) (i : List ℕ) (h o p : Bool) (q : Bool) (r : Option Row) → (h ≡ true → m.pinned y.name ≡ false)
      → starts i y.at ≡ true → cond (q && same_at i y.at) (Some m.skipped) None ≡ r
      → cond (cond h (cond o false p) q && same_at i y.at) (Some m.skipped) None
      ≡ cond (h && starts i y.at) (cond o None (cond (m.pinned y.name) (m.old y) (cond (p && same_at i y.at) (Some m.skipped) None))) r
  one_within y i true true p q r new on e = sym (when (starts i y.at) None r on)
  one_within y i true false p q r new on e =
      sym (when (starts i y.at) (cond (m.pinned y.name) (m.old y) (cond (p && same_at i y.at) (Some m.skipped) None)) r on
      ∙ unless (m.pinned y.name) (m.old y) (cond (p && same_at i y.at) (Some m.skipped) None) (new refl))
  one_within y i false o p q r new on e = e

  -- in one of the branches
  first_of : (a b : Bool) → a ≡ true → (a || b) ≡ true
  first_of a b t = ap (λ z. z || b) t

  later_of : (a b : Bool) → b ≡ true → (a || b) ≡ true
  later_of true b t = refl
  later_of false b t = t

  within : (bs : Branches) (c : ℕ) (i : List ℕ) (y : Address) → (has_any bs y.name ≡ true → m.pinned y.name ≡ false)
      → starts i y.at ≡ true → cond (in_other bs c y.name && same_at i y.at) (Some m.skipped) None ≡ skip_others m bs c i y
  within no_branch c i y new on = refl
  within (branch b rest) c i y new on =
      one_within y i (has b y.name) (is_one c) (plain b y.name) (in_other rest (less_one c) y.name)
      (skip_others m rest (less_one c) i y) (λ t. new (first_of (has b y.name) (has_any rest y.name) t)) on
      (within rest (less_one c) i y (λ t. new (later_of (has b y.name) (has_any rest y.name) t)) on)

  others_at : (bs : Branches) (c : ℕ) (i : List ℕ) (y : Address) → (has_any bs y.name ≡ true → m.pinned y.name ≡ false)
      → cond (in_other bs c y.name && same_at i y.at) (Some m.skipped) None ≡ skip_others m bs c i y
  others_at bs c i y new =
      ⊎_elim
      (λ t. within bs c i y new t)
      (λ u. ap (λ z. cond (in_other bs c y.name && z) (Some m.skipped) None) (same_starts i y.at u)
      ∙ nothing (in_other bs c y.name) ∙ sym (not_within bs c i y u))
      (two (starts i y.at))
    where
      nothing : (b : Bool) → cond (b && false) (Some m.skipped) None ≡ None
      nothing true = refl
      nothing false = refl

  passed_at : (kind : Kind) (c : ℕ) (i : List ℕ) (y : Address) → (holds kind y.name ≡ true → m.pinned y.name ≡ false)
      → cond (passes kind c y.name && same_at i y.at) (Some m.skipped) None ≡ passed_over m kind c i y
  passed_at Leaf c i y new = refl
  passed_at (Scope g) c i y new = refl
  passed_at (Choice bs) c i y new = others_at bs c i y new
  passed_at (Foreach pace g) c i y new = refl
  passed_at (Until most g) c i y new = refl

  -- the branches that aren't taken, where nothing inside is kept from an old table
  pub passed_is : (kind : Kind) (c : ℕ) (i ns : List ℕ) → ((q : ℕ) → holds kind q ≡ true → m.pinned q ≡ false)
      → ((x : ℕ) → is_among x ns ≡ passes kind c x) → block_at m.skipped i ns ≡ passed_over m kind c i
  passed_is kind c i ns new e =
      λ k y. (ap (λ b. cond (b && same_at i y.at) (Some m.skipped) None) (e y.name) ∙ passed_at kind c i y (new y.name)) k
