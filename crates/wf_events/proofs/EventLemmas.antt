-- What the counts tell of an event, told by a plan's shapes.
use Rattle.std.proofs.Common.{◌≡◌, ℕ, zero, suc, ◌<◌, ◌≤◌, Bool, true, false, ◌&&◌, ◌||◌, cond, List, [], ◌∷◌, ◌++◌, Option, Some, None, option_map, length, nat_eq, nat_lt, nat_le, refl, sym, ap, ◌∙◌, arith}
use Rattle.wf_layers.specs.Definition.{Status, Succeeded, Failed, Skipped, TimedOut, Cancelled, Need, Kind, Leaf, Scope, Choice, Foreach, Until, Branches, no_branch, branch, Graph, branch_at, is_one, less_one}
use Rattle.wf_layers.specs.Address.{Address, Table, address}
use Rattle.wf_layers.specs.Source.{Source, gate, is_listed, same_status}
use Rattle.wf_layers.specs.Enabled.{begins, most_of, of_tested}
use Rattle.wf_layers.specs.Machine as machine
use Rattle.wf_layers.specs.Machine.{Opening, State, Event, has_ended}
use Rattle.wf_tables.specs.Event.{counted_begun, counted_branch, counted_idle, counted_open, counted_test}
use Rattle.wf_tables.specs.Layered.{listed_of, where_listed}
use Rattle.wf_tables.specs.DefStatuses.{Statuses}
use Rattle.wf_tables.specs.Plan.{BranchTree, branches_of, shape_of}
use Rattle.wf_events.specs.Events.{begin_kind, begun_kind, close_kind, foreach_kind, idle_kind, is_branch, open_kind, tested_kind, until_kind}
use Rattle.wf_tables.specs.Tables.{event_at}
use Rattle.wf_tables.specs.declared.entries.EventKind.{EventKind}
use Rattle.wf_tables.specs.declared.entries.EventKind.TheVariants.{Skip, Begin, Test, Close}

-- ---- listed statuses

part : (b : Bool) (x y : Status) (rest : List Status) → is_listed (where_listed b x ++ rest) y ≡ ((b && same_status x y) || is_listed rest y)
part true x y rest = refl
part false x y rest = refl

last : (b : Bool) (x y : Status) → is_listed (where_listed b x) y ≡ (b && same_status x y)
last true x y = go (same_status x y)
  where
    go : (c : Bool) → (c || false) ≡ c
    go true = refl
    go false = refl
last false x y = refl

skip_part : (b : Bool) (x y : Status) (rest : List Status) → same_status x y ≡ false
    → is_listed (where_listed b x ++ rest) y ≡ is_listed rest y
skip_part true x y rest e = ap (λ c. c || is_listed rest y) e
skip_part false x y rest e = refl

skip_last : (b : Bool) (x y : Status) → same_status x y ≡ false → is_listed (where_listed b x) y ≡ false
skip_last true x y e = ap (λ c. c || false) e
skip_last false x y e = refl

-- one that is listed here, and nowhere after it
found_part : (b : Bool) (x y : Status) (rest : List Status) → same_status x y ≡ true → is_listed rest y ≡ false
    → is_listed (where_listed b x ++ rest) y ≡ b
found_part true x y rest e none = ap (λ c. c || is_listed rest y) e
found_part false x y rest e none = none

found_last : (b : Bool) (x y : Status) → same_status x y ≡ true → is_listed (where_listed b x) y ≡ b
found_last true x y e = ap (λ c. c || false) e
found_last false x y e = refl

module _ (s : Statuses) where
  pub lists_succeeded : is_listed (listed_of s) Succeeded ≡ s.succeeded
  lists_succeeded =
      found_part s.succeeded Succeeded Succeeded _ refl
      (skip_part s.failed Failed Succeeded _ refl ∙ skip_part s.skipped Skipped Succeeded _ refl
      ∙ skip_last s.timed_out TimedOut Succeeded refl)

  pub lists_failed : is_listed (listed_of s) Failed ≡ s.failed
  lists_failed =
      skip_part s.succeeded Succeeded Failed _ refl
      ∙ found_part s.failed Failed Failed _ refl
      (skip_part s.skipped Skipped Failed _ refl ∙ skip_last s.timed_out TimedOut Failed refl)

  pub lists_skipped : is_listed (listed_of s) Skipped ≡ s.skipped
  lists_skipped =
      skip_part s.succeeded Succeeded Skipped _ refl ∙ skip_part s.failed Failed Skipped _ refl
      ∙ found_part s.skipped Skipped Skipped _ refl (skip_last s.timed_out TimedOut Skipped refl)

  pub lists_timed_out : is_listed (listed_of s) TimedOut ≡ s.timed_out
  lists_timed_out =
      skip_part s.succeeded Succeeded TimedOut _ refl ∙ skip_part s.failed Failed TimedOut _ refl
      ∙ skip_part s.skipped Skipped TimedOut _ refl ∙ found_last s.timed_out TimedOut TimedOut refl

  pub lists_cancelled : is_listed (listed_of s) Cancelled ≡ false
  lists_cancelled =
      skip_part s.succeeded Succeeded Cancelled _ refl ∙ skip_part s.failed Failed Cancelled _ refl
      ∙ skip_part s.skipped Skipped Cancelled _ refl ∙ skip_last s.timed_out TimedOut Cancelled refl

-- ---- branches by their numbers

pub branch_below : (bs : List BranchTree) (c : ℕ) → is_branch bs c ≡ (nat_le 1 c && nat_le c (length bs))
branch_below [] zero = refl
branch_below [] (suc c) = grind (arith)
branch_below (b ∷ bs) zero = branch_below bs zero ∙ grind (arith)
branch_below (b ∷ bs) (suc zero) = grind (arith)
branch_below (b ∷ bs) (suc (suc c)) = branch_below bs (suc c) ∙ grind (arith)

pub branch_not : (bs : List BranchTree) (c : ℕ) → c < 1 → nat_le 1 c ≡ is_branch bs c
branch_not bs c below = none c below ∙ sym (branch_below bs c ∙ ap (λ b. b && nat_le c (length bs)) (none c below))
  where
    none : (c : ℕ) → c < 1 → nat_le 1 c ≡ false
    none c below = grind (arith)

there_or : (o : Bool) (b : Graph) (p : Bool) (q : Option Graph) → {A : Type 0} (x y : A) → cond p x y ≡ cond (has_ended q) x y
    → cond (cond o true p) x y ≡ cond (has_ended (cond o (Some b) q)) x y
there_or true b p q x y e = refl
there_or false b p q x y e = e

-- and from 1 on by how many there are
pub branch_up_to : (bs : List BranchTree) (c : ℕ) → 1 ≤ c → nat_le c (length bs) ≡ is_branch bs c
branch_up_to bs c from = sym (branch_below bs c ∙ ap (λ b. b && nat_le c (length bs)) (one_below c from))
  where
    one_below : (c : ℕ) → 1 ≤ c → nat_le 1 c ≡ true
    one_below c from = grind (arith)

-- the numbers of branches tell whether there is one
branch_there : (bs : Branches) (c : ℕ) → {A : Type 0} (x y : A)
    → cond (is_branch (branches_of bs) c) x y ≡ cond (has_ended (branch_at bs c)) x y
branch_there no_branch c x y = refl
branch_there (branch b rest) c x y = there_or (is_one c) b (is_branch (branches_of rest) (less_one c)) (branch_at rest (less_one c)) x y
    (branch_there rest (less_one c) x y)

-- ---- events by kinds of action

module _ {Row Begun Decision Verdict : Type 0} (d : Graph) (m : Source Row Begun Decision Verdict) (s : State Row Begun Decision Verdict)
    (waits lacks : Table ℕ) (left : Address → ℕ) (n : ℕ) (i : List ℕ) where
  abbrev event : EventKind → Event
  event k = event_at k n i

  closes : (o : Option ℕ) → option_map event (close_kind o) ≡ cond (has_ended o) None (Some (machine.Close n i))
  closes None = refl
  closes (Some c) = refl

  of_cond : (b : Bool) (x y : Option EventKind) → option_map event (cond b x y) ≡ cond b (option_map event x) (option_map event y)
  of_cond true x y = refl
  of_cond false x y = refl

  pub tested_same : (most next : ℕ) (v : Verdict) → option_map event (tested_kind m most next v) ≡ of_tested m s most n i next v
  tested_same most next v = go (m.ends v || nat_eq next most) (nat_lt next most)
    where
      go : (a b : Bool) → option_map event (cond a (Some Close) (cond b (Some Begin) None))
          ≡ cond a (Some (machine.Close n i)) (cond b (Some (machine.Begin n i)) None)
      go true b = refl
      go false true = refl
      go false false = refl

  begun : (most next : ℕ) → option_map event (begun_kind lacks most n i next) ≡ counted_begun d m s waits lacks left most n i next
  begun most zero = of_cond (nat_lt 0 most) (Some Begin) None
  begun most (suc j) = of_cond (has_ended (lacks (address n (i ++ j ∷ [])))) None (Some Test)

  until_same : (most next : ℕ) (t : Option Verdict) → option_map event (until_kind m lacks most n i next t)
      ≡ counted_test d m s waits lacks left most n i next t
  until_same most next None = begun most next
  until_same most next (Some v) = tested_same most next v

  branch_same : (bs : Branches) (c : ℕ)
      → option_map event (cond (is_branch (branches_of bs) c) (close_kind (lacks (address n i))) (Some Close))
      ≡ counted_branch d m s waits lacks left (branch_at bs c) n i
  branch_same bs c =
      of_cond (is_branch (branches_of bs) c) (close_kind (lacks (address n i))) (Some Close)
      ∙ branch_there bs c (option_map event (close_kind (lacks (address n i)))) (Some (machine.Close n i)) ∙ go (branch_at bs c)
    where
      go : (o : Option Graph) → cond (has_ended o) (option_map event (close_kind (lacks (address n i)))) (Some (machine.Close n i))
          ≡ counted_branch d m s waits lacks left o n i
      go None = refl
      go (Some b) = closes (lacks (address n i))

  foreach_same : (most now next items : ℕ) → option_map event (foreach_kind most now next items)
      ≡ cond (nat_lt next items) (cond (nat_lt now most) (Some (machine.Begin n i)) None)
      (cond (nat_eq now 0) (Some (machine.Close n i)) None)
  foreach_same most now next items = go (nat_lt next items) (nat_lt now most) (nat_eq now 0)
    where
      go : (a b c : Bool) → option_map event (cond a (cond b (Some Begin) None) (cond c (Some Close) None))
          ≡ cond a (cond b (Some (machine.Begin n i)) None) (cond c (Some (machine.Close n i)) None)
      go true true c = refl
      go true false c = refl
      go false b true = refl
      go false b false = refl

  -- AN OPEN CONTAINER
  pub open_same : (kind : Kind) (w : Opening Decision Verdict)
      → option_map event (open_kind m lacks (left (address n i)) (shape_of kind) n i w) ≡ counted_open d m s waits lacks left kind n i w
  open_same Leaf w = refl
  open_same (Scope g) w = closes (lacks (address n i))
  open_same (Choice bs) w = branch_same bs (m.taken w.decision)
  open_same (Foreach pace g) w = foreach_same (most_of pace) (left (address n i)) w.next (m.items w.decision)
  open_same (Until most g) w = until_same most w.next w.test

  -- AND WHAT IS DECIDED
  begin_same : (kind : Kind) → event (begin_kind (shape_of kind)) ≡ begins m s kind n i
  begin_same Leaf = refl
  begin_same (Scope g) = refl
  begin_same (Choice bs) = refl
  begin_same (Foreach pace g) = refl
  begin_same (Until most g) = refl

  pub idle_same : (after : List Need) (kind : Kind)
      → option_map event (idle_kind m s.rows waits after (shape_of kind) n i) ≡ counted_idle d m s waits lacks left after kind n i None
  idle_same after kind =
      go (has_ended (waits (address n i))) (gate m after n i s.rows)
      ∙ ap (λ e. cond (has_ended (waits (address n i))) None (Some (cond (gate m after n i s.rows) e (machine.Skip n i)))) (begin_same kind)
    where
      go : (a b : Bool) → option_map event (cond a None (Some (cond b (begin_kind (shape_of kind)) Skip)))
          ≡ cond a None (Some (cond b (event (begin_kind (shape_of kind))) (machine.Skip n i)))
      go true b = refl
      go false true = refl
      go false false = refl
