-- Where no loop is round an action, none is round it and another, and those round it go as they should.
use Rattle.std.proofs.Common.{◌≡◌, ℕ, Bool, true, false, ◌&&◌, cond, refl}
use Rattle.wf_def.specs.Definition.{Pace, InTurn, Kind, Leaf, Scope, Choice, Foreach, Until, Branches, no_branch, branch, Graph, done}
use Rattle.wf_def.specs.Definition.{add}
use Rattle.wf_def.specs.Definition.{holds, has}
use Rattle.wf_order.specs.Indexes.{loops_any, loops_in, loops_round}
use Rattle.wf_order.specs.Turns.{EachLoop, EachLoopAny, EachLoopIn, IsInNoLoop, Never}

-- the number of those that are counted where both tests hold, and else of the others
none_of : (b c : Bool) (here later : ℕ) → (b ≡ true → here ≡ 0) → later ≡ 0 → cond (b && c) here later ≡ 0
none_of true true here later one other = one refl
none_of true false here later one other = other
none_of false c here later one other = other

mutual
  pub none_round : (g : Graph) (n m : ℕ) → IsInNoLoop g n → loops_round g n m ≡ 0
  none_round done n m none = refl
  none_round (add k after kind rest) n m none =
      none_of (holds kind n) (holds kind m) (loops_in kind n m) (loops_round rest n m) (λ held. none_in kind n m (none.0 held))
      (none_round rest n m none.1)

  none_in : (kind : Kind) (n m : ℕ) → EachLoopIn Never kind n → loops_in kind n m ≡ 0
  none_in Leaf n m none = refl
  none_in (Scope g) n m none = none_round g n m none
  none_in (Choice bs) n m none = none_any bs n m none
  none_in (Foreach pace g) n m none = absurd none.0
  none_in (Until most g) n m none = absurd none.0

  none_any : (bs : Branches) (n m : ℕ) → EachLoopAny Never bs n → loops_any bs n m ≡ 0
  none_any no_branch n m none = refl
  none_any (branch b rest) n m none =
      none_of (has b n) (has b m) (loops_round b n m) (loops_any rest n m) (λ there. none_round b n m (none.0 there))
      (none_any rest n m none.1)

module _ (P Q : Pace → Type 0) (weaker : (pace : Pace) → P pace → Q pace) where
  mutual
    pub each_weaker : (g : Graph) (n : ℕ) → EachLoop P g n → EachLoop Q g n
    each_weaker done n each = tt
    each_weaker (add k after kind rest) n each = ((λ held. in_weaker kind n (each.0 held)), each_weaker rest n each.1)

    in_weaker : (kind : Kind) (n : ℕ) → EachLoopIn P kind n → EachLoopIn Q kind n
    in_weaker Leaf n each = tt
    in_weaker (Scope g) n each = each_weaker g n each
    in_weaker (Choice bs) n each = any_weaker bs n each
    in_weaker (Foreach pace g) n each = (weaker pace each.0, each_weaker g n each.1)
    in_weaker (Until most g) n each = (weaker InTurn each.0, each_weaker g n each.1)

    any_weaker : (bs : Branches) (n : ℕ) → EachLoopAny P bs n → EachLoopAny Q bs n
    any_weaker no_branch n each = tt
    any_weaker (branch b rest) n each = ((λ there. each_weaker b n (each.0 there)), any_weaker rest n each.1)
