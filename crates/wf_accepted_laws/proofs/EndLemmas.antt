-- V15, V16 and V17 at the addresses of a run.
use Rattle.std.proofs.Common.{◌≡◌, ℕ, Bool, true, false, List, [], ◌∷◌, Some, ◌⊎◌, inl, inr, nat_eq, map, ap, subst, ◌∙◌}
use Rattle.std.specs.Prelude.{◌||◌, ◌&&◌, ◌↔◌}
use Rattle.std.specs.List.{AllByRecursion, list_any}
use Rattle.wf_layers.specs.Address.{Address, address}
use Rattle.wf_layers.specs.Definition.{Graph, Kind, has, kind_of}
use Rattle.wf_layers.specs.Variables.{HasOrder, IsOrdered}
use Rattle.wf_known_laws.specs.ActionTree.{action_kind}
use Rattle.wf_known_laws.specs.DefTree.{DefTree}
use Rattle.wf_known_laws.specs.Layered.{layered}
use Rattle.wf_known_laws.specs.Indexes.{loops_round}
use Rattle.wf_known_laws.specs.Turns.{AreSettled, IsInNoLoop, IsInstance, IsInTurn, IsReadWith}
use Rattle.wf_paths.proofs.PathLemmas.{or_left, or_right}
use Rattle.wf_known_laws.proofs.RunAfterLemmas.{append-first}
use Rattle.wf_rules.specs.Broken.{offences, told}
use Rattle.wf_rules.specs.Rules.{action_breaks, breaks_itself}
use Rattle.wf_rules.specs.Rule.{Rule}
use Rattle.wf_rules.specs.Kinds.{ends_or_responds, is_loop, is_response, is_terminate}
use Rattle.wf_rules.specs.Standing.{StandingTree, kind_at, number_at, pointer_at, standings_of}
use Rattle.wf_rules.specs.Whole.{whole_of}
use Rattle.wf_rules.specs.Settled.{ResponsesAreInOrder, TerminatesAreInOrder}
use Rattle.wf_accepted_laws.proofs.PairLemmas.{picked}
use Rattle.wf_accepted_laws.proofs.SeenLemmas.{none-first, none-told}
use Rattle.wf_accepted_laws.specs.Ends.{EndsAreInOrder, EndsStandInNoLoop, ResponsesAreInOneOrder}

abbrev EndsInNoLoop : Graph → StandingTree → Type 0
EndsInNoLoop g s = ends_or_responds (kind_at s) ≡ true → IsInNoLoop g (number_at s)

and-second : (b c : Bool) → (b && c) ≡ false → b ≡ true → c ≡ false
and-second true c none is = none
and-second false c none is = absurd (cc)

-- where V17 holds
in-no-loop : (d : DefTree) (ss : List StandingTree)
    → AllByRecursion (λ s. (list_any (λ c. is_loop (action_kind c)) s.round ≡ false) ↔ IsInNoLoop (layered d.top) (number_at s)) ss
    → AllByRecursion (λ s. action_breaks (whole_of d) Rule.Ends s ≡ false) ss → AllByRecursion (EndsInNoLoop (layered d.top)) ss
in-no-loop d [] loops none = tt
in-no-loop d (s ∷ ss) loops none = (
  (λ is. loops.0.0 (and-second (ends_or_responds (kind_at s)) (list_any (λ c. is_loop (action_kind c)) s.round)
      (none-first (breaks_itself Rule.Ends s) _ none.0) is)),
  in-no-loop d ss loops.1 none.1,
)

pub ends-in-no-loop : (d : DefTree)
    → AllByRecursion (λ s. (list_any (λ c. is_loop (action_kind c)) s.round ≡ false) ↔ IsInNoLoop (layered d.top) (number_at s))
    (standings_of d.top) → offences d Rule.Ends ≡ [] → AllByRecursion (EndsInNoLoop (layered d.top)) (standings_of d.top)
ends-in-no-loop d loops none =
    in-no-loop d (standings_of d.top) loops
    (none-told (action_breaks (whole_of d) Rule.Ends) pointer_at (standings_of d.top)
    (append-first (told (action_breaks (whole_of d) Rule.Ends) pointer_at (standings_of d.top)) _ none))

no-loops : (g : Graph) (ss : List StandingTree) → ((n m : ℕ) → IsInNoLoop g n → loops_round g n m ≡ 0)
    → AllByRecursion (EndsInNoLoop g) ss
    → AllByRecursion (λ s. ends_or_responds (kind_at s) ≡ true → (m : ℕ) → loops_round g (number_at s) m ≡ 0) ss
no-loops g [] none all = tt
no-loops g (s ∷ ss) none all = ((λ is m. none (number_at s) m (all.0 is)), no-loops g ss none all.1)

pub stand-in-no-loop : (d : DefTree) → ((n m : ℕ) → IsInNoLoop (layered d.top) n → loops_round (layered d.top) n m ≡ 0)
    → AllByRecursion (EndsInNoLoop (layered d.top)) (standings_of d.top) → EndsStandInNoLoop d
stand-in-no-loop d none all = no-loops (layered d.top) (standings_of d.top) none all

terminate-ends : (s : StandingTree) → is_terminate (kind_at s) ≡ true → ends_or_responds (kind_at s) ≡ true
terminate-ends s is = or_left (is_terminate (kind_at s)) (is_response (kind_at s)) is

response-ends : (s : StandingTree) → is_response (kind_at s) ≡ true → ends_or_responds (kind_at s) ≡ true
response-ends s is = or_right (is_terminate (kind_at s)) (is_response (kind_at s)) is

module _ (d : DefTree)
    (none : (n m : ℕ) → IsInNoLoop (layered d.top) n → loops_round (layered d.top) n m ≡ 0)
    (in_turn : (n : ℕ) → IsInNoLoop (layered d.top) n → IsInTurn (layered d.top) n)
    (there : (m : ℕ) → has (layered d.top) m ≡ true → list_any (nat_eq m) (map number_at (standings_of d.top)) ≡ true)
    (in_order : (x y : Address) → IsInstance (layered d.top) x → IsInstance (layered d.top) y → IsInTurn (layered d.top) x.name
    → (x.name ≡ y.name) ⊎ AreSettled (layered d.top) x.name y.name → (x ≡ y) ⊎ IsOrdered (layered d.top) x y)
    (read_in_order : (n : ℕ) (i : List ℕ) (kind : Kind) (y : Address) → kind_of (layered d.top) n ≡ Some kind
    → IsInstance (layered d.top) (address n i) → IsInstance (layered d.top) y → IsInTurn (layered d.top) y.name
    → IsReadWith (layered d.top) n y.name → HasOrder (layered d.top) n kind i y) where
  abbrev Numbered : StandingTree → Type 0
  Numbered s = has (layered d.top) (number_at s) ≡ true

  abbrev own : StandingTree → Address
  own s = address (number_at s) []

  instance : (s : StandingTree) → Numbered s → IsInNoLoop (layered d.top) (number_at s) → IsInstance (layered d.top) (own s)
  instance s of_s out = (of_s, none (number_at s) (number_at s) out)

  ends : (ts : List StandingTree) → AllByRecursion Numbered ts → AllByRecursion (EndsInNoLoop (layered d.top)) ts
      → AllByRecursion (λ t. is_terminate (kind_at t) ≡ true
      → AllByRecursion (λ a. IsReadWith (layered d.top) (number_at a) (number_at t)) (standings_of d.top)) ts
      → AllByRecursion (λ t. is_terminate (kind_at t) ≡ true
      → (n : ℕ) (i : List ℕ) (kind : Kind) → kind_of (layered d.top) n ≡ Some kind → IsInstance (layered d.top) (address n i)
      → HasOrder (layered d.top) n kind i (own t)) ts
  ends [] of_all out each = tt
  ends (t ∷ ts) of_all out each = (
    (λ is n i kind is_kind of_n.
        let free = out.0 (terminate-ends t is) in
        let found = picked (λ a. IsReadWith (layered d.top) (number_at a) (number_at t)) (standings_of d.top) n (each.0 is)
        (there n of_n.0) in
        read_in_order n i kind (own t) is_kind of_n (instance t of_all.0 free) (in_turn (number_at t) free)
        (subst (λ (m : ℕ). IsReadWith (layered d.top) m (number_at t)) found.number found.holds)),
    ends ts of_all.1 out.1 each.1,
  )

  pub ends-in-order : AllByRecursion Numbered (standings_of d.top) → AllByRecursion (EndsInNoLoop (layered d.top)) (standings_of d.top)
      → TerminatesAreInOrder d → EndsAreInOrder d
  ends-in-order of_all out each = ends (standings_of d.top) of_all out each

  answers-with : (r : StandingTree) → Numbered r → IsInNoLoop (layered d.top) (number_at r) → (as' : List StandingTree)
      → AllByRecursion Numbered as' → AllByRecursion (EndsInNoLoop (layered d.top)) as'
      → AllByRecursion (λ a. is_response (kind_at a) ≡ true
      → (number_at r ≡ number_at a) ⊎ AreSettled (layered d.top) (number_at r) (number_at a)) as'
      → AllByRecursion (λ a. is_response (kind_at a) ≡ true → (own r ≡ own a) ⊎ IsOrdered (layered d.top) (own r) (own a)) as'
  answers-with r of_r free [] of_all out each = tt
  answers-with r of_r free (a ∷ as') of_all out each = (
    (λ is. in_order (own r) (own a) (instance r of_r free) (instance a of_all.0 (out.0 (response-ends a is))) (in_turn (number_at r) free)
        (each.0 is)),
    answers-with r of_r free as' of_all.1 out.1 each.1,
  )

  answers : (rs : List StandingTree) → AllByRecursion Numbered (standings_of d.top)
      → AllByRecursion (EndsInNoLoop (layered d.top)) (standings_of d.top) → AllByRecursion Numbered rs
      → AllByRecursion (EndsInNoLoop (layered d.top)) rs
      → AllByRecursion (λ r. is_response (kind_at r) ≡ true
      → AllByRecursion (λ a. is_response (kind_at a) ≡ true
      → (number_at r ≡ number_at a) ⊎ AreSettled (layered d.top) (number_at r) (number_at a)) (standings_of d.top)) rs
      → AllByRecursion (λ r. is_response (kind_at r) ≡ true
      → AllByRecursion (λ a. is_response (kind_at a) ≡ true → (own r ≡ own a) ⊎ IsOrdered (layered d.top) (own r) (own a))
      (standings_of d.top)) rs
  answers [] of_all out of_rs out_rs each = tt
  answers (r ∷ rs) of_all out of_rs out_rs each = (
    (λ is. answers-with r of_rs.0 (out_rs.0 (response-ends r is)) (standings_of d.top) of_all out (each.0 is)),
    answers rs of_all out of_rs.1 out_rs.1 each.1,
  )

  pub answers-in-order : AllByRecursion Numbered (standings_of d.top)
      → AllByRecursion (EndsInNoLoop (layered d.top)) (standings_of d.top) → ResponsesAreInOrder d → ResponsesAreInOneOrder d
  answers-in-order of_all out each = answers (standings_of d.top) of_all out of_all out each
