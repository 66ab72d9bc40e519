-- The loops that an accepted definition asks of in the expressions of its actions, and those that its references leave.
use Rattle.std.specs.Prelude.{◌≡◌, ◌⊎◌, ℕ, Bool, true, ◌||◌, List, [], ◌∷◌, Some, bytes_eq}
use Rattle.std.specs.List.{AllByRecursion, find, list_any}
use Rattle.wf_layers.specs.Definition.{Graph}
use Rattle.wf_known_laws.specs.ActionTree.{ActionTree, KindTree, action_kind, action_name, action_number}
use Rattle.wf_known_laws.specs.DefTree.{DefTree}
use Rattle.wf_known_laws.specs.Layered.{layered}
use Rattle.wf_known_laws.specs.Order.{Contains}
use Rattle.wf_rules.specs.Sites.{uses_of}
use Rattle.wf_rules.specs.UsesTree.{UsesTree}
use Rattle.wf_rules.specs.Site.{Site}
use Rattle.wf_rules.specs.Kinds.{is_foreach, is_loop, is_until}
use Rattle.wf_rules.specs.Inside.{is_items, is_test}
use Rattle.wf_rules.specs.Standing.{StandingTree, kind_at, number_at, standings_of}
use Rattle.wf_rules.specs.Whole.{has_name}
use Rattle.wf_accepted_laws.specs.Seen.{IsSiteOf}

abbrev pub IsOneOf : List ActionTree → ActionTree → Type 0
IsOneOf [] a = ⊥
IsOneOf (c ∷ cs) a = (c ≡ a) ⊎ IsOneOf cs a

-- The action of the number n is round a site: it contains the action of the site; or it is that action, an Until whose expression the site
-- is, as that is evaluated after each of its iterations.
abbrev pub IsRound : Graph → StandingTree → Site → ℕ → Type 0
IsRound g s site n = Contains g n (number_at s) ⊎ ((is_test site ≡ true) × (number_at s ≡ n))

-- ---- `items`, `iterationIndexes` and `item`

-- a loop of this kind is round the site
pub record IsInLoop (g : Graph) (s : StandingTree) (site : Site) (kind : KindTree → Bool) : Type 0 where
  pub loop : ActionTree
  pub there : IsOneOf (s.action ∷ s.round) loop
  pub round : IsRound g s site (action_number loop)
  pub is : kind (action_kind loop) ≡ true

-- one that has the name
pub record IsInLoopNamed (g : Graph) (s : StandingTree) (site : Site) (kind : KindTree → Bool) (k : List ℕ) : Type 0 where
  pub inside : IsInLoop g s site kind
  pub named : k ≡ action_name inside.loop

-- What a site asks of loops: `items` names a Foreach round it, and `iterationIndexes` an Until round it, which may be the one whose
-- expression it is; and `item` stands in a Foreach, or is the item of a Select or a Query.
pub record AsksLoopsRound (g : Graph) (s : StandingTree) (site : Site) (u : UsesTree) : Type 0 where
  pub items : (k : List ℕ) → list_any (bytes_eq k) u.items ≡ true → IsInLoopNamed g s site is_foreach k
  pub indexes : (k : List ℕ) → list_any (bytes_eq k) u.indexes ≡ true → IsInLoopNamed g s site is_until k
  pub item : u.item ≡ true → (is_items site ≡ true) ⊎ IsInLoop g s site is_foreach

-- so it is at each site of each action
abbrev pub AllAskLoopsRound : DefTree → Type 0
AllAskLoopsRound d =
    AllByRecursion (λ s. (site : Site) → IsSiteOf s site → (u : UsesTree) → uses_of d site ≡ Some u
    → AsksLoopsRound (layered d.top) s site u) (standings_of d.top)

-- ---- loops that a reference leaves

-- of two loops round x one is round the site, or they are the same
abbrev pub LeavesOne : Graph → StandingTree → Site → StandingTree → Type 0
LeavesOne g s site x =
    (b c : ActionTree) → IsOneOf x.round b → IsOneOf x.round c → is_loop (action_kind b) ≡ true → is_loop (action_kind c) ≡ true
    → IsRound g s site (action_number b) ⊎ (IsRound g s site (action_number c) ⊎ (b ≡ c))

-- each loop round x is round the site
abbrev pub LeavesNone : Graph → StandingTree → Site → StandingTree → Type 0
LeavesNone g s site x =
    (c : ActionTree) → IsOneOf x.round c → is_loop (action_kind c) ≡ true → IsRound g s site (action_number c)

-- A reference to an action leaves at most one of the loops round it; and none, where `result` names a loop, as that is left too.
pub record LeavesFew (d : DefTree) (s : StandingTree) (site : Site) (u : UsesTree) : Type 0 where
  pub names : (k : List ℕ) → (list_any (bytes_eq k) u.names || list_any (bytes_eq k) u.results) ≡ true → (x : StandingTree)
      → find (has_name k) (standings_of d.top) ≡ Some x → LeavesOne (layered d.top) s site x
  pub results : (k : List ℕ) → list_any (bytes_eq k) u.results ≡ true → (x : StandingTree)
      → find (has_name k) (standings_of d.top) ≡ Some x → is_loop (kind_at x) ≡ true → LeavesNone (layered d.top) s site x

-- so it is at each site of each action
abbrev pub AllLeaveFew : DefTree → Type 0
AllLeaveFew d =
    AllByRecursion (λ s. (site : Site) → IsSiteOf s site → (u : UsesTree) → uses_of d site ≡ Some u → LeavesFew d s site u)
    (standings_of d.top)
