-- An accepted definition meets the premises of the locality of its answers, by the laws on definitions that were read and break no rule.
use Rattle.std.proofs.Common.{◌≡◌, ℕ, ◌≤◌, ◌<◌, Bool, true, List, [], ◌∷◌, length, map, Some, refl, sym, ap, ◌∙◌, subst, arith}
use Rattle.std.specs.Prelude.{◌↔◌, bytes_eq}
use Rattle.std.specs.List.{AllByRecursion, list_any}
use Rattle.wf_layers.specs.Address.{Address, SeenIn, address, starts}
use Rattle.wf_layers.specs.Definition.{Closed, IsDepth, Kind, Turns, has, holds, kind_of}
use Rattle.wf_layers.specs.Laws.{IsInstance}
use Rattle.wf_layers.specs.Seen.{Once}
use Rattle.wf_accepted_laws.specs.Indexes.{HaveSameIndexes, loops_round}
use Rattle.wf_accepted_laws.specs.Order.{Before, Contains}
use Rattle.wf_meant.specs.ActionTree.{ActionTree, action_kind, action_number}
use Rattle.wf_meant.specs.AllActions.{all_actions, numbered}
use Rattle.wf_meant.specs.DefTree.{DefTree}
use Rattle.wf_meant.specs.Names.{graph_names}
use Rattle.wf_meant.specs.UsesTree.{ordered}
use Rattle.wf_accepted_laws.specs.Standing.{standings_of}
use Rattle.wf_accepted_laws.specs.Instances.{InstancesAreSeen}
use Rattle.wf_meant.specs.Environment.{Environment}
use Rattle.wf_meant.proofs.EarlierLemmas.{earlier_seen}
use Rattle.wf_meant.proofs.FewLemmas.{few_of}
use Rattle.wf_meant.specs.Containers.{is_terminate}
use Rattle.wf_meant.specs.Points.{graph_of, is_before}
use Rattle.wf_meant.specs.Record.{depth_of}
use Rattle.wf_meant.specs.Source.{source}
use Rattle.wf_instance.proofs.AnswerLemmas.{Laws, Rules}
use Rattle.wf_instance.proofs.DepthLemmas.{depths_fall}
use Rattle.wf_instance.proofs.ExactLemmas.{before_has}
use Rattle.wf_instance.proofs.ItemLemmas.{Kept}
use Rattle.wf_instance.proofs.KindLemmas.{HasKind, kinds, kinds_of}
use Rattle.wf_instance.proofs.PlacedLemmas.{instance_of}
use Rattle.wf_instance.proofs.SiteLemmas.{reads_opening, reads_starts, reads_test, reads_tracked}
use Rattle.wf_instance.proofs.TestLemmas.{Tests}

-- what is known of an accepted definition
pub record Known (d : DefTree) : Type 0 where
  pub once : Once (graph_of d)
  pub closed : Closed (graph_of d) (graph_of d)
  pub turns : Turns (graph_of d)
  pub below : (x : ℕ) → has (graph_of d) x ≡ true → x < length (graph_names d.top)
  -- the tables tell what is before, which is an order
  pub exact : (x y : ℕ) → has (graph_of d) x ≡ true → has (graph_of d) y ≡ true → (is_before d x y ≡ true) ↔ Before (graph_of d) x y
  pub along : (x y z : ℕ) → Before (graph_of d) x y → Before (graph_of d) y z → Before (graph_of d) x z
  pub never : (x : ℕ) → Before (graph_of d) x x → ⊥
  -- what is seen
  pub before_seen : (x y : Address) → Before (graph_of d) x.name y.name → HaveSameIndexes (graph_of d) x y → SeenIn (graph_of d) y x
  pub seen_inside : (c x z : Address) → Contains (graph_of d) c.name x.name → starts c.at x.at ≡ true → SeenIn (graph_of d) c z
      → SeenIn (graph_of d) x z
  pub inside : (n x : ℕ) (kind : Kind) → kind_of (graph_of d) n ≡ Some kind → Contains (graph_of d) n x → holds kind x ≡ true
  pub named_seen : InstancesAreSeen d
  -- the actions of the definition, and the names at its sites
  pub actions : map (λ s. s.action) (standings_of d.top) ≡ all_actions d.top
  pub found : AllByRecursion (λ a. numbered (action_number a) d.top ≡ Some a) (all_actions d.top)
  pub same : (k : List ℕ) (ks : List (List ℕ)) → list_any (bytes_eq k) (ordered ks) ≡ list_any (bytes_eq k) ks
  -- no loop is round a Terminate
  pub ends : AllByRecursion (λ a. is_terminate (action_kind a) ≡ true → (m : ℕ) → loops_round (graph_of d) (action_number a) m ≡ 0)
      (all_actions d.top)

module _ (d : DefTree) (known : Known d) where
  all_kinds : AllByRecursion (HasKind d) (all_actions d.top)
  all_kinds = kinds_of d d.top known.once (λ m own. refl)

  before_of : (x y : ℕ) → is_before d x y ≡ true → Before (graph_of d) x y
  before_of x y is =
      let there = before_has (length (graph_names d.top)) (graph_of d) x y is in (known.exact x y there.0 there.1).0 is

  kept : Kept d
  kept = record {
    once = known.once;
    deep = λ y full x. omega (arith, full, few_of (graph_of d) known.once x y.name);
    earlier = λ x y sees.
        earlier_seen (graph_of d) known.once x y (is_before d x.name y.name) (before_of x.name y.name) (known.before_seen x y) sees;
    opening = λ n a is. reads_opening d known.same known.actions all_kinds known.inside known.named_seen n a is;
  }

  -- a Terminate that is before an action is seen at its one address
  ends_seen : (as' : List ActionTree)
      → AllByRecursion (λ a. is_terminate (action_kind a) ≡ true → (m : ℕ) → loops_round (graph_of d) (action_number a) m ≡ 0) as'
      → AllByRecursion (λ a. is_terminate (action_kind a) ≡ true → (y : Address) → is_before d (action_number a) y.name ≡ true
      → SeenIn (graph_of d) y (address (action_number a) [])) as'
  ends_seen [] all = tt
  ends_seen (a ∷ as') all = (
    (λ is y before. known.before_seen (address (action_number a) []) y (before_of (action_number a) y.name before) (record {
      indexes = [];
      each_loop = sym (all.0 is y.name);
      of_one = refl;
      of_other = refl;
    })),
    ends_seen as' all.1,
  )

  rules : Rules d
  rules = record {
    kept = kept;
    starts = λ n a is. reads_starts d known.same known.actions all_kinds known.inside known.named_seen n a is;
    tracked = λ n a is. reads_tracked d known.same known.actions all_kinds known.inside known.named_seen n a is;
    halts = ends_seen (all_actions d.top) known.ends;
  }

  tests : Tests d
  tests = record {
    reads = λ n a us is some. reads_test d known.same known.actions all_kinds known.inside known.named_seen n a is us some;
  }

  pub falls : IsDepth (graph_of d) (depth_of d)
  falls = depths_fall d known.closed known.exact known.along known.never known.below

  -- THE LAW
  pub is_instance : Laws → (e : Environment) → IsInstance (graph_of d) (source d e) (depth_of d)
  is_instance laws e =
      instance_of d e rules laws tests (depth_of d) known.seen_inside (kinds d known.once) known.found known.closed falls known.turns
