-- What the table of ways has, as contracts see it.
use Rattle.std.specs.Prelude.{◌≡◌, ℕ, List, [], Option, Some, None, option_map}
use Rattle.std.specs.Ordering.{nat_cmp}
use Rattle.wf_lists.specs.KeyOrder.{find_key}
use Rattle.wf_def.specs.AllActions.{numbered}
use Rattle.wf_def.specs.DefTree.{DefTree}
use Rattle.wf_def.specs.declared.graph.Action.{out-Action}
use Rattle.wf_catalog.specs.Points.{action_named, graph_of}
use Rattle.wf_ways.specs.Way.{Step, way}
use Rattle.wf_fits.specs.NamedSeen.{named_in}
use Rattle.wf_fits.specs.Sorts.{sort_of}
use Rattle.wf_fits.specs.SortsSeen.{sort_in}
use Rattle.wf_fits.specs.Walk.{Walked}
use Rattle.wf_fits.specs.WalkSeen.{walked}
use Rattle.wf_catalog.specs.declared.named.Named.{Named}
use Rattle.wf_fits.specs.declared.sorts.Typed.{Typed}
use Rattle.wf_fits.specs.declared.walk.Placed.{Placed}

abbrev pub placed_at : List Placed → ℕ → Option Walked
placed_at ps n = option_map walked (find_key nat_cmp (λ (p : Placed). (out-Action p.action.now).number) n ps)

-- of a number that no action has, none
abbrev pub way_in : Option Walked → List Step
way_in None = []
way_in (Some w) = w.way

-- The tables have what the definition has.
pub record AreWays (d : DefTree) (placed : List Placed) (named : List Named) (typed : List Typed) : Type 0 where
  pub actions : (n : ℕ) → option_map (λ (w : Walked). w.action) (placed_at placed n) ≡ numbered n d.top
  pub ways : (n : ℕ) → way_in (placed_at placed n) ≡ way (graph_of d) n
  pub names : (k : List ℕ) → named_in named k ≡ action_named d k
  pub sorts : (k : List ℕ) → sort_in typed k ≡ sort_of d k
