-- What the laws know of an accepted definition: facts that others promise, in one place.
use Rattle.std.specs.Prelude.{◌≡◌, ℕ, false, List, [], ◌∷◌, Some, nat_eq}
use Rattle.std.specs.List.{AllByRecursion, list_any}
use Rattle.wf_template.specs.DataTree.{DataMember, data_members}
use Rattle.wf_layers.specs.Address.{SeenIn, Table}
use Rattle.wf_layers.specs.Definition.{Closed, IsDepth, has}
use Rattle.wf_layers.specs.Seen.{Once}
use Rattle.wf_layers.specs.Source.{Sound}
use Rattle.wf_look.specs.Told.{Told}
use Rattle.wf_eval_expr.specs.Uses.{AgreeAt, Use}
use Rattle.wf_eval.specs.Uses.{members_uses}
use Rattle.wf_uses.specs.UsesTree.{uses_tree}
use Rattle.wf_def.specs.ActionTree.{ActionTree, action_number}
use Rattle.wf_def.specs.AllActions.{all_actions, numbered}
use Rattle.wf_def.specs.DefTree.{DefTree}
use Rattle.wf_def.specs.Names.{graph_names}
use Rattle.wf_reading.specs.Facts.{AreOnce, graph_numbers}
use Rattle.wf_record.specs.Record.{Row}
use Rattle.wf_done.specs.Tracked.{tracked_from}
use Rattle.wf_environment.specs.Environment.{Environment}
use Rattle.wf_turns.specs.Points.{graph_of}
use Rattle.wf_turns.specs.Record.{depth_of}
use Rattle.wf_turns.specs.Source.{source, table_of, tracked_of}
use Rattle.wf_meant_laws.specs.Listed.{StandFor}
use Rattle.wf_meant_laws.specs.Tables.{AreWhole}
use Rattle.wf_turns.specs.Reading.{RecallsWithin}

-- the names and the numbers of the actions
pub record AreNamed (d : DefTree) : Type 0 where
  -- names stand once
  pub names : AreOnce (graph_names d.top)
  -- each number is its action's alone
  pub numbers : AllByRecursion (λ a. numbered (action_number a) d.top ≡ Some a) (all_actions d.top)
  -- the graph has the numbers of all actions
  pub had : (m : ℕ) → has (graph_of d) m ≡ list_any (nat_eq m) (graph_numbers d.top)

-- an expression that asks for this asks for no word, no moment and not for the run
pub record IsQuiet (u : Use) : Type 0 where
  pub words : (uses_tree [] (u ∷ [])).words ≡ false
  pub moment : (uses_tree [] (u ∷ [])).moment ≡ false
  pub run : (uses_tree [] (u ∷ [])).run ≡ false

abbrev pub AllQuiet : List Use → Type 0
AllQuiet us = AllByRecursion IsQuiet us

pub record IsKnown (d : DefTree) : Type 0 where
  pub named : AreNamed d
  -- its graph
  pub once : Once (graph_of d)
  pub closed : Closed (graph_of d) (graph_of d)
  pub falls : IsDepth (graph_of d) (depth_of d)
  -- each answer looks at what is earlier
  pub local : (e : Environment) → Sound (source d e) (SeenIn (graph_of d)) (graph_of d) 0
  -- its rows, and those of its record
  pub whole : (e : Environment) → AreWhole d (table_of d e (depth_of d))
  pub listed : (rows : Table Row) → AreWhole d rows → StandFor d rows
  pub recalls : (e : Environment) (rows : Table Row) → RecallsWithin d e rows
  -- its tracked properties ask a look for little
  pub tracks : (l m : Told) (ms : List DataMember) → AgreeAt l m (members_uses (data_members ms)) → (n : ℕ)
      → tracked_from l ms n ≡ tracked_from m ms n
  pub quiet : (n : ℕ) (a : ActionTree) → numbered n d.top ≡ Some a → AllQuiet (members_uses (data_members (tracked_of a)))
