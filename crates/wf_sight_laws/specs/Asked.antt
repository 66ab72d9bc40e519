-- Which variables are asked for, and that the values found of them are those told, by a source by which the definition answers.
use Rattle.std.specs.Prelude.{◌≡◌, ℕ, List, Option, Some}
use Rattle.wf_val.specs.ValueTree.{ValueTree}
use Rattle.wf_template.specs.DataTree.{data_members}
use Rattle.wf_layers.specs.Address.{Address}
use Rattle.wf_layers.specs.Definition.{Graph, Kind, Leaf}
use Rattle.wf_look.specs.Told.{Told}
use Rattle.wf_meant_laws.specs.Uses.{Use}
use Rattle.wf_meant_laws.specs.EvalUses.{members_uses}
use Rattle.wf_def.specs.ActionTree.{ActionTree, action_kind}
use Rattle.wf_def.specs.AllActions.{numbered}
use Rattle.wf_def.specs.DefTree.{DefTree}
use Rattle.wf_meant_laws.specs.Sites.{test_uses}
use Rattle.wf_asks.specs.Known.{HoldsLast, HoldsLastAtTest, IsInformed, IsInformedAtTest}
use Rattle.wf_meant_laws.specs.OpeningUses.{opening_uses}
use Rattle.wf_meant_laws.specs.DoneUses.{kind_uses}
use Rattle.wf_meant_laws.specs.Environment.{Environment}
use Rattle.wf_meant_laws.specs.Answering.{RowSource}
use Rattle.wf_meant_laws.specs.Look.{told_at, told_in_test}
use Rattle.wf_meant_laws.specs.Points.{graph_of}
use Rattle.wf_meant_laws.specs.Record.{depth_of}
use Rattle.wf_meant_laws.specs.Source.{tracked_of}
use Rattle.wf_sight.specs.Found.{FindsTold}
use Rattle.wf_sight.specs.Sight.{KnownTree}
use Rattle.wf_sight.specs.Variables.{variable_in}
use Rattle.wf_sight_laws.specs.Writes.{writes}

module _ (d : DefTree) where
  -- what the rows of the last writers in the store give
  abbrev pub FindsAt : KnownTree → Told → List Use → Type 0
  FindsAt known l us = FindsTold (λ k. variable_in d known.rows known.store k) l us

  -- as an action ends: its tracked properties ask for no variable, whatever is found
  abbrev pub FindsAsItEnds : Type 0
  FindsAsItEnds =
      (n : ℕ) (a : ActionTree) (found : List ℕ → Option ValueTree) (l : Told) → numbered n d.top ≡ Some a
      → FindsTold found l (members_uses (data_members (tracked_of a)))

module _ (d : DefTree) (e : Environment) (m : RowSource) where
  -- as a leaf starts
  abbrev pub FindsAsItStarts : Type 0
  FindsAsItStarts =
      (x : Address) (known : KnownTree) (a : ActionTree) → numbered x.name d.top ≡ Some a
      → IsInformed (graph_of d) (depth_of d) m known.rows known.opens x.name x.at Leaf
      → HoldsLast (graph_of d) (depth_of d) m (writes d) known.rows known.store x.name Leaf x.at
      → FindsAt d known (told_at d e x known.rows) (kind_uses (action_kind a))

  -- as a container opens
  abbrev pub FindsAsItOpens : Type 0
  FindsAsItOpens =
      (x : Address) (kind : Kind) (known : KnownTree) (a : ActionTree) → numbered x.name d.top ≡ Some a
      → IsInformed (graph_of d) (depth_of d) m known.rows known.opens x.name x.at kind
      → HoldsLast (graph_of d) (depth_of d) m (writes d) known.rows known.store x.name kind x.at
      → FindsAt d known (told_at d e x known.rows) (opening_uses (action_kind a))

  -- as an Until is tested
  abbrev pub FindsAsItIsTested : Type 0
  FindsAsItIsTested =
      (u : Address) (most : ℕ) (g : Graph) (j : ℕ) (known : KnownTree) (a : ActionTree) (us : List Use) → numbered u.name d.top ≡ Some a
      → test_uses (action_kind a) ≡ Some us
      → IsInformedAtTest (graph_of d) (depth_of d) m known.rows known.opens u.name u.at most g j
      → HoldsLastAtTest (graph_of d) (depth_of d) m (writes d) known.rows known.store u.name most g u.at j
      → FindsAt d known (told_in_test d e u j known.rows) us
