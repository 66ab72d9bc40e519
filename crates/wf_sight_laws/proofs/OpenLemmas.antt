-- An action of an open graph stands at an instance, and is of its kind.
use Rattle.std.proofs.Common.{◌⊎◌, ℕ, List, sym, ◌∙◌}
use Rattle.wf_layers.specs.Address.{Table}
use Rattle.wf_layers.specs.Definition.{Graph, Kind, Need}
use Rattle.wf_layers.specs.Machine.{In, IsOpen, Opening}
use Rattle.wf_layers.specs.Seen.{Once}
use Rattle.wf_loops.proofs.InsideLemmas.{kind_has}
use Rattle.wf_def.specs.DefTree.{DefTree}
use Rattle.wf_meant_laws.specs.Decisions.{DecisionTree}
use Rattle.wf_meant_laws.specs.Verdicts.{VerdictTree}
use Rattle.wf_meant_laws.specs.AcceptedLawsVariables.{ReadsIt, WritesIt}
use Rattle.wf_meant_laws.specs.Answering.{RowSource}
use Rattle.wf_meant_laws.specs.Points.{graph_of}
use Rattle.wf_meant_laws.specs.Store.{Accesses}
use Rattle.wf_meant_laws.proofs.WholeLemmas.{round_of}
use Rattle.wf_sight.proofs.OpenLemmas.{kind_open, loops_open}

pub accesses_there : (d : DefTree) (m : RowSource) → Once (graph_of d) → (opens : Table (Opening DecisionTree VerdictTree)) (g : Graph)
    (n : ℕ) (i : List ℕ) (after : List Need) (kind : Kind) → IsOpen m.taken (graph_of d) opens g i → In g n after kind
    → (k : List ℕ) → ReadsIt d k n ⊎ WritesIt d k n → Accesses d k n i kind
accesses_there d m once opens g n i after kind open' in' k how =
    let is = kind_open m.taken (graph_of d) once opens g i n after kind open' in' in
    let full = (loops_open m.taken (graph_of d) once opens g i n after kind open' in').0 in
    record {
      is = is;
      instance = (kind_has (graph_of d) n kind is, round_of (graph_of d) n ∙ sym full);
      accesses = how;
    }
