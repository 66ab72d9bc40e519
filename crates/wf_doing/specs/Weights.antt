-- WHAT A RUN KEEPS of a leaf that runs and of a container that is open, by weight: of the leaf its inputs, of the container what it decided
-- by, as the row of either will have them as its inputs.
use Rattle.std.specs.Prelude.{ℕ}
use Rattle.wf_val.specs.ValueTree.{ValueTree, null, boolean, list, trees, weight}
use Rattle.wf_closing.specs.Decisions.{DecisionTree, held, chosen, each}
use Rattle.wf_closing.specs.Leaf.{BegunTree, acted, calling}

abbrev pub begun_inputs : BegunTree → ValueTree
begun_inputs (acted d) = d.inputs
begun_inputs (calling inputs policy) = inputs

abbrev pub begun_weight : BegunTree → ℕ
begun_weight b = weight (begun_inputs b)

-- a container that decided nothing keeps null, and so does one that found a fault
abbrev pub decided_by : DecisionTree → ValueTree
decided_by (held b) = boolean b
decided_by (chosen v n) = v
decided_by (each ts) = list (trees ts)
decided_by decision = null

abbrev pub decision_weight : DecisionTree → ℕ
decision_weight d = weight (decided_by d)
