-- In which words the laws tell that what is seen is what is meant.
use Rattle.std.specs.Prelude.{◌≡◌, ℕ, length}
use Rattle.wf_views.specs.Told.{Told}
use Rattle.wf_def.specs.DefTree.{DefTree}
use Rattle.wf_views.specs.LoopsLoops.{loops_of}
use Rattle.wf_views.specs.Environment.{Environment, Facts}
use Rattle.wf_views.specs.Points.{Point, graph_of}
use Rattle.wf_views.specs.Loops.{beyond, common}
use Rattle.wf_sight.specs.Sight.{KnownTree, RunTree}
use Rattle.wf_sight.specs.Variables.{variable_in}

-- Which loops are round both a point and an action, and which of them a reference leaves, is told by the lists of the loops round each.
abbrev pub GoesByLoops : DefTree → Point → Type 0
GoesByLoops d p =
    (x : ℕ) → (common (loops_of (graph_of d) x) p.loops ≡ length (p.paces x)) × (p.left x ≡ beyond (loops_of (graph_of d) x) p.loops)

-- what an action goes by in an environment, where these are the facts that it is told
abbrev pub run_of : Environment → Facts → RunTree
run_of e facts = record { start = e.start; name = facts.run; seed = facts.seed; moment = facts.moment }

-- the same, and of variables what the rows of their last writers give
abbrev pub with_variables : DefTree → KnownTree → Told → Told
with_variables d known l = record l { variable = λ k. variable_in d known.rows known.store k }
