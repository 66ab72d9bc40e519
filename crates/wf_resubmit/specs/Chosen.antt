-- What a resubmission asks of the actions from which it starts: they are there, and none of them stands in a loop.
use Rattle.std.specs.Prelude.{◌≡◌, ℕ, List, None, true}
use Rattle.wf_layers.specs.Definition.{Graph, has}
use Rattle.wf_layers.specs.Redo.{OutOfLoops}
use Rattle.wf_layers.specs.Seen.{Once}
use Rattle.wf_val.specs.declared.digest.Digest.{Digest}
use Rattle.wf_def.specs.ActionTree.{ActionTrees}
use Rattle.wf_def.specs.Layered.{layered}
use Rattle.wf_loops.specs.Order.{IsBelow}
use Rattle.wf_loops.specs.Table.{order_of}
use Rattle.wf_record.specs.Record.{RowTree}
use Rattle.wf_redo.specs.Sets.{is_chosen}
use Rattle.wf_resubmit.specs.Refused.{numbers_of, refused}

pub record MayBeRedone (g : Graph) (from : List ℕ) : Type 0 where
  pub present : (x : ℕ) → is_chosen from x ≡ true → has g x ≡ true
  pub out_of_loops : OutOfLoops (is_chosen from) g

abbrev pub ChosenMayBeRedone : ActionTrees → Type 0
ChosenMayBeRedone graph =
    (n : ℕ) (given kept : Digest) (rows : List RowTree) (names : List (List ℕ)) → IsBelow n (layered graph) → Once (layered graph)
    → refused graph (order_of n (layered graph)) given kept rows names ≡ None → MayBeRedone (layered graph) (numbers_of graph names)
