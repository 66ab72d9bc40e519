-- The rows that a source means, in one list.
use Rattle.std.proofs.Common.{◌≡◌, ℕ, ◌+◌, List, [], ◌∷◌, map, sum_by, refl, ap, ◌∙◌, arith}
use Rattle.std.proofs.lemmas.List.Sums.{sum_by-cons}
use Rattle.wf_layers.specs.Address.{Table}
use Rattle.wf_layers.specs.Definition.{Turns}
use Rattle.wf_layers.specs.Listed.{sum_of}
use Rattle.wf_def.specs.DefTree.{DefTree}
use Rattle.wf_record.specs.Cost.{row_cost}
use Rattle.wf_record.specs.Record.{Row}
use Rattle.wf_turns.specs.DoneSeen.{begun_tree}
use Rattle.wf_doing.specs.Weights.{begun_weight, decision_weight}
use Rattle.wf_turns.specs.DecisionSeen.{decision_tree, verdict_tree}
use Rattle.wf_turns.specs.Answering.{RowSource, table_by}
use Rattle.wf_turns.specs.Points.{graph_of}
use Rattle.wf_turns.specs.Record.{depth_of, rows_of}
use Rattle.wf_meant_laws.specs.Listed.{Entry, StandFor, told_as}
use Rattle.wf_doing.specs.ViewsSeen.{row_content}
use Rattle.wf_priced.specs.Priced.{PaysItsParts, TellsRows}
use Rattle.wf_priced.proofs.WithinLemmas.{all_there, within}
use Rattle.wf_making.specs.Priced.{IsPriced}
use Rattle.wf_paying.specs.Paying.{cost_of_row, rows_meant}

told_cost : (d : DefTree) (entries : List Entry)
    → sum_by row_cost (map (told_as d) entries) ≡ sum_of (λ (x : Entry). cost_of_row x.1) entries
told_cost d [] = refl
told_cost d (x ∷ xs) =
    sum_by-cons row_cost (told_as d x) (map (told_as d) xs) ∙ ap (λ (n : ℕ). cost_of_row x.1 + n) (told_cost d xs)

pub told : (d : DefTree) (f : Table Row) → StandFor d f
    → (entries : List Entry) × TellsRows (λ (x : Entry). x.0) (λ (x : Entry). x.1) f entries
    × (sum_by row_cost (rows_of d f) ≡ sum_of (λ (x : Entry). cost_of_row x.1) entries)
told d f stand = (
  stand.entries,
  record { all = stand.all; ordered = stand.ordered },
  ap (sum_by row_cost) stand.told ∙ told_cost d stand.entries,
)

-- THE LAW
pub priced : (d : DefTree) (m : RowSource) → Turns (graph_of d)
    → PaysItsParts m (graph_of d) (table_by d m) cost_of_row begun_weight decision_weight
    → (entries : List Entry) → TellsRows (λ (x : Entry). x.0) (λ (x : Entry). x.1) (table_by d m) entries
    → rows_meant d (table_by d m) ≡ sum_of (λ (x : Entry). cost_of_row x.1) entries
    → IsPriced row_content begun_tree decision_tree verdict_tree (graph_of d) (depth_of d) m cost_of_row begun_weight decision_weight
    (rows_meant d (table_by d m))
priced d m turns pays entries tells meant = record {
  within = λ rows running opens reached by_rows by_running by_opens.
      let most = within row_content begun_tree decision_tree verdict_tree (graph_of d) (depth_of d) m rows running opens reached
      by_rows by_running by_opens cost_of_row begun_weight decision_weight pays (λ (x : Entry). x.0) (λ (x : Entry). x.1) entries tells in
      omega (arith, meant, most);
  whole = λ rows running opens reached by_rows by_running by_opens over.
      let all = all_there row_content begun_tree decision_tree verdict_tree (graph_of d) (depth_of d) m rows running opens
      reached by_rows by_running by_opens cost_of_row begun_weight decision_weight pays (λ (x : Entry). x.0) (λ (x : Entry). x.1) entries
      tells turns over in
      omega (arith, meant, all);
}
