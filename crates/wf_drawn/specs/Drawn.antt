-- A graph as it is drawn.
use Rattle.std.specs.Prelude.{ℕ, zero, suc, List, [], ◌∷◌, ◌++◌, Option, if◌then◌else◌, nat_eq, codes}
use Rattle.wf_def.specs.ActionTree.{ActionTree, action, KindTree, compose, connector, wait, response, terminate, select, query, join}
use Rattle.wf_def.specs.ActionTree.{parse_json, initialize, set_to, increment, decrement, append_array, append_string, scope, branch, switch}
use Rattle.wf_def.specs.ActionTree.{switch_else, foreach, until, ActionTrees, no_actions, action_then, CaseTrees, no_cases, case_then}
use Rattle.wf_def.specs.ActionTree.{actions_in}
use Rattle.wf_def.specs.declared.after.After.{After}
use Rattle.wf_drawn.specs.After.{afters}
use Rattle.wf_drawn.specs.Kinds.{closes, kind_word}
use Rattle.wf_drawn.specs.Levels.{depth, level_at}
use Rattle.wf_drawn.specs.Views.{ViewTree}
use Rattle.wf_html.specs.Html.{Piece, opened, closed, said, with_text}
use Rattle.wf_html.specs.declared.tag.Tag.{Tag}
use Rattle.wf_json.specs.Json.{json}
use Rattle.wf_record.specs.Record.{RowTree}
use Rattle.wf_shown.specs.Looks.{look_of_rows}
use Rattle.wf_shown.specs.Rows.{rows_of, rows_pieces}
use Rattle.wf_val.specs.ValueTree.{ValueTree}

-- pieces in a tag
abbrev pub inside : Tag → List Piece → List Piece
inside t ps = opened t ∷ ps ++ closed t ∷ []

-- so many levels, from the first on
abbrev pub each_level : ℕ → (ℕ → List Piece) → List Piece
each_level zero level = []
each_level (suc n) level = each_level n level ++ inside Tag.Level (level n)

-- a graph of so many levels
abbrev pub in_levels : ℕ → (ℕ → List Piece) → List Piece
in_levels n level = inside Tag.Graph (each_level n level)

-- a graph that a container holds, and when it is taken
abbrev pub held : List ℕ → List Piece → List Piece
held name ps = inside Tag.Branch (with_text Tag.Case name ++ ps)

-- what is drawn of an action beside the graphs that it holds
unfoldable pub heading : Option (List RowTree) → List ℕ → List After → KindTree → List RowTree → List Piece
heading earlier name after kind rows =
    with_text Tag.Name name ++ (with_text Tag.Kind (kind_word kind) ++ (afters after ++ rows_pieces (closes kind) earlier rows))

-- an action, which holds these graphs
abbrev pub box : ViewTree → List ℕ → List After → KindTree → List Piece → List Piece
box v name after kind graphs =
    inside (Tag.Box (look_of_rows (rows_of name v.rows))) (heading v.earlier name after kind (rows_of name v.rows) ++ graphs)

-- the name of a case, and its value
abbrev pub case_word : List ℕ → ValueTree → List ℕ
case_word name value = name ++ (codes ": " ++ json value)

abbrev mutual
  -- the actions of a graph that stand on a level
  pub level_pieces : ViewTree → ℕ → ActionTrees → List Piece
  level_pieces v k no_actions = []
  level_pieces v k (action_then a rest) = level_piece v k a ++ level_pieces v k rest

  -- an action, where it stands on the level
  pub level_piece : ViewTree → ℕ → ActionTree → List Piece
  level_piece v k (action name number pointer after kind tracked) =
      if nat_eq (level_at v.levels number) k then box v name after kind (kind_pieces v kind) else []

  pub kind_pieces : ViewTree → KindTree → List Piece
  kind_pieces v (compose inputs) = []
  kind_pieces v (connector inputs policy) = []
  kind_pieces v (wait inputs) = []
  kind_pieces v (response inputs) = []
  kind_pieces v (terminate inputs) = []
  kind_pieces v (select from item) = []
  kind_pieces v (query from filter) = []
  kind_pieces v (join from with') = []
  kind_pieces v (parse_json content schema) = []
  kind_pieces v (initialize variables) = []
  kind_pieces v (set_to name value) = []
  kind_pieces v (increment name value) = []
  kind_pieces v (decrement name value) = []
  kind_pieces v (append_array name value) = []
  kind_pieces v (append_string name value) = []
  kind_pieces v (scope graph) =
      inside Tag.Branches (held (codes "inside") (in_levels (depth v.levels (actions_in graph)) (λ k. level_pieces v k graph)))
  kind_pieces v (branch test yes' no') =
      inside Tag.Branches (
      held (codes "where the test holds") (in_levels (depth v.levels (actions_in yes')) (λ k. level_pieces v k yes'))
      ++ held (codes "else") (in_levels (depth v.levels (actions_in no')) (λ k. level_pieces v k no'))
      )
  kind_pieces v (switch on cases) = inside Tag.Branches (cases_pieces v cases)
  kind_pieces v (switch_else on cases default) =
      inside Tag.Branches (
      cases_pieces v cases
      ++ held (codes "default") (in_levels (depth v.levels (actions_in default)) (λ k. level_pieces v k default))
      )
  kind_pieces v (foreach items repetitions graph) =
      inside Tag.Branches (held (codes "for each item") (in_levels (depth v.levels (actions_in graph)) (λ k. level_pieces v k graph)))
  kind_pieces v (until test count fails graph) =
      inside Tag.Branches (
      held (codes "until the test holds") (in_levels (depth v.levels (actions_in graph)) (λ k. level_pieces v k graph))
      )

  pub cases_pieces : ViewTree → CaseTrees → List Piece
  cases_pieces v no_cases = []
  cases_pieces v (case_then name value graph rest) =
      held (case_word name value) (in_levels (depth v.levels (actions_in graph)) (λ k. level_pieces v k graph)) ++ cases_pieces v rest

-- a graph
abbrev pub graph_pieces : ViewTree → ActionTrees → List Piece
graph_pieces v graph = in_levels (depth v.levels (actions_in graph)) (λ k. level_pieces v k graph)
