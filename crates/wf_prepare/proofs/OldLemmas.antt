-- A record that may be resubmitted is an old table from which a resubmission may go on.
use Rattle.std.proofs.Common.{◌≡◌, ℕ, List, [], Option, Some, None, refl, ap, ◌∙◌}
use Rattle.wf_layers.specs.Address.{address}
use Rattle.wf_def.specs.ActionTree.{ActionTree, action_kind, KindTree, compose, connector, wait, response, terminate, select, query, join}
use Rattle.wf_def.specs.ActionTree.{parse_json, initialize, set_to, increment, decrement, append_array, append_string, scope, branch}
use Rattle.wf_def.specs.ActionTree.{switch, switch_else, foreach, until}
use Rattle.wf_def.specs.AllActions.{numbered}
use Rattle.wf_def.specs.DefTree.{DefTree}
use Rattle.wf_record.specs.Record.{Row, RowTree}
use Rattle.wf_shaped.specs.Decisions.{taken}
use Rattle.wf_shaped.specs.Resubmitted.{recalled, rows_by, said, said_by}
use Rattle.wf_shaped.specs.SaysTold.{taken_by}
use Rattle.wf_shaped.specs.Reading.{taken_in}

-- what a row says that was decided takes the branch that is read off the row
said_taken : (kind : KindTree) (row : Row) → taken (said kind row) ≡ taken_by kind row
said_taken (compose inputs) row = refl
said_taken (connector inputs policy) row = refl
said_taken (wait inputs) row = refl
said_taken (response inputs) row = refl
said_taken (terminate inputs) row = refl
said_taken (select from item) row = refl
said_taken (query from filter) row = refl
said_taken (join from with') row = refl
said_taken (parse_json content schema) row = refl
said_taken (initialize variables) row = refl
said_taken (set_to name value) row = refl
said_taken (increment name value) row = refl
said_taken (decrement name value) row = refl
said_taken (append_array name value) row = refl
said_taken (append_string name value) row = refl
said_taken (scope graph) row = refl
said_taken (branch test yes' no') row = refl
said_taken (switch on cases) row = refl
said_taken (switch_else on cases default) row = refl
said_taken (foreach items repetitions graph) row = refl
said_taken (until test count fails graph) row = refl

found_taken : (o : Option ActionTree) (row : Row) → taken (said_by o (Some row)) ≡ taken_in o row
found_taken None row = refl
found_taken (Some a) row = said_taken (action_kind a) row

pub recalled_taken : (d : DefTree) (rows : List RowTree) (n : ℕ) (row : Row) → rows_by d rows (address n []) ≡ Some row
    → taken (recalled d rows (address n [])) ≡ taken_in (numbered n d.top) row
recalled_taken d rows n row is =
    ap (λ (o : Option Row). taken (said_by (numbered n d.top) o)) is ∙ found_taken (numbered n d.top) row
