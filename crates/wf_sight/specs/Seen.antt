-- What is known as an action is asked, and the items round it, as contracts see them.
use Rattle.std.specs.Prelude.{List, option_map}
use Rattle.wf_val.specs.Seen.{tree}
use Rattle.wf_views.specs.Known.{opens_in, store_in}
use Rattle.wf_views.specs.OpenAt.{OpenAt}
use Rattle.wf_views.specs.RowAt.{RowAt}
use Rattle.wf_views.specs.WriterAt.{WriterAt}
use Rattle.wf_def.specs.ActionSeen.{action_tree}
use Rattle.wf_record.specs.declared.row.Row.{Row}
use Rattle.wf_views.specs.DecisionSeen.{decision_tree, verdict_tree}
use Rattle.wf_views.specs.Decision.{Decision}
use Rattle.wf_views.specs.Verdict.{Verdict}
use Rattle.wf_views.specs.Look.{Item, name_in}
use Rattle.wf_views.specs.Seen.{rows_seen}
use Rattle.wf_sight.specs.Sight.{KnownTree, Opens}
use Rattle.wf_sight.specs.declared.items.Held.{Held}

abbrev pub opens_seen : List (OpenAt Decision Verdict) → Opens
opens_seen = opens_in decision_tree verdict_tree

abbrev pub known_tree : List (RowAt Row) → List (OpenAt Decision Verdict) → List WriterAt → KnownTree
known_tree rows opens store = record { rows = rows_seen rows; opens = opens_seen opens; store = store_in store }

abbrev pub item_tree : Held → Item
item_tree h = (name_in (option_map (λ a. action_tree a.now) h.round), tree h.item.now)
