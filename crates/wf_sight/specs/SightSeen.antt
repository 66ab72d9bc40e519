-- What a sight tells, as contracts see it.
use Rattle.std.specs.Prelude.{ℕ, List, map}
use Rattle.wf_views.specs.Told.{Told}
use Rattle.wf_views.specs.ReadSeen.{def_tree}
use Rattle.wf_views.specs.Known.{store_in}
use Rattle.wf_views.specs.StartsSeen.{start_tree}
use Rattle.wf_views.specs.Seen.{rows_seen}
use Rattle.wf_sight.specs.Seen.{item_tree}
use Rattle.wf_sight.specs.Sight.{RunTree, seen_with}
use Rattle.wf_sight.specs.declared.sight.Run.{Run}
use Rattle.wf_sight.specs.declared.sight.Sight.{Sight}
use Rattle.wf_sight.specs.declared.sight.PlaceText.{PlaceText}

abbrev pub run_tree : Run → RunTree
run_tree r = record { start = start_tree r.start.now; name = r.name.now; seed = r.seed.now; moment = r.moment }

-- the text of a place, by which words are drawn
abbrev pub place_tree : PlaceText → List ℕ
place_tree (PlaceText.Name name) = name.now
place_tree (PlaceText.Made text) = text

abbrev pub sight_told : Sight → Told
sight_told s = seen_with (def_tree s.places.now)
    (record { start = start_tree s.start.now; name = s.name.now; seed = s.seed.now; moment = s.moment }) (place_tree s.place)
    s.loops.items s.at
    (map item_tree s.items.items)
    (rows_seen s.rows.now.0) (store_in s.store.now.0)

-- how many words it has drawn
abbrev pub sight_drawn : Sight → ℕ
sight_drawn s = s.drawn
