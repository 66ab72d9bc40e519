-- What is kept of a union, as definitions see it.
use Rattle.std.specs.Prelude.{map}
use Rattle.wf_val.specs.Seen.{tree, member}
use Rattle.wf_folds.specs.Items as definition
use Rattle.wf_folds.specs.United.{HeldSoFar, nothing, lists, objects, refused, UnitedSoFar}
use Rattle.wf_folds.specs.declared.items.Items.{Items}
use Rattle.wf_folds.specs.declared.united.Held.{Held}
use Rattle.wf_folds.specs.declared.united.United.{United}

abbrev pub items_seen : Items → definition.Items
items_seen i = (i.distinct, map tree i.there.keys)

abbrev pub held_seen : Held → HeldSoFar
held_seen Held.Nothing = nothing
held_seen (Held.Lists i) = lists (items_seen i)
held_seen (Held.Objects m) = objects (map member m.entries)
held_seen (Held.Refused f) = refused f

abbrev pub united_seen : United → UnitedSoFar
united_seen u = (held_seen u.held, u.count)
