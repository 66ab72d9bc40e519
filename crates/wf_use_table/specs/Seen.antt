-- What a table of uses has, as contracts see it.
use Rattle.std.specs.Prelude.{ℕ, Bool, true, false, List, Option, Some, None, option_map, slice_get}
use Rattle.std.specs.Option.{option_and_then}
use Rattle.wf_refs.specs.UsesSeen.{uses_seen}
use Rattle.wf_refs.specs.UsesTree.{UsesTree}
use Rattle.wf_refs.specs.Sites.{ActionUsesTree}
use Rattle.wf_refs.specs.declared.site.Site.{Site}
use Rattle.wf_use_table.specs.declared.table.ActionUses.{ActionUses}
use Rattle.wf_use_table.specs.declared.table.UseTable.{UseTable}

abbrev pub action_uses_seen : ActionUses → ActionUsesTree
action_uses_seen a = record {
  inputs = uses_seen a.inputs;
  items = option_map uses_seen a.items;
  test = option_map uses_seen a.test;
  tracked = uses_seen a.tracked;
}

-- what a table has at a number; nothing past its end
abbrev pub kept : {X : Type 0} → Option (Option X) → Option X
kept None = None
kept (Some o) = o

abbrev pub kept_at : {X : Type 0} → List (Option X) → ℕ → Option X
kept_at xs n = kept (slice_get xs n)

abbrev pub is_free : {X : Type 0} → Option X → Bool
is_free None = true
is_free (Some x) = false

abbrev pub action_at : List (Option ActionUses) → ℕ → Option ActionUsesTree
action_at xs n = option_map action_uses_seen (kept_at xs n)

-- what a table has for a site
abbrev pub uses_at : UseTable → Site → Option UsesTree
uses_at t (Site.Inputs n) = option_map (λ a. a.inputs) (action_at t.actions.items n)
uses_at t (Site.Items n) = option_and_then (λ a. a.items) (action_at t.actions.items n)
uses_at t (Site.Test n) = option_and_then (λ a. a.test) (action_at t.actions.items n)
uses_at t (Site.Tracked n) = option_map (λ a. a.tracked) (action_at t.actions.items n)
uses_at t (Site.Outputs i) = option_map uses_seen (slice_get t.outputs.items i)
uses_at t (Site.Trigger i) = option_map uses_seen (slice_get t.triggers.items i)
