use Rattle.std.proofs.Common.{◌≡◌, drop, map}
use Rattle.std.specs.List.{list_all}
use Rattle.wf_val.specs.Seen.{tree}
use Rattle.wf_schema.specs.SchemaForm.{is_type}
use Rattle.wf_schema.proofs.keywords.are_all_types.Given as goal

-- those that are left decide
abbrev pub invariant-loop-item : goal.invariant-loop-item
invariant-loop-item l = list_all is_type (map tree (drop l.item-index l.items)) ≡ list_all is_type (map tree l.items)
