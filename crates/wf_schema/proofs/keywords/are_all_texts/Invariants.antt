use Rattle.std.proofs.Common.{◌≡◌, drop, map}
use Rattle.std.specs.List.{list_all}
use Rattle.wf_val.specs.Seen.{tree}
use Rattle.wf_schema.specs.SchemaForm.{is_text}
use Rattle.wf_schema.proofs.keywords.are_all_texts.Given as goal

-- those that are left decide
abbrev pub invariant-loop-item : goal.invariant-loop-item
invariant-loop-item l = list_all is_text (map tree (drop l.item-index l.items)) ≡ list_all is_text (map tree l.items)
