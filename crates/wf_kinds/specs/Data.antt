-- What is asked of actions on data (Workflow Definition Language, "Action types").
use Rattle.std.specs.Prelude.{Bool, ◌&&◌, is_some, codes}
use Rattle.wf_val.specs.ValueTree.{ValueTree}
use Rattle.wf_val.specs.Get.{get}
use Rattle.wf_schema.specs.Keywords.{is_schema}
use Rattle.wf_kinds.specs.Parts.{absent_or, input, is_text}

abbrev pub compose_has : ValueTree → Bool
compose_has t = is_some (get (codes "inputs") t)

abbrev pub select_has : ValueTree → Bool
select_has t = is_some (input (codes "from") t) && is_some (input (codes "select") t)

abbrev pub query_has : ValueTree → Bool
query_has t = is_some (input (codes "from") t) && is_text (input (codes "where") t)

abbrev pub join_has : ValueTree → Bool
join_has t = is_some (input (codes "from") t) && is_some (input (codes "joinWith") t)

abbrev pub parse_json_has : ValueTree → Bool
parse_json_has t = is_some (input (codes "content") t) && absent_or is_schema (input (codes "schema") t)
