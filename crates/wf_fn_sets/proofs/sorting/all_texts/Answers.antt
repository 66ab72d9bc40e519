use Rattle.std.proofs.Common.{rules, tests, option_map, sym, ◌∙◌}
use Rattle.std.proofs.lemmas.Iterator.{YieldsList-from_slice}
use Rattle.std.proofs.lemmas.Iterator.Search.{all_from_yields_List}
use Rattle.std.proofs.lemmas.List.Folds.{list_all-map}
use Rattle.wf_val.specs.Seen.{tree}
use Rattle.wf_fn_sets.specs.Sorting.{judged_by, is_text}
use Rattle.wf_fn_sets.proofs.sorting.all_texts.Goals as goal

pub returns : goal.returns
returns c =
    let name = option_map (λ t. t.now) c.args.name in
    all_from_yields_List (λ v. is_text (judged_by name (tree v))) _ _ _ c.all.ensures.ran (YieldsList-from_slice c.args.values.now cc)
    (λ x b q k. search (rules, tests))
    ∙ sym (list_all-map (λ x. is_text (judged_by name x)) tree c.args.values.now)
