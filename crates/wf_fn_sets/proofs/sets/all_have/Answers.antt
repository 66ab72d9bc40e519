use Rattle.std.proofs.Common.{rules, tests, is_some, sym, ◌∙◌}
use Rattle.std.proofs.lemmas.Iterator.{YieldsList-from_slice}
use Rattle.std.proofs.lemmas.Iterator.Search.{all_from_yields_List}
use Rattle.std.proofs.lemmas.List.Folds.{list_all-map}
use Rattle.wf_val.specs.Get.{value_of}
use Rattle.wf_fn_sets.proofs.sets.all_have.Goals as goal

pub returns : goal.returns
returns c =
    all_from_yields_List (λ o. is_some (value_of c.args.name.now o.now)) _ _ _ c.all.ensures.ran
    (YieldsList-from_slice c.args.objects.now cc) (λ x b q k. search (rules, tests))
    ∙ sym (list_all-map (λ ms. is_some (value_of c.args.name.now ms)) (λ o. o.now) c.args.objects.now)
