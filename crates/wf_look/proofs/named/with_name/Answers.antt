use Rattle.std.proofs.Common.{◌∙◌, ap}
use Rattle.std.specs.Prelude.{codes}
use Rattle.wf_val.specs.Get.{name_of}
use Rattle.wf_val.specs.NameOrder.{put_named}
use Rattle.wf_val.specs.ValueTree.{text}
use Rattle.wf_look.proofs.named.with_name.Goals as goal

-- the name is put among no members
pub returns : goal.returns
returns c =
    c.in_ok-put.ensures.ok
    ∙ (ap (λ k. put_named name_of (k, text c.args.name) c.new-fields.result) c.in_ok-of.ensures
    ∙ ap (put_named name_of (codes "name", text c.args.name)) c.new-fields.ensures)
