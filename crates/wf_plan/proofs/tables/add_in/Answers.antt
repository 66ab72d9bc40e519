use Rattle.wf_plan.proofs.TableLemmas.{list_added}
use Rattle.wf_plan.proofs.tables.add_in.Goals as goal

pub returns : goal.returns
returns c =
    list_added c.args.table.now.items c.args.place c.args.number c.push_to.new.list c.index_mut.result.now c.requires
    c.index_mut.ensures.value c.in_ok-push_to.ensures
