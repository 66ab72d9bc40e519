use Rattle.wf_layers.proofs.Shaped.{shaped_is_old_table}
use Rattle.wf_layers.proofs.a_table_of_the_right_shape_may_be_resumed.Goals as goal

pub returns : goal.returns
returns g c = λ d a chosen redo again r read recall fa is sh ran recalls. shaped_is_old_table a fa d chosen redo again r ran read recall recalls is sh
