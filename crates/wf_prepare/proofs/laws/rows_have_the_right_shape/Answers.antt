use Rattle.wf_layers.proofs.Shape.{meaning_has_shape}
use Rattle.wf_shaped.specs.Points.{graph_of}
use Rattle.wf_shaped.specs.Record.{depth_of}
use Rattle.wf_shaped.specs.Source.{source, table_of}
use Rattle.wf_shaped.specs.Reading.{reading}
use Rattle.wf_prepare.proofs.laws.rows_have_the_right_shape.Goals as goal

pub returns : goal.returns
returns c = λ d r none e.
    let is = c.a_definition_is_an_instance.ensures d r none e in
    meaning_has_shape (graph_of d) (source d e) (depth_of d) is.falls is.local is.own (reading d)
    (c.rows_tell_what_was_decided.ensures d e (table_of d e (depth_of d)))
