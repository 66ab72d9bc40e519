use Rattle.std.proofs.Common.{◌≡◌, drop, map}
use Rattle.std.specs.List.{list_all}
use Rattle.wf_template.specs.TemplateSeen.{piece_tree}
use Rattle.wf_texts.specs.Sound.{is_sound_piece}
use Rattle.wf_texts.proofs.sound.are_sound_pieces.Given as goal

abbrev pub invariant-loop-piece : goal.invariant-loop-piece
invariant-loop-piece l =
    list_all is_sound_piece (map piece_tree (drop l.piece-index l.pieces))
    ≡ list_all is_sound_piece (map piece_tree l.pieces)
