-- Standings and entries as contracts see them.
use Rattle.wf_shape.specs.Standing as standing
use Rattle.wf_fits.specs.Fits as fits
use Rattle.wf_fits.specs.declared.standing.Entry.{Entry}
use Rattle.wf_fits.specs.declared.standing.Standing.{Standing}

abbrev pub standing_tree : Standing → standing.Standing
standing_tree (Standing.Called s) = standing.called s
standing_tree Standing.Unsaid = standing.unsaid
standing_tree Standing.Uncalled = standing.uncalled

abbrev pub entry_tree : Entry → fits.Entry
entry_tree (Entry.Through s) = fits.through s
entry_tree (Entry.Turns n) = fits.turns n
