-- What is kept, as definitions see it.
use Rattle.wf_val.specs.Seen.{tree}
use Rattle.wf_folds.specs.Paired.{SoFar, nothing, only, together, refused, PairedSoFar}
use Rattle.wf_folds.specs.declared.paired.Kept.{Kept}
use Rattle.wf_folds.specs.declared.paired.Paired.{Paired}

abbrev pub so_far : Kept → SoFar
so_far Kept.Nothing = nothing
so_far (Kept.Only v) = only (tree v)
so_far (Kept.Together v) = together (tree v)
so_far (Kept.Refused f) = refused f

abbrev pub paired_seen : Paired → PairedSoFar
paired_seen p = (p.function, (so_far p.kept, p.count))
