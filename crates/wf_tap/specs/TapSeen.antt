-- A point as contracts see it.
use Rattle.wf_tap.specs.Tap.{Point}
use Rattle.wf_tap.specs.declared.tap.Point.{Point as Pointing}

abbrev pub point_seen : Pointing → Point
point_seen p = (p.file.now, p.outcome.now)
