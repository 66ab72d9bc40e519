-- What may be wrong with a name at a site.
use Rattle.std.specs.Prelude.{ℕ, List, Bool, not, Option}
use Rattle.wf_standing.specs.Site.{Site}
use Rattle.wf_standing.specs.Inside.{is_outside}
use Rattle.wf_breaks.specs.Rules.{is_misread, is_miswritten, is_no_container, is_uninitialised, is_unseen, leaves_two}
use Rattle.wf_breaks.specs.Rules.{leaves_two_for}
use Rattle.wf_standing.specs.Standing.{StandingTree}
use Rattle.wf_standing.specs.Whole.{Whole}
use Rattle.wf_standing.specs.declared.kinds.Loop.{Loop}
use Rattle.wf_breaks.specs.declared.wrong.Wrong.{Wrong}

module _ (whole : Whole) where
  abbrev pub is_wrong : Wrong → Site → Option StandingTree → List ℕ → Bool
  is_wrong Wrong.Unseen site at k = is_unseen whole site at k
  is_wrong Wrong.Undeclared site at k = not (whole.declares k)
  is_wrong Wrong.Misread site at k = is_misread (whole.initialised k)
  is_wrong Wrong.Miswritten site at k = is_miswritten at (whole.initialised k)
  is_wrong Wrong.Uninitialised site at k = is_uninitialised whole at k
  is_wrong Wrong.NoForeach site at k = is_outside Loop.Foreach site at k
  is_wrong Wrong.NoUntil site at k = is_outside Loop.Until site at k
  is_wrong Wrong.LoopsLeft site at k = leaves_two site at (whole.named k)
  is_wrong Wrong.LoopsLeftForResult site at k = leaves_two_for site at (whole.named k)
  is_wrong Wrong.NoContainer site at k = is_no_container (whole.named k)
