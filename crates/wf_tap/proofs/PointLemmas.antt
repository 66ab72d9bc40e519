-- The lines of outcomes are those that begin as an outcome's does.
use Rattle.std.proofs.Common.{◌≡◌, ℕ, suc, List, [], ◌∷◌, ◌++◌, map, Bool, true, false, refl, ap, ◌∙◌}
use Rattle.std.specs.List.{filter}
use Rattle.std.proofs.lemmas.List.Elements.{filter-append}
use Rattle.wf_tap.specs.Laws.{point_lines, tells_outcome}
use Rattle.wf_tap.specs.Tap.{comment_line, comment_lines, file_lines, lines_from, point_line, points, tap_lines, Point}
use Rattle.wf_tap.specs.declared.report.Failure.{Failure}
use Rattle.wf_tap.specs.declared.report.Outcome.{Outcome}
use Rattle.wf_tap.specs.declared.report.Results.{Results}

comments_tell_none : (fs : List Failure) → filter tells_outcome (map comment_line fs) ≡ []
comments_tell_none [] = refl
comments_tell_none (f ∷ fs) = comments_tell_none fs

file_tells_none : (several : Bool) (file : List ℕ) → filter tells_outcome (file_lines several file) ≡ []
file_tells_none true file = refl
file_tells_none false file = refl

behind_tells_none : (several : Bool) (file : List ℕ) (fs : List Failure) → filter tells_outcome (comment_lines several file fs) ≡ []
behind_tells_none several file [] = refl
behind_tells_none several file (f ∷ fs) =
    filter-append tells_outcome (file_lines several file) (map comment_line (f ∷ fs))
    ∙ ap (λ l. l ++ filter tells_outcome (map comment_line (f ∷ fs))) (file_tells_none several file)
    ∙ comments_tell_none (f ∷ fs)

point_tells : (n : ℕ) (o : Outcome) (fs : List Failure) → o.failures ≡ fs → tells_outcome (point_line n o) ≡ true
point_tells n o [] is = rw is refl
point_tells n o (f ∷ fs) is = rw is refl

from_tells : (several : Bool) (n : ℕ) (ps : List Point) → filter tells_outcome (lines_from several n ps) ≡ point_lines n ps
from_tells several n [] = refl
from_tells several n (p ∷ ps) =
    let behind = comment_lines several p.0 p.1.failures in
    let later = lines_from several (suc n) ps in
    rw (point_tells n p.1 p.1.failures refl) (ap (λ l. point_line n p.1 ∷ l) (
    filter-append tells_outcome behind later
    ∙ ap (λ l. l ++ filter tells_outcome later) (behind_tells_none several p.0 p.1.failures)
    ∙ from_tells several (suc n) ps
    ))

pub each_tells : (rs : List Results) → filter tells_outcome (tap_lines rs) ≡ point_lines 1 (points rs)
each_tells rs = from_tells _ 1 (points rs)
