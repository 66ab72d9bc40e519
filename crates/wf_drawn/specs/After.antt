-- What an action waits for, in words.
use Rattle.std.specs.Prelude.{ℕ, Bool, List, [], ◌∷◌, ◌++◌, ◌&&◌, ◌||◌, not, if◌then◌else◌, codes, flat_map}
use Rattle.wf_def.specs.declared.after.After.{After}
use Rattle.wf_def.specs.declared.after.Statuses.{Statuses}
use Rattle.wf_html.specs.Html.{Piece, opened, closed, said, with_text}
use Rattle.wf_html.specs.declared.tag.Tag.{Tag}

-- Succeeded is listed and nothing else, as where an action just follows another one
abbrev pub only_succeeded : Statuses → Bool
only_succeeded s = s.succeeded && not (s.failed || s.skipped || s.timed_out)

abbrev pub wanted : Bool → List ℕ → List Piece
wanted b word = if b then said (codes " ") ∷ with_text Tag.Wanted word else []

abbrev pub none_listed : Statuses → Bool
none_listed s = not (s.succeeded || s.failed || s.skipped || s.timed_out)

abbrev pub all_wanted : Statuses → List Piece
all_wanted s =
    wanted s.succeeded (codes "Succeeded") ++ (wanted s.failed (codes "Failed") ++ (wanted s.skipped (codes "Skipped")
    ++ (wanted s.timed_out (codes "TimedOut") ++ wanted (none_listed s) (codes "never"))))

-- the statuses, where these aren't Succeeded alone
abbrev pub statuses : Statuses → List Piece
statuses s = if only_succeeded s then [] else all_wanted s

-- an entry of `runAfter`
abbrev pub after_pieces : After → List Piece
after_pieces a =
    opened Tag.After ∷ said (codes "after ") ∷ said a.name ∷ statuses a.statuses ++ closed Tag.After ∷ []

abbrev pub afters : List After → List Piece
afters as' = flat_map after_pieces as'
