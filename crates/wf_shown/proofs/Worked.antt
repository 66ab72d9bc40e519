-- Rows at worked values.
use Rattle.std.proofs.Common.{◌≡◌, ℕ, List, [], ◌∷◌, None, Some, true, false, codes, count_by, refl}
use Rattle.wf_html.specs.Html.{opened, closed, said}
use Rattle.wf_html.specs.declared.tag.Look.{Look}
use Rattle.wf_html.specs.declared.tag.Tag.{Tag}
use Rattle.wf_record.specs.Record.{RowTree}
use Rattle.wf_record.specs.declared.attempt.Try.{Try}
use Rattle.wf_record.specs.declared.status.Status.{Status}
use Rattle.wf_val.specs.ValueTree.{ValueTree, null, boolean, text, object, no_members, member_then}
use Rattle.wf_shown.specs.Changes.{changed, change_mark, change_of}
use Rattle.wf_shown.specs.Counts.{count_of, has_status}
use Rattle.wf_shown.specs.Facts.{fact_of_members, fact_text}
use Rattle.wf_shown.specs.Looks.{look_of_rows}
use Rattle.wf_shown.specs.Once.{counted_in_all, owners}
use Rattle.wf_shown.specs.Rows.{rows_of, rows_pieces}
use Rattle.wf_shown.specs.declared.change.Change.{Change}

abbrev row : List ℕ → List ℕ → Status → ValueTree → ValueTree → RowTree
row name at' status inputs outputs = record {
  address = record { name = name; at = at' };
  row = record { status = status; code = codes "OK"; inputs = inputs; outputs = outputs; error = null; tracked = null; attempts = [] };
}

abbrev done : RowTree
done = row (codes "A") [] Status.Succeeded null (boolean true)

abbrev failed : RowTree
failed = row (codes "A") [] Status.Failed null null

-- a row that is as it was, a container's that ends otherwise, and others
kept : changed true (Some done) done ≡ Change.Kept
kept = refl

closed' : changed true (Some failed) done ≡ Change.Closed Status.Failed
closed' = refl

not_closed : changed false (Some failed) done ≡ Change.Redone (Some Status.Failed)
not_closed = refl

decided_anew : changed true (Some (row (codes "A") [] Status.Failed (text (codes "x")) null)) done ≡ Change.Redone (Some Status.Failed)
decided_anew = refl

new_row : change_of true (Some []) done ≡ Some (Change.Redone None)
new_row = refl

alone : change_of true None done ≡ None
alone = refl

-- how a row ended before stands in its mark
marked : change_mark (Some (Change.Redone (Some Status.TimedOut)))
    ≡ said (codes " ") ∷ opened Tag.Redone ∷ said (codes "redone, was TimedOut") ∷ closed Tag.Redone ∷ []
marked = refl

marked_closed : change_mark (Some (Change.Closed Status.Failed))
    ≡ said (codes " ") ∷ opened Tag.Closed ∷ said (codes "closed again, was Failed") ∷ closed Tag.Closed ∷ []
marked_closed = refl

marked_new : change_mark (Some (Change.Redone None)) ≡ said (codes " ") ∷ opened Tag.Redone ∷ said (codes "redone") ∷ closed Tag.Redone ∷ []
marked_new = refl

-- an object without members is no fact where members are told, and null is none
no_members_told : fact_of_members (codes "tracked") (object no_members) ≡ []
no_members_told = refl

null_told : fact_of_members (codes "tracked") null ≡ []
null_told = refl

members_told : fact_of_members (codes "tracked") (object (member_then (codes "n") null no_members))
    ≡ fact_text (codes "tracked") (codes "{\"n\":null}")
members_told = refl

-- whose rows they are
own : rows_of (codes "A") (done ∷ row (codes "B") [] Status.Failed null null ∷ []) ≡ done ∷ []
own = refl

no_row : rows_pieces false None [] ≡ opened (Tag.Mark Look.Absent) ∷ said (codes "no row") ∷ closed (Tag.Mark Look.Absent) ∷ []
no_row = refl

several_look : look_of_rows (done ∷ failed ∷ []) ≡ Look.Several
several_look = refl

how_many : count_by (has_status Status.Succeeded) (done ∷ failed ∷ done ∷ []) ≡ 2
how_many = refl

not_counted : count_of Status.TimedOut (done ∷ failed ∷ done ∷ []) ≡ []
not_counted = refl

-- each row is counted by its status, and is of its name alone
counted' : counted_in_all (done ∷ failed ∷ done ∷ []) ≡ 3
counted' = refl

owner : owners (codes "B" ∷ codes "A" ∷ codes "a" ∷ []) done ≡ 1
owner = refl
