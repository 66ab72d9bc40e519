-- The rows of an action are nested, and say where they stand behind the tag of places, and nothing behind that of names.
use Rattle.std.proofs.Common.{◌≡◌, ℕ, Bool, true, false, List, [], ◌∷◌, ◌++◌, Option, None, Some, cond, flat_map, take, drop, codes}
use Rattle.std.proofs.Common.{decimal, length, count_by, nat_eq, refl, sym, ap, ◌∙◌, subst, append-nil}
use Rattle.wf_html.proofs.BehindLemmas.{Says, Texts, ends, ends_after, ends_in, opens, says_append, says_each, says_in, says_nothing}
use Rattle.wf_html.proofs.BehindLemmas.{says_quietly, says_said, says_text}
use Rattle.wf_html.specs.Behind.{is_name, is_place, said_behind}
use Rattle.wf_html.specs.Html.{Piece, opened, closed, said, with_text}
use Rattle.wf_html.specs.Nested.{IsNested}
use Rattle.wf_html.specs.declared.tag.Look.{Look}
use Rattle.wf_html.specs.declared.tag.Tag.{Tag}
use Rattle.wf_json.specs.Json.{json}
use Rattle.wf_record.specs.Record.{RowTree, status_name}
use Rattle.wf_record.specs.declared.attempt.Try.{Try}
use Rattle.wf_record.specs.declared.status.Status.{Status}
use Rattle.wf_val.specs.Address.{indexes_text}
use Rattle.wf_val.specs.ValueTree.{ValueTree, null}
use Rattle.wf_shown.specs.Changes.{attempts_text, change_mark, change_of}
use Rattle.wf_shown.specs.Counts.{count_of, counts, has_status}
use Rattle.wf_shown.specs.Facts.{fact, fact_of_members, fact_text, is_bare}
use Rattle.wf_shown.specs.Looks.{look_of, mark}
use Rattle.wf_shown.specs.Once.{places}
use Rattle.wf_shown.specs.Rows.{all_counted, all_shown, attempts_fact, most_shown, row_facts, row_head, row_pieces}
use Rattle.wf_shown.specs.Rows.{rows_pieces, several, several_head}
use Rattle.wf_shown.specs.declared.change.Change.{Change}

-- the tags of names and places, which the others here are not
abbrev pub is_head : Tag → Bool
is_head Tag.Name = true
is_head Tag.Place = true
is_head t = false

-- nothing is asked of the other tags
abbrev pub OnlyHeads : (Tag → Bool) → Type 0
OnlyHeads is = (t : Tag) → is_head t ≡ false → is t ≡ false

pub fact_text_says : (is : Tag → Bool) → OnlyHeads is → (name text : List ℕ) → Says is (fact_text name text) []
fact_text_says is only name text =
    says_append is (with_text Tag.Term name) (opened Tag.Value ∷ with_text Tag.Data text ++ closed Tag.Value ∷ []) [] []
    (says_quietly is Tag.Term name (only Tag.Term refl))
    (says_in is Tag.Value (with_text Tag.Data text) [] (only Tag.Value refl) (says_quietly is Tag.Data text (only Tag.Data refl)))

pub fact_says : (is : Tag → Bool) → OnlyHeads is → (name : List ℕ) (v : ValueTree) → Says is (fact name v) []
fact_says is only name null = says_nothing is
fact_says is only name v = fact_text_says is only name (json v)

pub fact_of_members_says : (is : Tag → Bool) → OnlyHeads is → (name : List ℕ) (v : ValueTree) → Says is (fact_of_members name v) []
fact_of_members_says is only name v =
    elim (is_bare v) as (λ b. Says is (cond b [] (fact name v)) []) [
      | true ↦ says_nothing is
      | false ↦ fact_says is only name v
    ]

attempts_say : (is : Tag → Bool) → OnlyHeads is → (ts : List Try) → Says is (attempts_fact ts) []
attempts_say is only [] = says_nothing is
attempts_say is only (t ∷ ts) = fact_text_says is only (codes "attempts") (attempts_text (t ∷ ts))

change_says : (is : Tag → Bool) → OnlyHeads is → (c : Option Change) → Says is (change_mark c) []
change_says is only None = says_nothing is
change_says is only (Some Change.Kept) = says_said is _ _ [] (says_quietly is Tag.Kept _ (only Tag.Kept refl))
change_says is only (Some (Change.Closed s)) = says_said is _ _ [] (says_quietly is Tag.Closed _ (only Tag.Closed refl))
change_says is only (Some (Change.Redone None)) = says_said is _ _ [] (says_quietly is Tag.Redone _ (only Tag.Redone refl))
change_says is only (Some (Change.Redone (Some s))) = says_said is _ _ [] (says_quietly is Tag.Redone _ (only Tag.Redone refl))

mark_says : (is : Tag → Bool) → OnlyHeads is → (s : Status) (word : List ℕ) → Says is (mark s word) []
mark_says is only s word = says_quietly is (Tag.Mark (look_of s)) word (only (Tag.Mark (look_of s)) refl)

count_says : (is : Tag → Bool) → OnlyHeads is → (s : Status) (rs : List RowTree) → Says is (count_of s rs) []
count_says is only s rs =
    let n : ℕ = count_by (has_status s) rs in
    let word : List ℕ = decimal n ++ 32 ∷ status_name s in
    elim (nat_eq n 0) as (λ b. Says is (cond b [] (said (codes " ") ∷ mark s word)) []) [
      | true ↦ says_nothing is
      | false ↦ says_said is (codes " ") (mark s word) [] (mark_says is only s word)
    ]

counts_say : (is : Tag → Bool) → OnlyHeads is → (rs : List RowTree) → Says is (counts rs) []
counts_say is only rs =
    says_append is _ _ [] [] (count_says is only Status.Succeeded rs) (
    says_append is _ _ [] [] (count_says is only Status.Failed rs) (
    says_append is _ _ [] [] (count_says is only Status.Skipped rs) (
    says_append is _ _ [] [] (count_says is only Status.TimedOut rs) (count_says is only Status.Cancelled rs)))
    )

-- where a row stands
abbrev pub place_in : (Tag → Bool) → RowTree → Texts
place_in is r = cond (is Tag.Place) (indexes_text r.address.at ∷ []) []

-- what is said first stands alone
first_alone : (is : Tag → Bool) (ps : List Piece) (a : Texts) → Says is ps (a ++ []) → Says is ps a
first_alone is ps a says = subst (Says is ps) (append-nil a) says

head_says : (is : Tag → Bool) → OnlyHeads is → (c : Option Change) (r : RowTree) → Says is (row_head c r) (place_in is r)
head_says is only c r =
    first_alone is _ (place_in is r) (
    opens is Tag.Summary _ _ (only Tag.Summary refl) (
    ends_after is Tag.Summary _ _ [] (place_in is r) [] (says_text is Tag.Place (indexes_text r.address.at)) (
    ends_after is Tag.Summary _ _ [] [] [] (mark_says is only r.row.status (status_name r.row.status)) (
    ends_after is Tag.Summary (said (codes " ") ∷ with_text Tag.Code r.row.code) _ [] [] []
    (says_said is _ _ [] (says_quietly is Tag.Code r.row.code (only Tag.Code refl))) (
    ends_after is Tag.Summary _ _ [] [] [] (change_says is only c) (ends is Tag.Summary []))))
    )
    )

facts_say : (is : Tag → Bool) → OnlyHeads is → (r : RowTree) → Says is (row_facts r) []
facts_say is only r =
    opens is Tag.Facts _ _ (only Tag.Facts refl) (
    ends_after is Tag.Facts _ _ [] [] [] (fact_says is only (codes "inputs") r.row.inputs) (
    ends_after is Tag.Facts _ _ [] [] [] (fact_says is only (codes "outputs") r.row.outputs) (
    ends_after is Tag.Facts _ _ [] [] [] (fact_says is only (codes "error") r.row.error) (
    ends_after is Tag.Facts _ _ [] [] [] (fact_of_members_says is only (codes "tracked") r.row.tracked) (
    ends_after is Tag.Facts _ _ [] [] [] (attempts_say is only r.row.attempts) (ends is Tag.Facts [])))))
    )

row_says : (is : Tag → Bool) → OnlyHeads is → (c : Option Change) (r : RowTree) → Says is (row_pieces c r) (place_in is r)
row_says is only c r =
    first_alone is _ (place_in is r) (
    opens is Tag.Fold _ _ (only Tag.Fold refl) (
    ends_after is Tag.Fold _ _ [] (place_in is r) [] (head_says is only c r) (
    ends_after is Tag.Fold _ _ [] [] [] (facts_say is only r) (ends is Tag.Fold []))
    )
    )

all_say : (is : Tag → Bool) → OnlyHeads is → (closes : Bool) (earlier : Option (List RowTree)) (rs : List RowTree)
    → Says is (all_shown closes earlier rs) (flat_map (place_in is) rs)
all_say is only closes earlier rs =
    says_each is (λ r. row_pieces (change_of closes earlier r) r) (place_in is) (λ r. row_says is only (change_of closes earlier r) r) rs

counted_say : (is : Tag → Bool) → OnlyHeads is → (rs : List RowTree) → Says is (all_counted rs) []
counted_say is only [] = says_nothing is
counted_say is only (r ∷ rs) =
    says_in is Tag.Line (said (decimal (length (r ∷ rs)) ++ codes " more:") ∷ counts (r ∷ rs)) [] (only Tag.Line refl)
    (says_said is _ _ [] (counts_say is only (r ∷ rs)))

several_head_says : (is : Tag → Bool) → OnlyHeads is → (rs : List RowTree) → Says is (several_head rs) []
several_head_says is only rs =
    opens is Tag.Summary _ _ (only Tag.Summary refl) (
    ends_after is Tag.Summary _ _ [] [] [] (says_quietly is (Tag.Mark Look.Several) _ (only (Tag.Mark Look.Several) refl)) (
    ends_after is Tag.Summary _ _ [] [] [] (counts_say is only rs) (ends is Tag.Summary []))
    )

several_say : (is : Tag → Bool) → OnlyHeads is → (closes : Bool) (earlier : Option (List RowTree)) (rs : List RowTree)
    → Says is (several closes earlier rs) (flat_map (place_in is) (take most_shown rs))
several_say is only closes earlier rs =
    let texts : Texts = flat_map (place_in is) (take most_shown rs) in
    first_alone is _ texts (
    opens is Tag.Fold _ _ (only Tag.Fold refl) (
    ends_after is Tag.Fold _ _ [] [] (texts ++ []) (several_head_says is only rs) (
    ends_in is Tag.Rows Tag.Fold _ [] (texts ++ []) (only Tag.Rows refl) (
    ends_after is Tag.Rows _ _ (closed Tag.Fold ∷ []) texts [] (all_say is only closes earlier (take most_shown rs)) (
    ends_after is Tag.Rows _ _ (closed Tag.Fold ∷ []) [] [] (counted_say is only (drop most_shown rs)) (
    ends is Tag.Rows (closed Tag.Fold ∷ [])))))
    )
    )

pub rows_say : (is : Tag → Bool) → OnlyHeads is → (closes : Bool) (earlier : Option (List RowTree)) (rs : List RowTree)
    → Says is (rows_pieces closes earlier rs) (flat_map (place_in is) (take most_shown rs))
rows_say is only closes earlier [] = says_quietly is (Tag.Mark Look.Absent) (codes "no row") (only (Tag.Mark Look.Absent) refl)
rows_say is only closes earlier (r ∷ []) =
    subst (Says is (row_pieces (change_of closes earlier r) r)) (sym (append-nil (place_in is r)))
    (row_says is only (change_of closes earlier r) r)
rows_say is only closes earlier (r ∷ s ∷ rs) = several_say is only closes earlier (r ∷ s ∷ rs)

-- ---- of names and of places

pub only_places : (t : Tag) → is_head t ≡ false → is_place t ≡ false
only_places Tag.Name other = absurd (cc)
only_places Tag.Place other = absurd (cc)
only_places t other = refl

pub only_names : (t : Tag) → is_head t ≡ false → is_name t ≡ false
only_names Tag.Name other = absurd (cc)
only_names Tag.Place other = absurd (cc)
only_names t other = refl

pub each_place : (rs : List RowTree) → flat_map (place_in is_place) rs ≡ places rs
each_place [] = refl
each_place (r ∷ rs) = ap (λ x. indexes_text r.address.at ∷ x) (each_place rs)

pub no_place : (rs : List RowTree) → flat_map (place_in is_name) rs ≡ []
no_place [] = refl
no_place (r ∷ rs) = no_place rs

pub rows_nested : (closes : Bool) (earlier : Option (List RowTree)) (rs : List RowTree) → IsNested (rows_pieces closes earlier rs)
rows_nested closes earlier rs = (rows_say is_place only_places closes earlier rs).nested

pub rows_in_place : (closes : Bool) (earlier : Option (List RowTree)) (rs : List RowTree)
    → said_behind is_place (rows_pieces closes earlier rs) ≡ places (take most_shown rs)
rows_in_place closes earlier rs = (rows_say is_place only_places closes earlier rs).said ∙ each_place (take most_shown rs)

-- rows name no action
pub rows_unnamed : (closes : Bool) (earlier : Option (List RowTree)) (rs : List RowTree) → Says is_name (rows_pieces closes earlier rs) []
rows_unnamed closes earlier rs =
    subst (Says is_name (rows_pieces closes earlier rs)) (no_place (take most_shown rs)) (rows_say is_name only_names closes earlier rs)
