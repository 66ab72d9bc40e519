-- What is drawn of an action and of a run is nested, and says the action's name and where its rows stand, each behind its tag, and nothing
-- else behind these.
use Rattle.std.proofs.Common.{◌≡◌, ℕ, Bool, true, false, List, [], ◌∷◌, ◌++◌, Option, None, Some, cond, flat_map, codes, refl, take}
use Rattle.wf_def.specs.ActionTree.{KindTree}
use Rattle.wf_def.specs.declared.after.After.{After}
use Rattle.wf_def.specs.declared.after.Statuses.{Statuses}
use Rattle.wf_drawn.specs.After.{after_pieces, afters, all_wanted, none_listed, only_succeeded, statuses, wanted}
use Rattle.wf_drawn.specs.Drawn.{heading, inside}
use Rattle.wf_drawn.specs.Kinds.{closes, kind_word}
use Rattle.wf_drawn.specs.Page.{beside, given, header, run_look}
use Rattle.wf_html.proofs.BehindLemmas.{Says, Texts, says_append, says_in, says_nothing, says_quietly, says_said, says_text}
use Rattle.wf_html.specs.Html.{Piece, said, with_text}
use Rattle.wf_html.specs.declared.tag.Tag.{Tag}
use Rattle.wf_record.specs.Record.{RecordTree, RowTree, run_status_name}
use Rattle.wf_shown.proofs.SaidLemmas.{OnlyHeads, fact_of_members_says, fact_says, place_in, rows_say}
use Rattle.wf_shown.specs.Facts.{fact, fact_of_members}
use Rattle.wf_shown.specs.Rows.{most_shown}

-- what an action of a name says that has these rows
abbrev pub own_texts : (Tag → Bool) → List ℕ → List RowTree → Texts
own_texts is name rows = cond (is Tag.Name) (name ∷ []) [] ++ flat_map (place_in is) (take most_shown rows)

module _ (is : Tag → Bool) (only : OnlyHeads is) where
  abbrev pub Quiet : List Piece → Type 0
  Quiet ps = Says is ps []

  quiet_append : (ps qs : List Piece) → Quiet ps → Quiet qs → Quiet (ps ++ qs)
  quiet_append ps qs one other = says_append is ps qs [] [] one other

  quiet_in : (t : Tag) (ps : List Piece) → is t ≡ false → Quiet ps → Quiet (inside t ps)
  quiet_in t ps other within = says_in is t ps [] other within

  quiet_each : {A : Type 0} (f : A → List Piece) → ((x : A) → Quiet (f x)) → (xs : List A) → Quiet (flat_map f xs)
  quiet_each f one [] = says_nothing is
  quiet_each f one (x ∷ xs) = quiet_append (f x) (flat_map f xs) (one x) (quiet_each f one xs)

  -- ---- what an action waits for

  wanted_quiet : (b : Bool) (word : List ℕ) → Quiet (wanted b word)
  wanted_quiet true word = says_said is (codes " ") (with_text Tag.Wanted word) [] (says_quietly is Tag.Wanted word (only Tag.Wanted refl))
  wanted_quiet false word = says_nothing is

  all_wanted_quiet : (s : Statuses) → Quiet (all_wanted s)
  all_wanted_quiet s =
      quiet_append _ _ (wanted_quiet s.succeeded (codes "Succeeded")) (
      quiet_append _ _ (wanted_quiet s.failed (codes "Failed")) (
      quiet_append _ _ (wanted_quiet s.skipped (codes "Skipped")) (
      quiet_append _ _ (wanted_quiet s.timed_out (codes "TimedOut")) (wanted_quiet (none_listed s) (codes "never"))))
      )

  statuses_quiet : (s : Statuses) → Quiet (statuses s)
  statuses_quiet s =
      elim (only_succeeded s) as (λ b. Quiet (cond b [] (all_wanted s))) [ true ↦ says_nothing is | false ↦ all_wanted_quiet s ]

  after_quiet : (a : After) → Quiet (after_pieces a)
  after_quiet a =
      quiet_in Tag.After (said (codes "after ") ∷ said a.name ∷ statuses a.statuses) (only Tag.After refl) (
      says_said is (codes "after ") (said a.name ∷ statuses a.statuses) []
      (says_said is a.name (statuses a.statuses) [] (statuses_quiet a.statuses))
      )

  -- ---- an action

  pub heading_says : (earlier : Option (List RowTree)) (name : List ℕ) (after : List After) (kind : KindTree) (rows : List RowTree)
      → Says is (heading earlier name after kind rows) (own_texts is name rows)
  unfolding heading
  heading_says earlier name after kind rows =
      let places : Texts = flat_map (place_in is) (take most_shown rows) in
      says_append is (with_text Tag.Name name) _ (cond (is Tag.Name) (name ∷ []) []) places (says_text is Tag.Name name) (
      says_append is (with_text Tag.Kind (kind_word kind)) _ [] places (says_quietly is Tag.Kind (kind_word kind) (only Tag.Kind refl)) (
      says_append is (afters after) _ [] places (quiet_each after_pieces after_quiet after) (rows_say is only (closes kind) earlier rows)
      )
      )

  -- ---- a run

  beside_quiet : (earlier : Option RecordTree) → Quiet (beside earlier)
  beside_quiet None = says_nothing is
  beside_quiet (Some old) =
      quiet_in Tag.Line (said (codes "beside ") ∷ said old.run ∷ []) (only Tag.Line refl)
      (says_said is (codes "beside ") (said old.run ∷ []) [] (says_said is old.run [] [] (says_nothing is)))

  pub header_quiet : (r : RecordTree) (earlier : Option RecordTree) → Quiet (header r earlier)
  header_quiet r earlier =
      quiet_in Tag.Header _ (only Tag.Header refl) (
      quiet_append (with_text Tag.Heading r.run) _ (says_quietly is Tag.Heading r.run (only Tag.Heading refl)) (
      quiet_append _ _ (
      quiet_in Tag.Line (with_text (Tag.Mark (run_look r.status)) (run_status_name r.status)) (only Tag.Line refl)
      (says_quietly is (Tag.Mark (run_look r.status)) (run_status_name r.status) (only (Tag.Mark (run_look r.status)) refl))
      ) (
      quiet_append (beside earlier) _ (beside_quiet earlier) (
      quiet_in Tag.Facts _ (only Tag.Facts refl) (
      quiet_append (fact (codes "error") r.error) _ (fact_says is only (codes "error") r.error) (
      quiet_append (fact (codes "response") r.response) _ (fact_says is only (codes "response") r.response) (
      quiet_append (fact_of_members (codes "outputs") r.outputs) _ (fact_of_members_says is only (codes "outputs") r.outputs)
      (fact_says is only (codes "trigger") (given r.trigger))))
      )
      )
      ))
      )
