-- What the calls of the loop do.
use Rattle.std.proofs.Common.{◌≡◌, ℕ, List, [], ◌∷◌, Option, None, Some, IfSome, sym, subst}
use Rattle.std.specs.Io.KnownBytes.{Consumes, IsAtEnd, Keeps}
use Rattle.wf_answers.specs.Inputs.{InputsTree}
use Rattle.wf_talk.specs.Byte.{ByteStops, at_feed, byte_unheard, finished, end_unheard, Finishes, line_is_last, line_unwritten}
use Rattle.wf_talk.specs.Byte.{line_unheard}
use Rattle.wf_talk.specs.Byte.{at_byte, at_end, byte_unread, StopsAtByte, StopsAtEnd, StopsAtLine, StopsSo}
use Rattle.wf_talk.specs.Hearing.{Hearing}
use Rattle.wf_talk.specs.Says.{Hears}
use Rattle.wf_talk.specs.Seen.{after, status_of}
use Rattle.wf_talk.specs.Standing.{Standing}
use Rattle.wf_talk.specs.Talks.{cannot_read_input, out_of_memory}
use Rattle.wf_talk.specs.Written.{Writes}
use Rattle.wf_talk.specs.declared.said.End.{End}

module _ (Stands : InputsTree → Standing → Type 0) (h : Hearing) (rest : List ℕ) where
  line_stops : (h' : Hearing) (ends : Option End) (said : List ℕ) (taken taken' : Option (List ℕ)) (result : ℕ)
      → Hears Stands h rest said (after ends h') → Writes taken taken' (status_of ends) said result
      → StopsAtLine Stands h rest taken taken' result
  line_stops h' None said taken taken' result hears wrote = (4, said, line_unwritten h' hears, wrote)
  line_stops h' (Some end) said taken taken' result hears wrote = (status_of (Some end), said, line_is_last hears, wrote)

  -- what is said of a line ends the talk, or isn't taken
  pub line_stops_it : (h' : Hearing) (ends : Option End) (said : List ℕ) (taken taken' : Option (List ℕ)) (r : Option ℕ)
      → Hears Stands h rest said (after ends h') → IfSome r (λ s. Writes taken taken' (status_of ends) said s)
      → IfSome r (λ s. StopsAtLine Stands h rest taken taken' s)
  line_stops_it h' ends said taken taken' None hears wrote = tt
  line_stops_it h' ends said taken taken' (Some s) hears wrote = line_stops h' ends said taken taken' s hears wrote

  pub line_spent : (taken taken' : Option (List ℕ)) (result : ℕ) → Writes taken taken' 5 out_of_memory result
      → StopsAtLine Stands h rest taken taken' result
  line_spent taken taken' result wrote = (5, out_of_memory, line_unheard, wrote)

  pub end_finished : (taken taken' : Option (List ℕ)) (status : ℕ) (said : List ℕ) (number : ℕ) (text : List ℕ) (result : ℕ)
      → number ≡ status
      → text ≡ said → Finishes Stands h rest status said → Writes taken taken' number text result
      → StopsAtEnd Stands h rest taken taken' result
  end_finished taken taken' status said number text result same are finishes wrote = (
    status,
    said,
    finished finishes,
    subst (λ n. Writes taken taken' n said result) same (subst (λ t. Writes taken taken' number t result) are wrote),
  )

  pub end_spent : (taken taken' : Option (List ℕ)) (result : ℕ) → Writes taken taken' 5 out_of_memory result
      → StopsAtEnd Stands h rest taken taken' result
  end_spent taken taken' result wrote = (5, out_of_memory, end_unheard, wrote)

  feed_stops : (b : ℕ) (taken taken' : Option (List ℕ)) (result : ℕ) → b ≡ 10 → StopsAtLine Stands h rest taken taken' result
      → StopsAtByte Stands h rest b taken taken' result
  feed_stops b taken taken' result is stops =
      (stops.0, stops.1, subst (λ c. ByteStops Stands h rest c stops.0 stops.1) (sym is) (at_feed stops.2), stops.3)

  pub feed_stops_it : (line : List ℕ) (b : ℕ) (taken taken' : Option (List ℕ)) (r : Option ℕ) → line ≡ rest → b ≡ 10
      → IfSome r (λ s. StopsAtLine Stands h line taken taken' s) → IfSome r (λ s. StopsAtByte Stands h rest b taken taken' s)
  feed_stops_it line b taken taken' None same is stops = tt
  feed_stops_it line b taken taken' (Some s) same is stops =
      feed_stops b taken taken' s is (subst (λ l. StopsAtLine Stands h l taken taken' s) same stops)

  pub byte_spent : (b : ℕ) (taken taken' : Option (List ℕ)) (result : ℕ) → Writes taken taken' 5 out_of_memory result
      → StopsAtByte Stands h rest b taken taken' result
  byte_spent b taken taken' result wrote = (5, out_of_memory, byte_unheard, wrote)

  stops_with : (b : ℕ) (left left' taken taken' : Option (List ℕ)) (result : ℕ) → Consumes left left' (b ∷ [])
      → StopsAtByte Stands h rest b taken taken' result → StopsSo Stands h rest left left' taken taken' result
  stops_with b left left' taken taken' result gives stops = (b ∷ [], gives, (stops.0, stops.1, at_byte stops.2, stops.3))

  pub byte_stops_it : (b : ℕ) (left left' taken taken' : Option (List ℕ)) (r : Option ℕ) → Consumes left left' (b ∷ [])
      → IfSome r (λ s. StopsAtByte Stands h rest b taken taken' s) → IfSome r (λ s. StopsSo Stands h rest left left' taken taken' s)
  byte_stops_it b left left' taken taken' None gives stops = tt
  byte_stops_it b left left' taken taken' (Some s) gives stops = stops_with b left left' taken taken' s gives stops

  -- nothing was given
  kept_all : (left left' : Option (List ℕ)) → Keeps left left' → Consumes left left' []
  kept_all None left' kept = tt
  kept_all (Some x) None kept = absurd kept
  kept_all (Some x) (Some y) kept = sym kept

  pub stops_without : (line : List ℕ) (left left' taken taken' : Option (List ℕ)) (result : ℕ) → line ≡ rest → Keeps left left'
      × IsAtEnd left'
      → StopsAtEnd Stands h line taken taken' result → StopsSo Stands h rest left left' taken taken' result
  stops_without line left left' taken taken' result same ended at_line =
      let stops : StopsAtEnd Stands h rest taken taken' result = subst (λ l. StopsAtEnd Stands h l taken taken' result) same at_line in
      ([], kept_all left left' ended.0, (stops.0, stops.1, at_end ended.1 stops.2, stops.3))

  pub stops_unread : (left left' taken taken' : Option (List ℕ)) (result : ℕ) → Keeps left left'
      → Writes taken taken' 3 cannot_read_input result → StopsSo Stands h rest left left' taken taken' result
  stops_unread left left' taken taken' result kept wrote = ([], kept_all left left' kept, (3, cannot_read_input, byte_unread, wrote))
