-- A talk in its midst takes one byte more, or ends.
use Rattle.std.proofs.Common.{◌≡◌, ◌≢◌, ◌⊎◌, inl, inr, ℕ, ◌+◌, ◌<◌, ◌≤◌, List, [], ◌∷◌, ◌++◌, length, take, Option, None, Some}
use Rattle.std.proofs.Common.{refl, sym, ap, ◌∙◌, subst, arith, append_assoc, append-nil, length-append}
use Rattle.std.proofs.KnownBytes.{Appends-trans, Consumes-trans, Consumes-nil}
use Rattle.std.proofs.Math.Seq.{take-append-add, take-length}
use Rattle.std.specs.Io.KnownBytes.{Appends, Consumes, IsAtEnd, Keeps}
use Rattle.wf_answers.specs.Inputs.{InputsTree}
use Rattle.wf_lines.specs.Lines.{lines_of}
use Rattle.wf_talk.specs.Byte.{ByteStops, at_feed, byte_unheard, EndStops, finished, end_unheard, HearsRest, IsLast}
use Rattle.wf_talk.specs.Byte.{LineStops, line_is_last, line_unwritten, line_unheard, Listens, Stops, at_byte, at_end, byte_unread}
use Rattle.wf_talk.specs.Byte.{StopsSo, TakesByte}
use Rattle.wf_talk.specs.Hearing.{After, Goes, Hearing, Over, opening}
use Rattle.wf_talk.specs.Keys.{open_lines}
use Rattle.wf_talk.specs.Says.{Hears, Says, SaysWhere, at_first, and_then}
use Rattle.wf_talk.specs.Seen.{after, status_of}
use Rattle.wf_talk.specs.Standing.{Standing}
use Rattle.wf_talk.specs.Talks.{Closes, over, over_at_end, still_open, too_many, unread, spent, spent_at_once, unwritten, HasSaid, Talks}
use Rattle.wf_talk.specs.Talks.{input_ended, most_bytes, out_of_memory, too_long}
use Rattle.wf_talk.specs.declared.said.End.{End}
use Rattle.wf_talk.specs.Whole.{rest_of, unended, whole_lines}
use Rattle.wf_talk.specs.Written.{AppendsAtLeast, Writes}
use Rattle.wf_talk.proofs.WholeLemmas.{lines_split, rest-feed, rest-other, whole-feed, whole-first, whole-other}

-- ---- what was taken

-- nothing more was taken
kept_nothing : (a b : Option (List ℕ)) → Keeps a b → Appends a b []
kept_nothing None b kept = tt
kept_nothing (Some x) None kept = absurd kept
kept_nothing (Some x) (Some y) kept = kept ∙ sym (append-nil x)

-- of what is written something is taken
taken_some : (a b : Option (List ℕ)) (status : ℕ) (said : List ℕ) (result : ℕ) → Writes a b status said result
    → (more : List ℕ) × Appends a b more
taken_some a b status said result (inl w) = (said, w.1)
taken_some a b status said result (inr w) = (take w.1.0 said, w.1.2)

-- what was taken at least, and then more
at_least : (a b c : Option (List ℕ)) (text more : List ℕ) → AppendsAtLeast a b text → Appends b c more → AppendsAtLeast a c text
at_least a b c text more first then =
    (first.0 ++ more, subst (Appends a c) (append_assoc text first.0 more) (Appends-trans a b c (text ++ first.0) more first.1 then))

-- a text was taken, and what is written then is written behind it
written_behind : (a b c : Option (List ℕ)) (text said : List ℕ) (status result : ℕ) → Appends a b text → Writes b c status said result
    → Writes a c status (text ++ said) result
written_behind a b c text said status result first (inl w) = inl (w.0, Appends-trans a b c text said first w.1)
written_behind a b c text said status result first (inr w) =
    inr (
      w.0,
      (
        length text + w.1.0,
        omega (arith, w.1.1, length-append text said),
        subst (Appends a c) (sym (take-append-add text said w.1.0)) (Appends-trans a b c text (take w.1.0 said) first w.1.2),
      ),
    )

-- ---- fronts of what was given

-- what stands before a byte is before the last one, or all the others
pub last_front : (xs front back : List ℕ) (x b : ℕ) → xs ++ x ∷ [] ≡ front ++ b ∷ back
    → (front ≡ xs) ⊎ ((rest : List ℕ) × (xs ≡ front ++ b ∷ rest))
last_front [] [] back x b is = inl refl
last_front [] (c ∷ front) back x b is = absurd (omega (arith, ap length is, length-append front (b ∷ back)))
last_front (y ∷ xs) [] back x b is = let same : y ≡ b = cc in inr (xs, ap (λ c. c ∷ xs) same)
last_front (y ∷ xs) (c ∷ front) back x b is =
    let same : y ≡ c = cc in
    let later : xs ++ x ∷ [] ≡ front ++ b ∷ back = cc in
    elim (last_front xs front back x b later) as (λ _. ((c ∷ front) ≡ y ∷ xs) ⊎ ((rest : List ℕ) × (y ∷ xs ≡ c ∷ front ++ b ∷ rest))) [
      | inl all ↦ inl cc
      | inr w ↦ let at : xs ≡ front ++ b ∷ w.0 = w.1 in inr (w.0, cc)
    ]

module _ (Stands : InputsTree → Standing → Type 0) (inputs : InputsTree) where
  said_still : (a b c : Option (List ℕ)) (more given : List ℕ) → Appends b c more → HasSaid Stands inputs a b given
      → HasSaid Stands inputs a c given
  said_still a b c more given then had =
      record { said = had.said; h = had.h; says = had.says; taken_all = at_least a b c had.said more had.taken_all then }

  -- what was said before each byte, where one more is given
  said_before : (a b c : Option (List ℕ)) (given said more : List ℕ) (h : Hearing) (x : ℕ)
      → Says Stands inputs (whole_lines given) said (Goes h)
      → Appends a b said → Appends b c more
      → ((front back : List ℕ) (y : ℕ) → given ≡ front ++ y ∷ back → HasSaid Stands inputs a b front)
      → (front back : List ℕ) (y : ℕ) → given ++ x ∷ [] ≡ front ++ y ∷ back → HasSaid Stands inputs a c front
  said_before a b c given said more h x says wrote then before front back y is =
      elim (last_front given front back x y is) as (λ _. HasSaid Stands inputs a c front) [
        | inl all ↦ subst (HasSaid Stands inputs a c) (sym all)
            (record { said = said; h = h; says = says; taken_all = (more, Appends-trans a b c said more wrote then) })
        | inr w ↦ said_still a b c more front then (before front w.0 y w.1)
      ]

  module _ (left left' left'' taken taken' taken'' : Option (List ℕ)) (h : Hearing) (rest : List ℕ) (count : ℕ)
      (l : Listens Stands inputs left left' taken taken' h rest count) where
    -- ---- it goes on

    taken_on : (b : ℕ) (more : List ℕ) (h' : Hearing) (rest' : List ℕ) → Consumes left' left'' (b ∷ []) → Appends taken' taken'' more
        → Says Stands inputs (whole_lines (l.given ++ b ∷ [])) (l.said ++ more) (Goes h') → rest_of (l.given ++ b ∷ []) ≡ rest'
        → Listens Stands inputs left left'' taken taken'' h' rest' (count + 1)
    taken_on b more h' rest' gives takes says rest_is = record {
      given = l.given ++ b ∷ [];
      said = l.said ++ more;
      gave = Consumes-trans left left' left'' l.given (b ∷ []) l.gave gives;
      counted = length-append l.given (b ∷ []) ∙ ap (λ n. n + 1) l.counted;
      says = says;
      rest_is = rest_is;
      wrote = Appends-trans taken taken' taken'' l.said more l.wrote takes;
      before = said_before taken taken' taken'' l.given l.said more h b l.says l.wrote takes l.before;
    }

    -- a line feed makes a line of the bytes behind the last one
    line_whole : whole_lines (l.given ++ 10 ∷ []) ≡ whole_lines l.given ++ rest ∷ []
    line_whole = whole-feed l.given ∙ ap (λ r. whole_lines l.given ++ r ∷ []) l.rest_is

    line_said : (more : List ℕ) (after : After) → Hears Stands h rest more after
        → Says Stands inputs (whole_lines (l.given ++ 10 ∷ [])) (l.said ++ more) after
    line_said more after hears =
        subst (λ lines. Says Stands inputs lines (l.said ++ more) after) (sym line_whole) (and_then rest more l.says hears)

    -- another byte makes none
    nothing_said : (b : ℕ) (h' : Hearing) → b ≢ 10 → h' ≡ h → Says Stands inputs (whole_lines (l.given ++ b ∷ [])) (l.said ++ []) (Goes h')
    nothing_said b h' apart same =
        subst (λ lines. Says Stands inputs lines (l.said ++ []) (Goes h')) (sym (whole-other l.given b apart))
        (subst (λ said. Says Stands inputs (whole_lines l.given) said (Goes h')) (sym (append-nil l.said))
        (subst (λ g. Says Stands inputs (whole_lines l.given) l.said (Goes g)) (sym same) l.says))

    pub goes_on : (h' : Hearing) (rest' : List ℕ) → TakesByte Stands h rest left' left'' taken' taken'' h' rest'
        → Listens Stands inputs left left'' taken taken'' h' rest' (count + 1)
    goes_on h' rest' t =
        elim t.2 as (λ _. Listens Stands inputs left left'' taken taken'' h' rest' (count + 1)) [
          | inl w ↦ taken_on t.0 w.1.0 h' rest' t.1 w.1.2
              (subst (λ b. Says Stands inputs (whole_lines (l.given ++ b ∷ [])) (l.said ++ w.1.0) (Goes h')) (sym w.0)
              (line_said w.1.0 (Goes h') w.1.1))
              (ap (λ b. rest_of (l.given ++ b ∷ [])) w.0 ∙ rest-feed l.given ∙ sym w.2)
          | inr w ↦ taken_on t.0 [] h' rest' t.1 (kept_nothing taken' taken'' w.1) (nothing_said t.0 h' w.0 w.2)
              (rest-other l.given t.0 w.0 ∙ ap (λ r. r ++ t.0 ∷ []) l.rest_is ∙ sym w.3)
        ]

    -- ---- it ends with a byte

    line_closes : {status : ℕ} {said : List ℕ} → LineStops Stands h rest status said
        → Closes Stands inputs (l.given ++ 10 ∷ []) left'' status (l.said ++ said)
    line_closes (line_is_last hears) = over (rest-feed l.given) (line_said _ _ hears)
    line_closes (line_unwritten h' hears) = unwritten (line_said _ (Goes h') hears)
    line_closes line_unheard =
        spent (length (whole_lines l.given)) (subst (λ lines. Says Stands inputs lines l.said (Goes h)) (sym (whole-first l.given 10))
        l.says)

    byte_closes : {b status : ℕ} {said : List ℕ} → ByteStops Stands h rest b status said
        → Closes Stands inputs (l.given ++ b ∷ []) left'' status (l.said ++ said)
    byte_closes (at_feed stops) = line_closes stops
    byte_closes (byte_unheard {b = b}) =
        spent (length (whole_lines l.given)) (subst (λ lines. Says Stands inputs lines l.said (Goes h)) (sym (whole-first l.given b))
        l.says)

    ends_with : (b status : ℕ) (said : List ℕ) (result : ℕ) → count < most_bytes → Consumes left' left'' (b ∷ [])
        → Closes Stands inputs (l.given ++ b ∷ []) left'' status (l.said ++ said) → Writes taken' taken'' status said result
        → Talks Stands inputs left left'' taken taken'' result
    ends_with b status said result few gives closes writes =
        let some = taken_some taken' taken'' status said result writes in
        record {
          given = l.given ++ b ∷ [];
          status = status;
          said = l.said ++ said;
          gave = Consumes-trans left left' left'' l.given (b ∷ []) l.gave gives;
          within = omega (arith, few, l.counted, length-append l.given (b ∷ []));
          closes = closes;
          writes = written_behind taken taken' taken'' l.said said status result l.wrote writes;
          before = said_before taken taken' taken'' l.given l.said some.0 h b l.says l.wrote some.1 l.before;
        }

    -- ---- it ends without one

    -- what was given is as it was
    gave_nothing : Consumes left' left'' [] → Consumes left left'' l.given
    gave_nothing gives = subst (Consumes left left'') (append-nil l.given) (Consumes-trans left left' left'' l.given [] l.gave gives)

    ends_without : (status : ℕ) (said : List ℕ) (result : ℕ) → count ≤ most_bytes → Consumes left' left'' []
        → Closes Stands inputs l.given left'' status (l.said ++ said) → Writes taken' taken'' status said result
        → Talks Stands inputs left left'' taken taken'' result
    ends_without status said result few gives closes writes =
        let some = taken_some taken' taken'' status said result writes in
        record {
          given = l.given;
          status = status;
          said = l.said ++ said;
          gave = gave_nothing gives;
          within = omega (arith, few, l.counted);
          closes = closes;
          writes = written_behind taken taken' taken'' l.said said status result l.wrote writes;
          before = λ front back b is. said_still taken taken' taken'' some.0 front some.1 (l.before front back b is);
        }

    -- the bytes behind the last line feed
    rest_said : (r said : List ℕ) (next : After) → HearsRest Stands h r said next
        → Says Stands inputs (whole_lines l.given ++ unended r) (l.said ++ said) next
    rest_said [] said next hears =
        subst (λ lines. Says Stands inputs lines (l.said ++ said) next) (sym (append-nil (whole_lines l.given)))
        (subst (λ more. Says Stands inputs (whole_lines l.given) (l.said ++ more) next) (sym hears.0)
        (subst (λ more. Says Stands inputs (whole_lines l.given) more next) (sym (append-nil l.said))
        (subst (Says Stands inputs (whole_lines l.given) l.said) (sym hears.1) l.says)))
    rest_said (b ∷ r) said next hears = and_then (b ∷ r) said l.says hears

    all_said : (said : List ℕ) (next : After) → HearsRest Stands h rest said next
        → Says Stands inputs (lines_of l.given) (l.said ++ said) next
    all_said said next hears =
        subst (λ lines. Says Stands inputs lines (l.said ++ said) next)
        (sym (lines_split l.given ∙ ap (λ r. whole_lines l.given ++ unended r) l.rest_is)) (rest_said rest said next hears)

    last_closes : (next : After) (said : List ℕ) (status : ℕ) (text : List ℕ) → IsAtEnd left'' → length l.given < most_bytes
        → Says Stands inputs (lines_of l.given) (l.said ++ said) next → IsLast next said status text
        → Closes Stands inputs l.given left'' status (l.said ++ text)
    last_closes (Goes g) said status text end few says last =
        let whole : (l.said ++ said) ++ (open_lines g.wanted ++ input_ended) ≡ l.said ++ text =
        append_assoc l.said said (open_lines g.wanted ++ input_ended) ∙ ap (λ t. l.said ++ t) (sym last.1) in
        subst (λ s. Closes Stands inputs l.given left'' s (l.said ++ text)) (sym last.0)
        (subst (Closes Stands inputs l.given left'' 9) whole (still_open end few says))
    last_closes (Over s) said status text end few says last =
        subst (λ n. Closes Stands inputs l.given left'' n (l.said ++ text)) (sym last.0)
        (subst (λ t. Closes Stands inputs l.given left'' s (l.said ++ t)) (sym last.1) (over_at_end end few says))

    end_closes : {status : ℕ} {said : List ℕ} → IsAtEnd left'' → length l.given < most_bytes → EndStops Stands h rest status said
        → Closes Stands inputs l.given left'' status (l.said ++ said)
    end_closes end few (finished f) = last_closes f.1 f.0 _ _ end few (all_said f.0 f.1 f.2) f.3
    end_closes end few end_unheard =
        spent (length (whole_lines l.given))
        (subst (λ lines. Says Stands inputs lines l.said (Goes h)) (sym (take-length (whole_lines l.given))) l.says)

    -- ---- all ends

    stopped : {given : List ℕ} {status : ℕ} {said : List ℕ} (result : ℕ) → count < most_bytes → Stops Stands h rest given left'' status said
        → Consumes left' left'' given → Writes taken' taken'' status said result → Talks Stands inputs left left'' taken taken'' result
    stopped result few (at_byte stops) gives writes = ends_with _ _ _ result few gives (byte_closes stops) writes
    stopped result few (at_end end stops) gives writes =
        ends_without _ _ result (omega (arith, few)) gives (end_closes end (omega (arith, few, l.counted)) stops) writes
    stopped result few byte_unread gives writes =
        ends_without _ _ result (omega (arith, few)) gives (unread (omega (arith, few, l.counted)) l.says) writes

    pub stops : (result : ℕ) → count < most_bytes → StopsSo Stands h rest left' left'' taken' taken'' result
        → Talks Stands inputs left left'' taken taken'' result
    stops result few s = stopped result few s.2.2 s.1 s.2.3

  pub stops_full : (left left' taken taken' taken'' : Option (List ℕ)) (h : Hearing) (rest : List ℕ) (count result : ℕ)
      → Listens Stands inputs left left' taken taken' h rest count → count ≡ most_bytes → Writes taken' taken'' 6 too_long result
      → Talks Stands inputs left left' taken taken'' result
  stops_full left left' taken taken' taken'' h rest count result l full writes =
      ends_without left left' left' taken taken' taken'' h rest count l 6 too_long result (omega (arith, full)) (Consumes-nil left')
      (too_many (l.counted ∙ full) l.says) writes

  -- ---- it begins

  no_front : {P : Type 0} (front back : List ℕ) (b : ℕ) → [] ≡ front ++ b ∷ back → P
  no_front front back b is = absurd (omega (arith, ap length is, length-append front (b ∷ back)))

  pub begins : (left taken taken' : Option (List ℕ)) (text : List ℕ) (h : Hearing) → SaysWhere Stands (opening inputs) text (Goes h)
      → Appends taken taken' text → Listens Stands inputs left left taken taken' h [] 0
  begins left taken taken' text h says wrote = record {
    given = [];
    said = text;
    gave = Consumes-nil left;
    counted = refl;
    says = at_first says;
    rest_is = refl;
    wrote = wrote;
    before = λ front back b is. no_front front back b is;
  }

  ends_at_once : (left taken taken' : Option (List ℕ)) (status : ℕ) (text : List ℕ) (result : ℕ) → Closes Stands inputs [] left status text
      → Writes taken taken' status text result → Talks Stands inputs left left taken taken' result
  ends_at_once left taken taken' status text result closes writes = record {
    given = [];
    status = status;
    said = text;
    gave = Consumes-nil left;
    within = omega arith;
    closes = closes;
    writes = writes;
    before = λ front back b is. no_front front back b is;
  }

  opening_closes : (left : Option (List ℕ)) (end : Option End) (h : Hearing) (text : List ℕ)
      → SaysWhere Stands (opening inputs) text (after end h)
      → Closes Stands inputs [] left (status_of end) text
  opening_closes left None h text says = unwritten (at_first says)
  opening_closes left (Some end) h text says = over refl (at_first says)

  pub over_at_once : (left taken taken' : Option (List ℕ)) (end : Option End) (h : Hearing) (text : List ℕ) (result : ℕ)
      → SaysWhere Stands (opening inputs) text (after end h) → Writes taken taken' (status_of end) text result
      → Talks Stands inputs left left taken taken' result
  over_at_once left taken taken' end h text result says writes =
      ends_at_once left taken taken' (status_of end) text result (opening_closes left end h text says) writes

  pub spent_first : (left taken taken' : Option (List ℕ)) (result : ℕ) → Writes taken taken' 5 out_of_memory result
      → Talks Stands inputs left left taken taken' result
  spent_first left taken taken' result writes = ends_at_once left taken taken' 5 out_of_memory result (spent_at_once refl) writes

-- ---- a run that goes by an origin, which is the same as before

module _ {Origin : Type 0} (stands : Origin → InputsTree → Standing → Type 0) (o o' : Origin) (inputs : InputsTree)
    (left left' left'' taken taken' taken'' : Option (List ℕ)) (h : Hearing) where
  pub listens_on : (h' : Hearing) (rest rest' : List ℕ) (count : ℕ) → o' ≡ o
      → Listens (stands o) inputs left left' taken taken' h rest count
      → TakesByte (stands o') h rest left' left'' taken' taken'' h' rest'
      → Listens (stands o) inputs left left'' taken taken'' h' rest' (count + 1)
  listens_on h' rest rest' count same l takes =
      goes_on (stands o) inputs left left' left'' taken taken' taken'' h rest count l h' rest'
      (subst (λ p. TakesByte (stands p) h rest left' left'' taken' taken'' h' rest') same takes)

  pub stops_on : (rest : List ℕ) (count result : ℕ) → o' ≡ o → count < 67108864
      → Listens (stands o) inputs left left' taken taken' h rest count
      → StopsSo (stands o') h rest left' left'' taken' taken'' result → Talks (stands o) inputs left left'' taken taken'' result
  stops_on rest count result same few l stopped_so =
      stops (stands o) inputs left left' left'' taken taken' taken'' h rest count l result few
      (subst (λ p. StopsSo (stands p) h rest left' left'' taken' taken'' result) same stopped_so)

pub holds_on : {Origin : Type 0} (stands : Origin → InputsTree → Standing → Type 0) (o o' : Origin) (inputs : InputsTree)
    (left left' taken taken' taken'' : Option (List ℕ)) (h : Hearing) (end : Option End) (text : List ℕ) (result : ℕ) → end ≡ None → o' ≡ o
    → SaysWhere (stands o) (opening inputs) text (after end h) → Appends taken taken' text
    → ((i : InputsTree) (l t : Option (List ℕ)) → Listens (stands o') i l left t taken' h [] 0
    → Talks (stands o') i l left' t taken'' result)
    → Talks (stands o) inputs left left' taken taken'' result
holds_on stands o o' inputs left left' taken taken' taken'' h end text result goes same says wrote talks =
    subst (λ p. Talks (stands p) inputs left left' taken taken'' result) same
    (talks inputs left taken (subst (λ p. Listens (stands p) inputs left left taken taken' h [] 0) (sym same)
    (begins (stands o) inputs left taken taken' text h (subst (λ e. SaysWhere (stands o) (opening inputs) text (after e h)) goes says)
    wrote)))
