-- What an edit of one chunk, or of two that stand side by side, makes of all cells.
use Rattle.std.proofs.Common.{◌≡◌, ◌<◌, ◌≤◌, ◌+◌, ◌-◌, ◌*◌, ℕ, zero, suc, List, [], ◌∷◌, ◌++◌, length, get_or, set, slice_get, insert, remove, Option, Some, None, Result, Ok, Err, OnErr, refl, sym, ap, ◌∙◌, subst, arith, append_assoc, append-nil, length-append, length-set}
use Rattle.std.proofs.lemmas.List.Edits.{length-insert, length-remove, insert-append_left, insert-append_right, remove-append_left, remove-append_right}
use Rattle.std.proofs.lemmas.List.{set-append_left, set-append_right}
use Rattle.std.proofs.lemmas.Option.{none-some}
use Rattle.wf_room.specs.Cells.{all_cells, AreEven, AreFull, IsLastShort, HasHole}
use native.Mathlib.Numerals.{unary_clauses}

module _ {X : Type 0} where
  get-front : (xs ys : List X) (i : ℕ) → i < length xs → slice_get (xs ++ ys) i ≡ slice_get xs i
  get-front [] ys i within = absurd (omega arith)
  get-front (x ∷ xs) ys zero within = refl
  get-front (x ∷ xs) ys (suc i) within = get-front xs ys i (omega arith)

  get-behind : (xs ys : List X) (n i : ℕ) → length xs ≡ n → n ≤ i → slice_get (xs ++ ys) i ≡ slice_get ys (i - n)
  get-behind [] ys n i count place = ap (slice_get ys) (omega (arith, count, place))
  get-behind (x ∷ xs) ys n zero count place = absurd (omega (arith, count, place))
  get-behind (x ∷ xs) ys n (suc i) count place =
      let less : i - length xs ≡ suc i - n = omega (arith, count) in
      get-behind xs ys (length xs) i refl (omega (arith, count, place)) ∙ ap (slice_get ys) less

  -- the chunk of a place, and the place inside it
  pub within : (chunks : List (List X × ℕ)) (p k o : ℕ) (c : List X × ℕ) → p ≡ k * 1024 + o → AreEven chunks
      → p < length (all_cells chunks) → o < 1024 → record { chunk : k < length chunks; inside : c ≡ get_or chunks k c → o < length c.0 }
  within [] p k o c at even place small = absurd (omega (arith, place))
  within (d ∷ []) p zero o c at even place small =
      record { chunk = omega arith; inside = λ is. rw is (omega (arith, at, place, length-append d.0 [])) }
  within (d ∷ []) p (suc k) o c at even place small = absurd (omega (arith, at, place, even.1, length-append d.0 []))
  within (d ∷ e ∷ es) p zero o c at even place small = record { chunk = omega arith; inside = λ is. rw is (omega (arith, even.0, small)) }
  within (d ∷ e ∷ es) p (suc k) o c at even place small =
      let rest = within (e ∷ es) (p - 1024) k o c (omega (arith, at)) even.1
      (omega (arith, at, place, even.0, length-append d.0 (all_cells (e ∷ es)))) small in
      record { chunk = omega (arith, rest.chunk); inside = rest.inside }

  -- the cell at a place
  pub cell-at : (chunks : List (List X × ℕ)) (p k o : ℕ) (c : List X × ℕ) → p ≡ k * 1024 + o → AreEven chunks → k < length chunks
      → c ≡ get_or chunks k c → o < length c.0 → slice_get (all_cells chunks) p ≡ slice_get c.0 o
  cell-at [] p k o c at even chunk is inside = absurd (omega (arith, chunk))
  cell-at (d ∷ ds) p zero o c at even chunk is inside =
      let same : p ≡ o = omega (arith, at) in
      let first : o < length d.0 = subst (λ e. o < length e.0) is inside in
      ap (slice_get (all_cells (d ∷ ds))) same ∙ get-front d.0 (all_cells ds) o first ∙ ap (λ e. slice_get e.0 o) (sym is)
  cell-at (d ∷ []) p (suc k) o c at even chunk is inside = absurd (omega (arith, chunk))
  cell-at (d ∷ e ∷ es) p (suc k) o c at even chunk is inside =
      get-behind d.0 (all_cells (e ∷ es)) 1024 p even.0 (omega (arith, at))
      ∙ cell-at (e ∷ es) (p - 1024) k o c (omega (arith, at)) even.1 (omega (arith, chunk)) is inside

  -- what is even, or has a hole, is so behind a full chunk
  even-behind : (d : List X × ℕ) (ds : List (List X × ℕ)) → length d.0 ≡ 1024 → AreEven ds → AreEven (d ∷ ds)
  even-behind d [] full even = (omega (arith, full), omega (arith, full))
  even-behind d (e ∷ es) full even = (full, even)

  hole-behind : (d : List X × ℕ) (ds : List (List X × ℕ)) (k : ℕ) → length d.0 ≡ 1024 → HasHole k ds → HasHole (suc k) (d ∷ ds)
  hole-behind d [] k full hole = absurd hole
  hole-behind d (e ∷ es) k full hole = (full, hole)

  -- another chunk of as many cells in the place of one
  abbrev pub IsSetIn : List (List X × ℕ) → ℕ → ℕ → X → List X × ℕ → Type 0
  IsSetIn chunks k p x c' = record { cells : all_cells (set chunks k c') ≡ set (all_cells chunks) p x; even : AreEven (set chunks k c') }

  set-first : (d : List X × ℕ) (ds : List (List X × ℕ)) (p o : ℕ) (c c' : List X × ℕ) (x : X) → p ≡ o → c ≡ d → o < length c.0
      → c'.0 ≡ set c.0 o x → record { cells : all_cells (c' ∷ ds) ≡ set (all_cells (d ∷ ds)) p x; count : length c'.0 ≡ length d.0 }
  set-first d ds p o c c' x at is inside made =
      let within : p < length d.0 = rw (at, ← is) inside in
      let made' : c'.0 ≡ set d.0 p x = rw (at, ← is) made in
      record {
        cells = ap (λ xs. xs ++ all_cells ds) made' ∙ sym (set-append_left d.0 (all_cells ds) p x within);
        count = ap length made' ∙ length-set d.0 p x;
      }

  -- a cell is written over
  pub cell-set : (chunks : List (List X × ℕ)) (p k o : ℕ) (c c' : List X × ℕ) (x : X) → p ≡ k * 1024 + o → AreEven chunks
      → k < length chunks → c ≡ get_or chunks k c → o < length c.0 → c'.0 ≡ set c.0 o x → IsSetIn chunks k p x c'
  cell-set [] p k o c c' x at even chunk is inside made = absurd (omega (arith, chunk))
  cell-set (d ∷ []) p zero o c c' x at even chunk is inside made =
      let first = set-first d [] p o c c' x (omega (arith, at)) is inside made in
      record { cells = first.cells; even = (omega (arith, even.0, first.count), omega (arith, even.1, first.count)) }
  cell-set (d ∷ []) p (suc k) o c c' x at even chunk is inside made = absurd (omega (arith, chunk))
  cell-set (d ∷ e ∷ es) p zero o c c' x at even chunk is inside made =
      let first = set-first d (e ∷ es) p o c c' x (omega (arith, at)) is inside made in
      record { cells = first.cells; even = (first.count ∙ even.0, even.1) }
  cell-set (d ∷ e ∷ es) p (suc k) o c c' x at even chunk is inside made =
      let rest = cell-set (e ∷ es) (p - 1024) k o c c' x (omega (arith, at)) even.1 (omega (arith, chunk)) is inside made in
      record {
        cells = ap (λ xs. d.0 ++ xs) rest.cells
            ∙ sym (set-append_right d.0 (all_cells (e ∷ es)) 1024 p x even.0 (omega (arith, at)));
        even = even-behind d (set (e ∷ es) k c') even.0 rest.even;
      }

  -- a cell is taken out, so its chunk lacks one
  taken-first : (d : List X × ℕ) (ds : List (List X × ℕ)) (p o : ℕ) (c c' : List X × ℕ) → p ≡ o → c ≡ d → o < length c.0
      → c'.0 ≡ remove c.0 o → record { rest : all_cells (c' ∷ ds) ≡ remove (all_cells (d ∷ ds)) p; count : length c'.0 + 1 ≡ length d.0 }
  taken-first d ds p o c c' at is inside made =
      let within : p < length d.0 = rw (at, ← is) inside in
      let made' : c'.0 ≡ remove d.0 p = rw (at, ← is) made in
      record {
        rest = ap (λ xs. xs ++ all_cells ds) made' ∙ sym (remove-append_left d.0 (all_cells ds) p within);
        count = omega (arith, ap length made', length-remove d.0 p within);
      }

  abbrev pub IsTakenFrom : List (List X × ℕ) → ℕ → ℕ → List X × ℕ → Type 0
  IsTakenFrom chunks k p c' = record {
    rest : all_cells (set chunks k c') ≡ remove (all_cells chunks) p;
    hole : HasHole k (set chunks k c');
  }

  pub cell-taken : (chunks : List (List X × ℕ)) (p k o : ℕ) (c c' : List X × ℕ) → p ≡ k * 1024 + o → AreEven chunks
      → k < length chunks → c ≡ get_or chunks k c → o < length c.0 → c'.0 ≡ remove c.0 o → 0 < c'.1 → IsTakenFrom chunks k p c'
  cell-taken [] p k o c c' at even chunk is inside made room = absurd (omega (arith, chunk))
  cell-taken (d ∷ []) p zero o c c' at even chunk is inside made room =
      let first = taken-first d [] p o c c' (omega (arith, at)) is inside made in
      record { rest = first.rest; hole = (omega (arith, even.1, first.count), room) }
  cell-taken (d ∷ []) p (suc k) o c c' at even chunk is inside made room = absurd (omega (arith, chunk))
  cell-taken (d ∷ e ∷ es) p zero o c c' at even chunk is inside made room =
      let first = taken-first d (e ∷ es) p o c c' (omega (arith, at)) is inside made in
      record { rest = first.rest; hole = (first.count ∙ even.0, room, even.1) }
  cell-taken (d ∷ e ∷ es) p (suc k) o c c' at even chunk is inside made room =
      let rest = cell-taken (e ∷ es) (p - 1024) k o c c' (omega (arith, at)) even.1 (omega (arith, chunk)) is inside made room in
      record {
        rest = ap (λ xs. d.0 ++ xs) rest.rest ∙ sym (remove-append_right d.0 (all_cells (e ∷ es)) 1024 p even.0 (omega (arith, at)));
        hole = hole-behind d (set (e ∷ es) k c') k even.0 rest.hole;
      }

  -- the chunk that lacks a cell
  pub lacking : (chunks : List (List X × ℕ)) (k : ℕ) (c : List X × ℕ) → HasHole k chunks
      → record { chunk : k < length chunks; room : c ≡ get_or chunks k c → 0 < c.1 }
  lacking [] k c hole = absurd hole
  lacking (d ∷ []) zero c hole = record { chunk = omega arith; room = λ is. rw is hole.1 }
  lacking (d ∷ []) (suc k) c hole = absurd hole
  lacking (d ∷ e ∷ es) zero c hole = record { chunk = omega arith; room = λ is. rw is hole.1 }
  lacking (d ∷ e ∷ es) (suc k) c hole =
      let rest = lacking (e ∷ es) k c hole.1 in record { chunk = omega (arith, rest.chunk); room = rest.room }

  -- a cell is put into the chunk that lacks one
  put-first : (d : List X × ℕ) (ds : List (List X × ℕ)) (p o : ℕ) (c c' : List X × ℕ) (x : X) → p ≡ o → c ≡ d → o ≤ length d.0
      → c'.0 ≡ insert c.0 o x
      → record { cells : all_cells (c' ∷ ds) ≡ insert (all_cells (d ∷ ds)) p x; count : length c'.0 ≡ length d.0 + 1 }
  put-first d ds p o c c' x at is inside made =
      let within : p ≤ length d.0 = rw at inside in
      let made' : c'.0 ≡ insert d.0 p x = rw (at, ← is) made in
      record {
        cells = ap (λ xs. xs ++ all_cells ds) made' ∙ sym (insert-append_left d.0 (all_cells ds) p x within);
        count = ap length made' ∙ length-insert d.0 p x within;
      }

  pub inside-hole : (chunks : List (List X × ℕ)) (p k o : ℕ) (c : List X × ℕ) → p ≡ k * 1024 + o → HasHole k chunks
      → p ≤ length (all_cells chunks) → o < 1024 → c ≡ get_or chunks k c → o ≤ length c.0
  inside-hole [] p k o c at hole place small is = absurd hole
  inside-hole (d ∷ []) p zero o c at hole place small is = rw is (omega (arith, at, place, length-append d.0 []))
  inside-hole (d ∷ []) p (suc k) o c at hole place small is = absurd hole
  inside-hole (d ∷ e ∷ es) p zero o c at hole place small is = rw is (omega (arith, hole.0, small))
  inside-hole (d ∷ e ∷ es) p (suc k) o c at hole place small is =
      inside-hole (e ∷ es) (p - 1024) k o c (omega (arith, at)) hole.1
      (omega (arith, at, place, hole.0, length-append d.0 (all_cells (e ∷ es)))) small is

  abbrev pub IsPutIn : List (List X × ℕ) → ℕ → ℕ → X → List X × ℕ → Type 0
  IsPutIn chunks k p x c' = record { cells : all_cells (set chunks k c') ≡ insert (all_cells chunks) p x; even : AreEven (set chunks k c') }

  pub cell-put : (chunks : List (List X × ℕ)) (p k o : ℕ) (c c' : List X × ℕ) (x : X) → p ≡ k * 1024 + o → HasHole k chunks
      → c ≡ get_or chunks k c → o ≤ length c.0 → c'.0 ≡ insert c.0 o x → IsPutIn chunks k p x c'
  cell-put [] p k o c c' x at hole is inside made = absurd hole
  cell-put (d ∷ []) p zero o c c' x at hole is inside made =
      let first = put-first d [] p o c c' x (omega (arith, at)) is (rw (← is) inside) made in
      record { cells = first.cells; even = (omega (arith, first.count), omega (arith, hole.0, first.count)) }
  cell-put (d ∷ []) p (suc k) o c c' x at hole is inside made = absurd hole
  cell-put (d ∷ e ∷ es) p zero o c c' x at hole is inside made =
      let first = put-first d (e ∷ es) p o c c' x (omega (arith, at)) is (rw (← is) inside) made in
      record { cells = first.cells; even = (first.count ∙ hole.0, hole.2) }
  cell-put (d ∷ e ∷ es) p (suc k) o c c' x at hole is inside made =
      let rest = cell-put (e ∷ es) (p - 1024) k o c c' x (omega (arith, at)) hole.1 is inside made in
      record {
        cells = ap (λ xs. d.0 ++ xs) rest.cells
            ∙ sym (insert-append_right d.0 (all_cells (e ∷ es)) 1024 p x hole.0 (omega (arith, at)));
        even = even-behind d (set (e ∷ es) k c') hole.0 rest.even;
      }

  -- the last cell of a chunk becomes the first one of the next chunk, which lacks one
  pub handing_up : (chunks : List (List X × ℕ)) (k : ℕ) (c : List X × ℕ) → HasHole (suc k) chunks → c ≡ get_or chunks k c
      → record { next : suc k < length chunks; some : 0 < length c.0 }
  handing_up [] k c hole is = absurd hole
  handing_up (a ∷ []) k c hole is = absurd hole
  handing_up (a ∷ b ∷ rest) zero c hole is = record { next = omega arith; some = rw is (omega (arith, hole.0)) }
  handing_up (a ∷ b ∷ rest) (suc k) c hole is =
      let found = handing_up (b ∷ rest) k c hole.1 is in record { next = omega (arith, found.next); some = found.some }

  pub room-up : (chunks : List (List X × ℕ)) (k : ℕ) (c' d : List X × ℕ) → HasHole (suc k) chunks → d ≡ get_or (set chunks k c') (suc k) d
      → 0 < d.1
  room-up [] k c' d hole is = absurd hole
  room-up (a ∷ []) k c' d hole is = absurd hole
  room-up (a ∷ b ∷ []) zero c' d hole is = rw is hole.1.1
  room-up (a ∷ b ∷ e ∷ es) zero c' d hole is = rw is hole.1.1
  room-up (a ∷ b ∷ rest) (suc k) c' d hole is = room-up (b ∷ rest) k c' d hole.1 is

  one-more-first : (b d' : List X × ℕ) (rest : List (List X × ℕ)) → HasHole 0 (b ∷ rest) → length d'.0 ≡ length b.0 + 1
      → AreEven (d' ∷ rest)
  one-more-first b d' [] hole count = (omega (arith, count), omega (arith, hole.0, count))
  one-more-first b d' (e ∷ es) hole count = (count ∙ hole.0, hole.2)

  abbrev pub IsHanded : List (List X × ℕ) → List (List X × ℕ) → ℕ → Type 0
  IsHanded chunks chunks' k = record { cells : all_cells chunks' ≡ all_cells chunks; hole : HasHole k chunks' }

  pub handed_up : (chunks : List (List X × ℕ)) (k : ℕ) (c c' d d' : List X × ℕ) (x : X) → HasHole (suc k) chunks
      → c ≡ get_or chunks k c → d ≡ get_or (set chunks k c') (suc k) d → c.0 ≡ c'.0 ++ x ∷ [] → 0 < c'.1 → d'.0 ≡ x ∷ d.0
      → IsHanded chunks (set (set chunks k c') (suc k) d') k
  handed_up [] k c c' d d' x hole is next less room more = absurd hole
  handed_up (a ∷ []) k c c' d d' x hole is next less room more = absurd hole
  handed_up (a ∷ b ∷ rest) zero c c' d d' x hole is next less room more =
      let less' : a.0 ≡ c'.0 ++ x ∷ [] = rw (← is) less in
      let more' : d'.0 ≡ x ∷ b.0 = rw (← next) more in
      record {
        cells = ap (λ xs. c'.0 ++ (xs ++ all_cells rest)) more' ∙ sym (append_assoc c'.0 (x ∷ []) (b.0 ++ all_cells rest))
            ∙ ap (λ xs. xs ++ (b.0 ++ all_cells rest)) (sym less');
        hole = (
          omega (arith, hole.0, ap length less', length-append c'.0 (x ∷ [])),
          room,
          one-more-first b d' rest hole.1 (omega (arith, ap length more')),
        );
      }
  handed_up (a ∷ b ∷ rest) (suc k) c c' d d' x hole is next less room more =
      let found = handed_up (b ∷ rest) k c c' d d' x hole.1 is next less room more in
      record {
        cells = ap (λ xs. a.0 ++ xs) found.cells;
        hole = hole-behind a (set (set (b ∷ rest) k c') (suc k) d') k hole.0 found.hole;
      }

  -- the first cell of a chunk becomes the last one of the chunk before, which lacks one
  pub handing_down : (chunks : List (List X × ℕ)) (k : ℕ) (d : List X × ℕ) → HasHole k chunks → suc k < length chunks
      → d ≡ get_or chunks (suc k) d → 0 < length d.0
  handing_down [] k d hole within is = absurd hole
  handing_down (a ∷ []) k d hole within is = absurd (omega (arith, within))
  handing_down (a ∷ b ∷ []) zero d hole within is = rw is hole.2.0
  handing_down (a ∷ b ∷ e ∷ es) zero d hole within is = rw is (omega (arith, hole.2.0))
  handing_down (a ∷ b ∷ rest) (suc k) d hole within is = handing_down (b ∷ rest) k d hole.1 (omega (arith, within)) is

  pub room-down : (chunks : List (List X × ℕ)) (k : ℕ) (c d' : List X × ℕ) → HasHole k chunks → suc k < length chunks
      → c ≡ get_or (set chunks (suc k) d') k c → 0 < c.1
  room-down [] k c d' hole within is = absurd hole
  room-down (a ∷ []) k c d' hole within is = absurd (omega (arith, within))
  room-down (a ∷ b ∷ rest) zero c d' hole within is = rw is hole.1
  room-down (a ∷ b ∷ rest) (suc k) c d' hole within is = room-down (b ∷ rest) k c d' hole.1 (omega (arith, within)) is

  one-less-first : (b d' : List X × ℕ) (rest : List (List X × ℕ)) → AreEven (b ∷ rest) → length b.0 ≡ length d'.0 + 1 → 0 < d'.1
      → HasHole 0 (d' ∷ rest)
  one-less-first b d' [] even count room = (omega (arith, even.1, count), room)
  one-less-first b d' (e ∷ es) even count room = (omega (arith, even.0, count), room, even.1)

  pub handed_down : (chunks : List (List X × ℕ)) (k : ℕ) (c c' d d' : List X × ℕ) (x : X) → HasHole k chunks → suc k < length chunks
      → d ≡ get_or chunks (suc k) d → c ≡ get_or (set chunks (suc k) d') k c → d.0 ≡ x ∷ d'.0 → 0 < d'.1 → c'.0 ≡ c.0 ++ x ∷ []
      → IsHanded chunks (set (set chunks (suc k) d') k c') (suc k)
  handed_down [] k c c' d d' x hole within next is less room more = absurd hole
  handed_down (a ∷ []) k c c' d d' x hole within next is less room more = absurd (omega (arith, within))
  handed_down (a ∷ b ∷ rest) zero c c' d d' x hole within next is less room more =
      let less' : b.0 ≡ x ∷ d'.0 = rw (← next) less in
      let more' : c'.0 ≡ a.0 ++ x ∷ [] = rw (← is) more in
      record {
        cells = ap (λ xs. xs ++ (d'.0 ++ all_cells rest)) more' ∙ append_assoc a.0 (x ∷ []) (d'.0 ++ all_cells rest)
            ∙ ap (λ xs. a.0 ++ (xs ++ all_cells rest)) (sym less');
        hole = (
          omega (arith, hole.0, ap length more', length-append a.0 (x ∷ [])),
          one-less-first b d' rest hole.2 (omega (arith, ap length less')) room,
        );
      }
  handed_down (a ∷ b ∷ rest) (suc k) c c' d d' x hole within next is less room more =
      let found = handed_down (b ∷ rest) k c c' d d' x hole.1 (omega (arith, within)) next is less room more in
      record {
        cells = ap (λ xs. a.0 ++ xs) found.cells;
        hole = hole-behind a (set (set (b ∷ rest) (suc k) d') k c') (suc k) hole.0 found.hole;
      }

  -- the last chunk tells whether all are full
  pub last-full : (chunks : List (List X × ℕ)) (c : List X × ℕ) → AreEven chunks → slice_get chunks (length chunks - 1) ≡ Some c
      → 1024 ≤ length c.0 → AreFull chunks
  last-full [] c even is full = tt
  last-full (d ∷ []) c even is full = let same : d ≡ c = Prim.cc in (omega (arith, even.1, ap (λ e. length e.0) same, full), tt)
  last-full (d ∷ e ∷ es) c even is full = (even.0, last-full (e ∷ es) c even.1 (simp unary_clauses (simp unary_clauses at is)) full)

  pub last-short : (chunks : List (List X × ℕ)) (c : List X × ℕ) → AreEven chunks → slice_get chunks (length chunks - 1) ≡ Some c
      → length c.0 < 1024 → IsLastShort chunks
  last-short [] c even is short = absurd (none-some c is)
  last-short (d ∷ []) c even is short = let same : d ≡ c = Prim.cc in (even.0, omega (arith, ap (λ e. length e.0) same, short))
  last-short (d ∷ e ∷ es) c even is short = (even.0, last-short (e ∷ es) c even.1 (simp unary_clauses (simp unary_clauses at is)) short)

  pub full-even : (chunks : List (List X × ℕ)) → AreFull chunks → AreEven chunks
  full-even [] full = tt
  full-even (d ∷ []) full = (omega (arith, full.0), omega (arith, full.0))
  full-even (d ∷ e ∷ es) full = (full.0, full-even (e ∷ es) full.1)

  pub short-even : (chunks : List (List X × ℕ)) → IsLastShort chunks → AreEven chunks
  short-even [] short = tt
  short-even (d ∷ []) short = (short.0, omega (arith, short.1))
  short-even (d ∷ e ∷ es) short = (short.0, short-even (e ∷ es) short.1)

  pub short-some : (chunks : List (List X × ℕ)) → IsLastShort chunks → 0 < length chunks
  short-some [] short = absurd short
  short-some (d ∷ ds) short = omega arith

  -- a chunk of one cell behind full ones
  pub added : (chunks : List (List X × ℕ)) (c : List X × ℕ) (x : X) → AreFull chunks → c.0 ≡ x ∷ []
      → record { cells : all_cells (chunks ++ c ∷ []) ≡ all_cells chunks ++ x ∷ []; even : AreEven (chunks ++ c ∷ []) }
  added [] c x full one = record { cells = ap (λ xs. xs ++ []) one; even = (omega (arith, ap length one), omega (arith, ap length one)) }
  added (d ∷ ds) c x full one =
      let rest = added ds c x full.1 one in
      record {
        cells = ap (λ xs. d.0 ++ xs) rest.cells ∙ sym (append_assoc d.0 (all_cells ds) (x ∷ []));
        even = even-behind d (ds ++ c ∷ []) full.0 rest.even;
      }

  -- the last chunk has more, or what it had
  pub last-more : (chunks : List (List X × ℕ)) (n : ℕ) (c c' : List X × ℕ) (xs : List X) → suc n ≡ length chunks → IsLastShort chunks
      → c ≡ get_or chunks n c → c'.0 ≡ c.0 ++ xs → length xs ≤ 1
      → record { cells : all_cells (set chunks n c') ≡ all_cells chunks ++ xs; even : AreEven (set chunks n c') }
  last-more [] n c c' xs last short is made few = absurd short
  last-more (d ∷ []) zero c c' xs last short is made few =
      let made' : c'.0 ≡ d.0 ++ xs = rw (← is) made in
      let count = ap length made' ∙ length-append d.0 xs in
      record {
        cells = append-nil c'.0 ∙ made' ∙ ap (λ ys. ys ++ xs) (sym (append-nil d.0));
        even = (omega (arith, short.0, count), omega (arith, short.1, count, few));
      }
  last-more (d ∷ []) (suc n) c c' xs last short is made few = absurd (omega (arith, last))
  last-more (d ∷ e ∷ es) zero c c' xs last short is made few = absurd (omega (arith, last))
  last-more (d ∷ e ∷ es) (suc n) c c' xs last short is made few =
      let found = last-more (e ∷ es) n c c' xs (omega (arith, last)) short.1 is made few in
      record {
        cells = ap (λ ys. d.0 ++ ys) found.cells ∙ sym (append_assoc d.0 (all_cells (e ∷ es)) xs);
        even = even-behind d (set (e ∷ es) n c') short.0 found.even;
      }

-- what stands at a place, where there is something
pub or-none : {X : Type 0} (xs : List (Option X)) (i : ℕ) (x : Option X) → slice_get xs i ≡ Some x → get_or xs i None ≡ x
or-none [] i x is = absurd (none-some x is)
or-none (y ∷ ys) zero x is = let same : y ≡ x = Prim.cc in same
or-none (y ∷ ys) (suc i) x is = or-none ys i x is

-- what holds anyway holds after an error
pub if_failed : {A E P : Type 0} (r : Result A E) → P → OnErr r P
if_failed (Ok x) p = tt
if_failed (Err x) p = p
