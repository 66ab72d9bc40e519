-- What an edit makes of full cells that stand before empty ones, and of the items that they hold.
use Rattle.std.proofs.Common.{◌≡◌, ℕ, zero, suc, ◌<◌, ◌≤◌, ◌+◌, ◌-◌, List, [], ◌∷◌, ◌++◌, length, get_or, slice_get, set, map, insert, remove, replicate, Option, Some, None, IsSome, refl, sym, ap, ◌∙◌, subst, arith, append_assoc, length-append, length-set}
use Rattle.std.proofs.lemmas.List.{length-map, map-set, set_at, get_or_at, set-append_left, get_or-set_same, length-replicate}
use Rattle.std.proofs.lemmas.List.Edits.{insert_end, insert-append_left, remove-append_left, length-remove, length-insert}
use Rattle.std.proofs.lemmas.Option.{none-some}
use Rattle.wf_room.specs.Cells.{held, laid}

module _ {X : Type 0} where
  -- an item of a place, as an index gives it
  pub index-get : (xs : List X) (i : ℕ) (x : X) → slice_get xs i ≡ Some x → get_or xs i x ≡ x
  index-get [] i x at = absurd (none-some x at)
  index-get (y ∷ ys) zero x at = let same : y ≡ x = Prim.cc in same
  index-get (y ∷ ys) (suc i) x at = index-get ys i x at

  abbrev nones : ℕ → List (Option X)
  nones n = replicate n None

  held-none : (n : ℕ) → held (nones n) ≡ []
  held-none zero = refl
  held-none (suc n) = held-none n

  held-laid : (xs : List X) (n : ℕ) → held (laid xs n) ≡ xs
  held-laid [] n = held-none n
  held-laid (x ∷ xs) n = ap (λ ys. x ∷ ys) (held-laid xs n)

  length-laid : (xs : List X) (n : ℕ) → length (laid xs n) ≡ length xs + n
  length-laid xs n =
      length-append (map Some xs) (nones n) ∙ ap (λ m. m + length (nones n)) (length-map xs Some)
      ∙ ap (λ m. length xs + m) (length-replicate n None)

  -- cells that are laid so hold these items, and have room for so many more
  pub is_laid : (cells : List (Option X)) (xs : List X) (n count : ℕ) → cells ≡ laid xs n → count ≡ length xs
      → record {
        items : held cells ≡ xs;
        room : length cells - count ≡ n;
        laid : cells ≡ laid (held cells) (length cells - count);
        count : count ≡ length (held cells);
      }
  is_laid cells xs n count is counted =
      let items : held cells ≡ xs = ap held is ∙ held-laid xs n in
      let room : length cells - count ≡ n = omega (arith, ap length is, length-laid xs n, counted) in
      record {
        items = items;
        room = room;
        laid = is ∙ ap (λ ys. laid ys n) (sym items) ∙ ap (laid (held cells)) (sym room);
        count = counted ∙ ap length (sym items);
      }

  none-more : (n m k : ℕ) → k ≡ n + m → nones n ++ nones m ≡ nones k
  none-more zero m k count = let same : m ≡ k = omega (arith, count) in ap nones same
  none-more (suc n) m zero count = absurd (omega (arith, count))
  none-more (suc n) m (suc k) count = ap (λ ps. None ∷ ps) (none-more n m k (omega (arith, count)))

  -- empty cells are added
  pub laid-more : (xs : List X) (n m : ℕ) → laid xs n ++ replicate m None ≡ laid xs (n + m)
  laid-more xs n m = append_assoc (map Some xs) (nones n) (nones m) ∙ ap (λ ps. map Some xs ++ ps) (none-more n m (n + m) refl)

  map-insert : (xs : List X) (i : ℕ) (x : X) → map Some (insert xs i x) ≡ insert (map Some xs) i (Some x)
  map-insert [] zero x = refl
  map-insert [] (suc i) x = refl
  map-insert (y ∷ ys) zero x = refl
  map-insert (y ∷ ys) (suc i) x = ap (λ zs. Some y ∷ zs) (map-insert ys i x)

  map-remove : (xs : List X) (i : ℕ) → map Some (remove xs i) ≡ remove (map Some xs) i
  map-remove [] zero = refl
  map-remove [] (suc i) = refl
  map-remove (y ∷ ys) zero = refl
  map-remove (y ∷ ys) (suc i) = ap (λ zs. Some y ∷ zs) (map-remove ys i)

  -- the cell at the place of an item
  pub at-laid : (xs : List X) (n i : ℕ) (cell : Option X) → i < length xs → slice_get (laid xs n) i ≡ Some cell → slice_get xs i ≡ cell
  at-laid [] n i cell within at = absurd (omega (arith, within))
  at-laid (x ∷ xs) n zero cell within at = Prim.cc
  at-laid (x ∷ xs) n (suc i) cell within at = at-laid xs n i cell (omega (arith, within)) at

  pub never-none : (xs : List X) (n i : ℕ) → i < length xs → slice_get (laid xs n) i ≡ Some None → ⊥
  never-none [] n i within at = absurd (omega (arith, within))
  never-none (x ∷ xs) n zero within at = let same : Some x ≡ None = Prim.cc in none-some x (sym same)
  never-none (x ∷ xs) n (suc i) within at = never-none xs n i (omega (arith, within)) at

  pub some-at : (xs : List X) (i : ℕ) → i < length xs → IsSome (slice_get xs i)
  some-at [] i within = absurd (omega (arith, within))
  some-at (x ∷ xs) zero within = refl
  some-at (x ∷ xs) (suc i) within = some-at xs i (omega (arith, within))

  -- an item is written over
  pub laid-set : (xs : List X) (n i : ℕ) (x : X) → i < length xs → set (laid xs n) i (Some x) ≡ laid (set xs i x) n
  laid-set xs n i x within =
      set-append_left (map Some xs) (nones n) i (Some x) (omega (arith, within, length-map xs Some))
      ∙ ap (λ ps. ps ++ nones n) (sym (map-set Some xs i x))

remove_at : {X : Type 0} (front : List X) (y : X) (back : List X) (n : ℕ) → length front ≡ n → remove (front ++ y ∷ back) n ≡ front ++ back
remove_at [] y back zero count = refl
remove_at [] y back (suc n) count = absurd (omega (arith, count))
remove_at (x ∷ front) y back zero count = absurd (omega (arith, count))
remove_at (x ∷ front) y back (suc n) count = ap (λ zs. x ∷ zs) (remove_at front y back n (omega (arith, count)))

remove-set : {X : Type 0} (xs : List X) (i : ℕ) (x : X) → remove (set xs i x) i ≡ remove xs i
remove-set [] i x = refl
remove-set (y ∷ ys) zero x = refl
remove-set (y ∷ ys) (suc i) x = ap (λ zs. y ∷ zs) (remove-set ys i x)

-- what is taken out and put back
pub put_back : {X : Type 0} (xs : List X) (i : ℕ) (d : X) → i < length xs → insert (remove xs i) i (get_or xs i d) ≡ xs
put_back [] i d within = absurd (omega (arith, within))
put_back (x ∷ xs) zero d within = refl
put_back (x ∷ xs) (suc i) d within = ap (λ zs. x ∷ zs) (put_back xs i d (omega (arith, within)))

module _ {X : Type 0} where
  -- the cells once the one at a place has gone to another
  abbrev pub shifted : List (Option X) → ℕ → ℕ → List (Option X)
  shifted cells from to = insert (remove cells from) to (get_or cells from None)

  -- the first empty cell takes an item, and goes to its place
  pub laid-insert : (xs : List X) (n i : ℕ) (x : X) → i ≤ length xs
      → shifted (set (laid xs (suc n)) (length xs) (Some x)) (length xs) i ≡ laid (insert xs i x) n
  laid-insert xs n i x within =
      let full = map Some xs in
      let rest = nones n in
      let count : length full ≡ length xs = length-map xs Some in
      rw (
        set_at full None rest (Some x) (length xs) count,
        get_or_at full (Some x) rest None (length xs) count,
        remove_at full (Some x) rest (length xs) count,
      )
      (insert-append_left full rest i (Some x) (omega (arith, within, count)) ∙ ap (λ ps. ps ++ rest) (sym (map-insert xs i x)))

  -- the cell of an item is emptied, and goes behind the others
  pub laid-remove : (xs : List X) (n i last : ℕ) → i < length xs → suc last ≡ length xs
      → shifted (set (laid xs n) i None) i last ≡ laid (remove xs i) (suc n)
  laid-remove xs n i last within counted =
      let full : List (Option X) = map Some xs in
      let rest : List (Option X) = nones n in
      let count : length full ≡ length xs = length-map xs Some in
      let inside : i < length full = omega (arith, within, count) in
      let less : length (remove full i) ≡ last = omega (arith, length-remove full i inside, count, counted) in
      let end : length (remove full i) ≤ length (remove full i) = omega arith in
      let among : i < length (full ++ rest) = omega (arith, within, count, length-append full rest) in
      rw (
        remove-set (full ++ rest) i None,
        get_or-set_same (full ++ rest) i None None among,
        remove-append_left full rest i inside,
        ← less,
      )
      (insert-append_left (remove full i) rest (length (remove full i)) None end
      ∙ ap (λ ps. ps ++ rest) (insert_end (remove full i) None)
      ∙ append_assoc (remove full i) (None ∷ []) rest
      ∙ ap (λ ps. ps ++ None ∷ rest) (sym (map-remove xs i)))

  -- cells that hold items in order, so many of them, and empty ones behind them
  abbrev pub AreLaid : List (Option X) → ℕ → Type 0
  AreLaid cells count = (cells ≡ laid (held cells) (length cells - count)) × (count ≡ length (held cells))

  pub inserted : (cells cells' cells'' : List (Option X)) (count i : ℕ) (x : X) → AreLaid cells count → i ≤ length (held cells)
      → 0 < length cells - count → cells' ≡ set cells count (Some x) → cells'' ≡ shifted cells' count i
      → record { items : held cells'' ≡ insert (held cells) i x; are_laid : AreLaid cells'' (count + 1) }
  inserted cells cells' cells'' count i x are within room filled moved =
      let xs = held cells in
      let n = length cells - count - 1 in
      let one : length cells - count ≡ suc n = omega (arith, room) in
      let is : cells ≡ laid xs (suc n) = are.0 ∙ ap (laid xs) one in
      let made : cells'' ≡ laid (insert xs i x) n =
      moved ∙ ap (λ ps. shifted ps count i) (filled ∙ ap (λ ps. set ps count (Some x)) is)
      ∙ ap (λ m. shifted (set (laid xs (suc n)) m (Some x)) m i) are.1 ∙ laid-insert xs n i x within in
      let now = is_laid cells'' (insert xs i x) n (count + 1) made (omega (arith, are.1, length-insert xs i x within)) in
      record { items = now.items; are_laid = (now.laid, now.count) }

  pub removed : (cells cells' cells'' : List (Option X)) (count i : ℕ) → AreLaid cells count → i < length (held cells)
      → cells' ≡ set cells i None → cells'' ≡ shifted cells' i (count - 1)
      → record {
        items : held cells'' ≡ remove (held cells) i;
        are_laid : AreLaid cells'' (count - 1);
        more : length cells'' - (count - 1) ≡ length cells - count + 1;
      }
  removed cells cells' cells'' count i are within emptied moved =
      let xs = held cells in
      let n = length cells - count in
      let last : suc (count - 1) ≡ length xs = omega (arith, are.1, within) in
      let made : cells'' ≡ laid (remove xs i) (suc n) =
      moved ∙ ap (λ ps. shifted ps i (count - 1)) (emptied ∙ ap (λ ps. set ps i None) are.0)
      ∙ laid-remove xs n i (count - 1) within last in
      let now = is_laid cells'' (remove xs i) (suc n) (count - 1) made (omega (arith, last, length-remove xs i within)) in
      record { items = now.items; are_laid = (now.laid, now.count); more = now.room ∙ omega arith }

  pub replaced : (cells cells' : List (Option X)) (count i : ℕ) (x : X) → AreLaid cells count → i < length (held cells)
      → cells' ≡ set cells i (Some x)
      → record {
        items : held cells' ≡ set (held cells) i x;
        are_laid : AreLaid cells' count;
        same : length cells' - count ≡ length cells - count;
      }
  replaced cells cells' count i x are within made =
      let xs = held cells in
      let n = length cells - count in
      let is : cells' ≡ laid (set xs i x) n = made ∙ ap (λ ps. set ps i (Some x)) are.0 ∙ laid-set xs n i x within in
      let now = is_laid cells' (set xs i x) n count is (are.1 ∙ sym (length-set xs i x)) in
      record { items = now.items; are_laid = (now.laid, now.count); same = now.room }

  -- what stood in the cell of an item
  pub stood : (cells : List (Option X)) (count i : ℕ) (x : X) → AreLaid cells count → i < length (held cells)
      → slice_get cells i ≡ Some (Some x) → slice_get (held cells) i ≡ Some x
  stood cells count i x are within at =
      at-laid (held cells) (length cells - count) i (Some x) within (subst (λ ps. slice_get ps i ≡ Some (Some x)) are.0 at)

  pub never : (cells : List (Option X)) (count i : ℕ) → AreLaid cells count → i < length (held cells) → slice_get cells i ≡ Some None → ⊥
  never cells count i are within at =
      never-none (held cells) (length cells - count) i within (subst (λ ps. slice_get ps i ≡ Some None) are.0 at)
