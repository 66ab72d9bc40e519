-- Pieces that are nested, and how many texts they say behind tags of a kind, part by part.
use Rattle.std.proofs.Common.{◌≡◌, ℕ, zero, suc, ◌+◌, Bool, false, List, [], ◌++◌, cond, count_by, refl, ap, ◌∙◌}
use Rattle.std.proofs.lemmas.List.Sums.{sum_by-append}
use Rattle.wf_drawn.proofs.TotalLemmas.{total}
use Rattle.wf_drawn.specs.Drawn.{each_level, held, inside}
use Rattle.wf_html.proofs.BehindLemmas.{Says, says_append, says_in, says_nothing, says_quietly}
use Rattle.wf_html.specs.Behind.{said_behind}
use Rattle.wf_html.specs.Html.{Piece, with_text}
use Rattle.wf_html.specs.Nested.{IsNested}
use Rattle.wf_html.specs.declared.tag.Tag.{Tag}
use Rattle.wf_shown.proofs.SaidLemmas.{OnlyHeads}

abbrev pub Asked : Type 0
Asked = List ℕ → Bool

-- pieces that are nested, and say so many texts of what is asked, where D holds
pub record Names (is : Tag → Bool) (D : Type 0) (asked : Asked) (ps : List Piece) (n : ℕ) : Type 0 where
  pub nested : IsNested ps
  pub count : D → count_by asked (said_behind is ps) ≡ n

module _ (is : Tag → Bool) (only : OnlyHeads is) (D : Type 0) (asked : Asked) where
  pub of_texts : (ps : List Piece) (a : List (List ℕ)) → Says is ps a → Names is D asked ps (count_by asked a)
  of_texts ps a says = record { nested = says.nested; count = λ d. ap (count_by asked) says.said }

  texts_of : (ps : List Piece) (n : ℕ) → Names is D asked ps n → Says is ps (said_behind is ps)
  texts_of ps n names = record { nested = names.nested; said = refl }

  pub names_append : (ps qs : List Piece) (m n : ℕ) → Names is D asked ps m → Names is D asked qs n
      → Names is D asked (ps ++ qs) (m + n)
  names_append ps qs m n one other =
      let both = says_append is ps qs _ _ (texts_of ps m one) (texts_of qs n other) in
      record {
        nested = both.nested;
        count = λ d.
            ap (count_by asked) both.said
            ∙ sum_by-append (λ x. cond (asked x) 1 0) (said_behind is ps) (said_behind is qs)
            ∙ ap (λ x. x + count_by asked (said_behind is qs)) (one.count d) ∙ ap (λ x. m + x) (other.count d);
      }

  pub names_in : (t : Tag) (ps : List Piece) (n : ℕ) → is t ≡ false → Names is D asked ps n
      → Names is D asked (inside t ps) n
  names_in t ps n other names =
      let within = says_in is t ps _ other (texts_of ps n names) in
      record { nested = within.nested; count = λ d. ap (count_by asked) within.said ∙ names.count d }

  -- behind pieces that name nothing
  pub names_behind : (ps qs : List Piece) (n : ℕ) → Says is ps [] → Names is D asked qs n → Names is D asked (ps ++ qs) n
  names_behind ps qs n quiet names =
      let both = says_append is ps qs [] _ quiet (texts_of qs n names) in
      record { nested = both.nested; count = λ d. ap (count_by asked) both.said ∙ names.count d }

  pub names_held : (word : List ℕ) (ps : List Piece) (n : ℕ) → Names is D asked ps n
      → Names is D asked (held word ps) n
  names_held word ps n names =
      names_in Tag.Branch (with_text Tag.Case word ++ ps) n (only Tag.Branch refl)
      (names_behind (with_text Tag.Case word) ps n (says_quietly is Tag.Case word (only Tag.Case refl)) names)

  -- levels in a row
  pub names_levels : (k : ℕ) (f : ℕ → List Piece) (g : ℕ → ℕ) → ((i : ℕ) → Names is D asked (f i) (g i))
      → Names is D asked (each_level k f) (total k g)
  names_levels zero f g each = of_texts [] [] (says_nothing is)
  names_levels (suc k) f g each =
      names_append (each_level k f) (inside Tag.Level (f k)) (total k g) (g k) (names_levels k f g each)
      (names_in Tag.Level (f k) (g k) (only Tag.Level refl) (each k))
