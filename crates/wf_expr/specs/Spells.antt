-- Which template a text spells, where a text goes wrong that spells none, and which text has too long an expression.
-- Texts are characters here; lengths and places count Unicode scalar values.
use Rattle.std.specs.Prelude.{◌≡◌, ℕ, ◌<◌, ◌≤◌, ◌-◌, ◌⊎◌, List, [], ◌∷◌, ◌++◌, Option, Some, None, if◌then◌else◌, nat_lt, take, length}
use Rattle.std.specs.Char.{IsScalar}
use Rattle.std.specs.List.{AllByRecursion}
use Rattle.wf_expr.specs.Grammar.{Reads}
use Rattle.wf_expr.specs.Reading.{Item, character, embedded, Reading, whole_of, items_of, template_of}
use Rattle.wf_template.specs.TemplateTree.{TemplateTree}

-- an expression of n characters, after which others are measured
abbrev pub over : ℕ → Option ℕ → Option ℕ
over n rest = if nat_lt 8192 n then Some n else rest

-- the length of the first expression that is over 8,192 characters long
abbrev pub first_over : List Item → Option ℕ
first_over [] = None
first_over (character c ∷ items) = first_over items
first_over (embedded e n ∷ items) = over n (first_over items)

-- an expression that is the whole text stands behind its `@`
abbrev pub too_long : List ℕ → Reading → Option ℕ
too_long s (whole_of e) = over (length s - 1) None
too_long s (items_of items) = first_over items

-- the grammar relates the text to the template, however long its expressions are
pub record Derives (s : List ℕ) (t : TemplateTree) : Type 0 where
  pub reading : Reading
  pub reads : Reads (length s) s reading
  pub gives : template_of reading ≡ t

-- and no expression is too long
pub record Spells (s : List ℕ) (t : TemplateTree) : Type 0 where
  pub reading : Reading
  pub reads : Reads (length s) s reading
  pub fits : too_long s reading ≡ None
  pub gives : template_of reading ≡ t

-- the text derives a template, and n is the length of the first expression that is too long
pub record IsTooLong (s : List ℕ) (n : ℕ) : Type 0 where
  pub reading : Reading
  pub reads : Reads (length s) s reading
  pub first : too_long s reading ≡ Some n

-- characters can follow it so that the whole derives a template
abbrev pub CanGoOn : List ℕ → Type 0
CanGoOn front = (rest : List ℕ) × AllByRecursion IsScalar rest × (t : TemplateTree) × Derives (front ++ rest) t

-- the text derives no template, and at is the length of the longest front of it that can be continued to one that does
pub record IsFault (s : List ℕ) (at : ℕ) : Type 0 where
  pub none : (t : TemplateTree) → Derives s t → ⊥
  pub within : at ≤ length s
  pub viable : CanGoOn (take at s)
  pub longest : (k : ℕ) → at < k → k ≤ length s → CanGoOn (take k s) → ⊥

-- what a text is: a template, wrong at a place, or too long
abbrev pub Outcome : List ℕ → Type 0
Outcome s = ((t : TemplateTree) × Spells s t) ⊎ (((at : ℕ) × IsFault s at) ⊎ ((n : ℕ) × IsTooLong s n))
