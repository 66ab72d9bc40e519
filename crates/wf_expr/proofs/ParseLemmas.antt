-- From what the machine gave to what the text spells.
use Rattle.std.proofs.Common.{◌≡◌, ℕ, List, Some, None, Result, Ok, Err, IfOk, IfErr, refl, sym, subst, ap, ◌∙◌, ◌<◌, ◌⊎◌, inl, inr, arith}
use Rattle.wf_val.specs.Cut.{cut_u32}
use Rattle.wf_expr.specs.Parsed.{IsTemplate, IsSyntaxAt, IsTooLongBy, HasFault}
use Rattle.wf_expr.specs.Parses.{Parses}
use Rattle.wf_expr.specs.Reading.{Reading, template_of}
use Rattle.wf_expr.specs.Spells.{Spells, IsFault, IsTooLong, too_long}
use Rattle.wf_template.specs.TemplateSeen.{template_tree}
use Rattle.wf_template.specs.TemplateTree.{TemplateTree}
use Rattle.wf_expr.specs.declared.fault.ParseFault.{ParseFault}
use Rattle.wf_template.specs.declared.template.Template.{Template}
use Rattle.wf_expr.proofs.Scans.{found, only, fault}

pub spelled : (r : Result Template ParseFault) (s : List ℕ) → Parses r s → IfOk r (λ t. Spells s (template_tree t))
spelled (Ok t) s p = record { reading = p.reading; reads = found s p.reading p.read; fits = p.concludes.0; gives = sym p.concludes.1 }
spelled (Err e) s p = tt

pub faults : (r : Result Template ParseFault) (s : List ℕ) → Parses r s → IfErr r (λ e. HasFault s e)
faults (Ok t) s p = tt
faults (Err (ParseFault.Syntax at)) s p = record { place = p.place; wrong = fault s p.place p.refused; told = p.told }
faults (Err (ParseFault.TooLong length)) s p = record { characters = p.concludes.characters; first = record { reading = p.reading; reads = found s p.reading p.read; first = p.concludes.first }; told = p.concludes.told }
faults (Err ParseFault.Memory) s p = tt

pub only_template : (r : Result Template ParseFault) (s : List ℕ) → Parses r s → (t : TemplateTree) → Spells s t → IsTemplate r t
only_template (Ok x) s p t d =
    let o = only s d.reading d.reads in
    let read = p.read in
    let same : p.reading ≡ d.reading = cc in
    p.concludes.1 ∙ (ap template_of same ∙ d.gives)
only_template (Err (ParseFault.Syntax at)) s p t d = let o = only s d.reading d.reads in let no = p.refused in absurd (cc)
only_template (Err (ParseFault.TooLong length)) s p t d =
    let o = only s d.reading d.reads in
    let read = p.read in
    let same : p.reading ≡ d.reading = cc in
    let P : Reading → Type 0 = λ w. too_long s w ≡ Some p.concludes.characters in
    let over = subst P same p.concludes.first in
    let fits = d.fits in absurd (cc)
only_template (Err ParseFault.Memory) s p t d = tt

-- a text goes wrong at one place
one_place : (s : List ℕ) (x y : ℕ) → IsFault s x → IsFault s y → x ≡ y
one_place s x y p q = go (order x y)
  where
    order : (x y : ℕ) → (x ≡ y) ⊎ ((x < y) ⊎ (y < x))
    order x y = grind arith

    go : (x ≡ y) ⊎ ((x < y) ⊎ (y < x)) → x ≡ y
    go (inl e) = e
    go (inr (inl lt)) = absurd (p.longest y lt q.within q.viable)
    go (inr (inr lt)) = absurd (q.longest x lt p.within p.viable)

pub only_fault : (r : Result Template ParseFault) (s : List ℕ) → Parses r s → (at : ℕ) → IsFault s at → IsSyntaxAt r at
only_fault (Ok x) s p at d = d.none (template_of p.reading) (record { reading = p.reading; reads = found s p.reading p.read; gives = refl })
only_fault (Err (ParseFault.Syntax n)) s p at d = let same = one_place s p.place at (fault s p.place p.refused) d in p.told ∙ ap cut_u32 same
only_fault (Err (ParseFault.TooLong length)) s p at d = d.none (template_of p.reading) (record { reading = p.reading; reads = found s p.reading p.read; gives = refl })
only_fault (Err ParseFault.Memory) s p at d = tt

pub only_length : (r : Result Template ParseFault) (s : List ℕ) → Parses r s → (n : ℕ) → IsTooLong s n → IsTooLongBy r n
only_length (Ok x) s p n d =
    let o = only s d.reading d.reads in
    let read = p.read in
    let same : p.reading ≡ d.reading = cc in
    let P : Reading → Type 0 = λ w. too_long s w ≡ None in
    let fits = subst P same p.concludes.0 in
    let over = d.first in absurd (cc)
only_length (Err (ParseFault.Syntax at)) s p n d = let o = only s d.reading d.reads in let no = p.refused in absurd (cc)
only_length (Err (ParseFault.TooLong length)) s p n d =
    let o = only s d.reading d.reads in
    let read = p.read in
    let same : p.reading ≡ d.reading = cc in
    let P : Reading → Type 0 = λ w. too_long s w ≡ Some p.concludes.characters in
    let over = subst P same p.concludes.first in
    let first = d.first in
    let lengths : p.concludes.characters ≡ n = cc in
    p.concludes.told ∙ ap cut_u32 lengths
only_length (Err ParseFault.Memory) s p n d = tt
