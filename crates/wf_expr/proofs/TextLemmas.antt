-- The template of a text as a function is the one that the text spells, and what a call returned.
use Rattle.std.proofs.Common.{◌≡◌, ◌≢◌, ℕ, List, Option, Some, None, Result, Ok, Err, IfOk, IfErr, refl, sym, ap, ◌∙◌, chars}
use Rattle.std.specs.Prelude.{◌↔◌}
use Rattle.wf_template.specs.TemplateSeen.{template_tree}
use Rattle.wf_template.specs.TemplateTree.{TemplateTree}
use Rattle.wf_template.specs.declared.template.Template.{Template}
use Rattle.wf_expr.specs.Parses.{Parses}
use Rattle.wf_expr.specs.Machine.{scan, start}
use Rattle.wf_expr.specs.Reading.{Reading, template_of}
use Rattle.wf_expr.specs.Spells.{Spells, too_long}
use Rattle.wf_expr.specs.Text.{unless_long, template_read, template_in}
use Rattle.wf_expr.specs.declared.fault.ParseFault.{ParseFault}
use Rattle.wf_expr.proofs.Scans.{found, only}

abbrev Read : List ℕ → Option TemplateTree
Read s = template_read s (scan start 0 s)

read_so : (r : Result Template ParseFault) (s : List ℕ) → Parses r s → IfOk r (λ t. Read s ≡ Some (template_tree t))
read_so (Ok t) s p = ap (template_read s) p.read ∙ ap (λ o. unless_long o (template_of p.reading)) p.concludes.0 ∙ ap Some (sym p.concludes.1)
read_so (Err e) s p = tt

none_read : (r : Result Template ParseFault) (s : List ℕ) → Parses r s → IfErr r (λ f. f ≢ ParseFault.Memory → Read s ≡ None)
none_read (Ok t) s p = tt
none_read (Err (ParseFault.Syntax at)) s p = λ other. ap (template_read s) p.refused
none_read (Err (ParseFault.TooLong length)) s p = λ other.
    ap (template_read s) p.read ∙ ap (λ o. unless_long o (template_of p.reading)) p.concludes.first
none_read (Err ParseFault.Memory) s p = λ other. absurd (other refl)

pub read : (r : Result Template ParseFault) (text : List ℕ) → Parses r (chars text) → IfOk r (λ t. template_in text ≡ Some (template_tree t))
unfolding template_in
read r text p = read_so r (chars text) p

pub refused : (r : Result Template ParseFault) (text : List ℕ) → Parses r (chars text)
    → IfErr r (λ f. f ≢ ParseFault.Memory → template_in text ≡ None)
unfolding template_in
refused r text p = none_read r (chars text) p

some_alike : {X : Type 0} {p q : X} → Some p ≡ Some q → p ≡ q
some_alike is = cc

spelled_by : (s : List ℕ) (t : TemplateTree) (w : Reading) → scan start 0 s ≡ Ok w → (o : Option ℕ) → too_long s w ≡ o
    → unless_long o (template_of w) ≡ Some t → Spells s t
spelled_by s t w read None fits is = record { reading = w; reads = found s w read; fits = fits; gives = some_alike is }
spelled_by s t w read (Some n) long is = absurd (cc)

spelled_from : (s : List ℕ) (t : TemplateTree) (r : Result Reading ℕ) → scan start 0 s ≡ r → template_read s r ≡ Some t → Spells s t
spelled_from s t (Ok w) read is = spelled_by s t w read (too_long s w) refl is
spelled_from s t (Err at) read is = absurd (cc)

pub template_in-spells : (text : List ℕ) (t : TemplateTree) → (template_in text ≡ Some t) ↔ Spells (chars text) t
unfolding template_in
template_in-spells text t = let s = chars text in (
  (λ is. spelled_from s t (scan start 0 s) refl is),
  (λ d. ap (template_read s) (only s d.reading d.reads) ∙ ap (λ o. unless_long o (template_of d.reading)) d.fits ∙ ap Some d.gives),
)
