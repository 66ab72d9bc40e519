-- What is no loop begins no iteration.
use Rattle.std.proofs.Common.{◌≡◌, ℕ, ◌&&◌, Bool, true, false, cond, List, [], ◌∷◌, Option, Some, None, ⊎_elim, refl, sym, ap, ◌∙◌, subst}
use Rattle.std.proofs.lemmas.Option.{none-some}
use Rattle.wf_layers.specs.Address.{Address, Table, address, same_at}
use Rattle.wf_layers.specs.Definition.{Kind, Leaf, Scope, Choice, Foreach, Until, Graph, kind_of}
use Rattle.wf_layers.specs.Machine.{Event, Start, Try, End, Skip, Open, Begin, Test, Close, MayBegin, Opening, Run, State, Step, fresh}
use Rattle.wf_layers.specs.Resubmission.{pin, reopened}
use Rattle.wf_layers.specs.Resubmission as resubmission
use Rattle.wf_layers.specs.Source.{Source}
use Rattle.wf_layers.proofs.Tables.{opened_split}
use Rattle.wf_kept.specs.Reached.{IsReached, begun, resumed}
use Rattle.wf_kept.proofs.Informed.{kinds_are_known}
use Rattle.wf_kept.proofs.Known.{goes_on}

abbrev pub is_loop : Kind → Bool
is_loop Leaf = false
is_loop (Scope g) = false
is_loop (Choice bs) = false
is_loop (Foreach pace g) = true
is_loop (Until most g) = true

abbrev next_of : {Decision Verdict : Type 0} → Option (Opening Decision Verdict) → ℕ
next_of None = 0
next_of (Some w) = w.next

first_next : {Decision : Type 0} (v : Type 0) (b : Bool) (o : Option Kind) (p : Decision)
    → next_of {Decision = Decision} {Verdict = v} (cond b (reopened o p) None) ≡ 0
first_next v true None p = refl
first_next v true (Some kind) p = refl
first_next v false o p = refl

abbrev pub NoneBegun : {Row Begun Decision Verdict : Type 0} → Graph → State Row Begun Decision Verdict → Type 0
NoneBegun {Decision = Decision} {Verdict = Verdict} d s =
    (x : Address) (w : Opening Decision Verdict) → s.opens x ≡ Some w → (kind : Kind) → kind_of d x.name ≡ Some kind
    → is_loop kind ≡ false → w.next ≡ 0

module _ {Row Begun Decision Verdict : Type 0} (d : Graph) (depth : ℕ → ℕ) (m : Source Row Begun Decision Verdict) where
  abbrev St : Type 0
  St = State Row Begun Decision Verdict

  loops_begin : (kind : Kind) (i : List ℕ) (w : Opening Decision Verdict) (t : Table Row) → MayBegin m kind i w t → is_loop kind ≡ false
      → ⊥
  loops_begin Leaf i w t may flat = may
  loops_begin (Scope g) i w t may flat = may
  loops_begin (Choice bs) i w t may flat = may
  loops_begin (Foreach pace g) i w t may flat = cc (flat)
  loops_begin (Until most g) i w t may flat = cc (flat)

  same_kind : (a b : Kind) → Some a ≡ Some b → a ≡ b
  same_kind a b e = cc (e)

  step : (s : St) → IsReached d depth m s → NoneBegun d s → (e : Event) (s' : St) → Step d m s e s' → NoneBegun d s'
  step s reached none (Start n i) s' (after, de, pass, to) x w is k known flat =
      none x w (sym (ap (λ (z : St). z.opens x) to) ∙ is) k known flat
  step s reached none (Try n i) s' (v, e, lt, to) x w is k known flat =
      none x w (sym (ap (λ (z : St). z.opens x) to) ∙ is) k known flat
  step s reached none (End n i) s' (v, e, all, to) x w is k known flat =
      none x w (sym (ap (λ (z : St). z.opens x) to) ∙ is) k known flat
  step s reached none (Skip n i) s' (after, kind, de, fails, to) x w is k known flat =
      none x w (sym (ap (λ (z : St). z.opens x) to) ∙ is) k known flat
  step s reached none (Open n i) s' (after, kind, c, de, pass, to) x w is k known flat =
      ⊎_elim (λ h. sym (ap next_of h.1)) (λ o. none x w o k known flat)
      (opened_split n i _ s.opens x w (sym (ap (λ (z : St). z.opens x) to) ∙ is))
  step s reached none (Begin n i) s' (after, kind, v, th, e, may, to) x w is k known flat =
      ⊎_elim
      (λ h. let same = same_kind kind k (sym (kinds_are_known d depth m s reached n i after kind th).0
      ∙ subst (λ z. kind_of d z.name ≡ Some k) (sym h.0) known) in
      absurd (loops_begin kind i v s.rows may (ap is_loop same ∙ flat)))
      (λ o. none x w o k known flat)
      (opened_split n i _ s.opens x w (sym (ap (λ (z : St). z.opens x) to) ∙ is))
  step s reached none (Test n i) s' (after, kind, v, j, th, e, may, to) x w is k known flat =
      ⊎_elim
      (λ h. sym (ap next_of h.1) ∙ none (address n i) v e k (subst (λ z. kind_of d z.name ≡ Some k) (sym h.0) known) flat)
      (λ o. none x w o k known flat)
      (opened_split n i _ s.opens x w (sym (ap (λ (z : St). z.opens x) to) ∙ is))
  step s reached none (Close n i) s' (after, kind, v, th, e, may, to) x w is k known flat =
      ⊎_elim (λ h. absurd (none-some w h.1)) (λ o. none x w o k known flat)
      (opened_split n i _ s.opens x w (sym (ap (λ (z : St). z.opens x) to) ∙ is))

  runs : (s : St) (es : List Event) (s' : St) → IsReached d depth m s → NoneBegun d s → Run d m s es s' → NoneBegun d s'
  runs s [] s' reached none same = subst (λ (z : St). NoneBegun d z) (sym same) none
  runs s (e ∷ es) s' reached none (mid, st, more) =
      runs mid es s' (goes_on d depth m s reached e mid st) (step s reached none e mid st) more

pub none_begun : {Row Begun Decision Verdict : Type 0} (d : Graph) (depth : ℕ → ℕ) (m : Source Row Begun Decision Verdict)
    (s : State Row Begun Decision Verdict) → IsReached d depth m s → NoneBegun d s
none_begun d depth m s (begun es is run) = runs d depth m fresh es s (begun [] is refl) (λ x w e. absurd (none-some w e)) run
none_begun {Verdict = Verdict} d depth _ s (resumed a b redo again r recall es falls closed sb old run) =
    runs d depth (pin a b redo again r recall) (resubmission.resumed d redo again r recall) es s
    (resumed a b redo again r recall [] falls closed sb old refl)
    (λ x w e k known flat. sym (ap next_of e) ∙ first_next Verdict (again x.name && same_at [] x.at) (kind_of d x.name) (recall x)) run
