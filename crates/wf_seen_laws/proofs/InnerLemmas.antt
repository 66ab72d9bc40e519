-- The loops round what stands inside a container: those round the container, and those of it.
use Rattle.std.proofs.Common.{◌≡◌, ℕ, true, false, ◌||◌, List, [], ◌∷◌, ◌++◌, Option, Some, None, inl, inr, refl, sym, ap, ◌∙◌, subst}
use Rattle.std.proofs.Common.{nat_eq, eqb-true}
use Rattle.std.proofs.lemmas.Option.{none-some}
use Rattle.wf_layers.specs.Definition.{Kind, Leaf, Scope, Choice, Foreach, Until, Branches, no_branch, branch, Graph, done, add, holds, has}
use Rattle.wf_layers.specs.Definition.{IsBefore, kind_any, kind_in, kind_of}
use Rattle.wf_layers.specs.Address.{Address, Lower, SeenIn, is_in, owner, starts}
use Rattle.wf_layers.specs.Seen.{Once, OnceIn, OnceAny}
use Rattle.wf_layers.proofs.Basics.{two, and_in, or_first, or_second, when, unless}
use Rattle.wf_layers.proofs.Tables.{any_in, has_in, holds_in}
use Rattle.wf_loops.specs.Loops.{loops_any, loops_in, loops_of}
use Rattle.wf_loops.proofs.HeldLemmas.{not_first, passed}
use Rattle.wf_loops.proofs.InsideLemmas.{at_first, behind_first, in_first, kind_has, stands}
use Rattle.wf_loops.proofs.RoundLemmas.{loops_none}
use Rattle.wf_seen_laws.proofs.RoundLemmas.{later_has}

module _ (n x : ℕ) (k : Kind) (inner : holds k x ≡ true) where
  mutual
    loops_inside_in : (m : ℕ) (kind : Kind) → OnceIn kind → kind_in kind n ≡ Some k
        → loops_in m kind x ≡ loops_in m kind n ++ loops_in n k x
    loops_inside_in m Leaf once e = absurd (none-some k e)
    loops_inside_in m (Scope g) once e = loops_inside g once e
    loops_inside_in m (Choice bs) once e = loops_inside_any bs once e
    loops_inside_in m (Foreach pace g) once e = ap (λ (ls : List ℕ). m ∷ ls) (loops_inside g once e)
    loops_inside_in m (Until most g) once e = ap (λ (ls : List ℕ). m ∷ ls) (loops_inside g once e)

    loops_inside_any : (bs : Branches) → OnceAny bs → kind_any bs n ≡ Some k → loops_any bs x ≡ loops_any bs n ++ loops_in n k x
    loops_inside_any no_branch once e = absurd (none-some k e)
    loops_inside_any (branch b rest) once e = elim (two (has b n)) [
      | inl t ↦
          let here = sym (when (has b n) (kind_of b n) (kind_any rest n) t) ∙ e in
          when (has b x) (loops_of b x) (loops_any rest x) (has_in b n x k here inner)
          ∙ (loops_inside b once.1 here
          ∙ ap (λ (ls : List ℕ). ls ++ loops_in n k x) (sym (when (has b n) (loops_of b n) (loops_any rest n) t)))
      | inr f ↦
          let later = sym (unless (has b n) (kind_of b n) (kind_any rest n) f) ∙ e in
          unless (has b x) (loops_of b x) (loops_any rest x) (not_first rest x b (any_in rest n x k later inner) once.0)
          ∙ (loops_inside_any rest once.2 later
          ∙ ap (λ (ls : List ℕ). ls ++ loops_in n k x) (sym (unless (has b n) (loops_of b n) (loops_any rest n) f)))
    ]

    pub loops_inside : (g : Graph) → Once g → kind_of g n ≡ Some k → loops_of g x ≡ loops_of g n ++ loops_in n k x
    loops_inside done once e = absurd (none-some k e)
    loops_inside (add m after kind rest) once e = elim (stands m kind rest n k e) [
      | at_first t is ↦
          let hx = subst (λ (q : Kind). holds q x ≡ true) (sym is) inner in
          let off = subst (λ (q : ℕ). holds kind q ≡ false) (eqb-true m n t) once.0 in
          let gone = once.1 n (or_first (nat_eq m n) (holds kind n) t) in
          when (holds kind x) (loops_in m kind x) (loops_of rest x) hx
          ∙ (ap (λ (q : ℕ). loops_in q kind x) (eqb-true m n t) ∙ ap (λ (q : Kind). loops_in n q x) is)
          ∙ ap (λ (ls : List ℕ). ls ++ loops_in n k x)
          (sym (unless (holds kind n) (loops_in m kind n) (loops_of rest n) off ∙ loops_none rest n gone))
      | in_first t is ↦
          when (holds kind x) (loops_in m kind x) (loops_of rest x) (holds_in kind n x k is inner)
          ∙ (loops_inside_in m kind once.2 is
          ∙ ap (λ (ls : List ℕ). ls ++ loops_in n k x) (sym (when (holds kind n) (loops_in m kind n) (loops_of rest n) t)))
      | behind_first is ↦
          let px = passed m kind rest once.1 x (has_in rest n x k is inner) in
          let pn = passed m kind rest once.1 n (kind_has rest n k is) in
          unless (holds kind x) (loops_in m kind x) (loops_of rest x) px.1
          ∙ (loops_inside rest once.3 is
          ∙ ap (λ (ls : List ℕ). ls ++ loops_in n k x) (sym (unless (holds kind n) (loops_in m kind n) (loops_of rest n) pn.1)))
    ]

-- ---- who sees something stands in the graph

owner_has : (g : Graph) (i : List ℕ) (y : Address) (c : ℕ) → owner g i y ≡ Some c → has g y.name ≡ true
owner_has done i y c is = absurd (none-some c is)
owner_has (add n after kind rest) i y c is = elim (two (is_in n kind i y)) [
  | inl t ↦ or_first (nat_eq n y.name || holds kind y.name) (has rest y.name)
      (and_in (nat_eq n y.name || holds kind y.name) (starts i y.at) t).0
  | inr f ↦ or_second (nat_eq n y.name || holds kind y.name) (has rest y.name)
      (owner_has rest i y c (sym (unless (is_in n kind i y) (Some n) (owner rest i y) f) ∙ is))
]

upper_has : (low : ℕ → ℕ → Type 0) (g : Graph) (y : Address) (o q : Option ℕ) → owner g [] y ≡ q → Lower low o q → has g y.name ≡ true
upper_has low g y None q is lower = absurd lower
upper_has low g y (Some a) None is lower = absurd lower
upper_has low g y (Some a) (Some c) is lower = owner_has g [] y c is

pub seer_has : (g : Graph) (z y : Address) → SeenIn g z y → has g z.name ≡ true
seer_has g z y seen = elim seen.1 [
  | inl lower ↦ upper_has (IsBefore g) g z (owner g [] y) (owner g [] z) refl lower
  | inr t ↦ later_has (IsBefore g) g [] y z t
]
