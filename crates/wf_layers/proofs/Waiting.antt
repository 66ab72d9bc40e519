-- Counts of what is waited for.
use Rattle.std.proofs.Common.{◌≡◌, ℕ, suc, ◌+◌, Bool, true, false, ◌&&◌, ◌||◌, cond, List, [], ◌∷◌, inl, inr, ⊎_elim, refl, sym, ap, ◌∙◌, arith, nat_eq, eq-eqb, eqb-true, true≢false}
use Rattle.wf_layers.specs.Definition.{Need, Names, Graph, done, add, holds, has, has_own}
use Rattle.wf_layers.specs.Address.{address, Table}
use Rattle.wf_layers.specs.Machine.{has_ended, is_ended, all_ended}
use Rattle.wf_layers.specs.Seen.{Once}
use Rattle.wf_layers.specs.Waiting.{waiting, lacking, times, Ends, Counts}
use Rattle.wf_layers.proofs.Basics.{two, when, unless, same_self, not_true, or_second}

-- by whether the first has ended
step_none : (b : Bool) (c : ℕ) (rest : Bool) → (c ≡ 0 → rest ≡ true) → cond b c (suc c) ≡ 0 → (b && rest) ≡ true
step_none true c rest h e = h e
step_none false c rest h e = absurd (omega (arith, e))

step_all : (b : Bool) (c : ℕ) (rest : Bool) → (rest ≡ true → c ≡ 0) → (b && rest) ≡ true → cond b c (suc c) ≡ 0
step_all true c rest h e = h e
step_all false c rest h e = absurd (true≢false (sym e))

pub own_has : (g : Graph) (q : ℕ) → has_own g q ≡ true → has g q ≡ true
own_has done q e = e
own_has (add n after kind rest) q e = go (nat_eq n q) (holds kind q) (has_own rest q) (has rest q) (own_has rest q) e
  where
    go : (a k o h : Bool) → (o ≡ true → h ≡ true) → (a || o) ≡ true → (a || k || h) ≡ true
    go true k o h up e = refl
    go false true o h up e = refl
    go false false o h up e = up e

module _ {A : Type 0} where
  none_waited : (after : List Need) (i : List ℕ) (t : Table A) → waiting after i t ≡ 0 → all_ended after i t ≡ true
  none_waited [] i t e = refl
  none_waited (n ∷ ns) i t e = step_none (has_ended (t (address n.name i))) (waiting ns i t) (all_ended ns i t) (none_waited ns i t) e

  all_waited : (after : List Need) (i : List ℕ) (t : Table A) → all_ended after i t ≡ true → waiting after i t ≡ 0
  all_waited [] i t e = refl
  all_waited (n ∷ ns) i t e = step_all (has_ended (t (address n.name i))) (waiting ns i t) (all_ended ns i t) (all_waited ns i t) e

  none_lacks : (g : Graph) (i : List ℕ) (t : Table A) → lacking g i t ≡ 0 → is_ended g i t ≡ true
  none_lacks done i t e = refl
  none_lacks (add n after kind rest) i t e =
      step_none (has_ended (t (address n i))) (lacking rest i t) (is_ended rest i t) (none_lacks rest i t) e

  all_lack : (g : Graph) (i : List ℕ) (t : Table A) → is_ended g i t ≡ true → lacking g i t ≡ 0
  all_lack done i t e = refl
  all_lack (add n after kind rest) i t e =
      step_all (has_ended (t (address n i))) (lacking rest i t) (is_ended rest i t) (all_lack rest i t) e

  waits_less : (after : List Need) (i : List ℕ) (p : ℕ) (t u : Table A) → Ends (Names after) i p t u
      → waiting after i t ≡ waiting after i u + times after p
  waits_less [] i p t u h = refl
  waits_less (n ∷ ns) i p t u h =
      let rest = waits_less ns i p t u (record { before = h.before; after = h.after; others = λ q m ne. h.others q (inr m) ne }) in
      ⊎_elim
      (λ same. let is = eqb-true n.name p same in
      let x = unless (has_ended (t (address n.name i))) (waiting ns i t) (suc (waiting ns i t))
      (ap (λ q. has_ended (t (address q i))) is ∙ h.before) in
      let y = when (has_ended (u (address n.name i))) (waiting ns i u) (suc (waiting ns i u))
      (ap (λ q. has_ended (u (address q i))) is ∙ h.after) in
      let z = when (nat_eq n.name p) (suc (times ns p)) (times ns p) same in
      omega (arith, rest, x, y, z))
      (λ other. let z = unless (nat_eq n.name p) (suc (times ns p)) (times ns p) other in
      let w = more (has_ended (t (address n.name i))) (has_ended (u (address n.name i))) (h.others n.name (inl refl) other) rest in
      omega (arith, w, z))
      (two (nat_eq n.name p))
    where
      more : (a b : Bool) → a ≡ b → waiting ns i t ≡ waiting ns i u + times ns p
          → cond a (waiting ns i t) (suc (waiting ns i t)) ≡ cond b (waiting ns i u) (suc (waiting ns i u)) + times ns p
      more true true e r = r
      more true false e r = absurd (true≢false e)
      more false true e r = absurd (true≢false (sym e))
      more false false e r = omega (arith, r)

  -- where none of the graph's own actions changes
  lacks_same : (g : Graph) (i : List ℕ) (t u : Table A)
      → ((q : ℕ) → has_own g q ≡ true → has_ended (t (address q i)) ≡ has_ended (u (address q i))) → lacking g i t ≡ lacking g i u
  lacks_same done i t u h = refl
  lacks_same (add n after kind rest) i t u h =
      same (has_ended (t (address n i))) (has_ended (u (address n i))) (h n (ap (λ b. b || has_own rest n) (same_self n)))
      (lacks_same rest i t u (λ q o. h q (or_second (nat_eq n q) (has_own rest q) o)))
    where
      same : (a b : Bool) → a ≡ b → lacking rest i t ≡ lacking rest i u → cond a (lacking rest i t) (suc (lacking rest i t)) ≡ cond b
          (lacking rest i u) (suc (lacking rest i u))
      same true true e r = r
      same true false e r = absurd (true≢false e)
      same false true e r = absurd (true≢false (sym e))
      same false false e r = omega (arith, r)

  lacks_less : (g : Graph) (i : List ℕ) (p : ℕ) (t u : Table A) → Once g → has_own g p ≡ true → Ends (λ q. has_own g q ≡ true) i p t u
      → lacking g i t ≡ suc (lacking g i u)
  lacks_less done i p t u once own h = absurd (true≢false (sym own))
  lacks_less (add n after kind rest) i p t u once own h =
      ⊎_elim
      (λ same. let is = eqb-true n p same in
      let x = unless (has_ended (t (address n i))) (lacking rest i t) (suc (lacking rest i t))
      (ap (λ q. has_ended (t (address q i))) is ∙ h.before) in
      let y = when (has_ended (u (address n i))) (lacking rest i u) (suc (lacking rest i u))
      (ap (λ q. has_ended (u (address q i))) is ∙ h.after) in
      let z = lacks_same rest i t u (λ q o. h.others q (or_second (nat_eq n q) (has_own rest q) o) (apart q is o)) in
      omega (arith, x, y, z))
      (λ other. let own' = sym (ap (λ b. b || has_own rest p) other) ∙ own in
      let r = lacks_less rest i p t u once.3 own'
      (record { before = h.before; after = h.after; others = λ q o ne. h.others q (or_second (nat_eq n q) (has_own rest q) o) ne }) in
      more (has_ended (t (address n i))) (has_ended (u (address n i))) (h.others n (ap (λ b. b || has_own rest n) (same_self n)) other) r)
      (two (nat_eq n p))
    where
      -- the rest has no other action of this name
      apart : (q : ℕ) → n ≡ p → has_own rest q ≡ true → nat_eq q p ≡ false
      apart q is o =
          not_true (nat_eq q p) (λ e. let same : n ≡ q = is ∙ sym (eqb-true q p e) in
          true≢false (sym (own_has rest q o) ∙ once.1 q (ap (λ b. b || holds kind q) (eq-eqb n q same))))

      more : (a b : Bool) → a ≡ b → lacking rest i t ≡ suc (lacking rest i u)
          → cond a (lacking rest i t) (suc (lacking rest i t)) ≡ suc (cond b (lacking rest i u) (suc (lacking rest i u)))
      more true true e r = r
      more true false e r = absurd (true≢false e)
      more false true e r = absurd (true≢false (sym e))
      more false false e r = omega (arith, r)

  pub counts_are : Counts A
  counts_are = record {
    waits_for_none = λ after i t. (none_waited after i t, all_waited after i t);
    lacks_none = λ g i t. (none_lacks g i t, all_lack g i t);
    waits_for_less = waits_less;
    lacks_less = lacks_less;
  }
