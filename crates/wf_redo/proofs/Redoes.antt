-- What a set of actions redoes, by the relations of the order.
use Rattle.std.proofs.Common.{◌≡◌, ℕ, Bool, true, false, ◌||◌, cond, Some, List, [], ◌∷◌, ◌++◌, replicate, inl, inr, refl, sym, ap, ◌∙◌, subst, nat_eq, eqb-true, append_assoc, append-nil}
use Rattle.std.proofs.lemmas.List.{length-replicate}
use Rattle.std.proofs.lemmas.Option.{none-some}
use Rattle.wf_layers.specs.Definition.{Need, Kind, Leaf, Scope, Choice, Foreach, Until, Branches, no_branch, branch, Graph, done, add, holds, has, has_any, Closed, kind_of, kind_in, kind_any}
use Rattle.wf_layers.specs.Address.{address, SeenIn}
use Rattle.wf_layers.specs.Machine.{In, here, there}
use Rattle.wf_layers.specs.Redo.{HoldsChosen, IsHit, RedoIn, RedoAny, RedoOf, IsRedo}
use Rattle.wf_layers.specs.Resubmission.{Split, SplitIn, SplitAny, IsSplit}
use Rattle.wf_layers.specs.Seen.{Once, OnceIn, OnceAny}
use Rattle.wf_layers.proofs.Basics.{either, or_first, or_second, not_true, same_self, starts_self}
use Rattle.wf_layers.proofs.Redo.{redo_splits}
use Rattle.wf_layers.proofs.Resubmission.{kept_not}
use Rattle.wf_order.specs.Indexes.{loops_round}
use Rattle.wf_order.specs.Order.{Among, Before, Contains, Redo, itself, inside, behind, around, around_in, around_any}
use Rattle.wf_order.proofs.OrderLaws.{two, clash, first_passed, kind_passed, branch_passed, around-head, around-inner, around-rest, around-branch, around-branches, at_first, in_first, behind_first, stands, moved, append-left, append-right, inner_contains, inner_after, last_up}
use Rattle.wf_order.proofs.SeenLaws.{before_seen}
use Rattle.wf_redo.specs.Redoes.{RedoneWithOne, HoldsOne, RedoesExactly, ASetRedoes}

module _ (d : Graph) (chosen redo again : ℕ → Bool) where
  -- ---- the chosen are redone

  mutual
    chosen_in : (kind : Kind) (n x : ℕ) → RedoIn d chosen redo again kind n → holds kind x ≡ true → chosen x ≡ true → redo x ≡ true
    chosen_in Leaf n x t h c = absurd (cc)
    chosen_in (Scope g) n x t h c = chosen_of g g (redo n) x t h c
    chosen_in (Choice bs) n x t h c = chosen_any bs (redo n) x t h c
    chosen_in (Foreach pace g) n x t h c = absurd (clash (chosen x) c (t.0 x h))
    chosen_in (Until most g) n x t h c = absurd (clash (chosen x) c (t.0 x h))

    chosen_any : (bs : Branches) (above : Bool) (x : ℕ) → RedoAny d chosen redo again above bs → has_any bs x ≡ true → chosen x ≡ true
        → redo x ≡ true
    chosen_any no_branch above x t h c = absurd (cc)
    chosen_any (branch b rest) above x t h c = elim (either (has b x) (has_any rest x) h) [
      | inl one ↦ chosen_of b b above x t.0 one c
      | inr later ↦ chosen_any rest above x t.1 later c
    ]

    chosen_of : (g w : Graph) (above : Bool) (x : ℕ) → RedoOf d chosen redo again above g w → has g x ≡ true → chosen x ≡ true
        → redo x ≡ true
    chosen_of done w above x t h c = absurd (cc)
    chosen_of (add n after kind rest) w above x t h c = elim (either (nat_eq n x || holds kind x) (has rest x) h) [
      | inl one ↦ elim (either (nat_eq n x) (holds kind x) one) [
        | inl own ↦
            let is = eqb-true n x own in
            subst (λ (z : ℕ). redo z ≡ true) is (t.1 (inr (inl (subst (λ (z : ℕ). chosen z ≡ true) (sym is) c))))
        | inr held ↦ chosen_in kind n x t.4 held c
      ]
      | inr later ↦ chosen_of rest w above x t.5 later c
    ]

  -- ---- what is inside a redone action is redone

  mutual
    inside_in : (kind : Kind) (n x y : ℕ) → SplitIn redo again kind n → redo x ≡ true → holds kind y ≡ true → Among (around_in kind y) x
        → redo y ≡ true
    inside_in Leaf n x y s r h among = absurd (cc)
    inside_in (Scope g) n x y s r h among = inside_of g x y s r h among
    inside_in (Choice bs) n x y s r h among = inside_any bs x y s r h among
    inside_in (Foreach pace g) n x y s r h among = inside_of g x y s.2 r h among
    inside_in (Until most g) n x y s r h among = inside_of g x y s.2 r h among

    inside_any : (bs : Branches) (x y : ℕ) → SplitAny redo again bs → redo x ≡ true → has_any bs y ≡ true → Among (around_any bs y) x
        → redo y ≡ true
    inside_any no_branch x y s r h among = absurd (cc)
    inside_any (branch b rest) x y s r h among = elim (two (has b y)) [
      | inl one ↦ inside_of b x y s.0 r one (moved _ _ x (around-branch b rest y one) among)
      | inr out ↦ inside_any rest x y s.1 r (ap (λ c. c || has_any rest y) (sym out) ∙ h) (moved _ _ x (around-branches b rest y out) among)
    ]

    inside_of : (g : Graph) (x y : ℕ) → Split redo again g → redo x ≡ true → has g y ≡ true → Among (around g y) x → redo y ≡ true
    inside_of done x y s r h among = absurd (cc)
    inside_of (add n after kind rest) x y s r h among = elim (stands n kind rest y) [
      | at_first own ↦ elim (moved _ _ x (around-head n after kind rest y own) among) [ ]
      | in_first other held ↦ elim (moved _ _ x (around-inner n after kind rest y other held) among) [
        | inl is ↦ s.0 (subst (λ (z : ℕ). redo z ≡ true) (sym is) r) y held
        | inr deeper ↦ inside_in kind n x y s.2 r held deeper
      ]
      | behind_first other out ↦
          inside_of rest x y s.3 r (ap (λ c. c || has rest y) (sym (ap (λ c. c || holds kind y) other ∙ out)) ∙ h)
          (moved _ _ x (around-rest n after kind rest y other out) among)
    ]

  module _ (once : Once d) (closed : Closed d d) (present : (x : ℕ) → chosen x ≡ true
      → has d x ≡ true) (is : IsRedo d chosen redo again) where
    split : IsSplit d redo again
    split = redo_splits d chosen redo again is

    -- ---- what is redone with one of the set

    onward : (x z n : ℕ) → Redo d x z → Contains d z n → Redo d x n
    onward x z n (itself same) held = inside (subst (λ (y : ℕ). Contains d y n) (sym same) held)
    onward x z n (inside h) held = inside (inner_contains d once x z n h held)
    onward x z n (behind h) held = behind (inner_after d once x z n h held)

    seen_before : (x n : ℕ) → Before d x n
        → SeenIn d (address n (replicate (loops_round d x n) 0)) (address x (replicate (loops_round d x n) 0))
    seen_before x n b =
        let zeros = replicate (loops_round d x n) 0 in
        before_seen d once closed (address x zeros) (address n zeros) b
        (record {
          indexes = zeros;
          each_loop = length-replicate
              (loops_round d x n) 0;
          of_one = starts_self zeros;
          of_other = starts_self zeros;
        })

    with_one : (n : ℕ) → has d n ≡ true → RedoneWithOne d chosen n → redo n ≡ true
    with_one n h (x, c, itself same) = subst (λ (z : ℕ). redo z ≡ true) same (chosen_of d d false x is.tree (present x c) c)
    with_one n h (x, c, inside held) = inside_of d x n split.tree (chosen_of d d false x is.tree (present x c) c) h held
    with_one n h (x, c, behind b) = elim (two (redo n)) [
      | inl r ↦ r
      | inr no_redo ↦
          absurd (clash (redo x) (chosen_of d d false x is.tree (present x c) c)
          (kept_not (redo x) (again x) (split.after (address n (replicate (loops_round d x n) 0)) (address x (replicate
          (loops_round d x n) 0)) no_redo
          (seen_before x n b))))
    ]

    -- ---- and nothing else is

    -- an action of a graph stands round all that is inside it
    in_contains : (w : Graph) (c : ℕ) (before : List Need) (kind : Kind) → Once w → In w c before kind → (a : ℕ) → holds kind a ≡ true
        → (has w a ≡ true) × Among (around w a) c
    in_contains _ c before kind o (here {rest = rest}) a h = (
      or_first (nat_eq c a || holds kind a) (has rest a) (or_second (nat_eq c a) (holds kind a) h),
      moved _ _ c (sym (around-inner c before kind rest a (apart c kind a o.0 h) h)) (inl refl),
    )
      where
        apart : (c : ℕ) (kind : Kind) (a : ℕ) → holds kind c ≡ false → holds kind a ≡ true → nat_eq c a ≡ false
        apart c kind a free h = not_true (nat_eq c a) (λ same. clash (holds kind a) h (ap (holds kind) (sym (eqb-true c a same)) ∙ free))
    in_contains _ c before kind o (there {m = m} {before = after} {other = other} {rest = rest} st) a h =
        let later = in_contains rest c before kind o.3 st a h in (
          or_second (nat_eq m a || holds other a) (has rest a) later.0,
          moved _ _ c (sym (around-rest m after other rest a (first_passed m a other rest o.1 later.0)
              (kind_passed m a other rest o.1 later.0))) later.1,
        )

    -- actions of a graph that stands inside these containers
    abbrev Round : List ℕ → Graph → Type 0
    Round cs g = (x : ℕ) → has g x ≡ true → around d x ≡ cs ++ around g x

    abbrev Above : Bool → List ℕ → Type 0
    Above above cs = above ≡ true → (z : ℕ) × Among cs z × RedoneWithOne d chosen z

    abbrev Of : Graph → Type 0
    Of w = (c : ℕ) (before : List Need) (kind : Kind) → In w c before kind → (a : ℕ) → holds kind a ≡ true → Contains d c a

    graph_of : (cs : List ℕ) (w : Graph) → Once w → Round cs w → Of w
    graph_of cs w o round c before kind st a h =
        let in_w = in_contains w c before kind o st a h in
        moved _ _ c (sym (round a in_w.0)) (append-right cs (around w a) c in_w.1)

    hit : (above : Bool) (cs : List ℕ) (w : Graph) (n : ℕ) → Above above cs → Of w → around d n ≡ cs → IsHit d chosen above w n
        → RedoneWithOne d chosen n
    hit above cs w n upward of_w round (inl a) =
        let z = upward a in (z.2.0, z.2.1, onward z.2.0 z.0 n z.2.2 (moved _ _ z.0 (sym round) z.1))
    hit above cs w n upward of_w round (inr (inl c)) = (n, c, itself refl)
    hit above cs w n upward of_w round (inr (inr (c, before, kind, st, b, inl touched))) =
        (c, touched, behind (record { one = c; other = n; one_up = last_up d c; other_up = last_up d n; ancestor = b }))
    hit above cs w n upward of_w round (inr (inr (c, before, kind, st, b, inr (a, held, touched)))) = (
      a,
      touched,
      behind (record {
        one = c;
        other = n;
        one_up = append-left (around d a) (a ∷ []) c (of_w c before kind st a held);
        other_up = last_up d n;
        ancestor = b;
      }),
    )

    own_round : (n : ℕ) (after : List Need) (kind : Kind) (rest : Graph) (cs : List ℕ) → Round cs (add n after kind rest) → around d n ≡ cs
    own_round n after kind rest cs round =
        round n (or_first (nat_eq n n || holds kind n) (has rest n) (or_first (nat_eq n n) (holds kind n) (same_self n)))
        ∙ ap (λ as'. cs ++ as') (around-head n after kind rest n (same_self n)) ∙ append-nil cs

    free_name : (n : ℕ) (kind : Kind) (x : ℕ) → holds kind n ≡ false → holds kind x ≡ true → nat_eq n x ≡ false
    free_name n kind x free h = not_true (nat_eq n x) (λ same. clash (holds kind x) h (ap (holds kind) (sym (eqb-true n x same)) ∙ free))

    inner_round : (n : ℕ) (after : List Need) (kind : Kind) (rest : Graph) (cs : List ℕ) → Once (add n after kind rest)
        → Round cs (add n after kind rest) → (x : ℕ) → holds kind x ≡ true → around d x ≡ (cs ++ n ∷ []) ++ around_in kind x
    inner_round n after kind rest cs o round x h =
        round x (or_first (nat_eq n x || holds kind x) (has rest x) (or_second (nat_eq n x) (holds kind x) h))
        ∙ ap (λ as'. cs ++ as') (around-inner n after kind rest x (free_name n kind x o.0 h) h)
        ∙ sym (append_assoc cs (n ∷ []) (around_in kind x))

    rest_round : (n : ℕ) (after : List Need) (kind : Kind) (rest : Graph) (cs : List ℕ) → Once (add n after kind rest)
        → Round cs (add n after kind rest) → Round cs rest
    rest_round n after kind rest cs o round x h =
        round x (or_second (nat_eq n x || holds kind x) (has rest x) h)
        ∙ ap (λ as'. cs ++ as') (around-rest n after kind rest x (first_passed n x kind rest o.1 h) (kind_passed n x kind rest o.1 h))

    mutual
      only_in : (kind : Kind) (n : ℕ) (cs : List ℕ) → OnceIn kind → RedoIn d chosen redo again kind n → Above (redo n) cs
          → ((x : ℕ) → holds kind x ≡ true → around d x ≡ cs ++ around_in kind x)
          → (x : ℕ) → holds kind x ≡ true → redo x ≡ true → RedoneWithOne d chosen x
      only_in Leaf n cs o t upward round x h r = absurd (cc)
      only_in (Scope g) n cs o t upward round x h r = only_of g g (redo n) cs o t upward (graph_of cs g o round) round x h r
      only_in (Choice bs) n cs o t upward round x h r = only_any bs (redo n) cs o t upward round x h r
      only_in (Foreach pace g) n cs o t upward round x h r = only_of g g (redo n) cs o t.1 upward (graph_of cs g o round) round x h r
      only_in (Until most g) n cs o t upward round x h r = only_of g g (redo n) cs o t.1 upward (graph_of cs g o round) round x h r

      only_any : (bs : Branches) (above : Bool) (cs : List ℕ) → OnceAny bs → RedoAny d chosen redo again above bs → Above above cs
          → ((x : ℕ) → has_any bs x ≡ true → around d x ≡ cs ++ around_any bs x)
          → (x : ℕ) → has_any bs x ≡ true → redo x ≡ true → RedoneWithOne d chosen x
      only_any no_branch above cs o t upward round x h r = absurd (cc)
      only_any (branch b rest) above cs o t upward round x h r = elim (two (has b x)) [
        | inl one ↦
            let within : Round cs b =
            λ y k. round y (or_first (has b y) (has_any rest y) k) ∙ ap (λ as'. cs ++ as') (around-branch b rest y k) in
            only_of b b above cs o.1 t.0 upward (graph_of cs b o.1 within) within x one r
        | inr out ↦
            only_any rest above cs o.2 t.1 upward
            (λ y k. round y (or_second (has b y) (has_any rest y) k)
            ∙ ap (λ as'. cs ++ as') (around-branches b rest y (branch_passed b rest y o.0 k)))
            x (ap (λ c. c || has_any rest x) (sym out) ∙ h) r
      ]

      only_of : (g w : Graph) (above : Bool) (cs : List ℕ) → Once g → RedoOf d chosen redo again above g w → Above above cs → Of w
          → Round cs g
          → (x : ℕ) → has g x ≡ true → redo x ≡ true → RedoneWithOne d chosen x
      only_of done w above cs o t upward of_w round x h r = absurd (cc)
      only_of (add n after kind rest) w above cs o t upward of_w round x h r =
          let own : redo n ≡ true → RedoneWithOne d chosen n =
          λ q. hit above cs w n upward of_w (own_round n after kind rest cs round) (t.0 q) in
          elim (stands n kind rest x) [
            | at_first same ↦
                let eq = eqb-true n x same in
                subst (λ (z : ℕ). RedoneWithOne d chosen z) eq (own (subst (λ (z : ℕ). redo z ≡ true) (sym eq) r))
            | in_first other held ↦
                only_in kind n (cs ++ n ∷ []) o.2 t.4 (λ q. (n, append-right cs (n ∷ []) n (inl refl), own q))
                (inner_round n after kind rest cs o round) x held r
            | behind_first other out ↦
                only_of rest w above cs o.3 t.5 upward of_w (rest_round n after kind rest cs o round) x
                (ap (λ c. c || has rest x) (sym (ap (λ c. c || holds kind x) other ∙ out)) ∙ h) r
          ]

    -- ---- what is closed again contains one

    mutual
      again_in : (kind : Kind) (n : ℕ) (cs : List ℕ) → OnceIn kind → RedoIn d chosen redo again kind n
          → ((x : ℕ) → holds kind x ≡ true → around d x ≡ cs ++ around_in kind x)
          → (x : ℕ) → holds kind x ≡ true → again x ≡ true → HoldsOne d chosen redo x
      again_in Leaf n cs o t round x h ag = absurd (cc)
      again_in (Scope g) n cs o t round x h ag = again_of g g (redo n) cs o t round x h ag
      again_in (Choice bs) n cs o t round x h ag = again_any bs (redo n) cs o t round x h ag
      again_in (Foreach pace g) n cs o t round x h ag = again_of g g (redo n) cs o t.1 round x h ag
      again_in (Until most g) n cs o t round x h ag = again_of g g (redo n) cs o t.1 round x h ag

      again_any : (bs : Branches) (above : Bool) (cs : List ℕ) → OnceAny bs → RedoAny d chosen redo again above bs
          → ((x : ℕ) → has_any bs x ≡ true → around d x ≡ cs ++ around_any bs x)
          → (x : ℕ) → has_any bs x ≡ true → again x ≡ true → HoldsOne d chosen redo x
      again_any no_branch above cs o t round x h ag = absurd (cc)
      again_any (branch b rest) above cs o t round x h ag = elim (two (has b x)) [
        | inl one ↦
            again_of b b above cs o.1 t.0
            (λ y k. round y (or_first (has b y) (has_any rest y) k) ∙ ap (λ as'. cs ++ as') (around-branch b rest y k)) x one ag
        | inr out ↦
            again_any rest above cs o.2 t.1
            (λ y k. round y (or_second (has b y) (has_any rest y) k)
            ∙ ap (λ as'. cs ++ as') (around-branches b rest y (branch_passed b rest y o.0 k)))
            x (ap (λ c. c || has_any rest x) (sym out) ∙ h) ag
      ]

      again_of : (g w : Graph) (above : Bool) (cs : List ℕ) → Once g → RedoOf d chosen redo again above g w → Round cs g
          → (x : ℕ) → has g x ≡ true → again x ≡ true → HoldsOne d chosen redo x
      again_of done w above cs o t round x h ag = absurd (cc)
      again_of (add n after kind rest) w above cs o t round x h ag = elim (stands n kind rest x) [
        | at_first same ↦
            let eq = eqb-true n x same in
            let held = t.2 (subst (λ (z : ℕ). again z ≡ true) (sym eq) ag) in
            let contained : Contains d n held.1.0 =
            moved _ _ n (sym (inner_round n after kind rest cs o round held.1.0 held.1.1))
            (append-left (cs ++ n ∷ []) (around_in kind held.1.0) n (append-right cs (n ∷ []) n (inl refl))) in
            subst (λ (z : ℕ). HoldsOne d chosen redo z) eq (held.0, (held.1.0, held.1.2, contained))
        | in_first other held ↦ again_in kind n (cs ++ n ∷ []) o.2 t.4 (inner_round n after kind rest cs o round) x held ag
        | behind_first other out ↦
            again_of rest w above cs o.3 t.5 (rest_round n after kind rest cs o round) x
            (ap (λ c. c || has rest x) (sym (ap (λ c. c || holds kind x) other ∙ out)) ∙ h) ag
      ]

    -- ---- what stands round an action holds it

    mutual
      round_held : (kind : Kind) (x n : ℕ) → Among (around_in kind x) n → holds kind n ≡ true
      round_held Leaf x n among = elim among [ ]
      round_held (Scope g) x n among = round_has g x n among
      round_held (Choice bs) x n among = round_any bs x n among
      round_held (Foreach pace g) x n among = round_has g x n among
      round_held (Until most g) x n among = round_has g x n among

      round_any : (bs : Branches) (x n : ℕ) → Among (around_any bs x) n → has_any bs n ≡ true
      round_any no_branch x n among = elim among [ ]
      round_any (branch b rest) x n among = elim (two (has b x)) [
        | inl one ↦ or_first (has b n) (has_any rest n) (round_has b x n (moved _ _ n (around-branch b rest x one) among))
        | inr out ↦ or_second (has b n) (has_any rest n) (round_any rest x n (moved _ _ n (around-branches b rest x out) among))
      ]

      round_has : (g : Graph) (x n : ℕ) → Among (around g x) n → has g n ≡ true
      round_has done x n among = elim among [ ]
      round_has (add m after kind rest) x n among = elim (stands m kind rest x) [
        | at_first own ↦ elim (moved _ _ n (around-head m after kind rest x own) among) [ ]
        | in_first other held ↦ or_first (nat_eq m n || holds kind n) (has rest n) (elim (moved _ _ n
            (around-inner m after kind rest x other held) among) [
              | inl same ↦ or_first (nat_eq m n) (holds kind n) (ap (nat_eq m) (sym same) ∙ same_self m)
              | inr deeper ↦ or_second (nat_eq m n) (holds kind n) (round_held kind x n deeper)
            ])
        | behind_first other out ↦
            or_second (nat_eq m n || holds kind n) (has rest n) (round_has rest x n (moved _ _ n
            (around-rest m after kind rest x other out) among))
      ]

    some_same : (p q : Kind) → Some p ≡ Some q → p ≡ q
    some_same p q is = cc

    mutual
      holds_in : (kind : Kind) (x n : ℕ) (k : Kind) → OnceIn kind → Among (around_in kind x) n → kind_in kind n ≡ Some k → holds k x ≡ true
      holds_in Leaf x n k o among is = elim among [ ]
      holds_in (Scope g) x n k o among is = holds_of g x n k o among is
      holds_in (Choice bs) x n k o among is = holds_any bs x n k o among is
      holds_in (Foreach pace g) x n k o among is = holds_of g x n k o among is
      holds_in (Until most g) x n k o among is = holds_of g x n k o among is

      holds_any : (bs : Branches) (x n : ℕ) (k : Kind) → OnceAny bs → Among (around_any bs x) n → kind_any bs n ≡ Some k → holds k x ≡ true
      holds_any no_branch x n k o among is = elim among [ ]
      holds_any (branch b rest) x n k o among is = elim (two (has b x)) [
        | inl one ↦
            let inner = moved _ _ n (around-branch b rest x one) among in
            holds_of b x n k o.1 inner (sym (ap (λ c. cond c (kind_of b n) (kind_any rest n)) (round_has b x n inner)) ∙ is)
        | inr out ↦
            let inner = moved _ _ n (around-branches b rest x out) among in
            holds_any rest x n k o.2 inner
            (sym (ap (λ c. cond c (kind_of b n) (kind_any rest n)) (branch_passed b rest n o.0 (round_any rest x n inner))) ∙ is)
      ]

      holds_of : (g : Graph) (x n : ℕ) (k : Kind) → Once g → Among (around g x) n → kind_of g n ≡ Some k → holds k x ≡ true
      holds_of done x n k o among is = elim among [ ]
      holds_of (add m after kind rest) x n k o among is = elim (stands m kind rest x) [
        | at_first own ↦ elim (moved _ _ n (around-head m after kind rest x own) among) [ ]
        | in_first other held ↦ elim (moved _ _ n (around-inner m after kind rest x other held) among) [
          | inl same ↦
              let named : nat_eq m n ≡ true = ap (nat_eq m) (sym same) ∙ same_self m in
              let eq = some_same kind k (sym (ap (λ c. cond c (Some kind) (cond (holds kind n) (kind_in kind n)
              (kind_of rest n))) named) ∙ is) in
              subst (λ (z : Kind). holds z x ≡ true) eq held
          | inr deeper ↦
              let h = round_held kind x n deeper in
              holds_in kind x n k o.2 deeper
              (sym (ap (λ c. cond c (Some kind) (cond (holds kind n) (kind_in kind n) (kind_of rest n))) (free_name m kind n o.0 h)
              ∙ ap (λ c. cond c (kind_in kind n) (kind_of rest n)) h) ∙ is)
        ]
        | behind_first other out ↦
            let inner = moved _ _ n (around-rest m after kind rest x other out) among in
            let h = round_has rest x n inner in
            holds_of rest x n k o.3 inner
            (sym (ap (λ c. cond c (Some kind) (cond (holds kind n) (kind_in kind n) (kind_of rest n))) (first_passed m n kind rest o.1 h)
            ∙ ap (λ c. cond c (kind_in kind n) (kind_of rest n)) (kind_passed m n kind rest o.1 h)) ∙ is)
      ]

    -- at each action: where it isn't redone and holds one of the set, it is closed again
    abbrev Closes : ℕ → Kind → Type 0
    Closes n kind = redo n ≡ false → HoldsChosen d chosen kind → again n ≡ true

    mutual
      closes_in : (kind : Kind) (n q : ℕ) (k : Kind) → OnceIn kind → RedoIn d chosen redo again kind n → kind_in kind q ≡ Some k
          → Closes q k
      closes_in Leaf n q k o t is = absurd (none-some k is)
      closes_in (Scope g) n q k o t is = closes_of g g (redo n) q k o t is
      closes_in (Choice bs) n q k o t is = closes_any bs (redo n) q k o t is
      closes_in (Foreach pace g) n q k o t is = closes_of g g (redo n) q k o t.1 is
      closes_in (Until most g) n q k o t is = closes_of g g (redo n) q k o t.1 is

      closes_any : (bs : Branches) (above : Bool) (q : ℕ) (k : Kind) → OnceAny bs → RedoAny d chosen redo again above bs
          → kind_any bs q ≡ Some k
          → Closes q k
      closes_any no_branch above q k o t is = absurd (none-some k is)
      closes_any (branch b rest) above q k o t is = elim (two (has b q)) [
        | inl one ↦ closes_of b b above q k o.1 t.0 (sym (ap (λ c. cond c (kind_of b q) (kind_any rest q)) one) ∙ is)
        | inr out ↦ closes_any rest above q k o.2 t.1 (sym (ap (λ c. cond c (kind_of b q) (kind_any rest q)) out) ∙ is)
      ]

      closes_of : (g w : Graph) (above : Bool) (q : ℕ) (k : Kind) → Once g → RedoOf d chosen redo again above g w → kind_of g q ≡ Some k
          → Closes q k
      closes_of done w above q k o t is = absurd (none-some k is)
      closes_of (add n after kind rest) w above q k o t is = elim (stands n kind rest q) [
        | at_first own ↦
            let eq = eqb-true n q own in
            let same = some_same kind k (sym (ap (λ c. cond c (Some kind) (cond (holds kind q) (kind_in kind q) (kind_of rest q))) own)
            ∙ is) in
            subst (λ (z : ℕ). Closes z k) eq (subst (λ (z : Kind). Closes n z) same t.3)
        | in_first other held ↦
            closes_in kind n q k o.2 t.4
            (sym (ap (λ c. cond c (Some kind) (cond (holds kind q) (kind_in kind q) (kind_of rest q))) other
            ∙ ap (λ c. cond c (kind_in kind q) (kind_of rest q)) held) ∙ is)
        | behind_first other out ↦
            closes_of rest w above q k o.3 t.5
            (sym (ap (λ c. cond c (Some kind) (cond (holds kind q) (kind_in kind q) (kind_of rest q))) other
            ∙ ap (λ c. cond c (kind_in kind q) (kind_of rest q)) out) ∙ is)
      ]

    -- what is there has a kind
    mutual
      kind_held : (kind : Kind) (q : ℕ) → holds kind q ≡ true → (k : Kind) × (kind_in kind q ≡ Some k)
      kind_held Leaf q h = absurd (cc)
      kind_held (Scope g) q h = kind_had g q h
      kind_held (Choice bs) q h = kind_had_any bs q h
      kind_held (Foreach pace g) q h = kind_had g q h
      kind_held (Until most g) q h = kind_had g q h

      kind_had_any : (bs : Branches) (q : ℕ) → has_any bs q ≡ true → (k : Kind) × (kind_any bs q ≡ Some k)
      kind_had_any no_branch q h = absurd (cc)
      kind_had_any (branch b rest) q h = elim (two (has b q)) [
        | inl one ↦ let found = kind_had b q one in (found.0, ap (λ c. cond c (kind_of b q) (kind_any rest q)) one ∙ found.1)
        | inr out ↦
            let found = kind_had_any rest q (ap (λ c. c || has_any rest q) (sym out) ∙ h) in
            (found.0, ap (λ c. cond c (kind_of b q) (kind_any rest q)) out ∙ found.1)
      ]

      kind_had : (g : Graph) (q : ℕ) → has g q ≡ true → (k : Kind) × (kind_of g q ≡ Some k)
      kind_had done q h = absurd (cc)
      kind_had (add n after kind rest) q h = elim (stands n kind rest q) [
        | at_first own ↦ (kind, ap (λ c. cond c (Some kind) (cond (holds kind q) (kind_in kind q) (kind_of rest q))) own)
        | in_first other held ↦
            let found = kind_held kind q held in (
              found.0,
              ap (λ c. cond c (Some kind) (cond (holds kind q) (kind_in kind q) (kind_of rest q))) other
                  ∙ ap (λ c. cond c (kind_in kind q) (kind_of rest q)) held ∙ found.1,
            )
        | behind_first other out ↦
            let found = kind_had rest q (ap (λ c. c || has rest q) (sym (ap (λ c. c || holds kind q) other ∙ out)) ∙ h) in (
              found.0,
              ap (λ c. cond c (Some kind) (cond (holds kind q) (kind_in kind q) (kind_of rest q))) other
                  ∙ ap (λ c. cond c (kind_in kind q) (kind_of rest q)) out ∙ found.1,
            )
      ]

    closes_one : (n : ℕ) → has d n ≡ true → HoldsOne d chosen redo n → again n ≡ true
    closes_one n h one =
        let found = kind_had d n h in
        closes_of d d false n found.0 once is.tree found.1 one.0
        (one.1.0, holds_of d one.1.0 n found.0 once one.1.2 found.1, one.1.1)

    all_round : Round [] d
    all_round x h = refl

    exact_set : RedoesExactly d chosen redo again
    exact_set = record {
      redone = λ n h. (
        λ r. only_of d d false [] once is.tree (λ a. absurd (cc))
            (graph_of [] d once all_round) all_round n h r,
        with_one n h,
      );
      closed_again = λ n h. (λ ag. again_of d d false [] once is.tree all_round n h ag, closes_one n h);
    }

pub exactly : (d : Graph) (chosen redo again : ℕ → Bool) → ASetRedoes d chosen redo again
exactly d chosen redo again once closed present is = exact_set d chosen redo again once closed present is
