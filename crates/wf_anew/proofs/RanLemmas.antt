-- What is closed again had run: its row is the one with which it ended, and it had taken a branch.
use Rattle.std.proofs.Common.{◌≡◌, ℕ, Bool, true, false, ◌&&◌, ◌||◌, cond, List, [], Option, Some, None, inl, inr, sym, ap, ◌∙◌, subst}
use Rattle.std.proofs.Common.{nat_eq, eqb-true, true≢false}
use Rattle.std.proofs.lemmas.Option.{none-some}
use Rattle.wf_layers.specs.Definition.{Need, Kind, Leaf, Scope, Choice, Foreach, Until, Branches, no_branch, branch, Graph, done, add}
use Rattle.wf_layers.specs.Definition.{is_one, less_one, holds, has, has_any, kind_any, kind_in, kind_of}
use Rattle.wf_layers.specs.Address.{Address, Table, address, is_among, is_in, is_own, is_within}
use Rattle.wf_layers.specs.Laws.{IsFresh}
use Rattle.wf_layers.specs.Meaning.{only, skip}
use Rattle.wf_layers.specs.Redo.{HoldsChosen, IsRedo, RedoAny, RedoIn, RedoOf}
use Rattle.wf_layers.specs.Rule.{look, look_any, look_in}
use Rattle.wf_layers.specs.Seen.{Once, OnceAny, OnceIn}
use Rattle.wf_layers.specs.Source.{Source, gate}
use Rattle.wf_layers.proofs.Basics.{among_here, among_there, and_in, apart, held_in, in_within, inner_not_own, not_true, own_in}
use Rattle.wf_layers.proofs.Basics.{rest_within}
use Rattle.wf_layers.proofs.Basics.{two, unless, when}
use Rattle.wf_layers.proofs.Chosen.{failed_none, skipped_none}
use Rattle.wf_layers.proofs.Redo.{kind_apart, kind_redone, kind_touched, none_again}
use Rattle.wf_layers.proofs.Tables.{own_self}

module _ {Row Begun Decision Verdict : Type 0} (a : Source Row Begun Decision Verdict) (fa : IsFresh a) (d : Graph)
    (chosen redo again : ℕ → Bool) (r : Table Row) (ran : (n : ℕ) → chosen n ≡ true → r (address n []) ≡ Some a.skipped → ⊥) where
  abbrev Followed : Graph → Type 0
  Followed g = (x : Address) → is_within g [] x ≡ true → r x ≡ look a g [] r x

  abbrev FollowedIn : Kind → ℕ → Type 0
  FollowedIn kind n = (x : Address) → is_in n kind [] x ≡ true → r x ≡ look_in a kind n [] r x

  -- what is known of a container that is closed again
  pub record Ended (q : ℕ) (kind : Kind) : Type 0 where
    pub rows : FollowedIn kind q
    pub inside : RedoIn d chosen redo again kind q
    pub holds_one : HoldsChosen d chosen kind
    pub once : OnceIn kind
    pub not_own : holds kind q ≡ false

  inner : (kind : Kind) (n : ℕ) (v u : Option Row) (p : Bool) (x : Address) → holds kind n ≡ false
      → (holds kind x.name && true) ≡ true → p ≡ true → cond (is_own n [] x) v (only p u) ≡ u
  inner kind n v u p x nh w e =
      unless (is_own n [] x) v _ (inner_not_own n kind [] x nh (and_in (holds kind x.name) true w).0) ∙ when p u None e

  -- inside what didn't run nothing is closed again
  none_inside : (n : ℕ) (kind : Kind) → RedoIn d chosen redo again kind n → (HoldsChosen d chosen kind → ⊥) → (q : ℕ)
      → holds kind q ≡ true → again q ≡ false
  none_inside n kind t none q h =
      not_true (again q) (λ e.
      elim (two (redo n)) [
        | inl x ↦ true≢false (sym (kind_redone d chosen redo again kind n x t q h) ∙ kind_apart d chosen redo again kind n t q h e)
        | inr x ↦ none (kind_touched d chosen redo again kind n x t q h (inr e))
      ])

  fresh_rule : (n : ℕ) (after : List Need) (kind : Kind) (x : Address)
      → cond (a.pinned n) (a.old x) (cond (a.reclosed n || gate a after n [] r) (look_in a kind n [] r x) (skip a n kind [] x))
      ≡ cond (gate a after n [] r) (look_in a kind n [] r x) (skip a n kind [] x)
  fresh_rule n after kind x =
      unless (a.pinned n) _ _ (fa n).0 ∙ ap (λ z. cond (z || gate a after n [] r) (look_in a kind n [] r x) (skip a n kind [] x)) (fa n).1

  mutual
    kind_ended : (kind : Kind) (n : ℕ) → holds kind n ≡ false → OnceIn kind → RedoIn d chosen redo again kind n → FollowedIn kind n
        → (q : ℕ) (k : Kind) → again q ≡ true → kind_in kind q ≡ Some k → holds kind q ≡ true → Ended q k
    kind_ended Leaf n nh once t f q k e is h = absurd (true≢false (sym h))
    kind_ended (Scope g) n nh once t f q k e is h =
        graph_ended g g (redo n) once t
        (λ x w. f x (held_in n (Scope g) [] x w) ∙ inner (Scope g) n _ _ (is_within g [] x) x nh w w) q k e is
    kind_ended (Choice bs) n nh once t f q k e is h =
        any_ended bs (redo n) (a.taken (a.decide (address n []) r)) once t
        (λ x w. f x (held_in n (Choice bs) [] x w) ∙ inner (Choice bs) n _ _ (is_among bs [] x) x nh w w) q k e is
    kind_ended (Foreach pace g) n nh once t f q k e is h =
        absurd (true≢false (sym e ∙ none_again d chosen redo again g (redo n) t.0 t.1 q h))
    kind_ended (Until most g) n nh once t f q k e is h =
        absurd (true≢false (sym e ∙ none_again d chosen redo again g (redo n) t.0 t.1 q h))

    any_ended : (bs : Branches) (up : Bool) (c : ℕ) → OnceAny bs → RedoAny d chosen redo again up bs
        → ((x : Address) → is_among bs [] x ≡ true → r x ≡ look_any a bs c [] r x) → (q : ℕ) (k : Kind) → again q ≡ true
        → kind_any bs q ≡ Some k → Ended q k
    any_ended no_branch up c once t f q k e is = absurd (none-some k is)
    any_ended (branch b rest) up c once t f q k e is = elim (two (has b q)) [
      | inl h ↦ elim (two (is_one c)) [
        | inl o ↦
            graph_ended b b up once.1 t.0
            (λ x w. f x (among_here b rest [] x w) ∙ when (is_within b [] x) _ _ w ∙ when (is_one c) _ _ o) q k e
            (sym (when (has b q) (kind_of b q) (kind_any rest q) h) ∙ is)
        | inr o ↦
            absurd (true≢false
            (sym e ∙ none_again d chosen redo again b up
            (skipped_none a fa d chosen redo again r ran b up t.0
            (λ x w. f x (among_here b rest [] x w) ∙ when (is_within b [] x) _ _ w ∙ unless (is_one c) _ _ o)) t.0 q h))
      ]
      | inr h ↦
          any_ended rest up (less_one c) once.2 t.1
          (λ x w. f x (among_there b rest [] x w)
          ∙ unless (is_within b [] x) _ _ (apart (has b x.name) (has_any rest x.name) true (once.0 x.name) w)) q k e
          (sym (unless (has b q) (kind_of b q) (kind_any rest q) h) ∙ is)
    ]

    graph_ended : (g w : Graph) (up : Bool) → Once g → RedoOf d chosen redo again up g w → Followed g → (q : ℕ) (k : Kind)
        → again q ≡ true → kind_of g q ≡ Some k → Ended q k
    graph_ended done w up once t f q k e is = absurd (none-some k is)
    graph_ended (add n after kind rest) w up once t f q k e is = elim (two (nat_eq n q)) [
      | inl s ↦
          let same = eqb-true n q s in
          let v : Some kind ≡ Some k = sym (when (nat_eq n q) (Some kind) _ s) ∙ is in
          let it : kind ≡ k = cc in
          subst (λ (z : Kind). Ended q z) it
          (subst (λ (m : ℕ). Ended m kind) same (own (subst (λ (m : ℕ). again m ≡ true) (sym same) e)))
      | inr s ↦
          let later = sym (unless (nat_eq n q) (Some kind) _ s) ∙ is in
          elim (two (holds kind q)) [
            | inl h ↦ elim (two (gate a after n [] r)) [
              | inl g ↦
                  kind_ended kind n once.0 once.2 t.4 (ran_in g) q k e
                  (sym (when (holds kind q) (kind_in kind q) (kind_of rest q) h) ∙ later) h
              | inr g ↦ absurd (true≢false (sym e ∙ none_inside n kind t.4 (none_in g) q h))
            ]
            | inr h ↦
                graph_ended rest w up once.3 t.5
                (λ x v. f x (rest_within n after kind rest [] x v)
                ∙ unless (is_in n kind [] x) _ _ (apart (nat_eq n x.name || holds kind x.name) (has rest x.name) true (once.1 x.name) v))
                q k e (sym (unless (holds kind q) (kind_in kind q) (kind_of rest q) h) ∙ later)
          ]
    ]
      where
        rule : (x : Address) → is_in n kind [] x ≡ true → r x ≡ cond (gate a after n [] r) (look_in a kind n [] r x) (skip a n kind [] x)
        rule x h = f x (in_within n after kind rest [] x h) ∙ when (is_in n kind [] x) _ (look a rest [] r x) h ∙ fresh_rule n after kind x

        ran_in : gate a after n [] r ≡ true → FollowedIn kind n
        ran_in g x h = rule x h ∙ when (gate a after n [] r) _ _ g

        none_in : gate a after n [] r ≡ false → HoldsChosen d chosen kind → ⊥
        none_in g = failed_none a fa d chosen redo again r ran n kind t.4 (λ x h. rule x h ∙ unless (gate a after n [] r) _ _ g)

        own : again n ≡ true → Ended n kind
        own e = record {
          rows = elim (two (gate a after n [] r)) [ inl g ↦ ran_in g | inr g ↦ absurd (none_in g (t.2 e).1) ];
          inside = t.4;
          holds_one = (t.2 e).1;
          once = once.2;
          not_own = once.0;
        }

  -- where no branch was taken, nothing inside ran
  none_taken : (bs : Branches) (up : Bool) → OnceAny bs → RedoAny d chosen redo again up bs
      → ((x : Address) → is_among bs [] x ≡ true → r x ≡ look_any a bs 0 [] r x) → (c : ℕ) → has_any bs c ≡ true → chosen c ≡ false
  none_taken no_branch up once t f c h = absurd (true≢false (sym h))
  none_taken (branch b rest) up once t f c h = elim (two (has b c)) [
    | inl here ↦
        skipped_none a fa d chosen redo again r ran b up t.0
        (λ x w. f x (among_here b rest [] x w) ∙ when (is_within b [] x) _ _ w) c here
    | inr out ↦
        none_taken rest up once.2 t.1
        (λ x w. f x (among_there b rest [] x w)
        ∙ unless (is_within b [] x) _ _ (apart (has b x.name) (has_any rest x.name) true (once.0 x.name) w)) c
        (sym (ap (λ (z : Bool). z || has_any rest c) out) ∙ h)
  ]

  took_one : (q : ℕ) (bs : Branches) → Ended q (Choice bs) → a.taken (a.decide (address q []) r) ≡ 0 → ⊥
  took_one q bs ended none =
      true≢false (sym ended.holds_one.2
      ∙ none_taken bs (redo q) ended.once ended.inside
      (λ x w. ended.rows x (held_in q (Choice bs) [] x w)
      ∙ inner (Choice bs) q _ _ (is_among bs [] x) x ended.not_own w w
      ∙ ap (λ (c : ℕ). look_any a bs c [] r x) none)
      ended.holds_one.0 ended.holds_one.1)

  -- what its row is by its kind
  pub data Closed (q : ℕ) : Kind → Type 0 where
    scope : {g : Graph} → r (address q []) ≡ Some (a.close (address q []) (a.decide (address q []) r) 0 None r) → Closed q (Scope g)
    choice : {bs : Branches} → r (address q []) ≡ Some (a.close (address q []) (a.decide (address q []) r) 0 None r)
        → (a.taken (a.decide (address q []) r) ≡ 0 → ⊥) → Closed q (Choice bs)

  closed_by : (q : ℕ) (kind : Kind) → Ended q kind → Closed q kind
  closed_by q Leaf ended = absurd (true≢false (sym ended.holds_one.1))
  closed_by q (Scope g) ended =
      scope (ended.rows (address q []) (own_in q (Scope g) []) ∙ when (is_own q [] (address q [])) _ _ (own_self q []))
  closed_by q (Choice bs) ended =
      choice (ended.rows (address q []) (own_in q (Choice bs) []) ∙ when (is_own q [] (address q [])) _ _ (own_self q []))
      (took_one q bs ended)
  closed_by q (Foreach pace g) ended =
      absurd (true≢false (sym ended.holds_one.2 ∙ ended.inside.0 ended.holds_one.0 ended.holds_one.1))
  closed_by q (Until most g) ended =
      absurd (true≢false (sym ended.holds_one.2 ∙ ended.inside.0 ended.holds_one.0 ended.holds_one.1))

  pub closed_again_ran : Once d → Followed d → IsRedo d chosen redo again → (q : ℕ) (kind : Kind) → again q ≡ true
      → kind_of d q ≡ Some kind → Closed q kind
  closed_again_ran once follows parts q kind e is = closed_by q kind (graph_ended d d false once parts.tree follows q kind e is)
