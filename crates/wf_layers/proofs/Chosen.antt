-- From a set of chosen actions that ran: what is closed again ran too, and branches that weren't taken are kept.
use Rattle.std.proofs.Common.{◌≡◌, ℕ, Bool, true, false, ◌&&◌, ◌||◌, cond, List, [], Option, Some, None, inr, ⊎_elim, refl, sym, ap, ◌∙◌, subst, nat_eq, eqb-true, true≢false}
use Rattle.std.proofs.lemmas.Option.{none-some}
use Rattle.wf_layers.specs.Definition.{Need, Kind, Leaf, Scope, Choice, Foreach, Until, Branches, no_branch, branch, Graph, done, add, is_one, less_one, holds, has, has_any, shows, plain, plain_any, kind_in, kind_of, kind_any, IsDepth}
use Rattle.wf_layers.specs.Address.{Address, address, Table, is_own, is_in, is_within, is_among, SeenIn}
use Rattle.wf_layers.specs.Source.{Source, gate, SoundIn, SoundAny, Sound}
use Rattle.wf_layers.specs.Meaning.{only, skip, skip_all, meaning}
use Rattle.wf_layers.specs.Rule.{look_in, look_any, look, Obeys}
use Rattle.wf_layers.proofs.Basics.{two, and_in, and_of, apart, not_true, same_self, when, unless, in_within, rest_within, held_in, inner_not_own, among_here, among_there}
use Rattle.wf_layers.specs.Machine.{in_others, skip_others}
use Rattle.wf_layers.proofs.Tables.{either_or, or_true, held, later'}
use Rattle.wf_layers.specs.Laws.{IsFresh}
use Rattle.wf_layers.specs.Redo.{HoldsChosen, RedoIn, RedoAny, RedoOf}
use Rattle.wf_layers.specs.Resubmission.{kept, PassedIn, PassedAny, Passed, IsResubmission, IsSetResubmission, OthersKept}
use Rattle.wf_layers.proofs.Others.{others_among, look_others}
use Rattle.wf_layers.proofs.Meaning.{meaning_solves}
use Rattle.wf_layers.proofs.Redo.{kind_redone, kind_apart, kind_touched, walk_touched, none_again, not_moving, redo_splits}

-- where nothing is closed again, nothing is to be passed
module _ {Row Begun Decision Verdict : Type 0} (a : Source Row Begun Decision Verdict) (again : ℕ → Bool) (r : Table Row) where
  mutual
    none_passed_in : (kind : Kind) → ((q : ℕ) → holds kind q ≡ true → again q ≡ false) → PassedIn a again r kind
    none_passed_in Leaf none = tt
    none_passed_in (Scope g) none = none_passed g none
    none_passed_in (Choice bs) none = none_passed_any bs none
    none_passed_in (Foreach pace g) none = none_passed g none
    none_passed_in (Until most g) none = none_passed g none

    none_passed_any : (bs : Branches) → ((q : ℕ) → has_any bs q ≡ true → again q ≡ false) → PassedAny a again r bs
    none_passed_any no_branch none = tt
    none_passed_any (branch b rest) none = (
      none_passed b (λ q h. none q (ap (λ x. x || has_any rest q) h)),
      none_passed_any rest (λ q h. none q (ap (λ x. has b q || x) h ∙ or_true (has b q))),
    )

    none_passed : (g : Graph) → ((q : ℕ) → has g q ≡ true → again q ≡ false) → Passed a again r g
    none_passed done none = tt
    none_passed (add n after kind rest) none = (
      (λ e. absurd (true≢false (sym e ∙ none n (ap (λ x. x || holds kind n || has rest n) (same_self n))))),
      none_passed_in kind (λ q h. none q (held n kind rest q h)),
      none_passed rest (λ q h. none q (later' n kind rest q h)),
    )

module _ {Row Begun Decision Verdict : Type 0} (a : Source Row Begun Decision Verdict) (fa : IsFresh a) (d : Graph)
    (chosen redo again : ℕ → Bool) (r : Table Row) (ran : (n : ℕ) → chosen n ≡ true → r (address n []) ≡ Some a.skipped → ⊥) where
  -- a chosen action is in no loop
  mutual
    pub chosen_shows : (kind : Kind) (n : ℕ) → RedoIn d chosen redo again kind n → (q : ℕ) → holds kind q ≡ true → chosen q ≡ true
        → shows kind q ≡ true
    chosen_shows Leaf n t q h c = h
    chosen_shows (Scope g) n t q h c = chosen_plain g g (redo n) t q h c
    chosen_shows (Choice bs) n t q h c = chosen_any bs (redo n) t q h c
    chosen_shows (Foreach pace g) n t q h c = absurd (true≢false (sym c ∙ t.0 q h))
    chosen_shows (Until most g) n t q h c = absurd (true≢false (sym c ∙ t.0 q h))

    chosen_any : (bs : Branches) (up : Bool) → RedoAny d chosen redo again up bs → (q : ℕ) → has_any bs q ≡ true → chosen q ≡ true
        → plain_any bs q ≡ true
    chosen_any no_branch up t q h c = h
    chosen_any (branch b rest) up t q h c =
        either_or (has b q) (has_any rest q) (plain b q) (plain_any rest q) (λ e. chosen_plain b b up t.0 q e c)
        (λ e. chosen_any rest up t.1 q e c) h

    pub chosen_plain : (g w : Graph) (up : Bool) → RedoOf d chosen redo again up g w → (q : ℕ) → has g q ≡ true → chosen q ≡ true
        → plain g q ≡ true
    chosen_plain done w up t q h c = h
    chosen_plain (add n after kind rest) w up t q h c =
        either_or (nat_eq n q || holds kind q) (has rest q) (nat_eq n q || shows kind q) (plain rest q)
        (λ e. either_or (nat_eq n q) (holds kind q) (nat_eq n q) (shows kind q) (λ x. x) (λ x. chosen_shows kind n t.4 q x c) e)
        (λ e. chosen_plain rest w up t.5 q e c) h

  -- in a branch that isn't taken, none is chosen, so nothing is redone for itself or closed again
  abbrev pub Passes' : Graph → Type 0
  Passes' b = (q : ℕ) → has b q ≡ true → chosen q ≡ false

  pub skipped_none : (b : Graph) (up : Bool) → RedoOf d chosen redo again up b b
      → ((x : Address) → is_within b [] x ≡ true → r x ≡ skip_all a b [] x) → Passes' b
  skipped_none b up t skips q h =
      not_true (chosen q) (λ c.
      ran q c (skips (address q []) (and_of (has b q) true h refl) ∙ unless (a.pinned q) (a.old (address q [])) _ (fa q).0
      ∙ when (plain b q && true) (Some a.skipped) None (and_of (plain b q) true (chosen_plain b b up t q h c) refl)))

  -- and in a container that didn't run
  pub failed_none : (n : ℕ) (kind : Kind) → RedoIn d chosen redo again kind n
      → ((x : Address) → is_in n kind [] x ≡ true → r x ≡ skip a n kind [] x) → HoldsChosen d chosen kind → ⊥
  failed_none n kind t skips c =
      ran c.0 c.2 (skips (address c.0 [])
      (and_of (nat_eq n c.0 || holds kind c.0) true (or_right' (nat_eq n c.0) (holds kind c.0) c.1) refl)
      ∙ when ((nat_eq n c.0 || shows kind c.0) && true) (Some a.skipped) None
      (and_of (nat_eq n c.0 || shows kind c.0) true
      (or_right' (nat_eq n c.0) (shows kind c.0) (chosen_shows kind n t c.0 c.1 c.2)) refl))
    where
      or_right' : (p q : Bool) → q ≡ true → (p || q) ≡ true
      or_right' true q e = refl
      or_right' false q e = e

  -- inside it nothing is closed again
  failed_again : (n : ℕ) (kind : Kind) → RedoIn d chosen redo again kind n → (HoldsChosen d chosen kind → ⊥) → (q : ℕ) → holds kind q ≡ true
      → again q ≡ false
  failed_again n kind t none q h =
      not_true (again q) (λ e.
      ⊎_elim
      (λ x. true≢false (sym (kind_redone d chosen redo again kind n x t q h) ∙ kind_apart d chosen redo again kind n t q h e))
      (λ x. none (kind_touched d chosen redo again kind n x t q h (inr e)))
      (two (redo n)))

  abbrev Followed : Graph → Type 0
  Followed g = (x : Address) → is_within g [] x ≡ true → r x ≡ look a g [] r x

  abbrev FollowedIn : Kind → ℕ → Type 0
  FollowedIn kind n = (x : Address) → is_in n kind [] x ≡ true → r x ≡ look_in a kind n [] r x

  inner_rule' : (kind : Kind) (n : ℕ) (v u : Option Row) (p : Bool) (x : Address) → holds kind n ≡ false
      → (holds kind x.name && true) ≡ true → p ≡ true → cond (is_own n [] x) v (only p u) ≡ u
  inner_rule' kind n v u p x nh w e =
      unless (is_own n [] x) v _ (inner_not_own n kind [] x nh (and_in (holds kind x.name) true w).0) ∙ when p u None e

  -- for one action of a graph that was entered: its gate, and what is inside it where it ran
  module _ (n : ℕ) (after : List Need) (kind : Kind) (w : Graph) (up : Bool)
      (t : (again n ≡ true → (redo n ≡ false) × HoldsChosen d chosen kind) × RedoIn d chosen redo again kind n)
      (rule : (x : Address) → is_in n kind [] x ≡ true → r x ≡ cond (gate a after n [] r) (look_in a kind n [] r x)
      (skip a n kind [] x)) where
    ran_in : gate a after n [] r ≡ true → FollowedIn kind n
    ran_in g x h = rule x h ∙ when (gate a after n [] r) _ _ g

    none_in : gate a after n [] r ≡ false → HoldsChosen d chosen kind → ⊥
    none_in g = failed_none n kind t.1 (λ x h. rule x h ∙ unless (gate a after n [] r) _ _ g)

    gate_of : again n ≡ true → gate a after n [] r ≡ true
    gate_of e = ⊎_elim (λ g. g) (λ g. absurd (none_in g (t.0 e).1)) (two (gate a after n [] r))

  fresh_rule : (n : ℕ) (after : List Need) (kind : Kind) (x : Address)
      → cond (a.pinned n) (a.old x) (cond (a.reclosed n || gate a after n [] r) (look_in a kind n [] r x) (skip a n kind [] x)) ≡ cond
      (gate a after n [] r) (look_in a kind n [] r x) (skip a n kind [] x)
  fresh_rule n after kind x =
      unless (a.pinned n) _ _ (fa n).0 ∙ ap (λ z. cond (z || gate a after n [] r) (look_in a kind n [] r x) (skip a n kind [] x)) (fa n).1

  mutual
    kind_passed : (kind : Kind) (n l : ℕ) (Sees : Address → Address → Type 0) → holds kind n ≡ false → SoundIn a Sees kind n l
        → RedoIn d chosen redo again kind n → FollowedIn kind n → PassedIn a again r kind
    kind_passed Leaf n l Sees nh so t f = tt
    kind_passed (Scope g) n l Sees nh so t f =
        graph_passed g g (redo n) l Sees so.2 t
        (λ x w. f x (held_in n (Scope g) [] x w) ∙ inner_rule' (Scope g) n _ _ (is_within g [] x) x nh w w)
    kind_passed (Choice bs) n l Sees nh so t f =
        any_passed bs (redo n) (a.taken (a.decide (address n []) r)) l Sees so.2 t
        (λ x w. f x (held_in n (Choice bs) [] x w) ∙ inner_rule' (Choice bs) n _ _ (is_among bs [] x) x nh w w)
    kind_passed (Foreach pace g) n l Sees nh so t f = none_passed a again r g (none_again d chosen redo again g (redo n) t.0 t.1)
    kind_passed (Until most g) n l Sees nh so t f = none_passed a again r g (none_again d chosen redo again g (redo n) t.0 t.1)

    any_passed : (bs : Branches) (up : Bool) (c l : ℕ) (Sees : Address → Address → Type 0) → SoundAny a Sees bs l
        → RedoAny d chosen redo again up bs → ((x : Address) → is_among bs [] x ≡ true → r x ≡ look_any a bs c [] r x)
        → PassedAny a again r bs
    any_passed no_branch up c l Sees so t f = tt
    any_passed (branch b rest) up c l Sees so t f = (
      ⊎_elim
          (λ o. graph_passed b b up l Sees so.1 t.0 (λ x w. f x (among_here b rest [] x w) ∙ when (is_within b [] x) _ _ w
          ∙ when (is_one c) _ _ o))
          (λ o. none_passed a again r b
          (none_again d chosen redo again b up
          (skipped_none b up t.0 (λ x w. f x (among_here b rest [] x w) ∙ when (is_within b [] x) _ _ w
          ∙ unless (is_one c) _ _ o)) t.0))
          (two (is_one c)),
      any_passed rest up (less_one c) l Sees so.2 t.1
          (λ x w. f x (among_there b rest [] x w)
          ∙ unless (is_within b [] x) _ _ (apart (has b x.name) (has_any rest x.name) true (so.0 x.name) w)),
    )

    graph_passed : (g w : Graph) (up : Bool) (l : ℕ) (Sees : Address → Address → Type 0) → Sound a Sees g l
        → RedoOf d chosen redo again up g w → Followed g → Passed a again r g
    graph_passed done w up l Sees so t f = tt
    graph_passed (add n after kind rest) w up l Sees so t f = (
      gate_of n after kind w up (t.2, t.4) rule,
      ⊎_elim
          (λ g. kind_passed kind n l Sees so.1 so.3 t.4 (ran_in n after kind w up (t.2, t.4) rule g))
          (λ g. none_passed_in a again r kind (failed_again n kind t.4 (none_in n after kind w up (t.2, t.4) rule g)))
          (two (gate a after n [] r)),
      graph_passed rest w up l Sees so.4 t.5
          (λ x v. f x (rest_within n after kind rest [] x v)
          ∙ unless (is_in n kind [] x) _ _ (apart (nat_eq n x.name || holds kind x.name) (has rest x.name) true (so.2 x.name) v)),
    )
      where
        rule : (x : Address) → is_in n kind [] x ≡ true → r x ≡ cond (gate a after n [] r) (look_in a kind n [] r x) (skip a n kind [] x)
        rule x h = f x (in_within n after kind rest [] x h) ∙ when (is_in n kind [] x) _ (look a rest [] r x) h ∙ fresh_rule n after kind x

  -- WHAT IS IN BRANCHES THAT WEREN'T TAKEN IS KEPT
  branches_kept : (bs : Branches) (up : Bool) (c l : ℕ) (Sees : Address → Address → Type 0) → up ≡ false → SoundAny a Sees bs l
      → RedoAny d chosen redo again up bs → ((x : Address) → is_among bs [] x ≡ true → r x ≡ look_any a bs c [] r x) → (y : Address)
      → in_others bs c [] y ≡ true → kept redo again y.name ≡ true
  branches_kept no_branch up c l Sees u so t f y h = absurd (true≢false (sym h))
  branches_kept (branch b rest) up c l Sees u so t f y h =
      ⊎_elim
      (λ w. ⊎_elim
      (λ o. absurd (true≢false (sym (sym (when (is_within b [] y) (cond (is_one c) false true) _ w ∙ when (is_one c) false true o) ∙ h))))
      (λ o.
      let none = skipped_none b up t.0 (λ x w. f x (among_here b rest [] x w) ∙ when (is_within b [] x) _ _ w ∙ unless (is_one c) _ _ o) in
      not_moving d chosen redo again y.name
      (λ mv. let k = walk_touched d chosen redo again b b up u (λ x b k st. st) t.0 y.name (and_in (has b y.name) true w).0 mv in
      true≢false (sym k.2 ∙ none k.0 k.1)))
      (two (is_one c)))
      (λ w. branches_kept rest up (less_one c) l Sees u so.2 t.1
      (λ x v. f x (among_there b rest [] x v)
      ∙ unless (is_within b [] x) _ _ (apart (has b x.name) (has_any rest x.name) true (so.0 x.name) v)) y
      (sym (unless (is_within b [] y) (cond (is_one c) false true) _ w) ∙ h))
      (two (is_within b [] y))

  mutual
    kind_others : (kind : Kind) (n l : ℕ) (Sees : Address → Address → Type 0) → holds kind n ≡ false → SoundIn a Sees kind n l
        → RedoIn d chosen redo again kind n → FollowedIn kind n → (q : ℕ) (bs : Branches) → again q ≡ true
        → kind_in kind q ≡ Some (Choice bs) → holds kind q ≡ true → (y : Address)
        → in_others bs (a.taken (a.decide (address q []) r)) [] y ≡ true
        → (kept redo again y.name ≡ true) × (r y ≡ skip_others a bs (a.taken (a.decide (address q []) r)) [] y)
    kind_others Leaf n l Sees nh so t f q bs e k h = absurd (true≢false (sym h))
    kind_others (Scope g) n l Sees nh so t f q bs e k h =
        graph_others g g (redo n) l Sees so.2 t
        (λ x w. f x (held_in n (Scope g) [] x w) ∙ inner_rule' (Scope g) n _ _ (is_within g [] x) x nh w w) q bs e k
    kind_others (Choice bb) n l Sees nh so t f q bs e k h =
        any_others bb (redo n) (a.taken (a.decide (address n []) r)) l Sees so.2 t
        (λ x w. f x (held_in n (Choice bb) [] x w) ∙ inner_rule' (Choice bb) n _ _ (is_among bb [] x) x nh w w) q bs e k
    kind_others (Foreach pace g) n l Sees nh so t f q bs e k h =
        absurd (true≢false (sym e ∙ none_again d chosen redo again g (redo n) t.0 t.1 q h))
    kind_others (Until most g) n l Sees nh so t f q bs e k h =
        absurd (true≢false (sym e ∙ none_again d chosen redo again g (redo n) t.0 t.1 q h))

    any_others : (bb : Branches) (up : Bool) (c l : ℕ) (Sees : Address → Address → Type 0) → SoundAny a Sees bb l
        → RedoAny d chosen redo again up bb → ((x : Address) → is_among bb [] x ≡ true → r x ≡ look_any a bb c [] r x)
        → (q : ℕ) (bs : Branches) → again q ≡ true → kind_any bb q ≡ Some (Choice bs) → (y : Address)
        → in_others bs (a.taken (a.decide (address q []) r)) [] y ≡ true
        → (kept redo again y.name ≡ true) × (r y ≡ skip_others a bs (a.taken (a.decide (address q []) r)) [] y)
    any_others no_branch up c l Sees so t f q bs e k = absurd (none-some (Choice bs) k)
    any_others (branch b rest) up c l Sees so t f q bs e k =
        ⊎_elim
        (λ h. ⊎_elim
        (λ o. graph_others b b up l Sees so.1 t.0 (λ x w. f x (among_here b rest [] x w) ∙ when (is_within b [] x) _ _ w
        ∙ when (is_one c) _ _ o) q bs e (sym (when (has b q) (kind_of b q) (kind_any rest q) h) ∙ k))
        (λ o. absurd (true≢false
        (sym e ∙ none_again d chosen redo again b up
        (skipped_none b up t.0 (λ x w. f x (among_here b rest [] x w) ∙ when (is_within b [] x) _ _ w
        ∙ unless (is_one c) _ _ o)) t.0 q h)))
        (two (is_one c)))
        (λ h. any_others rest up (less_one c) l Sees so.2 t.1
        (λ x w. f x (among_there b rest [] x w)
        ∙ unless (is_within b [] x) _ _ (apart (has b x.name) (has_any rest x.name) true (so.0 x.name) w)) q bs e
        (sym (unless (has b q) (kind_of b q) (kind_any rest q) h) ∙ k))
        (two (has b q))

    graph_others : (g w : Graph) (up : Bool) (l : ℕ) (Sees : Address → Address → Type 0) → Sound a Sees g l
        → RedoOf d chosen redo again up g w → Followed g → (q : ℕ) (bs : Branches) → again q ≡ true → kind_of g q ≡ Some (Choice bs)
        → (y : Address) → in_others bs (a.taken (a.decide (address q []) r)) [] y ≡ true
        → (kept redo again y.name ≡ true) × (r y ≡ skip_others a bs (a.taken (a.decide (address q []) r)) [] y)
    graph_others done w up l Sees so t f q bs e k = absurd (none-some (Choice bs) k)
    graph_others (add n after kind rest) w up l Sees so t f q bs e k =
        ⊎_elim
        (λ s.
        let same = eqb-true n q s in
        let v : Some kind ≡ Some (Choice bs) = sym (when (nat_eq n q) (Some kind) _ s) ∙ k in let is : kind ≡ Choice bs = cc in
        own_others same is)
        (λ s. let k' = sym (unless (nat_eq n q) (Some kind) _ s) ∙ k in
        ⊎_elim
        (λ h. ⊎_elim
        (λ g. kind_others kind n l Sees so.1 so.3 t.4 (ran_in n after kind w up (t.2, t.4) rule g) q bs e
        (sym (when (holds kind q) (kind_in kind q) (kind_of rest q) h) ∙ k') h)
        (λ g. absurd (true≢false (sym e ∙ failed_again n kind t.4 (none_in n after kind w up (t.2, t.4) rule g) q h)))
        (two (gate a after n [] r)))
        (λ h. graph_others rest w up l Sees so.4 t.5
        (λ x v. f x (rest_within n after kind rest [] x v)
        ∙ unless (is_in n kind [] x) _ _ (apart (nat_eq n x.name || holds kind x.name) (has rest x.name) true (so.2 x.name) v)) q bs e
        (sym (unless (holds kind q) (kind_in kind q) (kind_of rest q) h) ∙ k'))
        (two (holds kind q)))
        (two (nat_eq n q))
      where
        rule : (x : Address) → is_in n kind [] x ≡ true → r x ≡ cond (gate a after n [] r) (look_in a kind n [] r x) (skip a n kind [] x)
        rule x h = f x (in_within n after kind rest [] x h) ∙ when (is_in n kind [] x) _ (look a rest [] r x) h ∙ fresh_rule n after kind x

        own_others : n ≡ q → kind ≡ Choice bs → (y : Address) → in_others bs (a.taken (a.decide (address q []) r)) [] y ≡ true
            → (kept redo again y.name ≡ true) × (r y ≡ skip_others a bs (a.taken (a.decide (address q []) r)) [] y)
        own_others same is y h = (kept_there, ruled y (others_among bs c [] y h) ∙ look_others a bs c [] r y h)
          where
            c : ℕ
            c = a.taken (a.decide (address q []) r)

            ruled : (x : Address) → is_among bs [] x ≡ true → r x ≡ look_any a bs c [] r x
            ruled x v =
                subst (λ z. FollowedIn z q) is
                (subst (λ z. FollowedIn kind z) same
                (ran_in n after kind w up (t.2, t.4) rule
                (gate_of n after kind w up (t.2, t.4) rule (subst (λ x. again x ≡ true) (sym same) e)))) x
                (held_in q (Choice bs) [] x v)
                ∙ inner_rule' (Choice bs) q _ _ (is_among bs [] x) x
                (subst (λ x. holds (Choice bs) x ≡ false) same (subst (λ z. holds z n ≡ false) is so.1)) v v

            kept_there : kept redo again y.name ≡ true
            kept_there =
                branches_kept bs (redo q) (a.taken (a.decide (address q []) r)) l Sees
                (subst (λ x. redo x ≡ false) same (t.2 (subst (λ x. again x ≡ true) (sym same) e)).0)
                (subst (λ z. SoundIn a Sees z n l) is so.3).2
                (subst (λ x. RedoIn d chosen redo again (Choice bs) x) same (subst (λ z. RedoIn d chosen redo again z n) is t.4))
                ruled
                y h

module _ {Row Begun Decision Verdict : Type 0} (d : Graph) (depth : ℕ → ℕ) (a b : Source Row Begun Decision Verdict)
    (chosen redo again : ℕ → Bool) (recall : Address → Decision) (falls : IsDepth d depth) (sa : Sound a (SeenIn d) d 0) (fa : IsFresh a)
    (rs : IsSetResubmission d depth a b chosen redo again recall) where
  sol : Obeys a d (meaning a depth d)
  sol = meaning_solves a depth d falls sa

  pub set_is_resubmission : IsResubmission d depth a b redo again recall
  set_is_resubmission = record {
    split = redo_splits d chosen redo again rs.redone;
    passed = graph_passed a fa d chosen redo again (meaning a depth d) rs.ran d d false 0 (SeenIn d) sa rs.redone.tree sol;
    recalls = rs.recalls;
    closes = rs.closes;
  }

  pub set_keeps_others : OthersKept d a redo again (meaning a depth d) recall
  set_keeps_others n bs e k y h =
      subst (λ p. (kept redo again y.name ≡ true) × (meaning a depth d y ≡ skip_others a bs (a.taken p) [] y)) (sym (rs.recalls n e))
      (graph_others a fa d chosen redo again (meaning a depth d) rs.ran d d false 0 (SeenIn d) sa rs.redone.tree sol n bs e k y
      (subst (λ p. in_others bs (a.taken p) [] y ≡ true) (rs.recalls n e) h))
