-- Where the rule on references holds, what is named is seen.
use Rattle.std.proofs.Common.{◌≡◌, ℕ, Bool, true, false, not, cond, List, [], ◌∷◌, map, Option, Some, None, option_map, ◌⊎◌, inl, inr}
use Rattle.std.proofs.Common.{nat_eq, bytes_eq, refl, sym, ap, subst, ◌∙◌, true≢false}
use Rattle.std.specs.Prelude.{◌||◌, ◌&&◌, ◌↔◌}
use Rattle.std.specs.List.{AllByRecursion, find, list_any}
use Rattle.std.proofs.lemmas.Bool.{eq-eqb}
use Rattle.wf_layers.specs.Definition.{has}
use Rattle.wf_known_laws.specs.DefTree.{DefTree}
use Rattle.wf_known_laws.specs.Layered.{layered}
use Rattle.wf_known_laws.specs.Order.{Before, Contains}
use Rattle.wf_paths.proofs.PathLemmas.{or_left, or_right}
use Rattle.wf_known_laws.proofs.PartLemmas.{equal_keys}
use Rattle.wf_known_laws.proofs.RunAfterLemmas.{append-first, append-second}
use Rattle.wf_rules.specs.UsesTree.{UsesTree}
use Rattle.wf_rules.specs.Site.{Site}
use Rattle.wf_rules.specs.Broken.{broken_of, offences, rules_in_order, told}
use Rattle.wf_rules.specs.First.{first_broken}
use Rattle.wf_rules.specs.Inside.{is_test}
use Rattle.wf_rules.specs.Rules.{action_breaks, breaks_at, breaks_if, breaks_itself, is_found_unseen, is_unseen}
use Rattle.wf_rules.specs.Rules.{names_unseen}
use Rattle.wf_rules.specs.Standing.{StandingTree, number_at, pointer_at, standings_of}
use Rattle.wf_rules.specs.Whole.{Whole, has_name, is_seen, whole_of}
use Rattle.wf_rules.specs.Rule.{Rule}
use Rattle.wf_accepted_laws.specs.Seen.{AreSeen, IsNamedAt, IsSeenFrom, IsSiteOf, at_inputs, at_items, at_test, at_tracked}

-- ---- truth values

pub two : (b : Bool) → (b ≡ true) ⊎ (b ≡ false)
two true = inl refl
two false = inr refl

pub none-first : (b c : Bool) → (b || c) ≡ false → b ≡ false
none-first true c is = is
none-first false c is = refl

pub none-second : (b c : Bool) → (b || c) ≡ false → c ≡ false
none-second true c is = absurd (true≢false is)
none-second false c is = is

pub either : (b c : Bool) → (b || c) ≡ true → (b ≡ true) ⊎ (c ≡ true)
either true c is = inl refl
either false c is = inr is

pub both : (b c : Bool) → (b && c) ≡ true → (b ≡ true) × (c ≡ true)
both true c is = (refl, is)
both false c is = absurd (true≢false (sym is))

-- ---- lists

pub none-told : {X : Type 0} (broken : X → Bool) (pointer : X → List ℕ) (xs : List X) → told broken pointer xs ≡ []
    → AllByRecursion (λ x. broken x ≡ false) xs
none-told broken pointer [] none = tt
none-told broken pointer (x ∷ xs) none = (
  here (broken x) (append-first (cond (broken x) (pointer x ∷ []) []) (told broken pointer xs) none),
  none-told broken pointer xs (append-second (cond (broken x) (pointer x ∷ []) []) (told broken pointer xs) none),
)
  where
    here : (b : Bool) → cond b (pointer x ∷ []) [] ≡ [] → b ≡ false
    here true is = absurd (cc)
    here false is = refl

pub none-of : (test : List ℕ → Bool) (k : List ℕ) (xs : List (List ℕ)) → list_any test xs ≡ false → list_any (bytes_eq k) xs ≡ true
    → test k ≡ false
none-of test k [] none among = absurd (true≢false (sym among))
none-of test k (x ∷ xs) none among = elim (two (bytes_eq k x)) [
  | inl is ↦ subst (λ (y : List ℕ). test y ≡ false) (sym (equal_keys k x is)) (none-first (test x) (list_any test xs) none)
  | inr other ↦ none-of test k xs (none-second (test x) (list_any test xs) none)
      (sym (ap (λ (b : Bool). b || list_any (bytes_eq k) xs) other) ∙ among)
]

some_one : {X : Type 0} {x y : X} → Some x ≡ Some y → x ≡ y
some_one is = cc

found-number : (k : List ℕ) (ss : List StandingTree) (x : StandingTree) → find (has_name k) ss ≡ Some x
    → list_any (nat_eq (number_at x)) (map number_at ss) ≡ true
found-number k [] x is = absurd (cc)
found-number k (s ∷ ss) x is = elim (two (has_name k s)) [
  | inl same ↦
      let here : s ≡ x = some_one (sym (ap (λ (b : Bool). cond b (Some s) (find (has_name k) ss)) same) ∙ is) in
      or_left (nat_eq (number_at x) (number_at s)) (list_any (nat_eq (number_at x)) (map number_at ss))
      (eq-eqb (number_at x) (number_at s) (sym (ap number_at here)))
  | inr other ↦
      or_right (nat_eq (number_at x) (number_at s)) (list_any (nat_eq (number_at x)) (map number_at ss))
      (found-number k ss x (sym (ap (λ (b : Bool). cond b (Some s) (find (has_name k) ss)) other) ∙ is))
]

-- ---- what is found, and seen

record Found (whole : Whole) (site : Site) (y : StandingTree) (k : List ℕ) : Type 0 where
  standing : StandingTree
  is : whole.named k ≡ Some standing
  seen : is_seen whole site (Some y) standing ≡ true

found : (whole : Whole) (site : Site) (y : StandingTree) (k : List ℕ) → is_unseen whole site (Some y) k ≡ false → Found whole site y k
found whole site y k fine = go (whole.named k) refl fine
  where
    not_true : (b : Bool) → not b ≡ false → b ≡ true
    not_true true is = refl
    not_true false is = absurd (true≢false is)

    go : (o : Option StandingTree) → whole.named k ≡ o → is_found_unseen whole site (Some y) o ≡ false → Found whole site y k
    go None is unseen = absurd (true≢false unseen)
    go (Some x) is unseen = record { standing = x; is = is; seen = not_true (is_seen whole site (Some y) x) unseen }

-- ---- no rule is broken, so not that on references

none-mapped : {X Y : Type 0} (f : X → Y) (o : Option X) → option_map f o ≡ None → o ≡ None
none-mapped f None is = refl
none-mapped f (Some x) is = absurd (cc)

pub none-first_broken : (d : DefTree) → broken_of d ≡ None → first_broken (offences d) rules_in_order ≡ None
none-first_broken d none = none-mapped _ (first_broken (offences d) rules_in_order) none

-- ---- a rule that an action doesn't break is broken at none of its sites

module _ (whole : Whole) (rule : Rule) (s : StandingTree) where
  abbrev At : Site → Bool
  At site = breaks_at whole rule site (Some s)

  at-one : (site : Site) → IsSiteOf s site
      → (At (Site.Inputs (number_at s)) || (At (Site.Items (number_at s)) || (At (Site.Test (number_at s))
      || At (Site.Tracked (number_at s))))) ≡ false
      → At site ≡ false
  at-one site at_inputs none = none-first (At (Site.Inputs (number_at s))) _ none
  at-one site at_items none = none-first (At (Site.Items (number_at s))) _ (none-second (At (Site.Inputs (number_at s))) _ none)
  at-one site at_test none =
      none-first (At (Site.Test (number_at s))) _
      (none-second (At (Site.Items (number_at s))) _ (none-second (At (Site.Inputs (number_at s))) _ none))
  at-one site at_tracked none =
      none-second (At (Site.Test (number_at s))) _
      (none-second (At (Site.Items (number_at s))) _ (none-second (At (Site.Inputs (number_at s))) _ none))

  pub at-site : (site : Site) → IsSiteOf s site → action_breaks whole rule s ≡ false → At site ≡ false
  at-site site of none = at-one site of (none-second (breaks_itself rule s) _ none)

module _ (d : DefTree)
    (exact_before : (x y : ℕ) → has (layered d.top) x ≡ true → has (layered d.top) y ≡ true
    → ((whole_of d).before x y ≡ true) ↔ Before (layered d.top) x y)
    (exact_contains : (x y : ℕ) → has (layered d.top) y ≡ true → ((whole_of d).contains x y ≡ true) ↔ Contains (layered d.top) x y)
    (had : (m : ℕ) → list_any (nat_eq m) (map number_at (standings_of d.top)) ≡ true → has (layered d.top) m ≡ true) where
  abbrev whole : Whole
  whole = whole_of d

  -- a name there is seen
  name-seen : (s : StandingTree) (site : Site) (k : List ℕ) (u : UsesTree) → names_unseen whole site (Some s) u ≡ false
      → (list_any (bytes_eq k) u.names ≡ true) ⊎ (list_any (bytes_eq k) u.results ≡ true) → is_unseen whole site (Some s) k ≡ false
  name-seen s site k u none (inl among) =
      none-of (is_unseen whole site (Some s)) k u.names
      (none-first (list_any (is_unseen whole site (Some s)) u.names) (list_any (is_unseen whole site (Some s)) u.results) none) among
  name-seen s site k u none (inr among) =
      none-of (is_unseen whole site (Some s)) k u.results
      (none-second (list_any (is_unseen whole site (Some s)) u.names) (list_any (is_unseen whole site (Some s)) u.results) none) among

  seen-from : (s : StandingTree) (site : Site) (k : List ℕ) → has (layered d.top) (number_at s) ≡ true → Found whole site s k
      → IsSeenFrom d s site k
  seen-from s site k own f =
      let x = f.standing in
      let there = had (number_at x) (found-number k (standings_of d.top) x f.is) in
      record {
        standing = x;
        named = f.is;
        seen = elim (either (whole.before (number_at x) (number_at s))
            (is_test site && whole.contains (number_at s) (number_at x)) f.seen) [
              | inl before ↦ inl ((exact_before (number_at x) (number_at s) there own).0 before)
              | inr inside ↦
                  let parts = both (is_test site) (whole.contains (number_at s) (number_at x)) inside in
                  inr (parts.0, (exact_contains (number_at s) (number_at x) there).0 parts.1)
            ];
      }

  seen : (s : StandingTree) → has (layered d.top) (number_at s) ≡ true → action_breaks whole Rule.References s ≡ false
      → (site : Site) → IsSiteOf s site → (k : List ℕ) → IsNamedAt d site k → IsSeenFrom d s site k
  seen s own none site of k n =
      let here : names_unseen whole site (Some s) n.uses ≡ false =
      sym (ap (breaks_if whole Rule.References site (Some s)) n.there) ∙ at-site whole Rule.References s site of none in
      seen-from s site k own (found whole site s k
      (name-seen s site k n.uses here (either (list_any (bytes_eq k) n.uses.names) (list_any (bytes_eq k) n.uses.results) n.named)))

  each-seen : (ss : List StandingTree) → ((m : ℕ) → list_any (nat_eq m) (map number_at ss) ≡ true → has (layered d.top) m ≡ true)
      → AllByRecursion (λ s. action_breaks whole Rule.References s ≡ false) ss
      → AllByRecursion (λ s. (site : Site) → IsSiteOf s site → (k : List ℕ) → IsNamedAt d site k → IsSeenFrom d s site k) ss
  each-seen [] there none = tt
  each-seen (s ∷ ss) there none = (
    seen s (there (number_at s) (or_left (nat_eq (number_at s) (number_at s)) (list_any (nat_eq (number_at s)) (map number_at ss))
        (eq-eqb (number_at s) (number_at s) refl))) none.0,
    each-seen ss (λ m among. there m (or_right (nat_eq m (number_at s)) (list_any (nat_eq m) (map number_at ss)) among)) none.1,
  )

  pub all-seen : offences d Rule.References ≡ [] → AreSeen d
  all-seen none =
      each-seen (standings_of d.top) had
      (none-told (action_breaks whole Rule.References) pointer_at (standings_of d.top)
      (append-first (told (action_breaks whole Rule.References) pointer_at (standings_of d.top)) _ none))
