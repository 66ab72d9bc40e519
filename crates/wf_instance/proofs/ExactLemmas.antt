-- Before, by the tables of a definition, is before: at every number, also where no action has it.
use Rattle.std.proofs.Common.{◌≡◌, ℕ, zero, suc, ◌+◌, ◌<◌, Bool, true, false, ◌||◌, cond, List, [], ◌∷◌, length, Option, Some, None, ◌⊎◌}
use Rattle.std.proofs.Common.{inl, inr, refl, sym, ap, ◌∙◌, subst, arith, true≢false, nat_eq}
use Rattle.std.specs.Prelude.{◌↔◌, slice_get}
use Rattle.std.proofs.lemmas.Bool.{eq-eqb}
use Rattle.wf_layers.specs.Definition.{Need, Names, Kind, Leaf, Scope, Choice, Foreach, Until, Branches, no_branch, branch, Graph, done}
use Rattle.wf_layers.specs.Definition.{add}
use Rattle.wf_layers.specs.Definition.{Closed, ClosedAny, ClosedIn, has, has_any, has_own, holds, needs_any, needs_in, needs_of}
use Rattle.wf_layers.proofs.Basics.{two, or_first, or_second, when, unless}
use Rattle.wf_paths.specs.Table.{from, paths_of}
use Rattle.wf_accepted_laws.specs.Order.{Before, stand, up}
use Rattle.wf_accepted_laws.specs.Table.{before, leads_any, order_of, place_of, up_at, up_in, waits_of}
use Rattle.wf_accepted_laws.proofs.RelationLemmas.{own_has}

-- ---- what the tables have at a number

entry : {X : Type 0} (i n k : ℕ) (f : ℕ → X) → (slice_get (from i n f) k ≡ Some (f (i + k))) ⊎ (slice_get (from i n f) k ≡ None)
entry i zero k f = inr refl
entry i (suc n) zero f = inl (ap (λ m. Some (f m)) (omega arith))
entry i (suc n) (suc k) f = elim (entry (suc i) n k f) [
  | inl is ↦ inl (is ∙ ap (λ m. Some (f m)) (omega arith))
  | inr none ↦ inr none
]

entry_first : {X : Type 0} (n k : ℕ) (f : ℕ → X) → (slice_get (from 0 n f) k ≡ Some (f k)) ⊎ (slice_get (from 0 n f) k ≡ None)
entry_first n k f = elim (entry 0 n k f) [ inl is ↦ inl (is ∙ ap (λ m. Some (f m)) (omega arith)) | inr none ↦ inr none ]

none_right : (paths : List (List Bool)) (xs : List ℕ) → leads_any paths xs [] ≡ false
none_right paths [] = refl
none_right paths (x ∷ xs) = none_right paths xs

module _ (n : ℕ) (g : Graph) where
  up_none : (x : ℕ) → has g x ≡ false → up_at (from 0 n (place_of g)) x ≡ []
  up_none x off = elim (entry_first n x (place_of g)) [
    | inl is ↦ ap up_in is
        ∙ ap (λ (b : Bool). up_in (Some (cond b (Some (record { up = up g x; stand = stand None g x; after = waits_of g x })) None))) off
    | inr none ↦ ap up_in none
  ]

  pub before_first : (x y : ℕ) → has g x ≡ false → before (order_of n g) x y ≡ false
  before_first x y off =
      ap (λ (xs : List ℕ). leads_any (paths_of (from 0 n (waits_of g))) xs (up_at (from 0 n (place_of g)) y)) (up_none x off)

  pub before_second : (x y : ℕ) → has g y ≡ false → before (order_of n g) x y ≡ false
  before_second x y off =
      ap (λ (ys : List ℕ). leads_any (paths_of (from 0 n (waits_of g))) (up_at (from 0 n (place_of g)) x) ys) (up_none y off)
      ∙ none_right (paths_of (from 0 n (waits_of g))) (up_at (from 0 n (place_of g)) x)

  -- so what the tables say of two numbers is said of actions
  pub before_has : (x y : ℕ) → before (order_of n g) x y ≡ true → (has g x ≡ true) × (has g y ≡ true)
  before_has x y is = (
    elim (two (has g x)) [ inl there ↦ there | inr off ↦ absurd (true≢false (sym is ∙ before_first x y off)) ],
    elim (two (has g y)) [ inl there ↦ there | inr off ↦ absurd (true≢false (sym is ∙ before_second x y off)) ],
  )

-- ---- an entry of a `runAfter` names an action, and is one's

module _ (a p : ℕ) where
  -- in a graph, where those that it may name stand in w
  abbrev Entry : (ℕ → Bool) → (ℕ → Bool) → Type 0
  Entry w held = (held a ≡ true) × ((w p ≡ true) ⊎ (held p ≡ true))

  own_too : (g : Graph) → Entry (has_own g) (has g) → Entry (has g) (has g)
  own_too g found = (found.0, elim found.1 [ inl own ↦ inr (own_has g p own) | inr there ↦ inr there ])

  mutual
    entry_in : (kind : Kind) → ClosedIn kind → Names (needs_in kind a) p → Entry (holds kind) (holds kind)
    entry_in Leaf closed named = absurd named
    entry_in (Scope g) closed named = own_too g (entry_of g g closed named)
    entry_in (Choice bs) closed named = entry_any bs closed named
    entry_in (Foreach pace g) closed named = own_too g (entry_of g g closed named)
    entry_in (Until most g) closed named = own_too g (entry_of g g closed named)

    entry_any : (bs : Branches) → ClosedAny bs → Names (needs_any bs a) p → Entry (has_any bs) (has_any bs)
    entry_any no_branch closed named = absurd named
    entry_any (branch b rest) closed named = elim (two (has b a)) [
      | inl t ↦
          let found = own_too b (entry_of b b closed.0 (subst (λ (ns : List Need). Names ns p)
          (when (has b a) (needs_of b a) (needs_any rest a) t) named)) in (
            or_first (has b a) (has_any rest a) found.0,
            inr (elim found.1 [
              | inl own ↦ or_first (has b p) (has_any rest p) own
              | inr there ↦ or_first (has b p)
                  (has_any rest p) there
            ]),
          )
      | inr f ↦
          let found = entry_any rest closed.1
          (subst (λ (ns : List Need). Names ns p) (unless (has b a) (needs_of b a) (needs_any rest a) f) named) in (
            or_second (has b a) (has_any rest a) found.0,
            inr (elim found.1 [
              | inl own ↦ or_second (has b p) (has_any rest p) own
              | inr there ↦ or_second (has b p)
                  (has_any rest p) there
            ]),
          )
    ]

    entry_of : (g w : Graph) → Closed g w → Names (needs_of g a) p → Entry (has_own w) (has g)
    entry_of done w closed named = absurd named
    entry_of (add n after kind rest) w closed named = elim (two (nat_eq n a)) [
      | inl t ↦ (
        or_first (nat_eq n a || holds kind a) (has rest a) (or_first (nat_eq n a) (holds kind a) t),
        inl (closed.0 p (subst (λ (ns : List Need). Names ns p)
            (when (nat_eq n a) after (cond (holds kind a) (needs_in kind a) (needs_of rest a)) t) named)),
      )
      | inr f ↦
          let named' = subst (λ (ns : List Need). Names ns p)
          (unless (nat_eq n a) after (cond (holds kind a) (needs_in kind a) (needs_of rest a)) f) named in
          elim (two (holds kind a)) [
            | inl h ↦
                let found = entry_in kind closed.1
                (subst (λ (ns : List Need). Names ns p) (when (holds kind a) (needs_in kind a) (needs_of rest a) h) named') in (
                  or_first (nat_eq n a || holds kind a) (has rest a) (or_second (nat_eq n a) (holds kind a) found.0),
                  inr (or_first (nat_eq n p || holds kind p) (has rest p) (or_second (nat_eq n p) (holds kind p)
                      (elim found.1 [ inl own ↦ own | inr there ↦ there ]))),
                )
            | inr off ↦
                let found = entry_of rest w closed.2
                (subst (λ (ns : List Need). Names ns p) (unless (holds kind a) (needs_in kind a) (needs_of rest a) off) named') in (
                  or_second (nat_eq n a || holds kind a) (has rest a) found.0,
                  elim found.1 [
                    | inl own ↦ inl own
                    | inr there ↦ inr (or_second (nat_eq n p || holds kind p) (has rest p) there)
                  ],
                )
          ]
    ]

  pub entry_has : (g : Graph) → Closed g g → Names (needs_of g a) p → (has g p ≡ true) × (has g a ≡ true)
  entry_has g closed named =
      let found = own_too g (entry_of g g closed named) in (elim found.1 [ inl own ↦ own | inr there ↦ there ], found.0)
