-- The local rule: what a table of rows gives at an address. It reads these rows alone, and knows no layer and no order.
use Rattle.std.specs.Prelude.{◌≡◌, ℕ, true, ◌||◌, cond, List, [], ◌∷◌, ◌++◌, Some, None}
use Rattle.wf_layers.specs.Definition.{Kind, Leaf, Scope, Choice, Foreach, Until, Branches, no_branch, branch, Graph, done, add, is_one, less_one}
use Rattle.wf_layers.specs.Address.{Address, address, Table, is_own, is_in, is_within, is_among}
use Rattle.wf_layers.specs.Source.{Source, gate, leaf}
use Rattle.wf_layers.specs.Meaning.{only, sides, rounds, last, skip, skip_all}

module _ {Row Begun Decision Verdict : Type 0} (s : Source Row Begun Decision Verdict) where
  abbrev mutual
    -- In an action that runs.
    pub look_in : Kind → ℕ → List ℕ → Table Row → Table Row
    look_in Leaf n i f x = only (is_own n i x) (Some (leaf s (address n i) f))
    look_in (Scope g) n i f x =
        cond (is_own n i x) (Some (s.close (address n i) (s.decide (address n i) f) 0 None f)) (only (is_within g i x) (look g i f x))
    look_in (Choice bs) n i f x =
        let d = s.decide (address n i) f in
        cond (is_own n i x) (Some (s.close (address n i) d 0 None f)) (only (is_among bs i x) (look_any bs (s.taken d) i f x))
    look_in (Foreach pace g) n i f x =
        let d = s.decide (address n i) f in
        cond (is_own n i x) (Some (s.close (address n i) d 0 None f))
        (only (is_within g i x) (sides (s.items d) i (λ j t. look g (i ++ j ∷ []) f) (λ y. None) x))
    look_in (Until most g) n i f x =
        let tested : ℕ → Verdict = λ j. s.test (address n i) j f in
        let c = rounds most 0 (λ j. s.ends (tested j)) in
        cond (is_own n i x) (Some (s.close (address n i) (s.decide (address n i) f) c (last c tested) f))
        (only (is_within g i x) (sides c i (λ j t. look g (i ++ j ∷ []) f) (λ y. None) x))

    -- In branches, of which the one with number c is taken.
    pub look_any : Branches → ℕ → List ℕ → Table Row → Table Row
    look_any no_branch c i f x = None
    look_any (branch b rest) c i f x =
        cond (is_within b i x) (cond (is_one c) (look b i f x) (skip_all s b i x)) (look_any rest (less_one c) i f x)

    pub look : Graph → List ℕ → Table Row → Table Row
    look done i f x = None
    look (add n after kind rest) i f x =
        cond (is_in n kind i x)
        (cond (s.pinned n) (s.old x) (cond (s.reclosed n || gate s after n i f) (look_in kind n i f x) (skip s n kind i x)))
        (look rest i f x)

  -- The table obeys the rule of the definition g: at each address it has what its own rows give there.
  abbrev pub Obeys : Graph → Table Row → Type 0
  Obeys g f = (x : Address) → is_within g [] x ≡ true → f x ≡ look g [] f x
