-- Accesses of a variable are in one order, or exclude each other, at every address.
use Rattle.std.proofs.Common.{◌≡◌, ℕ, suc, Bool, true, false, ◌&&◌, ◌||◌, cond, List, [], ◌∷◌, ◌++◌, length, Some, ◌⊎◌, inl, inr, refl, sym}
use Rattle.std.proofs.Common.{ap, subst, ◌∙◌, arith, nat_eq}
use Rattle.std.proofs.lemmas.Bool.{eq-eqb, eqb-true}
use Rattle.wf_def.specs.Definition.{Need, Kind, Leaf, Scope, Choice, Foreach, Until, Branches, no_branch, branch, Graph, done, add}
use Rattle.wf_def.specs.Definition.{holds, has, Closed, kind_of}
use Rattle.wf_def.specs.Address.{Address, address, starts, is_in, is_within, SeenIn}
use Rattle.wf_def.specs.Seen.{Once, OnceIn, OnceAny}
use Rattle.wf_def.specs.Variables.{HasOrder, IsOrdered, exclusive}
use Rattle.wf_def.proofs.Basics.{and_in, and_of}
use Rattle.wf_paths.proofs.PathLemmas.{or_left, or_right}
use Rattle.wf_order.specs.Indexes.{HaveSameIndexes, loops_any, loops_in, loops_round}
use Rattle.wf_order.specs.Order.{Among, Before, Contains, Exclusive, around, around_any, around_in}
use Rattle.wf_order.specs.Turns.{AreSettled, IsInstance, IsInTurn, IsReadWith}
use Rattle.wf_order.proofs.ExcludedLaws.{exclusive_instances}
use Rattle.wf_order.proofs.HeldLemmas.{graph-holds}
use Rattle.wf_order.proofs.OrderLaws.{around-branch, around-branches, around-head, around-inner, around-rest, at_first, behind_first}
use Rattle.wf_order.proofs.OrderLaws.{branch_passed, clash, in_first, kind_passed, moved, stands, two}
use Rattle.wf_order.proofs.RelationLemmas.{around_has, branch_has, kind_has}
use Rattle.wf_order.proofs.SeenLaws.{before_seen, loops-branch, loops-branches, loops-inner, loops-rest, within}
use Rattle.wf_order.proofs.TurnLaws.{apart_of_one, loops_out, no_loops, turns_decide}

-- ---- loops round a container are round what it contains

-- none are round both an action and what it contains that aren't round the action
outermost : (m : ℕ) (after : List Need) (kind : Kind) (rest : Graph) → Once (add m after kind rest) → (n y : ℕ) → m ≡ n
    → loops_round (add m after kind rest) n y ≡ 0
outermost m after kind rest once n y is =
    loops_out m after kind rest n y (apart_of_one (holds kind n) (holds kind y) (subst (λ (k : ℕ). holds kind k ≡ false) is once.0))
    ∙ no_loops rest n y (once.1 n (or_left (nat_eq m n) (holds kind n) (eq-eqb m n is)))

mutual
  loops_contained : (g : Graph) → Once g → (n y : ℕ) → Among (around g y) n → loops_round g n y ≡ loops_round g n n
  loops_contained done once n y among = elim among [ ]
  loops_contained (add m after kind rest) once n y among = elim (stands m kind rest y) [
    | at_first is ↦ elim (moved (around (add m after kind rest) y) [] n (around-head m after kind rest y is) among) [ ]
    | in_first other held ↦
        elim (moved (around (add m after kind rest) y) (m ∷ around_in kind y) n (around-inner m after kind rest y other held) among) [
          | inl is ↦ outermost m after kind rest once n y is ∙ sym (outermost m after kind rest once n n is)
          | inr deeper ↦
              let n_in = kind_has kind y n deeper in
              loops-inner m after kind rest n y n_in held ∙ kind_contained kind once.2 n y deeper
              ∙ sym (loops-inner m after kind rest n n n_in n_in)
        ]
    | behind_first other out ↦
        let later = moved (around (add m after kind rest) y) (around rest y) n (around-rest m after kind rest y other out) among in
        let n_out = kind_passed m n kind rest once.1 (around_has rest y n later) in
        loops-rest m after kind rest n y n_out ∙ loops_contained rest once.3 n y later ∙ sym (loops-rest m after kind rest n n n_out)
  ]

  kind_contained : (kind : Kind) → OnceIn kind → (n y : ℕ) → Among (around_in kind y) n → loops_in kind n y ≡ loops_in kind n n
  kind_contained Leaf once n y among = elim among [ ]
  kind_contained (Scope g) once n y among = loops_contained g once n y among
  kind_contained (Choice bs) once n y among = any_contained bs once n y among
  kind_contained (Foreach pace g) once n y among = ap suc (loops_contained g once n y among)
  kind_contained (Until most g) once n y among = ap suc (loops_contained g once n y among)

  any_contained : (bs : Branches) → OnceAny bs → (n y : ℕ) → Among (around_any bs y) n → loops_any bs n y ≡ loops_any bs n n
  any_contained no_branch once n y among = elim among [ ]
  any_contained (branch b rest) once n y among = elim (two (has b y)) [
    | inl in_y ↦
        let here = moved (around_any (branch b rest) y) (around b y) n (around-branch b rest y in_y) among in
        let in_n = around_has b y n here in
        loops-branch b rest n y in_n in_y ∙ loops_contained b once.1 n y here ∙ sym (loops-branch b rest n n in_n in_n)
    | inr out_y ↦
        let later = moved (around_any (branch b rest) y) (around_any rest y) n (around-branches b rest y out_y) among in
        let out_n = branch_passed b rest n once.0 (branch_has rest y n later) in
        loops-branches b rest n y out_n ∙ any_contained rest once.2 n y later ∙ sym (loops-branches b rest n n out_n)
  ]

-- ---- the loops round two actions are those round the other and the one

and-sym : (a b : Bool) → (a && b) ≡ (b && a)
and-sym true true = refl
and-sym true false = refl
and-sym false true = refl
and-sym false false = refl

mutual
  loops-sym : (g : Graph) (x y : ℕ) → loops_round g x y ≡ loops_round g y x
  loops-sym done x y = refl
  loops-sym (add n after kind rest) x y =
      ap (λ (l : ℕ). cond (holds kind x && holds kind y) l (loops_round rest x y)) (kind-sym kind x y)
      ∙ ap (λ (l : ℕ). cond (holds kind x && holds kind y) (loops_in kind y x) l) (loops-sym rest x y)
      ∙ ap (λ (b : Bool). cond b (loops_in kind y x) (loops_round rest y x)) (and-sym (holds kind x) (holds kind y))

  kind-sym : (kind : Kind) (x y : ℕ) → loops_in kind x y ≡ loops_in kind y x
  kind-sym Leaf x y = refl
  kind-sym (Scope g) x y = loops-sym g x y
  kind-sym (Choice bs) x y = any-sym bs x y
  kind-sym (Foreach pace g) x y = ap suc (loops-sym g x y)
  kind-sym (Until most g) x y = ap suc (loops-sym g x y)

  any-sym : (bs : Branches) (x y : ℕ) → loops_any bs x y ≡ loops_any bs y x
  any-sym no_branch x y = refl
  any-sym (branch b rest) x y =
      ap (λ (l : ℕ). cond (has b x && has b y) l (loops_any rest x y)) (loops-sym b x y)
      ∙ ap (λ (l : ℕ). cond (has b x && has b y) (loops_round b y x) l) (any-sym rest x y)
      ∙ ap (λ (c : Bool). cond c (loops_round b y x) (loops_any rest y x)) (and-sym (has b x) (has b y))

-- ---- indexes of the same length

starts_same : (k i : List ℕ) → length k ≡ length i → starts k i ≡ true → k ≡ i
starts_same [] [] same is = refl
starts_same [] (b ∷ i) same is = absurd (omega (arith, same))
starts_same (a ∷ k) [] same is = absurd (omega (arith, same))
starts_same (a ∷ k) (b ∷ i) same is =
    let h = and_in (nat_eq a b) (starts k i) is in
    let tail = starts_same k i (omega (arith, same)) h.1 in
    ap (λ (c : ℕ). c ∷ k) (eqb-true a b h.0) ∙ ap (λ (l : List ℕ). b ∷ l) tail

-- ---- accesses

turned : (g : Graph) (x y : Address) → HaveSameIndexes g x y → loops_round g x.name y.name ≡ length x.at → starts x.at y.at ≡ true
turned g x y same count = subst (λ (k : List ℕ). starts k y.at ≡ true) (starts_same same.indexes x.at (same.each_loop ∙ count) same.of_one)
    same.of_other

alike : (x y : Address) → x.name ≡ y.name → x.at ≡ y.at → x ≡ y
alike x y name at = ap (λ (n : ℕ). address n x.at) name ∙ ap (λ (l : List ℕ). address y.name l) at

module _ (g : Graph) (once : Once g) (closed : Closed g g) where
  settled_alike : (x y : Address) → has g x.name ≡ true → has g y.name ≡ true → HaveSameIndexes g x y → AreSettled g x.name y.name
      → IsOrdered g x y
  settled_alike x y in_x in_y same (inl before) = inl (inr (before_seen g once closed x y before same))
  settled_alike x y in_x in_y same (inr (inl after)) = inl (inl (before_seen g once closed y x after (record {
    indexes = same.indexes;
    each_loop = same.each_loop ∙ loops-sym g x.name y.name;
    of_one = same.of_other;
    of_other = same.of_one;
  })))
  settled_alike x y in_x in_y same (inr (inr apart)) = inr (within g [] y in_y refl, exclusive_instances g once x y apart same)

  pub writers_in_order : (x y : Address) → IsInstance g x → IsInstance g y → IsInTurn g x.name
      → (x.name ≡ y.name) ⊎ AreSettled g x.name y.name → (x ≡ y) ⊎ IsOrdered g x y
  writers_in_order x y of_x of_y in_turn of_both = elim (turns_decide g once x y of_x of_y in_turn) [
    | inl same ↦ elim of_both [
      | inl is ↦ inl (alike x y is (starts_same x.at y.at (lengths x y of_x of_y is) (turned g x y same
          (subst (λ (n : ℕ). loops_round g x.name n ≡ length x.at) is of_x.1))))
      | inr settled ↦ inr (settled_alike x y of_x.0 of_y.0 same settled)
    ]
    | inr decided ↦ elim decided [
      | inl e ↦ inr (inl (inr e))
      | inr e ↦ inr (inl (inl e))
    ]
  ]
    where
      lengths : (x y : Address) → IsInstance g x → IsInstance g y → x.name ≡ y.name → length x.at ≡ length y.at
      lengths x y of_x of_y is = sym of_x.1 ∙ ap (λ (n : ℕ). loops_round g n n) is ∙ of_y.1

  -- a reader n, and a writer y
  pub reader_in_order : (n : ℕ) (i : List ℕ) (kind : Kind) (y : Address) → kind_of g n ≡ Some kind → IsInstance g (address n i)
      → IsInstance g y → IsInTurn g y.name → IsReadWith g n y.name → HasOrder g n kind i y
  reader_in_order n i kind y is of_n of_y in_turn of_both = elim (turns_decide g once y (address n i) of_y of_n in_turn) [
    | inr decided ↦ elim decided [
      | inl e ↦ inr (inl (inl e))
      | inr e ↦ inr (inl (inr e))
    ]
    | inl back ↦
        let same : HaveSameIndexes g (address n i) y = record {
          indexes = back.indexes;
          each_loop = back.each_loop ∙ loops-sym g y.name n;
          of_one = back.of_other;
          of_other = back.of_one;
        } in
        elim of_both [
          | inl own ↦
              inl (and_of (nat_eq n y.name || holds kind y.name) (starts i y.at)
              (or_left (nat_eq n y.name) (holds kind y.name) (eq-eqb n y.name own))
              (turned g (address n i) y same (subst (λ (m : ℕ). loops_round g n m ≡ length i) own of_n.1)))
          | inr apart ↦ elim apart [
            | inl inside ↦
                inl (and_of (nat_eq n y.name || holds kind y.name) (starts i y.at)
                (or_right (nat_eq n y.name) (holds kind y.name) (graph-holds g once n y.name kind is inside))
                (turned g (address n i) y same (loops_contained g once n y.name inside ∙ of_n.1)))
            | inr settled ↦ inr (settled_alike (address n i) y of_n.0 of_y.0 same settled)
          ]
        ]
  ]
