-- What is seen is what is told.
use Rattle.std.proofs.Common.{◌≡◌, ℕ, suc, Bool, true, false, cond, List, [], ◌∷◌, ◌++◌, length, take, drop, Option, Some, None, option_map}
use Rattle.std.proofs.Common.{inl, inr, refl, sym, ap, ◌∙◌, subst, append-nil, true≢false, nat_eq, eqb-true}
use Rattle.std.specs.Option.{option_and_then}
use Rattle.wf_val.specs.ValueTree.{ValueTree}
use Rattle.wf_layers.specs.Address.{Address, Table}
use Rattle.wf_layers.specs.Definition.{Graph, InTurn, Kind, Pace, Until, has, kind_of}
use Rattle.wf_layers.specs.Seen.{Once}
use Rattle.wf_layers.proofs.Basics.{two, same_self, unless, when}
use Rattle.wf_def.specs.ActionTree.{ActionTree, action_kind, action_number}
use Rattle.wf_def.specs.DefTree.{DefTree}
use Rattle.wf_record.specs.Record.{Row}
use Rattle.wf_views.proofs.OrderHeldLemmas.{graph-holds}
use Rattle.wf_views.specs.LoopsLoops.{left_round, loops_of, paces_round}
use Rattle.wf_views.proofs.HeldLemmas.{told_of}
use Rattle.wf_views.proofs.RoundLemmas.{split_of}
use Rattle.wf_views.specs.Points.{Point, action_named, graph_of, held_by, is_inside, point_of, point_of_outputs, point_of_test}
use Rattle.wf_views.specs.References.{first_level, own_loop, result_at, result_by, result_in, shared, spots_by, view_at, view_by}
use Rattle.wf_views.specs.References.{view_in}
use Rattle.wf_sight.specs.Laws.{GoesByLoops}
use Rattle.wf_views.specs.Loops.{beyond, common}
use Rattle.wf_views.specs.Views.{result_by_loops, result_from, view_by_loops, view_from}
use Rattle.wf_sight.proofs.LoopLemmas.{fronts_of}

-- the points that go by the loops round them

pub instance_goes : (d : DefTree) → Once (graph_of d) → (x : Address) → GoesByLoops d (point_of d x)
instance_goes d once x y =
    let h = fronts_of (graph_of d) once y x.name in
    (h.many, h.leaves ∙ ap (λ (n : ℕ). drop n (loops_of (graph_of d) y)) (sym h.many))

common_nothing : (ls : List ℕ) → common ls [] ≡ 0
common_nothing [] = refl
common_nothing (l ∷ ls) = refl

pub outputs_go : (d : DefTree) → GoesByLoops d (point_of_outputs d)
outputs_go d y =
    let ls = loops_of (graph_of d) y in
    (common_nothing ls, ap (λ (n : ℕ). drop n ls) (sym (common_nothing ls)))

-- the test of an Until stands in the Until, too

front_suc : (b : Bool) (k n : ℕ) → cond b (suc k) 0 ≡ suc n → (b ≡ true) × (k ≡ n)
front_suc true k n e = (refl, cc)
front_suc false k n e = cc

one_more : (xs ls rest : List ℕ) (u : ℕ) → common xs ls ≡ length ls → drop (length ls) xs ≡ u ∷ rest
    → (common xs (ls ++ u ∷ []) ≡ suc (length ls)) × (drop (suc (length ls)) xs ≡ rest)
one_more [] [] rest u all left = cc
one_more (x ∷ xs) [] rest u all left =
    let same : x ≡ u = cc in
    (when (nat_eq x u) (suc (common xs [])) 0 (subst (λ (k : ℕ). nat_eq x k ≡ true) same (same_self x)) ∙ ap suc (common_nothing xs), cc)
one_more [] (l ∷ ls) rest u all left = cc
one_more (x ∷ xs) (l ∷ ls) rest u all left =
    let s = front_suc (nat_eq x l) (common xs ls) (length ls) all in
    let h = one_more xs ls rest u s.1 left in
    (when (nat_eq x l) (suc (common xs (ls ++ u ∷ []))) 0 s.0 ∙ ap suc h.0, h.1)

no_more : (xs ls : List ℕ) (u : ℕ) → ((rest : List ℕ) → xs ≡ ls ++ u ∷ rest → ⊥) → common xs (ls ++ u ∷ []) ≡ common xs ls
no_more [] [] u never = refl
no_more (x ∷ xs) [] u never = elim (two (nat_eq x u)) [
  | inl t ↦ absurd (never xs (ap (λ (k : ℕ). k ∷ xs) (eqb-true x u t)))
  | inr f ↦ unless (nat_eq x u) (suc (common xs [])) 0 f
]
no_more [] (l ∷ ls) u never = refl
no_more (x ∷ xs) (l ∷ ls) u never = elim (two (nat_eq x l)) [
  | inl t ↦ when (nat_eq x l) (suc (common xs (ls ++ u ∷ []))) 0 t
      ∙ (ap suc (no_more xs ls u (λ rest e. never rest (ap (λ (k : ℕ). k ∷ xs) (eqb-true x l t) ∙ ap (λ (ks : List ℕ). l ∷ ks) e)))
      ∙ sym (when (nat_eq x l) (suc (common xs ls)) 0 t))
  | inr f ↦ unless (nat_eq x l) (suc (common xs (ls ++ u ∷ []))) 0 f ∙ sym (unless (nat_eq x l) (suc (common xs ls)) 0 f)
]

pub test_goes : (d : DefTree) → Once (graph_of d) → (u : Address) (k most : ℕ) (h : Graph) → kind_of (graph_of d) u.name ≡ Some (Until most h)
    → GoesByLoops d (point_of_test d u k)
test_goes d once u k most h is x =
    let g = graph_of d in
    let round = loops_of g x in
    let loops = loops_of g u.name in
    let fronts = fronts_of g once x u.name in
    let inside : is_inside d x u.name ≡ has h x = ap (λ (o : Option Kind). held_by o x) is in
    elim (two (has h x)) [
      | inl t ↦
          let told = told_of u.name x (Until most h) t g once is in
          let more = one_more round loops (loops_of h x) u.name (fronts.many ∙ told.many)
          (sym (ap (λ (n : ℕ). drop n round) told.many) ∙ (sym fronts.leaves ∙ told.leaves)) in
          let here = inside ∙ t in (
            more.0 ∙ (ap suc (sym told.many) ∙ (sym (length_more (paces_round g x u.name))
                ∙ ap (λ (ps : List Pace). length (paces_round g x u.name ++ ps)) (sym (when (is_inside d x u.name) (InTurn ∷ []) [] here)))),
            when (is_inside d x u.name) (drop 1 (left_round g x u.name)) (left_round g x u.name) here
                ∙ (ap (drop 1) told.leaves ∙ (sym more.1 ∙ ap (λ (n : ℕ). drop n round) (sym more.0))),
          )
      | inr f ↦
          let here = inside ∙ f in
          let less = no_more round loops u.name (λ rest e. true≢false
          (sym (graph-holds g once u.name x (Until most h) is (split_of g once x loops u.name rest e).contains) ∙ f)) in (
            less ∙ (fronts.many ∙ ap length (sym (append-nil (paces_round g x u.name))
                ∙ ap (λ (ps : List Pace). paces_round g x u.name ++ ps) (sym (unless (is_inside d x u.name) (InTurn ∷ []) [] here)))),
            unless (is_inside d x u.name) (drop 1 (left_round g x u.name)) (left_round g x u.name) here
                ∙ (fronts.leaves ∙ ap (λ (n : ℕ). drop n round) (sym (less ∙ fronts.many))),
          )
    ]
  where
    length_more : (ps : List Pace) → length (ps ++ InTurn ∷ []) ≡ suc (length ps)
    length_more [] = refl
    length_more (p ∷ ps) = ap suc (length_more ps)

-- views and results there

module _ (d : DefTree) (p : Point) (known : Table Row) (goes : GoesByLoops d p) where
  shared_same : (x : ℕ) → take (common (loops_of (graph_of d) x) p.loops) p.at ≡ shared p x
  shared_same x = ap (λ (n : ℕ). take n p.at) (goes x).0

  view_as : (o : Option ActionTree) → view_by_loops d p.loops p.at known o ≡ view_by d p known o
  view_as None = refl
  view_as (Some a) =
      let x = action_number a in
      ap (λ (i : List ℕ). option_and_then (view_in a known) (spots_by d i (beyond (loops_of (graph_of d) x) p.loops) known)) (shared_same x)
      ∙ ap (λ (ls : List ℕ). option_and_then (view_in a known) (spots_by d (shared p x) ls known)) (sym (goes x).1)

  pub view_same : (k : List ℕ) → view_from d p.loops p.at known k ≡ view_at d p known k
  view_same k = view_as (action_named d k)

  result_as : (o : Option ActionTree) → result_by_loops d p.loops p.at known o ≡ result_by d p known o
  result_as None = refl
  result_as (Some a) =
      let x = action_number a in
      let given : List ℕ → List ℕ → Option ValueTree = λ i ls.
      option_and_then (λ inner. option_map (result_in known inner) (spots_by d i (ls ++ own_loop a) known)) (first_level (action_kind a)) in
      ap (λ (i : List ℕ). given i (beyond (loops_of (graph_of d) x) p.loops)) (shared_same x) ∙ ap (given (shared p x)) (sym (goes x).1)

  pub result_same : (k : List ℕ) → result_from d p.loops p.at known k ≡ result_at d p known k
  result_same k = result_as (action_named d k)
