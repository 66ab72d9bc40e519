-- All instances with a row that a point sees are listed: of a loop round the point up to the point's own iteration, of any other as many
-- iterations as the loop's row tells.
use Rattle.std.proofs.Common.{◌≡◌, ℕ, suc, ◌<◌, ◌≤◌, true, List, [], ◌∷◌, ◌++◌, length, Option, None, ◌⊎◌, inl, inr}
use Rattle.std.proofs.Common.{refl, sym, ap, ◌∙◌, arith, subst, nat_eq, eqb-true, eq-eqb, true≢false, append_assoc, length-append}
use Rattle.std.specs.Prelude.{flat_map, if◌then◌else◌}
use Rattle.wf_layers.specs.Address.{Address, Table, address}
use Rattle.wf_layers.specs.Listed.{Among}
use Rattle.wf_layers.proofs.Basics.{two, same_self, when, unless}
use Rattle.wf_seen_laws.specs.AllActions.{numbered}
use Rattle.wf_seen_laws.specs.DefTree.{DefTree}
use Rattle.wf_seen_laws.specs.Loops.{loops_of}
use Rattle.wf_record.specs.Record.{Row}
use Rattle.wf_seen_laws.specs.Laws.{IsInTurnOf}
use Rattle.wf_instance.specs.Points.{Point, graph_of, sees}
use Rattle.wf_instance.specs.References.{upto}
use Rattle.wf_instance.specs.Rows.{iterations_of, turns_at}
use Rattle.wf_instance.specs.MeantVariables.{indexes_from, seen_by}
use Rattle.wf_meant_laws.proofs.ListLemmas.{cancel, in_flat, in_upto}

pub append_none : (xs : List ℕ) → xs ++ [] ≡ xs
append_none [] = refl
append_none (x ∷ xs) = ap (λ (ys : List ℕ). x ∷ ys) (append_none xs)

first_is : {n l : ℕ} {ns ls : List ℕ} → n ∷ ns ≡ l ∷ ls → n ≡ l
first_is e = cc

-- the point stands in the loop l, round which are the loops `outer`, at these indexes, and in no iteration before this one
pub record StandsFrom (p : Point) (l : ℕ) (outer at : List ℕ) (turn : ℕ) : Type 0 where
  pub own : ℕ
  pub inner : List ℕ
  pub loops : p.loops ≡ outer ++ l ∷ inner
  pub behind : List ℕ
  pub indexes : p.at ≡ at ++ own ∷ behind
  pub each_loop : length at ≡ length outer
  pub from : turn ≤ own

-- what is known of a point, and of the instances that it sees
pub record Seeing (d : DefTree) (p : Point) (Sees : Address → Type 0) : Type 0 where
  pub told : (x : Address) → Sees x → sees p x ≡ true
  pub only : (x : Address) → sees p x ≡ true → Sees x
  pub round : (x : Address) (l : ℕ) (outer at : List ℕ) (turn : ℕ) → IsInTurnOf (graph_of d) x l outer at turn → Sees x
      → Sees (address l at) ⊎ StandsFrom p l outer at turn
  pub apart : (l : ℕ) (outer at : List ℕ) (turn : ℕ) → StandsFrom p l outer at turn → Sees (address l at) → ⊥

module _ (d : DefTree) (p : Point) (Sees : Address → Type 0) (point : Seeing d p Sees) (rows : Table Row) (x : Address) (seen : Sees x)
    (turns : (l : ℕ) (outer at : List ℕ) (turn : ℕ) → IsInTurnOf (graph_of d) x l outer at turn → turn < turns_at d rows l at) where
  abbrev known : Table Row
  known = seen_by p rows

  abbrev ListedAt : List ℕ → List ℕ → List ℕ → List ℕ → Type 0
  ListedAt ls at ms js = Among (indexes_from d known ls at ms js) x.at

  -- the point stands in no iteration of these loops that has these indexes
  abbrev Apart : List ℕ → List ℕ → Type 0
  Apart outer at = (more rest : List ℕ) → p.loops ≡ outer ++ more → p.at ≡ at ++ rest → ⊥

  one_more : (outer : List ℕ) (l : ℕ) (ls : List ℕ) → (outer ++ l ∷ []) ++ ls ≡ outer ++ l ∷ ls
  one_more outer l ls = append_assoc outer (l ∷ []) ls

  in_turn : (l : ℕ) (ls outer at ks : List ℕ) (k : ℕ) → loops_of (graph_of d) x.name ≡ outer ++ l ∷ ls → x.at ≡ at ++ k ∷ ks
      → length at ≡ length outer → IsInTurnOf (graph_of d) x l outer at k
  in_turn l ls outer at ks k of_loops of_at long =
      record { inner = ls; loops = of_loops; behind = ks; indexes = of_at; each_loop = long }

  -- the row of a loop that is seen tells of the iteration
  iterated : (l : ℕ) (outer at : List ℕ) (k : ℕ) → IsInTurnOf (graph_of d) x l outer at k → Sees (address l at)
      → k < turns_at d known l at
  iterated l outer at k of s =
      subst (λ (o : Option Row). k < iterations_of (numbered l d.top) o)
      (sym (when (sees p (address l at)) (rows (address l at)) None (point.told (address l at) s))) (turns l outer at k of)

  -- of a loop that is seen, so that the point isn't in it
  passed : (l : ℕ) (outer at : List ℕ) (k : ℕ) → length at ≡ length outer → Sees (address l at) → Apart (outer ++ l ∷ []) (at ++ k ∷ [])
  passed l outer at k long s more rest of_loops of_at =
      point.apart l outer at k (record {
        own = k;
        inner = more;
        loops = of_loops ∙ one_more outer l more;
        behind = rest;
        indexes = of_at ∙ one_more at k rest;
        each_loop = long;
        from = omega arith;
      }) s

  longer : (at outer : List ℕ) (k l : ℕ) → length at ≡ length outer → length (at ++ k ∷ []) ≡ length (outer ++ l ∷ [])
  longer at outer k l long = omega (arith, long, length-append at (k ∷ []), length-append outer (l ∷ []))

  -- where the point's loops are others
  pub alone : (ls outer at ks js : List ℕ) → loops_of (graph_of d) x.name ≡ outer ++ ls → x.at ≡ at ++ ks → length at ≡ length outer
      → length ks ≡ length ls → Apart outer at → ListedAt ls at [] js
  alone [] outer at [] js of_loops of_at long full apart = inl (sym (of_at ∙ append_none at))
  alone [] outer at (k ∷ ks) js of_loops of_at long full apart = absurd (omega (arith, full))
  alone (l ∷ ls) outer at [] js of_loops of_at long full apart = absurd (omega (arith, full))
  alone (l ∷ ls) outer at (k ∷ ks) js of_loops of_at long full apart =
      let of = in_turn l ls outer at ks k of_loops of_at long in
      let s : Sees (address l at) = elim (point.round x l outer at k of seen) [
        | inl s ↦ s
        | inr stands ↦ absurd (apart (l ∷ stands.inner) (stands.own ∷ stands.behind) stands.loops stands.indexes)
      ] in
      in_flat (λ (j : ℕ). indexes_from d known ls (at ++ j ∷ []) [] []) (upto (turns_at d known l at)) k x.at
      (in_upto (turns_at d known l at) k (iterated l outer at k of s))
      (alone ls (outer ++ l ∷ []) (at ++ k ∷ []) ks [] (of_loops ∙ sym (one_more outer l ls)) (of_at ∙ sym (one_more at k ks))
      (longer at outer k l long) (omega (arith, full)) (passed l outer at k long s))

  -- a loop in which the point isn't
  beside : (l : ℕ) (ls at ms js : List ℕ)
      → ((m : ℕ) (ms' : List ℕ) (j : ℕ) (js' : List ℕ) → ms ≡ m ∷ ms' → js ≡ j ∷ js' → l ≡ m → ⊥)
      → Among (flat_map (λ (j : ℕ). indexes_from d known ls (at ++ j ∷ []) [] []) (upto (turns_at d known l at))) x.at
      → ListedAt (l ∷ ls) at ms js
  beside l ls at [] js other there = there
  beside l ls at (m ∷ ms) [] other there = there
  beside l ls at (m ∷ ms) (j ∷ js) other there = elim (two (nat_eq l m)) [
    | inl t ↦ absurd (other m ms j js refl refl (eqb-true l m t))
    | inr f ↦ subst (λ (ats : List (List ℕ)). Among ats x.at)
        (sym (unless (nat_eq l m)
        (flat_map (λ (k : ℕ). indexes_from d known ls (at ++ k ∷ []) (if nat_eq k j then ms else []) js) (upto (suc j)))
        (flat_map (λ (k : ℕ). indexes_from d known ls (at ++ k ∷ []) [] []) (upto (turns_at d known l at))) f)) there
  ]

  -- one in which it is
  within : (l : ℕ) (ls at ms js : List ℕ) (k j : ℕ) → k ≤ j
      → Among (indexes_from d known ls (at ++ k ∷ []) (if nat_eq k j then ms else []) js) x.at → ListedAt (l ∷ ls) at (l ∷ ms) (j ∷ js)
  within l ls at ms js k j le there =
      subst (λ (ats : List (List ℕ)). Among ats x.at)
      (sym (when (nat_eq l l)
      (flat_map (λ (k : ℕ). indexes_from d known ls (at ++ k ∷ []) (if nat_eq k j then ms else []) js) (upto (suc j)))
      (flat_map (λ (k : ℕ). indexes_from d known ls (at ++ k ∷ []) [] []) (upto (turns_at d known l at))) (same_self l)))
      (in_flat (λ (k : ℕ). indexes_from d known ls (at ++ k ∷ []) (if nat_eq k j then ms else []) js) (upto (suc j)) k x.at
      (in_upto (suc j) k (omega (arith, le))) there)

  -- the loops and the indexes are the same so far
  pub along : (ls outer at ks ms js : List ℕ) → loops_of (graph_of d) x.name ≡ outer ++ ls → x.at ≡ at ++ ks → length at ≡ length outer
      → length ks ≡ length ls → p.loops ≡ outer ++ ms → p.at ≡ at ++ js → ListedAt ls at ms js
  along [] outer at [] ms js of_loops of_at long full of_point of_index = inl (sym (of_at ∙ append_none at))
  along [] outer at (k ∷ ks) ms js of_loops of_at long full of_point of_index = absurd (omega (arith, full))
  along (l ∷ ls) outer at [] ms js of_loops of_at long full of_point of_index = absurd (omega (arith, full))
  along (l ∷ ls) outer at (k ∷ ks) ms js of_loops of_at long full of_point of_index =
      let of = in_turn l ls outer at ks k of_loops of_at long in
      let of_loops' = of_loops ∙ sym (one_more outer l ls) in
      let of_at' = of_at ∙ sym (one_more at k ks) in
      let long' = longer at outer k l long in
      let full' : length ks ≡ length ls = omega (arith, full) in
      elim (point.round x l outer at k of seen) [
        | inl s ↦ beside l ls at ms js
            (λ m ms' j js' of_ms of_js same. point.apart l outer at j (record {
              own = j;
              inner = ms';
              loops = of_point ∙ ap (λ (qs : List ℕ). outer ++ qs) (of_ms ∙ ap (λ (q : ℕ). q ∷ ms') (sym same));
              behind = js';
              indexes = of_index ∙ ap (λ (qs : List ℕ). at ++ qs) of_js;
              each_loop = long;
              from = omega arith;
            }) s)
            (in_flat (λ (j : ℕ). indexes_from d known ls (at ++ j ∷ []) [] []) (upto (turns_at d known l at)) k x.at
            (in_upto (turns_at d known l at) k (iterated l outer at k of s))
            (alone ls (outer ++ l ∷ []) (at ++ k ∷ []) ks [] of_loops' of_at' long' full' (passed l outer at k long s)))
        | inr stands ↦
            let of_ms : ms ≡ l ∷ stands.inner = cancel outer ms (l ∷ stands.inner) (sym of_point ∙ stands.loops) in
            let of_js : js ≡ stands.own ∷ stands.behind = cancel at js (stands.own ∷ stands.behind) (sym of_index ∙ stands.indexes) in
            subst (λ (qs : List ℕ). ListedAt (l ∷ ls) at qs js) (sym of_ms)
            (subst (λ (qs : List ℕ). ListedAt (l ∷ ls) at (l ∷ stands.inner) qs) (sym of_js)
            (within l ls at stands.inner stands.behind k stands.own stands.from
            (elim (two (nat_eq k stands.own)) [
              | inl t ↦ subst (λ (qs : List ℕ). ListedAt ls (at ++ k ∷ []) qs stands.behind)
                  (sym (when (nat_eq k stands.own) stands.inner [] t))
                  (along ls (outer ++ l ∷ []) (at ++ k ∷ []) ks stands.inner stands.behind of_loops' of_at' long' full'
                  (stands.loops ∙ sym (one_more outer l stands.inner))
                  (stands.indexes ∙ (ap (λ (q : ℕ). at ++ q ∷ stands.behind) (sym (eqb-true k stands.own t))
                  ∙ sym (one_more at k stands.behind))))
              | inr f ↦ subst (λ (qs : List ℕ). ListedAt ls (at ++ k ∷ []) qs stands.behind)
                  (sym (unless (nat_eq k stands.own) stands.inner [] f))
                  (alone ls (outer ++ l ∷ []) (at ++ k ∷ []) ks stands.behind of_loops' of_at' long' full'
                  (λ more rest loops' at'. true≢false (sym (eq-eqb k stands.own (first_is (cancel at (k ∷ rest) (stands.own ∷ stands.behind)
                  (sym (one_more at k rest) ∙ (sym at' ∙ stands.indexes))))) ∙ f)))
            ])))
      ]

  -- THE LAW
  pub listed : length x.at ≡ length (loops_of (graph_of d) x.name)
      → Among (indexes_from d known (loops_of (graph_of d) x.name) [] p.loops p.at) x.at
  listed full = along (loops_of (graph_of d) x.name) [] [] x.at p.loops p.at refl refl refl full refl refl
