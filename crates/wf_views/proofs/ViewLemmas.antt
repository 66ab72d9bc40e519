-- Views of one iteration more, and actions in the order of their names.
use Rattle.std.proofs.Common.{◌≡◌, ℕ, zero, suc, ◌+◌, ◌-◌, ◌<◌, List, [], ◌∷◌, ◌++◌, map, Some, Ordering, Less, Equal}
use Rattle.std.proofs.Common.{Greater, refl, sym, ap, ◌∙◌, add-one, append-nil, arith}
use Rattle.std.proofs.lemmas.List.{map-append}
use Rattle.std.proofs.lemmas.Grind.{flat_map-append}
use Rattle.std.specs.List.{flat_map}
use Rattle.std.specs.Ordering.{match_ordering}
use Rattle.wf_lists.specs.KeyOrder.{put_key}
use Rattle.wf_catalog.specs.Looked.{or_null}
use Rattle.wf_val.specs.NameOrder.{bytes_cmp}
use Rattle.wf_layers.specs.Address.{Table}
use Rattle.wf_def.specs.ActionTree.{ActionTree, action_kind, action_name, action_number}
use Rattle.wf_def.specs.DefTree.{DefTree}
use Rattle.wf_def.specs.declared.graph.Action.{out-Action}
use Rattle.wf_record.specs.Record.{Row}
use Rattle.wf_catalog.specs.Loops.{loops_of}
use Rattle.wf_catalog.specs.Points.{graph_of}
use Rattle.wf_catalog.specs.References.{by_name, first_level, last_of, own_loop, result_in, spots_by, upto, view_there}
use Rattle.std.specs.Option.{option_and_then}
use Rattle.std.specs.Prelude.{Option, None, option_map, take}
use Rattle.wf_catalog.specs.Keys.{all_put}
use Rattle.wf_catalog.specs.PlacesSeen.{named_tree}
use Rattle.wf_views.specs.Loops.{beyond, common}
use Rattle.wf_views.specs.Views.{iterations_at, result_by_loops, result_of, results_in, views_at, views_in}
use Rattle.wf_catalog.specs.declared.named.Named.{Named}
use Rattle.wf_catalog.proofs.PlaceLemmas.{name_is}

iterations-next : (at : List ℕ) (n : ℕ) → iterations_at at (n + 1) ≡ iterations_at at n ++ (at ++ n ∷ []) ∷ []
iterations-next at n =
    ap (iterations_at at) (add-one n) ∙ map-append (λ (j : ℕ). at ++ j ∷ []) (upto n) (n ∷ [])

module _ (known : Table Row) where
  pub views_more : (a : ActionTree) (at : List ℕ) (n : ℕ)
      → views_in known a at (n + 1) ≡ views_in known a at n ++ or_null (view_there a known (at ++ n ∷ [])) ∷ []
  views_more a at n =
      ap (map (λ (is : List ℕ). or_null (view_there a known is))) (iterations-next at n)
      ∙ map-append (λ (is : List ℕ). or_null (view_there a known is)) (iterations_at at n) ((at ++ n ∷ []) ∷ [])

  pub results_more : (inner : List ActionTree) (at : List ℕ) (n : ℕ)
      → results_in known inner at (n + 1) ≡ results_in known inner at n ++ views_at known inner (at ++ n ∷ [])
  results_more inner at n =
      ap (flat_map (views_at known inner)) (iterations-next at n)
      ∙ (flat_map-append (views_at known inner) (iterations_at at n) ((at ++ n ∷ []) ∷ [])
      ∙ ap (λ vs. results_in known inner at n ++ vs) (append-nil (views_at known inner (at ++ n ∷ []))))

-- the last of some iterations
pub last_is : (at : List ℕ) (n : ℕ) → 0 < n → last_of at n ≡ Some (at ++ (n - 1) ∷ [])
last_is at zero some = absurd (omega (arith, some))
last_is at (suc n) some = ap (λ (j : ℕ). Some (at ++ j ∷ [])) (omega arith)

-- ---- actions in the order of their names

put_as : (n : Named) (ns : List Named)
    → map named_tree (put_key bytes_cmp (λ (m : Named). (out-Action m.action.now).name) n ns)
    ≡ put_key bytes_cmp action_name (named_tree n) (map named_tree ns)
put_as n [] = refl
put_as n (m ∷ ms) =
    by_order (bytes_cmp (out-Action n.action.now).name (out-Action m.action.now).name)
    ∙ (ap (λ (o : Ordering). match_ordering o (named_tree n ∷ named_tree m ∷ map named_tree ms) (named_tree n ∷ map named_tree ms)
    (named_tree m ∷ map named_tree (put_key bytes_cmp (λ (q : Named). (out-Action q.action.now).name) n ms)))
    (ap (λ (k : List ℕ). bytes_cmp k (out-Action m.action.now).name) (name_is n.action.now)
    ∙ ap (bytes_cmp (action_name (named_tree n))) (name_is m.action.now))
    ∙ ap (λ as'. match_ordering (bytes_cmp (action_name (named_tree n)) (action_name (named_tree m)))
    (named_tree n ∷ named_tree m ∷ map named_tree ms) (named_tree n ∷ map named_tree ms) (named_tree m ∷ as')) (put_as n ms))
  where
    by_order : (o : Ordering)
        → map named_tree (match_ordering o (n ∷ m ∷ ms) (n ∷ ms)
        (m ∷ put_key bytes_cmp (λ (q : Named). (out-Action q.action.now).name) n ms))
        ≡ match_ordering o (named_tree n ∷ named_tree m ∷ map named_tree ms) (named_tree n ∷ map named_tree ms)
        (named_tree m ∷ map named_tree (put_key bytes_cmp (λ (q : Named). (out-Action q.action.now).name) n ms))
    by_order Less = refl
    by_order Equal = refl
    by_order Greater = refl

pub named_in_order : (ns : List Named)
    → map named_tree (all_put bytes_cmp (λ (n : Named). (out-Action n.action.now).name) ns) ≡ by_name (map named_tree ns)
named_in_order [] = refl
named_in_order (n ∷ ns) =
    put_as n (all_put bytes_cmp (λ (m : Named). (out-Action m.action.now).name) ns)
    ∙ ap (put_key bytes_cmp action_name (named_tree n)) (named_in_order ns)

-- ---- the result of a container whose actions are known

some_is : (xs ys : List ActionTree) → Some xs ≡ Some ys → xs ≡ ys
some_is xs ys e = cc

pub result_given : (d : DefTree) (loops at : List ℕ) (known : Table Row) (a : ActionTree) (level : Option (List ActionTree))
    (ns : List ActionTree) → first_level (action_kind a) ≡ level → Some ns ≡ option_map by_name level
    → result_of d loops at known a ns ≡ result_by_loops d loops at known (Some a)
result_given d loops at known a None ns level is = cc
result_given d loops at known a (Some acts) ns level is =
    let round = loops_of (graph_of d) (action_number a) in
    ap (result_of d loops at known a) (some_is ns (by_name acts) is)
    ∙ sym (ap (option_and_then (λ (inner : List ActionTree). option_map (result_in known inner)
    (spots_by d (take (common round loops) at) (beyond round loops ++ own_loop a) known))) level)
