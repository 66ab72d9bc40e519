-- The names of what is redone and of what is kept are those of the actions of which the relations of the order say so.
use Rattle.std.proofs.Common.{◌≡◌, ◌↔◌, ℕ, Bool, true, List, [], ◌∷◌, Some, sym, ap, ◌∙◌, true≢false}
use Rattle.std.specs.List.{AllByRecursion}
use Rattle.wf_layers.specs.Definition.{Closed, IsDepth, has}
use Rattle.wf_layers.specs.Redo.{IsRedo, closed_again, redone}
use Rattle.wf_layers.specs.Resubmission.{kept}
use Rattle.wf_layers.specs.Seen.{Once}
use Rattle.wf_layers.proofs.Basics.{not_true}
use Rattle.wf_layers.proofs.Redone.{a_set_has_its_parts}
use Rattle.wf_layers.proofs.Resubmission.{is_kept, kept_not, kept_other}
use Rattle.wf_def.specs.ActionTree.{ActionTree, action_name, action_number}
use Rattle.wf_def.specs.AllActions.{all_actions, numbered}
use Rattle.wf_def.specs.DefTree.{DefTree}
use Rattle.wf_order.specs.Order.{Contains}
use Rattle.wf_redo.specs.Redoes.{ASetRedoes, RedoesExactly, RedoneWithOne}
use Rattle.wf_resubmit.specs.Chosen.{MayBeRedone}
use Rattle.wf_meant_laws.proofs.CloseLemmas.{held_all}
use Rattle.wf_turns.specs.Points.{action_named, graph_of}
use Rattle.wf_turns.specs.Record.{depth_of}
use Rattle.wf_turns.specs.Resubmitted.{is_chosen}
use Rattle.wf_anew.specs.Layer.{NamesWhatIsRedone, if_found, kept_names, redone_names}
use Rattle.wf_anew.specs.Known.{AreNamed}
use Rattle.wf_anew.proofs.NameLemmas.{named_is}

module _ (d : DefTree) (names : AreNamed d) (once : Once (graph_of d)) (closed : Closed (graph_of d) (graph_of d))
    (falls : IsDepth (graph_of d) (depth_of d)) (from : List ℕ) (may : MayBeRedone (graph_of d) from)
    (redoes : (chosen redo again : ℕ → Bool) → ASetRedoes (graph_of d) chosen redo again) where
  abbrev redo : ℕ → Bool
  redo = redone (graph_of d) (depth_of d) (is_chosen from)

  abbrev again : ℕ → Bool
  again = closed_again (graph_of d) (depth_of d) (is_chosen from)

  parts : IsRedo (graph_of d) (is_chosen from) redo again
  parts = a_set_has_its_parts (graph_of d) (depth_of d) (is_chosen from) falls once closed may.out_of_loops

  exact : RedoesExactly (graph_of d) (is_chosen from) redo again
  exact = redoes (is_chosen from) redo again once closed may.present parts

  abbrev IsNumbered : ActionTree → Type 0
  IsNumbered a = numbered (action_number a) d.top ≡ Some a

  abbrev IsHad : ActionTree → Type 0
  IsHad a = has (graph_of d) (action_number a) ≡ true

  abbrev None' : ActionTree → Type 0
  None' a = (n : ℕ) → is_chosen from n ≡ true → Contains (graph_of d) (action_number a) n → ⊥

  by_name : (holds : ℕ → Bool) (a : ActionTree) → IsNumbered a
      → if_found holds (action_named d (action_name a)) ≡ holds (action_number a)
  by_name holds a is = ap (if_found holds) (named_is d names (action_number a) a is)

  redone_one : (a : ActionTree) → IsNumbered a → IsHad a
      → (redone_names d from (action_name a) ≡ true) ↔ RedoneWithOne (graph_of d) (is_chosen from) (action_number a)
  redone_one a is there = (
    λ yes'. (exact.redone (action_number a) there).0 (sym (by_name redo a is) ∙ yes'),
    λ one. by_name redo a is ∙ (exact.redone (action_number a) there).1 one,
  )

  kept_one : (a : ActionTree) → IsNumbered a → IsHad a → (kept_names d from (action_name a) ≡ true)
      ↔ ((RedoneWithOne (graph_of d) (is_chosen from) (action_number a) → ⊥) × None' a)
  kept_one a is there = (
    λ yes'.
        let k : kept redo again (action_number a) ≡ true = sym (by_name (kept redo again) a is) ∙ yes' in
        let new = kept_not (redo (action_number a)) (again (action_number a)) k in (
          λ one. true≢false (sym ((exact.redone (action_number a) there).1 one) ∙ new),
          λ n chosen held.
              true≢false (sym ((exact.closed_again (action_number a) there).1 (new, (n, chosen, held)))
              ∙ kept_other (redo (action_number a)) (again (action_number a)) k),
        ),
    λ none.
        by_name (kept redo again) a is
        ∙ is_kept (redo (action_number a)) (again (action_number a))
        (not_true (redo (action_number a)) (λ yes'. none.0 ((exact.redone (action_number a) there).0 yes')))
        (not_true (again (action_number a)) (λ yes'.
        let held = ((exact.closed_again (action_number a) there).0 yes').1 in none.1 held.0 held.1 held.2)),
  )

  each : {P : ActionTree → Type 0} → ((a : ActionTree) → IsNumbered a → IsHad a → P a) → (as' : List ActionTree)
      → AllByRecursion IsNumbered as' → AllByRecursion IsHad as' → AllByRecursion P as'
  each h [] numbers had = tt
  each h (a ∷ as') numbers had = (h a numbers.0 had.0, each h as' numbers.1 had.1)

  -- THE LAW
  pub names_what_is_redone : NamesWhatIsRedone d from
  names_what_is_redone = record {
    redone = each redone_one (all_actions d.top) names.numbers (held_all d.top);
    kept = each kept_one (all_actions d.top) names.numbers (held_all d.top);
  }
