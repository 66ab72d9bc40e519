-- All rows of a meaning, from what is known of an accepted definition.
use Rattle.std.proofs.Common.{◌≡◌, ℕ, true, List, [], map, Option, Some, None, option_map, refl, sym, ap, ◌∙◌, subst, true≢false}
use Rattle.std.specs.Prelude.{◌↔◌, bytes_eq}
use Rattle.std.specs.List.{list_any}
use Rattle.wf_layers.specs.Address.{Address, Table}
use Rattle.wf_layers.specs.Definition.{Kind, Turns, has, kind_of}
use Rattle.wf_layers.specs.Laws.{IsInstance}
use Rattle.wf_layers.specs.Shape.{ReadsBack}
use Rattle.wf_layers.proofs.Instances.{rows_at_instances}
use Rattle.wf_layers.proofs.Meaning.{meaning_solves}
use Rattle.wf_ways.proofs.WayLemmas.{kinded}
use Rattle.wf_def.specs.ActionTree.{ActionTree, InitialTree, action_kind}
use Rattle.wf_def.specs.AllActions.{all_actions, numbered}
use Rattle.wf_def.specs.DefTree.{DefTree}
use Rattle.wf_def.specs.Layered.{layered_kind}
use Rattle.wf_first.specs.First.{first_broken}
use Rattle.wf_order.specs.Order.{Before}
use Rattle.wf_shaped.specs.UsesTree.{ordered}
use Rattle.wf_meant_laws.specs.Standing.{StandingTree, number_at, standings_of}
use Rattle.wf_meant_laws.specs.Whole.{whole_of}
use Rattle.wf_meant_laws.specs.Rule.{Rule}
use Rattle.wf_meant_laws.specs.Broken.{broken_of, offences, rules_in_order}
use Rattle.wf_record.specs.Record.{Row}
use Rattle.wf_shaped.specs.Environment.{Environment}
use Rattle.wf_shaped.specs.Points.{graph_of}
use Rattle.wf_shaped.specs.Record.{depth_of}
use Rattle.wf_shaped.specs.Source.{source, table_of}
use Rattle.wf_shaped.specs.Sorts.{initials_of, sort_of}
use Rattle.wf_shaped.specs.Reading.{reading}
use Rattle.wf_shaped.proofs.ExactLemmas.{AreKnown}
use Rattle.wf_shaped.proofs.ListLemmas.{In, in_map}
use Rattle.wf_prepare.proofs.ComeLemmas.{row_came}
use Rattle.wf_prepare.proofs.FailingLemmas.{no_action, numbered_is}
use Rattle.wf_prepare.proofs.HoldLemmas.{all_hold}
use Rattle.wf_prepare.proofs.InitialLemmas.{IsOrdered}
use Rattle.wf_prepare.proofs.KeptLemmas.{says_in}
use Rattle.wf_prepare.proofs.MeantLemmas.{row_says}
use Rattle.wf_prepare.proofs.TellLemmas.{IsFound, same_name}
use Rattle.wf_prepare.proofs.TypedLemmas.{KeepTypes, is_written, keeps_types}

none_mapped : {X Y : Type 0} (f : X → Y) (o : Option X) → option_map f o ≡ None → o ≡ None
none_mapped f None is = refl
none_mapped f (Some x) is = absurd (cc)

pub none_broken : (d : DefTree) → broken_of d ≡ None → first_broken (offences d) rules_in_order ≡ None
none_broken d none = none_mapped _ (first_broken (offences d) rules_in_order) none

module _ (d : DefTree) (known : AreKnown d) where
  -- ---- the order of the initialisers

  standing_is : map (λ s. s.action) (standings_of d.top) ≡ all_actions d.top → (s : StandingTree) → In s (standings_of d.top)
      → numbered (number_at s) d.top ≡ Some s.action
  standing_is actions s there =
      numbered_is d known s.action
      (subst (λ (as' : List ActionTree). In s.action as') actions
      (in_map (λ (q : StandingTree). q.action) s (standings_of d.top) there))

  standing_has : map (λ s. s.action) (standings_of d.top) ≡ all_actions d.top → (s : StandingTree) → In s (standings_of d.top)
      → has (graph_of d) (number_at s) ≡ true
  standing_has actions s there =
      kinded (graph_of d) (number_at s) (layered_kind (action_kind s.action))
      (known.kinds (number_at s)
      ∙ ap (option_map (λ (a : ActionTree). layered_kind (action_kind a))) (standing_is actions s there))

  pub is_ordered : ((k : List ℕ) (ks : List (List ℕ)) → list_any (bytes_eq k) (ordered ks) ≡ list_any (bytes_eq k) ks)
      → map (λ s. s.action) (standings_of d.top) ≡ all_actions d.top → offences d Rule.Variables ≡ [] → offences d Rule.Initialised ≡ []
      → ((x y : ℕ) → has (graph_of d) x ≡ true → has (graph_of d) y ≡ true
      → ((whole_of d).before x y ≡ true) ↔ Before (graph_of d) x y)
      → ((x y : ℕ) → Before (graph_of d) x y → Before (graph_of d) y x → ⊥) → IsOrdered d
  is_ordered uses actions variables initialised exact never = record {
    names = same_name;
    uses = uses;
    numbers = standing_is actions;
    actions = actions;
    variables = variables;
    initialised = initialised;
    never_both = λ s t one other before after.
        let here = standing_has actions s one in
        let there = standing_has actions t other in
        never (number_at s) (number_at t) ((exact (number_at s) (number_at t) here there).0 before)
        ((exact (number_at t) (number_at s) there here).0 after);
  }

  -- ---- each row

  has_kind : (n : ℕ) → has (graph_of d) n ≡ true → (k : Kind) × (kind_of (graph_of d) n ≡ Some k)
  has_kind n there = at (numbered n d.top) refl
    where
      at : (o : Option ActionTree) → numbered n d.top ≡ o → (k : Kind) × (kind_of (graph_of d) n ≡ Some k)
      at None is = absurd (true≢false (sym there ∙ no_action d known n is))
      at (Some a) is = (
        layered_kind (action_kind a),
        known.kinds n ∙ ap (option_map (λ (b : ActionTree). layered_kind (action_kind b))) is,
      )

  module _ (e : Environment) (instance' : IsInstance (graph_of d) (source d e) (depth_of d)) (turns : Turns (graph_of d))
      (back : ReadsBack (graph_of d) (source d e) (table_of d e (depth_of d)) (reading d)) (keep : KeepTypes) (found : IsFound)
      (sorts : (a : ActionTree) (i : InitialTree) → In a (all_actions d.top) → In i (initials_of (action_kind a)) → (k : List ℕ)
      → bytes_eq k i.name ≡ true → sort_of d k ≡ Some i.sort) where
    abbrev t : Table Row
    t = table_of d e (depth_of d)

    pub row_there : (y : Address) (row : Row) → t y ≡ Some row → has (graph_of d) y.name ≡ true
    row_there y row there =
        (rows_at_instances (graph_of d) (source d e) (depth_of d) instance'.falls instance'.local instance'.own y row there).0

    -- THE LEMMA
    pub each_meant_says : (y : Address) (row : Row) → t y ≡ Some row → says_in d y.name row ≡ true
    each_meant_says y row there = at (numbered y.name d.top) refl
      where
        at : (o : Option ActionTree) → numbered y.name d.top ≡ o → says_in d y.name row ≡ true
        at None is = absurd (true≢false (sym (row_there y row there) ∙ no_action d known y.name is))
        at (Some a) is =
            row_says d e t turns back known.kinds instance'.own y row a is
            (all_hold (source d e) (is_written d) (graph_of d) (depth_of d) instance'.falls instance'.local instance'.own known.once
            has_kind (keeps_types d e keep found sorts known.numbers known.kinds) y row there)
            (row_came (source d e) t instance'.own y row (graph_of d) (layered_kind (action_kind a)) known.once
            (meaning_solves (source d e) (depth_of d) (graph_of d) instance'.falls instance'.local) (row_there y row there)
            (known.kinds y.name ∙ ap (option_map (λ (b : ActionTree). layered_kind (action_kind b))) is) there)
