-- What an action asks for is what stands at its sites, and what holds of the variables read there holds of each that is asked for.
use Rattle.std.proofs.Common.{◌≡◌, ℕ, true, false, ◌||◌, List, [], ◌∷◌, ◌++◌, Option, Some, None, ◌⊎◌, inl, inr, refl, ap}
use Rattle.std.proofs.Common.{◌∙◌, subst}
use Rattle.std.specs.Prelude.{bytes_eq, option_map}
use Rattle.std.specs.BTreeSet.{insert_key}
use Rattle.std.specs.List.{AllByRecursion, list_any}
use Rattle.std.specs.Option.{option_and_then}
use Rattle.wf_val.specs.NameOrder.{bytes_cmp}
use Rattle.wf_val.specs.declared.function.Fun.{Fun}
use Rattle.wf_template.specs.DataTree.{DataTree}
use Rattle.wf_layers.proofs.Basics.{or_first, or_second}
use Rattle.wf_meant_laws.specs.Uses.{Use, asks, asks_moment, asks_words, names}
use Rattle.wf_meant_laws.specs.EvalUses.{template_uses, tree_uses}
use Rattle.wf_def.specs.ActionTree.{ActionTree, InitialTree, KindTree, action, action_kind, append_array, append_string, branch, compose}
use Rattle.wf_def.specs.ActionTree.{connector, decrement, foreach, increment, initialize, join, parse_json, query, response, scope, select}
use Rattle.wf_def.specs.ActionTree.{set_to, switch, switch_else, terminate, until, wait}
use Rattle.wf_def.specs.AllActions.{numbered}
use Rattle.wf_def.specs.DefTree.{DefTree}
use Rattle.wf_meant_laws.specs.UsesTree.{ordered, uses_tree}
use Rattle.wf_meant_laws.specs.Sites as sites
use Rattle.wf_meant_laws.specs.Sites.{inputs_uses, items_uses, test_uses, uses_at_inputs, uses_at_items, uses_at_test, uses_of, writes_of}
use Rattle.wf_meant_laws.specs.Site.{Site}
use Rattle.wf_meant_laws.specs.Pairs.{reads_if, writes_if}
use Rattle.wf_meant_laws.specs.AcceptedLawsVariables.{ReadsIt, WritesIt}
use Rattle.wf_meant_laws.specs.DoneUses as done
use Rattle.wf_meant_laws.specs.DoneUses.{beneath, kind_uses}
use Rattle.wf_meant_laws.specs.OpeningUses.{opening_uses}
use Rattle.wf_sight.specs.Found.{WhereVariable}
use Rattle.wf_sight_laws.proofs.NumberLemmas.{any_back, any_front, own_name}

-- ---- the variables that are asked for

abbrev variable_name : Use → List (List ℕ)
variable_name (names Fun.Variables k) = k ∷ []
variable_name asked = []

abbrev pub variables_named : List Use → List (List ℕ)
variables_named [] = []
variables_named (asked ∷ us) = variable_name asked ++ variables_named us

pub reads_are : (writes : List (List ℕ)) (us : List Use) → (uses_tree writes us).reads ≡ ordered (variables_named us)
reads_are writes [] = refl
reads_are writes (names Fun.Variables k ∷ us) = ap (λ (ks : List (List ℕ)). insert_key bytes_cmp ks k) (reads_are writes us)
reads_are writes (names f k ∷ us) = reads_are writes us
reads_are writes (asks f ∷ us) = reads_are writes us
reads_are writes (asks_moment ∷ us) = reads_are writes us
reads_are writes (asks_words ∷ us) = reads_are writes us

-- P holds of each variable that is asked for
module _ (P : List ℕ → Type 0) where
  abbrev pub AllHold : List Use → Type 0
  AllHold us = AllByRecursion (WhereVariable P) us

  joined : (us vs : List Use) → AllHold us → AllHold vs → AllHold (us ++ vs)
  joined [] vs one other = other
  joined (asked ∷ us) vs one other = (one.0, joined us vs one.1 other)

  under : (us : List Use) → AllHold us → AllHold (beneath us)
  under [] all = tt
  under (asks Fun.Item ∷ us) all = under us all.1
  under (names f k ∷ us) all = (all.0, under us all.1)
  under (asks f ∷ us) all = (all.0, under us all.1)
  under (asks_moment ∷ us) all = (all.0, under us all.1)
  under (asks_words ∷ us) all = (all.0, under us all.1)

  abbrev OfNames : List (List ℕ) → Type 0
  OfNames ks = (k : List ℕ) → list_any (bytes_eq k) ks ≡ true → P k

  one_holds : (asked : Use) → OfNames (variable_name asked) → WhereVariable P asked
  one_holds (names Fun.Variables k) of = of k (or_first (bytes_eq k k) false (own_name k))
  one_holds (names f k) of = tt
  one_holds (asks f) of = tt
  one_holds asks_moment of = tt
  one_holds asks_words of = tt

  pub all_hold : (us : List Use) → OfNames (variables_named us) → AllHold us
  all_hold [] of = tt
  all_hold (asked ∷ us) of = (
    one_holds asked (λ k is. of k (any_front k (variable_name asked) (variables_named us) is)),
    all_hold us (λ k is. of k (any_back k (variable_name asked) (variables_named us) is)),
  )

-- ---- what an action asks for as it starts or opens is what stands at its sites

value_uses_are : (o : Option DataTree) → sites.value_uses o ≡ done.if_there o
value_uses_are None = refl
value_uses_are (Some t) = refl

initials_uses_are : (is : List InitialTree) → sites.initials_uses is ≡ done.initials_uses is
initials_uses_are [] = refl
initials_uses_are (i ∷ is) = λ k. value_uses_are i.value k ++ initials_uses_are is k

module _ (P : List ℕ → Type 0) where
  abbrev IfHold : Option (List Use) → Type 0
  IfHold None = Unit {0}
  IfHold (Some us) = AllHold P us

  one_name : (k : List ℕ) → OfNames P (k ∷ []) → P k
  one_name k of = of k (or_first (bytes_eq k k) false (own_name k))

  with_variable : (k : List ℕ) (us : List Use) → OfNames P (k ∷ []) → AllHold P us → AllHold P (done.with_variable k us)
  with_variable k us of all = joined P us (names Fun.Variables k ∷ []) all (one_name k of, tt)

  starts_hold : (kind : KindTree) → OfNames P (writes_of kind) → AllHold P (inputs_uses kind) → IfHold (items_uses kind)
      → AllHold P (kind_uses kind)
  starts_hold (compose inputs) own all items = all
  starts_hold (connector inputs policy) own all items = all
  starts_hold (wait inputs) own all items = all
  starts_hold (response inputs) own all items = all
  starts_hold (terminate inputs) own all items = all
  starts_hold (select from item) own all items = joined P (tree_uses from) (beneath (tree_uses item)) all (under P (tree_uses item) items)
  starts_hold (query from filter) own all items =
      joined P (tree_uses from) (beneath (template_uses filter)) all (under P (template_uses filter) items)
  starts_hold (join from with') own all items = all
  starts_hold (parse_json content schema) own all items = all
  starts_hold (initialize variables) own all items = subst (AllHold P) (initials_uses_are variables) all
  starts_hold (set_to name value) own all items = with_variable name (tree_uses value) own all
  starts_hold (increment name value) own all items =
      with_variable name (done.if_there value) own (subst (AllHold P) (value_uses_are value) all)
  starts_hold (decrement name value) own all items =
      with_variable name (done.if_there value) own (subst (AllHold P) (value_uses_are value) all)
  starts_hold (append_array name value) own all items = with_variable name (tree_uses value) own all
  starts_hold (append_string name value) own all items = with_variable name (tree_uses value) own all
  starts_hold (scope graph) own all items = tt
  starts_hold (branch test yes' no') own all items = tt
  starts_hold (switch on cases) own all items = tt
  starts_hold (switch_else on cases default) own all items = tt
  starts_hold (foreach items' repetitions graph) own all items = tt
  starts_hold (until test count fails graph) own all items = tt

  opening_holds : (kind : KindTree) → AllHold P (inputs_uses kind) → AllHold P (opening_uses kind)
  opening_holds (branch test yes' no') all = all
  opening_holds (switch on cases) all = all
  opening_holds (switch_else on cases default) all = all
  opening_holds (foreach items repetitions graph) all = all
  opening_holds (compose inputs) all = tt
  opening_holds (connector inputs policy) all = tt
  opening_holds (wait inputs) all = tt
  opening_holds (response inputs) all = tt
  opening_holds (terminate inputs) all = tt
  opening_holds (select from item) all = tt
  opening_holds (query from filter) all = tt
  opening_holds (join from with') all = tt
  opening_holds (parse_json content schema) all = tt
  opening_holds (initialize variables) all = tt
  opening_holds (set_to name value) all = tt
  opening_holds (increment name value) all = tt
  opening_holds (decrement name value) all = tt
  opening_holds (append_array name value) all = tt
  opening_holds (append_string name value) all = tt
  opening_holds (scope graph) all = tt
  opening_holds (until test count fails graph) all = tt

-- ---- and what stands there is what the rules speak of

module _ (same : (k : List ℕ) (ks : List (List ℕ)) → list_any (bytes_eq k) (ordered ks) ≡ list_any (bytes_eq k) ks) where
  pub tree_reads : (writes : List (List ℕ)) (us : List Use) (k : List ℕ) → list_any (bytes_eq k) (variables_named us) ≡ true
      → list_any (bytes_eq k) (uses_tree writes us).reads ≡ true
  tree_reads writes us k is = ap (list_any (bytes_eq k)) (reads_are writes us) ∙ (same k (variables_named us) ∙ is)

  inputs_read : (a : ActionTree) (k : List ℕ) → list_any (bytes_eq k) (variables_named (inputs_uses (action_kind a))) ≡ true
      → reads_if (Some (uses_at_inputs a)) k ≡ true
  inputs_read (action name number pointer after kind tracked) k is = tree_reads (writes_of kind) (inputs_uses kind) k is

  inputs_write : (a : ActionTree) (k : List ℕ) → list_any (bytes_eq k) (writes_of (action_kind a)) ≡ true
      → list_any (bytes_eq k) (writes_if (Some (uses_at_inputs a))) ≡ true
  inputs_write (action name number pointer after kind tracked) k is = same k (writes_of kind) ∙ is

  if_read : (o : Option (List Use)) (us : List Use) (k : List ℕ) → o ≡ Some us → list_any (bytes_eq k) (variables_named us) ≡ true
      → reads_if (option_map (uses_tree []) o) k ≡ true
  if_read o us k some is =
      ap (λ (q : Option (List Use)). reads_if (option_map (uses_tree []) q) k) some ∙ tree_reads [] us k is

  items_read : (a : ActionTree) (us : List Use) (k : List ℕ) → items_uses (action_kind a) ≡ Some us
      → list_any (bytes_eq k) (variables_named us) ≡ true → reads_if (uses_at_items a) k ≡ true
  items_read (action name number pointer after kind tracked) us k some is = if_read (items_uses kind) us k some is

  test_read : (a : ActionTree) (us : List Use) (k : List ℕ) → test_uses (action_kind a) ≡ Some us
      → list_any (bytes_eq k) (variables_named us) ≡ true → reads_if (uses_at_test a) k ≡ true
  test_read (action name number pointer after kind tracked) us k some is = if_read (test_uses kind) us k some is

  module _ (d : DefTree) (n : ℕ) (a : ActionTree) (found : numbered n d.top ≡ Some a) where
    reads_inputs : (k : List ℕ) → list_any (bytes_eq k) (variables_named (inputs_uses (action_kind a))) ≡ true → ReadsIt d k n
    reads_inputs k is =
        or_first (reads_if (uses_of d (Site.Inputs n)) k)
        (reads_if (uses_of d (Site.Items n)) k || reads_if (uses_of d (Site.Test n)) k)
        (ap (λ (o : Option ActionTree). reads_if (option_map uses_at_inputs o) k) found ∙ inputs_read a k is)

    reads_items : (us : List Use) (k : List ℕ) → items_uses (action_kind a) ≡ Some us
        → list_any (bytes_eq k) (variables_named us) ≡ true → ReadsIt d k n
    reads_items us k some is =
        or_second (reads_if (uses_of d (Site.Inputs n)) k)
        (reads_if (uses_of d (Site.Items n)) k || reads_if (uses_of d (Site.Test n)) k)
        (or_first (reads_if (uses_of d (Site.Items n)) k) (reads_if (uses_of d (Site.Test n)) k)
        (ap (λ (o : Option ActionTree). reads_if (option_and_then uses_at_items o) k) found ∙ items_read a us k some is))

    reads_test : (us : List Use) (k : List ℕ) → test_uses (action_kind a) ≡ Some us
        → list_any (bytes_eq k) (variables_named us) ≡ true → ReadsIt d k n
    reads_test us k some is =
        or_second (reads_if (uses_of d (Site.Inputs n)) k)
        (reads_if (uses_of d (Site.Items n)) k || reads_if (uses_of d (Site.Test n)) k)
        (or_second (reads_if (uses_of d (Site.Items n)) k) (reads_if (uses_of d (Site.Test n)) k)
        (ap (λ (o : Option ActionTree). reads_if (option_and_then uses_at_test o) k) found ∙ test_read a us k some is))

    writes_own : (k : List ℕ) → list_any (bytes_eq k) (writes_of (action_kind a)) ≡ true → WritesIt d k n
    writes_own k is =
        ap (λ (o : Option ActionTree). list_any (bytes_eq k) (writes_if (option_map uses_at_inputs o))) found ∙ inputs_write a k is

    -- where P holds of all that the action reads or writes, it holds of all that it asks for
    module _ (P : List ℕ → Type 0) (all : (k : List ℕ) → ReadsIt d k n ⊎ WritesIt d k n → P k) where
      at_inputs : AllHold P (inputs_uses (action_kind a))
      at_inputs = all_hold P (inputs_uses (action_kind a)) (λ k is. all k (inl (reads_inputs k is)))

      at_items : (o : Option (List Use)) → items_uses (action_kind a) ≡ o → IfHold P o
      at_items None none = tt
      at_items (Some us) some = all_hold P us (λ k is. all k (inl (reads_items us k some is)))

      pub at_start : AllHold P (kind_uses (action_kind a))
      at_start =
          starts_hold P (action_kind a) (λ k is. all k (inr (writes_own k is))) at_inputs (at_items (items_uses (action_kind a)) refl)

      pub at_opening : AllHold P (opening_uses (action_kind a))
      at_opening = opening_holds P (action_kind a) at_inputs

      pub at_test : (us : List Use) → test_uses (action_kind a) ≡ Some us → AllHold P us
      at_test us some = all_hold P us (λ k is. all k (inl (reads_test us k some is)))
