-- What the rules on names say of each site of an action is what the meaning asks of its points.
use Rattle.std.proofs.Common.{◌≡◌, ℕ, Bool, true, false, ◌||◌, List, [], ◌∷◌, ◌++◌, map, Option, Some, None, inl, inr, refl, sym, ap, ◌∙◌}
use Rattle.std.proofs.Common.{subst}
use Rattle.std.proofs.Common.{eqb-true, option_map, true≢false}
use Rattle.std.specs.Prelude.{bytes_eq}
use Rattle.std.specs.List.{AllByRecursion, find, list_any}
use Rattle.std.specs.Option.{option_and_then}
use Rattle.wf_template.specs.DataTree.{DataTree, data_members}
use Rattle.wf_layers.specs.Definition.{Kind, holds, kind_of}
use Rattle.wf_layers.proofs.Basics.{two, or_first, or_second, when, unless}
use Rattle.wf_meant.specs.Uses.{Use, names}
use Rattle.wf_val.specs.declared.function.Fun.{Fun}
use Rattle.wf_meant.specs.EvalUses.{members_uses, template_uses, tree_uses}
use Rattle.wf_meant.specs.ActionTree.{ActionTree, action, action_kind, action_number, InitialTree, KindTree, compose, connector, wait}
use Rattle.wf_meant.specs.ActionTree.{response}
use Rattle.wf_meant.specs.ActionTree.{terminate, select, query, join, parse_json, initialize, set_to, increment, decrement, append_array}
use Rattle.wf_meant.specs.ActionTree.{append_string, scope, branch, switch, switch_else, foreach, until}
use Rattle.wf_meant.specs.AllActions.{all_actions, has_number, numbered}
use Rattle.wf_meant.specs.DefTree.{DefTree}
use Rattle.wf_meant.specs.Layered.{layered_kind}
use Rattle.wf_accepted_laws.specs.Order.{Contains}
use Rattle.wf_meant.specs.UsesTree.{UsesTree, ordered, uses_tree}
use Rattle.wf_meant.specs.Sites as sites
use Rattle.wf_meant.specs.Sites.{inputs_uses, items_uses, test_uses, uses_at_inputs, uses_at_items, uses_at_test, uses_at_tracked, uses_of}
use Rattle.wf_meant.specs.Sites.{writes_of}
use Rattle.wf_meant.specs.Site.{Site}
use Rattle.wf_accepted_laws.specs.Inside.{is_test}
use Rattle.wf_accepted_laws.specs.Standing.{StandingTree, kind_at, number_at, standings_of}
use Rattle.wf_accepted_laws.specs.Whole.{has_name}
use Rattle.wf_accepted_laws.specs.Instances.{InstancesAreSeen, IsSeenAt, MayLookAt, Sees}
use Rattle.wf_accepted_laws.specs.Seen.{IsNamedAt, IsSiteOf, at_inputs, at_items, at_test, at_tracked}
use Rattle.wf_meant.specs.DoneUses as done
use Rattle.wf_meant.specs.DoneUses.{beneath, kind_uses}
use Rattle.wf_meant.specs.OpeningUses.{opening_uses}
use Rattle.wf_meant.specs.Points.{action_named, graph_of, held_by, is_inside}
use Rattle.wf_meant.specs.Source.{tracked_of}
use Rattle.wf_instance.proofs.KindLemmas.{HasKind}
use Rattle.wf_instance.proofs.LookLemmas.{AllRead, ReadsResult, ReadsRow}
use Rattle.wf_instance.proofs.NamedLemmas.{AllNamed, all_named, named_beneath, named_is, named_joined, results_are, results_named, rows_are}
use Rattle.wf_instance.proofs.NamedLemmas.{rows_named}
use Rattle.wf_instance.proofs.TestLemmas as at_tests

-- ---- lists

found_all : {X : Type 0} (P : X → Type 0) (test : X → Bool) (xs : List X) (x : X) → AllByRecursion P xs → find test xs ≡ Some x → P x
found_all P test [] x all is = absurd (cc)
found_all P test (y ∷ ys) x all is = elim (two (test y)) [
  | inl t ↦
      let same : Some y ≡ Some x = sym (when (test y) (Some y) (find test ys) t) ∙ is in
      let it : y ≡ x = cc in
      subst P it all.0
  | inr f ↦ found_all P test ys x all.1 (sym (unless (test y) (Some y) (find test ys) f) ∙ is)
]

all_unmapped : {X Y : Type 0} (P : Y → Type 0) (f : X → Y) (xs : List X) → AllByRecursion P (map f xs) → AllByRecursion (λ x. P (f x)) xs
all_unmapped P f [] all = tt
all_unmapped P f (x ∷ xs) all = (all.0, all_unmapped P f xs all.1)

-- the number by which an action is found is its own
found_number : (n : ℕ) (as' : List ActionTree) (a : ActionTree) → find (has_number n) as' ≡ Some a → n ≡ action_number a
found_number n [] a is = absurd (cc)
found_number n (b ∷ as') a is = elim (two (has_number n b)) [
  | inl t ↦
      let same : Some b ≡ Some a = sym (when (has_number n b) (Some b) (find (has_number n) as') t) ∙ is in
      let it : b ≡ a = cc in
      eqb-true n (action_number b) t ∙ ap action_number it
  | inr f ↦ found_number n as' a (sym (unless (has_number n b) (Some b) (find (has_number n) as') f) ∙ is)
]

-- an action that is found stands somewhere
record Stands (P : StandingTree → Type 0) (a : ActionTree) : Type 0 where
  standing : StandingTree
  is : standing.action ≡ a
  holds_of : P standing

stands_of : (P : StandingTree → Type 0) (n : ℕ) (ss : List StandingTree) (a : ActionTree) → AllByRecursion P ss
    → find (has_number n) (map (λ s. s.action) ss) ≡ Some a → Stands P a
stands_of P n [] a all is = absurd (cc)
stands_of P n (s ∷ ss) a all is = elim (two (has_number n s.action)) [
  | inl t ↦
      let same : Some s.action ≡ Some a = sym (when (has_number n s.action) (Some s.action)
      (find (has_number n) (map (λ q. q.action) ss)) t) ∙ is in
      record { standing = s; is = cc; holds_of = all.0 }
  | inr f ↦ stands_of P n ss a all.1 (sym (unless (has_number n s.action) (Some s.action) (find (has_number n) (map (λ q. q.action) ss)) f)
      ∙ is)
]

-- ---- the uses at the sites of an action

inputs_there : (a : ActionTree) → uses_at_inputs a ≡ uses_tree (writes_of (action_kind a)) (inputs_uses (action_kind a))
inputs_there (action name number pointer after kind tracked) = refl

tracked_there : (a : ActionTree) → uses_at_tracked a ≡ uses_tree [] (members_uses (data_members (tracked_of a)))
tracked_there (action name number pointer after kind tracked) = refl

items_there : (a : ActionTree) (us : List Use) → items_uses (action_kind a) ≡ Some us → uses_at_items a ≡ Some (uses_tree [] us)
items_there (action name number pointer after kind tracked) us is = ap (option_map (uses_tree [])) is

test_there : (a : ActionTree) (us : List Use) → test_uses (action_kind a) ≡ Some us → uses_at_test a ≡ Some (uses_tree [] us)
test_there (action name number pointer after kind tracked) us is = ap (option_map (uses_tree [])) is

-- ---- what an action asks for as it starts or opens is what stands at its sites

value_uses_are : (o : Option DataTree) → sites.value_uses o ≡ done.if_there o
value_uses_are None = refl
value_uses_are (Some t) = refl

initials_uses_are : (is : List InitialTree) → sites.initials_uses is ≡ done.initials_uses is
initials_uses_are [] = refl
initials_uses_are (i ∷ is) = λ k. value_uses_are i.value k ++ initials_uses_are is k

module _ (d : DefTree) (n : ℕ) where
  abbrev IfRead : Option (List Use) → Type 0
  IfRead None = Unit {0}
  IfRead (Some us) = AllRead d n us

  with_variable_read : (name : List ℕ) (us : List Use) → AllRead d n us → AllRead d n (done.with_variable name us)
  with_variable_read name us read =
      named_joined d (ReadsRow d n) (ReadsResult d n) us (names Fun.Variables name ∷ []) read (tt, tt)

  beneath_read : (us vs : List Use) → AllRead d n us → AllRead d n vs → AllRead d n (us ++ beneath vs)
  beneath_read us vs one other =
      named_joined d (ReadsRow d n) (ReadsResult d n) us (beneath vs) one (named_beneath d (ReadsRow d n) (ReadsResult d n) vs other)

  starts_read : (kind : KindTree) → AllRead d n (inputs_uses kind) → IfRead (items_uses kind) → AllRead d n (kind_uses kind)
  starts_read (compose inputs) read items = read
  starts_read (connector inputs policy) read items = read
  starts_read (wait inputs) read items = read
  starts_read (response inputs) read items = read
  starts_read (terminate inputs) read items = read
  starts_read (select from item) read items = beneath_read (tree_uses from) (tree_uses item) read items
  starts_read (query from filter) read items = beneath_read (tree_uses from) (template_uses filter) read items
  starts_read (join from with') read items = read
  starts_read (parse_json content schema) read items = read
  starts_read (initialize variables) read items = subst (AllRead d n) (initials_uses_are variables) read
  starts_read (set_to name value) read items = with_variable_read name (tree_uses value) read
  starts_read (increment name value) read items =
      with_variable_read name (done.if_there value) (subst (AllRead d n) (value_uses_are value) read)
  starts_read (decrement name value) read items =
      with_variable_read name (done.if_there value) (subst (AllRead d n) (value_uses_are value) read)
  starts_read (append_array name value) read items = with_variable_read name (tree_uses value) read
  starts_read (append_string name value) read items = with_variable_read name (tree_uses value) read
  starts_read (scope graph) read items = tt
  starts_read (branch test yes' no') read items = tt
  starts_read (switch on cases) read items = tt
  starts_read (switch_else on cases default) read items = tt
  starts_read (foreach items' repetitions graph) read items = tt
  starts_read (until test count fails graph) read items = tt

  opening_read : (kind : KindTree) → AllRead d n (inputs_uses kind) → AllRead d n (opening_uses kind)
  opening_read (branch test yes' no') read = read
  opening_read (switch on cases) read = read
  opening_read (switch_else on cases default) read = read
  opening_read (foreach items repetitions graph) read = read
  opening_read (compose inputs) read = tt
  opening_read (connector inputs policy) read = tt
  opening_read (wait inputs) read = tt
  opening_read (response inputs) read = tt
  opening_read (terminate inputs) read = tt
  opening_read (select from item) read = tt
  opening_read (query from filter) read = tt
  opening_read (join from with') read = tt
  opening_read (parse_json content schema) read = tt
  opening_read (initialize variables) read = tt
  opening_read (set_to name value) read = tt
  opening_read (increment name value) read = tt
  opening_read (decrement name value) read = tt
  opening_read (append_array name value) read = tt
  opening_read (append_string name value) read = tt
  opening_read (scope graph) read = tt
  opening_read (until test count fails graph) read = tt

-- ---- the rules' words

abbrev SeenAtSites : DefTree → StandingTree → Type 0
SeenAtSites d s = (site : Site) → IsSiteOf s site → (k : List ℕ) → IsNamedAt d site k → IsSeenAt d s site k

module _ (d : DefTree)
    (same : (k : List ℕ) (ks : List (List ℕ)) → list_any (bytes_eq k) (ordered ks) ≡ list_any (bytes_eq k) ks)
    (actions : map (λ s. s.action) (standings_of d.top) ≡ all_actions d.top)
    (kinds : AllByRecursion (HasKind d) (all_actions d.top))
    (inside : (n x : ℕ) (kind : Kind) → kind_of (graph_of d) n ≡ Some kind → Contains (graph_of d) n x → holds kind x ≡ true)
    (all_seen : InstancesAreSeen d) where
  kind_found : (k : List ℕ) (s : StandingTree) → find (has_name k) (standings_of d.top) ≡ Some s → HasKind d s.action
  kind_found k s is =
      found_all (λ q. HasKind d q.action) (has_name k) (standings_of d.top) s
      (all_unmapped (HasKind d) (λ q. q.action) (standings_of d.top) (subst (AllByRecursion (HasKind d)) (sym actions) kinds)) is

  named_found : (k : List ℕ) (s : StandingTree) → find (has_name k) (standings_of d.top) ≡ Some s → action_named d k ≡ Some s.action
  named_found k s is = named_is d actions k ∙ ap (option_map (λ (q : StandingTree). q.action)) is

  module _ (s : StandingTree) (seen : SeenAtSites d s) (site : Site) (of : IsSiteOf s site) (writes : List (List ℕ)) (us : List Use)
      (there : uses_of d site ≡ Some (uses_tree writes us)) where
    abbrev tree : UsesTree
    tree = uses_tree writes us

    by_row : (k : List ℕ) → list_any (bytes_eq k) (rows_named us) ≡ true → IsSeenAt d s site k
    by_row k among = seen site of k (record {
      uses = tree;
      there = there;
      named = or_first (list_any (bytes_eq k) tree.names) (list_any (bytes_eq k) tree.results)
          (ap (list_any (bytes_eq k)) (rows_are writes us) ∙ (same k (rows_named us) ∙ among));
    })

    by_result : (k : List ℕ) → list_any (bytes_eq k) (results_named us) ≡ true → IsSeenAt d s site k
    by_result k among = seen site of k (record {
      uses = tree;
      there = there;
      named = or_second (list_any (bytes_eq k) tree.names) (list_any (bytes_eq k) tree.results)
          (ap (list_any (bytes_eq k)) (results_are writes us) ∙ (same k (results_named us) ∙ among));
    })

    -- at a site that is no test
    sees_it : is_test site ≡ false → (x : ℕ) → MayLookAt (graph_of d) s site x → Sees (graph_of d) (number_at s) x
    sees_it off x (inl sees) = sees
    sees_it off x (inr inner) = absurd (true≢false (sym inner.0 ∙ off))

    pub read_there : is_test site ≡ false → AllRead d (number_at s) us
    read_there off = all_named d (ReadsRow d (number_at s)) (ReadsResult d (number_at s)) us
        (λ k among. let found = by_row k among in
        subst (ReadsRow d (number_at s)) (sym (named_found k found.standing found.named))
        (sees_it off (number_at found.standing) found.row))
        (λ k among. let found = by_result k among in
        subst (ReadsResult d (number_at s)) (sym (named_found k found.standing found.named))
        (sees_it off (number_at found.standing) found.row, kind_found k found.standing found.named))

    -- at a test, which sees the iterations of its Until, too
    sees_in_test : HasKind d s.action → (x : ℕ) → MayLookAt (graph_of d) s site x → at_tests.SeenAtTest d (number_at s) x
    sees_in_test kind x (inl sees) = inr sees
    sees_in_test kind x (inr inner) =
        inl (ap (λ (o : Option Kind). held_by o x) kind ∙ inside (number_at s) x (layered_kind (kind_at s)) kind inner.1)

    pub tested_there : HasKind d s.action → at_tests.AllRead d (number_at s) us
    tested_there kind = all_named d (at_tests.ReadsRow d (number_at s)) (at_tests.ReadsResult d (number_at s)) us
        (λ k among. let found = by_row k among in
        subst (at_tests.ReadsRow d (number_at s)) (sym (named_found k found.standing found.named))
        (sees_in_test kind (number_at found.standing) found.row))
        (λ k among. let found = by_result k among in
        subst (at_tests.ReadsResult d (number_at s)) (sym (named_found k found.standing found.named))
        (sees_in_test kind (number_at found.standing) found.row, kind_found k found.standing found.named))

  -- ---- of an action that is found by its number

  module _ (n : ℕ) (a : ActionTree) (is : numbered n d.top ≡ Some a) where
    standing : Stands (SeenAtSites d) a
    standing = stands_of (SeenAtSites d) n (standings_of d.top) a all_seen (ap (find (has_number n)) actions ∙ is)

    number_is : number_at standing.standing ≡ n
    number_is = ap action_number standing.is ∙ sym (found_number n (all_actions d.top) a is)

    found_there : numbered (number_at standing.standing) d.top ≡ Some a
    found_there = ap (λ (m : ℕ). numbered m d.top) number_is ∙ is

    read_at_inputs : AllRead d n (inputs_uses (action_kind a))
    read_at_inputs = subst (λ (m : ℕ). AllRead d m (inputs_uses (action_kind a))) number_is
        (read_there standing.standing standing.holds_of (Site.Inputs (number_at standing.standing)) at_inputs (writes_of (action_kind a))
        (inputs_uses (action_kind a))
        (ap (option_map uses_at_inputs) found_there ∙ ap (λ (u : UsesTree). Some u) (inputs_there a)) refl)

    pub reads_tracked : AllRead d n (members_uses (data_members (tracked_of a)))
    reads_tracked = subst (λ (m : ℕ). AllRead d m (members_uses (data_members (tracked_of a)))) number_is
        (read_there standing.standing standing.holds_of (Site.Tracked (number_at standing.standing)) at_tracked []
        (members_uses (data_members (tracked_of a)))
        (ap (option_map uses_at_tracked) found_there ∙ ap (λ (u : UsesTree). Some u) (tracked_there a)) refl)

    read_at_items : (o : Option (List Use)) → items_uses (action_kind a) ≡ o → IfRead d n o
    read_at_items None none = tt
    read_at_items (Some us) some = subst (λ (m : ℕ). AllRead d m us) number_is
        (read_there standing.standing standing.holds_of (Site.Items (number_at standing.standing)) at_items [] us
        (ap (option_and_then uses_at_items) found_there ∙ items_there a us some) refl)

    pub reads_opening : AllRead d n (opening_uses (action_kind a))
    reads_opening = opening_read d n (action_kind a) read_at_inputs

    pub reads_starts : AllRead d n (kind_uses (action_kind a))
    reads_starts = starts_read d n (action_kind a) read_at_inputs (read_at_items (items_uses (action_kind a)) refl)

    pub reads_test : (us : List Use) → test_uses (action_kind a) ≡ Some us → at_tests.AllRead d n us
    reads_test us some = subst (λ (m : ℕ). at_tests.AllRead d m us) number_is
        (tested_there standing.standing standing.holds_of (Site.Test (number_at standing.standing)) at_test [] us
        (ap (option_and_then uses_at_test) found_there ∙ test_there a us some)
        (subst (HasKind d) (sym standing.is) (found_all (HasKind d) (has_number n) (all_actions d.top) a kinds is)))
