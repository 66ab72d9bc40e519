-- Of a definition that breaks no rule: what the entries of `runAfter` name, and that they have depths.
use Rattle.std.proofs.Common.{◌≡◌, ℕ, suc, ◌<◌, true, false, List, [], ◌∷◌, ◌++◌, Option, Some, None, map, option_map, bytes_eq, refl, sym, ap, subst, ◌∙◌}
use Rattle.std.specs.Prelude.{◌||◌, codes}
use Rattle.std.specs.List.{AllByRecursion, list_any}
use Rattle.std.proofs.Math.Bool.{or-true}
use Rattle.wf_val.specs.Get.{get, name_of, value_of}
use Rattle.wf_val.specs.NameOrder.{IsInNameOrder}
use Rattle.wf_val.specs.ValueTree.{ValueTree, null, boolean, number, text, list, object, MemberTrees, no_members, member_then, Member, pairs}
use Rattle.wf_val.specs.WellFormed.{IsWellFormed, AllMembersWellFormed}
use Rattle.wf_form.specs.Pointer.{member_step}
use Rattle.wf_form.specs.Entries.{entries as judged_entries, place_in}
use Rattle.wf_form.specs.Waits.{bad_run_after}
use Rattle.wf_form.specs.Actions.{in_part}
use Rattle.wf_form.specs.Fault.{offences}
use Rattle.wf_form.specs.Judge.{run_after}
use Rattle.wf_form.specs.Places.{in_members, places}
use Rattle.wf_form.specs.Role.{child, holder_of}
use Rattle.wf_form.specs.Whole.{Whole, whole_of}
use Rattle.wf_form.specs.declared.role.Role.{Role}
use Rattle.wf_form.specs.declared.role.Holder.{Holder}
use Rattle.wf_form.specs.declared.rule.Rule.{Rule}
use Rattle.wf_def.proofs.ListLemmas.{actions_in_trees}
use Rattle.wf_def.specs.ActionTree.{ActionTree, action_after, action_name, no_actions}
use Rattle.wf_reading.specs.Afters.{after_of, entries}
use Rattle.wf_reading.specs.Graphs.{actions_of, graph_of}
use Rattle.wf_reading.specs.Meant.{top_at}
use Rattle.wf_reading.specs.Facts.{HasDepths, is_named}
use Rattle.wf_reading.proofs.DepthLemmas.{AllFall, all-fall, depth_of, Falls, PathsAreExact}
use Rattle.wf_reading.proofs.GraphLemmas.{value_of-here, value_of-later}
use Rattle.wf_reading.proofs.PartLemmas.{equal_keys}

pub append-first : {X : Type 0} (xs ys : List X) → xs ++ ys ≡ [] → xs ≡ []
append-first [] ys is = refl
append-first (x ∷ xs) ys is = absurd (cc)

pub append-second : {X : Type 0} (xs ys : List X) → xs ++ ys ≡ [] → ys ≡ []
append-second [] ys is = is
append-second (x ∷ xs) ys is = absurd (cc)

pub map-none : {X Y : Type 0} (f : X → Y) (xs : List X) → map f xs ≡ [] → xs ≡ []
map-none f [] is = refl
map-none f (x ∷ xs) is = absurd (cc)

some_one : {X : Type 0} {x y : X} → Some x ≡ Some y → x ≡ y
some_one is = cc

-- what no member offends by, a member that is looked at doesn't
member-fine : (rule : Rule) (whole : Whole) (role : Role) (h : Holder) (key : List ℕ) (part : Role) → child role h key ≡ Some part
    → (ms : MemberTrees) → in_members rule whole role h ms ≡ [] → (t : ValueTree) → value_of key (pairs ms) ≡ Some t → places rule whole part key t ≡ []
member-fine rule whole role h key part is no_members fine t found = absurd (cc)
member-fine rule whole role h key part is (member_then k u ms) fine t found =
    let own : List (List ℕ) = in_part (child role h k) (λ r. places rule whole r k u) in
    elim (bytes_eq key k) as (λ b. bytes_eq key k ≡ b → places rule whole part key t ≡ []) [
      | true ↦ λ same.
          let key_is : key ≡ k = equal_keys key k same in
          let here : u ≡ t = some_one (sym (value_of-here key (k, u) (pairs ms) same) ∙ found) in
          let none : own ≡ [] = map-none (λ (p : List ℕ). member_step k ++ p) own (append-first (map (λ (p : List ℕ). member_step k ++ p) own) (in_members rule whole role h ms) fine) in
          let seen : own ≡ places rule whole part k u = ap (λ (o : Option Role). in_part o (λ r. places rule whole r k u)) (ap (child role h) (sym key_is) ∙ is) in
          ap (λ (q : List ℕ). places rule whole part q t) key_is ∙ ap (places rule whole part k) (sym here) ∙ sym seen ∙ none
      | false ↦ λ other.
          member-fine rule whole role h key part is ms (append-second (map (λ (p : List ℕ). member_step k ++ p) own) (in_members rule whole role h ms) fine) t
          (sym (value_of-later key (k, u) (pairs ms) other) ∙ found)
    ] refl

-- the eighth rule, at a graph
graph-fine : (whole : Whole) (l : ℕ) (key : List ℕ) (ms : MemberTrees) → places Rule.RunAfter whole (Role.Graph l) key (object ms) ≡ [] → bad_run_after (pairs ms) ≡ []
unfolding run_after
graph-fine whole l key ms fine = append-first (bad_run_after (pairs ms)) (in_members Rule.RunAfter whole (Role.Graph l) (holder_of (object ms)) ms) fine

definition-fine : (whole : Whole) (ms : MemberTrees) → places Rule.RunAfter whole Role.Definition [] (object ms) ≡ [] → in_members Rule.RunAfter whole Role.Definition (holder_of (object ms)) ms ≡ []
unfolding run_after
definition-fine whole ms fine = fine

same_entries : (value : Option ValueTree) → judged_entries value ≡ entries value
same_entries None = refl
same_entries (Some null) = refl
same_entries (Some (boolean b)) = refl
same_entries (Some (number n)) = refl
same_entries (Some (text s)) = refl
same_entries (Some (list ts)) = refl
same_entries (Some (object ms)) = refl

place-named : (k : List ℕ) (graph : List Member) (q : ℕ) → place_in k graph ≡ Some q → list_any (λ m. bytes_eq k (name_of m)) graph ≡ true
place-named k [] q is = absurd (cc)
place-named k (m ∷ ms) q is = elim (bytes_eq k m.0) as (λ b. bytes_eq k m.0 ≡ b → list_any (λ n. bytes_eq k (name_of n)) (m ∷ ms) ≡ true) [
  | true ↦ λ same. rw same refl
  | false ↦ λ other. let later : option_map suc (place_in k ms) ≡ Some q = rw other at is in
      elim (place_in k ms) as (λ o. place_in k ms ≡ o → list_any (λ n. bytes_eq k (name_of n)) (m ∷ ms) ≡ true) [
        | None ↦ λ none. absurd (cc)
        | Some r ↦ λ found. rw (place-named k ms r found) (or-true (bytes_eq k m.0))
      ] refl
] refl

module _ (number_of : List ℕ → ℕ) (prefix : List ℕ) where
  named-read : (k : List ℕ) (ms : MemberTrees) → list_any (λ m. bytes_eq k (name_of m)) (pairs ms) ≡ is_named k (actions_of number_of prefix ms)
  named-read k no_members = refl
  named-read k (member_then j t ms) = ap (λ b. bytes_eq k j || b) (named-read k ms)

  entries-read : (whole : MemberTrees) (own : List ℕ) (es : List Member) → AllByRecursion (λ e. Falls (pairs whole) own (name_of e)) es
      → AllByRecursion (λ e. (is_named e.name (actions_of number_of prefix whole) ≡ true) × (depth_of (pairs whole) e.name < depth_of (pairs whole) own)) (map (after_of number_of) es)
  entries-read whole own [] all = tt
  entries-read whole own (e ∷ es) all =
      ((sym (named-read e.0 whole) ∙ place-named e.0 (pairs whole) all.0.place all.0.named, all.0.lesser), entries-read whole own es all.1)

  actions-read : (whole ms : MemberTrees) → AllFall (pairs whole) (pairs ms)
      → AllByRecursion (λ a. AllByRecursion (λ e. (is_named e.name (actions_of number_of prefix whole) ≡ true) × (depth_of (pairs whole) e.name < depth_of (pairs whole) (action_name a))) (action_after a)) (actions_of number_of prefix ms)
  actions-read whole no_members all = tt
  actions-read whole (member_then k t ms) all = (
    entries-read whole k (entries (get (codes "runAfter") t)) (subst (λ (es : List Member). AllByRecursion (λ e. Falls (pairs whole) k (name_of e)) es) (same_entries (get (codes "runAfter") t)) all.0),
    actions-read whole ms all.1,
  )

  -- a graph whose actions don't offend has depths
  pub graph-depths : (exact : PathsAreExact) (ms : MemberTrees) → IsInNameOrder name_of (pairs ms) → bad_run_after (pairs ms) ≡ [] → HasDepths (graph_of number_of prefix (object ms))
  graph-depths exact ms order fine = record {
    depth = depth_of (pairs ms);
    falls = subst (λ (xs : List ActionTree). AllByRecursion (λ a. AllByRecursion (λ e. (is_named e.name xs ≡ true) × (depth_of (pairs ms) e.name < depth_of (pairs ms) (action_name a))) (action_after a)) xs)
        (sym (actions_in_trees (actions_of number_of prefix ms))) (actions-read ms ms (all-fall exact (pairs ms) order fine));
  }

no_depths : HasDepths no_actions
no_depths = record { depth = λ k. 0; falls = tt }

pub value-well_formed : (key : List ℕ) (ms : MemberTrees) → AllMembersWellFormed ms → (t : ValueTree) → value_of key (pairs ms) ≡ Some t → IsWellFormed t
value-well_formed key no_members all t found = absurd (cc)
value-well_formed key (member_then k u ms) all t found = elim (bytes_eq key k) as (λ b. bytes_eq key k ≡ b → IsWellFormed t) [
  | true ↦ λ same. subst IsWellFormed (some_one (sym (value_of-here key (k, u) (pairs ms) same) ∙ found)) all.0.1
  | false ↦ λ other. value-well_formed key ms all.1 t (sym (value_of-later key (k, u) (pairs ms) other) ∙ found)
] refl

-- the graph at the top of a definition that breaks no rule
top-depths : (number_of : List ℕ → ℕ) (exact : PathsAreExact) (whole : Whole) (t : ValueTree) → IsWellFormed t → places Rule.RunAfter whole (Role.Graph 1) (codes "actions") t ≡ []
    → HasDepths (graph_of number_of (codes "/actions") t)
top-depths number_of exact whole null w fine = no_depths
top-depths number_of exact whole (boolean b) w fine = no_depths
top-depths number_of exact whole (number n) w fine = no_depths
top-depths number_of exact whole (text s) w fine = no_depths
top-depths number_of exact whole (list ts) w fine = no_depths
top-depths number_of exact whole (object ms) w fine = graph-depths number_of (codes "/actions") exact ms w.0 (graph-fine whole 1 (codes "actions") ms fine)

found-depths : (number_of : List ℕ → ℕ) (exact : PathsAreExact) (whole : Whole) (ms : MemberTrees) → AllMembersWellFormed ms
    → in_members Rule.RunAfter whole Role.Definition (holder_of (object ms)) ms ≡ [] → (o : Option ValueTree) → value_of (codes "actions") (pairs ms) ≡ o → HasDepths (top_at number_of o)
found-depths number_of exact whole ms all fine None none = no_depths
found-depths number_of exact whole ms all fine (Some t) found = top-depths number_of exact whole t (value-well_formed (codes "actions") ms all t found)
    (member-fine Rule.RunAfter whole Role.Definition (holder_of (object ms)) (codes "actions") (Role.Graph 1) refl ms fine t found)

pub definition-depths : (number_of : List ℕ → ℕ) (exact : PathsAreExact) (t : ValueTree) → IsWellFormed t → offences t Rule.RunAfter ≡ []
    → HasDepths (top_at number_of (get (codes "actions") t))
definition-depths number_of exact null w fine = no_depths
definition-depths number_of exact (boolean b) w fine = no_depths
definition-depths number_of exact (number n) w fine = no_depths
definition-depths number_of exact (text s) w fine = no_depths
definition-depths number_of exact (list ts) w fine = no_depths
definition-depths number_of exact (object ms) w fine =
    found-depths number_of exact (whole_of (object ms)) ms w.1 (definition-fine (whole_of (object ms)) ms fine) (value_of (codes "actions") (pairs ms)) refl
