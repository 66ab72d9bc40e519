-- What the tables of places have.
use Rattle.std.proofs.Common.{◌≡◌, ℕ, suc, Bool, true, false, cond, List, [], ◌∷◌, map, Option, Some, None, option_map, bytes_eq, is_eq}
use Rattle.std.proofs.Common.{refl, sym, ap, ◌∙◌, nat_eq, rules}
use Rattle.std.specs.List.{find}
use Rattle.std.specs.Ordering.{nat_cmp}
use Rattle.std.proofs.lemmas.Cmp.{nat_cmp_total, nat_list_cmp_total}
use Rattle.std.proofs.lemmas.Map.Text.{is_eq-slice_cmp}
use Rattle.wf_val.specs.NameOrder.{bytes_cmp}
use Rattle.wf_def.specs.ActionSeen.{action_tree, kind_tree}
use Rattle.wf_def.specs.ActionTree.{ActionTree, action_kind, action_name, action_number}
use Rattle.wf_def.specs.AllActions.{has_number, numbered}
use Rattle.wf_def.specs.DefTree.{DefTree}
use Rattle.wf_def.specs.declared.graph.Action.{Action, out-Action}
use Rattle.wf_def.specs.declared.graph.Kind.TheFolds.{fold_out-Action}
use Rattle.wf_meant.specs.Sites.{writes_of}
use Rattle.wf_meant.specs.Points.{graph_of, has_action_name}
use Rattle.wf_meant.specs.Loops.{loops_of}
use Rattle.wf_catalog.specs.Keys.{all_put}
use Rattle.wf_catalog.specs.PlacesSeen.{ArePlaces, EntryTree, entry_at, entry_of, entry_tree, loops_in, named_in, named_tree, number_in}
use Rattle.wf_catalog.specs.PlacesSeen.{variable_tree, written_in}
use Rattle.wf_catalog.specs.Variables.{first_place, numbered_from, numbers_by, numbers_of, variable_number, written, written_names}
use Rattle.wf_catalog.specs.Walk.{Walked, graph_walk, is_at}
use Rattle.wf_catalog.specs.declared.named.Named.{Named}
use Rattle.wf_catalog.specs.declared.places.Entry.{Entry}
use Rattle.wf_catalog.specs.WalkSeen.{walked}
use Rattle.wf_catalog.specs.declared.variables.Variable.{Variable}
use Rattle.wf_catalog.specs.declared.walk.Placed.{Placed}
use Rattle.wf_catalog.proofs.KeyLemmas.{find-all_put, find-as, same_number}
use Rattle.wf_catalog.proofs.WalkLemmas.{actions-graph, loops_or_none}

pub number_is : (a : Action) → (out-Action a).number ≡ action_number (action_tree a)
number_is a = search (rules, fold_out-Action)

pub name_is : (a : Action) → (out-Action a).name ≡ action_name (action_tree a)
name_is a = search (rules, fold_out-Action)

pub kind_is : (a : Action) → kind_tree (out-Action a).kind ≡ action_kind (action_tree a)
kind_is a = search (rules, fold_out-Action)

-- ---- names

pub named_found : (ns : List Named) (as' : List ActionTree) → map named_tree ns ≡ as' → (k : List ℕ)
    → named_in (all_put bytes_cmp (λ (n : Named). (out-Action n.action.now).name) ns) k ≡ find (has_action_name k) as'
named_found ns as' is k =
    ap (option_map named_tree) (find-all_put bytes_cmp (λ (n : Named). (out-Action n.action.now).name) nat_list_cmp_total k ns)
    ∙ (find-as named_tree (λ (n : Named). is_eq (bytes_cmp k (out-Action n.action.now).name)) (has_action_name k)
    (λ n. is_eq-slice_cmp k (out-Action n.action.now).name ∙ ap (bytes_eq k) (name_is n.action.now)) ns
    ∙ ap (find (has_action_name k)) is)

-- ---- numbers

pub entries_found : (number : List ℕ → Option ℕ) (es : List Entry) (ws : List Walked) → map entry_tree es ≡ map (entry_of number) ws → (n : ℕ)
    → entry_at (all_put nat_cmp (λ (e : Entry). (out-Action e.placed.action.now).number) es) n
    ≡ option_map (entry_of number) (find (is_at n) ws)
entries_found number es ws is n =
    let at : EntryTree → Bool = λ e. is_at n e.place in
    ap (option_map entry_tree) (find-all_put nat_cmp (λ (e : Entry). (out-Action e.placed.action.now).number) nat_cmp_total n es)
    ∙ (find-as entry_tree (λ (e : Entry). is_eq (nat_cmp n (out-Action e.placed.action.now).number)) at
    (λ e. same_number n (out-Action e.placed.action.now).number ∙ ap (nat_eq n) (number_is e.placed.action.now)) es
    ∙ (ap (find at) is ∙ sym (find-as (entry_of number) (is_at n) at (λ w. refl) ws)))

-- ---- variables

pub variables_found : (vs : List Variable) (ks : List (List ℕ)) → map variable_tree vs ≡ numbered_from 0 ks → (k : List ℕ)
    → number_in (all_put bytes_cmp (λ (v : Variable). v.name.now) vs) k ≡ first_place 0 ks k
variables_found vs ks is k =
    let named : List ℕ × ℕ → Bool = λ p. bytes_eq k p.0 in
    ap (option_map (λ (v : Variable). v.number)) (find-all_put bytes_cmp (λ (v : Variable). v.name.now) nat_list_cmp_total k vs)
    ∙ (split (find (λ (v : Variable). is_eq (bytes_cmp k v.name.now)) vs)
    ∙ (ap (option_map (λ p. p.1)) (find-as variable_tree (λ (v : Variable). is_eq (bytes_cmp k v.name.now)) named
    (λ v. is_eq-slice_cmp k v.name.now) vs ∙ ap (find named) is)
    ∙ placed 0 ks))
  where
    split : (o : Option Variable) → option_map (λ (v : Variable). v.number) o ≡ option_map (λ p. p.1) (option_map variable_tree o)
    split None = refl
    split (Some v) = refl

    out_of : (b : Bool) (m : List ℕ) (i : ℕ) (o : Option (List ℕ × ℕ)) → option_map (λ p. p.1) (cond b (Some (m, i)) o)
        ≡ cond b (Some i) (option_map (λ p. p.1) o)
    out_of true m i o = refl
    out_of false m i o = refl

    placed : (i : ℕ) (ms : List (List ℕ)) → option_map (λ p. p.1) (find (λ p. bytes_eq k p.0) (numbered_from i ms)) ≡ first_place i ms k
    placed i [] = refl
    placed i (m ∷ ms) =
        out_of (bytes_eq k m) m i (find (λ p. bytes_eq k p.0) (numbered_from (suc i) ms))
        ∙ ap (cond (bytes_eq k m) (Some i)) (placed (suc i) ms)

-- ---- together

actions_by : (n : ℕ) (number : List ℕ → Option ℕ) (ws : List Walked)
    → option_map (λ (e : EntryTree). e.place.action) (option_map (entry_of number) (find (is_at n) ws))
    ≡ find (has_number n) (map (λ (w : Walked). w.action) ws)
actions_by n number ws = twice (find (is_at n) ws) ∙ find-as (λ (w : Walked). w.action) (is_at n) (has_number n) (λ w. refl) ws
  where
    twice : (o : Option Walked) → option_map (λ (e : EntryTree). e.place.action) (option_map (entry_of number) o)
        ≡ option_map (λ (w : Walked). w.action) o
    twice None = refl
    twice (Some w) = refl

pub are_places : (d : DefTree) (entries : List Entry) (named : List Named) (numbers : List Variable) (ws : List Walked)
    → ws ≡ graph_walk [] d.top
    → ((n : ℕ) → entry_at entries n ≡ option_map (entry_of (number_in numbers)) (find (is_at n) ws))
    → ((k : List ℕ) → named_in named k ≡ find (has_action_name k) (map (λ (w : Walked). w.action) ws))
    → ((k : List ℕ) → number_in numbers k ≡ first_place 0 (written_names (map (λ (w : Walked). w.action) ws)) k)
    → ((n : ℕ) → loops_in (option_map (entry_of (number_in numbers)) (find (is_at n) ws)) ≡ loops_of (graph_of d) n)
    → ArePlaces d entries named numbers
are_places d entries named numbers ws walk by_number by_name variables loops =
    let all = ap (map (λ (w : Walked). w.action)) walk ∙ actions-graph [] d.top in
    let numbered_as : (k : List ℕ) → number_in numbers k ≡ variable_number d k =
    λ k. variables k ∙ ap (λ as'. first_place 0 (written_names as') k) all in
    let actions : (n : ℕ) → option_map (λ (e : EntryTree). e.place.action) (entry_at entries n) ≡ numbered n d.top =
    λ n. ap (option_map (λ (e : EntryTree). e.place.action)) (by_number n)
    ∙ (actions_by n (number_in numbers) ws ∙ ap (find (has_number n)) all) in
    record {
      actions = actions;
      loops = λ n. ap loops_in (by_number n) ∙ loops n;
      written = λ n. ap written_in (by_number n) ∙ (written_by (find (is_at n) ws)
          ∙ ap (λ o. numbers_of d o) (sym (ap (option_map (λ (e : EntryTree). e.place.action)) (by_number n)) ∙ actions n));
      names = λ k. by_name k ∙ ap (find (has_action_name k)) all;
      variables = numbered_as;
    }
  where
    written_by : (o : Option Walked) → written_in (option_map (entry_of (number_in numbers)) o)
        ≡ numbers_of d (option_map (λ (e : EntryTree). e.place.action) (option_map (entry_of (number_in numbers)) o))
    written_by None = refl
    written_by (Some w) = ap (λ (f : List ℕ → Option ℕ). numbers_by f (writes_of (action_kind w.action)))
        (λ i k. (variables k ∙ ap (λ as'. first_place 0 (written_names as') k) (ap (map (λ (w : Walked). w.action)) walk ∙ actions-graph [] d.top)) i)

-- the loops of an entry are those of what was found
pub loops_by : (number : List ℕ → Option ℕ) (o : Option Walked)
    → loops_in (option_map (entry_of number) o) ≡ loops_or_none (option_map (λ (w : Walked). w.loops) o)
loops_by number None = refl
loops_by number (Some w) = refl

pub actions_walked : (ps : List Placed) → map (λ (p : Placed). action_tree p.action.now) ps ≡ map (λ (w : Walked). w.action) (map walked ps)
actions_walked [] = refl
actions_walked (p ∷ ps) = ap (λ as'. action_tree p.action.now ∷ as') (actions_walked ps)
