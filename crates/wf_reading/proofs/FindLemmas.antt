-- An action is found by a name exactly where one has it.
use Rattle.std.proofs.Common.{◌≡◌, ℕ, Bool, true, false, List, [], ◌∷◌, ◌++◌, Option, Some, None, bytes_eq, refl, sym, ap, ◌∙◌}
use Rattle.std.specs.Prelude.{◌||◌, is_some, if◌then◌else◌}
use Rattle.std.specs.List.{list_any}
use Rattle.wf_def.specs.ActionTree.{ActionTree, action, KindTree, compose, connector, wait, response, terminate, select, query, join, parse_json, initialize, set_to, increment, decrement, append_array, append_string, scope, branch, switch, switch_else, foreach, until, ActionTrees, no_actions, action_then, CaseTrees, no_cases, case_then}
use Rattle.wf_def.specs.Names.{cases_names, find_cases, find_in, find_inside, first_of, graph_names, kind_names}

some-first : (one other : Option ActionTree) → is_some (first_of one other) ≡ (is_some one || is_some other)
some-first None other = refl
some-first (Some a) other = refl

or-assoc : (a b c : Bool) → ((a || b) || c) ≡ (a || (b || c))
or-assoc true b c = refl
or-assoc false b c = refl

any-append : (p : List ℕ → Bool) (xs ys : List (List ℕ)) → list_any p (xs ++ ys) ≡ (list_any p xs || list_any p ys)
any-append p [] ys = refl
any-append p (x ∷ xs) ys = ap (λ b. p x || b) (any-append p xs ys) ∙ sym (or-assoc (p x) (list_any p xs) (list_any p ys))

own-found : (b : Bool) (a : ActionTree) (o : Option ActionTree) → is_some (if b then Some a else o) ≡ (b || is_some o)
own-found true a o = refl
own-found false a o = refl

module _ (k : List ℕ) where
  abbrev has : List (List ℕ) → Bool
  has ns = list_any (bytes_eq k) ns

  both : (one other : Option ActionTree) (xs ys : List (List ℕ)) → is_some one ≡ has xs → is_some other ≡ has ys → is_some (first_of one other) ≡ has (xs ++ ys)
  both one other xs ys is_one is_other = some-first one other ∙ ap (λ b. b || is_some other) is_one ∙ ap (λ b. has xs || b) is_other ∙ sym (any-append (bytes_eq k) xs ys)

  mutual
    pub found : (g : ActionTrees) → is_some (find_in k g) ≡ has (graph_names g)
    found no_actions = refl
    found (action_then (action name number pointer after kind tracked) rest) =
        some-first (if bytes_eq k name then Some (action name number pointer after kind tracked) else find_inside k kind) (find_in k rest)
        ∙ ap (λ b. b || is_some (find_in k rest)) (own-found (bytes_eq k name) (action name number pointer after kind tracked) (find_inside k kind) ∙ ap (λ b. bytes_eq k name || b) (found_inside kind))
        ∙ or-assoc (bytes_eq k name) (has (kind_names kind)) (is_some (find_in k rest))
        ∙ ap (λ b. bytes_eq k name || b) (ap (λ b. has (kind_names kind) || b) (found rest) ∙ sym (any-append (bytes_eq k) (kind_names kind) (graph_names rest)))

    found_inside : (kind : KindTree) → is_some (find_inside k kind) ≡ has (kind_names kind)
    found_inside (compose inputs) = refl
    found_inside (connector inputs policy) = refl
    found_inside (wait inputs) = refl
    found_inside (response inputs) = refl
    found_inside (terminate inputs) = refl
    found_inside (select from item) = refl
    found_inside (query from filter) = refl
    found_inside (join from with') = refl
    found_inside (parse_json content schema) = refl
    found_inside (initialize variables) = refl
    found_inside (set_to name value) = refl
    found_inside (increment name value) = refl
    found_inside (decrement name value) = refl
    found_inside (append_array name value) = refl
    found_inside (append_string name value) = refl
    found_inside (scope graph) = found graph
    found_inside (branch test yes' no') = both (find_in k yes') (find_in k no') (graph_names yes') (graph_names no') (found yes') (found no')
    found_inside (switch on cases) = found_cases cases
    found_inside (switch_else on cases default) = both (find_cases k cases) (find_in k default) (cases_names cases) (graph_names default) (found_cases cases) (found default)
    found_inside (foreach items repetitions graph) = found graph
    found_inside (until test count fails graph) = found graph

    found_cases : (cases : CaseTrees) → is_some (find_cases k cases) ≡ has (cases_names cases)
    found_cases no_cases = refl
    found_cases (case_then name value graph rest) = both (find_in k graph) (find_cases k rest) (graph_names graph) (cases_names rest) (found graph) (found_cases rest)
