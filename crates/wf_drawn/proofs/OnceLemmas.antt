-- A page is nested, and says of each action once what it is called and where its rows stand: each action of a graph stands on one of its
-- levels.
use Rattle.std.proofs.Common.{◌≡◌, ℕ, ◌+◌, ◌-◌, ◌^◌, ◌<◌, ◌≤◌, Bool, true, false, nat_eq, List, [], ◌∷◌, ◌++◌, Option, cond}
use Rattle.std.proofs.Common.{codes, count_by, flat_map, length, map, take, refl, sym, ap, ◌∙◌, subst, arith}
use Rattle.std.proofs.lemmas.Grind.{flat_map-append}
use Rattle.std.proofs.lemmas.List.Sums.{sum_by-append}
use Rattle.wf_def.specs.ActionTree.{ActionTree, action, action_name, KindTree, scope, branch, switch, switch_else, foreach, until}
use Rattle.wf_def.specs.ActionTree.{ActionTrees, no_actions, action_then, CaseTrees, no_cases, case_then, actions_in}
use Rattle.wf_def.specs.AllActions.{all_actions, cases_actions, kind_actions}
use Rattle.wf_def.specs.declared.after.After.{After}
use Rattle.wf_drawn.proofs.LevelBounds.{AreWithin, levels_within}
use Rattle.wf_drawn.proofs.NamesLemmas.{Asked, Names, names_append, names_behind, names_held, names_in, names_levels, of_texts}
use Rattle.wf_drawn.proofs.SaidLemmas.{header_quiet, heading_says, own_texts}
use Rattle.wf_drawn.proofs.TotalLemmas.{total, total_none, total_one, total_sum}
use Rattle.wf_drawn.specs.Drawn.{box, case_word, cases_pieces, each_level, graph_pieces, heading, held, inside, kind_pieces, level_pieces}
use Rattle.wf_drawn.specs.Levels.{depth, level_at}
use Rattle.wf_drawn.specs.Page.{header, page_pieces, view_of}
use Rattle.wf_drawn.specs.Views.{ViewTree}
use Rattle.wf_html.proofs.BehindLemmas.{Texts, says_nothing, says_quietly}
use Rattle.wf_html.specs.Behind.{is_name, is_place, said_behind}
use Rattle.wf_html.specs.Html.{Piece, with_text}
use Rattle.wf_html.specs.Nested.{IsNested}
use Rattle.wf_html.specs.declared.tag.Tag.{Tag}
use Rattle.wf_record.specs.Record.{RecordTree}
use Rattle.wf_shown.proofs.SaidLemmas.{OnlyHeads, each_place, no_place, only_names, only_places}
use Rattle.wf_shown.specs.Looks.{look_of_rows}
use Rattle.wf_shown.specs.Once.{places}
use Rattle.wf_shown.specs.Rows.{most_shown, rows_of}

module _ (is : Tag → Bool) (only : OnlyHeads is) (asked : Asked) (v : ViewTree) where
  -- no level is the greatest u64
  abbrev AreFew : Type 0
  AreFew = AreWithin (2 ^ 64 - 2) v.levels

  abbrev Counts : List Piece → ℕ → Type 0
  Counts ps n = Names is AreFew asked ps n

  -- how many texts of what is asked an action of a name says, and how many actions do
  abbrev own : List ℕ → ℕ
  own name = count_by asked (own_texts is name (rows_of name v.rows))

  abbrev own_of : ActionTree → Texts
  own_of a = own_texts is (action_name a) (rows_of (action_name a) v.rows)

  abbrev all_own : List ActionTree → ℕ
  all_own as' = count_by asked (flat_map own_of as')

  counted_both : (xs ys : Texts) → count_by asked (xs ++ ys) ≡ count_by asked xs + count_by asked ys
  counted_both xs ys = sum_by-append (λ x. cond (asked x) 1 0) xs ys

  own_append : (as' bs : List ActionTree) → all_own (as' ++ bs) ≡ all_own as' + all_own bs
  own_append as' bs = ap (count_by asked) (flat_map-append own_of as' bs) ∙ counted_both (flat_map own_of as') (flat_map own_of bs)

  -- of the actions of a graph that stand on a level, with all that they hold
  abbrev on_level : ℕ → ActionTrees → ℕ
  on_level k no_actions = 0
  on_level k (action_then (action name number pointer after kind tracked) rest) =
      cond (nat_eq (level_at v.levels number) k) (own name + all_own (kind_actions kind)) 0 + on_level k rest

  all_levels : (g : ActionTrees) (d : ℕ) → AreFew → depth v.levels (actions_in g) ≤ d
      → total d (λ k. on_level k g) ≡ all_own (all_actions g)
  all_levels no_actions d few deep = total_none d
  all_levels (action_then (action name number pointer after kind tracked) rest) d few deep =
      let l : ℕ = level_at v.levels number in
      let n : ℕ = own name + all_own (kind_actions kind) in
      let within : l ≤ 2 ^ 64 - 2 = few number in
      let sums = total_sum d (λ k. cond (nat_eq l k) n 0) (λ k. on_level k rest) in
      let one = total_one d l n (omega (arith, within, deep)) in
      let others = all_levels rest d few (omega (arith, deep)) in
      let first = counted_both (own_texts is name (rows_of name v.rows)) (flat_map own_of (kind_actions kind ++ all_actions rest)) in
      let parts = own_append (kind_actions kind) (all_actions rest) in
      omega (arith, sums, one, others, first, parts)

  -- ---- a graph, part by part

  nothing_counts : Counts [] 0
  nothing_counts = of_texts is only AreFew asked [] [] (says_nothing is)

  graph_counts : (g : ActionTrees) → ((k : ℕ) → Counts (level_pieces v k g) (on_level k g))
      → Counts (graph_pieces v g) (all_own (all_actions g))
  graph_counts g each =
      let d : ℕ = depth v.levels (actions_in g) in
      let levels = names_levels is only AreFew asked d (λ k. level_pieces v k g) (λ k. on_level k g) each in
      let whole = names_in is only AreFew asked Tag.Graph (each_level d (λ k. level_pieces v k g)) _ (only Tag.Graph refl) levels in
      record { nested = whole.nested; count = λ few. whole.count few ∙ all_levels g d few (omega arith) }

  held_counts : (word : List ℕ) (g : ActionTrees) → Counts (graph_pieces v g) (all_own (all_actions g))
      → Counts (held word (graph_pieces v g)) (all_own (all_actions g))
  held_counts word g names = names_held is only AreFew asked word (graph_pieces v g) _ names

  -- parts in a tag
  one_counts : (ps : List Piece) (n : ℕ) → Counts ps n → Counts (inside Tag.Branches ps) n
  one_counts ps n names = names_in is only AreFew asked Tag.Branches ps n (only Tag.Branches refl) names

  both_count : (ps qs : List Piece) (as' bs : List ActionTree) → Counts ps (all_own as') → Counts qs (all_own bs)
      → Counts (ps ++ qs) (all_own (as' ++ bs))
  both_count ps qs as' bs one other =
      subst (Counts (ps ++ qs)) (sym (own_append as' bs)) (names_append is only AreFew asked ps qs _ _ one other)

  box_counts : (name : List ℕ) (after : List After) (kind : KindTree) (graphs : List Piece) (n : ℕ) → Counts graphs n
      → Counts (box v name after kind graphs) (own name + n)
  box_counts name after kind graphs n names =
      let rows = rows_of name v.rows in
      names_in is only AreFew asked (Tag.Box (look_of_rows rows)) (heading v.earlier name after kind rows ++ graphs) _
      (only (Tag.Box (look_of_rows rows)) refl) (
      names_append is only AreFew asked (heading v.earlier name after kind rows) graphs (own name) n
      (of_texts is only AreFew asked _ (own_texts is name rows) (heading_says is only v.earlier name after kind rows)) names
      )

  mutual
    level_counts : (k : ℕ) (g : ActionTrees) → Counts (level_pieces v k g) (on_level k g)
    level_counts k no_actions = nothing_counts
    level_counts k (action_then (action name number pointer after kind tracked) rest) =
        let n : ℕ = own name + all_own (kind_actions kind) in
        let here : List Piece = box v name after kind (kind_pieces v kind) in
        names_append is only AreFew asked (cond (nat_eq (level_at v.levels number) k) here []) (level_pieces v k rest)
        (cond (nat_eq (level_at v.levels number) k) n 0) (on_level k rest) (
        elim (nat_eq (level_at v.levels number) k) as (λ b. Counts (cond b here []) (cond b n 0)) [
          | true ↦ box_counts name after kind (kind_pieces v kind) _ (kind_counts kind)
          | false ↦ nothing_counts
        ]
        ) (level_counts k rest)

    kind_counts : (kind : KindTree) → Counts (kind_pieces v kind) (all_own (kind_actions kind))
    kind_counts (scope graph) = one_counts _ _ (held_counts (codes "inside") graph (graph_counts graph (λ k. level_counts k graph)))
    kind_counts (branch test yes' no') =
        one_counts _ _ (
        both_count (held (codes "where the test holds") (graph_pieces v yes')) (held (codes "else") (graph_pieces v no')) (all_actions yes')
        (all_actions no') (held_counts (codes "where the test holds") yes' (graph_counts yes' (λ k. level_counts k yes')))
        (held_counts (codes "else") no' (graph_counts no' (λ k. level_counts k no')))
        )
    kind_counts (switch on cases) = one_counts (cases_pieces v cases) _ (cases_count cases)
    kind_counts (switch_else on cases default) =
        one_counts _ _ (
        both_count (cases_pieces v cases) (held (codes "default") (graph_pieces v default)) (cases_actions cases) (all_actions default)
        (cases_count cases) (held_counts (codes "default") default (graph_counts default (λ k. level_counts k default)))
        )
    kind_counts (foreach items repetitions graph) =
        one_counts _ _ (held_counts (codes "for each item") graph (graph_counts graph (λ k. level_counts k graph)))
    kind_counts (until test count fails graph) =
        one_counts _ _ (held_counts (codes "until the test holds") graph (graph_counts graph (λ k. level_counts k graph)))
    kind_counts kind = nothing_counts

    cases_count : (cases : CaseTrees) → Counts (cases_pieces v cases) (all_own (cases_actions cases))
    cases_count no_cases = nothing_counts
    cases_count (case_then name value graph rest) =
        both_count (held (case_word name value) (graph_pieces v graph)) (cases_pieces v rest) (all_actions graph) (cases_actions rest)
        (held_counts (case_word name value) graph (graph_counts graph (λ k. level_counts k graph))) (cases_count rest)

-- ---- a page

page_counts : (is : Tag → Bool) (only : OnlyHeads is) (asked : Asked) (graph : ActionTrees) (r : RecordTree) (earlier : Option RecordTree)
    → Names is (AreWithin (2 ^ 64 - 2) (view_of graph r earlier).levels) asked (page_pieces graph r earlier)
    (count_by asked (flat_map (λ a. own_texts is (action_name a) (rows_of (action_name a) r.rows)) (all_actions graph)))
page_counts is only asked graph r earlier =
    let v : ViewTree = view_of graph r earlier in
    let D : Type 0 = AreWithin (2 ^ 64 - 2) v.levels in
    let drawn = graph_counts is only asked v graph (λ k. level_counts is only asked v k graph) in
    names_in is only D asked Tag.Page (with_text Tag.Title r.run ++ inside Tag.Body (header r earlier ++ graph_pieces v graph)) _
    (only Tag.Page refl) (
    names_behind is only D asked (with_text Tag.Title r.run) (inside Tag.Body (header r earlier ++ graph_pieces v graph)) _
    (says_quietly is Tag.Title r.run (only Tag.Title refl)) (
    names_in is only D asked Tag.Body (header r earlier ++ graph_pieces v graph) _ (only Tag.Body refl)
    (names_behind is only D asked (header r earlier) (graph_pieces v graph) _ (header_quiet is only r earlier) drawn)
    )
    )

pub page_nested : (graph : ActionTrees) (r : RecordTree) (earlier : Option RecordTree) → IsNested (page_pieces graph r earlier)
page_nested graph r earlier = (page_counts is_name only_names (λ name. true) graph r earlier).nested

-- what an action says of itself: its name alone, and where its rows stand alone
flat_same : {A : Type 0} (f g : A → Texts) → ((x : A) → f x ≡ g x) → (xs : List A) → flat_map f xs ≡ flat_map g xs
flat_same f g same [] = refl
flat_same f g same (x ∷ xs) = ap (λ (y : Texts). y ++ flat_map f xs) (same x) ∙ ap (λ (y : Texts). g x ++ y) (flat_same f g same xs)

flat_map_one : (as' : List ActionTree) → flat_map (λ a. action_name a ∷ []) as' ≡ map action_name as'
flat_map_one [] = refl
flat_map_one (a ∷ as') = ap (λ (y : Texts). action_name a ∷ y) (flat_map_one as')

pub drawn_once : (graph : ActionTrees) (r : RecordTree) (earlier : Option RecordTree) (asked : Asked) → length (all_actions graph) < 2 ^ 32
    → count_by asked (said_behind is_name (page_pieces graph r earlier)) ≡ count_by asked (map action_name (all_actions graph))
drawn_once graph r earlier asked few =
    (page_counts is_name only_names asked graph r earlier).count (levels_within graph few)
    ∙ ap (count_by asked) (
    flat_same (λ a. own_texts is_name (action_name a) (rows_of (action_name a) r.rows)) (λ a. action_name a ∷ [])
    (λ a. ap (λ (y : Texts). action_name a ∷ y) (no_place (take most_shown (rows_of (action_name a) r.rows)))) (all_actions graph)
    ∙ flat_map_one (all_actions graph)
    )

pub rows_drawn_once : (graph : ActionTrees) (r : RecordTree) (earlier : Option RecordTree) (asked : Asked)
    → length (all_actions graph) < 2 ^ 32 → count_by asked (said_behind is_place (page_pieces graph r earlier))
    ≡ count_by asked (flat_map (λ a. places (take most_shown (rows_of (action_name a) r.rows))) (all_actions graph))
rows_drawn_once graph r earlier asked few =
    (page_counts is_place only_places asked graph r earlier).count (levels_within graph few)
    ∙ ap (count_by asked) (
    flat_same (λ a. own_texts is_place (action_name a) (rows_of (action_name a) r.rows))
    (λ a. places (take most_shown (rows_of (action_name a) r.rows)))
    (λ a. each_place (take most_shown (rows_of (action_name a) r.rows))) (all_actions graph)
    )
