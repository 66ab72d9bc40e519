-- A walk over a graph, action by action.
use Rattle.std.proofs.Common.{◌≡◌, ℕ, suc, ◌+◌, List, [], ◌∷◌, ◌++◌, length, map, Option, Some, None, append_assoc, append-nil, refl, sym, ap, ◌∙◌, arith, rules}
use Rattle.wf_def.specs.Definition as layers
use Rattle.wf_def.specs.ActionTree.{ActionTree, action, ActionTrees, no_actions, action_then, CaseTree, case_trees}
use Rattle.wf_def.specs.ActionSeen.{action_tree, cases_seen, graph_tree, kind_tree}
use Rattle.wf_def.specs.Layered.{layered, layered_kind, layered_cases, need_of}
use Rattle.wf_def.specs.declared.after.After.{After}
use Rattle.wf_def.specs.declared.graph.Action.{Action, out-Action}
use Rattle.wf_def.specs.declared.graph.Cases.{Cases}
use Rattle.wf_def.specs.declared.graph.Graph.{Graph}
use Rattle.wf_def.specs.declared.graph.Kind as kinds
use Rattle.wf_def.specs.declared.graph.Kind.TheFolds.{fold-roll-Kind, fold_out-Action, fold_out-Cases}
use Rattle.wf_def.specs.declared.graph.Kind.TheVariants.{rolls-If, rolls-Switch}
use Rattle.wf_template.specs.declared.cond.Cond.{Cond}
use Rattle.wf_template.specs.declared.template.Template.{Template}
use Rattle.wf_order.specs.Table.{PlaceTree}
use Rattle.wf_order.specs.Walk.{Entry, graph_places, kind_places, branch_places, case_places, put, filled}

pub filled-append : (ps : List (Option PlaceTree)) (es fs : List Entry) → filled ps (es ++ fs) ≡ filled (filled ps es) fs
filled-append ps [] fs = refl
filled-append ps (e ∷ es) fs = filled-append (put ps e.0 e.1) es fs

-- an action, and those behind it
pub places-then : (round : List ℕ) (own : Option (ℕ × ℕ)) (a : ActionTree) (rest : ActionTrees)
    → graph_places round own (layered (action_then a rest)) ≡ graph_places round own (layered (action_then a no_actions))
    ++ graph_places round own (layered rest)
places-then round own (action name number pointer after kind tracked) rest =
    ap (λ (es : List Entry). (
      number,
      record {
        up = round ++ number ∷ [];
        stand = own;
        after =
            map (λ need. need.name) (map need_of after);
      },
    ) ∷ (es ++ graph_places round own (layered rest)))
    (sym (append-nil (kind_places (round ++ number ∷ []) number (layered_kind kind))))

pub names-of_needs : (after : List After) → map (λ need. need.name) (map need_of after) ≡ map (λ entry. entry.number) after
names-of_needs [] = refl
names-of_needs (a ∷ after) = ap (λ ns. a.number ∷ ns) (names-of_needs after)

-- what an action stands for, by its fields
pub action_tree-is : (a : Action) → action_tree a
    ≡ action (out-Action a).name (out-Action a).number (out-Action a).pointer (out-Action a).after (kind_tree (out-Action a).kind)
    (out-Action a).tracked
action_tree-is a = search (rules, fold_out-Action)

-- the cases of a Switch, and what is taken where none of them is
pub cases-then : (round : List ℕ) (n j : ℕ) (cs : List CaseTree) (last : layers.Branches)
    → branch_places round n j (layered_cases (case_trees cs) last) ≡ case_places round n j (case_trees cs)
    ++ branch_places round n (j + length cs) last
cases-then round n j [] last = ap (λ k. branch_places round n k last) (omega arith)
cases-then round n j (c ∷ cs) last =
    ap (λ es. graph_places round (Some (n, j)) (layered c.1.1) ++ es)
    (cases-then round n (suc j) cs last ∙ ap (λ k. case_places round n (suc j) (case_trees cs) ++ branch_places round n k last)
    (omega arith))
    ∙ sym (append_assoc (graph_places round (Some (n, j)) (layered c.1.1)) (case_places round n (suc j) (case_trees cs))
    (branch_places round n (j + suc (length cs)) last))

-- an action that is put in its place, and what stands inside it
pub action_walked : (ps qs : List (Option PlaceTree)) (round up inner after : List ℕ) (own : Option (ℕ × ℕ)) (a : Action)
    → qs ≡ put ps (out-Action a).number (record { up = up; stand = own; after = after })
    → up ≡ round ++ (out-Action a).number ∷ [] → inner ≡ round ++ (out-Action a).number ∷ []
    → after ≡ map (λ entry. entry.number) (out-Action a).after
    → filled qs (kind_places inner (out-Action a).number (layered_kind (kind_tree (out-Action a).kind)))
    ≡ filled ps (graph_places round own (layered (action_then (action_tree a) no_actions)))
action_walked ps qs round up inner after own a put_there up_is inner_is after_is =
    let n = (out-Action a).number in
    let kind = layered_kind (kind_tree (out-Action a).kind) in
    let needs = map (λ need. need.name) (map need_of (out-Action a).after) in
    ap (λ (xs : List (Option PlaceTree)). filled xs (kind_places inner n kind)) put_there
    ∙ ap (λ (xs : List ℕ). filled (put ps n (record { up = up; stand = own; after = after })) (kind_places xs n kind)) inner_is
    ∙ ap (λ (xs : List ℕ). filled (put ps n (record { up = xs; stand = own; after = after })) (kind_places (round ++ n ∷ []) n kind)) up_is
    ∙ ap (λ (xs : List ℕ). filled (put ps n (record { up = round ++ n ∷ []; stand = own; after = xs }))
    (kind_places (round ++ n ∷ []) n kind))
    (after_is ∙ sym (names-of_needs (out-Action a).after))
    ∙ ap (λ (es : List Entry). filled (put ps n (record { up = round ++ n ∷ []; stand = own; after = needs })) es)
    (sym (append-nil (kind_places (round ++ n ∷ []) n kind)))
    ∙ sym (ap (λ (t : ActionTree). filled ps (graph_places round own (layered (action_then t no_actions)))) (action_tree-is a))

-- the two branches of an If
pub both_walked : (ps : List (Option PlaceTree)) (up : List ℕ) (n : ℕ) (yes' no' : layers.Graph)
    → filled (filled ps (graph_places up (Some (n, 1)) yes')) (graph_places up (Some (n, 2)) no')
    ≡ filled ps (kind_places up n (layers.Choice (layers.branch yes' (layers.branch no' layers.no_branch))))
both_walked ps up n yes' no' =
    sym (filled-append ps (graph_places up (Some (n, 1)) yes') (graph_places up (Some (n, 2)) no'))
    ∙ ap (λ (es : List Entry). filled ps (graph_places up (Some (n, 1)) yes' ++ es)) (sym (append-nil (graph_places up (Some (n, 2)) no')))

-- the cases of a Switch and its default, or the cases alone
pub default_walked : (ps : List (Option PlaceTree)) (up : List ℕ) (n k : ℕ) (cs : List CaseTree) (d : layers.Graph) → k ≡ length cs + 1
    → filled (filled ps (case_places up n 1 (case_trees cs))) (graph_places up (Some (n, k)) d)
    ≡ filled ps (kind_places up n (layers.Choice (layered_cases (case_trees cs) (layers.branch d layers.no_branch))))
default_walked ps up n k cs d is =
    let cases : List Entry = case_places up n 1 (case_trees cs) in
    sym (filled-append ps cases (graph_places up (Some (n, k)) d))
    ∙ ap (λ (es : List Entry). filled ps es)
    (ap (λ (m : ℕ). cases ++ graph_places up (Some (n, m)) d) (omega (arith, is))
    ∙ ap (λ (es : List Entry). cases ++ es) (sym (append-nil (graph_places up (Some (n, 1 + length cs)) d)))
    ∙ sym (cases-then up n 1 cs (layers.branch d layers.no_branch)))

pub cases_walked : (ps : List (Option PlaceTree)) (up : List ℕ) (n : ℕ) (cs : List CaseTree)
    → filled ps (case_places up n 1 (case_trees cs))
    ≡ filled ps (kind_places up n (layers.Choice (layered_cases (case_trees cs) (layers.branch layers.done layers.no_branch))))
cases_walked ps up n cs =
    ap (λ (es : List Entry). filled ps es)
    (sym (append-nil (case_places up n 1 (case_trees cs))) ∙ sym (cases-then up n 1 cs (layers.branch layers.done layers.no_branch)))

-- what an If and a Switch stand for
pub if_seen : (test : Cond) (yes' no' : Graph) → layered_kind (kind_tree (kinds.If test yes' no'))
    ≡ layers.Choice (layers.branch (layered (graph_tree yes')) (layers.branch (layered (graph_tree no')) layers.no_branch))
if_seen test yes' no' = ap (λ k. layered_kind (kind_tree k)) (sym (rolls-If test yes' no')) ∙ search (rules, fold-roll-Kind)

pub default_seen : (on : Template) (cases : Cases) (d : Graph) → layered_kind (kind_tree (kinds.Switch on cases (Some d)))
    ≡ layers.Choice (layered_cases (case_trees (cases_seen cases)) (layers.branch (layered (graph_tree d)) layers.no_branch))
default_seen on cases d = ap (λ k. layered_kind (kind_tree k)) (sym (rolls-Switch on cases (Some d)))
    ∙ search (rules, fold-roll-Kind, fold_out-Cases)

pub cases_seen-is : (on : Template) (cases : Cases) → layered_kind (kind_tree (kinds.Switch on cases None))
    ≡ layers.Choice (layered_cases (case_trees (cases_seen cases)) (layers.branch layers.done layers.no_branch))
cases_seen-is on cases = ap (λ k. layered_kind (kind_tree k)) (sym (rolls-Switch on cases None))
    ∙ search (rules, fold-roll-Kind, fold_out-Cases)
