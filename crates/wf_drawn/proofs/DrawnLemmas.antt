-- A further level behind those that are drawn.
use Rattle.std.proofs.Common.{◌≡◌, ℕ, suc, ◌+◌, Bool, true, nat_eq, cond, List, [], ◌∷◌, ◌++◌, Option, None, Some, option_map, Bor, refl, sym, ap, ◌∙◌, add-one}
use Rattle.std.proofs.lemmas.Bool.{eq-eqb}
use Rattle.wf_def.specs.ActionTree.{action, ActionTrees, KindTree}
use Rattle.wf_def.specs.declared.after.After.{After}
use Rattle.wf_html.proofs.PieceLemmas.{written_append}
use Rattle.wf_html.specs.Html.{Piece, opened, closed, with_text, written}
use Rattle.wf_html.specs.declared.tag.Look.{Look}
use Rattle.wf_html.specs.declared.tag.Tag.{Tag}
use Rattle.wf_drawn.specs.Drawn.{box, each_level, graph_pieces, heading, inside, kind_pieces, level_piece}
use Rattle.wf_drawn.specs.Levels.{level_at, levels}
use Rattle.wf_drawn.specs.Page.{header, page_pieces}
use Rattle.wf_drawn.specs.Views.{ViewTree}
use Rattle.wf_record.specs.Record.{RecordTree, RowTree}
use Rattle.wf_record.specs.Seen.{record_tree}
use Rattle.wf_record.specs.declared.record.Record.{Record}
use Rattle.wf_shown.specs.Looks.{look_of_rows}
use Rattle.wf_shown.specs.Rows.{rows_of}
use Rattle.wf_template.specs.DataTree.{DataMember}

-- what is written of three parts in turn
three : (b b1 b2 b3 : List ℕ) (ps qs rs : List Piece) → b1 ≡ written b ps → b2 ≡ written b1 qs → b3 ≡ written b2 rs
    → b3 ≡ written b (ps ++ (qs ++ rs))
three b b1 b2 b3 ps qs rs e1 e2 e3 =
    e3 ∙ ap (λ x. written x rs) (e2 ∙ ap (λ x. written x qs) e1) ∙ sym (written_append (written b ps) qs rs) ∙ sym (written_append b ps (qs ++ rs))

pub level_more : (start : List ℕ) (f : ℕ → List Piece) (k : ℕ) (b b1 b2 b3 : List ℕ)
    → b ≡ written start (opened Tag.Graph ∷ each_level k f)
    → b1 ≡ written b (opened Tag.Level ∷ []) → b2 ≡ written b1 (f k) → b3 ≡ written b2 (closed Tag.Level ∷ [])
    → b3 ≡ written start (opened Tag.Graph ∷ each_level (k + 1) f)
level_more start f k b b1 b2 b3 is e1 e2 e3 =
    rw add-one (
    three b b1 b2 b3 (opened Tag.Level ∷ []) (f k) (closed Tag.Level ∷ []) e1 e2 e3
    ∙ ap (λ x. written x (inside Tag.Level (f k))) is
    ∙ sym (written_append start (opened Tag.Graph ∷ each_level k f) (inside Tag.Level (f k)))
    )

-- what is written of some pieces, and then of the rest
pub step : (b b1 : List ℕ) (ps rest : List Piece) → b1 ≡ written b ps → written b (ps ++ rest) ≡ written b1 rest
step b b1 ps rest e = written_append b ps rest ∙ ap (λ x. written x rest) (sym e)

-- what is written in a tag
pub step_inside : (b b1 b2 : List ℕ) (t : Tag) (ps : List Piece) → b1 ≡ written b (opened t ∷ []) → b2 ≡ written b1 ps
    → written b (inside t ps) ≡ written b2 (closed t ∷ [])
step_inside b b1 b2 t ps e1 e2 = step b b1 (opened t ∷ []) (ps ++ closed t ∷ []) e1 ∙ step b1 b2 ps (closed t ∷ []) e2

pub two_inside : (b b1 b2 b3 : List ℕ) (t : Tag) (ps qs : List Piece) → b1 ≡ written b (opened t ∷ []) → b2 ≡ written b1 ps
    → b3 ≡ written b2 qs → written b (inside t (ps ++ qs)) ≡ written b3 (closed t ∷ [])
two_inside b b1 b2 b3 t ps qs e1 e2 e3 =
    step_inside b b1 b3 t (ps ++ qs) e1 (e3 ∙ ap (λ x. written x qs) e2 ∙ sym (written_append b1 ps qs))

-- what is written of an action that stands on the level
pub drawn_action : (v : ViewTree) (k : ℕ) (name : List ℕ) (number : ℕ) (pointer : List ℕ) (after : List After) (kind : KindTree)
    (tracked : List DataMember) (rows : List RowTree) (look : Look) (b b1 b2 b3 : List ℕ)
    → level_at v.levels number ≡ k → rows ≡ rows_of name v.rows → look ≡ look_of_rows rows
    → b1 ≡ written b (opened (Tag.Box look) ∷ []) → b2 ≡ written b1 (heading v.earlier name after kind rows)
    → b3 ≡ written b2 (kind_pieces v kind)
    → written b (level_piece v k (action name number pointer after kind tracked)) ≡ written b3 (closed (Tag.Box look) ∷ [])
drawn_action v k name number pointer after kind tracked rows look b b1 b2 b3 here own looks e1 e2 e3 =
    let graphs : List Piece = kind_pieces v kind in
    ap (λ (q : Bool). written b (cond q (box v name after kind graphs) [])) (eq-eqb (level_at v.levels number) k here)
    ∙ ap (λ (rs : List RowTree). written b (inside (Tag.Box (look_of_rows rs)) (heading v.earlier name after kind rs ++ graphs))) (sym own)
    ∙ ap (λ (l : Look). written b (inside (Tag.Box l) (heading v.earlier name after kind rows ++ graphs))) (sym looks)
    ∙ two_inside b b1 b2 b3 (Tag.Box look) (heading v.earlier name after kind rows) graphs e1 e2 e3

-- the rows of an earlier record
pub earlier_rows : (o : Option (Bor Record)) → option_map (λ r. (record_tree r.now).rows) o
    ≡ option_map (λ (old : RecordTree). old.rows) (option_map (λ r. record_tree r.now) o)
earlier_rows None = refl
earlier_rows (Some r) = refl

-- what is written of a whole page
pub drawn_page : (graph : ActionTrees) (r : RecordTree) (e : Option RecordTree) (earlier : Option (List RowTree)) (ls : List ℕ)
    (b b1 b2 b3 b4 b5 b6 : List ℕ) → b ≡ [] → earlier ≡ option_map (λ old. old.rows) e → ls ≡ levels graph
    → b1 ≡ written b (opened Tag.Page ∷ []) → b2 ≡ written b1 (with_text Tag.Title r.run) → b3 ≡ written b2 (opened Tag.Body ∷ [])
    → b4 ≡ written b3 (header r e) → b5 ≡ written b4 (graph_pieces (record { rows = r.rows; earlier = earlier; levels = ls }) graph)
    → b6 ≡ written b5 (closed Tag.Body ∷ [])
    → written [] (page_pieces graph r e) ≡ written b6 (closed Tag.Page ∷ [])
drawn_page graph r e earlier ls b b1 b2 b3 b4 b5 b6 empty rows stand e1 e2 e3 e4 e5 e6 =
    let view : Option (List RowTree) → List ℕ → ViewTree = λ es ns. record { rows = r.rows; earlier = es; levels = ns } in
    let title : List Piece = with_text Tag.Title r.run in
    let body : ViewTree → List Piece = λ v. inside Tag.Body (header r e ++ graph_pieces v graph) in
    let seen = ap (λ es. view es ls) rows ∙ ap (λ ns. view (option_map (λ (old : RecordTree). old.rows) e) ns) stand in
    let inner = two_inside b2 b3 b4 b5 Tag.Body (header r e) (graph_pieces (view earlier ls) graph) e3 e4 e5 in
    ap (λ (x : List ℕ). written x (page_pieces graph r e)) (sym empty)
    ∙ ap (λ (v : ViewTree). written b (inside Tag.Page (title ++ body v))) (sym seen)
    ∙ two_inside b b1 b2 b6 Tag.Page title (body (view earlier ls)) e1 e2 (e6 ∙ sym inner)
