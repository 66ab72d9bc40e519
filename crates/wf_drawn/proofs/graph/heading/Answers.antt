use Rattle.std.proofs.Common.{◌≡◌, ◌++◌, ℕ, List, Option, Bool, IfOk, map, option_map, subst, sym, ap, ◌∙◌}
use Rattle.wf_def.specs.ActionSeen.{kind_tree}
use Rattle.wf_html.specs.Html.{Piece, with_text, written}
use Rattle.wf_html.specs.declared.tag.Tag.{Tag}
use Rattle.wf_record.specs.Record.{RowTree}
use Rattle.wf_record.specs.Seen.{record_tree, row_tree}
use Rattle.wf_shown.specs.Rows.{rows_pieces}
use Rattle.wf_drawn.proofs.DrawnLemmas.{step}
use Rattle.wf_drawn.specs.After.{afters}
use Rattle.wf_drawn.specs.Drawn.{heading}
use Rattle.wf_drawn.specs.Kinds.{closes, kind_word}
use Rattle.wf_drawn.proofs.graph.heading.Goals as goal

pub returns : goal.returns
unfolding heading
returns c =
    let name : List ℕ = c.args.name.now in
    let word : List ℕ = kind_word (kind_tree c.args.kind.now) in
    let earlier : Option (List RowTree) = option_map (λ r. (record_tree r.now).rows) c.args.earlier in
    let rows : Bool → List Piece = λ q. rows_pieces q earlier (map row_tree c.args.rows.now) in
    let b : List ℕ = c.args.bytes.items in
    let b1 : List ℕ = c.in_ok-bytes.bytes.items in
    let b2 : List ℕ = c.in_ok-bytes-2.bytes.items in
    let b3 : List ℕ = c.in_ok-bytes-3.bytes.items in
    let last : List Piece = rows (closes (kind_tree c.args.kind.now)) in
    let third : List Piece = afters c.args.after.now ++ last in
    let e1 : b1 ≡ written b (with_text Tag.Name name) = c.in_ok-bytes.ensures ∙ ap (λ (n : List ℕ). written b (with_text Tag.Name n)) c.as_str.ensures in
    let e2 : b2 ≡ written b1 (with_text Tag.Kind word) = c.in_ok-bytes-2.ensures ∙ ap (λ (n : List ℕ). written b1 (with_text Tag.Kind n)) c.kind_word.ensures in
    let whole =
    step b b1 (with_text Tag.Name name) (with_text Tag.Kind word ++ third) e1
    ∙ step b1 b2 (with_text Tag.Kind word) third e2
    ∙ step b2 b3 (afters c.args.after.now) last c.in_ok-bytes-3.ensures
    ∙ ap (λ (q : Bool). written b3 (rows q)) (sym c.closes.ensures) in
    subst (λ (x : List ℕ). IfOk c.show_rows.result (λ y. y.items ≡ x)) (sym whole) c.show_rows.ensures
