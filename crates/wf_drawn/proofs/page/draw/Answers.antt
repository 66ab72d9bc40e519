use Rattle.std.proofs.Common.{◌≡◌, ℕ, List, IfOk, option_map, subst, sym, ap, ◌∙◌}
use Rattle.wf_def.specs.ActionSeen.{graph_tree}
use Rattle.wf_html.specs.Html.{with_text, written}
use Rattle.wf_html.specs.declared.tag.Tag.{Tag}
use Rattle.wf_record.specs.Seen.{record_tree}
use Rattle.wf_drawn.proofs.DrawnLemmas.{drawn_page, earlier_rows}
use Rattle.wf_drawn.specs.Page.{page}
use Rattle.wf_drawn.proofs.page.draw.Goals as goal

pub returns : goal.returns
unfolding page
returns c =
    let b1 : List ℕ = c.in_ok-bytes.bytes.items in
    let title = c.in_ok-bytes-2.ensures ∙ ap (λ (n : List ℕ). written b1 (with_text Tag.Title n)) c.as_str.ensures in
    let whole = drawn_page (graph_tree c.args.graph.now) (record_tree c.args.log.now) (option_map (λ r. record_tree r.now) c.args.earlier)
    (option_map (λ r. (record_tree r.now).rows) c.args.earlier) c.deref.result.now
    c.new.result.items b1 c.in_ok-bytes-2.bytes.items c.in_ok-bytes-3.bytes.items c.in_ok-bytes-4.bytes.items c.in_ok-bytes-5.bytes.items
    c.in_ok-bytes-6.bytes.items c.new.ensures.items (earlier_rows c.args.earlier) (c.deref.ensures.value ∙ c.in_ok-levels.ensures)
    c.in_ok-bytes.ensures title c.in_ok-bytes-3.ensures c.in_ok-bytes-4.ensures c.in_ok-bytes-5.ensures c.in_ok-bytes-6.ensures in
    subst (λ (x : List ℕ). IfOk c.close-2.result (λ y. y.items ≡ x)) (sym whole) c.close-2.ensures
