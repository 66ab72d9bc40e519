use Rattle.std.proofs.Common.{rules, ◌≡◌, ◌++◌, string_bytes, sym, ap, ◌∙◌}
use Rattle.wf_expr.specs.FrontSeen.{lettered, sections_pieces}
use Rattle.wf_template.specs.TemplateSeen.{pieces_seen}
use Rattle.wf_template.specs.TemplateTree.{plain, parts}
use Rattle.wf_expr.proofs.PieceLemmas.{plain_seen, parts_seen}
use Rattle.wf_expr.proofs.front.Front.into_template.Goals as goal

pub returns-then-is_empty : goal.returns-then-is_empty
returns-then-is_empty c = ap plain c.from_string.ensures ∙ sym (plain_seen c.args.self.sections.items c.args.self.literal (search rules))

pub returns : goal.returns
returns c =
    let all : pieces_seen c.push_literal.new.pieces ≡ sections_pieces c.args.self.sections.items ++ lettered (string_bytes c.args.self.literal) = search rules in
    ap parts all ∙ sym (parts_seen c.args.self.sections.items c.args.self.literal (search rules))
