use Rattle.std.proofs.lemmas.Str.Pattern.{contains_text}
use Rattle.wf_fn_list.specs.Membership.{stands_in}
use Rattle.wf_fn_list.proofs.TextLemmas.{stands-is_cut, same-test}
use Rattle.wf_fn_list.proofs.membership.stands_in.Goals as goal

-- both say that the text is cut round the part
pub returns : goal.returns
returns c =
    let found = contains_text c.contains.result c.args.part.now c.args.text.now c.contains.ensures.cases in
    let cut = stands-is_cut c.args.part.now c.args.text.now in
    same-test c.contains.result (stands_in c.args.part.now c.args.text.now) (λ yes. cut.1 (found.0 yes)) (λ yes. found.1 (cut.0 yes))
