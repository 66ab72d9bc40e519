use Rattle.std.proofs.Common.{◌≡◌, map, ap, ◌∙◌, subst}
use Rattle.std.proofs.lemmas.List.{length-map}
use Rattle.wf_val.specs.Arguments.{Gives, seen}
use Rattle.wf_fn_list.specs.Parts.{join_row}
use Rattle.wf_functions.specs.Rows.{texts_in}
use Rattle.wf_functions.proofs.rows.join.Goals as goal

-- there are as many texts as arguments
pub f_join-requires : goal.f_join-requires
f_join-requires c =
    let whole : c.in_ok-texts.texts ≡ map texts_in c.args.args.now = c.in_ok-texts.ensures ∙ ap (map texts_in) c.as_slice.ensures in
    rw whole (length-map c.args.args.now texts_in ∙ c.requires)

pub returns : goal.returns
returns c =
    let whole : c.in_ok-texts.texts ≡ map texts_in c.args.args.now = c.in_ok-texts.ensures ∙ ap (map texts_in) c.as_slice.ensures in
    subst (λ xs. Gives (seen c.f_join.result) (join_row xs)) whole c.f_join.ensures
