use Rattle.std.proofs.Common.{sym}
use Rattle.wf_page.proofs.WholeLemmas.{nothing_asked, serves_whole, told}
use Rattle.wf_page.proofs.serve.serve_page.Goals as goal

pub returns-in-None-clause-said : goal.returns-in-None-clause-said
returns-in-None-clause-said g c = nothing_asked _ _ _ _ _ _ _ _ _ (sym c.in-None.ensures)

pub returns-in-Some-clause-said : goal.returns-in-Some-clause-said
returns-in-Some-clause-said g c =
    serves_whole _ _ _ _ _ _ _ _ _
    (told _ _ _ _ _ _ _ _ _ (sym c.in-Some.ensures) c.answer-answered.ensures.reaches c.tell.ensures.writes) c.tell.ensures.only
