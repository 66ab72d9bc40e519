use Rattle.wf_page.proofs.judging.by_log.Goals as goal

-- the page of the record, whatever the record's values are
pub returns-in-Found : goal.returns-in-Found
returns-in-Found c = rw c.in-Found.is c.by_earlier.ensures
