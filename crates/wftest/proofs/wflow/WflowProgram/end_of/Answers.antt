use Rattle.std.proofs.Common.{ℕ, List, sym, subst, ◌∙◌}
use Rattle.wf_outside.specs.MemFiles.{files_held}
use Rattle.wf_top.specs.Served.{Say}
use Rattle.wftest.proofs.SaidLemmas.{no_session, whole_said}
use Rattle.wftest.proofs.wflow.WflowProgram.end_of.Goals as goal

pub returns : goal.returns
returns c =
    let s = c.serve_words-status in
    subst (λ (t : List ℕ). Say (files_held c.args.files.now) c.args.words.now s.result t) (sym c.into_bytes.ensures)
    (whole_said _ _ _ _ _ _ _ _ _ (no_session c.args.words.now c.requires) c.new-kept.ensures.taken
    c.new-kept.ensures.faults s.ensures.said s.ensures.unread s.ensures.unwritten
    (sym c.is_short_of_memory.ensures ∙ c.if-is_short_of_memory.false))
