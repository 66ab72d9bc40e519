use Rattle.std.proofs.Common.{◌≡◌, ◌∙◌, ◌<◌, [], length, arith}
use Rattle.std.proofs.lemmas.List.{get_or_default}
use Rattle.wf_top.specs.Words.{word}
use Rattle.wf_top.proofs.LengthLemmas.{session_length}
use Rattle.wf_top.proofs.TalkBegun.{begins_talk, said_before}
use Rattle.wf_top.proofs.obey.talk.Goals as goal

-- the words are `session`, and the names of its files
pub returns-in-Ok-Talk-clause-served : goal.returns-in-Ok-Talk-clause-served
returns-in-Ok-Talk-clause-served g c =
    let words = c.args.words.now in
    let longer : 2 < length words = session_length words c.requires in
    let first : c.index-words-1.result ≡ word words 1 =
    c.index-words-1.is ∙ get_or_default words 1 c.index-words-1.result [] (omega (arith, longer)) in
    let second : c.index-words-2.result ≡ word words 2 =
    c.index-words-2.is ∙ get_or_default words 2 c.index-words-2.result [] longer in
    begins_talk _ words _ _ _ _ c.requires first second c.in-Ok-Talk.checked c.in-Ok-Talk.start c.in-Ok-Talk.inputs
    (rw c.in-Ok-Talk.field-0-is at c.in-Ok-Talk.ensures.opens) _ _ _ _ _ _ _
    c.converse.ensures.talks c.converse.ensures.three c.converse.ensures.source

pub returns-in-Ok-Said-clause-served : goal.returns-in-Ok-Said-clause-served
returns-in-Ok-Said-clause-served g c =
    let words = c.args.words.now in
    let longer : 2 < length words = session_length words c.requires in
    let first : c.index-words-1.result ≡ word words 1 =
    c.index-words-1.is ∙ get_or_default words 1 c.index-words-1.result [] (omega (arith, longer)) in
    let second : c.index-words-2.result ≡ word words 2 =
    c.index-words-2.is ∙ get_or_default words 2 c.index-words-2.result [] longer in
    said_before _ words _ _ _ _ c.requires first second _ _ _ _ _
    (c.tell.ensures.serves _ _ _ _ (rw c.in-Ok-Said.field-0-is at c.in-Ok-Said.ensures.opens))

pub returns-in-Err-clause-served : goal.returns-in-Err-clause-served
returns-in-Err-clause-served g c =
    let words = c.args.words.now in
    let longer : 2 < length words = session_length words c.requires in
    let first : c.index-words-1.result ≡ word words 1 =
    c.index-words-1.is ∙ get_or_default words 1 c.index-words-1.result [] (omega (arith, longer)) in
    let second : c.index-words-2.result ≡ word words 2 =
    c.index-words-2.is ∙ get_or_default words 2 c.index-words-2.result [] longer in
    said_before _ words _ _ _ _ c.requires first second _ _ _ _ _
    (c.tell-in-Err.ensures.serves _ _ _ _ c.in-Err.ensures.opens)
