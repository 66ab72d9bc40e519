use Rattle.std.proofs.Common.{◌≡◌, ◌++◌, drop, map}
use Rattle.std.specs.Prelude.{flat_map}
use Rattle.wf_talk.specs.Keys.{key_line}
use Rattle.wf_talk.specs.Seen.{want_key}
use Rattle.wf_talk.proofs.texts.key_lines.Given as goal

-- the lines of the attempts so far, before those of the others
abbrev pub invariant-loop-want : goal.invariant-loop-want
invariant-loop-want l =
    l.lines.items ++ flat_map (key_line l.word) (map want_key (drop l.want-index l.wants)) ≡ flat_map (key_line l.word)
    (map want_key l.wants)
