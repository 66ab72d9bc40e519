use Rattle.std.proofs.Common.{◌≡◌, ◌++◌, drop}
use Rattle.wf_html.specs.Html.{escape}
use Rattle.wf_html.proofs.writing.say_bytes.Given as goal

-- what is written, and what is left of the text
abbrev pub invariant-loop-byte : goal.invariant-loop-byte
invariant-loop-byte l = l.bytes.items ++ escape (drop l.byte-index l.text) ≡ l.fn.bytes.items ++ escape l.text
