-- WHAT IS MADE OF THE NEXT WORD of a look.
use Rattle.std.specs.Prelude.{Result, Ok, Err}
use Rattle.wf_val.specs.declared.fault.EvalFault.{EvalFault}
use Rattle.wf_functions.specs.Draws.{made}
use Rattle.wf_functions.specs.Rows.{fitted}
use Rattle.wf_functions.specs.declared.draw.Draw.{Draw}
use Rattle.wf_look.specs.Outcomes.{Run}
use Rattle.wf_look.specs.Told.{Told, raised, next_word}

-- what is made of the next word, where there is something to make; else none is drawn
abbrev pub drawn : Told → Result Draw EvalFault → Run
drawn l (Ok d) n = (fitted (Ok (made d (next_word l n))), raised n)
drawn l (Err f) n = (Err f, n)
