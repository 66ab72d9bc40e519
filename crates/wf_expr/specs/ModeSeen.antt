-- Where the reader stands, as the machine sees it.
use Rattle.std.specs.Prelude.{Option, Some, None, string_bytes}
use Rattle.wf_expr.specs.Machine as M
use Rattle.wf_expr.specs.FrontSeen.{items_seen}
use Rattle.wf_expr.specs.StackSeen.{stack_seen}
use Rattle.wf_expr.specs.declared.mode.Mode.{Mode}
use Rattle.wf_expr.specs.declared.stack.Stack.{Stack}

abbrev pub mode_seen : Mode → M.Mode
mode_seen Mode.Start = M.at_start
mode_seen (Mode.Sign sign) = M.at_sign sign
mode_seen (Mode.Plain front) = M.plain (items_seen front)
mode_seen (Mode.OneAt front sign) = M.one_at (items_seen front) sign
mode_seen (Mode.TwoAt front sign next) = M.two_at (items_seen front) sign next
mode_seen Mode.First = M.at_first
mode_seen (Mode.Args name) = M.at_args name
mode_seen Mode.Minus = M.at_minus
mode_seen (Mode.Int digits) = M.in_int digits.0 digits.1
mode_seen (Mode.Quoted text) = M.in_quoted (string_bytes text)
mode_seen (Mode.Quote text) = M.at_quote (string_bytes text)
mode_seen (Mode.Name name) = M.in_name (string_bytes name)
mode_seen (Mode.Named name) = M.at_named (string_bytes name)
mode_seen (Mode.After base) = M.after base
mode_seen (Mode.Soft base) = M.at_soft base
mode_seen (Mode.Dot base soft) = M.at_dot base soft
mode_seen (Mode.Member base soft name) = M.in_member base soft (string_bytes name)

-- the state, unless the character was refused
abbrev pub state_seen : Option Mode → Stack → Option M.State
state_seen None k = None
state_seen (Some m) k = Some (mode_seen m, stack_seen k)
