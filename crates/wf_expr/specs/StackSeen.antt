-- What is open, as the machine sees it.
use Rattle.std.specs.Prelude.{ℕ, List, [], ◌∷◌}
use Rattle.wf_expr.specs.Reading.{Item}
use Rattle.wf_expr.specs.Machine as M
use Rattle.wf_expr.specs.FrontSeen.{items_seen}
use Rattle.wf_expr.specs.declared.front.Front.{Front}
use Rattle.wf_expr.specs.declared.stack.Bottom.{Bottom}
use Rattle.wf_expr.specs.declared.stack.Frame.{Frame}
use Rattle.wf_expr.specs.declared.stack.Stack.{Stack}

abbrev pub frame_seen : Frame → M.Opened
frame_seen (Frame.Call name args) = M.open_call name args
frame_seen (Frame.Key base soft) = M.open_key base soft

abbrev pub bottom_seen : Bottom → M.Stack
bottom_seen Bottom.Whole = M.whole
bottom_seen (Bottom.Part front start) = M.in_part (items_seen front) start

-- each frame stands on those before it
abbrev pub stacked : M.Stack → List Frame → M.Stack
stacked k [] = k
stacked k (f ∷ fs) = stacked (M.framed (frame_seen f) k) fs

abbrev pub stack_seen : Stack → M.Stack
stack_seen s = stacked (bottom_seen s.bottom) s.frames.items

abbrev pub part_seen : Front × ℕ → List Item × ℕ
part_seen p = (items_seen p.0, p.1)
