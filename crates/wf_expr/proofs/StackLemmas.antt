-- What is open, by its frames.
use Rattle.std.proofs.Common.{◌≡◌, ℕ, ◌+◌, suc, false, nat_eq, ◌&&◌, List, [], ◌∷◌, ◌++◌, length, Option, Some, None, option_map, option_to_list, IfNone, MatchOption, take, ◌-◌, refl, sym, arith}
use Rattle.wf_expr.specs.Machine as M
use Rattle.wf_expr.specs.StackSeen.{frame_seen, bottom_seen, stacked}
use Rattle.wf_expr.specs.declared.stack.Bottom.{Bottom}
use Rattle.wf_expr.specs.declared.stack.Frame.{Frame}

pub stacked_snoc : (k : M.Stack) (fs : List Frame) (f : Frame) → stacked k (fs ++ f ∷ []) ≡ M.framed (frame_seen f) (stacked k fs)
stacked_snoc k [] f = refl
stacked_snoc k (x ∷ fs) f = stacked_snoc (M.framed (frame_seen x) k) fs f

depth_framed : (f : Frame) (k : M.Stack) → M.depth (M.framed (frame_seen f) k) ≡ suc (M.depth k)
depth_framed (Frame.Call name args) k = refl
depth_framed (Frame.Key base soft) k = refl

depth_stacked : (k : M.Stack) (fs : List Frame) → M.depth (stacked k fs) ≡ M.depth k + length fs
depth_stacked k [] = omega arith
depth_stacked k (f ∷ fs) = omega (arith, depth_framed f k, depth_stacked (M.framed (frame_seen f) k) fs)

depth_bottom : (b : Bottom) → M.depth (bottom_seen b) ≡ 0
depth_bottom Bottom.Whole = refl
depth_bottom (Bottom.Part front start) = refl

pub depth_seen : (b : Bottom) (fs : List Frame) → M.depth (stacked (bottom_seen b) fs) ≡ length fs
depth_seen b fs = omega (arith, depth_bottom b, depth_stacked (bottom_seen b) fs)

top_framed : (f : Frame) (k : M.Stack) → M.top (M.framed (frame_seen f) k) ≡ Some (frame_seen f)
top_framed (Frame.Call name args) k = refl
top_framed (Frame.Key base soft) k = refl

below_framed : (f : Frame) (k : M.Stack) → M.below (M.framed (frame_seen f) k) ≡ k
below_framed (Frame.Call name args) k = refl
below_framed (Frame.Key base soft) k = refl

top_bottom : (b : Bottom) → M.top (bottom_seen b) ≡ None
top_bottom Bottom.Whole = refl
top_bottom (Bottom.Part front start) = refl

below_bottom : (b : Bottom) → M.below (bottom_seen b) ≡ bottom_seen b
below_bottom Bottom.Whole = refl
below_bottom (Bottom.Part front start) = refl

-- the innermost frame is the last
pub top_seen : (b : Bottom) (old new : List Frame) (r : Option Frame) → old ≡ new ++ option_to_list r → IfNone r (new ≡ []) → option_map frame_seen r ≡ M.top (stacked (bottom_seen b) old)
top_seen b old new None e n = rw e (rw n (sym (top_bottom b)))
top_seen b old new (Some f) e n = rw e (rw (stacked_snoc (bottom_seen b) new f) (sym (top_framed f (stacked (bottom_seen b) new))))

pub below_seen : (b : Bottom) (old new : List Frame) (r : Option Frame) → old ≡ new ++ option_to_list r → IfNone r (new ≡ []) → stacked (bottom_seen b) new ≡ M.below (stacked (bottom_seen b) old)
below_seen b old new None e n = rw e (rw n (sym (below_bottom b)))
below_seen b old new (Some f) e n = rw e (rw (stacked_snoc (bottom_seen b) new f) (sym (below_framed f (stacked (bottom_seen b) new))))

-- a frame that is open is around no part and no whole text
part_framed : (f : Frame) (k : M.Stack) → M.part_of (M.framed (frame_seen f) k) ≡ None
part_framed (Frame.Call name args) k = refl
part_framed (Frame.Key base soft) k = refl

whole_framed : (f : Frame) (k : M.Stack) → M.is_whole (M.framed (frame_seen f) k) ≡ false
whole_framed (Frame.Call name args) k = refl
whole_framed (Frame.Key base soft) k = refl

part_stacked : (k : M.Stack) (fs : List Frame) → M.part_of k ≡ None → M.part_of (stacked k fs) ≡ None
part_stacked k [] h = h
part_stacked k (f ∷ fs) h = part_stacked (M.framed (frame_seen f) k) fs (part_framed f k)

whole_stacked : (k : M.Stack) (fs : List Frame) → M.is_whole k ≡ false → M.is_whole (stacked k fs) ≡ false
whole_stacked k [] h = h
whole_stacked k (f ∷ fs) h = whole_stacked (M.framed (frame_seen f) k) fs (whole_framed f k)

pub part_under : (k : M.Stack) (fs : List Frame) → nat_eq (length fs) 0 ≡ false → M.part_of (stacked k fs) ≡ None
part_under k [] h = absurd (cc)
part_under k (f ∷ fs) h = part_stacked (M.framed (frame_seen f) k) fs (part_framed f k)

not_none : (n : ℕ) → nat_eq (suc n) 0 ≡ false
not_none n = grind arith

pub whole_seen : (b : Bottom) (fs : List Frame) → M.is_whole (stacked (bottom_seen b) fs) ≡ (M.is_whole (bottom_seen b) && nat_eq (length fs) 0)
whole_seen Bottom.Whole [] = refl
whole_seen (Bottom.Part front start) [] = refl
whole_seen Bottom.Whole (f ∷ fs) = rw (not_none (length fs)) (whole_stacked (M.framed (frame_seen f) M.whole) fs (whole_framed f M.whole))
whole_seen (Bottom.Part front start) (f ∷ fs) = whole_stacked (M.framed (frame_seen f) (bottom_seen (Bottom.Part front start))) fs (whole_framed f (bottom_seen (Bottom.Part front start)))

-- where nothing was taken, nothing is left
pub none_left : (r : Option Frame) (n m : ℕ) (old new : List Frame) → MatchOption r ((n ≡ 0) × (m ≡ 0)) (λ x. m + 1 ≡ n) → new ≡ take (n - 1) old → IfNone r (new ≡ [])
none_left None n m old new h e = rw e (rw h.0 refl)
none_left (Some f) n m old new h e = tt
