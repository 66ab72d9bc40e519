-- A graph that is open in a state is open in each state that is further, or all in it is there.
use Rattle.std.proofs.Common.{◌≡◌, ℕ, ◌<◌, ◌≤◌, true, List, [], ◌∷◌, ◌++◌, Some, ◌⊎◌, inl, inr, ⊎_elim, ap, ◌∙◌, arith, length}
use Rattle.wf_layers.specs.Definition.{Need, Kind, Scope, Choice, Foreach, Until, Graph, branch_at, IsBefore}
use Rattle.wf_layers.specs.Address.{Address, address, SeenIn, is_in, is_within}
use Rattle.wf_layers.specs.Source.{Source}
use Rattle.wf_layers.specs.Meaning.{meaning}
use Rattle.wf_layers.specs.Facts.{Settled}
use Rattle.wf_layers.specs.Machine.{Opening, State, In, IsOpen, top, scope, chosen, turn, round}
use Rattle.wf_layers.proofs.Basics.{held_in}
use Rattle.wf_layers.proofs.Open.{open_sub, placed_in, kind_there, outer}
use Rattle.wf_layers.proofs.Places.{within_of}
use Rattle.wf_layers.proofs.Tables.{taken_within}
use Rattle.wf_kept.specs.Reached.{IsReached}
use Rattle.wf_kept.proofs.Informed.{reached_facts}
use Rattle.wf_kept.proofs.Known.{Known, known}
use Rattle.wf_one_quiet.specs.Behind.{IsBehind}

module _ {Row Begun Decision Verdict : Type 0} (d : Graph) (depth : ℕ → ℕ) (m : Source Row Begun Decision Verdict)
    (s : State Row Begun Decision Verdict) (rs : IsReached d depth m s) (q : State Row Begun Decision Verdict) (rq : IsReached d depth m q)
    (behind : IsBehind s q) where
  k : Known d depth m s
  k = known d depth m s rs

  abbrev OpenOrSettled : Graph → List ℕ → Type 0
  OpenOrSettled g i = IsOpen m.taken d q.opens g i ⊎ Settled m (meaning m depth d) q.rows g i

  pub in_graph : (g : Graph) (i : List ℕ) (n : ℕ) (after : List Need) (kind : Kind) → IsOpen m.taken d s.opens g i → In g n after kind
      → (y : Address) → is_in n kind i y ≡ true → is_within g i y ≡ true
  in_graph g i n after kind og st y e =
      within_of m (IsBefore d) (SeenIn d) (length i) g n after kind
      (placed_in m d k.so (meaning m depth d) k.sol (length i) g n after kind
      (open_sub m d k.so (meaning m depth d) k.sol s.opens g i og) st)
      i y e

  -- from a graph to one in a container of it
  into : (g h : Graph) (i l : List ℕ) (n : ℕ) (after : List Need) (kind : Kind) (w : Opening Decision Verdict)
      → IsOpen m.taken d s.opens g i → In g n after kind → s.opens (address n i) ≡ Some w
      → ((y : Address) → is_within h l y ≡ true → is_in n kind i y ≡ true)
      → (IsOpen m.taken d q.opens g i → (v : Opening Decision Verdict) → q.opens (address n i) ≡ Some v → v.decision ≡ w.decision
      → w.next ≤ v.next → IsOpen m.taken d q.opens h l)
      → OpenOrSettled g i → OpenOrSettled h l
  into g h i l n after kind w og st e inner again (inr settled) =
      inr (λ y z. settled y (in_graph g i n after kind og st y (inner y z)))
  into g h i l n after kind w og st e inner again (inl opened) =
      ⊎_elim
      (λ row. inr (λ y z. (reached_facts d depth m q rq).whole n i row.0 kind row.1
      (kind_there m d k.so (meaning m depth d) k.sol s.opens g i n after kind og st).0 y (inner y z)))
      (λ v. inl (again opened v.0 v.1 v.2.0 (further v.0 v.2.1)))
      (behind.opens (address n i) w e)
    where
      further : (v : Opening Decision Verdict) → (w.next < v.next)
          ⊎ ((w.next ≡ v.next) × ((t : Verdict) → w.test ≡ Some t → v.test ≡ Some t)) → w.next ≤ v.next
      further v (inl lt) = omega (arith, lt)
      further v (inr same) = let e = same.0 in omega (arith, e)

  pub still_open : (g : Graph) (i : List ℕ) → IsOpen m.taken d s.opens g i → OpenOrSettled g i
  still_open _ _ top = inl top
  still_open _ i (scope {g = g} {h = h} {n = n} {after = after} {w = w} og st e) =
      into g h i i n after (Scope h) w og st e (λ y z. held_in n (Scope h) i y z) (λ og' v e' dec le. scope og' st e') (still_open g i og)
  still_open _ i (chosen {g = g} {b = b} {n = n} {after = after} {bs = bs} {w = w} og st e is) =
      into g b i i n after (Choice bs) w og st e
      (λ y z. held_in n (Choice bs) i y (taken_within b bs (m.taken w.decision) is i y z))
      (λ og' v e' dec le. chosen og' st e' (ap (λ p. branch_at bs (m.taken p)) dec ∙ is)) (still_open g i og)
  still_open _ _ (turn {g = g} {h = h} {i = i} {n = n} {after = after} {pace = pace} {w = w} j og st e lt) =
      into g h i (i ++ j ∷ []) n after (Foreach pace h) w og st e
      (λ y z. held_in n (Foreach pace h) i y (outer m d k.so (meaning m depth d) k.sol h i j y z))
      (λ og' v e' dec le. turn j og' st e' (omega (arith, lt, le))) (still_open g i og)
  still_open _ _ (round {g = g} {h = h} {i = i} {n = n} {most = most} {after = after} {w = w} j og st e lt) =
      into g h i (i ++ j ∷ []) n after (Until most h) w og st e
      (λ y z. held_in n (Until most h) i y (outer m d k.so (meaning m depth d) k.sol h i j y z))
      (λ og' v e' dec le. round j og' st e' (omega (arith, lt, le))) (still_open g i og)
