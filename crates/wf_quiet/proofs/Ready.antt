-- What is enabled, and what is counted, is the same by the source that knows more.
use Rattle.std.proofs.Common.{◌≡◌, ℕ, zero, suc, ◌&&◌, cond, not, List, [], ◌∷◌, ◌++◌, Option, Some, None, refl, ap, ◌∙◌, subst, nat_lt}
use Rattle.wf_layers.specs.Definition.{Need, Kind, Leaf, Scope, Choice, Foreach, Until, Branches, no_branch, branch, Graph, done, add, is_one, less_one, branch_at}
use Rattle.wf_layers.specs.Address.{Address, address, Table, starts, is_own, is_in, is_within}
use Rattle.wf_layers.specs.Source.{Source, all_met, is_met, gate}
use Rattle.wf_layers.specs.Meaning.{sides}
use Rattle.wf_layers.specs.Machine.{Running, Opening, State, Event, Try, End, Skip, Close, has_ended, all_ended, IsThere}
use Rattle.wf_layers.specs.Enabled.{branch_ended, of_test, of_open, begins, of_idle, of_opening, of_busy, own_event, event_in, event_any, events}
use Rattle.wf_layers.specs.Answered.{with_leaves}
use Rattle.wf_layers.proofs.Basics.{cond_same, only_same}
use Rattle.wf_kept.specs.Counted.{AreCounts}
use Rattle.wf_kept.specs.Event.{AreLeft}
use Rattle.wf_kept.specs.Ready.{IsReady}
use Rattle.wf_quiet.specs.Quiet.{Answers, MadeAreAnswered, KnowsMore}

-- by what attempts come to at the running leaves
module _ {Row Begun Decision Verdict : Type 0} (more : Source Row Begun Decision Verdict) (tries : Address → Begun → ℕ)
    (finish : Address → Begun → Table Row → Row) (s : State Row Begun Decision Verdict)
    (alike : (x : Address) (w : Running Begun) → s.running x ≡ Some w → nat_lt w.tries (tries x w.begun) ≡ nat_lt w.tries
    (more.tries x w.begun)) where
  abbrev old : Source Row Begun Decision Verdict
  old = with_leaves more tries finish

  met_same : (after : List Need) (i : List ℕ) → all_met old after i s.rows ≡ all_met more after i s.rows
  met_same [] i = refl
  met_same (n ∷ ns) i =
      ap (λ b. b && all_met old ns i s.rows) (one_same (s.rows (address n.name i)))
      ∙ ap (λ b. is_met more n.listed (s.rows (address n.name i)) && b) (met_same ns i)
    where
      one_same : (o : Option Row) → is_met old n.listed o ≡ is_met more n.listed o
      one_same None = refl
      one_same (Some r) = refl

  gate_same : (after : List Need) (n : ℕ) (i : List ℕ) → gate old after n i s.rows ≡ gate more after n i s.rows
  gate_same after n i = ap (λ b. b && not (more.halts (address n i) s.rows)) (met_same after i)

  begins_same : (kind : Kind) (n : ℕ) (i : List ℕ) → begins old s kind n i ≡ begins more s kind n i
  begins_same Leaf n i = refl
  begins_same (Scope g) n i = refl
  begins_same (Choice bs) n i = refl
  begins_same (Foreach pace g) n i = refl
  begins_same (Until most g) n i = refl

  branch_same : (o : Option Graph) (i : List ℕ) → branch_ended old s o i ≡ branch_ended more s o i
  branch_same None i = refl
  branch_same (Some b) i = refl

  test_same : (g : Graph) (most n : ℕ) (i : List ℕ) (next : ℕ) (test : Option Verdict)
      → of_test old s g most n i next test ≡ of_test more s g most n i next test
  test_same g most n i next (Some v) = refl
  test_same g most n i zero None = refl
  test_same g most n i (suc j) None = refl

  open_same : (kind : Kind) (n : ℕ) (i : List ℕ) (w : Opening Decision Verdict) → of_open old s kind n i w ≡ of_open more s kind n i w
  open_same Leaf n i w = refl
  open_same (Scope g) n i w = refl
  open_same (Choice bs) n i w = ap (λ b. cond b (Some (Close n i)) None) (branch_same (branch_at bs (more.taken w.decision)) i)
  open_same (Foreach pace g) n i w = refl
  open_same (Until most g) n i w = test_same g most n i w.next w.test

  idle_same : (after : List Need) (kind : Kind) (n : ℕ) (i : List ℕ) → of_idle old s after kind n i ≡ of_idle more s after kind n i
  idle_same after kind n i =
      ap (λ e. cond (all_ended after i s.rows) (Some e) None)
      (ap (λ b. cond b (begins old s kind n i) (Skip n i)) (gate_same after n i)
      ∙ ap (λ e. cond (gate more after n i s.rows) e (Skip n i)) (begins_same kind n i))

  opening_same : (after : List Need) (kind : Kind) (n : ℕ) (i : List ℕ) (o : Option (Opening Decision Verdict))
      → of_opening old s after kind n i o ≡ of_opening more s after kind n i o
  opening_same after kind n i None = idle_same after kind n i
  opening_same after kind n i (Some w) = open_same kind n i w

  busy_same : (after : List Need) (kind : Kind) (n : ℕ) (i : List ℕ) (o : Option (Running Begun)) → s.running (address n i) ≡ o
      → of_busy old s after kind n i o ≡ of_busy more s after kind n i o
  busy_same after kind n i None e = opening_same after kind n i (s.opens (address n i))
  busy_same after kind n i (Some w) e = ap (λ b. Some (cond b (Try n i) (End n i))) (alike (address n i) w e)

  own_same : (after : List Need) (kind : Kind) (n : ℕ) (i : List ℕ) → own_event old s after kind n i ≡ own_event more s after kind n i
  own_same after kind n i =
      ap (λ o. cond (has_ended (s.rows (address n i))) None o) (busy_same after kind n i (s.running (address n i)) refl)

  sides_same : (c : ℕ) (i : List ℕ) (h k : ℕ → Table Event → Table Event) (x : Address) → ((j : ℕ) (z : Table Event) → h j z x ≡ k j z x)
      → sides c i h (λ y. None) x ≡ sides c i k (λ y. None) x
  sides_same zero i h k x e = refl
  sides_same (suc c) i h k x e =
      cond_same (starts (i ++ c ∷ []) x.at) _ _ _ _ (λ q. e c (λ y. None)) (λ q. sides_same c i h k x e)

  mutual
    in_same : (kind : Kind) (i : List ℕ) (o : Option (Opening Decision Verdict)) (x : Address)
        → event_in old s kind i o x ≡ event_in more s kind i o x
    in_same Leaf i o x = refl
    in_same (Scope g) i None x = refl
    in_same (Choice bs) i None x = refl
    in_same (Foreach pace g) i None x = refl
    in_same (Until most g) i None x = refl
    in_same (Scope g) i (Some w) x = only_same (is_within g i x) _ _ (λ q. events_same g i x)
    in_same (Choice bs) i (Some w) x = any_same bs (more.taken w.decision) i x
    in_same (Foreach pace g) i (Some w) x = sides_same w.next i _ _ x (λ j z. events_same g (i ++ j ∷ []) x)
    in_same (Until most g) i (Some w) x = sides_same w.next i _ _ x (λ j z. events_same g (i ++ j ∷ []) x)

    any_same : (bs : Branches) (c : ℕ) (i : List ℕ) (x : Address) → event_any old s bs c i x ≡ event_any more s bs c i x
    any_same no_branch c i x = refl
    any_same (branch b rest) c i x =
        cond_same (is_within b i x) _ _ _ _ (λ q. only_same (is_one c) _ _ (λ z. events_same b i x))
        (λ q. any_same rest (less_one c) i x)

    events_same : (g : Graph) (i : List ℕ) (x : Address) → events old s g i x ≡ events more s g i x
    events_same done i x = refl
    events_same (add n after kind rest) i x =
        cond_same (is_in n kind i x) _ _ _ _
        (λ q. cond_same (is_own n i x) _ _ _ _ (λ z. own_same after kind n i) (λ z. in_same kind i (s.opens (address n i)) x))
        (λ q. events_same rest i x)

  module _ (d : Graph) where
    there_same : (n : ℕ) (i : List ℕ) (after : List Need) (kind : Kind) → IsThere d more s n i after kind → IsThere d old s n i after kind
    there_same n i after kind th = record { graph = th.graph; is_open = th.is_open; is_in = th.is_in }

    counts_same : (waits lacks : Table ℕ) → AreCounts d old s waits lacks → AreCounts d more s waits lacks
    counts_same waits lacks counts = record {
      waited = λ n i after kind th. counts.waited n i after kind (there_same n i after kind th);
      lacked = λ n i after kind w h k th e inner. counts.lacked n i after kind w h k (there_same n i after kind th) e inner;
    }

    left_same : (left : Address → ℕ) → AreLeft d old s left → AreLeft d more s left
    left_same left are n i after pace h w th e = are n i after pace h w (there_same n i after _ th) e

module _ {Row Begun Decision Verdict : Type 0} (answered : Answers) (d : Graph) (m more : Source Row Begun Decision Verdict)
    (knows : KnowsMore answered m more) (s : State Row Begun Decision Verdict) (made : MadeAreAnswered answered m s) where
  alike_there : (x : Address) (w : Running Begun) → s.running x ≡ Some w
      → nat_lt w.tries (m.tries x w.begun) ≡ nat_lt w.tries (more.tries x w.begun)
  alike_there x w e = let has = made x w e in knows.goes_on x w.begun w.tries has.0 has.1

  pub ready_stays : (ready : Table Event) → IsReady d m s ready → IsReady d more s ready
  ready_stays ready is x =
      subst (λ z. IsReady d z s ready) knows.same is x ∙ events_same more m.tries m.finish s alike_there d [] x

  pub counts_stay : (waits lacks : Table ℕ) → AreCounts d m s waits lacks → AreCounts d more s waits lacks
  counts_stay waits lacks counts =
      counts_same more m.tries m.finish s alike_there d waits lacks (subst (λ z. AreCounts d z s waits lacks) knows.same counts)

  pub left_stays : (left : Address → ℕ) → AreLeft d m s left → AreLeft d more s left
  left_stays left are = left_same more m.tries m.finish s alike_there d left (subst (λ z. AreLeft d z s left) knows.same are)
