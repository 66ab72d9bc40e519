-- What is made before, and put as a graph is entered, gives the tables that the law speaks of.
use Rattle.std.proofs.Common.{◌≡◌, ℕ, suc, ◌&&◌, cond, List, [], ◌∷◌, Option, Some, None, length, refl, ap, ◌∙◌}
use Rattle.wf_layers.specs.Address.{Address, Table, is_own}
use Rattle.wf_layers.specs.Machine.{Event, State, has_ended}
use Rattle.wf_layers.specs.Source.{Source}
use Rattle.wf_kept.specs.Counted.{nonzero}
use Rattle.wf_events.specs.Instances.{address_of}
use Rattle.wf_events.specs.Instance.{Instance}
use Rattle.wf_events.specs.Plan.{PlanTree}
use Rattle.wf_events.specs.PlanSeen.{or_none}
use Rattle.wf_events.specs.Counts.{entered_counts, set_all}
use Rattle.wf_events.proofs.CountLemmas.{entered_set}
use Rattle.wf_events.specs.Looked.{idle_at, look_each, open_at}
use Rattle.wf_events.proofs.LookLemmas.{looked_all}
use Rattle.wf_enter.specs.Entered.{IsEnteredBy, IsMade, graph_of, is_at}
use Rattle.wf_enter.specs.declared.edits.Entering.{Entering}

as_many : (p : PlanTree) (at ns : List ℕ) → length (entered_counts p at ns) ≡ length ns
as_many p at [] = refl
as_many p at (n ∷ ns) = ap suc (as_many p at ns)

graph_at : (n : ℕ) (at : List ℕ) (o : Option (List ℕ)) (x : Address) → is_at (graph_of n at o) x ≡ (has_ended o && is_own n at x)
graph_at n at None x = refl
graph_at n at (Some ns) x = refl

module _ {Row Begun Decision Verdict : Type 0} (m : Source Row Begun Decision Verdict) (p : PlanTree) (place : Instance)
    (graph : Option (List ℕ)) (k : List ℕ) (index : ℕ) (e : Entering) (made : IsMade p place graph k index e) (now : ℕ)
    (s' : State Row Begun Decision Verdict) (waits waits' lacks lacks' : Table ℕ) (left left' : Address → ℕ) (ready ready' : Table Event)
    (waited : (x : Address) → waits' x ≡ set_all e.counts.items waits x)
    (lacked : (x : Address) → lacks' x ≡ cond (is_at e.graph x) (nonzero (length e.counts.items)) (lacks x))
    (unfinished : (x : Address) → left' x ≡ cond (is_own place.action place.at x) now (left x))
    (looked : (x : Address) → ready' x ≡ look_each (idle_at m s'.rows waits' p) e.places.items
    (λ y. cond (is_own e.container.action e.container.at y) (open_at m s'.opens lacks' left' p (address_of e.container)) (ready y)) x)
  where
    pub made_is_entered : IsEnteredBy m p (address_of place) graph k now s' waits waits' lacks lacks' left left' ready ready'
    made_is_entered = record {
      waited = λ x. waited x ∙ ap (λ cs. set_all cs waits x) made.counts ∙ entered_set p k (or_none graph) waits x;
      lacked = λ x. lacked x ∙ ap (λ g. cond (is_at g x) (nonzero (length e.counts.items)) (lacks x)) made.entered
          ∙ ap (λ b. cond b (nonzero (length e.counts.items)) (lacks x)) (graph_at place.action k graph x)
          ∙ ap (λ c. cond (has_ended graph && is_own place.action k x) (nonzero c) (lacks x))
          (ap length made.counts ∙ as_many p k (or_none graph));
      unfinished = unfinished;
      looked_at = λ x. looked x
          ∙ ap (λ (c : Instance). look_each (idle_at m s'.rows waits' p) e.places.items
          (λ y. cond (is_own c.action c.at y) (open_at m s'.opens lacks' left' p (address_of c)) (ready y)) x) made.container
          ∙ ap (λ ps. look_each (idle_at m s'.rows waits' p) ps
          (λ y. cond (is_own place.action place.at y) (open_at m s'.opens lacks' left' p (address_of place)) (ready y)) x) made.places
          ∙ looked_all (idle_at m s'.rows waits' p) k (or_none graph)
          (λ y. cond (is_own place.action place.at y) (open_at m s'.opens lacks' left' p (address_of place)) (ready y)) x;
    }
