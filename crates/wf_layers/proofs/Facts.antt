-- The facts of each state that a run reaches.
use Rattle.std.proofs.Common.{ℕ, ◌||◌, List, [], Some, ⊎_elim, refl, sym, ap, ◌∙◌, length}
use Rattle.std.proofs.lemmas.Option.{none-some}
use Rattle.wf_layers.specs.Definition.{Choice, Graph, IsBefore}
use Rattle.wf_layers.specs.Address.{Table, is_among, SeenIn}
use Rattle.wf_layers.specs.Source.{Source, gate, Sound}
use Rattle.wf_layers.specs.Meaning.{skip, meaning}
use Rattle.wf_layers.specs.Rule.{look_any, Obeys}
use Rattle.wf_layers.proofs.Basics.{unless, held_in}
use Rattle.wf_layers.specs.Machine.{State, fresh, Event, Run}
use Rattle.wf_layers.proofs.Places.{within_of}
use Rattle.wf_layers.specs.Laws.{IsInstance, FactsOfStates}
use Rattle.wf_layers.specs.Facts.{Facts}
use Rattle.wf_layers.proofs.Others.{others_among, look_others}
use Rattle.wf_layers.proofs.Open.{open_sub, placed_in, kind_there, fact_of, obey_in, inner_rule, follows}
use Rattle.wf_layers.proofs.Keeps.{Keeps}
use Rattle.wf_layers.proofs.Limit.{Limited, run_limited}
use Rattle.wf_layers.proofs.Progress.{sol, closed_is, nothing_special, kept_state}
use Rattle.wf_layers.proofs.Busy.{Busy, run_busy}
use Rattle.wf_layers.proofs.Rooted.{Rooted, run_rooted, untouched, begun}

module _ {Row Begun Decision Verdict : Type 0} (d : Graph) (m : Source Row Begun Decision Verdict) (depth : ℕ → ℕ)
    (is : IsInstance d m depth) where
  -- in each reached state, what is running or open stands in an open graph and has no row
  pub busy_state : (es : List Event) (s : State Row Begun Decision Verdict) → Run d m fresh es s
      → Busy m d is.local (meaning m depth d) (sol d m depth is) s
  busy_state es s r =
      run_busy m d is.local (meaning m depth d) (sol d m depth is) (closed_is m d is.local (meaning m depth d) (sol d m depth is) is.closed)
      (nothing_special d m depth is)
      fresh es s (kept_state d m depth is [] fresh refl)
      (record { there' = λ x h. absurd (⊎_elim (λ z. none-some z.0 z.1) (λ z. none-some z.0 z.1) h); no_row = λ x h. refl }) r

  -- and what is round a finished row is open or finished
  pub rooted_state : (es : List Event) (s : State Row Begun Decision Verdict) → Run d m fresh es s
      → Rooted m d is.local (meaning m depth d) (sol d m depth is) s
  rooted_state es s r =
      run_rooted m d is.local (meaning m depth d) (sol d m depth is)
      (closed_is m d is.local (meaning m depth d) (sol d m depth is) is.closed) (nothing_special d m depth is)
      fresh es s (kept_state d m depth is [] fresh refl) (busy_state [] fresh refl) (λ y r e. absurd (none-some r e)) r

module _ {Row Begun Decision Verdict : Type 0} (m : Source Row Begun Decision Verdict) (d : Graph) (so : Sound m (SeenIn d) d 0)
    (f : Table Row) (sol : Obeys m d f) where
  -- the facts of a state, from what it keeps
  pub facts_are : (s : State Row Begun Decision Verdict) → Keeps m d so f sol s → Busy m d so f sol s → Rooted m d so f sol s
      → Limited m d so f sol s → Facts d m f s
  facts_are s k b rt lim = record {
    rows = k.placed.by;
    running =
        λ x w e. let h = k.held x w e in (h.as_begun, h.so_far, h.gives f (λ y see. refl) ∙ ap (λ b. Some (m.finish x b f)) h.as_begun);
    stands = b.there';
    no_row = b.no_row;
    before_row = k.behind;
    before_running = k.run_behind;
    before_open = λ x w e. k.open_behind x.name x.at w e;
    whole = k.subtree;
    opens = λ n i w kind e q. (k.facts n i w kind e q).1;
    limit = lim;
    others = λ n i after bs w th e y h.
        let g = th.graph in
        let pl = placed_in m d so f sol (length i) g n after (Choice bs) (open_sub m d so f sol s.opens g i th.is_open) th.is_in in
        let fact = fact_of m d so f sol s.rows s.opens k.facts g i n after (Choice bs) w th.is_open th.is_in e in
        let w' = others_among bs (m.taken w.decision) i y h in
        fact.1.1 y h
        ∙ obey_in m d so f sol g i n after (Choice bs) pl (follows m d so f sol s.rows s.opens k.facts g i th.is_open) fact.0 y
        (held_in n (Choice bs) i y w')
        ∙ inner_rule m d so f sol (Choice bs) n i _ _ (is_among bs i y) y pl.apart_own w' w'
        ∙ ap (λ q. look_any m bs (m.taken q) i f y) (sym fact.1.0)
        ∙ look_others m bs (m.taken w.decision) i f y h;
    skipped = λ n i after kind r th np nr e fails y t.
        let g = th.graph in
        let pl = placed_in m d so f sol (length i) g n after kind (open_sub m d so f sol s.opens g i th.is_open) th.is_in in
        k.subtree n i r kind e (kind_there m d so f sol s.opens g i n after kind th.is_open th.is_in).0 y t
        ∙ follows m d so f sol s.rows s.opens k.facts g i th.is_open y
        (within_of m (IsBefore d) (SeenIn d) (length i) g n after kind pl i y t)
        ∙ pl.looked i f y t
        ∙ unless (m.pinned n) (m.old y) _ np
        ∙ unless (m.reclosed n || gate m after n i f) _ (skip m n kind i y) (ap (λ b. b || gate m after n i f) nr ∙ fails);
    rooted = rt;
    untouched = untouched m d so f sol s b rt;
    begun = begun m d so f sol s b rt;
    gates = λ n i after kind w th e. (fact_of m d so f sol s.rows s.opens k.facts th.graph i n after kind w th.is_open th.is_in e).0.passes;
  }

module _ {Row Begun Decision Verdict : Type 0} (d : Graph) (m : Source Row Begun Decision Verdict) (depth : ℕ → ℕ)
    (is : IsInstance d m depth) where
  -- the facts of each state that a run reaches
  pub facts_of_states : FactsOfStates d m depth
  facts_of_states es s r =
      let f : Table Row = meaning m depth d in
      facts_are m d is.local f (sol d m depth is) s (kept_state d m depth is es s r) (busy_state d m depth is es s r)
      (rooted_state d m depth is es s r)
      (run_limited m d is.local f (sol d m depth is) fresh es s (λ n i w most h e q. absurd (none-some w e)) r)
