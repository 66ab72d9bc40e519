-- The items that open loops decided are those that the loops would decide once more.
use Rattle.std.proofs.Common.{◌≡◌, ℕ, List, [], ◌∷◌, ◌++◌, length, Option, Some, None, refl, sym, ap, ◌∙◌, arith, append_assoc, append-nil}
use Rattle.std.proofs.Common.{length-append}
use Rattle.std.specs.Prelude.{slice_get}
use Rattle.wf_val.specs.ValueTree.{ValueTree}
use Rattle.wf_layers.specs.Address.{Table, address}
use Rattle.wf_layers.specs.Seen.{Once}
use Rattle.wf_def.specs.DefTree.{DefTree}
use Rattle.wf_record.specs.Record.{Row}
use Rattle.wf_views.specs.Decisions.{DecisionTree, nothing, held, chosen, each, too_many, faulty}
use Rattle.wf_views.specs.Environment.{Environment}
use Rattle.wf_views.specs.LoopsLoops.{loops_of}
use Rattle.wf_views.proofs.RoundLemmas.{split_of}
use Rattle.wf_views.specs.Look.{Item, decided_within, item_as, item_in, items_from, name_of}
use Rattle.wf_views.specs.Points.{graph_of}
use Rattle.wf_views.specs.Source.{source}
use Rattle.wf_sight.specs.Sight.{Opens, item_held, item_open, items_open, named_item}
use Rattle.wf_sight.proofs.OpenLemmas.{AreOpen, IsOpenLoop}

named_as : (d : DefTree) (e : Environment) (k : List ℕ) (o : Option ValueTree) → named_item k o ≡ item_as d e k o
named_as d e k None = refl
named_as d e k (Some v) = refl

held_as : (d : DefTree) (e : Environment) (k : List ℕ) (j : ℕ) (t : DecisionTree) → item_held k j t ≡ item_in d e k j t
held_as d e k j nothing = refl
held_as d e k j (held b) = refl
held_as d e k j (chosen v n) = refl
held_as d e k j (each ts) = named_as d e k (slice_get ts j)
held_as d e k j too_many = refl
held_as d e k j (faulty f) = refl

module _ (d : DefTree) (e : Environment) (known : Table Row) where
  abbrev pub from : List ℕ → List ℕ → List Item
  from ls js = items_from d e ls js [] [] known

  -- one loop more
  last_of_all : (ls js at : List ℕ) (found : List Item) (l j : ℕ) → length js ≡ length ls
      → items_from d e (ls ++ l ∷ []) (js ++ j ∷ []) at found known
      ≡ items_from d e ls js at found known
      ++ item_in d e (name_of d l) j (decided_within d e (address l (at ++ js)) (items_from d e ls js at found known) known)
  last_of_all [] [] at found l j same =
      ap (λ (i : List ℕ). found ++ item_in d e (name_of d l) j (decided_within d e (address l i) found known)) (sym (append-nil at))
  last_of_all [] (k ∷ js) at found l j same = absurd (omega (arith, same))
  last_of_all (m ∷ ls) [] at found l j same = absurd (omega (arith, same))
  last_of_all (m ∷ ls) (k ∷ js) at found l j same =
      let more = found ++ item_in d e (name_of d m) k (decided_within d e (address m at) found known) in
      last_of_all ls js (at ++ k ∷ []) more l j (omega (arith, same))
      ∙ ap (λ (i : List ℕ). items_from d e ls js (at ++ k ∷ []) more known ++ item_in d e (name_of d l) j
      (decided_within d e (address l i) (items_from d e ls js (at ++ k ∷ []) more known) known)) (append_assoc at (k ∷ []) js)

  module _ (once : Once (graph_of d)) (opens : Opens)
      (decided : (l : ℕ) (at : List ℕ) (h : IsOpenLoop (graph_of d) opens l at)
      → h.opening.decision ≡ (source d e).decide (address l at) known) where
    open_item : (k : List ℕ) (j : ℕ) (l : ℕ) (at : List ℕ) → IsOpenLoop (graph_of d) opens l at
        → item_open k j (opens (address l at)) ≡ item_in d e k j ((source d e).decide (address l at) known)
    open_item k j l at h =
        ap (item_open k j) h.stands ∙ (held_as d e k j h.opening.decision ∙ ap (item_in d e k j) (decided l at h))

    -- of the loops round x behind the first ones
    items_behind : (x : ℕ) (ps is ls js : List ℕ) → loops_of (graph_of d) x ≡ ps ++ ls → length is ≡ length ps
        → AreOpen (graph_of d) opens ls js is
        → from ps is ++ items_open d opens ls js is ≡ items_from d e ls js is (from ps is) known
    items_behind x ps is [] js of same are = append-nil (from ps is)
    items_behind x ps is (l ∷ ls) [] of same are = append-nil (from ps is)
    items_behind x ps is (l ∷ ls) (j ∷ js) of same are =
        let h = split_of (graph_of d) once x ps l ls of in
        let item = item_in d e (name_of d l) j (decided_within d e (address l is) (from ps is) known) in
        let there : item_open (name_of d l) j (opens (address l is)) ≡ item =
        open_item (name_of d l) j l is are.0
        ∙ ap (λ (qs : List ℕ). item_in d e (name_of d l) j (decided_within d e (address l is) (from qs is) known)) h.outer in
        let more : from (ps ++ l ∷ []) (is ++ j ∷ []) ≡ from ps is ++ item = last_of_all ps is [] [] l j same in
        ap (λ (i : List Item). from ps is ++ (i ++ items_open d opens ls js (is ++ j ∷ []))) there
        ∙ (sym (append_assoc (from ps is) item (items_open d opens ls js (is ++ j ∷ [])))
        ∙ (ap (λ (found : List Item). found ++ items_open d opens ls js (is ++ j ∷ [])) (sym more)
        ∙ (items_behind x (ps ++ l ∷ []) (is ++ j ∷ []) ls js (of ∙ sym (append_assoc ps (l ∷ []) ls))
        (omega (arith, same, length-append is (j ∷ []), length-append ps (l ∷ []))) are.1
        ∙ ap (λ (found : List Item). items_from d e ls js (is ++ j ∷ []) found known) more)))

    -- so of all
    pub items_same : (x : ℕ) (js : List ℕ) → AreOpen (graph_of d) opens (loops_of (graph_of d) x) js []
        → items_open d opens (loops_of (graph_of d) x) js [] ≡ items_from d e (loops_of (graph_of d) x) js [] [] known
    items_same x js are = items_behind x [] [] (loops_of (graph_of d) x) js refl refl are

    items_open_last : (ls js at : List ℕ) (n j : ℕ) → length js ≡ length ls
        → items_open d opens (ls ++ n ∷ []) (js ++ j ∷ []) at
        ≡ items_open d opens ls js at ++ item_open (name_of d n) j (opens (address n (at ++ js)))
    items_open_last [] [] at n j same =
        append-nil (item_open (name_of d n) j (opens (address n at)))
        ∙ ap (λ (i : List ℕ). item_open (name_of d n) j (opens (address n i))) (sym (append-nil at))
    items_open_last [] (k ∷ js) at n j same = absurd (omega (arith, same))
    items_open_last (l ∷ ls) [] at n j same = absurd (omega (arith, same))
    items_open_last (l ∷ ls) (k ∷ js) at n j same =
        let first = item_open (name_of d l) k (opens (address l at)) in
        ap (λ (is : List Item). first ++ is) (items_open_last ls js (at ++ k ∷ []) n j (omega (arith, same)))
        ∙ (sym (append_assoc first (items_open d opens ls js (at ++ k ∷ []))
        (item_open (name_of d n) j (opens (address n ((at ++ k ∷ []) ++ js)))))
        ∙ ap (λ (i : List ℕ). (first ++ items_open d opens ls js (at ++ k ∷ [])) ++ item_open (name_of d n) j (opens (address n i)))
        (append_assoc at (k ∷ []) js))

    -- and in an iteration of x itself, where x is open
    pub items_inside : (x : ℕ) (js : List ℕ) (j : ℕ) → length js ≡ length (loops_of (graph_of d) x)
        → AreOpen (graph_of d) opens (loops_of (graph_of d) x) js [] → IsOpenLoop (graph_of d) opens x js
        → items_open d opens (loops_of (graph_of d) x ++ x ∷ []) (js ++ j ∷ []) []
        ≡ items_from d e (loops_of (graph_of d) x ++ x ∷ []) (js ++ j ∷ []) [] [] known
    items_inside x js j full are is =
        let ls = loops_of (graph_of d) x in
        items_open_last ls js [] x j full
        ∙ (ap (λ (found : List Item). found ++ item_open (name_of d x) j (opens (address x js))) (items_same x js are)
        ∙ (ap (λ (found : List Item). from ls js ++ found) (open_item (name_of d x) j x js is)
        ∙ sym (last_of_all ls js [] [] x j full)))
