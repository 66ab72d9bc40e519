-- What is seen at each point is what is told there.
use Rattle.std.proofs.Common.{◌≡◌, ℕ, pos, List, [], ◌∷◌, ◌++◌, map, Option, Some, None, option_map, refl, ap, ◌∙◌}
use Rattle.std.specs.Prelude.{bytes_eq, codes, find, reverse}
use Rattle.wf_val.specs.Address.{address_text}
use Rattle.wf_val.specs.Get.{value_of}
use Rattle.wf_val.specs.ValueTree.{ValueTree}
use Rattle.wf_views.specs.Told.{Told}
use Rattle.wf_layers.specs.Address.{Address, address}
use Rattle.wf_layers.specs.Definition.{Graph, Kind, Until}
use Rattle.wf_layers.specs.Machine.{Opening}
use Rattle.wf_layers.specs.Seen.{Once}
use Rattle.wf_views.specs.Known.{IsInformed, IsInformedAtTest}
use Rattle.wf_def.specs.DefTree.{DefTree}
use Rattle.wf_views.specs.Decisions.{DecisionTree}
use Rattle.wf_views.specs.Verdicts.{VerdictTree}
use Rattle.wf_views.specs.Environment.{Environment, Facts, facts_of, last_facts}
use Rattle.wf_views.specs.Answering.{AnswersAs, RowSource}
use Rattle.wf_views.specs.Look.{Item, index_in, instance, items_at, name_of, told_at, told_in_test, told_to_outputs}
use Rattle.wf_views.specs.Points.{Point, graph_of, point_of, point_of_outputs, point_of_test}
use Rattle.wf_views.specs.References.{result_at, view_at}
use Rattle.wf_views.specs.Source.{source}
use Rattle.wf_sight.specs.Laws.{GoesByLoops, run_of, with_variables}
use Rattle.wf_views.specs.Views.{result_from, view_from}
use Rattle.wf_sight.specs.Sight.{KnownTree, items_open, seen_at, seen_by_outputs, seen_from, seen_in_test}
use Rattle.wf_sight.specs.Variables.{variable_in}
use Rattle.wf_sight.proofs.ItemLemmas.{items_inside, items_same}
use Rattle.wf_sight.proofs.OpenLemmas.{IsOpenLoop, kind_open, loops_open}
use Rattle.wf_sight.proofs.TellLemmas.{instance_goes, outputs_go, result_same, test_goes, view_same}

module _ (d : DefTree) (e : Environment) (facts : Facts) (place : List ℕ) (p : Point) (known : KnownTree) where
  abbrev told_as : List Item → (List ℕ → Option ValueTree) → (List ℕ → Option ValueTree) → Told
  told_as held view result = record {
    parameter = λ k. value_of k e.start.parameters;
    variable = λ k. variable_in d known.rows known.store k;
    trigger = e.start.trigger;
    view = view;
    result = result;
    items = reverse (map (λ h. h.1) held);
    item_of = λ k. option_map (λ h. h.1) (find (λ h. bytes_eq k h.0) held);
    index_of = λ k. index_in d p.loops p.at k;
    own = None;
    moment = pos facts.moment;
    run_name = facts.run;
    seed = facts.seed;
    place = place;
  }

  told_same : GoesByLoops d p → (held : List Item) → items_open d known.opens p.loops p.at [] ≡ held
      → seen_from d (run_of e facts) place p.loops p.at known
      ≡ told_as held (λ k. view_at d p known.rows k) (λ k. result_at d p known.rows k)
  told_same goes held items =
      ap (λ (h : List Item). told_as h (λ k. view_from d p.loops p.at known.rows k) (λ k. result_from d p.loops p.at known.rows k)) items
      ∙ (ap (λ (v : List ℕ → Option ValueTree). told_as held v (λ k. result_from d p.loops p.at known.rows k))
      (λ i k. view_same d p known.rows goes k i)
      ∙ ap (told_as held (λ k. view_at d p known.rows k)) (λ i k. result_same d p known.rows goes k i))

module _ (d : DefTree) (e : Environment) (m : RowSource) (answers : AnswersAs d e m) (known : KnownTree)
    (decided : (x : Address) (w : Opening DecisionTree VerdictTree) → known.opens x ≡ Some w → w.decision ≡ m.decide x known.rows) where
  -- no loop is closed again, so what an open one decided is what it would decide once more
  loops_decide : (l : ℕ) (at : List ℕ) (h : IsOpenLoop (graph_of d) known.opens l at)
      → h.opening.decision ≡ (source d e).decide (address l at) known.rows
  loops_decide l at h =
      decided (address l at) h.opening h.stands ∙ answers.decide (address l at) known.rows (answers.loops l h.kind h.is h.loop)

pub seen_at_told : (d : DefTree) (e : Environment) (m : RowSource) → AnswersAs d e m → (x : Address) (kind : Kind) (depth : ℕ → ℕ)
    (known : KnownTree) → Once (graph_of d) → IsInformed (graph_of d) depth m known.rows known.opens x.name x.at kind
    → seen_at d (run_of e (facts_of e (name_of d x.name))) x known ≡ with_variables d known (told_at d e x known.rows)
seen_at_told d e m answers x kind depth known once informed =
    let round = loops_open m.taken (graph_of d) once known.opens informed.graph x.at x.name informed.after kind informed.is_open
    informed.is_in in
    told_same d e (facts_of e (name_of d x.name)) (address_text (instance d x)) (point_of d x) known (instance_goes d once x)
    (items_at d e (point_of d x) known.rows)
    (items_same d e known.rows once known.opens (loops_decide d e m answers known informed.decided) x.name x.at round.1)

pub seen_in_test_told : (d : DefTree) (e : Environment) (m : RowSource) → AnswersAs d e m → (u : Address) (most : ℕ) (g : Graph) (k : ℕ)
    (depth : ℕ → ℕ) (known : KnownTree) → Once (graph_of d)
    → IsInformedAtTest (graph_of d) depth m known.rows known.opens u.name u.at most g k
    → seen_in_test d (run_of e (facts_of e (name_of d u.name))) u k known ≡ with_variables d known (told_in_test d e u k known.rows)
seen_in_test_told d e m answers u most g k depth known once informed =
    let round = loops_open m.taken (graph_of d) once known.opens informed.graph u.at u.name informed.after (Until most g) informed.is_open
    informed.is_in in
    let kind = kind_open m.taken (graph_of d) once known.opens informed.graph u.at u.name informed.after (Until most g) informed.is_open
    informed.is_in in
    let own : IsOpenLoop (graph_of d) known.opens u.name u.at = record {
      kind = Until most g;
      is = kind;
      loop = tt;
      opening = informed.opening;
      stands = informed.itself_is_open;
    } in
    told_same d e (facts_of e (name_of d u.name)) (address_text (instance d (address u.name (u.at ++ k ∷ [])))) (point_of_test d u k) known
    (test_goes d once u k most g kind)
    (items_at d e (point_of_test d u k) known.rows)
    (items_inside d e known.rows once known.opens (loops_decide d e m answers known informed.decided) u.name u.at k round.0 round.1 own)

pub seen_by_outputs_told : (d : DefTree) (e : Environment) (known : KnownTree)
    → seen_by_outputs d (run_of e (last_facts e)) known ≡ with_variables d known (told_to_outputs d e known.rows)
seen_by_outputs_told d e known =
    told_same d e (last_facts e) (codes "@outputs") (point_of_outputs d) known (outputs_go d) [] refl
