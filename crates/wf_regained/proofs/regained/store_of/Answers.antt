use Rattle.std.proofs.Common.{Option, subst, sym}
use Rattle.wf_layers.specs.Address.{Address}
use Rattle.wf_layers.specs.Variables.{IsLastWritten}
use Rattle.wf_asks.specs.Known.{writer}
use Rattle.wf_turns.specs.Points.{graph_of}
use Rattle.wf_turns.specs.Record.{depth_of}
use Rattle.wf_turns.specs.ReadSeen.{def_tree}
use Rattle.wf_def.specs.Names.{graph_names}
use Rattle.std.specs.Prelude.{length}
use Rattle.wf_sight_laws.specs.Writes.{writes}
use Rattle.wf_sight_laws.specs.Seen.{rows_seen}
use Rattle.wf_regained.proofs.LaterLemmas.{IsExact, NeverBoth, SeenAreEarlier, one_is_later, seen_later}
use Rattle.wf_regained.proofs.NamedLemmas.{action_has}
use Rattle.wf_regained.proofs.StoreLemmas.{store_is}
use Rattle.wf_regained.proofs.regained.store_of.Goals as goal

pub returns : goal.returns
returns c m v =
    let d = def_tree c.args.checked.now.def in
    let g = graph_of d in
    let n = length (graph_names d.top) in
    let read = c.always_read.ensures in
    let once = c.numbers_stand_once.ensures d read in
    let closed = c.entries_stay_in_their_graph.ensures d read in
    let below = c.numbers_are_below.ensures d read in
    let falls = c.depths_are_how_many_are_before.ensures d read in
    let exact : IsExact d = λ x y hx hy. c.order_is_exact.ensures.before n g below closed x y hx hy in
    let never : NeverBoth d = λ x y b e. c.before_is_an_order.ensures.never_itself g (depth_of d) once closed falls x
    (c.before_is_an_order.ensures.transitive g once closed x y x b e) in
    let earlier : SeenAreEarlier d = λ x y before b s. c.what_is_seen_is_earlier.ensures g (depth_of d) once falls x y before b s in
    subst (λ (o : Option Address). IsLastWritten g m (writer (writes d) v) (rows_seen c.args.rows.now.0) o)
    (sym (c.in_ok-store.ensures v))
    (store_is d (λ k a is. action_has d (λ q. c.numbers_are_had.ensures d.top q) k a is) once
    (λ x y hx hy s. seen_later d once exact never earlier x y hx hy s)
    (λ x y hx hy e f. one_is_later d once exact never earlier x y hx hy e f)
    c.args.rows.now.0 c.len-count.ensures.in_order c.requires.in_line v m)
