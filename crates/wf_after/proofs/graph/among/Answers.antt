use Rattle.std.proofs.Common.{◌≡◌, ℕ, Bool, List, Vec, Global, IfOk, map, option_map, string_bytes, ap, ◌∙◌, subst}
use Rattle.wf_json.specs.Pointer.{least}
use Rattle.wf_paths.specs.Table.{paths_of}
use Rattle.wf_val.specs.Seen.{member}
use Rattle.wf_val.specs.ValueTree.{Member}
use Rattle.wf_after.specs.Waits.{offenders, nodes}
use Rattle.wf_after.proofs.graph.among.Goals as goal

pub returns : goal.returns
returns c =
    let ms : List Member = map member c.args.graph.now in
    let ns : map (λ n. n.items) c.deref.result.now ≡ nodes ms ms =
    ap (λ (xs : List (Vec ℕ Global)). map (λ n. n.items) xs) c.deref.ensures.value ∙ c.in_ok-nodes.ensures in
    let ps : map (λ r. r.items) c.deref-2.result.now ≡ paths_of (nodes ms ms) =
    ap (λ (xs : List (Vec Bool Global)). map (λ r. r.items) xs) c.deref-2.ensures.value ∙ c.in_ok-paths.ensures ∙ ap paths_of ns in
    subst (λ (t : List (List Bool)). IfOk c.offenders.result (λ p. option_map string_bytes p ≡ least (offenders ms t 0 ms)))
    ps c.offenders.ensures
