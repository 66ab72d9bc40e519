use Rattle.std.proofs.Common.{ℕ, List, map, ap, ◌∙◌, rules}
use Rattle.wf_uses.proofs.NameLemmas.{put_one, put_onto, put_onto-none}
use Rattle.wf_uses.proofs.names.set_of.Goals as goal

pub loop-name-init : goal.loop-name-init
loop-name-init c =
    let names : List (List ℕ) = map (λ n. n.now) c.args.names.items in
    ap (λ (ks : List (List ℕ)). put_onto names ks) (ap (map (λ n. n.now)) c.new-set.ensures.empty) ∙ put_onto-none names

pub loop-name-preserved : goal.loop-name-preserved
loop-name-preserved c =
    put_one (λ n. n.now) c.loop-name.left.items c.pop.new.self.items c.in-Some.name c.loop-name.set.keys c.insert.new.self.keys _
    (search rules) c.in_ok-_is_new.ensures.keys c.loop-name.invariant
