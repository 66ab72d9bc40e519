use Rattle.std.proofs.Common.{◌≡◌, ℕ, true, false, ◌∷◌, List, sym, subst, true≢false}
use Rattle.wf_layers.specs.Address.{address}
use Rattle.wf_loops.specs.Loops.{is_earlier, paces_round}
use Rattle.wf_loops.proofs.RoundLemmas.{split_of}
use Rattle.wf_seen_laws.proofs.RoundLemmas.{front_tells, seen_from}
use Rattle.wf_seen_laws.proofs.loops_round_what_is_seen_are_seen.Goals as goal

pub returns-clause-seen : goal.returns-clause-seen
returns-clause-seen c = λ g once z x l outer at turn of seen. seen_from g once z x l outer at turn of seen

pub returns-clause-never_both : goal.returns-clause-never_both
returns-clause-never_both c = λ g depth once closed falls z l outer at turn of seen.
    true≢false (sym (front_tells (paces_round g l z.name) at (turn ∷ of.behind) false
    (subst (λ (at' : List ℕ). is_earlier (paces_round g l z.name) at at' false ≡ true) of.indexes
    (c.what_is_seen_is_earlier.ensures g depth once falls (address l at) z false (λ before.
    absurd (c.before_is_an_order.ensures.never_itself g depth once closed falls z.name
    (c.what_stands_inside_goes_along.ensures.before g once l z.name z.name before
    (split_of g once z.name outer l of.inner of.loops).contains))) seen))))
