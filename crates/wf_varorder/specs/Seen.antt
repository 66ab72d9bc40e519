-- What the code's claims and pairs stand for.
use Rattle.wf_standing.specs.Seen.{standing_tree}
use Rattle.wf_varorder.specs.Pairs.{Claim, Pair, writes_it, ends_it, answers_it}
use Rattle.wf_varorder.specs.declared.claim.Claim as declared
use Rattle.wf_varorder.specs.declared.pair.Pair as declared_pair

abbrev pub claim_tree : declared.Claim → Claim
claim_tree (declared.Claim.Writes k) = writes_it k.now
claim_tree declared.Claim.Ends = ends_it
claim_tree declared.Claim.Answers = answers_it

abbrev pub pair_tree : declared_pair.Pair → Pair
pair_tree p = (standing_tree p.first.now, standing_tree p.second.now)
