use Rattle.std.proofs.Common.{◌≡◌, ℕ, List, IfOk, subst}
use Rattle.wf_uses.specs.UsesTree.{ordered}
use Rattle.wf_uses.proofs.uses.named.Goals as goal

pub returns : goal.returns
returns c = subst (λ (ks : List (List ℕ)). IfOk c.of.result (λ own. own ≡ ordered ks)) c.in_ok-names_by.ensures c.of.ensures
