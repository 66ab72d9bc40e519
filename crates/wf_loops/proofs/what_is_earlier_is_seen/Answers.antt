use Rattle.wf_loops.proofs.EarlierLemmas.{earlier_seen}
use Rattle.wf_loops.proofs.what_is_earlier_is_seen.Goals as goal

pub returns : goal.returns
returns c = λ g once closed x y before earlier.
    earlier_seen g once x y before earlier.0 (c.what_is_before_is_seen.ensures g once closed x y) earlier.1
