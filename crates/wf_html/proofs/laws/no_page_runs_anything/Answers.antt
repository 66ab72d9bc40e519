use Rattle.wf_html.proofs.RunningLemmas.{none_runs}
use Rattle.wf_html.proofs.laws.no_page_runs_anything.Goals as goal

pub returns : goal.returns
returns c = none_runs
