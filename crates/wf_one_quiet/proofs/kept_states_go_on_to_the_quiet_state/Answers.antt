use Rattle.wf_one_quiet.proofs.One.{goes_on_to_quiet, one_quiet_state}
use Rattle.wf_one_quiet.proofs.kept_states_go_on_to_the_quiet_state.Goals as goal

pub returns-clause-quiet : goal.returns-clause-quiet
returns-clause-quiet g c = λ answered more_answered d m more knows among es s run fs q on quiet.
    goes_on_to_quiet answered more_answered d m more knows among es s run fs q on quiet

pub returns-clause-afresh : goal.returns-clause-afresh
returns-clause-afresh g c = λ answered more_answered d m more depth is knows among es s run fs q on quiet begun begun_quiet.
    one_quiet_state more_answered d more depth is q begun
    (goes_on_to_quiet answered more_answered d m more knows among es s run fs q on quiet) begun_quiet
