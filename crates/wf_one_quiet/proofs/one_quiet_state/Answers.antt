use Rattle.std.proofs.Common.{ap}
use Rattle.wf_one_quiet.proofs.One.{as_many_events, one_quiet_state}
use Rattle.wf_one_quiet.proofs.one_quiet_state.Goals as goal

pub returns-clause-state : goal.returns-clause-state
returns-clause-state g c = λ answered d m depth is s s' quiet quiet'. one_quiet_state answered d m depth is s s' quiet quiet'

pub returns-clause-tables : goal.returns-clause-tables
returns-clause-tables g c = λ answered d m depth is s s' quiet quiet' x.
    let same = one_quiet_state answered d m depth is s s' quiet quiet' in
    (ap (λ z. z.rows x) same, ap (λ z. z.running x) same, ap (λ z. z.opens x) same)

pub returns-clause-events : goal.returns-clause-events
returns-clause-events g c = λ answered d m depth is s s' quiet quiet'. as_many_events answered d m depth is s s' quiet quiet'
