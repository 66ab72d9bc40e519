use Rattle.wf_anew.proofs.actions_are_named.Goals as goal

pub returns : goal.returns
returns c = λ d r. record {
  names = c.names_stand_once.ensures d r;
  numbers = c.read_actions_have_their_numbers.ensures d r;
  had = c.numbers_are_had.ensures d.top;
}
