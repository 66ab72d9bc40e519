use Rattle.std.proofs.Common.{refl}
use Rattle.wf_def.specs.AllActions.{numbered}
use Rattle.wf_doing.proofs.SourceLemmas.{close_is, finish_is, start_is, test_is, tries_is}
use Rattle.wf_doing.proofs.laws.what_is_done_is_the_source.Goals as goal

pub returns : goal.returns
returns c = record {
  start = λ d e x known. start_is d e x known (numbered x.name d.top);
  tries = λ d s i x b. tries_is d s i x b (numbered x.name d.top) refl;
  finish = λ d s i x b known. finish_is d s i x b known (numbered x.name d.top) refl;
  test = λ d e u k known. test_is d e u k known (numbered u.name d.top);
  close = λ d e x decision n verdict known. close_is d e x decision n verdict known (numbered x.name d.top);
}
