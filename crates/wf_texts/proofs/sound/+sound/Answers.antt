use Rattle.std.proofs.Common.{arith, rules}
use Rattle.wf_texts.proofs.CallLemmas.{argument-smaller}
use Rattle.wf_texts.proofs.sound.+sound.Goals as goal

pub are_sound-is_sound-requires : goal.are_sound-is_sound-requires
are_sound-is_sound-requires t c = let le = argument-smaller _ _ _ c.loop-arg-test.true c.arg-item.is in search (rules, arith)
