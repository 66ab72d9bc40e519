use Rattle.wf_fn_list.proofs.ChunkLemmas.{chunks-joined, chunks-cons}
use Rattle.wf_fn_list.proofs.laws.chunks_make_the_list.Goals as goal

pub returns : goal.returns
returns c = record { items = chunks-joined; characters = chunks-joined; first_items = chunks-cons; first_characters = chunks-cons }
