-- As much of the answer as the buffer is long lies over it.
use Rattle.memory_answers.proofs.BufferLemmas.{front_full}
use Rattle.memory_answers.proofs.laws.fronts_in_short_buffers.Goals as goal

pub returns : goal.returns
returns c = λ show bytes old new size status is short other.
    let told = is.told other in
    (is.text, told.0, told.1, told.2, front_full is.text old new size is.put is.counted short, is.counted)
