-- The answer lies over the front of the buffer, and all of it does.
use Rattle.std.proofs.Common.{ℕ, List, subst}
use Rattle.memory_answers.proofs.BufferLemmas.{rest_stays, text_whole}
use Rattle.memory_answers.specs.Handing.{IsOfReply}
use Rattle.memory_answers.proofs.laws.whole_in_long_buffers.Goals as goal

pub returns-clause-text : goal.returns-clause-text
returns-clause-text c = λ show bytes old new size status is fits other.
    let told = is.told other in
    (told.0, told.1, subst (λ (l : List ℕ). IsOfReply told.0 l status) (text_whole is.text old new size is.put is.counted fits) told.2)

pub returns-clause-rest : goal.returns-clause-rest
returns-clause-rest c = λ show bytes old new size status is fits. rest_stays is.text old new size is.put is.counted fits
