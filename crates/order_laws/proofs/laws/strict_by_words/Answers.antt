-- By the tests of the words.
use Rattle.order_laws.proofs.LittleLemmas.{by_words, other_is_same, unasked_is_low}
use Rattle.order_laws.proofs.laws.strict_by_words.Goals as goal

pub returns-clause-little : goal.returns-clause-little
returns-clause-little c = by_words

pub returns-clause-other : goal.returns-clause-other
returns-clause-other c = other_is_same

pub returns-clause-unasked : goal.returns-clause-unasked
returns-clause-unasked c = unasked_is_low
