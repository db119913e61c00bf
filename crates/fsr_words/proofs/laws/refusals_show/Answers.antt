-- The statuses are apart.
use Rattle.fsr_words.proofs.RefusalLemmas.{of_asked, of_refused}
use Rattle.fsr_words.proofs.laws.refusals_show.Goals as goal

pub returns-clause-refused : goal.returns-clause-refused
returns-clause-refused c = λ e old new status told unasked.
    let is = told.refused unasked in
    let apart = of_refused status is.0 in (is.1, apart.0, apart.1, apart.2, apart.3)

pub returns-clause-asked : goal.returns-clause-asked
returns-clause-asked c = λ e old new status told was_asked. of_asked status (told.asked was_asked)

pub returns-clause-unknown : goal.returns-clause-unknown
returns-clause-unknown c = λ old new status told. (told.1, told.0)

pub returns-clause-memory : goal.returns-clause-memory
returns-clause-memory c = λ old new status told. (told.1, told.0)
