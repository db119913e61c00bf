-- What the search of the kept operations answers is true of the whole log.
use Rattle.history_thinning.proofs.Ends.{equally_answered, error_answer}
use Rattle.thinned_search.proofs.search.search_thinned.Goals as goal

pub returns-in-Ok-answer_of : goal.returns-in-Ok-answer_of
returns-in-Ok-answer_of c =
    c.in-Ok-answer_of.ensures (equally_answered c.args.thinned.now.history.opening c.args.thinned.now.history.terms
    c.args.thinned.now.history.ops c.in-Ok.search c.in-Ok.ensures)

pub returns-in-Err : goal.returns-in-Err
returns-in-Err c = λ limit log thin. error_answer limit log c.args.thinned.now thin c.in-Err.error c.in-Err.ensures
