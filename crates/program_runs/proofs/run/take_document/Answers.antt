-- What was taken up to the bound is a document.
use Rattle.program_runs.proofs.RunLemmas.{counts_untaken, document_taken, document_untaken}
use Rattle.program_runs.proofs.run.take_document.Goals as goal

pub returns-in-Ok-clause-taken : goal.returns-in-Ok-clause-taken
returns-in-Ok-clause-taken g c = document_taken _ _ c.in-Ok.bytes.items c.in-Ok.ensures.taken.0 c.in-Ok.ensures.taken.1

pub returns-in-Err-clause-taken : goal.returns-in-Err-clause-taken
returns-in-Err-clause-taken g c = document_untaken _ _ c.tell_untaken.result c.in-Err.ensures.taken

pub returns-in-Err-clause-counts : goal.returns-in-Err-clause-counts
returns-in-Err-clause-counts g c =
    counts_untaken _ _ c.tell_untaken.result c.in-Err.fault c.in-Err.ensures.counts c.tell_untaken.ensures.status
