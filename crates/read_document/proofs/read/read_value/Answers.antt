-- Looked for at once, so that another value is refused at once.
use Rattle.std.proofs.Common.{rules}
use Rattle.read_document.specs.Document.{value_of}
use Rattle.read_document.proofs.ReadLemmas.{json_of_read, json_of_refused}
use Rattle.read_document.proofs.read.read_value.Goals as goal

pub returns-then-bytes-gt-MAX_BYTES : goal.returns-then-bytes-gt-MAX_BYTES
unfolding value_of
returns-then-bytes-gt-MAX_BYTES c = search rules

pub returns-in-Ok : goal.returns-in-Ok
unfolding value_of
returns-in-Ok c = search (rules, json_of_read)

pub returns-in-Err : goal.returns-in-Err
returns-in-Err c = search rules

pub returns-in-Err-2 : goal.returns-in-Err-2
unfolding value_of
returns-in-Err-2 c = search (rules, json_of_refused)
