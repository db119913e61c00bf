-- The operation is entered in the key's own log, or its fault is told by the lines of the whole text.
use Rattle.std.proofs.Common.{◌∙◌, true}
use Rattle.read_line.specs.Lines.{op_seen}
use Rattle.keys_log.specs.Keys.{lines_of_key}
use Rattle.keys_log.proofs.KeyReadLemmas.{by_own_rule, key_fault, key_read_more}
use Rattle.keys_log.proofs.key_reader.KeyReader.enter.Goals as goal

pub returns-in-Ok-enter-clause-entered : goal.returns-in-Ok-enter-clause-entered
returns-in-Ok-enter-clause-entered c = λ head lines key line read is at.
    key_read_more head lines key line (op_seen c.args.op) c.args.place c.args.self.now _ read is at
    (c.in-Ok-enter.ensures.entered head.opening (lines_of_key key lines) line true read.read
    (by_own_rule head lines key line (op_seen c.args.op) c.args.self.now read is))
    c.in-Ok-enter.ensures.rule c.in-Ok.ensures.items

pub returns-in-Err-enter-clause-fault : goal.returns-in-Err-enter-clause-fault
returns-in-Err-enter-clause-fault c = λ head lines key line read is at.
    key_fault head lines key line (op_seen c.args.op) c.args.place c.args.self.now c.as_slice.result.now c.in-Err-enter.own
    c.in_whole.result read is at (c.as_slice.ensures.value ∙ c.in-Ok.ensures.items)
    (c.in-Err-enter.ensures.fault head.opening (lines_of_key key lines) line true read.read
    (by_own_rule head lines key line (op_seen c.args.op) c.args.self.now read is)) c.in_whole.ensures
