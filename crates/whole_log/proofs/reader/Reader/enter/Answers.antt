-- The operation has its number and its turn, and stands behind the others.
use Rattle.std.proofs.Common.{refl, sym, ◌∙◌}
use Rattle.read_line.specs.Lines.{op_seen}
use Rattle.whole_log.proofs.WholeBodies.{entered}
use Rattle.whole_log.proofs.reader.Reader.enter.Goals as goal

pub number_op-requires : goal.number_op-requires
number_op-requires c = (c.requires.known.2.records, c.requires.known.2.numbered)

pub returns-in-Ok-clause-entered : goal.returns-in-Ok-clause-entered
returns-in-Ok-clause-entered c = λ opening lines line last read judged.
    entered opening lines line last c.args.self.now _ (op_seen c.args.op) c.in_ok-next.next read judged refl c.in_ok-next.ensures
    (c.in_ok-enter.ensures.entered c.args.self.now.ops.items (sym (c.len.ensures ∙ c.args.self.now.ops.ok.0)) read.tasks)
    (c.in_ok-enter-2.ensures c.args.self.now.ops.items read.reads) c.in-Ok.ensures.items
