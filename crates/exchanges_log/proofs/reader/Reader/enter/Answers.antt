-- The operation has the numbers of its records, and stands behind the others.
use Rattle.std.proofs.Common.{refl}
use Rattle.read_exchange.specs.Exchanges.{exchange_seen}
use Rattle.exchanges_log.proofs.LineLemmas.{entered}
use Rattle.exchanges_log.proofs.reader.Reader.enter.Goals as goal

pub returns-clause-entered : goal.returns-clause-entered
returns-clause-entered c = λ opening lines line last read judged.
    entered opening lines line last c.args.self.now _ (exchange_seen c.args.op) c.in_ok-next.next read judged refl c.in_ok-next.ensures
    c.in_ok-push.ensures.items
