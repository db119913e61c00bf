-- The operation has no fault.
use Rattle.watch_lines.proofs.WatcherLemmas.{takes_operation}
use Rattle.std.proofs.Common.{ap, sym, ◌∙◌, ◌+◌, List, ℕ, Option, option_map, string_bytes}
use Rattle.read_exchange.specs.Exchanges.{keyed_seen}
use Rattle.watch_lines.specs.Seen.{early_fault, has_key}
use Rattle.watch_lines.specs.declared.tasks.Task.{Task}
use Rattle.watch_lines.specs.declared.told.Floor.{Floor}
use Rattle.watch_lines.proofs.watcher.Watcher.take.Goals as goal

pub returns-in-None-clause-takes : goal.returns-in-None-clause-takes
returns-in-None-clause-takes c = λ s k before next.
    takes_operation s c.args.who (keyed_seen c.args.op) c.put.result before
    (ap (λ (all : Option (Option (List ℕ))). has_key all (option_map string_bytes c.args.op.key)) (sym k.key)
    ∙ sym c.if-not-has_key.ensures)
    (sym c.if-is_refusal.ensures)
    (ap (λ (ts : List Task). early_fault ts s.high (s.lines + 1) c.args.who c.args.op.begin) (sym k.tasks)
    ∙ (ap (λ (h : Option Floor). early_fault c.args.self.tasks.items h (s.lines + 1) c.args.who c.args.op.begin) (sym k.high)
    ∙ (ap (λ (n : ℕ). early_fault c.args.self.tasks.items c.args.self.high n c.args.who c.args.op.begin) (sym next)
    ∙ (ap (λ (ts : List Task). early_fault ts c.args.self.high c.args.line c.args.who c.args.op.begin) (sym c.as_slice.ensures.value)
    ∙ (sym c.early_fault.ensures ∙ c.in-None.is)))))
    (c.put.ensures.takes s k next)
