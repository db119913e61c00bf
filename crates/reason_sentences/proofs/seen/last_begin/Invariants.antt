-- The last so far, with the operations that are left, gives the last of all.
use Rattle.std.proofs.Common.{◌≡◌, drop}
use Rattle.reason_sentences.specs.Seen.{last_begin}
use Rattle.reason_sentences.proofs.seen.last_begin.Given as goal

abbrev pub invariant-loop-op : goal.invariant-loop-op
invariant-loop-op l = last_begin l.moment l.last (drop l.op-index l.ops) ≡ last_begin l.moment 0 l.ops
