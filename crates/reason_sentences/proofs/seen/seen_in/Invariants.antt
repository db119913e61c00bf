-- Those found so far stand before those that the operations left give.
use Rattle.std.proofs.Common.{◌≡◌, ◌++◌, drop}
use Rattle.reason_sentences.specs.Seen.{seen_from}
use Rattle.reason_sentences.proofs.seen.seen_in.Given as goal

abbrev pub invariant-loop-place : goal.invariant-loop-place
invariant-loop-place l = l.seen.items ++ seen_from l.last l.end l.place (drop l.place l.ops) ≡ seen_from l.last l.end 0 l.ops
