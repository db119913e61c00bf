-- The hash so far, carried on over the bytes that are left, is that of all.
use Rattle.std.proofs.Common.{◌≡◌, drop}
use Rattle.kept_lines.specs.inner.Linked.{hash_from}
use Rattle.kept_lines.proofs.hash.hash_of.Given as goal

abbrev pub invariant-loop-byte : goal.invariant-loop-byte
invariant-loop-byte l = hash_from 0 l.text ≡ hash_from l.hash (drop l.byte-index l.text)
