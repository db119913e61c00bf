-- The numbers so far stand before those that the values left give.
use Rattle.std.proofs.Common.{◌≡◌, ◌++◌, drop, map}
use Rattle.serde_json.specs.View.{view}
use Rattle.record_words.specs.Words.{numbers_of}
use Rattle.record_words.proofs.words.numbers_of.Given as goal

abbrev pub invariant-loop-item : goal.invariant-loop-item
invariant-loop-item l = l.numbers.items ++ numbers_of (map view (drop l.item-index l.items)) ≡ numbers_of (map view l.items)
