-- What was said so far stands before what the words left give.
use Rattle.std.proofs.Common.{◌≡◌, ◌++◌, drop}
use Rattle.record_words.specs.Origins.{words_text}
use Rattle.record_words.proofs.origins.push_words.Given as goal

abbrev pub invariant-loop-place : goal.invariant-loop-place
invariant-loop-place l = l.text.items ++ words_text l.lines l.place (drop l.place l.words)
    ≡ l.initial.text.items ++ words_text l.lines 0 l.words
