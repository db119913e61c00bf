-- Each turn adds what one code stands for.
use Rattle.std.proofs.Common.{◌≡◌, ◌++◌, true, take}
use Rattle.text_lines.specs.Words.{told}
use Rattle.text_lines.proofs.word.push_words.Given as goal

abbrev pub invariant-loop-code : goal.invariant-loop-code
invariant-loop-code l = l.text.items ≡ l.initial.text.items ++ told true (take l.code-index l.codes)
