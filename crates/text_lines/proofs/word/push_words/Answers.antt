-- Each turn adds what one code stands for.
use Rattle.std.proofs.Common.{◌∙◌, ◌++◌, ℕ, List, ap, append-nil, sym, true}
use Rattle.std.proofs.lemmas.List.{take_all}
use Rattle.text_lines.specs.Words.{told}
use Rattle.text_lines.proofs.WordLemmas.{one_more}
use Rattle.text_lines.proofs.word.push_words.Goals as goal

pub loop-code-preserved : goal.loop-code-preserved
loop-code-preserved c =
    one_more true c.args.text.now.items c.loop-code.text.items c.push_word.new.text.items c.args.codes.now c.loop-code.code-index _
    c.loop-code-test.true c.loop-code.invariant c.in_ok-push_word.ensures

pub loop-code-init : goal.loop-code-init
loop-code-init c = sym (append-nil c.args.text.now.items)

pub returns : goal.returns
returns c = c.loop-code.invariant ∙ ap (λ (l : List ℕ). c.args.text.now.items ++ told true l)
    (take_all c.loop-code.code-index c.args.codes.now c.loop-code-test.false)
