-- What the codes of the line stand for is the line.
use Rattle.text_lines.proofs.LineLemmas.{next_told}
use Rattle.text_lines.proofs.text.PackedText.next_line.Goals as goal

pub returns-in_ok-tell-in-Some : goal.returns-in_ok-tell-in-Some
returns-in_ok-tell-in-Some c =
    λ _. next_told c.args.self.now.packed c.args.codes.now c.in-Some.own.now c.tell.new.line.items c.in-Some.behind.now c.in-Some.ensures
    c.in_ok-tell-in-Some.ensures
