-- The pieces are the words, with the times that were found.
use Rattle.std.proofs.Common.{◌∙◌, ◌++◌, ℕ, List, ap, codes}
use Rattle.std.proofs.lemmas.Result.{on_ok_weaker}
use Rattle.text_lines.specs.Places.{line_at}
use Rattle.reason_sentences.specs.Numbers.{number_text}
use Rattle.reason_sentences.specs.Times.{end_at}
use Rattle.reason_sentences.proofs.times.push_apart.Goals as goal

pub returns : goal.returns
returns c =
    let text : ℕ → ℕ → List ℕ = λ end begin. c.args.text.now.items
    ++ (number_text (codes "line ") (line_at c.args.a) ++ number_text (codes " ended at ") end
    ++ number_text (codes ", line ") (line_at c.args.b) ++ number_text (codes " began at ") begin ++ c.args.behind.now) in
    on_ok_weaker c.push_pieces.result (λ last. last ∙ ap (λ (end : ℕ). text end c.begin_at.result) c.end_at.ensures
    ∙ ap (text (end_at c.args.thinned.now c.args.a)) c.begin_at.ensures) c.push_pieces.ensures
