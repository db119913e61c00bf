-- The line for which the first codes stand is the first line.
use Rattle.std.proofs.Common.{◌≡◌, ◌∙◌, ◌++◌, List, ℕ, ap, map, sym}
use Rattle.std.proofs.lemmas.Result.{on_ok_weaker}
use Rattle.text_lines.specs.Splits.{lines_of}
use Rattle.text_lines.specs.Words.{text_in, told}
use Rattle.text_lines.proofs.LineLemmas.{lines_told}
use Rattle.print_reasons.specs.Text.{head_text}
use Rattle.print_reasons.proofs.text.push_head.Goals as goal

pub returns : goal.returns
returns c =
    let packed = c.args.log.now.packed in
    let lines : map (told packed) (lines_of c.as_slice.result.now) ≡ lines_of (text_in c.args.log.now) =
    ap (λ (b : List ℕ). map (told packed) (lines_of b)) c.as_slice.ensures.value ∙ sym (lines_told packed c.args.log.now.codes.items) in
    on_ok_weaker c.push_first.result (λ last. last ∙ ap (λ (ls : List (List ℕ)). c.args.text.now.items ++ head_text ls) lines)
    c.push_first.ensures
