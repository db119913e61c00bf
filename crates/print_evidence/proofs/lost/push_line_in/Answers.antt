-- What the codes of the line stand for is the line.
use Rattle.std.proofs.Common.{◌≡◌, ◌∙◌, ◌++◌, Bool, List, ℕ, ap}
use Rattle.std.proofs.lemmas.Result.{on_ok_weaker}
use Rattle.text_lines.specs.Words.{text_in, told}
use Rattle.print_evidence.specs.Lost.{line_in}
use Rattle.print_evidence.proofs.LostLemmas.{told_line}
use Rattle.print_reasons.specs.Text.{line_text}
use Rattle.print_evidence.proofs.lost.push_line_in.Goals as goal

pub returns : goal.returns
returns c =
    let packed : Bool = c.args.log.now.packed in
    let shown : c.as_slice-2.result.now ≡ line_in (text_in c.args.log.now) c.args.place =
    c.as_slice-2.ensures.value ∙ c.in_ok-tell.ensures
    ∙ ap (told packed) (c.line_in.ensures ∙ ap (λ (l : List ℕ). line_in l c.args.place) c.as_slice.ensures.value)
    ∙ told_line packed c.args.log.now.codes.items c.args.place in
    on_ok_weaker c.push_line.result (λ last. last ∙ ap (λ (l : List ℕ). c.args.text.now.items ++ line_text c.args.place l) shown)
    c.push_line.ensures
