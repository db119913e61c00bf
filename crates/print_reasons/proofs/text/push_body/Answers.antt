-- The lines for which the codes of the body stand are those behind the header.
use Rattle.std.proofs.Common.{◌≡◌, ◌∙◌, ◌++◌, List, ℕ, ap, map}
use Rattle.std.proofs.lemmas.Result.{on_ok_weaker}
use Rattle.text_lines.specs.Splits.{lines_of}
use Rattle.text_lines.specs.Words.{text_in, told}
use Rattle.print_reasons.specs.Text.{body_of, named_text}
use Rattle.print_reasons.proofs.BodyLemmas.{told_body}
use Rattle.print_reasons.proofs.text.push_body.Goals as goal

pub returns : goal.returns
returns c =
    let packed = c.args.log.now.packed in
    let lines : map (told packed) (lines_of c.body_of-body.result.now) ≡ body_of (text_in c.args.log.now) =
    ap (map (told packed)) (c.body_of-body.ensures ∙ ap body_of c.as_slice.ensures.value) ∙ told_body packed c.args.log.now.codes.items in
    on_ok_weaker c.push_named.result (λ last. last
    ∙ ap (λ (ls : List (List ℕ)). c.args.text.now.items ++ named_text c.args.ops.now c.args.places.now c.args.named.now 0 0 ls) lines)
    c.push_named.ensures
