-- What the codes of the line stand for is the line.
use Rattle.std.proofs.Common.{◌≡◌, ◌∙◌, ◌++◌, [], List, ℕ, ap, map, slice_get}
use Rattle.std.specs.Prelude.{unwrap_or}
use Rattle.std.proofs.lemmas.Result.{on_ok_weaker}
use Rattle.text_lines.specs.Words.{told}
use Rattle.print_evidence.specs.Lost.{line_in}
use Rattle.print_evidence.proofs.LostLemmas.{told_line}
use Rattle.print_reasons.specs.Text.{body_of, line_text}
use Rattle.fsr_coherent_answers.proofs.text.push_shown_line.Goals as goal

pub returns : goal.returns
returns c =
    on_ok_weaker c.push_line.result (λ last codes these. last
    ∙ ap (λ (l : List ℕ). c.args.text.now.items ++ line_text c.args.place l) (shown codes these)) c.push_line.ensures
  where
    shown : (codes : List ℕ) → map (λ line. line.now) c.args.lines.now ≡ body_of codes
        → c.as_slice.result.now ≡ line_in (told c.args.packed.now.packed codes) c.args.place
    shown codes these =
        c.as_slice.ensures.value ∙ c.in_ok-tell.ensures
        ∙ ap (told c.args.packed.now.packed)
        (c.line_in.ensures ∙ ap (λ (ls : List (List ℕ)). unwrap_or (slice_get ls c.args.place) []) these)
        ∙ told_line c.args.packed.now.packed codes c.args.place
