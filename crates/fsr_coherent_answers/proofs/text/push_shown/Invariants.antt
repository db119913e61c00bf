-- Each turn prints one line behind what was printed before.
use Rattle.std.proofs.Common.{◌≡◌, ◌++◌, ℕ, List, map, take}
use Rattle.print_reasons.specs.Text.{body_of}
use Rattle.text_lines.specs.Words.{told}
use Rattle.print_evidence.specs.Together.{shown_lines}
use Rattle.fsr_coherent_answers.proofs.text.push_shown.Given as goal

abbrev pub invariant-loop-place : goal.invariant-loop-place
invariant-loop-place l = (codes : List ℕ) → map (λ line. line.now) l.lines ≡ body_of codes →
    l.text.items ≡ l.initial.text.items ++ shown_lines (told l.packed.packed codes) (take l.place-index l.places)
