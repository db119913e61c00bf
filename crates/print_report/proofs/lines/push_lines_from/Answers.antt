-- What a turn prints is the first of the lines that are left.
use Rattle.std.proofs.Common.{◌≡◌, ◌<◌, ◌+◌, ◌++◌, ◌∙◌, ℕ, List, ap, append_assoc, get_or, length, sym}
use Rattle.std.proofs.lemmas.List.{drop_more}
use Rattle.history_core.specs.declared.band.Band.{Band}
use Rattle.history_core.specs.declared.history.Op.{Op}
use Rattle.print_report.specs.Lines.{lines_from, op_line, op_lines}
use Rattle.print_report.proofs.lines.push_lines_from.Goals as goal

one_line : (mark : ℕ → List ℕ) (ops : List (Op Band)) (place : ℕ) (default : Op Band) (old new whole : List ℕ) → place < length ops →
    new ≡ old ++ op_line place (get_or ops place default) (mark place) → old ++ lines_from mark ops place ≡ whole →
    new ++ lines_from mark ops (place + 1) ≡ whole
one_line mark ops place default old new whole lt is was =
    ap (λ text. text ++ lines_from mark ops (place + 1)) is
    ∙ append_assoc old (op_line place (get_or ops place default) (mark place)) (lines_from mark ops (place + 1))
    ∙ ap (λ rest. old ++ op_lines mark place rest)
    (sym (drop_more ops place default lt))
    ∙ was

pub loop-place-preserved : goal.loop-place-preserved
loop-place-preserved g c =
    one_line (g.M.Marks.mark c.args.marks.now) c.args.ops.now c.loop-place.place _ c.loop-place.text.items c.push_line.new.text.items _
    c.loop-place-test.true c.in_ok-push_line.ensures c.loop-place.invariant
