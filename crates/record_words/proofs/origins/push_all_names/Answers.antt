-- One line more.
use Rattle.std.proofs.Common.{◌∙◌, ◌++◌, ◌+◌, ℕ, List, ap, codes, drop, get_or, sym}
use Rattle.std.proofs.lemmas.List.{at_drop_more}
use Rattle.record_words.specs.Origins.{gap_text, line_name, names_from}
use Rattle.record_words.proofs.TextLemmas.{one_part}
use Rattle.record_words.proofs.origins.push_all_names.Goals as goal

pub loop-number-preserved : goal.loop-number-preserved
loop-number-preserved c = one_part c.loop-number.text.items
    (gap_text (codes " (") c.loop-number.number ++ line_name (get_or c.args.lines.now c.loop-number.number 0))
    (names_from (c.loop-number.number + 1) (drop (c.loop-number.number + 1) c.args.lines.now)) _
    c.push_name.new.text.items c.in_ok-push_name.ensures
    (ap (λ (l : List ℕ). c.loop-number.text.items ++ l)
    (sym (at_drop_more (names_from c.loop-number.number) c.args.lines.now c.loop-number.number 0 c.loop-number-test.true))
    ∙ c.loop-number.invariant)
