-- One word more.
use Rattle.std.proofs.Common.{◌∙◌, ◌++◌, ◌+◌, ℕ, List, ap, drop, get_or, sym}
use Rattle.std.proofs.lemmas.List.{at_drop_more}
use Rattle.record_words.specs.Origins.{word_text, words_text}
use Rattle.record_words.proofs.TextLemmas.{one_part}
use Rattle.record_words.proofs.origins.push_words.Goals as goal

pub loop-place-preserved : goal.loop-place-preserved
loop-place-preserved c = one_part c.loop-place.text.items
    (word_text c.args.lines.now c.loop-place.place (get_or c.args.words.now c.loop-place.place 0))
    (words_text c.args.lines.now (c.loop-place.place + 1) (drop (c.loop-place.place + 1) c.args.words.now)) _
    c.push_word.new.text.items c.in_ok-push_word.ensures
    (ap (λ (l : List ℕ). c.loop-place.text.items ++ l)
    (sym (at_drop_more (words_text c.args.lines.now c.loop-place.place) c.args.words.now c.loop-place.place 0 c.loop-place-test.true))
    ∙ c.loop-place.invariant)
