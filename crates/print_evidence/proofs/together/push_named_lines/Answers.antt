-- The lines stand behind the word, and a line feed behind them.
use Rattle.std.proofs.Common.{codes}
use Rattle.std.proofs.lemmas.Result.{on_ok_weaker}
use Rattle.reason_sentences.proofs.CountLemmas.{three_pieces}
use Rattle.print_reasons.specs.Text.{place_lines}
use Rattle.print_evidence.proofs.together.push_named_lines.Goals as goal

pub returns : goal.returns
returns c = on_ok_weaker c.push_words-2.result (λ last. three_pieces c.args.text.now.items (codes "unlawful together")
    (place_lines c.args.places.now) (codes "\n") c.push_words.new.text.items c.push_place_lines.new.text.items
    c.push_words-2.new.text.items c.in_ok-push_words.ensures c.in_ok-push_place_lines.ensures last) c.push_words-2.ensures
