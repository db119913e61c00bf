-- Three pieces stand behind each other.
use Rattle.std.proofs.lemmas.Result.{on_ok_weaker}
use Rattle.reason_sentences.proofs.CountLemmas.{three_pieces}
use Rattle.fsr_coherent_answers.proofs.text.push_ahead.Goals as goal

pub returns : goal.returns
returns c = on_ok_weaker c.push_words.result (λ last. three_pieces c.args.text.now.items _ _ _ c.push_line_of.new.text.items
    c.push_line_of-2.new.text.items c.push_words.new.text.items c.in_ok-push_line_of.ensures c.in_ok-push_line_of-2.ensures last)
    c.push_words.ensures
