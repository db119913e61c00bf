-- Three pieces stand behind each other.
use Rattle.std.proofs.lemmas.Result.{on_ok_weaker}
use Rattle.reason_sentences.proofs.CountLemmas.{three_pieces}
use Rattle.reason_sentences.proofs.beside.push_seen.Goals as goal

pub returns : goal.returns
returns c = on_ok_weaker c.push_rest.result (λ last. three_pieces c.args.text.now.items _ _ _ c.push_words.new.text.items
    c.push_seen_lines.new.text.items c.push_rest.new.text.items c.in_ok-push_words.ensures c.in_ok-push_seen_lines.ensures last)
    c.push_rest.ensures
