-- Two pieces stand behind each other.
use Rattle.std.proofs.lemmas.Result.{on_ok_weaker}
use Rattle.reason_sentences.proofs.CountLemmas.{two_pieces}
use Rattle.reason_sentences.proofs.sentence.push_late.Goals as goal

pub returns : goal.returns
returns c = on_ok_weaker c.push_beside.result (λ last. two_pieces c.args.text.now.items _ _ c.push_gave.new.text.items
    c.push_beside.new.text.items c.in_ok-push_gave.ensures last) c.push_beside.ensures
