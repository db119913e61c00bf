-- Four pieces stand behind each other.
use Rattle.std.proofs.lemmas.Result.{on_ok_weaker}
use Rattle.reason_sentences.proofs.CountLemmas.{four_pieces}
use Rattle.reason_sentences.proofs.crossed.push_old.Goals as goal

pub returns : goal.returns
returns c = on_ok_weaker c.push_beside.result (λ last. four_pieces c.args.text.now.items _ _ _ _ c.push_replaced.new.text.items
    c.push_shown_by.new.text.items c.push_times.new.text.items c.push_beside.new.text.items c.in_ok-push_replaced.ensures
    c.in_ok-push_shown_by.ensures c.in_ok-push_times.ensures last) c.push_beside.ensures
