-- The counts stand behind each other.
use Rattle.std.proofs.lemmas.Result.{on_ok_weaker}
use Rattle.reason_sentences.proofs.CountLemmas.{four_pieces}
use Rattle.print_keys.proofs.keys.push_totals.Goals as goal

pub returns : goal.returns
returns c = on_ok_weaker c.push_count-4.result (λ last. four_pieces c.args.text.now.items _ _ _ _ c.push_count.new.text.items
    c.push_count-2.new.text.items c.push_count-3.new.text.items c.push_count-4.new.text.items
    c.in_ok-push_count.ensures c.in_ok-push_count-2.ensures c.in_ok-push_count-3.ensures last) c.push_count-4.ensures
