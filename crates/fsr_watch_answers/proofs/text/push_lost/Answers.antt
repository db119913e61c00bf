-- The numbers stand behind each other, with words between them.
use Rattle.std.proofs.lemmas.Result.{on_ok_weaker}
use Rattle.fsr_watch_answers.proofs.PieceLemmas.{three_pieces}
use Rattle.fsr_watch_answers.proofs.text.push_lost.Goals as goal

pub returns : goal.returns
returns c = on_ok_weaker c.push_count-3.result (λ last. three_pieces c.args.text.now.items _ _ _ c.push_count.new.text.items
    c.push_count-2.new.text.items c.push_count-3.new.text.items c.in_ok-push_count.ensures c.in_ok-push_count-2.ensures last)
    c.push_count-3.ensures
