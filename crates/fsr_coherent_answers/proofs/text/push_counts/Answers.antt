-- The counts stand behind each other, and the end behind them.
use Rattle.std.proofs.Common.{◌∙◌, ◌++◌, ap, codes}
use Rattle.std.proofs.lemmas.Result.{on_ok_weaker}
use Rattle.print_reasons.specs.Counts.{count_text}
use Rattle.reason_sentences.proofs.CountLemmas.{five_pieces}
use Rattle.fsr_coherent_answers.proofs.text.push_counts.Goals as goal

pub returns : goal.returns
returns c = on_ok_weaker c.push_end.result (λ last. five_pieces c.args.text.now.items _ _ _ _ _ c.push_count.new.text.items
    c.push_count-2.new.text.items c.push_count-3.new.text.items c.push_count-4.new.text.items c.push_end.new.text.items
    (c.in_ok-push_count.ensures
    ∙ ap (λ n. c.args.text.now.items ++ count_text n (codes " operations, ")) (c.len.ensures ∙ c.args.log.now.ops.ok.0))
    c.in_ok-push_count-2.ensures c.in_ok-push_count-3.ensures c.in_ok-push_count-4.ensures last)
    c.push_end.ensures
