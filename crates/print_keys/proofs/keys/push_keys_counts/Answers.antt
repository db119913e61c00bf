-- The counts, how many keys there are, and the end stand behind each other.
use Rattle.std.proofs.Common.{◌∙◌, ◌++◌, ap, ℕ}
use Rattle.std.specs.Prelude.{codes}
use Rattle.std.proofs.lemmas.Result.{on_ok_weaker}
use Rattle.print_reasons.specs.Counts.{count_text}
use Rattle.reason_sentences.proofs.CountLemmas.{three_pieces}
use Rattle.print_keys.proofs.keys.push_keys_counts.Goals as goal

pub returns : goal.returns
returns c = on_ok_weaker c.push_end.result (λ last. three_pieces c.args.text.now.items _ _ _ c.push_totals.new.text.items
    c.push_count.new.text.items c.push_end.new.text.items c.in_ok-push_totals.ensures (c.in_ok-push_count.ensures
    ∙ ap (λ (n : ℕ). c.push_totals.new.text.items ++ count_text n (codes " keys")) (c.len.ensures ∙ c.args.log.now.logs.ok.0)) last)
    c.push_end.ensures
