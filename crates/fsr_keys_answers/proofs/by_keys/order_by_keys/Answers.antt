-- A line that is refused for its key tells that there are several.
use Rattle.std.proofs.Common.{◌∙◌, sym}
use Rattle.text_lines.specs.Words.{text_in}
use Rattle.fsr_keys_answers.proofs.ByKeysLemmas.{of_keys, of_one_key}
use Rattle.fsr_keys_answers.proofs.by_keys.order_by_keys.Goals as goal

pub returns-then-is_other_key : goal.returns-then-is_other_key
returns-then-is_other_key c =
    of_keys c.args.show (text_in c.args.packed.now) c.order_one_key-reply.result c.order_keys.result c.order_one_key-reply.ensures
    (sym c.is_other_key.ensures ∙ c.if-is_other_key.true) c.order_keys.ensures

pub returns-else-is_other_key : goal.returns-else-is_other_key
returns-else-is_other_key c =
    of_one_key c.args.show (text_in c.args.packed.now) c.order_one_key-reply.result c.order_one_key-reply.ensures
    (sym c.is_other_key.ensures ∙ c.if-is_other_key.false)
