-- Each key so far has a lawful order.
use Rattle.std.proofs.Common.{ℕ, List}
use Rattle.keys_log.specs.Keys.{IsKeysLog}
use Rattle.fsr_keys_answers.specs.KeysAnswers.{HaveOrders}
use Rattle.fsr_keys_answers.proofs.keys_verdict.judge_keys.Given as goal

abbrev pub invariant-loop-one : goal.invariant-loop-one
invariant-loop-one l = (bytes : List ℕ) (is : IsKeysLog bytes l.log) → HaveOrders is l.one-index l.orders.items
