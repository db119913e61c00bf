-- The write ended before the read began, so the read's number is no smaller, and there is no later write.
use Rattle.std.proofs.Common.{◌≡◌, ◌++◌, ◌∷◌, [], List, ap, sym, ◌∙◌, subst}
use Rattle.cell_contract.specs.Intervals.{AreAtomic, HaveEnded, IsHeard, IsNextCall}
use Rattle.cell_contract.proofs.Heard.{heard_last}
use Rattle.example_cell.proofs.receipts.heard.Goals as goal

pub returns : goal.returns
returns g c =
    let T = g.row.T.Denot in
    let calls = g.C.Calls in
    let item : T = c.args.item in
    let put = c.tell-receipt.new.put in
    let get = c.read-answer.new.get in
    let before = calls.written c.args.put in
    let answers = calls.answers c.learn.new.get in
    let written : calls.written put ≡ before ++ item ∷ [] = c.tell-receipt.ensures.same.0 ∙ c.write.ensures.written in
    let atomic = subst (λ (z : List T × List T). AreAtomic (calls.opening c.args.cell) z.0 (calls.put_times put) z.1 (calls.numbers get)
    (calls.get_times get)) (λ i. (written i, c.read-answer.ensures.answers i)) c.finish.ensures.atomic in
    let wrote = subst (λ z. IsNextCall (calls.put_times c.args.put) z) (sym c.tell-receipt.ensures.timed.0) c.write.ensures.timed in
    let learnt = subst (λ z. IsHeard (calls.get_times c.args.get) (calls.get_times c.learn.new.get) z)
    (c.tell-receipt.ensures.timed.1 ∙ ap (λ z. z.clock) (sym c.tell-receipt.ensures.timed.0)) c.learn.ensures.timed in
    let next = c.read-answer.ensures.numbered in
    heard_last (calls.opening c.args.cell) before answers (calls.numbers get) (calls.put_times put) (calls.get_times get)
    (calls.put_times c.args.put) (calls.get_times c.args.get) (calls.get_times c.learn.new.get) (calls.numbers c.learn.new.get) next.number
    item c.read-answer.result atomic c.finish.ensures.ended wrote learnt c.read-answer.ensures.timed next.numbers
