-- The receipt stands in what the pass has heard, and stays there.
use Rattle.std.proofs.Common.{◌≡◌, ◌++◌, ◌∷◌, [], length, ap, ◌∙◌}
use Rattle.cell_contract.specs.declared.times.Known.{Known}
use Rattle.cell_contract.specs.Intervals.{known_as}
use Rattle.cell_contract.proofs.Heard.{learnt_last, no_older}
use Rattle.example_cell.proofs.receipts.followed.Goals as goal

pub returns-clause-first : goal.returns-clause-first
returns-clause-first g c =
    let calls = g.C.Calls in
    let before = calls.heard c.args.get.now in
    let told : Known g.row.T.Denot = known_as (calls.written c.args.put.now) (calls.put_times c.args.put.now) in
    let get = c.read-first.new.get in
    let heard : calls.heard get ≡ before ++ told ∷ [] = c.read-first.ensures.heeds.0
    ∙ (c.learn.ensures.heard ∙ ap (λ z. before ++ z ∷ []) c.tell-receipt.ensures.tells) in
    no_older (calls.opening c.args.cell.now) c.read-first.result (calls.heard get) (length before) _ _ _ _ _ _ c.read-first.ensures.heeds.1
    c.read-first.ensures.numbered (calls.written c.args.put.now) (calls.put_times c.args.put.now)
    (learnt_last before (calls.heard get) told heard)

pub returns-clause-second : goal.returns-clause-second
returns-clause-second g c =
    let calls = g.C.Calls in
    let before = calls.heard c.args.get.now in
    let told : Known g.row.T.Denot = known_as (calls.written c.args.put.now) (calls.put_times c.args.put.now) in
    let get = c.read-second.new.get in
    let kept : calls.heard get ≡ before ++ told ∷ [] = c.read-second.ensures.heeds.0 ∙ (c.read-first.ensures.heeds.0
    ∙ (c.learn.ensures.heard ∙ ap (λ z. before ++ z ∷ []) c.tell-receipt.ensures.tells)) in
    no_older (calls.opening c.args.cell.now) c.read-second.result (calls.heard get) (length before) _ _ _ _ _
    _ c.read-second.ensures.heeds.1
    c.read-second.ensures.numbered (calls.written c.args.put.now) (calls.put_times c.args.put.now)
    (learnt_last before (calls.heard get) told kept)
