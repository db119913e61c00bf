-- Each task is given the pass that was dealt to it, and what they promised of these passes is what the end of the board asks for.
use Rattle.std.proofs.Common.{◌≡◌, ◌∙◌, [], ◌∷◌, ap, sym, subst}
use Rattle.board_live.specs.Ends.{AllPasses, HaveAtomicOrder}
use Rattle.board_live.specs.Passes.{IsPass}
use Rattle.example_control.specs.Turns.{in_order}
use Rattle.example_control.proofs.Three.{all_back, come_back, controlled}
use Rattle.example_control.proofs.program.run.Goals as goal

pub start_limits-requires-after_bounds : goal.start_limits-requires-after_bounds
start_limits-requires-after_bounds g c κs within =
    subst (λ z. IsPass g.F.Family in_order z c.in_ok-board.limits) (sym (ap (λ z. z.board) c.in_ok-shared.ensures.ok ∙ c.new.ensures))
    c.in_ok-board.ensures.limits.of

pub start_readings-requires-after_bounds : goal.start_readings-requires-after_bounds
start_readings-requires-after_bounds g c κs within =
    subst (λ z. IsPass g.F.Family in_order z c.in_ok-board.readings) (sym (ap (λ z. z.board) c.in_ok-shared.ensures.ok ∙ c.new.ensures))
    c.in_ok-board.ensures.readings.of

pub start_steering-requires-after_bounds : goal.start_steering-requires-after_bounds
start_steering-requires-after_bounds g c κs within =
    subst (λ z. IsPass g.F.Family in_order z c.in_ok-board.steering) (sym (ap (λ z. z.board) c.in_ok-shared.ensures.ok ∙ c.new.ensures))
    c.in_ok-board.ensures.steering.of

pub end-requires : goal.end-requires
end-requires g c =
    let dealt = c.in_ok-board.ensures in
    let made = ap (λ z. z.board) c.in_ok-shared.ensures.ok ∙ c.new.ensures in
    let back = come_back g.F.Family c.in_ok-board.board g.M.Motor.was_sent c.args.opening c.in_ok-board.limits c.in_ok-board.readings
    c.in_ok-board.steering dealt _ _ _ _ _ _ c.join-limits.result c.join-readings.result c.join-steering.result.0 c.args.motor _
    c.join-steering.result.1 (c.in_ok-limits.ensures.board ∙ made) c.in_ok-limits.ensures.pass c.join-limits.ensures
    (c.in_ok-readings.ensures.board ∙ made) c.in_ok-readings.ensures.pass c.join-readings.ensures (c.in_ok-steering.ensures.board ∙ made)
    c.in_ok-steering.ensures.pass c.in_ok-steering.ensures.motor c.join-steering.ensures in
    let whole = ap (λ z. z.board) c.in-Some.ensures in
    let part = c.in-Some.board-is in
    let inside = ap (λ z. z.board) c.in-Some.field-0-is in
    let same : c.in-Some.field-0.board ≡ c.in_ok-board.board = cc in
    subst (λ z. AllPasses g.F.Family in_order z (c.join-limits.result ∷ c.join-readings.result ∷ c.join-steering.result.0 ∷ [])) (sym same)
    (all_back g.F.Family c.in_ok-board.board c.join-limits.result c.join-readings.result c.join-steering.result.0 back.limits_calls
    back.readings_calls back.steering_calls back.limits back.readings back.steering dealt.three)

pub returns : goal.returns
returns g c =
    let dealt = c.in_ok-board.ensures in
    let made = ap (λ z. z.board) c.in_ok-shared.ensures.ok ∙ c.new.ensures in
    let back = come_back g.F.Family c.in_ok-board.board g.M.Motor.was_sent c.args.opening c.in_ok-board.limits c.in_ok-board.readings
    c.in_ok-board.steering dealt _ _ _ _ _ _ c.join-limits.result c.join-readings.result c.join-steering.result.0 c.args.motor _
    c.join-steering.result.1 (c.in_ok-limits.ensures.board ∙ made) c.in_ok-limits.ensures.pass c.join-limits.ensures
    (c.in_ok-readings.ensures.board ∙ made) c.in_ok-readings.ensures.pass c.join-readings.ensures (c.in_ok-steering.ensures.board ∙ made)
    c.in_ok-steering.ensures.pass c.in_ok-steering.ensures.motor c.join-steering.ensures in
    let whole = ap (λ z. z.board) c.in-Some.ensures in
    let part = c.in-Some.board-is in
    let inside = ap (λ z. z.board) c.in-Some.field-0-is in
    let same : c.in-Some.field-0.board ≡ c.in_ok-board.board = cc in
    controlled g.F.Family c.in_ok-board.board c.join-limits.result c.join-readings.result c.join-steering.result.0 back.limits_calls
    back.readings_calls back.steering_calls back.limits back.readings back.steering g.M.Motor.was_sent c.args.opening c.in_ok-last.last
    c.args.motor c.join-steering.result.1 dealt.opened dealt.limited dealt.three back.drives
    (subst (λ z. HaveAtomicOrder g.F.Family z
    (c.join-limits.result ∷ c.join-readings.result ∷ c.join-steering.result.0 ∷ []) c.in_ok-last.last)
    same c.in_ok-last.ensures)
