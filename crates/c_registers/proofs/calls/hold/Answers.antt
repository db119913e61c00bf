-- The side's record is lent, and the side stays; or nothing is, and the room is as it was.
use Rattle.std.proofs.Common.{rules, ◌≡◌, ◌∙◌, sym, refl}
use Rattle.std.specs.Prelude.{◌≢◌}
use Rattle.c_registers.specs.Handles as handles
use Rattle.c_registers.proofs.calls.hold.Goals as goal

pub returns-then-live-code : goal.returns-then-live-code
returns-then-live-code g c =
    let not : c.args.live ≢ c.args.code = search rules in
    ((refl, (λ d. tt), (refl, handles.refused not refl)), record { back = tt; ok = tt; err = (not, c.lacks.ensures) })

pub returns : goal.returns
returns g c =
    let is : c.args.live ≡ c.args.code = search rules in
    let lent = c.reach-side.result.now in
    let lay = sym c.reach-side.ensures.value ∙ sym (g.met.D.Wraps.whole_of lent) in
    let back = c.hold_inside.follows.holds-at-none in (
      (
        refl,
        (λ d. tt),
        (g.met.L.Holds.stays _ _, handles.reader (g.D.Wraps.inner lent) back.0 (is, lay) (is, g.met.L.Holds.has _ _ ∙ back.1) back.2),
      ),
      record { back = tt; ok = (g.D.Wraps.inner lent, (is, lay), c.hold_inside.ensures.held); err = tt },
    )
