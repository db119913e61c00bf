-- The slot is lent and filled, or nothing is lent, and the room is as it was.
use Rattle.std.proofs.Common.{rules, ◌≡◌, ◌∙◌, sym, refl}
use Rattle.std.specs.Prelude.{◌≢◌}
use Rattle.c_registers.proofs.calls.slot.Goals as goal

pub returns-then-live-code : goal.returns-then-live-code
returns-then-live-code g c =
    let not : c.args.live ≢ c.args.code = search rules in
    ((refl, (λ w. search rules), refl), record { lent = tt; ok = tt; err = (not, c.lacks.ensures) })

pub returns : goal.returns
returns g c =
    let is : c.args.live ≡ c.args.code = search rules in
    let side = c.reach-side.result.now in
    let lay = sym c.reach-side.ensures.value ∙ sym (g.met.D.Wraps.whole_of side) in (
      (refl, (λ w ok. (g.met.L.Holds.stays _ _, (g.D.Wraps.inner side, (is, lay), (is, g.met.L.Holds.has _ _)))), search rules),
      record { lent = tt; ok = (g.D.Wraps.inner side, (is, lay), c.slot_inside.ensures.value); err = tt },
    )
