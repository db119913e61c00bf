-- The log that the stamp names is in order.
use Rattle.std.proofs.Common.{◌≡◌, ap, length, map, refl, sym, subst, ◌∙◌}
use Rattle.std.specs.Prelude.{slice_get, Some}
use Rattle.std.specs.Option.{option_map}
use Rattle.std.proofs.lemmas.Option.{slice_get-map, slice_get_read}
use Rattle.board_tasks.specs.Origins.{in_order, KeptBefore}
use Rattle.board_tasks.proofs.origin.known.is_known.Goals as goal

pub has_write-requires : goal.has_write-requires
has_write-requires g c =
    let logged = g.L.HasLog.logged in
    let task = c.args.posted.now.stamp.writer in
    let found = c.in-Some.ensures.lookup in
    let lane : slice_get c.args.logs.now task ≡ Some c.in-Some.log.now =
    slice_get_read c.args.logs.now (length c.args.logs.now) task c.in-Some.log.now refl found.3.0 found.1 in
    let at : slice_get (map logged c.args.logs.now) task ≡ Some (logged c.in-Some.log.now) =
    slice_get-map logged c.args.logs.now task ∙ ap (option_map logged) lane in
    let kept : KeptBefore in_order task (logged c.in-Some.log.now) (length (logged c.in-Some.log.now)) =
    λ j e l p. c.requires task j (logged c.in-Some.log.now) e at p in
    subst (λ z. KeptBefore in_order task z (length z)) (sym c.entries.ensures) kept
