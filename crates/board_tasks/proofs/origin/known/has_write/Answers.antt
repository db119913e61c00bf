-- The entry at the place that was found decides.
use Rattle.std.proofs.Common.{◌≡◌, length, refl, ◌∙◌}
use Rattle.std.specs.Prelude.{slice_get, Some}
use Rattle.std.proofs.lemmas.Option.{slice_get_past, slice_get_read}
use Rattle.board_tasks.proofs.FoundWrites.{no_write, write_found}
use Rattle.board_tasks.proofs.origin.known.has_write.Goals as goal

pub returns-in-Some : goal.returns-in-Some
returns-in-Some g c =
    let found = c.in-Some.ensures.lookup in
    let at : slice_get c.args.log.now c.first_from.result ≡ Some c.in-Some.entry.now =
    slice_get_read c.args.log.now (length c.args.log.now) c.first_from.result c.in-Some.entry.now refl found.3.0 found.1 in
    c.wrote.ensures
    ∙ write_found c.args.task c.args.log.now c.requires g.V.PartialEq.eq c.args.posted.now c.first_from.result c.first_from.ensures
    c.in-Some.entry.now at

pub returns-in-None : goal.returns-in-None
returns-in-None g c =
    no_write c.args.task c.args.log.now c.requires g.V.PartialEq.eq c.args.posted.now c.first_from.result c.first_from.ensures
    (slice_get_past c.args.log.now c.first_from.result c.in-None.ensures.lookup.3)
