-- One more entry that keeps the rule keeps what is known of those before.
use Rattle.std.proofs.Common.{refl, arith, length, sym, ◌∙◌, ◌≡◌, Some}
use Rattle.std.specs.Prelude.{slice_get}
use Rattle.std.proofs.lemmas.Option.{slice_get_read}
use Rattle.board_tasks.proofs.SoundLogs.{kept_more}
use Rattle.board_tasks.proofs.origin.rule.first_in.Goals as goal

pub loop-place-preserved : goal.loop-place-preserved
loop-place-preserved g c =
    let at : slice_get c.args.log.now c.loop-place.place ≡ Some c.index-log-place.result =
    slice_get_read c.args.log.now (length c.args.log.now) c.loop-place.place c.index-log-place.result refl
    (omega arith) c.index-log-place.is in
    rw c.stamp-before.ensures
    (kept_more (g.U.Rule.rule c.args.rule.now) c.args.task c.args.log.now c.loop-place.place c.loop-place.before
    c.index-log-place.result at c.loop-place.invariant (sym c.keeps.ensures ∙ c.if-not-keeps.false))
