-- One more place: a source that began sooner, or no such one.
use Rattle.std.proofs.lemmas.Bool.{iff_false}
use Rattle.object_sources.proofs.Sourced.{no_sooner, none_there, sooner_there}
use Rattle.object_sources.proofs.source.first_of.Goals as goal
use Rattle.object_sources.proofs.source.first_of.Goals.{else-may_leave-via-then-may_leave+else-is_sooner, else-may_leave-via-else-may_leave}
use Rattle.std.proofs.Common.{sym, ◌∙◌}

pub returns-then-is_sooner : goal.returns-then-is_sooner
returns-then-is_sooner c h =
    sooner_there c.args.log.now c.args.value c.args.at c.args.first (c.may_leave.ensures.0 c.if-may_leave.true)
    (sym c.is_sooner.ensures ∙ c.if-is_sooner.true) h

pub returns-else-may_leave : goal.returns-else-may_leave
returns-else-may_leave c h = elim c.else-may_leave.branch [
  | else-may_leave-via-then-may_leave+else-is_sooner w ↦
      no_sooner c.args.log.now c.args.value c.args.at c.args.first (sym w.is_sooner.ensures ∙ w.if-is_sooner.false) h
  | else-may_leave-via-else-may_leave w ↦
      none_there c.args.log.now c.args.value c.args.at c.args.first (iff_false c.may_leave.ensures w.if-may_leave.false) h
]
