-- One more log that keeps the rule keeps what is known of the logs before.
use Rattle.std.proofs.Common.{◌≡◌, ◌<◌, ap, arith, length, map, refl, subst, ◌∙◌}
use Rattle.std.specs.Prelude.{slice_get, Some}
use Rattle.std.specs.Option.{option_map}
use Rattle.std.proofs.lemmas.Option.{slice_get-map, slice_get_read, slice_get_within}
use Rattle.std.proofs.lemmas.List.{length-map}
use Rattle.board_tasks.specs.Origins.{IsFirstIn, KeptBefore}
use Rattle.board_tasks.proofs.SoundLogs.{tasks_more}
use Rattle.board_tasks.proofs.origin.rule.first_break.Goals as goal

pub loop-task-preserved : goal.loop-task-preserved
loop-task-preserved g c =
    let logged = g.L.HasLog.logged in
    let rule = g.U.Rule.rule c.args.rule.now in
    let lane : slice_get c.args.logs.now c.loop-task.task ≡ Some c.index-logs-task.result =
    slice_get_read c.args.logs.now (length c.args.logs.now) c.loop-task.task c.index-logs-task.result refl
    (omega arith) c.index-logs-task.is in
    let at : slice_get (map logged c.args.logs.now) c.loop-task.task ≡ Some (logged c.index-logs-task.result) =
    slice_get-map logged c.args.logs.now c.loop-task.task ∙ ap (option_map logged) lane in
    let kept : KeptBefore rule c.loop-task.task (logged c.index-logs-task.result) (length (logged c.index-logs-task.result)) =
    subst (λ z. KeptBefore rule c.loop-task.task z (length z)) c.entries.ensures c.in_default.ensures.none in
    tasks_more rule (map logged c.args.logs.now) c.loop-task.task (logged c.index-logs-task.result) at c.loop-task.invariant kept

pub returns-clause-none : goal.returns-clause-none
returns-clause-none g c = λ t j log e p q.
    let inside : t < length (map g.L.HasLog.logged c.args.logs.now) = slice_get_within (map g.L.HasLog.logged c.args.logs.now) t log p in
    let is : length (map g.L.HasLog.logged c.args.logs.now) ≡ length c.args.logs.now = length-map c.args.logs.now g.L.HasLog.logged in
    c.loop-task.invariant t j log e (omega arith) p q

pub returns-in-Some-clause-first : goal.returns-in-Some-clause-first
returns-in-Some-clause-first g c =
    let logged = g.L.HasLog.logged in
    let rule = g.U.Rule.rule c.args.rule.now in
    let lane : slice_get c.args.logs.now c.loop-task.task ≡ Some c.index-logs-task.result =
    slice_get_read c.args.logs.now (length c.args.logs.now) c.loop-task.task c.index-logs-task.result refl
    (omega arith) c.index-logs-task.is in
    let at : slice_get (map logged c.args.logs.now) c.loop-task.task ≡ Some (logged c.index-logs-task.result) =
    slice_get-map logged c.args.logs.now c.loop-task.task ∙ ap (option_map logged) lane in
    record {
      log = logged c.index-logs-task.result;
      place = c.in-Some.place;
      at = at;
      count = refl;
      breaks = subst (λ z. IsFirstIn rule c.loop-task.task z c.in-Some.place) c.entries.ensures c.in-Some.ensures.first;
      first = c.loop-task.invariant;
    }
