-- What the calls promise of the board, its lanes and their logs is the race.
use Rattle.std.proofs.Common.{rules, ◌≡◌, length, ap, refl, ◌∙◌}
use Rattle.board_tasks.specs.Tasks.{Permitted}
use Rattle.board_tasks.proofs.Works.{changed_whole}
use Rattle.print_report.specs.declared.report.Report.TheVariants.{Race}
use Rattle.fsr_answers.proofs.RaceLemmas.{race_counts, race_of, race_ready, race_worked}
use Rattle.fsr_answers.proofs.races.race.Goals as goal

pub run_tasks-requires-after_bounds : goal.run_tasks-requires-after_bounds
run_tasks-requires-after_bounds g c κs within =
    race_ready g.F.Family c.in-Ok.made.0 _ _ _ c.in-Ok.made.1.items c.args.scripts
    c.in_ok-lanes.lanes.items _ c.in-Ok.ensures c.in_ok-lanes.ensures
    c.as_mut_slice.ensures.value

pub finish_lanes-requires : goal.finish_lanes-requires
finish_lanes-requires g c =
    let n : c.in_ok-lanes.lanes.len ≡ length c.in_ok-lanes.lanes.items = search rules in
    let whole = changed_whole c.in_ok-lanes.lanes.len c.in_ok-lanes.lanes.items c.as_mut_slice.result.now c.run_tasks.new.lanes _ n
    c.as_mut_slice.ensures.value c.run_tasks.ensures.lengths refl in
    race_worked g.F.Family (Permitted g.G.Gate.is_for c.args.gate.now) (g.G.Gate.may_stop c.args.gate.now) c.args.limit _ _ c.args.scripts
    c.in-Ok.made.0 c.in-Ok.made.1.items c.in_ok-lanes.lanes.items c.as_mut_slice.result.now c.run_tasks.new.lanes _
    c.in-Ok.ensures c.in_ok-lanes.ensures c.as_mut_slice.ensures.value c.run_tasks.ensures whole

pub returns-clause-report : goal.returns-clause-report
returns-clause-report g c =
    let n : c.in_ok-lanes.lanes.len ≡ length c.in_ok-lanes.lanes.items = search rules in
    let whole = changed_whole c.in_ok-lanes.lanes.len c.in_ok-lanes.lanes.items c.as_mut_slice.result.now c.run_tasks.new.lanes _ n
    c.as_mut_slice.ensures.value c.run_tasks.ensures.lengths refl in
    race_of g.F.Family (Permitted g.G.Gate.is_for c.args.gate.now) (g.G.Gate.may_stop c.args.gate.now)
    c.args.opening c.args.limit _ c.args.scripts
    c.in-Ok.made.0 c.in-Ok.made.1.items c.in_ok-lanes.lanes.items c.as_mut_slice.result.now c.run_tasks.new.lanes _ c.in_ok-logs.logs.items
    c.as_slice.result.now c.as_slice-2.result.now _ c.check_origin.result c.new-tasks.result c.broken_at-broken.result
    (ap length c.as_slice-processes.ensures) c.in-Ok.ensures c.in_ok-lanes.ensures c.as_mut_slice.ensures.value c.run_tasks.ensures whole
    c.in_ok-logs.ensures.logs c.in_ok-logs.ensures.last c.in_ok-logs.ensures.atomic c.in_ok-logs.ensures.ordered c.as_slice.ensures.value
    (c.new-tasks.ensures ∙ c.in_ok-counts.ensures)
    c.as_slice-2.ensures.value c.check_origin.ensures.origin c.check_origin.ensures.run c.broken_at-broken.ensures

pub returns-clause-counted : goal.returns-clause-counted
returns-clause-counted g c never =
    race_counts g.F.Family (Permitted g.G.Gate.is_for c.args.gate.now) (g.G.Gate.may_stop c.args.gate.now) never c.args.opening c.args.limit
    c.args.scripts (Race c.new-tasks.result c.broken_at-broken.result) (returns-clause-report g c)
