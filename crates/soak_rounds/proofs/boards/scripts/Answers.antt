-- One more script stands at its task's place.
use Rattle.std.proofs.Common.{◌≡◌, All, List, length, length-append, [], ◌∷◌, ⊎_elim, arith, ap, sym, subst, ◌∙◌}
use Rattle.std.specs.Prelude.{slice_get, Some}
use Rattle.std.proofs.lemmas.List.Elements.{All-push}
use Rattle.history_core.specs.declared.wish.Wish.{Wish}
use Rattle.board_tasks.specs.Logs.{Obeys}
use Rattle.board_tasks.proofs.LogLaws.{get_last}
use Rattle.soak_rounds.specs.declared.record.Record.{Record}
use Rattle.soak_rounds.specs.Findings.{counted}
use Rattle.soak_rounds.specs.Records.{no_law}
use Rattle.soak_rounds.specs.Scripts.{Scripted}
use Rattle.soak_rounds.proofs.BoardLists.{scripted_from}
use Rattle.soak_rounds.proofs.boards.scripts.Goals as goal

pub loop-task-preserved : goal.loop-task-preserved
loop-task-preserved g c =
    let all = c.loop-task.all.items in
    let script = c.in_ok-script.field-0 in
    let count : length all ≡ c.loop-task.task = c.loop-task.invariant.count in
    record {
      lawful = rw c.in_ok-push.ensures.items
          (All-push (λ (t : List (Wish (Record g.row.W.Denot))). All (Obeys no_law) t) all script c.loop-task.invariant.lawful
          c.in_ok-script.ensures.lawful);
      count = rw c.in_ok-push.ensures.items (omega (arith, count, length-append all (script ∷ [])));
      scripted = λ k t at. ⊎_elim (λ (old : slice_get all k ≡ Some t). c.loop-task.invariant.scripted k t old)
          (λ (new : (k ≡ length all) × (t ≡ script)).
          let w = c.in_ok-script.ensures.scripted in
          let first : c.saturating_add-first.result ≡ counted (counted c.args.from k) 1 =
          c.saturating_add-first.ensures
          ∙ ap (λ z. counted z 1) (c.saturating_add.ensures ∙ ap (counted c.args.from) (sym (new.0 ∙ count))) in (
            w.0,
            subst (λ z. Scripted (λ x. g.W.Words.listed x.words) (counted (counted c.args.from k) 1) c.args.tasks c.args.calls w.0 z)
                (sym new.1)
                (scripted_from (λ x. g.W.Words.listed x.words) c.saturating_add-first.result
                (counted (counted c.args.from k) 1) c.args.tasks
                c.args.calls w.0 script first w.1),
          ))
          (get_last all script k t (rw c.in_ok-push.ensures.items at at));
    }
