-- The next operation follows the last one of its task, and is its last then.
use Rattle.std.proofs.Common.{◌≡◌, sym, ◌∙◌, subst, None}
use Rattle.std.proofs.lemmas.Result.{on_ok_weaker}
use Rattle.std.specs.BTreeMap.{get}
use Rattle.std.specs.Ordering.{nat_cmp}
use Rattle.kept_lines.proofs.TaskLemmas.{apart_keys, Follows, follows_of, last_more, overlap_of, turns_next}
use Rattle.kept_lines.specs.Lasts.{overlapped}
use Rattle.kept_lines.specs.Tasks.{IsLast}
use Rattle.kept_lines.proofs.turns.Turns.enter.Goals as goal

pub returns-in-None-clause-entered : goal.returns-in-None-clause-entered
returns-in-None-clause-entered c = on_ok_weaker c.put.result (λ put log long knows.
    let is : IsLast log c.args.op.now.who c.last_of-last.result =
    subst (IsLast log c.args.op.now.who) (sym c.last_of-last.ensures) (knows.last c.args.op.now.who) in
    let none : overlapped c.last_of-last.result c.args.op.now.starts ≡ None = sym c.overlapped.ensures ∙ c.in-None.is in
    let follows : Follows c.args.op.now c.last_of-last.result = follows_of c.args.op.now c.last_of-last.result none in
    record {
      turn = turns_next log c.args.op.now c.last_of-last.result knows.turn is follows;
      last = last_more log c.args.op.now c.args.place (get nat_cmp c.args.self.now.last) (get nat_cmp c.put.new.self.last) long c.requires
          (subst (Follows c.args.op.now) c.last_of-last.ensures follows) knows.last put.1
          (λ who apart. put.2 who (apart_keys c.args.op.now.who who apart));
    }) c.put.ensures.put

pub returns-in-Some-clause-error : goal.returns-in-Some-clause-error
returns-in-Some-clause-error c = λ log knows.
    overlap_of log c.args.op.now c.last_of-last.result c.in-Some.first
    (subst (IsLast log c.args.op.now.who) (sym c.last_of-last.ensures) (knows.last c.args.op.now.who))
    (sym c.overlapped.ensures ∙ c.in-Some.is)
