-- The logs are those that the board's end puts in one order.
use Rattle.std.proofs.Common.{◌≡◌, sym, subst}
use Rattle.board_tasks.specs.LogOrders.{LogsInOrder}
use Rattle.test_families.proofs.meeting.meet.Goals as goal

pub returns : goal.returns
returns g c =
    let board = c.in_ok-crew.crew.board in
    let e = c.in_ok-ended.ensures in
    record {
      ordered = (
        board.first.item,
        board.limit,
        subst (λ z. LogsInOrder board.first.item board.limit z c.in_ok-ended.ended.1) (sym e.logs) e.ordered,
      );
    }
