-- Each part is a clause of a call.
use Rattle.theorems.proofs.boards.board_end_theorem.Goals as goal

pub returns : goal.returns
returns g c = record {
  final = c.so_far-shown.new.passes.items;
  so_far = record {
    greatest = c.so_far-shown.ensures.last;
    order = c.so_far-shown.ensures.atomic;
    registers = c.so_far-shown.ensures.registers;
  };
  still = c.so_far-shown.ensures.same;
  ended = record {
    greatest = c.finish-last.ensures.last;
    order = c.finish-last.ensures.atomic;
    registers = c.finish-last.ensures.registers;
  };
}
