-- The stamp that C has (this project's definitions).
use Rattle.matrix_core.specs.declared.stamp.Stamp.{Stamp}
use Rattle.c_boards.specs.declared.mark.Mark.{Mark}

abbrev pub stamp_of : Mark → Stamp
stamp_of m = record { tag = m.tag; writer = m.writer }
