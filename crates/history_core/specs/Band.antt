-- The law of a band, this project's own: its reading lies between its limits.
use Rattle.std.specs.Prelude.{Bool, ◌&&◌, nat_le}
use Rattle.history_core.specs.declared.band.Band.{Band}

abbrev pub fits : Band → Bool
fits b = nat_le b.lo b.now && nat_le b.now b.hi
