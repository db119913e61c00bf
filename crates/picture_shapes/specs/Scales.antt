-- Where moments and lanes lie in a picture, in pixels (this project's own). The numbers are looks alone: the margin at
-- the left, the width of a column, the margin at the top and the height of a lane.
use Rattle.std.specs.Prelude.{ℕ, ◌+◌, ◌-◌, ◌*◌, ◌/◌, ◌^◌, nat_eq, nat_le, max, min, List, length}
use Rattle.std.specs.Prelude.{Option, None, Some, if◌then◌else◌}
use Rattle.std.specs.Fmt.{decimal}
use Rattle.std.specs.List.{fold}
use Rattle.history_core.specs.declared.band.Band.{Band}
use Rattle.history_core.specs.declared.history.Op.{Op}
use Rattle.picture_shapes.specs.declared.scale.Scale.{Scale}

-- the column of a moment: as many moments make a column as the scale says, and there are 100,000 columns at most
abbrev pub unit_in : Scale → ℕ
unit_in s = min (s.extra + 1) (2 ^ 64 - 1)

abbrev pub column : Scale → ℕ → ℕ
column s moment = min 100000 ((moment - s.least) / unit_in s)

abbrev pub x_of : Scale → ℕ → ℕ
x_of s moment = 96 + s.wide * column s moment

-- the right end, behind the last moment, with room for a line of text
abbrev pub far_of : Scale → ℕ
far_of s = max s.room (x_of s s.most + 96)

-- the top of a lane
abbrev pub y_of : ℕ → ℕ
y_of lane = 84 + 64 * min 63 lane

-- the least moment and the greatest
abbrev pub least_of : List (Op Band) → ℕ
least_of ops = fold (λ n o. min n o.starts) (2 ^ 64 - 1) ops

abbrev pub later_end : ℕ → Option ℕ → ℕ
later_end n None = n
later_end n (Some end) = max n end

abbrev pub most_of : List (Op Band) → ℕ
most_of ops = fold (λ n o. later_end (max n o.starts) o.ends) 0 ops

-- the moments of one column, less one: none, where they are few
abbrev pub extra_of : ℕ → ℕ
extra_of span = if nat_le span 100000 then 0 else span / 20000

-- the width of a column: where operations have lines, two columns hold the words above a bar, `the opening` or
-- `refused` and the longest line, of 6.7 pixels a letter
abbrev pub wide_of : List ℕ → ℕ
wide_of lines = if nat_eq (length lines) 0 then 32 else 36 + 3 * length (decimal (fold (λ n line. max n line) 0 lines))

abbrev pub scale_of : List (Op Band) → List ℕ → ℕ → Scale
scale_of ops lines room =
    record {
      least = least_of ops;
      most = most_of ops;
      extra = extra_of (most_of ops - least_of ops);
      wide = wide_of lines;
      room = room;
    }

-- how many lanes the actors take
abbrev pub actors_of : List (Op Band) → ℕ
actors_of ops = fold (λ n o. max n (min 63 o.who + 1)) 0 ops
