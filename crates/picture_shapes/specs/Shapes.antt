-- The text of each shape of a picture, in SVG 1.1 (W3C, Scalable Vector Graphics). Which shapes
-- there are is this project's own.
use Rattle.std.specs.Prelude.{ℕ, ◌+◌, ◌-◌, ◌*◌, ◌/◌, ◌%◌, ◌++◌, ◌&&◌, max, List, [], codes, Bool, true}
use Rattle.std.specs.Prelude.{false, Option, None, Some, is_some}
use Rattle.std.specs.Prelude.{nat_eq, nat_lt, if◌then◌else◌}
use Rattle.std.specs.Fmt.{decimal}
use Rattle.history_core.specs.declared.band.Band.{Band}
use Rattle.history_core.specs.declared.history.Kind.{Kind}
use Rattle.history_core.specs.declared.history.Kind.TheVariants.{Write, Read, Refused}
use Rattle.history_core.specs.declared.history.Op.{Op}
use Rattle.history_core.specs.Others.{other}
use Rattle.matrix_core.specs.declared.stamp.Stamp.{Stamp}
use Rattle.print_report.specs.Lines.{item_text, kind_text}
use Rattle.print_report.specs.Text.{stamp_text}
use Rattle.picture_shapes.specs.Scales.{far_of, x_of, y_of}
use Rattle.picture_shapes.specs.declared.scale.Scale.{Scale}
use Rattle.picture_shapes.specs.declared.shape.lanes.Lanes.{Lanes}
use Rattle.picture_shapes.specs.declared.shape.lanes.Lanes.TheVariants.{Actors, Cell, Board}
use Rattle.picture_shapes.specs.declared.shape.headline.Name.{Name}
use Rattle.picture_shapes.specs.declared.shape.headline.Name.TheVariants.{AtPlace, OnLine}
use Rattle.picture_shapes.specs.declared.shape.Bar.{Bar}
use Rattle.picture_shapes.specs.declared.shape.Class.{Class}
use Rattle.picture_shapes.specs.declared.shape.Class.TheVariants as class
use Rattle.picture_shapes.specs.declared.shape.Join.{Join}
use Rattle.picture_shapes.specs.declared.shape.Join.TheVariants.{Answers, Breaks, Precedes}
use Rattle.picture_shapes.specs.declared.shape.Spot.{Spot}

-- ---- bars

abbrev pub bar_head : Class → List ℕ
bar_head class.Write = codes "<path class=\"w\" d=\"M"
bar_head class.Read = codes "<path class=\"r\" d=\"M"
bar_head class.Refused = codes "<path class=\"f\" d=\"M"
bar_head class.Broken = codes "<path class=\"x\" d=\"M"

-- an unfinished bar has no right side
abbrev pub bar_end : Bool → List ℕ
bar_end true = codes "z\"/>\n"
bar_end false = codes "\"/>\n"

unfoldable pub bar_sides : Bar → List ℕ
bar_sides b = codes "H" ++ decimal b.from ++ codes "v" ++ decimal b.high ++ codes "H" ++ decimal b.to
    ++ bar_end b.closed

unfoldable pub bar_text : Bar → List ℕ
bar_text b = bar_head b.class ++ decimal b.to ++ codes " " ++ decimal b.y ++ bar_sides b

abbrev pub class_of : Kind → Class
class_of Write = class.Write
class_of Read = class.Read
class_of Refused = class.Refused

-- where an interval ends in the picture
abbrev pub end_of : Scale → Option ℕ → ℕ
end_of s None = far_of s
end_of s (Some end) = x_of s end

abbrev pub bar_of : Class → Scale → ℕ → ℕ → Option ℕ → Bar
bar_of c s lane starts ends =
    record { class = c; y = y_of lane + 32; high = 24; from = x_of s starts; to = end_of s ends; closed = is_some ends }

-- ---- words

unfoldable pub words_head : ℕ → ℕ → List ℕ
words_head x y = codes "<text x=\"" ++ decimal x ++ codes "\" y=\"" ++ decimal y ++ codes "\">"

abbrev pub words_end : List ℕ
words_end = codes "</text>\n"

abbrev pub stamp_words : Option Stamp → List ℕ
stamp_words None = []
stamp_words (Some stamp) = codes " " ++ stamp_text (Some stamp)

abbrev pub line_words : Option ℕ → List ℕ
line_words None = []
line_words (Some line) = codes " " ++ decimal line

unfoldable pub kind_words : ℕ → ℕ → Kind → Option Stamp → Option ℕ → List ℕ
kind_words x y kind stamp line =
    words_head x y ++ kind_text kind ++ stamp_words stamp ++ line_words line ++ words_end

unfoldable pub item_words : ℕ → ℕ → Option Band → List ℕ
item_words x y item = words_head x y ++ item_text item ++ words_end

-- one number three times
abbrev pub is_of_one : Band → Bool
is_of_one b = nat_eq b.now b.lo && nat_eq b.hi b.lo

abbrev pub source_text : ℕ → List ℕ
source_text source = if nat_eq source 0 then codes "the opening" else codes "of line " ++ decimal source

unfoldable pub source_words : ℕ → ℕ → ℕ → List ℕ
source_words x y source = words_head x y ++ source_text source ++ words_end

-- a record that is told by the line of its write: nothing on that line itself
abbrev pub lined_words : ℕ → ℕ → ℕ → Band → List ℕ
lined_words x y line b =
    if is_of_one b then (if nat_eq b.lo line then [] else source_words x y b.lo) else item_words x y (Some b)

-- the record of an operation that may have a line
abbrev pub told_words : ℕ → ℕ → Option ℕ → Option Band → List ℕ
told_words x y None item = item_words x y item
told_words x y (Some line) None = item_words x y None
told_words x y (Some line) (Some b) = lined_words x y line b

-- an operation: its interval, its kind with the stamp and the line that it has, and its record
unfoldable pub op_shapes : Scale → Option Stamp → Option ℕ → Op Band → List ℕ
op_shapes s stamp line op =
    bar_text (bar_of (class_of op.kind) s op.who op.starts op.ends)
    ++ kind_words (x_of s op.starts) (y_of op.who + 14) op.kind stamp line ++ told_words (x_of s op.starts)
    (y_of op.who + 28) line op.item

-- ---- points and joins

unfoldable pub point_number : ℕ → Spot → List ℕ
point_number n at = decimal at.x ++ codes "\" y=\"" ++ decimal (at.y + 4) ++ codes "\">" ++ decimal n ++ words_end

unfoldable pub circle_text : Spot → List ℕ
circle_text at = codes "<circle cx=\"" ++ decimal at.x ++ codes "\" cy=\"" ++ decimal at.y ++ codes "\" r=\"12\"/>"

unfoldable pub point_text : ℕ → Spot → List ℕ
point_text n at = circle_text at ++ codes "<text class=\"n\" x=\"" ++ point_number n at

abbrev pub join_head : Join → List ℕ
join_head Answers = codes "<path class=\"j\" d=\"M"
join_head Breaks = codes "<path class=\"b\" d=\"M"
join_head Precedes = codes "<path class=\"p\" d=\"M"

unfoldable pub spot_text : Spot → List ℕ
spot_text at = decimal at.x ++ codes " " ++ decimal at.y

unfoldable pub join_text : Join → Spot → Spot → List ℕ
join_text join a b = join_head join ++ spot_text a ++ codes "L" ++ spot_text b ++ codes "\"/>\n"

-- the place of an operation
unfoldable pub place_head : Spot → List ℕ
place_head at = codes "<text class=\"z\" x=\"" ++ decimal at.x ++ codes "\" y=\"" ++ decimal at.y ++ codes "\">"

unfoldable pub place_text : ℕ → Spot → List ℕ
place_text place at = place_head at ++ decimal place ++ words_end

-- ---- the line at the top

abbrev pub lawful_words : List ℕ
lawful_words = codes "<text x=\"8\" y=\"24\">lawful</text>\n"

abbrev pub unlawful_head : List ℕ
unlawful_head = codes "<text class=\"z\" x=\"8\" y=\"24\">unlawful "

-- an operation is named by its line in a log, or else by its place
abbrev pub name_text : Name → List ℕ
name_text (OnLine line) = codes "line " ++ decimal line
name_text (AtPlace place) = codes "operation " ++ decimal place

-- ---- the frame

abbrev pub who_name : ℕ → List ℕ
who_name k = codes "who " ++ decimal k

unfoldable pub cell_name : ℕ → ℕ → List ℕ
cell_name writer reader = codes "cell (" ++ decimal writer ++ codes "," ++ decimal reader ++ codes ")"

abbrev pub side_name : ℕ → List ℕ
side_name k = if nat_eq k 0 then codes "writer"
    else (if nat_eq k 1 then codes "reader" else codes "slot " ++ decimal (k - 2))

-- of n processes, cell number `cell` by writer and reader
abbrev pub board_cell_name : ℕ → ℕ → List ℕ
board_cell_name n cell = cell_name (cell / max 1 (n - 1)) (other (cell / max 1 (n - 1)) (cell % max 1 (n - 1)))

-- of a cell's picture the first two lanes are its sides, and the others its slots; of a board's the
-- first lanes are the processes
abbrev pub lane_name : Lanes → ℕ → List ℕ
lane_name Actors k = who_name k
lane_name Cell k = side_name k
lane_name (Board n) k = if nat_lt k n then who_name k else board_cell_name n (k - n)

unfoldable pub lane_words : Lanes → ℕ → List ℕ
lane_words lanes k = codes "\"/><text x=\"8\" y=\"" ++ decimal (y_of k + 48) ++ codes "\">"
    ++ lane_name lanes k ++ words_end

unfoldable pub lane_head : Lanes → ℕ → ℕ → List ℕ
lane_head lanes far k = codes "<path class=\"l\" d=\"M0 " ++ decimal (y_of k) ++ codes "H" ++ decimal far
    ++ lane_words lanes k

-- the lane of a board's cell has a row for each slot
abbrev pub row_y : ℕ → ℕ → ℕ
row_y lane slot = y_of lane + 6 + 14 * slot

unfoldable pub row_text : ℕ → ℕ → List ℕ
row_text lane slot = codes "<text class=\"a\" x=\"82\" y=\"" ++ decimal (row_y lane slot + 9) ++ codes "\">"
    ++ decimal slot ++ words_end

unfoldable pub cell_rows : ℕ → List ℕ
cell_rows lane = row_text lane 0 ++ row_text lane 1 ++ row_text lane 2 ++ row_text lane 3

abbrev pub rows_text : Lanes → ℕ → List ℕ
rows_text Actors k = []
rows_text Cell k = []
rows_text (Board n) k = if nat_lt k n then [] else cell_rows k

abbrev pub lane_text : Lanes → ℕ → ℕ → List ℕ
lane_text lanes far k = lane_head lanes far k ++ rows_text lanes k

-- what the numbers on the axis are
abbrev pub axis_name : List ℕ
axis_name = codes "<text class=\"a\" x=\"8\" y=\"62\">time</text>\n"

-- a moment on the axis
unfoldable pub tick_words : ℕ → ℕ → List ℕ
tick_words x moment = codes "\"/><text class=\"a\" x=\"" ++ decimal x ++ codes "\" y=\"62\">"
    ++ decimal moment ++ words_end

unfoldable pub tick_text : ℕ → ℕ → ℕ → List ℕ
tick_text x high moment = codes "<path class=\"t\" d=\"M" ++ decimal x ++ codes " 68V" ++ decimal high
    ++ tick_words x moment

-- the beginning of a term
unfoldable pub term_name : ℕ → ℕ → List ℕ
term_name number limit = codes "term " ++ decimal number ++ codes ", limit " ++ decimal limit ++ words_end

-- the names of terms stand in two rows, one after the other
abbrev pub term_y : ℕ → ℕ
term_y number = 36 + 12 * (number % 2)

unfoldable pub term_words : ℕ → ℕ → ℕ → List ℕ
term_words x number limit =
    codes "\"/><text x=\"" ++ decimal x ++ codes "\" y=\"" ++ decimal (term_y number) ++ codes "\">"
    ++ term_name number limit

unfoldable pub term_text : ℕ → ℕ → ℕ → ℕ → List ℕ
term_text x high number limit = codes "<path class=\"s\" d=\"M" ++ decimal x ++ codes " 52V" ++ decimal high
    ++ term_words x number limit
