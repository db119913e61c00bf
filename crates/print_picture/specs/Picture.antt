-- The text of a picture (this project's own): lanes, axis and terms, then arrows, the operations, the slot accesses,
-- the marks of what breaks the order or of why there is none, and the order's joins and points.
use Rattle.std.specs.Prelude.{ℕ, ◌+◌, ◌-◌, ◌*◌, ◌/◌, ◌^◌, ◌++◌, min, List, [], ◌∷◌, codes, Bool, true, false}
use Rattle.std.specs.Prelude.{Option, None, Some, slice_get}
use Rattle.std.specs.Prelude.{zero, suc, nat_eq, nat_le, length, not, ◌&&◌, if◌then◌else◌}
use Rattle.std.specs.Fmt.{decimal}
use Rattle.std.specs.List.{flat_map, list_any}
use Rattle.std.specs.Option.{unwrap_or}
use Rattle.history_core.specs.Orders.{is_write, listed_at}
use Rattle.history_core.specs.declared.band.Band.{Band}
use Rattle.history_core.specs.declared.history.Kind.{Kind}
use Rattle.history_core.specs.declared.history.Kind.TheVariants.{Write, Read, Refused}
use Rattle.history_core.specs.declared.reason.Reason.{Reason}
use Rattle.history_core.specs.declared.reason.Reason.TheVariants as reason
use Rattle.history_explain.specs.declared.breaks.Break.{Break}
use Rattle.history_explain.specs.declared.breaks.Break.TheVariants.{NoPlace, Times, Precedence, NoItem, Reading, Limit}
use Rattle.history_core.specs.declared.history.Op.{Op}
use Rattle.history_core.specs.declared.history.Term.{Term}
use Rattle.matrix_core.specs.declared.stamp.Stamp.{Stamp}
use Rattle.print_report.specs.Lines.{entry_at}
use Rattle.matrix_core.specs.declared.schedule.MatrixTerm.{MatrixTerm}
use Rattle.picture_shapes.specs.Looks.{looks}
use Rattle.picture_shapes.specs.Scales.{actors_of, far_of, scale_of, unit_in, x_of, y_of}
use Rattle.picture_shapes.specs.Shapes.{axis_name, bar_of, bar_text, class_of, end_of, join_text, lane_text}
use Rattle.picture_shapes.specs.Shapes.{lawful_words, name_text, op_shapes, place_text}
use Rattle.picture_shapes.specs.Shapes.{row_y, point_text, term_text, tick_text, unlawful_head, words_end}
use Rattle.picture_shapes.specs.declared.scale.Scale.{Scale}
use Rattle.picture_shapes.specs.declared.shape.lanes.Lanes.{Lanes}
use Rattle.picture_shapes.specs.declared.shape.lanes.Lanes.TheVariants.{Actors, Cell, Board}
use Rattle.picture_shapes.specs.declared.shape.headline.Name.{Name}
use Rattle.picture_shapes.specs.declared.shape.headline.Name.TheVariants.{AtPlace, OnLine}
use Rattle.picture_shapes.specs.declared.shape.Bar.{Bar}
use Rattle.picture_shapes.specs.declared.shape.Class.TheVariants as class
use Rattle.picture_shapes.specs.declared.shape.Join.TheVariants.{Answers, Breaks, Precedes}
use Rattle.picture_shapes.specs.declared.shape.Spot.{Spot}
use Rattle.picture_shapes.specs.Visits.{widest}
use Rattle.picture_shapes.specs.declared.visit.Visit.{Visit}
use Rattle.print_picture.specs.declared.scene.Finding.{Finding}
use Rattle.print_picture.specs.declared.scene.Finding.TheVariants.{Lawful, Broken, NoOrder}
use Rattle.print_picture.specs.declared.scene.Scene.{Scene}

-- ---- the frame

unfoldable pub size_text : ℕ → ℕ → List ℕ
size_text far high = codes "<svg xmlns=\"http://www.w3.org/2000/svg\" width=\"" ++ decimal far
    ++ codes "\" height=\"" ++ decimal high

abbrev pub head_text : ℕ → ℕ → List ℕ
head_text far high = size_text far high ++ looks

abbrev pub lanes_text : Lanes → ℕ → ℕ → List ℕ
lanes_text lanes far zero = []
lanes_text lanes far (suc n) = lanes_text lanes far n ++ lane_text lanes far n

-- every fifth column has its moment on the axis: where the columns are ranks, the moment of that rank
abbrev pub tick_moment : Scale → ℕ → ℕ
tick_moment s n = min (2 ^ 64 - 1) (s.least + min (2 ^ 64 - 1) (unit_in s * (5 * n)))

abbrev pub told_moment : List ℕ → ℕ → ℕ
told_moment moments rank = unwrap_or (slice_get moments rank) rank

abbrev pub tick_at : List ℕ → Scale → ℕ → ℕ → List ℕ
tick_at moments s high n = tick_text (x_of s (tick_moment s n)) high (told_moment moments (tick_moment s n))

abbrev pub ticks_text : List ℕ → Scale → ℕ → ℕ → List ℕ
ticks_text moments s high zero = []
ticks_text moments s high (suc n) = ticks_text moments s high n ++ tick_at moments s high n

abbrev pub ticks_of : Scale → ℕ
ticks_of s = min 20000 ((s.most - s.least) / unit_in s / 5) + 1

abbrev pub begin_x : Scale → Option (Op Band) → ℕ
begin_x s None = far_of s
begin_x s (Some op) = x_of s op.starts

abbrev pub terms_text : Scale → ℕ → List (Op Band) → ℕ → List Term → List ℕ
terms_text s high ops number [] = []
terms_text s high ops number (term ∷ terms) =
    term_text (begin_x s (slice_get ops term.first)) high number term.limit ++ terms_text s high ops (number + 1) terms

-- ---- operations and slot accesses

abbrev pub ops_text : Scale → List (Option Stamp) → List ℕ → ℕ → List (Op Band) → List ℕ
ops_text s stamps lines place [] = []
ops_text s stamps lines place (op ∷ ops) =
    op_shapes s (entry_at stamps place) (slice_get lines place) op ++ ops_text s stamps lines (place + 1) ops

-- in the lane of its slot, or in the row of its slot in the lane of its cell
abbrev pub slot_bar : Scale → Visit → Bar
slot_bar s v = bar_of (class_of v.kind) s (min (2 ^ 64 - 1) (v.lane + v.slot)) v.starts v.ends

abbrev pub row_bar : Scale → Visit → Bar
row_bar s v = record (bar_of (class_of v.kind) s v.lane v.starts v.ends) { y = row_y v.lane v.slot; high = 10 }

abbrev pub visit_bar : Lanes → Scale → Visit → Bar
visit_bar Actors s v = slot_bar s v
visit_bar Cell s v = slot_bar s v
visit_bar (Board n) s v = row_bar s v

abbrev pub visit_text : Lanes → Scale → Visit → List ℕ
visit_text lanes s v = bar_text (visit_bar lanes s v)

-- ---- the order

-- where entry n of the order, this operation, has its point
abbrev pub spot_of : Scale → List ℕ → ℕ → Op Band → Spot
spot_of s points n op = record { x = x_of s (unwrap_or (slice_get points n) op.starts); y = y_of op.who + 44 }

abbrev pub point_at : Scale → List ℕ → ℕ → Option (Op Band) → List ℕ
point_at s points n None = []
point_at s points n (Some op) = point_text n (spot_of s points n op)

abbrev pub points_text : Scale → List (Op Band) → List ℕ → ℕ → List ℕ → List ℕ
points_text s ops points n [] = []
points_text s ops points n (p ∷ order) = point_at s points n (slice_get ops p) ++ points_text s ops points (n + 1) order

-- each read and refused write is joined to the last write before it
abbrev pub join_at : Scale → List ℕ → ℕ → Option Spot → Option (Op Band) → List ℕ
join_at s points n write None = []
join_at s points n None (Some op) = []
join_at s points n (Some write) (Some op) = if is_write op.kind then []
    else join_text Answers write (spot_of s points n op)

abbrev pub write_after : Scale → List ℕ → ℕ → Option Spot → Option (Op Band) → Option Spot
write_after s points n write None = write
write_after s points n write (Some op) = if is_write op.kind then Some (spot_of s points n op) else write

abbrev pub joins_text : Scale → List (Op Band) → List ℕ → ℕ → Option Spot → List ℕ → List ℕ
joins_text s ops points n write [] = []
joins_text s ops points n write (p ∷ order) =
    join_at s points n write (slice_get ops p) ++ joins_text s ops points (n + 1)
    (write_after s points n write (slice_get ops p)) order

-- ---- what breaks the order

unfoldable pub break_words : Break → List ℕ
break_words (NoPlace entry) =
    unlawful_head ++ codes "listing: entry " ++ decimal entry ++ codes " of the order is no operation" ++ words_end
break_words (Times place times) =
    unlawful_head ++ codes "listing: operation " ++ decimal place ++ codes " stands " ++ decimal times
    ++ codes " times" ++ words_end
break_words (Precedence earlier entry) =
    unlawful_head ++ codes "precedence: entry " ++ decimal entry ++ codes " stands after entry " ++ decimal earlier
    ++ codes ", and ended before it began" ++ words_end
break_words (NoItem entry) = unlawful_head ++ codes "reading: entry " ++ decimal entry
    ++ codes " has no record" ++ words_end
break_words (Reading entry None) =
    unlawful_head ++ codes "reading: entry " ++ decimal entry
    ++ codes " has another record than the opening" ++ words_end
break_words (Reading entry (Some write)) =
    unlawful_head ++ codes "reading: entry " ++ decimal entry
    ++ codes " has another record than entry " ++ decimal write ++ codes ", the last write before it" ++ words_end
break_words (Limit entry writes) =
    unlawful_head ++ codes "limit: entry " ++ decimal entry ++ codes " was refused after " ++ decimal writes
    ++ codes " writes of its term" ++ words_end

abbrev pub mark_text : Scale → Option (Op Band) → List ℕ
mark_text s None = []
mark_text s (Some op) = bar_text (bar_of class.Broken s op.who op.starts op.ends)

abbrev pub broken_join : Scale → List ℕ → ℕ → ℕ → Option (Op Band) → Option (Op Band) → List ℕ
broken_join s points m n None b = []
broken_join s points m n (Some a) None = []
broken_join s points m n (Some a) (Some b) = join_text Breaks (spot_of s points m a) (spot_of s points n b)

-- the marks of two entries, with a join between them
abbrev pub pair_text : Scale → List (Op Band) → List ℕ → List ℕ → ℕ → ℕ → List ℕ
pair_text s ops order points m n =
    mark_text s (listed_at ops order m) ++ mark_text s (listed_at ops order n)
    ++ broken_join s points m n (listed_at ops order m) (listed_at ops order n)

unfoldable pub break_text : Scale → List (Op Band) → List ℕ → List ℕ → Break → List ℕ
break_text s ops order points (NoPlace entry) = []
break_text s ops order points (Times place times) = mark_text s (slice_get ops place)
break_text s ops order points (Precedence earlier entry) = pair_text s ops order points earlier entry
break_text s ops order points (NoItem entry) = mark_text s (listed_at ops order entry)
break_text s ops order points (Reading entry None) = mark_text s (listed_at ops order entry)
break_text s ops order points (Reading entry (Some write)) = pair_text s ops order points write entry
break_text s ops order points (Limit entry writes) = mark_text s (listed_at ops order entry)

-- ---- why no order is lawful

-- the operation at a place is named by its line if it has one
abbrev pub name_by : Option ℕ → ℕ → Name
name_by None place = AtPlace place
name_by (Some line) place = OnLine line

abbrev pub name_of : List ℕ → ℕ → Name
name_of lines place = name_by (slice_get lines place) place

unfoldable pub precedes_words : Name → Name → List ℕ
precedes_words m n = name_text m ++ codes " precedes " ++ name_text n

unfoldable pub both_words : Name → Name → Name → Name → List ℕ
both_words a b c d = precedes_words a b ++ codes " and " ++ precedes_words c d

-- four operations of two records
unfoldable pub pairs_words : Name → Name → Name → Name → List ℕ
pairs_words a b c d =
    unlawful_head ++ codes "crossed: " ++ both_words a b c d
    ++ codes ": each of two records has to stand before the other" ++ words_end

-- three operations, one of another record between two of one
unfoldable pub behind_words : Name → Name → List ℕ
behind_words a d =
    codes ", and that precedes " ++ name_text d ++ codes ", which has the record of " ++ name_text a ++ words_end

unfoldable pub between_words : Name → Name → Name → List ℕ
between_words a b d = unlawful_head ++ codes "crossed: " ++ precedes_words a b ++ behind_words a d

abbrev pub crossed_words : List ℕ → ℕ → ℕ → ℕ → ℕ → List ℕ
crossed_words lines a b c d = if nat_eq b c
    then between_words (name_of lines a) (name_of lines b) (name_of lines d)
    else pairs_words (name_of lines a) (name_of lines b) (name_of lines c) (name_of lines d)

unfoldable pub reason_words : List ℕ → Reason → List ℕ
reason_words lines (reason.Unwritten read) =
    unlawful_head ++ codes "unwritten: " ++ name_text (name_of lines read)
    ++ codes " has a record that is neither the opening nor written" ++ words_end
reason_words lines (reason.Early read write) =
    unlawful_head ++ codes "early: " ++ name_text (name_of lines read) ++ codes " precedes "
    ++ name_text (name_of lines write) ++ codes ", which writes its record" ++ words_end
reason_words lines (reason.Stale before read) =
    unlawful_head ++ codes "stale: " ++ name_text (name_of lines before) ++ codes ", of another record, precedes "
    ++ name_text (name_of lines read) ++ codes ", which gave the opening" ++ words_end
reason_words lines (reason.Crossed a b c d) = crossed_words lines a b c d
reason_words lines (reason.Limit refused) =
    unlawful_head ++ codes "limit: in each order " ++ name_text (name_of lines refused)
    ++ codes ", or a refused one before it, has too few writes before it" ++ words_end

-- where an operation has its place written, begins, and ends
abbrev pub place_spot : Scale → Op Band → Spot
place_spot s op = record { x = x_of s op.starts + 6; y = y_of op.who + 48 }

abbrev pub begin_spot : Scale → Op Band → Spot
begin_spot s op = record { x = x_of s op.starts; y = y_of op.who + 44 }

abbrev pub end_spot : Scale → Op Band → Spot
end_spot s op = record { x = end_of s op.ends; y = y_of op.who + 44 }

-- the number of the operation at a place: its line if it has one, else the place
abbrev pub number_of : List ℕ → ℕ → ℕ
number_of lines place = unwrap_or (slice_get lines place) place

-- the mark of an operation, and its number
abbrev pub named_text : Scale → ℕ → Option (Op Band) → List ℕ
named_text s number None = []
named_text s number (Some op) =
    bar_text (bar_of class.Broken s op.who op.starts op.ends) ++ place_text number (place_spot s op)

abbrev pub arrow_text : Scale → Option (Op Band) → Option (Op Band) → List ℕ
arrow_text s None b = []
arrow_text s (Some a) None = []
arrow_text s (Some a) (Some b) = join_text Precedes (end_spot s a) (begin_spot s b)

abbrev pub one_text : Scale → List ℕ → List (Op Band) → ℕ → List ℕ
one_text s lines ops place = named_text s (number_of lines place) (slice_get ops place)

-- an operation that precedes another, both with their numbers
abbrev pub precedence_text : Scale → List ℕ → List (Op Band) → ℕ → ℕ → List ℕ
precedence_text s lines ops m n = one_text s lines ops m ++ one_text s lines ops n

unfoldable pub reason_text : Scale → List ℕ → List (Op Band) → Reason → List ℕ
reason_text s lines ops (reason.Unwritten read) = one_text s lines ops read
reason_text s lines ops (reason.Early read write) = precedence_text s lines ops read write
reason_text s lines ops (reason.Stale before read) = precedence_text s lines ops before read
reason_text s lines ops (reason.Crossed a b c d) = precedence_text s lines ops a b ++ precedence_text s lines ops c d
reason_text s lines ops (reason.Limit refused) = one_text s lines ops refused

-- an arrow from the end of an operation to the beginning of one that it precedes
abbrev pub arrow_between : Scale → List (Op Band) → ℕ → ℕ → List ℕ
arrow_between s ops m n = arrow_text s (slice_get ops m) (slice_get ops n)

unfoldable pub reason_arrows : Scale → List (Op Band) → Reason → List ℕ
reason_arrows s ops (reason.Unwritten read) = []
reason_arrows s ops (reason.Early read write) = arrow_between s ops read write
reason_arrows s ops (reason.Stale before read) = arrow_between s ops before read
reason_arrows s ops (reason.Crossed a b c d) = arrow_between s ops a b ++ arrow_between s ops c d
reason_arrows s ops (reason.Limit refused) = []

-- ---- what is said of the history

abbrev pub finding_words : List ℕ → Finding → List ℕ
finding_words lines Lawful = lawful_words
finding_words lines (Broken broken) = break_words broken
finding_words lines (NoOrder why) = reason_words lines why

abbrev pub finding_text : Scale → List ℕ → List (Op Band) → List ℕ → List ℕ → Finding → List ℕ
finding_text s lines ops order points Lawful = []
finding_text s lines ops order points (Broken broken) = break_text s ops order points broken
finding_text s lines ops order points (NoOrder why) = reason_text s lines ops why

-- arrows lie below the operations and their words
abbrev pub arrows_text : Scale → List (Op Band) → Finding → List ℕ
arrows_text s ops Lawful = []
arrows_text s ops (Broken broken) = []
arrows_text s ops (NoOrder why) = reason_arrows s ops why

-- ---- the whole

-- the lanes of a board's picture: with its cells, where no term has more than 4 processes
abbrev pub board_lanes : List (MatrixTerm Band) → Lanes
board_lanes terms = if nat_le (widest terms) 4 then Board (widest terms) else Actors

-- how many lanes there are; a board with cells has 4 processes at most
abbrev pub lanes_of : Lanes → List (Op Band) → ℕ
lanes_of Actors ops = actors_of ops
lanes_of Cell ops = 6
lanes_of (Board n) ops = min 4 n * min 4 n

abbrev pub is_refused : Kind → Bool
is_refused Write = false
is_refused Read = false
is_refused Refused = true

-- a single term says nothing where no write was refused
abbrev pub told_terms : List (Op Band) → List Term → List Term
told_terms ops terms =
    if nat_le (length terms) 1 && not (list_any (λ (o : Op Band). is_refused o.kind) ops) then [] else terms

abbrev pub shown_terms : Lanes → List (Op Band) → List Term → List Term
shown_terms Actors ops terms = told_terms ops terms
shown_terms Cell ops terms = []
shown_terms (Board n) ops terms = terms

unfoldable pub frame_text : Lanes → List ℕ → Scale → ℕ → ℕ → List (Op Band) → List Term → List ℕ
frame_text lanes moments s count high ops terms =
    head_text (far_of s) high ++ lanes_text lanes (far_of s) count ++ axis_name
    ++ ticks_text moments s high (ticks_of s) ++ terms_text s high ops 1 terms

unfoldable pub order_shapes : Scale → List (Op Band) → List ℕ → List ℕ → List ℕ
order_shapes s ops order points = joins_text s ops points 0 None order ++ points_text s ops points 0 order

unfoldable pub end_text : List ℕ → Finding → List ℕ
end_text lines finding = finding_words lines finding ++ codes "</svg>\n"

-- the least width, with room for the line at the top: that of `crossed` is the longest
abbrev pub room_of : Finding → ℕ
room_of (NoOrder (reason.Crossed a b c d)) = 1024
room_of finding = 800

abbrev pub high_of : ℕ → ℕ
high_of lanes = y_of lanes + 24

unfoldable pub picture_of : Scene → List ℕ
picture_of c =
    let s = scale_of c.history.ops c.lines (room_of c.finding) in
    let count = lanes_of c.lanes c.history.ops in
    frame_text c.lanes c.moments s count (high_of count) c.history.ops
    (shown_terms c.lanes c.history.ops c.history.terms)
    ++ arrows_text s c.history.ops c.finding ++ ops_text s c.stamps c.lines 0 c.history.ops
    ++ flat_map (visit_text c.lanes s) c.visits ++ finding_text s c.lines c.history.ops c.order c.points c.finding
    ++ order_shapes s c.history.ops c.order c.points ++ end_text c.lines c.finding
