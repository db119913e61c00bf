-- The printed lines of a history and of an order (this project's own).
use Rattle.std.specs.Prelude.{ℕ, ◌+◌, ◌++◌, List, [], ◌∷◌, drop, codes, Option, Some, None, slice_get, option_and_then}
use Rattle.std.specs.Fmt.{decimal}
use Rattle.std.specs.List.{flat_map}
use Rattle.four_slot_core.specs.declared.schedule.CellReport.{CellReport}
use Rattle.history_core.specs.declared.band.Band.{Band}
use Rattle.history_core.specs.declared.history.Kind.{Kind}
use Rattle.history_core.specs.declared.history.Kind.TheVariants.{Write, Read, Refused}
use Rattle.history_core.specs.declared.history.Op.{Op}

abbrev pub line_feed : ℕ
line_feed = 10

abbrev pub kind_text : Kind → List ℕ
kind_text Write = codes "write"
kind_text Read = codes "read"
kind_text Refused = codes "refused"

-- a number, or a dash for none
abbrev pub number_text : Option ℕ → List ℕ
number_text None = codes "-"
number_text (Some n) = decimal n

abbrev pub item_text : Option Band → List ℕ
item_text None = codes "-"
item_text (Some b) = codes "[" ++ decimal b.lo ++ codes "," ++ decimal b.now ++ codes "," ++ decimal b.hi ++ codes "]"

-- what stands in the line of the operation at a place before and after what its player tells of it
unfoldable pub interval_text : Op Band → List ℕ
interval_text op = codes ", " ++ decimal op.starts ++ codes ".." ++ number_text op.ends ++ codes ", "

unfoldable pub op_head : ℕ → Op Band → List ℕ
op_head place op = codes "op " ++ decimal place ++ codes ": " ++ kind_text op.kind ++ codes " by " ++ decimal op.who
    ++ interval_text op

unfoldable pub op_tail : Op Band → List ℕ
op_tail op = codes ", " ++ item_text op.item ++ line_feed ∷ []

abbrev pub op_line : ℕ → Op Band → List ℕ → List ℕ
op_line place op mark = op_head place op ++ mark ++ op_tail op

-- a line for each operation, the first of them at this place
abbrev pub op_lines : (ℕ → List ℕ) → ℕ → List (Op Band) → List ℕ
op_lines mark place [] = []
op_lines mark place (op ∷ ops) = op_line place op (mark place) ++ op_lines mark (place + 1) ops

-- the lines of the operations from a place on
abbrev pub lines_from : (ℕ → List ℕ) → List (Op Band) → ℕ → List ℕ
lines_from mark ops place = op_lines mark place (drop place ops)

abbrev pub order_text : List ℕ → List ℕ
order_text order = codes "order:" ++ flat_map (λ place. codes " " ++ decimal place) order ++ line_feed ∷ []

-- the entry of the operation at a place, if it has one
abbrev pub entry_at : {A : Type 0} → List (Option A) → ℕ → Option A
entry_at entries place = option_and_then (λ entry. entry) (slice_get entries place)

abbrev pub slot_mark : List (Option ℕ) → ℕ → List ℕ
slot_mark slots place = codes "slot " ++ number_text (entry_at slots place)

-- the lines of the report of a four-slot register
abbrev pub cell_lines : CellReport Band → List ℕ
cell_lines r = op_lines (slot_mark r.slots) 0 r.history.ops ++ order_text r.order
