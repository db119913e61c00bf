-- What the events of a four-slot cell make of a process that reads or writes it, by the stage of its side: a case for each stage.
use Rattle.std.proofs.Common.{◌≡◌, ◌≢◌, ℕ, ◌+◌, ◌*◌, ◌<◌, ◌≤◌, List, [], ◌∷◌, ◌++◌, slice_get, Option, None, Some, refl, ap, arith}
use Rattle.std.proofs.Common.{append-nil}
use Rattle.std.specs.Prelude.{nat_eq, if◌then◌else◌}
use Rattle.history_core.specs.declared.wish.Wish.{Wish}
use Rattle.four_slot_core.specs.declared.schedule.Turn.{Turn}
use Rattle.four_slot_core.specs.declared.schedule.Turn.TheVariants.{Writer, Reader}
use Rattle.four_slot_core.specs.declared.state.State.{State}
use Rattle.four_slot_core.specs.declared.state.Stage.{Stage}
use Rattle.four_slot_core.specs.declared.state.Stage.TheVariants.{W1, W2, W3, W4, W5}
use Rattle.four_slot_core.specs.declared.state.ReaderStage.{ReaderStage}
use Rattle.four_slot_core.specs.declared.state.ReaderStage.TheVariants as rs
use Rattle.four_slot_core.specs.Events.{after_write, answer, next_read, next_write}
use Rattle.four_slot_core.specs.Traces.{answered_by_read, shown_by_read, shown_by_write, Moment, moment_at, then_step, Trace, trace}
use Rattle.four_slot_core.proofs.Pushed.{get_before}
use Rattle.four_slot_core.proofs.traces.Counts.{has_chosen, left, made}
use Rattle.four_slot_core.proofs.traces.Laws.{trace_more}
use Rattle.matrix_core.specs.declared.stamp.Stamped.{Stamped}
use Rattle.matrix_core.specs.declared.progress.Progress.{Progress}
use Rattle.matrix_core.specs.Lines.{begun, chosen as chosen_by, gathered}
use Rattle.composed_play.specs.BoardEvents.{heard, posted}

-- the stage of a side, by how many of its steps of an access it has made
pub small_made : (r : ReaderStage) → made r ≤ 4
small_made rs.R1 = omega arith
small_made rs.R2 = omega arith
small_made rs.R3 = omega arith
small_made rs.R4 = omega arith
small_made rs.R5 = omega arith

pub small_left : (w : Stage) → left w ≤ 4
small_left W1 = omega arith
small_left W2 = omega arith
small_left W3 = omega arith
small_left W4 = omega arith
small_left W5 = omega arith

-- only W1 takes the item
pub item_ignored : {X : Type 0} (w : Stage) (x y : X) (s : State X) → 0 < left w → after_write w x s ≡ after_write w y s
item_ignored W1 x y s h = refl
item_ignored W2 x y s h = refl
item_ignored W3 x y s h = refl
item_ignored W4 x y s h = refl
item_ignored W5 x y s h = absurd (omega arith)

-- answers stay
answer_stays : {X : Type 0} (r : ReaderStage) (xs : List X) (y : X) (k : ℕ) (x : X) → slice_get xs k ≡ Some x →
    slice_get (answered_by_read r xs y) k ≡ Some x
answer_stays rs.R1 xs y k x h = h
answer_stays rs.R2 xs y k x h = h
answer_stays rs.R3 xs y k x h = h
answer_stays rs.R4 xs y k x h = get_before xs y k x h
answer_stays rs.R5 xs y k x h = h

-- a cell after one more step, which is one of its own or none
abbrev pub on : {X : Type 0} → (ℕ → X) → Trace X → ℕ → Option Turn → Trace X
on items t p None = t
on items t p (Some y) = then_step items t y p

pub on_answers : {X : Type 0} (items : ℕ → X) (t : Trace X) (p : ℕ) (o : Option Turn) (k : ℕ) (x : X) → slice_get t.answers k ≡ Some x →
    slice_get (on items t p o).answers k ≡ Some x
on_answers items t p None k x h = h
on_answers items t p (Some Writer) k x h = h
on_answers items t p (Some Reader) k x h = answer_stays t.cell.reader t.answers (answer t.cell) k x h

pub trace_on : {X : Type 0} (opening noise : X) (items : ℕ → X) (ms : List Moment) (p : ℕ) (o : Option Turn) →
    trace opening noise items (ms ++ moment_at o p) ≡ on items (trace opening noise items ms) p o
trace_on opening noise items ms p None = ap (trace opening noise items) (append-nil ms)
trace_on opening noise items ms p (Some y) = trace_more opening noise items ms (record { at = p; turn = y })

-- what an event of a read makes of the progress, by how many of its steps the reader has made
pub heard_first : {R : Type 0} (m l i : ℕ) (w : Wish R) (st : ReaderStage) (s : State (Stamped R)) (line : Progress R) → made st ≡ 0 →
    heard m l i w (next_read st s) line ≡ begun w line
heard_first m l i w rs.R1 s line e = absurd (omega arith)
heard_first m l i w rs.R2 s line e = absurd (omega arith)
heard_first m l i w rs.R3 s line e = absurd (omega arith)
heard_first m l i w rs.R4 s line e = absurd (omega arith)
heard_first m l i w rs.R5 s line e = refl

pub heard_within : {R : Type 0} (m l i : ℕ) (w : Wish R) (st : ReaderStage) (s : State (Stamped R)) (line : Progress R) → 0 < made st →
    made st < 4 → heard m l i w (next_read st s) line ≡ line
heard_within m l i w rs.R1 s line e f = refl
heard_within m l i w rs.R2 s line e f = refl
heard_within m l i w rs.R3 s line e f = refl
heard_within m l i w rs.R4 s line e f = absurd (omega arith)
heard_within m l i w rs.R5 s line e f = absurd (omega arith)

pub heard_last : {R : Type 0} (m l i : ℕ) (w : Wish R) (st : ReaderStage) (s : State (Stamped R)) (line : Progress R) → made st ≡ 4
    → heard m l i w (next_read st s) line
    ≡ (if nat_eq (line.done + 2) m then chosen_by l i (gathered (answer s) line) else gathered (answer s) line)
heard_last m l i w rs.R1 s line e = absurd (omega arith)
heard_last m l i w rs.R2 s line e = absurd (omega arith)
heard_last m l i w rs.R3 s line e = absurd (omega arith)
heard_last m l i w rs.R4 s line e = refl
heard_last m l i w rs.R5 s line e = absurd (omega arith)

pub answered_last : {X : Type 0} (st : ReaderStage) (xs : List X) (y : X) → made st ≡ 4 → answered_by_read st xs y ≡ xs ++ y ∷ []
answered_last rs.R1 xs y e = absurd (omega arith)
answered_last rs.R2 xs y e = absurd (omega arith)
answered_last rs.R3 xs y e = absurd (omega arith)
answered_last rs.R4 xs y e = refl
answered_last rs.R5 xs y e = absurd (omega arith)

-- and an event of a write
pub posted_within : {R : Type 0} (m : ℕ) (st : Stage) (line : Progress R) → left st ≢ 1 → posted m (next_write st) line ≡ line
posted_within m W1 line e = refl
posted_within m W2 line e = refl
posted_within m W3 line e = refl
posted_within m W4 line e = absurd (e refl)
posted_within m W5 line e = refl

pub posted_last : {R : Type 0} (m : ℕ) (st : Stage) (line : Progress R) → left st ≡ 1 →
    posted m (next_write st) line ≡ record line { done = if nat_eq (line.done + 3) (2 * m) then 0 else line.done + 1 }
posted_last m W1 line e = absurd (omega arith)
posted_last m W2 line e = absurd (omega arith)
posted_last m W3 line e = absurd (omega arith)
posted_last m W4 line e = refl
posted_last m W5 line e = absurd (omega arith)

-- when a step shows a slot
pub shown_write : (w : Stage) (xs : List ℕ) (y : ℕ) → left w ≡ 0 → shown_by_write w xs y ≡ xs ++ y ∷ []
shown_write W1 xs y e = absurd (omega arith)
shown_write W2 xs y e = absurd (omega arith)
shown_write W3 xs y e = absurd (omega arith)
shown_write W4 xs y e = absurd (omega arith)
shown_write W5 xs y e = refl

pub unshown_write : (w : Stage) (xs : List ℕ) (y : ℕ) → 0 < left w → shown_by_write w xs y ≡ xs
unshown_write W1 xs y e = refl
unshown_write W2 xs y e = refl
unshown_write W3 xs y e = refl
unshown_write W4 xs y e = refl
unshown_write W5 xs y e = absurd (omega arith)

pub shown_read : (r : ReaderStage) (xs : List ℕ) (y : ℕ) → made r ≡ 2 → shown_by_read r xs y ≡ xs ++ y ∷ []
shown_read rs.R1 xs y e = absurd (omega arith)
shown_read rs.R2 xs y e = refl
shown_read rs.R3 xs y e = absurd (omega arith)
shown_read rs.R4 xs y e = absurd (omega arith)
shown_read rs.R5 xs y e = absurd (omega arith)

pub unshown_read : (r : ReaderStage) (xs : List ℕ) (y : ℕ) → made r ≢ 2 → shown_by_read r xs y ≡ xs
unshown_read rs.R1 xs y e = refl
unshown_read rs.R2 xs y e = absurd (e refl)
unshown_read rs.R3 xs y e = refl
unshown_read rs.R4 xs y e = refl
unshown_read rs.R5 xs y e = refl

pub none_chosen : (r : ReaderStage) → made r ≡ 2 → has_chosen r ≡ 0
none_chosen rs.R1 e = absurd (omega arith)
none_chosen rs.R2 e = refl
none_chosen rs.R3 e = absurd (omega arith)
none_chosen rs.R4 e = absurd (omega arith)
none_chosen rs.R5 e = absurd (omega arith)

-- a step of the other side shows none
pub on_writes : {X : Type 0} (items : ℕ → X) (t : Trace X) (p : ℕ) (o : Option Turn) → o ≢ Some Writer →
    (on items t p o).write_slots ≡ t.write_slots
on_writes items t p None h = refl
on_writes items t p (Some Writer) h = absurd (h refl)
on_writes items t p (Some Reader) h = refl

pub on_reads : {X : Type 0} (items : ℕ → X) (t : Trace X) (p : ℕ) (o : Option Turn) → o ≢ Some Reader →
    (on items t p o).read_slots ≡ t.read_slots
on_reads items t p None h = refl
on_reads items t p (Some Writer) h = refl
on_reads items t p (Some Reader) h = absurd (h refl)
