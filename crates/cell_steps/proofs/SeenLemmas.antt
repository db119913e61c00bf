-- The fold is what the trace of the same steps shows.
use Rattle.std.proofs.Common.{◌≡◌, ℕ, ◌+◌, List, [], ◌∷◌, ◌++◌, length, map, refl, sym, ◌∙◌, ap, length-append}
use Rattle.std.specs.List.{fold}
use Rattle.four_slot_core.specs.declared.schedule.Turn.{Turn}
use Rattle.four_slot_core.specs.declared.schedule.Turn.TheVariants.{Writer, Reader}
use Rattle.four_slot_core.specs.declared.state.State.{State}
use Rattle.four_slot_core.specs.declared.state.Stage.{Stage}
use Rattle.four_slot_core.specs.declared.state.Stage.TheVariants.{W1, W2, W3, W4, W5}
use Rattle.four_slot_core.specs.declared.state.ReaderStage.{ReaderStage}
use Rattle.four_slot_core.specs.declared.state.ReaderStage.TheVariants as reader
use Rattle.four_slot_core.specs.Events.{after_read, after_write, answer, next_reader, next_write}
use Rattle.four_slot_core.specs.Traces.{Moment, Trace, answered_by_read, moments_from, shown_by_write, then_step, trace_start}
use Rattle.cell_steps.specs.Steps.{cell_after, last_or, noise, read_number, shown_of, turn_of, write_number}
use Rattle.cell_steps.specs.inner.Runs.{Seen, answer_after, begun_after, play_of, seen_of, shown_in, step_of}

abbrev number : ℕ → ℕ
number k = k + 1

begun_shown : (w : Stage) (slots : List ℕ) (slot : ℕ) → length (shown_by_write w slots slot) ≡ begun_after w (length slots)
begun_shown W1 slots slot = refl
begun_shown W2 slots slot = refl
begun_shown W3 slots slot = refl
begun_shown W4 slots slot = refl
begun_shown W5 slots slot = length-append slots (slot ∷ [])

last_appended : (first : ℕ) (xs : List ℕ) (x : ℕ) → last_or first (xs ++ x ∷ []) ≡ x
last_appended first [] x = refl
last_appended first (y ∷ ys) x = last_appended y ys x

answer_shown : (r : ReaderStage) (answers : List ℕ) (x : ℕ) →
    last_or 0 (answered_by_read r answers x) ≡ answer_after r (last_or 0 answers) x
answer_shown reader.R1 answers x = refl
answer_shown reader.R2 answers x = refl
answer_shown reader.R3 answers x = refl
answer_shown reader.R4 answers x = last_appended 0 answers x
answer_shown reader.R5 answers x = refl

write_shown : (w : Stage) (x : ℕ) (s : State ℕ) → (after_write w x s).writer ≡ next_write w
write_shown W1 x s = refl
write_shown W2 x s = refl
write_shown W3 x s = refl
write_shown W4 x s = refl
write_shown W5 x s = refl

write_reads : (w : Stage) (x : ℕ) (s : State ℕ) → (after_write w x s).reader ≡ s.reader
write_reads W1 x s = refl
write_reads W2 x s = refl
write_reads W3 x s = refl
write_reads W4 x s = refl
write_reads W5 x s = refl

read_shown : (r : ReaderStage) (s : State ℕ) → (after_read r s).reader ≡ next_reader r
read_shown reader.R1 s = refl
read_shown reader.R2 s = refl
read_shown reader.R3 s = refl
read_shown reader.R4 s = refl
read_shown reader.R5 s = refl

read_writes : (r : ReaderStage) (s : State ℕ) → (after_read r s).writer ≡ s.writer
read_writes reader.R1 s = refl
read_writes reader.R2 s = refl
read_writes reader.R3 s = refl
read_writes reader.R4 s = refl
read_writes reader.R5 s = refl

seen_is : (cell : State ℕ) (a a' b b' c c' d d' : ℕ) → a ≡ a' → b ≡ b' → c ≡ c' → d ≡ d' →
    (let s : Seen = record { cell = cell; begun = a; write_event = b; read_event = c; answer = d } in s)
    ≡ (let s : Seen = record { cell = cell; begun = a'; write_event = b'; read_event = c'; answer = d' } in s)
seen_is cell a a' b b' c c' d d' h i j k = (cc)

step_seen : (t : Trace ℕ) (turn : Turn) (n : ℕ) → seen_of (then_step number t turn n) ≡ step_of (seen_of t) turn
step_seen t Writer n =
    seen_is _ _ _ _ _ _ _ _ _
    (begun_shown t.cell.writer t.write_slots _)
    (ap write_number (write_shown t.cell.writer _ t.cell))
    (ap read_number (write_reads t.cell.writer _ t.cell))
    refl
step_seen t Reader n =
    seen_is _ _ _ _ _ _ _ _ _
    refl
    (ap write_number (read_writes t.cell.reader t.cell))
    (ap read_number (read_shown t.cell.reader t.cell))
    (answer_shown t.cell.reader t.answers (answer t.cell))

steps_seen : (t : Trace ℕ) (n : ℕ) (letters : List ℕ) →
    seen_of (fold (λ (u : Trace ℕ) (m : Moment). then_step number u m.turn m.at) t (moments_from n (map turn_of letters)))
    ≡ fold (λ (s : Seen) (letter : ℕ). step_of s (turn_of letter)) (seen_of t) letters
steps_seen t n [] = refl
steps_seen t n (letter ∷ letters) =
    steps_seen (then_step number t (turn_of letter) n) (n + 1) letters
    ∙ ap (λ (s : Seen). fold (λ (s : Seen) (letter : ℕ). step_of s (turn_of letter)) s letters) (step_seen t (turn_of letter) n)

pub shown_after : (letters : List ℕ) → shown_in (play_of letters) ≡ shown_of (cell_after letters)
shown_after letters = ap shown_in (sym (steps_seen (trace_start 0 noise) 0 letters))
