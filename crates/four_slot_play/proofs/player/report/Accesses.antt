-- The accesses of the report are those of the trace: their positions are the schedule's, and the slot of an operation stands in
-- the report beside the operation with its beginning. So the report is clear and fresh as the trace is.
use Rattle.std.proofs.Common.{◌≡◌, ◌≢◌, ℕ, ◌+◌, ◌*◌, ◌<◌, ◌≤◌, true, false, nat_eq, List, [], ◌∷◌, length, map, slice_get, Option, None}
use Rattle.std.proofs.Common.{Some, IsSome, zero, suc, refl, sym, subst, ◌∙◌, ap, arith}
use Rattle.std.specs.Prelude.{if◌then◌else◌}
use Rattle.std.specs.Option.{option_and_then, option_map}
use Rattle.std.proofs.lemmas.Bool.Decides.{nat_tests}
use Rattle.std.proofs.lemmas.List.{length-map}
use Rattle.std.proofs.lemmas.Option.{same_Some, slice_get_within, slice_get_past, slice_get-map}
use Rattle.history_core.specs.declared.history.Op.{Op}
use Rattle.history_core.specs.declared.history.Kind.TheVariants.{Refused}
use Rattle.history_core.specs.declared.history.Term.{Term}
use Rattle.history_core.specs.Orders.{RefusesLawfully}
use Rattle.history_core.specs.Schedules.{Span, positions, access_at, steps_of}
use Rattle.history_core.proofs.Positions.{position_once, missing_position, positions_length}
use Rattle.four_slot_core.specs.declared.schedule.Turn.{Turn}
use Rattle.four_slot_core.specs.declared.schedule.Turn.TheVariants.{Writer, Reader}
use Rattle.four_slot_play.specs.declared.player.steps.Started.{Started}
use Rattle.four_slot_play.specs.declared.player.run.Numbered.{Numbered}
use Rattle.four_slot_core.specs.declared.state.Stage.{Stage}
use Rattle.four_slot_core.specs.declared.state.Stage.TheVariants as writer
use Rattle.four_slot_core.specs.declared.state.ReaderStage.{ReaderStage}
use Rattle.four_slot_core.specs.declared.state.ReaderStage.TheVariants.{R1, R2, R3, R4, R5}
use Rattle.four_slot_core.specs.Accesses.{Accesses, IsClear}
use Rattle.four_slot_core.specs.Traces.{Trace, writes_of, reads_of}
use Rattle.four_slot_play.specs.inner.Parts.{started, op_by, op_of, slot_by, slot_of}
use Rattle.four_slot_core.specs.Play.{actor, span_of, run}
use Rattle.four_slot_play.specs.inner.Runs.{Log, log_of, opening_record, numbered, numbered_run, numbered_trace, IsAssembled}
use Rattle.four_slot_play.specs.Reports.{slot_from, accesses_of, IsOfRun, IsFreshReport}
use Rattle.four_slot_core.proofs.Pushed.{some_of, get_within}
use Rattle.four_slot_core.proofs.traces.Counts.{left, made, has_chosen}
use Rattle.four_slot_core.proofs.traces.Good.{IsGood, numbered_read_fresh}
use Rattle.four_slot_play.proofs.player.steps.Shape.{mapped_from, starts_of}
use Rattle.four_slot_play.proofs.player.run.Traces.{number_of, record_of, run_shown, run_good, run_mapped, writer_positions}
use Rattle.four_slot_play.proofs.player.run.Traces.{reader_positions}

-- the slot beside the first operation with a beginning that no earlier one has
slot_found : {R : Type 0} (make : Started → Op R) (slot : Started → Option ℕ) → ((part : Started) → (make part).starts ≡ part.starts) →
    (parts : List Started) (p : ℕ) (part : Started) →
    ((i j : ℕ) (a b : Started) → slice_get parts i ≡ Some a → slice_get parts j ≡ Some b → i < j → a.starts < b.starts) →
    slice_get parts p ≡ Some part → slot_from part.starts (map make parts) (map slot parts) ≡ slot part
slot_found make slot starts [] p part rises e = cc
slot_found make slot starts (x ∷ xs) zero part rises e =
    let is : x ≡ part = same_Some x part e in
    let t : nat_eq (make x).starts part.starts ≡ true =
    let s : (make x).starts ≡ part.starts = starts x ∙ ap (λ (q : Started). q.starts) is in
    grind (arith, nat_tests) in
    ap (λ b. if b then slot x else slot_from part.starts (map make xs) (map slot xs)) t ∙ ap slot is
slot_found make slot starts (x ∷ xs) (suc p) part rises e =
    let t : nat_eq (make x).starts part.starts ≡ false =
    let s = starts x in
    let l : x.starts < part.starts = rises 0 (suc p) x part refl e (omega arith) in
    grind (arith, nat_tests) in
    ap (λ b. if b then slot x else slot_from part.starts (map make xs) (map slot xs)) t
    ∙ slot_found make slot starts xs p part (λ i j a b ia jb l. rises (suc i) (suc j) a b ia jb (omega arith)) e

left_small : (w : Stage) → left w ≤ 4
left_small writer.W1 = omega arith
left_small writer.W2 = omega arith
left_small writer.W3 = omega arith
left_small writer.W4 = omega arith
left_small writer.W5 = omega arith

-- a read that hasn't begun has no slot
unchosen : (r : ReaderStage) (m n c : ℕ) → n ≤ m * 5 → n ≡ c * 5 + made r → c + has_chosen r ≤ m
unchosen R1 m n c l e = omega arith
unchosen R2 m n c l e = omega arith
unchosen R3 m n c l e = omega arith
unchosen R4 m n c l e = omega arith
unchosen R5 m n c l e = omega arith

pointwise : {A B : Type 0} {f g : A → B} → ((x : A) → f x ≡ g x) → f ≡ g
pointwise h = λ i x. h x i

by_begin : (f : ℕ → Option ℕ) (begin target : Option ℕ) → (begin ≡ None → target ≡ None) → ((b : ℕ) → begin ≡ Some b → f b ≡ target) →
    option_and_then f begin ≡ target
by_begin f None target none some = sym (none refl)
by_begin f (Some b) target none some = some b refl

module _ {R : Type 0} (opening noise : R) (steps : List Turn) (writes : List R) (reads : ℕ) (terms : List Term) (ops : List (Op R))
    (slots : List (Option ℕ)) (order : List ℕ) where
  abbrev pub played : Trace (Numbered R)
  played = numbered_trace opening noise writes steps

  abbrev pub span : Span R
  span = span_of steps writes reads

  abbrev pub acts : List ℕ
  acts = map actor steps

  abbrev pub Assembled : Type 0
  Assembled = IsAssembled (log_of played) steps writes terms ops slots order

  pub good : (end : ℕ) × IsGood number_of (opening_record opening) (numbered opening writes) played end
  good = run_good opening noise writes steps

  pub writer_at : played.writer ≡ positions 0 0 acts
  writer_at = writer_positions {R = Numbered R} (numbered opening writes) _ 0 steps

  pub reader_at : played.reader ≡ positions 0 1 acts
  reader_at = reader_positions {R = Numbered R} (numbered opening writes) _ 0 steps

  -- the slot of operation k of a side
  slot_of_part : (turn : Turn) (k : ℕ) → Assembled →
      (slice_get (positions 0 (actor turn) acts) (k * 5 + 0) ≡ None → slot_by turn k played.write_slots played.read_slots ≡ None) →
      (accesses_of span ops slots (actor turn)).slot k ≡ slot_by turn k played.write_slots played.read_slots
  slot_of_part turn k a none = by_begin (λ begin. slot_from begin ops slots) (access_at 0 span (actor turn) k 0)
      (slot_by turn k played.write_slots played.read_slots) none (λ b e.
      let w = a.are_parts.all turn k b e in
      let make : Started → Op R = op_of writes a.writer_ends a.reader_ends played.answers in
      let slot : Started → Option ℕ = slot_of played.write_slots played.read_slots in
      ap (λ o. slot_from b o slots) a.ops_are ∙ ap (slot_from b (map make a.parts)) a.slots_are
      ∙ slot_found make slot (λ part. starts_of part.turn part.number part.starts writes a.writer_ends a.reader_ends played.answers) a.parts
      w.0 (started turn k b) a.are_parts.rising w.1)

  pub writes_are : Assembled → accesses_of span ops slots 0 ≡ writes_of played
  writes_are a =
      let same : (k : ℕ) → (accesses_of span ops slots 0).slot k ≡ slice_get played.write_slots k = λ k. slot_of_part Writer k a (λ none.
      let past : steps_of 0 acts ≤ k * 5 + 0 = missing_position 0 0 acts (k * 5 + 0) none in
      let c = good.1.counted.writer in
      let long : length played.writer ≡ steps_of 0 acts = ap length writer_at ∙ positions_length 0 0 acts in
      slice_get_past played.write_slots k (omega (arith, left_small played.cell.writer))) in
      ap (λ (f : ℕ → Option ℕ). record { at = access_at 0 span 0; slot = f }) (pointwise same)
      ∙ ap (λ (xs : List ℕ). record { at = λ k e. slice_get xs (k * 5 + e); slot = λ k. slice_get played.write_slots k }) (sym writer_at)

  pub reads_are : Assembled → accesses_of span ops slots 1 ≡ reads_of played
  reads_are a =
      let same : (k : ℕ) → (accesses_of span ops slots 1).slot k ≡ slice_get played.read_slots k = λ k. slot_of_part Reader k a (λ none.
      let past : steps_of 1 acts ≤ k * 5 + 0 = missing_position 0 1 acts (k * 5 + 0) none in
      let c = good.1.counted.reader in
      let s = good.1.counted.read_slots in
      let long : length played.reader ≡ steps_of 1 acts = ap length reader_at ∙ positions_length 0 1 acts in
      slice_get_past played.read_slots k (omega (
        arith,
        unchosen played.cell.reader k (length played.reader) (length played.answers) (omega arith) c,
      ))) in
      ap (λ (f : ℕ → Option ℕ). record { at = access_at 0 span 1; slot = f }) (pointwise same)
      ∙ ap (λ (xs : List ℕ). record { at = λ k e. slice_get xs (k * 5 + e); slot = λ k. slice_get played.read_slots k }) (sym reader_at)

  pub is_clear : Assembled → IsClear (accesses_of span ops slots 0) (accesses_of span ops slots 1)
  is_clear a =
      subst (λ w. IsClear w (accesses_of span ops slots 1)) (sym (writes_are a))
      (subst (λ r. IsClear (writes_of played) r) (sym (reads_are a)) good.1.clear)

  reads_small : (r : ReaderStage) → made r ≤ 4
  reads_small R1 = omega arith
  reads_small R2 = omega arith
  reads_small R3 = omega arith
  reads_small R4 = omega arith
  reads_small R5 = omega arith

  -- a finished read has its answer
  pub answer_of : (m : ℕ) → IsSome ((reads_of played).at m 4) → (x : Numbered R) × (slice_get played.answers m ≡ Some x)
  answer_of m ended =
      let e = some_of (slice_get played.reader (m * 5 + 4)) ended in
      let inside : m * 5 + 4 < length played.reader = slice_get_within played.reader (m * 5 + 4) e.0 e.1 in
      get_within played.answers m (omega (arith, good.1.counted.reader, reads_small played.cell.reader))

  pub trace_fresh : IsFreshReport (writes_of played) (reads_of played)
  trace_fresh m ended =
      let x = answer_of m ended in (
        x.0.number,
        numbered_read_fresh {R = Numbered R} number_of (opening_record opening) (numbered opening writes) played good.0 m x.0 good.1 x.1,
      )

  pub is_fresh : Assembled → IsFreshReport (accesses_of span ops slots 0) (accesses_of span ops slots 1)
  is_fresh a =
      subst (λ w. IsFreshReport w (accesses_of span ops slots 1)) (sym (writes_are a))
      (subst (λ r. IsFreshReport (writes_of played) r) (sym (reads_are a)) trace_fresh)

  item_of_read : (turn : Turn) (number starts m : ℕ) (writer_ends reader_ends : List ℕ) →
      (op_by turn number starts writes writer_ends reader_ends played.answers).who ≡ 1 →
      slice_get (positions 0 (actor turn) acts) (number * 5 + 0) ≡ Some starts → access_at 0 span 1 m 0 ≡ Some starts →
      (op_by turn number starts writes writer_ends reader_ends played.answers).item ≡ slice_get (map record_of played.answers) m
  item_of_read Writer number starts m writer_ends reader_ends who here begins = cc
  item_of_read Reader number starts m writer_ends reader_ends who here begins =
      let same : number * 5 + 0 ≡ m * 5 + 0 = position_once 0 1 acts (number * 5 + 0) (m * 5 + 0) starts here begins in
      ap (λ n. option_map record_of (slice_get played.answers n)) (let e : number ≡ m = omega arith in
      e) ∙ sym (slice_get-map record_of played.answers m)

  not_refused : (turn : Turn) (number starts : ℕ) (writer_ends reader_ends : List ℕ) →
      (op_by turn number starts writes writer_ends reader_ends played.answers).kind ≡ Refused → ⊥
  not_refused Writer number starts writer_ends reader_ends e = cc
  not_refused Reader number starts writer_ends reader_ends e = cc

  -- no operation of a cell is refused
  unrefused : Assembled → (p : ℕ) (op : Op R) → slice_get ops p ≡ Some op → op.kind ≢ Refused
  unrefused a p op at is =
      let w = mapped_from (op_of writes a.writer_ends a.reader_ends played.answers) a.parts p op
      (ap (λ list. slice_get list p) (sym a.ops_are) ∙ at) in
      let part : Started = w.0 in
      not_refused part.turn part.number part.starts a.writer_ends a.reader_ends (ap (λ (o : Op R). o.kind) w.2 ∙ is)

  pub is_of_run : Assembled → IsOfRun span (run opening noise writes steps) ops slots
  is_of_run a = record {
    each_slot = ap length a.slots_are ∙ length-map a.parts (slot_of played.write_slots played.read_slots)
        ∙ sym (length-map a.parts (op_of writes a.writer_ends a.reader_ends played.answers)) ∙ ap length (sym a.ops_are);
    write_slots = λ k. ap (λ (w : Accesses). w.slot k) (writes_are a)
        ∙ ap (λ (t : Trace R). slice_get t.write_slots k) (sym (run_mapped opening noise writes steps));
    read_slots = λ k. ap (λ (w : Accesses). w.slot k) (reads_are a)
        ∙ ap (λ (t : Trace R). slice_get t.read_slots k) (sym (run_mapped opening noise writes steps));
    unrefused = unrefused a;
    answers = λ p m op at who begins.
        let w = mapped_from (op_of writes a.writer_ends a.reader_ends played.answers) a.parts p op
        (ap (λ list. slice_get list p) (sym a.ops_are) ∙ at) in
        let part : Started = w.0 in
        let starts : op.starts ≡ part.starts = ap (λ (o : Op R). o.starts) (sym w.2)
        ∙ starts_of part.turn part.number part.starts writes a.writer_ends a.reader_ends played.answers in
        ap (λ (o : Op R). o.item) (sym w.2)
        ∙ item_of_read part.turn part.number part.starts m a.writer_ends a.reader_ends
        (ap (λ (o : Op R). o.who) w.2 ∙ who) (a.are_parts.each p part w.1) (begins ∙ ap Some starts)
        ∙ ap (λ (t : Trace R). slice_get t.answers m) (sym (run_mapped opening noise writes steps));
  }

  -- what the player made is made of the trace
  pub of_trace : IsAssembled (numbered_run opening noise writes steps) steps writes terms ops slots order → Assembled
  of_trace a =
      let P : Log (Numbered R) → Type 0 = λ l. IsAssembled l steps writes terms ops slots order in
      subst P (sym (run_shown opening noise writes steps)) a

  -- none of the report's is refused, so refusals are lawful
  pub refuses : Assembled → RefusesLawfully terms ops order
  refuses a k t at i p o ip po is within = absurd (unrefused a p o po is)
