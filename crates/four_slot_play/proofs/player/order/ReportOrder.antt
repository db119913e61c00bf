-- The report's order lists the woven entries: it is the order by the numbers of *fresh*, it is atomic but for precedence, which
-- the law of numbered orders adds, and it is the order that a report prints.
use Rattle.std.proofs.Common.{◌≡◌, ℕ, ◌+◌, ◌*◌, ◌<◌, ◌≤◌, true, false, List, [], ◌∷◌, length, map, slice_get, Option, None, Some, IsSome}
use Rattle.std.proofs.Common.{zero, suc, ◌⊎◌, inl, inr, refl, sym, subst, ◌∙◌, ap, arith}
use Rattle.std.specs.Prelude.{IfSome}
use Rattle.std.specs.Option.{option_map}
use Rattle.std.proofs.lemmas.Bool.{cases_lt, cases_order}
use Rattle.std.proofs.lemmas.Option.{same_Some, slice_get_within, get_or_from_slice_get}
use Rattle.history_core.specs.declared.history.Op.{Op}
use Rattle.history_core.specs.declared.history.Term.{Term}
use Rattle.history_core.specs.declared.history.Kind.TheVariants.{Write, Read, Refused}
use Rattle.history_core.specs.declared.wish.Wish.{Wish}
use Rattle.history_core.specs.declared.wish.Wish.TheVariants as wish
use Rattle.history_core.specs.Numbers.{IsByNumber, StandsAt}
use Rattle.history_core.specs.Orders.{IsAtomicOrder, IsListing, KeepsPrecedence, ListsPlaces, Precedes, ReadsLatest, is_write, times_of}
use Rattle.history_core.specs.Schedules.{Follows, HasOperations, IsPlayed, planned, positions, steps_of}
use Rattle.history_core.proofs.Latest.{HasItemByNumber, reads_by_number}
use Rattle.history_core.proofs.Listed.{some_and_of}
use Rattle.history_core.proofs.Listing.{StandsOnce, listing_from, times_nowhere, times_once}
use Rattle.history_core.proofs.Positions.{position_exists, position_made, position_once, positions_length, positions_rise}
use Rattle.four_slot_core.specs.declared.schedule.Turn.{Turn}
use Rattle.four_slot_core.specs.declared.schedule.Turn.TheVariants.{Writer, Reader}
use Rattle.four_slot_play.specs.declared.player.steps.Started.{Started}
use Rattle.four_slot_play.specs.declared.player.run.Numbered.{Numbered}
use Rattle.four_slot_core.specs.declared.state.ReaderStage.{ReaderStage}
use Rattle.four_slot_core.specs.declared.state.ReaderStage.TheVariants.{R1, R2, R3, R4, R5}
use Rattle.four_slot_core.specs.Accesses.{Accesses, IsSource}
use Rattle.four_slot_core.specs.Traces.{source_record, trace_start, writes_of, reads_of}
use Rattle.four_slot_play.specs.inner.Parts.{started, op_by, op_of}
use Rattle.four_slot_core.specs.Play.{actor, item_of, span_of}
use Rattle.four_slot_play.specs.Reports.{AnswersSources, reader_of, writer_of}
use Rattle.four_slot_play.specs.ReportOrders.{ComesFirst, HasNumber, IsListed, IsReportOrder, IsStoredWrite}
use Rattle.four_slot_play.specs.inner.Runs.{IsAssembled, log_of, numbered, opening_record}
use Rattle.four_slot_play.specs.inner.Weaves.{Entry, entry, GoesBy, IsAmongBy}
use Rattle.four_slot_play.proofs.player.order.Entries.{Begins, Ends, acts, answer_at, entry_after_write, entry_by_beginning, entry_rises}
use Rattle.four_slot_play.proofs.player.order.Entries.{entry_sorted}
use Rattle.four_slot_play.proofs.player.order.Entries.{entry_write_first, number_by, played}
use Rattle.four_slot_play.proofs.player.steps.Shape.{mapped_from, mapped_to, parts_are_played, starts_of}
use Rattle.four_slot_play.proofs.player.order.Placing.{parts_in_turn}
use Rattle.four_slot_core.proofs.Pushed.{get_within, is_some_of, some_of}
use Rattle.four_slot_play.proofs.player.report.Accesses.{reads_are, writes_are}
use Rattle.four_slot_play.proofs.player.run.Numbers.{numbers_below}
use Rattle.four_slot_play.proofs.player.run.Traces.{reader_positions, run_good, source_item, writer_positions}
use Rattle.four_slot_core.proofs.traces.Counts.{made}
use Rattle.four_slot_core.proofs.traces.Good.{source_up}

made_small : (r : ReaderStage) → made r ≤ 4
made_small R1 = omega arith
made_small R2 = omega arith
made_small R3 = omega arith
made_small R4 = omega arith
made_small R5 = omega arith

number_cases : (n : ℕ) → (n ≡ 0) ⊎ ((k : ℕ) × (n ≡ k + 1))
number_cases zero = inl refl
number_cases (suc k) = inr (k, omega arith)

if_some_from : (P : ℕ → Type 0) (o : Option ℕ) → ((e : ℕ) → o ≡ Some e → P e) → IfSome o P
if_some_from P None h = tt
if_some_from P (Some e) h = h e refl

module _ {R : Type 0} (opening noise : R) (steps : List Turn) (writes : List R) (reads : ℕ) (terms : List Term) (ops : List (Op R))
    (slots : List (Option ℕ)) (order : List ℕ)
    (a : IsAssembled (log_of (played opening noise steps writes)) steps writes terms ops slots order) where
  abbrev answers : List (Numbered R)
  answers = (played opening noise steps writes).answers

  abbrev moves : List ℕ
  moves = acts opening noise steps writes

  abbrev count : ℕ
  count = length a.stores

  abbrev make : Turn → ℕ → ℕ → Op R
  make t k s = op_by t k s writes a.writer_ends a.reader_ends answers

  abbrev num : Turn → ℕ → ℕ
  num = number_by opening noise steps writes

  abbrev Among : Turn → ℕ → Type 0
  Among = IsAmongBy count (length answers)

  -- the number of the operation at a place
  abbrev number_part : Option Started → ℕ
  number_part None = 0
  number_part (Some part) = num part.turn part.number

  abbrev pub number : ℕ → ℕ
  number p = number_part (slice_get a.parts p)

  -- an entry x of the order: its operation's side, number and beginning
  record Stands (x p : ℕ) (op : Op R) : Type 0 where
    turn : Turn
    index : ℕ
    starts : ℕ
    entry_at : slice_get a.ordered.entries x ≡ Some (entry turn index)
    part_at : slice_get a.parts p ≡ Some (started turn index starts)
    is : make turn index starts ≡ op
    among : Among turn index
    begins : Begins opening noise steps writes turn index starts
    numbered_is : number p ≡ num turn index

  op_at : (t : Turn) (k s p : ℕ) → slice_get a.parts p ≡ Some (started t k s) → slice_get ops p ≡ Some (make t k s)
  op_at t k s p e = ap (λ (list : List (Op R)). slice_get list p) a.ops_are
      ∙ mapped_to (op_of writes a.writer_ends a.reader_ends answers) a.parts p (started t k s) e

  part_at_place : (p : ℕ) (op : Op R) → slice_get ops p ≡ Some op →
      (part : Started) × (slice_get a.parts p ≡ Some part) × (make part.turn part.number part.starts ≡ op)
  part_at_place p op e = mapped_from (op_of writes a.writer_ends a.reader_ends answers) a.parts p op
      (ap (λ (list : List (Op R)). slice_get list p) (sym a.ops_are) ∙ e)

  placed : (x p : ℕ) → slice_get order x ≡ Some p →
      (e : Entry) × (slice_get a.ordered.entries x ≡ Some e) × (s : ℕ) × (slice_get a.parts p ≡ Some (started e.turn e.number s))
  placed x p at =
      let long = a.ordered.long in
      let e = get_within a.ordered.entries x (omega (arith, slice_get_within order x p at)) in
      let w = a.ordered.places x e.0 e.1 in
      (e.0, e.1, w.1, ap (slice_get a.parts) (same_Some p w.0 (sym at ∙ w.2)) ∙ w.3)

  stands : (x p : ℕ) (op : Op R) → StandsAt ops order x p op → Stands x p op
  stands x p op at =
      let w = placed x p at.0 in
      let e : Entry = w.0 in
      record {
        turn = e.turn;
        index = e.number;
        starts = w.2;
        entry_at = w.1;
        part_at = w.3;
        is = same_Some (make e.turn e.number w.2) op (sym (op_at e.turn e.number w.2 p w.3) ∙ at.1);
        among = a.ordered.woven.each x e w.1;
        begins = a.are_parts.each p (started e.turn e.number w.2) w.3;
        numbered_is = ap number_part w.3;
      }

  goes : (i j p q : ℕ) (x y : Op R) (u : Stands i p x) (v : Stands j q y) → i < j → GoesBy answers u.turn u.index v.turn v.index
  goes i j p q x y u v lt = a.ordered.woven.sorted i j (entry u.turn u.index) (entry v.turn v.index) u.entry_at v.entry_at lt

  ends_by : (t : Turn) (k s : ℕ) → (make t k s).ends ≡ slice_get (positions 0 (actor t) moves) (k * 5 + 4)
  ends_by Writer k s = a.are_writer_ends.each k
  ends_by Reader k s = a.are_reader_ends.each k

  ends_at : (t : Turn) (k s e : ℕ) (op : Op R) → make t k s ≡ op → op.ends ≡ Some e → Ends opening noise steps writes t k e
  ends_at t k s e op is ends = sym (ends_by t k s) ∙ ap (λ (o : Op R). o.ends) is ∙ ends

  begins_at : (t : Turn) (k s : ℕ) (op : Op R) → make t k s ≡ op → op.starts ≡ s
  begins_at t k s op is = ap (λ (o : Op R). o.starts) (sym is) ∙ starts_of t k s writes a.writer_ends a.reader_ends answers

  rises : (i j p q : ℕ) (x y : Op R) → StandsAt ops order i p x → StandsAt ops order j q y → Precedes x y → number p ≤ number q
  rises i j p q x y xi yj pre =
      let u = stands i p x xi in
      let v = stands j q y yj in
      let e = some_and_of (λ end. end < y.starts) x.ends pre in
      let le = entry_rises opening noise steps writes count u.turn v.turn u.index v.index e.0 v.starts u.among v.among
      (ends_at u.turn u.index u.starts e.0 x u.is e.1) v.begins (omega (arith, e.2, begins_at v.turn v.index v.starts y v.is)) in
      omega (arith, u.numbered_is, v.numbered_is)

  sorted : (i j p q : ℕ) (x y : Op R) → StandsAt ops order i p x → StandsAt ops order j q y → i < j → number p ≤ number q
  sorted i j p q x y xi yj lt =
      let u = stands i p x xi in
      let v = stands j q y yj in
      let le = entry_sorted opening noise steps writes count u.turn v.turn u.index v.index u.among v.among (goes i j p q x y u v lt) in
      omega (arith, u.numbered_is, v.numbered_is)

  same_number : (i j p q : ℕ) (x y : Op R) (u : Stands i p x) (v : Stands j q y) → number p ≡ number q →
      num u.turn u.index ≡ num v.turn v.index
  same_number i j p q x y u v same = sym u.numbered_is ∙ same ∙ v.numbered_is

  write_first_by : (t u : Turn) (k m r : ℕ) → Among t k → GoesBy answers t k u m → num t k ≡ num u m → is_write (make u m r).kind ≡ false
  write_first_by t Writer k m r kt g same = absurd (entry_write_first opening noise steps writes count t k m kt g same)
  write_first_by t Reader k m r kt g same = refl

  by_beginning_by : (t u : Turn) (k m s r : ℕ) → Among t k → GoesBy answers t k u m → num t k ≡ num u m →
      is_write (make t k s).kind ≡ false → Begins opening noise steps writes t k s → Begins opening noise steps writes u m r → s ≤ r
  by_beginning_by Writer u k m s r kt g same other ks mr = cc
  by_beginning_by Reader Writer k m s r kt g same other ks mr =
      absurd (entry_write_first opening noise steps writes count Reader k m kt g same)
  by_beginning_by Reader Reader k m s r kt g same other ks mr =
      let l = entry_by_beginning opening noise steps writes k m s r g ks mr in
      omega arith

  after_write_by : (t u : Turn) (k m s e : ℕ) → Among u m → GoesBy answers t k u m → num t k ≡ num u m → is_write (make t k s).kind ≡ true →
      Begins opening noise steps writes t k s → Ends opening noise steps writes u m e → e < s → ⊥
  after_write_by Reader u k m s e mu g same write ks me lt = cc
  after_write_by Writer Writer k m s e mu g same write ks me lt = absurd (omega arith)
  after_write_by Writer Reader k m s e mu g same write ks me lt =
      entry_after_write opening noise steps writes m k e s mu (sym same) me ks lt

  pub by_number : IsByNumber number ops order
  by_number = record {
    rises = rises;
    sorted = sorted;
    write_first = λ i j p q x y xi yj lt same.
        let u = stands i p x xi in
        let v = stands j q y yj in
        ap (λ (o : Op R). is_write o.kind) (sym v.is)
        ∙ write_first_by u.turn v.turn u.index v.index v.starts u.among (goes i j p q x y u v lt) (same_number i j p q x y u v same);
    by_beginning = λ i j p q x y xi yj lt same other.
        let u = stands i p x xi in
        let v = stands j q y yj in
        let le = by_beginning_by u.turn v.turn u.index v.index u.starts v.starts u.among (goes i j p q x y u v lt)
        (same_number i j p q x y u v same) (ap (λ (o : Op R). is_write o.kind) u.is ∙ other) u.begins v.begins in
        omega (arith, begins_at u.turn u.index u.starts x u.is, begins_at v.turn v.index v.starts y v.is);
    after_write = λ i j p q x y xi yj lt same write pre.
        let u = stands i p x xi in
        let v = stands j q y yj in
        let e = some_and_of (λ end. end < x.starts) y.ends pre in
        after_write_by u.turn v.turn u.index v.index u.starts e.0 v.among (goes i j p q x y u v lt) (same_number i j p q x y u v same)
        (ap (λ (o : Op R). is_write o.kind) u.is ∙ write) u.begins (ends_at v.turn v.index v.starts e.0 y v.is e.1)
        (omega (arith, e.2, begins_at u.turn u.index u.starts x u.is));
    forwards = λ i p x xi.
        let u = stands i p x xi in
        if_some_from (λ end. x.starts ≤ end) x.ends (λ e is.
        let l = positions_rise 0 (actor u.turn) moves (u.index * 5 + 0) (u.index * 5 + 4) u.starts e u.begins
        (ends_at u.turn u.index u.starts e x u.is is) (omega arith) in
        omega (arith, begins_at u.turn u.index u.starts x u.is));
  }

  -- listing
  places : ListsPlaces ops order
  places x p at = let w = placed x p at in slice_get_within ops p (make w.0.turn w.0.number w.2) (op_at w.0.turn w.0.number w.2 p w.3)

  goes_self : (t : Turn) (k : ℕ) → GoesBy answers t k t k → ⊥
  goes_self Writer k g = absurd (omega arith)
  goes_self Reader k g = absurd (omega arith)

  same_entry : (i j p : ℕ) → slice_get order i ≡ Some p → slice_get order j ≡ Some p → i < j → ⊥
  same_entry i j p pi pj lt =
      let v = placed i p pi in
      let w = placed j p pj in
      let e : started v.0.turn v.0.number v.2 ≡ started w.0.turn w.0.number w.2 =
      same_Some (started v.0.turn v.0.number v.2) (started w.0.turn w.0.number w.2) (sym v.3 ∙ w.3) in
      let g = a.ordered.woven.sorted i j v.0 w.0 v.1 w.1 lt in
      let P : Started → Type 0 = λ z. GoesBy answers v.0.turn v.0.number z.turn z.number in
      goes_self v.0.turn v.0.number (subst P (sym e) g)

  once : StandsOnce order
  once i j p pi pj = elim (cases_order i j) [
    | inl s ↦ s
    | inr (inl l) ↦ absurd (same_entry i j p pi pj l)
    | inr (inr l) ↦ absurd (same_entry j i p pj pi l)
  ]

  reader_steps : length (played opening noise steps writes).reader ≡ steps_of 1 moves
  reader_steps = ap length
      (reader_positions {R = Numbered R} (numbered opening writes) (trace_start (opening_record opening) (opening_record noise)) 0 steps)
      ∙ positions_length 0 1 moves

  stored_among : (k i : ℕ) → k * 5 + 3 ≤ i → i < steps_of 0 moves → Among Writer k
  stored_among k i le l =
      let x = position_exists 0 0 moves (k * 5 + 3) (omega arith) in
      slice_get_within a.stores k x.0 (a.are_stores.each k ∙ x.1)

  among_stored : (k : ℕ) → Among Writer k → (x : ℕ) × (slice_get (positions 0 0 moves) (k * 5 + 3) ≡ Some x)
  among_stored k l = let x = get_within a.stores k l in (x.0, sym (a.are_stores.each k) ∙ x.1)

  ended_among : (t : Turn) (k e : ℕ) → Ends opening noise steps writes t k e → Among t k
  ended_among Writer k e ends = stored_among k (k * 5 + 4) (omega arith) (position_made 0 0 moves (k * 5 + 4) e ends)
  ended_among Reader k e ends =
      let good = run_good opening noise writes steps in
      let inside = position_made 0 1 moves (k * 5 + 4) e ends in
      omega (arith, reader_steps, good.1.counted.reader, made_small (played opening noise steps writes).cell.reader)

  among_ended : (k : ℕ) → Among Reader k → (e : ℕ) × Ends opening noise steps writes Reader k e
  among_ended k l =
      let good = run_good opening noise writes steps in
      position_exists 0 1 moves (k * 5 + 4) (omega (arith, reader_steps, good.1.counted.reader))

  -- an operation that is among them is listed
  listed_at_place : (t : Turn) (k s p : ℕ) → slice_get a.parts p ≡ Some (started t k s) → Among t k → (x : ℕ) × (slice_get order x ≡ Some p)
  listed_at_place t k s p at among =
      let x = a.ordered.woven.all (entry t k) among in
      let w = a.ordered.places x.0 (entry t k) x.1 in
      let turn = parts_in_turn moves a.parts a.are_parts in
      (x.0, w.2 ∙ ap Some (turn.once t k w.0 p w.1 s w.3 at))

  finished : (p end : ℕ) (o : Op R) → slice_get ops p ≡ Some o → o.ends ≡ Some end → (i : ℕ) × (slice_get order i ≡ Some p)
  finished p end o at ends =
      let w = part_at_place p o at in
      let part : Started = w.0 in
      listed_at_place part.turn part.number part.starts p w.1
      (ended_among part.turn part.number end (ends_at part.turn part.number part.starts end o w.2 ends))

  unfinished_by : (t : Turn) (k s : ℕ) → Among t k → (make t k s).ends ≡ None → is_write (make t k s).kind ≡ true
  unfinished_by Writer k s among none = refl
  unfinished_by Reader k s among none =
      let e = among_ended k among in
      let some : slice_get (positions 0 1 moves) (k * 5 + 4) ≡ None = sym (ends_by Reader k s) ∙ none in
      let f = e.1 in
      cc

  pub listing : IsListing ops order
  listing = listing_from ops order places once finished (λ i p o at none.
      let u = stands i p o at in
      ap (λ (z : Op R). is_write z.kind) (sym u.is) ∙ unfinished_by u.turn u.index u.starts u.among (ap (λ (z : Op R). z.ends) u.is ∙ none))

  -- reading: a write has its item
  followed_item : (w : Option (Wish R)) (op : Op R) → op.kind ≡ Write → Follows w op → IsSome op.item
  followed_item None op k h = absurd h
  followed_item (Some (wish.Write item)) op k h = elim h [
    | inl w ↦ is_some_of op.item item w.1
    | inr r ↦
        let no : Write ≡ Refused = sym k ∙ r in
        cc
  ]
  followed_item (Some wish.Read) op k h = let no : Write ≡ Read = sym k ∙ h in cc

  write_item : HasOperations (span_of steps writes reads ∷ []) → (k s p : ℕ) → slice_get a.parts p ≡ Some (started Writer k s) →
      IsSome (slice_get writes k)
  write_item has k s p at =
      let all : IsPlayed 0 (span_of steps writes reads) (map (op_of writes a.writer_ends a.reader_ends answers) a.parts) = parts_are_played
      steps writes reads a.writer_ends a.reader_ends answers a.parts has a.are_writer_ends a.are_reader_ends a.are_parts in
      let w =
      all.each p (make Writer k s) (mapped_to (op_of writes a.writer_ends a.reader_ends answers) a.parts p (started Writer k s) at) in
      followed_item (planned (span_of steps writes reads) 0 w.0) (make Writer k s) refl w.1.follows

  item_by : HasOperations (span_of steps writes reads ∷ []) → (t : Turn) (k s p : ℕ) → slice_get a.parts p ≡ Some (started t k s) →
      Among t k → IsSome (make t k s).item
  item_by has Writer k s p at among = write_item has k s p at
  item_by has Reader k s p at among =
      let x = answer_at opening noise steps writes k among in
      is_some_of (make Reader k s).item x.0.item (ap (option_map (λ (z : Numbered R). z.item)) x.1)

  -- and a read the item of the write with its number
  read_item : (k s : ℕ) (x : Numbered R) → slice_get answers k ≡ Some x →
      (make Reader k s).item ≡ Some (source_record opening (item_of opening writes) x.number)
  read_item k s x at =
      let good = run_good opening noise writes steps in
      ap (option_map (λ (z : Numbered R). z.item)) at
      ∙ ap (λ (z : Numbered R). Some z.item) (good.1.known.answers k x at)
      ∙ ap Some (source_item opening writes x.number)

  found_by : HasOperations (span_of steps writes reads ∷ []) → (t : Turn) (k s i p : ℕ) → slice_get a.parts p ≡ Some (started t k s) →
      Among t k → is_write (make t k s).kind ≡ false → HasItemByNumber number opening ops order p (make t k s)
  found_by has Writer k s i p at among other = cc
  found_by has Reader k s i p at among other =
      let x = answer_at opening noise steps writes k among in
      let own : number p ≡ x.0.number = ap number_part at ∙ x.2 in
      let item = read_item k s x.0 x.1 in
      elim (number_cases x.0.number) [
        | inl z ↦ inr (
          item ∙ ap (λ n. Some (source_record opening (item_of opening writes) n)) z,
          λ j q w wj written.
              let v = stands j q w wj in
              let up = above v.turn v.index v.starts (ap (λ (o : Op R). is_write o.kind) v.is ∙ written) in
              omega (arith, own, v.numbered_is),
        )
        | inr n ↦
            let low : x.0.number ≤ count = numbers_below opening noise steps writes a.stores a.are_stores k x.0 x.1 in
            let there = a.ordered.woven.all (entry Writer n.0) (omega (arith, n.1)) in
            let w = a.ordered.places there.0 (entry Writer n.0) there.1 in
            let has_item = some_of (slice_get writes n.0) (write_item has n.0 w.1 w.0 w.3) in
            inl (
              there.0,
              w.0,
              make Writer n.0 w.1,
              (w.2, op_at Writer n.0 w.1 w.0 w.3),
              refl,
              (let e : number w.0 ≡ n.0 + 1 = ap number_part w.3 in omega (arith, own, n.1)),
              item ∙ ap (λ m. Some (source_record opening (item_of opening writes) m)) (let e : x.0.number ≡ suc n.0 = omega (arith, n.1) in
                  e) ∙ ap Some (get_or_from_slice_get writes n.0 has_item.0 opening has_item.1) ∙ sym has_item.1,
            )
      ]
    where
      above : (t : Turn) (m r : ℕ) → is_write (make t m r).kind ≡ true → 0 < num t m
      above Writer m r written = omega arith
      above Reader m r written = cc

  pub reading : HasOperations (span_of steps writes reads ∷ []) → ReadsLatest (λ x y. x ≡ y) opening ops order
  reading has =
      reads_by_number number opening ops order by_number
      (λ i p o at.
      let u = stands i p o at in
      let P : Op R → Type 0 = λ z. IsSome z.item in
      subst P u.is (item_by has u.turn u.index u.starts p u.part_at u.among))
      (λ i p o at other.
      let u = stands i p o at in
      let P : Op R → Type 0 = λ z. HasItemByNumber number opening ops order p z in
      subst P u.is (found_by has u.turn u.index u.starts i p u.part_at u.among (ap (λ (z : Op R). is_write z.kind) u.is ∙ other)))

  pub atomic : HasOperations (span_of steps writes reads ∷ []) → KeepsPrecedence ops order → IsAtomicOrder (λ x y. x ≡ y) opening ops order
  atomic has kept = record { listing = listing; precedence = kept; reading = reading has }

  -- the order that a report prints
  abbrev writer : Accesses
  writer = writes_of (played opening noise steps writes)

  abbrev reader : Accesses
  reader = reads_of (played opening noise steps writes)

  writer_is : (i : ℕ) → slice_get (played opening noise steps writes).writer i ≡ slice_get (positions 0 0 moves) i
  writer_is i = ap (λ (xs : List ℕ). slice_get xs i)
      (writer_positions {R = Numbered R} (numbered opening writes) (trace_start (opening_record opening) (opening_record noise)) 0 steps)

  reader_is : (i : ℕ) → slice_get (played opening noise steps writes).reader i ≡ slice_get (positions 0 1 moves) i
  reader_is i = ap (λ (xs : List ℕ). slice_get xs i)
      (reader_positions {R = Numbered R} (numbered opening writes) (trace_start (opening_record opening) (opening_record noise)) 0 steps)

  -- an operation that a report lists is among the entries
  listed_by : (t : Turn) (k s : ℕ) → Begins opening noise steps writes t k s → (make t k s).kind ≡ Write →
      IsStoredWrite writer s → Among t k
  listed_by Reader k s begins write stored = cc
  listed_by Writer k s begins write stored =
      let same : k * 5 + 0 ≡ stored.0 * 5 + 0 =
      position_once 0 0 moves (k * 5 + 0) (stored.0 * 5 + 0) s begins (sym (writer_is (stored.0 * 5 + 0)) ∙ stored.1) in
      let x = some_of (slice_get (played opening noise steps writes).writer (stored.0 * 5 + 3)) stored.2 in
      let inside = position_made 0 0 moves (stored.0 * 5 + 3) x.0 (sym (writer_is (stored.0 * 5 + 3)) ∙ x.1) in
      stored_among k (stored.0 * 5 + 3) (omega arith) inside

  listed : (p : ℕ) (op : Op R) → slice_get ops p ≡ Some op → IsListed writer op → times_of p order ≡ 1
  listed p op at h =
      let w = part_at_place p op at in
      let part : Started = w.0 in
      let begins : Begins opening noise steps writes part.turn part.number part.starts = a.are_parts.each p part w.1 in
      let starts = begins_at part.turn part.number part.starts op w.2 in
      let among : Among part.turn part.number = elim h [
        | inl ended ↦
            let e = some_of op.ends ended in
            ended_among part.turn part.number e.0 (ends_at part.turn part.number part.starts e.0 op w.2 e.1)
        | inr stored ↦ listed_by part.turn part.number part.starts begins
            (ap (λ (z : Op R). z.kind) w.2 ∙ stored.0) (subst (IsStoredWrite writer) starts stored.1)
      ] in
      let x = listed_at_place part.turn part.number part.starts p w.1 among in
      times_once p x.0 order once x.1

  among_listed : (t : Turn) (k s : ℕ) → Begins opening noise steps writes t k s → Among t k → IsListed writer (make t k s)
  among_listed Writer k s begins among =
      let x = among_stored k among in
      inr (
        refl,
        (
          k,
          writer_is (k * 5 + 0) ∙ begins,
          is_some_of (slice_get (played opening noise steps writes).writer (k * 5 + 3)) x.0 (writer_is (k * 5 + 3) ∙ x.1),
        ),
      )
  among_listed Reader k s begins among =
      let e = among_ended k among in
      inl (is_some_of (make Reader k s).ends e.0 (ends_by Reader k s ∙ e.1))

  left_out : (p : ℕ) (op : Op R) → slice_get ops p ≡ Some op → ¬ IsListed writer op → times_of p order ≡ 0
  left_out p op at unlisted = times_nowhere p order (λ i e.
      let u = stands i p op (e, at) in
      let P : Op R → Type 0 = λ z. IsListed writer z in
      unlisted (subst P u.is (among_listed u.turn u.index u.starts u.begins u.among)))

  -- the number of a listed operation is that of its entry
  has_number_by : (t : Turn) (k s m : ℕ) → Among t k → Begins opening noise steps writes t k s →
      HasNumber writer reader (make t k s).kind s m → m ≡ num t k
  has_number_by Writer k s m among begins h =
      let same : k * 5 + 0 ≡ h.0 * 5 + 0 =
      position_once 0 0 moves (k * 5 + 0) (h.0 * 5 + 0) s begins (sym (writer_is (h.0 * 5 + 0)) ∙ h.1) in
      omega (arith, h.2)
  has_number_by Reader k s m among begins h =
      let same : h.0 * 5 + 0 ≡ k * 5 + 0 =
      position_once 0 1 moves (h.0 * 5 + 0) (k * 5 + 0) s (sym (reader_is (h.0 * 5 + 0)) ∙ h.1) begins in
      let source : IsSource writer reader k m = subst (λ z. IsSource writer reader z m) (let e : h.0 ≡ k = omega arith in e) h.2 in
      let x = answer_at opening noise steps writes k among in
      let up = source_up writer reader k m x.0.number source x.3.source in
      let down = source_up writer reader k x.0.number m x.3.source source in
      omega (arith, x.2)

  comes_first_by : (t u : Turn) (k m s r : ℕ) → Among t k → GoesBy answers t k u m → num t k ≡ num u m →
      Begins opening noise steps writes t k s → Begins opening noise steps writes u m r → ComesFirst (make t k s) (make u m r)
  comes_first_by t Writer k m s r kt g same ks mr = absurd (entry_write_first opening noise steps writes count t k m kt g same)
  comes_first_by Writer Reader k m s r kt g same ks mr = (refl, inl refl)
  comes_first_by Reader Reader k m s r kt g same ks mr = (refl, inr (refl, entry_by_beginning opening noise steps writes k m s r g ks mr))

  number_of_stands : (i p m : ℕ) (x : Op R) → (u : Stands i p x) → HasNumber writer reader x.kind x.starts m → m ≡ num u.turn u.index
  number_of_stands i p m x u h =
      let P : Op R → Type 0 = λ z. HasNumber writer reader z.kind z.starts m in
      let own : HasNumber writer reader (make u.turn u.index u.starts).kind (make u.turn u.index u.starts).starts
      m = subst P (sym u.is) h in
      has_number_by u.turn u.index u.starts m u.among u.begins (subst (λ b. HasNumber writer reader (make u.turn u.index u.starts).kind b m)
      (starts_of u.turn u.index u.starts writes a.writer_ends a.reader_ends answers) own)

  prints_in_order : (i j p q m n : ℕ) (x y : Op R) → StandsAt ops order i p x → StandsAt ops order j q y → i < j →
      HasNumber writer reader x.kind x.starts m → HasNumber writer reader y.kind y.starts n → (m < n) ⊎ ((m ≡ n) × ComesFirst x y)
  prints_in_order i j p q m n x y xi yj lt hm hn =
      let u = stands i p x xi in
      let v = stands j q y yj in
      let em = number_of_stands i p m x u hm in
      let en = number_of_stands j q n y v hn in
      let g = goes i j p q x y u v lt in
      let le = entry_sorted opening noise steps writes count u.turn v.turn u.index v.index u.among v.among g in
      elim (cases_lt m n) [
        | inl l ↦ inl l
        | inr ge ↦
            let same : m ≡ n = omega arith in
            let first = comes_first_by u.turn v.turn u.index v.index u.starts v.starts u.among g (sym em ∙ same ∙ en) u.begins v.begins in
            inr (same, subst (λ z. ComesFirst z y) u.is (subst (λ z. ComesFirst (make u.turn u.index u.starts) z) v.is first))
      ]

  trace_order : IsReportOrder writer reader ops order
  trace_order = record { places = places; listed = listed; left_out = left_out; sorted = prints_in_order }

  pub is_report_order : IsReportOrder (writer_of (span_of steps writes reads) ops slots)
      (reader_of (span_of steps writes reads) ops slots) ops order
  is_report_order =
      subst (λ w. IsReportOrder w (reader_of (span_of steps writes reads) ops slots) ops order)
      (sym (writes_are opening noise steps writes reads terms ops slots order a))
      (subst (λ r. IsReportOrder writer r ops order) (sym (reads_are opening noise steps writes reads terms ops slots order a)) trace_order)

  -- a finished read answers its source
  answers_by : (t : Turn) (k s m n : ℕ) → (make t k s).who ≡ 1 → Begins opening noise steps writes t k s → reader.at m 0 ≡ Some s →
      IsSome (make t k s).ends → IsSource writer reader m n → (make t k s).item ≡ Some (source_record opening (item_of opening writes) n)
  answers_by Writer k s m n who begins at ended source = cc
  answers_by Reader k s m n who begins at ended source =
      let e = some_of (make Reader k s).ends ended in
      let among : Among Reader k = ended_among Reader k e.0 (sym (ends_by Reader k s) ∙ e.1) in
      let x = answer_at opening noise steps writes k among in
      let number_is : n ≡ x.0.number = has_number_by Reader k s n among begins (m, at, source) ∙ x.2 in
      read_item k s x.0 x.1 ∙ ap (λ z. Some (source_record opening (item_of opening writes) z)) (sym number_is)

  trace_answers : AnswersSources writer reader opening writes ops
  trace_answers p m n op at who begins ended source =
      let w = part_at_place p op at in
      let part : Started = w.0 in
      let starts = begins_at part.turn part.number part.starts op w.2 in
      let P : Op R → Type 0 = λ z. z.who ≡ 1 in
      let Q : Op R → Type 0 = λ z. IsSome z.ends in
      ap (λ (z : Op R). z.item) (sym w.2)
      ∙ answers_by part.turn part.number part.starts m n (subst P (sym w.2) who) (a.are_parts.each p part w.1) (begins ∙ ap Some starts)
      (subst Q (sym w.2) ended) source

  pub answers_sources : AnswersSources (writer_of (span_of steps writes reads) ops slots)
      (reader_of (span_of steps writes reads) ops slots) opening writes ops
  answers_sources =
      subst (λ w. AnswersSources w (reader_of (span_of steps writes reads) ops slots) opening writes ops)
      (sym (writes_are opening noise steps writes reads terms ops slots order a))
      (subst (λ r. AnswersSources writer r opening writes ops)
      (sym (reads_are opening noise steps writes reads terms ops slots order a)) trace_answers)
