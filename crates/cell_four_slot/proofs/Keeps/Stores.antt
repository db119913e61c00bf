-- W4 and W5 keep the rule: the writer stores the bit of the slot and then the pair, each in a step of its own, or both at one store where
-- the pair stays.
use Rattle.std.proofs.Common.{◌≡◌, ◌≢◌, ℕ, ◌+◌, ◌<◌, List, [], ◌∷◌, ◌++◌, get_or, set, sym, refl, ap, ◌∙◌, subst, ⊎_elim, arith, ◌≤◌}
use Rattle.std.proofs.Common.{le_trans, le_refl}
use mathlib.Core.Option.{none, some, Option as Opt}
use lib.Seq.{set-get_or}
use Rattle.atomic_table.specs.Table.{State, Me, step, Act, keeps, gives, rest, stepped, carried_after, Allows, Valid}
use Rattle.std.proofs.lemmas.Bool.{cases_eq}
use Rattle.four_slot_core.specs.declared.state.Slot.{Slot}
use Rattle.four_slot_core.specs.declared.state.State.{State as Core}
use Rattle.four_slot_core.specs.declared.state.Stage.TheVariants as writer
use Rattle.four_slot_core.specs.declared.event.WriteEvent.TheVariants.{W4}
use Rattle.four_slot_core.specs.Events.{with_side, bit_number, slot_number, opening_state, after_write}
use Rattle.four_slot_core.specs.Invariant.{latest_slot, IsSound, IsUnderWay}
use Rattle.cell_contract.specs.Acts.{HasOne, Proper}
use Rattle.cell_four_slot.specs.declared.notes.WriterNotes.{WriterNotes}
use Rattle.cell_four_slot.specs.declared.notes.ReaderNotes.{ReaderNotes}
use Rattle.cell_four_slot.specs.Steps.{FourSlotSight, stored_by, stores, finishes_counting, finishes, finished_with, stores_on, clock_of}
use Rattle.cell_contract.specs.declared.sight.Sight.TheVariants.{Writer}
use Rattle.cell_four_slot.specs.Rule.{number_in, named_slot, InTable, IsNumbered, Sees, FourSlotRule}
use Rattle.cell_contract.specs.Sights.{writer_or}
use Rattle.cell_contract.proofs.ListLaws.{seats_stay}
use Rattle.cell_four_slot.proofs.Clear.{word_latest, table_stores, table_finishes}
use Rattle.cell_four_slot.proofs.Fresh.{numbered_stores, numbered_finishes, stands_more, latest_grows, shown_grows, settled_stores}
use Rattle.cell_four_slot.proofs.Fresh.{settled_finishes, number_grows}
use Rattle.cell_contract.proofs.Timing.{first_passed, first_ended, heeded_passed, heeded_ended}
use Rattle.cell_four_slot.proofs.Timing.{timed_stores, timed_finishes}
use Rattle.cell_four_slot.proofs.Events.{leads_stores, leads_finishes, sound_stores, sound_finishes, wrote, has_finished}
use Rattle.cell_four_slot.proofs.Keeps.Sees.{sight_put, next_time, next_on, put_on}

module _ {T : Type 0} (fits : T → Type 0) (rises : T → T → Type 0) (o : T) where
  abbrev V : Type 0
  V = FourSlotSight T

  abbrev St : Type 0
  St = State T V

  abbrev M : Type 0
  M = Me T V

  abbrev Rule : St → Type 0
  Rule = FourSlotRule fits rises o

  abbrev shown_number : {s : St} → Rule s → ℕ
  shown_number r = number_in r.put.slots (latest_slot r.core)

  abbrev RuleAt : ℕ → St → Type 0
  RuleAt t s = (r : Rule s) × (r.now ≤ t)

  abbrev pair_number : {s : St} → Rule s → ℕ
  pair_number r = number_in r.put.slots (named_slot r.core r.core.read.pair)

  -- W4 gives the slot back with the new record and names it: the numbers that a seat knows can only grow.
  pub stores_at : (s : St) (r : Rule s) (t : ℕ) → r.now < t → (slots id : ℕ) (me : M) (i new : ℕ) → id ≡ r.writer → me.0 ≡ Writer r.put →
      me.1 ≡ (slot_number r.put.slot, r.put.item.value) ∷ [] → r.put.stage ≡ writer.W3 → i ≡ 2 + bit_number r.put.slot.pair →
      new ≡ bit_number r.put.slot.index
      → (w : V) × (a : Act T) × (clock_of w ≡ t) × Proper me.1 a × Valid s.homes me.1 a × RuleAt t (stepped s i new id me.1 w a)
      × stores (step slots i new 0 none) me new (w, carried_after me.1 a)
  stores_at s r t lt slots id me i new own is holds stage word to =
      let p : WriterNotes T = r.put in let g : ReaderNotes T = r.get in let c : Core T = r.core in let last : T = p.finished.value in
      let filled : c.writer ≡ writer.W3 = r.in_views.writer_at ∙ stage in
      let on : r.now ≤ t = omega arith in
      let p' : WriterNotes T = stored_by p t in let w : V = Writer p' in let d : Core T = after_write writer.W3 c.item c in
      let place_is : c.write ≡ p.slot = r.in_views.write_is in let item_is : c.item ≡ p.item.value = r.in_views.item_is in
      let cs0 : List (ℕ × T) = (slot_number c.write, c.item) ∷ [] in
      let holds' : me.1 ≡ cs0 = holds ∙ (λ j. (slot_number (sym place_is j), sym item_is j) ∷ []) in
      let shown' : ℕ = number_in p.slots (latest_slot d) in
      let grows = latest_grows o p.written p.slots c last c.item r.numbered in (
        w,
        gives,
        refl,
        subst HasOne (sym holds') tt,
        tt,
        subst (λ (cs : List (ℕ × T)). RuleAt t (stepped s i new id cs w gives)) (sym holds') (
          record {
            put = p';
            get = g;
            writer = r.writer;
            reader = r.reader;
            core = d;
            in_table = table_stores s.words s.homes g.at_hand.value c c.item i new r.in_table filled
                (word ∙ ap (λ (z : Slot). 2 + bit_number z.pair) (sym place_is))
                (to ∙ ap (λ (z : Slot). bit_number z.index) (sym place_is));
            in_views = record {
              writer_at = refl;
              write_is = place_is;
              item_is = item_is;
              remembered_are = λ j. with_side (r.in_views.remembered_are j) (place_is j).pair (place_is j).index;
              latest_is = r.in_views.latest_is;
              reader_at = r.in_views.reader_at;
              read_is = r.in_views.read_is;
              chosen_is = r.in_views.chosen_is;
            };
            noise = r.noise;
            shown = (tt, r.shown.1);
            sound = sound_stores c last r.sound filled;
            numbered = numbered_stores o p.written p.slots c last c.item r.numbered filled;
            settled = settled_stores o p.written p.slots g.answers g.told c last c.item r.numbered r.settled;
            counted = record { writes = wrote p.accesses p.events (W4 ∷ []) r.counted.writes refl; reads = r.counted.reads };
            openings = r.openings;
            lawful = r.lawful;
            leads = leads_stores p.events g.events (opening_state o o) c r.leads filled;
            now = t;
            timed = timed_stores o p g r.now t (shown_number r) shown' (pair_number r) (number_in p.slots (named_slot d d.read.pair))
                c.writer c.reader lt grows (number_grows o p.written p.slots c last c.item c.read.pair r.numbered) filled r.timed;
            known = first_passed g.known p.written p.times t r.known;
            each_seat = seats_stay (Sees o p' g shown' t r.writer r.reader) s.views id w (refl, own)
                (λ j v other e. sight_put o p p' g (shown_number r) shown' r.now t r.writer r.writer r.reader j
                (λ z. other (z ∙ sym own)) on
                (λ z st. stands_more o p.written (shown_number r) shown' grows z st)
                (λ h. heeded_passed h p.written p.times t (shown_number r) shown' grows) v (r.each_seat j v e));
          },
          le_refl t,
        ),
        λ q is' holds''. let also : p ≡ q = ap (writer_or p) (sym is ∙ is') in (
          t,
          subst (λ (z : WriterNotes T). z.times.clock < t) also (put_on r t lt),
          (λ j. Writer (stored_by (also j) t)),
          ap rest holds',
          refl,
        ),
      )

  -- W4 and W5 at one store, where W5's store would change nothing
  pub stores_last_at : (s : St) (r : Rule s) (t : ℕ) → r.now < t → (slots id : ℕ) (me : M) (i new : ℕ) → id ≡ r.writer →
      me.0 ≡ Writer r.put → me.1 ≡ (slot_number r.put.slot, r.put.item.value) ∷ [] → r.put.stage ≡ writer.W3 →
      i ≡ 2 + bit_number r.put.slot.pair → new ≡ bit_number r.put.slot.index → bit_number r.put.slot.pair ≡ bit_number r.put.latest
      → (w : V) × (a : Act T) × (clock_of w ≡ t) × Proper me.1 a × Valid s.homes me.1 a × RuleAt t (stepped s i new id me.1 w a)
      × stores_on (step slots i new 0 none) me new (w, carried_after me.1 a)
  stores_last_at s r t lt slots id me i new own is holds stage word to last_pair =
      let p : WriterNotes T = r.put in let g : ReaderNotes T = r.get in let c : Core T = r.core in let last : T = p.finished.value in
      let filled : c.writer ≡ writer.W3 = r.in_views.writer_at ∙ stage in
      let on : r.now ≤ t = omega arith in
      let p1 : WriterNotes T = stored_by p t in let c1 : Core T = after_write writer.W3 c.item c in
      let p' : WriterNotes T = finished_with p1 0 t in let w : V = Writer p' in let d : Core T = after_write writer.W4 c.item c1 in
      let place_is : c.write ≡ p.slot = r.in_views.write_is in let item_is : c.item ≡ p.item.value = r.in_views.item_is in
      let cs0 : List (ℕ × T) = (slot_number c.write, c.item) ∷ [] in
      let holds' : me.1 ≡ cs0 = holds ∙ (λ j. (slot_number (sym place_is j), sym item_is j) ∷ []) in
      let homes' : List (Opt T) = set s.homes (slot_number c.write) (some c.item) in
      let table1 : InTable (set s.words i new) homes' g.at_hand.value c1 =
      table_stores s.words s.homes g.at_hand.value c c.item i new r.in_table filled
      (word ∙ ap (λ (z : Slot). 2 + bit_number z.pair) (sym place_is)) (to ∙ ap (λ (z : Slot). bit_number z.index) (sym place_is)) in
      let same : bit_number c.write.pair ≡ get_or (set s.words i new) 0 0 = ap (λ (z : Slot). bit_number z.pair) place_is
      ∙ (last_pair ∙ (ap bit_number (sym r.in_views.latest_is) ∙ sym (word_latest (set s.words i new) homes' g.at_hand.value c1 table1))) in
      let words : set (set s.words i new) 0 (bit_number c.write.pair) ≡ set s.words i new =
      ap (set (set s.words i new) 0) same ∙ set-get_or (set s.words i new) 0 0 in
      let sound1 : IsSound c1 last = sound_stores c last r.sound filled in
      let numbered1 : IsNumbered o p.written p.slots last c1 = numbered_stores o p.written p.slots c last c.item r.numbered filled in
      let shown1 : ℕ = number_in p.slots (latest_slot c1) in
      let shown' : ℕ = number_in p.slots (latest_slot d) in
      let grows1 : shown_number r ≤ shown1 = latest_grows o p.written p.slots c last c.item r.numbered in
      let grows2 : shown1 ≤ shown' = shown_grows o p.written p.slots c1 last c.item numbered1 sound1 refl in
      let grows : shown_number r ≤ shown' = le_trans grows1 grows2 in
      let pair1 : ℕ = number_in p.slots (named_slot c1 c1.read.pair) in (
        w,
        gives,
        refl,
        subst HasOne (sym holds') tt,
        tt,
        subst (λ (cs : List (ℕ × T)). RuleAt t (stepped s i new id cs w gives)) (sym holds') (
          record {
            put = p';
            get = g;
            writer = r.writer;
            reader = r.reader;
            core = d;
            in_table = subst (λ (ws : List ℕ). InTable ws homes' g.at_hand.value d) words
                (table_finishes (set s.words i new) homes' g.at_hand.value c1 c.item (bit_number c.write.pair) table1 refl refl);
            in_views = record {
              writer_at = refl;
              write_is = place_is;
              item_is = item_is;
              remembered_are = λ j. with_side (r.in_views.remembered_are j) (place_is j).pair (place_is j).index;
              latest_is = ap (λ (z : Slot). z.pair) place_is;
              reader_at = r.in_views.reader_at;
              read_is = r.in_views.read_is;
              chosen_is = r.in_views.chosen_is;
            };
            noise = r.noise;
            shown = (tt, r.shown.1);
            sound = subst (IsSound d) item_is (sound_finishes c1 last sound1 refl);
            numbered = subst (λ (z : T). IsNumbered o p.written p.slots z d) item_is
                (numbered_finishes o p.written p.slots c1 last c.item numbered1 sound1 refl);
            settled = settled_finishes o p.written p.slots g.answers g.told c1 last c.item numbered1 sound1 refl
                (settled_stores o p.written p.slots g.answers g.told c last c.item r.numbered r.settled);
            counted = record {
              writes = has_finished 0 (p.accesses + 1) (p.events ++ W4 ∷ []) (omega arith)
                  (wrote p.accesses p.events (W4 ∷ []) r.counted.writes refl);
              reads = r.counted.reads;
            };
            openings = r.openings;
            lawful = r.lawful;
            leads = leads_finishes (p.events ++ W4 ∷ []) g.events (opening_state o o) c1
                (leads_stores p.events g.events (opening_state o o) c r.leads filled) refl;
            now = t;
            timed = timed_finishes o p1 g t t 0 shown1 shown' pair1 writer.W4 c.reader (le_refl t) grows2
                (r.numbered.under_way (subst IsUnderWay (sym filled) tt)) refl
                (timed_stores o p g r.now t (shown_number r) shown1 (pair_number r) pair1 c.writer c.reader lt grows1
                (number_grows o p.written p.slots c last c.item c.read.pair r.numbered) filled r.timed);
            known = first_ended g.known p.written p1.times t (first_passed g.known p.written p.times t r.known);
            each_seat = seats_stay (Sees o p' g shown' t r.writer r.reader) s.views id w (refl, own)
                (λ j v other e. sight_put o p p' g (shown_number r) shown' r.now t r.writer r.writer r.reader j
                (λ z. other (z ∙ sym own)) on
                (λ z st. stands_more o p.written (shown_number r) shown' grows z st)
                (λ h k. heeded_ended h p.written p1.times t shown1 shown' grows2
                (heeded_passed h p.written p.times t (shown_number r) shown1 grows1 k)) v (r.each_seat j v e));
          },
          le_refl t,
        ),
        λ q is' holds''. let also : p ≡ q = ap (writer_or p) (sym is ∙ is') in (
          t,
          subst (λ (z : WriterNotes T). z.times.clock < t) also (put_on r t lt),
          ap rest holds',
          refl,
          λ _ j. Writer (finished_with (stored_by (also j) t) 0 t),
          λ ne. absurd (ne (subst (λ (z : WriterNotes T). bit_number z.slot.pair ≡ bit_number z.latest) also last_pair)),
        ),
      )

  -- either form of it, by whether the pair that is written is the one that `latest` names
  pub stores_on_at : (s : St) (r : Rule s) (t : ℕ) → r.now < t → (slots id : ℕ) (me : M) (i new : ℕ) → id ≡ r.writer → me.0 ≡ Writer r.put →
      me.1 ≡ (slot_number r.put.slot, r.put.item.value) ∷ [] → r.put.stage ≡ writer.W3 → i ≡ 2 + bit_number r.put.slot.pair →
      new ≡ bit_number r.put.slot.index
      → (w : V) × (a : Act T) × (clock_of w ≡ t) × Proper me.1 a × Valid s.homes me.1 a × RuleAt t (stepped s i new id me.1 w a)
      × stores_on (step slots i new 0 none) me new (w, carried_after me.1 a)
  stores_on_at s r t lt slots id me i new own is holds stage word to = ⊎_elim
      (λ (e : bit_number r.put.slot.pair ≡ bit_number r.put.latest). stores_last_at s r t lt slots id me i new own is holds stage word to e)
      (λ (ne : bit_number r.put.slot.pair ≢ bit_number r.put.latest).
      let x = stores_at s r t lt slots id me i new own is holds stage word to in (
        x.0,
        x.1,
        x.2,
        x.3,
        x.4,
        x.5,
        λ q is' holds'.
            let d = x.6 q is' holds' in
            let also : r.put ≡ q = ap (writer_or r.put) (sym is ∙ is') in (
              d.0,
              d.1,
              d.3,
              d.4,
              λ e. absurd (ne (subst (λ (z : WriterNotes T). bit_number z.slot.pair ≡ bit_number z.latest) (sym also) e)),
              λ _. d.2,
            ),
      ))
      (cases_eq (bit_number r.put.slot.pair) (bit_number r.put.latest))

  pub stores_ok : (slots id : ℕ) (me : M) (p : WriterNotes T) (i new : ℕ) → me.0 ≡ Writer p → me.1
      ≡ (slot_number p.slot, p.item.value) ∷ [] → p.stage ≡ writer.W3 → i ≡ 2 + bit_number p.slot.pair → new ≡ bit_number p.slot.index
      → Allows Rule slots id me i (λ _. new) (λ _. stores_on (step slots i new 0 none) me new)
  stores_ok slots id me p i new is holds stage word to s r _ at _ =
      let known = subst (Sees o r.put r.get (shown_number r) r.now r.writer r.reader id) is (r.each_seat id me.0 at) in
      let h = subst (λ (q : WriterNotes T). (me.0 ≡ Writer q) × (me.1 ≡ (slot_number q.slot, q.item.value) ∷ []) × (q.stage ≡ writer.W3)
      × (i ≡ 2 + bit_number q.slot.pair) × (new ≡ bit_number q.slot.index)) known.0 (is, holds, stage, word, to) in
      let x = stores_on_at s r (next_time r) (next_on r) slots id me i new known.1 h.0 h.1 h.2 h.3 h.4 in (x.0, x.1, x.4, x.5.0, x.6)

  -- W5 names the pair, so the newest number is that of the write itself: what a seat has seen stays below it.
  pub finishes_at : (count : ℕ) → count ≤ 1 → (s : St) (r : Rule s) (t : ℕ) → r.now < t → (slots id : ℕ) (me : M) (new : ℕ) → id ≡ r.writer
      → me.0 ≡ Writer r.put → r.put.stage ≡ writer.W4 → new ≡ bit_number r.put.slot.pair
      → (w : V) × (a : Act T) × (clock_of w ≡ t) × Proper me.1 a × Valid s.homes me.1 a × RuleAt t (stepped s 0 new id me.1 w a)
      × finishes_counting count (step slots 0 new 0 none) me new (w, carried_after me.1 a)
  finishes_at count few s r t lt slots id me new own is stage to =
      let p : WriterNotes T = r.put in let g : ReaderNotes T = r.get in let c : Core T = r.core in let last : T = p.finished.value in
      let stored : c.writer ≡ writer.W4 = r.in_views.writer_at ∙ stage in
      let on : r.now ≤ t = omega arith in
      let p' : WriterNotes T = finished_with p count t in let w : V = Writer p' in let d : Core T = after_write writer.W4 c.item c in
      let place_is : c.write ≡ p.slot = r.in_views.write_is in let item_is : c.item ≡ p.item.value = r.in_views.item_is in
      let shown' : ℕ = number_in p.slots (latest_slot d) in
      let grows = shown_grows o p.written p.slots c last c.item r.numbered r.sound stored in (
        w,
        keeps,
        refl,
        tt,
        tt,
        (
          record {
            put = p';
            get = g;
            writer = r.writer;
            reader = r.reader;
            core = d;
            in_table = table_finishes s.words s.homes g.at_hand.value c c.item new r.in_table stored
                (to ∙ ap (λ (z : Slot). bit_number z.pair) (sym place_is));
            in_views = record {
              writer_at = refl;
              write_is = place_is;
              item_is = item_is;
              remembered_are = r.in_views.remembered_are;
              latest_is = ap (λ (z : Slot). z.pair) place_is;
              reader_at = r.in_views.reader_at;
              read_is = r.in_views.read_is;
              chosen_is = r.in_views.chosen_is;
            };
            noise = r.noise;
            shown = (tt, r.shown.1);
            sound = subst (IsSound d) item_is (sound_finishes c last r.sound stored);
            numbered = subst (λ (z : T). IsNumbered o p.written p.slots z d) item_is
                (numbered_finishes o p.written p.slots c last c.item r.numbered r.sound stored);
            settled = settled_finishes o p.written p.slots g.answers g.told c last c.item r.numbered r.sound stored r.settled;
            counted = record { writes = has_finished count p.accesses p.events few r.counted.writes; reads = r.counted.reads };
            openings = r.openings;
            lawful = r.lawful;
            leads = leads_finishes p.events g.events (opening_state o o) c r.leads stored;
            now = t;
            timed = timed_finishes o p g r.now t count (shown_number r) shown' (pair_number r) c.writer c.reader on grows
                (r.numbered.under_way (subst IsUnderWay (sym stored) tt)) stored r.timed;
            known = first_ended g.known p.written p.times t r.known;
            each_seat = seats_stay (Sees o p' g shown' t r.writer r.reader) s.views id w (refl, own)
                (λ j v other e. sight_put o p p' g (shown_number r) shown' r.now t r.writer r.writer r.reader j
                (λ z. other (z ∙ sym own)) on
                (λ z st. stands_more o p.written (shown_number r) shown' grows z st)
                (λ h. heeded_ended h p.written p.times t (shown_number r) shown' grows) v (r.each_seat j v e));
          },
          le_refl t,
        ),
        λ q is'. let also : p ≡ q = ap (writer_or p) (sym is ∙ is') in (
          t,
          subst (λ (z : WriterNotes T). z.times.clock < t) also (put_on r t lt),
          (λ j. Writer (finished_with (also j) count t)),
          refl,
          refl,
        ),
      )

  pub finishes_ok : (slots id : ℕ) (me : M) (p : WriterNotes T) (new : ℕ) → me.0 ≡ Writer p → p.stage ≡ writer.W4 →
      new ≡ bit_number p.slot.pair → Allows Rule slots id me 0 (λ _. new) (λ _. finishes (step slots 0 new 0 none) me new)
  finishes_ok slots id me p new is stage to s r _ at _ =
      let known = subst (Sees o r.put r.get (shown_number r) r.now r.writer r.reader id) is (r.each_seat id me.0 at) in
      let h = subst (λ (q : WriterNotes T). (me.0 ≡ Writer q) × (q.stage ≡ writer.W4) × (new ≡ bit_number q.slot.pair))
      known.0 (is, stage, to) in
      let x = finishes_at 1 (le_refl 1) s r (next_time r) (next_on r) slots id me new known.1 h.0 h.1 h.2 in (x.0, x.1, x.4, x.5.0, x.6)
