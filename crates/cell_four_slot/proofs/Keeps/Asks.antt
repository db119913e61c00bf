-- R1 and R2 keep the rule: the reader loads the pair and stores it, each in a step of its own, or both at one load where the pair stays.
use Rattle.std.proofs.Common.{◌≡◌, ◌≢◌, ℕ, ◌+◌, ◌<◌, Bool, Option, None, Some, List, [], ◌∷◌, ◌++◌, get_or, set, sym, refl, ap, ◌∙◌, subst}
use Rattle.std.proofs.Common.{⊎_elim, arith, ◌≤◌, le_refl}
use mathlib.Core.Option.{none, some, Option as Opt}
use lib.ListN.{get_elem?}
use lib.Seq.{set-get_or}
use Rattle.atomic_table.specs.Table.{State, Me, step, Act, keeps, gives, stepped, carried_after, homes_after, Allows, Valid}
use Rattle.std.proofs.lemmas.Bool.{cases_eq}
use Rattle.four_slot_core.specs.declared.state.Slot.{Slot}
use Rattle.four_slot_core.specs.declared.state.State.{State as Core}
use Rattle.four_slot_core.specs.declared.state.ReaderStage.TheVariants as reader
use Rattle.four_slot_core.specs.declared.event.ReadEvent.TheVariants.{R1}
use Rattle.four_slot_core.specs.Events.{slot_with, bit_number, opening_state, after_read}
use Rattle.four_slot_core.specs.Invariant.{latest_slot, IsSound, IsKept}
use Rattle.cell_contract.specs.Acts.{Proper}
use Rattle.cell_four_slot.specs.declared.notes.WriterNotes.{WriterNotes}
use Rattle.cell_four_slot.specs.declared.notes.ReaderNotes.{ReaderNotes}
use Rattle.cell_four_slot.specs.Steps.{FourSlotSight, asked_by, asks, slot_of_choice, said_with, word_said, asks_counting, says_counting}
use Rattle.cell_four_slot.specs.Steps.{clock_of}
use Rattle.cell_contract.specs.declared.sight.Sight.TheVariants.{Writer, Reader}
use Rattle.cell_four_slot.specs.Rule.{number_in, named_slot, InTable, Sees, FourSlotRule}
use Rattle.cell_contract.specs.Sights.{reader_or}
use Rattle.cell_contract.proofs.ListLaws.{seats_stay}
use Rattle.cell_four_slot.proofs.Clear.{word_latest, word_reading, table_asks, table_says}
use Rattle.cell_four_slot.proofs.Fresh.{numbered_read, settled_asks, settled_says, finished_shown}
use Rattle.cell_four_slot.proofs.Slots.{bit_low}
use Rattle.cell_four_slot.proofs.Timing.{timed_asks, timed_says}
use Rattle.cell_four_slot.proofs.Events.{leads_asks, leads_says, sound_asks, sound_says, has_read, has_said}
use Rattle.cell_four_slot.proofs.Keeps.Sees.{sight_get, act_of, act_rest, act_proper, act_valid, act_homes, next_time, next_on, get_on}

module _ {T : Type 0} (fits : T → Type 0) (rises : T → T → Type 0) (o : T) where
  abbrev V : Type 0
  V = FourSlotSight T

  abbrev St : Type 0
  St = State T V

  abbrev M : Type 0
  M = Me T V

  abbrev Rule : St → Type 0
  Rule = FourSlotRule fits rises o

  abbrev shown_number : {s : St} → Rule s → ℕ
  shown_number r = number_in r.put.slots (latest_slot r.core)

  abbrev RuleAt : ℕ → St → Type 0
  RuleAt t s = (r : Rule s) × (r.now ≤ t)

  abbrev pair_number : {s : St} → Rule s → ℕ
  pair_number r = number_in r.put.slots (named_slot r.core r.core.read.pair)

  -- R1 gives back the slot of the read before and loads `latest`: what it finds is no older than what the reader saw.
  pub asks_at : (s : St) (r : Rule s) (t : ℕ) → r.now < t → (slots id : ℕ) (me : M) → id ≡ r.reader → me.0 ≡ Reader r.get →
      r.get.stage ≡ reader.R5
      → (w : V) × (a : Act T) × (clock_of w ≡ t) × Proper me.1 a × Valid s.homes me.1 a
      × RuleAt t (stepped s 0 (get_or s.words 0 0) id me.1 w a)
      × asks (step slots 0 0 0 none) me (get_or s.words 0 0) (w, carried_after me.1 a)
  asks_at s r t lt slots id me own is stage =
      let p : WriterNotes T = r.put in let g : ReaderNotes T = r.get in let c : Core T = r.core in let last : T = p.finished.value in
      let idle : c.reader ≡ reader.R5 = r.in_views.reader_at ∙ stage in
      let b : Bool = c.latest in let found : get_or s.words 0 0 ≡ bit_number b = word_latest s.words s.homes g.at_hand.value c r.in_table in
      let on : r.now ≤ t = omega arith in
      let g' : ReaderNotes T = asked_by g b t in let w : V = Reader g' in let d : Core T = after_read reader.R5 c in (
        w,
        keeps,
        refl,
        tt,
        tt,
        (
          record {
            put = p;
            get = g';
            writer = r.writer;
            reader = r.reader;
            core = d;
            in_table = subst (λ (ws : List ℕ). InTable ws s.homes g.at_hand.value d) (sym (set-get_or s.words 0 0))
                (table_asks s.words s.homes g.at_hand.value c r.in_table idle);
            in_views = record {
              writer_at = r.in_views.writer_at;
              write_is = r.in_views.write_is;
              item_is = r.in_views.item_is;
              remembered_are = r.in_views.remembered_are;
              latest_is = r.in_views.latest_is;
              reader_at = refl;
              read_is = ap (λ (z : Slot). slot_with b z.index) r.in_views.read_is;
              chosen_is = r.in_views.chosen_is;
            };
            noise = r.noise;
            shown = (r.shown.0, tt);
            sound = sound_asks c last r.sound idle;
            numbered = numbered_read o p.written p.slots c d last refl refl refl refl refl r.numbered;
            settled = settled_asks o p.written p.slots g.answers g.told c r.settled;
            counted = record { writes = r.counted.writes; reads = has_read g.accesses g.events (R1 ∷ []) r.counted.reads refl };
            openings = r.openings;
            lawful = r.lawful;
            leads = leads_asks p.events g.events (opening_state o o) c r.leads idle;
            now = t;
            timed = timed_asks o p g r.now t b (shown_number r) (pair_number r) c.writer c.reader lt
                (finished_shown o p.written p.slots c last r.numbered r.sound r.shown.0) idle r.timed;
            known = r.known;
            each_seat = seats_stay (Sees o p g' (shown_number r) t r.writer r.reader) s.views id w (refl, own)
                (λ j v other e.
                sight_get o p g g' (shown_number r) r.now t r.writer r.reader r.reader j (λ z. other (z ∙ sym own)) on v
                (r.each_seat j v e));
          },
          le_refl t,
        ),
        λ q is'. let also : g ≡ q = ap (reader_or g) (sym is ∙ is') in (
          b,
          found,
          t,
          subst (λ (z : ReaderNotes T). z.times.clock < t) also (get_on r t lt),
          (λ j. Reader (asked_by (also j) b t)),
          refl,
        ),
      )

  -- `reading` has the pair already, where `latest` is what the last R2 stored
  said_already : (c : Core T) (last : T) (ch : Option Slot) → IsSound c last → c.reader ≡ reader.R5 → c.chosen ≡ ch →
      bit_number c.latest ≡ word_said ch → bit_number c.latest ≡ bit_number c.reading
  said_already c last None sound idle is e = let low = bit_low c.latest in absurd (omega arith)
  said_already c last (Some k) sound idle is e = e ∙ ap bit_number (sym (sound.kept k (subst IsKept (sym idle) tt) is))

  -- what a store that is left out would find: the reader's `reading`, and the writer's `latest`
  pub said_there : (s : St) (r : Rule s) (id : ℕ) (g : ReaderNotes T) → get_elem? s.views id ≡ some (Reader g) → g.stage ≡ reader.R5 →
      get_or s.words 0 0 ≡ word_said g.chosen → get_or s.words 1 0 ≡ get_or s.words 0 0
  said_there s r id g at stage said =
      let c : Core T = r.core in
      let same : g ≡ r.get = (r.each_seat id (Reader g) at).0 in
      let idle : c.reader ≡ reader.R5 = r.in_views.reader_at ∙ (ap (λ (z : ReaderNotes T). z.stage) (sym same) ∙ stage) in
      let found : get_or s.words 0 0 ≡ bit_number c.latest = word_latest s.words s.homes r.get.at_hand.value c r.in_table in
      word_reading s.words s.homes r.get.at_hand.value c r.in_table
      ∙ (sym (said_already c r.put.finished.value g.chosen r.sound idle
      (r.in_views.chosen_is ∙ ap (λ (z : ReaderNotes T). z.chosen) (sym same)) (sym found ∙ said)) ∙ sym found)

  pub shown_there : (s : St) (r : Rule s) (id : ℕ) (p : WriterNotes T) → get_elem? s.views id ≡ some (Writer p) →
      get_or s.words 0 0 ≡ bit_number p.latest
  shown_there s r id p at =
      let same : p ≡ r.put = (r.each_seat id (Writer p) at).0 in
      word_latest s.words s.homes r.get.at_hand.value r.core r.in_table
      ∙ ap bit_number (r.in_views.latest_is ∙ ap (λ (z : WriterNotes T). z.latest) (sym same))

  -- R1 and R2 at one load, where R2's store would change nothing
  pub asks_said_at : (count : ℕ) → count ≤ 1 → (s : St) (r : Rule s) (t : ℕ) → r.now < t → (slots id : ℕ) (me : M) → id ≡ r.reader →
      me.0 ≡ Reader r.get → me.1 ≡ slot_of_choice r.get.chosen r.get.at_hand.value → r.get.stage ≡ reader.R5 →
      get_or s.words 0 0 ≡ word_said r.get.chosen
      → (w : V) × (a : Act T) × (clock_of w ≡ t) × Proper me.1 a × Valid s.homes me.1 a
      × RuleAt t (stepped s 0 (get_or s.words 0 0) id me.1 w a)
      × asks_counting count (step slots 0 0 0 none) me (get_or s.words 0 0) (w, carried_after me.1 a)
  asks_said_at count few s r t lt slots id me own is holds stage said =
      let p : WriterNotes T = r.put in let g : ReaderNotes T = r.get in let c : Core T = r.core in let last : T = p.finished.value in
      let idle : c.reader ≡ reader.R5 = r.in_views.reader_at ∙ stage in
      let b : Bool = c.latest in let found : get_or s.words 0 0 ≡ bit_number b = word_latest s.words s.homes g.at_hand.value c r.in_table in
      let same : bit_number b ≡ get_or s.words 1 0 = said_already c last g.chosen r.sound idle r.in_views.chosen_is (sym found ∙ said)
      ∙ sym (word_reading s.words s.homes g.at_hand.value c r.in_table) in
      let words : set s.words 1 (bit_number b) ≡ set s.words 0 (get_or s.words 0 0) =
      ap (set s.words 1) same ∙ (set-get_or s.words 1 0 ∙ sym (set-get_or s.words 0 0)) in
      let on : r.now ≤ t = omega arith in
      let g1 : ReaderNotes T = asked_by g b t in let c1 : Core T = after_read reader.R5 c in
      let g' : ReaderNotes T = said_with g1 count t in let w : V = Reader g' in let d : Core T = after_read reader.R1 c1 in (
        w,
        act_of g.chosen,
        refl,
        subst (λ (cs : List (ℕ × T)). Proper cs (act_of g.chosen)) (sym holds) (act_proper g.chosen g.at_hand.value),
        subst (λ (cs : List (ℕ × T)). Valid s.homes cs (act_of g.chosen)) (sym holds) (act_valid s.homes g.chosen g.at_hand.value),
        subst (λ (cs : List (ℕ × T)). RuleAt t (stepped s 0 (get_or s.words 0 0) id cs w (act_of g.chosen))) (sym holds)
            (subst (λ (hs : List (Opt T)). RuleAt t
            (record { words = set s.words 0 (get_or s.words 0 0); homes = hs; views = set s.views id w }))
            (act_homes s.homes g.chosen g.at_hand.value) (
              record {
                put = p;
                get = g';
                writer = r.writer;
                reader = r.reader;
                core = d;
                in_table = subst (λ (ws : List ℕ). InTable ws
                    (homes_after s.homes (slot_of_choice g.chosen g.at_hand.value) gives) g.at_hand.value d)
                    words (table_says s.words s.homes g.at_hand.value c1 g.chosen (bit_number b)
                    (table_asks s.words s.homes g.at_hand.value c r.in_table idle) refl r.in_views.chosen_is refl);
                in_views = record {
                  writer_at = r.in_views.writer_at;
                  write_is = r.in_views.write_is;
                  item_is = r.in_views.item_is;
                  remembered_are = r.in_views.remembered_are;
                  latest_is = r.in_views.latest_is;
                  reader_at = refl;
                  read_is = ap (λ (z : Slot). slot_with b z.index) r.in_views.read_is;
                  chosen_is = r.in_views.chosen_is;
                };
                noise = r.noise;
                shown = (r.shown.0, tt);
                sound = sound_says c1 last (sound_asks c last r.sound idle) refl;
                numbered = numbered_read o p.written p.slots c d last refl refl refl refl refl r.numbered;
                settled = settled_says o p.written p.slots g.answers g.told c1 refl
                    (settled_asks o p.written p.slots g.answers g.told c r.settled);
                counted = record {
                  writes = r.counted.writes;
                  reads = has_said count (g.accesses + 1) (g.events ++ R1 ∷ []) few
                      (has_read g.accesses g.events (R1 ∷ []) r.counted.reads refl);
                };
                openings = r.openings;
                lawful = r.lawful;
                leads = leads_says p.events (g.events ++ R1 ∷ []) (opening_state o o) c1
                    (leads_asks p.events g.events (opening_state o o) c r.leads idle) refl;
                now = t;
                timed = timed_says o p g1 t t count (shown_number r) (shown_number r) c.writer reader.R1 (le_refl t) refl
                    (timed_asks o p g r.now t b (shown_number r) (pair_number r) c.writer c.reader lt
                    (finished_shown o p.written p.slots c last r.numbered r.sound r.shown.0) idle r.timed);
                known = r.known;
                each_seat = seats_stay (Sees o p g' (shown_number r) t r.writer r.reader) s.views id w (refl, own)
                    (λ j v other e.
                    sight_get o p g g' (shown_number r) r.now t r.writer r.reader r.reader j (λ z. other (z ∙ sym own)) on v
                    (r.each_seat j v e));
              },
              le_refl t,
            )),
        λ q is' holds'.
            let also : g ≡ q = ap (reader_or g) (sym is ∙ is') in (
              b,
              found,
              t,
              subst (λ (z : ReaderNotes T). z.times.clock < t) also (get_on r t lt),
              λ _. (
                (λ j. Reader (said_with (asked_by (also j) b t) count t)),
                ap (λ (cs : List (ℕ × T)). carried_after cs (act_of g.chosen)) holds ∙ act_rest g.chosen g.at_hand.value,
              ),
              λ ne. absurd (ne (said ∙ ap (λ (z : ReaderNotes T). word_said z.chosen) also)),
            ),
      )

  -- either form of it, by whether `reading` names the loaded pair already
  pub asks_on_at : (count : ℕ) → count ≤ 1 → (s : St) (r : Rule s) (t : ℕ) → r.now < t → (slots id : ℕ) (me : M) → id ≡ r.reader →
      me.0 ≡ Reader r.get → me.1 ≡ slot_of_choice r.get.chosen r.get.at_hand.value → r.get.stage ≡ reader.R5
      → (w : V) × (a : Act T) × (clock_of w ≡ t) × Proper me.1 a × Valid s.homes me.1 a
      × RuleAt t (stepped s 0 (get_or s.words 0 0) id me.1 w a)
      × asks_counting count (step slots 0 0 0 none) me (get_or s.words 0 0) (w, carried_after me.1 a)
  asks_on_at count few s r t lt slots id me own is holds stage = ⊎_elim
      (λ (e : get_or s.words 0 0 ≡ word_said r.get.chosen). asks_said_at count few s r t lt slots id me own is holds stage e)
      (λ (ne : get_or s.words 0 0 ≢ word_said r.get.chosen).
      let x = asks_at s r t lt slots id me own is stage in (
        x.0,
        x.1,
        x.2,
        x.3,
        x.4,
        x.5,
        λ q is' holds'.
            let d = x.6 q is' in
            let also : r.get ≡ q = ap (reader_or r.get) (sym is ∙ is') in
            (d.0, d.1, d.2, d.3, λ e. absurd (ne (e ∙ ap (λ (z : ReaderNotes T). word_said z.chosen) (sym also))), λ _. (d.4, d.5)),
      ))
      (cases_eq (get_or s.words 0 0) (word_said r.get.chosen))

  pub asks_ok : (count : ℕ) → count ≤ 1 → (slots id : ℕ) (me : M) (g : ReaderNotes T) → me.0 ≡ Reader g →
      me.1 ≡ slot_of_choice g.chosen g.at_hand.value → g.stage ≡ reader.R5 →
      Allows Rule slots id me 0 (λ n. n) (asks_counting count (step slots 0 0 0 none) me)
  asks_ok count few slots id me g is holds stage s r _ at _ =
      let known = subst (Sees o r.put r.get (shown_number r) r.now r.writer r.reader id) is (r.each_seat id me.0 at) in
      let h = subst (λ (q : ReaderNotes T). (me.0 ≡ Reader q) × (me.1 ≡ slot_of_choice q.chosen q.at_hand.value) × (q.stage ≡ reader.R5))
      known.0 (is, holds, stage) in
      let x = asks_on_at count few s r (next_time r) (next_on r) slots id me known.1 h.0 h.1 h.2 in (x.0, x.1, x.4, x.5.0, x.6)

  -- R2 stores the pair: from now on the writer keeps out of it, and its slot can only get newer.
  pub says_at : (count : ℕ) → count ≤ 1 → (s : St) (r : Rule s) (t : ℕ) → r.now < t → (slots id : ℕ) (me : M) (new : ℕ) → id ≡ r.reader →
      me.0 ≡ Reader r.get → me.1 ≡ slot_of_choice r.get.chosen r.get.at_hand.value → r.get.stage ≡ reader.R1 →
      new ≡ bit_number r.get.slot.pair
      → (w : V) × (a : Act T) × (clock_of w ≡ t) × Proper me.1 a × Valid s.homes me.1 a × RuleAt t (stepped s 1 new id me.1 w a)
      × says_counting count (step slots 1 new 0 none) me new (w, carried_after me.1 a)
  says_at count few s r t lt slots id me new own is holds stage to =
      let p : WriterNotes T = r.put in let g : ReaderNotes T = r.get in let c : Core T = r.core in let last : T = p.finished.value in
      let loaded : c.reader ≡ reader.R1 = r.in_views.reader_at ∙ stage in
      let on : r.now ≤ t = omega arith in
      let g' : ReaderNotes T = said_with g count t in let w : V = Reader g' in let d : Core T = after_read reader.R1 c in (
        w,
        act_of g.chosen,
        refl,
        subst (λ (cs : List (ℕ × T)). Proper cs (act_of g.chosen)) (sym holds) (act_proper g.chosen g.at_hand.value),
        subst (λ (cs : List (ℕ × T)). Valid s.homes cs (act_of g.chosen)) (sym holds) (act_valid s.homes g.chosen g.at_hand.value),
        subst (λ (cs : List (ℕ × T)). RuleAt t (stepped s 1 new id cs w (act_of g.chosen))) (sym holds)
            (subst (λ (hs : List (Opt T)). RuleAt t (record { words = set s.words 1 new; homes = hs; views = set s.views id w }))
            (act_homes s.homes g.chosen g.at_hand.value) (
              record {
                put = p;
                get = g';
                writer = r.writer;
                reader = r.reader;
                core = d;
                in_table = table_says s.words s.homes g.at_hand.value c g.chosen new r.in_table loaded r.in_views.chosen_is
                    (to ∙ ap (λ (z : Slot). bit_number z.pair) (sym r.in_views.read_is));
                in_views = record {
                  writer_at = r.in_views.writer_at;
                  write_is = r.in_views.write_is;
                  item_is = r.in_views.item_is;
                  remembered_are = r.in_views.remembered_are;
                  latest_is = r.in_views.latest_is;
                  reader_at = refl;
                  read_is = r.in_views.read_is;
                  chosen_is = r.in_views.chosen_is;
                };
                noise = r.noise;
                shown = (r.shown.0, tt);
                sound = sound_says c last r.sound loaded;
                numbered = numbered_read o p.written p.slots c d last refl refl refl refl refl r.numbered;
                settled = settled_says o p.written p.slots g.answers g.told c loaded r.settled;
                counted = record { writes = r.counted.writes; reads = has_said count g.accesses g.events few r.counted.reads };
                openings = r.openings;
                lawful = r.lawful;
                leads = leads_says p.events g.events (opening_state o o) c r.leads loaded;
                now = t;
                timed = timed_says o p g r.now t count (shown_number r) (pair_number r) c.writer c.reader on loaded r.timed;
                known = r.known;
                each_seat = seats_stay (Sees o p g' (shown_number r) t r.writer r.reader) s.views id w (refl, own)
                    (λ j v other e.
                    sight_get o p g g' (shown_number r) r.now t r.writer r.reader r.reader j (λ z. other (z ∙ sym own)) on v
                    (r.each_seat j v e));
              },
              le_refl t,
            )),
        λ q is' holds'.
            let also : g ≡ q = ap (reader_or g) (sym is ∙ is') in (
              t,
              subst (λ (z : ReaderNotes T). z.times.clock < t) also (get_on r t lt),
              (λ j. Reader (said_with (also j) count t)),
              ap (λ (cs : List (ℕ × T)). carried_after cs (act_of g.chosen)) holds ∙ act_rest g.chosen g.at_hand.value,
              refl,
            ),
      )

  pub says_ok : (count : ℕ) → count ≤ 1 → (slots id : ℕ) (me : M) (g : ReaderNotes T) (new : ℕ) → me.0 ≡ Reader g →
      me.1 ≡ slot_of_choice g.chosen g.at_hand.value → g.stage ≡ reader.R1 → new ≡ bit_number g.slot.pair →
      Allows Rule slots id me 1 (λ _. new) (λ _. says_counting count (step slots 1 new 0 none) me new)
  says_ok count few slots id me g new is holds stage to s r _ at _ =
      let known = subst (Sees o r.put r.get (shown_number r) r.now r.writer r.reader id) is (r.each_seat id me.0 at) in
      let h = subst (λ (q : ReaderNotes T). (me.0 ≡ Reader q) × (me.1 ≡ slot_of_choice q.chosen q.at_hand.value) × (q.stage ≡ reader.R1)
      × (new ≡ bit_number q.slot.pair)) known.0 (is, holds, stage, to) in
      let x = says_at count few s r (next_time r) (next_on r) slots id me new known.1 h.0 h.1 h.2 h.3 in (x.0, x.1, x.4, x.5.0, x.6)
