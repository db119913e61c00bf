-- R3 to R5 keep the rule: the reader takes the slot of its pair, and its answer is a write that no finished one has replaced.
use Rattle.std.proofs.Common.{◌≡◌, ℕ, ◌+◌, ◌<◌, Bool, Some, List, [], ◌∷◌, length, get_or, set, sym, refl, ap, ◌∙◌, subst, arith, ◌≤◌}
use Rattle.std.proofs.Common.{le_refl}
use mathlib.Core.Option.{none}
use lib.Seq.{set-get_or}
use Rattle.atomic_table.specs.Table.{State, Me, step, Act, takes, stepped, carried_after, Allows, Valid}
use Rattle.four_slot_core.specs.declared.state.Slot.{Slot}
use Rattle.four_slot_core.specs.declared.state.State.{State as Core}
use Rattle.four_slot_core.specs.declared.state.ReaderStage.TheVariants as reader
use Rattle.four_slot_core.specs.declared.event.ReadEvent.TheVariants.{R3, R4, R5}
use Rattle.four_slot_core.specs.Events.{side, record_in, slot_with, bit_number, slot_number, opening_state}
use Rattle.four_slot_core.specs.Invariant.{latest_slot}
use Rattle.four_slot_core.specs.Freshness.{IsBegun}
use Rattle.cell_contract.specs.Running.{IsAnswer, Rising, snap}
use Rattle.cell_contract.specs.Intervals.{AreHeeded, IsNextAnswer}
use Rattle.cell_contract.specs.Acts.{Proper}
use Rattle.cell_contract.specs.declared.times.Known.{Known}
use Rattle.cell_four_slot.specs.declared.notes.WriterNotes.{WriterNotes}
use Rattle.cell_four_slot.specs.declared.notes.ReaderNotes.{ReaderNotes}
use Rattle.cell_four_slot.specs.Steps.{FourSlotSight, got_by, takes as takes_slot, clock_of, HasAnswered}
use Rattle.cell_contract.specs.declared.sight.Sight.TheVariants.{Reader}
use Rattle.cell_four_slot.specs.Rule.{number_in, named_slot, InTable, IsTimed, Sees, FourSlotRule}
use Rattle.cell_contract.specs.Sights.{reader_or}
use Rattle.cell_contract.proofs.ListLaws.{seats_stay}
use Rattle.cell_four_slot.proofs.Clear.{read_on, word_bit, named_at_home, table_reads}
use Rattle.cell_four_slot.proofs.Fresh.{numbered_read, settled_reads, answers_at, number_below}
use Rattle.cell_four_slot.proofs.Slots.{number_bound}
use Rattle.cell_contract.proofs.Timing.{as_slice, first_all}
use Rattle.cell_four_slot.proofs.Timing.{timed_takes, timed_atomic}
use Rattle.cell_four_slot.proofs.Events.{leads_reads, sound_reads, has_read}
use Rattle.cell_four_slot.proofs.Keeps.Sees.{sight_get, next_time, next_on, get_on}

module _ {T : Type 0} (fits : T → Type 0) (rises : T → T → Type 0) (o : T) where
  abbrev V : Type 0
  V = FourSlotSight T

  abbrev St : Type 0
  St = State T V

  abbrev M : Type 0
  M = Me T V

  abbrev Rule : St → Type 0
  Rule = FourSlotRule fits rises o

  abbrev shown_number : {s : St} → Rule s → ℕ
  shown_number r = number_in r.put.slots (latest_slot r.core)

  abbrev RuleAt : ℕ → St → Type 0
  RuleAt t s = (r : Rule s) × (r.now ≤ t)

  abbrev pair_number : {s : St} → Rule s → ℕ
  pair_number r = number_in r.put.slots (named_slot r.core r.core.read.pair)

  module _ (same : (a : T) → rises a a) (along : (a b c : T) → rises a b → rises b c → rises a c) where
    -- R3 names the slot, and the record stands in it: the writer is in another one. Its number is no less than any that the reader knew,
    -- so the answer rises, and it is one that no write finished before the read has replaced.
    pub takes_at : (s : St) (r : Rule s) (t : ℕ) → r.now < t → (slots id : ℕ) (me : M) (i : ℕ) → id ≡ r.reader → me.0 ≡ Reader r.get →
        me.1 ≡ [] → r.get.stage ≡ reader.R2 → i ≡ 2 + bit_number r.get.slot.pair
        → (w : V) × (a : Act T) × (clock_of w ≡ t) × Proper me.1 a × Valid s.homes me.1 a
        × RuleAt t (stepped s i (get_or s.words i 0) id me.1 w a)
        × takes_slot fits rises (step slots i 0 0 none) me (get_or s.words i 0) (w, carried_after me.1 a)
    takes_at s r t lt slots id me i own is bare stage word =
        let p : WriterNotes T = r.put in let g : ReaderNotes T = r.get in let c : Core T = r.core in let last : T = p.finished.value in
        let said : c.reader ≡ reader.R2 = r.in_views.reader_at ∙ stage in
        let q0 : Bool = c.read.pair in
        let b : Bool = side c.slot q0 in
        let k0 : Slot = named_slot c q0 in
        let x : T = record_in c.records k0 in
        let pair_is : q0 ≡ g.slot.pair = ap (λ (z : Slot). z.pair) r.in_views.read_is in
        let found : get_or s.words i 0 ≡ bit_number b =
        word_bit s.words s.homes g.at_hand.value c q0 i r.in_table (word ∙ ap (λ z. 2 + bit_number z) (sym pair_is)) in
        let on : r.now ≤ t = omega arith in
        let n : ℕ = number_in p.slots k0 in
        let writes : Known T = record { items = p.written; times = p.times } in
        let g' : ReaderNotes T = got_by g b x t n writes in let w : V = Reader g' in let d : Core T = read_on c in
        let pair' : ℕ = number_in p.slots (named_slot d d.read.pair) in
        let here = as_slice (o ∷ p.written) n x (r.numbered.content k0) in
        let homes' = set s.homes (slot_number k0) none in
        let place_is : k0 ≡ slot_with g.slot.pair b = ap (λ z. slot_with z b) pair_is in
        let answer : IsAnswer fits rises o g.answers g.told x = answers_at o fits rises same along p.written g.answers g.told
        (number_in p.slots k0) x r.lawful (r.settled.to_pair (subst IsBegun (sym said) tt)) (r.numbered.content k0) in
        let timed : IsTimed o p g' t c.writer reader.R5 (shown_number r) pair' =
        timed_takes o p g r.now t b x writes (shown_number r) n pair' c.writer c.reader lt
        (number_below o p.written p.slots c last r.numbered r.sound r.shown.0 said)
        (let e : length p.slots ≡ length p.written = r.numbered.counted in
        let l : n ≤ length p.slots = number_bound p.slots k0 in
        let z : n ≤ length p.written = omega arith in
        z) here said r.timed in
        let answered : HasAnswered g g' x = subst (λ (z : T). IsNextAnswer z g.known writes g.numbers g'.numbers g'.answers g'.times x)
        (sym r.openings.1) (record {
          number = n;
          numbers = refl;
          source = here;
          known = r.known;
          atomic = timed_atomic o p g' t (shown_number r) pair' c.writer timed;
        }) in (
          w,
          takes (slot_number k0) x,
          refl,
          tt,
          named_at_home s.words s.homes g.at_hand.value c last q0 r.in_table r.sound said,
          subst (λ (cs : List (ℕ × T)). RuleAt t (stepped s i (get_or s.words i 0) id cs w (takes (slot_number k0) x))) (sym bare) (
            record {
              put = p;
              get = g';
              writer = r.writer;
              reader = r.reader;
              core = d;
              in_table = subst (λ (ws : List ℕ). InTable ws homes' x d) (sym (set-get_or s.words i 0))
                  (table_reads s.words s.homes g.at_hand.value c r.in_table said);
              in_views = record {
                writer_at = r.in_views.writer_at;
                write_is = r.in_views.write_is;
                item_is = r.in_views.item_is;
                remembered_are = r.in_views.remembered_are;
                latest_is = r.in_views.latest_is;
                reader_at = refl;
                read_is = place_is;
                chosen_is = ap (λ (z : Slot). Some z) place_is;
              };
              noise = r.noise;
              shown = (r.shown.0, tt);
              sound = sound_reads c last r.sound said;
              numbered = numbered_read o p.written p.slots c d last refl refl refl refl refl r.numbered;
              settled = settled_reads o p.written p.slots g.answers g.told c last r.numbered r.sound r.shown.0 said r.settled;
              counted = record {
                writes = r.counted.writes;
                reads = has_read g.accesses g.events (R3 ∷ R4 ∷ R5 (snap x) ∷ []) r.counted.reads refl;
              };
              openings = r.openings;
              lawful = r.lawful;
              leads = leads_reads p.events g.events (opening_state o o) c r.leads r.shown.0 said;
              now = t;
              timed = timed;
              known = first_all p.written p.times;
              each_seat = seats_stay (Sees o p g' (shown_number r) t r.writer r.reader) s.views id w (refl, own)
                  (λ j v other e.
                  sight_get o p g g' (shown_number r) r.now t r.writer r.reader r.reader j (λ z. other (z ∙ sym own)) on v
                  (r.each_seat j v e));
            },
            le_refl t,
          ),
          λ q is'. let also : g ≡ q = ap (reader_or g) (sym is ∙ is') in (
            b,
            x,
            found,
            t,
            n,
            writes,
            subst (λ (z : ReaderNotes T). z.times.clock < t) also (get_on r t lt),
            (λ j. Reader (got_by (also j) b x t n writes)),
            ap (λ (cs : List (ℕ × T)). (slot_number k0, x) ∷ cs) bare ∙ (λ j. (
              slot_number ((place_is ∙ ap (λ (z : ReaderNotes T). slot_with z.slot.pair b) also) j),
              x,
            ) ∷ []),
            subst (λ (z : ReaderNotes T). IsAnswer fits rises z.opening.value z.answers z.told x) also
                (subst (λ (z : T). IsAnswer fits rises z g.answers g.told x) (sym r.openings.1) answer),
            subst (λ (z : ReaderNotes T). HasAnswered z (got_by z b x t n writes) x) also answered,
            subst (λ (z : ReaderNotes T). AreHeeded z.heard writes n) also (r.timed.pair_heeded (subst IsBegun (sym said) tt)),
            subst (λ (z : ReaderNotes T). Rising fits rises z.opening.value p.written) also
                (subst (λ (z : T). Rising fits rises z p.written) (sym r.openings.1) r.lawful.1),
          ),
        )

    pub takes_ok : (slots id : ℕ) (me : M) (g : ReaderNotes T) (i : ℕ) → me.0 ≡ Reader g → me.1 ≡ [] → g.stage ≡ reader.R2 →
        i ≡ 2 + bit_number g.slot.pair → Allows Rule slots id me i (λ n. n) (takes_slot fits rises (step slots i 0 0 none) me)
    takes_ok slots id me g i is bare stage word s r _ at _ =
        let known = subst (Sees o r.put r.get (shown_number r) r.now r.writer r.reader id) is (r.each_seat id me.0 at) in
        let h = subst (λ (q : ReaderNotes T). (me.0 ≡ Reader q) × (q.stage ≡ reader.R2) × (i ≡ 2 + bit_number q.slot.pair))
        known.0 (is, stage, word) in
        let x = takes_at s r (next_time r) (next_on r) slots id me i known.1 h.0 bare h.1 h.2 in (x.0, x.1, x.4, x.5.0, x.6)
