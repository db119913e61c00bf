-- W1 to W3 keep the rule: the writer takes a free slot of the pair that is not being read, and puts its record there.
use Rattle.std.proofs.Common.{◌≡◌, ℕ, ◌<◌, Bool, not, List, [], ◌∷◌, ◌++◌, get_or, set, sym, refl, ap, ◌∙◌, subst, arith, ◌≤◌, le_refl}
use Rattle.std.proofs.Common.{le_of_eq}
use mathlib.Core.Option.{none}
use lib.Seq.{set-get_or}
use Rattle.atomic_table.specs.Table.{State, Me, step, Act, takes, stepped, carried_after, Allows, Valid}
use Rattle.four_slot_core.specs.declared.state.Sides.{Sides}
use Rattle.four_slot_core.specs.declared.state.Slot.{Slot}
use Rattle.four_slot_core.specs.declared.state.State.{State as Core}
use Rattle.four_slot_core.specs.declared.state.Stage.TheVariants as writer
use Rattle.four_slot_core.specs.declared.event.WriteEvent.TheVariants.{W1, W2, W3}
use Rattle.four_slot_core.specs.Events.{side, record_in, slot_with, bit_number, slot_number, opening_state}
use Rattle.four_slot_core.specs.Invariant.{latest_slot}
use Rattle.cell_contract.specs.Running.{last_or, snap}
use Rattle.cell_contract.specs.Acts.{Proper}
use Rattle.cell_four_slot.specs.declared.notes.WriterNotes.{WriterNotes}
use Rattle.cell_four_slot.specs.declared.notes.ReaderNotes.{ReaderNotes}
use Rattle.cell_four_slot.specs.Steps.{FourSlotSight, begun_with, begins, clock_of}
use Rattle.cell_contract.specs.declared.sight.Sight.TheVariants.{Writer}
use Rattle.cell_four_slot.specs.Rule.{number_in, named_slot, StandsBy, InTable, IsNumbered, IsSettled, Sees, FourSlotRule}
use Rattle.cell_contract.specs.Sights.{writer_or}
use Rattle.cell_contract.proofs.ListLaws.{rising_snoc, seats_stay}
use Rattle.cell_four_slot.proofs.Clear.{free_slot, begun, word_reading, free_at_home, table_begins}
use Rattle.cell_four_slot.proofs.Fresh.{numbered_begins, stands_longer, shown_same, settled_begins, free_unnamed}
use Rattle.cell_four_slot.proofs.Slots.{number_else}
use Rattle.cell_contract.proofs.Timing.{first_begun, heeded_begun}
use Rattle.cell_four_slot.proofs.Timing.{timed_begins}
use Rattle.cell_four_slot.proofs.Events.{leads_begins, sound_begins, wrote}
use Rattle.cell_four_slot.proofs.Keeps.Sees.{sight_put, next_time, next_on, put_on}

module _ {T : Type 0} (fits : T → Type 0) (rises : T → T → Type 0) (o : T) where
  abbrev V : Type 0
  V = FourSlotSight T

  abbrev St : Type 0
  St = State T V

  abbrev M : Type 0
  M = Me T V

  abbrev Rule : St → Type 0
  Rule = FourSlotRule fits rises o

  abbrev shown_number : {s : St} → Rule s → ℕ
  shown_number r = number_in r.put.slots (latest_slot r.core)

  abbrev RuleAt : ℕ → St → Type 0
  RuleAt t s = (r : Rule s) × (r.now ≤ t)

  abbrev pair_number : {s : St} → Rule s → ℕ
  pair_number r = number_in r.put.slots (named_slot r.core r.core.read.pair)

  -- The slot that the writer takes is free: it isn't the reader's, nor the one that `latest` and `reading` name. So no number that a
  -- seat knows changes, and what each seat has seen still stands.
  pub begins_at : (s : St) (r : Rule s) (t : ℕ) → r.now < t → (slots id : ℕ) (me : M) (items : List T) (x : T) → id ≡ r.writer →
      me.0 ≡ Writer r.put → me.1 ≡ [] → r.put.stage ≡ writer.W5 → items ≡ x ∷ [] → fits x → rises (last_or o r.put.written) x
      → (w : V) × (a : Act T) × (clock_of w ≡ t) × Proper me.1 a × Valid s.homes me.1 a
      × RuleAt t (stepped s 1 (get_or s.words 1 0) id me.1 w a)
      × begins items (step slots 1 0 0 none) me (get_or s.words 1 0) (w, carried_after me.1 a)
  begins_at s r t lt slots id me items x own is bare stage item lawful up =
      let p : WriterNotes T = r.put in let g : ReaderNotes T = r.get in let c : Core T = r.core in let last : T = p.finished.value in
      let idle : c.writer ≡ writer.W5 = r.in_views.writer_at ∙ stage in
      let b : Bool = c.reading in
      let found : get_or s.words 1 0 ≡ bit_number b = word_reading s.words s.homes g.at_hand.value c r.in_table in
      let on : r.now ≤ t = omega arith in
      let p' : WriterNotes T = begun_with p b x t in let w : V = Writer p' in
      let k0 : Slot = free_slot c in
      let place_is : k0 ≡ p'.slot = ap (λ (z : Sides Bool). slot_with (not b) (not (side z (not b)))) r.in_views.remembered_are in
      let y : T = record_in c.records k0 in let d : Core T = begun x c in
      let homes' = set s.homes (slot_number k0) none in
      let shown' : ℕ = number_in p'.slots (latest_slot d) in
      let same : number_in (p.slots ++ k0 ∷ []) (latest_slot d) ≡ shown' =
      ap (λ (z : Slot). number_in (p.slots ++ z ∷ []) (latest_slot d)) place_is in
      let steady : shown_number r ≡ shown' = sym (shown_same o c p.slots last x r.sound) ∙ same in
      let pair' : ℕ = number_in p'.slots (named_slot d d.read.pair) in
      let kept : pair_number r ≡ pair' =
      sym (number_else p.slots k0 (named_slot c c.read.pair) (free_unnamed o c last c.read.pair r.sound))
      ∙ ap (λ (z : Slot). number_in (p.slots ++ z ∷ []) (named_slot d d.read.pair)) place_is in (
        w,
        takes (slot_number k0) y,
        refl,
        tt,
        free_at_home s.words s.homes g.at_hand.value c last r.in_table r.sound idle,
        subst (λ (cs : List (ℕ × T)). RuleAt t (stepped s 1 (get_or s.words 1 0) id cs w (takes (slot_number k0) y))) (sym bare) (
          record {
            put = p';
            get = g;
            writer = r.writer;
            reader = r.reader;
            core = d;
            in_table = subst (λ (ws : List ℕ). InTable ws homes' g.at_hand.value d) (sym (set-get_or s.words 1 0))
                (table_begins s.words s.homes g.at_hand.value c last x r.in_table r.sound idle);
            in_views = record {
              writer_at = refl;
              write_is = place_is;
              item_is = refl;
              remembered_are = r.in_views.remembered_are;
              latest_is = r.in_views.latest_is;
              reader_at = r.in_views.reader_at;
              read_is = r.in_views.read_is;
              chosen_is = r.in_views.chosen_is;
            };
            noise = r.noise;
            shown = (tt, r.shown.1);
            sound = sound_begins c last x r.sound idle;
            numbered = subst (λ (z : Slot). IsNumbered o (p.written ++ x ∷ []) (p.slots ++ z ∷ []) last d) place_is
                (numbered_begins o p.written p.slots c last x r.numbered r.sound idle);
            settled = subst (λ (z : Slot). IsSettled o (p.written ++ x ∷ []) (p.slots ++ z ∷ []) g.answers g.told d) place_is
                (settled_begins o p.written p.slots g.answers g.told c last x r.numbered r.sound r.settled);
            counted = record {
              writes = wrote p.accesses p.events (W1 (snap x) ∷ W2 ∷ W3 ∷ []) r.counted.writes refl;
              reads = r.counted.reads;
            };
            openings = r.openings;
            lawful = (r.lawful.0, rising_snoc fits rises o p.written x r.lawful.1 lawful up);
            leads = leads_begins p.events g.events (opening_state o o) c x r.leads idle;
            now = t;
            timed = timed_begins o p g r.now t x b (shown_number r) shown' (pair_number r) pair' c.writer c.reader lt (le_of_eq steady)
                (le_of_eq kept) idle r.timed;
            known = first_begun g.known p.written p.times x t r.known;
            each_seat = seats_stay (Sees o p' g shown' t r.writer r.reader) s.views id w (refl, own)
                (λ j v other e. sight_put o p p' g (shown_number r) shown' r.now t r.writer r.writer r.reader j
                (λ z. other (z ∙ sym own)) on
                (λ z st. subst (λ n. StandsBy n (o ∷ p'.written) z) steady (stands_longer o p.written (x ∷ []) (shown_number r) z st))
                (λ h. heeded_begun h p.written p.times x t (shown_number r) shown' (le_of_eq steady)) v (r.each_seat j v e));
          },
          le_refl t,
        ),
        λ q z is' item'. let also : p ≡ q = ap (writer_or p) (sym is ∙ is') in let one : x ≡ z = ap (last_or x) (sym item ∙ item') in (
          b,
          y,
          found,
          t,
          subst (λ (z : WriterNotes T). z.times.clock < t) also (put_on r t lt),
          (λ i. Writer (begun_with (also i) b (one i) t)),
          ap (λ (cs : List (ℕ × T)). (slot_number k0, y) ∷ cs) bare ∙ (λ i. (
            slot_number ((place_is ∙ ap (λ (q : WriterNotes T). (begun_with q b x t).slot) also) i),
            y,
          ) ∷ []),
        ),
      )

  -- of any seat that sees the writer between two writes
  pub begins_ok : (slots id : ℕ) (me : M) (p : WriterNotes T) (items : List T) (x : T) → me.0 ≡ Writer p → me.1 ≡ [] → p.stage ≡ writer.W5 →
      items ≡ x ∷ [] → fits x → rises (last_or p.opening.value p.written) x
      → Allows Rule slots id me 1 (λ n. n) (begins items (step slots 1 0 0 none) me)
  begins_ok slots id me p items x is bare idle item f up s r _ at _ =
      let known = subst (Sees o r.put r.get (shown_number r) r.now r.writer r.reader id) is (r.each_seat id me.0 at) in
      let h = subst (λ (q : WriterNotes T). (me.0 ≡ Writer q) × (q.stage ≡ writer.W5) × rises (last_or q.opening.value q.written) x)
      known.0 (is, idle, up) in
      let x = begins_at s r (next_time r) (next_on r) slots id me items x known.1 h.0 bare h.1 item f
      (subst (λ (z : T). rises (last_or z r.put.written) x) r.openings.0 h.2) in (x.0, x.1, x.4, x.5.0, x.6)
