-- Each access tells the notes what it found: after the third the pass holds the slot that it named, and the rule says that the record in it
-- may be the answer.
use Rattle.std.proofs.Common.{rules, arith, ◌≡◌, ◌+◌, ◌∷◌, ◌++◌, [], sym, ap, ◌∙◌, subst, refl, ◌≤◌, le_trans, le_of_lt}
use Rattle.four_slot_core.specs.Events.{slot_with, bit_number, slot_number}
use Rattle.cell_contract.specs.Running.{IsAnswer, last_or, snap}
use Rattle.cell_contract.specs.Intervals.{AreHeeded, IsNextCall, IsNextAnswer}
use Rattle.cell_contract.proofs.ListLaws.{last_snoc}
use Rattle.cell_contract.proofs.OneOrder.{calls_so_far}
use Rattle.cell_contract.specs.CallsSoFar.{AreCallsSoFar}
use Rattle.cell_contract.specs.Sights.{reader_or}
use Rattle.cell_four_slot.specs.Steps.{first_reader, asked_by, said_with, got_by, slot_of_choice, word_said}
use Rattle.cell_four_slot.specs.declared.notes.ReaderNotes.{ReaderNotes}
use Rattle.cell_contract.specs.declared.sight.Sight.TheVariants.{Reader}
use Rattle.four_slot_core.specs.declared.event.ReadEvent.TheVariants.{R1, R2, R3, R4, R5}
use Rattle.cell_four_slot.proofs.Events.{read_joined, at_most_one}
use Rattle.cell_four_slot.proofs.calls.choose.Goals as goal

pub announce-latest-requires-clause-idle : goal.announce-latest-requires-clause-idle
announce-latest-requires-clause-idle g c =
    let get = c.args.get.now in
    let n : ReaderNotes g.row.T.Denot = reader_or (first_reader get.spare.value) get.seat.inner.me.0 in
    (n, (λ i. (get.known i, get.holds i)), get.idle, get.stored)

pub take-index-requires-clause-said : goal.take-index-requires-clause-said
take-index-requires-clause-said g c =
    let get = c.args.get.now in
    let n : ReaderNotes g.row.T.Denot = reader_or (first_reader get.spare.value) get.seat.inner.me.0 in
    let a = c.announce-latest.ensures.announced n get.known get.holds in
    let n2 : ReaderNotes g.row.T.Denot = said_with (asked_by n a.0 a.2) a.4 a.3 in
    let word : c.word_of-word.result ≡ 10 + bit_number a.0 = c.word_of-word.ensures a.0 a.1 in
    (n2, (λ i. (a.9 i, a.10 i)), refl, word)

pub word_of-word-requires : goal.word_of-word-requires
word_of-word-requires g c =
    let get = c.args.get.now in
    let n : ReaderNotes g.row.T.Denot = reader_or (first_reader get.spare.value) get.seat.inner.me.0 in
    let a = c.announce-latest.ensures.announced n get.known get.holds in (a.0, a.1)

pub slot_of-requires : goal.slot_of-requires
slot_of-requires g c =
    let get = c.args.get.now in
    let n : ReaderNotes g.row.T.Denot = reader_or (first_reader get.spare.value) get.seat.inner.me.0 in
    let a = c.announce-latest.ensures.announced n get.known get.holds in
    let n2 : ReaderNotes g.row.T.Denot = said_with (asked_by n a.0 a.2) a.4 a.3 in
    let t = c.take-index.ensures.taken n2 a.9 in (a.0, t.0, a.1, t.2)

pub invariant_of-get : goal.invariant_of-get
invariant_of-get g c =
    let get = c.args.get.now in
    let n : ReaderNotes g.row.T.Denot = reader_or (first_reader get.spare.value) get.seat.inner.me.0 in
    let a = c.announce-latest.ensures.announced n get.known get.holds in
    let n2 : ReaderNotes g.row.T.Denot = said_with (asked_by n a.0 a.2) a.4 a.3 in
    let t = c.take-index.ensures.taken n2 a.9 in let d : ReaderNotes g.row.T.Denot = first_reader get.spare.value in let v = t.7 in
    record {
      known = v ∙ ap (λ z. Reader (reader_or d z)) (sym v);
      idle = ap (λ z. (reader_or d z).stage) v;
      holds = t.8 ∙ (λ i. slot_of_choice {T = g.row.T.Denot} (reader_or d (sym v i)).chosen (reader_or d (sym v i)).at_hand.value);
      stored = a.1 ∙ (λ i. word_said (reader_or d (sym v i)).chosen);
    }

pub returns : goal.returns
returns g c =
    let get = c.args.get.now in
    let n : ReaderNotes g.row.T.Denot = reader_or (first_reader get.spare.value) get.seat.inner.me.0 in
    let a = c.announce-latest.ensures.announced n get.known get.holds in
    let n2 : ReaderNotes g.row.T.Denot = said_with (asked_by n a.0 a.2) a.4 a.3 in
    let t = c.take-index.ensures.taken n2 a.9 in let d : ReaderNotes g.row.T.Denot = first_reader get.spare.value in let v = t.7 in
    let slot : c.slot_of.result ≡ slot_number (slot_with a.0 t.0) = c.slot_of.ensures a.0 t.0 a.1 t.2 in
    let next : IsNextCall n.times (got_by n2 t.0 t.1 t.3 t.4 t.5).times =
    record { begin = a.2; end = t.3; after = a.5; forwards = le_trans a.6 (le_of_lt t.6); begins = refl; ends = refl; clock = refl } in
    let few : a.4 ≤ 1 = at_most_one c.announce-latest.result (word_said n.chosen) a.4 a.7 a.8 in
    let found : c.announce-latest.result ≡ word_said (reader_or d c.take-index.new.seat.inner.me.0).chosen =
    a.1 ∙ (λ i. word_said (reader_or d (sym v i)).chosen) in
    let count : (reader_or d c.take-index.new.seat.inner.me.0).accesses ≡ n.accesses + 1 + a.4 + 1 = ap (λ z. (reader_or d z).accesses) v in
    let same : c.take-index.new.seat.inner.table_id ≡ get.seat.inner.table_id = search rules in record {
      own = (λ i. record { table = same i; opening = (reader_or d (v i)).opening.value }) ∙ c.requires;
      answers = ap (λ z. (reader_or d z).answers) v ∙ (λ i. n.answers ++ (reader_or d (sym v i)).at_hand.value ∷ []);
      told = ap (λ z. (reader_or d z).told) v;
      running = subst (λ (z : g.row.T.Denot × g.row.T.Denot). IsAnswer g.T.Lawful.fits g.T.Lawful.rises z.0 n.answers n.told z.1)
          (λ i. ((c.requires i).opening, (reader_or d (sym v i)).at_hand.value)) t.9;
      accesses = omega arith;
      quiet = λ e. let none : a.4 ≡ 0 = a.7 (found ∙ e) in omega arith;
      moved = λ ne. let one : a.4 ≡ 1 = a.8 (λ e. ne (sym found ∙ e)) in omega arith;
      events = ap (λ z. (reader_or d z).events) v
          ∙ ((λ i. ((n.events ++ R1 ∷ []) ++ R2 ∷ []) ++ R3 ∷ R4 ∷ R5 (snap (reader_or d (sym v i)).at_hand.value) ∷ [])
          ∙ read_joined n.events R1 R2 R3 R4 (R5 (snap (reader_or d c.take-index.new.seat.inner.me.0).at_hand.value)));
      held = t.8 ∙ (λ i. (sym slot i, (reader_or d (sym v i)).at_hand.value) ∷ []);
      chosen = ap (λ z. slot_number (reader_or d z).slot) v ∙ sym slot;
      timed = subst (λ z. IsNextCall n.times (reader_or d z).times) (sym v) next;
      numbered = subst (λ (z : g.row.T.Denot × ReaderNotes g.row.T.Denot). IsNextAnswer z.0 n.known z.1.known n.numbers z.1.numbers
          z.1.answers z.1.times z.1.at_hand.value) (λ i. ((c.requires i).opening, reader_or d (sym v i))) t.10;
      heeds = (
        ap (λ z. (reader_or d z).heard) v,
        subst (λ (z : ReaderNotes g.row.T.Denot). AreHeeded z.heard z.known (last_or 0 z.numbers)) (λ i. reader_or d (sym v i))
            (subst (AreHeeded n.heard t.5) (sym (last_snoc 0 n.numbers t.4)) t.11),
      );
      so_far = subst (λ (z : g.row.T.Denot × ReaderNotes g.row.T.Denot). AreCallsSoFar g.T.Lawful.fits g.T.Lawful.rises z.0 z.1.heard
          z.1.answers z.1.times) (λ i. ((c.requires i).opening, reader_or d (sym v i)))
          (calls_so_far g.T.Lawful.fits g.T.Lawful.rises n.opening.value n.known t.5 n.numbers (n.numbers ++ t.4 ∷ [])
          (n.answers ++ t.1 ∷ []) (got_by n2 t.0 t.1 t.3 t.4 t.5).times t.1 n.heard t.4 t.12 t.10 t.11);
    }
