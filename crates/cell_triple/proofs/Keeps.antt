-- Each step of the triple buffer keeps its rule.
use Rattle.std.proofs.Common.{◌≡◌, ◌≢◌, ℕ, zero, suc, ◌+◌, ◌*◌, ◌%◌, ◌<◌, List, [], ◌∷◌, ◌++◌, length, All, get_or, set, sym, ◌⊎◌, refl, ap}
use Rattle.std.proofs.Common.{◌∙◌, subst, ⊎_elim, inl, inr, arith, length-set, length-append, ◌≤◌, le_trans, le_refl, slice_get, Some}
use mathlib.Core.Option.{Option, none, some, some-injective, some-ne-none}
use lib.ListN.{get_elem?}
use Rattle.atomic_table.specs.Table.{State, Me, step, Act, keeps, takes, gives, chain, rest, stepped, homes_after, put_back, Allows, Splits}
use Rattle.atomic_table.specs.Table.{Joins, opening, Valid, Final, Seen}
use Rattle.atomic_table.proofs.Lists.{at_set, set_here, set_else, set_again, at_snoc}
use Rattle.std.proofs.lemmas.Bool.{cases_eq, cases_lt}
use Rattle.std.specs.declared.snapshot.Snapshot.{Snapshot}
use Rattle.cell_triple.specs.declared.notes.WriterNotes.{WriterNotes}
use Rattle.cell_triple.specs.declared.notes.ReaderNotes.{ReaderNotes}
use Rattle.cell_triple.specs.Steps.{TripleSight}
use Rattle.cell_contract.specs.declared.sight.Sight.TheVariants.{Spent, Told, Writer, Reader, Both}
use Rattle.cell_contract.specs.Acts.{ProperAll}
use Rattle.cell_contract.specs.Running.{last_or, Settled, Stands, Rising, IsAnswer, snap}
use Rattle.cell_contract.specs.Intervals.{IsNextAnswer, AreFirst, AreHeeded, IsHeeded, begun_at, known_as}
use Rattle.cell_contract.specs.declared.times.Dated.{Dated}
use Rattle.cell_contract.specs.declared.times.Known.{Known}
use Rattle.cell_triple.specs.Rule.{IsCounted, IsTimed, Sees, TripleRule}
use Rattle.cell_contract.specs.Sights.{writer_or, reader_or, writer_part, reader_part}
use Rattle.cell_triple.specs.Steps.{first_writer, first_reader, first_sight, put_took, get_took, put_swapped, published, answered}
use Rattle.cell_triple.specs.Steps.{clock_of, looked, looked_by, asked_by, fetched, get_swapped, receipt_for, told_by, hears_of, heard_by}
use Rattle.cell_triple.specs.Steps.{whole_of}
use Rattle.cell_triple.specs.Steps.{HasAnswered, MayAnswer}
use Rattle.cell_contract.proofs.ListLaws.{last_here, last_snoc, settled_more, settled_last, last_stands, stands_more, stands_last, all_each}
use Rattle.cell_contract.proofs.ListLaws.{all_snoc}
use Rattle.cell_contract.proofs.ListLaws.{rising_snoc, last_fits, last_rises, stands_below, seats_stay}
use Rattle.cell_contract.proofs.Timing.{first_begun, first_ended, first_all, heeded_all, heeded_begun, heeded_ended}
use Rattle.cell_triple.proofs.Timing.{timed_puts, timed_looks, timed_asks, timed_fetched, timed_answers, timed_hears, timed_put_taken}
use Rattle.cell_triple.proofs.Timing.{timed_get_taken, timed_starts, timed_atomic}

module _ {T : Type 0} where
  -- what other seats know, where the writer's notes change
  others_put : (o : T) (p p' : WriterNotes T) (g : ReaderNotes T) (t t' w w' r j : ℕ) → j ≢ w → t ≤ t' →
      ((x : T) → Stands x (o ∷ p.written) → Stands x (o ∷ p'.written)) →
      ((h : Known T) → IsHeeded h (known_as p.written p.times) (length p.written) →
      IsHeeded h (known_as p'.written p'.times) (length p'.written)) → (v : TripleSight T) → Sees o p g t w r j v →
      Sees o p' g t' w' r j v
  others_put o p p' g t t' w w' r j other le more heed Spent k = tt
  others_put o p p' g t t' w w' r j other le more heed (Told x) k = (more x.value.item k.0, le_trans k.1 le, heed x.value.writes k.2)
  others_put o p p' g t t' w w' r j other le more heed (Writer q) k = absurd (other k.1)
  others_put o p p' g t t' w w' r j other le more heed (Reader h) k = k
  others_put o p p' g t t' w w' r j other le more heed (Both q h) k = absurd (other k.2)

  -- and where the reader's change
  others_get : (o : T) (p : WriterNotes T) (g g' : ReaderNotes T) (t t' w r r' j : ℕ) → j ≢ r → t ≤ t' → (v : TripleSight T) →
      Sees o p g t w r j v → Sees o p g' t' w r' j v
  others_get o p g g' t t' w r r' j other le Spent k = tt
  others_get o p g g' t t' w r r' j other le (Told x) k = (k.0, le_trans k.1 le, k.2)
  others_get o p g g' t t' w r r' j other le (Writer q) k = k
  others_get o p g g' t t' w r r' j other le (Reader h) k = absurd (other k.1)
  others_get o p g g' t t' w r r' j other le (Both q h) k = absurd (other k.3)

  abbrev pub record_or : T → List (ℕ × T) → T
  record_or d [] = d
  record_or d (x ∷ xs) = x.1

module _ {T : Type 0} (fits : T → Type 0) (rises : T → T → Type 0) (o : T) where
  abbrev V : Type 0
  V = TripleSight T

  abbrev St : Type 0
  St = State T V

  abbrev M : Type 0
  M = Me T V

  abbrev Rule : St → Type 0
  Rule = TripleRule fits rises o

  -- the rule, up to a time
  abbrev pub RuleAt : ℕ → St → Type 0
  RuleAt t s = (r : Rule s) × (r.now ≤ t)

  put_on : (s : St) (r : Rule s) (t : ℕ) → r.now < t → r.put.times.clock < t
  put_on s r t lt = let l : r.put.times.clock ≤ r.now = r.timed.put_clock in omega arith

  get_on : (s : St) (r : Rule s) (t : ℕ) → r.now < t → r.get.times.clock < t
  get_on s r t lt = let l : r.get.times.clock ≤ r.now = r.timed.get_clock in omega arith

  pub puts_at : (s : St) (r : Rule s) (t : ℕ) → r.now < t → (slots id : ℕ) (me : M) (x : T) (new : ℕ) → id ≡ r.writer →
      me.0 ≡ Writer r.put → me.1 ≡ (r.put.slot, x) ∷ [] → r.put.has ≡ 1
      → fits x → rises (last_or o r.put.written) x → new ≡ r.put.slot + 4
      → (w : V) × (a : Act T) × ProperAll me.1 a × Valid s.homes me.1 a × RuleAt t (stepped s 0 new id me.1 w a)
      × put_swapped (step slots 0 new 0 none) me (get_or s.words 0 0) (w, Rattle.atomic_table.specs.Table.carried_after me.1 a)
      × (clock_of w ≡ t)
  puts_at s r t lt slots id me x new own is carried has f g to =
      let n : ℕ = get_or s.words 0 0 in
      let word = r.in_table.word_is in
      let small = r.in_table.small in
      let apart = r.in_table.apart in
      let found : n ≡ r.middle + 4 * r.fresh = ap (λ (ws : List ℕ). get_or ws 0 0) word in
      let m : ℕ = n % 4 in
      let mid : m ≡ r.middle = omega arith in
      let on : r.now ≤ t = omega arith in
      let p' : WriterNotes T = published r.put m x t in
      let w : V = Writer p' in
      let at_slot : List (Option T) = set s.homes r.put.slot (some x) in
      let deep = r.in_table.three in
      let homes' : List (Option T) = set at_slot m none in
      let long : length at_slot ≡ length s.homes = length-set s.homes r.put.slot (some x) in
      let full : get_elem? at_slot m ≡ some (some r.in_middle) =
      set_else s.homes r.put.slot m (some x) (λ e. omega arith) ∙ (ap (get_elem? s.homes) mid ∙ r.in_table.middle_home) in
      let kept : (k : ℕ) → k ≢ r.put.slot → k ≢ m → get_elem? homes' k ≡ get_elem? s.homes k =
      λ k b c. set_else at_slot m k none c ∙ set_else s.homes r.put.slot k (some x) b in
      let last : last_or o p'.written ≡ x = last_snoc o r.put.written x in (
        w,
        chain gives (takes m r.in_middle),
        subst (λ (cs : List (ℕ × T)). ProperAll cs (chain gives (takes m r.in_middle))) (sym carried) (tt, tt),
        subst (λ (cs : List (ℕ × T)). Valid s.homes cs (chain gives (takes m r.in_middle))) (sym carried) (tt, full),
        subst (λ (cs : List (ℕ × T)). RuleAt t (stepped s 0 new id cs w (chain gives (takes m r.in_middle)))) (sym carried) (
          record {
            put = p';
            get = r.get;
            writer = r.writer;
            reader = r.reader;
            middle = r.put.slot;
            fresh = 1;
            in_middle = x;
            in_table = record {
              word_is = ap (λ (ws : List ℕ). set ws 0 new) word ∙ ap (λ (z : ℕ). z ∷ []) to;
              three = length-set at_slot m none ∙ (long ∙ r.in_table.three);
              small = (omega arith, omega arith, omega arith, omega arith);
              apart = ((λ e. omega arith), (λ e. omega arith), λ e. omega arith);
              middle_home = set_else at_slot m r.put.slot none (λ e. omega arith) ∙ set_here s.homes r.put.slot (some x) (omega arith);
              put_home = λ z. absurd (omega arith);
              get_home = λ z. kept r.get.slot (λ e. omega arith) (λ e. omega arith) ∙ r.in_table.get_home z;
            };
            newest = record {
              marked = λ _. sym last;
              unmarked = λ z. absurd (omega arith);
              asked = λ _. refl;
              unread = λ _. let long = length-append r.put.written (x ∷ []) in omega arith;
            };
            openings = r.openings;
            lawful = (r.lawful.0, rising_snoc fits rises o r.put.written x r.lawful.1 f g);
            settled = (
              settled_more (o ∷ r.put.written) (x ∷ []) r.get.answers r.settled.0,
              all_each (λ y. Stands y (o ∷ r.put.written)) (λ y. Stands y (o ∷ p'.written))
                  (λ y. stands_more y (o ∷ r.put.written) (x ∷ [])) r.get.told r.settled.1,
            );
            counted = record {
              swapped =
                  let long = length-append r.put.written (x ∷ []) in
                  let was = r.counted.swapped in
                  omega arith;
              loaded = r.counted.loaded;
            };
            now = t;
            timed = timed_puts o r.put r.get r.now t m x lt r.timed;
            known = first_ended r.get.known p'.written _ t (first_begun r.get.known r.put.written r.put.times x t r.known);
            each_seat = seats_stay (Sees o p' r.get t r.writer r.reader) s.views id w (refl, own)
                (λ j d other e. others_put o r.put p' r.get r.now t r.writer r.writer r.reader j (λ same. other (same ∙ sym own)) on
                (λ y. stands_more y (o ∷ r.put.written) (x ∷ []))
                (λ h k.
                let m : ℕ = length (r.put.written ++ x ∷ []) in
                let long = length-append r.put.written (x ∷ []) in
                let grows : length r.put.written ≤ m = omega arith in
                heeded_ended h p'.written (begun_at r.put.times t) t m m (le_refl m)
                (heeded_begun h r.put.written r.put.times x t (length r.put.written) m grows k)) d (r.each_seat j d e));
          },
          le_refl t,
        ),
        λ q y is' carried'.
            let same : r.put ≡ q = ap (writer_or r.put) (sym is ∙ is') in
            let also : x ≡ y = ap (record_or x) (sym carried ∙ carried') in (
              r.in_middle,
              omega arith,
              t,
              subst (λ (z : WriterNotes T). z.times.clock < t) same (put_on s r t lt),
              (λ i. Writer (published (same i) m (also i) t)),
              ap (λ (cs : List (ℕ × T)). (m, r.in_middle) ∷ rest cs) carried,
            ),
        refl,
      )

  pub puts : (slots id : ℕ) (me : M) (p : WriterNotes T) (x : T) (new : ℕ) → me.0 ≡ Writer p → me.1 ≡ (p.slot, x) ∷ [] → p.has ≡ 1 →
      fits x → rises (last_or p.opening.value p.written) x → new ≡ p.slot + 4
      → Allows Rule slots id me 0 (λ _. new) (put_swapped (step slots 0 new 0 none) me)
  puts slots id me p x new is carried has f g to s r _ at _ =
      let known = subst (Sees o r.put r.get r.now r.writer r.reader id) is (r.each_seat id me.0 at) in
      let h = subst (λ (q : WriterNotes T). (me.0 ≡ Writer q) × (me.1 ≡ (q.slot, x) ∷ []) × (q.has ≡ 1)
      × rises (last_or q.opening.value q.written) x × (new ≡ q.slot + 4)) known.0 (is, carried, has, g, to) in
      let t = puts_at s r (r.now + 1) (omega arith) slots id me x new known.1 h.0 h.1 h.2 f
      (subst (λ (z : T). rises (last_or z r.put.written) x) r.openings.0 h.3) h.4 in
      (t.0, t.1, t.3, t.4.0, t.5)

  -- a step that changes no word, and neither the lists nor the places
  pub put_takes_at : (s : St) (r : Rule s) (slots id : ℕ) (me : M) → get_elem? s.views id ≡ some me.0 →
      id ≡ r.writer → me.0 ≡ Writer r.put →
      me.1 ≡ [] → r.put.has ≡ 0
      → (w : V) × (a : Act T) × ProperAll me.1 a × Valid s.homes me.1 a × RuleAt r.now (stepped s 0 (get_or s.words 0 0) id me.1 w a)
      × put_took (step slots 0 0 0 none) me (get_or s.words 0 0) (w, Rattle.atomic_table.specs.Table.carried_after me.1 a)
  put_takes_at s r slots id me at own is carried has =
      let small = r.in_table.small in
      let apart = r.in_table.apart in
      let deep = r.in_table.three in
      let p : WriterNotes T = r.put in
      let p' : WriterNotes T = record p { has = 1 } in
      let w : V = Writer p' in
      let homes' : List (Option T) = set s.homes p.slot none in
      let kept : (k : ℕ) → k ≢ p.slot → get_elem? homes' k ≡ get_elem? s.homes k = λ k b. set_else s.homes p.slot k none b in (
        w,
        takes p.slot p.opening.value,
        tt,
        r.in_table.put_home has ∙ ap (λ (z : T). some (some z)) (sym r.openings.0),
        (
          record {
            put = p';
            get = r.get;
            writer = r.writer;
            reader = r.reader;
            middle = r.middle;
            fresh = r.fresh;
            in_middle = r.in_middle;
            in_table = record {
              word_is = (λ i. set (r.in_table.word_is i) 0 (get_or (r.in_table.word_is i) 0 0));
              three = length-set s.homes p.slot none ∙ r.in_table.three;
              small = r.in_table.small;
              apart = r.in_table.apart;
              middle_home = kept r.middle (λ e. omega arith) ∙ r.in_table.middle_home;
              put_home = λ z. absurd (omega arith);
              get_home = λ z. kept r.get.slot (λ e. omega arith) ∙ r.in_table.get_home z;
            };
            newest = record {
              marked = r.newest.marked;
              unmarked = r.newest.unmarked;
              asked = r.newest.asked;
              unread = r.newest.unread;
            };
            openings = r.openings;
            lawful = r.lawful;
            settled = (r.settled.0, r.settled.1);
            counted = record { swapped = r.counted.swapped; loaded = r.counted.loaded };
            now = r.now;
            timed = timed_put_taken o p r.get r.now r.timed;
            known = r.known;
            each_seat = seats_stay (Sees o p' r.get r.now r.writer r.reader) s.views id w (refl, own)
                (λ j d other e. others_put o p p' r.get r.now r.now r.writer r.writer r.reader j (λ same. other (same ∙ sym own))
                (le_refl r.now) (λ y h. h) (λ y h. h) d (r.each_seat j d e));
          },
          le_refl r.now,
        ),
        λ q is'.
            let same : p ≡ q = ap (writer_or p) (sym is ∙ is') in
            ((λ i. Writer (record (same i) { has = 1 })), (λ i. ((same i).slot, (same i).opening.value) ∷ carried i)),
      )

  pub put_takes : (slots id : ℕ) (me : M) (p : WriterNotes T) → me.0 ≡ Writer p → me.1 ≡ [] → p.has ≡ 0 →
      Allows Rule slots id me 0 (λ n. n) (put_took (step slots 0 0 0 none) me)
  put_takes slots id me p is carried has s r _ at _ =
      let known = subst (Sees o r.put r.get r.now r.writer r.reader id) is (r.each_seat id me.0 at) in
      let h = subst (λ (q : WriterNotes T). (me.0 ≡ Writer q) × (q.has ≡ 0)) known.0 (is, has) in
      let t = put_takes_at s r slots id me at known.1 h.0 carried h.1 in
      (t.0, t.1, t.3, t.4.0, t.5)

  pub get_takes_at : (s : St) (r : Rule s) (slots id : ℕ) (me : M) → get_elem? s.views id ≡ some me.0 →
      id ≡ r.reader → me.0 ≡ Reader r.get →
      me.1 ≡ [] → r.get.has ≡ 0
      → (w : V) × (a : Act T) × ProperAll me.1 a × Valid s.homes me.1 a × RuleAt r.now (stepped s 0 (get_or s.words 0 0) id me.1 w a)
      × get_took (step slots 0 0 0 none) me (get_or s.words 0 0) (w, Rattle.atomic_table.specs.Table.carried_after me.1 a)
  get_takes_at s r slots id me at own is carried has =
      let small = r.in_table.small in
      let apart = r.in_table.apart in
      let deep = r.in_table.three in
      let g : ReaderNotes T = r.get in
      let g' : ReaderNotes T = record g { has = 1 } in
      let w : V = Reader g' in
      let homes' : List (Option T) = set s.homes g.slot none in
      let kept : (k : ℕ) → k ≢ g.slot → get_elem? homes' k ≡ get_elem? s.homes k = λ k b. set_else s.homes g.slot k none b in (
        w,
        takes g.slot g.at_hand.value,
        tt,
        r.in_table.get_home has,
        (
          record {
            put = r.put;
            get = g';
            writer = r.writer;
            reader = r.reader;
            middle = r.middle;
            fresh = r.fresh;
            in_middle = r.in_middle;
            in_table = record {
              word_is = (λ i. set (r.in_table.word_is i) 0 (get_or (r.in_table.word_is i) 0 0));
              three = length-set s.homes g.slot none ∙ r.in_table.three;
              small = r.in_table.small;
              apart = r.in_table.apart;
              middle_home = kept r.middle (λ e. omega arith) ∙ r.in_table.middle_home;
              put_home = λ z. kept r.put.slot (λ e. omega arith) ∙ r.in_table.put_home z;
              get_home = λ z. absurd (omega arith);
            };
            newest = record {
              marked = r.newest.marked;
              unmarked = r.newest.unmarked;
              asked = r.newest.asked;
              unread = r.newest.unread;
            };
            openings = r.openings;
            lawful = r.lawful;
            settled = (r.settled.0, r.settled.1);
            counted = record { swapped = r.counted.swapped; loaded = r.counted.loaded };
            now = r.now;
            timed = timed_get_taken o r.put g r.now r.timed;
            known = r.known;
            each_seat = seats_stay (Sees o r.put g' r.now r.writer r.reader) s.views id w (refl, own)
                (λ j d other e. others_get o r.put g g' r.now r.now r.writer r.reader r.reader j (λ same. other (same ∙ sym own))
                (le_refl r.now) d (r.each_seat j d e));
          },
          le_refl r.now,
        ),
        λ q is'.
            let same : g ≡ q = ap (reader_or g) (sym is ∙ is') in
            ((λ i. Reader (record (same i) { has = 1 })), (λ i. ((same i).slot, (same i).at_hand.value) ∷ carried i)),
      )

  pub get_takes : (slots id : ℕ) (me : M) (g : ReaderNotes T) → me.0 ≡ Reader g → me.1 ≡ [] → g.has ≡ 0 →
      Allows Rule slots id me 0 (λ n. n) (get_took (step slots 0 0 0 none) me)
  get_takes slots id me g is carried has s r _ at _ =
      let known = subst (Sees o r.put r.get r.now r.writer r.reader id) is (r.each_seat id me.0 at) in
      let h = subst (λ (q : ReaderNotes T). (me.0 ≡ Reader q) × (q.has ≡ 0)) known.0 (is, has) in
      let t = get_takes_at s r slots id me at known.1 h.0 carried h.1 in
      (t.0, t.1, t.3, t.4.0, t.5)

  module _ (same : (a : T) → rises a a) (along : (a b c : T) → rises a b → rises b c → rises a c) where
    -- the last record is a lawful answer
    last_answers : (ws ans hd : List T) → fits o × Rising fits rises o ws → Settled (o ∷ ws) ans → All (λ x. Stands x (o ∷ ws)) hd →
        IsAnswer fits rises o ans hd (last_or o ws)
    last_answers ws ans hd law set_ hears = (
      last_fits fits rises o ws law.0 law.1,
      last_rises fits rises same along o ws law.1,
      stands_below fits rises same along o ws (last_or o ans) law.1 (last_stands o ws ans set_),
      all_each (λ x. Stands x (o ∷ ws)) (λ t. rises t (last_or o ws)) (λ t. stands_below fits rises same along o ws t law.1) hd hears,
    )

    answers_at : (s : St) (r : Rule s) → MayAnswer fits rises r.get (last_or o r.put.written)
    answers_at s r = subst (λ (z : T). IsAnswer fits rises z r.get.answers r.get.told (last_or o r.put.written)) (sym r.openings.1)
        (last_answers r.put.written r.get.answers r.get.told r.lawful r.settled.0 r.settled.1)

    -- the reader's notes change, and no word or slot
    get_notes : (s : St) (r : Rule s) (t : ℕ) → r.now ≤ t → (id : ℕ) (cs : List (ℕ × T)) (g' : ReaderNotes T) →
        id ≡ r.reader → g'.slot ≡ r.get.slot →
        g'.has ≡ r.get.has → g'.at_hand.value ≡ r.get.at_hand.value → g'.opening.value ≡ r.get.opening.value → g'.told ≡ r.get.told
        → (g'.asked ≡ 1 → r.fresh ≡ 1) → Settled (o ∷ r.put.written) g'.answers → IsCounted r.put g' → IsTimed o r.put g' t →
        AreFirst g'.known r.put.written r.put.times → RuleAt t (stepped s 0 (get_or s.words 0 0) id cs (Reader g') keeps)
    get_notes s r t on id cs g' own a b c d hs asks sets counts timed known =
        let small = r.in_table.small in let apart = r.in_table.apart in (
          record {
            put = r.put;
            get = g';
            writer = r.writer;
            reader = r.reader;
            middle = r.middle;
            fresh = r.fresh;
            in_middle = r.in_middle;
            in_table = record {
              word_is = (λ i. set (r.in_table.word_is i) 0 (get_or (r.in_table.word_is i) 0 0));
              three = r.in_table.three;
              small = (omega arith, omega arith, omega arith, omega arith);
              apart = ((λ e. omega arith), (λ e. omega arith), λ e. omega arith);
              middle_home = r.in_table.middle_home;
              put_home = r.in_table.put_home;
              get_home = λ z. ap (get_elem? s.homes) a ∙ (r.in_table.get_home (sym b ∙ z) ∙ ap (λ (x : T). some (some x)) (sym c));
            };
            newest = record {
              marked = r.newest.marked;
              unmarked = λ z. c ∙ r.newest.unmarked z;
              asked = asks;
              unread = r.newest.unread;
            };
            openings = (r.openings.0, d ∙ r.openings.1);
            lawful = r.lawful;
            settled = (sets, subst (All (λ x. Stands x (o ∷ r.put.written))) (sym hs) r.settled.1);
            counted = counts;
            now = t;
            timed = timed;
            known = known;
            each_seat = seats_stay (Sees o r.put g' t r.writer r.reader) s.views id (Reader g') (refl, own)
                (λ j d other e. others_get o r.put r.get g' r.now t r.writer r.reader r.reader j (λ same. other (same ∙ sym own)) on d
                (r.each_seat j d e));
          },
          le_refl t,
        )

    -- the answer of a step that decides a read is the record written last, and the reader knows of all writes
    abbrev all_known : {s : St} → Rule s → Known T
    all_known r = record { items = r.put.written; times = r.put.times }

    abbrev last_number : {s : St} → Rule s → ℕ
    last_number r = length r.put.written

    last_there : (s : St) (r : Rule s) (x : T) → x ≡ last_or o r.put.written → slice_get (o ∷ r.put.written) (last_number r) ≡ Some x
    last_there s r x e = last_here o r.put.written ∙ ap (λ z. Some z) (sym e)

    has_answered : (s : St) (r : Rule s) (t : ℕ) (g : ReaderNotes T) (x : T) → x ≡ last_or o r.put.written →
        IsTimed o r.put (answered g x t (last_number r) (all_known r)) t → g.opening.value ≡ o → g.numbers ≡ r.get.numbers →
        g.known ≡ r.get.known → HasAnswered r.get (answered g x t (last_number r) (all_known r)) x
    has_answered s r t g x e timed first same before = subst (λ (z : T). IsNextAnswer z r.get.known (all_known r) r.get.numbers
        (g.numbers ++ last_number r ∷ []) (g.answers ++ x ∷ []) (answered g x t (last_number r) (all_known r)).times x) (sym r.openings.1)
        (record {
          number = last_number r;
          numbers = ap (λ zs. zs ++ last_number r ∷ []) same;
          source = last_there s r x e;
          known = r.known;
          atomic = timed_atomic o r.put (answered g x t (last_number r) (all_known r)) t timed;
        })

    writes_rise : (s : St) (r : Rule s) → Rising fits rises r.get.opening.value r.put.written
    writes_rise s r = subst (λ (z : T). Rising fits rises z r.put.written) (sym r.openings.1) r.lawful.1

    -- the reader's load, where it finds the mark; and where it finds none, and decides the read
    pub asks_at : (s : St) (r : Rule s) (slots id : ℕ) (me : M) → id ≡ r.reader → me.0 ≡ Reader r.get → r.get.asked ≡ 0 →
        4 ≤ get_or s.words 0 0
        → (w : V) × (a : Act T) × ProperAll me.1 a × Valid s.homes me.1 a
        × RuleAt r.now (stepped s 0 (get_or s.words 0 0) id me.1 w a)
        × looked fits rises (step slots 0 0 0 none) me (get_or s.words 0 0) (w, Rattle.atomic_table.specs.Table.carried_after me.1 a)
    asks_at s r slots id me own is free high =
        let n : ℕ = get_or s.words 0 0 in
        let small = r.in_table.small in
        let g : ReaderNotes T = r.get in
        let found : n ≡ r.middle + 4 * r.fresh = ap (λ (ws : List ℕ). get_or ws 0 0) r.in_table.word_is in
        let marked : r.fresh ≡ 1 = omega arith in (
          Reader (asked_by g n),
          keeps,
          tt,
          tt,
          get_notes s r r.now (le_refl r.now) id me.1 (asked_by g n) own refl refl refl refl refl (λ _. marked) r.settled.0 (record {
            swapped = r.counted.swapped;
            loaded =
                let was = r.counted.loaded in
                omega arith;
          }) (timed_asks o r.put g r.now n r.timed) r.known,
          λ q is'.
              let also : g ≡ q = ap (reader_or g) (sym is ∙ is') in
              (refl, (λ _ i. Reader (asked_by (also i) n)), λ low. absurd (omega arith)),
        )

    pub decides_at : (s : St) (r : Rule s) (t : ℕ) → r.now < t → (slots id : ℕ) (me : M) → id ≡ r.reader → me.0 ≡ Reader r.get →
        r.get.asked ≡ 0 → get_or s.words 0 0 < 4
        → (w : V) × (a : Act T) × ProperAll me.1 a × Valid s.homes me.1 a × RuleAt t (stepped s 0 (get_or s.words 0 0) id me.1 w a)
        × looked fits rises (step slots 0 0 0 none) me (get_or s.words 0 0) (w, Rattle.atomic_table.specs.Table.carried_after me.1 a)
        × (clock_of w ≡ t)
    decides_at s r t lt slots id me own is free low =
        let n : ℕ = get_or s.words 0 0 in
        let small = r.in_table.small in
        let g : ReaderNotes T = r.get in
        let on : r.now ≤ t = omega arith in
        let found : n ≡ r.middle + 4 * r.fresh = ap (λ (ws : List ℕ). get_or ws 0 0) r.in_table.word_is in
        let none_new : r.fresh ≡ 0 = omega arith in
        let last = r.newest.unmarked none_new in
        let k : ℕ = last_number r in
        let g' : ReaderNotes T = answered (looked_by g n) g.at_hand.value t k (all_known r) in
        let timed : IsTimed o r.put g' t = timed_answers o r.put (looked_by g n) r.now t g.at_hand.value (all_known r) lt
        (last_there s r g.at_hand.value last) (timed_looks o r.put g r.now n r.timed) in (
          Reader g',
          keeps,
          tt,
          tt,
          get_notes s r t on id me.1 g' own refl refl refl refl refl (λ z. absurd (omega arith))
              (subst (λ (z : T). Settled (o ∷ r.put.written) (g.answers ++ z ∷ [])) (sym last)
              (settled_last o r.put.written g.answers r.settled.0))
              (record {
                swapped = r.counted.swapped;
                loaded =
                    let long = length-append g.answers (g.at_hand.value ∷ []) in
                    let was = r.counted.loaded in
                    omega arith;
              }) timed (first_all r.put.written r.put.times),
          λ q is'. let also : g ≡ q = ap (reader_or g) (sym is ∙ is') in (
            refl,
            (λ high. absurd (omega arith)),
            λ _. (
              t,
              k,
              all_known r,
              subst (λ (z : ReaderNotes T). z.times.clock < t) also (get_on s r t lt),
              (λ i. Reader (answered (looked_by (also i) n) (also i).at_hand.value t k (all_known r))),
              subst (λ (z : ReaderNotes T). MayAnswer fits rises z z.at_hand.value) also
                  (subst (MayAnswer fits rises g) (sym last) (answers_at s r)),
              subst (λ (z : ReaderNotes T). HasAnswered z (answered (looked_by z n) z.at_hand.value t k (all_known r)) z.at_hand.value)
                  also (has_answered s r t (looked_by g n) g.at_hand.value last timed r.openings.1 refl refl),
              subst (λ (z : ReaderNotes T). AreHeeded z.heard (all_known r) k) also r.timed.heeded,
              subst (λ (z : ReaderNotes T). Rising fits rises z.opening.value r.put.written) also (writes_rise s r),
            ),
          ),
          refl,
        )

    pub looks : (slots id : ℕ) (me : M) (g : ReaderNotes T) → me.0 ≡ Reader g → g.asked ≡ 0 →
        Allows Rule slots id me 0 (λ n. n) (looked fits rises (step slots 0 0 0 none) me)
    looks slots id me g is free s r _ at _ =
        let known = subst (Sees o r.put r.get r.now r.writer r.reader id) is (r.each_seat id me.0 at) in
        let h = subst (λ (q : ReaderNotes T). (me.0 ≡ Reader q) × (q.asked ≡ 0)) known.0 (is, free) in
        ⊎_elim
        (λ (low : get_or s.words 0 0 < 4).
        let t = decides_at s r (r.now + 1) (omega arith) slots id me known.1 h.0 h.1 low in (t.0, t.1, t.3, t.4.0, t.5))
        (λ (high : 4 ≤ get_or s.words 0 0).
        let t = asks_at s r slots id me known.1 h.0 h.1 high in (t.0, t.1, t.3, t.4.0, t.5))
        (cases_lt (get_or s.words 0 0) 4)

    pub gets_at : (s : St) (r : Rule s) (t : ℕ) → r.now < t → (slots id : ℕ) (me : M) (new : ℕ) → id ≡ r.reader → me.0 ≡ Reader r.get →
        me.1 ≡ (r.get.slot, r.get.at_hand.value) ∷ [] → r.get.has ≡ 1 → r.get.asked ≡ 1 → new ≡ r.get.slot
        → (w : V) × (a : Act T) × ProperAll me.1 a × Valid s.homes me.1 a × RuleAt t (stepped s 0 new id me.1 w a) × get_swapped fits rises
        (step slots 0 new 0 none) me (get_or s.words 0 0) (w, Rattle.atomic_table.specs.Table.carried_after me.1 a) × (clock_of w ≡ t)
    gets_at s r t lt slots id me new own is carried has asks to =
        let n : ℕ = get_or s.words 0 0 in
        let word = r.in_table.word_is in
        let small = r.in_table.small in
        let apart = r.in_table.apart in
        let g : ReaderNotes T = r.get in
        let found : n ≡ r.middle + 4 * r.fresh = ap (λ (ws : List ℕ). get_or ws 0 0) word in
        let m : ℕ = n % 4 in
        let mid : m ≡ r.middle = omega arith in
        let y : T = r.in_middle in let last : y ≡ last_or o r.put.written = r.newest.marked (r.newest.asked asks) in
        let on : r.now ≤ t = omega arith in
        let number : ℕ = last_number r in
        let g' : ReaderNotes T = answered (fetched g m y) y t number (all_known r) in let w : V = Reader g' in
        let timed : IsTimed o r.put g' t = timed_answers o r.put (fetched g m y) r.now t y (all_known r) lt
        (last_there s r y last) (timed_fetched o r.put g r.now m y r.timed) in
        let at_slot : List (Option T) = set s.homes g.slot (some g.at_hand.value) in
        let deep = r.in_table.three in
        let homes' : List (Option T) = set at_slot m none in
        let long : length at_slot ≡ length s.homes = length-set s.homes g.slot (some g.at_hand.value) in
        let full : get_elem? at_slot m ≡ some (some y) =
        set_else s.homes g.slot m (some g.at_hand.value) (λ e. omega arith) ∙ (ap (get_elem? s.homes) mid ∙ r.in_table.middle_home) in
        let kept : (k : ℕ) → k ≢ g.slot → k ≢ m → get_elem? homes' k ≡ get_elem? s.homes k =
        λ k b c. set_else at_slot m k none c ∙ set_else s.homes g.slot k (some g.at_hand.value) b in
        let right : MayAnswer fits rises g y = subst (MayAnswer fits rises g) (sym last) (answers_at s r) in (
          w,
          chain gives (takes m y),
          subst (λ (cs : List (ℕ × T)). ProperAll cs (chain gives (takes m y))) (sym carried) (tt, tt),
          subst (λ (cs : List (ℕ × T)). Valid s.homes cs (chain gives (takes m y))) (sym carried) (tt, full),
          subst (λ (cs : List (ℕ × T)). RuleAt t (stepped s 0 new id cs w (chain gives (takes m y)))) (sym carried) (
            record {
              put = r.put;
              get = g';
              writer = r.writer;
              reader = r.reader;
              middle = g.slot;
              fresh = 0;
              in_middle = g.at_hand.value;
              in_table = record {
                word_is = ap (λ (ws : List ℕ). set ws 0 new) word ∙ (ap (λ (z : ℕ). z ∷ []) to ∙ (λ i.
                    let z : g.slot ≡ g.slot + 4 * 0 = omega arith in
                    z i ∷ []));
                three = length-set at_slot m none ∙ (long ∙ r.in_table.three);
                small = (omega arith, omega arith, omega arith, omega arith);
                apart = ((λ e. omega arith), (λ e. omega arith), λ e. omega arith);
                middle_home =
                    set_else at_slot m g.slot none (λ e. omega arith) ∙ set_here s.homes g.slot (some g.at_hand.value) (omega arith);
                put_home = λ z. kept r.put.slot (λ e. omega arith) (λ e. omega arith) ∙ r.in_table.put_home z;
                get_home = λ z. absurd (omega arith);
              };
              newest = record {
                marked = λ z. absurd (omega arith);
                unmarked = λ _. last;
                asked = λ z. absurd (omega arith);
                unread = λ z. absurd (omega arith);
              };
              openings = r.openings;
              lawful = r.lawful;
              settled = (
                subst (λ (z : T). Settled (o ∷ r.put.written) (g.answers ++ z ∷ [])) (sym last)
                    (settled_last o r.put.written g.answers r.settled.0),
                r.settled.1,
              );
              counted = record {
                swapped = r.counted.swapped;
                loaded =
                    let long = length-append g.answers (y ∷ []) in
                    let was = r.counted.loaded in
                    omega arith;
              };
              now = t;
              timed = timed;
              known = first_all r.put.written r.put.times;
              each_seat = seats_stay (Sees o r.put g' t r.writer r.reader) s.views id w (refl, own)
                  (λ j d other e. others_get o r.put g g' r.now t r.writer r.reader r.reader j (λ same. other (same ∙ sym own)) on d
                  (r.each_seat j d e));
            },
            le_refl t,
          ),
          λ q x is' carried' asks'. let also : g ≡ q = ap (reader_or g) (sym is ∙ is') in (
            y,
            omega arith,
            t,
            number,
            all_known r,
            subst (λ (z : ReaderNotes T). z.times.clock < t) also (get_on s r t lt),
            (λ i. Reader (answered (fetched (also i) m y) y t number (all_known r))),
            ap (λ (cs : List (ℕ × T)). (m, y) ∷ rest cs) carried,
            subst (λ (z : ReaderNotes T). MayAnswer fits rises z y) also right,
            subst (λ (z : ReaderNotes T). HasAnswered z (answered (fetched z m y) y t number (all_known r)) y) also
                (has_answered s r t (fetched g m y) y last timed r.openings.1 refl refl),
            subst (λ (z : ReaderNotes T). AreHeeded z.heard (all_known r) number) also r.timed.heeded,
            subst (λ (z : ReaderNotes T). Rising fits rises z.opening.value r.put.written) also (writes_rise s r),
          ),
          refl,
        )

    pub gets : (slots id : ℕ) (me : M) (g : ReaderNotes T) (new : ℕ) → me.0 ≡ Reader g → me.1 ≡ (g.slot, g.at_hand.value) ∷ [] → g.has ≡ 1 →
        g.asked ≡ 1 → new ≡ g.slot → Allows Rule slots id me 0 (λ _. new) (get_swapped fits rises (step slots 0 new 0 none) me)
    gets slots id me g new is carried has asks to s r _ at _ =
        let known = subst (Sees o r.put r.get r.now r.writer r.reader id) is (r.each_seat id me.0 at) in
        let h = subst (λ (q : ReaderNotes T). (me.0 ≡ Reader q) × (me.1 ≡ (q.slot, q.at_hand.value) ∷ []) × (q.has ≡ 1) × (q.asked ≡ 1)
        × (new ≡ q.slot)) known.0 (is, carried, has, asks, to) in
        let t = gets_at s r (r.now + 1) (omega arith) slots id me new known.1 h.0 h.1 h.2 h.3 h.4 in
        (t.0, t.1, t.3, t.4.0, t.5)

  -- the views change, and nothing else
  reseated : (s : St) (r : Rule s) (writer reader : ℕ) (vs : List V) →
      ((j : ℕ) (v : V) → get_elem? vs j ≡ some v → Sees o r.put r.get r.now writer reader j v) →
      Rule record { words = s.words; homes = s.homes; views = vs }
  reseated s r writer reader vs seats = record {
    put = r.put;
    get = r.get;
    writer = writer;
    reader = reader;
    middle = r.middle;
    fresh = r.fresh;
    in_middle = r.in_middle;
    in_table = r.in_table;
    newest = r.newest;
    openings = r.openings;
    lawful = r.lawful;
    settled = r.settled;
    counted = r.counted;
    now = r.now;
    timed = r.timed;
    known = r.known;
    each_seat = seats;
  }

  others_alone : (s : St) (r : Rule s) (writer' reader' j : ℕ) → j ≢ r.writer → j ≢ r.reader → (v : V) →
      Sees o r.put r.get r.now r.writer r.reader j v → Sees o r.put r.get r.now writer' reader' j v
  others_alone s r w q j a b v k = others_get o r.put r.get r.get r.now r.now w r.reader q j b (le_refl r.now) v
      (others_put o r.put r.put r.get r.now r.now r.writer w r.reader j a (le_refl r.now) (λ x h. h) (λ x h. h) v k)

  place_in : (vs : List V) (w : V) (v : V) (j : ℕ) → get_elem? (vs ++ w ∷ []) j ≡ some v →
      ((j < length vs) × (get_elem? vs j ≡ some v)) ⊎ ((j ≡ length vs) × (w ≡ v))
  place_in [] w v zero e = inr (refl, some-injective w v e)
  place_in [] w v (suc j) e = absurd (some-ne-none v (sym e))
  place_in (x ∷ vs) w v zero e = inl (omega arith, e)
  place_in (x ∷ vs) w v (suc j) e = ⊎_elim (λ (t : (j < length vs) × (get_elem? vs j ≡ some v)). inl (omega arith, t.1))
      (λ (t : (j ≡ length vs) × (w ≡ v)). inr (ap suc t.0, t.1)) (place_in vs w v j e)

  -- the reader's part leaves the first seat
  pub parts : (id : ℕ) (p : WriterNotes T) (g : ReaderNotes T) → Splits Rule id (Both p g) (Writer p) (Reader g)
  parts id p g s r at = let known = r.each_seat id (Both p g) at in let n : ℕ = length (set s.views id (Writer p)) in
      reseated s r id n _ (λ j v e. ⊎_elim
      (λ (t : (j < n) × (get_elem? (set s.views id (Writer p)) j ≡ some v)). ⊎_elim
      (λ (u : (j ≡ id) × (Writer p ≡ v)). subst (λ (z : V). Sees o r.put r.get r.now id n j z) u.1 (known.0, u.0))
      (λ (u : (j ≢ id) × (get_elem? s.views j ≡ some v)).
      others_alone s r id n j (λ z. u.0 (z ∙ sym known.2)) (λ z. u.0 (z ∙ sym known.3)) v (r.each_seat j v u.1))
      (at_set s.views id j (Writer p) v t.1))
      (λ (t : (j ≡ n) × (Reader g ≡ v)). subst (λ (z : V). Sees o r.put r.get r.now id n j z) t.1 (known.1, t.0))
      (place_in (set s.views id (Writer p)) (Reader g) v j e))

  pub tells : (id : ℕ) (p : WriterNotes T) →
      Splits Rule id (Writer p) (Writer p) (Told (snap (told_by p)))
  tells id p s r at = let known = r.each_seat id (Writer p) at in let x : T = last_or p.opening.value p.written in
      let same : x ≡ last_or o r.put.written =
      (λ i. last_or (known.0 i).opening.value (known.0 i).written) ∙ ap (λ (z : T). last_or z r.put.written) r.openings.0 in
      let by : p.times.clock ≤ r.now = subst (λ (z : WriterNotes T). z.times.clock ≤ r.now) (sym known.0) r.timed.put_clock in
      let told : IsHeeded (told_by p).writes (known_as r.put.written r.put.times) (length r.put.written) =
      subst (λ (z : WriterNotes T). IsHeeded (told_by z).writes (known_as r.put.written r.put.times) (length r.put.written)) (sym known.0)
      (heeded_all r.put.written r.put.times (length r.put.written) (le_refl (length r.put.written))) in
      let named : V = Told (snap (told_by p)) in
      reseated s r r.writer r.reader _ (λ j v e. ⊎_elim
      (λ (t : get_elem? (set s.views id (Writer p)) j ≡ some v).
      seats_stay (Sees o r.put r.get r.now r.writer r.reader) s.views id (Writer p) known (λ i d _ f. r.each_seat i d f) j v t)
      (λ (t : named ≡ v). subst (λ (z : V). Sees o r.put r.get r.now r.writer r.reader j z) t
      (subst (λ (z : T). Stands z (o ∷ r.put.written)) (sym same) (stands_last o r.put.written), by, told))
      (at_snoc (set s.views id (Writer p)) named v j e))

  -- at the end the writer's notes leave its seat
  pub yields : (id : ℕ) (p : WriterNotes T) → Splits Rule id (Writer p) Spent (Writer p)
  yields id p s r at = let known = r.each_seat id (Writer p) at in let n : ℕ = length (set s.views id Spent) in
      reseated s r n r.reader _ (λ j v e. ⊎_elim
      (λ (t : (j < n) × (get_elem? (set s.views id Spent) j ≡ some v)). ⊎_elim
      (λ (u : (j ≡ id) × (Spent ≡ v)). subst (λ (z : V). Sees o r.put r.get r.now n r.reader j z) u.1 tt)
      (λ (u : (j ≢ id) × (get_elem? s.views j ≡ some v)).
      others_put o r.put r.put r.get r.now r.now r.writer n r.reader j (λ z. u.0 (z ∙ sym known.1)) (le_refl r.now) (λ _ h. h) (λ _ h. h) v
      (r.each_seat j v u.1))
      (at_set s.views id j Spent v t.1))
      (λ (t : (j ≡ n) × (Writer p ≡ v)). subst (λ (z : V). Sees o r.put r.get r.now n r.reader j z) t.1 (known.0, t.0))
      (place_in (set s.views id Spent) (Writer p) v j e))

  pub hears : (id other : ℕ) (g : ReaderNotes T) (x : Snapshot (Dated T)) →
      Joins Rule id (Reader g) other (Told x) (Reader (heard_by g x.value)) Spent
  hears id other g x s r at apart there =
      let known = r.each_seat id (Reader g) at in
      let both : V = Reader (heard_by g x.value) in
      let g' : ReaderNotes T = heard_by r.get x.value in
      let stands : Stands x.value.item (o ∷ r.put.written) × (x.value.time ≤ r.now)
      × IsHeeded x.value.writes (known_as r.put.written r.put.times) (length r.put.written) =
      ⊎_elim (λ (t : (other ≡ id) × (both ≡ Told x)). absurd (apart t.0))
      (λ (t : (other ≢ id) × (get_elem? s.views other ≡ some (Told x))). r.each_seat other (Told x) t.1)
      (at_set s.views id other both (Told x) there) in
      record {
        put = r.put;
        get = g';
        writer = r.writer;
        reader = r.reader;
        middle = r.middle;
        fresh = r.fresh;
        in_middle = r.in_middle;
        in_table = record {
          word_is = r.in_table.word_is;
          three = r.in_table.three;
          small = r.in_table.small;
          apart = r.in_table.apart;
          middle_home = r.in_table.middle_home;
          put_home = r.in_table.put_home;
          get_home = r.in_table.get_home;
        };
        newest = record {
          marked = r.newest.marked;
          unmarked = r.newest.unmarked;
          asked = r.newest.asked;
          unread = r.newest.unread;
        };
        openings = r.openings;
        lawful = r.lawful;
        settled = (r.settled.0, all_snoc (λ y. Stands y (o ∷ r.put.written)) r.get.told x.value.item r.settled.1 stands.0);
        counted = record { swapped = r.counted.swapped; loaded = r.counted.loaded };
        now = r.now;
        timed = timed_hears o r.put r.get r.now x.value stands.1 stands.2 r.timed;
        known = r.known;
        each_seat = seats_stay (Sees o r.put g' r.now r.writer r.reader) (set s.views id both) other Spent tt
            (λ j d _ e. seats_stay (Sees o r.put g' r.now r.writer r.reader) s.views id both
            ((λ i. heard_by (known.0 i) x.value), known.1)
            (λ k d' apart' f. others_get o r.put r.get g' r.now r.now r.writer r.reader r.reader k (λ z. apart' (z ∙ sym known.1))
            (le_refl r.now) d' (r.each_seat k d' f)) j d e);
      }

  pub ends : (id other : ℕ) (g : ReaderNotes T) (p : WriterNotes T) → Joins Rule id (Reader g) other (Writer p) (Both p g) Spent
  ends id other g p s r at apart there = let known = r.each_seat id (Reader g) at in let both : V = Both p g in
      let was = ⊎_elim (λ (t : (other ≡ id) × (both ≡ Writer p)). absurd (apart t.0))
      (λ (t : (other ≢ id) × (get_elem? s.views other ≡ some (Writer p))). r.each_seat other (Writer p) t.1)
      (at_set s.views id other both (Writer p) there) in
      reseated s r id id _
      (λ j d e. ⊎_elim (λ (t : (j ≡ other) × (Spent ≡ d)). subst (λ (z : V). Sees o r.put r.get r.now id id j z) t.1 tt)
      (λ (t : (j ≢ other) × (get_elem? (set s.views id both) j ≡ some d)). ⊎_elim
      (λ (u : (j ≡ id) × (both ≡ d)). subst (λ (z : V). Sees o r.put r.get r.now id id j z) u.1 (was.0, known.0, u.0, u.0))
      (λ (u : (j ≢ id) × (get_elem? s.views j ≡ some d)).
      others_alone s r id id j (λ z. t.0 (z ∙ sym was.1)) (λ z. u.0 (z ∙ sym known.1)) d (r.each_seat j d u.1))
      (at_set s.views id j both d t.1))
      (at_set (set s.views id both) other j Spent d e))

  only_one : (j : ℕ) (v : V) → get_elem? (first_sight o ∷ []) j ≡ some v → Sees o (first_writer o) (first_reader o) 0 0 0 j v
  only_one zero v e = subst (Sees o (first_writer o) (first_reader o) 0 0 0 0) (some-injective (first_sight o) v e) (refl, refl, refl, refl)
  only_one (suc j) v e = absurd (some-ne-none v (sym e))

  pub starts : fits o → Rule (opening (1 ∷ []) (o ∷ o ∷ o ∷ []) (first_sight o))
  starts f = record {
    put = first_writer o;
    get = first_reader o;
    writer = 0;
    reader = 0;
    middle = 1;
    fresh = 0;
    in_middle = o;
    in_table = record {
      word_is = refl;
      three = refl;
      small = (omega arith, omega arith, omega arith, omega arith);
      apart = ((λ e. omega arith), (λ e. omega arith), λ e. omega arith);
      middle_home = refl;
      put_home = λ _. refl;
      get_home = λ _. refl;
    };
    newest = record {
      marked = λ z. absurd (omega arith);
      unmarked = λ _. refl;
      asked = λ z. absurd (omega arith);
      unread = λ z. absurd (omega arith);
    };
    openings = (refl, refl);
    lawful = (f, tt);
    settled = (tt, λ k d l. absurd (omega arith));
    counted = record { swapped = refl; loaded = refl };
    now = 0;
    timed = timed_starts o;
    known = first_all [] (first_writer o).times;
    each_seat = λ j v e. only_one j v e;
  }

  -- the same at a view that is known to be one of these
  pub parts_at : (id : ℕ) (v : V) (p : WriterNotes T) (g : ReaderNotes T) → v ≡ Both p g → Splits Rule id v (writer_part v) (reader_part v)
  parts_at id v p g e = subst (λ (z : V). Splits Rule id z (writer_part z) (reader_part z)) (sym e) (parts id p g)

  pub tells_at : (id : ℕ) (v : V) (p : WriterNotes T) → v ≡ Writer p → Splits Rule id v v (receipt_for v)
  tells_at id v p e = subst (λ (z : V). Splits Rule id z z (receipt_for z)) (sym e) (tells id p)

  pub yields_at : (id : ℕ) (v : V) (p : WriterNotes T) → v ≡ Writer p → Splits Rule id v Spent v
  yields_at id v p e = subst (λ (z : V). Splits Rule id z Spent z) (sym e) (yields id p)

  pub hears_at : (id other : ℕ) (v w : V) (g : ReaderNotes T) (x : Snapshot (Dated T)) → v ≡ Reader g → w ≡ Told x →
      Joins Rule id v other w (hears_of v w) Spent
  hears_at id other v w g x e f =
      subst (λ (z : V × V). Joins Rule id z.0 other z.1 (hears_of z.0 z.1) Spent) (λ i. (sym e i, sym f i)) (hears id other g x)

  pub ends_at : (id other : ℕ) (v w : V) (g : ReaderNotes T) (p : WriterNotes T) → v ≡ Reader g → w ≡ Writer p →
      Joins Rule id v other w (whole_of v w) Spent
  ends_at id other v w g p e f =
      subst (λ (z : V × V). Joins Rule id z.0 other z.1 (whole_of z.0 z.1) Spent) (λ i. (sym e i, sym f i)) (ends id other g p)

  -- what the last state shows of a seat with both lists
  pub told_at_end : (id : ℕ) (v : V) (p : WriterNotes T) (g : ReaderNotes T) (ws : List ℕ) (xs : List T) → v ≡ Both p g →
      Final (Seen Rule id v) ws xs → Settled (o ∷ p.written) g.answers
  told_at_end id v p g ws xs e f =
      let r = f.1.0 in
      let k = r.each_seat id v f.1.1 in
      let h = subst (Sees o r.put r.get r.now r.writer r.reader id) e k in
      subst (λ (z : WriterNotes T × ReaderNotes T). Settled (o ∷ z.0.written) z.1.answers) (λ i. (sym h.0 i, sym h.1 i)) r.settled.0

  -- and of the intervals of all calls, and of what the reader knows
  pub timed_at_end : (id : ℕ) (v : V) (p : WriterNotes T) (g : ReaderNotes T) (ws : List ℕ) (xs : List T) → v ≡ Both p g →
      Final (Seen Rule id v) ws xs → (now : ℕ) × IsTimed o p g now
  timed_at_end id v p g ws xs e f =
      let r = f.1.0 in
      let k = r.each_seat id v f.1.1 in
      let h = subst (Sees o r.put r.get r.now r.writer r.reader id) e k in
      (r.now, subst (λ (z : WriterNotes T × ReaderNotes T). IsTimed o z.0 z.1 r.now) (λ i. (sym h.0 i, sym h.1 i)) r.timed)

  pub known_at_end : (id : ℕ) (v : V) (p : WriterNotes T) (g : ReaderNotes T) (ws : List ℕ) (xs : List T) → v ≡ Both p g →
      Final (Seen Rule id v) ws xs → AreFirst g.known p.written p.times
  known_at_end id v p g ws xs e f =
      let r = f.1.0 in
      let k = r.each_seat id v f.1.1 in
      let h = subst (Sees o r.put r.get r.now r.writer r.reader id) e k in
      subst (λ (z : WriterNotes T × ReaderNotes T). AreFirst z.1.known z.0.written z.0.times) (λ i. (sym h.0 i, sym h.1 i)) r.known

  -- in a cell of a family: other views; a receipt is told; one is heard, and its seat keeps it; and the start, with any views
  pub reseated_by : (t : ℕ) (s : St) (r : RuleAt t s) (w g : ℕ) (vs : List V) →
      ((j : ℕ) (v : V) → get_elem? vs j ≡ some v → Sees o r.0.put r.0.get r.0.now w g j v) →
      RuleAt t (record { words = s.words; homes = s.homes; views = vs })
  unfolding reseated
  reseated_by t s r w g vs seats = (reseated s r.0 w g vs seats, r.1)

  pub tells_by : (t : ℕ) (s : St) (r : RuleAt t s) (id : ℕ) (p : WriterNotes T) → get_elem? s.views id ≡ some (Writer p) →
      RuleAt t (record { words = s.words; homes = s.homes; views = s.views ++ receipt_for (Writer p) ∷ [] })
  unfolding tells reseated
  tells_by t s r id p at =
      subst (λ (vs : List V). RuleAt t (record { words = s.words; homes = s.homes; views = vs ++ receipt_for (Writer p) ∷ [] }))
      (set_again s.views id (Writer p) at) (tells id p s r.0 at, r.1)

  pub hears_by : (t : ℕ) (s : St) (r : RuleAt t s) (id other : ℕ) (g : ReaderNotes T) (x : Snapshot (Dated T)) →
      get_elem? s.views id ≡ some (Reader g) → get_elem? s.views other ≡ some (Told x) → id ≢ other →
      RuleAt t (record { words = s.words; homes = s.homes; views = set s.views id (hears_of (Reader g) (Told x)) })
  unfolding hears reseated
  hears_by t s r id other g x at there ne =
      let h : V = hears_of (Reader g) (Told x) in
      let vs : List V = set s.views id h in
      let same : get_elem? vs other ≡ some (Told x) = set_else s.views id other h (λ e. ne (sym e)) ∙ there in
      let next : Rule (record { words = s.words; homes = s.homes; views = set vs other Spent }) =
      hears id other g x s r.0 at (λ e. ne (sym e)) same in (
        reseated (record { words = s.words; homes = s.homes; views = set vs other Spent }) next next.writer next.reader vs
            (λ j v e. ⊎_elim
            (λ (b : j ≡ other).
            let is : Told x ≡ v = some-injective (Told x) v (sym same ∙ (ap (get_elem? vs) (sym b) ∙ e)) in
            subst (Sees o next.put next.get next.now next.writer next.reader j) is (r.0.each_seat other (Told x) there))
            (λ (b : j ≢ other). next.each_seat j v (set_else vs other j Spent b ∙ e))
            (cases_eq j other)),
        r.1,
      )

  pub starts_by : fits o → (w g : ℕ) (vs : List V) →
      ((j : ℕ) (v : V) → get_elem? vs j ≡ some v → Sees o (first_writer o) (first_reader o) 0 w g j v) →
      RuleAt 0 (record { words = 1 ∷ []; homes = some o ∷ some o ∷ some o ∷ []; views = vs })
  unfolding starts reseated
  starts_by f w g vs seats = (reseated (opening (1 ∷ []) (o ∷ o ∷ o ∷ []) (first_sight o)) (starts f) w g vs seats, le_refl 0)
