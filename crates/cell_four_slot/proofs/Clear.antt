-- The words and slots of a four-slot cell show a state of the register through each step: a slot that a side takes is at home, since the
-- invariant keeps it apart from the other side's.
use Rattle.std.proofs.Common.{◌≡◌, ◌≢◌, ℕ, ◌+◌, Bool, true, false, not, Option, None, Some, List, [], ◌∷◌, length, get_or, set, sym, refl}
use Rattle.std.proofs.Common.{ap, ◌∙◌, subst, ⊎_elim, arith, length-set}
use Rattle.std.proofs.lemmas.Option.{same_Some}
use mathlib.Core.Option.{some, none, Option as Opt}
use lib.ListN.{get_elem?}
use Rattle.atomic_table.specs.Table.{put_back}
use Rattle.atomic_table.proofs.Lists.{set_here, set_else}
use Rattle.four_slot_core.specs.declared.state.Sides.{Sides}
use Rattle.four_slot_core.specs.declared.state.Slot.{Slot}
use Rattle.four_slot_core.specs.declared.state.State.{State as Core}
use Rattle.four_slot_core.specs.declared.state.Stage.TheVariants as writer
use Rattle.four_slot_core.specs.declared.state.ReaderStage.TheVariants as reader
use Rattle.four_slot_core.specs.Events.{side, with_side, record_in, slot_with, bit_number, slot_number, after_write, after_read}
use Rattle.four_slot_core.specs.Invariant.{HasSlot, IsKept, IsSound}
use Rattle.four_slot_core.proofs.events.TwoSides.{not_same, record_same, record_other}
use Rattle.cell_four_slot.specs.Rule.{InTable, HeldByWriter, HeldByReader, named_slot}
use Rattle.cell_four_slot.specs.Steps.{slot_of_choice}
use Rattle.cell_four_slot.proofs.Slots.{slot_low, number_of_slot, same_or_not, not_named}

-- word 2 + q is the bit of the pair q
word_at : (l r : ℕ) (s : Sides Bool) (q : Bool) →
    get_or (l ∷ r ∷ bit_number s.zero ∷ bit_number s.one ∷ []) (2 + bit_number q) 0 ≡ bit_number (side s q)
word_at l r s true = refl
word_at l r s false = refl

set_word : (l r : ℕ) (s : Sides Bool) (q b : Bool) → set (l ∷ r ∷ bit_number s.zero ∷ bit_number s.one ∷ []) (2 + bit_number q)
    (bit_number b) ≡ l ∷ r ∷ bit_number (with_side s q b).zero ∷ bit_number (with_side s q b).one ∷ []
set_word l r s true b = refl
set_word l r s false b = refl

pub same_opposite : {T : Type 0} (c : Core T) (last : T) → IsSound c last →
    not (side c.remembered (not c.reading)) ≡ not (side c.slot (not c.reading))
same_opposite c last h = ap (λ (b : Sides Bool). not (side b (not c.reading))) h.remembered

-- the slot that W1 chooses, and the one that R3 chooses
abbrev pub free_slot : {T : Type 0} → Core T → Slot
free_slot c = slot_with (not c.reading) (not (side c.remembered (not c.reading)))

abbrev pub begun : {T : Type 0} → T → Core T → Core T
begun x c = after_write writer.W2 x (after_write writer.W1 x (after_write writer.W5 x c))

abbrev pub read_on : {T : Type 0} → Core T → Core T
read_on c = after_read reader.R4 (after_read reader.R3 (after_read reader.R2 c))

module _ {T : Type 0} where
  pub word_latest : (ws : List ℕ) (hs : List (Opt T)) (h : T) (c : Core T) → InTable ws hs h c → get_or ws 0 0 ≡ bit_number c.latest
  word_latest ws hs h c t = ap (λ (z : List ℕ). get_or z 0 0) t.words_are

  pub word_reading : (ws : List ℕ) (hs : List (Opt T)) (h : T) (c : Core T) → InTable ws hs h c → get_or ws 1 0 ≡ bit_number c.reading
  word_reading ws hs h c t = ap (λ (z : List ℕ). get_or z 1 0) t.words_are

  pub word_bit : (ws : List ℕ) (hs : List (Opt T)) (h : T) (c : Core T) (q : Bool) (i : ℕ) → InTable ws hs h c → i ≡ 2 + bit_number q →
      get_or ws i 0 ≡ bit_number (side c.slot q)
  word_bit ws hs h c q i t e = ap (λ (j : ℕ). get_or ws j 0) e
      ∙ (ap (λ (z : List ℕ). get_or z (2 + bit_number q) 0) t.words_are ∙ word_at (bit_number c.latest) (bit_number c.reading) c.slot q)

  -- between two writes the writer has no slot
  no_slot : (c : Core T) (k : Slot) → c.writer ≡ writer.W5 → HeldByWriter c k → ⊥
  no_slot c k w t = subst HasSlot w t.0

  -- W1: the slot is at home
  pub free_at_home : (ws : List ℕ) (hs : List (Opt T)) (h : T) (c : Core T) (last : T) → InTable ws hs h c →
      IsSound c last → c.writer ≡ writer.W5
      → get_elem? hs (slot_number (free_slot c)) ≡ some (some (record_in c.records (free_slot c)))
  free_at_home ws hs h c last t sound w =
      t.home (free_slot c) (no_slot c (free_slot c) w) (λ u. not_same c.reading (sym (sound.kept (free_slot c) u.0 u.1)))

  pub table_begins : (ws : List ℕ) (hs : List (Opt T)) (h : T) (c : Core T) (last x : T) → InTable ws hs h c →
      IsSound c last → c.writer ≡ writer.W5
      → InTable ws (set hs (slot_number (free_slot c)) none) h (begun x c)
  table_begins ws hs h c last x t sound w = let k0 : Slot = free_slot c in let hs' : List (Opt T) = set hs (slot_number k0) none in
      let apart : (k : Slot) → HeldByReader c k → k ≢ k0 =
      λ k u e. not_same c.reading (ap (λ (z : Slot). z.pair) (sym e) ∙ sym (sound.kept k u.0 u.1)) in
      record {
        words_are = t.words_are;
        four = length-set hs (slot_number k0) none ∙ t.four;
        home = λ k mine theirs. let ne : k ≢ k0 = λ e. mine (tt, e) in
            set_else hs (slot_number k0) (slot_number k) none (λ e. ne (number_of_slot k k0 e))
            ∙ (t.home k (no_slot c k w) theirs ∙ ap (λ (y : T). some (some y)) (sym (record_other c.records k0 k x ne)));
        in_writer = λ _. record_same c.records k0 x;
        in_reader = λ k u. record_other c.records k0 k x (apart k u) ∙ t.in_reader k u;
      }

  -- W4: the writer's slot comes home with its record
  pub table_stores : (ws : List ℕ) (hs : List (Opt T)) (h : T) (c : Core T) (x : T) (i n : ℕ) → InTable ws hs h c → c.writer ≡ writer.W3 →
      i ≡ 2 + bit_number c.write.pair → n ≡ bit_number c.write.index
      → InTable (set ws i n) (set hs (slot_number c.write) (some c.item)) h (after_write writer.W3 x c)
  table_stores ws hs h c x i n t w word new = let k0 : Slot = c.write in let low = slot_low k0 in let four = t.four in
      record {
        words_are = (λ j. set (t.words_are j) (word j) (new j))
            ∙ set_word (bit_number c.latest) (bit_number c.reading) c.slot c.write.pair c.write.index;
        four = length-set hs (slot_number k0) (some c.item) ∙ t.four;
        home = λ k mine theirs. ⊎_elim
            (λ (e : k ≡ k0). ap (λ (j : Slot). get_elem? (set hs (slot_number k0) (some c.item)) (slot_number j)) e
            ∙ (set_here hs (slot_number k0) (some c.item) (omega arith) ∙ (ap (λ (y : T). some (some y))
            (sym (t.in_writer (subst HasSlot (sym w) tt))) ∙ ap (λ (j : Slot). some (some (record_in c.records j))) (sym e))))
            (λ (ne : k ≢ k0). set_else hs (slot_number k0) (slot_number k) (some c.item) (λ e. ne (number_of_slot k k0 e))
            ∙ t.home k (λ u. ne u.1) theirs)
            (same_or_not k k0);
        in_writer = λ n. absurd n;
        in_reader = t.in_reader;
      }

  -- W5
  pub table_finishes : (ws : List ℕ) (hs : List (Opt T)) (h : T) (c : Core T) (x : T) (n : ℕ) → InTable ws hs h c → c.writer ≡ writer.W4 →
      n ≡ bit_number c.write.pair
      → InTable (set ws 0 n) hs h (after_write writer.W4 x c)
  table_finishes ws hs h c x n t w new = record {
    words_are = (λ j. set (t.words_are j) 0 (new j));
    four = t.four;
    home = λ k mine theirs. t.home k (λ u. subst HasSlot w u.0) theirs;
    in_writer = λ n. absurd n;
    in_reader = t.in_reader;
  }

  -- R1
  pub table_asks : (ws : List ℕ) (hs : List (Opt T)) (h : T) (c : Core T) → InTable ws hs h c → c.reader ≡ reader.R5 →
      InTable ws hs h (after_read reader.R5 c)
  table_asks ws hs h c t r = record {
    words_are = t.words_are;
    four = t.four;
    home = λ k mine theirs. t.home k mine (λ u. theirs (tt, u.1));
    in_writer = t.in_writer;
    in_reader = λ k u. t.in_reader k (subst IsKept (sym r) tt, u.1);
  }

  back_length : (hs : List (Opt T)) (ch : Option Slot) (h : T) → length (put_back hs (slot_of_choice ch h)) ≡ length hs
  back_length hs None h = refl
  back_length hs (Some j) h = length-set hs (slot_number j) (some h)

  -- R2: the slot of the read before comes home
  back_home : (hs : List (Opt T)) (ch : Option Slot) (h : T) (c : Core T) → length hs ≡ 4 → c.chosen ≡ ch →
      ((k : Slot) → c.chosen ≡ Some k → record_in c.records k ≡ h)
      → ((k : Slot) → (HeldByWriter c k → ⊥) → (c.chosen ≡ Some k → ⊥) → get_elem? hs (slot_number k) ≡ some (some (record_in c.records k)))
      → (k : Slot) → (HeldByWriter c k → ⊥) →
      get_elem? (put_back hs (slot_of_choice ch h)) (slot_number k) ≡ some (some (record_in c.records k))
  back_home hs None h c four is has home k mine = home k mine (λ e. let no : None ≡ Some k = sym is ∙ e in absurd (cc))
  back_home hs (Some j) h c four is has home k mine = let low = slot_low j in ⊎_elim
      (λ (e : k ≡ j). ap (λ (z : Slot). get_elem? (set hs (slot_number j) (some h)) (slot_number z)) e
      ∙ (set_here hs (slot_number j) (some h) (omega arith)
      ∙ (ap (λ (y : T). some (some y)) (sym (has j is)) ∙ ap (λ (z : Slot). some (some (record_in c.records z))) (sym e))))
      (λ (ne : k ≢ j). set_else hs (slot_number j) (slot_number k) (some h) (λ e. ne (number_of_slot k j e))
      ∙ home k mine (λ e. ne (sym (same_Some j k (sym is ∙ e)))))
      (same_or_not k j)

  pub table_says : (ws : List ℕ) (hs : List (Opt T)) (h : T) (c : Core T) (ch : Option Slot) (n : ℕ) → InTable ws hs h c →
      c.reader ≡ reader.R1 → c.chosen ≡ ch → n ≡ bit_number c.read.pair
      → InTable (set ws 1 n) (put_back hs (slot_of_choice ch h)) h (after_read reader.R1 c)
  table_says ws hs h c ch n t r is new = record {
    words_are = (λ j. set (t.words_are j) 1 (new j));
    four = back_length hs ch h ∙ t.four;
    home = λ k mine theirs.
        back_home hs ch h c t.four is (λ j e. t.in_reader j (subst IsKept (sym r) tt, e)) (λ j a b. t.home j a (λ u. b u.1)) k mine;
    in_writer = t.in_writer;
    in_reader = λ k u. absurd u.0;
  }

  -- R3: the slot that the pair's bit names is at home
  pub named_at_home : (ws : List ℕ) (hs : List (Opt T)) (h : T) (c : Core T) (last : T) (q : Bool) → InTable ws hs h c →
      IsSound c last → c.reader ≡ reader.R2
      → get_elem? hs (slot_number (named_slot c q)) ≡ some (some (record_in c.records (named_slot c q)))
  named_at_home ws hs h c last q t sound r =
      t.home (named_slot c q) (λ u. not_named c c.write q (sound.opposite u.0) u.1) (λ u. subst IsKept r u.0)

  pub table_reads : (ws : List ℕ) (hs : List (Opt T)) (h : T) (c : Core T) → InTable ws hs h c → c.reader ≡ reader.R2
      → InTable ws (set hs (slot_number (named_slot c c.read.pair)) none) (record_in c.records (named_slot c c.read.pair)) (read_on c)
  table_reads ws hs h c t r = let k0 : Slot = named_slot c c.read.pair in record {
    words_are = t.words_are;
    four = length-set hs (slot_number k0) none ∙ t.four;
    home = λ k mine theirs. let ne : k ≢ k0 = λ e. theirs (tt, ap (λ (z : Slot). Some z) (sym e)) in
        set_else hs (slot_number k0) (slot_number k) none (λ e. ne (number_of_slot k k0 e)) ∙ t.home k mine (λ u. subst IsKept r u.0);
    in_writer = t.in_writer;
    in_reader = λ k u. ap (record_in c.records) (sym (same_Some k0 k u.1));
  }
