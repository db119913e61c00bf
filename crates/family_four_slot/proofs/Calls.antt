-- What three steps make a call: one access more, with a record or an answer, and the process is at rest again.
use Rattle.std.proofs.Common.{◌≡◌, ◌≢◌, ℕ, ◌*◌, ◌<◌, Bool, List, [], ◌∷◌, ◌++◌, length, nat_eq, cond, refl, sym, ap, ◌∙◌, subst, arith}
use Rattle.four_slot_core.specs.Events.{bit_number, slot_number, slot_with}
use Rattle.cell_contract.specs.Running.{last_or, held_slots}
use Rattle.cell_contract.specs.Sights.{writer_or, reader_or}
use Rattle.cell_contract.specs.declared.times.Known.{Known}
use Rattle.cell_contract.specs.declared.times.Times.{Times}
use Rattle.cell_four_slot.specs.declared.notes.WriterNotes.{WriterNotes}
use Rattle.cell_four_slot.specs.declared.notes.ReaderNotes.{ReaderNotes}
use Rattle.cell_contract.specs.declared.sight.Sight.TheVariants.{Spent, Writer, Reader}
use Rattle.cell_four_slot.specs.Steps.{FourSlotSight, first_writer, first_reader, bit_words, slot_of_choice}
use Rattle.cell_four_slot.specs.Steps.{begun_with, stored_by, finished_with, asked_by, said_with, got_by, HasAnswered}
use Rattle.cell_contract.specs.Intervals.{AreHeeded, IsNextAnswer}
use Rattle.cell_contract.proofs.ListLaws.{last_snoc}
use Rattle.cell_contract.specs.Accesses.{IsAccess, IsReadAccess, IsWriteAccess, KeepsEach, KeepsOthers, ReadAccesses}
use Rattle.family_four_slot.specs.declared.family.Stored.{Stored}
use Rattle.family_table.specs.declared.notes.Process.{Process}
use Rattle.family_table.specs.Layouts.{shift}
use Rattle.family_table.specs.Places.{place}
use Rattle.family_four_slot.specs.Places.{slot_at}
use Rattle.family_table.specs.Family.{of_cell, knows}
use Rattle.family_four_slot.specs.Words.{writes_to, reads_from, IsAtRest, HasSlots}
use Rattle.family_table.proofs.Places.{place_in}
use Rattle.family_table.proofs.Seats.{differ}
use Rattle.family_table.proofs.Places.{row_apart, column_apart}
use Rattle.family_four_slot.proofs.Frames.{other_writes, other_reads, same_writes, same_reads}
use Rattle.family_table.proofs.Frames.{IsChanged, changed, changed_again}
use Rattle.family_four_slot.proofs.Rests.{IsNewRow, IsNewColumn, rest_write, rest_read}

joined : (xs : List ℕ) (a b c : ℕ) → ((xs ++ a ∷ []) ++ b ∷ []) ++ c ∷ [] ≡ xs ++ a ∷ b ∷ c ∷ []
joined [] a b c = refl
joined (x ∷ xs) a b c = ap (λ zs. x ∷ zs) (joined xs a b c)

-- three times, as an access of three steps
access_of : (times : List ℕ) (clock a b c : ℕ) (old new : Times) → clock < a → a < b → b < c → new.begins ≡ old.begins ++ a ∷ [] →
    new.ends ≡ old.ends ++ c ∷ [] → IsAccess 3 clock c times (((times ++ a ∷ []) ++ b ∷ []) ++ c ∷ []) old new
access_of times clock a b c old new la lb lc begins ends = record {
  steps = a ∷ b ∷ c ∷ [];
  long = refl;
  rising = (la, (lb, (lc, tt)));
  made = joined times a b c;
  first = a;
  first_is = refl;
  last_is = refl;
  begins = begins;
  ends = ends;
}

module _ {T : Type 0} (o : T) (n : ℕ) where
  abbrev V : Type 0
  V = FourSlotSight T

  -- the notes of process j's cell, as contracts see them
  pub sees_writes : (u : Process V) (who j : ℕ) (p : WriterNotes T) → j ≢ who → u.who ≡ who →
      of_cell Spent (place n who j) u.parts ≡ Writer p → writes_to o n u j ≡ record { items = p.written; times = p.times }
  sees_writes u who j p ne same is =
      let e : cond (nat_eq j u.who) Spent (of_cell Spent (place n u.who j) u.parts) ≡ Writer p =
      ap (λ b. cond {A = V} b Spent (of_cell Spent (place n u.who j) u.parts)) (differ j u.who (λ h. ne (h ∙ same)))
      ∙ (ap (λ z. of_cell Spent (place n z j) u.parts) same ∙ is) in
      ap (λ z. let q = writer_or (first_writer o) z in record { items = q.written; times = q.times }) e

  pub sees_reads : (u : Process V) (who j : ℕ) (g : ReaderNotes T) → j ≢ who → u.who ≡ who →
      of_cell Spent (place n j who) u.parts ≡ Reader g →
      reads_from o n u j ≡ record {
        answers = g.answers;
        numbers = g.numbers;
        known = g.known;
        told = g.told;
        heard = g.heard;
        times = g.times;
      }
  sees_reads u who j g ne same is =
      let e : cond (nat_eq j u.who) Spent (of_cell Spent (place n j u.who) u.parts) ≡ Reader g =
      ap (λ b. cond {A = V} b Spent (of_cell Spent (place n j u.who) u.parts)) (differ j u.who (λ h. ne (h ∙ same)))
      ∙ (ap (λ z. of_cell Spent (place n j z) u.parts) same ∙ is) in
      ap (λ z. let q = reader_or (first_reader o) z in
      record { answers = q.answers; numbers = q.numbers; known = q.known; told = q.told; heard = q.heard; times = q.times }) e

  -- a write: W1, W4 and W5 of the cell to process j
  pub a_write : (v : Process V) (kept kept' : Stored) (cs : List (ℕ × T)) (j : ℕ) (p : WriterNotes T) (b : Bool) (x : T) (a c d count : ℕ)
      (h1 h2 : List ℕ) (k : ℕ) → k ≡ place n v.who j → j < n → j ≢ v.who → IsAtRest o n v kept cs → of_cell Spent k v.parts ≡ Writer p →
      p.opening.value ≡ o → v.clock < a → a < c → c < d →
      let q = finished_with (stored_by (begun_with p b x a) c) count d in
      let u = knows Spent (knows Spent (knows Spent v k (Writer (begun_with p b x a)) a h1) k
      (Writer (stored_by (begun_with p b x a) c)) c h2) k
      (Writer q) d (held_slots cs) in
      IsNewRow kept kept' j (bit_words q.remembered) (bit_number q.latest) → last_or o (p.written ++ x ∷ []) ≡ x →
      IsAtRest o n u kept' cs × IsAccess 3 v.clock u.clock v.times u.times (writes_to o n v j).times (writes_to o n u j).times
      × IsWriteAccess (writes_to o n v j) (writes_to o n u j) x × KeepsOthers j (writes_to o n v) (writes_to o n u)
      × KeepsEach (reads_from o n v) (reads_from o n u)
  a_write v kept kept' cs j p b x a c d count h1 h2 k place_is lj ne r is opened la lc ld row newest =
      let p1 : WriterNotes T = begun_with p b x a in
      let p2 : WriterNotes T = stored_by p1 c in
      let q : WriterNotes T = finished_with p2 count d in
      let v1 : Process V = knows Spent v k (Writer p1) a h1 in
      let v2 : Process V = knows Spent v1 k (Writer p2) c h2 in
      let u : Process V = knows Spent v2 k (Writer q) d (held_slots cs) in
      let has : k < length v.parts = let e : length v.parts ≡ n * n = r.parts in
      let l : place n v.who j < n * n = place_in n v.who j r.inside lj ne in
      omega arith in
      let one = changed Spent v k a (Writer p1) h1 has in
      let two = changed_again Spent v v1 k c (Writer p1) (Writer p2) h2 has one in
      let all = changed_again Spent v v2 k d (Writer p2) (Writer q) (held_slots cs) has two in
      let there : IsChanged Spent v u (place n v.who j) (Writer q) = subst (λ z. IsChanged Spent v u z (Writer q)) place_is all in
      let before = sees_writes v v.who j p ne refl (subst (λ z. of_cell Spent z v.parts ≡ Writer p) place_is is) in
      let after = sees_writes u v.who j q ne refl there.here in (
        rest_write o n v u kept kept' cs j q lj ne r there refl opened (sym newest) row refl,
        subst (λ (z : Times × Times). IsAccess 3 v.clock d v.times u.times z.0 z.1) (λ i. ((sym before i).times, (sym after i).times))
            (access_of v.times v.clock a c d p.times q.times la lc ld refl refl),
        record { items = ap (λ z. z.items) after ∙ ap (λ z. z.items ++ x ∷ []) (sym before) },
        λ i di. other_writes o n v u (place n v.who j) (Writer q) there i (λ nw e. di (row_apart n v.who i j nw ne e)),
        λ i. same_reads o n v u k (Writer q) all (ap (reader_or (first_reader o)) (sym is)) i,
      )

  -- a read: R1, R2 and R3 of the cell from process j
  pub a_read : (v : Process V) (kept kept' : Stored) (before behind : List (ℕ × T)) (j : ℕ) (g : ReaderNotes T) (b : Bool) (x : T)
      (a c d number count : ℕ) (bit : Bool) (writes : Known T) (h1 h2 : List ℕ) (k : ℕ) → k ≡ place n j v.who → j < n → j ≢ v.who →
      IsAtRest o n v kept (before ++ (shift (slot_at k) (slot_of_choice g.chosen g.at_hand.value) ++ behind)) →
      of_cell Spent k v.parts ≡ Reader g → g.opening.value ≡ o → v.clock < a → a < c → c < d →
      let g2 = said_with (asked_by g b a) count c in
      let h = got_by g2 bit x d number writes in
      let u = knows Spent (knows Spent (knows Spent v k (Reader (asked_by g b a)) a h1) k (Reader g2) c h2) k (Reader h) d
      (held_slots ((slot_at k (slot_number (slot_with b bit)), x) ∷ (before ++ behind))) in
      HasAnswered g2 h x → AreHeeded g.heard writes number → IsNewColumn kept kept' j (slot_number (slot_with b bit)) →
      IsAtRest o n u kept' ((slot_at k (slot_number (slot_with b bit)), x) ∷ (before ++ behind))
      × IsAccess 3 v.clock u.clock v.times u.times (reads_from o n v j).times (reads_from o n u j).times
      × IsReadAccess o (reads_from o n v j) (reads_from o n u j) x × KeepsOthers j (reads_from o n v) (reads_from o n u)
      × KeepsEach (writes_to o n v) (writes_to o n u)
  a_read v kept kept' before behind j g b x a c d number count bit writes h1 h2 k place_is lj ne r is opened la lc ld answered heeded
      column =
      let g1 : ReaderNotes T = asked_by g b a in
      let g2 : ReaderNotes T = said_with g1 count c in
      let h : ReaderNotes T = got_by g2 bit x d number writes in
      let slot : ℕ × T = (slot_at k (slot_number (slot_with b bit)), x) in
      let v1 : Process V = knows Spent v k (Reader g1) a h1 in
      let v2 : Process V = knows Spent v1 k (Reader g2) c h2 in
      let u : Process V = knows Spent v2 k (Reader h) d (held_slots (slot ∷ (before ++ behind))) in
      let has : k < length v.parts = let e : length v.parts ≡ n * n = r.parts in
      let l : place n j v.who < n * n = place_in n j v.who lj r.inside (λ q. ne (sym q)) in
      omega arith in
      let one = changed Spent v k a (Reader g1) h1 has in
      let two = changed_again Spent v v1 k c (Reader g1) (Reader g2) h2 has one in
      let all = changed_again Spent v v2 k d (Reader g2) (Reader h) (held_slots (slot ∷ (before ++ behind))) has two in
      let there : IsChanged Spent v u (place n j v.who) (Reader h) = subst (λ z. IsChanged Spent v u z (Reader h)) place_is all in
      let old = sees_reads v v.who j g ne refl (subst (λ z. of_cell Spent z v.parts ≡ Reader g) place_is is) in
      let new = sees_reads u v.who j h ne refl there.here in (
        rest_read o n v u kept kept' before behind slot j g h lj ne
            (subst (λ z. IsAtRest o n v kept
            (before ++ (shift (slot_at z) (slot_of_choice g.chosen g.at_hand.value) ++ behind))) place_is r) there refl opened
            (sym (last_snoc o g.answers x))
            (subst (λ z. HasSlots z h (slot ∷ (before ++ behind))) place_is ([], before ++ behind, refl)) column refl,
        subst (λ (z : Times × Times). IsAccess 3 v.clock d v.times u.times z.0 z.1) (λ i. ((sym old i).times, (sym new i).times))
            (access_of v.times v.clock a c d g.times h.times la lc ld refl refl),
        subst (λ (z : ReadAccesses T × ReadAccesses T). IsReadAccess o z.0 z.1 x) (λ i. (sym old i, sym new i)) (record {
          answers = refl;
          numbered = subst (λ z. IsNextAnswer z g.known h.known g.numbers h.numbers h.answers h.times x) opened answered;
          told = refl;
          heard = refl;
          heeds = subst (AreHeeded g.heard writes) (sym (last_snoc 0 g.numbers number)) heeded;
        }),
        λ i di. other_reads o n v u (place n j v.who) (Reader h) there i (λ nw e. di (column_apart n i j v.who lj r.inside ne nw e)),
        λ i. same_writes o n v u k (Reader h) all (ap (writer_or (first_writer o)) (sym is)) i,
      )
