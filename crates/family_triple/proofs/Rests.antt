-- Between two calls: a call on one cell leaves what the process knows of each other cell, and the slots that its seat has of them.
use Rattle.std.proofs.Common.{◌≡◌, ◌≢◌, ℕ, ◌+◌, ◌*◌, ◌-◌, ◌<◌, List, length, set, get_or, sym, ap, ◌∙◌, subst, arith, ⊎_elim}
use Rattle.std.proofs.lemmas.Bool.{cases_eq}
use mathlib.Core.Option.{some}
use lib.ListN.{get_elem?}
use Rattle.cell_contract.specs.Running.{held_slots, last_or}
use Rattle.cell_contract.specs.declared.sight.Sight.TheVariants.{Spent, Writer, Reader}
use Rattle.cell_triple.specs.declared.notes.WriterNotes.{WriterNotes}
use Rattle.cell_triple.specs.declared.notes.ReaderNotes.{ReaderNotes}
use Rattle.cell_triple.specs.Steps.{TripleSight, receipt_for}
use Rattle.family_table.specs.declared.notes.Process.{Process}
use Rattle.family_table.specs.Family.{of_cell}
use Rattle.family_table.specs.Places.{place, writer_of}
use Rattle.family_table.proofs.Places.{place_in, place_apart, writer_there}
use Rattle.family_table.proofs.Slices.{get_set_here, get_set_else, set_long}
use Rattle.history_core.specs.Others.{other}
use Rattle.family_triple.specs.Places.{among, slot_at}
use Rattle.family_triple.specs.Steps.{goes_on}
use Rattle.family_triple.specs.Tables.{IsRotated}
use Rattle.family_triple.specs.Words.{IsRow, IsColumn, IsAtRest}
use Rattle.family_triple.proofs.Places.{among_small, other_among}
use Rattle.family_triple.proofs.Calls.{row_apart, column_apart}

-- one element of a list is another
pub record Replaced {A : Type 0} (xs ys : List A) (at : ℕ) (x : A) : Type 0 where
  pub here : get_elem? ys at ≡ some x
  pub others : (i : ℕ) → i ≢ at → get_elem? ys i ≡ get_elem? xs i
  pub long : length ys ≡ length xs

among_apart : (i j h : ℕ) → j ≢ i → h ≢ i → j ≢ h → among i j ≢ among i h
among_apart i j h nj nh d e = d (sym (other_among i j nj) ∙ (ap (other i) e ∙ other_among i h nh))

module _ {T : Type 0} (o : T) (n : ℕ) where
  abbrev V : Type 0
  V = TripleSight T

  -- after a write to process j
  pub rest_write : (v : Process V) (fills fills' reads : List ℕ) (cs cs' : List (ℕ × T)) (j : ℕ) (p : WriterNotes T) (y : T) (clock : ℕ)
      (times held : List ℕ) → j < n → j ≢ v.who → IsAtRest o n v fills reads cs → p.has ≡ 1 → p.opening.value ≡ o → p.slot < 3 →
      length fills' ≡ length fills → get_or fills' j 0 ≡ p.slot → ((i : ℕ) → i ≢ j → get_or fills' i 0 ≡ get_or fills i 0) →
      Replaced cs cs' (among v.who j) (slot_at (place n v.who j) p.slot, y) → IsRotated held (held_slots cs') →
      IsAtRest o n (goes_on v (place n v.who j) (Writer p) clock times held) fills' reads cs'
  rest_write v fills fills' reads cs cs' j p y clock times held lj ne r took opened low size number same new turned =
      let k : ℕ = place n v.who j in
      let l : place n v.who j < n * n = place_in n v.who j r.inside lj ne in
      let parts : length v.parts ≡ n * n = r.parts in
      let has : k < length v.parts = omega arith in
      let m : among v.who j < n - 1 = among_small n v.who j r.inside lj ne in
      record {
        inside = r.inside;
        parts = set_long v.parts k (Writer p) ∙ r.parts;
        held = turned;
        many = new.long ∙ r.many;
        sized = (size ∙ r.sized.0, r.sized.1);
        quiet = λ i nw.
            let away : i ≢ k = λ e. nw (ap (writer_of n) e ∙ writer_there n v.who j r.inside lj ne) in
            ap receipt_for (get_set_else v.parts k i (Writer p) Spent away) ∙ r.quiet i nw;
        row = λ i li nw. ⊎_elim
            (λ (e : i ≡ j). subst (λ z. IsRow o (place n v.who z) (of_cell Spent (place n v.who z) (set v.parts k (Writer p))) cs'
            (among v.who z)
            (get_or fills' z 0)) (sym e)
            (record {
              notes = p;
              is = get_set_here v.parts k (Writer p) Spent has;
              took = took;
              opened = opened;
              low = low;
              numbered = sym number;
              record_there = y;
              slot = new.here;
            }))
            (λ (d : i ≢ j).
            let old = r.row i li nw in
            record {
              notes = old.notes;
              is = get_set_else v.parts k (place n v.who i) (Writer p) Spent (row_apart n v.who i j nw ne d) ∙ old.is;
              took = old.took;
              opened = old.opened;
              low = old.low;
              numbered = old.numbered ∙ sym (same i d);
              record_there = old.record_there;
              slot = new.others (among v.who i) (among_apart v.who i j nw ne d) ∙ old.slot;
            })
            (cases_eq i j);
        column = λ i li nw.
            let old = r.column i li nw in
            let away : place n i v.who ≢ k = λ e. nw (place_apart n i v.who v.who j li r.inside (λ h. nw (sym h)) r.inside lj ne e).0 in
            record {
              notes = old.notes;
              is = get_set_else v.parts k (place n i v.who) (Writer p) Spent away ∙ old.is;
              took = old.took;
              free = old.free;
              opened = old.opened;
              low = old.low;
              numbered = old.numbered;
              slot = new.others ((n - 1) + among v.who i) (λ (e : (n - 1) + among v.who i ≡ among v.who j). absurd (omega arith))
                  ∙ old.slot;
              last = old.last;
            };
      }

  -- and after a read from process j
  pub rest_read : (v : Process V) (fills reads reads' : List ℕ) (cs cs' : List (ℕ × T)) (j : ℕ) (g : ReaderNotes T) (clock : ℕ)
      (times held : List ℕ) → j < n → j ≢ v.who → IsAtRest o n v fills reads cs → g.has ≡ 1 → g.asked ≡ 0 → g.opening.value ≡ o →
      g.at_hand.value ≡ last_or o g.answers → g.slot < 3 → length reads' ≡ length reads → get_or reads' j 0 ≡ g.slot →
      ((i : ℕ) → i ≢ j → get_or reads' i 0 ≡ get_or reads i 0) →
      Replaced cs cs' ((n - 1) + among v.who j) (slot_at (place n j v.who) g.slot, g.at_hand.value) → IsRotated held (held_slots cs') →
      IsAtRest o n (goes_on v (place n j v.who) (Reader g) clock times held) fills reads' cs'
  rest_read v fills reads reads' cs cs' j g clock times held lj ne r took free opened last low size number same new turned =
      let k : ℕ = place n j v.who in
      let l : place n j v.who < n * n = place_in n j v.who lj r.inside (λ e. ne (sym e)) in
      let parts : length v.parts ≡ n * n = r.parts in
      let has : k < length v.parts = omega arith in
      record {
        inside = r.inside;
        parts = set_long v.parts k (Reader g) ∙ r.parts;
        held = turned;
        many = new.long ∙ r.many;
        sized = (r.sized.0, size ∙ r.sized.1);
        quiet = λ i nw. ⊎_elim
            (λ (e : i ≡ k). ap (λ z. receipt_for (of_cell Spent z (set v.parts k (Reader g)))) e
            ∙ ap receipt_for (get_set_here v.parts k (Reader g) Spent has))
            (λ (away : i ≢ k). ap receipt_for (get_set_else v.parts k i (Reader g) Spent away) ∙ r.quiet i nw)
            (cases_eq i k);
        row = λ i li nw.
            let old = r.row i li nw in
            let away : place n v.who i ≢ k =
            λ e. ne (sym (place_apart n v.who i j v.who r.inside li nw lj r.inside (λ h. ne (sym h)) e).0) in
            let m : among v.who i < n - 1 = among_small n v.who i r.inside li nw in
            record {
              notes = old.notes;
              is = get_set_else v.parts k (place n v.who i) (Reader g) Spent away ∙ old.is;
              took = old.took;
              opened = old.opened;
              low = old.low;
              numbered = old.numbered;
              record_there = old.record_there;
              slot = new.others (among v.who i) (λ (e : among v.who i ≡ (n - 1) + among v.who j). absurd (omega arith)) ∙ old.slot;
            };
        column = λ i li nw. ⊎_elim
            (λ (e : i ≡ j). subst (λ z. IsColumn o (place n z v.who) (of_cell Spent (place n z v.who) (set v.parts k (Reader g))) cs'
            ((n - 1) + among v.who z) (get_or reads' z 0)) (sym e) (record {
              notes = g;
              is = get_set_here v.parts k (Reader g) Spent has;
              took = took;
              free = free;
              opened = opened;
              low = low;
              numbered = sym number;
              slot = new.here;
              last = last;
            }))
            (λ (d : i ≢ j).
            let old = r.column i li nw in
            record {
              notes = old.notes;
              is = get_set_else v.parts k (place n i v.who) (Reader g) Spent (column_apart n i j v.who lj r.inside ne nw d) ∙ old.is;
              took = old.took;
              free = old.free;
              opened = old.opened;
              low = old.low;
              numbered = old.numbered ∙ sym (same i d);
              slot = new.others ((n - 1) + among v.who i)
                  (λ (e : (n - 1) + among v.who i ≡ (n - 1) + among v.who j). among_apart v.who i j nw ne d (omega arith)) ∙ old.slot;
              last = old.last;
            })
            (cases_eq i j);
      }
