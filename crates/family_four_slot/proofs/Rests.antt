-- Between two calls: a call on one cell leaves what the process knows of each other cell, and the slots that its seat has of them.
use Rattle.std.proofs.Common.{◌≡◌, ◌≢◌, ℕ, ◌<◌, ◌≤◌, List, [], ◌∷◌, ◌++◌, length, get_or, refl, sym, ap, ◌∙◌, subst, ⊎_elim}
use Rattle.std.proofs.lemmas.Bool.{cases_eq}
use Rattle.std.specs.Prelude.{Option, None, Some}
use Rattle.four_slot_core.specs.declared.state.Slot.{Slot}
use Rattle.four_slot_core.specs.declared.state.Stage.TheVariants as writer
use Rattle.four_slot_core.specs.declared.state.ReaderStage.TheVariants as reader
use Rattle.four_slot_core.specs.Events.{bit_number, slot_number}
use Rattle.cell_contract.specs.Running.{last_or, held_slots}
use Rattle.cell_four_slot.specs.declared.notes.WriterNotes.{WriterNotes}
use Rattle.cell_four_slot.specs.declared.notes.ReaderNotes.{ReaderNotes}
use Rattle.cell_contract.specs.declared.sight.Sight.TheVariants.{Spent, Writer, Reader}
use Rattle.cell_four_slot.specs.Steps.{FourSlotSight, bit_words, slot_of_choice, receipt_for}
use Rattle.cell_four_slot.proofs.Slots.{slot_low}
use Rattle.family_four_slot.specs.declared.family.Stored.{Stored}
use Rattle.family_table.specs.declared.notes.Process.{Process}
use Rattle.family_table.specs.Layouts.{shift}
use Rattle.family_table.specs.Places.{place, writer_of}
use Rattle.family_four_slot.specs.Places.{slot_at}
use Rattle.family_table.specs.Family.{of_cell}
use Rattle.family_four_slot.specs.FourSlots.{Idle}
use Rattle.family_four_slot.specs.declared.family.Shown.{Shown}
use Rattle.family_four_slot.specs.Words.{none_shown, number_chosen, shown_to, IsAtRest, IsRow, IsColumn, HasSlots}
use Rattle.family_table.proofs.Places.{place_apart, writer_there}
use Rattle.family_four_slot.specs.Laid.{is_layout}
use Rattle.family_table.proofs.Frames.{IsChanged}

-- a seat remembers what it stored last in the cell to process j, or the slot that it took in the one from it, and of the others what it did
pub record IsNewRow (kept kept' : Stored) (j : ℕ) (bits : List ℕ) (latest : ℕ) : Type 0 where
  pub here : (bits ≡ (shown_to kept' j).bits) × ((shown_to kept' j).latest ≡ latest)
  pub others : (i : ℕ) → i ≢ j → shown_to kept' i ≡ shown_to kept i
  pub long : length kept'.shown ≡ length kept.shown
  pub reads : kept'.reads ≡ kept.reads

pub record IsNewColumn (kept kept' : Stored) (j slot : ℕ) : Type 0 where
  pub here : get_or kept'.reads j 0 ≡ slot
  pub others : (i : ℕ) → i ≢ j → get_or kept'.reads i 0 ≡ get_or kept.reads i 0
  pub long : length kept'.reads ≡ length kept.reads
  pub shown : kept'.shown ≡ kept.shown

-- of two elements of a list, one is taken away
module _ {A : Type 0} where
  pub split_less : (xs ys zs ws : List A) (x y : A) → x ≢ y → xs ++ x ∷ ys ≡ zs ++ y ∷ ws →
      (fs : List A) × (bs : List A) × (zs ++ ws ≡ fs ++ x ∷ bs)
  split_less [] ys [] ws x y ne e = absurd (ne (heads x y ys ws e)) where
    head_or : A → List A → A
    head_or d [] = d
    head_or d (a ∷ fs) = a

    heads : (a b : A) (fs bs : List A) → a ∷ fs ≡ b ∷ bs → a ≡ b
    heads a b fs bs h = ap (head_or a) h
  split_less [] ys (z ∷ zs) ws x y ne e = ([], zs ++ ws, (λ i. head_of x (sym e i) ∷ (zs ++ ws))) where
    head_of : A → List A → A
    head_of d [] = d
    head_of d (a ∷ fs) = a
  split_less (a ∷ xs) ys [] ws x y ne e = (xs, ys, sym (ap tail_of e)) where
    tail_of : List A → List A
    tail_of [] = []
    tail_of (b ∷ bs) = bs
  split_less (a ∷ xs) ys (z ∷ zs) ws x y ne e =
      let t = split_less xs ys zs ws x y ne (ap tail_of e) in (z ∷ t.0, t.1, ap (λ cs. z ∷ cs) t.2) where
        tail_of : List A → List A
        tail_of [] = []
        tail_of (b ∷ bs) = bs

module _ {T : Type 0} where
  -- the slots of other cells stay, where a cell's are given back and another slot of it is taken
  pub slots_stay : (n k j : ℕ) (g h : ReaderNotes T) (before behind : List (ℕ × T)) (y : ℕ × T) → j ≢ k →
      HasSlots j h (before ++ (shift (slot_at k) (slot_of_choice g.chosen g.at_hand.value) ++ behind)) →
      HasSlots j h (y ∷ (before ++ behind))
  slots_stay n k j g h before behind y ne has = stays h.chosen g.chosen has.0 has.1 has.2 where
    stays : (ch mine : Option Slot) (xs ys : List (ℕ × T)) →
        before ++ (shift (slot_at k) (slot_of_choice mine g.at_hand.value) ++ behind) ≡ xs ++
        (shift (slot_at j) (slot_of_choice ch h.at_hand.value) ++ ys) →
        (fs : List (ℕ × T)) × (bs : List (ℕ × T))
        × (y ∷ (before ++ behind) ≡ fs ++ (shift (slot_at j) (slot_of_choice ch h.at_hand.value) ++ bs))
    stays None mine xs ys e = ([], y ∷ (before ++ behind), refl)
    stays (Some s) None xs ys e = (y ∷ xs, ys, ap (λ zs. y ∷ zs) e)
    stays (Some s) (Some t) xs ys e =
        let a : ℕ × T = (slot_at j (slot_number s), h.at_hand.value) in
        let b : ℕ × T = (slot_at k (slot_number t), g.at_hand.value) in
        let apart : a ≢ b = λ same. ne
        ((is_layout n).slot_apart j (slot_number s) k (slot_number t) (slot_low s) (slot_low t) (ap (λ z. z.0) same)).0 in
        let x = split_less xs ys before behind a b apart (sym e) in
        (y ∷ x.0, x.1, ap (λ zs. y ∷ zs) x.2)

module _ {T : Type 0} (o : T) (n : ℕ) where
  abbrev V : Type 0
  V = FourSlotSight T

  -- a process at rest, after a write to process j
  pub rest_write : (v u : Process V) (kept kept' : Stored) (cs : List (ℕ × T)) (j : ℕ) (p : WriterNotes T) → j < n → j ≢ v.who →
      IsAtRest o n v kept cs → IsChanged Spent v u (place n v.who j) (Writer p) → p.stage ≡ writer.W5 → p.opening.value ≡ o →
      p.finished.value ≡ last_or o p.written → IsNewRow kept kept' j (bit_words p.remembered) (bit_number p.latest) →
      u.held ≡ held_slots cs → IsAtRest o n u kept' cs
  rest_write v u kept kept' cs j p lj ne r c idle opened newest kept_row held =
      let k : ℕ = place n v.who j in
      let who : u.who ≡ v.who = c.who in
      let mine : (i : ℕ) → i < n → i ≢ v.who → i ≢ j → place n v.who i ≢ k =
      λ i li nw nj e. nj (place_apart n v.who i v.who j r.inside li nw r.inside lj ne e).1 in
      let theirs : (i : ℕ) → i < n → i ≢ v.who → place n i v.who ≢ k =
      λ i li nw e. nw (place_apart n i v.who v.who j li r.inside (λ h. nw (sym h)) r.inside lj ne e).0 in
      record {
        inside = subst (λ z. z < n) (sym who) r.inside;
        parts = c.long ∙ r.parts;
        held = held;
        idle = λ i. ⊎_elim (λ (e : i ≡ k). subst Idle (sym (ap (λ z. of_cell Spent z u.parts) e ∙ c.here)) idle)
            (λ (d : i ≢ k). subst Idle (sym (c.others i d)) (r.idle i)) (cases_eq i k);
        quiet = λ i nw.
            let away : i ≢ k = λ e. nw (ap (writer_of n) e ∙ (writer_there n v.who j r.inside lj ne ∙ sym who)) in
            ap receipt_for (c.others i away) ∙ r.quiet i (λ e. nw (e ∙ sym who));
        long = (
          subst (λ z. n ≤ z) (sym kept_row.long) r.long.0,
          subst (λ (zs : List ℕ). n ≤ length zs) (sym kept_row.reads) r.long.1,
        );
        row = λ i li nw.
            let other : i ≢ v.who = λ h. nw (h ∙ sym who) in
            subst (λ z. IsRow o (of_cell Spent (place n z i) u.parts) (shown_to kept' i).bits (shown_to kept' i).latest) (sym who) (⊎_elim
            (λ (e : i ≡ j). subst (λ z. IsRow o (of_cell Spent (place n v.who z) u.parts) (shown_to kept' z).bits (shown_to kept' z).latest)
            (sym e)
            (record {
              notes = p;
              is = c.here;
              idle = idle;
              opened = opened;
              newest = newest;
              bits = kept_row.here.0;
              shown = kept_row.here.1;
            }))
            (λ (d : i ≢ j). subst (λ (z : V × Shown). IsRow o z.0 z.1.bits z.1.latest)
            (λ h. (sym (c.others (place n v.who i) (mine i li other d)) h, sym (kept_row.others i d) h))
            (r.row i li other))
            (cases_eq i j));
        column = λ i li nw.
            let other : i ≢ v.who = λ h. nw (h ∙ sym who) in
            subst (λ z. IsColumn o (place n i z) (of_cell Spent (place n i z) u.parts) (get_or kept'.reads i 0) cs) (sym who)
            (subst (λ (z : V × ℕ). IsColumn o (place n i v.who) z.0 z.1 cs)
            (λ h. (sym (c.others (place n i v.who) (theirs i li other)) h, get_or (sym kept_row.reads h) i 0)) (r.column i li other));
      }

  -- and after a read from process j
  pub rest_read : (v u : Process V) (kept kept' : Stored) (before behind : List (ℕ × T)) (y : ℕ × T) (j : ℕ) (g h : ReaderNotes T) → j < n →
      j ≢ v.who → IsAtRest o n v kept (before ++ (shift (slot_at (place n j v.who)) (slot_of_choice g.chosen g.at_hand.value) ++ behind)) →
      IsChanged Spent v u (place n j v.who) (Reader h) → h.stage ≡ reader.R5 → h.opening.value ≡ o →
      h.at_hand.value ≡ last_or o h.answers →
      HasSlots (place n j v.who) h (y ∷ (before ++ behind)) → IsNewColumn kept kept' j (number_chosen h.chosen) →
      u.held ≡ held_slots (y ∷ (before ++ behind)) → IsAtRest o n u kept' (y ∷ (before ++ behind))
  rest_read v u kept kept' before behind y j g h lj ne r c idle opened last slots kept_column held =
      let k : ℕ = place n j v.who in
      let who : u.who ≡ v.who = c.who in
      let mine : (i : ℕ) → i < n → i ≢ v.who → place n v.who i ≢ k =
      λ i li nw e. ne (sym (place_apart n v.who i j v.who r.inside li nw lj r.inside (λ q. ne (sym q)) e).0) in
      let theirs : (i : ℕ) → i < n → i ≢ v.who → i ≢ j → place n i v.who ≢ k =
      λ i li nw nj e. nj (place_apart n i v.who j v.who li r.inside (λ q. nw (sym q)) lj r.inside (λ q. ne (sym q)) e).0 in
      record {
        inside = subst (λ z. z < n) (sym who) r.inside;
        parts = c.long ∙ r.parts;
        held = held;
        idle = λ i. ⊎_elim (λ (e : i ≡ k). subst Idle (sym (ap (λ z. of_cell Spent z u.parts) e ∙ c.here)) idle)
            (λ (d : i ≢ k). subst Idle (sym (c.others i d)) (r.idle i)) (cases_eq i k);
        quiet = λ i nw. ⊎_elim (λ (e : i ≡ k). ap receipt_for (ap (λ z. of_cell Spent z u.parts) e ∙ c.here))
            (λ (d : i ≢ k). ap receipt_for (c.others i d) ∙ r.quiet i (λ e. nw (e ∙ sym who))) (cases_eq i k);
        long = (
          subst (λ (zs : List Shown). n ≤ length zs) (sym kept_column.shown) r.long.0,
          subst (λ z. n ≤ z) (sym kept_column.long) r.long.1,
        );
        row = λ i li nw.
            let other : i ≢ v.who = λ q. nw (q ∙ sym who) in
            subst (λ z. IsRow o (of_cell Spent (place n z i) u.parts) (shown_to kept' i).bits (shown_to kept' i).latest) (sym who)
            (subst (λ (z : V × List Shown). IsRow o z.0 (get_or z.1 i none_shown).bits (get_or z.1 i none_shown).latest)
            (λ q. (sym (c.others (place n v.who i) (mine i li other)) q, sym kept_column.shown q)) (r.row i li other));
        column = λ i li nw.
            let other : i ≢ v.who = λ q. nw (q ∙ sym who) in
            subst (λ z. IsColumn o (place n i z) (of_cell Spent (place n i z) u.parts) (get_or kept'.reads i 0) (y ∷ (before ++ behind)))
            (sym who) (⊎_elim
            (λ (e : i ≡ j). subst (λ z. IsColumn o (place n z v.who) (of_cell Spent (place n z v.who) u.parts) (get_or kept'.reads z 0)
            (y ∷ (before ++ behind)))
            (sym e) (record {
              notes = h;
              is = c.here;
              idle = idle;
              opened = opened;
              slots = slots;
              chosen = kept_column.here;
              last = last;
            }))
            (λ (d : i ≢ j).
            let old = r.column i li other in
            let away = theirs i li other d in
            subst (λ (z : V × ℕ). IsColumn o (place n i v.who) z.0 z.1 (y ∷ (before ++ behind)))
            (λ q. (sym (c.others (place n i v.who) away) q, sym (kept_column.others i d) q)) (record {
              notes = old.notes;
              is = old.is;
              idle = old.idle;
              opened = old.opened;
              slots = slots_stay n k (place n i v.who) g old.notes before behind y away old.slots;
              chosen = old.chosen;
              last = old.last;
            }))
            (cases_eq i j));
      }
