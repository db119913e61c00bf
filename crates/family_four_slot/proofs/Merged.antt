-- An access that makes two steps of the mechanism. One of them is a store that would find in its word what it stores. So the table after
-- both is as after the other one, but for the seat and its slots.
use Rattle.std.proofs.Common.{◌≡◌, ◌≢◌, ℕ, ◌+◌, ◌<◌, ◌≤◌, Bool, List, [], ◌∷◌, ◌++◌, map, length, get_or, set, refl, sym, ap, ◌∙◌, subst}
use Rattle.std.proofs.Common.{arith, ⊎_elim, inl, Option, None, Some}
use lib.Seq.{set-get_or}
use lib.ListN.{get_elem?}
use mathlib.Core.Option.{none, some}
use Rattle.std.proofs.lemmas.Bool.{cases_eq}
use Rattle.atomic_table.specs.Table.{State, Me, Act, chain, step, stepped, Valid, Allows, carried_after, homes_after}
use Rattle.atomic_table.proofs.Lists.{at_map, at_longer, set_here}
use Rattle.four_slot_core.specs.declared.state.Slot.{Slot}
use Rattle.four_slot_core.specs.declared.state.State.{State as Core}
use Rattle.four_slot_core.specs.declared.state.Stage.TheVariants as writer
use Rattle.four_slot_core.specs.declared.state.ReaderStage.TheVariants as reader
use Rattle.four_slot_core.specs.Events.{bit_number, slot_number, slot_with}
use Rattle.four_slot_core.specs.Invariant.{IsKept, IsSound}
use Rattle.cell_contract.specs.Intervals.{AreHeeded}
use Rattle.cell_contract.specs.Running.{held_slots, IsAnswer}
use Rattle.cell_contract.specs.declared.sight.Sight.TheVariants.{Spent, Writer, Reader}
use Rattle.cell_contract.specs.declared.times.Known.{Known}
use Rattle.cell_four_slot.specs.declared.notes.WriterNotes.{WriterNotes}
use Rattle.cell_four_slot.specs.declared.notes.ReaderNotes.{ReaderNotes}
use Rattle.cell_four_slot.specs.Rule.{FourSlotRule}
use Rattle.cell_four_slot.specs.Steps.{FourSlotSight, stored_by, finished_with, said_with, got_by, slot_of_choice, word_said, HasAnswered}
use Rattle.cell_four_slot.proofs.Clear.{word_reading}
use Rattle.cell_four_slot.proofs.Keeps.{shown_there}
use Rattle.cell_four_slot.proofs.Slots.{bit_low}
use Rattle.family_table.specs.declared.notes.Process.{Process}
use Rattle.family_table.specs.declared.notes.Receipt.{Receipt}
use Rattle.family_table.specs.declared.notes.View.{View}
use Rattle.family_table.specs.declared.notes.View.TheVariants.{Has}
use Rattle.family_table.specs.Layouts.{shift, Distinct, IsInCell, Out}
use Rattle.family_four_slot.specs.Places.{four_slots, word_at, slot_at}
use Rattle.family_table.specs.Family.{of_cell, cell}
use Rattle.family_four_slot.specs.FourSlots.{FourSlotFamily}
use Rattle.family_four_slot.specs.Plans.{MayGet, MayPublish}
use Rattle.family_four_slot.specs.Steps.{After, stores_on, takes_on, has_said, has_stored}
use Rattle.family_table.proofs.Acts.{homes_long}
use Rattle.family_four_slot.proofs.Again.{IsOne, one_after, one_there}
use Rattle.family_four_slot.specs.Laid.{is_layout}
use Rattle.family_table.proofs.Slices.{get_set_here, get_set_else, set_long, set_twice, within}
use Rattle.family_four_slot.proofs.Told.{has_one, writes_one, reads_one, says_ok, stores_ok, finishes_ok, takes_ok}

module _ {S V : Type 0} (holds : State S V → Type 0) where
  -- a step, and one that stores what is there
  and_then : (s : State S V) (i j n m id : ℕ) (cs : List (ℕ × S)) (w w' : V) (a a' : Act S) →
      holds (stepped (stepped s i n id cs w a) j m id (carried_after cs a) w' a') → get_or (set s.words i n) j 0 ≡ m →
      holds (stepped s i n id cs w' (chain a a'))
  and_then s i j n m id cs w w' a a' h e = subst holds (λ z. record {
    words = (ap (set (set s.words i n) j) (sym e) ∙ set-get_or (set s.words i n) j 0) z;
    homes = homes_after s.homes cs (chain a a');
    views = set_twice s.views id w w' z;
  }) h

  -- a store of what is there, and then a step
  then_step : (s : State S V) (i j n m id : ℕ) (cs : List (ℕ × S)) (w w' : V) (a a' : Act S) → get_or s.words j 0 ≡ m →
      holds (stepped (stepped s j m id cs w a) i n id (carried_after cs a) w' a') → holds (stepped s i n id cs w' (chain a a'))
  then_step s i j n m id cs w w' a a' e h = subst holds (λ z. record {
    words = set ((ap (set s.words j) (sym e) ∙ set-get_or s.words j 0) z) i n;
    homes = homes_after s.homes cs (chain a a');
    views = set_twice s.views id w w' z;
  }) h

module _ {T : Type 0} (fits : T → Type 0) (rises : T → T → Type 0) (o : T) (n : ℕ)
    (Plan : ℕ → Process (FourSlotSight T) → Type 0) where
  abbrev W : Type 0
  W = FourSlotSight T

  abbrev F : State T (View W) → Type 0
  F = FourSlotFamily fits rises o Plan n

  same_cell : (k j i h : ℕ) → i < 4 → h < 4 → word_at k i ≡ word_at j h → k ≡ j
  same_cell k j i h li lh e = ((is_layout n).word_apart k i j h li lh e).0

  -- what a seat of one process has is known of the process
  view_there : (s : State T (View W)) (r : F s) (id k : ℕ) (v : Process W) → get_elem? s.views id ≡ some (Has (v ∷ [])) →
      get_elem? (map (λ (p : Process W). of_cell Spent k p.parts) r.processes ++ map
      (λ (q : Receipt W). of_cell Spent k q.parts) r.receipts) v.who
      ≡ some (of_cell Spent k v.parts)
  view_there s r id k v at =
      let G : Process W → W = λ (p : Process W). of_cell Spent k p.parts in
      at_longer (map G r.processes) (map (λ (q : Receipt W). of_cell Spent k q.parts) r.receipts) v.who (G v)
      (at_map G r.processes v.who v (r.shows id (Has (v ∷ [])) at).0)

  -- `reading` has the pair that a read loaded, where the slot that it keeps is of that pair
  reading_is : (c : Core T) (last : T) (ch : Option Slot) (pair : Bool) → IsSound c last → c.reader ≡ reader.R1 → c.chosen ≡ ch →
      bit_number pair ≡ word_said ch → bit_number c.reading ≡ bit_number pair
  reading_is c last None pair sound loaded is e = let low = bit_low pair in absurd (omega arith)
  reading_is c last (Some k) pair sound loaded is e = ap bit_number (sound.kept k (subst IsKept (sym loaded) tt) is) ∙ sym e

  reading_there : (s : State T W) (r : FourSlotRule fits rises o s) (id : ℕ) (g : ReaderNotes T) → get_elem? s.views id ≡ some (Reader g) →
      g.stage ≡ reader.R1 → bit_number g.slot.pair ≡ word_said g.chosen → get_or s.words 1 0 ≡ bit_number g.slot.pair
  reading_there s r id g at stage said =
      let same : g ≡ r.get = (r.each_seat id (Reader g) at).0 in
      word_reading s.words s.homes r.get.at_hand.value r.core r.in_table
      ∙ reading_is r.core r.put.finished.value g.chosen g.slot.pair r.sound
      (r.in_views.reader_at ∙ (ap (λ (z : ReaderNotes T). z.stage) (sym same) ∙ stage))
      (r.in_views.chosen_is ∙ ap (λ (z : ReaderNotes T). z.chosen) (sym same)) said

  pub takes_on_ok : ((a : T) → rises a a) → ((a b c : T) → rises a b → rises b c → rises a c) → (slots id word k i : ℕ)
      (me : Me T (View W)) (v : Process W) (g : ReaderNotes T) (before behind : List (ℕ × T)) → word ≡ word_at k i →
      k < (four_slots n).cells → k < length v.parts → me.0 ≡ Has (v ∷ []) → of_cell Spent k v.parts ≡ Reader g →
      me.1 ≡ before ++ (shift (slot_at k) (slot_of_choice g.chosen g.at_hand.value) ++ behind) → v.held ≡ held_slots me.1 →
      g.stage ≡ reader.R1 → i ≡ 2 + bit_number g.slot.pair → i < 4 → bit_number g.slot.pair ≡ word_said g.chosen → MayGet Plan k v g →
      Allows F slots id me word (λ m. m) (takes_on fits rises (step slots word 0 0 none) me)
  takes_on_ok same_law along slots id word k i me v g before behind at lk has who is slots_are held stage place li kept may
      s r long seen small =
      let found : ℕ = get_or s.words word 0 in
      let pair : ℕ = bit_number g.slot.pair in
      let told : (m' : Me T (View W)) → ℕ → Process W → ReaderNotes T → Type 0 =
      λ m' j u q. (c : ℕ) × (xs : List (ℕ × T)) × (ys : List (ℕ × T)) × (b : Bool) × (x : T) × (t : ℕ) × (number : ℕ)
      × (writes : Known T) × (me.1 ≡ xs ++ (shift (slot_at j) (slot_of_choice q.chosen q.at_hand.value) ++ ys))
      × (u.clock < c) × (found ≡ bit_number b)
      × After (has_said u j q 0 c (xs ++ ys)) j (Reader (got_by (said_with q 0 c) b x t number writes)) t
      ((slot_at j (slot_number (slot_with q.slot.pair b)), x) ∷ (xs ++ ys)) m'
      × IsAnswer fits rises q.opening.value q.answers q.told x
      × HasAnswered (said_with q 0 c) (got_by (said_with q 0 c) b x t number writes) x × AreHeeded q.heard writes number
      × (q.chosen ≡ Some (slot_with q.slot.pair b) → x ≡ q.at_hand.value) in
      let tied : (m' : Me T (View W)) → told m' k v g → takes_on fits rises (step slots word 0 0 none) me found m' =
      (λ m' h j i' u q li' at' who' is'. tie (told m') j u q (same_cell k j i i' li li' (sym at ∙ at'))
      (has_one v u (sym who ∙ who')) is' h) in
      let there : get_or s.words (word_at k 1) 0 ≡ pair =
      reading_there (cell Spent (four_slots n) k s.words s.homes r.processes r.receipts) (r.cells k lk).0 v.who g
      (view_there s r id k v (seen ∙ ap some who) ∙ ap some is) stage kept in
      let low : pair ≤ 1 = bit_low g.slot.pair in
      let x = says_ok fits rises o n Plan 0 (omega arith) slots id (word_at k 1) k pair me v g before behind refl lk has who is slots_are
      held stage refl may.0 s r long seen (omega (arith, there, low)) in
      let d = x.4 k v g refl who is in
      let c : ℕ = d.2 in
      let rest : List (ℕ × T) = d.0 ++ d.1 in
      let a1 : Act T = x.1 in
      let me1 : Me T (View W) = (x.0, carried_after me.1 a1) in
      let s1 : State T (View W) = stepped s (word_at k 1) pair id me.1 x.0 a1 in
      let g1 : ReaderNotes T = said_with g 0 c in
      let v1 : Process W = has_said v k g 0 c rest in
      let found1 : ℕ = get_or s1.words word 0 in
      let same : found1 ≡ found =
      ap (λ zs. get_or zs word 0) (ap (set s.words (word_at k 1)) (sym there) ∙ set-get_or s.words (word_at k 1) 0) in
      let known : of_cell Spent k v1.parts ≡ Reader g1 = get_set_here v.parts k (Reader g1) Spent has in
      let y = takes_ok fits rises o n Plan same_law along slots id word k i me1 v1 g1 at lk
      (subst (λ z. k < z) (sym (set_long v.parts k (Reader g1))) has) d.5.1 known (ap held_slots (sym d.5.2)) refl place li
      (may.1 0 c (held_slots rest) d.5.0) s1 x.3 (homes_long s.homes me.1 a1 ∙ long)
      (set_here s.views id x.0 (within s.views id me.0 seen)) (subst (λ z. z < 18446744073709551616) (sym same) small) in
      let a2 : Act T = y.1 in
      let m2 : Me T (View W) = (y.0, carried_after me.1 (chain a1 a2)) in
      let z = y.4 k i v1 g1 li at d.5.1 known in
      let b : Bool = z.0 in
      let answer : T = z.1 in
      let taken : ℕ = slot_at k (slot_number (slot_with g.slot.pair b)) in
      let again : g.chosen ≡ Some (slot_with g.slot.pair b) → answer ≡ g.at_hand.value =
      (λ chosen.
      let split : me.1 ≡ before ++ (taken, g.at_hand.value) ∷ behind =
      slots_are ∙ ap (λ ch. before ++ (shift (slot_at k) (slot_of_choice ch g.at_hand.value) ++ behind)) chosen in
      let away = r.away v.who v (r.shows id (Has (v ∷ [])) (seen ∙ ap some who)).0 in
      let mine : v.held ≡ held_slots (before ++ (taken, g.at_hand.value) ∷ behind) = held ∙ ap held_slots split in
      let one : IsOne taken g.at_hand.value s.homes me.1 = subst (IsOne taken g.at_hand.value s.homes) (sym split)
      (one_there taken g.at_hand.value s.homes before behind (subst (Out s.homes) mine away.0) (subst Distinct mine away.1)) in
      (one_after taken g.at_hand.value s.homes me.1 (chain a1 a2) one (x.2, y.2)).carried answer
      (subst (IsInCell (taken, answer)) (sym z.7.2) (inl refl))) in (
        y.0,
        chain a1 a2,
        (x.2, y.2),
        subst (λ m. F (stepped s word m id me.1 y.0 (chain a1 a2))) same
            (then_step F s word (word_at k 1) found1 pair id me.1 x.0 y.0 a1 a2 there y.3),
        tied m2 (
          c,
          d.0,
          d.1,
          b,
          answer,
          z.2,
          z.3,
          z.4,
          d.3,
          d.5.0,
          sym same ∙ z.5,
          subst (λ zs. After v1 k (Reader (got_by g1 b answer z.2 z.3 z.4)) z.2 ((taken, answer) ∷ zs) m2) d.5.2 z.7,
          z.8,
          z.9,
          z.10,
          again,
        ),
      ) where
        tie : (P : ℕ → Process W → ReaderNotes T → Type 0) (j : ℕ) (u : Process W) (q : ReaderNotes T) → k ≡ j → v ≡ u →
            of_cell Spent j u.parts ≡ Reader q → P k v g → P j u q
        tie P j u q same_k same_v is' h =
            let both : g ≡ q = reads_one g q (sym is ∙ ((λ i. of_cell Spent (same_k i) (same_v i).parts) ∙ is')) in
            subst (λ (z : ℕ × Process W × ReaderNotes T). P z.0 z.1 z.2) (λ i. (same_k i, same_v i, both i)) h

  pub stores_on_ok : (slots id word k i new : ℕ) (me : Me T (View W)) (v : Process W) (p : WriterNotes T) (cs : List (ℕ × T)) →
      word ≡ word_at k i → k < (four_slots n).cells → k < length v.parts → me.0 ≡ Has (v ∷ []) → of_cell Spent k v.parts ≡ Writer p →
      me.1 ≡ (slot_at k (slot_number p.slot), p.item.value) ∷ cs → v.held ≡ held_slots me.1 → p.stage ≡ writer.W3 →
      i ≡ 2 + bit_number p.slot.pair → i < 4 → new ≡ bit_number p.slot.index → MayPublish Plan k v p →
      Allows F slots id me word (λ _. new) (λ _. stores_on (step slots word new 0 none) me new)
  stores_on_ok slots id word k i new me v p cs at lk has who is slots_are held stage place li to may s r long seen small =
      let x = stores_ok fits rises o n Plan slots id word k i new me v p cs at lk has who is slots_are held stage place li to may.0
      s r long seen small in
      let Result : Type 0 = (w : View W) × (a : Act T) × Valid s.homes me.1 a × F (stepped s word new id me.1 w a)
      × stores_on (step slots word new 0 none) me new (w, carried_after me.1 a) in
      let told : (m' : Me T (View W)) → ℕ → Process W → WriterNotes T → List (ℕ × T) → Type 0 = λ m' j u q ds. (t : ℕ) × (u.clock < t)
      × (bit_number q.slot.pair ≢ bit_number q.latest → After u j (Writer (stored_by q t)) t ds m')
      × (bit_number q.slot.pair ≡ bit_number q.latest →
      (y : ℕ) × After (has_stored u j q t ds) j (Writer (finished_with (stored_by q t) 0 y)) y ds m') in
      let tied : (m' : Me T (View W)) → told m' k v p cs → stores_on (step slots word new 0 none) me new m' =
      (λ m' h j i' u q ds li' at' who' is' held'.
      tie (told m') j u q ds (same_cell k j i i' li li' (sym at ∙ at')) (has_one v u (sym who ∙ who')) is'
      (ap rest_of (sym slots_are ∙ held')) h) in
      let d = x.4 k i v p cs li at who is slots_are in
      let t : ℕ = d.0 in
      let p1 : WriterNotes T = stored_by p t in
      let v1 : Process W = has_stored v k p t cs in
      let a1 : Act T = x.1 in
      let me1 : Me T (View W) = (x.0, carried_after me.1 a1) in
      let s1 : State T (View W) = stepped s word new id me.1 x.0 a1 in
      ⊎_elim {C = Result}
      (λ (e : bit_number p.slot.pair ≡ bit_number p.latest).
      let low : bit_number p.slot.pair ≤ 1 = bit_low p.slot.pair in
      let other : word_at k 0 ≢ word = λ h. let w = (is_layout n).word_apart k 0 k i (omega arith) li (h ∙ at) in
      let z : 0 ≡ i = w.1 in absurd (omega arith) in
      let latest : get_or s1.words (word_at k 0) 0 ≡ bit_number p.slot.pair = get_set_else s.words word (word_at k 0) new 0 other
      ∙ (shown_there fits rises o (cell Spent (four_slots n) k s.words s.homes r.processes r.receipts) (r.cells k lk).0 v.who p
      (view_there s r id k v (seen ∙ ap some who) ∙ ap some is) ∙ sym e) in
      let y = finishes_ok fits rises o n Plan 0 (omega arith) slots id (word_at k 0) k (bit_number p.slot.pair) me1 v1 p1 refl lk
      (subst (λ z. k < z) (sym (set_long v.parts k (Writer p1))) has) d.2.1 (get_set_here v.parts k (Writer p1) Spent has)
      (ap held_slots (sym d.2.2)) refl refl (may.1 t (held_slots cs) d.2.0) s1 x.3 (homes_long s.homes me.1 a1 ∙ long)
      (set_here s.views id x.0 (within s.views id me.0 seen))
      (omega (arith, latest, low)) in
      let z = y.4 k v1 p1 refl d.2.1 (get_set_here v.parts k (Writer p1) Spent has) in
      let m2 : Me T (View W) = (y.0, carried_after me.1 (chain a1 y.1)) in (
        y.0,
        chain a1 y.1,
        (x.2, y.2),
        and_then F s word (word_at k 0) new (bit_number p.slot.pair) id me.1 x.0 y.0 a1 y.1 y.3 latest,
        tied m2 (
          t,
          d.2.0,
          (λ ne. absurd (ne e)),
          (λ _. (z.0, subst (λ zs. After v1 k (Writer (finished_with p1 0 z.0)) z.0 zs m2) d.2.2 z.2)),
        ),
      ))
      (λ (ne : bit_number p.slot.pair ≢ bit_number p.latest).
      (x.0, a1, x.2, x.3, tied me1 (t, d.2.0, (λ _. d.2), (λ e. absurd (ne e)))))
      (cases_eq (bit_number p.slot.pair) (bit_number p.latest)) where
        rest_of : List (ℕ × T) → List (ℕ × T)
        rest_of [] = []
        rest_of (x ∷ xs) = xs

        tie : (P : ℕ → Process W → WriterNotes T → List (ℕ × T) → Type 0) (j : ℕ) (u : Process W) (q : WriterNotes T) (ds : List (ℕ × T)) →
            k ≡ j → v ≡ u → of_cell Spent j u.parts ≡ Writer q → cs ≡ ds → P k v p cs → P j u q ds
        tie P j u q ds same_k same_v is' rest h =
            let both : p ≡ q = writes_one p q (sym is ∙ ((λ i. of_cell Spent (same_k i) (same_v i).parts) ∙ is')) in
            subst (λ (z : ℕ × Process W × WriterNotes T × List (ℕ × T)). P z.0 z.1 z.2 z.3) (λ i. (same_k i, same_v i, both i, rest i)) h
