-- What the rule of the cell allows of its four words, the rule of the table allows of the table's.
use Rattle.std.proofs.Common.{◌≡◌, ◌≢◌, ℕ, zero, suc, ◌+◌, ◌<◌, ◌≤◌, Bool, true, false, List, [], ◌∷◌, length, get_or, set, sym, refl, ap}
use Rattle.std.proofs.Common.{◌∙◌, subst}
use Rattle.std.proofs.Common.{arith, length-set}
use Rattle.std.proofs.lemmas.List.{get_or-set_same, get_or-set_other}
use mathlib.Core.Option.{none}
use Rattle.std.specs.Prelude.{slice_index}
use Rattle.atomic_table.specs.Table.{State, Me, step, Allows, Splits, Joins, opening, Final, Seen, homes_after, carried_after}
use Rattle.four_slot_core.specs.declared.state.Stage.TheVariants as writer
use Rattle.four_slot_core.specs.declared.state.ReaderStage.TheVariants as reader
use Rattle.four_slot_core.specs.Events.{bit_number, slot_number}
use Rattle.cell_contract.specs.Running.{last_or}
use Rattle.cell_contract.specs.declared.sight.Sight.TheVariants.{Writer, Reader}
use Rattle.cell_four_slot.specs.declared.notes.WriterNotes.{WriterNotes}
use Rattle.cell_four_slot.specs.declared.notes.ReaderNotes.{ReaderNotes}
use Rattle.cell_four_slot.specs.Steps.{FourSlotSight, begins, stores_on, finishes, asks_counting, says_counting, takes, slot_of_choice}
use Rattle.cell_four_slot.specs.Steps.{first_sight}
use Rattle.cell_four_slot.specs.Rule.{FourSlotRule}
use Rattle.cell_four_slot.specs.Spread.{word_place, gathered, cell_state, SpreadRule}
use Rattle.cell_four_slot.proofs.Slots.{bit_low}
use Rattle.cell_four_slot.proofs.Keeps.{begins_ok, stores_ok, finishes_ok, asks_ok, says_ok, takes_ok, starts}

pub gathered_at : (ws : List ℕ) (i : ℕ) → i < 4 → slice_index (gathered ws) i ≡ slice_index ws (word_place i)
gathered_at ws zero l = refl
gathered_at ws (suc zero) l = refl
gathered_at ws (suc (suc zero)) l = refl
gathered_at ws (suc (suc (suc zero))) l = refl
gathered_at ws (suc (suc (suc (suc i)))) l = absurd (omega arith)

place_of : (b : Bool) → word_place (2 + bit_number b) ≡ 10 + bit_number b
place_of true = refl
place_of false = refl

module _ (ws : List ℕ) (n : ℕ) (long : length ws ≡ 32) where
  here : (i : ℕ) → i < 32 → get_or (set ws i n) i 0 ≡ n
  here i l = get_or-set_same ws i n 0 (let e = long in omega arith)

  else_at : (i j : ℕ) → j ≢ i → get_or (set ws i n) j 0 ≡ get_or ws j 0
  else_at i j ne = get_or-set_other ws i j n 0 ne

  pub gathered_set : (i : ℕ) → i < 4 → gathered (set ws (word_place i) n) ≡ set (gathered ws) i n
  gathered_set zero l = λ j. here 8 (omega arith) j ∷ else_at 8 24 (λ e. absurd (omega arith)) j ∷ else_at 8 10
      (λ e. absurd (omega arith)) j
      ∷ else_at 8 11 (λ e. absurd (omega arith)) j ∷ []
  gathered_set (suc zero) l =
      λ j. else_at 24 8 (λ e. absurd (omega arith)) j ∷ here 24 (omega arith) j ∷ else_at 24 10 (λ e. absurd (omega arith)) j
      ∷ else_at 24 11 (λ e. absurd (omega arith)) j ∷ []
  gathered_set (suc (suc zero)) l = λ j. else_at 10 8 (λ e. absurd (omega arith)) j ∷ else_at 10 24 (λ e. absurd (omega arith)) j
      ∷ here 10 (omega arith) j ∷ else_at 10 11 (λ e. absurd (omega arith)) j ∷ []
  gathered_set (suc (suc (suc zero))) l = λ j. else_at 11 8 (λ e. absurd (omega arith)) j ∷ else_at 11 24 (λ e. absurd (omega arith)) j
      ∷ else_at 11 10 (λ e. absurd (omega arith)) j ∷ here 11 (omega arith) j ∷ []
  gathered_set (suc (suc (suc (suc i)))) l = absurd (omega arith)

module _ {T : Type 0} (fits : T → Type 0) (rises : T → T → Type 0) (o : T) where
  abbrev V : Type 0
  V = FourSlotSight T

  abbrev M : Type 0
  M = Me T V

  abbrev Rule : State T V → Type 0
  Rule = FourSlotRule fits rises o

  abbrev Wide : State T V → Type 0
  Wide = SpreadRule fits rises o

  pub spread_allows : (slots id : ℕ) (me : M) (i : ℕ) (f : ℕ → ℕ) (after : ℕ → M → Type 0) → i < 4 →
      Allows Rule slots id me i f after → Allows Wide slots id me (word_place i) f after
  spread_allows slots id me i f after low h s r long at bound =
      let found : slice_index (gathered s.words) i ≡ slice_index s.words (word_place i) = gathered_at s.words i low in
      let x = h (cell_state s) r.cell long at (subst (λ z. z < 18446744073709551616) (sym found) bound) in
      let new : ℕ = f (slice_index s.words (word_place i)) in
      let words : set (gathered s.words) i (f (slice_index (gathered s.words) i)) ≡ gathered (set s.words (word_place i) new) =
      (λ j. set (gathered s.words) i (f (found j))) ∙ sym (gathered_set s.words new r.counted i low) in (
        x.0,
        x.1,
        x.2,
        record {
          counted = length-set s.words (word_place i) new ∙ r.counted;
          cell = subst (λ (ws : List ℕ). Rule
              (record { words = ws; homes = homes_after s.homes me.1 x.1; views = set s.views id x.0 })) words x.3;
        },
        subst (λ z. after z (x.0, carried_after me.1 x.1)) found x.4,
      )

  pub spread_splits : (id : ℕ) (v left right : V) → Splits Rule id v left right → Splits Wide id v left right
  spread_splits id v left right h s r at = record { counted = r.counted; cell = h (cell_state s) r.cell at }

  pub spread_joins : (id : ℕ) (v : V) (other : ℕ) (w both gone : V) → Joins Rule id v other w both gone → Joins Wide id v other w both gone
  spread_joins id v other w both gone h s r at apart there = record { counted = r.counted; cell = h (cell_state s) r.cell at apart there }

  pub spread_final : (id : ℕ) (v : V) (ws : List ℕ) (xs : List T) → Final (Seen Wide id v) ws xs → Final (Seen Rule id v) (gathered ws) xs
  spread_final id v ws xs f = (cell_state f.0, (f.1.0.cell, f.1.1), ap gathered f.2, f.3, f.4)

  -- each step, at the table's words
  pub begins_spread : (slots id : ℕ) (me : M) (p : WriterNotes T) (items : List T) (x : T) → me.0 ≡ Writer p → me.1 ≡ [] →
      p.stage ≡ writer.W5 → items ≡ x ∷ [] → fits x → rises (last_or p.opening.value p.written) x
      → Allows Wide slots id me 24 (λ n. n) (begins items (step slots 24 0 0 none) me)
  begins_spread slots id me p items x is bare idle item f up =
      spread_allows slots id me 1 (λ n. n) (begins items (step slots 1 0 0 none) me) (omega arith)
      (begins_ok fits rises o slots id me p items x is bare idle item f up)

  pub stores_spread : (slots id : ℕ) (me : M) (p : WriterNotes T) (i new : ℕ) → me.0 ≡ Writer p → me.1
      ≡ (slot_number p.slot, p.item.value) ∷ [] → p.stage ≡ writer.W3 → i ≡ 10 + bit_number p.slot.pair → new ≡ bit_number p.slot.index
      → Allows Wide slots id me i (λ _. new) (λ _. stores_on (step slots i new 0 none) me new)
  stores_spread slots id me p i new is holds stage word to =
      let low : bit_number p.slot.pair ≤ 1 = bit_low p.slot.pair in
      subst (λ z. Allows Wide slots id me z (λ _. new) (λ _. stores_on (step slots i new 0 none) me new)) (place_of p.slot.pair ∙ sym word)
      (spread_allows slots id me (2 + bit_number p.slot.pair) (λ _. new) (λ _. stores_on (step slots i new 0 none) me new) (omega arith)
      (stores_ok fits rises o slots id me p (2 + bit_number p.slot.pair) new is holds stage refl to))

  pub finishes_spread : (slots id : ℕ) (me : M) (p : WriterNotes T) (new : ℕ) → me.0 ≡ Writer p → p.stage ≡ writer.W4 →
      new ≡ bit_number p.slot.pair → Allows Wide slots id me 8 (λ _. new) (λ _. finishes (step slots 8 new 0 none) me new)
  finishes_spread slots id me p new is stage to = spread_allows slots id me 0 (λ _. new) (λ _. finishes (step slots 8 new 0 none) me new)
      (omega arith) (finishes_ok fits rises o slots id me p new is stage to)

  pub asks_spread : (count : ℕ) → count ≤ 1 → (slots id : ℕ) (me : M) (g : ReaderNotes T) → me.0 ≡ Reader g →
      me.1 ≡ slot_of_choice g.chosen g.at_hand.value → g.stage ≡ reader.R5 →
      Allows Wide slots id me 8 (λ n. n) (asks_counting count (step slots 8 0 0 none) me)
  asks_spread count few slots id me g is holds stage =
      spread_allows slots id me 0 (λ n. n) (asks_counting count (step slots 8 0 0 none) me) (omega arith)
      (asks_ok fits rises o count few slots id me g is holds stage)

  pub says_spread : (count : ℕ) → count ≤ 1 → (slots id : ℕ) (me : M) (g : ReaderNotes T) (new : ℕ) → me.0 ≡ Reader g →
      me.1 ≡ slot_of_choice g.chosen g.at_hand.value → g.stage ≡ reader.R1 → new ≡ bit_number g.slot.pair →
      Allows Wide slots id me 24 (λ _. new) (λ _. says_counting count (step slots 24 new 0 none) me new)
  says_spread count few slots id me g new is holds stage to =
      spread_allows slots id me 1 (λ _. new) (λ _. says_counting count (step slots 24 new 0 none) me new)
      (omega arith) (says_ok fits rises o count few slots id me g new is holds stage to)

  module _ (same : (a : T) → rises a a) (along : (a b c : T) → rises a b → rises b c → rises a c) where
    pub takes_spread : (slots id : ℕ) (me : M) (g : ReaderNotes T) (i : ℕ) → me.0 ≡ Reader g → me.1 ≡ [] → g.stage ≡ reader.R2 →
        i ≡ 10 + bit_number g.slot.pair → Allows Wide slots id me i (λ n. n) (takes fits rises (step slots i 0 0 none) me)
    takes_spread slots id me g i is bare stage word =
        let low : bit_number g.slot.pair ≤ 1 = bit_low g.slot.pair in
        subst (λ z. Allows Wide slots id me z (λ n. n) (takes fits rises (step slots i 0 0 none) me)) (place_of g.slot.pair ∙ sym word)
        (spread_allows slots id me (2 + bit_number g.slot.pair) (λ n. n) (takes fits rises (step slots i 0 0 none) me) (omega arith)
        (takes_ok fits rises o same along slots id me g (2 + bit_number g.slot.pair) is bare stage refl))

  pub starts_spread : (ws : List ℕ) → length ws ≡ 32 → gathered ws ≡ 0 ∷ 0 ∷ 0 ∷ 0 ∷ [] → fits o →
      Wide (opening ws (o ∷ o ∷ o ∷ o ∷ []) (first_sight o))
  starts_spread ws long zeros f = record {
    counted = long;
    cell = subst (λ (z : List ℕ). Rule (opening z (o ∷ o ∷ o ∷ o ∷ []) (first_sight o))) (sym zeros) (starts fits rises o f);
  }
