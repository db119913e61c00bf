-- What each step of a family tells: the cell's own step, at the family's time or outside the schedule, and what the seat then knows.
use Rattle.std.proofs.Common.{◌≡◌, ℕ, ◌+◌, ◌*◌, ◌%◌, ◌<◌, ◌≤◌, List, [], ◌∷◌, ◌++◌, map, length, get_or, refl, sym, ap, ◌∙◌, subst, arith}
use Rattle.std.proofs.Common.{⊎_elim, le_trans}
use Rattle.std.proofs.lemmas.Bool.{cases_lt}
use mathlib.Core.Option.{none, some}
use lib.ListN.{get_elem?}
use Rattle.atomic_table.specs.Table.{State, Me, step, Allows, carried_after}
use Rattle.atomic_table.proofs.Lists.{at_map, at_longer}
use Rattle.cell_contract.specs.Intervals.{AreHeeded}
use Rattle.cell_contract.specs.Running.{last_or, held_slots}
use Rattle.cell_contract.specs.Sights.{writer_or, reader_or}
use Rattle.cell_contract.specs.declared.times.Known.{Known}
use Rattle.cell_triple.specs.declared.notes.WriterNotes.{WriterNotes}
use Rattle.cell_triple.specs.declared.notes.ReaderNotes.{ReaderNotes}
use Rattle.cell_contract.specs.declared.sight.Sight.TheVariants.{Spent, Writer, Reader}
use Rattle.cell_triple.specs.Steps.{TripleSight, clock_of, published, looked_by, asked_by, fetched, answered, MayAnswer, HasAnswered}
use Rattle.cell_triple.specs.Steps.{put_took, get_took, put_swapped, looked, get_swapped}
use Rattle.cell_triple.proofs.Keeps.{put_takes_at, get_takes_at, puts_at, asks_at, decides_at, gets_at}
use Rattle.family_table.specs.declared.notes.Process.{Process}
use Rattle.family_table.specs.declared.notes.Receipt.{Receipt}
use Rattle.family_table.specs.declared.notes.View.{View}
use Rattle.family_table.specs.declared.notes.View.TheVariants.{Told, Has}
use Rattle.family_table.specs.Layouts.{shift, Inside}
use Rattle.family_table.specs.Family.{of_cell, knows, cell, StepTells}
use Rattle.family_table.proofs.Slices.{gather_get}
use Rattle.family_triple.specs.Places.{triples, word_at, slot_at}
use Rattle.family_triple.specs.Plans.{MayPublish, MayDecide}
use Rattle.family_triple.specs.Triples.{CellRule, TripleFamily}
use Rattle.family_triple.specs.Steps.{alters, After, Beside, put_takes, get_takes, publishes, looks, fetches}
use Rattle.family_triple.specs.Tables.{IsRotated}
use Rattle.family_triple.specs.Cells.{is_layout}
use Rattle.family_triple.proofs.Steps.{Outcome, Allowed, TellsBeside, steps_at, steps_beside}

has_one : {V : Type 0} (v u : Process V) → Has (v ∷ []) ≡ Has (u ∷ []) → v ≡ u
has_one v u e = ap (only v) e where
  first : {V : Type 0} → Process V → List (Process V) → Process V
  first d [] = d
  first d (x ∷ xs) = x

  only : {V : Type 0} → Process V → View V → Process V
  only d (Told r) = d
  only d (Has ps) = first d ps

module _ {A : Type 0} where
  abbrev tail_of : List A → List A
  tail_of [] = []
  tail_of (x ∷ xs) = xs

  abbrev value_of : A → List (ℕ × A) → A
  value_of d [] = d
  value_of d (x ∷ xs) = x.1

module _ {T : Type 0} where
  writes_one : (p q : WriterNotes T) → ◌≡◌ {A = TripleSight T} (Writer p) (Writer q) → p ≡ q
  writes_one p q e = ap (writer_or p) e

  reads_one : (g h : ReaderNotes T) → ◌≡◌ {A = TripleSight T} (Reader g) (Reader h) → g ≡ h
  reads_one g h e = ap (reader_or g) e

  -- the notes after a step, by what it tells of the cell and of the slots
  after : (v : Process (TripleSight T)) (k t : ℕ) (w w' : TripleSight T) (c behind cs : List (ℕ × T)) (m : Me T (View (TripleSight T))) →
      v.clock < t → w ≡ w' → shift (slot_at k) c ++ behind ≡ cs →
      m.0 ≡ Has (knows Spent v k w t (held_slots m.1) ∷ []) → m.1 ≡ shift (slot_at k) c ++ behind → After v k w' t cs m
  after v k t w w' c behind cs m lt same slots view held =
      (lt, view ∙ (λ i. Has (knows Spent v k (same i) t (held_slots ((held ∙ slots) i)) ∷ [])), held ∙ slots)

  beside : (v : Process (TripleSight T)) (k : ℕ) (w w' : TripleSight T) (c behind cs : List (ℕ × T)) (m : Me T (View (TripleSight T))) →
      w ≡ w' → shift (slot_at k) c ++ behind ≡ cs →
      m.0 ≡ Has (alters v k w (held_slots m.1) ∷ []) → m.1 ≡ shift (slot_at k) c ++ behind → Beside v k w' cs m
  beside v k w w' c behind cs m same slots view held =
      (view ∙ (λ i. Has (alters v k (same i) (held_slots ((held ∙ slots) i)) ∷ [])), held ∙ slots)

module _ {T : Type 0} (fits : T → Type 0) (rises : T → T → Type 0) (o : T) where
  abbrev W : Type 0
  W = TripleSight T

  abbrev Rule : ℕ → State T W → Type 0
  Rule = CellRule fits rises o

  pub rule_later : (now t : ℕ) (s : State T W) → now ≤ t → Rule now s → Rule t s
  rule_later now t s l r = (r.0, le_trans r.1 l)

  module _ (n : ℕ) (Plan : ℕ → Process W → Type 0) where
    abbrev F : State T (View W) → Type 0
    F = TripleFamily fits rises o n Plan

    abbrev Cell : (s : State T (View W)) → F s → ℕ → State T W
    Cell s r k = cell Spent (triples n) k s.words s.homes r.processes r.receipts

    -- what cell k knows of a process
    in_cell : (s : State T (View W)) (r : F s) (id k : ℕ) (v : Process W) (w : W) → get_elem? s.views id ≡ some (Has (v ∷ [])) →
        of_cell Spent k v.parts ≡ w → get_elem? (Cell s r k).views v.who ≡ some w
    in_cell s r id k v w at is =
        let G : Process W → W = λ (p : Process W). of_cell Spent k p.parts in
        let told : List W = map (λ (p : Receipt W). of_cell Spent k p.parts) r.receipts in
        at_longer (map G r.processes) told v.who (G v) (at_map G r.processes v.who v (r.shows id (Has (v ∷ [])) at).0) ∙ ap some is

    found : (s : State T (View W)) (r : F s) (k : ℕ) → get_or (Cell s r k).words 0 0 ≡ get_or s.words (word_at k 0) 0
    found s r k = gather_get (word_at k) 1 0 0 s.words (let z : 0 < 1 = omega arith in z)

    same_place : (k j : ℕ) → word_at k 0 ≡ word_at j 0 → k ≡ j
    same_place k j e = let f : 8 * k + 8 + 0 ≡ 8 * j + 8 + 0 = e in let z : k ≡ j = omega arith in z

    -- the steps of the schedule, and the others, at a view that is known
    timed : (s : State T (View W)) (r : F s) (id k m : ℕ) (v : Process W) (w : W) (c behind : List (ℕ × T)) (then : ℕ → Me T W → Type 0) →
        get_elem? s.views id ≡ some (Has (v ∷ [])) → k < (triples n).cells → k < length v.parts → of_cell Spent k v.parts ≡ w → Inside 3 c →
        IsRotated v.held (held_slots (shift (slot_at k) c ++ behind)) →
        Outcome Rule (Cell s r k) (r.now + 1) v.who (w, c) m (then (r.now + 1)) →
        ((u : W) (d : List (ℕ × T)) → v.clock < r.now + 1 → then (r.now + 1) (u, d) → Plan v.who v →
        Plan v.who (knows Spent v k u (r.now + 1) (held_slots (shift (slot_at k) d ++ behind)))) →
        Allowed F s id (word_at k 0) (Has (v ∷ []), shift (slot_at k) c ++ behind) m
        (StepTells Spent slot_at k v [] behind (λ t _ x. then t x) 0)
    timed s r id k m v w c behind then at lk has is inside turned out goes =
        steps_at Spent (triples n) (is_layout n) Rule Plan rule_later n s r id k m v c behind then at
        (let z : 0 < 1 = omega arith in z) lk has inside
        turned (subst (λ (z : W). Outcome Rule (Cell s r k) (r.now + 1) v.who (z, c) m (then (r.now + 1))) (sym is) out) goes

    untimed : (s : State T (View W)) (r : F s) (id k m : ℕ) (v : Process W) (w : W) (c behind : List (ℕ × T)) (then : Me T W → Type 0) →
        get_elem? s.views id ≡ some (Has (v ∷ [])) → k < (triples n).cells → k < length v.parts → of_cell Spent k v.parts ≡ w → Inside 3 c →
        IsRotated v.held (held_slots (shift (slot_at k) c ++ behind)) → Outcome Rule (Cell s r k) r.now v.who (w, c) m then →
        ((u : W) (d : List (ℕ × T)) → then (u, d) → Plan v.who v →
        Plan v.who (alters v k u (held_slots (shift (slot_at k) d ++ behind)))) →
        Allowed F s id (word_at k 0) (Has (v ∷ []), shift (slot_at k) c ++ behind) m (TellsBeside slot_at k v behind then)
    untimed s r id k m v w c behind then at lk has is inside turned out goes =
        steps_beside Spent (triples n) (is_layout n) Rule Plan rule_later n s r id k m v c behind then at
        (let z : 0 < 1 = omega arith in z) lk has inside
        turned (subst (λ (z : W). Outcome Rule (Cell s r k) r.now v.who (z, c) m then) (sym is) out) goes

    pub put_takes_ok : (slots id word k : ℕ) (me : Me T (View W)) (v : Process W) (p : WriterNotes T) → word ≡ word_at k 0 →
        k < (triples n).cells → k < length v.parts → me.0 ≡ Has (v ∷ []) → of_cell Spent k v.parts ≡ Writer p →
        IsRotated v.held (held_slots me.1) → p.has ≡ 0 →
        ((held : List ℕ) → Plan v.who v → Plan v.who (alters v k (Writer (record p { has = 1 })) held)) →
        Allows F slots id me word (λ m. m) (put_takes (step slots word 0 0 none) me)
    put_takes_ok slots id word k me v p at lk has who is turned bare stays =
        let cs : List (ℕ × T) = me.1 in
        let here : Allows F slots id (Has (v ∷ []), cs) (word_at k 0) (λ m. m)
        (put_takes (step slots (word_at k 0) 0 0 none) (Has (v ∷ []), cs)) =
        (λ s r long seen small.
        let view : W = Writer p in
        let c = r.cells k lk in
        let there = in_cell s r id k v (Writer p) seen is in
        let known = c.0.each_seat v.who (Writer p) there in
        let h = subst (λ (q : WriterNotes T). (view ≡ Writer q) × (q.has ≡ 0)) known.0 (refl, bare) in
        let nn : ℕ = get_or s.words (word_at k 0) 0 in
        let then : ℕ → Me T W → Type 0 = λ z. put_took (step 3 0 0 0 none) (Writer p, []) z in
        let y = put_takes_at fits rises o (Cell s r k) c.0 3 v.who (Writer p, []) there known.1 h.0 refl h.1 in
        let out = subst (λ z. Outcome Rule (Cell s r k) r.now v.who (Writer p, []) z (then z)) (found s r k)
        (y.0, y.1, y.2, y.3, rule_later c.0.now r.now _ c.1 y.4, y.5) in
        let goes : (u : W) (d : List (ℕ × T)) → then nn (u, d) → Plan v.who v →
        Plan v.who (alters v k u (held_slots (shift (slot_at k) d ++ cs))) = λ u d told plan.
        subst (λ z. Plan v.who (alters v k z (held_slots (shift (slot_at k) d ++ cs)))) (sym (told p refl).0)
        (stays (held_slots (shift (slot_at k) d ++ cs)) plan) in
        let x = untimed s r id k nn v (Writer p) [] cs (then nn) seen lk has is tt turned out goes in
        (x.0, x.1, x.2, x.3, more nn (x.0, carried_after cs x.1) x.4)) in
        subst (λ (z : ℕ × View W). Allows F slots id (z.1, cs) z.0 (λ m. m) (put_takes (step slots z.0 0 0 none) (z.1, cs)))
        (λ i. (sym at i, sym who i)) here where
          more : (m : ℕ) (u : Me T (View W)) → TellsBeside slot_at k v me.1 (put_took (step 3 0 0 0 none) (Writer p, []) m) u →
              put_takes (step slots (word_at k 0) 0 0 none) (Has (v ∷ []), me.1) m u
          more m u h k' v' q w e is' =
              let P : ℕ × Process W → Type 0 = λ z. of_cell Spent z.0 z.1.parts ≡ Writer q →
              Beside z.1 z.0 (Writer (record q { has = 1 })) ((slot_at z.0 q.slot, q.opening.value) ∷ me.1) u in
              subst P (λ i. (same_place k k' w i, has_one v v' e i)) (λ known.
              let d = h.2 q (sym is ∙ known) in
              beside v k h.0 (Writer (record q { has = 1 })) h.1 me.1 ((slot_at k q.slot, q.opening.value) ∷ me.1) u d.0
              (ap (λ zs. shift (slot_at k) zs ++ me.1) d.1) h.3 h.4) is'

    pub get_takes_ok : (slots id word k : ℕ) (me : Me T (View W)) (v : Process W) (g : ReaderNotes T) → word ≡ word_at k 0 →
        k < (triples n).cells → k < length v.parts → me.0 ≡ Has (v ∷ []) → of_cell Spent k v.parts ≡ Reader g →
        IsRotated v.held (held_slots me.1) → g.has ≡ 0 →
        ((held : List ℕ) → Plan v.who v → Plan v.who (alters v k (Reader (record g { has = 1 })) held)) →
        Allows F slots id me word (λ m. m) (get_takes (step slots word 0 0 none) me)
    get_takes_ok slots id word k me v g at lk has who is turned bare stays =
        let cs : List (ℕ × T) = me.1 in
        let here : Allows F slots id (Has (v ∷ []), cs) (word_at k 0) (λ m. m)
        (get_takes (step slots (word_at k 0) 0 0 none) (Has (v ∷ []), cs)) =
        (λ s r long seen small.
        let view : W = Reader g in
        let c = r.cells k lk in
        let there = in_cell s r id k v (Reader g) seen is in
        let known = c.0.each_seat v.who (Reader g) there in
        let h = subst (λ (q : ReaderNotes T). (view ≡ Reader q) × (q.has ≡ 0)) known.0 (refl, bare) in
        let nn : ℕ = get_or s.words (word_at k 0) 0 in
        let then : ℕ → Me T W → Type 0 = λ z. get_took (step 3 0 0 0 none) (Reader g, []) z in
        let y = get_takes_at fits rises o (Cell s r k) c.0 3 v.who (Reader g, []) there known.1 h.0 refl h.1 in
        let out = subst (λ z. Outcome Rule (Cell s r k) r.now v.who (Reader g, []) z (then z)) (found s r k)
        (y.0, y.1, y.2, y.3, rule_later c.0.now r.now _ c.1 y.4, y.5) in
        let goes : (u : W) (d : List (ℕ × T)) → then nn (u, d) → Plan v.who v →
        Plan v.who (alters v k u (held_slots (shift (slot_at k) d ++ cs))) = λ u d told plan.
        subst (λ z. Plan v.who (alters v k z (held_slots (shift (slot_at k) d ++ cs)))) (sym (told g refl).0)
        (stays (held_slots (shift (slot_at k) d ++ cs)) plan) in
        let x = untimed s r id k nn v (Reader g) [] cs (then nn) seen lk has is tt turned out goes in
        (x.0, x.1, x.2, x.3, more nn (x.0, carried_after cs x.1) x.4)) in
        subst (λ (z : ℕ × View W). Allows F slots id (z.1, cs) z.0 (λ m. m) (get_takes (step slots z.0 0 0 none) (z.1, cs)))
        (λ i. (sym at i, sym who i)) here where
          more : (m : ℕ) (u : Me T (View W)) → TellsBeside slot_at k v me.1 (get_took (step 3 0 0 0 none) (Reader g, []) m) u →
              get_takes (step slots (word_at k 0) 0 0 none) (Has (v ∷ []), me.1) m u
          more m u h k' v' q w e is' =
              let P : ℕ × Process W → Type 0 = λ z. of_cell Spent z.0 z.1.parts ≡ Reader q →
              Beside z.1 z.0 (Reader (record q { has = 1 })) ((slot_at z.0 q.slot, q.at_hand.value) ∷ me.1) u in
              subst P (λ i. (same_place k k' w i, has_one v v' e i)) (λ known.
              let d = h.2 q (sym is ∙ known) in
              beside v k h.0 (Reader (record q { has = 1 })) h.1 me.1 ((slot_at k q.slot, q.at_hand.value) ∷ me.1) u d.0
              (ap (λ zs. shift (slot_at k) zs ++ me.1) d.1) h.3 h.4) is'

    pub publishes_ok : (slots id word k new : ℕ) (me : Me T (View W)) (v : Process W) (p : WriterNotes T) (x : T) (cs : List (ℕ × T)) →
        word ≡ word_at k 0 → k < (triples n).cells → k < length v.parts → me.0 ≡ Has (v ∷ []) → of_cell Spent k v.parts ≡ Writer p →
        me.1 ≡ (slot_at k p.slot, x) ∷ cs → IsRotated v.held (held_slots me.1) → p.has ≡ 1 → fits x →
        rises (last_or p.opening.value p.written) x → new ≡ p.slot + 4 → MayPublish Plan v k p x →
        Allows F slots id me word (λ _. new) (publishes (step slots word new 0 none) me)
    publishes_ok slots id word k new me v p x cs at lk has who is slots_are turned took f up to may =
        let mine : List (ℕ × T) = (slot_at k p.slot, x) ∷ cs in
        let own : List (ℕ × T) = (p.slot, x) ∷ [] in
        let here : Allows F slots id (Has (v ∷ []), mine) (word_at k 0) (λ _. new)
        (publishes (step slots (word_at k 0) new 0 none) (Has (v ∷ []), mine)) =
        (λ s r long seen small.
        let view : W = Writer p in
        let c = r.cells k lk in
        let there = in_cell s r id k v (Writer p) seen is in
        let known = c.0.each_seat v.who (Writer p) there in
        let h = subst (λ (q : WriterNotes T). (view ≡ Writer q) × (own ≡ (q.slot, x) ∷ []) × (q.has ≡ 1)
        × rises (last_or q.opening.value q.written) x × (new ≡ q.slot + 4)) known.0 (refl, refl, took, up, to) in
        let inside : Inside 3 own = (subst (λ (q : WriterNotes T). q.slot < 3) (sym known.0) c.0.in_table.small.2, tt) in
        let nn : ℕ = get_or s.words (word_at k 0) 0 in
        let t : ℕ = r.now + 1 in
        let low : c.0.now ≤ r.now = c.1 in
        let then : ℕ → ℕ → Me T W → Type 0 = λ z i m. put_swapped (step 3 0 new 0 none) (Writer p, own) z m × (clock_of m.0 ≡ i) in
        let y = puts_at fits rises o (Cell s r k) c.0 t (omega arith) 3 v.who (Writer p, own) x new known.1 h.0 h.1 h.2 f
        (subst (λ (z : T). rises (last_or z c.0.put.written) x) c.0.openings.0 h.3) h.4 in
        let out = subst (λ z. Outcome Rule (Cell s r k) t v.who (Writer p, own) new (then z t)) (found s r k)
        (y.0, y.1, y.2, y.3, y.4, (y.5, y.6)) in
        let goes : (u : W) (d : List (ℕ × T)) → v.clock < t → then nn t (u, d) → Plan v.who v →
        Plan v.who (knows Spent v k u t (held_slots (shift (slot_at k) d ++ cs))) = λ u d lt told plan.
        let e = told.0 p x refl refl in
        let now : e.2 ≡ t = sym (ap clock_of e.4) ∙ told.1 in
        let is_now : u ≡ Writer (published p (nn % 4) x t) = e.4 ∙ ap (λ z. Writer (published p (nn % 4) x z)) now in
        subst (λ z. Plan v.who (knows Spent v k z t (held_slots (shift (slot_at k) d ++ cs)))) (sym is_now)
        (may t (nn % 4) (held_slots (shift (slot_at k) d ++ cs)) lt) in
        let a = timed s r id k new v (Writer p) own cs (then nn) seen lk has is inside
        (subst (λ zs. IsRotated v.held (held_slots zs)) slots_are turned)
        out goes in
        (a.0, a.1, a.2, a.3, more nn (a.0, carried_after mine a.1) a.4)) in
        subst (λ (z : ℕ × Me T (View W)). Allows F slots id z.1 z.0 (λ _. new) (publishes (step slots z.0 new 0 none) z.1))
        (λ j. (sym at j, (sym who j, sym slots_are j))) here where
          more : (m : ℕ) (u : Me T (View W)) → StepTells Spent slot_at k v [] cs (λ t _ z. put_swapped (step 3 0 new 0 none)
              (Writer p, (p.slot, x) ∷ []) m z × (clock_of z.0 ≡ t)) 0 u →
              publishes (step slots (word_at k 0) new 0 none) (Has (v ∷ []), (slot_at k p.slot, x) ∷ cs) m u
          more m u h k' v' q x' ds w e is' held' =
              let mine : List (ℕ × T) = (slot_at k p.slot, x) ∷ cs in
              let P : ℕ × Process W → Type 0 = λ z. of_cell Spent z.0 z.1.parts ≡ Writer q → mine ≡ (slot_at z.0 q.slot, x') ∷ ds →
              (y : T) × (t : ℕ) × (m % 4 < 3) × (q.times.clock < t)
              × After z.1 z.0 (Writer (published q (m % 4) x' t)) t ((slot_at z.0 (m % 4), y) ∷ ds) u in
              subst P (λ j. (same_place k k' w j, has_one v v' e j)) (λ known is_mine.
              let view : ◌≡◌ {A = W} (Writer p) (Writer q) = sym is ∙ known in
              let both : p ≡ q = writes_one p q view in
              let also : x ≡ x' = ap (value_of x) is_mine in
              let d = h.4.0 q x' view (λ j. ((both j).slot, also j) ∷ []) in
              let now : d.2 ≡ h.0 = sym (ap clock_of d.4) ∙ h.4.1 in (
                d.0,
                h.0,
                d.1,
                subst (λ z. q.times.clock < z) now d.3,
                after v k h.0 h.1 (Writer (published q (m % 4) x' h.0)) h.2 cs ((slot_at k (m % 4), d.0) ∷ ds) u h.3
                    (d.4 ∙ ap (λ z. Writer (published q (m % 4) x' z)) now)
                    (ap (λ zs. shift (slot_at k) zs ++ cs) d.5 ∙ ap (λ zs. (slot_at k (m % 4), d.0) ∷ tail_of zs) is_mine) h.5 h.6,
              )) is' held'

    module _ (same : (a : T) → rises a a) (along : (a b c : T) → rises a b → rises b c → rises a c) where
      pub looks_ok : (slots id word k : ℕ) (me : Me T (View W)) (v : Process W) (g : ReaderNotes T) → word ≡ word_at k 0 →
          k < (triples n).cells → k < length v.parts → me.0 ≡ Has (v ∷ []) → of_cell Spent k v.parts ≡ Reader g →
          IsRotated v.held (held_slots me.1) → g.asked ≡ 0 →
          ((m : ℕ) (held : List ℕ) → Plan v.who v → Plan v.who (alters v k (Reader (asked_by g m)) held)) → MayDecide Plan v k g →
          Allows F slots id me word (λ m. m) (looks fits rises (step slots word 0 0 none) me)
      looks_ok slots id word k me v g at lk has who is turned free stays may =
          let cs : List (ℕ × T) = me.1 in
          let here : Allows F slots id (Has (v ∷ []), cs) (word_at k 0) (λ m. m)
          (looks fits rises (step slots (word_at k 0) 0 0 none) (Has (v ∷ []), cs)) =
          (λ s r long seen small.
          let view : W = Reader g in
          let c = r.cells k lk in
          let there = in_cell s r id k v (Reader g) seen is in
          let known = c.0.each_seat v.who (Reader g) there in
          let h = subst (λ (q : ReaderNotes T). (view ≡ Reader q) × (q.asked ≡ 0)) known.0 (refl, free) in
          let nn : ℕ = get_or s.words (word_at k 0) 0 in
          let of_it : get_or (Cell s r k).words 0 0 ≡ nn = found s r k in
          let t : ℕ = r.now + 1 in
          let low : c.0.now ≤ r.now = c.1 in
          let then : ℕ → Me T W → Type 0 = λ z m. looked fits rises (step 3 0 0 0 none) (Reader g, []) z m in
          ⊎_elim
          (λ (less : nn < 4).
          let y = decides_at fits rises o same along (Cell s r k) c.0 t (omega arith) 3 v.who (Reader g, []) known.1 h.0 h.1
          (subst (λ z. z < 4) (sym of_it) less) in
          let out = subst (λ z. Outcome Rule (Cell s r k) t v.who (Reader g, []) z (λ m. then z m × (clock_of m.0 ≡ t))) of_it
          (y.0, y.1, y.2, y.3, y.4, (y.5, y.6)) in
          let goes : (u : W) (d : List (ℕ × T)) → v.clock < t → then nn (u, d) × (clock_of u ≡ t) → Plan v.who v →
          Plan v.who (knows Spent v k u t (held_slots (shift (slot_at k) d ++ cs))) = λ u d lt told plan.
          let e = (told.0 g refl).2 less in
          let now : e.0 ≡ t = sym (ap clock_of e.4) ∙ told.1 in
          let is_now : u ≡ Reader (answered (looked_by g nn) g.at_hand.value t e.1 e.2) =
          e.4 ∙ ap (λ z. Reader (answered (looked_by g nn) g.at_hand.value z e.1 e.2)) now in
          subst (λ z. Plan v.who (knows Spent v k z t (held_slots (shift (slot_at k) d ++ cs)))) (sym is_now)
          (may (looked_by g nn) g.at_hand.value t e.1 e.2 (held_slots (shift (slot_at k) d ++ cs)) refl refl lt) in
          let a = timed s r id k nn v (Reader g) [] cs (λ i m. then nn m × (clock_of m.0 ≡ i)) seen lk has is tt turned out goes in
          (a.0, a.1, a.2, a.3, more nn (a.0, carried_after cs a.1) less a.4))
          (λ (high : 4 ≤ nn).
          let y = asks_at fits rises o same along (Cell s r k) c.0 3 v.who (Reader g, []) known.1 h.0 h.1
          (subst (λ z. 4 ≤ z) (sym of_it) high) in
          let out = subst (λ z. Outcome Rule (Cell s r k) r.now v.who (Reader g, []) z (then z)) of_it
          (y.0, y.1, y.2, y.3, rule_later c.0.now r.now _ low y.4, y.5) in
          let goes : (u : W) (d : List (ℕ × T)) → then nn (u, d) → Plan v.who v →
          Plan v.who (alters v k u (held_slots (shift (slot_at k) d ++ cs))) = λ u d told plan.
          subst (λ z. Plan v.who (alters v k z (held_slots (shift (slot_at k) d ++ cs)))) (sym ((told g refl).1 high))
          (stays nn (held_slots (shift (slot_at k) d ++ cs)) plan) in
          let a = untimed s r id k nn v (Reader g) [] cs (then nn) seen lk has is tt turned out goes in
          (a.0, a.1, a.2, a.3, marked nn (a.0, carried_after cs a.1) high a.4))
          (cases_lt nn 4)) in
          subst (λ (z : ℕ × View W). Allows F slots id (z.1, cs) z.0 (λ m. m) (looks fits rises (step slots z.0 0 0 none) (z.1, cs)))
          (λ i. (sym at i, sym who i)) here where
            more : (m : ℕ) (u : Me T (View W)) → m < 4 → StepTells Spent slot_at k v [] me.1 (λ t _ z.
                looked fits rises (step 3 0 0 0 none) (Reader g, []) m z × (clock_of z.0 ≡ t)) 0 u →
                looks fits rises (step slots (word_at k 0) 0 0 none) (Has (v ∷ []), me.1) m u
            more m u less h k' v' q w e is' =
                let P : ℕ × Process W → Type 0 = λ z. of_cell Spent z.0 z.1.parts ≡ Reader q →
                (4 ≤ m → Beside z.1 z.0 (Reader (asked_by q m)) me.1 u)
                × (m < 4 → (t : ℕ) × (number : ℕ) × (writes : Known T) × (q.times.clock < t)
                × After z.1 z.0 (Reader (answered (looked_by q m) q.at_hand.value t number writes)) t me.1 u
                × MayAnswer fits rises q q.at_hand.value
                × HasAnswered q (answered (looked_by q m) q.at_hand.value t number writes) q.at_hand.value
                × AreHeeded q.heard writes number) in
                subst P (λ i. (same_place k k' w i, has_one v v' e i)) (λ known.
                let d = h.4.0 q (sym is ∙ known) in (
                  (λ high. absurd (omega arith)),
                  (λ low.
                      let x = d.2 low in
                      let now : x.0 ≡ h.0 = sym (ap clock_of x.4) ∙ h.4.1 in (
                        h.0,
                        x.1,
                        x.2,
                        subst (λ z. q.times.clock < z) now x.3,
                        after v k h.0 h.1 (Reader (answered (looked_by q m) q.at_hand.value h.0 x.1 x.2)) h.2 me.1 me.1 u h.3
                            (x.4 ∙ ap (λ z. Reader (answered (looked_by q m) q.at_hand.value z x.1 x.2)) now)
                            (ap (λ zs. shift (slot_at k) zs ++ me.1) d.0) h.5 h.6,
                        x.5,
                        subst (λ z. HasAnswered q (answered (looked_by q m) q.at_hand.value z x.1 x.2) q.at_hand.value) now x.6,
                        x.7,
                      )),
                )) is'

            marked : (m : ℕ) (u : Me T (View W)) → 4 ≤ m →
                TellsBeside slot_at k v me.1 (looked fits rises (step 3 0 0 0 none) (Reader g, []) m) u →
                looks fits rises (step slots (word_at k 0) 0 0 none) (Has (v ∷ []), me.1) m u
            marked m u high h k' v' q w e is' =
                let P : ℕ × Process W → Type 0 = λ z. of_cell Spent z.0 z.1.parts ≡ Reader q →
                (4 ≤ m → Beside z.1 z.0 (Reader (asked_by q m)) me.1 u)
                × (m < 4 → (t : ℕ) × (number : ℕ) × (writes : Known T) × (q.times.clock < t)
                × After z.1 z.0 (Reader (answered (looked_by q m) q.at_hand.value t number writes)) t me.1 u
                × MayAnswer fits rises q q.at_hand.value
                × HasAnswered q (answered (looked_by q m) q.at_hand.value t number writes) q.at_hand.value
                × AreHeeded q.heard writes number) in
                subst P (λ i. (same_place k k' w i, has_one v v' e i)) (λ known.
                let d = h.2 q (sym is ∙ known) in (
                  (λ _. beside v k h.0 (Reader (asked_by q m)) h.1 me.1 me.1 u (d.1 high)
                      (ap (λ zs. shift (slot_at k) zs ++ me.1) d.0) h.3 h.4),
                  (λ low. absurd (omega arith)),
                )) is'

      pub fetches_ok : (slots id word k new : ℕ) (me : Me T (View W)) (v : Process W) (g : ReaderNotes T) (cs : List (ℕ × T)) →
          word ≡ word_at k 0 → k < (triples n).cells → k < length v.parts → me.0 ≡ Has (v ∷ []) → of_cell Spent k v.parts ≡ Reader g →
          me.1 ≡ (slot_at k g.slot, g.at_hand.value) ∷ cs → IsRotated v.held (held_slots me.1) → g.has ≡ 1 → g.asked ≡ 1 → new ≡ g.slot →
          MayDecide Plan v k g →
          Allows F slots id me word (λ _. new) (fetches fits rises (step slots word new 0 none) me)
      fetches_ok slots id word k new me v g cs at lk has who is slots_are turned took asked to may =
          let mine : List (ℕ × T) = (slot_at k g.slot, g.at_hand.value) ∷ cs in
          let own : List (ℕ × T) = (g.slot, g.at_hand.value) ∷ [] in
          let here : Allows F slots id (Has (v ∷ []), mine) (word_at k 0) (λ _. new)
          (fetches fits rises (step slots (word_at k 0) new 0 none) (Has (v ∷ []), mine)) =
          (λ s r long seen small.
          let view : W = Reader g in
          let c = r.cells k lk in
          let there = in_cell s r id k v (Reader g) seen is in
          let known = c.0.each_seat v.who (Reader g) there in
          let h = subst (λ (q : ReaderNotes T). (view ≡ Reader q) × (own ≡ (q.slot, q.at_hand.value) ∷ []) × (q.has ≡ 1) × (q.asked ≡ 1)
          × (new ≡ q.slot)) known.0 (refl, refl, took, asked, to) in
          let inside : Inside 3 own = (subst (λ (q : ReaderNotes T). q.slot < 3) (sym known.0) c.0.in_table.small.3, tt) in
          let nn : ℕ = get_or s.words (word_at k 0) 0 in
          let t : ℕ = r.now + 1 in
          let low : c.0.now ≤ r.now = c.1 in
          let then : ℕ → ℕ → Me T W → Type 0 =
          λ z i m. get_swapped fits rises (step 3 0 new 0 none) (Reader g, own) z m × (clock_of m.0 ≡ i) in
          let y = gets_at fits rises o same along (Cell s r k) c.0 t (omega arith) 3 v.who
          (Reader g, own) new known.1 h.0 h.1 h.2 h.3 h.4 in
          let out = subst (λ z. Outcome Rule (Cell s r k) t v.who (Reader g, own) new (then z t)) (found s r k)
          (y.0, y.1, y.2, y.3, y.4, (y.5, y.6)) in
          let goes : (u : W) (d : List (ℕ × T)) → v.clock < t → then nn t (u, d) → Plan v.who v →
          Plan v.who (knows Spent v k u t (held_slots (shift (slot_at k) d ++ cs))) = λ u d lt told plan.
          let e = told.0 g g.at_hand.value refl refl asked in
          let now : e.2 ≡ t = sym (ap clock_of e.6) ∙ told.1 in
          let is_now : u ≡ Reader (answered (fetched g (nn % 4) e.0) e.0 t e.3 e.4) =
          e.6 ∙ ap (λ z. Reader (answered (fetched g (nn % 4) e.0) e.0 z e.3 e.4)) now in
          subst (λ z. Plan v.who (knows Spent v k z t (held_slots (shift (slot_at k) d ++ cs)))) (sym is_now)
          (may (fetched g (nn % 4) e.0) e.0 t e.3 e.4 (held_slots (shift (slot_at k) d ++ cs)) refl refl lt) in
          let a = timed s r id k new v (Reader g) own cs (then nn) seen lk has is inside
          (subst (λ zs. IsRotated v.held (held_slots zs)) slots_are turned)
          out goes in
          (a.0, a.1, a.2, a.3, more nn (a.0, carried_after mine a.1) a.4)) in
          subst (λ (z : ℕ × Me T (View W)). Allows F slots id z.1 z.0 (λ _. new) (fetches fits rises (step slots z.0 new 0 none) z.1))
          (λ j. (sym at j, (sym who j, sym slots_are j))) here where
            more : (m : ℕ) (u : Me T (View W)) → StepTells Spent slot_at k v [] cs (λ t _ z. get_swapped fits rises (step 3 0 new 0 none)
                (Reader g, (g.slot, g.at_hand.value) ∷ []) m z × (clock_of z.0 ≡ t)) 0 u →
                fetches fits rises (step slots (word_at k 0) new 0 none) (Has (v ∷ []), (slot_at k g.slot, g.at_hand.value) ∷ cs) m u
            more m u h k' v' q x' ds w e is' held' asked' =
                let mine : List (ℕ × T) = (slot_at k g.slot, g.at_hand.value) ∷ cs in
                let P : ℕ × Process W → Type 0 = λ z. of_cell Spent z.0 z.1.parts ≡ Reader q → mine ≡ (slot_at z.0 q.slot, x') ∷ ds →
                (y : T) × (t : ℕ) × (number : ℕ) × (writes : Known T) × (m % 4 < 3) × (q.times.clock < t)
                × After z.1 z.0 (Reader (answered (fetched q (m % 4) y) y t number writes)) t ((slot_at z.0 (m % 4), y) ∷ ds) u
                × MayAnswer fits rises q y × HasAnswered q (answered (fetched q (m % 4) y) y t number writes) y
                × AreHeeded q.heard writes number in
                subst P (λ j. (same_place k k' w j, has_one v v' e j)) (λ known is_mine.
                let view : ◌≡◌ {A = W} (Reader g) (Reader q) = sym is ∙ known in
                let both : g ≡ q = reads_one g q view in
                let also : g.at_hand.value ≡ x' = ap (value_of g.at_hand.value) is_mine in
                let d = h.4.0 q x' view (λ j. ((both j).slot, also j) ∷ []) asked' in
                let now : d.2 ≡ h.0 = sym (ap clock_of d.6) ∙ h.4.1 in (
                  d.0,
                  h.0,
                  d.3,
                  d.4,
                  d.1,
                  subst (λ z. q.times.clock < z) now d.5,
                  after v k h.0 h.1 (Reader (answered (fetched q (m % 4) d.0) d.0 h.0 d.3 d.4)) h.2 cs ((slot_at k (m % 4), d.0) ∷ ds) u h.3
                      (d.6 ∙ ap (λ z. Reader (answered (fetched q (m % 4) d.0) d.0 z d.3 d.4)) now)
                      (ap (λ zs. shift (slot_at k) zs ++ cs) d.7 ∙ ap (λ zs. (slot_at k (m % 4), d.0) ∷ tail_of zs) is_mine) h.5 h.6,
                  d.8,
                  subst (λ z. HasAnswered q (answered (fetched q (m % 4) d.0) d.0 z d.3 d.4) d.0) now d.9,
                  d.10,
                )) is' held'
