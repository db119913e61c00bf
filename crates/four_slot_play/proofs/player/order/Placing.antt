-- The places of a side's operations, in order: its operations begin in turn, so the next one of the side has the next number.
use Rattle.std.proofs.Common.{◌≡◌, ℕ, ◌+◌, ◌*◌, ◌<◌, ◌≤◌, Bool, true, false, List, [], ◌∷◌, ◌++◌, length, slice_get, Some, inl, inr, refl}
use Rattle.std.proofs.Common.{sym, subst, ◌∙◌, ap, arith, append-nil}
use Rattle.std.specs.Prelude.{IsTrue, ◌↔◌}
use Rattle.std.proofs.lemmas.Bool.{cases_lt, cases_order}
use Rattle.std.proofs.lemmas.List.{length_push}
use Rattle.std.proofs.lemmas.Option.{same_Some, slice_get_within}
use Rattle.history_core.specs.Schedules.{positions}
use Rattle.history_core.proofs.Places.{get_pushed_cases}
use Rattle.history_core.proofs.Positions.{positions_rise, position_made, position_exists}
use Rattle.four_slot_core.specs.declared.schedule.Turn.{Turn}
use Rattle.four_slot_play.specs.declared.player.steps.Started.{Started}
use Rattle.four_slot_core.specs.Play.{actor}
use Rattle.four_slot_play.specs.inner.Parts.{started, noted, IsPartsOf}
use Rattle.four_slot_play.specs.inner.Weaves.{HasFirst, SidesInTurn, IsPlacesOf}
use Rattle.four_slot_core.proofs.Pushed.{get_within}
use Rattle.four_slot_play.proofs.player.steps.Counts.{same_actor}

-- the operations of a schedule are in turn
pub parts_in_turn : (steps : List ℕ) (parts : List Started) → IsPartsOf steps parts → SidesInTurn parts
parts_in_turn steps parts h = record {
  once = λ turn k p q s t ps qt.
      let e : s ≡ t = same_Some s t (sym (h.each p (started turn k s) ps) ∙ h.each q (started turn k t) qt) in
      slot_with p q (started turn k s) (started turn k t) ps qt e;
  earlier = λ turn j k p s ps lt.
      let here : slice_get (positions 0 (actor turn) steps) (k * 5 + 0) ≡ Some s = h.each p (started turn k s) ps in
      let was =
      position_exists 0 (actor turn) steps (j * 5 + 0) (let m = position_made 0 (actor turn) steps (k * 5 + 0) s here in omega arith) in
      let there = h.all turn j was.0 was.1 in
      let l : was.0 < s = positions_rise 0 (actor turn) steps (j * 5 + 0) (k * 5 + 0) was.0 s was.1 here (omega arith) in
      (there.0, was.0, before there.0 p (started turn j was.0) (started turn k s) there.1 ps l, there.1);
}
  where
    slot_with : (p q : ℕ) (a b : Started) → slice_get parts p ≡ Some a → slice_get parts q ≡ Some b → a.starts ≡ b.starts → p ≡ q
    slot_with p q a b pa qb e = elim (cases_order p q) [
      | inl is ↦ is
      | inr (inl l) ↦ absurd (let r = h.rising p q a b pa qb l in omega arith)
      | inr (inr l) ↦ absurd (let r = h.rising q p b a qb pa l in omega arith)
    ]

    before : (p q : ℕ) (a b : Started) → slice_get parts p ≡ Some a → slice_get parts q ≡ Some b → a.starts < b.starts → p < q
    before p q a b pa qb lt = elim (cases_order p q) [
      | inl is ↦ absurd (let e : a ≡ b = same_Some a b (sym pa ∙ ap (slice_get parts) is ∙ qb) in
          let s : a.starts ≡ b.starts = ap (λ (z : Started). z.starts) e in
          omega arith)
      | inr (inl l) ↦ l
      | inr (inr l) ↦ absurd (let r = h.rising q p b a qb pa l in omega arith)
    ]

-- the places of a side's first operations, among the first n parts
pub record IsPlacesBefore (n : ℕ) (turn : Turn) (count : ℕ) (parts : List Started) (places : List ℕ) : Type 0 where
  pub each : (k p : ℕ) → slice_get places k ≡ Some p → (s : ℕ) × (p < n) × (slice_get parts p ≡ Some (started turn k s))
  pub few : length places ≤ count
  pub all : (k p s : ℕ) → p < n → slice_get parts p ≡ Some (started turn k s) → k < count → k < length places

pub no_places : (turn : Turn) (count : ℕ) (parts : List Started) → IsPlacesBefore 0 turn count parts []
no_places turn count parts = record { each = λ k p h. cc; few = omega arith; all = λ k p s l. absurd (omega arith) }

-- the next operation of the side has the next number
next_number : (n : ℕ) (turn : Turn) (count : ℕ) (parts : List Started) (places : List ℕ) (k s : ℕ) → SidesInTurn parts →
    slice_get parts n ≡ Some (started turn k s) → k < count → IsPlacesBefore n turn count parts places → k ≡ length places
next_number n turn count parts places k s t here less h = elim (cases_order k (length places)) [
  | inl is ↦ is
  | inr (inl l) ↦
      let q = get_within places k l in
      let w = h.each k q.0 q.1 in
      absurd (let e : q.0 ≡ n = t.once turn k q.0 n w.0 s w.2 here in omega (arith, w.1))
  | inr (inr l) ↦
      let w = t.earlier turn (length places) k n s here l in
      absurd (let more = h.all (length places) w.0 w.1 w.2 w.3 (omega arith) in omega arith)
]

place_added : (n : ℕ) (turn : Turn) (count : ℕ) (parts : List Started) (places : List ℕ) (k s : ℕ) →
    slice_get parts n ≡ Some (started turn k s) → k < count → k ≡ length places → IsPlacesBefore n turn count parts places →
    IsPlacesBefore (n + 1) turn count parts (places ++ n ∷ [])
place_added n turn count parts places k s here less is h = record {
  each = λ j p at. elim (get_pushed_cases places n j p at) [
    | inl old ↦ let w = h.each j p old in (w.0, omega (arith, w.1), w.2)
    | inr w ↦
        let jk : j ≡ k = w.0 ∙ sym is in
        (s, omega (arith, w.1), ap (slice_get parts) (sym w.1) ∙ here ∙ ap (λ m. Some (started turn m s)) (sym jk))
  ];
  few = omega (arith, length_push places n);
  all = λ j p t l at small. elim (cases_lt p n) [
    | inl before ↦ let w = h.all j p t before at small in omega (arith, length_push places n)
    | inr le ↦
        let e : p ≡ n = omega arith in
        let same : started turn j t ≡ started turn k s =
        same_Some (started turn j t) (started turn k s) (sym at ∙ ap (slice_get parts) e ∙ here) in
        let jk : j ≡ k = ap (λ (z : Started). z.number) same in
        omega (arith, length_push places n)
  ];
}

pub places_more : (n : ℕ) (turn : Turn) (count : ℕ) (parts : List Started) (places : List ℕ) (part : Started)
    (here : Bool) → SidesInTurn parts →
    slice_get parts n ≡ Some part → (IsTrue here ↔ ((actor part.turn ≡ actor turn) × (part.number < count))) →
    IsPlacesBefore n turn count parts places → IsPlacesBefore (n + 1) turn count parts (places ++ noted here n)
places_more n turn count parts places part true t at is h =
    let w = is.0 refl in
    let mine : part.turn ≡ turn = same_actor part.turn turn w.0 in
    let here : slice_get parts n ≡ Some (started turn part.number part.starts) =
    at ∙ ap (λ u. Some (started u part.number part.starts)) mine in
    place_added n turn count parts places part.number part.starts here w.1
    (next_number n turn count parts places part.number part.starts t here w.1 h) h
places_more n turn count parts places part false t at is h =
    subst (λ all. IsPlacesBefore (n + 1) turn count parts all) (sym (append-nil places)) (record {
      each = λ j p e. let w = h.each j p e in (w.0, omega (arith, w.1), w.2);
      few = h.few;
      all = λ j p s l e small. elim (cases_lt p n) [
        | inl before ↦ h.all j p s before e small
        | inr le ↦
            let pn : p ≡ n = omega arith in
            let same : part ≡ started turn j s = same_Some part (started turn j s) (sym at ∙ ap (slice_get parts) (sym pn) ∙ e) in
            let number : part.number ≡ j = ap (λ (z : Started). z.number) same in
            let no : IsTrue false = is.1 (ap (λ (z : Started). actor z.turn) same, omega arith) in
            cc
      ];
    })

pub places_all : (n : ℕ) (turn : Turn) (count : ℕ) (parts : List Started) (places : List ℕ) → length parts ≤ n →
    IsPlacesBefore n turn count parts places → IsPlacesOf turn count parts places
places_all n turn count parts places le h = record {
  each = λ k p e. let w = h.each k p e in (w.0, w.2);
  few = h.few;
  all = λ k p s e small. h.all k p s (omega (arith, slice_get_within parts p (started turn k s) e)) e small;
}

-- where the side has so many operations, they all have their places
pub places_full : (turn : Turn) (count : ℕ) (parts : List Started) (places : List ℕ) → HasFirst turn count parts →
    IsPlacesOf turn count parts places → length places ≡ count
places_full turn count parts places has h = elim (cases_lt (length places) count) [
  | inl l ↦ let w = has (length places) l in absurd (let more = h.all (length places) w.0 w.1 w.2 l in omega arith)
  | inr le ↦ omega (arith, h.few)
]
