-- The order is woven one entry at a time: an entry that every entry so far goes before is put at the end.
use Rattle.std.proofs.Common.{◌≡◌, ℕ, ◌+◌, ◌-◌, ◌<◌, ◌≤◌, List, [], ◌∷◌, ◌++◌, length, take, drop, get_or, slice_get, Some, zero, suc, ◌⊎◌}
use Rattle.std.proofs.Common.{inl, inr, refl, sym, subst, ◌∙◌, ap, arith, append-nil, append_assoc}
use Rattle.std.proofs.lemmas.Bool.{cases_lt}
use Rattle.std.proofs.lemmas.List.{take_more, length_push, length-drop, get_or-drop}
use Rattle.std.proofs.lemmas.Option.{slice_get_within, slice_get-get_or}
use Rattle.history_core.proofs.Places.{get_pushed, get_last, get_stays, get_pushed_cases}
use Rattle.four_slot_core.specs.declared.schedule.Turn.{Turn}
use Rattle.four_slot_core.specs.declared.schedule.Turn.TheVariants.{Writer, Reader}
use Rattle.four_slot_play.specs.declared.player.run.Numbered.{Numbered}
use Rattle.four_slot_play.specs.declared.player.steps.Started.{Started}
use Rattle.four_slot_play.specs.inner.Parts.{started}
use Rattle.four_slot_play.specs.inner.Weaves.{IsPlacesOf, Entry, entry, GoesBy, Goes, IsAmongBy, IsAmong, IsWoven, list_of, IsWeave}
use Rattle.four_slot_play.specs.inner.Weaves.{IsOrdered}
use Rattle.four_slot_core.proofs.Pushed.{get_within}

module _ {R : Type 0} (answers : List (Numbered R)) where
  -- a write more
  among_write : (i j : ℕ) (turn : Turn) (n : ℕ) → IsAmongBy i j turn n → IsAmongBy (i + 1) j turn n
  among_write i j Writer n h = omega arith
  among_write i j Reader n h = h

  last_write : (i j : ℕ) (turn : Turn) (n : ℕ) → IsAmongBy (i + 1) j turn n → IsAmongBy i j turn n ⊎ (entry Writer i ≡ entry turn n)
  last_write i j Writer n h = elim (cases_lt n i) [ inl l ↦ inl l | inr le ↦ inr (ap (entry Writer) (let e : i ≡ n = omega arith in e)) ]
  last_write i j Reader n h = inl h

  before_write : (i j : ℕ) (turn : Turn) (n : ℕ) → ((l : ℕ) (a : Numbered R) → l < j → slice_get answers l ≡ Some a → a.number ≤ i) →
      IsAmongBy i j turn n → GoesBy answers turn n Writer i
  before_write i j Writer n low h = h
  before_write i j Reader n low h = λ a e. low n a h e

  pub woven_write : (i j : ℕ) (entries : List Entry) → ((l : ℕ) (a : Numbered R) → l < j → slice_get answers l ≡ Some a → a.number ≤ i) →
      IsWoven answers i j entries → IsWoven answers (i + 1) j (entries ++ entry Writer i ∷ [])
  woven_write i j entries low h = record {
    each = λ x e at. elim (get_pushed_cases entries (entry Writer i) x e at) [
      | inl old ↦ among_write i j e.turn e.number (h.each x e old)
      | inr w ↦ subst (λ (z : Entry). IsAmong (i + 1) j z) w.1 (let l : i < i + 1 = omega arith in l)
    ];
    all = λ e is. elim (last_write i j e.turn e.number is) [
      | inl old ↦ let w = h.all e old in (w.0, get_stays entries e (entry Writer i) w.0 w.1)
      | inr same ↦ (length entries, get_last entries (entry Writer i) (length entries) refl ∙ ap Some same)
    ];
    sorted = λ x y a b xa yb lt. elim (get_pushed_cases entries (entry Writer i) y b yb) [
      | inl oldb ↦ elim (get_pushed_cases entries (entry Writer i) x a xa) [
        | inl olda ↦ h.sorted x y a b olda oldb lt
        | inr w ↦ absurd (omega (arith, w.0, slice_get_within entries y b oldb))
      ]
      | inr v ↦ elim (get_pushed_cases entries (entry Writer i) x a xa) [
        | inl olda ↦ subst (λ (z : Entry). Goes answers a z) v.1 (before_write i j a.turn a.number low (h.each x a olda))
        | inr w ↦ absurd (omega (arith, w.0, v.0))
      ]
    ];
  }

  -- a read more
  among_read : (i j : ℕ) (turn : Turn) (n : ℕ) → IsAmongBy i j turn n → IsAmongBy i (j + 1) turn n
  among_read i j Writer n h = h
  among_read i j Reader n h = omega arith

  last_read : (i j : ℕ) (turn : Turn) (n : ℕ) → IsAmongBy i (j + 1) turn n → IsAmongBy i j turn n ⊎ (entry Reader j ≡ entry turn n)
  last_read i j Writer n h = inl h
  last_read i j Reader n h = elim (cases_lt n j) [ inl l ↦ inl l | inr le ↦ inr (ap (entry Reader) (let e : j ≡ n = omega arith in e)) ]

  before_read : (i j : ℕ) (turn : Turn) (n : ℕ) → ((a : Numbered R) → slice_get answers j ≡ Some a → i ≤ a.number) → IsAmongBy i j turn n →
      GoesBy answers turn n Reader j
  before_read i j Writer n high h = λ a e. let le = high a e in omega arith
  before_read i j Reader n high h = h

  pub woven_read : (i j : ℕ) (entries : List Entry) → ((a : Numbered R) → slice_get answers j ≡ Some a → i ≤ a.number) →
      IsWoven answers i j entries → IsWoven answers i (j + 1) (entries ++ entry Reader j ∷ [])
  woven_read i j entries high h = record {
    each = λ x e at. elim (get_pushed_cases entries (entry Reader j) x e at) [
      | inl old ↦ among_read i j e.turn e.number (h.each x e old)
      | inr w ↦ subst (λ (z : Entry). IsAmong i (j + 1) z) w.1 (let l : j < j + 1 = omega arith in l)
    ];
    all = λ e is. elim (last_read i j e.turn e.number is) [
      | inl old ↦ let w = h.all e old in (w.0, get_stays entries e (entry Reader j) w.0 w.1)
      | inr same ↦ (length entries, get_last entries (entry Reader j) (length entries) refl ∙ ap Some same)
    ];
    sorted = λ x y a b xa yb lt. elim (get_pushed_cases entries (entry Reader j) y b yb) [
      | inl oldb ↦ elim (get_pushed_cases entries (entry Reader j) x a xa) [
        | inl olda ↦ h.sorted x y a b olda oldb lt
        | inr w ↦ absurd (omega (arith, w.0, slice_get_within entries y b oldb))
      ]
      | inr v ↦ elim (get_pushed_cases entries (entry Reader j) x a xa) [
        | inl olda ↦ subst (λ (z : Entry). Goes answers a z) v.1 (before_read i j a.turn a.number high (h.each x a olda))
        | inr w ↦ absurd (omega (arith, w.0, v.0))
      ]
    ];
  }

  -- the same with their places
  weave_push : (writes reads : List ℕ) (i j i' j' p : ℕ) (e : Entry) (order : List ℕ) (h : IsWeave writes reads answers i j order) →
      slice_get (list_of writes reads e.turn) e.number ≡ Some p → IsWoven answers i' j' (h.entries ++ e ∷ []) →
      IsWeave writes reads answers i' j' (order ++ p ∷ [])
  weave_push writes reads i j i' j' p e order h at w = record {
    entries = h.entries ++ e ∷ [];
    long = length_push h.entries e ∙ ap (λ n. n + 1) h.long ∙ sym (length_push order p);
    places = λ x z xz. elim (get_pushed_cases h.entries e x z xz) [
      | inl old ↦ get_pushed order p x (λ is.
          let l = slice_get_within h.entries x z old in
          let n = h.long in
          omega arith) ∙ h.places x z old
      | inr v ↦ get_last order p x (v.0 ∙ h.long) ∙ sym at ∙ ap (λ (y : Entry). slice_get (list_of writes reads y.turn) y.number) v.1
    ];
    woven = w;
  }

  pub weave_write : (writes reads : List ℕ) (i j p : ℕ) (order : List ℕ) → slice_get writes i ≡ Some p →
      ((l : ℕ) (a : Numbered R) → l < j → slice_get answers l ≡ Some a → a.number ≤ i) → IsWeave writes reads answers i j order →
      IsWeave writes reads answers (i + 1) j (order ++ p ∷ [])
  weave_write writes reads i j p order at low h =
      weave_push writes reads i j (i + 1) j p (entry Writer i) order h at (woven_write i j h.entries low h.woven)

  pub weave_read : (writes reads : List ℕ) (i j p : ℕ) (order : List ℕ) → slice_get reads j ≡ Some p →
      ((a : Numbered R) → slice_get answers j ≡ Some a → i ≤ a.number) → IsWeave writes reads answers i j order →
      IsWeave writes reads answers i (j + 1) (order ++ p ∷ [])
  weave_read writes reads i j p order at high h =
      weave_push writes reads i j i (j + 1) p (entry Reader j) order h at (woven_read i j h.entries high h.woven)

  -- some writes more
  pub weave_writes : (writes reads : List ℕ) (i j n : ℕ) (order : List ℕ) → i + n ≤ length writes →
      ((l : ℕ) (a : Numbered R) → l < j → slice_get answers l ≡ Some a → a.number ≤ i) → IsWeave writes reads answers i j order →
      IsWeave writes reads answers (i + n) j (order ++ take n (drop i writes))
  weave_writes writes reads i j zero order le low h =
      subst (λ m. IsWeave writes reads answers m j (order ++ [])) (let e : i ≡ i + 0 = omega arith in
      e) (subst (λ o. IsWeave writes reads answers i j o) (sym (append-nil order)) h)
  weave_writes writes reads i j (suc n) order le low h =
      let before = weave_writes writes reads i j n order (omega arith) low h in
      let p : ℕ = get_or writes (i + n) 0 in
      let at : slice_get writes (i + n) ≡ Some p = slice_get-get_or writes (i + n) 0 (omega arith) in
      let next = weave_write writes reads (i + n) j p (order ++ take n (drop i writes))
      at (λ l a lt e. let low_one = low l a lt e in omega arith) before in
      let more : take (n + 1) (drop i writes) ≡ take n (drop i writes) ++ p ∷ [] =
      take_more (drop i writes) n 0 (omega (arith, length-drop i writes))
      ∙ ap (λ q. take n (drop i writes) ++ q ∷ []) (get_or-drop i writes n 0) in
      let is : (order ++ take n (drop i writes)) ++ p ∷ [] ≡ order ++ take (suc n) (drop i writes) =
      append_assoc order (take n (drop i writes)) (p ∷ [])
      ∙ ap (λ o. order ++ o) (sym more ∙ ap (λ m. take m (drop i writes)) (let e : n + 1 ≡ suc n = omega arith in e)) in
      subst (λ m. IsWeave writes reads answers m j (order ++ take (suc n) (drop i writes))) (let e : i + n + 1 ≡ i + suc n = omega arith in
      e) (subst (λ o. IsWeave writes reads answers (i + n + 1) j o) is next)

  pub weave_start : (writes reads : List ℕ) → IsWeave writes reads answers 0 0 []
  weave_start writes reads = record {
    entries = [];
    long = refl;
    places = λ x e h. cc;
    woven = record { each = λ x e h. cc; all = λ e h. none e.turn e.number h; sorted = λ x y a b h. cc };
  }
    where
      none : (turn : Turn) (n : ℕ) → IsAmongBy 0 0 turn n → (x : ℕ) × (slice_get [] x ≡ Some (entry turn n))
      none Writer n h = absurd (omega arith)
      none Reader n h = absurd (omega arith)

  -- the writes up to a read's number, and the read
  pub weave_step : (writes reads : List ℕ) (i j n p : ℕ) (order : List ℕ) → i ≤ n → n ≤ length writes → slice_get reads j ≡ Some p →
      ((l : ℕ) (a : Numbered R) → l < j → slice_get answers l ≡ Some a → a.number ≤ i) →
      ((a : Numbered R) → slice_get answers j ≡ Some a → n ≤ a.number) → IsWeave writes reads answers i j order →
      IsWeave writes reads answers n (j + 1) ((order ++ take (n - i) (drop i writes)) ++ p ∷ [])
  weave_step writes reads i j n p order le within at low high h =
      let more = weave_writes writes reads i j (n - i) order (omega arith) low h in
      weave_read writes reads n j p (order ++ take (n - i) (drop i writes)) at high
      (subst (λ m. IsWeave writes reads answers m j (order ++ take (n - i) (drop i writes))) (let e : i + (n - i) ≡ n = omega arith in
      e) more)

  -- the writes that are left
  pub weave_rest : (writes reads : List ℕ) (i j : ℕ) (order : List ℕ) → i ≤ length writes →
      ((l : ℕ) (a : Numbered R) → l < j → slice_get answers l ≡ Some a → a.number ≤ i) → IsWeave writes reads answers i j order →
      IsWeave writes reads answers (length writes) j (order ++ take (length writes - i) (drop i writes))
  weave_rest writes reads i j order le low h =
      subst (λ m. IsWeave writes reads answers m j (order ++ take (length writes - i) (drop i writes)))
      (let e : i + (length writes - i) ≡ length writes = omega arith in
      e) (weave_writes writes reads i j (length writes - i) order (omega arith) low h)

  -- by their places among the parts
  pub weave_ordered : (parts : List Started) (writes reads order : List ℕ) (count : ℕ) → length writes ≡ count →
      length reads ≡ length answers → IsPlacesOf Writer count parts writes → IsPlacesOf Reader (length answers) parts reads →
      IsWeave writes reads answers (length writes) (length reads) order → IsOrdered parts count answers order
  weave_ordered parts writes reads order count wl rl ws rs h = record {
    entries = h.entries;
    long = h.long;
    places = λ x e at.
        let w = place_in e.turn e.number (h.woven.each x e at) in
        (w.0, w.1, h.places x e at ∙ w.2, w.3);
    woven =
        subst (λ i. IsWoven answers i (length answers) h.entries) wl (subst (λ j. IsWoven answers (length writes) j h.entries) rl h.woven);
  }
    where
      place_in : (turn : Turn) (k : ℕ) → IsAmongBy (length writes) (length reads) turn k →
          (p : ℕ) × (s : ℕ) × (slice_get (list_of writes reads turn) k ≡ Some p) × (slice_get parts p ≡ Some (started turn k s))
      place_in Writer k l = let p = get_within writes k l in let w = ws.each k p.0 p.1 in (p.0, w.0, p.1, w.1)
      place_in Reader k l = let p = get_within reads k l in let w = rs.each k p.0 p.1 in (p.0, w.0, p.1, w.1)
