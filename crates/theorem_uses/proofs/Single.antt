-- One call of a process and one write of a register leave one value to each list.
use Rattle.std.proofs.Common.{◌≡◌, ℕ, zero, suc, ◌+◌, ◌<◌, ◌≤◌, true, false, List, [], ◌∷◌, length, slice_get, Some, refl, sym, ◌∙◌, ap}
use Rattle.std.proofs.Common.{subst, arith}
use Rattle.std.proofs.lemmas.Option.{none-some, same_Some}
use Rattle.history_core.specs.declared.history.Kind.{Kind}
use Rattle.matrix_core.specs.declared.stamp.Stamped.{Stamped}
use Rattle.matrix_core.specs.Choices.{ChoosesByKind}
use Rattle.matrix_core.specs.Stamps.{greater, greatest}
use Rattle.board_history.specs.BoardRuns.{IsRegister}
use Rattle.theorem_uses.specs.Runs.{answered_once, called, RegisterShows, RunsShow, SilentCallShows, ToldCallShows, written_once}

-- a list of this length has these elements
single : {A : Type 0} (xs : List A) (x : A) → length xs ≡ 1 → slice_get xs 0 ≡ Some x → xs ≡ x ∷ []
single [] x l e = absurd (none-some x e)
single (y ∷ []) x l e = ap (λ z. z ∷ []) (same_Some y x e)
single (y ∷ z ∷ xs) x l e = absurd (omega (arith, l))

pair : {A : Type 0} (xs : List A) (x y : A) → length xs ≡ 2 → slice_get xs 0 ≡ Some x → slice_get xs 1 ≡ Some y → xs ≡ x ∷ y ∷ []
pair [] x y l e f = absurd (none-some x e)
pair (a ∷ []) x y l e f = absurd (none-some y f)
pair (a ∷ b ∷ []) x y l e f = ap (λ z. z ∷ b ∷ []) (same_Some a x e) ∙ ap (λ z. x ∷ z ∷ []) (same_Some b y f)
pair (a ∷ b ∷ c ∷ xs) x y l e f = absurd (omega (arith, l))

one_of : {A : Type 0} (xs : List A) → length xs ≡ 1 → (x : A) × (xs ≡ x ∷ [])
one_of [] l = absurd (omega (arith, l))
one_of (x ∷ []) l = (x, refl)
one_of (x ∷ y ∷ xs) l = absurd (omega (arith, l))

one_less : {A : Type 0} (xs : List A) → length xs + 1 ≡ 2 → length xs ≡ 1
one_less xs l = omega (arith, l)

module _ {V : Type 0} where
  pub told : ToldCallShows V
  told limit b e kind first seen chosen times writes reads p =
      let c = called b e kind seen chosen true in
      let begun : slice_get times 0 ≡ Some b = p.begun 0 c refl in
      let ended : slice_get times 1 ≡ Some e = p.ended 0 c refl in
      let r = p.reads 0 (omega arith) in
      let w = p.writes 0 (omega arith) in
      let s = p.sees 0 c refl in
      let a = one_of s.answers (one_less s.answers s.each) in
      let answer : slice_get (reads 1).items 0 ≡ Some a.0 = s.answered 0 a.0 (ap (λ z. slice_get z 0) a.1) in
      let chose = p.chooses 0 0 c refl in (
        pair times b e p.long begun ended,
        single (reads 1).begins b r.all.0 (r.begun 0 (omega arith) ∙ begun),
        single (reads 1).ends b r.all.1 (r.ended 0 (omega arith) ∙ begun),
        single (writes 1).begins e w.all.0 (w.begun 0 c refl refl ∙ ended),
        single (writes 1).ends e w.all.1 (w.ended 0 c refl refl ∙ ended),
        p.written 0 (omega arith),
        (a.0, single (reads 1).items a.0 (p.answered 0 (omega arith)) answer, s.greatest ∙ ap (greatest first) a.1),
        λ k. chosen_by k chose,
        λ k. chosen_by k chose,
        λ k. chosen_by k chose,
      )
    where
      chosen_by : {one other : Kind} → one ≡ other →
          ChoosesByKind limit (record { place = 0; who = 0; kind = kind; stamp = chosen.stamp; item = chosen.item })
          one seen.stamp seen.item →
          ChoosesByKind limit (record { place = 0; who = 0; kind = kind; stamp = chosen.stamp; item = chosen.item })
          other seen.stamp seen.item
      chosen_by e h = subst (λ z. ChoosesByKind limit (record { place = 0; who = 0; kind = kind; stamp = chosen.stamp; item = chosen.item })
          z seen.stamp seen.item) e h

  pub silent : SilentCallShows V
  silent limit b e kind first seen chosen times writes reads p =
      let c = called b e kind seen chosen false in
      let begun : slice_get times 0 ≡ Some b = p.begun 0 c refl in
      let ended : slice_get times 0 ≡ Some e = p.ended 0 c refl in (
        single times b p.long begun,
        sym (same_Some b e (sym begun ∙ ended)),
        p.written 0 (omega arith),
        p.silent 0 c refl refl refl,
      )

  second : (first x y : Stamped V) (n : ℕ) → 0 < n → slice_get (first ∷ x ∷ []) n ≡ Some y → y ≡ x
  second first x y zero l e = absurd (omega arith)
  second first x y (suc zero) l e = sym (same_Some x y e)
  second first x y (suc (suc n)) l e = absurd (none-some y e)

  none_of : (first x y : Stamped V) (n : ℕ) → (n ≡ 1 → ⊥) → slice_get (first ∷ x ∷ []) n ≡ Some y → y ≡ first
  none_of first x y zero l e = sym (same_Some first y e)
  none_of first x y (suc zero) l e = absurd (l refl)
  none_of first x y (suc (suc n)) l e = absurd (none-some y e)

  pub register : RegisterShows V
  register first x y numbers = (after, before)
    where
      after : IsRegister first (written_once x 1 2) (answered_once y numbers 3 4) → y ≡ x
      after h =
          let n = one_of numbers h.numbered in
          let at : slice_get numbers 0 ≡ Some n.0 = ap (λ z. slice_get z 0) n.1 in
          second first x y n.0 ((h.read_of 0 n.0 at).late 0 (let l : 2 < 3 = omega arith in l)) (h.source 0 n.0 y at refl)

      no_earlier : 5 < 4 → ⊥
      no_earlier l = omega arith

      before : IsRegister first (written_once x 5 6) (answered_once y numbers 3 4) → y ≡ first
      before h =
          let n = one_of numbers h.numbered in
          let at : slice_get numbers 0 ≡ Some n.0 = ap (λ z. slice_get z 0) n.1 in
          none_of first x y n.0 (λ e. no_earlier ((h.read_of 0 n.0 at).begun 0 e)) (h.source 0 n.0 y at refl)

  pub run : RunsShow V
  run width n limit first steps did h = (
    h.size.0,
    h.size.1,
    h.size.2,
    h.within,
    h.scheduled,
    λ i l. (h.each i l).long,
    λ i j l m ne. (h.registers i j l m ne).numbered,
  )
