-- With few calls the times leave one number to each read, and so one record.
use Rattle.std.proofs.Common.{◌≡◌, ◌≢◌, ℕ, zero, suc, ◌+◌, ◌<◌, ◌≤◌, List, [], ◌∷◌, ◌++◌, length, slice_get, Option, None, Some, All}
use Rattle.std.proofs.Common.{refl, sym, ◌∙◌, ap, subst, ◌⊎◌, inl, inr, arith}
use Rattle.std.proofs.lemmas.List.{length-append}
use Rattle.std.proofs.lemmas.List.Elements.{All-get_or}
use Rattle.std.proofs.lemmas.Option.{get_or_from_slice_get, none-some, same_Some, slice_get_within}
use Rattle.history_core.specs.declared.history.Op.{Op}
use Rattle.cell_contract.specs.declared.times.Times.{Times}
use Rattle.cell_contract.specs.declared.times.Known.{Known}
use Rattle.cell_contract.specs.Intervals.{AreAtomic, At, HaveEnded, IsBeginning, IsNextAnswer, IsNextCall}
use Rattle.cell_contract.specs.Running.{IsAnswer, Settled}
use Rattle.theorem_uses.specs.Cells.{AnswersAKnownWrite, AreCounted, AreInTheHistory, GoInTurn, NeverGoesBack, ObeysTheLaw, one_call}
use Rattle.theorem_uses.specs.Cells.{ReadsNoOlder, ReadsTheOpening, ReadsTheWrite, TakesItsTime, two_calls}

one : {A : Type 0} (xs : List A) → 1 ≡ length xs → (x : A) × (xs ≡ x ∷ [])
one [] e = absurd (omega (arith, e))
one (x ∷ []) e = (x, refl)
one (x ∷ y ∷ xs) e = absurd (omega (arith, e))

two : {A : Type 0} (xs : List A) → length xs ≡ 2 → (x : A) × (y : A) × (xs ≡ x ∷ y ∷ [])
two [] e = absurd (omega (arith, e))
two (x ∷ []) e = absurd (omega (arith, e))
two (x ∷ y ∷ []) e = (x, y, refl)
two (x ∷ y ∷ z ∷ xs) e = absurd (omega (arith, e))

-- one answer and its number
record OneRead {T : Type 0} (answers : List T) (numbers : List ℕ) : Type 0 where
  pub answer : T
  pub number : ℕ
  pub is : answers ≡ answer ∷ []
  pub numbered : numbers ≡ number ∷ []

module _ {T : Type 0} (opening x : T) where
  -- the record with this number, where x alone was written
  second : (n : ℕ) (y : T) → 0 < n → slice_get (opening ∷ x ∷ []) n ≡ Some y → x ≡ y
  second zero y l e = absurd (omega arith)
  second (suc zero) y l e = same_Some x y e
  second (suc (suc n)) y l e = absurd (none-some y e)

  first : (n : ℕ) (y : T) → (n ≢ 1) → slice_get (opening ∷ x ∷ []) n ≡ Some y → opening ≡ y
  first zero y l e = same_Some opening y e
  first (suc zero) y l e = absurd (l refl)
  first (suc (suc n)) y l e = absurd (none-some y e)

  above : (n : ℕ) → opening ≢ x → slice_get (opening ∷ x ∷ []) n ≡ Some x → 0 < n
  above zero ne e = absurd (ne (same_Some opening x e))
  above (suc n) ne e = omega arith

  module _ (answers : List T) (numbers : List ℕ) (begin end : ℕ) (writes : Times)
      (atomic : AreAtomic opening (x ∷ []) writes answers numbers (one_call begin end)) where
    read_once : OneRead answers numbers
    read_once =
        let a = one answers atomic.reads_counted.0 in
        let n = one numbers (atomic.reads_counted.0 ∙ sym atomic.regular.numbered) in
        record { answer = a.0; number = n.0; is = a.1; numbered = n.1 }

  pub after_it : (answers : List T) (numbers : List ℕ) → AreAtomic opening (x ∷ []) (one_call 1 2) answers numbers (one_call 3 4) →
      answers ≡ x ∷ []
  after_it answers numbers atomic =
      let r = read_once answers numbers 3 4 (one_call 1 2) atomic in
      let at : At numbers 0 r.number = ap (λ ns. slice_get ns 0) r.numbered in
      let is : slice_get answers 0 ≡ Some r.answer = ap (λ z. slice_get z 0) r.is in
      let late : 0 < r.number = (atomic.regular.read_of 0 r.number at).late 0 (let l : 2 < 3 = omega arith in l) in
      r.is ∙ ap (λ z. z ∷ []) (sym (second r.number r.answer late (atomic.regular.source 0 r.number r.answer at is)))

  pub before_it : (answers : List T) (numbers : List ℕ) → AreAtomic opening (x ∷ []) (one_call 5 6) answers numbers (one_call 3 4) →
      answers ≡ opening ∷ []
  before_it answers numbers atomic =
      let r = read_once answers numbers 3 4 (one_call 5 6) atomic in
      let at : At numbers 0 r.number = ap (λ ns. slice_get ns 0) r.numbered in
      let is : slice_get answers 0 ≡ Some r.answer = ap (λ z. slice_get z 0) r.is in
      let other : r.number ≢ 1 = λ e. no_earlier ((atomic.regular.read_of 0 r.number at).begun 0 e) in
      r.is ∙ ap (λ z. z ∷ []) (sym (first r.number r.answer other (atomic.regular.source 0 r.number r.answer at is)))
    where
      no_earlier : 5 < 4 → ⊥
      no_earlier l = omega arith

  pub no_older : (y : T) (numbers : List ℕ) → opening ≢ x →
      AreAtomic opening (x ∷ []) (one_call 1 9) (x ∷ y ∷ []) numbers (two_calls 2 3 4 5) → y ≡ x
  no_older y numbers ne atomic =
      let n = two numbers atomic.regular.numbered in
      let a : At numbers 0 n.0 = ap (λ ns. slice_get ns 0) n.2 in
      let b : At numbers 1 n.1 = ap (λ ns. slice_get ns 1) n.2 in
      let some = above n.0 ne (atomic.regular.source 0 n.0 x a refl) in
      let rises = atomic.rising 0 1 n.0 n.1 a b (omega arith) in
      sym (second n.1 y (omega (arith, some, rises)) (atomic.regular.source 1 n.1 y b refl))

goes_on : {A : Type 0} (xs ys : List A) (k : ℕ) (x : A) → slice_get xs k ≡ Some x → slice_get (xs ++ ys) k ≡ Some x
goes_on [] ys k x e = absurd (none-some x e)
goes_on (z ∷ xs) ys zero x e = e
goes_on (z ∷ xs) ys (suc k) x e = goes_on xs ys k x e

pub begins_it : {A : Type 0} (xs ys : List A) → IsBeginning xs ys → (k : ℕ) (x : A) → slice_get xs k ≡ Some x → slice_get ys k ≡ Some x
begins_it xs ys h k x e = subst (λ z. slice_get z k ≡ Some x) (sym h.1) (goes_on xs h.0 k x e)

last_at : (xs : List ℕ) (x b : ℕ) → At (xs ++ x ∷ []) (length xs) b → x ≡ b
last_at [] x b e = same_Some x b e
last_at (z ∷ xs) x b e = last_at xs x b e

module _ {T : Type 0} where
  pub reads_the_write : ReadsTheWrite T
  reads_the_write opening x answers numbers atomic = after_it opening x answers numbers atomic

  pub reads_the_opening : ReadsTheOpening T
  reads_the_opening opening x answers numbers atomic = before_it opening x answers numbers atomic

  pub reads_no_older : ReadsNoOlder T
  reads_no_older opening x y numbers ne atomic = no_older opening x y numbers ne atomic

  pub in_turn : GoInTurn T
  in_turn opening written writes answers numbers reads k b e next atomic = (
    λ x y. (atomic.writes_in_turn.forwards k b e x y, λ z. atomic.writes_in_turn.follows k e next y z),
    λ x y. (atomic.reads_in_turn.forwards k b e x y, λ z. atomic.reads_in_turn.follows k e next y z),
  )

  pub counted : AreCounted T
  counted opening written writes answers numbers reads atomic ended = ended ∙ atomic.writes_begun

  pub in_history : AreInTheHistory T
  in_history written writes answers numbers reads ops number k x h = (
    λ e.
        let w = h.all_writes k (slice_get_within written k x e) in
        (w.0, w.1, w.2, w.3.kind, w.3.item ∙ e, w.3.starts, w.3.ends, w.4),
    λ e.
        let r = h.all_reads k (slice_get_within answers k x e) in
        (r.0, r.1, r.2, r.3.kind, r.3.item ∙ e, r.3.starts, r.3.ends),
  )

  pub goes_not_back : NeverGoesBack T
  goes_not_back a b (inl h) = h.0
  goes_not_back a b (inr (inl h)) = back h.1
    where
      back : Settled (b ∷ []) (a ∷ []) → a ≡ b
      back (inl g) = sym g.0
      back (inr g) = absurd g
  goes_not_back a b (inr (inr g)) = absurd g

  source : (opening : T) (items : List T) (n : ℕ) (x : T) → slice_get (opening ∷ items) n ≡ Some x →
      (x ≡ opening) ⊎ ((k : ℕ) × (slice_get items k ≡ Some x))
  source opening items zero x e = inl (sym (same_Some opening x e))
  source opening items (suc k) x e = inr (k, e)

  pub knows : AnswersAKnownWrite T
  knows opening old new before after answers reads answer h = (
    source opening new.items h.number answer h.source,
    begins_it old.items new.items h.known.items,
    begins_it old.times.begins new.times.begins h.known.begins,
    begins_it old.times.ends new.times.ends h.known.ends,
    sym h.atomic.regular.numbered ∙ ap length h.numbers ∙ length-append before (h.number ∷ []),
  )

  pub obeys : (fits : T → Type 0) (rises : T → T → Type 0) → ObeysTheLaw fits rises
  obeys fits rises opening answers told k x answer h e = (
    h.0,
    h.1,
    h.2,
    subst (λ z. rises z answer) (get_or_from_slice_get told k x x e)
        (All-get_or (λ t. rises t answer) told k x (slice_get_within told k x e) h.3),
  )

pub takes_time : TakesItsTime
takes_time old new h =
    let a = h.after in
    let f = h.forwards in
    let c = h.clock in (
      ap length h.begins ∙ length-append old.begins (h.begin ∷ []),
      ap length h.ends ∙ length-append old.ends (h.end ∷ []),
      omega (arith, a, f, c),
      λ b e. let z = last_at old.begins h.begin b (ap (λ z. slice_get z (length old.begins)) (sym h.begins) ∙ e) in
          omega (arith, a, z),
    )
