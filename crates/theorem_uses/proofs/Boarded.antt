-- What a played board says: its two terms have two parts, and the first choices can be of nothing but the opening and of each other.
use Rattle.std.proofs.Common.{◌≡◌, ◌≢◌, ◌⊎◌, ℕ, ◌+◌, ◌<◌, ◌≤◌, zero, suc, true, false, Bool, ◌||◌}
use Rattle.std.proofs.Common.{List, [], ◌∷◌, length, slice_get, Option, None, Some}
use Rattle.std.proofs.Common.{IsSome, is_some, if◌then◌else◌, refl, sym, ◌∙◌, ap, subst, inl, inr, arith}
use Rattle.history_core.specs.declared.history.Op.{Op}
use Rattle.history_core.specs.declared.history.Kind.{Kind}
use Rattle.history_core.specs.declared.history.Kind.TheVariants.{Write, Read, Refused}
use Rattle.history_core.specs.Joined.{order_from, ops_of, terms_from}
use Rattle.history_core.specs.Orders.{is_write, latest, Precedes, times_of}
use Rattle.matrix_core.specs.declared.stamp.Stamp.{Stamp}
use Rattle.matrix_core.specs.Choices.{Choice, ChoosesByKind, IsAtMost, IsEarlier, IsFrom, IsIn}
use Rattle.matrix_core.specs.Stamps.{IsBelow, first_stamp}
use Rattle.matrix_core.specs.declared.schedule.MatrixTerm.{MatrixTerm}
use Rattle.matrix_core.specs.Listings.{is_listed, MayPrecede}
use Rattle.composed_play.specs.BoardReports.{AreBoardParts, board_slots, board_stamps, BoardPart, history_parts, IsBoardPart}
use Rattle.theorem_uses.proofs.Reasoned.{before}
use Rattle.theorem_uses.specs.Composed.{ChoicesShow, EarlierShows, FirstChoiceShows, ListedSlotsShow, OrdersByStampShow, PartsShow}
use Rattle.theorem_uses.specs.Composed.{PlayableShow, RunOfBoardShows, SecondChoiceShows, SlotsOfBoardShow, TwoTermsShow}

apart : true ≡ false → ⊥
apart e = cc

-- what the first choice is made of
at_first : {R : Type 0} (limit : ℕ) (c : Choice R) (kind : Kind) (seen : Stamp) (item opening : R) → c.kind ≡ kind → seen ≡ first_stamp →
    item ≡ opening → ChoosesByKind limit c c.kind seen item → ChoosesByKind limit c kind first_stamp opening
at_first limit c kind seen item opening k s i h =
    subst (λ z. ChoosesByKind limit c kind first_stamp z) i
    (subst (λ z. ChoosesByKind limit c kind z item) s (subst (λ z. ChoosesByKind limit c z seen item) k h))

once_listed : (ends listed : Bool) → listed ≡ true →
    ◌≡◌ {A = ℕ} (if (ends || listed) then 1 else 0) 1
once_listed true listed e = refl
once_listed false true e = refl
once_listed false false e = absurd (apart (sym e))

not_below : (s : Stamp) → IsBelow s s → ⊥
not_below s (inl tag) = omega (arith, tag)
not_below s (inr writer) = let w = writer.1 in omega (arith, w)

from_nothing : (n : ℕ) → 0 + n ≡ n
from_nothing n = omega arith

module _ {R : Type 0} where
  two : (at : ℕ) (opening noise : R) (a b : MatrixTerm R) (parts : List (BoardPart R)) → AreBoardParts at opening noise (a ∷ b ∷ []) parts →
      (p : BoardPart R) × (q : BoardPart R) × (next : R) × (parts ≡ p ∷ q ∷ []) × IsBoardPart at opening noise a p
      × (latest opening p.ops p.order ≡ Some next) × IsBoardPart (at + length a.steps) next noise b q
  two at opening noise a b [] h = absurd h
  two at opening noise a b (p ∷ []) h = absurd h.1.2
  two at opening noise a b (p ∷ q ∷ []) h = (p, q, h.1.0, refl, h.0, h.1.1, h.1.2.0)
  two at opening noise a b (p ∷ q ∷ r ∷ rest) h = absurd h.1.2.1.2

  pub terms : TwoTermsShow R
  terms s r a b e h =
      let t = two 0 s.opening s.noise a b h.parts (subst (λ z. AreBoardParts 0 s.opening s.noise z h.parts) e h.each) in (
        t.0,
        t.1,
        t.2,
        t.4,
        t.5,
        subst (λ z. IsBoardPart z t.2 s.noise b t.1) (from_nothing (length a.steps)) t.6,
        h.ops ∙ ap (λ z. ops_of (history_parts z)) t.3,
        h.stamps ∙ ap board_stamps t.3,
        h.slots ∙ ap board_slots t.3,
        h.terms ∙ ap (λ z. terms_from 0 (history_parts z)) t.3,
        h.order ∙ ap (λ z. order_from 0 (history_parts z)) t.3,
      )

  pub parts : PartsShow R
  parts at opening noise term part h = (
    h.chosen,
    h.slot,
    h.choices,
    h.limit,
    h.played,
    h.run,
    h.slots,
    h.chose,
    h.order,
    h.safe,
    λ i j write read k m row inside column within.
        (h.clear i j write read row inside column within k m, h.fresh i j write read row inside column within m),
  )

  pub run : RunOfBoardShows R
  run at p k t span opening noise ops stamps slot chosen op h there is = (
    h.long,
    λ c. let s = h.sees p k t op there is c in
        (h.told p k t op there is c, h.written p k t op there is c, (s.answers, s.each, s.answered, s.by_kind)),
    λ none. (h.untold p k op there is none, h.unchosen p k op there is none),
    λ end e. h.ended p k end op there is e,
    h.unfinished p op there,
  )

  pub slots : SlotsOfBoardShow R
  slots at i k access span opening noise ops stamps slot chosen h = (h.row_slots i access k, h.column_slots i access k)

  pub listed : ListedSlotsShow R
  listed at p k access span ops slot rows op row h there is has =
      let e = h.each p k op row there is has in (h.long, e.0, e.1 access)

  rising : (s t : Stamp) (a b : Op R) (p q : ℕ) → MayPrecede s a p t b q → IsAtMost s t
  rising s t a b p q (inl below) = inr below
  rising s t a b p q (inr same) = inl same.0

  of_one : (s t : Stamp) (a b : Op R) (p q : ℕ) → MayPrecede s a p t b q → s ≡ t → is_write a.kind ≡ false →
      (is_write b.kind ≡ false) × (p ≤ q)
  of_one s t a b p q (inl below) e k = absurd (not_below s (subst (λ z. IsBelow s z) (sym e) below))
  of_one s t a b p q (inr (same, inl first)) e k = absurd (apart (sym first.0 ∙ k))
  of_one s t a b p q (inr (same, inr alike)) e k = (sym alike.0 ∙ k, alike.1)

  pub by_stamp : OrdersByStampShow R
  by_stamp ops stamps order i j p q a b s t h at there = (
    h.places i p at,
    λ none. h.listed p a None there none,
    λ some write. h.listed p a (Some s) there some ∙ once_listed (is_some a.ends) (is_write a.kind) write,
    λ some ended. h.listed p a (Some s) there some ∙ ap (λ z. if (z || is_write a.kind) then 1 else 0) ended,
    λ less at_j there_j has_s has_t.
        let may = h.sorted i j p q a b s t less (at, there) (at_j, there_j) has_s has_t in
        (rising s t a b p q may, of_one s t a b p q may),
  )

  pub playable : PlayableShow R
  playable terms k step who term h =
      (h.some, h.steps, λ at. let t = h.each k term at in (t.at_least, t.at_most, t.limit_least, t.limit_most, t.steps step who))

  -- with no choice before, what is seen is the opening
  opens : (opening : R) (seen : Stamp) (item : R) → IsFrom opening [] seen item → (seen ≡ first_stamp) × (item ≡ opening)
  opens opening seen item (inl first) = first
  opens opening seen item (inr (c, isin, stamp, has)) = absurd isin

  pub first : FirstChoiceShows R
  first opening limit ops stamps c h =
      let chose = h.law.0 in
      let of = opens opening chose.seen chose.seen_item chose.from in (
        λ k. at_first limit c Read chose.seen chose.seen_item opening k of.0 of.1 chose.chosen,
        λ k. at_first limit c Write chose.seen chose.seen_item opening k of.0 of.1 chose.chosen,
        λ k. at_first limit c Refused chose.seen chose.seen_item opening k of.0 of.1 chose.chosen,
        chose.interval,
        chose.writer,
      )

  -- what was seen isn't below a write's stamp, so it is that write's record
  after_it : (opening : R) (d : Choice R) (seen : Stamp) (item : R) → IsFrom opening (d ∷ []) seen item → IsAtMost d.stamp seen →
      d.stamp.tag ≡ 1 → (seen ≡ d.stamp) × (item ≡ d.item)
  after_it opening d seen item (inl own) most tag = absurd (elim most [
    | inl same ↦ let z = ap (λ (x : Stamp). x.tag) (same ∙ own.0) in omega (arith, z, tag)
    | inr (inl less) ↦ let z = ap (λ (x : Stamp). x.tag) own.0 in omega (arith, z, less, tag)
    | inr (inr less) ↦ let z = ap (λ (x : Stamp). x.tag) own.0 in let w = less.0 in omega (arith, z, w, tag)
  ])
  after_it opening d seen item (inr (c, inl is, stamp, has)) most tag =
      (sym stamp ∙ ap (λ (x : Choice R). x.stamp) is, sym has ∙ ap (λ (x : Choice R). x.item) is)
  after_it opening d seen item (inr (c, inr none, stamp, has)) most tag = absurd none

  pub second : SecondChoiceShows R
  second opening limit ops stamps c d h write read =
      let chose = h.law.0 in
      let past = h.law.1.0 in
      let of = opens opening past.seen past.seen_item past.from in
      let wrote = (at_first limit d Write past.seen past.seen_item opening write of.0 of.1 past.chosen).1 in
      let took = subst (λ z. ChoosesByKind limit c z chose.seen chose.seen_item) read chose.chosen in
      let takes : IsAtMost d.stamp chose.seen → (c.stamp ≡ d.stamp) × (c.item ≡ d.item) = λ most.
      let it = after_it opening d chose.seen chose.seen_item chose.from most (ap (λ (x : Stamp). x.tag) wrote) in
      (took.0 ∙ it.0, took.1 ∙ it.1) in (
        λ same. takes (chose.own d (inl refl) same),
        λ earlier. takes (chose.earlier d (inl refl) earlier),
        chose.not_later d (inl refl),
        wrote,
      )

  -- a choice of two is the one or the other
  either : (c d e : Choice R) (p : ℕ) → IsIn e (c ∷ d ∷ []) → e.place ≡ p → (c.place ≡ p) ⊎ (d.place ≡ p)
  either c d e p (inl is) at = inl (ap (λ (z : Choice R). z.place) (sym is) ∙ at)
  either c d e p (inr (inl is)) at = inr (ap (λ (z : Choice R). z.place) (sym is) ∙ at)
  either c d e p (inr (inr none)) at = absurd none

  pub choices : ChoicesShow R
  choices opening limit p ops stamps c d h =
      let of = h.each c (inl refl) in (
        (of.op, of.there, of.reported, of.actor, of.same_kind, of.written, of.ended),
        λ s at. let e = h.reported p s at in either c d e.0 p e.1 e.2,
        λ end op there ended. let e = h.finished p end op there ended in either c d e.0 p e.1 e.2,
        h.once c d (inl refl) (inr (inl refl)),
      )

  pub earlier : EarlierShows R
  earlier ops c d h = let b = before h.0 h.1 h.4 in (h.0, h.1, b.0, h.2, h.3, b.1, b.2)
