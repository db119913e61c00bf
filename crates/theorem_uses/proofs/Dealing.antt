-- Each is a part of its definition, or told by its case.
use Rattle.std.proofs.Common.{◌≡◌, Bool, ℕ, ◌+◌, [], Some, slice_get, refl, subst, arith}
use Rattle.history_core.specs.Others.{other}
use Rattle.cell_contract.specs.Rows.{OneByOne}
use Rattle.cell_contract.specs.Rows as rows
use Rattle.cell_contract.specs.declared.family.Family.{Ghosts as FamilyWords}
use Rattle.board_history.specs.OneRegister.{AreOfOne, Takes}
use Rattle.board_live.specs.Deals.{IsNew}
use Rattle.board_live.specs.declared.record.Posted.{Posted}
use Rattle.theorem_uses.specs.Ends.{IsFresh}
use Rattle.theorem_uses.specs.Dealt.{NewBoardsShow, OneOrderShows, OneRegisterShows, OpeningsShow, ReadsFromShow, RowsShow, SourcesShow}
use Rattle.theorem_uses.specs.Dealt.{StepsRise, StepsShow, TimesShow, UnusedShow, WritesToShow}

module _ {V F S T : Type 0} (words : FamilyWords F (Posted V) S T) (obeys : V → Bool) where
  pub boards : NewBoardsShow words obeys
  boards n limit first board passes i p is = (
    is.size.0,
    is.size.1,
    is.count.0,
    is.count.1,
    is.limited,
    is.within.0,
    is.within.1,
    is.opened,
    λ at. fresh is at,
  )
    where
      fresh : IsNew words obeys n limit first board passes → slice_get passes i ≡ Some p →
          IsFresh words obeys board i p × (p.own ≡ first)
      fresh is at = let e = is.each i p at in (record { of = e.0; who = e.1; none = e.3; told = is.told i p at }, e.2)

  pub opens : OpeningsShow words obeys
  opens n limit opening r = (
    λ h. h,
    λ h low high. h (low, high),
    λ h. (h.0, h.1, λ low high. h.2 (low, high)),
    λ h. h,
    λ h. h,
  )

  pub writes_to : WritesToShow words obeys
  writes_to family item to j old new is =
      (is.own.0, is.own.1, is.access, is.written, is.others.0 j, is.others.1 j, is.tags.0, is.tags.1)

  pub reads_from : ReadsFromShow words obeys
  reads_from family opening from j old new before after is =
      (is.own.0, is.own.1, is.access, (is.answer, is.read, is.may, is.saw), is.others.0 j, is.others.1 j, is.tags.0, is.tags.1)

pub steps : StepsShow
steps width clock clock' times times' old new is =
    (is.steps, is.first, is.long, is.rising, is.made, is.first_is, is.last_is, is.begins, is.ends)

pub rise : StepsRise
rise clock t u is = (is.0, is.1.0)

none : (process old new n : ℕ) → n ≡ 0 → OneByOne (λ j a b. b ≡ a + j) process old n new → new ≡ old
none process old new n e rows.no_call = refl
none process old new n e (rows.one_more count now last before call) = absurd (omega (arith, e))

more : (process old new count n : ℕ) → n ≡ count + 1 → OneByOne (λ j a b. b ≡ a + j) process old n new →
    (now : ℕ) × OneByOne (λ j a b. b ≡ a + j) process old count now × (new ≡ now + other process count)
more process old new count n e rows.no_call = absurd (omega (arith, e))
more process old new count n e (rows.one_more c now last before call) =
    let same : c ≡ count = omega (arith, e) in (
      now,
      subst (λ z. OneByOne (λ j a b. b ≡ a + j) process old z now) same before,
      subst (λ z. new ≡ now + other process z) same call,
    )

pub all_rows : RowsShow
all_rows process old new count = (none process old new 0 refl, more process old new count (count + 1) refl)

pub known_times : TimesShow
known_times s old new begins ends time n k t = (
  λ by. (by.begun k t, by.ended k t),
  λ late. late k t,
  λ begun. begun k refl,
  λ heard. (heard.begins, heard.ends, heard.later, heard.heard),
)

module _ {V : Type 0} where
  pub unused : UnusedShow V
  unused clock j times writes reads said found is = (is.0, is.1, is.2 j, is.3 j, is.4, is.5)

  pub sources : SourcesShow V
  sources n first did c from = from

  pub register : OneRegisterShows V
  register limit writes now last m = (
    λ h. h,
    λ h. (
      λ e. subst (λ k. Takes limit m.who now writes k m.call.chosen (λ held count. AreOfOne limit held count last [])) e h,
      λ e. subst (λ k. Takes limit m.who now writes k m.call.chosen (λ held count. AreOfOne limit held count last [])) e h,
      λ e. subst (λ k. Takes limit m.who now writes k m.call.chosen (λ held count. AreOfOne limit held count last [])) e h,
    ),
  )

  pub order : OneOrderShows V
  order n limit first last did all x y a b i k c is =
      (is.each x a, is.all i k c, is.in_turn x y a b, is.keeps x y a b, is.one)
