-- By cases on an entry's wish and reply, and part by part.
use Rattle.std.proofs.Common.{◌≡◌, Bool, refl, ◌∙◌, ap, inl, inr}
use Rattle.history_core.specs.declared.wish.Wish.{Wish}
use Rattle.history_core.specs.declared.wish.Wish.TheVariants.{Write, Read}
use Rattle.cell_contract.specs.declared.family.Family.{Ghosts as FamilyWords}
use Rattle.board_live.specs.declared.record.Posted.{Posted}
use Rattle.board_tasks.specs.declared.lane.Reply.TheVariants.{Written, Seen, Ended}
use Rattle.theorem_uses.specs.Noted.{LogOrdersShow, MadeEntriesShow, NothingTaken, PermitsShow, RanShow, RunLogsShow, ScriptsShow}
use Rattle.theorem_uses.specs.Noted.{TakesShow, WishesShow}

module _ {V F S T : Type 0} (words : FamilyWords F (Posted V) S T) (obeys : V → Bool) where
  pub ran : RanShow words obeys
  ran may_call may_stop board task old new has = (has.of, has.is, has.script, (has.added, has.log, has.calls), has.asked, has.whole)

  pub made : MadeEntriesShow words obeys
  made e was = let is = was.3 in (was.0, was.1, was.2, is.seen, is.of, is.call, is.replies)

pub permits : {S P : Type 0} → PermitsShow S P
permits is_for gate task call has = has

module _ {V : Type 0} where
  no_write : (item : V) → Read ≡ Write item → ⊥
  no_write item e = cc

  the_item : (x y : V) → ◌≡◌ {A = Wish V} (Write x) (Write y) → x ≡ y
  the_item x y e = cc

  no_read : (item : V) → Write item ≡ Read → ⊥
  no_read item e = cc

  pub takes : TakesShow V
  takes limit writes task now last Read (Seen p) h = (λ e. (ap Seen h.0, h.1), λ item e. absurd (no_write item e))
  takes limit writes task now last Read (Written s) h = absurd h
  takes limit writes task now last Read (Ended p) h = absurd h
  takes limit writes task now last (Write x) (Written s) h = (
    λ e. absurd (no_read x e),
    λ item e. inl (s, refl, h.0, h.1, h.2 ∙ ap (λ z. record { stamp = s; item = z }) (the_item x item e)),
  )
  takes limit writes task now last (Write x) (Seen p) h = absurd h
  takes limit writes task now last (Write x) (Ended p) h = (λ e. absurd (no_read x e), λ item e. inr (ap Ended h.0, h.1, h.2))

  pub nothing : NothingTaken V
  nothing limit writes now last h = h

  pub orders : LogOrdersShow V
  orders opening limit logs last h = (h.0, h.1.each, h.1.only, h.1.one)

  pub scripts : ScriptsShow V
  scripts script log own j k e f is = (is.wishes, is.within, is.rising j k e f, is.below j e)

  pub wishes : WishesShow V
  wishes obeys item h = h

  pub runs : RunLogsShow V
  runs opening logs is = (is.width, is.limit, is.steps, is.did, is.run, is.told)
